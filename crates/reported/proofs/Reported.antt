-- The claims of Planned.antt. Assumes nothing.
use mathlib.Core.Path.{◌≡◌, refl, sym, ap, subst, ◌∙◌}
use mathlib.Core.Bool.{false, cond}
use mathlib.Core.List.{List, [], ◌∷◌, ◌++◌, append_assoc}
use Prim.Native.Nat.{ℕ, ◌-◌, ◌*◌, ◌≤◌, ◌<◌}
use native.Mathlib.Omega.{arith}
use lib.Dec.{eqb}
use lib.ListN.{get_or}
use borrow.Author.Tests.{le-ltb}
use Rattle.book.specs.Book.{Entry}
use Rattle.book.specs.Level.{level_at, highs}
use Rattle.machine.specs.Board.{timer_at}
use Rattle.machine.specs.Step.{board_after}
use Rattle.accuracy.specs.Claim.{Pilot, Steady, WithinBound, board₁, recorded, period_of, high_of}
use Rattle.accuracy.proofs.Aim.{due}
use Rattle.accuracy.proofs.Levels.{Upward}
use Rattle.accuracy.proofs.Accurate.{accurate, in_order_lem, pin-is}
use Rattle.shift.specs.Shift.{Shift, high_in, cycle_before, misplaced, out_of_order, number_of, Figures, figures, figures_at}
use Rattle.shift.proofs.Sources.{number-bare, report-bare}
use Rattle.reported.specs.Planned.{entries_after, Planned, ReportClaim, OrderClaim, OnlyOf, ServedClaim}

-- the report's high cycles are demand 3's
same-high : (π : Pilot) (s : Shift) → Planned π s → high_in s (entries_after π) π.pin ≡ highs (recorded π) s.from (s.to - s.from)
same-high π s p = ap (λ (l : ℕ). highs (level_at π.pin (entries_after π) l) s.from (s.to - s.from)) p.level

pub reported : ReportClaim
reported π st s p number high lent left r z =
    let q = report-bare s (entries_after π) number high lent left r in
    let f : figures_at left π.pin ≡ figures s (entries_after π) π.pin = q.each (sym q.answered ∙ z) π.pin (pin-is π st) in
    let h : get_or left (3 * π.pin) 0 ≡ highs (recorded π) s.from (s.to - s.from) = ap (λ (x : Figures). x.high) f ∙ same-high π s p in
    subst (λ (n : ℕ). WithinBound n (s.to - s.from) (period_of (board₁ π) π.timer) (high_of (board₁ π) π.timer π.ch)) (sym h)
    (accurate π st s.from (s.to - s.from) p.window)

-- ---- the order

upward-split : (pin c : ℕ) (before : List Entry) (e : Entry) (rest : List Entry) (d : ℕ) → Upward pin c (before ++ (e ∷ rest)) d → e.pin ≡ pin
    → (cycle_before pin before c ≤ e.cycle) × (e.level ≤ 1)
unfolding Upward cycle_before
upward-split pin c [] e rest d h x = h.0 x
upward-split pin c (b ∷ before) e rest d h x = upward-split pin (cond (eqb b.pin pin) b.cycle c) before e rest d h.1 x

pub orderly : OrderClaim
orderly π st before e rest split x =
    let d : ℕ = due (timer_at (board_after (board₁ π) π.after) π.timer) in
    let u : Upward π.pin 0 (before ++ (e ∷ rest)) d = subst (λ (l : List Entry). Upward π.pin 0 l d) split (in_order_lem π st) in
    let o = upward-split π.pin 0 before e rest d u x in
    let pin : e.pin < 128 = subst (λ (q : ℕ). q < 128) (sym x) (pin-is π st) in
    let past : cycle_before e.pin before 0 ≤ e.cycle = subst (λ (q : ℕ). cycle_before q before 0 ≤ e.cycle) (sym x) o.0 in
    rw (le-ltb 127 e.pin (omega arith), le-ltb 1 e.level o.1, le-ltb e.cycle (cycle_before e.pin before 0) past)

-- ---- the number

-- entries of one pin, each in order behind those before it
only-order : (pin : ℕ) (es : List Entry) → OnlyOf pin es → (all : List Entry)
    → ((before : List Entry) (e : Entry) (rest : List Entry) → all ≡ before ++ (e ∷ rest) → e.pin ≡ pin → misplaced before e ≡ false)
    → (before : List Entry) → all ≡ before ++ es → out_of_order before es ≡ false
unfolding OnlyOf out_of_order
only-order pin [] o all h before k = refl
only-order pin (e ∷ es) o all h before k =
    rw (h before e es k o.0) (only-order pin es o.1 all h (before ++ (e ∷ [])) (k ∙ sym (append_assoc before (e ∷ []) es)))

with-sources : (π : Pilot) → Steady π → OnlyOf π.pin (entries_after π) → (s : Shift) → s.from ≤ s.to → number_of s (entries_after π) ≡ 0
unfolding number_of
with-sources π st only s le =
    rw (le-ltb s.to s.from le, only-order π.pin (entries_after π) only (entries_after π) (orderly π st) [] refl)

pub served : ServedClaim
served π st only s le = number-bare s (entries_after π) ∙ with-sources π st only s le
