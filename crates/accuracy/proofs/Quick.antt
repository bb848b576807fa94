-- A delivery of few events, computed with few: 100,001 is then never counted down. Assumes nothing.
use Prim.Native.Nat.{ℕ, zero, suc, ◌+◌, ◌-◌}
use mathlib.Core.Path.{◌≡◌, refl, sym, ap, ◌∙◌}
use mathlib.Core.Bool.{Bool, true, false, cond, not, ◌&&◌, ◌||◌}
use mathlib.Core.List.{List, [], ◌∷◌, ◌++◌, append_assoc, append-nil}
use native.Mathlib.Nat.{zero-add, suc-add}
use native.Mathlib.Omega.{arith}
use lib.Dec.{eqb, ltb}
use lib.ListN.{length}
use borrow.Author.Tests.{eqb-true, not-true}
use Rattle.tim.specs.declared.Timer.{Timer}
use Rattle.tim.specs.Next.{next_event}
use Rattle.book.specs.Book.{Entry}
use Rattle.machine.specs.Board.{Board, Pads, timer_at, with_last}
use Rattle.machine.specs.Deliver.{divider_of, Run, stop, after_turn, due_by, turn_of, delivered, after_delivery}
use Rattle.machine.specs.Deliver as D
use Rattle.machine.specs.Call.{Call, deliver, Outcome, is_refusal}
use Rattle.machine.specs.Step.{absent, cycle_astray, delivered_to, step, run, board_after}
use Rattle.std.specs.Cmp.{first_so, second_so}
use Rattle.accuracy.specs.Claim.{steady_call, steady, delivered_at, covered, joined}

-- with more events than it has, a delivery that was answered 0 goes as far
fuel : (n k now div left : ℕ) (t : Timer) (p : Pads) → (D.handled n now div left t p).number ≡ 0 → D.handled (n + k) now div left t p ≡ D.handled n now div left t p
unfolding D.handled
fuel zero zero now div left t p e = refl
fuel zero (suc k) now div left t p e = rw zero-add (go (due_by (next_event t) now) refl e)
  where
    go : (b : Bool) → due_by (next_event t) now ≡ b → (stop t p (cond b 8 0)).number ≡ 0 → D.handled (suc k) now div left t p ≡ stop t p (cond b 8 0)
    go true q z = absurd (omega arith)
    go false q z = rw q
fuel (suc n) k now div left t p e =
    let s = turn_of t p (next_event t) div in
    let left₁ = left - length s.entries in
    rw suc-add
    (go s.entries (due_by (next_event t) now) (ltb left 4) (D.handled (n + k) now div left₁ s.timer s.pads) (D.handled n now div left₁ s.timer s.pads) (fuel n k now div left₁ s.timer s.pads) e)
  where
    go : (es : List Entry) (d l : Bool) (x y : Run) → (y.number ≡ 0 → x ≡ y) → (cond d (cond l (stop t p 8) (after_turn es y)) (stop t p 0)).number ≡ 0
        → cond d (cond l (stop t p 8) (after_turn es x)) (stop t p 0) ≡ cond d (cond l (stop t p 8) (after_turn es y)) (stop t p 0)
    go es true true x y ih z = refl
    go es true false x y ih z = ap (after_turn es) (ih z)
    go es false l x y ih z = refl

-- ---- a delivery to timer 0, with 100 places

abbrev pub delivery : ℕ → Call
delivery cycle = deliver 0 cycle 100

-- by at most 20 events
abbrev pub few : Board → ℕ → Outcome
few b cycle =
    let r = D.handled 20 cycle (divider_of b (timer_at b 0)) 100 (timer_at b 0) b.pads in
    record { number = r.number; value = r.events; entries = r.entries; board = with_last (after_delivery b 0 cycle r.timer r.pads) cycle }

-- not refused, and answered 0
abbrev pub suffice : Board → ℕ → Bool
suffice b cycle = not (absent 0 b.counts.timers) && (not (cycle_astray b cycle) && eqb (few b cycle).number 0)

few-is : (b : Board) (cycle : ℕ) → suffice b cycle ≡ true → step b (delivery cycle) ≡ few b cycle
unfolding step delivered_to delivered
few-is b cycle e =
    let x = absent 0 b.counts.timers in
    let y = cycle_astray b cycle in
    let z = eqb (few b cycle).number 0 in
    let p : x ≡ false = not-true x (first_so (not x) (not y && z) e) in
    let q : y ≡ false = not-true y (first_so (not y) z (second_so (not x) (not y && z) e)) in
    let r : (few b cycle).number ≡ 0 = eqb-true _ 0 (second_so (not y) z (second_so (not x) (not y && z) e)) in
    rw (p, q)
    (ap (λ (r : Run). record { number = r.number; value = r.events; entries = r.entries; board = with_last (after_delivery b 0 cycle r.timer r.pads) cycle })
    (fuel 20 99981 cycle (divider_of b (timer_at b 0)) 100 (timer_at b 0) b.pads r))

few-served : (b : Board) (cycle : ℕ) → suffice b cycle ≡ true → (step b (delivery cycle)).number ≡ 0
few-served b cycle e =
    let x = absent 0 b.counts.timers in
    let y = cycle_astray b cycle in
    let z = eqb (few b cycle).number 0 in
    ap (λ (o : Outcome). o.number) (few-is b cycle e) ∙ eqb-true _ 0 (second_so (not y) z (second_so (not x) (not y && z) e))

-- ---- after other calls

module _ (cycle : ℕ) where
  -- its entries are the last
  pub joined-last : (cs : List Call) (b : Board) → suffice (board_after b cs) cycle ≡ true
      → joined (run b (cs ++ (delivery cycle ∷ []))) ≡ joined (run b cs) ++ (few (board_after b cs) cycle).entries
  unfolding joined run board_after
  joined-last [] b e = append-nil _ ∙ ap (λ (o : Outcome). o.entries) (few-is b cycle e)
  joined-last (c ∷ cs) b e = ap (λ (es : List Entry). (step b c).entries ++ es) (joined-last cs (step b c).board e) ∙ sym (append_assoc (step b c).entries _ _)

  -- it is steady
  pub steady-last : (cs : List Call) (pin : ℕ) (b : Board) → steady 0 pin b (cs ++ (delivery cycle ∷ [])) ≡ steady 0 pin b cs
  unfolding steady steady_call
  steady-last [] pin b = go (is_refusal (step b (delivery cycle)).number)
    where
      go : (x : Bool) → (x || true) && true ≡ true
      go true = refl
      go false = refl
  steady-last (c ∷ cs) pin b =
      ap (λ (y : Bool). (is_refusal (step b c).number || steady_call 0 pin b c) && y) (steady-last cs pin (step b c).board)

  -- and it covers the cycles up to its own
  pub covered-last : (cs : List Call) (b : Board) (end : ℕ) → suffice (board_after b cs) cycle ≡ true
      → covered 0 b (cs ++ (delivery cycle ∷ [])) end ≡ cycle + 1
  unfolding covered delivered_at board_after
  covered-last [] b end e = rw (few-served b cycle e)
  covered-last (c ∷ cs) b end e = covered-last cs (step b c).board _ e
