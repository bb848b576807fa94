-- Events one after the other: in two parts they are the same, only so many are due, and they take no interrupt request back. Assumes nothing.
use mathlib.Core.Path.{◌≡◌, refl, sym, ap, ◌∙◌, subst}
use mathlib.Core.Bool.{true, false, not, false≢true}
use mathlib.Core.List.{List, ◌++◌, append_assoc}
use Prim.Native.Nat.{ℕ, zero, suc, ◌+◌, ◌*◌, ◌/◌, ◌%◌, ◌^◌, ◌≤◌, ◌<◌, max}
use native.Mathlib.Nat.{mod-lt}
use native.Mathlib.Omega.{arith}
use lib.Bits.{bit_and, bit_or, and_step, or_step, and_mod, or_mod, and_zero_l}
use lib.Dec.{eqb, lit<}
use borrow.Author.Tests.{eqb-false, ne_eqb, le-leb, leb-true, not-true}
use Rattle.rm0440.specs.Bits.{UDIS}
use Rattle.tim.specs.declared.Timer.{Timer}
use Rattle.tim.specs.declared.Next.TheVariants.{Update, Compare}
use Rattle.tim.specs.declared.Due.{Due}
use Rattle.tim.specs.declared.Due.TheVariants.{At, Stopped}
use Rattle.tim.specs.Next.{next_event}
use Rattle.tim.specs.Change as C
use Rattle.book.specs.Book.{Entry}
use Rattle.machine.specs.Board.{Pads}
use Rattle.machine.specs.Deliver.{Turn, turn, turn_of, due_by, wants_line}
use Rattle.machine.specs.Demand1.{after_events, AllDue}
use Rattle.machine.proofs.Routing.{either}
use Rattle.machine.proofs.Reach.{inst-applied}

-- ---- in two parts

abbrev pub joined_turn : Turn → Turn → Turn
joined_turn r s = record { timer = s.timer; pads = s.pads; entries = r.entries ++ s.entries }

pub events-append : (n m div : ℕ) (t : Timer) (p : Pads)
    → after_events (n + m) div t p ≡ joined_turn (after_events n div t p) (after_events m div (after_events n div t p).timer (after_events n div t p).pads)
unfolding after_events
events-append zero m div t p = let none : 0 + m ≡ m = omega arith in ap (λ (k : ℕ). after_events k div t p) none
events-append (suc n) m div t p =
    let s = turn_of t p (next_event t) div in
    let r = after_events n div s.timer s.pads in
    let first : suc n + m ≡ suc (n + m) = omega arith in
    ap (λ (k : ℕ). after_events k div t p) first
    ∙ ap (λ (u : Turn). record { timer = u.timer; pads = u.pads; entries = s.entries ++ u.entries }) (events-append n m div s.timer s.pads)
    ∙ ap (λ (es : List Entry). record { timer = (after_events m div r.timer r.pads).timer; pads = (after_events m div r.timer r.pads).pads; entries = es })
    (sym (append_assoc s.entries r.entries (after_events m div r.timer r.pads).entries))

due-later : (d : Due) (a c : ℕ) → a ≤ c → due_by d a ≡ true → due_by d c ≡ true
due-later (At at e) a c l h = le-leb at c (omega (arith, l, leb-true at a h))
due-later Stopped a c l h = h

pub all-later : (n a c div : ℕ) (t : Timer) (p : Pads) → a ≤ c → AllDue n a div t p → AllDue n c div t p
unfolding AllDue
all-later zero a c div t p l h = tt
all-later (suc n) a c div t p l h =
    let s = turn_of t p (next_event t) div in (due-later (next_event t) a c l h.0, all-later n a c div s.timer s.pads l h.1)

pub all_append : (n m c div : ℕ) (t : Timer) (p : Pads) → AllDue n c div t p
    → AllDue m c div (after_events n div t p).timer (after_events n div t p).pads
    → AllDue (n + m) c div t p
unfolding AllDue after_events
all_append zero m c div t p h k = let none : m ≡ 0 + m = omega arith in subst (λ (j : ℕ). AllDue j c div t p) none k
all_append (suc n) m c div t p h k =
    let s = turn_of t p (next_event t) div in
    let first : suc (n + m) ≡ suc n + m = omega arith in
    subst (λ (j : ℕ). AllDue j c div t p) first (h.0, all_append n m c div s.timer s.pads h.1 k)

-- ---- how many are due

abbrev pub None : ℕ → ℕ → ℕ → Timer → Pads → Type 0
None n c div t p = due_by (next_event (after_events n div t p).timer) c ≡ false

pub as_many : (n m c div : ℕ) (t : Timer) (p : Pads) → AllDue n c div t p → None n c div t p → AllDue m c div t p → None m c div t p → n ≡ m
unfolding AllDue after_events
as_many zero zero c div t p h z k y = refl
as_many zero (suc m) c div t p h z k y = absurd (false≢true (sym z ∙ k.0))
as_many (suc n) zero c div t p h z k y = absurd (false≢true (sym y ∙ h.0))
as_many (suc n) (suc m) c div t p h z k y =
    let s = turn_of t p (next_event t) div in ap suc (as_many n m c div s.timer s.pads h.1 z k.1 y)

-- ---- what they leave of the timer

inst-turn : (t : Timer) (p : Pads) (d : Due) (div : ℕ) → (turn_of t p d div).timer.inst ≡ t.inst
unfolding turn
inst-turn t p (At at e) div = inst-applied t e at div
inst-turn t p Stopped div = refl

pub inst-events : (n div : ℕ) (t : Timer) (p : Pads) → (after_events n div t p).timer.inst ≡ t.inst
unfolding after_events
inst-events zero div t p = refl
inst-events (suc n) div t p = let s = turn_of t p (next_event t) div in inst-events n div s.timer s.pads ∙ inst-turn t p (next_event t) div

-- a flag more takes no request back
or-more : (k a d f : ℕ) → a < 2 ^ k → bit_and a d ≤ bit_and (bit_or a f) d
or-more zero a d f h = let e : a ≡ 0 = omega arith in rw (e, and_zero_l d) (omega arith)
or-more (suc k) a d f h =
    let o : ℕ = bit_or a f in
    let step : o ≡ bit_or (a / 2) (f / 2) * 2 + max (a % 2) (f % 2) = or_step a f in
    let bit : max (a % 2) (f % 2) < 2 = omega (arith, mod-lt a {m = 2} (lit< tt), mod-lt f {m = 2} (lit< tt)) in
    let half : o / 2 ≡ bit_or (a / 2) (f / 2) = omega (arith, step, bit) in
    let low : o % 2 ≡ max (a % 2) (f % 2) = omega (arith, step, bit) in
    let ih : bit_and (a / 2) (d / 2) ≤ bit_and (bit_or (a / 2) (f / 2)) (d / 2) = or-more k (a / 2) (d / 2) (f / 2) (omega (arith, h)) in
    rw (and_step a d, and_step o d, half, low) (omega (arith, ih))

abbrev Asks : Timer → Timer → Type 0
Asks t u = wants_line t ≡ true → wants_line u ≡ true

some-flag : (x y : ℕ) → x ≤ y → not (eqb x 0) ≡ true → not (eqb y 0) ≡ true
some-flag x y l h = rw (ne_eqb y 0 (λ e. eqb-false x 0 (not-true (eqb x 0) h) (omega (arith, e, l))))

wants-flag : (t : Timer) (f : ℕ) → Asks t (C.with_flag t f)
wants-flag t f =
    some-flag (bit_and t.regs.sr t.regs.dier % 32) (bit_and (bit_or t.regs.sr f) t.regs.dier % 32)
    (rw (and_mod t.regs.sr t.regs.dier 5, and_mod (bit_or t.regs.sr f) t.regs.dier 5, or_mod t.regs.sr f 5)
    (or-more 5 (t.regs.sr % 32) (t.regs.dier % 32) (f % 32) (mod-lt t.regs.sr (lit< tt))))

wants-reloaded : (t : Timer) → Asks t (C.reloaded t)
unfolding C.reloaded
wants-reloaded t = either (Asks t) (UDIS t.regs.cr1) (λ h. h) (λ h. wants-flag (C.loaded t) C.UIF h)

wants-updated : (t : Timer) (at div : ℕ) → Asks t (C.updated t at div)
unfolding C.updated C.ended C.recomputed_after_update C.restarted
wants-updated t at div h = wants-reloaded t h

wants-compared : (t : Timer) (ch : ℕ) → Asks t (C.compared t ch)
unfolding C.compared C.matched
wants-compared t ch h = wants-flag (C.latched t ch) (C.cc_flag ch) h

wants-turn : (t : Timer) (p : Pads) (d : Due) (div : ℕ) → Asks t (turn_of t p d div).timer
unfolding turn
wants-turn t p (At at Update) div h = wants-updated t at div h
wants-turn t p (At at (Compare ch)) div h = wants-compared t ch h
wants-turn t p Stopped div h = h

pub wants-events : (n div : ℕ) (t : Timer) (p : Pads) → Asks t (after_events n div t p).timer
unfolding after_events
wants-events zero div t p h = h
wants-events (suc n) div t p h = let s = turn_of t p (next_event t) div in wants-events n div s.timer s.pads (wants-turn t p (next_event t) div h)
