-- Why a pin is low: the statements of specs/Explains.antt, proved. Assumes nothing.
use mathlib.Core.Path.{◌≡◌, refl, ap, sym, ◌∙◌}
use mathlib.Core.Bool.{Bool, true, false, cond, not, ◌&&◌}
use mathlib.Core.List.{List, [], ◌∷◌}
use Prim.Native.Nat.{ℕ, zero, suc, ◌+◌, ◌≤◌, ◌<◌}
use native.Mathlib.Omega.{arith}
use lib.Dec.{eqb}
use lib.ListN.{get_or, length}
use borrow.Author.Tests.{eq-eqb, eqb-true, eqb-false}
use Rattle.gpio.specs.declared.Gpio.{Gpio}
use Rattle.gpio.specs.Gpio.{signal_of, alternate_mode}
use Rattle.machine.specs.Board.{Board, timer_at, gpio_at, route_of, first_board}
use Rattle.machine.specs.Call.{Call, Outcome, query_why}
use Rattle.machine.specs.Step.{step, refuse_if, absent, cycle_astray, board_after}
use Rattle.machine.specs.Why.{feeds, feeder_from, is_behind, reasons, first_true, is_reason, why_low}
use Rattle.machine.specs.Explains.{Given, Found, Explains}
use Rattle.machine.proofs.NumberLaws.{no_both}
use Rattle.machine.proofs.Reach.{one-socket}

-- ---- the first true of a list

pub first-within : (ts : List Bool) → first_true ts ≤ length ts
unfolding first_true
first-within [] = omega arith
first-within (true ∷ ts) = omega arith
first-within (false ∷ ts) = omega (arith, first-within ts)

pub first-is : (ts : List Bool) → get_or ts (first_true ts) true ≡ true
unfolding first_true
first-is [] = refl
first-is (true ∷ ts) = refl
first-is (false ∷ ts) = first-is ts

pub before-first : (ts : List Bool) (k : ℕ) → k < first_true ts → get_or ts k true ≡ false
unfolding first_true
before-first [] k h = absurd (omega arith)
before-first (true ∷ ts) k h = absurd (omega arith)
before-first (false ∷ ts) zero h = refl
before-first (false ∷ ts) (suc k) h = before-first ts k (omega arith)

-- ---- the answer

-- a query that is served is told the reason
data Told (b : Board) (pin cycle : ℕ) (o : Outcome) : Type 0 where
  reason : o.value ≡ why_low b pin cycle → Told b pin cycle o
  other : (o.number ≡ 0 → ⊥) → o.value ≡ 0 → Told b pin cycle o

answered-why : (b : Board) (pin cycle : ℕ) → Told b pin cycle (step b (query_why pin cycle))
unfolding step
answered-why b pin cycle = go (absent pin b.counts.pins) (cycle_astray b cycle) (is_behind b pin cycle)
  where
    go : (t u v : Bool)
        → Told b pin cycle (refuse_if t 2 b (refuse_if u 5 b (record { number = cond v 8 0; value = cond v 0 (why_low b pin cycle); entries = []; board = b })))
    go true u v = other (λ z. omega arith) refl
    go false true v = other (λ z. omega arith) refl
    go false false true = other (λ z. omega arith) refl
    go false false false = reason refl

reasons-ten : (b : Board) (pin cycle : ℕ) → length (reasons b pin cycle) ≡ 10
unfolding reasons
reasons-ten b pin cycle = refl

why-given : (b : Board) (pin cycle : ℕ) (o : Outcome) → Told b pin cycle o → o.number ≡ 0 → Given b pin cycle o
why-given b pin cycle o (other n z) h = absurd (n h)
why-given b pin cycle o (reason e) h = record {
  one_of = omega (arith, e, first-within (reasons b pin cycle), reasons-ten b pin cycle);
  is_true = rw e (first-is (reasons b pin cycle));
  earlier-false = λ k l. before-first (reasons b pin cycle) k (omega (arith, e, l));
}

-- ---- the timer that is found

from-feeds : (n i : ℕ) (b : Board) (s : ℕ) → feeder_from n i b s < i + n → feeds (timer_at b (feeder_from n i b s)).inst s ≡ true
unfolding feeder_from
from-feeds zero i b s h = absurd (omega arith)
from-feeds (suc n) i b s h = go (feeds (timer_at b i).inst s) refl h (from-feeds n (i + 1) b s)
  where
    go : (t : Bool) → feeds (timer_at b i).inst s ≡ t → cond t i (feeder_from n (i + 1) b s) < i + suc n
        → (feeder_from n (i + 1) b s < i + 1 + n → feeds (timer_at b (feeder_from n (i + 1) b s)).inst s ≡ true)
        → feeds (timer_at b (cond t i (feeder_from n (i + 1) b s))).inst s ≡ true
    go true e l k = e
    go false e l k = k (omega arith)

from-none : (n i : ℕ) (b : Board) (s j : ℕ) → i + n ≤ feeder_from n i b s → i ≤ j → j < i + n → feeds (timer_at b j).inst s ≡ false
unfolding feeder_from
from-none zero i b s j h l m = absurd (omega arith)
from-none (suc n) i b s j h l m = go (feeds (timer_at b i).inst s) refl h (eqb i j) refl (from-none n (i + 1) b s j)
  where
    go : (t : Bool) → feeds (timer_at b i).inst s ≡ t → i + suc n ≤ cond t i (feeder_from n (i + 1) b s) → (e : Bool) → eqb i j ≡ e
        → (i + 1 + n ≤ feeder_from n (i + 1) b s → i + 1 ≤ j → j < i + 1 + n → feeds (timer_at b j).inst s ≡ false) → feeds (timer_at b j).inst s ≡ false
    go true f h e q k = absurd (omega arith)
    go false f h true q k = rw (sym (eqb-true i j q)) f
    go false f h false q k = k (omega arith) (omega (arith, eqb-false i j q)) (omega arith)

pub feeder-found : (b : Board) (s : ℕ) → Found b s
feeder-found b s = record {
  feeding = λ h. from-feeds b.counts.timers 0 b s (omega (arith, h));
  none = λ h i l. from-none b.counts.timers 0 b s i (omega (arith, h)) (omega arith) (omega (arith, l));
}

-- ---- 6

-- reason 3 is false and reason 6 true: the pin selected a signal and does not route it
unrouted : (g : Gpio) (routed : Bool) → (eqb g.cfg.mode alternate_mode && eqb g.sig 0) ≡ false
    → (eqb g.cfg.mode alternate_mode && not routed) ≡ true → (signal_of g ≡ 0 → ⊥) × (routed ≡ false)
unrouted g routed h k = go (eqb g.cfg.mode alternate_mode) routed h k
  where
    go : (t r : Bool) → (t && eqb g.sig 0) ≡ false → (t && not r) ≡ true → (cond t g.sig 0 ≡ 0 → ⊥) × (r ≡ false)
    go true true h k = absurd (no_both false k refl)
    go true false h k = (λ z. no_both (eqb g.sig 0) (eq-eqb g.sig 0 z) h, refl)
    go false r h k = absurd (no_both false k refl)

six-routes : (b : Board) (pin cycle : ℕ) → why_low b pin cycle ≡ 6
    → (signal_of (gpio_at b.pads pin) ≡ 0 → ⊥) × (eqb (route_of b.pads (signal_of (gpio_at b.pads pin))) pin ≡ false)
unfolding reasons
six-routes b pin cycle h =
    unpacked (before-first (reasons b pin cycle) 3 (omega (arith, h))) (ap (λ (k : ℕ). get_or (reasons b pin cycle) k true) (sym h) ∙ first-is (reasons b pin cycle))
  where
    unpacked : is_reason b pin cycle 3 ≡ false → is_reason b pin cycle 6 ≡ true
        → (signal_of (gpio_at b.pads pin) ≡ 0 → ⊥) × (eqb (route_of b.pads (signal_of (gpio_at b.pads pin))) pin ≡ false)
    unpacked t s = unrouted (gpio_at b.pads pin) _ t s

never-six : (cs : List Call) (pin cycle : ℕ) (o : Outcome) → Told (board_after first_board cs) pin cycle o → o.value ≡ 6 → ⊥
never-six cs pin cycle o (other n z) h = omega (arith, z, h)
never-six cs pin cycle o (reason e) h =
    let q = six-routes (board_after first_board cs) pin cycle (sym e ∙ h) in
    no_both _ (eq-eqb _ pin ((one-socket cs).selected-routes pin q.0)) q.1

pub explains : Explains
explains = record {
  given = λ b pin cycle h. why-given b pin cycle _ (answered-why b pin cycle) h;
  found = feeder-found;
  never-six = λ cs pin cycle h. never-six cs pin cycle _ (answered-why (board_after first_board cs) pin cycle) h;
}
