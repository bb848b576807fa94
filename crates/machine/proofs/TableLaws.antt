-- What the table says of 1, 4, 7 and 11 is what `step` tests. Assumes nothing.
use mathlib.Core.Path.{◌≡◌, refl, ap, sym, ◌∙◌}
use mathlib.Core.Bool.{Bool, true, false, cond, not, ◌&&◌, ◌||◌}
use mathlib.Core.List.{List, [], ◌∷◌, map}
use Prim.Native.Nat.{ℕ, ◌+◌, ◌*◌}
use lib.Dec.{eqb, ltb, leb}
use lib.ListN.{length}
use lib.Ieee.{Float, nan, inf, fin}
use native.Mathlib.Omega.{arith}
use borrow.Author.Tests.{leb-false, ne_eqb}
use Rattle.rm0440.specs.Bits.{DIR}
use Rattle.tim.specs.declared.Timer.{Timer}
use Rattle.tim.specs.Count.{blocked}
use Rattle.tim.specs.declared.Inst.{Inst}
use Rattle.regs.specs.Regs as R
use Rattle.real.specs.Real.{positive}
use Rattle.clk.specs.declared.ClockTree.{ClockTree}
use Rattle.clk.specs.Clk.{in_range, timer_div, good}
use Rattle.machine.specs.Board.{Board, function_of}
use Rattle.machine.specs.Sys as Sys
use Rattle.machine.specs.Call.{Setup}
use Rattle.machine.specs.Step.{fresh, insts_good, entries_below, within_limits, cfg_of}
use Rattle.machine.specs.Refusals.{all, different, finite_above_zero, timer_limits, limits, good_tree, runs_away, signal_set, routed_elsewhere}

pub positive-same : (f : Float) → finite_above_zero f ≡ positive f
unfolding finite_above_zero positive
positive-same nan = refl
positive-same (inf s) = refl
positive-same (fin s m e) = refl

-- ---- tests in another order

and_assoc : (a b c : Bool) → ((a && b) && c) ≡ (a && (b && c))
and_assoc true b c = refl
and_assoc false b c = refl

and_comm : (a b : Bool) → (a && b) ≡ (b && a)
and_comm true true = refl
and_comm true false = refl
and_comm false true = refl
and_comm false false = refl

and-swap : (a b c d : Bool) → ((a && b) && (c && d)) ≡ ((a && c) && (b && d))
and-swap false b c d = refl
and-swap true true c d = refl
and-swap true false true d = refl
and-swap true false false d = refl

-- ---- 1

fresh-same : (n : ℕ) (is : List Inst) → all (λ (m : ℕ). not (eqb m n)) (map (λ (i : Inst). i.n) is) ≡ fresh n is
unfolding all fresh
fresh-same n [] = refl
fresh-same n (i ∷ is) = ap (λ (t : Bool). not (eqb i.n n) && t) (fresh-same n is)

insts_same : (is : List Inst) → (all timer_limits is && different (map (λ (i : Inst). i.n) is)) ≡ insts_good is
unfolding all different insts_good
insts_same [] = refl
insts_same (i ∷ is) =
    and-swap (timer_limits i) (all timer_limits is) (all (λ (m : ℕ). not (eqb m i.n)) (map (λ (i : Inst). i.n) is)) (different (map (λ (i : Inst). i.n) is))
    ∙ ap (λ (t : Bool). (timer_limits i && t) && (all timer_limits is && different (map (λ (i : Inst). i.n) is))) (fresh-same i.n is)
    ∙ ap (λ (t : Bool). (timer_limits i && fresh i.n is) && t) (insts_same is)

entries-same : (n : ℕ) (ns : List ℕ) → all (λ (e : ℕ). ltb e n) ns ≡ entries_below n ns
unfolding all entries_below
entries-same n [] = refl
entries-same n (e ∷ es) = ap (λ (t : Bool). ltb e n && t) (entries-same n es)

grouped : (a b c d e f g h i j k : Bool) → (f && g) ≡ k
    → ((((((((a && b) && (c && d)) && e) && f) && g) && h) && i) && j) ≡ ((((((((a && b) && c) && d) && e) && k) && h) && i) && j)
grouped a b c d e f g h i j k q =
    ap (λ (t : Bool). (((((t && e) && f) && g) && h) && i) && j) (sym (and_assoc (a && b) c d))
    ∙ ap (λ (t : Bool). ((t && h) && i) && j)
    (and_assoc ((((a && b) && c) && d) && e) f g ∙ ap (λ (t : Bool). ((((a && b) && c) && d) && e) && t) q)

pub limits-same : (s : Setup) → limits s ≡ within_limits s
unfolding limits within_limits
limits-same s =
    grouped (leb 1 (length s.timers)) (leb (length s.timers) 8) (leb 1 s.pins) (leb s.pins 128) (leb s.lines 256) (all timer_limits s.timers)
    (different (map (λ (i : Inst). i.n) s.timers)) (finite_above_zero s.vcc) (eqb (length s.table) (s.pins * 16)) (all (λ (e : ℕ). ltb e 256) s.table)
    (insts_good s.timers) (insts_same s.timers)
    ∙ rw (positive-same s.vcc, entries-same 256 s.table) refl

-- ---- 4

tree-tests : (p q a b c d e f : Bool)
    → ((p && q) && ((a && (b && (c && (d && (e && (f && true)))))) && (e && (f && (c && (d && true)))))) ≡ (((((((p && q) && a) && b) && c) && d) && e) && f)
tree-tests false q a b c d e f = refl
tree-tests true false a b c d e f = refl
tree-tests true true false b c d e f = refl
tree-tests true true true false c d e f = refl
tree-tests true true true true false d e f = refl
tree-tests true true true true true false e f = refl
tree-tests true true true true true true false f = refl
tree-tests true true true true true true true false = refl
tree-tests true true true true true true true true = refl

pub tree-same : (t : ClockTree) → good_tree t ≡ good t
unfolding good_tree good all timer_div
tree-same t =
    and_comm _ (finite_above_zero t.sysclk_hz && finite_above_zero t.hclk_hz)
    ∙ tree-tests (finite_above_zero t.sysclk_hz) (finite_above_zero t.hclk_hz) (in_range t.ppre1) (in_range t.ppre2) (in_range t.ppre3) (in_range t.ppre4)
    (in_range t.tim1) (in_range t.tim2)
    ∙ rw (positive-same t.sysclk_hz, positive-same t.hclk_hz) refl

-- ---- 7

away-tests : (b r z d a : Bool) → (not b && ((r && (z || not d)) && a)) ≡ ((not b && r) && (not (cond z false d) && a))
away-tests true r z d a = refl
away-tests false false z d a = refl
away-tests false true true d a = refl
away-tests false true false d a = refl

pub away-same : (t : Timer) → runs_away t ≡ R.astray t
unfolding runs_away R.astray
away-same t = away-tests (blocked t) t.count.running (eqb t.inst.channels 0) (DIR t.regs.cr1) (ltb (t.count.arr_act + 1) t.count.cnt0)

-- ---- 11

mode-same : (mode : ℕ) → eqb mode 2 ≡ eqb (cond (leb mode 3) mode 0) 2
mode-same mode = go (leb mode 3) refl
  where
    go : (t : Bool) → leb mode 3 ≡ t → eqb mode 2 ≡ eqb (cond t mode 0) 2
    go true e = refl
    go false e = ne_eqb mode 2 (λ z. omega (arith, leb-false mode 3 e))

pub taken-same : (b : Board) (pin mode open_drain out pullup pulldown function : ℕ)
    → (not (eqb (signal_set b pin mode function) 0) && routed_elsewhere b pin (signal_set b pin mode function))
    ≡ Sys.taken b.pads pin (Sys.selected b.pads pin (cfg_of mode open_drain out pullup pulldown) function)
taken-same b pin mode open_drain out pullup pulldown function =
    ap (λ (t : Bool). Sys.taken b.pads pin (cond t (function_of b.pads pin function) 0)) (mode-same mode)
