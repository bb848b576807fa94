-- What every call does to the pins' levels, with its entries: the law behind "An entry is made exactly when a pin's level changes". Assumes nothing.
use Rattle.std.specs.Option.{is_some, unwrap_or}
use mathlib.Core.Path.{◌≡◌, refl, ap, ◌∙◌}
use mathlib.Core.Bool.{Bool, true, false, cond}
use mathlib.Core.List.{List, []}
use Prim.Native.Nat.{ℕ, zero, suc, ◌+◌, ◌≤◌}
use native.Mathlib.Omega.{arith}
use lib.ListN.{length}
use Rattle.regs.specs.declared.Written.{Written}
use Rattle.tim.specs.Change.{reset_state, retimed}
use Rattle.clk.specs.declared.ClockTree.{ClockTree}
use Rattle.clk.specs.Clk.{differing}
use Rattle.book.specs.Book.{Entry, entries_of}
use Rattle.machine.specs.Board.{Board, Pads, timer_at}
use Rattle.machine.specs.Sys as Sys
use Rattle.machine.specs.Deliver.{divider_of, delivered, after_delivery, rebooked, line_settled}
use Rattle.machine.specs.Call.{pin_setting, outside_drive, pin_reset, writing, resetting, delivery, Call, set_up, clock_tree, enable, clear_pending, ask, lend, is_set_up, Outcome}
use Rattle.machine.specs.Step.{timer_retimed, all_retimed, tree_set, cfg_of, changes_of, clock_on, written, followed, timer_reset, delivered_to}
use Rattle.machine.specs.Refusals.{refusals, applies}
use Rattle.machine.specs.Demand1.{pin_level, Traced}
use Rattle.machine.proofs.DeliverLaws.{turn_part}
use Rattle.machine.proofs.NumberLaws.{no_both, either, performed, delivered-law, here}
use Rattle.machine.proofs.Traces.{traced-none, Wired, drive-moves, Turns, turned-turns, set-traced, drive-traced, resets-traced}

-- a clock change leaves the pins
retimed-pads : (i cycle : ℕ) (b : Board) → (timer_retimed i cycle b).pads ≡ b.pads
unfolding timer_retimed rebooked
retimed-pads i cycle b =
    either (λ (x : Board). x.pads ≡ b.pads) (retimed (timer_at b i) cycle (divider_of b (timer_at b i))).count.running refl refl

all-pads : (n i cycle : ℕ) (b : Board) → (all_retimed n i cycle b).pads ≡ b.pads
unfolding all_retimed
all-pads zero i cycle b = refl
all-pads (suc n) i cycle b = all-pads n (i + 1) cycle (timer_retimed i cycle b) ∙ retimed-pads i cycle b

tree-pads : (b : Board) (t : ClockTree) (cycle : ℕ) → (tree_set b t cycle).pads ≡ b.pads
unfolding tree_set
tree-pads b t cycle = either (λ (x : Board). x.pads ≡ b.pads) (differing b.clocks.tree t) (all-pads b.counts.timers 0 cycle _) refl

-- a pin reset
pins-traced : (b : Board) (cycle : ℕ) → b.counts.pins ≤ length b.pads.gpio
    → Traced b.pads (Sys.reset_pins b.pads b.counts.pins).pads (changes_of cycle (Sys.reset_pins b.pads b.counts.pins).changes)
unfolding Sys.reset_pins Sys.unrouted
pins-traced b cycle h =
    let t = resets-traced b.counts.pins 0 cycle (Sys.unrouted b.pads) (omega arith) in record { after = t.after; edges = t.edges }

-- a write
followed-pads : (b : Board) (i cycle : ℕ) (w : Written)
    → (followed b i cycle w).board.pads ≡ cond (is_some w.drive) (Sys.drive_outputs w.timer (unwrap_or w.drive 0) b.pads).pads b.pads
unfolding followed rebooked line_settled
followed-pads b i cycle w =
    let P : Board → Type 0 = λ x. x.pads ≡ cond (is_some w.drive) (Sys.drive_outputs w.timer (unwrap_or w.drive 0) b.pads).pads b.pads in
    either P w.book (either P w.line refl refl) (either P w.line refl refl)

followed-entries : (b : Board) (i cycle : ℕ) (w : Written)
    → (followed b i cycle w).entries ≡ cond (is_some w.drive) (entries_of cycle (Sys.drive_outputs w.timer (unwrap_or w.drive 0) b.pads).changes) []
unfolding followed
followed-entries b i cycle w = refl

driven-or-not : (p q : Pads) (es : List Entry) (d : Bool) → Traced p q es → Traced p (cond d q p) (cond d es [])
driven-or-not p q es true h = h
driven-or-not p q es false h = traced-none p p (λ i. refl)

followed-traced : (b : Board) (i cycle : ℕ) (w : Written) → Wired b.pads → Traced b.pads (followed b i cycle w).board.pads (followed b i cycle w).entries
followed-traced b i cycle w h =
    rw (followed-pads b i cycle w, followed-entries b i cycle w)
    (driven-or-not b.pads _ _ (is_some w.drive) ((drive-moves w.timer (unwrap_or w.drive 0) b.pads h).traced cycle))

pub performed-traced : (b : Board) (c : Call) → Wired b.pads → b.counts.pins ≤ length b.pads.gpio → applies (refusals b c) ≡ false
    → is_set_up c ≡ false
    → Traced b.pads (performed b c).board.pads (performed b c).entries
unfolding performed refusals timer_reset delivered_to after_delivery rebooked line_settled
performed-traced b (set_up u) w s a n = absurd (no_both true refl n)
performed-traced b (clock_tree t cycle) w s a n = traced-none b.pads (tree_set b t cycle).pads (λ i. ap (λ (q : Pads). pin_level q i) (tree-pads b t cycle))
performed-traced b (enable word value) w s a n = traced-none b.pads b.pads (λ i. refl)
performed-traced b (clear_pending irq) w s a n = traced-none b.pads b.pads (λ i. refl)
performed-traced b (ask q) w s a n = traced-none b.pads b.pads (λ i. refl)
performed-traced b (lend (pin_setting pin mode open_drain out pullup pulldown function) cycle places) w s a n =
    set-traced b.pads pin (cfg_of mode open_drain out pullup pulldown) function cycle (omega (arith, here pin b.counts.pins _ a))
performed-traced b (lend (outside_drive pin e) cycle places) w s a n =
    drive-traced b.pads pin e cycle (omega (arith, here pin b.counts.pins _ a))
performed-traced b (lend pin_reset cycle places) w s a n = pins-traced b cycle s
performed-traced b (lend (writing timer offset size value) cycle places) w s a n =
    either (λ (o : Outcome). Traced b.pads o.board.pads o.entries) (clock_on b (timer_at b timer))
    (followed-traced b timer cycle (written b (timer_at b timer) offset size value cycle) w)
    (traced-none b.pads b.pads (λ i. refl))
performed-traced b (lend (resetting timer) cycle places) w s a n =
    (drive-moves (reset_state (timer_at b timer).inst (divider_of b (timer_at b timer))) 0 b.pads w).traced cycle
performed-traced b (lend (delivery timer) cycle places) w s a n =
    let d = delivered-law b timer cycle places in
    let u : Turns b.pads (turn_part (delivered b timer cycle places)) = rw d.state (turned-turns _ (divider_of b (timer_at b timer)) (timer_at b timer) b.pads w) in
    u.traced
