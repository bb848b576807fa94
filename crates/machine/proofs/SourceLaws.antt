-- Each entry's source is the one that resolving gave, and none is 4: the statements of specs/Sources.antt, proved. Assumes nothing.
use Rattle.std.specs.Option.{is_some, unwrap_or}
use mathlib.Core.Path.{◌≡◌, refl, ◌∙◌}
use mathlib.Core.Bool.{Bool, true, false, cond}
use Prim.Native.Nat.{ℕ, zero, suc, ◌+◌, ◌-◌, ◌≤◌}
use lib.Dec.{eqb, ltb, lit≤}
use lib.Ieee as Ieee
use lib.Ieee.{Float}
use lib.ListN.{length}
use native.Mathlib.Omega.{arith}
use borrow.Author.Tests.{eqb-false}
use Rattle.tim.specs.declared.Timer.{Timer}
use Rattle.tim.specs.declared.Due.{Due}
use Rattle.tim.specs.declared.Due.TheVariants.{At, Stopped}
use Rattle.tim.specs.Next.{next_event}
use Rattle.tim.specs.Change.{reset_state, output}
use Rattle.regs.specs.declared.Written.{Written}
use Rattle.sig.specs.Signal.{tim_signal}
use Rattle.pins.specs.declared.Pin.{Pin}
use Rattle.pins.specs.declared.ExtDrive.{ExtDrive}
use Rattle.pins.specs.declared.ExtDrive.TheVariants as ext
use Rattle.pins.specs.Pins.{by_outside, only_held, source_number, effective_dir, vil, vih, clamped, sensed_from, resolved}
use Rattle.gpio.specs.declared.Gpio.{Gpio}
use Rattle.std.specs.Prelude.{Option, Some, None}
use Rattle.gpio.specs.declared.Edge.{Edge}
use Rattle.gpio.specs.Gpio.{signal_of, side_of, with_mcu, bit, edge, updated, refreshed}
use Rattle.book.specs.Book.{Entry, Changes, entry_of, entries_of}
use Rattle.machine.specs.Board.{Board, Pads, timer_at, gpio_at, level_of, route_of, with_sig_level, no_pin}
use Rattle.machine.specs.Sys as Sys
use Rattle.machine.specs.Sys.{Move, update_pin, refresh_pin, sig_out, drive_channel, drive_outputs, driver}
use Rattle.machine.specs.Deliver.{Run, turn, turn_of, handled, due_by, delivered, most_events, divider_of}
use Rattle.machine.specs.Call.{Call, set_up, clock_tree, enable, clear_pending, ask, lend, pin_setting, outside_drive, pin_reset, writing, resetting, delivery, Outcome}
use Rattle.machine.specs.Step.{step, changes_of, followed, timer_reset, delivered_to, written, clock_on}
use Rattle.machine.specs.Refusals.{refusals}
use Rattle.machine.specs.Demand1.{Every}
use Rattle.machine.specs.Sources.{Resolves, NeverHeld, Sources}
use Rattle.machine.proofs.DeliverLaws.{every-none, every_append, every-imp}
use Rattle.machine.proofs.NumberLaws.{Verdict, refuses, passes, answered, performed, step_given, either}

-- ---- one pin

-- a change's entry, whatever its cycle
abbrev Told : Option Edge → Type 0
Told c = (at : ℕ) → Every Resolves (entry_of at c)

updated-told : (i : ℕ) (g : Gpio) (vcc : Float) → Told (updated i g vcc).change
unfolding updated entry_of Every
updated-told i g vcc at = go (eqb (resolved g.pin vcc).level g.pin.level) refl
  where
    go : (same : Bool) → eqb (resolved g.pin vcc).level g.pin.level ≡ same
        → Every Resolves (entry_of at (cond same None (Some (edge i (resolved g.pin vcc).level (resolved g.pin vcc).source))))
    go true e = tt
    go false e = (record { pin = g.pin; vcc = vcc; level = refl; source = refl; moved = eqb-false (resolved g.pin vcc).level g.pin.level e }, tt)

refreshed-told : (i : ℕ) (g : Gpio) (l : ℕ) (vcc : Float) → Told (refreshed i g l vcc).change
unfolding refreshed
refreshed-told i g l vcc = updated-told i (with_mcu g (side_of g l)) vcc

abbrev Moves : Move → Type 0
Moves m = Told m.change

same-told : Told None
unfolding entry_of
same-told at = every-none Resolves

update-told : (p : Pads) (i : ℕ) → Moves (update_pin p i)
unfolding update_pin
update-told p i = updated-told i (gpio_at p i) p.vcc

refresh-told : (p : Pads) (i : ℕ) → Moves (refresh_pin p i)
unfolding refresh_pin
refresh-told p i = refreshed-told i (gpio_at p i) (level_of p (signal_of (gpio_at p i))) p.vcc

sig-told : (p : Pads) (s l : ℕ) → Moves (sig_out p s l)
unfolding sig_out
sig-told p s l =
    either Moves (eqb (level_of p s) l) same-told
    (either Moves (eqb (route_of p s) no_pin) same-told (refresh-told (with_sig_level p s l) (route_of p s)))

-- ---- a timer's four channels

channel-told : (t : Timer) (cnt ch : ℕ) (p : Pads) → Moves (drive_channel t cnt ch p)
unfolding drive_channel
channel-told t cnt ch p = either Moves (ltb ch t.inst.channels) (sig-told p (tim_signal t.inst.n ch) (bit (output t ch cnt))) same-told

four-told : (c : Changes) → Told c.a → Told c.b → Told c.c → Told c.d → (at : ℕ) → Every Resolves (entries_of at c)
unfolding entries_of
four-told c p q r s at =
    every_append Resolves (entry_of at c.a) _ (p at)
    (every_append Resolves (entry_of at c.b) _ (q at) (every_append Resolves (entry_of at c.c) (entry_of at c.d) (r at) (s at)))

outputs-told : (t : Timer) (cnt : ℕ) (p : Pads) (at : ℕ) → Every Resolves (entries_of at (drive_outputs t cnt p).changes)
unfolding drive_outputs
outputs-told t cnt p at =
    let a = drive_channel t cnt 0 p in
    let b = drive_channel t cnt 1 a.pads in
    let c = drive_channel t cnt 2 b.pads in
    either (λ (d : Sys.Drive). Every Resolves (entries_of at d.changes)) (driver t.inst.n)
    (four-told _ (channel-told t cnt 0 p) (channel-told t cnt 1 a.pads) (channel-told t cnt 2 b.pads) (channel-told t cnt 3 c.pads) at)
    (four-told Sys.no_changes same-told same-told same-told same-told at)

-- ---- pin reset, events

reset-told : (n i : ℕ) (p : Pads) (at : ℕ) → Every Resolves (changes_of at (Sys.reset_from n i p).changes)
unfolding Sys.reset_from Sys.reset_pin changes_of
reset-told zero i p at = every-none Resolves
reset-told (suc n) i p at =
    every_append Resolves (entry_of at (Sys.reset_pin p i).change) _ (refresh-told _ i at) (reset-told n (i + 1) (Sys.reset_pin p i).pads at)

turn-told : (t : Timer) (p : Pads) (d : Due) (div : ℕ) → Every Resolves (turn_of t p d div).entries
unfolding turn
turn-told t p (At at e) div = outputs-told _ _ p at
turn-told t p Stopped div = every-none Resolves

handled-told : (events now div left : ℕ) (t : Timer) (p : Pads) → Every Resolves (handled events now div left t p).entries
unfolding handled
handled-told zero now div left t p = every-none Resolves
handled-told (suc events) now div left t p =
    let s = turn_of t p (next_event t) div in
    let r = handled events now div (left - length s.entries) s.timer s.pads in
    let P : Run → Type 0 = λ r. Every Resolves r.entries in
    either P (due_by (next_event t) now)
    (either P (ltb left 4) (every-none Resolves)
    (every_append Resolves s.entries r.entries (turn-told t p (next_event t) div) (handled-told events now div (left - length s.entries) s.timer s.pads)))
    (every-none Resolves)

-- ---- every call

followed-told : (b : Board) (i cycle : ℕ) (w : Written) → Every Resolves (followed b i cycle w).entries
unfolding followed
followed-told b i cycle w =
    either (Every Resolves) (is_some w.drive) (outputs-told w.timer (unwrap_or w.drive 0) b.pads cycle) (every-none Resolves)

performed-told : (b : Board) (c : Call) → Every Resolves (performed b c).entries
unfolding performed timer_reset delivered_to delivered Sys.set_pin Sys.drive_pin Sys.reset_pins
performed-told b (set_up s) = every-none Resolves
performed-told b (clock_tree t cycle) = every-none Resolves
performed-told b (enable word value) = every-none Resolves
performed-told b (clear_pending irq) = every-none Resolves
performed-told b (ask q) = every-none Resolves
performed-told b (lend (pin_setting pin mode open_drain out pullup pulldown function) cycle places) = refresh-told _ pin cycle
performed-told b (lend (outside_drive pin e) cycle places) = update-told _ pin cycle
performed-told b (lend pin_reset cycle places) = reset-told b.counts.pins 0 _ cycle
performed-told b (lend (writing timer offset size value) cycle places) =
    either (λ (o : Outcome). Every Resolves o.entries) (clock_on b (timer_at b timer))
    (followed-told b timer cycle (written b (timer_at b timer) offset size value cycle))
    (every-none Resolves)
performed-told b (lend (resetting timer) cycle places) =
    outputs-told (reset_state (timer_at b timer).inst (divider_of b (timer_at b timer))) 0 b.pads cycle
performed-told b (lend (delivery timer) cycle places) =
    handled-told most_events cycle (divider_of b (timer_at b timer)) places (timer_at b timer) b.pads

told : (b : Board) (c : Call) → Every Resolves (step b c).entries
told b c = go (answered b c)
  where
    go : Verdict (refusals b c) b (performed b c) → Every Resolves (step b c).entries
    go (refuses n l u f a g) = rw (step_given b c ∙ g) (every-none Resolves)
    go (passes f a g) = rw (step_given b c ∙ g) (performed-told b c)

-- ---- a level that is only held is the level that was

abbrev Moved : Pin → Pin → Type 0
Moved p q = (q.level ≡ p.level → ⊥) → (1 ≤ source_number q.source) × (source_number q.source ≤ 3)

sensed-moved : (p : Pin) (vcc : Float) (e : ExtDrive) → Moved p (sensed_from p vcc e)
unfolding sensed_from
sensed-moved p vcc ext.Low = λ n. (lit≤ tt, lit≤ tt)
sensed-moved p vcc ext.High = λ n. (lit≤ tt, lit≤ tt)
sensed-moved p vcc (ext.Analog x) = go (Ieee.le (vih vcc) (clamped x vcc)) (Ieee.le (clamped x vcc) (vil vcc))
  where
    go : (high low : Bool) → (cond high 1 (cond low 0 p.level) ≡ p.level → ⊥) → (1 ≤ source_number (cond high by_outside (cond low by_outside only_held))) × (source_number (cond high by_outside (cond low by_outside only_held)) ≤ 3)
    go true low n = (lit≤ tt, lit≤ tt)
    go false true n = (lit≤ tt, lit≤ tt)
    go false false n = absurd (n refl)
sensed-moved p vcc ext.Float =
    either (Moved p) (eqb p.mcu.pullup 0)
    (either (Moved p) (eqb p.mcu.pulldown 0) (λ n. absurd (n refl)) (λ n. (lit≤ tt, lit≤ tt)))
    (λ n. (lit≤ tt, lit≤ tt))

resolved-moved : (p : Pin) (vcc : Float) → Moved p (resolved p vcc)
unfolding resolved
resolved-moved p vcc = either (Moved p) (eqb (effective_dir p) 0) (sensed-moved p vcc p.ext) (λ n. (lit≤ tt, lit≤ tt))

never-held : (e : Entry) → Resolves e → NeverHeld e
never-held e r =
    let m = resolved-moved r.pin r.vcc (λ z. r.moved (r.level ∙ z)) in
    (omega (arith, m.0, r.source), omega (arith, m.1, r.source))

pub sources : Sources
sources = record {
  resolves = told;
  never-held = λ b c. every-imp Resolves NeverHeld never-held (step b c).entries (told b c);
}
