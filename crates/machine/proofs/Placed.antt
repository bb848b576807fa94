-- What the theorems ask of a board, and that every list of calls from the first board leads to such a board: a place for each timer and each pin, and
-- routes that lead to pins. Assumes nothing.
use Rattle.std.specs.Option.{is_some, unwrap_or}
use mathlib.Core.Path.{◌≡◌, refl, ap, ◌∙◌}
use mathlib.Core.Bool.{Bool, true, false, cond, ◌&&◌}
use mathlib.Core.List.{List, [], ◌∷◌}
use mathlib.Core.Logic.{◌⊎◌, inl, inr}
use Prim.Native.Nat.{ℕ, zero, suc, ◌+◌, ◌*◌, ◌≤◌, ◌<◌}
use native.Mathlib.Omega.{arith}
use lib.Dec.{eqb, leb, lit≤}
use lib.Ieee.{Float}
use lib.ListN.{length, set, get_or, replicate, length-set, length-append, length-map, length-replicate}
use borrow.Author.Tests.{leb-true}
use Rattle.tim.specs.declared.Timer.{Timer}
use Rattle.tim.specs.declared.Inst.{Inst}
use Rattle.regs.specs.declared.Written.{Written}
use Rattle.tim.specs.Change.{reset_state, retimed}
use Rattle.clk.specs.declared.ClockTree.{ClockTree}
use Rattle.real.specs.Real.{positive}
use Rattle.clk.specs.Clk.{differing}
use Rattle.pins.specs.Clock as Clock
use Rattle.gpio.specs.declared.Gpio.{Gpio}
use Rattle.gpio.specs.declared.PinCfg.{PinCfg}
use Rattle.pins.specs.declared.ExtDrive.{ExtDrive}
use Rattle.gpio.specs.Gpio.{updated, configured, connected}
use Rattle.machine.specs.Board.{Board, Pads, timer_at, gpio_at, route_of, with_gpio, with_route, with_pads, with_timer, with_clocks, with_last, no_pin, plain_cfg, fresh_board, first_board, one}
use Rattle.machine.specs.Sys as Sys
use Rattle.machine.specs.Deliver.{divider_of, delivered, after_delivery, rebooked, line_settled}
use Rattle.machine.specs.Call.{Setup, pin_setting, outside_drive, pin_reset, writing, resetting, delivery, Call, set_up, clock_tree, enable, clear_pending, ask, lend, Outcome}
use Rattle.machine.specs.Step.{step, board_after, within_limits, insts_good, entries_below, timer_retimed, all_retimed, tree_set, cfg_of, clock_on, written, followed, timer_reset, delivered_to}
use Rattle.machine.specs.Refusals.{refusals, applies}
use Rattle.machine.proofs.DeliverLaws.{turn_part}
use Rattle.machine.proofs.NumberLaws.{Verdict, refuses, passes, answered, step_given, either, both, performed, delivered-law, here, set-up-within}
use Rattle.machine.proofs.PinLaws.{select-gpio}
use Rattle.machine.proofs.Traces.{Wired, Kept, kept_trans, wired-kept, refresh-keeps, drive-moves, Turns, turned-turns}

-- a place for each timer and each pin; each signal's route is a pin of the board, or none
pub record Placed (b : Board) : Type 0 where
  pub timers : b.counts.timers ≤ length b.timers
  pub pins : b.counts.pins ≤ length b.pads.gpio
  pub wired : Wired b.pads

-- a board of the same counts, with as many places, and wired
like : (b c : Board) → Placed b → c.counts.timers ≡ b.counts.timers → c.counts.pins ≡ b.counts.pins → length c.timers ≡ length b.timers
    → length c.pads.gpio ≡ length b.pads.gpio
    → Wired c.pads
    → Placed c
like b c h t p l g w = record { timers = omega (arith, h.timers); pins = omega (arith, h.pins); wired = w }

-- ---- set-up

no-routes : (n s : ℕ) → get_or (replicate n no_pin) s no_pin ≡ no_pin
no-routes zero s = refl
no-routes (suc n) zero = refl
no-routes (suc n) (suc s) = no-routes n s

fourth-true : (a b c d e f g h i : Bool) → (a && b && c && d && e && f && g && h && i) ≡ true → d ≡ true
fourth-true a b c d e f g h i q =
    let r₁ = (both (a && b && c && d && e && f && g && h) i q).0 in
    let r₂ = (both (a && b && c && d && e && f && g) h r₁).0 in
    let r₃ = (both (a && b && c && d && e && f) g r₂).0 in
    let r₄ = (both (a && b && c && d && e) f r₃).0 in
    (both (a && b && c) d (both (a && b && c && d) e r₄).0).1

within-pins : (s : Setup) → within_limits s ≡ true → s.pins ≤ 128
unfolding within_limits
within-pins s h = leb-true s.pins 128 (fourth-true (leb 1 (length s.timers)) (leb (length s.timers) 8) (leb 1 s.pins) (leb s.pins 128) (leb s.lines 256) (insts_good s.timers)
    (positive s.vcc) (eqb (length s.table) (s.pins * 16)) (entries_below 256 s.table) h)

fresh-placed : (hz vcc : Float) (pins lines : ℕ) (insts : List Inst) (table : List ℕ) → pins ≤ 128 → Placed (fresh_board hz vcc pins lines insts table)
unfolding fresh_board
fresh-placed hz vcc pins lines insts table h = record {
  timers = simp (length-append, length-map) (omega arith);
  pins = simp length-replicate (omega arith);
  wired = λ s. inl (no-routes 256 s);
}

-- ---- clock change

retimed-placed : (i cycle : ℕ) (b : Board) → Placed b → Placed (timer_retimed i cycle b)
unfolding timer_retimed rebooked
retimed-placed i cycle b h =
    let p : Placed (with_timer b i (retimed (timer_at b i) cycle (divider_of b (timer_at b i)))) = record { timers = simp length-set h.timers; pins = h.pins; wired = h.wired } in
    either Placed (retimed (timer_at b i) cycle (divider_of b (timer_at b i))).count.running (record { timers = p.timers; pins = p.pins; wired = p.wired }) p

all_placed : (n i cycle : ℕ) (b : Board) → Placed b → Placed (all_retimed n i cycle b)
unfolding all_retimed
all_placed zero i cycle b h = h
all_placed (suc n) i cycle b h = all_placed n (i + 1) cycle (timer_retimed i cycle b) (retimed-placed i cycle b h)

tree_placed : (b : Board) (t : ClockTree) (cycle : ℕ) → Placed b → Placed (tree_set b t cycle)
unfolding tree_set
tree_placed b t cycle h =
    let c = with_clocks b (record { tree = t; clock = Clock.hz_set b.clocks.clock t.hclk_hz cycle; enr = b.clocks.enr }) in
    let p : Placed c = record { timers = h.timers; pins = h.pins; wired = h.wired } in
    either Placed (differing b.clocks.tree t) (all_placed b.counts.timers 0 cycle c p) p

-- ---- pins

set_cases : (l : List ℕ) (i a d j : ℕ) → (get_or (set l i a) j d ≡ a) ⊎ (get_or (set l i a) j d ≡ get_or l j d)
set_cases [] i a d j = inr refl
set_cases (x ∷ xs) zero a d zero = inl refl
set_cases (x ∷ xs) zero a d (suc j) = inr refl
set_cases (x ∷ xs) (suc i) a d zero = inr refl
set_cases (x ∷ xs) (suc i) a d (suc j) = set_cases xs i a d j

route-wired : (p : Pads) (s i : ℕ) → (i ≡ no_pin) ⊎ (i < length p.gpio) → Wired p → Wired (with_route p s i)
route-wired p s i h w j = go (set_cases p.route s i no_pin j)
  where
    go : (route_of (with_route p s i) j ≡ i) ⊎ (route_of (with_route p s i) j ≡ route_of p j) → (route_of (with_route p s i) j ≡ no_pin) ⊎ (route_of (with_route p s i) j < length p.gpio)
    go (inl e) = rw e h
    go (inr e) = rw e (w j)

leave-wired : (p : Pads) (i s : ℕ) → Wired p → Wired (Sys.leave p i s)
leave-wired p i s w = either Wired (eqb s 0) w (either Wired (eqb (route_of p s) i) (route-wired p s no_pin (inl refl) w) w)

take-wired : (p : Pads) (i s : ℕ) → i < length p.gpio → Wired p → Wired (Sys.take p i s)
take-wired p i s h w = either Wired (eqb s 0) w (route-wired p s i (inr h) w)

-- what a pin call leaves: as many pins, wired
record Left (p q : Pads) : Type 0 where
  pub size : length q.gpio ≡ length p.gpio
  pub wired : Wired q

leave-size : (p : Pads) (i s : ℕ) → length (Sys.leave p i s).gpio ≡ length p.gpio
leave-size p i s =
    let P : Pads → Type 0 = λ q. length q.gpio ≡ length p.gpio in either P (eqb s 0) refl (either P (eqb (route_of p s) i) refl refl)

put-wired : (p : Pads) (i : ℕ) (g : Gpio) → Wired p → Wired (with_gpio p i g)
put-wired p i g w s = rw length-set (w s)

select-wired : (p : Pads) (i : ℕ) (c : PinCfg) (f : ℕ) → i < length p.gpio → Wired p → Wired (Sys.select_af p i c f)
unfolding Sys.select_af
select-wired p i c f h w =
    let new = Sys.selected p i c f in
    let q = with_gpio p i (configured (gpio_at p i) c new) in
    let z : length q.gpio ≡ length p.gpio = simp length-set in
    take-wired (Sys.leave q i (gpio_at p i).sig) i new (omega (arith, leave-size q i (gpio_at p i).sig))
    (leave-wired q i (gpio_at p i).sig (put-wired p i (configured (gpio_at p i) c new) w))

set-left : (p : Pads) (i : ℕ) (c : PinCfg) (f : ℕ) → i < length p.gpio → Wired p → Left p (Sys.set_pin p i c f).pads
unfolding Sys.set_pin
set-left p i c f h w =
    let q = Sys.select_af p i c f in
    let z : length q.gpio ≡ length p.gpio = ap length (select-gpio p i c f) ∙ simp length-set in
    let k = refresh-keeps q i in
    record { size = k.size ∙ z; wired = wired-kept q (Sys.refresh_pin q i).pads k (select-wired p i c f h w) }

drive-left : (p : Pads) (i : ℕ) (e : ExtDrive) → Wired p → Left p (Sys.drive_pin p i e).pads
unfolding Sys.drive_pin Sys.update_pin
drive-left p i e w = record { size = simp length-set; wired = put-wired (with_gpio p i (connected (gpio_at p i) e)) i (updated i (gpio_at (with_gpio p i (connected (gpio_at p i) e)) i) p.vcc).gpio (put-wired p i (connected (gpio_at p i) e) w) }

reset-keeps : (p : Pads) (i : ℕ) → Kept p (Sys.reset_pin p i).pads
unfolding Sys.reset_pin
reset-keeps p i =
    let q = with_gpio p i (configured (gpio_at p i) plain_cfg 0) in
    kept_trans p q (Sys.refresh_pin q i).pads (record { route = refl; size = simp length-set }) (refresh-keeps q i)

resets-keep : (n i : ℕ) (p : Pads) → Kept p (Sys.reset_from n i p).pads
unfolding Sys.reset_from
resets-keep zero i p = record { route = refl; size = refl }
resets-keep (suc n) i p =
    let q = (Sys.reset_pin p i).pads in kept_trans p q (Sys.reset_from n (i + 1) q).pads (reset-keeps p i) (resets-keep n (i + 1) q)

resets-left : (p : Pads) (n : ℕ) → Left p (Sys.reset_pins p n).pads
unfolding Sys.reset_pins Sys.unrouted
resets-left p n =
    let k = resets-keep n 0 (Sys.unrouted p) in
    record { size = k.size; wired = wired-kept (Sys.unrouted p) (Sys.reset_from n 0 (Sys.unrouted p)).pads k (λ s. inl (no-routes 256 s)) }

-- ---- every call

left-placed : (b : Board) (q : Pads) (cycle : ℕ) → Placed b → Left b.pads q → Placed (with_last (with_pads b q) cycle)
left-placed b q cycle h l = record { timers = h.timers; pins = rw l.size h.pins; wired = l.wired }

timer-placed : (b : Board) (i : ℕ) (t : Timer) (q : Pads) → Placed b → Kept b.pads q → Placed (with_pads (with_timer b i t) q)
timer-placed b i t q h k = record { timers = simp length-set h.timers; pins = rw k.size h.pins; wired = wired-kept b.pads q k h.wired }

followed-placed : (b : Board) (i cycle : ℕ) (w : Written) → Placed b → Placed (followed b i cycle w).board
unfolding followed rebooked line_settled
followed-placed b i cycle w h =
    let d = Sys.drive_outputs w.timer (unwrap_or w.drive 0) b.pads in
    let q = cond (is_some w.drive) d.pads b.pads in
    let k : Kept b.pads q = either (Kept b.pads) (is_some w.drive) (drive-moves w.timer (unwrap_or w.drive 0) b.pads h.wired).kept (record { route = refl; size = refl }) in
    let p = timer-placed b i w.timer q h k in
    let c : Placed (with_pads (with_timer b i w.timer) q) = p in
    let l : Placed (cond w.line (line_settled i w.timer (with_pads (with_timer b i w.timer) q)) (with_pads (with_timer b i w.timer) q)) =
    either Placed w.line (record { timers = c.timers; pins = c.pins; wired = c.wired }) c in
    let z = either Placed w.book (record { timers = l.timers; pins = l.pins; wired = l.wired }) l in
    record { timers = z.timers; pins = z.pins; wired = z.wired }

performed-placed : (b : Board) (c : Call) → Placed b → applies (refusals b c) ≡ false → Placed (performed b c).board
unfolding performed refusals timer_reset delivered_to after_delivery rebooked line_settled
performed-placed b (set_up u) h a =
    fresh-placed u.hz u.vcc u.pins u.lines u.timers u.table (within-pins u (set-up-within b u a))
performed-placed b (clock_tree t cycle) h a = let p = tree_placed b t cycle h in record { timers = p.timers; pins = p.pins; wired = p.wired }
performed-placed b (enable word value) h a = record { timers = h.timers; pins = h.pins; wired = h.wired }
performed-placed b (clear_pending irq) h a = record { timers = h.timers; pins = h.pins; wired = h.wired }
performed-placed b (ask q) h a = h
performed-placed b (lend (pin_setting pin mode open_drain out pullup pulldown function) cycle places) h a =
    left-placed b (Sys.set_pin b.pads pin (cfg_of mode open_drain out pullup pulldown) function).pads cycle h
    (set-left b.pads pin (cfg_of mode open_drain out pullup pulldown) function
    (omega (arith, h.pins, here pin b.counts.pins _ a)) h.wired)
performed-placed b (lend (outside_drive pin e) cycle places) h a =
    left-placed b (Sys.drive_pin b.pads pin e).pads cycle h (drive-left b.pads pin e h.wired)
performed-placed b (lend pin_reset cycle places) h a =
    left-placed b (Sys.reset_pins b.pads b.counts.pins).pads cycle h (resets-left b.pads b.counts.pins)
performed-placed b (lend (writing timer offset size value) cycle places) h a =
    either (λ (o : Outcome). Placed o.board) (clock_on b (timer_at b timer))
    (followed-placed b timer cycle (written b (timer_at b timer) offset size value cycle) h)
    (record { timers = h.timers; pins = h.pins; wired = h.wired })
performed-placed b (lend (resetting timer) cycle places) h a =
    let t = reset_state (timer_at b timer).inst (divider_of b (timer_at b timer)) in
    let p = timer-placed b timer t (Sys.drive_outputs t 0 b.pads).pads h (drive-moves t 0 b.pads h.wired).kept in
    record { timers = p.timers; pins = p.pins; wired = p.wired }
performed-placed b (lend (delivery timer) cycle places) h a =
    let r = delivered b timer cycle places in
    let d = delivered-law b timer cycle places in
    let u : Turns b.pads (turn_part r) = rw d.state (turned-turns _ (divider_of b (timer_at b timer)) (timer_at b timer) b.pads h.wired) in
    let p = timer-placed b timer r.timer r.pads h u.kept in
    record { timers = p.timers; pins = p.pins; wired = p.wired }

pub step-placed : (b : Board) (c : Call) → Placed b → Placed (step b c).board
step-placed b c h = go (answered b c)
  where
    go : Verdict (refusals b c) b (performed b c) → Placed (step b c).board
    go (refuses n l u f a g) = rw (step_given b c ∙ g) h
    go (passes f a g) = rw (step_given b c ∙ g) (performed-placed b c h a)

-- every list of calls, from such a board and from the first board, leads to such a board
pub calls-placed : (cs : List Call) (b : Board) → Placed b → Placed (board_after b cs)
unfolding board_after
calls-placed [] b h = h
calls-placed (c ∷ cs) b h = calls-placed cs (step b c).board (step-placed b c h)

pub reached-placed : (cs : List Call) → Placed (board_after first_board cs)
reached-placed cs = calls-placed cs first_board (fresh-placed one one 0 0 [] [] (lit≤ tt))
