-- What holds of every timer that a call can leave holds of every timer of every board that calls lead to. Assumes nothing.
use Rattle.std.specs.Option.{is_some, unwrap_or}
use mathlib.Core.Path.{◌∙◌}
use mathlib.Core.Bool.{cond}
use mathlib.Core.List.{List, [], ◌∷◌, ◌++◌, map}
use Prim.Native.Nat.{ℕ, zero, suc, ◌+◌, ◌-◌}
use lib.Dec.{ltb}
use lib.Ieee.{Float}
use lib.ListN.{get_or, set, length, replicate}
use Rattle.tim.specs.declared.Timer.{Timer}
use Rattle.tim.specs.declared.Inst.{Inst}
use Rattle.tim.specs.declared.Due.{Due}
use Rattle.tim.specs.declared.Due.TheVariants.{At, Stopped}
use Rattle.tim.specs.declared.Next.TheVariants.{Update, Compare}
use Rattle.tim.specs.Next.{next_event}
use Rattle.tim.specs.Change as T
use Rattle.regs.specs.declared.Written.{Written}
use Rattle.regs.specs.Regs as R
use Rattle.clk.specs.declared.ClockTree.{ClockTree}
use Rattle.clk.specs.Clk.{differing}
use Rattle.periph.specs.Lane.{lane_write}
use Rattle.machine.specs.Board.{Board, Pads, timer_at, no_timer, with_timer, with_pads, fresh_board, first_board, one}
use Rattle.machine.specs.Sys as Sys
use Rattle.machine.specs.Deliver.{Run, divider_of, line_settled, rebooked, turn, turn_of, due_by, most_events, delivered, after_delivery}
use Rattle.machine.specs.Deliver as D
use Rattle.machine.specs.Call.{Call, set_up, clock_tree, enable, clear_pending, ask, lend, pin_setting, outside_drive, pin_reset, writing, resetting, delivery, Outcome}
use Rattle.machine.specs.Step.{clock_on, register, present, written, followed, timer_reset, delivered_to, timer_retimed, all_retimed, tree_set, step, board_after}
use Rattle.machine.specs.Refusals.{refusals}
use Rattle.machine.proofs.NumberLaws.{Verdict, refuses, passes, answered, step_given, performed}
use Rattle.machine.proofs.Routing.{either}

module _ (P : Timer → Type 0) (none : P no_timer) (reset : (i : Inst) (div : ℕ) → P (T.reset_state i div))
    (wrote : (t : Timer) (off v now div : ℕ) → P t → P (R.reg_written t off v now div).timer) (updated : (t : Timer) (x div : ℕ) → P t → P (T.updated t x div))
    (compared : (t : Timer) (ch : ℕ) → P t → P (T.compared t ch)) (retimed : (t : Timer) (now div : ℕ) → P t → P (T.retimed t now div)) where
  abbrev All : List Timer → Type 0
  All ts = (j : ℕ) → P (get_or ts j no_timer)

  abbrev Every : Board → Type 0
  Every b = All b.timers

  all_set : (ts : List Timer) (i : ℕ) (t : Timer) → All ts → P t → All (set ts i t)
  all_set [] i t h p j = h j
  all_set (x ∷ xs) zero t h p zero = p
  all_set (x ∷ xs) zero t h p (suc j) = h (suc j)
  all_set (x ∷ xs) (suc i) t h p zero = h zero
  all_set (x ∷ xs) (suc i) t h p (suc j) = all_set xs i t (λ k. h (suc k)) p j

  -- ---- each call

  turned : (t : Timer) (p : Pads) (d : Due) (div : ℕ) → P t → P (turn_of t p d div).timer
  unfolding turn
  turned t p (At x Update) div h = updated t x div h
  turned t p (At x (Compare ch)) div h = compared t ch h
  turned t p Stopped div h = h

  ran : (f now div left : ℕ) (t : Timer) (p : Pads) → P t → P (D.handled f now div left t p).timer
  unfolding D.handled
  ran zero now div left t p h = h
  ran (suc f) now div left t p h =
      let u = turn_of t p (next_event t) div in
      either (λ (r : Run). P r.timer) (due_by (next_event t) now)
      (either (λ (r : Run). P r.timer) (ltb left 4) h (ran f now div (left - length u.entries) u.timer u.pads (turned t p (next_event t) div h))) h

  every-followed : (b : Board) (i cycle : ℕ) (w : Written) → Every b → P w.timer → Every (followed b i cycle w).board
  unfolding followed line_settled rebooked
  every-followed b i cycle w h p =
      let t = w.timer in
      let q = cond (is_some w.drive) (Sys.drive_outputs t (unwrap_or w.drive 0) b.pads).pads b.pads in
      let c = with_pads (with_timer b i t) q in
      let m = cond w.line (line_settled i t c) c in
      let e : Every c = all_set b.timers i t h p in
      let k : Every m = either Every w.line e e in
      let z : Every (cond w.book (rebooked i t cycle m) m) = either Every w.book k k in
      z

  every-written : (b : Board) (i offset size value cycle : ℕ) → Every b → P (written b (timer_at b i) offset size value cycle).timer
  unfolding written
  every-written b i offset size value cycle h =
      wrote (timer_at b i) (register offset) (lane_write (present (timer_at b i) (register offset) cycle) offset size value) cycle (divider_of b (timer_at b i)) (h i)

  every-reset : (b : Board) (i cycle : ℕ) → Every b → Every (timer_reset b i cycle).board
  unfolding timer_reset line_settled
  every-reset b i cycle h = all_set b.timers i (T.reset_state (timer_at b i).inst (divider_of b (timer_at b i))) h (reset (timer_at b i).inst (divider_of b (timer_at b i)))

  every-delivered : (b : Board) (i cycle places : ℕ) → Every b → Every (delivered_to b i cycle places).board
  unfolding delivered_to delivered after_delivery rebooked line_settled
  every-delivered b i cycle places h =
      all_set b.timers i (D.handled most_events cycle (divider_of b (timer_at b i)) places (timer_at b i) b.pads).timer h (ran most_events cycle (divider_of b (timer_at b i)) places (timer_at b i) b.pads (h i))

  every-retimed : (i cycle : ℕ) (b : Board) → Every b → Every (timer_retimed i cycle b)
  unfolding timer_retimed rebooked
  every-retimed i cycle b h =
      let t = T.retimed (timer_at b i) cycle (divider_of b (timer_at b i)) in
      let k : Every (with_timer b i t) = all_set b.timers i t h (retimed (timer_at b i) cycle (divider_of b (timer_at b i)) (h i)) in
      either Every t.count.running k k

  every-all : (n i cycle : ℕ) (b : Board) → Every b → Every (all_retimed n i cycle b)
  unfolding all_retimed
  every-all zero i cycle b h = h
  every-all (suc n) i cycle b h = every-all n (i + 1) cycle (timer_retimed i cycle b) (every-retimed i cycle b h)

  every-tree : (b : Board) (t : ClockTree) (cycle : ℕ) → Every b → Every (tree_set b t cycle)
  unfolding tree_set
  every-tree b t cycle h = either Every (differing b.clocks.tree t) (every-all b.counts.timers 0 cycle _ h) h

  fresh-all : (is : List Inst) (n : ℕ) → All (map (λ (x : Inst). T.reset_state x 1) is ++ replicate n no_timer)
  fresh-all [] zero j = none
  fresh-all [] (suc n) zero = none
  fresh-all [] (suc n) (suc j) = fresh-all [] n j
  fresh-all (x ∷ xs) n zero = reset x 1
  fresh-all (x ∷ xs) n (suc j) = fresh-all xs n j

  every-fresh : (hz vcc : Float) (pins lines : ℕ) (is : List Inst) (table : List ℕ) → Every (fresh_board hz vcc pins lines is table)
  unfolding fresh_board
  every-fresh hz vcc pins lines is table = fresh-all is (8 - length (map (λ (x : Inst). T.reset_state x 1) is))

  every-performed : (b : Board) (c : Call) → Every b → Every (performed b c).board
  unfolding performed
  every-performed b (set_up s) h = every-fresh s.hz s.vcc s.pins s.lines s.timers s.table
  every-performed b (clock_tree t cycle) h = every-tree b t cycle h
  every-performed b (enable word value) h = h
  every-performed b (clear_pending irq) h = h
  every-performed b (ask q) h = h
  every-performed b (lend (pin_setting pin mode od out pu pd f) cycle places) h = h
  every-performed b (lend (outside_drive pin e) cycle places) h = h
  every-performed b (lend pin_reset cycle places) h = h
  every-performed b (lend (writing timer offset size value) cycle places) h =
      either (λ (o : Outcome). Every o.board) (clock_on b (timer_at b timer))
      (every-followed b timer cycle (written b (timer_at b timer) offset size value cycle) h (every-written b timer offset size value cycle h)) h
  every-performed b (lend (resetting timer) cycle places) h = every-reset b timer cycle h
  every-performed b (lend (delivery timer) cycle places) h = every-delivered b timer cycle places h

  every-step : (b : Board) (c : Call) → Every b → Every (step b c).board
  every-step b c h = go (answered b c)
    where
      go : Verdict (refusals b c) b (performed b c) → Every (step b c).board
      go (refuses n l u f a g) = rw (step_given b c ∙ g) h
      go (passes f a g) = rw (step_given b c ∙ g) (every-performed b c h)

  every-run : (b : Board) (cs : List Call) → Every b → Every (board_after b cs)
  unfolding board_after
  every-run b [] h = h
  every-run b (c ∷ cs) h = every-run (step b c).board cs (every-step b c h)

  pub everywhere : (cs : List Call) (i : ℕ) → P (timer_at (board_after first_board cs) i)
  everywhere cs i = every-run first_board cs (every-fresh one one 0 0 [] []) i
