-- A write of a register, and what it answers.
use Rattle.std.specs.Prelude.{ℕ, Result, Ok, Err}
use Rattle.machine.specs.Board.{Board, timer_at}
use Rattle.machine.specs.Call.{Outcome}
use Rattle.machine.specs.Deliver.{divider_of}
use Rattle.machine.specs.Step.{refuse_if, register, present, counter_astray, followed}
use Rattle.regs.specs.Regs as R
use Rattle.periph.specs.Lane.{lane_write}
use Rattle.answer.specs.declared.Answer.{Answer}
use Rattle.answer.specs.declared.Refusal.{Refusal as Why}
use Rattle.answer.specs.Promise.{answer}
use Rattle.answer.specs.Refused.{number_of}

-- a write of the value v to register off
unfoldable pub written_by : Board → ℕ → ℕ → ℕ → ℕ → Outcome
written_by b i off v cycle =
    let w = R.reg_written (timer_at b i) off v cycle (divider_of b (timer_at b i)) in
    refuse_if (counter_astray off w.timer) 7 b (followed b i cycle w)

-- a write while the timer's clock is on: the part of `step` below its gate
abbrev pub written_on : Board → ℕ → ℕ → ℕ → ℕ → ℕ → Outcome
written_on b i offset size value cycle =
    written_by b i (register offset) (lane_write (present (timer_at b i) (register offset) cycle) offset size value) cycle

-- what a write below the gate answers: served with so many entries, or refused
abbrev pub written : Result Unit Why → ℕ → Answer
written (Ok u) k = answer 0 0 k
written (Err r) k = answer (number_of r) 0 0
