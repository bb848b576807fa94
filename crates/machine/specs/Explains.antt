-- What is proved of the query why (document 02, F-12; proofs/Whys.antt).
use Rattle.std.specs.Prelude.{◌≡◌, true, false, List, ℕ, ◌≤◌, ◌<◌}
use Rattle.machine.specs.Board.{Board, timer_at, first_board}
use Rattle.machine.specs.Call.{Call, Outcome, query_why}
use Rattle.machine.specs.Step.{step, board_after}
use Rattle.machine.specs.Why.{feeds, feeder, is_reason}

-- "The reason given is proved true of the board and every earlier one false": of the query's answer, where it is served
pub record Given (b : Board) (pin cycle : ℕ) (o : Outcome) : Type 0 where
  pub one_of : o.value ≤ 10
  pub is_true : is_reason b pin cycle o.value ≡ true
  pub earlier-false : (k : ℕ) → k < o.value → is_reason b pin cycle k ≡ false

-- the timer that `feeder` finds of a signal is the board's and feeds it; where it finds none, none of the board's does
pub record Found (b : Board) (s : ℕ) : Type 0 where
  pub feeding : feeder b s < b.counts.timers → feeds (timer_at b (feeder b s)).inst s ≡ true
  pub none : b.counts.timers ≤ feeder b s → (i : ℕ) → i < b.counts.timers → feeds (timer_at b i).inst s ≡ false

pub record Explains : Type 0 where
  pub given : (b : Board) (pin cycle : ℕ) → (step b (query_why pin cycle)).number ≡ 0 → Given b pin cycle (step b (query_why pin cycle))
  pub found : (b : Board) (s : ℕ) → Found b s
  -- "6 this pin does not route it, which F-4 is proved to rule out"
  pub never-six : (cs : List Call) (pin cycle : ℕ) → (step (board_after first_board cs) (query_why pin cycle)).value ≡ 6 → ⊥
