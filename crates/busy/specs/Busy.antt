-- "Busy server, same record" (document 02, F-13): late deliveries, and deliveries that stop for places, leave what one delivery leaves. Proved in
-- proofs/Same.antt (`same-record : SameRecord`). Of the exported function: Served.antt.
use Rattle.std.specs.Prelude.{◌≡◌, false, List, [], ◌∷◌, ◌++◌, ℕ, ◌+◌, ◌<◌, length}
use Rattle.machine.specs.Board.{Board, with_nvic, first_board}
use Rattle.machine.specs.Call.{Call, deliver, Outcome, is_refusal}
use Rattle.machine.specs.Step.{step, run, board_after}
use Rattle.accuracy.specs.Claim.{joined}

-- a delivery: its cycle, and the places that it is lent
pub record Visit : Type 0 where
  pub cycle : ℕ
  pub places : ℕ

-- "With no other call between them, deliveries to a timer"
unfoldable pub visits : ℕ → List Visit → List Call
visits i [] = []
visits i (v ∷ vs) = deliver i v.cycle v.places ∷ visits i vs

-- "each answered 0 or 8". One at a cycle below that of the one before is answered 5, so that these are "at cycles that never fall".
unfoldable pub Answered : List Outcome → Type 0
Answered [] = Unit {0}
Answered (o ∷ os) = (is_refusal o.number ≡ false) × Answered os

-- "their event counts add up"
unfoldable pub events : List Outcome → ℕ
events [] = 0
events (o ∷ os) = o.value + events os

-- what the deliveries leave beside what the single one leaves: its whole board (the booking is a map from timer to cycle), book and count
pub record Same (b : Board) (cs : List Call) (o : Outcome) : Type 0 where
  pub board : board_after b cs ≡ o.board
  pub entries : joined (run b cs) ≡ o.entries
  pub counts : events (run b cs) ≡ o.value

-- the same but for the interrupt lines
pub record SameButLines (b : Board) (cs : List Call) (o : Outcome) : Type 0 where
  pub board : with_nvic (board_after b cs) o.board.nvic ≡ o.board
  pub entries : joined (run b cs) ≡ o.entries
  pub counts : events (run b cs) ≡ o.value

-- deliveries `vs`, then one at cycle c with l places; and a single one at that last cycle, with k places
pub record Busy (b : Board) (i : ℕ) (vs : List Visit) (c l k : ℕ) : Type 0 where
  -- "each answered 0 or 8 and the last 0"
  pub each : Answered (run b (visits i vs))
  pub last : (step (board_after b (visits i vs)) (deliver i c l)).number ≡ 0
  -- "a single delivery at that last cycle answered 0"
  pub single : (step b (deliver i c k)).number ≡ 0

abbrev pub pieces : ℕ → List Visit → ℕ → ℕ → List Call
pieces i vs c l = visits i vs ++ (deliver i c l ∷ [])

pub record SameRecord : Type 0 where
  -- on every board that calls lead to
  pub reached : (ds : List Call) (i : ℕ) (vs : List Visit) (c l k : ℕ)
      → let b = board_after first_board ds in Busy b i vs c l k → Same b (pieces i vs c l) (step b (deliver i c k))
  -- on every board that has a place for the timer, as every content of the lent arrays has: all but the lines, whose wishes need not be what the
  -- timers' flags ask for there
  pub any-board : (b : Board) (i : ℕ) → i < length b.timers → (vs : List Visit) (c l k : ℕ)
      → Busy b i vs c l k → SameButLines b (pieces i vs c l) (step b (deliver i c k))
