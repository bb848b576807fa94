-- What the function of a call promises: everything that it answers and leaves is what `step` gives.
use Rattle.std.specs.Prelude.{◌≡◌, true, List, ℕ, length, Float}
use Rattle.machine.specs.Call.{Outcome, is_refusal}
use Rattle.state.specs.View.{view}
use Rattle.state.specs.declared.LentBoard.{LentBoard}
use Rattle.state.specs.declared.SeenBoard.{SeenBoard}
use Rattle.answer.specs.declared.Answer.{Answer}

abbrev pub answer : ℕ → ℕ → ℕ → Answer
answer n v k = record { number = n; value = v; count = k }

-- r answers as o says, and the arrays that held w and x hold o's board. A refusal "change[s] nothing": not a bit of the arrays.
pub record Answers (o : Outcome) (r : Answer) (w w₁ : List ℕ) (x x₁ : List Float) : Type 0 where
  pub number : r.number ≡ o.number
  pub value : r.value ≡ o.value
  pub count : r.count ≡ length o.entries
  pub board : view w₁ x₁ ≡ o.board
  pub kept : is_refusal r.number ≡ true → (w₁ ≡ w) × (x₁ ≡ x)

-- the same of a lent board
abbrev pub AnswersLent : Outcome → Answer → LentBoard → LentBoard → Type 0
AnswersLent o r b b₁ = Answers o r b.words.now b₁.words.now b.reals.now b₁.reals.now

-- a query: the board is as it was
abbrev pub Tells : Outcome → Answer → SeenBoard → Type 0
Tells o r b = Answers o r b.words.now b.words.now b.reals.now b.reals.now
