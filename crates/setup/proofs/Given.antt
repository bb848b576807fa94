-- Set-up answers with a number alone. Assumes nothing.
use mathlib.Core.Path.{◌≡◌, refl, sym}
use mathlib.Core.Bool.{not}
use mathlib.Core.List.{List}
use Prim.Native.Nat.{ℕ}
use lib.Ieee.{Float}
use lib.ListN.{length}
use Rattle.real.specs.Real.{positive}
use Rattle.machine.specs.Board.{Board}
use Rattle.machine.specs.Call.{Setup, Outcome, set_up}
use Rattle.machine.specs.Step.{step, within_limits}
use Rattle.machine.proofs.NumberLaws.{refusal-nonzero, either}
use Rattle.state.specs.View.{view}
use Rattle.setup.specs.Setup.{Answered}
use Rattle.answer.specs.Promise.{answer, Answers}

pub record Plain (o : Outcome) : Type 0 where
  pub value : o.value ≡ 0
  pub entries : length o.entries ≡ 0

plain : (b : Board) (s : Setup) → Plain (step b (set_up s))
unfolding step
plain b s =
    either Plain (not (within_limits s)) (record { value = refl; entries = refl })
    (either Plain (not (positive s.hz)) (record { value = refl; entries = refl }) (record { value = refl; entries = refl }))

pub set-up-answers : (s : Setup) (w w₁ : List ℕ) (x x₁ : List Float) (n : ℕ) → Answered s w x w₁ x₁ n → Answers (step (view w x) (set_up s)) (answer n 0 0) w w₁ x x₁
set-up-answers s w w₁ x x₁ n h = record {
  number = h.number;
  value = sym (plain (view w x) s).value;
  count = sym (plain (view w x) s).entries;
  board = h.board;
  kept = λ p. (h.words (refusal-nonzero n p), h.reals (refusal-nonzero n p));
}
