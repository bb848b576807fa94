-- The clock tree's call over any arrays. Assumes nothing.
use mathlib.Core.Path.{◌≡◌, refl, ap, sym, ◌∙◌}
use mathlib.Core.Bool.{Bool, true, false, not, ◌||◌, false≢true}
use mathlib.Core.List.{List}
use Prim.Native.Nat.{ℕ, ◌<◌}
use native.Mathlib.Omega.{arith}
use lib.Dec.{ltb}
use borrow.Author.Tests.{ltb-false, not-true, not-false}
use lib.Ieee.{Float}
use Rattle.clk.specs.declared.ClockTree.{ClockTree}
use Rattle.clk.specs.Clk.{good}
use Rattle.machine.specs.Board.{Board, with_last}
use Rattle.machine.specs.Call.{clock_tree, served}
use Rattle.machine.specs.Step.{step, cycle_astray, tree_set}
use Rattle.state.specs.View.{view}
use Rattle.answer.specs.declared.Answer.{Answer}
use Rattle.answer.specs.Promise.{answer, Answers}
use Rattle.answer.proofs.Given.{away, gives}

pub tree-good : (t : ClockTree) (g : Bool) → g ≡ good t → not g ≡ false → good t ≡ true
tree-good t g e h = sym e ∙ not-false g h

pub tree-bad : (w : List ℕ) (x : List Float) (t : ClockTree) (cycle : ℕ) (g : Bool) → g ≡ good t → not g ≡ true → (r : Answer) → r ≡ answer 4 0 0
    → Answers (step (view w x) (clock_tree t cycle)) r w w x x
unfolding step
tree-bad w x t cycle g e o r a = away w x (step (view w x) (clock_tree t cycle)) 4 (rw (sym e ∙ not-true g o) refl) r a

pub tree-astray : (w : List ℕ) (x : List Float) (t : ClockTree) (cycle : ℕ) (g : Bool) → g ≡ good t → not g ≡ false
    → (b : Bool) → b ≡ cycle_astray (view w x) cycle → b ≡ true → (r : Answer) → r ≡ answer 5 0 0 → Answers (step (view w x) (clock_tree t cycle)) r w w x x
unfolding step
tree-astray w x t cycle g e o b f p r a = away w x (step (view w x) (clock_tree t cycle)) 5 (rw (sym e ∙ not-false g o, sym f ∙ p) refl) r a

pub tree-gives : (w w₁ w₂ : List ℕ) (x x₁ : List Float) (t : ClockTree) (cycle : ℕ) (g : Bool) → g ≡ good t → not g ≡ false
    → (b : Bool) → b ≡ cycle_astray (view w x) cycle → b ≡ false → view w₁ x₁ ≡ tree_set (view w x) t cycle → view w₂ x₁ ≡ with_last (view w₁ x₁) cycle
    → (r : Answer) → r ≡ answer 0 0 0 → Answers (step (view w x) (clock_tree t cycle)) r w w₂ x x₁
unfolding step
tree-gives w w₁ w₂ x x₁ t cycle g e o b f p q s r a =
    rw (a, sym e ∙ not-false g o, sym f ∙ p) (gives (served 0 (with_last (tree_set (view w x) t cycle) cycle)) (answer 0 0 0) w w₂ x x₁ refl refl refl
    (s ∙ ap (λ (y : Board). with_last y cycle) q) refl)

pub tree-cycle : (b : Board) (cycle : ℕ) (a : Bool) → a ≡ cycle_astray b cycle → a ≡ false → cycle < 9223372036854775808
tree-cycle b cycle a e o = go (ltb 4611686018427387904 cycle) refl (sym e ∙ o)
  where
    go : (t : Bool) → ltb 4611686018427387904 cycle ≡ t → (t || ltb cycle b.counts.last) ≡ false → cycle < 9223372036854775808
    go true p q = absurd (false≢true (sym q))
    go false p q = omega (arith, ltb-false 4611686018427387904 cycle p)
