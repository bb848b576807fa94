-- The words from `at` on.
use Rattle.state.proofs.Cut.{front-take}
use lib.ListN.{take, drop, length, length-drop}
use mathlib.Core.Path.{◌≡◌, ap, sym, ◌∙◌}
use Prim.Native.Nat.{ℕ, ◌+◌, ◌-◌}
use native.Mathlib.Omega.{arith}
use Rattle.state.proofs.get.Goals as goal

pub returns : goal.returns
returns c =
    let n = length c.args.b.now in
    c.copy_from_slice.ensures.after ∙ ap (λ (m : ℕ). take m (drop c.args.at c.args.words.now)) (add-sub c.args.at n)
    ∙ sym (front-take 0 n (drop c.args.at c.args.words.now) (omega (arith, length-drop c.args.at c.args.words.now, c.told-words, c.requires)))
  where
    add-sub : (a b : ℕ) → (a + b) - a ≡ b
    add-sub a b = omega arith
