-- A call's arguments as the definitions have them.
use Rattle.std.specs.Prelude.{ℕ, Float}
use Rattle.clk.specs.declared.ClockTree.{ClockTree}

abbrev pub tree_given : Float → Float → ℕ → ℕ → ℕ → ℕ → ℕ → ℕ → ClockTree
tree_given sys hclk p₁ p₂ p₃ p₄ t₁ t₂ = record {
  sysclk_hz = sys;
  hclk_hz = hclk;
  ppre1 = p₁;
  ppre2 = p₂;
  ppre3 = p₃;
  ppre4 = p₄;
  tim1 = t₁;
  tim2 = t₂;
}
