-- The number of a refusal.
use Rattle.std.specs.Prelude.{ℕ}
use Rattle.shift.specs.declared.Refusal.{Refusal}
use Rattle.shift.specs.declared.Refusal.TheVariants.{Reversed, OutOfOrder}

-- 9 "shift reversed", 10 "book out of order"
abbrev pub number_with : Refusal → ℕ
number_with Reversed = 9
number_with OutOfOrder = 10
