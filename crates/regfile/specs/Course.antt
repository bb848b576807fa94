-- A write of CR1 that neither starts, stops nor turns the timer.
use Rattle.std.specs.Prelude.{Bool, ◌&&◌, ℕ, ◌/◌, ◌%◌, eqb}

-- CEN and DIR as they were
abbrev pub same_course : ℕ → ℕ → Bool
same_course old new = eqb (old % 2) (new % 2) && eqb (old / 16 % 2) (new / 16 % 2)
