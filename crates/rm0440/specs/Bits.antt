-- A register's bits and fields, by division and remainder.
use Rattle.std.specs.Prelude.{Bool, ℕ, ◌/◌, ◌%◌, ◌^◌, eqb}

-- the n bits of x from bit k on
abbrev pub field : ℕ → ℕ → ℕ → ℕ
field k n x = x / 2 ^ k % 2 ^ n

-- bit k of x is 1
abbrev pub is_set : ℕ → ℕ → Bool
is_set k x = eqb (field k 1 x) 1

-- TIMx_CR1
abbrev pub CEN : ℕ → Bool
CEN cr1 = is_set 0 cr1

abbrev pub UDIS : ℕ → Bool
UDIS cr1 = is_set 1 cr1

abbrev pub URS : ℕ → Bool
URS cr1 = is_set 2 cr1

abbrev pub OPM : ℕ → Bool
OPM cr1 = is_set 3 cr1

abbrev pub DIR : ℕ → Bool
DIR cr1 = is_set 4 cr1

abbrev pub ARPE : ℕ → Bool
ARPE cr1 = is_set 7 cr1
