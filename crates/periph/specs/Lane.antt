-- Lanes: the part of a 32-bit register that a read or write of 1, 2 or 4 bytes reaches.
use Rattle.std.specs.Prelude.{cond, ℕ, ◌+◌, ◌*◌, ◌/◌, ◌%◌, ◌^◌, eqb}

-- the lane's lowest bit: "8 × (offset mod 4)"
abbrev pub lane_start : ℕ → ℕ
lane_start offset = 8 * (offset % 4)

-- "16 or 8 bits": 16 for size 2; 8 for size 1 and for a size that the caller refuses
abbrev pub width : ℕ → ℕ
width size = cond (eqb size 2) 16 8

-- "a read of size 4 gives it all; sizes 2 and 1 shift right by 8 × (offset mod 4) and keep 16 or 8 bits"
unfoldable pub lane_read : ℕ → ℕ → ℕ → ℕ
lane_read reg offset size = cond (eqb size 4) reg (reg / 2 ^ lane_start offset % 2 ^ width size)

-- old with its bits from bit a up to bit b replaced by lane, in 32 bits: "bits beyond bit 31 are lost"
unfoldable pub merged : ℕ → ℕ → ℕ → ℕ → ℕ
merged old a b lane = (old % 2 ^ a + lane * 2 ^ a + old / 2 ^ b * 2 ^ b) % 2 ^ 32

-- "a partial write merges its lane into the register's present value"
unfoldable pub lane_write : ℕ → ℕ → ℕ → ℕ → ℕ
lane_write old offset size value =
    cond (eqb size 4) value (merged old (lane_start offset) (lane_start offset + width size) (value % 2 ^ width size))
