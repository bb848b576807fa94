-- The bits that each register keeps of a write, and the offsets of CCRx (RM0440, the register descriptions; document 01, "Register and lane").
use Rattle.std.specs.Prelude.{Bool, ◌&&◌, List, [], ◌∷◌, ◌++◌, ℕ, zero, suc, ◌+◌, ◌-◌, ◌/◌, ◌^◌, leb, get_or}
use Rattle.std.specs.Int.Bits.{bit_and}

-- n bits from bit k on
unfoldable pub bits : ℕ → ℕ → List ℕ
bits k zero = []
bits k (suc n) = k ∷ bits (k + 1) n

-- by register index, offset / 4. CNT, ARR and CCRx keep the timer's width of what stands here; of SR these are the flags that a written 0 clears. The manual has other bits and registers (docs/DIFFERENCES.md, reserved-bits, dropped-bits, missing-registers, absent-channels).
abbrev pub kept_bits : List (List ℕ)
kept_bits =
    bits 0 10  -- CR1: CEN UDIS URS OPM DIR CMS ARPE CKD
    ∷ bits 0 32  -- CR2
    ∷ bits 0 32  -- SMCR
    ∷ (bits 0 5 ++ (6 ∷ []) ++ bits 8 5 ++ (14 ∷ []))  -- DIER: UIE CC1IE to CC4IE, TIE, UDE CC1DE to CC4DE, TDE
    ∷ (bits 0 5 ++ (6 ∷ []) ++ bits 9 4)  -- SR: UIF CC1IF to CC4IF, TIF, CC1OF to CC4OF
    ∷ []  -- EGR: nothing is stored
    ∷ bits 0 32  -- CCMR1
    ∷ bits 0 32  -- CCMR2
    ∷ (bits 0 2 ++ bits 4 2 ++ bits 8 2 ++ bits 12 2)  -- CCER: CCxE CCxP
    ∷ bits 0 32  -- CNT
    ∷ bits 0 16  -- PSC
    ∷ bits 0 32  -- ARR
    ∷ []  -- offset 30: none
    ∷ bits 0 32 ∷ bits 0 32 ∷ bits 0 32 ∷ bits 0 32  -- CCR1 to CCR4
    ∷ []

-- the number that has these bits
unfoldable pub mask : List ℕ → ℕ
mask [] = 0
mask (k ∷ ks) = 2 ^ k + mask ks

abbrev pub kept_mask : ℕ → ℕ
kept_mask reg = mask (get_or kept_bits reg [])

-- "Bits kept on a write are a fixed table"
abbrev pub kept : ℕ → ℕ → ℕ
kept reg v = bit_and v (kept_mask reg)

-- CCR1 to CCR4, and the channel of each, by offset
abbrev pub is_ccr : ℕ → Bool
is_ccr off = leb 0x34 off && leb off 0x40

abbrev pub ccr_channel : ℕ → ℕ
ccr_channel off = (off - 0x34) / 4
