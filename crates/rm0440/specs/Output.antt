-- The output stage of a channel (RM0440, "Output compare mode", "Forced output mode", "PWM mode", TIMx_CCMRx and TIMx_CCER).
use Rattle.std.specs.Prelude.{Bool, true, false, cond, not, ℕ, ◌+◌, ◌*◌, ◌%◌, eqb, ltb, leb}
use Rattle.rm0440.specs.Bits.{field, is_set}

-- OCxM, its three low bits (docs/DIFFERENCES.md, mode-fourth-bit)
abbrev pub frozen : ℕ
frozen = 0

abbrev pub active_on_match : ℕ
active_on_match = 1

abbrev pub inactive_on_match : ℕ
inactive_on_match = 2

abbrev pub toggle : ℕ
toggle = 3

abbrev pub force_inactive : ℕ
force_inactive = 4

abbrev pub force_active : ℕ
force_active = 5

abbrev pub pwm_mode1 : ℕ
pwm_mode1 = 6

abbrev pub pwm_mode2 : ℕ
pwm_mode2 = 7

-- "PWM mode 1: in upcounting, the channel is active as long as TIMx_CNT < TIMx_CCRx else inactive. In downcounting, it is inactive as long as TIMx_CNT > TIMx_CCRx else active."
abbrev pub pwm1 : Bool → ℕ → ℕ → Bool
pwm1 down cnt ccr = cond down (leb cnt ccr) (ltb cnt ccr)

-- OCxREF: PWM mode 2 is the opposite of PWM mode 1; the forced modes force it; the others keep what the last match left (docs/DIFFERENCES.md, mode-change-latch)
unfoldable pub ocref : ℕ → Bool → ℕ → ℕ → Bool → Bool
ocref mode down cnt ccr latched =
    cond (eqb mode force_inactive) false
    (cond (eqb mode force_active) true
    (cond (eqb mode pwm_mode1) (pwm1 down cnt ccr)
    (cond (eqb mode pwm_mode2) (not (pwm1 down cnt ccr)) latched)))

-- what a match leaves: "set to active level on match", "set to inactive level on match", "toggle"
unfoldable pub at_match : ℕ → Bool → Bool
at_match mode latched =
    cond (eqb mode active_on_match) true (cond (eqb mode inactive_on_match) false (cond (eqb mode toggle) (not latched) latched))

-- a channel's byte of TIMx_CCMR1 or TIMx_CCMR2: two channels to a register
abbrev pub ccmr_byte : ℕ → ℕ → ℕ
ccmr_byte ch ccmr = field (8 * (ch % 2)) 8 ccmr

-- of that byte: CCxS = 0, "channel is configured as output", an input does nothing (docs/DIFFERENCES.md, input-capture), written at any time (ccs-locked); OCxPE; OCxM
abbrev pub is_output : ℕ → Bool
is_output byte = eqb (field 0 2 byte) 0

abbrev pub OCxPE : ℕ → Bool
OCxPE byte = is_set 3 byte

abbrev pub OCxM : ℕ → ℕ
OCxM byte = field 4 3 byte

-- TIMx_CCER: CCxE and CCxP
abbrev pub CCxE : ℕ → ℕ → Bool
CCxE ch ccer = is_set (4 * ch) ccer

abbrev pub CCxP : ℕ → ℕ → Bool
CCxP ch ccer = is_set (4 * ch + 1) ccer

-- "Output control bit": disabled the output is 0; enabled it is OCxREF, or its opposite where CCxP is set
abbrev pub level : Bool → Bool → Bool → Bool
level enabled polarity ref = cond enabled (cond polarity (not ref) ref) false
