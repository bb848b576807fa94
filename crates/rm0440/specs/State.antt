-- The general-purpose timer's state, as RM0440's block diagram and "Time-base unit" have it. Here and in Clock, Write and Read sentences in
-- quotation marks give the manual's text from memory, or as documents 01 and 02 have it; F-n is a request of document 02.
use Rattle.std.specs.Prelude.{Bool, true, false, cond, not, ◌&&◌, List, [], ◌∷◌, ℕ, ◌+◌, ◌-◌, ◌/◌, ◌^◌, eqb, ltb, get_or}
use Rattle.std.specs.Int.Bits.{bit_and, bit_or}
use Rattle.rm0440.specs.Bits.{field, DIR}
use Rattle.rm0440.specs.Output as Out
use Rattle.rm0440.specs.Rules.{Rules}

pub record Timer : Type 0 where
  -- how it is built: channels, 0 to 4, and the largest count
  pub channels : ℕ
  pub max : ℕ
  -- the registers as software sees them. CR1 and SR, of which the timer itself changes bits: CEN and DIR; the flags. CR2, SMCR, DIER,
  -- CCER, PSC and ARR by offset / 4, the other places 0. CCMR1 and CCMR2. CCR1 to CCR4.
  pub cr1 : ℕ
  pub sr : ℕ
  pub regs : List ℕ
  pub modes : List ℕ
  pub compares : List ℕ
  -- the shadow registers: prescaler, reload and compares in use
  pub psc : ℕ
  pub arr : ℕ
  pub ccr : List ℕ
  -- the counter is enabled (the manual's CNT_EN); kernel clocks since its last step; its count
  pub on : Bool
  pub pre : ℕ
  pub cnt : ℕ
  -- OCxREF of each channel as last latched; PWM and forced modes do not read it
  pub ref : List Bool
  -- only the Rust's rule of a match reads it: the channel's match of this period is past
  pub done : List Bool

-- ---- reading the state

abbrev pub reg : Timer → ℕ → ℕ
reg t r = get_or t.regs r 0

-- something for each of four channels
abbrev pub each : {A : Type 0} → (ℕ → A) → List A
each f = f 0 ∷ f 1 ∷ f 2 ∷ f 3 ∷ []

-- something done for each channel in turn
abbrev pub in_turn : {A : Type 0} → (ℕ → A → A) → A → A
in_turn f x = f 3 (f 2 (f 1 (f 0 x)))

-- channel ch's compare in use; its byte of CCMR1 or CCMR2; its mode
abbrev pub ccr_of : Timer → ℕ → ℕ
ccr_of t ch = get_or t.ccr ch 0

abbrev pub byte : Timer → ℕ → ℕ
byte t ch = Out.ccmr_byte ch (get_or t.modes (ch / 2) 0)

abbrev pub mode : Timer → ℕ → ℕ
mode t ch = Out.OCxM (byte t ch)

abbrev pub is_output : Timer → ℕ → Bool
is_output t ch = cond (ltb ch t.channels) (Out.is_output (byte t ch)) false

-- "DIR: counter used as downcounter"; a basic timer has no DIR and no CMS
abbrev pub down : Timer → Bool
down t = cond (eqb t.channels 0) false (DIR t.cr1)

abbrev pub CMS : ℕ → ℕ
CMS x = field 5 2 x

-- "Center-aligned mode is active when the CMS bits are not 00" (F-8)
abbrev pub centre : Rules → Timer → Bool
centre r t = r.centre-aligned && (not (eqb t.channels 0) && not (eqb (CMS t.cr1) 0))

-- ---- changing it

abbrev pub with_regs : Timer → ℕ → ℕ → List ℕ → Timer
with_regs t c f l = record { channels = t.channels; max = t.max; cr1 = c; sr = f; regs = l; modes = t.modes; compares = t.compares; psc = t.psc; arr = t.arr; ccr = t.ccr; on = t.on; pre = t.pre; cnt = t.cnt; ref = t.ref; done = t.done }

abbrev pub with_channel_regs : Timer → List ℕ → List ℕ → Timer
with_channel_regs t m c = record { channels = t.channels; max = t.max; cr1 = t.cr1; sr = t.sr; regs = t.regs; modes = m; compares = c; psc = t.psc; arr = t.arr; ccr = t.ccr; on = t.on; pre = t.pre; cnt = t.cnt; ref = t.ref; done = t.done }

abbrev pub with_shadows : Timer → ℕ → ℕ → List ℕ → Timer
with_shadows t p a c = record { channels = t.channels; max = t.max; cr1 = t.cr1; sr = t.sr; regs = t.regs; modes = t.modes; compares = t.compares; psc = p; arr = a; ccr = c; on = t.on; pre = t.pre; cnt = t.cnt; ref = t.ref; done = t.done }

abbrev pub with_count : Timer → Bool → ℕ → ℕ → Timer
with_count t o p c = record { channels = t.channels; max = t.max; cr1 = t.cr1; sr = t.sr; regs = t.regs; modes = t.modes; compares = t.compares; psc = t.psc; arr = t.arr; ccr = t.ccr; on = o; pre = p; cnt = c; ref = t.ref; done = t.done }

abbrev pub with_matches : Timer → List Bool → List Bool → Timer
with_matches t f d = record { channels = t.channels; max = t.max; cr1 = t.cr1; sr = t.sr; regs = t.regs; modes = t.modes; compares = t.compares; psc = t.psc; arr = t.arr; ccr = t.ccr; on = t.on; pre = t.pre; cnt = t.cnt; ref = f; done = d }

abbrev pub with_cr1 : ℕ → Timer → Timer
with_cr1 v t = with_regs t v t.sr t.regs

abbrev pub with_sr : ℕ → Timer → Timer
with_sr v t = with_regs t t.cr1 v t.regs

-- bit k of x set to b
abbrev pub with_bit : ℕ → Bool → ℕ → ℕ
with_bit k b x = cond b (bit_or x (2 ^ k)) (bit_and x (0xffff_ffff - 2 ^ k))

-- flag k of SR is set
abbrev pub flag : ℕ → Timer → Timer
flag k t = with_sr (with_bit k true t.sr) t

-- CCxIF of the channels of which f is true
abbrev pub cc_flags : (ℕ → Bool) → ℕ → ℕ
cc_flags f sr = in_turn (λ ch x. cond (f ch) (with_bit (ch + 1) true x) x) sr
