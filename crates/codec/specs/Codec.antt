-- A timer as 40 words: one word for each field, in the order of the struct's fields. Every content of the words is a value in range: a
-- word counts by its remainder. Manual mode came later and is the last word.
use Rattle.std.specs.Prelude.{List, [], ◌∷◌, ℕ, ◌+◌, ◌%◌, ◌<◌, ◌≤◌, get_or}
use Rattle.tim.specs.declared.Timer.{Timer}
use Rattle.tim.specs.declared.Inst.{Inst}
use Rattle.tim.specs.declared.Regs.{Regs}
use Rattle.tim.specs.declared.Chan.{Chan}
use Rattle.tim.specs.declared.Count.{Count}
use Rattle.codec.specs.Pin.{flag_at}

-- word k of b as a number of 16 or 32 bits
abbrev pub u16_at : List ℕ → ℕ → ℕ
u16_at b k = get_or b k 0 % 65536

abbrev pub u32_at : List ℕ → ℕ → ℕ
u32_at b k = get_or b k 0 % 4294967296

-- ---- a timer: its parts, from word k on

-- what set-up fixes: seven words from word k on, and manual mode in word m
abbrev pub inst_at : List ℕ → ℕ → ℕ → Inst
inst_at b k m = record {
  n = u32_at b k;
  width = u32_at b (k + 1);
  channels = u32_at b (k + 2);
  apb = u32_at b (k + 3);
  irq = u32_at b (k + 4);
  en_reg = u32_at b (k + 5);
  en_bit = u32_at b (k + 6);
  manual = flag_at b m;
}

-- a prescaler is below 65536
abbrev pub regs_at : List ℕ → ℕ → Regs
regs_at b k = record {
  cr1 = u32_at b k;
  cr2 = u32_at b (k + 1);
  smcr = u32_at b (k + 2);
  dier = u32_at b (k + 3);
  sr = u32_at b (k + 4);
  ccer = u32_at b (k + 5);
  psc = u16_at b (k + 6);
  arr = u32_at b (k + 7);
}

abbrev pub chan_at : List ℕ → ℕ → Chan
chan_at b k = record {
  ccmr = u32_at b k ∷ u32_at b (k + 1) ∷ [];
  ccr = u32_at b (k + 2) ∷ u32_at b (k + 3) ∷ u32_at b (k + 4) ∷ u32_at b (k + 5) ∷ [];
  ccr_act = u32_at b (k + 6) ∷ u32_at b (k + 7) ∷ u32_at b (k + 8) ∷ u32_at b (k + 9) ∷ [];
  cc_done = flag_at b (k + 10) ∷ flag_at b (k + 11) ∷ flag_at b (k + 12) ∷ flag_at b (k + 13) ∷ [];
  oc = flag_at b (k + 14) ∷ flag_at b (k + 15) ∷ flag_at b (k + 16) ∷ flag_at b (k + 17) ∷ [];
}

-- the word of the step's cycles holds one less, so that a step is 1 to 2^29 cycles
abbrev pub count_at : List ℕ → ℕ → Count
count_at b k = record {
  psc_act = u16_at b k;
  arr_act = u32_at b (k + 1);
  cnt0 = u32_at b (k + 2);
  base = get_or b (k + 3) 0 % 9223372036854775808;
  tick = get_or b (k + 4) 0 % 536870912 + 1;
  running = flag_at b (k + 5);
}

-- the bounds of a counter that its words can hold
pub record CountFit (k : Count) : Type 0 where
  pub psc-lt : k.psc_act < 65536
  pub tick-pos : 0 < k.tick
  pub tick-le : k.tick ≤ 536870912
  pub base-lt : k.base < 9223372036854775808

unfoldable pub decode_timer : List ℕ → Timer
decode_timer b = record { inst = inst_at b 0 39; regs = regs_at b 7; chan = chan_at b 15; count = count_at b 33 }
