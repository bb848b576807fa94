-- What the definitions of registers promise (document 01, "Register and lane" and "Output, signal, pin"). Assumes nothing.
use mathlib.Core.Path.{◌≡◌, refl, ◌∙◌, sym, ap}
use mathlib.Core.Bool.{Bool, true, false, cond, not, ◌&&◌, ◌||◌, false≢true}
use mathlib.Core.List.{List, [], ◌∷◌, map}
use Rattle.std.proofs.Common.{None}
use mathlib.Core.Logic.{◌⊎◌, inl, inr}
use Prim.Native.Nat.{ℕ, zero, suc, ◌+◌, ◌-◌, ◌*◌, ◌/◌, ◌^◌, ◌≤◌, ◌<◌, min}
use lib.Dec.{eqb, leb-zero}
use lib.Bits.{bit_and, bit_or, and_shr, and_mod, or_shr, or_mod}
use lib.ListN.{get_or, set, length}
use lib.Seq.{get_or-set_same}
use native.Mathlib.Omega.{arith}
use native.Mathlib.Nat.{add-zero, sub-zero, sub_self, zero-div, zero-mod, mod-lt, min-eq_left, min-eq_right, not-suc-le-zero}
use borrow.Author.Tests.{ne_eqb, eq-eqb, le-leb, lt-leb, eqb-true, eqb-false}
use Rattle.rm0440.specs.Bits.{field, is_set, CEN, UDIS, ARPE}
use Rattle.rm0440.specs.Counter.{step_cycles}
use Rattle.rm0440.specs.Output as Out
use Rattle.rm0440.specs.Registers.{kept_bits, kept_mask, mask, bits}
use Rattle.tim.specs.declared.Timer.{Timer}
use Rattle.tim.specs.declared.Regs.{Regs}
use Rattle.tim.specs.declared.Ahead.{Ahead}
use Rattle.regs.specs.declared.Written.{Written}
use Rattle.tim.specs.Timer.{with_regs, down, ccmr_byte, ccr_in_use, with_cr1}
use Rattle.tim.specs.Count.{counts, up_from, down_from, ticks_at, cnt_at, synced}
use Rattle.tim.specs.Next.{compares, consider, next_steps, next_event}
use Rattle.tim.specs.Change.{recomputed, recomputed_after_update, reloaded, restarted, ended, updated, started, stopped}
use Rattle.regs.specs.Regs.{kept, kept_cr1, kept_width, kept_sr, with_psc, only, turned, cr1_written, cnt_written, arr_written, ccr_written, ccmr_written, ccer_written, channel_written, reg_written, channel_read, reg_read, is_ccr}

-- "CR1 3ff, DIER 5f5f, CCER 3333, PSC ffff; CR2, SMCR, CCMR all 32", and SR's 1e5f: the table as numbers
pub masks : map kept_mask (0 ∷ 1 ∷ 2 ∷ 3 ∷ 4 ∷ 6 ∷ 7 ∷ 8 ∷ 10 ∷ [])
    ≡ 0x3ff ∷ 0xffff_ffff ∷ 0xffff_ffff ∷ 0x5f5f ∷ 0x1e5f ∷ 0xffff_ffff ∷ 0xffff_ffff ∷ 0x3333 ∷ 0xffff ∷ []
unfolding mask bits
masks = refl

-- what holds of both holds of either
either : {A : Type 0} (P : A → Type 0) (b : Bool) {x y : A} → P x → P y → P (cond b x y)
either P true p q = p
either P false p q = q

-- ---- what stays where the reference moves

module _ (t : Timer) (now : ℕ) where
  inst-synced : (synced t now).inst ≡ t.inst
  unfolding synced
  inst-synced = either (λ (s : Timer). s.inst ≡ t.inst) t.count.running refl refl

  regs-synced : (synced t now).regs ≡ t.regs
  unfolding synced
  regs-synced = either (λ (s : Timer). s.regs ≡ t.regs) t.count.running refl refl

  chan-synced : (synced t now).chan ≡ t.chan
  unfolding synced
  chan-synced = either (λ (s : Timer). s.chan ≡ t.chan) t.count.running refl refl

  reload-synced : (synced t now).count.arr_act ≡ t.count.arr_act
  unfolding synced
  reload-synced = either (λ (s : Timer). s.count.arr_act ≡ t.count.arr_act) t.count.running refl refl

  counts-synced : counts (synced t now) ≡ counts t
  unfolding synced
  counts-synced = either (λ (s : Timer). counts s ≡ counts t) t.count.running refl refl

-- every timer of the code: its arrays have their lengths
pub record Shaped (t : Timer) : Type 0 where
  pub ccmr-length : length t.chan.ccmr ≡ 2
  pub ccr-length : length t.chan.ccr ≡ 4
  pub act-length : length t.chan.ccr_act ≡ 4

some : (t : Timer) → 0 < t.inst.channels → eqb t.inst.channels 0 ≡ false
some t h = ne_eqb t.inst.channels 0 (λ e. omega arith)

-- offset of CCR1 to CCR4, by the channel from 0
abbrev pub ccr_offset : ℕ → ℕ
ccr_offset ch = 0x34 + 4 * ch

-- ---- a register reads as the bits that it keeps of what was written

module _ (t : Timer) (v now div : ℕ) where
  -- "CR1 3ff (8f without channels)"
  pub read-cr1 : reg_read (reg_written t 0x00 v now div).timer 0x00 now ≡ kept_cr1 t v
  unfolding reg_read reg_written cr1_written turned started stopped recomputed
  read-cr1 =
      let s = with_cr1 (synced t now) (kept_cr1 t v) in
      let turns : (turned t.regs.cr1 s).regs.cr1 ≡ kept_cr1 t v = either (λ (x : Timer). x.regs.cr1 ≡ kept_cr1 t v) (eqb (field 4 1 t.regs.cr1) (field 4 1 (kept_cr1 t v))) refl refl in
      either (λ (x : Timer). x.regs.cr1 ≡ kept_cr1 t v) (CEN (kept_cr1 t v))
      (either (λ (x : Timer). x.regs.cr1 ≡ kept_cr1 t v) (CEN t.regs.cr1) turns refl)
      (either (λ (x : Timer). x.regs.cr1 ≡ kept_cr1 t v) (CEN t.regs.cr1) (ap (λ (r : Regs). r.cr1) (regs-synced s now)) turns)

  -- "CR2, SMCR, CCMR all 32"
  pub read-cr2 : reg_read (reg_written t 0x04 v now div).timer 0x04 now ≡ kept 1 v
  unfolding reg_read reg_written
  read-cr2 = refl

  pub read-smcr : reg_read (reg_written t 0x08 v now div).timer 0x08 now ≡ kept 2 v
  unfolding reg_read reg_written
  read-smcr = refl

  -- "DIER 5f5f"
  pub read-dier : reg_read (reg_written t 0x0c v now div).timer 0x0c now ≡ kept 3 v
  unfolding reg_read reg_written
  read-dier = refl

  -- "SR: a written 0 clears a bit of 1e5f; nothing sets one"
  pub read-sr : reg_read (reg_written t 0x10 v now div).timer 0x10 now ≡ kept_sr t.regs.sr v
  unfolding reg_read reg_written
  read-sr = refl

  -- "PSC ffff"
  pub read-psc : reg_read (reg_written t 0x28 v now div).timer 0x28 now ≡ kept 10 v
  unfolding reg_read reg_written
  read-psc = refl

  -- "CNT, ARR, CCR the timer's width"
  pub read-arr : reg_read (reg_written t 0x2c v now div).timer 0x2c now ≡ kept_width t (kept 11 v)
  unfolding reg_read reg_written arr_written recomputed
  read-arr = either (λ (w : Written). w.timer.regs.arr ≡ kept_width t (kept 11 v)) (ARPE t.regs.cr1) refl refl

  module _ (c : 0 < t.inst.channels) where
    write-ccmr1 : reg_written t 0x18 v now div ≡ ccmr_written t 0 (kept 6 v) now
    unfolding reg_written channel_written
    write-ccmr1 = rw (some t c)

    write-ccmr2 : reg_written t 0x1c v now div ≡ ccmr_written t 1 (kept 7 v) now
    unfolding reg_written channel_written
    write-ccmr2 = rw (some t c)

    write-ccer : reg_written t 0x20 v now div ≡ ccer_written t (kept 8 v) now
    unfolding reg_written channel_written
    write-ccer = rw (some t c)

    write-ccr : (ch : ℕ) → ch < 4 → reg_written t (ccr_offset ch) v now div ≡ ccr_written t ch (kept (13 + ch) v) now
    unfolding reg_written channel_written
    write-ccr zero h = rw (some t c)
    write-ccr (suc zero) h = rw (some t c)
    write-ccr (suc (suc zero)) h = rw (some t c)
    write-ccr (suc (suc (suc zero))) h = rw (some t c)
    write-ccr (suc (suc (suc (suc ch)))) h = absurd (omega arith)

    -- "CR2, SMCR, CCMR all 32"
    pub read-ccmr1 : Shaped t → reg_read (reg_written t 0x18 v now div).timer 0x18 now ≡ kept 6 v
    unfolding reg_read channel_read ccmr_written
    read-ccmr1 s =
        rw (write-ccmr1, inst-synced t now, some t c, chan-synced t now)
        (get_or-set_same t.chan.ccmr 0 (kept 6 v) 0 (omega (arith, s.ccmr-length)))

    pub read-ccmr2 : Shaped t → reg_read (reg_written t 0x1c v now div).timer 0x1c now ≡ kept 7 v
    unfolding reg_read channel_read ccmr_written
    read-ccmr2 s =
        rw (write-ccmr2, inst-synced t now, some t c, chan-synced t now)
        (get_or-set_same t.chan.ccmr 1 (kept 7 v) 0 (omega (arith, s.ccmr-length)))

    -- "CCER 3333"
    pub read-ccer : reg_read (reg_written t 0x20 v now div).timer 0x20 now ≡ kept 8 v
    unfolding reg_read channel_read ccer_written
    read-ccer = rw (write-ccer, some t c)

    channels-ccr : (ch k : ℕ) → eqb (ccr_written t ch k now).timer.inst.channels 0 ≡ false
    unfolding ccr_written
    channels-ccr ch k =
        either (λ (w : Written). eqb w.timer.inst.channels 0 ≡ false) (Out.OCxPE (ccmr_byte t ch))
        (rw (inst-synced t now) (some t c)) (rw (inst-synced t now) (some t c))

    ccr-kept : (ch k : ℕ) → ch < 4 → Shaped t → get_or (ccr_written t ch k now).timer.chan.ccr ch 0 ≡ kept_width t k
    unfolding ccr_written
    ccr-kept ch k h s =
        let g : get_or (set (synced t now).chan.ccr ch (kept_width t k)) ch 0 ≡ kept_width t k = rw (chan-synced t now) (get_or-set_same t.chan.ccr ch (kept_width t k) 0 (omega (arith, s.ccr-length))) in
        either (λ (w : Written). get_or w.timer.chan.ccr ch 0 ≡ kept_width t k) (Out.OCxPE (ccmr_byte t ch)) g g

    -- "CNT, ARR, CCR the timer's width"
    pub read-ccr : (ch : ℕ) → ch < 4 → Shaped t → reg_read (reg_written t (ccr_offset ch) v now div).timer (ccr_offset ch) now ≡ kept_width t (kept (13 + ch) v)
    unfolding reg_read channel_read
    read-ccr zero h s = rw (write-ccr 0 h, channels-ccr 0 (kept 13 v)) (ccr-kept 0 (kept 13 v) h s)
    read-ccr (suc zero) h s = rw (write-ccr 1 h, channels-ccr 1 (kept 14 v)) (ccr-kept 1 (kept 14 v) h s)
    read-ccr (suc (suc zero)) h s = rw (write-ccr 2 h, channels-ccr 2 (kept 15 v)) (ccr-kept 2 (kept 15 v) h s)
    read-ccr (suc (suc (suc zero))) h s = rw (write-ccr 3 h, channels-ccr 3 (kept 16 v)) (ccr-kept 3 (kept 16 v) h s)
    read-ccr (suc (suc (suc (suc ch)))) h s = absurd (omega arith)

-- no steps: the count stays, from a counter not above the reload
up_none : (reload cnt : ℕ) → cnt ≤ reload → up_from reload cnt 0 ≡ cnt
unfolding up_from
up_none reload cnt h = rw (add-zero cnt, le-leb cnt reload h)

down-none : (reload cnt : ℕ) → down_from reload cnt 0 ≡ cnt
unfolding down_from
down-none reload cnt = rw (leb-zero cnt, sub-zero cnt)

-- the count that a timer shows: stopped or blocked its counter, downward and upward by its steps
abbrev shows : Bool → Bool → ℕ → ℕ → ℕ → ℕ
shows counts down reload cnt n = cond counts (cond down (down_from reload (min cnt reload) n) (up_from reload cnt n)) cnt

shows-none : (r d : Bool) (reload cnt : ℕ) → cnt ≤ reload → shows r d reload cnt 0 ≡ cnt
shows-none false d reload cnt h = refl
shows-none true true reload cnt h = rw (min-eq_left h) (down-none reload cnt)
shows-none true false reload cnt h = up_none reload cnt h

module _ (u : Timer) (now : ℕ) (b : u.count.base ≡ now) where
  no_steps : ticks_at u now ≡ 0
  no_steps = rw (b, sub_self, zero-div)

  -- at its own reference a timer shows its counter, if it is stopped or blocked, or the counter is not above the reload
  at_base : (counts u ≡ false) ⊎ (u.count.cnt0 ≤ u.count.arr_act) → cnt_at u now ≡ u.count.cnt0
  unfolding cnt_at
  at_base (inl r) = rw r
  at_base (inr h) = rw no_steps (shows-none (counts u) (down u) u.count.arr_act u.count.cnt0 h)

  at-base-down : counts u ≡ true → down u ≡ true → u.count.arr_act ≤ u.count.cnt0 → cnt_at u now ≡ u.count.arr_act
  unfolding cnt_at
  at-base-down r d h = rw (r, d, no_steps, min-eq_right h) (down-none u.count.arr_act u.count.arr_act)

  at-base-above : counts u ≡ true → down u ≡ false → u.count.cnt0 ≡ u.count.arr_act + 1 → cnt_at u now ≡ 0
  unfolding cnt_at up_from
  at-base-above r d h =
      rw (r, d, no_steps, h, add-zero (u.count.arr_act + 1), lt-leb (u.count.arr_act + 1) u.count.arr_act (omega arith), sub_self (u.count.arr_act + 1))
      (zero-mod (u.count.arr_act + 1))

module _ (t : Timer) (v now div : ℕ) where
  -- "CNT, ARR, CCR the timer's width": what was written is read back from a timer that is stopped or blocked, or at or below the active reload
  pub read-cnt : (counts t ≡ false) ⊎ (kept_width t (kept 9 v) ≤ t.count.arr_act)
      → reg_read (reg_written t 0x24 v now div).timer 0x24 now ≡ kept_width t (kept 9 v)
  unfolding reg_read reg_written cnt_written recomputed
  read-cnt (inl r) = at_base (cnt_written t (kept 9 v) now) now refl (inl (counts-synced t now ∙ r))
  read-cnt (inr h) = at_base (cnt_written t (kept 9 v) now) now refl (inr (rw (reload-synced t now) h))

  -- "its clamp: counting down from a counter above reload reads as from reload"
  pub read-cnt-clamped : counts t ≡ true → down t ≡ true → t.count.arr_act ≤ kept_width t (kept 9 v)
      → reg_read (reg_written t 0x24 v now div).timer 0x24 now ≡ t.count.arr_act
  unfolding reg_read reg_written cnt_written recomputed
  read-cnt-clamped r d h =
      at-base-down (cnt_written t (kept 9 v) now) now refl (counts-synced t now ∙ r) (rw (inst-synced t now, regs-synced t now) d) (rw (reload-synced t now) h)
      ∙ reload-synced t now

  -- upward, the one value above the reload that is served reads 0: the update is due at once
  pub read-cnt-above : counts t ≡ true → down t ≡ false → kept_width t (kept 9 v) ≡ t.count.arr_act + 1
      → reg_read (reg_written t 0x24 v now div).timer 0x24 now ≡ 0
  unfolding reg_read reg_written cnt_written recomputed
  read-cnt-above r d h =
      at-base-above (cnt_written t (kept 9 v) now) now refl (counts-synced t now ∙ r) (rw (inst-synced t now, regs-synced t now) d) (rw (reload-synced t now) h)

-- ---- what is no register of this timer

-- off is one of these
abbrev pub any_of : List ℕ → ℕ → Bool
any_of [] off = false
any_of (o ∷ os) off = cond (eqb off o) true (any_of os off)

-- CR1, CR2, SMCR, DIER, SR, EGR, CNT, PSC, ARR: every timer has them
abbrev pub basic : List ℕ
basic = 0x00 ∷ 0x04 ∷ 0x08 ∷ 0x0c ∷ 0x10 ∷ 0x14 ∷ 0x24 ∷ 0x28 ∷ 0x2c ∷ []

-- CCMR1, CCMR2, CCER; CCR1 to CCR4
abbrev pub of_channels : ℕ → Bool
of_channels off = cond (any_of (0x18 ∷ 0x1c ∷ 0x20 ∷ []) off) true (is_ccr off)

head : (b r : Bool) → cond b true r ≡ false → b ≡ false
head true r h = h
head false r h = refl

tail : (b r : Bool) → cond b true r ≡ false → r ≡ false
tail true r h = absurd (false≢true (sym h))
tail false r h = h

-- past the nine that every timer has
record Past (off : ℕ) : Type 0 where
  cr1 : eqb off 0x00 ≡ false
  cr2 : eqb off 0x04 ≡ false
  smcr : eqb off 0x08 ≡ false
  dier : eqb off 0x0c ≡ false
  sr : eqb off 0x10 ≡ false
  egr : eqb off 0x14 ≡ false
  cnt : eqb off 0x24 ≡ false
  psc : eqb off 0x28 ≡ false
  arr : eqb off 0x2c ≡ false

past : (off : ℕ) → any_of basic off ≡ false → Past off
past off h =
    let h₁ = tail (eqb off 0x00) _ h in
    let h₂ = tail (eqb off 0x04) _ h₁ in
    let h₃ = tail (eqb off 0x08) _ h₂ in
    let h₄ = tail (eqb off 0x0c) _ h₃ in
    let h₅ = tail (eqb off 0x10) _ h₄ in
    let h₆ = tail (eqb off 0x14) _ h₅ in
    let h₇ = tail (eqb off 0x24) _ h₆ in
    let h₈ = tail (eqb off 0x28) _ h₇ in
    record {
      cr1 = head (eqb off 0x00) _ h;
      cr2 = head (eqb off 0x04) _ h₁;
      smcr = head (eqb off 0x08) _ h₂;
      dier = head (eqb off 0x0c) _ h₃;
      sr = head (eqb off 0x10) _ h₄;
      egr = head (eqb off 0x14) _ h₅;
      cnt = head (eqb off 0x24) _ h₆;
      psc = head (eqb off 0x28) _ h₇;
      arr = head (eqb off 0x2c) _ h₈;
    }

-- past those of channels too
record PastAll (off : ℕ) : Type 0 where
  ccmr1 : eqb off 0x18 ≡ false
  ccmr2 : eqb off 0x1c ≡ false
  ccer : eqb off 0x20 ≡ false
  ccr : is_ccr off ≡ false

past_all : (off : ℕ) → of_channels off ≡ false → PastAll off
past_all off h =
    let h₀ = head (any_of (0x18 ∷ 0x1c ∷ 0x20 ∷ []) off) (is_ccr off) h in
    let h₁ = tail (eqb off 0x18) _ h₀ in
    record {
      ccmr1 = head (eqb off 0x18) _ h₀;
      ccmr2 = head (eqb off 0x1c) _ h₁;
      ccer = head (eqb off 0x20) _ (tail (eqb off 0x1c) _ h₁);
      ccr = tail (any_of (0x18 ∷ 0x1c ∷ 0x20 ∷ []) off) (is_ccr off) h;
    }

module _ (t : Timer) (off now : ℕ) (p : any_of basic off ≡ false) where
  write-past : (v div : ℕ) → reg_written t off v now div ≡ channel_written t off v now
  unfolding reg_written
  write-past v div =
      let q = past off p in
      rw (q.cr1, q.cr2, q.smcr, q.dier, q.sr, q.egr, q.cnt, q.psc, q.arr)

  read_past : reg_read t off now ≡ channel_read t off
  unfolding reg_read
  read_past =
      let q = past off p in
      rw (q.cr1, q.cr2, q.smcr, q.dier, q.sr, q.cnt, q.psc, q.arr)

  -- "CCMR, CCER and CCR need a channel count above 0": without channels only the nine are registers
  pub write-without-channels : (v div : ℕ) → t.inst.channels ≡ 0 → reg_written t off v now div ≡ only t
  unfolding channel_written
  write-without-channels v div z = write-past v div ∙ rw (eq-eqb t.inst.channels 0 z)

  pub read-without-channels : t.inst.channels ≡ 0 → reg_read t off now ≡ 0
  unfolding channel_read
  read-without-channels z = read_past ∙ rw (eq-eqb t.inst.channels 0 z)

  -- "Others, and EGR, read 0"; a write there changes nothing
  pub write-no-register : (v div : ℕ) → of_channels off ≡ false → reg_written t off v now div ≡ only t
  unfolding channel_written
  write-no-register v div n =
      let q = past_all off n in
      write-past v div
      ∙ either (λ (w : Written). w ≡ only t) (eqb t.inst.channels 0) refl (rw (q.ccmr1, q.ccmr2, q.ccer, q.ccr))

  pub read-no-register : of_channels off ≡ false → reg_read t off now ≡ 0
  unfolding channel_read
  read-no-register n =
      let q = past_all off n in
      read_past ∙ either (λ (x : ℕ). x ≡ 0) (eqb t.inst.channels 0) refl (rw (q.ccmr1, q.ccmr2, q.ccer, q.ccr))

pub read-egr : (t : Timer) (now : ℕ) → reg_read t 0x14 now ≡ 0
unfolding reg_read channel_read
read-egr t now = either (λ (x : ℕ). x ≡ 0) (eqb t.inst.channels 0) refl refl

-- ---- SR, bit by bit

bit-lt : (k x : ℕ) → field k 1 x < 2
bit-lt k x = mod-lt (x / 2 ^ k) {m = 2} (omega arith)

and-digits : (x y : ℕ) → x < 2 → y < 2 → eqb (bit_and x y) 1 ≡ (eqb x 1 && eqb y 1)
and-digits zero y p q = refl
and-digits (suc zero) zero p q = refl
and-digits (suc zero) (suc zero) p q = refl
and-digits (suc zero) (suc (suc y)) p q = absurd (omega arith)
and-digits (suc (suc x)) y p q = absurd (omega arith)

or_digits : (x y : ℕ) → x < 2 → y < 2 → eqb (bit_or x y) 1 ≡ (eqb x 1 || eqb y 1)
or_digits zero y p q = refl
or_digits (suc zero) zero p q = refl
or_digits (suc zero) (suc zero) p q = refl
or_digits (suc zero) (suc (suc y)) p q = absurd (omega arith)
or_digits (suc (suc x)) y p q = absurd (omega arith)

-- a bit of a conjunction, of a disjunction
pub and-bit : (k x y : ℕ) → is_set k (bit_and x y) ≡ (is_set k x && is_set k y)
and-bit k x y = rw (and_shr x y k, and_mod (x / 2 ^ k) (y / 2 ^ k) 1) (and-digits (field k 1 x) (field k 1 y) (bit-lt k x) (bit-lt k y))

pub or-bit : (k x y : ℕ) → is_set k (bit_or x y) ≡ (is_set k x || is_set k y)
or-bit k x y = rw (or_shr x y k, or_mod (x / 2 ^ k) (y / 2 ^ k) 1) (or_digits (field k 1 x) (field k 1 y) (bit-lt k x) (bit-lt k y))

-- SR's flags: UIF, CC1IF to CC4IF, TIF, CC1OF to CC4OF
abbrev pub flags : List ℕ
flags = get_or kept_bits 4 []

-- the test passes at every number below n
abbrev below : (ℕ → Bool) → ℕ → Bool
below f zero = true
below f (suc n) = cond (f n) (below f n) false

first : (a b : Bool) → cond a b false ≡ true → a ≡ true
first true b h = refl
first false b h = h

second : (a b : Bool) → cond a b false ≡ true → b ≡ true
second true b h = h
second false b h = absurd (false≢true h)

below_at : (f : ℕ → Bool) (n : ℕ) → below f n ≡ true → (k : ℕ) → k < n → f k ≡ true
below_at f zero h k l = absurd (not-suc-le-zero l)
below_at f (suc n) h k l = go (eqb k n) refl (below_at f n (second (f n) (below f n) h) k)
  where
    go : (b : Bool) → eqb k n ≡ b → (k < n → f k ≡ true) → f k ≡ true
    go true e ih = rw (eqb-true k n e) (first (f n) (below f n) h)
    go false e ih = ih (omega (arith, eqb-false k n e))

abbrev alike : Bool → Bool → Bool
alike a b = cond a b (not b)

alike-eq : (a b : Bool) → alike a b ≡ true → a ≡ b
alike-eq true true h = refl
alike-eq true false h = sym h
alike-eq false true h = h
alike-eq false false h = refl

-- the bits that a write of SR leaves alone are those that are no flags
others-stay : (k : ℕ) → k < 32 → is_set k (0xffff_ffff - kept_mask 4) ≡ not (any_of flags k)
unfolding mask bits
others-stay k h =
    alike-eq (is_set k 0xffff_e1a0) (not (any_of flags k))
    (below_at (λ (i : ℕ). alike (is_set i 0xffff_e1a0) (not (any_of flags i))) 32 refl k h)

-- "SR: a written 0 clears a bit of 1e5f; nothing sets one": a bit is set afterwards exactly if it was, and either 1 was written to it or it is no flag
pub sr-bit : (k sr v : ℕ) → k < 32 → is_set k (kept_sr sr v) ≡ (is_set k sr && (is_set k v || not (any_of flags k)))
sr-bit k sr v h = and-bit k sr _ ∙ ap (λ (b : Bool). is_set k sr && b) (or-bit k v _ ∙ ap (λ (b : Bool). is_set k v || b) (others-stay k h))

-- ---- bench figure: SR written

pub record Figure : Type 0 where
  pub sr : ℕ
  pub written : ℕ
  pub leaves : ℕ

-- "SR 1f, written fffffffe, is 1e"
abbrev pub figures : List Figure
figures = record { sr = 0x1f; written = 0xffff_fffe; leaves = 0x1e } ∷ []

pub figures-hold : map (λ (f : Figure). kept_sr f.sr f.written) figures ≡ map (λ (f : Figure). f.leaves) figures
unfolding mask bits
figures-hold = refl

-- ---- "PSC always waits for an update", "Without ARPE a written reload acts at once; without OCxPE a compare does"

-- what an update without UDIS makes active
pub record Loads (t u : Timer) (div : ℕ) : Type 0 where
  pub psc : u.count.psc_act ≡ t.regs.psc
  pub arr : u.count.arr_act ≡ t.regs.arr
  pub ccr : u.chan.ccr_act ≡ t.chan.ccr
  pub step : u.count.tick ≡ step_cycles t.regs.psc div

pub update-loads : (t : Timer) (at div : ℕ) → UDIS t.regs.cr1 ≡ false → Loads t (updated t at div) div
unfolding updated ended recomputed_after_update restarted reloaded
update-loads t at div h = record { psc = rw h; arr = rw h; ccr = rw h; step = rw h }

module _ (t : Timer) (v now div : ℕ) where
  -- the active prescaler, the step and the counter stay
  pub psc-waits : (reg_written t 0x28 v now div).timer.count ≡ t.count
  unfolding reg_written
  psc-waits = refl

  pub psc-taken : (at d : ℕ) → UDIS t.regs.cr1 ≡ false → (updated (reg_written t 0x28 v now div).timer at d).count.psc_act ≡ kept 10 v
  unfolding reg_written
  psc-taken at d u = (update-loads (with_psc t (kept 10 v)) at d u).psc

  pub arr-at-once : ARPE t.regs.cr1 ≡ false → (reg_written t 0x2c v now div).timer.count.arr_act ≡ kept_width t (kept 11 v)
  unfolding reg_written arr_written recomputed
  arr-at-once h = rw h

  pub arr-waits : ARPE t.regs.cr1 ≡ true → (reg_written t 0x2c v now div).timer.count.arr_act ≡ t.count.arr_act
  unfolding reg_written arr_written
  arr-waits h = rw h (reload-synced t now)

  arr-cr1 : (reg_written t 0x2c v now div).timer.regs.cr1 ≡ t.regs.cr1
  unfolding reg_written arr_written recomputed
  arr-cr1 =
      let e = ap (λ (r : Regs). r.cr1) (regs-synced t now) in
      either (λ (w : Written). w.timer.regs.cr1 ≡ t.regs.cr1) (ARPE t.regs.cr1) e e

  arr-kept : (reg_written t 0x2c v now div).timer.regs.arr ≡ kept_width t (kept 11 v)
  unfolding reg_written arr_written recomputed
  arr-kept = either (λ (w : Written). w.timer.regs.arr ≡ kept_width t (kept 11 v)) (ARPE t.regs.cr1) refl refl

  pub arr-taken : (at d : ℕ) → UDIS t.regs.cr1 ≡ false → (updated (reg_written t 0x2c v now div).timer at d).count.arr_act ≡ kept_width t (kept 11 v)
  arr-taken at d u = (update-loads (reg_written t 0x2c v now div).timer at d (ap UDIS arr-cr1 ∙ u)).arr ∙ arr-kept

  module _ (ch : ℕ) (c : 0 < t.inst.channels) (h : ch < 4) where
    pub ccr-at-once : Shaped t → Out.OCxPE (ccmr_byte t ch) ≡ false → ccr_in_use (reg_written t (ccr_offset ch) v now div).timer ch ≡ kept_width t (kept (13 + ch) v)
    unfolding ccr_written
    ccr-at-once s o =
        rw (write-ccr t v now div c ch h, o, chan-synced t now)
        (get_or-set_same t.chan.ccr_act ch (kept_width t (kept (13 + ch) v)) 0 (omega (arith, s.act-length)))

    pub ccr-waits : Out.OCxPE (ccmr_byte t ch) ≡ true → ccr_in_use (reg_written t (ccr_offset ch) v now div).timer ch ≡ ccr_in_use t ch
    unfolding ccr_written
    ccr-waits o = rw (write-ccr t v now div c ch h, o, chan-synced t now)

    ccr-cr1 : (ccr_written t ch (kept (13 + ch) v) now).timer.regs.cr1 ≡ t.regs.cr1
    unfolding ccr_written
    ccr-cr1 =
        let e = ap (λ (r : Regs). r.cr1) (regs-synced t now) in
        either (λ (w : Written). w.timer.regs.cr1 ≡ t.regs.cr1) (Out.OCxPE (ccmr_byte t ch)) e e

    pub ccr-taken : (at d : ℕ) → Shaped t → UDIS t.regs.cr1 ≡ false
        → ccr_in_use (updated (reg_written t (ccr_offset ch) v now div).timer at d) ch ≡ kept_width t (kept (13 + ch) v)
    ccr-taken at d s u =
        rw (write-ccr t v now div c ch h, (update-loads (ccr_written t ch (kept (13 + ch) v) now).timer at d (ap UDIS ccr-cr1 ∙ u)).ccr)
        (ccr-kept t v now div c ch (kept (13 + ch) v) h s)

-- ---- writes that do not drive

-- "Writes to CR1, ARR and PSC never drive; nor do those to SR, DIER, CR2 and SMCR"
pub record NeverDrives (t : Timer) (v now div : ℕ) : Type 0 where
  pub cr1 : (reg_written t 0x00 v now div).drive ≡ None
  pub arr : (reg_written t 0x2c v now div).drive ≡ None
  pub psc : (reg_written t 0x28 v now div).drive ≡ None
  pub sr : (reg_written t 0x10 v now div).drive ≡ None
  pub dier : (reg_written t 0x0c v now div).drive ≡ None
  pub cr2 : (reg_written t 0x04 v now div).drive ≡ None
  pub smcr : (reg_written t 0x08 v now div).drive ≡ None

pub never-drives : (t : Timer) (v now div : ℕ) → NeverDrives t v now div
unfolding reg_written arr_written
never-drives t v now div = record {
  cr1 = refl;
  arr = either (λ (w : Written). w.drive ≡ None) (ARPE t.regs.cr1) refl refl;
  psc = refl;
  sr = refl;
  dier = refl;
  cr2 = refl;
  smcr = refl;
}

-- the counter at every cycle and the event due are those of t
pub record Undisturbed (t u : Timer) : Type 0 where
  pub due : next_event u ≡ next_event t
  pub counter : (c : ℕ) → cnt_at u c ≡ cnt_at t c

-- other registers with the same CR1
module _ (t : Timer) (r : Regs) (e : r.cr1 ≡ t.regs.cr1) where
  same-down : down (with_regs t r) ≡ down t
  same-down = rw e

  same-considered : (ch : ℕ) (best : Ahead) → consider (with_regs t r) ch best ≡ consider t ch best
  unfolding consider compares
  same-considered ch best = rw e

  same-steps : next_steps (with_regs t r) ≡ next_steps t
  unfolding next_steps
  same-steps = simp (same-considered, e)

  undisturbed : Undisturbed t (with_regs t r)
  unfolding next_event cnt_at
  undisturbed = record { due = rw same-steps; counter = λ c. rw e }

-- "which also leave the counter and the events due as they are"
pub record LeavesAlone (t : Timer) (v now div : ℕ) : Type 0 where
  pub sr : Undisturbed t (reg_written t 0x10 v now div).timer
  pub dier : Undisturbed t (reg_written t 0x0c v now div).timer
  pub cr2 : Undisturbed t (reg_written t 0x04 v now div).timer
  pub smcr : Undisturbed t (reg_written t 0x08 v now div).timer

pub leaves-alone : (t : Timer) (v now div : ℕ) → LeavesAlone t v now div
unfolding reg_written
leaves-alone t v now div = record {
  sr = undisturbed t _ refl;
  dier = undisturbed t _ refl;
  cr2 = undisturbed t _ refl;
  smcr = undisturbed t _ refl;
}
