-- A register written between two kernel clocks, by its offset; the value is a whole word, its lanes merged (RM0440, the register descriptions).
use Rattle.std.specs.Prelude.{Bool, true, false, cond, not, ◌&&◌, ◌||◌, List, [], ◌∷◌, ℕ, ◌+◌, ◌-◌, ◌/◌, eqb, ltb, leb, get_or, set}
use Rattle.std.specs.Int.Bits.{bit_and, bit_or}
use Rattle.rm0440.specs.Bits.{field, is_set, CEN, UDIS, URS, OPM, ARPE}
use Rattle.rm0440.specs.Output as Out
use Rattle.rm0440.specs.Registers.{kept_mask}
pub use Rattle.rm0440.specs.Registers.{kept, is_ccr, ccr_channel}
use Rattle.rm0440.specs.Rules.{Rules}
use Rattle.rm0440.specs.State.{Timer, reg, each, in_turn, ccr_of, byte, mode, is_output, down, centre, CMS, with_regs, with_channel_regs, with_shadows, with_count, with_matches, with_cr1, with_sr, with_bit, flag, cc_flags}
use Rattle.rm0440.specs.Clock.{wrapped, loaded, pulse_ended, all_ahead, latched, marked, equal, flags, matched, blocked, going}
use Rattle.rm0440.specs.Level.{ocref}

-- ---- what a write sets off

-- the Rust's record of matches, settled anew: a compare at or below the counter (upward) or above it (downward) is past
abbrev pub past : Timer → ℕ → Bool
past t ch = cond (down t) (ltb t.cnt (ccr_of t ch)) (leb (ccr_of t ch) t.cnt)

abbrev pub resettled : Timer → Timer
resettled t = with_matches t t.ref (each (λ ch. cond (ltb ch t.channels) (past t ch) false))

-- upward above the reload the Rust wraps at once, unless the counter is blocked
abbrev pub overrun : Rules → Timer → Bool
overrun r t = not r.above-reload && (going r t && (not (centre r t) && (not (down t) && ltb t.arr t.cnt)))

-- a match that the write makes: the manual's where counter and compare come to be equal, the Rust's where one is still to come
abbrev pub comes : Rules → Timer → Timer → ℕ → Bool
comes r old t ch =
    is_output t ch && (equal t ch && cond r.done-equality (not (equal old ch)) (going r t && not (get_or t.done ch false)))

-- t is what the register's write left of old
unfoldable pub answered : Rules → Timer → Timer → Timer
answered r old t = let s = cond (overrun r t) (wrapped r t) t in marked (flags r s) (comes r old s) s

-- F-8: a write of CR1, CNT, ARR or EGR that leaves the counter at the reload turns it down, one that leaves it at 0 up
abbrev pub turned : Rules → Timer → Timer
turned r t =
    with_cr1 (cond (centre r t && (eqb t.cnt 0 || eqb t.cnt t.arr)) (with_bit 4 (not (eqb t.cnt 0)) t.cr1) t.cr1) t

-- ---- TIMx_CR1

-- a basic timer has no DIR, CMS and CKD
abbrev pub kept_cr1 : Timer → ℕ → ℕ
kept_cr1 t v = bit_and v (cond (eqb t.channels 0) 0x8f (kept_mask 0))

-- "CMS: not to be changed while the counter is enabled"; "DIR is read only in center-aligned mode"
abbrev pub new_cr1 : Rules → Timer → ℕ → ℕ
new_cr1 r t v =
    let k = kept_cr1 t v in
    let c = cond (r.centre-aligned && (CEN t.cr1 && not (eqb (CMS k) (CMS t.cr1)))) (with_bit 6 (is_set 6 t.cr1) (with_bit 5 (is_set 5 t.cr1) k)) k in
    cond (r.centre-aligned && not (eqb (CMS c) 0)) (with_bit 4 (is_set 4 t.cr1) c) c

-- a start, a stop, or neither: whether the counter goes, and the prescaler's count. The Rust counts from the start's cycle, and drops the part of
-- a step that a stop finds
abbrev pub enables : Rules → ℕ → Timer → Bool
enables r new t = cond (CEN new && CEN t.cr1) t.on (CEN new && not r.start-delay)

abbrev pub kept_part : Rules → ℕ → Timer → ℕ
kept_part r new t = cond (CEN new && CEN t.cr1 || r.stop-phase) t.pre 0

-- "ARPE 0: TIMx_ARR is not buffered": the reload written acts
abbrev pub unbuffered : Rules → ℕ → Timer → ℕ
unbuffered r new t = cond (r.preload-cleared && not (ARPE new)) (reg t 11) t.arr

-- CR1 with this reload, enable and prescaler count
abbrev pub shaped : Timer → ℕ → ℕ → Bool → ℕ → Timer
shaped t new a o p = with_count (with_shadows (with_cr1 new t) t.psc a t.ccr) o p t.cnt

-- the Rust settles its record anew at a start and where DIR changes
abbrev pub starts_or_turns : ℕ → ℕ → Bool
starts_or_turns old new =
    cond (CEN new) (not (CEN old) || not (eqb (field 4 1 old) (field 4 1 new))) (not (CEN old) && not (eqb (field 4 1 old) (field 4 1 new)))

abbrev pub left_cr1 : Rules → ℕ → Timer → Timer
left_cr1 r v t =
    let n = new_cr1 r t v in
    let s = turned r (shaped t n (unbuffered r n t) (enables r n t) (kept_part r n t)) in
    cond (starts_or_turns t.cr1 s.cr1) (resettled s) s

unfoldable pub write_cr1 : Rules → ℕ → Timer → Timer
write_cr1 r v t = answered r t (left_cr1 r v t)

-- ---- TIMx_SR: "cleared by software by writing it to 0"; a written 1 does nothing

abbrev pub write_sr : ℕ → Timer → Timer
write_sr v t = with_sr (bit_and t.sr (bit_or v (0xffff_ffff - kept_mask 4))) t

-- ---- TIMx_EGR

-- "UG: re-initialize the counter and generate an update; the prescaler counter is cleared too." With UDIS "the shadow registers
-- keep their value"; UIF not with URS; by the sentence of one-pulse mode the update event also stops the counter
abbrev pub generated : Rules → Timer → Timer
generated r t =
    let l = cond (r.ug-under-udis && UDIS t.cr1) t (loaded t) in
    let s = all_ahead (turned r (with_count l t.on 0 (cond (centre r t) 0 (cond (down t) l.arr 0)))) in
    let f = with_sr (cond (UDIS t.cr1 || URS t.cr1) t.sr (with_bit 0 true t.sr)) s in
    cond (r.one-pulse-ug && not (UDIS t.cr1)) (pulse_ended r (OPM t.cr1) f) f

-- "CCxG: the flag is set"; the Rust latches OCxREF too
abbrev pub generated_cc : Rules → ℕ → Timer → Timer
generated_cc r v t =
    let is : ℕ → Bool = λ ch. is_set (ch + 1) v && is_output t ch in
    with_matches (with_sr (cc_flags is t.sr) t) (cond r.ccg-latches t.ref (latched is t)) t.done

-- then what the new count meets. "TG: TIF is set"
unfoldable pub write_egr : Rules → ℕ → Timer → Timer
write_egr r v t =
    let u = cond (is_set 0 v) (matched r (generated_cc r v (generated r t))) (generated_cc r v t) in
    cond (r.trigger-generation && is_set 6 v) (flag 6 u) u

-- ---- TIMx_CNT: the Rust begins a whole step

abbrev pub left_cnt : Rules → ℕ → Timer → Timer
left_cnt r v t = resettled (turned r (with_count t t.on (cond r.cnt-write-phase t.pre 0) (bit_and v t.max)))

unfoldable pub write_cnt : Rules → ℕ → Timer → Timer
write_cnt r v t = answered r t (left_cnt r v t)

-- ---- TIMx_ARR: without ARPE it acts at once, with it at the next update

abbrev pub stored_arr : ℕ → Timer → Timer
stored_arr v t = with_regs t t.cr1 t.sr (set t.regs 11 (bit_and v t.max))

abbrev pub left_arr : Rules → ℕ → Timer → Timer
left_arr r v t =
    let a = with_shadows (stored_arr v t) t.psc (bit_and v t.max) t.ccr in
    resettled (turned r (with_count a t.on (cond (blocked r a) 0 t.pre) t.cnt))

unfoldable pub write_arr : Rules → ℕ → Timer → Timer
write_arr r v t = cond (ARPE t.cr1) (stored_arr v t) (answered r t (left_arr r v t))

-- ---- TIMx_CCMRx

abbrev pub stored_ccmr : ℕ → ℕ → Timer → Timer
stored_ccmr i v t = with_channel_regs t (set t.modes i v) t.compares

-- "OCxPE 0: preload register on TIMx_CCRx disabled": the compare written acts
abbrev pub unloaded : Timer → List ℕ
unloaded t = in_turn (λ ch l. cond (Out.OCxPE (byte t ch)) l (set l ch (get_or t.compares ch 0))) t.ccr

-- a mode that latches goes on from OCxREF as it is; the Rust's from what the last match left
abbrev pub held : Timer → Timer → List Bool
held old t = in_turn (λ ch l. cond (ltb (mode t ch) 4) (set l ch (ocref old ch)) l) t.ref

abbrev pub left_ccmr : Rules → ℕ → ℕ → Timer → Timer
left_ccmr r i v t =
    let s = stored_ccmr i v t in
    let h = with_matches s (cond r.mode-change-latch (held t s) t.ref) t.done in
    with_shadows h t.psc t.arr (cond r.preload-cleared (unloaded s) t.ccr)

unfoldable pub write_ccmr : Rules → ℕ → ℕ → Timer → Timer
write_ccmr r i v t = answered r t (left_ccmr r i v t)

-- ---- TIMx_CCRx: without OCxPE it acts at once, with it at the next update

abbrev pub stored_ccr : ℕ → ℕ → Timer → Timer
stored_ccr ch v t = with_channel_regs t t.modes (set t.compares ch (bit_and v t.max))

abbrev pub left_ccr : ℕ → ℕ → Timer → Timer
left_ccr ch v t =
    let a = with_shadows (stored_ccr ch v t) t.psc t.arr (set t.ccr ch (bit_and v t.max)) in
    with_matches a t.ref (set t.done ch (past a ch))

unfoldable pub write_ccr : Rules → ℕ → ℕ → Timer → Timer
write_ccr r ch v t = cond (Out.OCxPE (byte t ch)) (stored_ccr ch v t) (answered r t (left_ccr ch v t))

-- ---- any register

-- one that is only stored, by offset / 4
abbrev pub stored : ℕ → ℕ → Timer → Timer
stored i v t = with_regs t t.cr1 t.sr (set t.regs i v)

-- a basic timer has none of these
unfoldable pub write_channel : Rules → ℕ → ℕ → Timer → Timer
write_channel r off v t =
    cond (eqb t.channels 0) t
    (cond (eqb off 0x18) (write_ccmr r 0 (kept 6 v) t)
    (cond (eqb off 0x1c) (write_ccmr r 1 (kept 7 v) t)
    (cond (eqb off 0x20) (stored 8 (kept 8 v) t)
    (cond (is_ccr off) (write_ccr r (ccr_channel off) (kept (off / 4) v) t) t))))

-- CR2, SMCR, DIER and PSC are only stored; PSC acts at the next update
unfoldable pub write : Rules → ℕ → ℕ → Timer → Timer
write r off v t =
    cond (eqb off 0x00) (write_cr1 r v t)
    (cond (eqb off 0x04) (stored 1 (kept 1 v) t)
    (cond (eqb off 0x08) (stored 2 (kept 2 v) t)
    (cond (eqb off 0x0c) (stored 3 (kept 3 v) t)
    (cond (eqb off 0x10) (write_sr v t)
    (cond (eqb off 0x14) (write_egr r v t)
    (cond (eqb off 0x24) (write_cnt r (kept 9 v) t)
    (cond (eqb off 0x28) (stored 10 (kept 10 v) t)
    (cond (eqb off 0x2c) (write_arr r (kept 11 v) t) (write_channel r off v t)))))))))

-- "TIMx reset": the registers at their reset values, the reload at the largest count
unfoldable pub reset : Timer → Timer
reset t = record {
  channels = t.channels;
  max = t.max;
  cr1 = 0;
  sr = 0;
  regs = 0 ∷ 0 ∷ 0 ∷ 0 ∷ 0 ∷ 0 ∷ 0 ∷ 0 ∷ 0 ∷ 0 ∷ 0 ∷ t.max ∷ [];
  modes = 0 ∷ 0 ∷ [];
  compares = 0 ∷ 0 ∷ 0 ∷ 0 ∷ [];
  psc = 0;
  arr = t.max;
  ccr = 0 ∷ 0 ∷ 0 ∷ 0 ∷ [];
  on = false;
  pre = 0;
  cnt = 0;
  ref = false ∷ false ∷ false ∷ false ∷ [];
  done = false ∷ false ∷ false ∷ false ∷ [];
}
