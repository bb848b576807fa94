-- Reading and writing registers (document 01, "Register and lane"; the Rust's read_reg and write_reg).
use Rattle.std.specs.Prelude.{Bool, true, false, cond, not, ◌&&◌, ℕ, ◌+◌, ◌-◌, ◌/◌, ltb, eqb, get_or, set, Some, None}
use Rattle.std.specs.Int.Bits.{bit_and, bit_or}
use Rattle.rm0440.specs.Bits.{field, is_set, CEN, ARPE}
use Rattle.rm0440.specs.Output as Out
use Rattle.rm0440.specs.Registers.{kept_mask}
pub use Rattle.rm0440.specs.Registers.{kept, is_ccr, ccr_channel}
use Rattle.tim.specs.declared.Timer.{Timer}
use Rattle.regs.specs.declared.Written.{Written}
use Rattle.tim.specs.Timer.{with_count, with_chan, with_regs, with_cr1, down, max, is_output, ccmr_byte}
use Rattle.tim.specs.Count.{counts, cnt_at, synced, at_count}
use Rattle.tim.specs.Change.{behind, with_done, recomputed, started, stopped, matched}
use Rattle.tim.specs.Change as C

-- "CR1 3ff (8f without channels)"
abbrev pub kept_cr1 : Timer → ℕ → ℕ
kept_cr1 t v = bit_and v (cond (eqb t.inst.channels 0) 0x8f (kept_mask 0))

-- "CNT, ARR, CCR the timer's width", of what the table keeps
abbrev pub kept_width : Timer → ℕ → ℕ
kept_width t v = bit_and v (max t)

-- "SR: a written 0 clears a bit of 1e5f; nothing sets one"
abbrev pub kept_sr : ℕ → ℕ → ℕ
kept_sr sr v = bit_and sr (bit_or v (0xffff_ffff - kept_mask 4))

-- ---- a register set to a value

abbrev pub with_cr2 : Timer → ℕ → Timer
with_cr2 t v = with_regs t (record { cr1 = t.regs.cr1; cr2 = v; smcr = t.regs.smcr; dier = t.regs.dier; sr = t.regs.sr; ccer = t.regs.ccer; psc = t.regs.psc; arr = t.regs.arr })

abbrev pub with_smcr : Timer → ℕ → Timer
with_smcr t v = with_regs t (record { cr1 = t.regs.cr1; cr2 = t.regs.cr2; smcr = v; dier = t.regs.dier; sr = t.regs.sr; ccer = t.regs.ccer; psc = t.regs.psc; arr = t.regs.arr })

abbrev pub with_dier : Timer → ℕ → Timer
with_dier t v = with_regs t (record { cr1 = t.regs.cr1; cr2 = t.regs.cr2; smcr = t.regs.smcr; dier = v; sr = t.regs.sr; ccer = t.regs.ccer; psc = t.regs.psc; arr = t.regs.arr })

abbrev pub with_sr : Timer → ℕ → Timer
with_sr t v = with_regs t (record { cr1 = t.regs.cr1; cr2 = t.regs.cr2; smcr = t.regs.smcr; dier = t.regs.dier; sr = v; ccer = t.regs.ccer; psc = t.regs.psc; arr = t.regs.arr })

abbrev pub with_ccer : Timer → ℕ → Timer
with_ccer t v = with_regs t (record { cr1 = t.regs.cr1; cr2 = t.regs.cr2; smcr = t.regs.smcr; dier = t.regs.dier; sr = t.regs.sr; ccer = v; psc = t.regs.psc; arr = t.regs.arr })

abbrev pub with_psc : Timer → ℕ → Timer
with_psc t v = with_regs t (record { cr1 = t.regs.cr1; cr2 = t.regs.cr2; smcr = t.regs.smcr; dier = t.regs.dier; sr = t.regs.sr; ccer = t.regs.ccer; psc = v; arr = t.regs.arr })

abbrev pub with_arr : Timer → ℕ → Timer
with_arr t v = with_regs t (record { cr1 = t.regs.cr1; cr2 = t.regs.cr2; smcr = t.regs.smcr; dier = t.regs.dier; sr = t.regs.sr; ccer = t.regs.ccer; psc = t.regs.psc; arr = v })

abbrev pub with_arr_act : Timer → ℕ → Timer
with_arr_act t v = with_count t (record { psc_act = t.count.psc_act; arr_act = v; cnt0 = t.count.cnt0; base = t.count.base; tick = t.count.tick; running = t.count.running })

abbrev pub with_ccmr : Timer → ℕ → ℕ → Timer
with_ccmr t i v = with_chan t (record { ccmr = set t.chan.ccmr i v; ccr = t.chan.ccr; ccr_act = t.chan.ccr_act; cc_done = t.chan.cc_done; oc = t.chan.oc })

abbrev pub with_ccr : Timer → ℕ → ℕ → Timer
with_ccr t ch v = with_chan t (record { ccmr = t.chan.ccmr; ccr = set t.chan.ccr ch v; ccr_act = t.chan.ccr_act; cc_done = t.chan.cc_done; oc = t.chan.oc })

abbrev pub with_ccr_act : Timer → ℕ → ℕ → Timer
with_ccr_act t ch v = with_chan t (record { ccmr = t.chan.ccmr; ccr = t.chan.ccr; ccr_act = set t.chan.ccr_act ch v; cc_done = t.chan.cc_done; oc = t.chan.oc })

-- ---- what a write leaves: the next timer, and what follows from it

-- nothing follows
abbrev pub only : Timer → Written
only t = record { timer = t; drive = None; line = false; book = false }

-- the interrupt line is settled (docs/DIFFERENCES.md, shared-interrupt)
abbrev pub lined : Timer → Written
lined t = record { timer = t; drive = None; line = true; book = false }

-- the next event is booked
abbrev pub booked : Timer → Written
booked t = record { timer = t; drive = None; line = false; book = true }

-- the outputs are driven at a count, and the next event is booked or not
abbrev pub driven : Timer → ℕ → Bool → Written
driven t c book = record { timer = t; drive = Some c; line = false; book = book }

abbrev pub counted : Timer → Written
counted t = driven t t.count.cnt0 true

abbrev pub generated : Timer → ℕ → Written
generated t now = record { timer = t; drive = Some (cnt_at t now); line = true; book = true }

-- the direction changed: which compares are done is settled again; nothing is driven (docs/DIFFERENCES.md, direction-late)
unfoldable pub turned : ℕ → Timer → Timer
turned old t = cond (eqb (field 4 1 old) (field 4 1 t.regs.cr1)) t (recomputed t)

-- CR1: where CEN rises the timer starts, where it falls it stops; ARPE cleared loads nothing (docs/DIFFERENCES.md, preload-cleared)
unfoldable pub cr1_written : Timer → ℕ → ℕ → ℕ → Timer
cr1_written t v now div =
    let s = with_cr1 (synced t now) (kept_cr1 t v) in
    cond (CEN s.regs.cr1)
    (cond (CEN t.regs.cr1) (turned t.regs.cr1 s) (started s now div))
    (cond (CEN t.regs.cr1) (stopped s now) (turned t.regs.cr1 s))

-- EGR: UG, then CC1G to CC4G for output channels, each a match (docs/DIFFERENCES.md, ccg-latches); TG does nothing (trigger-generation)
abbrev pub egr_match : ℕ → ℕ → Timer → Timer
egr_match v ch t = cond (is_set (ch + 1) v) (cond (is_output t ch) (matched t ch) t) t

unfoldable pub egr_update : Timer → ℕ → ℕ → ℕ → Timer
egr_update t v now div = cond (is_set 0 v) (C.generated (synced t now) now div) (synced t now)

unfoldable pub egr_written : Timer → ℕ → ℕ → ℕ → Timer
egr_written t v now div = egr_match v 3 (egr_match v 2 (egr_match v 1 (egr_match v 0 (egr_update t v now div))))

-- CNT: counting goes on from the value, with a whole step from now (docs/DIFFERENCES.md, cnt-write-phase)
unfoldable pub cnt_written : Timer → ℕ → ℕ → Timer
cnt_written t v now = let s = synced t now in recomputed (with_count s (at_count s.count (kept_width t v) now))

-- ARR: "Without ARPE a written reload acts at once"
unfoldable pub arr_written : Timer → ℕ → ℕ → Written
arr_written t v now =
    let s = with_arr (synced t now) (kept_width t v) in
    cond (ARPE t.regs.cr1) (only s) (booked (recomputed (with_arr_act s (kept_width t v))))

-- CCRx: "without OCxPE a compare does. An immediate compare write settles its own channel so."
abbrev pub settled_channel : Timer → ℕ → Timer
settled_channel t ch = with_done t (set t.chan.cc_done ch (behind t ch))

unfoldable pub ccr_written : Timer → ℕ → ℕ → ℕ → Written
ccr_written t ch v now =
    let s = with_ccr (synced t now) ch (kept_width t v) in
    let a = with_ccr_act s ch (kept_width t v) in
    cond (Out.OCxPE (ccmr_byte t ch)) (only s) (driven (settled_channel a ch) (cnt_at a now) true)

unfoldable pub ccmr_written : Timer → ℕ → ℕ → ℕ → Written
ccmr_written t i v now = let s = with_ccmr (synced t now) i v in driven s (cnt_at s now) true

unfoldable pub ccer_written : Timer → ℕ → ℕ → Written
ccer_written t v now = let s = with_ccer t v in driven s (cnt_at s now) false

-- "CCMR, CCER and CCR need a channel count above 0"; other offsets store nothing
unfoldable pub channel_written : Timer → ℕ → ℕ → ℕ → Written
channel_written t off v now =
    cond (eqb t.inst.channels 0) (only t)
    (cond (eqb off 0x18) (ccmr_written t 0 (kept 6 v) now)
    (cond (eqb off 0x1c) (ccmr_written t 1 (kept 7 v) now)
    (cond (eqb off 0x20) (ccer_written t (kept 8 v) now)
    (cond (is_ccr off) (ccr_written t (ccr_channel off) (kept (off / 4) v) now) (only t)))))

-- "The register is chosen by the offset with its low two bits cleared." A narrower write comes merged (docs/DIFFERENCES.md, byte-access).
unfoldable pub reg_written : Timer → ℕ → ℕ → ℕ → ℕ → Written
reg_written t off v now div =
    cond (eqb off 0x00) (booked (cr1_written t v now div))
    (cond (eqb off 0x04) (only (with_cr2 t (kept 1 v)))
    (cond (eqb off 0x08) (only (with_smcr t (kept 2 v)))
    (cond (eqb off 0x0c) (lined (with_dier t (kept 3 v)))
    (cond (eqb off 0x10) (lined (with_sr t (kept_sr t.regs.sr v)))
    (cond (eqb off 0x14) (generated (egr_written t v now div) now)
    (cond (eqb off 0x24) (counted (cnt_written t (kept 9 v) now))
    (cond (eqb off 0x28) (only (with_psc t (kept 10 v)))
    (cond (eqb off 0x2c) (arr_written t (kept 11 v) now) (channel_written t off v now)))))))))

-- a register's value at a cycle, clock enabled or not since (docs/DIFFERENCES.md, gated-counts); "Others, and EGR, read 0."
unfoldable pub channel_read : Timer → ℕ → ℕ
channel_read t off =
    cond (eqb t.inst.channels 0) 0
    (cond (eqb off 0x18) (get_or t.chan.ccmr 0 0)
    (cond (eqb off 0x1c) (get_or t.chan.ccmr 1 0)
    (cond (eqb off 0x20) t.regs.ccer
    (cond (is_ccr off) (get_or t.chan.ccr (ccr_channel off) 0) 0))))

unfoldable pub reg_read : Timer → ℕ → ℕ → ℕ
reg_read t off now =
    cond (eqb off 0x00) t.regs.cr1
    (cond (eqb off 0x04) t.regs.cr2
    (cond (eqb off 0x08) t.regs.smcr
    (cond (eqb off 0x0c) t.regs.dier
    (cond (eqb off 0x10) t.regs.sr
    (cond (eqb off 0x24) (cnt_at t now)
    (cond (eqb off 0x28) t.regs.psc
    (cond (eqb off 0x2c) t.regs.arr (channel_read t off))))))))

-- "the timer would run upward with counter above active reload + 1"; "7 is not given in manual mode when the write leaves the active reload 0" (F-6)
unfoldable pub astray : Timer → Bool
astray t = counts t && (not (down t) && ltb (t.count.arr_act + 1) t.count.cnt0)
