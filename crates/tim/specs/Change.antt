-- What changes a timer: update, compare, start, stop, generated update, clock change, reset.
use Rattle.std.specs.Prelude.{Bool, true, false, cond, not, ◌&&◌, List, [], ◌∷◌, ℕ, ◌-◌, ◌%◌, ltb, leb, eqb, get_or, set}
use Rattle.std.specs.Int.Bits.{bit_or}
use Rattle.rm0440.specs.Bits.{UDIS, URS, OPM}
use Rattle.rm0440.specs.Counter.{step_cycles, restart}
use Rattle.rm0440.specs.Update.{shadow}
use Rattle.rm0440.specs.Output as Out
use Rattle.tim.specs.declared.Timer.{Timer}
use Rattle.tim.specs.declared.Inst.{Inst}
use Rattle.tim.specs.Timer.{with_count, with_chan, with_regs, with_cr1, down, is_output, oc_mode, ccr_in_use}
use Rattle.tim.specs.Count.{synced}

-- ---- which compares are done

-- "a channel counts as done if its compare is at or below the counter (upward) or above it (downward)" (docs/DIFFERENCES.md, done-equality, match-again)
abbrev pub behind_of : Timer → ℕ → Bool
behind_of t ccr = cond (down t) (ltb t.count.cnt0 ccr) (leb ccr t.count.cnt0)

-- of channel ch's compare in use
unfoldable pub behind : Timer → ℕ → Bool
behind t ch = behind_of t (ccr_in_use t ch)

abbrev pub done_now : Timer → ℕ → Bool
done_now t ch = cond (ltb ch t.inst.channels) (behind t ch) false

-- "After an update only compares above reload are done, so compare 0 matches at once." (docs/DIFFERENCES.md, compare-above-reload)
abbrev pub done_after_update : Timer → ℕ → Bool
done_after_update t ch = cond (ltb ch t.inst.channels) (ltb t.count.arr_act (ccr_in_use t ch)) false

abbrev pub with_done : Timer → List Bool → Timer
with_done t d = with_chan t (record { ccmr = t.chan.ccmr; ccr = t.chan.ccr; ccr_act = t.chan.ccr_act; cc_done = d; oc = t.chan.oc })

unfoldable pub recomputed : Timer → Timer
recomputed t = with_done t (done_now t 0 ∷ done_now t 1 ∷ done_now t 2 ∷ done_now t 3 ∷ [])

unfoldable pub recomputed_after_update : Timer → Timer
recomputed_after_update t =
    with_done t (done_after_update t 0 ∷ done_after_update t 1 ∷ done_after_update t 2 ∷ done_after_update t 3 ∷ [])

-- ---- flags of SR

abbrev pub UIF : ℕ
UIF = 1

-- CC1IF to CC4IF
unfoldable pub cc_flag : ℕ → ℕ
cc_flag ch = cond (eqb ch 0) 2 (cond (eqb ch 1) 4 (cond (eqb ch 2) 8 16))

abbrev pub with_flag : Timer → ℕ → Timer
with_flag t f = with_regs t (record {
  cr1 = t.regs.cr1;
  cr2 = t.regs.cr2;
  smcr = t.regs.smcr;
  dier = t.regs.dier;
  sr = bit_or t.regs.sr f;
  ccer = t.regs.ccer;
  psc = t.regs.psc;
  arr = t.regs.arr;
})

-- ---- the update

-- the active prescaler, reload and compares take the written ones
abbrev pub loaded : Timer → Timer
loaded t = record {
  inst = t.inst;
  regs = t.regs;
  chan = record { ccmr = t.chan.ccmr; ccr = t.chan.ccr; ccr_act = t.chan.ccr; cc_done = t.chan.cc_done; oc = t.chan.oc };
  count = record {
    psc_act = t.regs.psc;
    arr_act = t.regs.arr;
    cnt0 = t.count.cnt0;
    base = t.count.base;
    tick = t.count.tick;
    running = t.count.running;
  };
}

-- at an overflow or underflow: loaded and flagged, unless UDIS
unfoldable pub reloaded : Timer → Timer
reloaded t = shadow (UDIS t.regs.cr1) (with_flag (loaded t) UIF) t

-- counting starts again at a cycle, with a step of the active prescaler and the divider
unfoldable pub restarted : Timer → ℕ → ℕ → Timer
restarted t at div = with_count t (record {
  psc_act = t.count.psc_act;
  arr_act = t.count.arr_act;
  cnt0 = restart (down t) t.count.arr_act;
  base = at;
  tick = step_cycles t.count.psc_act div;
  running = t.count.running;
})

abbrev pub with_running : Timer → Bool → Timer
with_running t on = with_count t (record {
  psc_act = t.count.psc_act;
  arr_act = t.count.arr_act;
  cnt0 = t.count.cnt0;
  base = t.count.base;
  tick = t.count.tick;
  running = on;
})

-- one-pulse ends with the period. "UDIS now goes first, so the timer counts on", in manual mode; "outside manual mode the Rust's stop remains" (F-11;
-- docs/DIFFERENCES.md, one-pulse-udis)
abbrev pub pulse_ends : Timer → Bool
pulse_ends t = OPM t.regs.cr1 && not (t.inst.manual && UDIS t.regs.cr1)

-- CR1 with CEN cleared
abbrev pub without_cen : ℕ → ℕ
without_cen cr1 = cr1 - cr1 % 2

-- what ends at an update: "In it [manual mode] the Rust's one-pulse stop also clears CEN" (F-2). Else CEN stays set, and in both modes nothing matches
-- where it stops (docs/DIFFERENCES.md, one-pulse, one-pulse-last-match)
unfoldable pub ended : Timer → Timer
ended t =
    with_running (with_cr1 t (cond (pulse_ends t && t.inst.manual) (without_cen t.regs.cr1) t.regs.cr1)) (cond (pulse_ends t) false t.count.running)

-- "An update, or the same wrap under UDIS, which drives alike", at its own cycle, when it is delivered (docs/DIFFERENCES.md, late-flags)
unfoldable pub updated : Timer → ℕ → ℕ → Timer
updated t at div = ended (recomputed_after_update (restarted (reloaded t) at div))

-- EGR's UG: loads even under UDIS, as the Rust does (docs/DIFFERENCES.md, ug-under-udis), and does not end one-pulse (one-pulse-ug); UIF unless URS or UDIS
abbrev pub flagged_generated : Timer → Timer
flagged_generated t = cond (URS t.regs.cr1) t (cond (UDIS t.regs.cr1) t (with_flag t UIF))

unfoldable pub generated : Timer → ℕ → ℕ → Timer
generated t now div = flagged_generated (recomputed_after_update (restarted (loaded t) now div))

-- ---- the compare

-- a match of channel ch: the latched reference by the mode, and the flag
abbrev pub latched : Timer → ℕ → Timer
latched t ch = with_chan t (record {
  ccmr = t.chan.ccmr;
  ccr = t.chan.ccr;
  ccr_act = t.chan.ccr_act;
  cc_done = t.chan.cc_done;
  oc = set t.chan.oc ch (Out.at_match (oc_mode t ch) (get_or t.chan.oc ch false));
})

unfoldable pub matched : Timer → ℕ → Timer
matched t ch = with_flag (latched t ch) (cc_flag ch)

-- a compare event: the match, and the channel is done for this period
unfoldable pub compared : Timer → ℕ → Timer
compared t ch = with_done (matched t ch) (set t.chan.cc_done ch true)

-- ---- the output

-- OCxREF of channel ch at a count
abbrev pub ocref : Timer → ℕ → ℕ → Bool
ocref t ch cnt = Out.ocref (oc_mode t ch) (down t) cnt (ccr_in_use t ch) (get_or t.chan.oc ch false)

-- the level that channel ch drives at a count; whether the timer drives is the board's (docs/DIFFERENCES.md, timer-5)
unfoldable pub output : Timer → ℕ → ℕ → Bool
output t ch cnt = Out.level (cond (is_output t ch) (Out.CCxE ch t.regs.ccer) false) (Out.CCxP ch t.regs.ccer) (ocref t ch cnt)

-- ---- start, stop, clock change, reset

abbrev pub ran_from : Timer → ℕ → ℕ → Timer
ran_from t now tick = with_count t (record {
  psc_act = t.count.psc_act;
  arr_act = t.count.arr_act;
  cnt0 = t.count.cnt0;
  base = now;
  tick = tick;
  running = true;
})

-- CEN from 0 to 1: a whole step from now on; the counter stays (docs/DIFFERENCES.md, start-delay)
unfoldable pub started : Timer → ℕ → ℕ → Timer
started t now div = recomputed (ran_from t now (step_cycles t.count.psc_act div))

-- CEN from 1 to 0: the part of a step that has passed is dropped with the next start (docs/DIFFERENCES.md, stop-phase)
unfoldable pub stopped : Timer → ℕ → Timer
stopped t now = with_running (synced t now) false

abbrev pub with_tick : Timer → ℕ → Timer
with_tick t tick = with_count t (record {
  psc_act = t.count.psc_act;
  arr_act = t.count.arr_act;
  cnt0 = t.count.cnt0;
  base = t.count.base;
  tick = tick;
  running = t.count.running;
})

-- another divider: "`sync` keeps the part-step already elapsed, in cycles" (docs/DIFFERENCES.md, clock-change-jump)
unfoldable pub retimed : Timer → ℕ → ℕ → Timer
retimed t now div = with_tick (synced t now) (step_cycles t.count.psc_act div)

-- "Reset values are one fixed state of the timer, its divider aside: all zero but reload, written and active, at the maximum."
abbrev pub zeros : List ℕ
zeros = 0 ∷ 0 ∷ 0 ∷ 0 ∷ []

abbrev pub none : List Bool
none = false ∷ false ∷ false ∷ false ∷ []

abbrev pub max_of : Inst → ℕ
max_of i = cond (eqb i.width 32) 4294967295 65535

unfoldable pub reset_state : Inst → ℕ → Timer
reset_state i div = record {
  inst = i;
  regs = record { cr1 = 0; cr2 = 0; smcr = 0; dier = 0; sr = 0; ccer = 0; psc = 0; arr = max_of i };
  chan = record { ccmr = 0 ∷ 0 ∷ []; ccr = zeros; ccr_act = zeros; cc_done = none; oc = none };
  count = record { psc_act = 0; arr_act = max_of i; cnt0 = 0; base = 0; tick = step_cycles 0 div; running = false };
}
