-- The exact cases of docs/DIFFERENCES.md that a register write can meet, each a test of the machine's state and the written value.
use Rattle.std.specs.Prelude.{Bool, true, false, cond, not, ◌&&◌, ◌||◌, ◌≡◌, List, [], ◌∷◌, ℕ, ◌+◌, ◌/◌, eqb, ltb, get_or}
use Rattle.std.specs.Int.Bits.{bit_and}
use Rattle.rm0440.specs.Bits.{is_set, CEN, UDIS, OPM, ARPE}
use Rattle.rm0440.specs.Output as Out
use Rattle.rm0440.specs.Rules.{Rules, manual}
use Rattle.rm0440.specs.State.{Timer, reg, ccr_of, byte, mode, is_output, CMS}
use Rattle.rm0440.specs.Clock.{equal, going}
use Rattle.rm0440.specs.Level.{ocref}
use Rattle.rm0440.specs.Write.{kept_cr1, new_cr1, left_cr1, generated, generated_cc, left_cnt, left_arr, stored_ccmr, left_ccmr, left_ccr, is_ccr, ccr_channel, kept}
use Rattle.rm0440.specs.Cases.{settled, some, missed, above-reload, centre-aligned}

abbrev pub differ : Bool → Bool → Bool
differ a b = cond a (not b) b

-- ---- what a write that acts leaves is compared with the counter

-- done-equality, match-again, stopped-match: where counter and compare are equal, the manual matches if they were not before, the Rust if its
-- record says so
abbrev pub unlike : Rules → Timer → Timer → ℕ → Bool
unlike r old t ch = is_output t ch && (equal t ch && differ (not (equal old ch)) (going r t && not (get_or t.done ch false)))

pub record OutsideMatch (r : Rules) (old t : Timer) : Type 0 where
  pub centre-aligned-not : settled r.centre-aligned (centre-aligned t)
  pub above-reload-not : settled r.above-reload (above-reload r t)
  pub done-equality-not : settled r.done-equality (some (unlike r old t))

-- ---- CR1

-- CMS written or set
abbrev pub centre-written : Timer → ℕ → Bool
centre-written t new = not (eqb (CMS new) 0) || not (eqb (CMS t.cr1) 0)

-- "every start"
abbrev pub start-delay : Timer → ℕ → Bool
start-delay t new = CEN new && not (CEN t.cr1)

-- CEN cleared inside a step: the part of the step is dropped, or at the latest with the next start
abbrev pub stop-phase : Timer → ℕ → Bool
stop-phase t new = not (CEN new && CEN t.cr1) && not (eqb t.pre 0)

-- "ARPE cleared while the written value waits"
abbrev pub arpe-cleared : Timer → ℕ → Bool
arpe-cleared t new = not (ARPE new) && not (eqb (reg t 11) t.arr)

pub record OutsideCr1 (r : Rules) (v : ℕ) (t : Timer) : Type 0 where
  pub centre-aligned-not : settled r.centre-aligned (centre-written t (kept_cr1 t v))
  pub start-delay-not : settled r.start-delay (start-delay t (new_cr1 manual t v))
  pub stop-phase-not : settled r.stop-phase (stop-phase t (new_cr1 manual t v))
  pub preload-cleared-not : settled r.preload-cleared (arpe-cleared t (new_cr1 manual t v))
  pub answers : OutsideMatch r t (left_cr1 manual v t)

-- ---- EGR

abbrev pub same : List ℕ → List ℕ → Bool
same [] [] = true
same [] (y ∷ ys) = false
same (x ∷ xs) [] = false
same (x ∷ xs) (y ∷ ys) = eqb x y && same xs ys

-- "UG with UDIS set and a written value other than the active one"
abbrev pub ug-under-udis : Timer → Bool
ug-under-udis t = UDIS t.cr1 && not (eqb (reg t 10) t.psc && (eqb (reg t 11) t.arr && same t.compares t.ccr))

-- "UG with OPM set, running"; under UDIS there is no update event
abbrev pub one-pulse-ug : Timer → Bool
one-pulse-ug t = OPM t.cr1 && not (UDIS t.cr1)

-- "CCxG of an output in modes 1 to 3"; "TG written 1"
abbrev pub ccg-latches : ℕ → Timer → ℕ → Bool
ccg-latches v t ch = is_set (ch + 1) v && is_output t ch && (ltb 0 (mode t ch) && ltb (mode t ch) 4)

abbrev pub trigger-generation : ℕ → Bool
trigger-generation v = is_set 6 v

-- with UG: t before it, g the state that it leaves
pub record OutsideUg (r : Rules) (t g : Timer) : Type 0 where
  pub centre-aligned-not : settled r.centre-aligned (centre-aligned t)
  pub ug-under-udis-not : settled r.ug-under-udis (ug-under-udis t)
  pub one-pulse-ug-not : settled r.one-pulse-ug (one-pulse-ug t)
  pub one-pulse-not : settled r.one-pulse (one-pulse-ug t)
  pub turned-not : settled r.centre-aligned (centre-aligned g)
  pub done-equality-not : settled r.done-equality (some (missed r g))

pub record OutsideEgr (r : Rules) (v : ℕ) (t : Timer) : Type 0 where
  pub trigger-generation-not : settled r.trigger-generation (trigger-generation v)
  pub ccg-latches-not : settled r.ccg-latches (some (ccg-latches v (cond (is_set 0 v) (generated manual t) t)))
  pub ug : is_set 0 v ≡ true → OutsideUg r t (generated_cc manual v (generated manual t))

-- ---- CNT, ARR, CCMRx, CCRx

-- "CNT written inside a step, running"
abbrev pub cnt-write-phase : Timer → Bool
cnt-write-phase t = not (eqb t.pre 0)

pub record OutsideCnt (r : Rules) (v : ℕ) (t : Timer) : Type 0 where
  pub centre-aligned-not : settled r.centre-aligned (centre-aligned t)
  pub cnt-write-phase-not : settled r.cnt-write-phase (cnt-write-phase t)
  pub answers : OutsideMatch r t (left_cnt manual v t)

-- a reload of 0 that acts at once
abbrev pub reload-zero : ℕ → Timer → Bool
reload-zero v t = eqb (bit_and v t.max) 0

pub record OutsideArr (r : Rules) (v : ℕ) (t : Timer) : Type 0 where
  pub centre-aligned-not : settled r.centre-aligned (centre-aligned t)
  pub reload-zero-not : settled r.reload-zero (reload-zero v t)
  pub answers : OutsideMatch r t (left_arr manual v t)

-- "from a forced or PWM mode to one of modes 0 to 3, with another level latched"
abbrev pub mode-change-latch : Timer → Timer → ℕ → Bool
mode-change-latch old t ch = ltb (mode t ch) 4 && differ (ocref old ch) (get_or old.ref ch false)

-- "OCxPE cleared while the written value waits"
abbrev pub ocpe-cleared : Timer → ℕ → Bool
ocpe-cleared t ch = not (Out.OCxPE (byte t ch)) && not (eqb (get_or t.compares ch 0) (ccr_of t ch))

pub record OutsideCcmr (r : Rules) (i v : ℕ) (t : Timer) : Type 0 where
  pub mode-change-latch-not : settled r.mode-change-latch (some (mode-change-latch t (stored_ccmr i v t)))
  pub preload-cleared-not : settled r.preload-cleared (some (ocpe-cleared (stored_ccmr i v t)))
  pub answers : OutsideMatch r t (left_ccmr manual i v t)

-- ---- any register: the others, and CCRx and ARR that wait for an update, meet no case

pub record OutsideWrite (r : Rules) (off v : ℕ) (t : Timer) : Type 0 where
  pub cr1 : eqb off 0x00 ≡ true → OutsideCr1 r v t
  pub egr : eqb off 0x14 ≡ true → OutsideEgr r v t
  pub cnt : eqb off 0x24 ≡ true → OutsideCnt r (kept 9 v) t
  pub arr : eqb off 0x2c ≡ true → ARPE t.cr1 ≡ false → OutsideArr r (kept 11 v) t
  pub ccmr1 : eqb off 0x18 ≡ true → OutsideCcmr r 0 (kept 6 v) t
  pub ccmr2 : eqb off 0x1c ≡ true → OutsideCcmr r 1 (kept 7 v) t
  pub ccr : is_ccr off ≡ true → Out.OCxPE (byte t (ccr_channel off)) ≡ false → OutsideMatch r t (left_ccr (ccr_channel off) (kept (off / 4) v) t)
