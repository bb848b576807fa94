-- Of the port's timer after a turn: reference, step and course are those of the values just loaded. Assumes nothing.
use Prim.Native.Nat.{ℕ, zero, suc, ◌<◌}
use mathlib.Core.Path.{◌≡◌, refl, ap, ◌∙◌}
use mathlib.Core.Bool.{Bool, true, false, cond, not, ◌&&◌}
use native.Mathlib.Nat.{le_refl}
use native.Mathlib.Omega.{arith}
use lib.Dec.{eqb}
use lib.ListN.{length}
use borrow.Author.Tests.{eqb-false}
use Rattle.rm0440.specs.Bits.{UDIS}
use Rattle.rm0440.specs.Counter.{restart}
use Rattle.tim.specs.declared.Timer.{Timer}
use Rattle.tim.specs.Timer as T
use Rattle.tim.specs.Change as C
use Rattle.rm0440.specs.Rules.{Taken}
use Rattle.rm0440.specs.State.{with_bit, CMS}
use Rattle.follows.proofs.Place.{Stands}
use Rattle.follows.proofs.Dir.{dir-small}
use Rattle.follows.proofs.Port.{centre, stuck, turned, pulse_ends, ended, updated, Runs}

manual-centre : (m b : Bool) → m && b ≡ true → m ≡ true
manual-centre true b e = refl
manual-centre false b e = e

-- a reload that does not block is above 0
above_zero : (m : Bool) (a : ℕ) → m && eqb a 0 ≡ false → m ≡ true → 0 < a
above_zero false a f e = absurd (let z : ◌≡◌ {A = ℕ} 0 1 = cc in omega arith)
above_zero true zero f e = absurd (eqb-false 0 0 f refl)
above_zero true (suc a) f e = omega arith

begins : (c : Bool) (a : ℕ) (d : Bool) → (c ≡ true → 0 < a) → Stands c a d (restart d a)
begins c a true h = record { within = le_refl a; up = λ e f. absurd (let z : ◌≡◌ {A = ℕ} 0 1 = cc in omega arith); downward = λ e f. h e }
begins c a false h = record { within = omega arith; up = λ e f. h e; downward = λ e f. absurd (let z : ◌≡◌ {A = ℕ} 0 1 = cc in omega arith) }

module _ (m : Taken) (t : Timer) (c div : ℕ) where
  -- the turn, a pulse's end aside
  abbrev pub over : Timer
  over = C.recomputed_after_update (C.restarted (turned m (C.reloaded t)) c div)

  pub goes_on : pulse_ends m t.regs.cr1 ≡ false → updated m t c div ≡ over
  unfolding updated
  goes_on e = ap (λ (b : Bool). ended m b over) e

  pub ends_so : pulse_ends m t.regs.cr1 ≡ true → (updated m t c div).count.running ≡ false
  unfolding updated
  ends_so e = ap (λ (b : Bool). (ended m b over).count.running) e

  pub base-over : over.count.base ≡ c
  unfolding C.restarted C.recomputed_after_update
  base-over = refl

  pub sized-over : length over.chan.cc_done ≡ 4
  unfolding C.restarted C.recomputed_after_update
  sized-over = refl

  stands-over : (m.centre-aligned ≡ true → 0 < (C.reloaded t).count.arr_act) → Stands (centre m over) over.count.arr_act (T.down over) over.count.cnt0
  unfolding C.restarted C.recomputed_after_update
  stands-over h =
      begins (centre m (turned m (C.reloaded t))) (C.reloaded t).count.arr_act (T.down (turned m (C.reloaded t)))
      (λ e. h (manual-centre m.centre-aligned (not (eqb (C.reloaded t).inst.channels 0) && not (eqb (CMS (turned m (C.reloaded t)).regs.cr1) 0)) e))

  pub cr1-reloaded : (C.reloaded t).regs.cr1 ≡ t.regs.cr1
  unfolding C.reloaded
  cr1-reloaded = go (UDIS t.regs.cr1)
    where
      go : (u : Bool) → (cond u t (C.with_flag (C.loaded t) C.UIF)).regs.cr1 ≡ t.regs.cr1
      go true = refl
      go false = refl

  running-reloaded : (C.reloaded t).count.running ≡ t.count.running
  unfolding C.reloaded
  running-reloaded = go (UDIS t.regs.cr1)
    where
      go : (u : Bool) → (cond u t (C.with_flag (C.loaded t) C.UIF)).count.running ≡ t.count.running
      go true = refl
      go false = refl

  small-over : t.regs.cr1 < 4294967296 → over.regs.cr1 < 4294967296
  unfolding C.restarted C.recomputed_after_update
  small-over h = go (centre m (C.reloaded t)) (rw cr1-reloaded h)
    where
      go : (b : Bool) → (C.reloaded t).regs.cr1 < 4294967296
          → cond b (with_bit 4 (not (T.down (C.reloaded t))) (C.reloaded t).regs.cr1) (C.reloaded t).regs.cr1 < 4294967296
      go true l = dir-small (not (T.down (C.reloaded t))) (C.reloaded t).regs.cr1 l
      go false l = l

  stuck-over : stuck m over ≡ m.reload-zero && eqb (C.reloaded t).count.arr_act 0
  unfolding C.restarted C.recomputed_after_update
  stuck-over = refl

  -- it runs on its course, unless the reload that it loaded blocks it
  pub runs-over : Runs m t div → stuck m over ≡ false → Runs m over div
  unfolding C.restarted C.recomputed_after_update
  runs-over w f = record {
    pos = w.pos;
    runs = running-reloaded ∙ w.runs;
    free = f;
    timed = refl;
    sized = refl;
    stands = stands-over (λ e. above_zero m.reload-zero (C.reloaded t).count.arr_act f (w.blocks e));
    small = λ e. small-over (w.small e);
    blocks = w.blocks;
  }
