-- A turn delivered: the port's update in either mode, and the machine's clock that it is. Assumes nothing.
use Prim.Native.Nat.{ℕ, suc, ◌*◌}
use mathlib.Core.Path.{◌≡◌, refl, sym, ap, ◌∙◌}
use mathlib.Core.Bool.{Bool, true, false, cond, not, ◌&&◌}
use lib.Dec.{eqb}
use Rattle.rm0440.specs.Bits.{DIR, UDIS, OPM}
use Rattle.rm0440.specs.Counter.{restart}
use Rattle.tim.specs.declared.Timer.{Timer}
use Rattle.tim.specs.declared.Ahead.{Ahead}
use Rattle.tim.specs.declared.Next.TheVariants.{Update, Compare}
use Rattle.tim.specs.Timer as T
use Rattle.tim.specs.Change as C
use Rattle.rm0440.specs.Rules.{Rules, manual_mode, Taken}
use Rattle.rm0440.specs.State as M
use Rattle.rm0440.specs.State.{with_bit}
use Rattle.rm0440.specs.Clock.{counted, loaded, restarted, all_ahead, pulse_ended, update_event, wrapped, matched, stepped, clocks}
use Rattle.follows.proofs.Leap as Leap
use Rattle.follows.specs.Seen.{raw, per}
use Rattle.follows.proofs.Centre.{centre-channels, dir-is}
use Rattle.follows.proofs.Event.{next, turn-first, match-first}
use Rattle.follows.proofs.Port.{centre, with_way, turned, ended, updated, next_steps, seen, Runs}
use Rattle.follows.proofs.Between.{to-event, next-same}

-- ---- the machine's overflow or underflow is that update

down-turned : (m : Taken) (t : Timer) → centre m t ≡ true → T.down (turned m t) ≡ not (T.down t)
down-turned m t e =
    ap (λ (b : Bool). cond (eqb t.inst.channels 0) false (DIR (cond b (with_bit 4 (not (T.down t)) t.regs.cr1) t.regs.cr1))) e
    ∙ ap (λ (z : Bool). cond z false (DIR (with_bit 4 (not (T.down t)) t.regs.cr1))) (centre-channels (manual_mode m) (raw t) e)
    ∙ dir-is (not (T.down t)) t.regs.cr1

down-kept : (m : Taken) (t : Timer) → centre m t ≡ false → T.down (turned m t) ≡ T.down t
down-kept m t e = ap (λ (b : Bool). cond (eqb t.inst.channels 0) false (DIR (cond b (with_bit 4 (not (T.down t)) t.regs.cr1) t.regs.cr1))) e

module _ (m : Taken) (t : Timer) (x c div : ℕ) (runs : t.count.running ≡ true) where
  -- a restart, with the way and the count that begin
  abbrev begun : ℕ → ℕ → M.Timer
  begun v k = M.with_cr1 v (M.with_count (raw t) true 0 k)

  restart-port : raw (C.restarted (turned m t) c div) ≡ begun (with_way m t (not (T.down t))) (restart (T.down (turned m t)) t.count.arr_act)
  unfolding C.restarted
  restart-port = rw runs

  restart-machine : restarted (manual_mode m) (M.with_count (raw t) true 0 x) ≡ raw (C.restarted (turned m t) c div)
  unfolding restarted
  restart-machine = go (centre m t) refl ∙ sym restart-port
    where
      other-end : (d : Bool) (a : ℕ) → cond d 0 a ≡ restart (not d) a
      other-end true a = refl
      other-end false a = refl

      go : (b : Bool) → centre m t ≡ b
          → cond b (begun (with_bit 4 (not (T.down t)) t.regs.cr1) (cond (T.down t) 0 t.count.arr_act)) (M.with_count (raw t) true 0 (cond (T.down t) t.count.arr_act 0))
          ≡ begun (with_way m t (not (T.down t))) (restart (T.down (turned m t)) t.count.arr_act)
      go true e =
          ap (begun (with_bit 4 (not (T.down t)) t.regs.cr1)) (other-end (T.down t) t.count.arr_act ∙ ap (λ (d : Bool). restart d t.count.arr_act) (sym (down-turned m t e)))
          ∙ ap (λ (b : Bool). begun (cond b (with_bit 4 (not (T.down t)) t.regs.cr1) t.regs.cr1) (restart (T.down (turned m t)) t.count.arr_act)) (sym e)
      go false e =
          ap (begun t.regs.cr1) (ap (λ (d : Bool). restart d t.count.arr_act) (sym (down-kept m t e)))
          ∙ ap (λ (b : Bool). begun (cond b (with_bit 4 (not (T.down t)) t.regs.cr1) t.regs.cr1) (restart (T.down (turned m t)) t.count.arr_act)) (sym e)

ended-raw : (m : Taken) (o : Bool) (y : Timer) → all_ahead (pulse_ended (manual_mode m) o (raw y)) ≡ raw (ended m o (C.recomputed_after_update y))
unfolding pulse_ended C.recomputed_after_update
ended-raw m true y = refl
ended-raw m false y = refl

module _ (m : Taken) (t : Timer) (j c div : ℕ) (runs : t.count.running ≡ true) where
  abbrev r : Rules
  r = manual_mode m

  abbrev kept : Timer
  kept = C.restarted (turned m t) c div

  abbrev fresh : Timer
  fresh = C.restarted (turned m (C.with_flag (C.loaded t) C.UIF)) c div

  kept-is : restarted r (Leap.at (raw t) 0 j) ≡ raw kept
  kept-is = restart-machine m t (Leap.onward (raw t) j) c div runs

  fresh-is : restarted r (M.flag 0 (loaded (Leap.at (raw t) 0 j))) ≡ raw fresh
  fresh-is = restart-machine m (C.with_flag (C.loaded t) C.UIF) (Leap.onward (raw t) j) c div runs

  pulse : (o : Bool) (y : Timer) (s : M.Timer) → s ≡ raw y → all_ahead (pulse_ended r o s) ≡ raw (ended m o (C.recomputed_after_update y))
  pulse o y s e = ap (λ (z : M.Timer). all_ahead (pulse_ended r o z)) e ∙ ended-raw m o y

  under : (k o : Bool) → all_ahead (cond k (restarted r (Leap.at (raw t) 0 j)) (pulse_ended r o (restarted r (Leap.at (raw t) 0 j))))
      ≡ raw (ended m (o && not (k && true)) (C.recomputed_after_update kept))
  unfolding pulse_ended
  under true true = pulse false kept _ kept-is
  under true false = pulse false kept _ kept-is
  under false true = pulse true kept _ kept-is
  under false false = pulse false kept _ kept-is

  plain : (k o : Bool) → all_ahead (pulse_ended r o (restarted r (M.flag 0 (loaded (Leap.at (raw t) 0 j)))))
      ≡ raw (ended m (o && not (k && false)) (C.recomputed_after_update fresh))
  plain true true = pulse true fresh _ fresh-is
  plain true false = pulse false fresh _ fresh-is
  plain false true = pulse true fresh _ fresh-is
  plain false false = pulse false fresh _ fresh-is

  pub wrapped-is : wrapped r (Leap.at (raw t) 0 j) ≡ raw (updated m t c div)
  unfolding wrapped update_event updated C.reloaded
  wrapped-is = go (UDIS t.regs.cr1)
    where
      go : (u : Bool) → all_ahead (cond u (cond m.one-pulse-udis (restarted r (Leap.at (raw t) 0 j)) (pulse_ended r (OPM t.regs.cr1) (restarted r (Leap.at (raw t) 0 j))))
          (pulse_ended r (OPM t.regs.cr1) (restarted r (M.flag 0 (loaded (Leap.at (raw t) 0 j))))))
          ≡ raw (ended m (OPM t.regs.cr1 && not (m.one-pulse-udis && u)) (C.recomputed_after_update (C.restarted (turned m (cond u t (C.with_flag (C.loaded t) C.UIF))) c div)))
      go true = under m.one-pulse-udis (OPM t.regs.cr1)
      go false = plain m.one-pulse-udis (OPM t.regs.cr1)

-- ---- the clocks to the next event of the port

module _ (m : Taken) (t : Timer) (div : ℕ) (w : Runs m t div) (j : ℕ) (is : (next_steps m t).steps ≡ suc j) where
  steps-is : (next (manual_mode m) (raw t)).steps ≡ suc j
  steps-is = ap (λ (a : Ahead). a.steps) (sym (next-same m t div w)) ∙ is

  -- it is a turn: the machine has come to the port's update, and to what matches there
  pub to-update : (next_steps m t).next ≡ Update → (c : ℕ)
      → clocks (manual_mode m) (suc j * per t) (seen m t div t.count.base) ≡ matched (manual_mode m) (raw (updated m t c div))
  unfolding stepped
  to-update u c =
      let wr = turn-first (manual_mode m) (raw t) refl refl w.free j steps-is (ap (λ (a : Ahead). a.next) (sym (next-same m t div w)) ∙ u) in
      to-event m t div w j is
      ∙ ap (λ (b : Bool). matched (manual_mode m) (cond b (wrapped (manual_mode m) (Leap.at (raw t) 0 j)) (counted (Leap.at (raw t) 0 j)))) wr
      ∙ ap (matched (manual_mode m)) (wrapped-is m t j c div w.runs)

  -- it is a compare: the machine has come to its count, and to what matches there
  pub to-compare : (ch : ℕ) → (next_steps m t).next ≡ Compare ch
      → clocks (manual_mode m) (suc j * per t) (seen m t div t.count.base) ≡ matched (manual_mode m) (Leap.at (raw t) 0 (suc j))
  unfolding stepped
  to-compare ch u =
      let f = match-first (manual_mode m) (raw t) refl refl w.free j ch steps-is (ap (λ (a : Ahead). a.next) (sym (next-same m t div w)) ∙ u) in
      to-event m t div w j is
      ∙ ap (λ (b : Bool). matched (manual_mode m) (cond b (wrapped (manual_mode m) (Leap.at (raw t) 0 j)) (counted (Leap.at (raw t) 0 j)))) f.no-turn-yet
      ∙ ap (λ (x : ℕ). matched (manual_mode m) (M.with_count (raw t) true 0 x)) (Leap.onward-suc (T.down t) t.count.cnt0 j)
