-- A timer that was synced counts as its reference says. Assumes nothing.
use Rattle.std.specs.Prelude.{Some}
use mathlib.Core.Path.{◌≡◌, refl, ap, sym}
use mathlib.Core.Bool.{Bool, true, false, cond}
use Prim.Native.Nat.{ℕ, ◌+◌, ◌-◌, ◌*◌, ◌/◌, ◌%◌, ◌≤◌, ◌<◌, min}
use native.Mathlib.Nat.{add-zero, sub-zero, div-add-mod', div-eq_of_lt, mod-lt}
use native.Mathlib.Omega.{arith}
use lib.Dec.{leb}
use borrow.Author.Tests.{le-leb}
use Rattle.rm0440.specs.Output as Out
use Rattle.tim.specs.declared.Timer.{Timer}
use Rattle.tim.specs.Timer.{down, ccmr_byte}
use Rattle.tim.specs.Count.{blocked, up_from, down_from, count_after, cnt_at, synced}
use Rattle.regs.specs.Regs as R
use Rattle.regfile.proofs.Unmoved.{up_le}

down_le : (reload cnt n : ℕ) → cnt ≤ reload → down_from reload cnt n ≤ reload
unfolding down_from
down_le reload cnt n h = go (leb n cnt)
  where
    go : (b : Bool) → cond b (cnt - n) (reload - (n - cnt - 1) % (reload + 1)) ≤ reload
    go true = omega arith
    go false = omega arith

count-le : (t : Timer) (n : ℕ) → count_after t n ≤ t.count.arr_act
count-le t n = go (down t)
  where
    go : (b : Bool)
        → cond b (down_from t.count.arr_act (min t.count.cnt0 t.count.arr_act) n) (up_from t.count.arr_act t.count.cnt0 n) ≤ t.count.arr_act
    go true = down_le t.count.arr_act (min t.count.cnt0 t.count.arr_act) n (omega arith)
    go false = up_le t.count.arr_act t.count.cnt0 n

-- no step on, a counter within the reload stays
resting : (reload cnt : ℕ) (d : Bool) → cnt ≤ reload → cond d (down_from reload (min cnt reload) 0) (up_from reload cnt 0) ≡ cnt
unfolding up_from down_from
resting reload cnt true h = let e : min cnt reload ≡ cnt = omega arith in rw (e, le-leb 0 cnt (omega arith), sub-zero)
resting reload cnt false h = rw (add-zero, le-leb cnt reload h)

-- from the last step at or before now no step has passed
no_step : (base now tick : ℕ) → 0 < tick → (now - (base + (now - base) / tick * tick)) / tick ≡ 0
no_step base now tick h = div-eq_of_lt (omega (arith, div-add-mod' (now - base) tick, mod-lt (now - base) {m = tick} h))

pub synced-counts : (t : Timer) (now : ℕ) → 0 < t.count.tick → cnt_at (synced t now) now ≡ (synced t now).count.cnt0
unfolding synced cnt_at
synced-counts t now h = go (blocked t) t.count.running refl refl
  where
    go : (b r : Bool) → blocked t ≡ b → t.count.running ≡ r → cnt_at (synced t now) now ≡ (synced t now).count.cnt0
    go true false p e = rw (e, p)
    go true true p e = rw (e, p)
    go false false p e = rw (e, p)
    go false true p e = rw (e, p, no_step t.count.base now t.count.tick h) (resting t.count.arr_act _ (down t) (count-le t ((now - t.count.base) / t.count.tick)))

-- where a written compare acts, the outputs are driven at the reference's counter
pub acts-at : (t : Timer) (ch v cycle : ℕ) → 0 < t.count.tick → Out.OCxPE (ccmr_byte t ch) ≡ false
    → Some (R.ccr_written t ch v cycle).timer.count.cnt0 ≡ (R.ccr_written t ch v cycle).drive
unfolding R.ccr_written cnt_at
acts-at t ch v cycle h e = rw e (ap (λ (n : ℕ). Some n) (sym (synced-counts t cycle h)))
