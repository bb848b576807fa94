-- The timer of crate tim, which computes its counter and its next event at once, does what RM0440's counter does step by
-- step. Document 01's order; every premise is written out. Assumes nothing.
use Prim.Native.Nat.{ℕ, ◌+◌, ◌-◌, ◌*◌, ◌%◌, ◌≤◌, ◌<◌, min}
use mathlib.Core.Path.{◌≡◌, refl, sym, ◌∙◌}
use mathlib.Core.Bool.{true, false, false≢true}
use native.Mathlib.Nat.{le_refl, min-eq_left, min-eq_right, sub_self, zero-mod, zero-mul, add-zero, div-mul-le_self}
use native.Mathlib.Omega.{arith}
use Rattle.rm0440.specs.Counter.{tick_up, tick_down, after}
use Rattle.tim.specs.declared.Timer.{Timer}
use Rattle.tim.specs.declared.Next.TheVariants.{Update}
use Rattle.tim.specs.declared.Due.TheVariants.{At, Stopped}
use Rattle.tim.specs.Timer.{down}
use Rattle.tim.specs.Count.{blocked, counts, ticks_at, cnt_at, synced}
use Rattle.tim.specs.Next.{update_steps, next_steps, next_event}
use Rattle.stepping.specs.Reading.{Best}
use Rattle.stepping.proofs.Counting.{up-after, up_above, up-over, down-after, down-over, down-within}
use Rattle.stepping.proofs.Synced.{cnt-runs, cnt-stopped, synced-runs, synced-waits, blocked-not, by-sync, moved, waits, moved-cnt, moved-moved, part-split}
use Rattle.stepping.proofs.Kept.{event-moved, ticks-before}
use Rattle.stepping.proofs.Nearest.{next-at-once, best-next, event-runs, event-stopped}

-- ---- the counter at a cycle

module _ (t : Timer) (runs : counts t ≡ true) (c : ℕ) where
  -- upward
  pub counts_up : down t ≡ false → t.count.cnt0 ≤ t.count.arr_act
      → cnt_at t c ≡ after (tick_up t.count.arr_act) (ticks_at t c) t.count.cnt0
  counts_up d le = rw (cnt-runs t c runs, d) (up-after t.count.arr_act t.count.cnt0 (ticks_at t c) le)

  -- named case overflown: a counter at the reload + 1 reads as 0 already
  pub counts-overflown : down t ≡ false → t.count.cnt0 ≡ t.count.arr_act + 1
      → cnt_at t c ≡ after (tick_up t.count.arr_act) (ticks_at t c) 0
  counts-overflown d e =
      rw (
        cnt-runs t c runs,
        d,
        up_above t.count.arr_act t.count.cnt0 (ticks_at t c) (omega arith),
        e,
        sub_self (t.count.arr_act + 1),
        zero-mod (t.count.arr_act + 1),
      )

  -- that is one step ahead of RM0440's counter
  pub overflown-ahead : down t ≡ false → t.count.cnt0 ≡ t.count.arr_act + 1
      → cnt_at t c ≡ after (tick_up t.count.arr_act) (1 + ticks_at t c) t.count.cnt0
  overflown-ahead d e = counts-overflown d e ∙ rw (e, up-over t.count.arr_act (ticks_at t c))

  -- named case clamped: downward a counter above the reload reads as from the reload
  pub counts-down-clamped : down t ≡ true
      → cnt_at t c ≡ after (tick_down t.count.arr_act) (ticks_at t c) (min t.count.cnt0 t.count.arr_act)
  counts-down-clamped d = rw (cnt-runs t c runs, d) (down-after t.count.arr_act (min t.count.cnt0 t.count.arr_act) (ticks_at t c))

  -- that is ahead of RM0440's counter by the steps down to the reload
  pub clamped-ahead : down t ≡ true
      → cnt_at t c ≡ after (tick_down t.count.arr_act) (t.count.cnt0 - t.count.arr_act + ticks_at t c) t.count.cnt0
  clamped-ahead d = counts-down-clamped d ∙ down-over t.count.arr_act t.count.cnt0 (ticks_at t c)

  -- downward
  pub counts-down : down t ≡ true → t.count.cnt0 ≤ t.count.arr_act
      → cnt_at t c ≡ after (tick_down t.count.arr_act) (ticks_at t c) t.count.cnt0
  counts-down d le = counts-down-clamped d ∙ rw (min-eq_left le)

-- stopped or blocked
pub stands : (t : Timer) (c : ℕ) → counts t ≡ false → cnt_at t c ≡ t.count.cnt0
stands t c e = cnt-stopped t c e

-- ---- sync

module _ (t : Timer) (pos : 0 < t.count.tick) (now c : ℕ) (le : now ≤ c) where
  -- any timer, any counter: later counts are as without the sync
  pub sync-keeps-count : cnt_at (synced t now) c ≡ cnt_at t c
  sync-keeps-count =
      by-sync t now (λ (s : Timer). cnt_at s c ≡ cnt_at t c) (λ e. moved-cnt t e pos now c le)
      (λ b r. cnt-stopped (waits t now) c (blocked-not t b) ∙ sym (cnt-stopped t c (blocked-not t b))) (λ e. refl)

  -- "keeps the part-step already elapsed, in cycles", of a timer that is not blocked
  pub sync-keeps-part : blocked t ≡ false → (c - (synced t now).count.base) % t.count.tick ≡ (c - t.count.base) % t.count.tick
  sync-keeps-part f =
      by-sync t now (λ (s : Timer). (c - s.count.base) % t.count.tick ≡ (c - t.count.base) % t.count.tick)
      (λ e. part-split t.count.base now c t.count.tick le) (λ b r. absurd (false≢true (sym f ∙ b))) (λ e. refl)

  -- a second sync is as if the first had not been
  pub sync-twice : synced (synced t now) c ≡ synced t c
  sync-twice =
      by-sync t now (λ (s : Timer). synced s c ≡ synced t c) (λ e. rw (synced-runs (moved t now) c e, synced-runs t c e) (moved-moved t e pos now c le))
      (λ b r. synced-waits (waits t now) c b r ∙ sym (synced-waits t c b r)) (λ e. refl)

-- the reference stays at or before the cycle of the sync
pub sync-base : (t : Timer) (now : ℕ) → t.count.base ≤ now → (synced t now).count.base ≤ now
sync-base t now h =
    by-sync t now (λ (s : Timer). s.count.base ≤ now) (λ e. omega (arith, div-mul-le_self (now - t.count.base) t.count.tick))
    (λ b r. le_refl now) (λ e. h)

-- ---- the next event

-- named case overflown: upward from a counter above the reload the update comes first, with no step to go
pub next-overflown : (t : Timer) → down t ≡ false → t.count.arr_act < t.count.cnt0
    → next_steps t ≡ record { steps = 0; next = Update }
next-overflown t d over = next-at-once t (rw d (omega arith))

-- due at the reference
pub event-overflown : (t : Timer) → counts t ≡ true → down t ≡ false → t.count.arr_act < t.count.cnt0
    → next_event t ≡ At t.count.base Update
event-overflown t runs d over =
    event-runs t runs ∙ rw (next-overflown t d over, zero-mul t.count.tick, add-zero t.count.base)

-- stopped or blocked
pub no-event : (t : Timer) → counts t ≡ false → next_event t ≡ Stopped
no-event t e = event-stopped t e

-- every timer, overflown too: the first of the update and the four compares, with the order of those that fall together
pub next-best : (t : Timer) → Best t 4 (next_steps t)
next-best t = best-next t

-- ---- sync and the next event

-- "A `sync` past an undelivered update loses its flag and reload." One that is past no event changes nothing, upward or downward,
-- from a counter within the reload.
pub sync-keeps-event : (t : Timer) (now : ℕ) → counts t ≡ true → t.count.cnt0 ≤ t.count.arr_act
    → ticks_at t now < update_steps t → ticks_at t now ≤ (next_steps t).steps → next_event (synced t now) ≡ next_event t
sync-keeps-event t now runs le early h = rw (synced-runs t now runs) (event-moved t now runs le early h)

-- in cycles: a sync before the next event's cycle
pub sync-before-event : (t : Timer) (now : ℕ) → counts t ≡ true → t.count.cnt0 ≤ t.count.arr_act → t.count.base ≤ now
    → now < t.count.base + (next_steps t).steps * t.count.tick → next_event (synced t now) ≡ next_event t
sync-before-event t now runs le from before =
    let less : ticks_at t now < (next_steps t).steps = ticks-before t now (next_steps t).steps from before in
    sync-keeps-event t now runs le (omega (arith, (best-next t).by-update)) (omega arith)

-- named case clamped: downward from a counter above the reload the update is counter + 1 steps away, and a sync makes it reload + 1
pub sync-clamped : (t : Timer) (now : ℕ) → counts t ≡ true → down t ≡ true → t.count.arr_act < t.count.cnt0
    → ticks_at t now ≤ t.count.arr_act
    → (update_steps t ≡ t.count.cnt0 + 1) × (ticks_at t now + update_steps (synced t now) ≡ t.count.arr_act + 1)
sync-clamped t now runs d over h =
    let low : t.count.arr_act ≤ t.count.cnt0 = omega arith in (
      rw d,
      rw (
        synced-runs t now runs,
        cnt-runs t now runs,
        d,
        min-eq_right low,
        down-within t.count.arr_act t.count.arr_act (ticks_at t now) h,
      ) (omega arith),
    )
