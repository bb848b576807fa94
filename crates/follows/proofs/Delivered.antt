-- tim's deliveries, late calls and outputs: the theorems over the period with the rules that the port takes, and stopped timers. Assumes nothing.
use Prim.Native.Nat.{ℕ, zero, suc, ◌+◌, ◌-◌, ◌/◌, ◌%◌, ◌≤◌, ◌<◌}
use mathlib.Core.Path.{◌≡◌, refl, sym, ap, ◌∙◌}
use mathlib.Core.Bool.{Bool, true, false, cond}
use native.Mathlib.Omega.{arith}
use lib.Dec.{lit<}
use lib.ListN.{get_or}
use Rattle.rm0440.specs.Rules.{port_takes, port_rules}
use Rattle.rm0440.specs.State as M
use Rattle.rm0440.specs.Clock.{meets, matched, clocks}
use Rattle.rm0440.specs.Late.{passed, passes}
use Rattle.rm0440.specs.Level.{level}
use Rattle.tim.specs.declared.Timer.{Timer}
use Rattle.tim.specs.declared.Due.{Due}
use Rattle.tim.specs.declared.Ahead.{Ahead}
use Rattle.tim.specs.Timer.{down, is_output, ccr_in_use}
use Rattle.tim.specs.Count.{counts, cnt_at}
use Rattle.tim.specs.Next.{next_steps, next_event}
use Rattle.tim.specs.Change as T
use Rattle.stepping.proofs.Synced.{cnt-stopped}
use Rattle.follows.specs.Seen.{raw, clocks_at, per, seen, Timed, Within, due_by, deliver}
use Rattle.follows.proofs.Leap as Leap
use Rattle.follows.proofs.Leap.{Silent, matched-none}
use Rattle.follows.proofs.Event.{not_yet}
use Rattle.follows.proofs.Between.{late, next-same, best, seen_at}
use Rattle.follows.proofs.Port as Port
use Rattle.follows.proofs.Deliver.{delivers, none-due, still, deliver-stopped, seen-stopped, mute}
use Rattle.follows.proofs.Output as Output
use Rattle.follows.proofs.Instances.{moves-is, seen-is, next-is, event-is, deliver-is, on-course, manual-left}

-- nothing due before, nothing due after
due-is : (p : Bool) (t : Timer) → t.inst.manual ≡ p → (c : ℕ) → due_by (next_event t) c ≡ false → due_by (Port.next_event (port_takes p) t) c ≡ false
due-is p t is c d = ap (λ (e : Due). due_by e c) (event-is p t is) ∙ d

pub left_is : (p : Bool) (f c div : ℕ) (t : Timer) → t.inst.manual ≡ p → due_by (next_event (deliver f c div t)) c ≡ false
    → due_by (Port.next_event (port_takes p) (Port.deliver (port_takes p) f c div t)) c ≡ false
left_is p f c div t is d = ap (λ (u : Timer). due_by (Port.next_event (port_takes p) u) c) (deliver-is p f c div t is) ∙ due-is p (deliver f c div t) (manual-left p f c div t is) c d

pub seen-left : (p : Bool) (f c div : ℕ) (t : Timer) → t.inst.manual ≡ p → Port.seen (port_takes p) (Port.deliver (port_takes p) f c div t) div c ≡ seen (deliver f c div t) div c
seen-left p f c div t is = ap (λ (u : Timer). Port.seen (port_takes p) u div c) (deliver-is p f c div t is) ∙ seen-is p (deliver f c div t) (manual-left p f c div t is) div c

module _ (p : Bool) (t : Timer) (is : t.inst.manual ≡ p) (div : ℕ) (w : Timed t div) (h : Within t) where
  rests : counts t ≡ false → Port.moves (port_takes p) t ≡ false
  rests r = moves-is p t is ∙ r

  -- ---- a delivery

  pub follows : (f a c : ℕ) → t.count.base ≤ a → a ≤ c → due_by (next_event t) a ≡ false → due_by (next_event (deliver f c div t)) c ≡ false
      → clocks (port_rules p) (clocks_at t div c - clocks_at t div a) (seen t div a) ≡ seen (deliver f c div t) div c
  follows f a c b le d e = go (counts t) refl
    where
      n : ℕ
      n = clocks_at t div c - clocks_at t div a

      go : (r : Bool) → counts t ≡ r → clocks (port_rules p) n (seen t div a) ≡ seen (deliver f c div t) div c
      go true r =
          ap (clocks (port_rules p) n) (sym (seen-is p t is div a))
          ∙ delivers (port_takes p) t div (on-course p t is div w r h) f a c b le (due-is p t is a d) (left_is p f c div t is e) ∙ seen-left p f c div t is
      go false r =
          ap (clocks (port_rules p) n) (sym (seen-is p t is div a) ∙ sym (seen-stopped (port_takes p) t (rests r) div a)) ∙ still (port_takes p) t (rests r) n
          ∙ seen-stopped (port_takes p) t (rests r) div c ∙ ap (λ (u : Timer). Port.seen (port_takes p) u div c) (sym (deliver-stopped (port_takes p) t (rests r) f c div)) ∙ seen-left p f c div t is

  -- ---- a call that finds events due, or none

  stands : (n : ℕ) → counts t ≡ false → passes (port_rules p) n (raw t) ≡ raw t
  unfolding passes passed
  stands zero r = refl
  stands (suc n) r = ap (passed (port_rules p)) (stands n r) ∙ rw (rests r)

  pub passes-by : (c : ℕ) → passes (port_rules p) (clocks_at t div c) (seen t div t.count.base) ≡ seen t div c
  passes-by c = go (counts t) refl
    where
      go : (r : Bool) → counts t ≡ r → passes (port_rules p) (clocks_at t div c) (seen t div t.count.base) ≡ seen t div c
      go true r =
          ap (passes (port_rules p) (clocks_at t div c)) (sym (seen-is p t is div t.count.base)) ∙ late (port_takes p) t div (on-course p t is div w r h) c ∙ seen-is p t is div c
      go false r =
          ap (passes (port_rules p) (clocks_at t div c)) (sym (seen-is p t is div t.count.base) ∙ sym (seen-stopped (port_takes p) t (rests r) div t.count.base))
          ∙ stands (clocks_at t div c) r ∙ seen-stopped (port_takes p) t (rests r) div c ∙ seen-is p t is div c

  -- ---- with nothing due no count is met

  pub silent : (c : ℕ) → t.count.base ≤ c → due_by (next_event t) c ≡ false → Silent (port_rules p) (seen t div c)
  silent c b d = go (counts t) refl
    where
      go : (r : Bool) → counts t ≡ r → Silent (port_rules p) (seen t div c)
      go false r = mute (port_takes p) (seen t div c) (rests r)
      go true r = record { q0 = q 0 (lit< tt); q1 = q 1 (lit< tt); q2 = q 2 (lit< tt); q3 = q 3 (lit< tt) }
        where
          y : Port.Runs (port_takes p) t div
          y = on-course p t is div w r h

          k : ℕ
          k = clocks_at t div c / per t

          early : k < (Port.next_steps (port_takes p) t).steps
          early = none-due (port_takes p) t div y c b (due-is p t is c d)

          there : seen t div c ≡ Leap.at (raw t) (clocks_at t div c % per t) k
          there = sym (seen-is p t is div c) ∙ seen_at (port_takes p) t div y c (clocks_at t div c) refl (omega (arith, (best (port_takes p) t div y).by-update, early))

          q : (ch : ℕ) → ch < 4 → meets (port_rules p) (seen t div c) ch ≡ false
          q ch l = ap (λ (s : M.Timer). meets (port_rules p) s ch) there ∙ not_yet (port_rules p) (raw t) refl refl y.free k (rw (ap (λ (a : Ahead). a.steps) (next-same (port_takes p) t div y)) at early) ch l

  pub quiet : (c : ℕ) → t.count.base ≤ c → due_by (next_event t) c ≡ false → matched (port_rules p) (seen t div c) ≡ seen t div c
  quiet c b d = matched-none (port_rules p) (seen t div c) (silent c b d)

  -- ---- outputs

  -- what is driven at a count is the machine's level there
  pub drives : (c ch : ℕ) → level (seen t div c) ch ≡ T.output t ch (cnt_at t c)
  unfolding level T.output
  drives c ch = refl

  -- from the k-th step on it stays up to the next event, unless a compare is met that the record calls done (done-equality)
  pub steady : counts t ≡ true → (ch : ℕ) → ch < 4 → (k : ℕ)
      → ((j : ℕ) → k ≤ j → suc j < (next_steps t).steps → get_or t.chan.cc_done ch false ≡ true → is_output t ch ≡ true → Leap.onward (raw t) (suc j) ≡ ccr_in_use t ch → ⊥)
      → (c : ℕ) → t.count.base ≤ c → due_by (next_event t) c ≡ false → k ≤ clocks_at t div c / per t → level (seen t div c) ch ≡ T.output t ch (Leap.onward (raw t) k)
  steady r ch l k kept c b d le =
      let y = on-course p t is div w r h in
      let same : (Port.next_steps (port_takes p) t).steps ≡ (next_steps t).steps = ap (λ (a : Ahead). a.steps) (next-is p t) in
      let early : clocks_at t div c / per t < (Port.next_steps (port_takes p) t).steps = none-due (port_takes p) t div y c b (due-is p t is c d) in
      ap (λ (s : M.Timer). level s ch) (sym (seen-is p t is div c))
      ∙ Output.level-at (port_takes p) t div y ch l c early
      ∙ Output.from_step (port_takes p) t div y ch l k (clocks_at t div c / per t) le early (λ j q z. kept j q (rw (sym same) z))

  pub stays : t.count.running ≡ true → (ch : ℕ) → ch < 4
      → ((j : ℕ) → suc j < (next_steps t).steps → get_or t.chan.cc_done ch false ≡ true → is_output t ch ≡ true → Leap.onward (raw t) (suc j) ≡ ccr_in_use t ch → ⊥)
      → (c : ℕ) → t.count.base ≤ c → due_by (next_event t) c ≡ false → level (seen t div c) ch ≡ T.output t ch t.count.cnt0
  stays r ch l kept c b d = still-or (counts t) refl
    where
      go : (d : Bool) (v : ℕ) → cond d (v - 0) (v + 0) ≡ v
      go true v = omega arith
      go false v = omega arith

      still-or : (x : Bool) → counts t ≡ x → level (seen t div c) ch ≡ T.output t ch t.count.cnt0
      still-or true e = steady e ch l 0 (λ j q. kept j) c b d (omega arith) ∙ ap (T.output t ch) (go (down t) t.count.cnt0)
      still-or false e = drives c ch ∙ ap (T.output t ch) (cnt-stopped t c e)
