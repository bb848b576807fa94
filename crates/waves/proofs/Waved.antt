-- The record of a delivery's entries is the machine's waveform: the statement of specs/Waves.antt. Assumes nothing.
use Prim.Native.Nat.{ℕ, zero, suc, ◌+◌, ◌-◌, ◌*◌, ◌/◌, ◌≤◌, ◌<◌}
use mathlib.Core.Path.{◌≡◌, refl, sym, ap, ◌∙◌, subst}
use mathlib.Core.Bool.{Bool, true, false, cond}
use mathlib.Core.List.{List, [], ◌++◌, append_assoc, append-nil}
use native.Mathlib.Nat.{le_refl, le_trans, add-zero, zero-add, mul_assoc, mul-le-mul_right, div-mul-le_self, le-div_iff_mul-le, div-lt_iff_lt-mul}
use native.Mathlib.Omega.{arith}
use lib.Dec.{ltb}
use lib.ListN.{length}
use borrow.Author.Tests.{ltb-true, ltb-false, leb-false, le-leb, lt-leb}
use Rattle.rm0440.specs.State as M
use Rattle.rm0440.specs.Clock.{clocks}
use Rattle.rm0440.specs.Level.{level}
use Rattle.tim.specs.declared.Timer.{Timer}
use Rattle.tim.specs.declared.Inst.{Inst}
use Rattle.tim.specs.declared.Next.{Next}
use Rattle.tim.specs.declared.Next.TheVariants.{Update, Compare}
use Rattle.tim.specs.declared.Due.{Due}
use Rattle.tim.specs.declared.Due.TheVariants.{At}
use Rattle.tim.specs.Timer.{down, ccr_in_use}
use Rattle.tim.specs.Count.{counts}
use Rattle.tim.specs.Next.{next_steps, next_event}
use Rattle.tim.specs.Change as T
use Rattle.stepping.proofs.Nearest.{best-next, event-runs, event-stopped}
use Rattle.stepping.proofs.Synced.{cnt-stopped}
use Rattle.sig.specs.Signal.{tim_signal}
use Rattle.gpio.specs.Gpio.{bit}
use Rattle.book.specs.Book.{Entry, entries_of}
use Rattle.machine.specs.Board.{Pads}
use Rattle.machine.specs.Sys.{driver, drive_outputs}
use Rattle.machine.specs.Deliver.{applied, count_at, turn, turn_of, Run, handled as run, stop, due_by}
use Rattle.machine.specs.Deliver as D
use Rattle.machine.proofs.Routing.{by-test}
use Rattle.machine.proofs.Reach.{inst-applied}
use Rattle.book.specs.Level.{level_at}
use Rattle.accuracy.proofs.Levels.{level-append}
use Rattle.accuracy.proofs.Drive.{Wired, Driven, outputs-driven}
use Rattle.follows.specs.Seen.{raw, clocks_at, per, seen, Timed, Within, Left}
use Rattle.follows.specs.Seen as S
use Rattle.follows.specs.Follows.{Call, Delivered, between}
use Rattle.follows.proofs.Theorem.{follows}
use Rattle.follows.proofs.Delivered.{steady}
use Rattle.follows.proofs.Lasting.{left-updated, left-compared, updated-within}
use Rattle.waves.specs.Waves.{onward, Settled, shown, DrivenPin, Waves}
use Rattle.waves.proofs.Settled.{compare-count, settled-compared, settled-after, later}

-- the event's own cycle
abbrev pub due : Timer → ℕ
due t = t.count.base + (next_steps t).steps * t.count.tick

-- ---- a level that stays

-- from cycle x on, up to the next event, the machine's level of channel ch is l
abbrev pub Shows : Timer → ℕ → ℕ → ℕ → ℕ → Type 0
Shows t div ch x l = (c : ℕ) → x ≤ c → Delivered t c → l ≡ bit (level (seen t div c) ch)

-- a timer of the run: the facts that an event keeps
pub record Goes (t : Timer) (div ch x : ℕ) : Type 0 where
  pub left : Left div x t
  pub within : Within t
  pub step : ℕ
  pub ahead : counts t ≡ true → x ≤ due t
  pub next : counts t ≡ true → step ≤ (next_steps t).steps
  pub there : (c : ℕ) → x ≤ c → step ≤ clocks_at t div c / per t
  pub settled : counts t ≡ true → Settled t ch step

-- its level from there on is that at its step
level-from : (t : Timer) (div ch x : ℕ) → ch < 4 → (g : Goes t div ch x) → counts t ≡ true → Shows t div ch x (bit (T.output t ch (onward t g.step)))
level-from t div ch x four g r c le d =
    ap bit (sym (steady t.inst.manual t refl div g.left.timed g.within r ch four g.step
    (λ j q z e o m. g.settled r e o (suc j) (omega arith) (omega (arith, (best-next t).by-update)) m) c (omega (arith, g.left.based)) d (g.there c le)))

-- that of a stopped or blocked timer stands
level-stopped : (t : Timer) (div ch x : ℕ) → counts t ≡ false → Shows t div ch x (bit (T.output t ch t.count.cnt0))
unfolding level T.output
level-stopped t div ch x r c le d = ap (λ (k : ℕ). bit (T.output t ch k)) (sym (cnt-stopped t c r))

-- ---- an event

tick-pos : (t : Timer) (div : ℕ) → Timed t div → 0 < t.count.tick
tick-pos t div w = go t.count.tick refl
  where
    go : (x : ℕ) → t.count.tick ≡ x → 0 < x
    go zero e = absurd (omega (arith, w.timed, w.pos))
    go (suc x) e = omega arith

-- what an event leaves, at its own cycle
pub record After (s : Timer) (div ch x cnt : ℕ) : Type 0 where
  pub goes : Goes s div ch x
  pub shows : Shows s div ch x (bit (T.output s ch cnt))

none-on : (d : Bool) (v : ℕ) → cond d (v - 0) (v + 0) ≡ v
none-on true v = omega arith
none-on false v = omega arith

base-updated : (t : Timer) (x div : ℕ) → (T.updated t x div).count.base ≡ x
unfolding T.updated T.reloaded T.restarted T.recomputed_after_update T.ended
base-updated t x div = refl

after-update : (t : Timer) (div ch x : ℕ) → ch < 4 → Timed t div → After (T.updated t x div) div ch x (T.updated t x div).count.cnt0
after-update t div ch x four w = record { goes = g; shows = go (counts (T.updated t x div)) refl }
  where
    g : Goes (T.updated t x div) div ch x
    g = record {
      left = left-updated t div w x x (le_refl x);
      within = updated-within t x div;
      step = 0;
      ahead = λ r. omega (arith, base-updated t x div);
      next = λ r. omega arith;
      there = λ c l. omega arith;
      settled = λ r. settled-after t x div ch four (updated-within t x div) r;
    }

    go : (b : Bool) → counts (T.updated t x div) ≡ b → Shows (T.updated t x div) div ch x (bit (T.output (T.updated t x div) ch (T.updated t x div).count.cnt0))
    go true r c l d =
        ap (λ (k : ℕ). bit (T.output (T.updated t x div) ch k)) (sym (none-on (down (T.updated t x div)) (T.updated t x div).count.cnt0))
        ∙ level-from (T.updated t x div) div ch x four g r c l d
    go false r c l d = level-stopped (T.updated t x div) div ch x r c l d

-- the steps to a cycle that is not before s steps
steps-there : (t : Timer) (div s c : ℕ) → Timed t div → t.count.base + s * t.count.tick ≤ c → s ≤ clocks_at t div c / per t
steps-there t div s c w h =
    let m : s * t.count.tick ≡ s * per t * div = ap (λ (y : ℕ). s * y) w.timed ∙ sym (mul_assoc s (per t) div) in
    (le-div_iff_mul-le {k = per t} (omega arith)).1 ((le-div_iff_mul-le {k = div} w.pos).1 (omega (arith, m)))

compared-count : (t : Timer) (c : ℕ) → ((T.compared t c).count ≡ t.count) × (ccr_in_use (T.compared t c) c ≡ ccr_in_use t c)
unfolding T.compared T.matched
compared-count t c = (refl, refl)

after-compare : (t : Timer) (div ch x c : ℕ) → ch < 4 → (g : Goes t div ch x) → counts t ≡ true → (next_steps t).next ≡ Compare c
    → After (T.compared t c) div ch (due t) (ccr_in_use (T.compared t c) c)
unfolding T.compared T.matched
after-compare t div ch x c four g r is = record { goes = h; shows = λ y l d. ap (λ (k : ℕ). bit (T.output (T.compared t c) ch k)) (sym (compare-count t c is)) ∙ level-from (T.compared t c) div ch (due t) four h r y l d }
  where
    h : Goes (T.compared t c) div ch (due t)
    h = record {
      left = left-compared t div g.left.timed c (due t) (omega arith);
      within = g.within;
      step = (next_steps t).steps;
      ahead = λ q. omega (arith, mul-le-mul_right t.count.tick (later t c));
      next = λ q. later t c;
      there = λ y l. steps-there t div (next_steps t).steps y g.left.timed l;
      settled = λ q. settled-compared t c is ch g.step (g.next r) (g.settled r);
    }

after-event : (t : Timer) (div ch x : ℕ) → ch < 4 → (g : Goes t div ch x) → counts t ≡ true → (e : Next) → (next_steps t).next ≡ e
    → After (applied t e (due t) div) div ch (due t) (count_at (applied t e (due t) div) e)
after-event t div ch x four g r Update is = after-update t div ch (due t) four g.left.timed
after-event t div ch x four g r (Compare c) is = after-compare t div ch x c four g r is

-- ---- a run

module _ (t₀ : Timer) (div a ch pin : ℕ) (call : Call t₀ div a) (quiet : Delivered t₀ a) (four : ch < 4) (l₀ : ℕ) where
  -- the machine's level
  abbrev pub wave : ℕ → ℕ
  wave c = bit (level (clocks (S.rules_of t₀) (between t₀ div a c) (seen t₀ div a)) ch)

  -- after k events, the last at x
  pub record Told (k : ℕ) (t : Timer) (p : Pads) (es : List Entry) (x : ℕ) : Type 0 where
    pub goes : Goes t div ch x
    pub from : a ≤ x
    pub drives : driver t.inst.n ≡ true
    pub has : ch < t.inst.channels
    pub wired : Wired (tim_signal t.inst.n ch) pin p
    pub shows : Shows t div ch x (shown p pin)
    pub reach : (c f : ℕ) → x ≤ c → S.deliver (k + f) c div t₀ ≡ S.deliver f c div t
    pub past : (c : ℕ) → a ≤ c → c < x → level_at pin es l₀ c ≡ wave c
    pub present : (c : ℕ) → x ≤ c → level_at pin es l₀ c ≡ shown p pin

  -- up to the next event the wave is what is shown
  module _ (k : ℕ) (t : Timer) (p : Pads) (es : List Entry) (x : ℕ) (o : Told k t p es x) where
    wave-now : (c : ℕ) → x ≤ c → Delivered t c → shown p pin ≡ wave c
    unfolding S.deliver
    wave-now c le d =
        let e : S.deliver k c div t₀ ≡ t = ap (λ (n : ℕ). S.deliver n c div t₀) (sym (add-zero k)) ∙ o.reach c 0 le in
        o.shows c le d
        ∙ ap (λ (s : M.Timer). bit (level s ch)) (sym (follows.deliveries k t₀ div a c call (le_trans o.from le) quiet (subst (λ (u : Timer). Delivered u c) (sym e) d) tt ∙ ap (λ (u : Timer). seen u div c) e))

    not_yet : counts t ≡ true → (c : ℕ) → c < due t → Delivered t c
    not_yet r c l = ap (λ (d : Due). due_by d c) (event-runs t r) ∙ lt-leb (due t) c l

    -- at the end
    pub all_told : (now : ℕ) → Delivered t now → (c : ℕ) → a ≤ c → c ≤ now → level_at pin es l₀ c ≡ wave c
    all_told now d c from le = go (ltb c x) refl
      where
        earlier : Delivered t c
        earlier = by (counts t) refl
          where
            by : (b : Bool) → counts t ≡ b → Delivered t c
            by false r = ap (λ (e : Due). due_by e c) (event-stopped t r)
            by true r = not_yet r c (omega (arith, leb-false (due t) now (ap (λ (e : Due). due_by e now) (sym (event-runs t r)) ∙ d)))

        go : (b : Bool) → ltb c x ≡ b → level_at pin es l₀ c ≡ wave c
        go true e = o.past c from (ltb-true c x e)
        go false e = o.present c (ltb-false c x e) ∙ wave-now c (ltb-false c x e) earlier

    -- one event more
    module _ (r : counts t ≡ true) (e : Next) (is : (next_steps t).next ≡ e) where
      abbrev pub s : Timer
      s = applied t e (due t) div

      abbrev pub q : Pads
      q = (drive_outputs s (count_at s e) p).pads

      abbrev pub fs : List Entry
      fs = entries_of (due t) (drive_outputs s (count_at s e) p).changes

      same : s.inst ≡ t.inst
      same = inst-applied t e (due t) div

      w : Driven (tim_signal s.inst.n ch) pin (due t) p q fs (bit (T.output s ch (count_at s e)))
      w =
          outputs-driven s (count_at s e) ch pin (due t) (subst (λ (i : Inst). driver i.n ≡ true) (sym same) o.drives) four (subst (λ (i : Inst). ch < i.channels) (sym same) o.has) p
          (subst (λ (i : Inst). Wired (tim_signal i.n ch) pin p) (sym same) o.wired)

      x≤ : x ≤ due t
      x≤ = o.goes.ahead r

      one_more : (n c : ℕ) → due t ≤ c → S.deliver (suc n) c div t ≡ S.deliver n c div (S.applied t div (At (due t) e))
      unfolding S.deliver
      one_more n c l =
          let d : next_event t ≡ At (due t) e = event-runs t r ∙ ap (At (due t)) is in
          ap (λ (y : Due). cond (due_by y c) (S.deliver n c div (S.applied t div y)) t) d
          ∙ ap (λ (b : Bool). cond b (S.deliver n c div (S.applied t div (At (due t) e))) t) (le-leb (due t) c l)

      pub told : (applied-is : S.applied t div (At (due t) e) ≡ s) → Told (suc k) s q (es ++ fs) (due t)
      told applied-is = record {
        goes = f.goes;
        from = le_trans o.from x≤;
        drives = subst (λ (i : Inst). driver i.n ≡ true) (sym same) o.drives;
        has = subst (λ (i : Inst). ch < i.channels) (sym same) o.has;
        wired = w.wired;
        shows = λ c l d. w.shows ∙ f.shows c l d;
        reach = reach;
        past = past;
        present = λ c l. level-append pin es fs l₀ c ∙ ap (λ (v : ℕ). level_at pin fs v c) (o.present c (le_trans x≤ l)) ∙ w.moves.since c l;
      }
        where
          f : After s div ch (due t) (count_at s e)
          f = after-event t div ch x four o.goes r e is

          past : (c : ℕ) → a ≤ c → c < due t → level_at pin (es ++ fs) l₀ c ≡ wave c
          past c from l = level-append pin es fs l₀ c ∙ w.moves.before (level_at pin es l₀ c) c l ∙ go (ltb c x) refl
            where
              go : (b : Bool) → ltb c x ≡ b → level_at pin es l₀ c ≡ wave c
              go true z = o.past c from (ltb-true c x z)
              go false z = o.present c (ltb-false c x z) ∙ wave-now c (ltb-false c x z) (not_yet r c l)

          reach : (c n : ℕ) → due t ≤ c → S.deliver (suc k + n) c div t₀ ≡ S.deliver n c div s
          reach c n l =
              let z : suc k + n ≡ k + suc n = omega arith in
              ap (λ (y : ℕ). S.deliver y c div t₀) z ∙ o.reach c (suc n) (le_trans x≤ l) ∙ one_more n c l ∙ ap (S.deliver n c div) applied-is

  -- ---- every event of a delivery

  pub applied-same : (t : Timer) (x : ℕ) (e : Next) → S.applied t div (At x e) ≡ applied t e x div
  applied-same t x Update = refl
  applied-same t x (Compare c) = refl

  pub nothing_left : (b : Bool) → ◌≡◌ {A = ℕ} (cond b 8 0) 0 → b ≡ false
  nothing_left true z = absurd (omega arith)
  nothing_left false z = refl

  -- so many events, with the record up to here
  abbrev Record : ℕ → List Entry → Run → Type 0
  Record now es r = r.number ≡ 0 → (c : ℕ) → a ≤ c → c ≤ now → level_at pin (es ++ r.entries) l₀ c ≡ wave c

  ended : (now k : ℕ) (t : Timer) (p : Pads) (es : List Entry) (x n : ℕ) → Told k t p es x → (n ≡ 0 → due_by (next_event t) now ≡ false) → Record now es (stop t p n)
  ended now k t p es x n o d z c from le = rw append-nil (all_told k t p es x o now (d z) c from le)

  -- what one event and the rest of a run leave
  abbrev pub rest : ℕ → ℕ → ℕ → Timer → Pads → Due → Run
  rest f now left t p d =
      D.after_turn (turn_of t p d div).entries (run f now div (left - length (turn_of t p d div).entries) (turn_of t p d div).timer (turn_of t p d div).pads)

  next-told : (f now left k : ℕ) (t : Timer) (p : Pads) (es : List Entry) (x : ℕ) → Told k t p es x → counts t ≡ true
      → ((left' k' : ℕ) (t' : Timer) (p' : Pads) (es' : List Entry) (x' : ℕ) → Told k' t' p' es' x' → Record now es' (run f now div left' t' p'))
      → Record now es (rest f now left t p (At (due t) (next_steps t).next))
  unfolding turn
  next-told f now left k t p es x o r ih z c from le =
      let e = (next_steps t).next in
      let y = told k t p es x o r e refl (applied-same t (due t) e) in
      rw append_assoc at (ih (left - length (fs k t p es x o r e refl)) (suc k) (s k t p es x o r e refl) (q k t p es x o r e refl) (es ++ fs k t p es x o r e refl) (due t) y z c from le)

  step_of : (f now left k : ℕ) (t : Timer) (p : Pads) (es : List Entry) (x : ℕ) → Told k t p es x → due_by (next_event t) now ≡ true
      → ((left' k' : ℕ) (t' : Timer) (p' : Pads) (es' : List Entry) (x' : ℕ) → Told k' t' p' es' x' → Record now es' (run f now div left' t' p'))
      → Record now es (rest f now left t p (next_event t))
  step_of f now left k t p es x o e ih = go (counts t) refl
    where
      go : (b : Bool) → counts t ≡ b → Record now es (rest f now left t p (next_event t))
      go true r = subst (λ (d : Due). Record now es (rest f now left t p d)) (sym (event-runs t r)) (next-told f now left k t p es x o r ih)
      go false r = absurd (let z : ◌≡◌ {A = ℕ} 0 1 = cc (ap (λ (d : Due). due_by d now) (event-stopped t r)) in omega arith)

  run-told : (f now left k : ℕ) (t : Timer) (p : Pads) (es : List Entry) (x : ℕ) → Told k t p es x → Record now es (run f now div left t p)
  unfolding run
  run-told zero now left k t p es x o =
      ended now k t p es x (cond (due_by (next_event t) now) 8 0) o (λ z. nothing_left (due_by (next_event t) now) z)
  run-told (suc f) now left k t p es x o =
      by-test (Record now es) (due_by (next_event t) now)
      (λ e. by-test (Record now es) (ltb left 4) (λ l. ended now k t p es x 8 o (λ z. absurd (omega arith)))
      (λ l. step_of f now left k t p es x o e (λ left' k' t' p' es' x' o'. run-told f now left' k' t' p' es' x' o')))
      (λ e. ended now k t p es x 0 o (λ z. e))

-- ---- the statement

pub grows : (base div per a c : ℕ) → 0 < div → 0 < per → a ≤ c → (a - base) / div / per ≤ (c - base) / div / per
grows base div per a c p q le =
    let one : (a - base) / div ≤ (c - base) / div = (le-div_iff_mul-le {k = div} p).1 (omega (arith, div-mul-le_self (a - base) div)) in
    (le-div_iff_mul-le {k = per} q).1 (omega (arith, div-mul-le_self ((a - base) / div) per))

pub level-none : (pin l c : ℕ) → level_at pin [] l c ≡ l
unfolding level_at
level-none pin l c = refl

-- at cycle a, before any event
pub begins : (t : Timer) (div a ch pin : ℕ) (p : Pads) (o : DrivenPin t div a ch pin p) → Told t div a ch pin o.call o.quiet o.channel (shown p pin) 0 t p [] a
begins t div a ch pin p o = record {
  goes = record {
    left = record { timed = o.call.timed; based = o.call.came };
    within = o.call.within;
    step = clocks_at t div a / per t;
    ahead = λ r. omega (arith, early r);
    next = λ r. few (early r);
    there = λ y l. grows t.count.base div (per t) a y o.call.timed.pos (omega arith) l;
    settled = λ r. o.settled;
  };
  from = le_refl a;
  drives = o.drives;
  has = o.has;
  wired = record { sound = o.pads; pin-is = o.pin-is; route = o.route; push-pull = o.push-pull };
  shows = o.shows;
  reach = λ y f l. ap (λ (n : ℕ). S.deliver n y div t) (zero-add f);
  past = λ y l m. absurd (omega arith);
  present = λ y l. none y;
}
  where
    early : counts t ≡ true → a < due t
    early r = leb-false (due t) a (ap (λ (d : Due). due_by d a) (sym (event-runs t r)) ∙ o.quiet)

    few : a < due t → clocks_at t div a / per t ≤ (next_steps t).steps
    few l =
        let m : (next_steps t).steps * t.count.tick ≡ (next_steps t).steps * per t * div = ap (λ (y : ℕ). (next_steps t).steps * y) o.call.timed.timed ∙ sym (mul_assoc (next_steps t).steps (per t) div) in
        let i : clocks_at t div a < (next_steps t).steps * per t = (div-lt_iff_lt-mul {k = div} o.call.timed.pos).1 (omega (arith, m, o.call.came)) in
        let j : clocks_at t div a / per t < (next_steps t).steps = (div-lt_iff_lt-mul {k = per t} (omega arith)).1 i in
        omega arith

    none : (y : ℕ) → level_at pin [] (shown p pin) y ≡ shown p pin
    none y = level-none pin (shown p pin) y

pub waves : Waves
waves events places now t div a ch pin p o z c from le =
    run-told t div a ch pin o.call o.quiet o.channel (shown p pin) events now places 0 t p [] a (begins t div a ch pin p o) z c from le
