-- Outside the named cases a clock by rules r is a clock by the manual. Assumes nothing.
use Prim.Native.Nat.{ℕ, zero, suc, ◌+◌, ◌-◌, ◌*◌, ◌/◌, ◌%◌, ◌≤◌, ◌<◌}
use mathlib.Core.Path.{◌≡◌, refl, ap, ◌∙◌}
use mathlib.Core.Bool.{Bool, true, false, cond, not, ◌&&◌, ◌||◌}
use mathlib.Core.Logic.{◌⊎◌, inl, inr}
use native.Mathlib.Nat.{eq-or-lt_of_le, div-div-eq-div-mul, mul-div-mul_right, div-add-mod'}
use native.Mathlib.Omega.{arith}
use lib.Dec.{eqb, ltb, leb, lit<}
use lib.ListN.{get_or}
use borrow.Author.Tests.{ltb-false, ne_eqb, eq-eqb, le-leb, lt-leb}
use Rattle.rm0440.specs.Bits.{CEN, UDIS, OPM}
use Rattle.rm0440.specs.Rules.{Rules, manual, all_taken, manual_mode, port_rules}
use Rattle.rm0440.specs.State.{Timer, is_output, down, centre, CMS, with_count, with_sr, cc_flags, flag}
use Rattle.rm0440.specs.Clock.{going, wraps, restarted, loaded, pulse_ended, update_event, passes_over, wrapped, counted, equal, meets, matched, stepped, blocked, clock, clocks}
use Rattle.rm0440.specs.Cases as C
use Rattle.rm0440.specs.Cases.{Outside, settled, some, above, missed}

pub no : false ≡ true → ⊥
no e = let z : ◌≡◌ {A = ℕ} 0 1 = cc in omega arith

-- a test that the rule reads, and the same test that it does not
pub or_same : (rule case : Bool) → settled rule case → rule && case ≡ case
or_same true case h = refl
or_same false true h = h
or_same false false h = refl

-- a part of a case
some-0 : (rule a b c d : Bool) → settled rule (a || b || c || d) → settled rule a
some-0 true a b c d h = refl
some-0 false true b c d h = h
some-0 false false b c d h = refl

some-1 : (rule a b c d : Bool) → settled rule (a || b || c || d) → settled rule b
some-1 true a b c d h = refl
some-1 false true b c d h = absurd (no h)
some-1 false false true c d h = h
some-1 false false false c d h = refl

some-2 : (rule a b c d : Bool) → settled rule (a || b || c || d) → settled rule c
some-2 true a b c d h = refl
some-2 false true b c d h = absurd (no h)
some-2 false false true c d h = absurd (no h)
some-2 false false false true d h = h
some-2 false false false false d h = refl

some-3 : (rule a b c d : Bool) → settled rule (a || b || c || d) → settled rule d
some-3 true a b c d h = refl
some-3 false true b c d h = absurd (no h)
some-3 false false true c d h = absurd (no h)
some-3 false false false true d h = absurd (no h)
some-3 false false false false true h = h
some-3 false false false false false h = refl

pub record Parts (rule : Bool) (f : ℕ → Bool) : Type 0 where
  pub p0 : settled rule (f 0)
  pub p1 : settled rule (f 1)
  pub p2 : settled rule (f 2)
  pub p3 : settled rule (f 3)

pub parts : (rule : Bool) (f : ℕ → Bool) → settled rule (some f) → Parts rule f
parts rule f h = record {
  p0 = some-0 rule (f 0) (f 1) (f 2) (f 3) h;
  p1 = some-1 rule (f 0) (f 1) (f 2) (f 3) h;
  p2 = some-2 rule (f 0) (f 1) (f 2) (f 3) h;
  p3 = some-3 rule (f 0) (f 1) (f 2) (f 3) h;
}

module _ (r : Rules) (t : Timer) (c : settled r.centre-aligned (C.centre-aligned t)) where
  pub centre-same : centre r t ≡ centre manual t
  centre-same = or_same r.centre-aligned (C.centre-aligned t) c

  -- above the reload
  up_same : (rule : Bool) → settled rule (ltb t.arr t.cnt) → t.arr ≤ t.max
      → cond rule (eqb t.cnt t.arr || eqb t.cnt t.max) (leb t.arr t.cnt) ≡ eqb t.cnt t.arr || eqb t.cnt t.max
  up_same true h f = refl
  up_same false h f = go (ltb t.arr t.cnt) refl h
    where
      go : (l : Bool) → ltb t.arr t.cnt ≡ l → not l ≡ true → leb t.arr t.cnt ≡ eqb t.cnt t.arr || eqb t.cnt t.max
      go true q k = absurd (no k)
      go false q k = by (eq-or-lt_of_le (ltb-false t.arr t.cnt q))
        where
          by : (t.cnt ≡ t.arr) ⊎ (t.cnt < t.arr) → leb t.arr t.cnt ≡ eqb t.cnt t.arr || eqb t.cnt t.max
          by (inl e) = rw (le-leb t.arr t.cnt (omega arith), eq-eqb t.cnt t.arr e)
          by (inr l) = rw (lt-leb t.arr t.cnt l, ne_eqb t.cnt t.arr (λ e. omega arith), ne_eqb t.cnt t.max (λ e. omega arith))

  wraps-same : settled r.above-reload (not (down t) && ltb t.arr t.cnt) → t.arr ≤ t.max → wraps r t ≡ wraps manual t
  unfolding wraps
  wraps-same a f = rw centre-same (ap (λ (x : Bool). cond (centre manual t) (cond (down t) (leb t.cnt 1) (eqb (t.cnt + 1) t.arr)) x) (go (down t) a))
    where
      go : (d : Bool) → settled r.above-reload (not d && ltb t.arr t.cnt)
          → cond d (eqb t.cnt 0) (cond r.above-reload (eqb t.cnt t.arr || eqb t.cnt t.max) (leb t.arr t.cnt))
          ≡ cond d (eqb t.cnt 0) (eqb t.cnt t.arr || eqb t.cnt t.max)
      go true a = refl
      go false a = up_same r.above-reload a f

  restarted_same : restarted r t ≡ restarted manual t
  unfolding restarted
  restarted_same = rw centre-same

  -- a match
  met : (o f e rule k : Bool) → settled rule (o && (e && not k)) → o && (f && (e && (rule || k))) ≡ o && (f && (e && true))
  met false f e rule k h = refl
  met true false e rule k h = refl
  met true true false rule k h = refl
  met true true true true k h = refl
  met true true true false true h = refl
  met true true true false false h = h

  meets-same : (ch : ℕ) → settled r.done-equality (missed r t ch) → meets r t ch ≡ meets manual t ch
  meets-same ch h =
      met (is_output t ch) true (equal t ch) r.done-equality (going r t && not (get_or t.done ch false)) h

  pub matched-same : settled r.done-equality (some (missed r t)) → matched r t ≡ matched manual t
  unfolding matched
  matched-same d =
      let q = parts r.done-equality (missed r t) d in
      rw (centre-same, meets-same 0 q.p0, meets-same 1 q.p1, meets-same 2 q.p2, meets-same 3 q.p3)

  -- a compare above the reload
  over : (rule x y : Bool) → settled rule x → rule && x && y ≡ x && y
  over rule x y h = ap (λ (b : Bool). b && y) (or_same rule x h)

  passes_same : (ch : ℕ) → settled r.compare-above-reload (above t ch) → passes_over r t ch ≡ passes_over manual t ch
  passes_same ch h = rw centre-same (over r.compare-above-reload (above t ch) (not (centre manual t && down t)) h)

  over-same : settled r.compare-above-reload (some (above t)) → cc_flags (passes_over r t) t.sr ≡ cc_flags (passes_over manual t) t.sr
  over-same d =
      let q = parts r.compare-above-reload (above t) d in
      rw (passes_same 0 q.p0, passes_same 1 q.p1, passes_same 2 q.p2, passes_same 3 q.p3)

-- the end of a pulse
pub pulse-same : (r : Rules) (opm : Bool) (y : Timer) → settled r.one-pulse opm → pulse_ended r opm y ≡ pulse_ended manual opm y
unfolding pulse_ended
pulse-same r false y h = refl
pulse-same r true y h = rw (rule r.one-pulse h)
  where
    rule : (b : Bool) → settled b true → b ≡ true
    rule true h = refl
    rule false h = h

pub pulse-not : (r : Rules) (y : Timer) → pulse_ended r false y ≡ y
unfolding pulse_ended
pulse-not r y = refl

-- ---- the update event

module _ (r : Rules) (t : Timer) (c : settled r.centre-aligned (C.centre-aligned t)) where
  update_same : settled r.one-pulse (OPM t.cr1) → settled r.one-pulse-udis (OPM t.cr1 && UDIS t.cr1) → update_event r t ≡ update_event manual t
  unfolding update_event
  update_same p u = go (UDIS t.cr1) u
    where
      with-udis : (rule : Bool) (opm : Bool) → settled rule (opm && true)
          → cond rule (restarted r t) (pulse_ended r opm (restarted r t)) ≡ restarted manual t
      with-udis true opm h = restarted_same r t c
      with-udis false false h = pulse-not r (restarted r t) ∙ restarted_same r t c
      with-udis false true h = absurd (no h)

      go : (b : Bool) → settled r.one-pulse-udis (OPM t.cr1 && b)
          → cond b (cond r.one-pulse-udis (restarted r t) (pulse_ended r (OPM t.cr1) (restarted r t)))
          (pulse_ended r (OPM t.cr1) (restarted r (flag 0 (loaded t))))
          ≡ cond b (restarted manual t) (pulse_ended manual (OPM t.cr1) (restarted manual (flag 0 (loaded t))))
      go true h = with-udis r.one-pulse-udis (OPM t.cr1) h
      go false h =
          pulse-same r (OPM t.cr1) (restarted r (flag 0 (loaded t))) p
          ∙ ap (pulse_ended manual (OPM t.cr1)) (restarted_same r (flag 0 (loaded t)) c)

module _ (r : Rules) (t : Timer) (c : settled r.centre-aligned (C.centre-aligned t)) where
  wrapped_same : settled r.one-pulse (OPM t.cr1) → settled r.one-pulse-udis (OPM t.cr1 && UDIS t.cr1)
      → settled r.compare-above-reload (some (above t)) → wrapped r t ≡ wrapped manual t
  unfolding wrapped
  wrapped_same p u m = rw (over-same r t c m, update_same r (with_sr (cc_flags (passes_over manual t) t.sr) t) c p u)

-- ---- CMS after it

cms-clear : (x : ℕ) → CMS (x - x % 2) ≡ CMS x
cms-clear x =
    let e : x - x % 2 ≡ x / 2 * 2 = omega (arith, div-add-mod' x 2) in
    rw e (ap (λ (y : ℕ). y % 4) (mul-div-mul_right (x / 2) 16 (lit< tt) ∙ div-div-eq-div-mul x 2 16))

pulse-kept : (r : Rules) (opm : Bool) (y : Timer) → C.centre-aligned (pulse_ended r opm y) ≡ C.centre-aligned y
unfolding pulse_ended
pulse-kept r false y = refl
pulse-kept r true y = go r.one-pulse
  where
    go : (b : Bool) → (not (eqb y.channels 0) && not (eqb (CMS (cond b (y.cr1 - y.cr1 % 2) y.cr1)) 0)) ≡ C.centre-aligned y
    go true = rw (cms-clear y.cr1)
    go false = refl

restart-kept : (r : Rules) (y : Timer) → centre r y ≡ false → C.centre-aligned (restarted r y) ≡ C.centre-aligned y
unfolding restarted
restart-kept r y e = rw e

update-kept : (r : Rules) (y : Timer) → centre r y ≡ false → C.centre-aligned (update_event r y) ≡ C.centre-aligned y
unfolding update_event
update-kept r y e = go (UDIS y.cr1) r.one-pulse-udis
  where
    go : (u b : Bool) → C.centre-aligned (cond u (cond b (restarted r y) (pulse_ended r (OPM y.cr1) (restarted r y))) (pulse_ended r (OPM y.cr1) (restarted r (flag 0 (loaded y))))) ≡ C.centre-aligned y
    go true true = restart-kept r y e
    go true false = pulse-kept r (OPM y.cr1) (restarted r y) ∙ restart-kept r y e
    go false b = pulse-kept r (OPM y.cr1) (restarted r (flag 0 (loaded y))) ∙ restart-kept r (flag 0 (loaded y)) e

wrapped-kept : (r : Rules) (y : Timer) → centre r y ≡ false → C.centre-aligned (wrapped r y) ≡ C.centre-aligned y
unfolding wrapped
wrapped-kept r y e = update-kept r (with_sr (cc_flags (passes_over r y) y.sr) y) e

-- ---- a step

abbrev after : Rules → Timer → Timer
after r t = cond (wraps r t) (wrapped r t) (counted t)

after_kept : (r : Rules) (t : Timer) → settled r.centre-aligned (C.centre-aligned t) → settled r.centre-aligned (C.centre-aligned (after r t))
after_kept r t c = go r.centre-aligned refl c
  where
    eq : centre r t ≡ false → (w : Bool) → C.centre-aligned (cond w (wrapped r t) (counted t)) ≡ C.centre-aligned t
    eq e true = wrapped-kept r t e
    eq e false = refl

    go : (b : Bool) → r.centre-aligned ≡ b → settled b (C.centre-aligned t) → settled b (C.centre-aligned (after r t))
    go true q h = refl
    go false q h = rw (eq (rw q) (wraps r t)) h

module _ (r : Rules) (t : Timer) (c : settled r.centre-aligned (C.centre-aligned t)) (fits : t.arr ≤ t.max)
    (a : settled r.above-reload (not (down t) && ltb t.arr t.cnt))
    (p : settled r.one-pulse (wraps r t && OPM t.cr1))
    (u : settled r.one-pulse-udis (wraps r t && (OPM t.cr1 && UDIS t.cr1)))
    (m : settled r.compare-above-reload (wraps r t && some (above t)))
    (d : settled r.done-equality (some (missed r (after r t)))) where
  after_same : after r t ≡ after manual t
  after_same = rw (← wraps-same r t c a fits) (go (wraps r t) p u m)
    where
      go : (w : Bool) → settled r.one-pulse (w && OPM t.cr1) → settled r.one-pulse-udis (w && (OPM t.cr1 && UDIS t.cr1))
          → settled r.compare-above-reload (w && some (above t)) → cond w (wrapped r t) (counted t) ≡ cond w (wrapped manual t) (counted t)
      go true p u m = wrapped_same r t c p u m
      go false p u m = refl

  stepped_same : stepped r t ≡ stepped manual t
  unfolding stepped
  stepped_same = matched-same r (after r t) (after_kept r t c) d ∙ ap (matched manual) after_same

-- ---- a clock

-- outside the named cases that rules r leave to the Rust, a clock by r is the manual's
pub clock-same : (r : Rules) (t : Timer) → t.arr ≤ t.max → Outside r t → clock r t ≡ clock manual t
unfolding clock
clock-same r t fits o = go t.on refl
  where
    go : (b : Bool) → t.on ≡ b
        → cond b (cond (blocked r t) (with_count t true 0 t.cnt) (cond (ltb t.pre t.psc) (with_count t true (t.pre + 1) t.cnt) (stepped r (with_count t true 0 t.cnt))))
        (with_count t (r.start-delay && CEN t.cr1) t.pre t.cnt)
        ≡ cond b (cond (eqb t.arr 0) (with_count t true 0 t.cnt) (cond (ltb t.pre t.psc) (with_count t true (t.pre + 1) t.cnt) (stepped manual (with_count t true 0 t.cnt))))
        (with_count t (CEN t.cr1) t.pre t.cnt)
    go false e = rw (or_same r.start-delay (CEN t.cr1) (rw e at o.start-delay-not))
    go true e = rw (or_same r.reload-zero (eqb t.arr 0) (rw e at o.reload-zero-not)) (stuck (eqb t.arr 0) refl)
      where
        free : eqb t.arr 0 ≡ false → blocked r t ≡ false
        free z = ap (λ (b : Bool). r.reload-zero && b) z ∙ none r.reload-zero
          where
            none : (b : Bool) → b && false ≡ false
            none true = refl
            none false = refl

        steps : eqb t.arr 0 ≡ false → (l : Bool) → ltb t.pre t.psc ≡ l
            → cond l (with_count t true (t.pre + 1) t.cnt) (stepped r (with_count t true 0 t.cnt))
            ≡ cond l (with_count t true (t.pre + 1) t.cnt) (stepped manual (with_count t true 0 t.cnt))
        steps z true l = refl
        steps z false l =
            stepped_same r (with_count t true 0 t.cnt) o.centre-aligned-not fits (rw (free z, e) at o.above-reload-not) (rw (e, l) at o.one-pulse-not)
            (rw (e, l) at o.one-pulse-udis-not) (rw (e, l) at o.compare-above-reload-not) (rw (e, l) at o.done-equality-not)

        stuck : (z : Bool) → eqb t.arr 0 ≡ z
            → cond z (with_count t true 0 t.cnt) (cond (ltb t.pre t.psc) (with_count t true (t.pre + 1) t.cnt) (stepped r (with_count t true 0 t.cnt)))
            ≡ cond z (with_count t true 0 t.cnt) (cond (ltb t.pre t.psc) (with_count t true (t.pre + 1) t.cnt) (stepped manual (with_count t true 0 t.cnt)))
        stuck true z = refl
        stuck false z = steps z (ltb t.pre t.psc) refl

-- ---- many clocks

-- each of n clocks by rules r is outside the cases that r leaves to the Rust
pub clocks-same : (r : Rules) (s : Timer) (n : ℕ) → ((m : ℕ) → m < n → (clocks r m s).arr ≤ (clocks r m s).max) → ((m : ℕ) → m < n → Outside r (clocks r m s))
    → clocks r n s ≡ clocks manual n s
unfolding clocks
clocks-same r s zero f o = refl
clocks-same r s (suc n) f o =
    clock-same r (clocks r n s) (f n (omega arith)) (o n (omega arith)) ∙ ap (clock manual) (clocks-same r s n (λ m l. f m (omega arith)) (λ m l. o m (omega arith)))

-- in manual mode the cases of one-pulse (F-2), reload-zero (F-6) and one-pulse-udis (F-11) are none, and with F-8 in, its own: by computation
pub no-longer-case : (t : Timer) → settled (port_rules true).one-pulse (C.one-pulse (port_rules true) t) × settled (port_rules true).reload-zero (C.reload-zero t)
    × settled (port_rules true).one-pulse-udis (C.one-pulse-udis (port_rules true) t)
no-longer-case t = (refl, refl, refl)

pub no-longer-cases : (t : Timer)
    → settled (manual_mode all_taken).one-pulse (C.one-pulse (manual_mode all_taken) t) × settled (manual_mode all_taken).one-pulse-udis (C.one-pulse-udis (manual_mode all_taken) t)
    × settled (manual_mode all_taken).reload-zero (C.reload-zero t) × settled (manual_mode all_taken).centre-aligned (C.centre-aligned t)
no-longer-cases t = (refl, refl, refl, refl)
