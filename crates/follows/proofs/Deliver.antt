-- A delivery up to a cycle is that many kernel clocks of the machine, edge and centre modes alike. Assumes nothing.
use Prim.Native.Nat.{ℕ, zero, suc, ◌+◌, ◌-◌, ◌*◌, ◌/◌, ◌≤◌, ◌<◌}
use mathlib.Core.Path.{◌≡◌, refl, sym, ap, ◌∙◌, subst}
use mathlib.Core.Bool.{Bool, true, false, cond, not, ◌&&◌, ◌||◌}
use mathlib.Core.Logic.{◌⊎◌, inl, inr}
use mathlib.Core.List.{List, [], ◌∷◌}
use native.Mathlib.Nat.{add-zero, mul_assoc, mul-div_cancel, mul-mod_left, mul-add-div_right, div-eq_of_lt, div-mul-le_self, lt-div-mul-add, eq-or-lt_of_le, le_of_suc-le-suc, le-div_iff_mul-le, div-lt_iff_lt-mul, lt_of_mul-lt-mul_right}
use native.Mathlib.Omega.{arith}
use lib.Dec.{leb, lit<}
use lib.ListN.{get_or, set, length-set}
use borrow.Author.Tests.{leb-true, leb-false}
use Rattle.tim.specs.declared.Timer.{Timer}
use Rattle.tim.specs.declared.Ahead.{Ahead}
use Rattle.tim.specs.declared.Next.{Next}
use Rattle.tim.specs.declared.Next.TheVariants.{Update, Compare}
use Rattle.tim.specs.declared.Due.{Due}
use Rattle.tim.specs.declared.Due.TheVariants.{At, Stopped}
use Rattle.tim.specs.Timer as T
use Rattle.tim.specs.Next as N
use Rattle.rm0440.specs.Rules.{Rules, manual_mode, Taken}
use Rattle.rm0440.specs.State as M
use Rattle.rm0440.specs.Clock.{going, meets, matched, clock, clocks, equal}
use Rattle.follows.proofs.Leap as Leap
use Rattle.follows.proofs.Leap.{Silent, matched-none}
use Rattle.follows.proofs.Leap.{both, clocks-add}
use Rattle.follows.specs.Seen.{raw, clocks_at, per, due_by}
use Rattle.follows.proofs.Event.{next, not_yet, met-true, met-only, before-event}
use Rattle.follows.proofs.Event as Event
use Rattle.follows.proofs.Port.{stuck, moves, pulse_ends, updated, compared, applied, deliver, update_steps, next_steps, next_event, cnt_at, cr1_at, seen, Runs}
use Rattle.follows.proofs.Between.{start, next-same, best, seen_at, between, update-later, ticks-are}
use Rattle.follows.proofs.Turn.{to-update, to-compare}
use Rattle.follows.proofs.Match.{absorbed}
use Rattle.follows.proofs.After.{over, goes_on, ends_so, base-over, runs-over}

event-runs : (m : Taken) (t : Timer) → moves m t ≡ true → next_event m t ≡ At (t.count.base + (next_steps m t).steps * t.count.tick) (next_steps m t).next
unfolding next_event
event-runs m t e = ap (λ (b : Bool). cond b (At (t.count.base + (next_steps m t).steps * t.count.tick) (next_steps m t).next) Stopped) e

pub event-stopped : (m : Taken) (t : Timer) → moves m t ≡ false → next_event m t ≡ Stopped
unfolding next_event
event-stopped m t e = ap (λ (b : Bool). cond b (At (t.count.base + (next_steps m t).steps * t.count.tick) (next_steps m t).next) Stopped) e

moving : (m : Taken) (t : Timer) (div : ℕ) → Runs m t div → moves m t ≡ true
moving m t div w = rw w.free w.runs

halted : (m : Taken) (t : Timer) → t.count.running ≡ false → moves m t ≡ false
halted m t e = ap (λ (b : Bool). not (stuck m t) && b) e ∙ go (not (stuck m t))
  where
    go : (b : Bool) → b && false ≡ false
    go true = refl
    go false = refl

-- ---- a timer that is stopped or blocked

module _ (m : Taken) where
  unmet : (o e n d : Bool) → n ≡ false → o && (e && (false || (n && not d))) ≡ false
  unmet o e true d h = absurd (let z : ◌≡◌ {A = ℕ} 0 1 = cc in omega arith)
  unmet false e false d h = refl
  unmet true false false d h = refl
  unmet true true false d h = refl

  pub mute : (s : M.Timer) → going (manual_mode m) s ≡ false → Silent (manual_mode m) s
  mute s e = record { q0 = q 0; q1 = q 1; q2 = q 2; q3 = q 3 }
    where
      q : (ch : ℕ) → meets (manual_mode m) s ch ≡ false
      q ch = unmet (M.is_output s ch) (equal s ch) (going (manual_mode m) s) (get_or s.done ch false) e

  module _ (t : Timer) (e : moves m t ≡ false) where
    rests : clock (manual_mode m) (raw t) ≡ raw t
    unfolding clock
    rests = go t.count.running refl (stuck m t) refl
      where
        go : (o : Bool) → t.count.running ≡ o → (b : Bool) → stuck m t ≡ b → clock (manual_mode m) (raw t) ≡ raw t
        go false p b q = rw p
        go true p true q = rw (p, q)
        go true p false q = absurd (let f : not (stuck m t) && t.count.running ≡ true = rw (q, p) in let z : ◌≡◌ {A = ℕ} 0 1 = cc in omega arith)

    pub still : (n : ℕ) → clocks (manual_mode m) n (raw t) ≡ raw t
    unfolding clocks
    still zero = refl
    still (suc n) = ap (clock (manual_mode m)) (still n) ∙ rests

    pub deliver-stopped : (f c div : ℕ) → deliver m f c div t ≡ t
    unfolding deliver
    deliver-stopped zero c div = refl
    deliver-stopped (suc f) c div = rw (event-stopped m t e)

    pub seen-stopped : (div c : ℕ) → raw t ≡ seen m t div c
    unfolding cnt_at cr1_at
    seen-stopped div c = rw e

    stopped : (f div c n : ℕ) → clocks (manual_mode m) n (matched (manual_mode m) (raw t)) ≡ seen m (deliver m f c div t) div c
    stopped f div c n =
        rw (deliver-stopped f c div) (ap (clocks (manual_mode m) n) (matched-none (manual_mode m) (raw t) (mute (raw t) e)) ∙ still n ∙ seen-stopped div c)

-- ---- from k steps on

module _ (m : Taken) (t : Timer) (div : ℕ) (w : Runs m t div) (k n : ℕ) (from : k * per t ≤ n) where
  abbrev r : Rules
  r = manual_mode m

  abbrev here : ℕ → M.Timer
  here i = Leap.at (raw t) 0 i

  steps-same : (next_steps m t).steps ≡ (next r (raw t)).steps
  steps-same = ap (λ (a : Ahead). a.steps) (next-same m t div w)

  nothing-now : k < (next_steps m t).steps → matched r (here k) ≡ here k
  nothing-now h =
      let q : k < (next r (raw t)).steps = rw steps-same at h in
      matched-none r (here k) (record { q0 = not_yet r (raw t) refl refl w.free k q 0 (lit< tt); q1 = not_yet r (raw t) refl refl w.free k q 1 (lit< tt); q2 = not_yet r (raw t) refl refl w.free k q 2 (lit< tt); q3 = not_yet r (raw t) refl refl w.free k q 3 (lit< tt) })

  comes-here : k < (next_steps m t).steps → clocks r (k * per t) (here 0) ≡ here k
  comes-here h =
      let q : k * per t / per t ≡ k = mul-div_cancel k (omega arith) in
      before-event r (raw t) refl refl w.free (k * per t) (rw q (rw steps-same at h)) ∙ rw (q, mul-mod_left k (per t))

  from-base : k < (next_steps m t).steps → clocks r (n - k * per t) (matched r (here k)) ≡ clocks r n (here 0)
  from-base h =
      let e : n - k * per t + k * per t ≡ n = omega arith in
      ap (clocks r (n - k * per t)) (nothing-now h ∙ sym (comes-here h))
      ∙ sym (clocks-add r (n - k * per t) (k * per t) (here 0)) ∙ ap (λ (i : ℕ). clocks r i (here 0)) e

  to_end : (c : ℕ) → clocks_at t div c ≡ n → n / per t < (next_steps m t).steps → clocks r (n - k * per t) (matched r (here k)) ≡ seen m t div c
  to_end c is h =
      let le : k ≤ n / per t = (le-div_iff_mul-le {k = per t} (omega arith)).1 from in
      let u : n / per t < update_steps m t = omega (arith, (best m t div w).by-update) in
      from-base (omega arith) ∙ before-event r (raw t) refl refl w.free n (rw steps-same at h) ∙ sym (seen_at m t div w c n is u)

  -- s steps take the machine to X
  past : (s : ℕ) (X : M.Timer) → s * per t ≤ n → k < (next_steps m t).steps → clocks r (s * per t) (seen m t div t.count.base) ≡ X
      → clocks r (n - k * per t) (matched r (here k)) ≡ clocks r (n - s * per t) X
  past s X le h e =
      let q : n - s * per t + s * per t ≡ n = omega arith in
      from-base h ∙ ap (λ (i : ℕ). clocks r i (here 0)) (sym q)
      ∙ clocks-add r (n - s * per t) (s * per t) (here 0) ∙ ap (clocks r (n - s * per t)) (ap (clocks r (s * per t)) (sym (start m t div w)) ∙ e)

  to-match : (s ch : ℕ) → (next_steps m t).steps ≡ s → (next_steps m t).next ≡ Compare ch → k ≤ s → s * per t ≤ n
      → clocks r (n - k * per t) (matched r (here k)) ≡ clocks r (n - s * per t) (matched r (here s))
  to-match s ch is e le g = go (eq-or-lt_of_le le)
    where
      later : (s : ℕ) → (next_steps m t).steps ≡ s → k < s → s * per t ≤ n
          → clocks r (n - k * per t) (matched r (here k)) ≡ clocks r (n - s * per t) (matched r (here s))
      later zero is h g = absurd (omega arith)
      later (suc j) is h g =
          past (suc j) (matched r (here (suc j))) g (omega arith) (to-compare m t div w j is ch e)

      go : (k ≡ s) ⊎ (k < s) → clocks r (n - k * per t) (matched r (here k)) ≡ clocks r (n - s * per t) (matched r (here s))
      go (inl q) = rw q
      go (inr q) = later s is q g

  to-wrap : (s c : ℕ) → (next_steps m t).steps ≡ s → (next_steps m t).next ≡ Update → k < s → s * per t ≤ n
      → clocks r (n - k * per t) (matched r (here k)) ≡ clocks r (n - s * per t) (matched r (raw (updated m t c div)))
  to-wrap zero c is e h g = absurd (omega arith)
  to-wrap (suc j) c is e h g = past (suc j) (matched r (raw (updated m t c div))) g (omega arith) (to-update m t div w j is e c)

-- ---- after one event

-- a timer k steps from its reference, all events before that delivered, and cycle c within the n-th kernel clock from there
pub record Ready (m : Taken) (t : Timer) (div k n c : ℕ) : Type 0 where
  pub runs : Runs m t div
  pub early : k < update_steps m t
  pub none_before : k ≤ (next_steps m t).steps
  pub from : k * per t ≤ n
  pub reached : t.count.base + n * div ≤ c
  pub not-past : c < t.count.base + n * div + div

abbrev pub Simulated : Taken → ℕ → Timer → ℕ → ℕ → ℕ → ℕ → Type 0
Simulated m f t div k n c = clocks (manual_mode m) (n - k * per t) (matched (manual_mode m) (Leap.at (raw t) 0 k)) ≡ seen m (deliver m f c div t) div c

abbrev pub Simulates : Taken → ℕ → Type 0
Simulates m f = (t : Timer) (div k n c : ℕ) → Ready m t div k n c → due_by (next_event m (deliver m f c div t)) c ≡ false → Simulated m f t div k n c

-- a compare that is handled makes no event earlier
undone : (l : List Bool) (ch i : ℕ) → not (get_or (set l ch true) i false) ≡ true → not (get_or l i false) ≡ true
undone [] ch i h = h
undone (x ∷ xs) zero zero h = absurd (let z : ◌≡◌ {A = ℕ} 0 1 = cc in omega arith)
undone (x ∷ xs) zero (suc i) h = h
undone (x ∷ xs) (suc ch) zero h = h
undone (x ∷ xs) (suc ch) (suc i) h = undone xs ch i h

fewer : (m : Taken) (t : Timer) (ch i : ℕ) → N.compares (compared m t ch) i ≡ true → N.compares t i ≡ true
unfolding N.compares compared
fewer m t ch i h =
    let p = both (not (get_or (set t.chan.cc_done ch true) i false) && T.is_output t i) (N.ahead t i) h in
    let q = both (not (get_or (set t.chan.cc_done ch true) i false)) (T.is_output t i) p.0 in
    rw (undone t.chan.cc_done ch i q.0, q.1, p.1)

taken : (t : Timer) (i : ℕ) → N.compares t i ≡ true → Event.takes (raw t) i ≡ true
unfolding N.compares
taken t i q = q

taken-so : (t : Timer) (i : ℕ) → Event.takes (raw t) i ≡ true → N.compares t i ≡ true
unfolding N.compares
taken-so t i q = q

module _ (m : Taken) (f : ℕ) (ih : Simulates m f) (t : Timer) (div k n c : ℕ) (y : Ready m t div k n c) (le : (next_steps m t).steps * per t ≤ n) where
  abbrev s : ℕ
  s = (next_steps m t).steps

  abbrev w : Runs m t div
  w = y.runs

  -- a compare
  module _ (ch : ℕ) (e : (next_steps m t).next ≡ Compare ch) where
    abbrev t₂ : Timer
    t₂ = compared m t ch

    strict : s < update_steps m t
    strict = (best m t div w).strictly ch e

    runs₂ : Runs m (compared m t ch) div
    unfolding compared
    runs₂ = record { pos = w.pos; runs = w.runs; free = w.free; timed = w.timed; sized = length-set t.chan.cc_done ch true ∙ w.sized; stands = w.stands; small = w.small; blocks = w.blocks }

    later : (next_steps m t).steps ≤ (next_steps m (compared m t ch)).steps
    unfolding compared
    later = go (next_steps m (compared m t ch)).next refl
      where
        go : (x : Next) → (next_steps m (compared m t ch)).next ≡ x → (next_steps m t).steps ≤ (next_steps m (compared m t ch)).steps
        go Update q = rw ((best m (compared m t ch) div runs₂).update-is q) (best m t div w).by-update
        go (Compare i) q =
            let p = (best m (compared m t ch) div runs₂).compare-is i q in
            rw p.steps-are ((best m t div w).by-compare i p.below (fewer m t ch i p.takes-so))

    meets-now : meets (manual_mode m) (Leap.at (raw t) 0 s) ch ≡ true
    meets-now = let p = (best m t div w).compare-is ch e in met-true (manual_mode m) (raw t) refl refl w.free s ch (taken t ch p.takes-so) (sym p.steps-are)

    lower : (i : ℕ) → i < ch → meets (manual_mode m) (Leap.at (raw t) 0 s) i ≡ false
    lower i h = go (meets (manual_mode m) (Leap.at (raw t) 0 s) i) refl
      where
        go : (b : Bool) → meets (manual_mode m) (Leap.at (raw t) 0 s) i ≡ b → b ≡ false
        go false q = refl
        go true q =
            let p = met-only (manual_mode m) (raw t) refl refl w.free s i strict q in
            absurd (omega (arith, (best m t div w).lowest ch e i h (taken-so t i p.0), p.1))

    ready₂ : Ready m (compared m t ch) div s n c
    unfolding compared
    ready₂ = record {
      runs = runs₂;
      early = strict;
      none_before = later;
      from = le;
      reached = y.reached;
      not-past = y.not-past;
    }

    per₂ : per (compared m t ch) ≡ per t
    unfolding compared
    per₂ = refl

    after-compare : due_by (next_event m (deliver m f c div (compared m t ch))) c ≡ false
        → clocks (manual_mode m) (n - k * per t) (matched (manual_mode m) (Leap.at (raw t) 0 k)) ≡ seen m (deliver m f c div (compared m t ch)) div c
    after-compare d =
        to-match m t div w k n y.from s ch refl e y.none_before le
        ∙ ap (clocks (manual_mode m) (n - s * per t)) (sym (absorbed m t s ch ((best m t div w).compare-is ch e).below w.sized meets-now lower))
        ∙ ap (λ (q : ℕ). clocks (manual_mode m) (n - s * q) (matched (manual_mode m) (Leap.at (raw (compared m t ch)) 0 s))) (sym per₂)
        ∙ ih (compared m t ch) div s n c ready₂ d

  -- a turn, at its own cycle
  module _ (x : ℕ) (is : x ≡ t.count.base + (next_steps m t).steps * t.count.tick) (e : (next_steps m t).next ≡ Update) where
    abbrev n₁ : ℕ
    n₁ = n - s * per t

    abbrev t₁ : Timer
    t₁ = over m t x div

    -- a timer at its reference
    at_base : stuck m t₁ ≡ false → raw t₁ ≡ Leap.at (raw t₁) 0 0
    at_base v =
        ap (λ (b : Bool). M.with_count (raw t₁) b 0 t₁.count.cnt0) (runs-over m t x div w v).runs
        ∙ ap (M.with_count (raw t₁) true 0) (go (T.down t₁) t₁.count.cnt0)
      where
        go : (d : Bool) (v : ℕ) → v ≡ cond d (v - 0) (v + 0)
        go true v = omega arith
        go false v = omega arith

    same-clock : t.count.base + n * div ≡ t₁.count.base + n₁ * div
    same-clock =
        let q : n ≡ n₁ + s * per t = omega arith in
        let a : n * div ≡ n₁ * div + s * per t * div = ap (λ (z : ℕ). z * div) q ∙ omega arith in
        let b : s * t.count.tick ≡ s * per t * div = ap (λ (z : ℕ). s * z) w.timed ∙ sym (mul_assoc s (per t) div) in
        let p : t.count.base + n * div ≡ t.count.base + s * t.count.tick + n₁ * div = omega (arith, a, b) in
        p ∙ ap (λ (z : ℕ). z + n₁ * div) (sym (base-over m t x div ∙ is))

    on-over : stuck m t₁ ≡ false → due_by (next_event m (deliver m f c div t₁)) c ≡ false → clocks (manual_mode m) n₁ (matched (manual_mode m) (raw t₁)) ≡ seen m (deliver m f c div t₁) div c
    on-over v d =
        let z : n₁ ≡ n₁ - 0 * per t₁ = omega arith in
        ap (λ (i : ℕ). clocks (manual_mode m) i (matched (manual_mode m) (raw t₁))) z
        ∙ ap (λ (u : M.Timer). clocks (manual_mode m) (n₁ - 0 * per t₁) (matched (manual_mode m) u)) (at_base v)
        ∙ ih t₁ div 0 n₁ c (record {
          runs = runs-over m t x div w v;
          early = update-later m t₁ div (runs-over m t x div w v);
          none_before = omega arith;
          from = omega arith;
          reached = subst (λ (z : ℕ). z ≤ c) same-clock y.reached;
          not-past = subst (λ (z : ℕ). c < z + div) same-clock y.not-past;
        }) d

    by-stuck : (b : Bool) → stuck m t₁ ≡ b → due_by (next_event m (deliver m f c div t₁)) c ≡ false
        → clocks (manual_mode m) n₁ (matched (manual_mode m) (raw t₁)) ≡ seen m (deliver m f c div t₁) div c
    by-stuck false v d = on-over v d
    by-stuck true v d = stopped m t₁ (ap (λ (b : Bool). not b && t₁.count.running) v) f div c n₁

    after-update : due_by (next_event m (deliver m f c div (updated m t x div))) c ≡ false
        → clocks (manual_mode m) (n - k * per t) (matched (manual_mode m) (Leap.at (raw t) 0 k)) ≡ seen m (deliver m f c div (updated m t x div)) div c
    after-update d =
        to-wrap m t div w k n y.from s x refl e (omega (arith, y.early, (best m t div w).update-is e)) le ∙ go (pulse_ends m t.regs.cr1) refl
      where
        go : (b : Bool) → pulse_ends m t.regs.cr1 ≡ b
            → clocks (manual_mode m) n₁ (matched (manual_mode m) (raw (updated m t x div))) ≡ seen m (deliver m f c div (updated m t x div)) div c
        go true q = stopped m (updated m t x div) (halted m (updated m t x div) (ends_so m t x div q)) f div c n₁
        go false q =
            let g = goes_on m t x div q in
            ap (λ (u : Timer). clocks (manual_mode m) n₁ (matched (manual_mode m) (raw u))) g
            ∙ by-stuck (stuck m t₁) refl (ap (λ (u : Timer). due_by (next_event m (deliver m f c div u)) c) (sym g) ∙ d)
            ∙ ap (λ (u : Timer). seen m (deliver m f c div u) div c) (sym g)

-- ---- any number of events

module _ (m : Taken) where
  abbrev due_at : Timer → ℕ
  due_at t = t.count.base + (next_steps m t).steps * t.count.tick

  unrolled : (f : ℕ) (t : Timer) (c div : ℕ) → moves m t ≡ true
      → deliver m (suc f) c div t ≡ cond (leb (due_at t) c) (deliver m f c div (applied m t div (At (due_at t) (next_steps m t).next))) t
  unfolding deliver
  unrolled f t c div e = rw (event-runs m t e)

  steps-cycles : (t : Timer) (div : ℕ) → Runs m t div → (next_steps m t).steps * t.count.tick ≡ (next_steps m t).steps * per t * div
  steps-cycles t div w = ap (λ (z : ℕ). (next_steps m t).steps * z) w.timed ∙ sym (mul_assoc (next_steps m t).steps (per t) div)

  not-due : (t : Timer) (div k n c : ℕ) → Ready m t div k n c → leb (due_at t) c ≡ false → n / per t < (next_steps m t).steps
  not-due t div k n c y d =
      let l : c < due_at t = leb-false _ _ d in
      let g : n * div < (next_steps m t).steps * per t * div = omega (arith, y.reached, steps-cycles t div y.runs) in
      (div-lt_iff_lt-mul {k = per t} (omega arith)).1 (lt_of_mul-lt-mul_right div g)

  is-due : (t : Timer) (div k n c : ℕ) → Ready m t div k n c → leb (due_at t) c ≡ true → (next_steps m t).steps * per t ≤ n
  is-due t div k n c y d =
      let l : due_at t ≤ c = leb-true _ _ d in
      let g : (next_steps m t).steps * per t * div < suc n * div = omega (arith, y.not-past, steps-cycles t div y.runs) in
      le_of_suc-le-suc (lt_of_mul-lt-mul_right div g)

  clock-is : (t : Timer) (div k n c : ℕ) → Ready m t div k n c → clocks_at t div c ≡ n
  clock-is t div k n c y =
      let e : c - t.count.base ≡ n * div + (c - (t.count.base + n * div)) = omega (arith, y.reached) in
      let l : c - (t.count.base + n * div) < div = omega (arith, y.not-past, y.runs.pos) in
      rw e (mul-add-div_right y.runs.pos n (c - (t.count.base + n * div)) ∙ rw (div-eq_of_lt l) (add-zero n))

  ended : (t : Timer) (div k n c : ℕ) → Ready m t div k n c → leb (due_at t) c ≡ false
      → clocks (manual_mode m) (n - k * per t) (matched (manual_mode m) (Leap.at (raw t) 0 k)) ≡ seen m t div c
  ended t div k n c y d = to_end m t div y.runs k n y.from c (clock-is t div k n c y) (not-due t div k n c y d)

  none : Simulates m 0
  unfolding deliver
  none t div k n c y d = ended t div k n c y (rw (event-runs m t (moving m t div y.runs)) at d)

  module _ (f : ℕ) (ih : Simulates m f) (t : Timer) (div k n c : ℕ) (y : Ready m t div k n c) where
    abbrev Goes : Timer → Type 0
    Goes u = clocks (manual_mode m) (n - k * per t) (matched (manual_mode m) (Leap.at (raw t) 0 k)) ≡ seen m u div c

    by-event : (e : Next) → (next_steps m t).next ≡ e → (next_steps m t).steps * per t ≤ n
        → due_by (next_event m (deliver m f c div (applied m t div (At (due_at t) e)))) c ≡ false → Goes (deliver m f c div (applied m t div (At (due_at t) e)))
    by-event Update e le d = after-update m f ih t div k n c y le (due_at t) refl e d
    by-event (Compare ch) e le d = after-compare m f ih t div k n c y le ch e d

    abbrev onward : Bool → Timer
    onward b = cond b (deliver m f c div (applied m t div (At (due_at t) (next_steps m t).next))) t

    by-due : (b : Bool) → leb (due_at t) c ≡ b → due_by (next_event m (onward b)) c ≡ false → Goes (onward b)
    by-due true l d = by-event (next_steps m t).next refl (is-due t div k n c y l) d
    by-due false l d = ended t div k n c y l

  one_more : (f : ℕ) → Simulates m f → Simulates m (suc f)
  one_more f ih t div k n c y d =
      let u = unrolled f t c div (moving m t div y.runs) in
      by-due f ih t div k n c y (leb (due_at t) c) refl (ap (λ (z : Timer). due_by (next_event m z) c) (sym u) ∙ d) ∙ ap (λ (z : Timer). seen m z div c) (sym u)

  simulates : (f : ℕ) → Simulates m f
  simulates zero = none
  simulates (suc f) = one_more f (simulates f)

  -- ---- from a cycle a at which nothing is due to a cycle c

  module _ (t : Timer) (div : ℕ) (w : Runs m t div) where
    -- in clocks
    pub none-due : (a : ℕ) → t.count.base ≤ a → due_by (next_event m t) a ≡ false → clocks_at t div a / per t < (next_steps m t).steps
    none-due a b d =
        let l : a < due_at t = leb-false _ _ (ap (λ (e : Due). due_by e a) (sym (event-runs m t (moving m t div w))) ∙ d) in
        let p : 0 < t.count.tick = tick-pos in
        rw (← ticks-are m t div w a) ((div-lt_iff_lt-mul {k = t.count.tick} p).1 (omega arith))
      where
        tick-pos : 0 < t.count.tick
        tick-pos = go t.count.tick refl
          where
            go : (x : ℕ) → t.count.tick ≡ x → 0 < x
            go zero e = absurd (omega (arith, w.timed, w.pos))
            go (suc x) e = omega arith

    pub from-there : (f n c : ℕ) → clocks_at t div c ≡ n → t.count.base ≤ c → due_by (next_event m (deliver m f c div t)) c ≡ false
        → clocks (manual_mode m) n (matched (manual_mode m) (Leap.at (raw t) 0 0)) ≡ seen m (deliver m f c div t) div c
    from-there f n c is b d =
        let e : n ≡ n - 0 * per t = omega arith in
        let low : n * div ≤ c - t.count.base = rw (← is) (div-mul-le_self (c - t.count.base) div) in
        let high : c - t.count.base < n * div + div = rw (← is) (lt-div-mul-add {a = c - t.count.base} {b = div} w.pos) in
        ap (λ (i : ℕ). clocks (manual_mode m) i (matched (manual_mode m) (Leap.at (raw t) 0 0))) e
        ∙ simulates f t div 0 n c (record { runs = w; early = update-later m t div w; none_before = omega arith; from = omega arith; reached = omega arith; not-past = omega arith }) d

    -- The theorem for deliveries, edge-aligned and centre-aligned alike. A running timer on its course, nothing due at cycle a: a delivery at
    -- cycle c that leaves nothing due is as many kernel clocks of the machine as there are from a to c.
    pub delivers : (f a c : ℕ) → t.count.base ≤ a → a ≤ c → due_by (next_event m t) a ≡ false → due_by (next_event m (deliver m f c div t)) c ≡ false
        → clocks (manual_mode m) (clocks_at t div c - clocks_at t div a) (seen m t div a) ≡ seen m (deliver m f c div t) div c
    delivers f a c b le h d =
        let early : clocks_at t div a / per t < (next_steps m t).steps = none-due a b h in
        let more : clocks_at t div a ≤ clocks_at t div c =
        (le-div_iff_mul-le {k = div} w.pos).1 (omega (arith, div-mul-le_self (a - t.count.base) div)) in
        let e : clocks_at t div c - clocks_at t div a + clocks_at t div a ≡ clocks_at t div c = omega arith in
        ap (clocks (manual_mode m) (clocks_at t div c - clocks_at t div a)) (sym (between m t div w a early))
        ∙ sym (clocks-add (manual_mode m) (clocks_at t div c - clocks_at t div a) (clocks_at t div a) (seen m t div t.count.base))
        ∙ ap (λ (i : ℕ). clocks (manual_mode m) i (seen m t div t.count.base)) e
        ∙ ap (clocks (manual_mode m) (clocks_at t div c)) (start m t div w ∙ sym (nothing-now m t div w 0 0 (omega arith) (omega arith)))
        ∙ from-there f (clocks_at t div c) c refl (omega arith) d
