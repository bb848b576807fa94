-- Outside the named cases a write by rules r is a write by the manual: what every write shares, and CNT. Assumes nothing.
use Prim.Native.Nat.{ℕ}
use mathlib.Core.Path.{◌≡◌, refl, sym, ap, ◌∙◌}
use mathlib.Core.Bool.{Bool, true, false, cond, not, ◌&&◌, ◌||◌}
use mathlib.Core.List.{List}
use native.Mathlib.Omega.{arith}
use lib.Dec.{eqb, ltb}
use lib.ListN.{get_or, set}
use lib.Seq.{set-get_or}
use Rattle.rm0440.specs.Output as Out
use borrow.Author.Tests.{eqb-true}
use Rattle.rm0440.specs.Bits.{is_set, CEN, ARPE}
use Rattle.rm0440.specs.Rules.{Rules, manual}
use Rattle.rm0440.specs.State.{Timer, in_turn, ccr_of, byte, mode, is_output, down, centre, with_shadows, with_matches, with_cr1, with_bit, reg, CMS}
use Rattle.rm0440.specs.Clock.{going, equal}
use Rattle.rm0440.specs.Level.{ocref}
use Rattle.rm0440.specs.Write.{overrun, comes, answered, resettled, turned, kept_cr1, new_cr1, shaped, unbuffered, enables, kept_part, starts_or_turns, left_cr1, write_cr1, left_cnt, write_cnt, stored_arr, left_arr, write_arr, stored_ccmr, held, unloaded, left_ccmr, write_ccmr, stored_ccr, left_ccr, write_ccr}
use Rattle.rm0440.specs.Cases.{settled, some}
use Rattle.rm0440.specs.Cases as C
use Rattle.rm0440.specs.WriteCases as W
use Rattle.rm0440.specs.WriteCases.{unlike, differ, OutsideMatch, OutsideCr1, OutsideCnt, OutsideArr, OutsideCcmr}
use Rattle.rm0440.proofs.SameClock.{no, or_same, centre-same, parts}

module _ (r : Rules) (old t : Timer) (o : OutsideMatch r old t) where
  no-overrun : overrun r t ≡ false
  no-overrun = go r.above-reload (going r t) (centre r t) (not (down t) && ltb t.arr t.cnt) o.above-reload-not
    where
      go : (rule n c x : Bool) → settled rule (n && x) → not rule && (n && (not c && x)) ≡ false
      go true n c x h = refl
      go false false c x h = refl
      go false true true x h = refl
      go false true false true h = absurd (no h)
      go false true false false h = refl

  come : (o f e rule a b : Bool) → settled rule (o && (e && differ a b)) → o && (f && (e && cond rule a b)) ≡ o && (f && (e && a))
  come false f e rule a b h = refl
  come true false e rule a b h = refl
  come true true false rule a b h = refl
  come true true true true a b h = refl
  come true true true false true true h = refl
  come true true true false true false h = h
  come true true true false false true h = absurd (no h)
  come true true true false false false h = refl

  comes-same : (ch : ℕ) → settled r.done-equality (unlike r old t ch) → comes r old t ch ≡ comes manual old t ch
  comes-same ch h =
      come (is_output t ch) true (equal t ch) r.done-equality (not (equal old ch)) (going r t && not (get_or t.done ch false)) h

  pub answered-same : answered r old t ≡ answered manual old t
  unfolding answered
  answered-same =
      let q = parts r.done-equality (unlike r old t) o.done-equality-not in
      rw (no-overrun, centre-same r t o.centre-aligned-not, comes-same 0 q.p0, comes-same 1 q.p1, comes-same 2 q.p2, comes-same 3 q.p3)

-- ---- CNT

phase : (rule : Bool) (p : ℕ) → settled rule (not (eqb p 0)) → cond rule p 0 ≡ p
phase true p h = refl
phase false p h = go (eqb p 0) refl h
  where
    go : (b : Bool) → eqb p 0 ≡ b → not (not b) ≡ true → 0 ≡ p
    go true e h = sym (eqb-true p 0 e)
    go false e h = absurd (no h)

pub cnt-same : (r : Rules) (v : ℕ) (t : Timer) → OutsideCnt r v t → write_cnt r v t ≡ write_cnt manual v t
unfolding write_cnt
cnt-same r v t o = ap (answered r t) same ∙ answered-same r t (left_cnt manual v t) o.answers
  where
    same : left_cnt r v t ≡ left_cnt manual v t
    same = rw (phase r.cnt-write-phase t.pre o.cnt-write-phase-not, centre-same r t o.centre-aligned-not)

-- ---- CCRx: nothing but how it is answered

pub ccr-same : (r : Rules) (ch v : ℕ) (t : Timer) → (Out.OCxPE (byte t ch) ≡ false → OutsideMatch r t (left_ccr ch v t)) → write_ccr r ch v t ≡ write_ccr manual ch v t
unfolding write_ccr
ccr-same r ch v t o = go (Out.OCxPE (byte t ch)) refl
  where
    go : (b : Bool) → Out.OCxPE (byte t ch) ≡ b → cond b (stored_ccr ch v t) (answered r t (left_ccr ch v t)) ≡ cond b (stored_ccr ch v t) (answered manual t (left_ccr ch v t))
    go true e = refl
    go false e = answered-same r t (left_ccr ch v t) (o e)

-- ---- ARR

pub arr-same : (r : Rules) (v : ℕ) (t : Timer) → (ARPE t.cr1 ≡ false → OutsideArr r v t) → write_arr r v t ≡ write_arr manual v t
unfolding write_arr
arr-same r v t o = go (ARPE t.cr1) refl
  where
    go : (b : Bool) → ARPE t.cr1 ≡ b → cond b (stored_arr v t) (answered r t (left_arr r v t)) ≡ cond b (stored_arr v t) (answered manual t (left_arr manual v t))
    go true e = refl
    go false e = ap (answered r t) same ∙ answered-same r t (left_arr manual v t) (o e).answers
      where
        same : left_arr r v t ≡ left_arr manual v t
        same = rw (or_same r.reload-zero (W.reload-zero v t) (o e).reload-zero-not, centre-same r t (o e).centre-aligned-not)

-- ---- CCMRx

pub in_turn-id : {A : Type 0} (f : ℕ → A → A) (x : A) → f 0 x ≡ x → f 1 x ≡ x → f 2 x ≡ x → f 3 x ≡ x → in_turn f x ≡ x
in_turn-id f x a b c d = ap (λ y. f 3 (f 2 (f 1 y))) a ∙ ap (λ y. f 3 (f 2 y)) b ∙ ap (f 3) c ∙ d

alike : (a b : Bool) → differ a b ≡ false → a ≡ b
alike true true h = refl
alike true false h = h
alike false true h = sym h
alike false false h = refl

pub unless : (rule case : Bool) → rule ≡ false → settled rule case → case ≡ false
unless true case e h = absurd (let z : ◌≡◌ {A = ℕ} 0 1 = cc in omega arith)
unless false true e h = absurd (no h)
unless false false e h = refl

kept-level : (old t : Timer) (ch : ℕ) → W.mode-change-latch old t ch ≡ false → cond (ltb (mode t ch) 4) (set old.ref ch (ocref old ch)) old.ref ≡ old.ref
kept-level old t ch h = go (ltb (mode t ch) 4) h
  where
    go : (b : Bool) → b && differ (ocref old ch) (get_or old.ref ch false) ≡ false → cond b (set old.ref ch (ocref old ch)) old.ref ≡ old.ref
    go true h = ap (λ (x : Bool). set old.ref ch x) (alike (ocref old ch) (get_or old.ref ch false) h) ∙ set-get_or old.ref ch false
    go false h = refl

kept-compare : (t : Timer) (ch : ℕ) → W.ocpe-cleared t ch ≡ false → cond (Out.OCxPE (byte t ch)) t.ccr (set t.ccr ch (get_or t.compares ch 0)) ≡ t.ccr
kept-compare t ch h = go (Out.OCxPE (byte t ch)) h
  where
    same : (b : Bool) → eqb (get_or t.compares ch 0) (ccr_of t ch) ≡ b → not b ≡ false → set t.ccr ch (get_or t.compares ch 0) ≡ t.ccr
    same true e h = ap (λ (x : ℕ). set t.ccr ch x) (eqb-true (get_or t.compares ch 0) (ccr_of t ch) e) ∙ set-get_or t.ccr ch 0
    same false e h = absurd (no (sym h))

    go : (b : Bool) → not b && not (eqb (get_or t.compares ch 0) (ccr_of t ch)) ≡ false → cond b t.ccr (set t.ccr ch (get_or t.compares ch 0)) ≡ t.ccr
    go true h = refl
    go false h = same (eqb (get_or t.compares ch 0) (ccr_of t ch)) refl h

held_same : (rule : Bool) (i v : ℕ) (t : Timer) → settled rule (some (W.mode-change-latch t (stored_ccmr i v t))) → cond rule (held t (stored_ccmr i v t)) t.ref ≡ held t (stored_ccmr i v t)
held_same true i v t d = refl
held_same false i v t d =
    let q = parts false (W.mode-change-latch t (stored_ccmr i v t)) d in
    sym (in_turn-id (λ (ch : ℕ) (l : List Bool). cond (ltb (mode (stored_ccmr i v t) ch) 4) (set l ch (ocref t ch)) l) t.ref (k 0 q.p0) (k 1 q.p1) (k 2 q.p2) (k 3 q.p3))
  where
    k : (ch : ℕ) → settled false (W.mode-change-latch t (stored_ccmr i v t) ch) → cond (ltb (mode (stored_ccmr i v t) ch) 4) (set t.ref ch (ocref t ch)) t.ref ≡ t.ref
    k ch h = kept-level t (stored_ccmr i v t) ch (unless false (W.mode-change-latch t (stored_ccmr i v t) ch) refl h)

unloaded-same : (rule : Bool) (t : Timer) → settled rule (some (W.ocpe-cleared t)) → cond rule (unloaded t) t.ccr ≡ unloaded t
unloaded-same true t d = refl
unloaded-same false t d =
    let q = parts false (W.ocpe-cleared t) d in
    sym (in_turn-id (λ (ch : ℕ) (l : List ℕ). cond (Out.OCxPE (byte t ch)) l (set l ch (get_or t.compares ch 0))) t.ccr (k 0 q.p0) (k 1 q.p1) (k 2 q.p2) (k 3 q.p3))
  where
    k : (ch : ℕ) → settled false (W.ocpe-cleared t ch) → cond (Out.OCxPE (byte t ch)) t.ccr (set t.ccr ch (get_or t.compares ch 0)) ≡ t.ccr
    k ch h = kept-compare t ch (unless false (W.ocpe-cleared t ch) refl h)

pub ccmr-same : (r : Rules) (i v : ℕ) (t : Timer) → OutsideCcmr r i v t → write_ccmr r i v t ≡ write_ccmr manual i v t
unfolding write_ccmr
ccmr-same r i v t o = ap (answered r t) same ∙ answered-same r t (left_ccmr manual i v t) o.answers
  where
    same : left_ccmr r i v t ≡ left_ccmr manual i v t
    same =
        ap (λ (l : List Bool). with_shadows (with_matches (stored_ccmr i v t) l t.done) t.psc t.arr (cond r.preload-cleared (unloaded (stored_ccmr i v t)) t.ccr)) (held_same r.mode-change-latch i v t o.mode-change-latch-not)
        ∙ ap (λ (l : List ℕ). with_shadows (with_matches (stored_ccmr i v t) (held t (stored_ccmr i v t)) t.done) t.psc t.arr l) (unloaded-same r.preload-cleared (stored_ccmr i v t) o.preload-cleared-not)

-- ---- CR1

-- where no CMS bit is set before or after, the kept bits are the new CR1
zero-both : (rule : Bool) (m n : ℕ) → rule ≡ false → settled rule (not (eqb m 0) || not (eqb n 0)) → (m ≡ 0) × (n ≡ 0)
zero-both rule m n e h = go (eqb m 0) (eqb n 0) refl refl (unless rule (not (eqb m 0) || not (eqb n 0)) e h)
  where
    go : (a b : Bool) → eqb m 0 ≡ a → eqb n 0 ≡ b → not a || not b ≡ false → (m ≡ 0) × (n ≡ 0)
    go true true p q h = (eqb-true m 0 p, eqb-true n 0 q)
    go true false p q h = absurd (no (sym h))
    go false b p q h = absurd (no (sym h))

new-same : (r : Rules) (v : ℕ) (t : Timer) → settled r.centre-aligned (W.centre-written t (kept_cr1 t v)) → new_cr1 r t v ≡ new_cr1 manual t v
new-same r v t h = go r.centre-aligned refl
  where
    go : (b : Bool) → r.centre-aligned ≡ b → new_cr1 r t v ≡ new_cr1 manual t v
    go true e = rw e
    go false e =
        let z = zero-both r.centre-aligned (CMS (kept_cr1 t v)) (CMS t.cr1) e h in
        rw (e, z.0, z.1) (plain (CEN t.cr1))
      where
        plain : (c : Bool) → kept_cr1 t v ≡ cond (not (eqb (CMS (cond (c && false) (with_bit 6 (is_set 6 t.cr1) (with_bit 5 (is_set 5 t.cr1) (kept_cr1 t v))) (kept_cr1 t v))) 0))
            (with_bit 4 (is_set 4 t.cr1) (cond (c && false) (with_bit 6 (is_set 6 t.cr1) (with_bit 5 (is_set 5 t.cr1) (kept_cr1 t v))) (kept_cr1 t v)))
            (cond (c && false) (with_bit 6 (is_set 6 t.cr1) (with_bit 5 (is_set 5 t.cr1) (kept_cr1 t v))) (kept_cr1 t v))
        plain true = rw (zero-both r.centre-aligned (CMS (kept_cr1 t v)) (CMS t.cr1) e h).0
        plain false = rw (zero-both r.centre-aligned (CMS (kept_cr1 t v)) (CMS t.cr1) e h).0

arr_is : (rule a : Bool) (w x : ℕ) → settled rule (not a && not (eqb w x)) → cond (rule && not a) w x ≡ cond (not a) w x
arr_is true a w x h = refl
arr_is false true w x h = refl
arr_is false false w x h = go (eqb w x) refl h
  where
    go : (b : Bool) → eqb w x ≡ b → not (not b) ≡ true → x ≡ w
    go true e h = sym (eqb-true w x e)
    go false e h = absurd (no h)

on-is : (rule e was o : Bool) → settled rule (e && not was) → cond (e && was) o (e && not rule) ≡ cond (e && was) o (e && false)
on-is rule false was o h = refl
on-is rule true true o h = refl
on-is true true false o h = refl
on-is false true false o h = absurd (no h)

pre_is : (rule g : Bool) (p : ℕ) → settled rule (not g && not (eqb p 0)) → cond (g || rule) p 0 ≡ cond (g || true) p 0
pre_is rule true p h = refl
pre_is true false p h = refl
pre_is false false p h = go (eqb p 0) refl h
  where
    go : (b : Bool) → eqb p 0 ≡ b → not (not b) ≡ true → 0 ≡ p
    go true e h = sym (eqb-true p 0 e)
    go false e h = absurd (no h)

abbrev written : Rules → ℕ → Timer → Timer
written r n t = shaped t n (unbuffered r n t) (enables r n t) (kept_part r n t)

abbrev settled_anew : Timer → Timer → Timer
settled_anew t s = cond (starts_or_turns t.cr1 s.cr1) (resettled s) s

-- where CMS is neither written nor set, it is not set after the write
still-edge : (r : Rules) (v : ℕ) (t : Timer) → settled r.centre-aligned (W.centre-written t (kept_cr1 t v)) → settled r.centre-aligned (C.centre-aligned (with_cr1 (new_cr1 manual t v) t))
still-edge r v t h = go r.centre-aligned refl
  where
    go : (b : Bool) → r.centre-aligned ≡ b → settled b (C.centre-aligned (with_cr1 (new_cr1 manual t v) t))
    go true e = refl
    go false e =
        let z = zero-both r.centre-aligned (CMS (kept_cr1 t v)) (CMS t.cr1) e h in
        let n : new_cr1 manual t v ≡ kept_cr1 t v = sym (new-same r v t h) ∙ rw e in
        rw (n, z.0) (by (eqb t.channels 0))
      where
        by : (b : Bool) → not (not b && false) ≡ true
        by true = refl
        by false = refl

pub cr1-same : (r : Rules) (v : ℕ) (t : Timer) → OutsideCr1 r v t → write_cr1 r v t ≡ write_cr1 manual v t
unfolding write_cr1
cr1-same r v t o =
    ap (λ (n : ℕ). answered r t (settled_anew t (turned r (written r n t)))) (new-same r v t o.centre-aligned-not)
    ∙ ap (λ (s : Timer). answered r t (settled_anew t s)) (same (new_cr1 manual t v) o.preload-cleared-not o.start-delay-not o.stop-phase-not (still-edge r v t o.centre-aligned-not))
    ∙ answered-same r t (left_cr1 manual v t) o.answers
  where
    same : (n : ℕ) → settled r.preload-cleared (W.arpe-cleared t n) → settled r.start-delay (W.start-delay t n) → settled r.stop-phase (W.stop-phase t n)
        → settled r.centre-aligned (C.centre-aligned (with_cr1 n t)) → turned r (written r n t) ≡ turned manual (written manual n t)
    same n a d p c' =
        ap (λ (x : ℕ). turned r (shaped t n x (enables r n t) (kept_part r n t))) (arr_is r.preload-cleared (ARPE n) (reg t 11) t.arr a)
        ∙ ap (λ (x : Bool). turned r (shaped t n (unbuffered manual n t) x (kept_part r n t))) (on-is r.start-delay (CEN n) (CEN t.cr1) t.on d)
        ∙ ap (λ (x : ℕ). turned r (shaped t n (unbuffered manual n t) (enables manual n t) x)) (pre_is r.stop-phase (CEN n && CEN t.cr1) t.pre p)
        ∙ rw (centre-same r (written manual n t) c')
