-- Outside the named cases a write by rules r is the manual's: EGR, and any register. Assumes nothing.
use Prim.Native.Nat.{ℕ, ◌+◌, ◌<◌, ◌/◌}
use mathlib.Core.Path.{◌≡◌, refl, sym, ap, ◌∙◌}
use mathlib.Core.Bool.{Bool, true, false, cond, not, ◌&&◌, ◌||◌}
use mathlib.Core.List.{List, [], ◌∷◌}
use native.Mathlib.Omega.{arith}
use lib.Dec.{eqb, ltb}
use lib.ListN.{get_or, set}
use lib.Seq.{set-get_or}
use borrow.Author.Tests.{eqb-true, ne_eqb, lt-ltb}
use Rattle.rm0440.specs.Bits.{is_set, UDIS, URS, OPM}
use Rattle.rm0440.specs.Output as Out
use Rattle.rm0440.specs.Rules.{Rules, manual}
use Rattle.rm0440.specs.State.{Timer, reg, mode, is_output, down, centre, with_shadows, with_count, with_matches, with_sr, with_bit, cc_flags, flag}
use Rattle.rm0440.specs.Clock.{loaded, pulse_ended, all_ahead, latched, matched}
use Rattle.rm0440.specs.Write.{turned, generated, generated_cc, write_egr, is_ccr, ccr_channel, write_channel, write, kept}
use Rattle.rm0440.specs.Cases as C
use Rattle.rm0440.specs.Cases.{settled, some, missed}
use Rattle.rm0440.specs.WriteCases as W
use Rattle.rm0440.specs.WriteCases.{same, OutsideUg, OutsideEgr, OutsideWrite}
use Rattle.rm0440.proofs.SameClock.{no, or_same, centre-same, parts, pulse-same, pulse-not, matched-same}
use Rattle.rm0440.proofs.SameWrites.{in_turn-id, unless, cr1-same, cnt-same, arr-same, ccmr-same, ccr-same}

both : (a b : Bool) → a && b ≡ true → (a ≡ true) × (b ≡ true)
both true b h = (refl, h)
both false b h = absurd (no h)

same_true : (l m : List ℕ) → same l m ≡ true → l ≡ m
same_true [] [] h = refl
same_true [] (y ∷ ys) h = absurd (no h)
same_true (x ∷ xs) [] h = absurd (no h)
same_true (x ∷ xs) (y ∷ ys) h =
    let p = both (eqb x y) (same xs ys) h in ap (λ (z : ℕ). z ∷ xs) (eqb-true x y p.0) ∙ ap (λ (zs : List ℕ). y ∷ zs) (same_true xs ys p.1)

-- the values loaded are those in use
loaded-same : (t : Timer) → eqb (reg t 10) t.psc && (eqb (reg t 11) t.arr && same t.compares t.ccr) ≡ true → loaded t ≡ t
loaded-same t h =
    let p = both (eqb (reg t 10) t.psc) (eqb (reg t 11) t.arr && same t.compares t.ccr) h in
    let q = both (eqb (reg t 11) t.arr) (same t.compares t.ccr) p.1 in
    ap (λ (x : ℕ). with_shadows t x (reg t 11) t.compares) (eqb-true (reg t 10) t.psc p.0)
    ∙ ap (λ (x : ℕ). with_shadows t t.psc x t.compares) (eqb-true (reg t 11) t.arr q.0)
    ∙ ap (λ (x : List ℕ). with_shadows t t.psc t.arr x) (same_true t.compares t.ccr q.1)

double : (b : Bool) → not (not b) ≡ true → b ≡ true
double true h = refl
double false h = h

load_same : (rule u : Bool) (t : Timer) → settled rule (u && not (eqb (reg t 10) t.psc && (eqb (reg t 11) t.arr && same t.compares t.ccr)))
    → cond (rule && u) t (loaded t) ≡ cond u t (loaded t)
load_same true u t h = refl
load_same false false t h = refl
load_same false true t h = loaded-same t (double (eqb (reg t 10) t.psc && (eqb (reg t 11) t.arr && same t.compares t.ccr)) h)

-- the pulse
end_same : (r : Rules) (rule opm u : Bool) (f : Timer) → settled rule (opm && not u) → settled r.one-pulse (opm && not u)
    → cond (rule && not u) (pulse_ended r opm f) f ≡ cond (not u) (pulse_ended manual opm f) f
end_same r true opm true f h k = refl
end_same r false opm true f h k = refl
end_same r true true false f h k = pulse-same r true f k
end_same r true false false f h k = pulse-not r f ∙ sym (pulse-not manual f)
end_same r false true false f h k = absurd (no h)
end_same r false false false f h k = sym (pulse-not manual f)

-- UG, before the new count is met
abbrev restart : Rules → Timer → Timer → Timer
restart r t l = with_sr (cond (UDIS t.cr1 || URS t.cr1) t.sr (with_bit 0 true t.sr)) (all_ahead (turned r (with_count l t.on 0 (cond (centre r t) 0 (cond (down t) l.arr 0)))))

generated-same : (r : Rules) (t : Timer) → settled r.centre-aligned (C.centre-aligned t) → settled r.ug-under-udis (W.ug-under-udis t)
    → settled r.one-pulse-ug (W.one-pulse-ug t) → settled r.one-pulse (W.one-pulse-ug t)
    → settled r.centre-aligned (C.centre-aligned (cond (UDIS t.cr1) t (loaded t))) → generated r t ≡ generated manual t
generated-same r t c u p q c' =
    ap (λ (l : Timer). cond (r.one-pulse-ug && not (UDIS t.cr1)) (pulse_ended r (OPM t.cr1) (restart r t l)) (restart r t l)) (load_same r.ug-under-udis (UDIS t.cr1) t u)
    ∙ ap (λ (f : Timer). cond (r.one-pulse-ug && not (UDIS t.cr1)) (pulse_ended r (OPM t.cr1) f) f) (turn (cond (UDIS t.cr1) t (loaded t)) c')
    ∙ end_same r r.one-pulse-ug (OPM t.cr1) (UDIS t.cr1) (restart manual t (cond (UDIS t.cr1) t (loaded t))) p q
  where
    turn : (l : Timer) → settled r.centre-aligned (C.centre-aligned l) → restart r t l ≡ restart manual t l
    turn l c' = rw (centre-same r t c, centre-same r l c')

-- ---- CCxG

unlatched : (m : ℕ) (x : Bool) → ltb 0 m && ltb m 4 ≡ false → Out.at_match m x ≡ x
unfolding Out.at_match
unlatched m x h =
    rw (ne_eqb m 1 (out 1 (omega arith) (omega arith)), ne_eqb m 2 (out 2 (omega arith) (omega arith)), ne_eqb m 3 (out 3 (omega arith) (omega arith)))
  where
    out : (k : ℕ) → 0 < k → k < 4 → m ≡ k → ⊥
    out k p q e = go (lt-ltb 0 m (omega arith)) (lt-ltb m 4 (omega arith))
      where
        go : ltb 0 m ≡ true → ltb m 4 ≡ true → ⊥
        go a b = let z : ◌≡◌ {A = ℕ} 0 1 = cc (ap (λ (y : Bool). y && ltb m 4) a) in omega arith

latch-same : (rule : Bool) (v : ℕ) (t : Timer) → settled rule (some (W.ccg-latches v t))
    → cond rule t.ref (latched (λ (ch : ℕ). is_set (ch + 1) v && is_output t ch) t) ≡ t.ref
latch-same true v t d = refl
latch-same false v t d =
    let q = parts false (W.ccg-latches v t) d in
    in_turn-id (λ (ch : ℕ) (l : List Bool). cond (is_set (ch + 1) v && is_output t ch) (set l ch (Out.at_match (mode t ch) (get_or l ch false))) l) t.ref
    (k 0 q.p0) (k 1 q.p1) (k 2 q.p2) (k 3 q.p3)
  where
    k : (ch : ℕ) → settled false (W.ccg-latches v t ch)
        → cond (is_set (ch + 1) v && is_output t ch) (set t.ref ch (Out.at_match (mode t ch) (get_or t.ref ch false))) t.ref ≡ t.ref
    k ch h = go (is_set (ch + 1) v && is_output t ch) (unless false (W.ccg-latches v t ch) refl h)
      where
        go : (b : Bool) → b && (ltb 0 (mode t ch) && ltb (mode t ch) 4) ≡ false → cond b (set t.ref ch (Out.at_match (mode t ch) (get_or t.ref ch false))) t.ref ≡ t.ref
        go true h = ap (λ (x : Bool). set t.ref ch x) (unlatched (mode t ch) (get_or t.ref ch false) h) ∙ set-get_or t.ref ch false
        go false h = refl

cc-same : (r : Rules) (v : ℕ) (t : Timer) → settled r.ccg-latches (some (W.ccg-latches v t)) → generated_cc r v t ≡ generated_cc manual v t
cc-same r v t d =
    ap (λ (l : List Bool). with_matches (with_sr (cc_flags (λ (ch : ℕ). is_set (ch + 1) v && is_output t ch) t.sr) t) l t.done) (latch-same r.ccg-latches v t d)

-- ---- EGR, with UG and without

-- TG
trigger : (rule x : Bool) (u : Timer) → settled rule x → cond (rule && x) (flag 6 u) u ≡ cond x (flag 6 u) u
trigger rule x u h = ap (λ (b : Bool). cond b (flag 6 u) u) (or_same rule x h)

abbrev last : Rules → ℕ → Timer → Timer
last r v u = cond (r.trigger-generation && is_set 6 v) (flag 6 u) u

-- CMS is that of the state before
loaded-edge : (r : Rules) (t : Timer) → settled r.centre-aligned (C.centre-aligned t) → settled r.centre-aligned (C.centre-aligned (cond (UDIS t.cr1) t (loaded t)))
loaded-edge r t c = go (UDIS t.cr1)
  where
    go : (u : Bool) → settled r.centre-aligned (C.centre-aligned (cond u t (loaded t)))
    go true = c
    go false = c

pub egr-same : (r : Rules) (v : ℕ) (t : Timer) → OutsideEgr r v t → write_egr r v t ≡ write_egr manual v t
unfolding write_egr
egr-same r v t o = go (is_set 0 v) o.ccg-latches-not o.ug
  where
    go : (b : Bool) → settled r.ccg-latches (some (W.ccg-latches v (cond b (generated manual t) t))) → (b ≡ true → OutsideUg r t (generated_cc manual v (generated manual t)))
        → last r v (cond b (matched r (generated_cc r v (generated r t))) (generated_cc r v t))
        ≡ last manual v (cond b (matched manual (generated_cc manual v (generated manual t))) (generated_cc manual v t))
    go false d u = ap (last r v) (cc-same r v t d) ∙ trigger r.trigger-generation (is_set 6 v) (generated_cc manual v t) o.trigger-generation-not
    go true d u =
        let g = u refl in
        ap (λ (x : Timer). last r v (matched r (generated_cc r v x)))
        (generated-same r t g.centre-aligned-not g.ug-under-udis-not g.one-pulse-ug-not g.one-pulse-not (loaded-edge r t g.centre-aligned-not))
        ∙ ap (λ (x : Timer). last r v (matched r x)) (cc-same r v (generated manual t) d)
        ∙ ap (last r v) (matched-same r (generated_cc manual v (generated manual t)) g.turned-not g.done-equality-not)
        ∙ trigger r.trigger-generation (is_set 6 v) (matched manual (generated_cc manual v (generated manual t))) o.trigger-generation-not

-- ---- any register: outside the named cases that rules r leave to the Rust, a write by r is the manual's

-- a test's two arms, each with what the test says
arms : {A : Type 0} (b : Bool) {x x' y y' : A} → (b ≡ true → x ≡ x') → y ≡ y' → cond b x y ≡ cond b x' y'
arms true f e = f refl
arms false f e = e

channel-same : (r : Rules) (off v : ℕ) (t : Timer) → OutsideWrite r off v t → write_channel r off v t ≡ write_channel manual off v t
unfolding write_channel
channel-same r off v t o =
    arms (eqb t.channels 0) (λ e. refl) (
    arms (eqb off 0x18) (λ e. ccmr-same r 0 (kept 6 v) t (o.ccmr1 e)) (
    arms (eqb off 0x1c) (λ e. ccmr-same r 1 (kept 7 v) t (o.ccmr2 e)) (
    arms (eqb off 0x20) (λ e. refl) (
    arms (is_ccr off) (λ e. ccr-same r (ccr_channel off) (kept (off / 4) v) t (o.ccr e)) refl))))

pub write_same : (r : Rules) (off v : ℕ) (t : Timer) → OutsideWrite r off v t → write r off v t ≡ write manual off v t
unfolding write
write_same r off v t o =
    arms (eqb off 0x00) (λ e. cr1-same r v t (o.cr1 e)) (
    arms (eqb off 0x04) (λ e. refl) (
    arms (eqb off 0x08) (λ e. refl) (
    arms (eqb off 0x0c) (λ e. refl) (
    arms (eqb off 0x10) (λ e. refl) (
    arms (eqb off 0x14) (λ e. egr-same r v t (o.egr e)) (
    arms (eqb off 0x24) (λ e. cnt-same r (kept 9 v) t (o.cnt e)) (
    arms (eqb off 0x28) (λ e. refl) (
    arms (eqb off 0x2c) (λ e. arr-same r (kept 11 v) t (o.arr e)) (channel-same r off v t o)))))))))
