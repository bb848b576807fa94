-- The next event is the machine's first: up to it nothing wraps and nothing matches, and there it does. Edge-aligned and centre-aligned alike. Assumes nothing.
use Prim.Native.Nat.{ℕ, suc, ◌+◌, ◌-◌, ◌*◌, ◌/◌, ◌%◌, ◌<◌}
use mathlib.Core.Path.{◌≡◌, refl, sym, ap, ◌∙◌}
use mathlib.Core.Bool.{Bool, true, false, cond, not, ◌&&◌}
use native.Mathlib.Nat.{zero-add, add-zero, le_refl, mul-add-div_right, mul-add-mod_self_right, div-eq_of_lt, mod-eq_of_lt}
use native.Mathlib.Omega.{arith}
use lib.Dec.{eqb, leb, lit<}
use lib.ListN.{get_or}
use borrow.Author.Tests.{leb-true, le-leb, lt-leb, eqb-true, eq-eqb, ne_eqb, le-ltb}
use Rattle.tim.specs.declared.Ahead.{Ahead}
use Rattle.tim.specs.declared.Next.TheVariants.{Update, Compare}
use Rattle.rm0440.specs.Rules.{Rules}
use Rattle.rm0440.specs.State.{Timer, down, centre, is_output, ccr_of}
use Rattle.rm0440.specs.Clock.{wraps, meets, stepped, blocked, clock, clocks}
use Rattle.follows.proofs.Leap.{at, onward, Quiet, leap, clocks-suc}
use Rattle.follows.proofs.Leap.{both}
use Rattle.follows.proofs.Place.{turns}
use Rattle.follows.proofs.Centre.{wraps-is}
use Rattle.follows.proofs.First.{extra, turn_steps, ahead, match_steps, first, best-first}
use Rattle.follows.proofs.First as Next

-- ---- the next event of a state of the machine, by the Rust's rule of matches

abbrev pub turn_in : Rules → Timer → ℕ
turn_in r s = turn_steps (centre r s) s.arr (down s) s.cnt

abbrev pub waiting : Timer → ℕ → Bool
waiting s ch = not (get_or s.done ch false) && is_output s ch

abbrev pub takes : Timer → ℕ → Bool
takes s ch = waiting s ch && ahead s.arr (down s) s.cnt (ccr_of s ch)

abbrev pub match_in : Timer → ℕ → ℕ
match_in s ch = match_steps (down s) s.cnt (ccr_of s ch)

abbrev pub next : Rules → Timer → Ahead
next r s = first (turn_in r s) (takes s) (match_in s)

-- ---- on one way

-- the step before the turn is the first that wraps
no-turn : (c : Bool) (a : ℕ) (d : Bool) (x j : ℕ) → suc j < turn_steps c a d x → turns c a d (cond d (x - j) (x + j)) ≡ false
no-turn true a true x j h = lt-leb (x - j) 1 (omega arith)
no-turn true a false x j h = ne_eqb (x + j + 1) a (λ e. omega arith)
no-turn false a true x j h = ne_eqb (x - j) 0 (λ e. omega arith)
no-turn false a false x j h = lt-leb a (x + j) (omega arith)

turn-now : (c : Bool) (a : ℕ) (d : Bool) (x j : ℕ) → turn_steps c a d x ≡ suc j → turns c a d (cond d (x - j) (x + j)) ≡ true
turn-now true a true x j h = le-leb (x - j) 1 (omega arith)
turn-now true a false x j h = eq-eqb (x + j + 1) a (omega arith)
turn-now false a true x j h = eq-eqb (x - j) 0 (omega arith)
turn-now false a false x j h = le-leb a (x + j) (omega arith)

-- before the turn the count is at a compare that is ahead, exactly after its steps
at-compare : (a : ℕ) (d : Bool) (x v k : ℕ) → ahead a d x v ≡ true → match_steps d x v ≡ k → cond d (x - k) (x + k) ≡ v
at-compare a true x v k h e = omega (arith, leb-true v x h)
at-compare a false x v k h e = omega (arith, leb-true x v (both (leb x v) (leb v a) h).0)

only-compare : (c : Bool) (a : ℕ) (d : Bool) (x v k : ℕ) → k < turn_steps c a d x → cond d (x - k) (x + k) ≡ v
    → (ahead a d x v ≡ true) × (match_steps d x v ≡ k)
only-compare true a true x v k h e = (le-leb v x (omega arith), omega arith)
only-compare false a true x v k h e = (le-leb v x (omega arith), omega arith)
only-compare true a false x v k h e = (rw (le-leb x v (omega arith)) (le-leb v a (omega arith)), omega arith)
only-compare false a false x v k h e = (rw (le-leb x v (omega arith)) (le-leb v a (omega arith)), omega arith)

module _ (r : Rules) (s : Timer) (rule : r.above-reload ≡ false) (record-rule : r.done-equality ≡ false) (free : blocked r s ≡ false) where
  pub no_wrap : (j : ℕ) → suc j < turn_in r s → wraps r (at s 0 j) ≡ false
  no_wrap j h = wraps-is r (at s 0 j) rule ∙ no-turn (centre r s) s.arr (down s) s.cnt j h

  pub wraps-now : (j : ℕ) → turn_in r s ≡ suc j → wraps r (at s 0 j) ≡ true
  wraps-now j h = wraps-is r (at s 0 j) rule ∙ turn-now (centre r s) s.arr (down s) s.cnt j h

  pub meets-is : (k ch : ℕ) → meets r (at s 0 k) ch ≡ is_output s ch && (eqb (onward s k) (ccr_of s ch) && not (get_or s.done ch false))
  meets-is k ch = rw (record-rule, free)

  pub met-true : (k ch : ℕ) → takes s ch ≡ true → match_in s ch ≡ k → meets r (at s 0 k) ch ≡ true
  met-true k ch t m =
      let p = both (waiting s ch) (ahead s.arr (down s) s.cnt (ccr_of s ch)) t in
      let q = both (not (get_or s.done ch false)) (is_output s ch) p.0 in
      meets-is k ch ∙ rw (q.0, q.1) (ap (λ (b : Bool). b && true) (eq-eqb (onward s k) (ccr_of s ch) (at-compare s.arr (down s) s.cnt (ccr_of s ch) k p.1 m)))

  pub met-only : (k ch : ℕ) → k < turn_in r s → meets r (at s 0 k) ch ≡ true → (takes s ch ≡ true) × (match_in s ch ≡ k)
  met-only k ch h m =
      let p = both (is_output s ch) (eqb (onward s k) (ccr_of s ch) && not (get_or s.done ch false)) (sym (meets-is k ch) ∙ m) in
      let q = both (eqb (onward s k) (ccr_of s ch)) (not (get_or s.done ch false)) p.1 in
      let g = only-compare (centre r s) s.arr (down s) s.cnt (ccr_of s ch) k h (eqb-true (onward s k) (ccr_of s ch) q.0) in
      (rw (q.1, p.0) g.0, g.1)

  best : Next.Best (turn_in r s) (takes s) (match_in s) 4 (next r s)
  best = best-first (turn_in r s) (takes s) (match_in s)

  -- ---- the first event

  -- before it no match
  pub not_yet : (k : ℕ) → k < (next r s).steps → (ch : ℕ) → ch < 4 → meets r (at s 0 k) ch ≡ false
  not_yet k l ch lt = go (meets r (at s 0 k) ch) refl
    where
      go : (b : Bool) → meets r (at s 0 k) ch ≡ b → b ≡ false
      go false e = refl
      go true e =
          let p = met-only k ch (omega (arith, best.by-update)) e in
          absurd (omega (arith, best.by-compare ch lt p.0, p.1))

  pub quiet : (k : ℕ) → k < (next r s).steps → Quiet r s k
  quiet k h = record {
    no_wrap = λ j l. no_wrap j (omega (arith, best.by-update));
    silent = λ j l. let n : suc j < (next r s).steps = omega arith in
        record { q0 = not_yet (suc j) n 0 (lit< tt); q1 = not_yet (suc j) n 1 (lit< tt); q2 = not_yet (suc j) n 2 (lit< tt); q3 = not_yet (suc j) n 3 (lit< tt) };
  }

  -- where it is a turn the machine wraps; where it is a compare it does not, and the channel is met, and no lower one
  pub record MatchFirst (j ch : ℕ) : Type 0 where
    pub no-turn-yet : wraps r (at s 0 j) ≡ false
    pub met : meets r (at s 0 (suc j)) ch ≡ true
    pub lower-not : (i : ℕ) → i < ch → meets r (at s 0 (suc j)) i ≡ false

  pub turn-first : (j : ℕ) → (next r s).steps ≡ suc j → (next r s).next ≡ Update → wraps r (at s 0 j) ≡ true
  turn-first j e u = wraps-now j (sym (best.update-is u) ∙ e)

  pub match-first : (j ch : ℕ) → (next r s).steps ≡ suc j → (next r s).next ≡ Compare ch → MatchFirst j ch
  match-first j ch e u =
      let p = best.compare-is ch u in
      let l : suc j < turn_in r s = omega (arith, best.strictly ch u) in
      record {
        no-turn-yet = no_wrap j l;
        met = met-true (suc j) ch p.takes-so (sym p.steps-are ∙ e);
        lower-not = λ i h. go i h l (meets r (at s 0 (suc j)) i) refl;
      }
    where
      go : (i : ℕ) → i < ch → suc j < turn_in r s → (b : Bool) → meets r (at s 0 (suc j)) i ≡ b → b ≡ false
      go i h l false q = refl
      go i h l true q =
          let m = met-only (suc j) i l q in
          absurd (omega (arith, best.lowest ch u i h m.0, m.1))

  -- ---- by the kernel clock, from the beginning of a step on

  abbrev per : ℕ
  per = s.psc + 1

  pub before-event : (n : ℕ) → n / per < (next r s).steps → clocks r n (at s 0 0) ≡ at s (n % per) (n / per)
  before-event n h = leap r s free 0 n (omega arith) (rw (zero-add n) (quiet (n / per) h)) ∙ rw (zero-add n)

  last : (j : ℕ) → clock r (at s s.psc j) ≡ stepped r (at s 0 j)
  unfolding clock
  last j = rw (free, le-ltb s.psc s.psc (le_refl s.psc))

  -- the clock of the event is the step from there: a turn (turn-first) or a match (match-first)
  pub at-event : (j : ℕ) → (next r s).steps ≡ suc j → clocks r (suc j * per) (at s 0 0) ≡ stepped r (at s 0 j)
  at-event j e =
      let l : s.psc < per = omega arith in
      let q : (j * per + s.psc) / per ≡ j = mul-add-div_right {m = per} (omega arith) j s.psc ∙ rw (div-eq_of_lt l) (add-zero j) in
      let p : (j * per + s.psc) % per ≡ s.psc = mul-add-mod_self_right j per s.psc ∙ mod-eq_of_lt l in
      let m : suc j * per ≡ suc (j * per + s.psc) = omega arith in
      let b : clocks r (j * per + s.psc) (at s 0 0) ≡ at s s.psc j = before-event (j * per + s.psc) (rw q (omega arith)) ∙ rw (p, q) in
      rw m (clocks-suc r (j * per + s.psc) (at s 0 0) ∙ ap (clock r) b ∙ last j)
