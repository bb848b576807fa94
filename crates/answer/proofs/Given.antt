-- A call's answer, from the first number that applies. Assumes nothing.
use mathlib.Core.Path.{◌≡◌, refl, ap, sym, ◌∙◌}
use mathlib.Core.Bool.{Bool, true, false, cond, not, ◌||◌, false≢true}
use mathlib.Core.List.{List, [], ◌∷◌, ◌++◌}
use Prim.Native.Nat.{ℕ, ◌≤◌, ◌<◌}
use native.Mathlib.Omega.{arith}
use lib.ListN.{length}
use lib.Dec.{eqb, ltb, leb}
use borrow.Author.Tests.{eqb-true, lt-ltb, le-ltb, ltb-true, ltb-false, leb-false, le-leb, lt-leb, not-true, not-false}
use lib.Ieee.{Float}
use Rattle.book.specs.Book.{Holds, Lent}
use Rattle.machine.specs.Board.{Board}
use Rattle.machine.specs.Call.{Call, Outcome, refused, is_refusal}
use Rattle.machine.specs.Step.{step, odd_size}
use Rattle.machine.specs.Refusals.{Refusal, ◌when◌, refusals, order, in_order, first, no_such_index, bad_size, clock_astray, book_full}
use Rattle.machine.proofs.NumberLaws.{Verdict, refuses, passes, no_both, refusal-nonzero, all_refusals, behind, order-refuses, performed, step_given, answered, performed-served}
use Rattle.state.specs.View.{view}
use Rattle.answer.specs.declared.Answer.{Answer}
use Rattle.answer.specs.Promise.{answer, Answers}
use Rattle.answer.specs.declared.Refusal.{Refusal as Why}
use Rattle.answer.specs.declared.Refusal.TheVariants.{OutsideLimits, NoSuchIndex, BadSize, BadClock, ClockAstray, BookFull, CounterAstray, EventsDue, SignalTaken}
use Rattle.answer.specs.Refused.{number_of}

-- a number applies: the call is refused with it
pub refused-step : (b : Board) (c : Call) (n : ℕ) → n ≡ first (refusals b c) → (n ≡ 0 → ⊥) → step b c ≡ refused n b
refused-step b c n e z = go (answered b c)
  where
    go : Verdict (refusals b c) b (performed b c) → step b c ≡ refused n b
    go (refuses m l u f a g) = step_given b c ∙ g ∙ ap (λ (k : ℕ). refused k b) (sym f ∙ sym e)
    go (passes f a g) = absurd (z (e ∙ f))

-- none applies: the call is performed
pub served-step : (b : Board) (c : Call) → first (refusals b c) ≡ 0 → step b c ≡ performed b c
served-step b c e = go (answered b c)
  where
    go : Verdict (refusals b c) b (performed b c) → step b c ≡ performed b c
    go (refuses m l u f a g) = absurd (omega (arith, sym f ∙ e))
    go (passes f a g) = step_given b c ∙ g

-- the answer of a refused call
pub away : (w : List ℕ) (x : List Float) (o : Outcome) (n : ℕ) → o ≡ refused n (view w x) → (r : Answer) → r ≡ answer n 0 0 → Answers o r w w x x
away w x o n e r h = rw (e, h) (record { number = refl; value = refl; count = refl; board = refl; kept = λ p. (refl, refl) })

-- its book: untouched
pub unbooked : (o : Outcome) (u : Lent) (n : ℕ) → n ≡ 0 → o.entries ≡ [] → Holds o.entries u u n
unbooked o u n h e = rw (e, h) (record { count = refl; pins = refl; levels = refl; cycles = refl; sources = refl })

-- the answer of a call that was not refused
pub gives : (o : Outcome) (r : Answer) (w w₁ : List ℕ) (x x₁ : List Float)
    → r.number ≡ o.number → r.value ≡ o.value → r.count ≡ length o.entries → view w₁ x₁ ≡ o.board → is_refusal o.number ≡ false → Answers o r w w₁ x x₁
gives o r w w₁ x x₁ n v k b h = record {
  number = n;
  value = v;
  count = k;
  board = b;
  kept = λ p. absurd (no_both _ (ap is_refusal (sym n) ∙ p) h);
}

-- ---- a call's answer and book, from `refusal`'s number

-- refused: nothing changed, nothing written
pub turns-away : (w : List ℕ) (x : List Float) (c : Call) (n : ℕ) (r : Answer)
    → n ≡ first (refusals (view w x) c) → (n ≡ 0 → ⊥) → r ≡ answer n 0 0 → Answers (step (view w x) c) r w w x x
turns-away w x c n r e z h = away w x (step (view w x) c) n (refused-step (view w x) c n e z) r h

pub turns-away-book : (b : Board) (c : Call) (n : ℕ) (r : Answer) (u : Lent)
    → n ≡ first (refusals b c) → (n ≡ 0 → ⊥) → r ≡ answer n 0 0 → Holds (step b c).entries u u r.count
turns-away-book b c n r u e z h =
    unbooked (step b c) u r.count (ap (λ (a : Answer). a.count) h) (ap (λ (o : Outcome). o.entries) (refused-step b c n e z))

-- not refused: as performed, which is never answered with a refusal
pub serves : (b : Board) (c : Call) (r : Answer) (w w₁ : List ℕ) (x x₁ : List Float)
    → 0 ≡ first (refusals b c) → r.number ≡ (performed b c).number → r.value ≡ (performed b c).value → r.count ≡ length (performed b c).entries
    → view w₁ x₁ ≡ (performed b c).board → Answers (step b c) r w w₁ x x₁
serves b c r w w₁ x x₁ e n v k h =
    rw (served-step b c (sym e)) (gives (performed b c) r w w₁ x x₁ n v k h (performed-served b c))

pub serves-book : (b : Board) (c : Call) (u u₁ : Lent) (n : ℕ)
    → 0 ≡ first (refusals b c) → Holds (performed b c).entries u u₁ n → Holds (step b c).entries u u₁ n
serves-book b c u u₁ n e h = rw (served-step b c (sym e)) h

-- ---- where nothing of `refusal`'s list applies

pub record Passed (index count size cycle need places : ℕ) : Type 0 where
  pub index-lt : index < count
  pub size-le : size ≤ 4
  pub cycle-le : cycle ≤ 4611686018427387904
  pub places-le : need ≤ places

size_small : (size : ℕ) → odd_size size ≡ false → size ≤ 4
size_small size h = go (eqb size 1) refl (eqb size 2) refl (eqb size 4) refl h
  where
    go : (a : Bool) → eqb size 1 ≡ a → (b : Bool) → eqb size 2 ≡ b → (c : Bool) → eqb size 4 ≡ c → not (a || (b || c)) ≡ false → size ≤ 4
    go true e b f c g h = omega (arith, eqb-true size 1 e)
    go false e true f c g h = omega (arith, eqb-true size 2 f)
    go false e false f true g h = omega (arith, eqb-true size 4 g)
    go false e false f false g h = absurd (false≢true (sym h))

cycle-small : (cycle last : ℕ) → (ltb 4611686018427387904 cycle || ltb cycle last) ≡ false → cycle ≤ 4611686018427387904
cycle-small cycle last h = go (ltb 4611686018427387904 cycle) refl h
  where
    go : (a : Bool) → ltb 4611686018427387904 cycle ≡ a → (a || ltb cycle last) ≡ false → cycle ≤ 4611686018427387904
    go true e h = absurd (false≢true (sym h))
    go false e h = ltb-false 4611686018427387904 cycle e

pub passed : (b : Board) (index count size cycle need places : ℕ)
    → 0 ≡ first (no_such_index index count ∷ bad_size size ∷ clock_astray b cycle ∷ book_full need places ∷ [])
    → Passed index count size cycle need places
unfolding first
passed b index count size cycle need places h =
    go (leb count index) refl (odd_size size) refl (ltb 4611686018427387904 cycle || ltb cycle b.counts.last) refl (ltb places need) refl h
  where
    go : (t : Bool) → leb count index ≡ t → (u : Bool) → odd_size size ≡ u → (v : Bool) → (ltb 4611686018427387904 cycle || ltb cycle b.counts.last) ≡ v
        → (z : Bool) → ltb places need ≡ z → ◌≡◌ {A = ℕ} 0 (cond t 2 (cond u 3 (cond v 5 (cond z 6 0)))) → Passed index count size cycle need places
    go true e u f v g z i h = absurd (omega (arith, h))
    go false e true f v g z i h = absurd (omega (arith, h))
    go false e false f true g z i h = absurd (omega (arith, h))
    go false e false f false g true i h = absurd (omega (arith, h))
    go false e false f false g false i h = record {
      index-lt = leb-false count index e;
      size-le = size_small size f;
      cycle-le = cycle-small cycle b.counts.last g;
      places-le = ltb-false places need i;
    }

-- ---- a timer's call without a book

pub missing : (i n : ℕ) (t : Bool) → t ≡ ltb i n → not t ≡ true → leb n i ≡ true
missing i n t e h = le-leb n i (ltb-false i n (sym e ∙ not-true t h))

pub present : (i n : ℕ) (t : Bool) → t ≡ ltb i n → not t ≡ false → leb n i ≡ false
present i n t e h = lt-leb n i (ltb-true i n (sym e ∙ not-false t h))

-- no places are needed
pub timer-passed : (b : Board) (index count size cycle : ℕ)
    → 0 ≡ first (no_such_index index count ∷ bad_size size ∷ clock_astray b cycle ∷ []) → Passed index count size cycle 0 0
unfolding first
timer-passed b index count size cycle h = passed b index count size cycle 0 0 h

-- ---- a list of tests made longer

-- one of the front applies: it is the first of all
pub first-front : (rs more : List Refusal) → (first rs ≡ 0 → ⊥) → first rs ≡ first (rs ++ more)
unfolding first
first-front [] more z = absurd (z refl)
first-front ((n when true) ∷ rs) more z = refl
first-front ((n when false) ∷ rs) more z = first-front rs more z

-- none does: the rest decides
rest_of : (os : List ℕ) (rs more : List Refusal) → all_refusals os ≡ true → in_order os rs ≡ true → first rs ≡ 0 → first more ≡ first (rs ++ more)
unfolding first
rest_of os [] more a r h = refl
rest_of os ((n when true) ∷ rs) more a r h = absurd (refusal-nonzero n (behind os n true rs a r).refusal h)
rest_of os ((n when false) ∷ rs) more a r h = let q = behind os n false rs a r in rest_of q.rest rs more q.refusals q.ordered h

pub first_rest : (rs more : List Refusal) → in_order order rs ≡ true → first rs ≡ 0 → first more ≡ first (rs ++ more)
first_rest rs more r h = rest_of order rs more order-refuses r h

-- the book's own test
pub book-full : (places : ℕ) → places < 4 → 6 ≡ first (book_full 4 places ∷ [])
unfolding first
book-full places h = rw (lt-ltb places 4 h)

pub book-fits : (places : ℕ) → 4 ≤ places → 0 ≡ first (book_full 4 places ∷ [])
unfolding first
book-fits places h = rw (le-ltb places 4 h)

-- a refusal's number is above 0
pub number-positive : (r : Why) → 1 ≤ number_of r
number-positive OutsideLimits = omega arith
number-positive NoSuchIndex = omega arith
number-positive BadSize = omega arith
number-positive BadClock = omega arith
number-positive ClockAstray = omega arith
number-positive BookFull = omega arith
number-positive CounterAstray = omega arith
number-positive EventsDue = omega arith
number-positive SignalTaken = omega arith
