-- "The shift report takes no sources": a book's entries without them make the same report. Assumes nothing.
use Rattle.std.proofs.Common.{◌≡◌, ℕ, zero, suc, ◌+◌, ◌-◌, Bool, cond, ◌||◌, eqb, ltb, List, [], ◌∷◌, ◌++◌, map, sym, refl, ap, ◌∙◌}
use Rattle.book.specs.Book.{Entry}
use Rattle.book.specs.Level.{level_at, highs}
use Rattle.shift.specs.Shift.{Shift, unsourced, level_before, level_in, high_in, is_edge, edges, figures, last_cycle, high_pins, cycle_before, misplaced, out_of_order, number_of, Reports}

abbrev bare : List Entry → List Entry
bare es = map unsourced es

level-bare : (pin : ℕ) (es : List Entry) (l c : ℕ) → level_at pin (bare es) l c ≡ level_at pin es l c
unfolding level_at
level-bare pin [] l c = refl
level-bare pin (e ∷ es) l c = level-bare pin es _ c

highs-alike : (f g : ℕ → ℕ) → ((c : ℕ) → f c ≡ g c) → (a W : ℕ) → highs f a W ≡ highs g a W
unfolding highs
highs-alike f g h a zero = refl
highs-alike f g h a (suc W) =
    ap (λ (n : ℕ). n + cond (eqb (f (a + W)) 1) 1 0) (highs-alike f g h a W) ∙ ap (λ (n : ℕ). highs g a W + cond (eqb n 1) 1 0) (h (a + W))

edges-bare : (s : Shift) (pin : ℕ) (es : List Entry) (l : ℕ) → edges s pin (bare es) l ≡ edges s pin es l
unfolding edges
edges-bare s pin [] l = refl
edges-bare s pin (e ∷ es) l =
    ap (λ (n : ℕ). cond (eqb e.pin pin) (cond (is_edge s l e) 1 0 + n) (edges s pin (bare es) l)) (edges-bare s pin es e.level)
    ∙ ap (λ (n : ℕ). cond (eqb e.pin pin) (cond (is_edge s l e) 1 0 + edges s pin es e.level) n) (edges-bare s pin es l)

high-bare : (s : Shift) (es : List Entry) (pin : ℕ) → high_in s (bare es) pin ≡ high_in s es pin
high-bare s es pin = highs-alike (level_in s (bare es) pin) (level_in s es pin) (level-bare pin es (level_before s pin)) s.from (s.to - s.from)

figures-bare : (s : Shift) (es : List Entry) (pin : ℕ) → figures s (bare es) pin ≡ figures s es pin
figures-bare s es pin = rw (high-bare s es pin, edges-bare s pin es (level_before s pin))

pins-bare : (s : Shift) (es : List Entry) (n : ℕ) → high_pins s (bare es) n ≡ high_pins s es n
unfolding high_pins
pins-bare s es zero = refl
pins-bare s es (suc n) =
    ap (λ (m : ℕ). m + cond (eqb (level_in s (bare es) n (last_cycle s)) 1) 1 0) (pins-bare s es n)
    ∙ ap (λ (m : ℕ). high_pins s es n + cond (eqb m 1) 1 0) (level-bare n es (level_before s n) (last_cycle s))

before-bare : (pin : ℕ) (es : List Entry) (c : ℕ) → cycle_before pin (bare es) c ≡ cycle_before pin es c
unfolding cycle_before
before-bare pin [] c = refl
before-bare pin (e ∷ es) c = before-bare pin es _

bare-last : (es : List Entry) (e : Entry) → bare es ++ (unsourced e ∷ []) ≡ bare (es ++ (e ∷ []))
bare-last [] e = refl
bare-last (x ∷ es) e = ap (λ (l : List Entry). unsourced x ∷ l) (bare-last es e)

order-bare : (before es : List Entry) → out_of_order (bare before) (bare es) ≡ out_of_order before es
unfolding out_of_order
order-bare before [] = refl
order-bare before (e ∷ es) =
    ap (λ (n : ℕ). (ltb 127 e.pin || (ltb 1 e.level || ltb e.cycle n)) || out_of_order (bare before ++ (unsourced e ∷ [])) (bare es)) (before-bare e.pin before 0)
    ∙ ap (λ (b : Bool). misplaced before e || b) (ap (λ (l : List Entry). out_of_order l (bare es)) (bare-last before e) ∙ order-bare (before ++ (e ∷ [])) es)

pub number-bare : (s : Shift) (es : List Entry) → number_of s (bare es) ≡ number_of s es
unfolding number_of
number-bare s es = ap (λ (b : Bool). cond (ltb s.to s.from) 9 (cond b 10 0)) (order-bare [] es)

pub report-bare : (s : Shift) (es : List Entry) (number high : ℕ) (lent left : List ℕ) → Reports s (bare es) number high lent left → Reports s es number high lent left
report-bare s es number high lent left r = record {
  answered = r.answered ∙ number-bare s es;
  refused = λ n. r.refused (λ e. n (sym (number-bare s es) ∙ e));
  pins = λ e. r.pins (number-bare s es ∙ e) ∙ pins-bare s es 128;
  each = λ e pin h. r.each (number-bare s es ∙ e) pin h ∙ figures-bare s es pin;
}
