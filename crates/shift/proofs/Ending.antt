-- What the end of a shift writes is its report. Assumes nothing.
use Rattle.std.proofs.Common.{◌≡◌, ℕ, zero, suc, ◌+◌, ◌-◌, ◌*◌, ◌%◌, ◌^◌, ◌<◌, ◌≤◌, Bool, true, false, cond, eqb, ltb, ◌⊎◌, List, [], ◌∷◌, ◌++◌, length, get_or, set, sym, refl, ap, ◌∙◌, subst, inl, inr, mod-eq_of_lt, pow-suc, add-one, arith, length-set, get_or-set_other, get_or-set_same, eqb-true}
use lib.Count.{ones, ones_in, ones_cat}
use borrow.Author.Tests.{eqb-false}
use Rattle.book.specs.Book.{Entry}
use Rattle.shift.specs.declared.Track.{Track}
use Rattle.shift.specs.declared.Summary.{Summary}
use Rattle.shift.specs.Shift.{Shift, Piece, length_of, sourceless, level_bit, level_before, is_edge, edges, high_pins, out_of_order, number_of, unsourced_from, entries_in, Figures, figures, figures_at, Reports}
use Rattle.shift.specs.Kept.{track_at, fresh_track, Fresh, put_track, number_kept, entered, fed, figures_of, put_figures, Written, high_tracks, number_given, Ended, Told, Stands}
use Rattle.shift.proofs.Standing.{put-length, put_same, put-apart, by_tests, stands-fed}

-- ---- edges fit a word

pub edges_most : (s : Shift) (q : ℕ) (es : List Entry) (l : ℕ) → edges s q es l ≤ length es
unfolding edges
edges_most s q [] l = omega arith
edges_most s q (e ∷ es) l = go (eqb e.pin q) (is_edge s l e) (edges_most s q es e.level) (edges_most s q es l)
  where
    go : (a b : Bool) → edges s q es e.level ≤ length es → edges s q es l ≤ length es → cond a (cond b 1 0 + edges s q es e.level) (edges s q es l) ≤ suc (length es)
    go true true h k = omega arith
    go true false h k = omega arith
    go false b h k = omega arith

-- ---- from the words to the report

number-kept : (s : Shift) (es : List Entry) → number_given (number_of s es) ≡ number_of s es
unfolding number_given number_of
number-kept s es = go (ltb s.to s.from) (out_of_order [] es)
  where
    go : (a b : Bool) → number_given (by_tests a b) ≡ by_tests a b
    go true b = refl
    go false true = refl
    go false false = refl

module _ (s : Shift) (es : List Entry) (w : List ℕ) (h : Stands s es w) where
  high-told : number_of s es ≡ 0 → (n : ℕ) → n ≤ 128 → high_tracks w n ≡ high_pins s es n
  unfolding high_tracks high_pins
  high-told z zero lt = refl
  high-told z (suc n) lt = rw (high-told z n (omega arith), (h.tracks z n (omega arith)).level)

  pub reports : (r : Summary) (f f₁ : List ℕ) → length es < 18446744073709551616 → Ended w r f f₁ → Reports s es r.number r.high f f₁
  reports r f f₁ few e = record {
    answered = e.answered ∙ ap number_given h.number ∙ number-kept s es;
    refused = λ n. e.refused (λ z. n (sym h.number ∙ z));
    pins = λ z. e.pins (h.number ∙ z) ∙ high-told z 128 (omega arith);
    each = λ z pin lt. e.each (h.number ∙ z) pin lt ∙ told z pin (h.tracks z pin lt);
  }
    where
      told : number_of s es ≡ 0 → (pin : ℕ) → Told s es pin (track_at w pin) → figures_of w (track_at w pin) ≡ figures s es pin
      told z pin t =
          let m : edges s pin es (level_before s pin) % 18446744073709551616 ≡ edges s pin es (level_before s pin) =
          mod-eq_of_lt (omega (arith, edges_most s pin es (level_before s pin))) in
          rw (h.from, h.to, t.high, t.edges ∙ m)

-- ---- the loops

-- begin: one pin more
pub fresh-more : (words : List ℕ) (from to n : ℕ) (w w₁ : List ℕ) (t : Track) → n < 128 → Fresh words from to n w → t ≡ fresh_track from to (level_bit words n)
    → w₁ ≡ put_track w n t → Fresh words from to (n + 1) w₁
fresh-more words from to n w w₁ t lt f e k =
    record { long = ap length k ∙ put-length w n t ∙ f.long; each = λ pin h. rw k (go pin (eqb n pin) refl h) }
  where
    go : (pin : ℕ) (b : Bool) → eqb n pin ≡ b → pin < n + 1 → track_at (put_track w n t) pin ≡ fresh_track from to (level_bit words pin)
    go pin true x h =
        subst (λ (p : ℕ). track_at (put_track w n t) p ≡ fresh_track from to (level_bit words p)) (eqb-true n pin x)
        (put_same w n t (omega (arith, f.long)) ∙ e)
    go pin false x h =
        let d = eqb-false n pin x in
        put-apart w n t pin d ∙ f.each pin (omega (arith, d))

-- feed: what is left to feed leads to the same words
pub entries-first : (i n : ℕ) (u : Piece) → i < n
    → unsourced_from i (n - i) u ≡ sourceless (get_or u.pins i 0) (get_or u.levels i 0) (get_or u.cycles i 0) ∷ unsourced_from (i + 1) (n - (i + 1)) u
unfolding unsourced_from
entries-first i n u lt =
    let k : n - i ≡ suc (n - (i + 1)) = omega arith in
    ap (λ (m : ℕ). unsourced_from i m u) k ∙ rw (sym (add-one i))

pub fed-more : (w w₀ w₁ : List ℕ) (i n : ℕ) (u : Piece) → i < n → fed w (unsourced_from i (n - i) u) ≡ fed w₀ (unsourced_from 0 n u)
    → w₁ ≡ entered w (sourceless (get_or u.pins i 0) (get_or u.levels i 0) (get_or u.cycles i 0))
    → fed w₁ (unsourced_from (i + 1) (n - (i + 1)) u) ≡ fed w₀ (unsourced_from 0 n u)
unfolding fed
fed-more w w₀ w₁ i n u lt h k =
    ap (λ (x : List ℕ). fed x (unsourced_from (i + 1) (n - (i + 1)) u)) k ∙ sym (ap (λ (l : List Entry). fed w l) (entries-first i n u lt)) ∙ h

pub fed-done : (w w₀ : List ℕ) (i n : ℕ) (u : Piece) → n ≤ i → fed w (unsourced_from i (n - i) u) ≡ fed w₀ (unsourced_from 0 n u) → w ≡ fed w₀ (unsourced_from 0 n u)
unfolding fed unsourced_from
fed-done w w₀ i n u le h =
    let k : n - i ≡ 0 = omega arith in
    sym (ap (λ (m : ℕ). fed w (unsourced_from i m u)) k) ∙ h

-- what `shift_feed` promises
pub fed-both : (w w₀ : List ℕ) (i n : ℕ) (u : Piece) → n ≤ i → fed w (unsourced_from i (n - i) u) ≡ fed w₀ (unsourced_from 0 n u) → n ≡ length_of u
    → (w ≡ fed w₀ (entries_in u)) × ((s : Shift) (es : List Entry) → Stands s es w₀ → Stands s (es ++ entries_in u) w)
fed-both w w₀ i n u le h e =
    let k : w ≡ fed w₀ (entries_in u) = fed-done w w₀ i n u le h ∙ ap (λ (m : ℕ). fed w₀ (unsourced_from 0 m u)) e in
    (k, λ s es st. subst (λ (x : List ℕ). Stands s (es ++ entries_in u) x) (sym k) (stands-fed s es (entries_in u) w₀ st))

pub entries-length : (i n : ℕ) (u : Piece) → length (unsourced_from i n u) ≡ n
unfolding unsourced_from
entries-length i zero u = refl
entries-length i (suc n) u = ap suc (entries-length (suc i) n u)

-- end: one pin's figures more
module _ (f : List ℕ) (p : ℕ) (x : Figures) where
  abbrev f₁ : List ℕ
  f₁ = set f (3 * p) x.high

  abbrev f₂ : List ℕ
  f₂ = set f₁ (3 * p + 1) x.low

  figures-length : length (put_figures f p x) ≡ length f
  unfolding put_figures
  figures-length = simp length-set

  figures-other : (k : ℕ) → (k < 3 * p) ⊎ (3 * p + 2 < k) → get_or (put_figures f p x) k 0 ≡ get_or f k 0
  unfolding put_figures
  figures-other k h =
      get_or-set_other f₂ (3 * p + 2) k x.edges 0 (λ y. no h 2 (omega arith) y) ∙ get_or-set_other f₁ (3 * p + 1) k x.low 0 (λ y. no h 1 (omega arith) y)
      ∙ get_or-set_other f (3 * p) k x.high 0 (λ y. no h 0 (omega arith) (omega arith))
    where
      no : (k < 3 * p) ⊎ (3 * p + 2 < k) → (i : ℕ) → i ≤ 2 → k ≡ 3 * p + i → ⊥
      no (inl a) i j y = omega arith
      no (inr a) i j y = omega arith

  module _ (room : 3 * p + 2 < length f) where
    figures-high : get_or (put_figures f p x) (3 * p) 0 ≡ x.high
    unfolding put_figures
    figures-high =
        get_or-set_other f₂ (3 * p + 2) (3 * p) x.edges 0 (λ y. omega arith) ∙ get_or-set_other f₁ (3 * p + 1) (3 * p) x.low 0 (λ y. omega arith)
        ∙ get_or-set_same f (3 * p) x.high 0 (omega arith)

    figures-low : get_or (put_figures f p x) (3 * p + 1) 0 ≡ x.low
    unfolding put_figures
    figures-low = get_or-set_other f₂ (3 * p + 2) (3 * p + 1) x.edges 0 (λ y. omega arith) ∙ get_or-set_same f₁ (3 * p + 1) x.low 0 (simp length-set (omega arith))

    figures-edges : get_or (put_figures f p x) (3 * p + 2) 0 ≡ x.edges
    unfolding put_figures
    figures-edges = get_or-set_same f₂ (3 * p + 2) x.edges 0 (simp length-set (omega arith))

    figures-same : figures_at (put_figures f p x) p ≡ x
    figures-same = rw (figures-high, figures-low, figures-edges)

  figures-apart : (q : ℕ) → q < p → figures_at (put_figures f p x) q ≡ figures_at f q
  figures-apart q h = rw (figures-other (3 * q) (inl (omega arith)), figures-other (3 * q + 1) (inl (omega arith)), figures-other (3 * q + 2) (inl (omega arith)))

pub written-more : (w f f₁ : List ℕ) (n : ℕ) (x : Figures) → n < 128 → Written w n f → x ≡ figures_of w (track_at w n) → f₁ ≡ put_figures f n x → Written w (n + 1) f₁
written-more w f f₁ n x lt h e k =
    (ap length k ∙ figures-length f n x ∙ h.0, λ pin q. rw k (go pin (eqb n pin) refl q))
  where
    go : (pin : ℕ) (b : Bool) → eqb n pin ≡ b → pin < n + 1 → figures_at (put_figures f n x) pin ≡ figures_of w (track_at w pin)
    go pin true y q =
        subst (λ (p : ℕ). figures_at (put_figures f n x) p ≡ figures_of w (track_at w p)) (eqb-true n pin y) (figures-same f n x (omega (arith, h.0)) ∙ e)
    go pin false y q =
        let d = eqb-false n pin y in
        figures-apart f n x pin (omega (arith, d)) ∙ h.1 pin (omega (arith, d))

-- the levels of pins as bits of a word
pub word_more : (v j b : ℕ) → v < 2 ^ j → b ≤ 1 → v * 2 + b < 2 ^ (j + 1)
word_more v j b h k = rw (add-one j, pow-suc 2 j) (omega arith)

ones_bit : (b : ℕ) → b ≤ 1 → ones b ≡ b
unfolding ones ones_in
ones_bit zero h = refl
ones_bit (suc zero) h = refl
ones_bit (suc (suc b)) h = absurd (omega arith)

pub bits-more : (w : List ℕ) (first j v b : ℕ) → ones v + high_tracks w first ≡ high_tracks w (first + j) → b ≡ cond (eqb (get_or w (4 * (first + j) + 1) 0) 1) 1 0 → b ≤ 1
    → ones (v * 2 + b) + high_tracks w first ≡ high_tracks w (first + (j + 1))
unfolding high_tracks
bits-more w first j v b h e k =
    let o : ones (v * 2 + b) ≡ ones v + b = ones_cat 1 v b (omega arith) ∙ ap (λ (x : ℕ). ones v + x) (ones_bit b k) in
    let n : first + (j + 1) ≡ suc (first + j) = omega arith in
    let t : high_tracks w (suc (first + j)) ≡ high_tracks w (first + j) + cond (eqb (get_or w (4 * (first + j) + 1) 0) 1) 1 0 = refl in
    omega (arith, o, h, e, t, ap (λ (x : ℕ). high_tracks w x) n)

pub one_bit : (b : Bool) (r : ℕ) → r ≡ cond b 1 0 → r ≤ 1
one_bit true r h = omega arith
one_bit false r h = omega arith

-- ---- the number

pub number-given : (n : ℕ) → number_given n ≡ 0 → n ≡ 0
unfolding number_given
number-given n = go (eqb n 0) refl (eqb n 9)
  where
    go : (a : Bool) → eqb n 0 ≡ a → (b : Bool) → ◌≡◌ {A = ℕ} (cond a 0 (cond b 9 10)) 0 → n ≡ 0
    go true x b h = eqb-true n 0 x
    go false x true h = omega arith
    go false x false h = omega arith

pub given-number : (n : ℕ) → n ≡ 0 → number_given n ≡ 0
unfolding number_given
given-number n h = rw h

pub high-none : (w : List ℕ) → high_tracks w 0 ≡ 0
unfolding high_tracks
high-none w = refl

-- what `shift_end` promises
module _ (w : List ℕ) (n : ℕ) (f : List ℕ) (e : n ≡ number_given (number_kept w)) where
  pub ended-refused : (n ≡ 0 → ⊥) → Ended w (record { number = n; high = 0 }) f f
  ended-refused ne = record {
    answered = e;
    refused = λ z. (refl, refl);
    pins = λ z. absurd (ne (e ∙ given-number (number_kept w) z));
    each = λ z. absurd (ne (e ∙ given-number (number_kept w) z));
  }

  pub ended-served : (h : ℕ) (f₁ : List ℕ) → n ≡ 0 → Written w 128 f₁ → h ≡ high_tracks w 128 → Ended w (record { number = 0; high = h }) f f₁
  ended-served h f₁ z k j = record {
    answered = sym z ∙ e;
    refused = λ ne. absurd (ne (number-given (number_kept w) (sym e ∙ z)));
    pins = λ x. j;
    each = λ x. k.1;
  }

pub ended-both : (w : List ℕ) (r : Summary) (f f₁ : List ℕ) → Ended w r f f₁
    → Ended w r f f₁ × ((s : Shift) (es : List Entry) → Stands s es w → length es < 18446744073709551616 → Reports s es r.number r.high f f₁)
ended-both w r f f₁ e = (e, λ s es st few. reports s es w st r f f₁ few e)
