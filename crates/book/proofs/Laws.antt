-- Entries put one after the other. Assumes nothing.
use mathlib.Core.Path.{◌≡◌, refl, ap, sym, ◌∙◌}
use mathlib.Core.List.{List, [], ◌∷◌, ◌++◌, map}
use Prim.Native.Nat.{ℕ, suc, ◌+◌, ◌≤◌}
use native.Mathlib.Nat.{add-zero, zero-add}
use native.Mathlib.Numerals.{add-one}
use native.Mathlib.Omega.{arith}
use lib.ListN.{length, length-map, drop}
use lib.Seq.{sets, sets-eq}
use Rattle.book.specs.Book.{Changes, Entry, Lent, places, Room, Book, book, put, puts, entry_of, entries_of, over, Holds}

pub puts-append : (b : Book) (xs ys : List Entry) → puts b (xs ++ ys) ≡ puts (puts b xs) ys
unfolding puts
puts-append b [] ys = refl
puts-append b (e ∷ xs) ys = puts-append (put b e) xs ys

-- the entries of four channels, one channel after the other
pub puts-four : (b b₁ b₂ b₃ b₄ : Book) (cycle : ℕ) (cs : Changes)
    → b₁ ≡ puts b (entry_of cycle cs.a) → b₂ ≡ puts b₁ (entry_of cycle cs.b) → b₃ ≡ puts b₂ (entry_of cycle cs.c) → b₄ ≡ puts b₃ (entry_of cycle cs.d)
    → b₄ ≡ puts b (entries_of cycle cs)
unfolding entries_of
puts-four b b₁ b₂ b₃ b₄ cycle cs p q r s =
    s ∙ ap (λ (x : Book). puts x (entry_of cycle cs.d)) (r ∙ ap (λ (x : Book). puts x (entry_of cycle cs.c)) (q ∙ ap (λ (x : Book). puts x (entry_of cycle cs.b)) p))
    ∙ sym (puts-append b (entry_of cycle cs.a) _ ∙ puts-append (puts b (entry_of cycle cs.a)) (entry_of cycle cs.b) _ ∙ puts-append (puts (puts b (entry_of cycle cs.a)) (entry_of cycle cs.b)) (entry_of cycle cs.c) (entry_of cycle cs.d))

-- ---- what a call leaves of the slices

puts-count : (b : Book) (es : List Entry) → (puts b es).count ≡ b.count + length es
unfolding puts
puts-count b [] = sym (add-zero b.count)
puts-count b (e ∷ es) = puts-count (put b e) es ∙ omega (arith, length-cons e es)
  where
    length-cons : (x : Entry) (xs : List Entry) → length (x ∷ xs) ≡ suc (length xs)
    length-cons x xs = refl

puts-pins : (b : Book) (es : List Entry) → (puts b es).pins ≡ sets b.pins b.count (map (λ (e : Entry). e.pin) es)
unfolding puts
puts-pins b [] = refl
puts-pins b (e ∷ es) = puts-pins (put b e) es ∙ rw add-one

puts-levels : (b : Book) (es : List Entry) → (puts b es).levels ≡ sets b.levels b.count (map (λ (e : Entry). e.level) es)
unfolding puts
puts-levels b [] = refl
puts-levels b (e ∷ es) = puts-levels (put b e) es ∙ rw add-one

puts-cycles : (b : Book) (es : List Entry) → (puts b es).cycles ≡ sets b.cycles b.count (map (λ (e : Entry). e.cycle) es)
unfolding puts
puts-cycles b [] = refl
puts-cycles b (e ∷ es) = puts-cycles (put b e) es ∙ rw add-one

puts-sources : (b : Book) (es : List Entry) → (puts b es).sources ≡ sets b.sources b.count (map (λ (e : Entry). e.source) es)
unfolding puts
puts-sources b [] = refl
puts-sources b (e ∷ es) = puts-sources (put b e) es ∙ rw add-one

-- a run of stores from place 0 is the values over what was there
laid : (f : Entry → ℕ) (es : List Entry) (p : List ℕ) → length es ≤ length p → sets p 0 (map f es) ≡ over (map f es) p
laid f es p h =
    let n : length (map f es) ≡ length es = length-map es f in
    sets-eq (map f es) p 0 (omega arith) ∙ ap (λ (k : ℕ). map f es ++ drop k p) (zero-add (length (map f es)))

-- entries put from place 0, as many as fit: the slices hold them, and are untouched behind them
pub holds : (es : List Entry) (u u₁ : Lent) (n : ℕ) → book u₁ n ≡ puts (book u 0) es → Room n u → Holds es u u₁ n
holds es u u₁ n h f =
    let q : n ≡ length es = ap (λ (b : Book). b.count) h ∙ puts-count (book u 0) es ∙ zero-add (length es) in
    record {
      count = q;
      pins = ap (λ (b : Book). b.pins) h ∙ puts-pins (book u 0) es ∙ laid (λ (e : Entry). e.pin) es u.pins (omega (arith, f.0));
      levels = ap (λ (b : Book). b.levels) h ∙ puts-levels (book u 0) es ∙ laid (λ (e : Entry). e.level) es u.levels (omega (arith, f.1));
      cycles = ap (λ (b : Book). b.cycles) h ∙ puts-cycles (book u 0) es ∙ laid (λ (e : Entry). e.cycle) es u.cycles (omega (arith, f.2));
      sources = ap (λ (b : Book). b.sources) h ∙ puts-sources (book u 0) es ∙ laid (λ (e : Entry). e.source) es u.sources (omega (arith, f.3));
    }

-- a book of n places: each slice has them, and fewer
pub roomy : (u : Lent) (k n : ℕ) → n ≤ places u → k ≤ n → Room k u
roomy u k n h j = (omega arith, omega arith, omega arith, omega arith)
