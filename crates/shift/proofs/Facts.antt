-- Theorems about the report. Assumes nothing.
use Rattle.std.proofs.Common.{◌≡◌, ℕ, ◌+◌, ◌-◌, ◌<◌, List, [], ◌∷◌, ◌++◌, length, refl, ◌∙◌, append_assoc, append-nil, arith, ne_eqb}
use Rattle.book.specs.Book.{Entry}
use Rattle.book.specs.Level.{level_at}
use Rattle.shift.specs.declared.Summary.{Summary}
use Rattle.shift.specs.Shift.{Shift, Piece, level_before, level_in, high_in, edges, figures, entries_in, Reports}
use Rattle.shift.specs.Kept.{fed, Ended, Stands}
use Rattle.shift.proofs.Laws.{highs-same, highs-most}
use Rattle.shift.proofs.Standing.{highs-still, stands-fed}
use Rattle.shift.proofs.Ending.{reports}

-- "High plus low is to minus from."
pub high-and-low : (s : Shift) (es : List Entry) (pin : ℕ) → (figures s es pin).high + (figures s es pin).low ≡ s.to - s.from
high-and-low s es pin = omega (arith, highs-most (level_in s es pin) s.from (s.to - s.from))

-- ---- a pin without entries

unfoldable pub Without : ℕ → List Entry → Type 0
Without pin [] = Unit {0}
Without pin (e ∷ es) = (e.pin ≡ pin → ⊥) × Without pin es

still : (pin : ℕ) (es : List Entry) → Without pin es → (l c : ℕ) → level_at pin es l c ≡ l
unfolding level_at Without
still pin [] h l c = refl
still pin (e ∷ es) h l c = rw (ne_eqb e.pin pin h.0) (still pin es h.1 l c)

no_edges : (s : Shift) (pin : ℕ) (es : List Entry) → Without pin es → (l : ℕ) → edges s pin es l ≡ 0
unfolding edges Without
no_edges s pin [] h l = refl
no_edges s pin (e ∷ es) h l = rw (ne_eqb e.pin pin h.0) (no_edges s pin es h.1 l)

-- low all the shift, and no edge, if it was low before
pub idle : (s : Shift) (es : List Entry) (pin : ℕ) → Without pin es → level_before s pin ≡ 0
    → ((figures s es pin).high ≡ 0) × ((figures s es pin).low ≡ s.to - s.from) × ((figures s es pin).edges ≡ 0)
idle s es pin h z =
    let n : high_in s es pin ≡ 0 =
    highs-same (level_in s es pin) (λ (c : ℕ). 0) s.from (s.to - s.from) (λ c lo hi. still pin es h (level_before s pin) c ∙ z) ∙ highs-still 0 s.from (s.to - s.from) in
    (n, omega (arith, n), no_edges s pin es h (level_before s pin))

-- ---- every way to cut a book: what the pieces leave stands for the joined books, and the end reports them

unfoldable pub joined_books : List Piece → List Entry
joined_books [] = []
joined_books (u ∷ us) = entries_in u ++ joined_books us

-- the words after each piece has been fed (`shift_feed`'s first promise, one book after the other)
unfoldable pub fed_books : List ℕ → List Piece → List ℕ
fed_books w [] = w
fed_books w (u ∷ us) = fed_books (fed w (entries_in u)) us

stands-books : (s : Shift) (es : List Entry) (us : List Piece) (w : List ℕ) → Stands s es w → Stands s (es ++ joined_books us) (fed_books w us)
unfolding joined_books fed_books
stands-books s es [] w h = rw append-nil h
stands-books s es (u ∷ us) w h =
    rw append_assoc at (stands-books s (es ++ entries_in u) us (fed w (entries_in u)) (stands-fed s es (entries_in u) w h))

pub pieces : (s : Shift) (us : List Piece) (w : List ℕ) (r : Summary) (f f₁ : List ℕ) → Stands s [] w → length (joined_books us) < 18446744073709551616
    → Ended (fed_books w us) r f f₁ → Reports s (joined_books us) r.number r.high f f₁
pieces s us w r f f₁ h few e = reports s (joined_books us) (fed_books w us) (stands-books s [] us w h) r f f₁ few e
