-- What the bytes of a line are: "A line ends with a line feed, a carriage return before it belongs to its end", a `#` begins a comment.
use Rattle.std.specs.Prelude.{Bool, false, not, cond, ℕ, eqb}
use Rattle.text.specs.declared.Piece.{Piece}
use Rattle.text.specs.declared.Piece.TheVariants.{Nothing, Letter, WordEnd, LineEnd}
use Rattle.text.specs.declared.Place.{Place}
use Rattle.text.specs.declared.Place.TheVariants.{Words, CarriageReturn, Comment}
use Rattle.text.specs.Words.{is_space}

-- a carriage return is a letter unless the line ends behind it
abbrev pub is_returned : Place → ℕ → Bool
is_returned Words b = false
is_returned CarriageReturn b = not (eqb b 10)
is_returned Comment b = false

-- a byte outside a comment, and where the next one is
unfoldable pub piece_of : ℕ → Piece
piece_of b = cond (eqb b 10) LineEnd (cond (eqb b 13) Nothing (cond (eqb b 35) WordEnd (cond (is_space b) WordEnd Letter)))

unfoldable pub place_of : ℕ → Place
place_of b = cond (eqb b 13) CarriageReturn (cond (eqb b 35) Comment Words)

-- in a comment every byte is nothing, up to the line's end
abbrev pub next_piece : Place → ℕ → Piece
next_piece Words b = piece_of b
next_piece CarriageReturn b = piece_of b
next_piece Comment b = cond (eqb b 10) LineEnd Nothing

abbrev pub next_place : Place → ℕ → Place
next_place Words b = place_of b
next_place CarriageReturn b = place_of b
next_place Comment b = cond (eqb b 10) Words Comment
