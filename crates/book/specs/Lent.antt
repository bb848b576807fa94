-- The lent book as the code holds it: what its slices hold, and that a call leaves the same slices in it.
use Rattle.std.specs.Prelude.{◌≡◌, length}
use Rattle.book.specs.declared.LentBook.{LentBook}
use Rattle.book.specs.Book.{Lent, slices, Book, book}

abbrev pub slices_of : LentBook → Lent
slices_of b = slices b.pins.now b.levels.now b.cycles.now b.sources.now

-- the slices, with as many places filled as it counts
abbrev pub filled : LentBook → Book
filled b = book (slices_of b) b.count

-- the same slices are lent, as long as before
pub record SameSlices (b b₁ : LentBook) : Type 0 where
  pub pins : b₁.pins.ghost_name ≡ b.pins.ghost_name
  pub levels : b₁.levels.ghost_name ≡ b.levels.ghost_name
  pub cycles : b₁.cycles.ghost_name ≡ b.cycles.ghost_name
  pub sources : b₁.sources.ghost_name ≡ b.sources.ghost_name
  pub pins_length : length b₁.pins.now ≡ length b.pins.now
  pub levels_length : length b₁.levels.now ≡ length b.levels.now
  pub cycles_length : length b₁.cycles.now ≡ length b.cycles.now
  pub sources_length : length b₁.sources.now ≡ length b.sources.now
