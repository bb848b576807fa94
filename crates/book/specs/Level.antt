-- The entries that a book holds; a pin's level at a cycle, and its high cycles, by them: of demand 3's record, and of a shift's report.
use Rattle.std.specs.Prelude.{cond, ◌&&◌, List, [], ◌∷◌, ℕ, zero, suc, ◌+◌, eqb, leb, get_or}
use Rattle.book.specs.Book.{Entry, Lent}

-- n entries of a book, from place i on
unfoldable pub entries_from : ℕ → ℕ → Lent → List Entry
entries_from i zero u = []
entries_from i (suc n) u =
    record { pin = get_or u.pins i 0; level = get_or u.levels i 0; cycle = get_or u.cycles i 0; source = get_or u.sources i 0 } ∷ entries_from (suc i) n u

-- "A pin's level at a cycle is that of its last entry at or before it", else the level before the first entry
unfoldable pub level_at : ℕ → List Entry → ℕ → ℕ → ℕ
level_at pin [] level c = level
level_at pin (e ∷ es) level c = level_at pin es (cond (eqb e.pin pin && leb e.cycle c) e.level level) c

-- "H counts cycles at level 1": in W cycles from a on
unfoldable pub highs : (ℕ → ℕ) → ℕ → ℕ → ℕ
highs f a zero = 0
highs f a (suc W) = highs f a W + cond (eqb (f (a + W)) 1) 1 0
