-- The lent book (document 01: "three slices (pin, level, cycle) filled from place 0"; document 02, F-5: "The book gains [the source] as a fourth byte
-- slice").
use Rattle.std.specs.Prelude.{◌≡◌, List, [], ◌∷◌, ◌++◌, map, ℕ, ◌+◌, ◌≤◌, min, set, length, drop, Option, Some, None}
use Rattle.pins.specs.Pins.{source_number}
use Rattle.gpio.specs.declared.Edge.{Edge}

-- an entry: a pin's new level, the cycle of the change, and the level's source
pub record Entry : Type 0 where
  pub pin : ℕ
  pub level : ℕ
  pub cycle : ℕ
  pub source : ℕ

-- what the slices of a book hold
pub record Lent : Type 0 where
  pub pins : List ℕ
  pub levels : List ℕ
  pub cycles : List ℕ
  pub sources : List ℕ

abbrev pub slices : List ℕ → List ℕ → List ℕ → List ℕ → Lent
slices p l c s = record { pins = p; levels = l; cycles = c; sources = s }

-- "its length is the shortest of four"
abbrev pub places : Lent → ℕ
places u = min (length u.pins) (min (length u.levels) (min (length u.cycles) (length u.sources)))

-- each slice has n places
abbrev pub Room : ℕ → Lent → Type 0
Room n u = (n ≤ length u.pins) × (n ≤ length u.levels) × (n ≤ length u.cycles) × (n ≤ length u.sources)

-- the slices, and how many places are filled
pub record Book : Type 0 where
  pub pins : List ℕ
  pub levels : List ℕ
  pub cycles : List ℕ
  pub sources : List ℕ
  pub count : ℕ

abbrev pub book : Lent → ℕ → Book
book u n = record { pins = u.pins; levels = u.levels; cycles = u.cycles; sources = u.sources; count = n }

-- one entry at the next place
abbrev pub put : Book → Entry → Book
put b e = record {
  pins = set b.pins b.count e.pin;
  levels = set b.levels b.count e.level;
  cycles = set b.cycles b.count e.cycle;
  sources = set b.sources b.count e.source;
  count = b.count + 1;
}

unfoldable pub puts : Book → List Entry → Book
puts b [] = b
puts b (e ∷ es) = puts (put b e) es

-- "An entry is made exactly when a pin's level changes."
unfoldable pub entry_of : ℕ → Option Edge → List Entry
entry_of cycle None = []
entry_of cycle (Some e) = record { pin = e.pin; level = e.level; cycle = cycle; source = source_number e.source } ∷ []

-- the level changes of a timer's four channels
pub record Changes : Type 0 where
  pub a : Option Edge
  pub b : Option Edge
  pub c : Option Edge
  pub d : Option Edge

-- their entries, in order
unfoldable pub entries_of : ℕ → Changes → List Entry
entries_of cycle c = entry_of cycle c.a ++ (entry_of cycle c.b ++ (entry_of cycle c.c ++ entry_of cycle c.d))

-- what a call leaves of a lent slice: values from place 0, "later places are untouched"
abbrev pub over : List ℕ → List ℕ → List ℕ
over xs old = xs ++ drop (length xs) old

-- what a call leaves of the lent book: entries from place 0, n of them
pub record Holds (es : List Entry) (u u₁ : Lent) (n : ℕ) : Type 0 where
  pub count : n ≡ length es
  pub pins : u₁.pins ≡ over (map (λ (e : Entry). e.pin) es) u.pins
  pub levels : u₁.levels ≡ over (map (λ (e : Entry). e.level) es) u.levels
  pub cycles : u₁.cycles ≡ over (map (λ (e : Entry). e.cycle) es) u.cycles
  pub sources : u₁.sources ≡ over (map (λ (e : Entry). e.source) es) u.sources
