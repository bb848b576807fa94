-- The duty report for a shift (document 02, F-1), sentence by sentence. Level and high cycles are demand 3's (crates/book/specs/Level.antt).
use Rattle.std.specs.Prelude.{◌≡◌, ℕ, zero, suc, ◌+◌, ◌-◌, ◌*◌, ◌/◌, ◌%◌, ◌^◌, ◌<◌, min, Bool, false, cond, not, ◌&&◌, ◌||◌, List, [], ◌∷◌, ◌++◌, length, ◌==◌, ◌≢◌, nat_lt, slice_index}
use Rattle.book.specs.Book.{Entry}
use Rattle.book.specs.Level.{level_at, highs}

-- "every pin's level before the first entry (four 32-bit words ..) and cycles from and to"
pub record Shift : Type 0 where
  pub words : List ℕ
  pub from : ℕ
  pub to : ℕ

abbrev pub shift : List ℕ → ℕ → ℕ → Shift
shift words from to = record { words = words; from = from; to = to }

-- "pin i at bit i mod 32 of word i div 32"
unfoldable pub level_bit : List ℕ → ℕ → ℕ
level_bit words pin = slice_index words (pin / 32) / 2 ^ (pin % 32) % 2

abbrev pub level_before : Shift → ℕ → ℕ
level_before s pin = level_bit s.words pin

-- ---- "Given the joined book": its entries, as many as its shortest slice has places. "The shift report takes no sources" (F-5): it is given three of
-- the four slices, and an entry's source stands as 0. proofs/Sources.antt: no source makes another report.

pub record Piece : Type 0 where
  pub pins : List ℕ
  pub levels : List ℕ
  pub cycles : List ℕ

abbrev pub piece : List ℕ → List ℕ → List ℕ → Piece
piece p l c = record { pins = p; levels = l; cycles = c }

abbrev pub length_of : Piece → ℕ
length_of u = min (length u.pins) (min (length u.levels) (length u.cycles))

abbrev pub sourceless : ℕ → ℕ → ℕ → Entry
sourceless pin level cycle = record { pin = pin; level = level; cycle = cycle; source = 0 }

-- an entry of a book as the report is given it
abbrev pub unsourced : Entry → Entry
unsourced e = sourceless e.pin e.level e.cycle

-- n entries from place i on
unfoldable pub unsourced_from : ℕ → ℕ → Piece → List Entry
unsourced_from i zero u = []
unsourced_from i (suc n) u = sourceless (slice_index u.pins i) (slice_index u.levels i) (slice_index u.cycles i) ∷ unsourced_from (suc i) n u

abbrev pub entries_in : Piece → List Entry
entries_in u = unsourced_from 0 (length_of u) u

-- ---- "for each of the 128 pins its high cycles, low cycles and edges, cycle to excluded"

pub record Figures : Type 0 where
  pub high : ℕ
  pub low : ℕ
  pub edges : ℕ

abbrev pub level_in : Shift → List Entry → ℕ → ℕ → ℕ
level_in s es pin = level_at pin es (level_before s pin)

abbrev pub high_in : Shift → List Entry → ℕ → ℕ
high_in s es pin = highs (level_in s es pin) s.from (s.to - s.from)

-- "Entries at from count towards the level but not as edges. An entry that repeats its pin's level is no edge."
abbrev pub is_edge : Shift → ℕ → Entry → Bool
is_edge s level e = nat_lt s.from e.cycle && (nat_lt e.cycle s.to && not (e.level == level))

-- the pin's edges, from a level on
unfoldable pub edges : Shift → ℕ → List Entry → ℕ → ℕ
edges s pin [] level = 0
edges s pin (e ∷ es) level = cond (e.pin == pin) (cond (is_edge s level e) 1 0 + edges s pin es e.level) (edges s pin es level)

-- "High plus low is to minus from."
abbrev pub figures : Shift → List Entry → ℕ → Figures
figures s es pin = record {
  high = high_in s es pin;
  low = s.to - s.from - high_in s es pin;
  edges = edges s pin es (level_before s pin);
}

-- ---- "how many pins are high at the end of the shift"

-- "the levels just before cycle to, or at from if the shift is empty"
unfoldable pub last_cycle : Shift → ℕ
last_cycle s = cond (nat_lt s.from s.to) (s.to - 1) s.from

-- of n pins
unfoldable pub high_pins : Shift → List Entry → ℕ → ℕ
high_pins s es zero = 0
high_pins s es (suc n) = high_pins s es n + cond (level_in s es n (last_cycle s) == 1) 1 0

-- ---- "Checks"

-- the cycle of the pin's last entry; 0, below which no cycle is, where it has none
unfoldable pub cycle_before : ℕ → List Entry → ℕ → ℕ
cycle_before pin [] c = c
cycle_before pin (e ∷ es) c = cycle_before pin es (cond (e.pin == pin) e.cycle c)

-- "an entry's cycle is below that of its pin's entry before it, or its pin is above 127 or its level above 1"
abbrev pub misplaced : List Entry → Entry → Bool
misplaced before e = nat_lt 127 e.pin || (nat_lt 1 e.level || nat_lt e.cycle (cycle_before e.pin before 0))

unfoldable pub out_of_order : List Entry → List Entry → Bool
out_of_order before [] = false
out_of_order before (e ∷ es) = misplaced before e || out_of_order (before ++ (e ∷ [])) es

-- "9 'shift reversed' when to is below from, then 10 'book out of order'", "the only refusals here"
unfoldable pub number_of : Shift → List Entry → ℕ
number_of s es = cond (nat_lt s.to s.from) 9 (cond (out_of_order [] es) 10 0)

-- ---- the report: a number, the pins that are high at the end, and three places of figures for each pin

abbrev pub figures_at : List ℕ → ℕ → Figures
figures_at f pin = record { high = slice_index f (3 * pin); low = slice_index f (3 * pin + 1); edges = slice_index f (3 * pin + 2) }

-- what is answered, and what the places that were lent for figures hold then
pub record Reports (s : Shift) (es : List Entry) (number high : ℕ) (lent left : List ℕ) : Type 0 where
  pub answered : number ≡ number_of s es
  -- "with nothing reported"
  pub refused : (number_of s es ≢ 0) → (high ≡ 0) × (left ≡ lent)
  pub pins : number_of s es ≡ 0 → high ≡ high_pins s es 128
  pub each : number_of s es ≡ 0 → (pin : ℕ) → pin < 128 → figures_at left pin ≡ figures s es pin
