-- What is kept between the pieces of a report, in 515 lent words: four for each of 128 pins, then from, to and the number.
use Rattle.std.specs.Prelude.{◌≡◌, ℕ, zero, suc, ◌+◌, ◌-◌, ◌*◌, ◌%◌, ◌<◌, ◌≤◌, max, Bool, cond, ◌||◌, List, [], ◌∷◌, length, ◌==◌, ◌≢◌, nat_le, nat_lt, slice_index, slice_set}
use Rattle.book.specs.Book.{Entry}
use Rattle.shift.specs.declared.Track.{Track}
use Rattle.shift.specs.declared.Summary.{Summary}
use Rattle.shift.specs.Shift.{Shift, level_bit, level_before, level_in, high_in, edges, last_cycle, cycle_before, number_of, Figures, figures_at}

-- ---- a pin's track: the cycle of its last entry, its level at the end of the shift and its high cycles if no entry follows, its edges

abbrev pub track : ℕ → ℕ → ℕ → ℕ → Track
track last level high edges = record { last = last; level = level; high = high; edges = edges }

-- an entry is before to, or at or before from: it counts for the levels
abbrev pub counts : ℕ → ℕ → ℕ → Bool
counts from to c = nat_lt c to || nat_le c from

-- from an entry on, the cycles of the shift
abbrev pub rest : ℕ → ℕ → ℕ → ℕ
rest from to c = to - max c from

-- the rest of the shift is high, or is not; words count to 2^64 - 1
abbrev pub turned_high : ℕ → ℕ → ℕ → ℕ
turned_high high rest l = cond (l == 1) ((high + rest) % 18446744073709551616) (high - rest)

-- an entry at from is no edge
abbrev pub more_edges : ℕ → ℕ → ℕ → ℕ
more_edges edges from c = cond (nat_lt from c) ((edges + 1) % 18446744073709551616) edges

-- an entry that changes the level, and any other
abbrev pub turned_track : ℕ → ℕ → Track → ℕ → ℕ → Track
turned_track from to t l c = track c l (turned_high t.high (rest from to c) l) (more_edges t.edges from c)

abbrev pub passed_track : Track → ℕ → Track
passed_track t c = track c t.level t.high t.edges

unfoldable pub took : ℕ → ℕ → Track → ℕ → ℕ → Track
took from to t l c = cond (l == t.level) (passed_track t c) (cond (counts from to c) (turned_track from to t l c) (passed_track t c))

-- ---- the words

abbrev pub track_at : List ℕ → ℕ → Track
track_at w pin = track (slice_index w (4 * pin)) (slice_index w (4 * pin + 1)) (slice_index w (4 * pin + 2)) (slice_index w (4 * pin + 3))

unfoldable pub put_track : List ℕ → ℕ → Track → List ℕ
put_track w pin t = slice_set (slice_set (slice_set (slice_set w (4 * pin) t.last) (4 * pin + 1) t.level) (4 * pin + 2) t.high) (4 * pin + 3) t.edges

-- a pin before its first entry
abbrev pub fresh_track : ℕ → ℕ → ℕ → Track
fresh_track from to l = track 0 l (cond (l == 1) (to - from) 0) 0

-- the first n pins of a shift that begins
pub record Fresh (words : List ℕ) (from to n : ℕ) (w : List ℕ) : Type 0 where
  pub long : length w ≡ 515
  pub each : (pin : ℕ) → pin < n → track_at w pin ≡ fresh_track from to (level_bit words pin)

abbrev pub from_of : List ℕ → ℕ
from_of w = slice_index w 512

abbrev pub to_of : List ℕ → ℕ
to_of w = slice_index w 513

abbrev pub number_kept : List ℕ → ℕ
number_kept w = slice_index w 514

-- ---- any words, fed any entries

abbrev pub strays : List ℕ → Entry → Bool
strays w e = nat_lt 127 e.pin || (nat_lt 1 e.level || nat_lt e.cycle (track_at w e.pin).last)

-- one entry: nothing once there is a number
unfoldable pub entered : List ℕ → Entry → List ℕ
entered w e =
    cond (number_kept w == 0)
    (cond (strays w e) (slice_set w 514 10) (put_track w e.pin (took (from_of w) (to_of w) (track_at w e.pin) e.level e.cycle))) w

unfoldable pub fed : List ℕ → List Entry → List ℕ
fed w [] = w
fed w (e ∷ es) = fed (entered w e) es

-- ---- any words, ended

abbrev pub figures_of : List ℕ → Track → Figures
figures_of w t = record { high = t.high; low = to_of w - from_of w - t.high; edges = t.edges }

unfoldable pub put_figures : List ℕ → ℕ → Figures → List ℕ
put_figures f pin x = slice_set (slice_set (slice_set f (3 * pin) x.high) (3 * pin + 1) x.low) (3 * pin + 2) x.edges

-- the figures of the first n pins
abbrev pub Written : List ℕ → ℕ → List ℕ → Type 0
Written w n f = (length f ≡ 384) × ((pin : ℕ) → pin < n → figures_at f pin ≡ figures_of w (track_at w pin))

-- of n pins, those whose level is 1
unfoldable pub high_tracks : List ℕ → ℕ → ℕ
high_tracks w zero = 0
high_tracks w (suc n) = high_tracks w n + cond (slice_index w (4 * n + 1) == 1) 1 0

unfoldable pub number_given : ℕ → ℕ
number_given n = cond (n == 0) 0 (cond (n == 9) 9 10)

pub record Ended (w : List ℕ) (r : Summary) (lent left : List ℕ) : Type 0 where
  pub answered : r.number ≡ number_given (number_kept w)
  pub refused : (number_kept w ≢ 0) → (r.high ≡ 0) × (left ≡ lent)
  pub pins : number_kept w ≡ 0 → r.high ≡ high_tracks w 128
  pub each : number_kept w ≡ 0 → (pin : ℕ) → pin < 128 → figures_at left pin ≡ figures_of w (track_at w pin)

-- ---- the words stand for a shift and the entries so far

-- the level of the pin's last entry
unfoldable pub latest : ℕ → List Entry → ℕ → ℕ
latest pin [] l = l
latest pin (e ∷ es) l = latest pin es (cond (e.pin == pin) e.level l)

pub record Told (s : Shift) (es : List Entry) (pin : ℕ) (t : Track) : Type 0 where
  pub last : t.last ≡ cycle_before pin es 0
  pub level : t.level ≡ level_in s es pin (last_cycle s)
  pub high : t.high ≡ high_in s es pin
  -- a word counts to 2^64 - 1
  pub edges : t.edges ≡ edges s pin es (level_before s pin) % 18446744073709551616
  -- from the pin's last entry on, its level stays
  pub stays : (c : ℕ) → cycle_before pin es 0 ≤ c → level_in s es pin c ≡ latest pin es (level_before s pin)
  pub small : (c : ℕ) → level_in s es pin c ≤ 1

pub record Stands (s : Shift) (es : List Entry) (w : List ℕ) : Type 0 where
  pub long : length w ≡ 515
  pub fits : s.to < 18446744073709551616
  pub from : from_of w ≡ s.from
  pub to : to_of w ≡ s.to
  pub number : number_kept w ≡ number_of s es
  pub tracks : number_of s es ≡ 0 → (pin : ℕ) → pin < 128 → Told s es pin (track_at w pin)
