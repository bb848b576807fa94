-- Booked events: "a map from owner to cycle with its least cycle". Owners are 0 to 7, and the map is the list of their cycles.
-- "Entry order is free": the map has no order of entries.
use Rattle.std.specs.Prelude.{List, [], ◌∷◌, ℕ, min, get_or, set, replicate}
use Rattle.scheduler.specs.declared.Scheduler.{Scheduler}

-- the struct that holds a map
abbrev pub holding : List ℕ → Scheduler
holding m = record { cycles = m }

-- the cycle of an owner without a booking: 2^64 − 1, which a query gives for none
abbrev pub never : ℕ
never = 18446744073709551615

-- no owner has a booking
abbrev pub empty : List ℕ
empty = replicate 8 never

-- "its least cycle, 2^64 − 1 if empty"
unfoldable pub least : List ℕ → ℕ
least [] = never
least (c ∷ m) = min c (least m)

-- the cycle that owner is booked at, 2^64 − 1 if none
abbrev pub cycle_of : List ℕ → ℕ → ℕ
cycle_of m owner = get_or m owner never

-- owner booked at cycle, in place of its earlier booking
abbrev pub rebook : List ℕ → ℕ → ℕ → List ℕ
rebook m owner cycle = set m owner cycle

-- owner's booking cancelled
abbrev pub cancel : List ℕ → ℕ → List ℕ
cancel m owner = set m owner never
