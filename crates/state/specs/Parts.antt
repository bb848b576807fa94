-- A list cut into parts. Past the list's end stands a filler, so that every part has its full length.
use Rattle.std.specs.Prelude.{List, [], ◌∷◌, ℕ, zero, suc, ◌+◌, get_or, drop, replicate}

-- where part i of parts of the given sizes starts
unfoldable pub start : List ℕ → ℕ → ℕ
start [] i = 0
start (n ∷ ns) zero = 0
start (n ∷ ns) (suc i) = n + start ns i

module _ {A : Type 0} (d : A) where
  -- the first n elements
  unfoldable pub front : ℕ → List A → List A
  front zero l = []
  front (suc n) l = get_or l 0 d ∷ front n (drop 1 l)

  -- parts of the given sizes, one behind the other
  unfoldable pub parts : List ℕ → List A → List (List A)
  parts [] l = []
  parts (n ∷ ns) l = front n l ∷ parts ns (drop n l)

  -- n parts of size k
  unfoldable pub blocks : ℕ → ℕ → List A → List (List A)
  blocks n k l = parts (replicate n k) l

-- f k, f (k + 1), .., n of them
unfoldable pub listed : {A : Type 0} → (ℕ → A) → ℕ → ℕ → List A
listed f k zero = []
listed f k (suc n) = f k ∷ listed f (suc k) n

abbrev pub repeated : {A : Type 0} → ℕ → A → List A
repeated n a = listed (λ k. a) 0 n
