-- What a store in a list does to its parts. Assumes nothing.
use mathlib.Core.Path.{◌≡◌, refl, sym, ap, ◌∙◌}
use mathlib.Core.List.{List, [], ◌∷◌, map, append-nil}
use Prim.Native.Nat.{ℕ, zero, suc, ◌+◌, ◌*◌, ◌<◌, ◌≤◌}
use native.Mathlib.Nat.{zero-add, add-zero, suc-add, add_assoc, zero-mul, mul-le-mul_right}
use native.Mathlib.Omega.{arith}
use lib.ListN.{length, get_or, set, take, drop, replicate, length-drop, length-set, length-replicate, get_or-replicate, drop_of_length-le}
use lib.Seq.{drop-set-lt, drop-set-add, get_or-drop, drop-drop, get_or-set_same, set-get_or, set-set, ext_get_or, paste, paste-zero, paste-suc, length-paste, take_all}
use Rattle.state.specs.Parts.{start, front, parts, blocks, listed, repeated}

-- ---- sizes

sized-in : (ns : List ℕ) (i k : ℕ) → k < get_or ns i 0 → i < length ns
sized-in [] i k h = absurd (omega arith)
sized-in (n ∷ ns) zero k h = omega arith
sized-in (n ∷ ns) (suc i) k h = let g : i < length ns = sized-in ns i k h in omega arith

start-even : (n k i : ℕ) → i < n → start (replicate n k) i ≡ i * k
unfolding start
start-even zero k i h = absurd (omega arith)
start-even (suc n) k zero h = sym (zero-mul k)
start-even (suc n) k (suc i) h = omega (arith, start-even n k i (omega arith))

-- ---- elements, of which the default does not matter inside a list

module _ {A : Type 0} where
  pub get_or_any : (l : List A) (i : ℕ) (d e : A) → i < length l → get_or l i d ≡ get_or l i e
  get_or_any [] i d e h = absurd (omega arith)
  get_or_any (x ∷ l) zero d e h = refl
  get_or_any (x ∷ l) (suc i) d e h = get_or_any l i d e (omega arith)

  pub set_pair : (l : List A) (a b : A) → length l ≡ 2 → set (set l 0 a) 1 b ≡ a ∷ b ∷ []
  set_pair [] a b h = absurd (omega arith)
  set_pair (x ∷ []) a b h = absurd (omega arith)
  set_pair (x ∷ y ∷ []) a b h = refl
  set_pair (x ∷ y ∷ z ∷ l) a b h = absurd (omega arith)

module _ {A : Type 0} where
  pub length-listed : (f : ℕ → A) (k n : ℕ) → length (listed f k n) ≡ n
  unfolding listed
  length-listed f k zero = refl
  length-listed f k (suc n) = ap suc (length-listed f (suc k) n)

  pub listed_at : (f : ℕ → A) (k n i : ℕ) (d : A) → i < n → get_or (listed f k n) i d ≡ f (k + i)
  unfolding listed
  listed_at f k zero i d h = absurd (omega arith)
  listed_at f k (suc n) zero d h = ap f (sym (add-zero k))
  listed_at f k (suc n) (suc i) d h = listed_at f (suc k) n i d (omega arith) ∙ ap f (omega arith)

  -- an element of one value repeated, and past the end
  pub repeated-at : (a : A) (n i : ℕ) → get_or (repeated n a) i a ≡ a
  unfolding listed
  repeated-at a n i = go 0 n i
    where
      go : (k n i : ℕ) → get_or (listed (λ j. a) k n) i a ≡ a
      go k zero i = refl
      go k (suc n) zero = refl
      go k (suc n) (suc i) = go (suc k) n i

  pub listed-ext : (f g : ℕ → A) → ((k : ℕ) → f k ≡ g k) → (k n : ℕ) → listed f k n ≡ listed g k n
  unfolding listed
  listed-ext f g h k zero = refl
  listed-ext f g h k (suc n) = rw (h k, listed-ext f g h (suc k) n)

  -- a list whose elements are all one value
  pub all_one : (a d : A) (n : ℕ) (l : List A) → length l ≡ n → ((i : ℕ) → i < n → get_or l i d ≡ a) → l ≡ repeated n a
  all_one a d n l h e =
      ext_get_or d l (repeated n a) (h ∙ sym (length-listed (λ k. a) 0 n)) (λ i g. e i (omega arith) ∙ sym (listed_at (λ k. a) 0 n i d (omega arith)))

-- ---- maps

module _ {A B : Type 0} (f : A → B) where
  pub map-set : (l : List A) (i : ℕ) (v : A) → map f (set l i v) ≡ set (map f l) i (f v)
  map-set [] i v = refl
  map-set (x ∷ l) zero v = refl
  map-set (x ∷ l) (suc i) v = ap (λ (r : List B). f x ∷ r) (map-set l i v)

  pub map-listed : (g : ℕ → A) (k n : ℕ) → map f (listed g k n) ≡ listed (λ j. f (g j)) k n
  unfolding listed
  map-listed g k zero = refl
  map-listed g k (suc n) = ap (λ (r : List B). f (g k) ∷ r) (map-listed g (suc k) n)

  pub map_at : (l : List A) (i : ℕ) (d : A) (e : B) → i < length l → get_or (map f l) i e ≡ f (get_or l i d)
  map_at [] i d e h = absurd (omega arith)
  map_at (x ∷ l) zero d e h = refl
  map_at (x ∷ l) (suc i) d e h = map_at l i d e (omega arith)

  -- what holds of every value of f holds of every element
  pub map-all : (P : B → Type 0) (e : B) → P e → ((a : A) → P (f a)) → (l : List A) (i : ℕ) → P (get_or (map f l) i e)
  map-all P e p h [] i = p
  map-all P e p h (x ∷ l) zero = h x
  map-all P e p h (x ∷ l) (suc i) = map-all P e p h l i

module _ {A : Type 0} (d : A) where
  -- ---- the front

  pub length_front : (n : ℕ) (l : List A) → length (front d n l) ≡ n
  unfolding front
  length_front zero l = refl
  length_front (suc n) l = ap suc (length_front n (drop 1 l))

  pub front_at : (n : ℕ) (l : List A) (k : ℕ) → k < n → get_or (front d n l) k d ≡ get_or l k d
  unfolding front
  front_at zero l k h = absurd (omega arith)
  front_at (suc n) [] zero h = refl
  front_at (suc n) (x ∷ l) zero h = refl
  front_at (suc n) [] (suc k) h = front_at n [] k (omega arith)
  front_at (suc n) (x ∷ l) (suc k) h = front_at n l k (omega arith)

  front-set : (n : ℕ) (l : List A) (k : ℕ) (v : A) → k < n → k < length l → front d n (set l k v) ≡ set (front d n l) k v
  unfolding front
  front-set zero l k v h g = absurd (omega arith)
  front-set (suc n) [] k v h g = absurd (omega arith)
  front-set (suc n) (x ∷ l) zero v h g = refl
  front-set (suc n) (x ∷ l) (suc k) v h g = ap (λ (r : List A). x ∷ r) (front-set n l k v (omega arith) (omega arith))

  front-past : (n : ℕ) (l : List A) (k : ℕ) (v : A) → front d n (set l (n + k) v) ≡ front d n l
  unfolding front
  front-past zero l k v = refl
  front-past (suc n) [] k v = refl
  front-past (suc n) (x ∷ l) k v = rw (suc-add n k) (ap (λ (r : List A). x ∷ r) (front-past n l k v))

  -- the front of a list that holds the filler only
  pub front-filler : (n : ℕ) (l : List A) (k : ℕ) → ((j : ℕ) → get_or l j d ≡ d) → get_or (front d n l) k d ≡ d
  unfolding front
  front-filler zero l k h = refl
  front-filler (suc n) l zero h = h 0
  front-filler (suc n) l (suc k) h = front-filler n (drop 1 l) k (λ j. get_or-drop 1 l j d ∙ h (1 + j))

  -- a front of a front's rest
  front-inner : (k j n : ℕ) (l : List A) → j + k ≤ n → front d k (drop j (front d n l)) ≡ front d k (drop j l)
  front-inner k j n l h =
      ext_get_or d (front d k (drop j (front d n l))) (front d k (drop j l)) (length_front k (drop j (front d n l)) ∙ sym (length_front k (drop j l)))
      (λ q g. at q (omega (arith, length_front k (drop j (front d n l)))))
    where
      at : (q : ℕ) → q < k → get_or (front d k (drop j (front d n l))) q d ≡ get_or (front d k (drop j l)) q d
      at q g =
          front_at k (drop j (front d n l)) q g
          ∙ get_or-drop j (front d n l) q d
          ∙ front_at n l (j + q) (omega arith)
          ∙ sym (front_at k (drop j l) q g ∙ get_or-drop j l q d)

  -- a list that is as long as a front is the front
  pub front-all : (l : List A) (n : ℕ) → length l ≡ n → front d n l ≡ l
  front-all l n h = ext_get_or d (front d n l) l (length_front n l ∙ sym h) (λ k g. front_at n l k (omega (arith, length_front n l)))

  pub front-take : (n : ℕ) (l : List A) → n ≤ length l → front d n l ≡ take n l
  unfolding front
  front-take zero l h = refl
  front-take (suc n) [] h = absurd (omega arith)
  front-take (suc n) (x ∷ l) h = ap (λ (r : List A). x ∷ r) (front-take n l (omega arith))

  -- ---- the parts

  pub length-parts : (ns : List ℕ) (l : List A) → length (parts d ns l) ≡ length ns
  unfolding parts
  length-parts [] l = refl
  length-parts (n ∷ ns) l = ap suc (length-parts ns (drop n l))

  pub length_part : (ns : List ℕ) (i : ℕ) (l : List A) → length (get_or (parts d ns l) i []) ≡ get_or ns i 0
  unfolding parts
  length_part [] i l = refl
  length_part (n ∷ ns) zero l = length_front n l
  length_part (n ∷ ns) (suc i) l = length_part ns i (drop n l)

  -- an element of a part
  pub part_at : (ns : List ℕ) (i k : ℕ) (l : List A) → k < get_or ns i 0 → get_or (get_or (parts d ns l) i []) k d ≡ get_or l (start ns i + k) d
  unfolding parts start
  part_at [] i k l h = absurd (omega arith)
  part_at (n ∷ ns) zero k l h = rw (zero-add k) (front_at n l k h)
  part_at (n ∷ ns) (suc i) k l h = rw (add_assoc n (start ns i) k) (part_at ns i k (drop n l) h ∙ get_or-drop n l (start ns i + k) d)

  -- a part as a front
  pub part-front : (ns : List ℕ) (i : ℕ) (l : List A) → i < length ns → get_or (parts d ns l) i [] ≡ front d (get_or ns i 0) (drop (start ns i) l)
  unfolding parts start
  part-front [] i l h = absurd (omega arith)
  part-front (n ∷ ns) zero l h = refl
  part-front (n ∷ ns) (suc i) l h = part-front ns i (drop n l) (omega arith) ∙ ap (front d (get_or ns i 0)) (drop-drop (start ns i) n l)

  -- a store in part i is a store to the part
  pub parts-set : (ns : List ℕ) (i k : ℕ) (v : A) (l : List A) → k < get_or ns i 0 → start ns i + k < length l
      → parts d ns (set l (start ns i + k) v) ≡ set (parts d ns l) i (set (get_or (parts d ns l) i []) k v)
  unfolding parts start
  parts-set [] i k v l h g = absurd (omega arith)
  parts-set (n ∷ ns) zero k v l h g = rw (zero-add k, front-set n l k v h (omega arith), drop-set-lt n l k v h)
  parts-set (n ∷ ns) (suc i) k v l h g =
      rw
      (add_assoc n (start ns i) k, front-past n l (start ns i + k) v, drop-set-add n l (start ns i + k) v, parts-set ns i k v (drop n l) h (omega (arith, length-drop n l)))

  -- two stores, one behind the other
  pub parts-pair : (ns : List ℕ) (i k : ℕ) (a b : A) (l : List A) → k + 1 < get_or ns i 0 → start ns i + (k + 1) < length l
      → parts d ns (set (set l (start ns i + k) a) (start ns i + (k + 1)) b) ≡ set (parts d ns l) i (set (set (get_or (parts d ns l) i []) k a) (k + 1) b)
  parts-pair ns i k a b l h g =
      let s : List (List A) = parts d ns l in
      let q : List A = set (get_or s i []) k a in
      let in-sizes : i < length ns = sized-in ns i (k + 1) h in
      parts-set ns i (k + 1) b (set l (start ns i + k) a) h (omega (arith, length-set l (start ns i + k) a))
      ∙ ap (λ (z : List (List A)). set z i (set (get_or z i []) (k + 1) b)) (parts-set ns i k a l (omega arith) (omega arith))
      ∙ ap (λ (z : List A). set (set s i q) i (set z (k + 1) b)) (get_or-set_same s i q [] (omega (arith, length-parts ns l)))
      ∙ set-set s i q (set q (k + 1) b)

  -- so is a block of stores
  module _ (ns : List ℕ) (i k : ℕ) (b l : List A) where
    pub parts-paste : (n : ℕ) → k + n ≤ get_or ns i 0 → start ns i + k + n ≤ length l → n ≤ length b
        → parts d ns (paste l (start ns i + k) b n) ≡ set (parts d ns l) i (paste (get_or (parts d ns l) i []) k b n)
    parts-paste zero h g m =
        ap (parts d ns) (sym (paste-zero l (start ns i + k) b))
        ∙ sym (ap (set (parts d ns l) i) (sym (paste-zero (get_or (parts d ns l) i []) k b)) ∙ set-get_or (parts d ns l) i [])
    parts-paste (suc n) h g m =
        let at : ℕ = start ns i + k in
        let s : List (List A) = parts d ns l in
        let p : List A = get_or s i [] in
        let q : List A = paste p k b n in
        let v : A = get_or b n d in
        let e₁ : set (paste l at b n) (at + n) v ≡ paste l at b (suc n) = paste-suc l at b n d (omega arith) (omega arith) in
        let e₂ : set q (k + n) v ≡ paste p k b (suc n) = paste-suc p k b n d (omega (arith, length_part ns i l)) (omega arith) in
        let ih : parts d ns (paste l at b n) ≡ set s i q = parts-paste n (omega arith) (omega arith) (omega arith) in
        let in-sizes : i < length ns = sized-in ns i k (omega arith) in
        let same : get_or (set s i q) i [] ≡ q = get_or-set_same s i q [] (omega (arith, length-parts ns l)) in
        let stored : parts d ns (set (paste l at b n) (start ns i + (k + n)) v) ≡ set (parts d ns (paste l at b n)) i (set (get_or (parts d ns (paste l at b n)) i []) (k + n) v) =
        parts-set ns i (k + n) v (paste l at b n) (omega arith) (omega (arith, length-paste l at b n (omega arith) (omega arith))) in
        ap (parts d ns) (sym e₁)
        ∙ ap (λ (z : ℕ). parts d ns (set (paste l at b n) z v)) (add_assoc (start ns i) k n)
        ∙ stored
        ∙ ap (λ (z : List (List A)). set z i (set (get_or z i []) (k + n) v)) ih
        ∙ ap (λ (z : List A). set (set s i q) i (set z (k + n) v)) same
        ∙ set-set s i q (set q (k + n) v)
        ∙ ap (set s i) e₂

  -- a block as long as the list is the list
  pub paste_all : (l b : List A) (n : ℕ) → length l ≡ n → length b ≡ n → paste l 0 b n ≡ b
  paste_all l b n h g =
      let e : drop (0 + n) l ≡ [] = drop_of_length-le l {i = 0 + n} (omega arith) in
      rw (e, take_all n b (omega arith)) (append-nil b)

  -- a whole part stored
  pub parts_whole : (ns : List ℕ) (i : ℕ) (b l : List A) → i < length ns → length b ≡ get_or ns i 0 → start ns i + get_or ns i 0 ≤ length l
      → parts d ns (paste l (start ns i) b (get_or ns i 0)) ≡ set (parts d ns l) i b
  parts_whole ns i b l h g m =
      let n : ℕ = get_or ns i 0 in
      ap (λ (k : ℕ). parts d ns (paste l k b n)) (sym (add-zero (start ns i)))
      ∙ parts-paste ns i 0 b l n (omega arith) (omega arith) (omega arith)
      ∙ ap (set (parts d ns l) i) (paste_all (get_or (parts d ns l) i []) b n (length_part ns i l) g)

  -- the parts of a list that holds the filler only
  pub parts-filler : (ns : List ℕ) (l : List A) → ((k : ℕ) → get_or l k d ≡ d) → parts d ns l ≡ map (λ n. repeated n d) ns
  unfolding parts
  parts-filler [] l h = refl
  parts-filler (n ∷ ns) l h =
      rw
      (all_one d d n (front d n l) (length_front n l) (λ i g. front_at n l i g ∙ h i), parts-filler ns (drop n l) (λ k. get_or-drop n l k d ∙ h (n + k)))

  -- ---- blocks

  module _ (n k i : ℕ) (h : i < n) where
    pub block-set : (j : ℕ) (v : A) (l : List A) → j < k → i * k + j < length l
        → blocks d n k (set l (i * k + j) v) ≡ set (blocks d n k l) i (set (get_or (blocks d n k l) i []) j v)
    unfolding blocks
    block-set j v l g m =
        let e : start (replicate n k) i ≡ i * k = start-even n k i h in
        let f : get_or (replicate n k) i 0 ≡ k = get_or-replicate n i k 0 h in
        rw (← e) (parts-set (replicate n k) i j v l (omega arith) (omega arith))

    pub block-paste : (b l : List A) → length b ≡ k → i * k + k ≤ length l → blocks d n k (paste l (i * k) b k) ≡ set (blocks d n k l) i b
    unfolding blocks
    block-paste b l g m =
        let s : List (List A) = parts d (replicate n k) l in
        let e : start (replicate n k) i + 0 ≡ i * k = add-zero (start (replicate n k) i) ∙ start-even n k i h in
        let f : get_or (replicate n k) i 0 ≡ k = get_or-replicate n i k 0 h in
        ap (λ (z : ℕ). parts d (replicate n k) (paste l z b k)) (sym e)
        ∙ parts-paste (replicate n k) i 0 b l k (omega arith) (omega arith) (omega arith)
        ∙ ap (set s i) (paste_all (get_or s i []) b k (length_part (replicate n k) i l ∙ f) g)

    -- a piece of a block
    pub piece-paste : (f m : ℕ) (b l : List A) → f + m ≤ k → m ≤ length b → i * k + k ≤ length l
        → blocks d n k (paste l (i * k + f) b m) ≡ set (blocks d n k l) i (paste (get_or (blocks d n k l) i []) f b m)
    unfolding blocks
    piece-paste f m b l g j q =
        let e : start (replicate n k) i ≡ i * k = start-even n k i h in
        let r : get_or (replicate n k) i 0 ≡ k = get_or-replicate n i k 0 h in
        rw (← e) (parts-paste (replicate n k) i f b l m (omega arith) (omega arith) j)

    pub block-front : (l : List A) → get_or (blocks d n k l) i [] ≡ front d k (drop (i * k) l)
    unfolding blocks
    block-front l =
        let e : start (replicate n k) i ≡ i * k = start-even n k i h in
        let f : get_or (replicate n k) i 0 ≡ k = get_or-replicate n i k 0 h in
        part-front (replicate n k) i l (omega (arith, length-replicate n k)) ∙ rw (e, f)

  pub length-blocks : (n k : ℕ) (l : List A) → length (blocks d n k l) ≡ n
  unfolding blocks
  length-blocks n k l = length-parts (replicate n k) l ∙ length-replicate n k

  pub length-block : (n k i : ℕ) (l : List A) → i < n → length (get_or (blocks d n k l) i []) ≡ k
  unfolding blocks
  length-block n k i l h = length_part (replicate n k) i l ∙ get_or-replicate n i k 0 h

  -- both elements of a block of two
  pub block-pair : (n i : ℕ) (a b : A) (l : List A) → i < n → i * 2 + 2 ≤ length l
      → blocks d n 2 (set (set l (i * 2) a) (i * 2 + 1) b) ≡ set (blocks d n 2 l) i (a ∷ b ∷ [])
  block-pair n i a b l h m =
      let bs : List (List A) = blocks d n 2 l in
      let r : List A = get_or bs i [] in
      let e₀ : blocks d n 2 (set l (i * 2) a) ≡ set bs i (set r 0 a) =
      ap (λ (k : ℕ). blocks d n 2 (set l k a)) (sym (add-zero (i * 2))) ∙ block-set n 2 i h 0 a l (omega arith) (omega arith) in
      let same : get_or (set bs i (set r 0 a)) i [] ≡ set r 0 a = get_or-set_same bs i (set r 0 a) [] (omega (arith, length-blocks n 2 l)) in
      block-set n 2 i h 1 b (set l (i * 2) a) (omega arith) (omega (arith, length-set l (i * 2) a))
      ∙ ap (λ (z : List (List A)). set z i (set (get_or z i []) 1 b)) e₀
      ∙ ap (λ (z : List A). set (set bs i (set r 0 a)) i (set z 1 b)) same
      ∙ set-set bs i (set r 0 a) (set (set r 0 a) 1 b)
      ∙ ap (set bs i) (set_pair r a b (length-block n 2 i l h))

  -- a block of a part, where it lies in the whole list
  pub part-block : (ns : List ℕ) (i n k j : ℕ) (l : List A) → i < length ns → j < n → n * k ≤ get_or ns i 0
      → get_or (blocks d n k (get_or (parts d ns l) i [])) j [] ≡ front d k (drop (start ns i + j * k) l)
  part-block ns i n k j l h g m =
      block-front n k j g (get_or (parts d ns l) i [])
      ∙ ap (λ (z : List A). front d k (drop (j * k) z)) (part-front ns i l h)
      ∙ front-inner k (j * k) (get_or ns i 0) (drop (start ns i) l) (within n k j (get_or ns i 0) g m)
      ∙ ap (front d k) (drop-drop (j * k) (start ns i) l)
    where
      within : (n k j s : ℕ) → j < n → n * k ≤ s → j * k + k ≤ s
      within n k j s g m = omega (arith, mul-le-mul_right k g)
