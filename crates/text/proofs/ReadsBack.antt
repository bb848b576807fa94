-- What is written reads back the same: `reads-back`, the last line. Assumes nothing.
use mathlib.Core.Path.{◌≡◌, refl, sym, ◌∙◌}
use mathlib.Core.Bool.{Bool, true, false, cond, ◌&&◌, ◌||◌}
use mathlib.Core.List.{List, [], ◌∷◌, ◌++◌}
use Prim.Native.Nat.{ℕ, zero, suc, ◌+◌, ◌-◌, ◌*◌, ◌/◌, ◌%◌, ◌^◌, ◌<◌, ◌≤◌}
use native.Mathlib.Nat.{pow-suc, le-div_iff_mul-le, mod-lt, div-lt_iff_lt-mul, lt_of_lt_of_le}
use native.Mathlib.Numerals.{add-one}
use native.Mathlib.Omega.{arith}
use lib.Dec.{ltb, eqb, lit≤}
use lib.ListN.{length, length-append}
use borrow.Author.Tests.{ltb-true, lt-ltb, le-ltb, eqb-true}
use Rattle.std.specs.Prelude.{Some, Ok}
use Rattle.text.specs.Numbers.{digit_of, is_digit, digit_value, are_digits, value_from, fitted, told_from, number_in, is_x, value_of}
use Rattle.text.specs.Digits.{places_in, places_of, last_digits, digits_of}

-- ---- how many

-- a tenth part has a place fewer
pub places-more : (most n : ℕ) → 10 ≤ n → places_in (suc most) n ≡ places_in most (n / 10) + 1
unfolding places_in
places-more most n h = rw (le-ltb n 10 h)

pub places-one : (most n : ℕ) → n < 10 → places_in most n ≡ 1
unfolding places_in
places-one zero n h = refl
places-one (suc most) n h = rw (lt-ltb n 10 h)

tenth : (k n : ℕ) → n < 10 ^ suc k → n / 10 < 10 ^ k
tenth k n h = (div-lt_iff_lt-mul {k = 10} {x = n} {y = 10 ^ k} (omega arith)).1 (rw pow-suc at h)

pub places-pos : (most n : ℕ) → 0 < places_in most n
unfolding places_in
places-pos zero n = omega arith
places-pos (suc most) n = go (ltb n 10)
  where
    go : (t : Bool) → 0 < cond t 1 (places_in most (n / 10) + 1)
    go true = omega arith
    go false = omega arith

-- as many as there are hold the number
places-hold : (most n : ℕ) → n < 10 ^ suc most → n < 10 ^ places_in most n
unfolding places_in
places-hold zero n h = h
places-hold (suc most) n h = go (ltb n 10) refl (places-hold most (n / 10) (tenth (suc most) n h))
  where
    go : (t : Bool) → ltb n 10 ≡ t → n / 10 < 10 ^ places_in most (n / 10) → n < 10 ^ cond t 1 (places_in most (n / 10) + 1)
    go true e ih = omega (arith, ltb-true n 10 e)
    go false e ih = rw (add-one (places_in most (n / 10)), pow-suc 10 (places_in most (n / 10))) (omega arith)

pub places_zero : (n : ℕ) → n ≡ 0 → 1 ≡ places_of n
places_zero n e = sym (places-one 20 n (omega arith))

ten-pos : (k : ℕ) → 0 < 10 ^ k
ten-pos zero = omega arith
ten-pos (suc k) = rw (pow-suc 10 k) (omega (arith, ten-pos k))

-- one more than the power of ten that it holds
places_log_in : (k most n : ℕ) → k ≤ most → 10 ^ k ≤ n → n < 10 ^ suc k → places_in most n ≡ k + 1
places_log_in zero most n m l h = places-one most n h
places_log_in (suc k) zero n m l h = absurd (omega arith)
places_log_in (suc k) (suc most) n m l h =
    let s : 10 ^ suc k ≡ 10 ^ k * 10 = rw (pow-suc 10 k) (omega arith) in
    let p : 0 < 10 ^ k = ten-pos k in
    let t : 10 ≤ n = omega (arith, s) in
    let u : 10 ^ k ≤ n / 10 = (le-div_iff_mul-le {k = 10} {x = 10 ^ k} {y = n} (omega arith)).1 (omega (arith, s)) in
    places-more most n t ∙ omega (arith, places_log_in k most (n / 10) (omega arith) u (tenth (suc k) n h))

pub places_log : (k n : ℕ) → k < 20 → 10 ^ k ≤ n → n < 10 * 10 ^ k → places_of n ≡ k + 1
places_log k n m l h = places_log_in k 20 n (omega arith) l (rw (pow-suc 10 k) (omega arith))

-- ---- which

pub length_digits : (k n : ℕ) → length (last_digits k n) ≡ k
unfolding last_digits
length_digits zero n = refl
length_digits (suc k) n = length-append (last_digits k (n / 10)) ((48 + n % 10) ∷ []) ∙ omega (arith, length_digits k (n / 10))

-- a digit's byte
digit-byte : (d : ℕ) → d < 10 → digit_of (48 + d) ≡ Some d
unfolding digit_of
digit-byte d h =
    let e : 48 + d - 48 ≡ d = omega arith in
    rw (le-ltb (48 + d) 48 (omega arith), lt-ltb (48 + d) 58 (omega arith), e)

digit-worth : (d : ℕ) → d < 10 → digit_value (48 + d) ≡ d
digit-worth d h = rw (digit-byte d h)

digit-is : (d : ℕ) → d < 10 → is_digit 10 (48 + d) ≡ true
digit-is d h = rw (digit-byte d h) (lt-ltb d 10 h)

value-behind : (bs : List ℕ) (v b : ℕ) → value_from 10 v (bs ++ (b ∷ [])) ≡ value_from 10 v bs * 10 + digit_value b
unfolding value_from
value-behind [] v b = refl
value-behind (x ∷ bs) v b = value-behind bs (v * 10 + digit_value x) b

digits-behind : (bs : List ℕ) (b : ℕ) → are_digits 10 bs ≡ true → is_digit 10 b ≡ true → are_digits 10 (bs ++ (b ∷ [])) ≡ true
unfolding are_digits
digits-behind [] b h k = rw k
digits-behind (x ∷ bs) b h k = go (is_digit 10 x) h (λ e. digits-behind bs b e k)
  where
    go : (t : Bool) → (t && are_digits 10 bs) ≡ true → (are_digits 10 bs ≡ true → are_digits 10 (bs ++ (b ∷ [])) ≡ true) → (t && are_digits 10 (bs ++ (b ∷ []))) ≡ true
    go true e f = f e
    go false e f = e

are-digits : (k n : ℕ) → are_digits 10 (last_digits k n) ≡ true
unfolding last_digits are_digits
are-digits zero n = refl
are-digits (suc k) n =
    let d : n % 10 < 10 = mod-lt n {m = 10} (omega arith) in
    digits-behind (last_digits k (n / 10)) (48 + n % 10) (are-digits k (n / 10)) (digit-is (n % 10) d)

value-digits : (k n : ℕ) → n < 10 ^ k → value_from 10 0 (last_digits k n) ≡ n
unfolding last_digits value_from
value-digits zero n h = omega arith
value-digits (suc k) n h =
    let d : n % 10 < 10 = mod-lt n {m = 10} (omega arith) in
    value-behind (last_digits k (n / 10)) 0 (48 + n % 10) ∙ rw (digit-worth (n % 10) d, value-digits k (n / 10) (tenth k n h)) (omega arith)

-- ---- back

no-x : (x : ℕ) → is_digit 10 x ≡ true → is_x x ≡ false
unfolding digit_of
no-x x h = go (eqb x 120) refl (eqb x 88) refl
  where
    go : (s : Bool) → eqb x 120 ≡ s → (t : Bool) → eqb x 88 ≡ t → (s || t) ≡ false
    go true e t f = sym h ∙ rw (eqb-true x 120 e)
    go false e true f = sym h ∙ rw (eqb-true x 88 f)
    go false e false f = refl

first-true : (a b : Bool) → (a && b) ≡ true → a ≡ true
first-true true b h = refl
first-true false b h = h

second-true : (a b : Bool) → (a && b) ≡ true → b ≡ true
second-true true b h = h
second-true false b h = absurd (ff h)
  where
    ff : false ≡ true → ⊥
    ff e = let z : ◌≡◌ {A = ℕ} 0 1 = cc in omega arith

-- decimal digits, at least one
decimal : (w : List ℕ) → 0 < length w → are_digits 10 w ≡ true → value_of w ≡ fitted (value_from 10 0 w)
unfolding value_of number_in told_from are_digits
decimal [] p h = absurd (omega arith)
decimal (b ∷ []) p h = rw h
decimal (b ∷ x ∷ bs) p h =
    let n : is_x x ≡ false = no-x x (first-true (is_digit 10 x) (are_digits 10 bs) (second-true (is_digit 10 b) (is_digit 10 x && are_digits 10 bs) h)) in
    rw (n, h) (go (eqb b 48))
  where
    go : (t : Bool) → cond (t && false) (number_in 16 bs) (fitted (value_from 10 0 (b ∷ x ∷ bs))) ≡ fitted (value_from 10 0 (b ∷ x ∷ bs))
    go true = refl
    go false = refl

-- a number that fits 64 bits, written and read
pub reads-back : (n : ℕ) → n < 2 ^ 64 → value_of (digits_of n) ≡ Ok n
unfolding fitted
reads-back n h =
    decimal (digits_of n) (rw (length_digits (places_of n) n) (places-pos 20 n)) (are-digits (places_of n) n)
    ∙ rw (value-digits (places_of n) n (places-hold 20 n (lt_of_lt_of_le h (lit≤ tt))), lt-ltb n (2 ^ 64) h)
