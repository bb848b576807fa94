-- Reading byte by byte tells what `value_of` says.
use mathlib.Core.Path.{◌≡◌, refl, ◌∙◌}
use mathlib.Core.Bool.{Bool, true, false, cond, ◌&&◌}
use mathlib.Core.List.{List, [], ◌∷◌}
use Prim.Native.Nat.{ℕ, ◌+◌, ◌*◌, ◌^◌, ◌<◌}
use native.Mathlib.Nat.{le-mul_of_pos_right}
use native.Mathlib.Omega.{arith}
use lib.Dec.{ltb, eqb}
use borrow.Author.Tests.{ltb-false, le-ltb, eqb-true}
use Rattle.std.specs.Prelude.{Ok, Err}
use Rattle.text.specs.declared.NumberError.TheVariants.{NotANumber, TooLarge}
use Rattle.text.specs.declared.Reading.TheVariants.{Zero, Prefix, Digits, Large, Wrong}
use Rattle.text.specs.Numbers.{digit_of, is_digit, digit_value, are_digits, value_from, fitted, told_from, number_in, is_x, value_of, start, held, more_of, large_of, first_of, second_of, next_of, told_of, reading_of}

-- a digit behind held digits
next-held : (base v b : ℕ) → 0 < base → next_of (held base v) b ≡ more_of base v b
unfolding held more_of large_of
next-held base v b pos = go (ltb v (2 ^ 64)) refl (is_digit base b) refl
  where
    go : (x : Bool) → ltb v (2 ^ 64) ≡ x → (y : Bool) → is_digit base b ≡ y → next_of (cond (ltb v (2 ^ 64)) (Digits base v) (Large base)) b ≡ cond (is_digit base b) (cond (ltb (v * base + digit_value b) (2 ^ 64)) (Digits base (v * base + digit_value b)) (Large base)) Wrong
    go true e y f = rw e
    go false e true f = rw (e, f, le-ltb (v * base + digit_value b) (2 ^ 64) (omega (arith, ltb-false v (2 ^ 64) e, le-mul_of_pos_right {m = base} v pos)))
    go false e false f = rw (e, f)

-- once bad, always
bad-stays : (bs : List ℕ) → reading_of Wrong bs ≡ Wrong
unfolding reading_of
bad-stays [] = refl
bad-stays (b ∷ bs) = bad-stays bs

told-held : (base v : ℕ) → told_of (held base v) ≡ fitted v
unfolding held fitted
told-held base v = go (ltb v (2 ^ 64)) refl
  where
    go : (x : Bool) → ltb v (2 ^ 64) ≡ x → told_of (cond (ltb v (2 ^ 64)) (Digits base v) (Large base)) ≡ cond (ltb v (2 ^ 64)) (Ok v) (Err TooLarge)
    go true e = rw e
    go false e = rw e

told-bad : told_of Wrong ≡ Err NotANumber
told-bad = refl

-- digits behind held digits
read_held : (base : ℕ) (bs : List ℕ) (v : ℕ) → 0 < base → told_of (reading_of (held base v) bs) ≡ told_from base v bs
unfolding told_from are_digits value_from reading_of more_of
read_held base [] v pos = told-held base v
read_held base (b ∷ bs) v pos = rw (next-held base v b pos) (go (is_digit base b) refl (read_held base bs (v * base + digit_value b) pos))
  where
    go : (x : Bool) → is_digit base b ≡ x → told_of (reading_of (held base (v * base + digit_value b)) bs) ≡ told_from base (v * base + digit_value b) bs
        → told_of (reading_of (more_of base v b) bs) ≡ cond (is_digit base b && are_digits base bs) (fitted (value_from base (v * base + digit_value b) bs)) (Err NotANumber)
    go true e h = rw e h
    go false e h = rw (e, bad-stays bs) told-bad

-- a first digit
read_more : (base b : ℕ) (bs : List ℕ) → 0 < base → told_of (reading_of (more_of base 0 b) bs) ≡ told_from base 0 (b ∷ bs)
unfolding reading_of
read_more base b bs pos = rw (← next-held base 0 b pos) (read_held base (b ∷ bs) 0 pos)

-- the byte behind a 0x
read-prefix : (bs : List ℕ) → told_of (reading_of Prefix bs) ≡ number_in 16 bs
unfolding reading_of number_in
read-prefix [] = refl
read-prefix (b ∷ bs) = read_more 16 b bs (omega arith)

-- the bytes behind a single 0
read-zero : (x : ℕ) (bs : List ℕ) → told_of (reading_of Zero (x ∷ bs)) ≡ cond (is_x x) (number_in 16 bs) (told_from 10 0 (x ∷ bs))
unfolding reading_of second_of
read-zero x bs = go (is_x x) refl
  where
    go : (t : Bool) → is_x x ≡ t → told_of (reading_of (cond (is_x x) Prefix (more_of 10 0 x)) bs) ≡ cond (is_x x) (number_in 16 bs) (told_from 10 0 (x ∷ bs))
    go true e = rw e (read-prefix bs)
    go false e = rw e (read_more 10 x bs (omega arith))

-- a leading 0 changes nothing
zero-first : (bs : List ℕ) → told_from 10 0 (48 ∷ bs) ≡ told_from 10 0 bs
unfolding told_from are_digits value_from digit_of
zero-first bs = refl

single : told_of Zero ≡ told_from 10 0 (48 ∷ [])
unfolding told_from are_digits value_from digit_of fitted
single = refl

-- "at least one digit": reading a word byte by byte tells what it is
pub reads : (w : List ℕ) → told_of (reading_of start w) ≡ value_of w
unfolding reading_of first_of value_of number_in
reads [] = refl
reads (b ∷ []) = go (eqb b 48) refl
  where
    go : (t : Bool) → eqb b 48 ≡ t → told_of (reading_of (cond (eqb b 48) Zero (more_of 10 0 b)) []) ≡ told_from 10 0 (b ∷ [])
    go true e = rw (eqb-true b 48 e) single
    go false e = rw e (read_more 10 b [] (omega arith))
reads (b ∷ x ∷ bs) = go (eqb b 48) refl
  where
    go : (t : Bool) → eqb b 48 ≡ t → told_of (reading_of (cond (eqb b 48) Zero (more_of 10 0 b)) (x ∷ bs)) ≡ cond (eqb b 48 && is_x x) (number_in 16 bs) (told_from 10 0 (b ∷ x ∷ bs))
    go true e = rw (eqb-true b 48 e) (read-zero x bs ∙ rw (zero-first (x ∷ bs)))
    go false e = rw e (read_more 10 b (x ∷ bs) (omega arith))
