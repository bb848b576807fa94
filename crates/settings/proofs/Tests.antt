-- Numbers and lists: bytes put together again, the first places of a list written out.
use mathlib.Core.Path.{◌≡◌, refl, ap}
use mathlib.Core.Bool.{Bool, true, false, ◌&&◌, ◌||◌}
use mathlib.Core.List.{List, [], ◌∷◌}
use Prim.Native.Nat.{ℕ, zero, suc, ◌+◌, ◌*◌, ◌/◌, ◌%◌, ◌<◌, ◌≤◌}
use native.Mathlib.Omega.{arith}
use lib.ListN.{length, get_or, take, drop}
use lib.Seq.{drop-cons}
use Rattle.settings.specs.Record.{four}

-- ---- bools

pub and_left : (a b : Bool) → (a && b) ≡ true → a ≡ true
and_left true b h = refl
and_left false b h = h

pub and_right : (a b : Bool) → (a && b) ≡ true → b ≡ true
and_right true b h = h
and_right false true h = refl
and_right false false h = h

pub or_left : (a b : Bool) → (a || b) ≡ false → a ≡ false
or_left true b h = h
or_left false b h = refl

pub or_right : (a b : Bool) → (a || b) ≡ false → b ≡ false
or_right true true h = h
or_right true false h = refl
or_right false b h = h

pub or-false : (a b : Bool) → a ≡ false → b ≡ false → (a || b) ≡ false
or-false a b e f = rw (e, f)

-- ---- lists

-- n places from place i on, written out
unfoldable pub places : ℕ → ℕ → List ℕ → List ℕ
places i zero s = []
places i (suc n) s = get_or s i 0 ∷ places (suc i) n s

pub take_places : (n i : ℕ) (s : List ℕ) → i + n ≤ length s → take n (drop i s) ≡ places i n s
unfolding places
take_places zero i s h = refl
take_places (suc n) i s h = rw (drop-cons s i 0 (omega arith)) (ap (λ (r : List ℕ). get_or s i 0 ∷ r) (take_places n (suc i) s (omega arith)))

-- ---- four bytes, little-endian

pub byte-back : (b : ℕ) → b < 256 → b % 256 ≡ b
byte-back b h = omega arith

split : (n : ℕ) → n % 256 + 256 * (n / 256) ≡ n
split n = omega arith

pub four-back : (n : ℕ) → n ≤ 4294967295
    → n % 256 + 256 * (n / 256 % 256) + 65536 * (n / 256 / 256 % 256 + 256 * (n / 256 / 256 / 256 % 256)) ≡ n
four-back n h =
    let a = split n in
    let b = split (n / 256) in
    let c = split (n / 256 / 256) in
    let small : n / 256 / 256 / 256 < 256 = omega (arith, a, b, c) in
    omega (arith, a, b, c, byte-back (n / 256 / 256 / 256) small)

-- bytes put together and taken apart
pub four_bytes : (a b c d : ℕ) → a < 256 → b < 256 → c < 256 → d < 256 → four (a + 256 * b + 65536 * (c + 256 * d)) ≡ a ∷ b ∷ c ∷ d ∷ []
four_bytes a b c d ha hb hc hd =
    let q : (a + 256 * b + 65536 * (c + 256 * d)) / 256 ≡ b + 256 * (c + 256 * d) = omega arith in
    let p : (b + 256 * (c + 256 * d)) / 256 ≡ c + 256 * d = omega arith in
    let o : (c + 256 * d) / 256 ≡ d = omega arith in
    let q₀ : (a + 256 * b + 65536 * (c + 256 * d)) % 256 ≡ a = omega arith in
    let p₀ : (b + 256 * (c + 256 * d)) % 256 ≡ b = omega arith in
    let o₀ : (c + 256 * d) % 256 ≡ c = omega arith in
    rw (q₀, q, p₀, p, o₀, o, byte-back d hd)
