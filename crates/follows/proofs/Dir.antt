-- DIR written twice is DIR written once, of a 32-bit word. Assumes nothing.
use Prim.Native.Nat.{ℕ, zero, suc, ◌+◌, ◌*◌, ◌/◌, ◌%◌, ◌^◌, ◌<◌, max}
use mathlib.Core.Path.{◌≡◌, refl, sym, ap, ◌∙◌}
use mathlib.Core.Bool.{Bool, true, false, cond}
use native.Mathlib.Nat.{mod-mod, mod-lt, mod-eq_of_lt, div-add-mod', div-div-eq-div-mul, div-lt_iff_lt-mul, mul-add-div_right, mul-add-mod_self_right, div-eq_of_lt, add-zero}
use native.Mathlib.Omega.{arith}
use lib.Dec.{eqb, lit<}
use lib.Bits.{bit_and, bit_or, or_block, or_step, or_zero_r, and_block, and_high, and_mask}
use Rattle.rm0440.specs.Bits.{DIR}
use Rattle.rm0440.specs.State.{with_bit}

-- bit 4 of x is 16
abbrev put : Bool → ℕ → ℕ
put b x = x / 32 * 32 + (cond b 16 0 + x % 16)

halves : (x : ℕ) → x / 16 / 2 ≡ x / 32
halves x = div-div-eq-div-mul x 16 2

top_one : (y : ℕ) → y < 2 → max y 1 ≡ 1
top_one y h = omega arith

or_put : (x : ℕ) → bit_or x 16 ≡ put true x
or_put x =
    let e : x ≡ x / 16 * 2 ^ 4 + x % 16 = sym (div-add-mod' x 16) in
    let o : bit_or (x / 16) 1 ≡ x / 32 * 2 + 1 =
    or_step (x / 16) 1 ∙ rw (or_zero_r (x / 16 / 2), halves x, top_one (x / 16 % 2) (mod-lt (x / 16) (lit< tt))) in
    ap (λ (y : ℕ). bit_or y 16) e ∙ or_block 4 (x / 16) 1 (x % 16) 0 (mod-lt x (lit< tt)) (lit< tt)
    ∙ rw (o, or_zero_r (x % 16)) (omega arith)

and-put : (x : ℕ) → x < 4294967296 → bit_and x 0xffff_ffef ≡ put false x
and-put x h =
    let e : x ≡ x / 16 * 2 ^ 4 + x % 16 = sym (div-add-mod' x 16) in
    let l : x / 32 < 134217728 = (div-lt_iff_lt-mul {k = 32} (lit< tt)).1 (omega arith) in
    let o : bit_and (x / 16) 0xfff_fffe ≡ x / 32 * 2 = and_high (x / 16) 27 1 ∙ rw (halves x, mod-eq_of_lt l) in
    ap (λ (y : ℕ). bit_and y 0xffff_ffef) e ∙ and_block 4 (x / 16) 0xfff_fffe (x % 16) 15 (mod-lt x (lit< tt)) (lit< tt)
    ∙ rw (o, and_mask (x % 16) 4, mod-mod x 16) (omega arith)

with-put : (b : Bool) (x : ℕ) → x < 4294967296 → with_bit 4 b x ≡ put b x
with-put true x h = or_put x
with-put false x h = and-put x h

low : (b : Bool) (x : ℕ) → cond b 16 0 + x % 16 < 32
low true x = omega (arith, mod-lt x {m = 16} (lit< tt))
low false x = omega (arith, mod-lt x {m = 16} (lit< tt))

put-lt : (b : Bool) (x : ℕ) → x < 4294967296 → put b x < 4294967296
put-lt b x h =
    let l : x / 32 < 134217728 = (div-lt_iff_lt-mul {k = 32} (lit< tt)).1 (omega arith) in
    omega (arith, low b x)

put-high : (b : Bool) (x : ℕ) → put b x / 32 ≡ x / 32
put-high b x = mul-add-div_right {m = 32} (lit< tt) (x / 32) (cond b 16 0 + x % 16) ∙ rw (div-eq_of_lt (low b x)) (add-zero (x / 32))

put_low : (b : Bool) (x : ℕ) → put b x % 16 ≡ x % 16
put_low true x =
    let e : put true x ≡ (x / 32 * 2 + 1) * 16 + x % 16 = omega arith in
    ap (λ (y : ℕ). y % 16) e ∙ mul-add-mod_self_right (x / 32 * 2 + 1) 16 (x % 16) ∙ mod-mod x 16
put_low false x =
    let e : put false x ≡ x / 32 * 2 * 16 + x % 16 = omega arith in
    ap (λ (y : ℕ). y % 16) e ∙ mul-add-mod_self_right (x / 32 * 2) 16 (x % 16) ∙ mod-mod x 16

put-twice : (a b : Bool) (x : ℕ) → put a (put b x) ≡ put a x
put-twice a b x = rw (put-high b x, put_low b x)

pub dir-twice : (a b : Bool) (x : ℕ) → x < 4294967296 → with_bit 4 a (with_bit 4 b x) ≡ with_bit 4 a x
dir-twice a b x h = ap (with_bit 4 a) (with-put b x h) ∙ with-put a (put b x) (put-lt b x h) ∙ put-twice a b x ∙ sym (with-put a x h)

pub dir-same : (x : ℕ) → x < 4294967296 → with_bit 4 (DIR x) x ≡ x
dir-same x h = with-put (DIR x) x h ∙ go (x / 16 % 2) refl (mod-lt (x / 16) (lit< tt))
  where
    whole : x ≡ x / 32 * 32 + (x / 16 % 2 * 16 + x % 16)
    whole = omega (arith, div-add-mod' x 16, div-add-mod' (x / 16) 2, halves x)

    go : (y : ℕ) → x / 16 % 2 ≡ y → y < 2 → put (eqb y 1) x ≡ x
    go zero e l = omega (arith, whole)
    go (suc zero) e l = omega (arith, whole)
    go (suc (suc y)) e l = absurd (omega arith)

pub dir-small : (b : Bool) (x : ℕ) → x < 4294967296 → with_bit 4 b x < 4294967296
dir-small b x h = rw (with-put b x h) (put-lt b x h)
