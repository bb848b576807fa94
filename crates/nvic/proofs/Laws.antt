-- Laws of interrupt lines, and of the words that hold them.
use mathlib.Core.Path.{◌≡◌, refl, sym, ap, ◌∙◌}
use mathlib.Core.Logic.{◌≢◌}
use mathlib.Core.Bool.{Bool, true, false, cond, ◌&&◌, ◌||◌, false≢true}
use mathlib.Core.List.{List, [], ◌∷◌}
use Prim.Native.Nat.{ℕ, zero, suc, ◌+◌, ◌-◌, ◌*◌, ◌/◌, ◌%◌, ◌^◌, ◌≤◌, ◌<◌}
use native.Mathlib.Nat.{mod-lt, div-one}
use native.Mathlib.Omega.{arith}
use lib.Bits.{bit_and, bit_or, or_shr, or_mod, and_shr, and_mod}
use lib.Dec.{eqb, ltb, lit<}
use lib.Pow.{shr-shr, mod-pow-add}
use lib.ListN.{length, get_or, set, get_or-map}
use lib.Seq.{get_or-set_same, get_or-set_other}
use borrow.Author.Tests.{lt-ltb, le-ltb}
use Rattle.nvic.specs.Nvic.{Line, Nvic, idle, some, state_of, line_at, on_line, line_of, lines_of, nvic_of}

-- ---- bits

-- the bits of a join and of a mask are those of its parts
or-two : (x y : ℕ) → x < 2 → y < 2 → eqb (bit_or x y) 1 ≡ eqb y 1 || eqb x 1
or-two zero zero h k = refl
or-two zero (suc zero) h k = refl
or-two (suc zero) zero h k = refl
or-two (suc zero) (suc zero) h k = refl
or-two (suc (suc x)) y h k = absurd (omega arith)
or-two zero (suc (suc y)) h k = absurd (omega arith)
or-two (suc zero) (suc (suc y)) h k = absurd (omega arith)

and-two : (x y : ℕ) → x < 2 → y < 2 → eqb (bit_and x y) 1 ≡ eqb y 1 && eqb x 1
and-two zero zero h k = refl
and-two zero (suc zero) h k = refl
and-two (suc zero) zero h k = refl
and-two (suc zero) (suc zero) h k = refl
and-two (suc (suc x)) y h k = absurd (omega arith)
and-two zero (suc (suc y)) h k = absurd (omega arith)
and-two (suc zero) (suc (suc y)) h k = absurd (omega arith)

-- bit k of a word
abbrev pub bit : ℕ → ℕ → Bool
bit k w = eqb (w / 2 ^ k % 2) 1

pub or-bit : (k w m : ℕ) → bit k (bit_or w m) ≡ bit k m || bit k w
or-bit k w m =
    rw (or_shr w m k, or_mod (w / 2 ^ k) (m / 2 ^ k) 1) (or-two (w / 2 ^ k % 2) (m / 2 ^ k % 2) (mod-lt (w / 2 ^ k) (lit< tt)) (mod-lt (m / 2 ^ k) (lit< tt)))

pub and-bit : (k w m : ℕ) → bit k (bit_and w m) ≡ bit k m && bit k w
and-bit k w m =
    rw (and_shr w m k, and_mod (w / 2 ^ k) (m / 2 ^ k) 1) (and-two (w / 2 ^ k % 2) (m / 2 ^ k % 2) (mod-lt (w / 2 ^ k) (lit< tt)) (mod-lt (m / 2 ^ k) (lit< tt)))

-- the line of ten bits
abbrev of_bits : (ℕ → Bool) → Line
of_bits f = record { high = f 0; pending = f 1; wishes = f 2 ∷ f 3 ∷ f 4 ∷ f 5 ∷ f 6 ∷ f 7 ∷ f 8 ∷ f 9 ∷ [] }

by_bits : (f g : ℕ → Bool) → ((k : ℕ) → f k ≡ g k) → of_bits f ≡ of_bits g
by_bits f g h = rw (h 0, h 1, h 2, h 3, h 4, h 5, h 6, h 7, h 8, h 9)

line-bits : (w : ℕ) → line_of w ≡ of_bits (λ k. bit k w)
line-bits w = rw (div-one w)

or-line : (w m : ℕ) → line_of (bit_or w m) ≡ of_bits (λ k. bit k m || bit k w)
or-line w m = line-bits (bit_or w m) ∙ by_bits (λ k. bit k (bit_or w m)) (λ k. bit k m || bit k w) (λ k. or-bit k w m)

and-line : (w m : ℕ) → line_of (bit_and w m) ≡ of_bits (λ k. bit k m && bit k w)
and-line w m = line-bits (bit_and w m) ∙ by_bits (λ k. bit k (bit_and w m)) (λ k. bit k m && bit k w) (λ k. and-bit k w m)

-- ---- what the words of a line say

-- a word's two low bits are the line's state
pub word-state : (w : ℕ) → w % 4 ≡ state_of (line_of w)
word-state w = go (w % 2) (w / 2 % 2) (mod-lt w (lit< tt)) (mod-lt (w / 2) (lit< tt)) (omega arith)
  where
    go : (a b : ℕ) → a < 2 → b < 2 → w % 4 ≡ a + b * 2 → w % 4 ≡ cond (eqb a 1) 1 0 + cond (eqb b 1) 2 0
    go zero zero h k e = e
    go zero (suc zero) h k e = e
    go (suc zero) zero h k e = e
    go (suc zero) (suc zero) h k e = e
    go (suc (suc a)) b h k e = absurd (omega arith)
    go zero (suc (suc b)) h k e = absurd (omega arith)
    go (suc zero) (suc (suc b)) h k e = absurd (omega arith)

-- the pending flag cleared
pub cleared-word : (w : ℕ) → line_of (bit_and w 0xffff_ffff_ffff_fffd) ≡ record { high = (line_of w).high; pending = false; wishes = (line_of w).wishes }
cleared-word w = and-line w 0xffff_ffff_ffff_fffd ∙ rw (div-one w)

-- the level cleared
pub low_word : (w : ℕ) → line_of (bit_and w 0xffff_ffff_ffff_fffe) ≡ record { high = false; pending = (line_of w).pending; wishes = (line_of w).wishes }
low_word w = and-line w 0xffff_ffff_ffff_fffe

-- level and pending flag set
pub rise-word : (w : ℕ) → line_of (bit_or w 3) ≡ record { high = true; pending = true; wishes = (line_of w).wishes }
rise-word w = or-line w 3

-- timer i's wish set, and taken back
module _ (w : ℕ) where
  pub wish-word : (i : ℕ) → i < 8 → line_of (bit_or w (4 * 2 ^ i % 18446744073709551616)) ≡ record { high = (line_of w).high; pending = (line_of w).pending; wishes = set (line_of w).wishes i true }
  wish-word zero h = or-line w 4 ∙ rw (div-one w)
  wish-word (suc zero) h = or-line w 8 ∙ rw (div-one w)
  wish-word (suc (suc zero)) h = or-line w 16 ∙ rw (div-one w)
  wish-word (suc (suc (suc zero))) h = or-line w 32 ∙ rw (div-one w)
  wish-word (suc (suc (suc (suc zero)))) h = or-line w 64 ∙ rw (div-one w)
  wish-word (suc (suc (suc (suc (suc zero))))) h = or-line w 128 ∙ rw (div-one w)
  wish-word (suc (suc (suc (suc (suc (suc zero)))))) h = or-line w 256 ∙ rw (div-one w)
  wish-word (suc (suc (suc (suc (suc (suc (suc zero))))))) h = or-line w 512 ∙ rw (div-one w)
  wish-word (suc (suc (suc (suc (suc (suc (suc (suc i)))))))) h = absurd (omega arith)

  pub unwish-word : (i : ℕ) → i < 8 → line_of (bit_and w (0xffff_ffff_ffff_ffff - 4 * 2 ^ i % 18446744073709551616)) ≡ record { high = (line_of w).high; pending = (line_of w).pending; wishes = set (line_of w).wishes i false }
  unwish-word zero h = and-line w 0xffff_ffff_ffff_fffb ∙ rw (div-one w)
  unwish-word (suc zero) h = and-line w 0xffff_ffff_ffff_fff7 ∙ rw (div-one w)
  unwish-word (suc (suc zero)) h = and-line w 0xffff_ffff_ffff_ffef ∙ rw (div-one w)
  unwish-word (suc (suc (suc zero))) h = and-line w 0xffff_ffff_ffff_ffdf ∙ rw (div-one w)
  unwish-word (suc (suc (suc (suc zero)))) h = and-line w 0xffff_ffff_ffff_ffbf ∙ rw (div-one w)
  unwish-word (suc (suc (suc (suc (suc zero))))) h = and-line w 0xffff_ffff_ffff_ff7f ∙ rw (div-one w)
  unwish-word (suc (suc (suc (suc (suc (suc zero)))))) h = and-line w 0xffff_ffff_ffff_feff ∙ rw (div-one w)
  unwish-word (suc (suc (suc (suc (suc (suc (suc zero))))))) h = and-line w 0xffff_ffff_ffff_fdff ∙ rw (div-one w)
  unwish-word (suc (suc (suc (suc (suc (suc (suc (suc i)))))))) h = absurd (omega arith)

-- ---- whether there is a wish

or-false : (a b : Bool) → a || b ≡ false → (a ≡ false) × (b ≡ false)
or-false true b h = (h, absurd (false≢true (sym h)))
or-false false b h = (refl, h)

-- none is set: the eight bits are 0
pub none-wishes : (w : ℕ) → w / 4 % 256 ≡ 0 → some (line_of w).wishes ≡ false
unfolding some
none-wishes w h =
    let no : (k : ℕ) → k ≡ 0 → eqb k 1 ≡ false = (λ k e. ap (λ (n : ℕ). eqb n 1) e) in
    rw (
      no (w / 4 % 2) (omega arith),
      no (w / 8 % 2) (omega arith),
      no (w / 16 % 2) (omega arith),
      no (w / 32 % 2) (omega arith),
      no (w / 64 % 2) (omega arith),
      no (w / 128 % 2) (omega arith),
      no (w / 256 % 2) (omega arith),
      no (w / 512 % 2) (omega arith),
    )

pub some-wishes : (w : ℕ) → (w / 4 % 256 ≡ 0 → ⊥) → some (line_of w).wishes ≡ true
unfolding some
some-wishes w h = go (some (line_of w).wishes) refl
  where
    zero_bit : (k : ℕ) → k < 2 → eqb k 1 ≡ false → k ≡ 0
    zero_bit zero l e = refl
    zero_bit (suc zero) l e = absurd (false≢true (sym e))
    zero_bit (suc (suc k)) l e = absurd (omega arith)

    double : (x y j : ℕ) → x / 2 ≡ y → x % 2 ≡ 0 → y % 2 ^ j ≡ 0 → x % 2 ^ (j + 1) ≡ 0
    double x y j e l k = mod-pow-add x j 1 ∙ rw (e, l, k)

    go : (b : Bool) → some (line_of w).wishes ≡ b → b ≡ true
    go true e = refl
    go false e =
        let e0 = or-false _ _ e in
        let e1 = or-false _ _ e0.1 in
        let e2 = or-false _ _ e1.1 in
        let e3 = or-false _ _ e2.1 in
        let e4 = or-false _ _ e3.1 in
        let e5 = or-false _ _ e4.1 in
        let e6 = or-false _ _ e5.1 in
        let e7 = or-false _ _ e6.1 in
        let z0 : w / 4 % 2 ≡ 0 = zero_bit (w / 4 % 2) (mod-lt (w / 4) (lit< tt)) e0.0 in
        let z1 : w / 8 % 2 ≡ 0 = zero_bit (w / 8 % 2) (mod-lt (w / 8) (lit< tt)) e1.0 in
        let z2 : w / 16 % 2 ≡ 0 = zero_bit (w / 16 % 2) (mod-lt (w / 16) (lit< tt)) e2.0 in
        let z3 : w / 32 % 2 ≡ 0 = zero_bit (w / 32 % 2) (mod-lt (w / 32) (lit< tt)) e3.0 in
        let z4 : w / 64 % 2 ≡ 0 = zero_bit (w / 64 % 2) (mod-lt (w / 64) (lit< tt)) e4.0 in
        let z5 : w / 128 % 2 ≡ 0 = zero_bit (w / 128 % 2) (mod-lt (w / 128) (lit< tt)) e5.0 in
        let z6 : w / 256 % 2 ≡ 0 = zero_bit (w / 256 % 2) (mod-lt (w / 256) (lit< tt)) e6.0 in
        let z7 : w / 512 % 2 ≡ 0 = zero_bit (w / 512 % 2) (mod-lt (w / 512) (lit< tt)) e7.0 in
        let y6 : w / 256 % 4 ≡ 0 = double (w / 256) (w / 512) 1 (shr-shr w 8 1) z6 z7 in
        let y5 : w / 128 % 8 ≡ 0 = double (w / 128) (w / 256) 2 (shr-shr w 7 1) z5 y6 in
        let y4 : w / 64 % 16 ≡ 0 = double (w / 64) (w / 128) 3 (shr-shr w 6 1) z4 y5 in
        let y3 : w / 32 % 32 ≡ 0 = double (w / 32) (w / 64) 4 (shr-shr w 5 1) z3 y4 in
        let y2 : w / 16 % 64 ≡ 0 = double (w / 16) (w / 32) 5 (shr-shr w 4 1) z2 y3 in
        let y1 : w / 8 % 128 ≡ 0 = double (w / 8) (w / 16) 6 (shr-shr w 3 1) z1 y2 in
        let y0 : w / 4 % 256 ≡ 0 = double (w / 4) (w / 8) 7 (shr-shr w 2 1) z0 y1 in
        absurd (h y0)

-- ---- lines of words

map-set : (ws : List ℕ) (i x : ℕ) → lines_of (set ws i x) ≡ set (lines_of ws) i (line_of x)
map-set [] i x = refl
map-set (w ∷ ws) zero x = refl
map-set (w ∷ ws) (suc i) x = ap (λ ls. line_of w ∷ ls) (map-set ws i x)

-- the line at a place is what the word there holds
pub word_at : (ws : List ℕ) (n irq : ℕ) → ltb irq n ≡ true → line_at (nvic_of n ws) irq ≡ line_of (get_or ws irq 0)
unfolding line_at
word_at ws n irq h = rw h (get_or-map line_of ws irq 0)

-- a word stored for a line is a change of that line
pub stored : (f : Line → Line) (ws : List ℕ) (n irq x : ℕ) → ltb irq n ≡ true → line_of x ≡ f (line_of (get_or ws irq 0))
    → nvic_of n (set ws irq x) ≡ on_line f (nvic_of n ws) irq
unfolding on_line
stored f ws n irq x h e = rw (h, word_at ws n irq h, map-set ws irq x, e)

on_line_lem : (f : Line → Line) (n : Nvic) (irq : ℕ) → ltb irq n.nirq ≡ true
    → on_line f n irq ≡ record { nirq = n.nirq; lines = set n.lines irq (f (line_at n irq)) }
unfolding on_line
on_line_lem f n irq h = rw h

-- without such a line nothing changes
pub no_line : (f : Line → Line) (n : Nvic) (irq : ℕ) → ltb irq n.nirq ≡ false → on_line f n irq ≡ n
unfolding on_line
no_line f n irq h = rw h

-- the line at j goes by the list's element at j
there : (n : Nvic) (j : ℕ) (ls : List Line) → get_or ls j idle ≡ get_or n.lines j idle → line_at (record { nirq = n.nirq; lines = ls }) j ≡ line_at n j
unfolding line_at
there n j ls e = rw e

-- a line at or above the line count reads 0
pub absent : (n : Nvic) (irq : ℕ) → n.nirq ≤ irq → state_of (line_at n irq) ≡ 0
unfolding line_at
absent n irq h = rw (le-ltb irq n.nirq h)

-- a change of one line leaves every other
pub other : (f : Line → Line) (n : Nvic) (irq j : ℕ) → j ≢ irq → line_at (on_line f n irq) j ≡ line_at n j
other f n irq j h = go (ltb irq n.nirq) refl
  where
    go : (b : Bool) → ltb irq n.nirq ≡ b → line_at (on_line f n irq) j ≡ line_at n j
    go false e = rw (no_line f n irq e)
    go true e = rw (on_line_lem f n irq e) (there n j (set n.lines irq (f (line_at n irq))) (get_or-set_other n.lines irq j (f (line_at n irq)) idle h))

-- a change of a line that exists is read back
pub same : (f : Line → Line) (n : Nvic) (irq : ℕ) → irq < n.nirq → n.nirq ≤ length n.lines → line_at (on_line f n irq) irq ≡ f (line_at n irq)
unfolding line_at
same f n irq h k =
    rw (on_line_lem f n irq (lt-ltb irq n.nirq h), lt-ltb irq n.nirq h, get_or-set_same n.lines irq (f (get_or n.lines irq idle)) idle (omega arith))
