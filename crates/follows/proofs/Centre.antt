-- DIR and CMS in CR1, and what centre-aligned counting rests on. Assumes nothing.
use Prim.Native.Nat.{ℕ, zero, suc, ◌-◌, ◌/◌, ◌%◌, ◌^◌, ◌<◌}
use mathlib.Core.Path.{◌≡◌, refl, ◌∙◌}
use mathlib.Core.Bool.{Bool, true, false, not, ◌&&◌}
use native.Mathlib.Nat.{mod-mod, mod-lt}
use native.Mathlib.Omega.{arith}
use lib.Dec.{eqb, lit<}
use lib.Bits.{bit_and, bit_or, or_shr, or_mod, or_zero_r, and_shr, and_mod, and_mask, and_zero_r}
use Rattle.rm0440.specs.Bits.{field, DIR}
use Rattle.rm0440.specs.Rules.{Rules}
use Rattle.rm0440.specs.State.{Timer, down, CMS, centre, with_bit}
use Rattle.rm0440.specs.Clock.{wraps}
use Rattle.follows.proofs.Place.{turns}

-- ---- DIR written leaves the other bits

other-set : (k n x : ℕ) → 16 / 2 ^ k % 2 ^ n ≡ 0 → field k n (bit_or x 16) ≡ field k n x
other-set k n x h = rw (or_shr x 16 k, or_mod (x / 2 ^ k) (16 / 2 ^ k) n, h) (or_zero_r (x / 2 ^ k % 2 ^ n))

other-clear : (k n x : ℕ) → 0xffff_ffef / 2 ^ k % 2 ^ n ≡ 2 ^ n - 1 → field k n (bit_and x 0xffff_ffef) ≡ field k n x
other-clear k n x h =
    rw (and_shr x 0xffff_ffef k, and_mod (x / 2 ^ k) (0xffff_ffef / 2 ^ k) n, h) (and_mask (x / 2 ^ k % 2 ^ n) n ∙ mod-mod (x / 2 ^ k) (2 ^ n))

other : (k n x : ℕ) (b : Bool) → 16 / 2 ^ k % 2 ^ n ≡ 0 → 0xffff_ffef / 2 ^ k % 2 ^ n ≡ 2 ^ n - 1 → field k n (with_bit 4 b x) ≡ field k n x
other k n x true p q = other-set k n x p
other k n x false p q = other-clear k n x q

pub cms-stays : (b : Bool) (x : ℕ) → CMS (with_bit 4 b x) ≡ CMS x
cms-stays b x = other 5 2 x b refl refl

one_bit : (y : ℕ) → y < 2 → bit_or y 1 ≡ 1
one_bit zero h = refl
one_bit (suc zero) h = refl
one_bit (suc (suc y)) h = absurd (omega arith)

pub dir-is : (b : Bool) (x : ℕ) → DIR (with_bit 4 b x) ≡ b
dir-is true x = rw (or_shr x 16 4, or_mod (x / 16) 1 1, one_bit (x / 16 % 2) (mod-lt (x / 16) (lit< tt)))
dir-is false x = rw (and_shr x 0xffff_ffef 4, and_mod (x / 16) 0xfff_fffe 1, and_zero_r (x / 16 % 2))

-- ---- centre-aligned counting

pub centre-channels : (r : Rules) (t : Timer) → centre r t ≡ true → eqb t.channels 0 ≡ false
centre-channels r t h = go r.centre-aligned (eqb t.channels 0) h
  where
    go : (m z : Bool) → m && (not z && not (eqb (CMS t.cr1) 0)) ≡ true → z ≡ false
    go true false h = refl
    go true true h = absurd (let q : ◌≡◌ {A = ℕ} 0 1 = cc in omega arith)
    go false z h = absurd (let q : ◌≡◌ {A = ℕ} 0 1 = cc in omega arith)

pub centre-rule : (r : Rules) (t : Timer) → centre r t ≡ true → r.centre-aligned ≡ true
centre-rule r t h = go r.centre-aligned h
  where
    go : (m : Bool) → m && (not (eqb t.channels 0) && not (eqb (CMS t.cr1) 0)) ≡ true → m ≡ true
    go true h = refl
    go false h = h

-- without the manual's rule of counters above the reload, the steps that wrap are those of Place
pub wraps-is : (r : Rules) (t : Timer) → r.above-reload ≡ false → wraps r t ≡ turns (centre r t) t.arr (down t) t.cnt
unfolding wraps
wraps-is r t rule = rw rule
