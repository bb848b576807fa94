-- A digit stored, and a digit fewer to store.
use mathlib.Core.Path.{◌≡◌, refl, ◌∙◌}
use mathlib.Core.List.{List, ◌∷◌, ◌++◌, append_assoc}
use Prim.Native.Nat.{ℕ, zero, suc, ◌+◌, ◌-◌, ◌/◌, ◌%◌, ◌<◌, ◌≤◌}
use native.Mathlib.Omega.{arith}
use lib.ListN.{length, drop, set, length-set}
use lib.Seq.{drop-cons, drop-set-lt, get_or-set_same}
use Rattle.text.specs.Digits.{last_digits}

pub spell_step : (j n : ℕ) (out : List ℕ) → j < length out → last_digits j (n / 10) ++ drop j (set out j (48 + n % 10)) ≡ last_digits (suc j) n ++ drop (suc j) out
unfolding last_digits
spell_step j n out h =
    let d : ℕ = 48 + n % 10 in
    let out₁ : List ℕ = set out j d in
    let t : drop j out₁ ≡ d ∷ drop (suc j) out = drop-cons out₁ j 0 (rw (length-set out j d) h) ∙ rw (get_or-set_same out j d 0 h, drop-set-lt (suc j) out j d (omega arith)) in
    rw (t, append_assoc) refl

-- the code's place is i - 1
pub spell_turn : (i n : ℕ) (out : List ℕ) → 0 < i → i ≤ length out → last_digits (i - 1) (n / 10) ++ drop (i - 1) (set out (i - 1) (48 + n % 10)) ≡ last_digits i n ++ drop i out
spell_turn zero n out h k = absurd (omega arith)
spell_turn (suc j) n out h k = let e : suc j - 1 ≡ j = omega arith in rw e (spell_step j n out (omega arith))

pub spell_done : (i n : ℕ) (out : List ℕ) → i ≤ 0 → out ≡ last_digits i n ++ drop i out
unfolding last_digits
spell_done i n out h = let e : i ≡ 0 = omega arith in rw e
