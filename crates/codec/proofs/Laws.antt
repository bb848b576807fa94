-- What decodes to a timer's channels: a number below its field's bound is its own remainder, and an array is the list of its elements.
-- Assumes nothing.
use mathlib.Core.Path.{◌≡◌, refl}
use mathlib.Core.List.{List, [], ◌∷◌}
use mathlib.Core.Bool.{false}
use Prim.Native.Nat.{ℕ, ◌%◌}
use native.Mathlib.Omega.{arith}
use lib.ListN.{get_or, length}
use mir.Syntax.{w32}
use mir.Val.{Fits, bool_byte}
use Rattle.tim.specs.declared.Chan.{Chan}
use Rattle.codec.proofs.PinLaws.{flag}
use Rattle.codec.specs.Codec.{chan_at}

word : {x : ℕ} → Fits w32 x → x % 4294967296 ≡ x
word h = omega arith

module _ {A : Type 0} (d : A) where
  two : (xs : List A) → length xs ≡ 2 → get_or xs 0 d ∷ get_or xs 1 d ∷ [] ≡ xs
  two [] h = absurd (omega arith)
  two (a ∷ []) h = absurd (omega arith)
  two (a ∷ b ∷ []) h = refl
  two (a ∷ b ∷ e ∷ xs) h = absurd (omega arith)

  four : (xs : List A) → length xs ≡ 4 → get_or xs 0 d ∷ get_or xs 1 d ∷ get_or xs 2 d ∷ get_or xs 3 d ∷ [] ≡ xs
  four [] h = absurd (omega arith)
  four (a ∷ []) h = absurd (omega arith)
  four (a ∷ b ∷ []) h = absurd (omega arith)
  four (a ∷ b ∷ e ∷ []) h = absurd (omega arith)
  four (a ∷ b ∷ e ∷ f ∷ []) h = refl
  four (a ∷ b ∷ e ∷ f ∷ g ∷ xs) h = absurd (omega arith)

pub chan : (t : Chan) → length t.ccmr ≡ 2 → length t.ccr ≡ 4 → length t.ccr_act ≡ 4 → length t.cc_done ≡ 4 → length t.oc ≡ 4
    → ((k : ℕ) → Fits w32 (get_or t.ccmr k 0)) → ((k : ℕ) → Fits w32 (get_or t.ccr k 0)) → ((k : ℕ) → Fits w32 (get_or t.ccr_act k 0))
    → chan_at
    (get_or t.ccmr 0 0 ∷ get_or t.ccmr 1 0
    ∷ get_or t.ccr 0 0 ∷ get_or t.ccr 1 0 ∷ get_or t.ccr 2 0 ∷ get_or t.ccr 3 0
    ∷ get_or t.ccr_act 0 0 ∷ get_or t.ccr_act 1 0 ∷ get_or t.ccr_act 2 0 ∷ get_or t.ccr_act 3 0
    ∷ bool_byte (get_or t.cc_done 0 false) ∷ bool_byte (get_or t.cc_done 1 false) ∷ bool_byte (get_or t.cc_done 2 false) ∷ bool_byte (get_or t.cc_done 3 false)
    ∷ bool_byte (get_or t.oc 0 false) ∷ bool_byte (get_or t.oc 1 false) ∷ bool_byte (get_or t.oc 2 false) ∷ bool_byte (get_or t.oc 3 false) ∷ []) 0
    ≡ t
chan t l₁ l₂ l₃ l₄ l₅ f g h =
    simp (
      word (f 0),
      word (f 1),
      word (g 0),
      word (g 1),
      word (g 2),
      word (g 3),
      word (h 0),
      word (h 1),
      word (h 2),
      word (h 3),
      flag (get_or t.cc_done 0 false),
      flag (get_or t.cc_done 1 false),
      flag (get_or t.cc_done 2 false),
      flag (get_or t.cc_done 3 false),
      flag (get_or t.oc 0 false),
      flag (get_or t.oc 1 false),
      flag (get_or t.oc 2 false),
      flag (get_or t.oc 3 false),
      two 0 t.ccmr l₁,
      four 0 t.ccr l₂,
      four 0 t.ccr_act l₃,
      four false t.cc_done l₄,
      four false t.oc l₅,
    )
