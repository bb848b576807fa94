-- The words after the routes and the signal levels were made anew. Assumes nothing.
use mathlib.Core.Path.{◌≡◌, refl, ap, ◌∙◌}
use mathlib.Core.Bool.{Bool, true, false, cond}
use mathlib.Core.List.{List, ◌∷◌}
use Prim.Native.Nat.{ℕ, zero, suc, ◌%◌}
use native.Mathlib.Omega.{arith}
use lib.Dec.{lit≤}
use lib.Ieee.{Float, nan}
use lib.ListN.{set, length, replicate}
use lib.Seq.{paste, length-paste}
use native.Mathlib.Numerals.{add-one}
use Rattle.sig.specs.Signal.{is_uart, idle_level}
use Rattle.machine.specs.Board.{with_pads, idle_levels}
use Rattle.machine.specs.Sys.{unrouted}
use Rattle.state.specs.Parts.{start, parts, listed, repeated}
use Rattle.state.proofs.Cut.{length-listed, map-listed, parts_whole}
use Rattle.state.specs.View.{sizes, real_sizes, view, board_of, held_pin, held_level}

pub alike : {A : Type 0} (a : A) (k n : ℕ) → listed (λ j. a) k n ≡ replicate n a
unfolding listed
alike a k zero = refl
alike {A} a k (suc n) = ap (λ (l : List A). a ∷ l) (alike a (suc k) n)

pub idle-list : (k n : ℕ) → listed idle_level k n ≡ idle_levels k n
unfolding listed idle_levels
idle-list k zero = refl
idle-list k (suc n) = rw (add-one k, idle-list (suc k) n)

bit-level : (b : Bool) → cond b 1 0 % 2 ≡ cond b 1 0
bit-level true = refl
bit-level false = refl

idle : (k n : ℕ) → listed (λ j. held_level (idle_level j)) k n ≡ idle_levels k n
unfolding listed idle_levels
idle k zero = refl
idle k (suc n) = rw (bit-level (is_uart k 0), add-one k, idle (suc k) n)

module _ (w₀ w₁ w₂ : List ℕ) (x : List Float) (size : length w₀ ≡ 5276)
    (e₁ : w₁ ≡ paste w₀ 348 (repeated 256 128) 256)
    (e₂ : w₂ ≡ paste w₁ 604 (listed idle_level 0 256) 256) where
  length₁ : length w₁ ≡ 5276
  length₁ = ap length e₁ ∙ length-paste w₀ 348 (repeated 256 128) 256 (omega arith) (omega (arith, length-listed {A = ℕ} (λ k. 128) 0 256)) ∙ size

  both : parts 0 sizes w₂ ≡ set (set (parts 0 sizes w₀) 6 (repeated 256 128)) 7 (listed idle_level 0 256)
  unfolding start
  both =
      ap (parts 0 sizes) e₂
      ∙ parts_whole 0 sizes 7 (listed idle_level 0 256) w₁ (lit≤ tt) (length-listed idle_level 0 256) (omega (arith, length₁))
      ∙ ap (λ (z : List (List ℕ)). set z 7 (listed idle_level 0 256))
      (ap (parts 0 sizes) e₁ ∙ parts_whole 0 sizes 6 (repeated 256 128) w₀ (lit≤ tt) (length-listed (λ k. 128) 0 256) (omega (arith, size)))

  pub unrouted-view : view w₂ x ≡ with_pads (view w₀ x) (unrouted (view w₀ x).pads)
  unfolding view parts start unrouted
  unrouted-view =
      ap (λ (ws : List (List ℕ)). board_of ws (parts nan real_sizes x)) both
      ∙ rw (map-listed held_pin (λ k. 128) 0 256, alike {A = ℕ} 128 0 256, map-listed held_level idle_level 0 256, idle 0 256)
