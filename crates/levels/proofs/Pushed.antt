-- A few words and a real of a pin stored: the pin driven at a level. Assumes nothing.
use mathlib.Core.Path.{◌≡◌, refl, ap, sym, ◌∙◌}
use mathlib.Core.Bool.{Bool, true, false}
use mathlib.Core.List.{List, [], ◌∷◌}
use Prim.Native.Nat.{ℕ, ◌+◌, ◌*◌, ◌/◌, ◌%◌, ◌<◌, ◌≤◌}
use native.Mathlib.Nat.{zero-add, add-zero, add_assoc}
use native.Mathlib.Omega.{arith}
use borrow.Author.Tests.{eqb-true, eqb-false}
use lib.Dec.{eqb, lit≤}
use lib.ListN.{length, get_or, set, drop, length-set}
use lib.Seq.{get_or-set_same, get_or-set_other, set-get_or, set-set, get_or-drop}
use lib.Ieee.{Float, nan}
use Rattle.gpio.specs.declared.Gpio.{Gpio}
use Rattle.codec.specs.Pin.{decode_gpio}
use Rattle.pins.specs.Pins.{by_chip, source_of, supply_at}
use Rattle.gpio.specs.Gpio.{bit, push_pull}
use Rattle.machine.specs.Board.{no_gpio}
use Rattle.state.specs.Board.{pin_at, with_gpios, pin_set}
use Rattle.state.specs.Parts.{start, front, parts, blocks}
use Rattle.state.proofs.Cut.{front_at, parts-set, block-set, part-block, length-parts, length_part, length-blocks, length-block}
use Rattle.state.specs.View.{sizes, real_sizes, view, board_of, gpios_of}
use Rattle.state.proofs.Places.{gpios-at}
use Rattle.state.proofs.Stores.{gpios-set}

-- a word, and its place counted from some base
pub record Store : Type 0 where
  pub place : ℕ
  pub word : ℕ

unfoldable pub stored : List ℕ → ℕ → List Store → List ℕ
stored l base [] = l
stored l base (s ∷ ss) = stored (set l (base + s.place) s.word) base ss

abbrev Within : ℕ → List Store → Type 0
Within n [] = Unit {0}
Within n (s ∷ ss) = (s.place < n) × Within n ss

-- stores in part i of a list, if each of them is a store to the part
module _ (P : List ℕ → List (List ℕ)) (i n m base off : ℕ) (in_parts : (l : List ℕ) → i < length (P l))
    (one : (l : List ℕ) (k v : ℕ) → length l ≡ n → k < m → P (set l (base + k) v) ≡ set (P l) i (set (get_or (P l) i []) (off + k) v)) where
  part-stored : (ss : List Store) (l : List ℕ) → length l ≡ n → Within m ss → P (stored l base ss) ≡ set (P l) i (stored (get_or (P l) i []) off ss)
  unfolding stored
  part-stored [] l e h = sym (set-get_or (P l) i [])
  part-stored (s ∷ ss) l e h =
      let q : List ℕ = set (get_or (P l) i []) (off + s.place) s.word in
      part-stored ss (set l (base + s.place) s.word) (length-set l (base + s.place) s.word ∙ e) h.1
      ∙ ap (λ (z : List (List ℕ)). set z i (stored (get_or z i []) off ss)) (one l s.place s.word e h.0)
      ∙ ap (λ (z : List ℕ). set (set (P l) i q) i (stored z off ss)) (get_or-set_same (P l) i q [] (in_parts l))
      ∙ set-set (P l) i q (stored q off ss)

module _ (p : ℕ) (h : p < 128) where
  in_words : (ss : List Store) (w : List ℕ) → length w ≡ 5276 → Within 16 ss
      → parts 0 sizes (stored w (1116 + p * 16) ss) ≡ set (parts 0 sizes w) 9 (stored (get_or (parts 0 sizes w) 9 []) (p * 16) ss)
  unfolding start
  in_words =
      part-stored (parts 0 sizes) 9 5276 16 (1116 + p * 16) (p * 16) (λ l. omega (arith, length-parts 0 sizes l))
      (λ l k v e g. ap (λ (n : ℕ). parts 0 sizes (set l n v)) (add_assoc 1116 (p * 16) k) ∙ parts-set 0 sizes 9 (p * 16 + k) v l (omega arith) (omega arith))

  in_blocks : (ss : List Store) (l : List ℕ) → length l ≡ 2048 → Within 16 ss
      → blocks 0 128 16 (stored l (p * 16) ss) ≡ set (blocks 0 128 16 l) p (stored (get_or (blocks 0 128 16 l) p []) 0 ss)
  in_blocks =
      part-stored (blocks 0 128 16) p 2048 16 (p * 16) 0 (λ l. omega (arith, length-blocks 0 128 16 l))
      (λ l k v e g. block-set 0 128 16 p h k v l g (omega arith) ∙ ap (λ (n : ℕ). set (blocks 0 128 16 l) p (set (get_or (blocks 0 128 16 l) p []) n v)) (sym (zero-add k)))

  module _ (w : List ℕ) (x : List Float) (size : length w ≡ 5276) (reals : length x ≡ 264) where
    abbrev words : List ℕ
    words = front 0 16 (drop (1116 + p * 16) w)

    abbrev pair : List Float
    pair = get_or (blocks nan 128 2 (get_or (parts nan real_sizes x) 0 [])) p []

    held : pin_at (view w x) p ≡ decode_gpio words (get_or pair 0 nan) (get_or pair 1 nan)
    unfolding view start
    held =
        let bs : List (List ℕ) = blocks 0 128 16 (get_or (parts 0 sizes w) 9 []) in
        gpios-at bs (blocks nan 128 2 (get_or (parts nan real_sizes x) 0 [])) p no_gpio (omega (arith, length-blocks 0 128 16 (get_or (parts 0 sizes w) 9 [])))
        ∙ ap (λ (b : List ℕ). decode_gpio b (get_or pair 0 nan) (get_or pair 1 nan)) (part-block 0 sizes 9 128 16 p w (lit≤ tt) h (lit≤ tt))

    pin-stored : (ss : List Store) → Within 16 ss → (v : Float)
        → view (stored w (1116 + p * 16) ss) (set x (0 + p * 2) v) ≡ pin_set (view w x) p (decode_gpio (stored words 0 ss) v (get_or pair 1 nan))
    unfolding view parts start
    pin-stored ss g v =
        let bs : List ℕ = get_or (parts 0 sizes w) 9 [] in
        let rs : List Float = get_or (parts nan real_sizes x) 0 [] in
        let b : List ℕ = stored (get_or (blocks 0 128 16 bs) p []) 0 ss in
        let first : get_or (set pair 0 v) 0 nan ≡ v = get_or-set_same pair 0 v nan (omega (arith, length-block nan 128 2 p rs h)) in
        let second : get_or (set pair 0 v) 1 nan ≡ get_or pair 1 nan = get_or-set_other pair 0 1 v nan (λ e. omega arith) in
        ap (λ (ws : List (List ℕ)). board_of ws (parts nan real_sizes (set x (0 + p * 2) v))) (in_words ss w size g)
        ∙ ap (board_of (set (parts 0 sizes w) 9 (stored bs (p * 16) ss))) (parts-set nan real_sizes 0 (p * 2) v x (omega arith) (omega arith))
        ∙ ap (with_gpios (view w x))
        (ap (λ (z : List (List ℕ)). gpios_of z (blocks nan 128 2 (set rs (p * 2) v))) (in_blocks ss bs (length_part 0 sizes 9 w) g)
        ∙ ap (λ (k : ℕ). gpios_of (set (blocks 0 128 16 bs) p b) (blocks nan 128 2 (set rs k v))) (sym (add-zero (p * 2)))
        ∙ ap (gpios_of (set (blocks 0 128 16 bs) p b)) (block-set nan 128 2 p h 0 v rs (lit≤ tt) (omega (arith, length_part nan real_sizes 0 x)))
        ∙ gpios-set (blocks 0 128 16 bs) (blocks nan 128 2 rs) p b (set pair 0 v) (omega (arith, length-blocks 0 128 16 bs)) (omega (arith, length-blocks nan 128 2 rs))
        ∙ ap (set (gpios_of (blocks 0 128 16 bs) (blocks nan 128 2 rs)) p)
        (ap (λ (f : Float). decode_gpio b f (get_or (set pair 0 v) 1 nan)) first
        ∙ ap (decode_gpio b v) second
        ∙ ap (λ (z : List ℕ). decode_gpio (stored z 0 ss) v (get_or pair 1 nan)) (part-block 0 sizes 9 128 16 p w (lit≤ tt) h (lit≤ tt))))

-- ---- the words of a pin that its signal drives
abbrev pub driven : ℕ → ℕ → ℕ → List Store
driven up down level =
    record { place = 5; word = 1 }
    ∷ record { place = 7; word = up }
    ∷ record { place = 8; word = down }
    ∷ record { place = 9; word = 1 }
    ∷ record { place = 10; word = level }
    ∷ record { place = 11; word = 0 }
    ∷ record { place = 12; word = 0 }
    ∷ record { place = 14; word = level + 2 }
    ∷ []

-- a flag as a word
flag_word : (n : ℕ) → n % 2 % 256 ≡ bit (eqb (n % 2) 1)
flag_word n = go (eqb (n % 2) 1) refl
  where
    go : (b : Bool) → eqb (n % 2) 1 ≡ b → n % 2 % 256 ≡ bit b
    go true e = omega (arith, eqb-true (n % 2) 1 e)
    go false e = omega (arith, eqb-false (n % 2) 1 e)

decode-driven : (l : List ℕ) (v u vcc : Float) (level : ℕ) → level ≤ 1
    → decode_gpio (stored (front 0 16 l) 0 (driven (get_or (front 0 16 l) 3 0 % 2) (get_or (front 0 16 l) 4 0 % 2) level)) (supply_at vcc level) u
    ≡ push_pull (decode_gpio (front 0 16 l) v u) level vcc
unfolding decode_gpio stored front push_pull
decode-driven l v u vcc level h =
    let e : level % 2 ≡ level = omega arith in
    let lowest : (level + 2) % 2 ≡ level = omega arith in
    let one : (level + 2) / 2 ≡ 1 = omega arith in
    let source : source_of ((level + 2) / 2 % 4) ≡ by_chip = ap (λ (n : ℕ). source_of (n % 4)) one in
    rw (e, lowest, source, flag_word (get_or (front 0 16 l) 3 0), flag_word (get_or (front 0 16 l) 4 0))

module _ (w : List ℕ) (x : List Float) (size : length w ≡ 5276) (reals : length x ≡ 264) (p : ℕ) (h : p < 128) where
  pub driven-set : (level : ℕ) → level ≤ 1 → (v : Float) → v ≡ supply_at (view w x).pads.vcc level
      → view (stored w (1116 + p * 16) (driven (get_or w (1116 + p * 16 + 3) 0 % 2) (get_or w (1116 + p * 16 + 4) 0 % 2) level)) (set x (0 + p * 2) v)
      ≡ pin_set (view w x) p (push_pull (pin_at (view w x) p) level (view w x).pads.vcc)
  driven-set level k v e =
      let at : ℕ = 1116 + p * 16 in
      let l : List ℕ = drop at w in
      let b : List ℕ = front 0 16 l in
      let vcc : Float = (view w x).pads.vcc in
      let u : Float = get_or (pair p h w x size reals) 1 nan in
      let word : (k : ℕ) → k < 16 → get_or w (at + k) 0 ≡ get_or (front 0 16 l) k 0 = (λ k g. sym (front_at 0 16 l k g ∙ get_or-drop at w k 0)) in
      ap (λ (f : Float). view (stored w at (driven (get_or w (at + 3) 0 % 2) (get_or w (at + 4) 0 % 2) level)) (set x (0 + p * 2) f)) e
      ∙ pin-stored p h w x size reals (driven (get_or w (at + 3) 0 % 2) (get_or w (at + 4) 0 % 2) level)
      (lit≤ tt, (lit≤ tt, (lit≤ tt, (lit≤ tt, (lit≤ tt, (lit≤ tt, (lit≤ tt, (lit≤ tt, tt)))))))) (supply_at vcc level)
      ∙ ap (pin_set (view w x) p)
      (ap (λ (n : ℕ). decode_gpio (stored b 0 (driven (n % 2) (get_or w (at + 4) 0 % 2) level)) (supply_at vcc level) u) (word 3 (lit≤ tt))
      ∙ ap (λ (n : ℕ). decode_gpio (stored b 0 (driven (get_or b 3 0 % 2) (n % 2) level)) (supply_at vcc level) u) (word 4 (lit≤ tt))
      ∙ decode-driven l (get_or (pair p h w x size reals) 0 nan) u vcc level k
      ∙ ap (λ (g : Gpio). push_pull g level vcc) (sym (held p h w x size reals)))
