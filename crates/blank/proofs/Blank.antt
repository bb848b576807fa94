-- What the cleared words and reals hold. Assumes nothing.
use mathlib.Core.Path.{◌≡◌, refl, ap, sym, subst, ◌∙◌}
use mathlib.Core.Bool.{Bool, true, false, cond}
use mathlib.Core.List.{List, [], ◌∷◌, ◌++◌, map}
use Prim.Native.Nat.{ℕ, zero, suc, ◌+◌, ◌-◌, ◌*◌, ◌%◌, ◌<◌, ◌≤◌}
use Rattle.std.proofs.Common.{append_assoc}
use native.Mathlib.Nat.{zero-add}
use native.Mathlib.Numerals.{add-one}
use native.Mathlib.Omega.{arith}
use lib.Dec.{lit≤}
use borrow.Rule.Slice.PartMut.{mid_of, post_of, put_mid, mid_len, Post-is}
use lib.ListN.{length, get_or, set, take, drop, replicate, length-map}
use lib.Seq.{get_or-drop, take_all, paste, paste-suc, length-paste}
use lib.Ieee.{Float, nan}
use Rattle.real.specs.Real.{zero_float}
use Rattle.clk.specs.Clk.{flat_tree}
use Rattle.pins.specs.Clock.{new_clock}
use Rattle.nvic.specs.Nvic.{line_of, idle}
use Rattle.scheduler.specs.Booking.{never}
use Rattle.sig.specs.Signal.{is_uart, idle_level}
use Rattle.codec.specs.Codec.{decode_timer}
use Rattle.machine.specs.Board.{Board, blank_gpio}
use Rattle.codec.specs.Pin.{decode_gpio, ext_of}
use Rattle.state.specs.Board.{Divided, with_vcc, with_tree, with_clock}
use Rattle.state.specs.Parts.{start, parts, blocks, listed, repeated}
use Rattle.state.proofs.Cut.{length-listed, listed_at, repeated-at, listed-ext, all_one, map-listed, map_at, front_at, front-filler, parts_whole, parts-filler, paste_all, block-front, length-blocks, part_at, length_part}
use Rattle.state.specs.View.{sizes, real_sizes, view, gpios_of, held_signal, held_pin, held_level, held_enable}
use Rattle.blank.specs.Fresh.{blank_parts}
use Rattle.state.proofs.InRange.{length-gpios}
use Rattle.state.proofs.Places.{gpios-at}

-- one value repeated, by the library's word
replicated : {A : Type 0} (n : ℕ) (a : A) → replicate n a ≡ repeated n a
unfolding listed
replicated n a = go 0 n
  where
    go : (k n : ℕ) → replicate n a ≡ listed (λ j. a) k n
    go k zero = refl
    go k (suc n) = ap (λ l. a ∷ l) (go (suc k) n)

-- a list filled, and a part of one
pub filled : {A : Type 0} (l : List A) (n : ℕ) (a : A) → length l ≡ n → replicate (length l) a ≡ paste l 0 (repeated n a) n
filled l n a h = ap (λ k. replicate k a) h ∙ (replicated n a ∙ sym (paste_all a l (repeated n a) n h (length-listed (λ k. a) 0 n)))

pub filled-part : (l s : List ℕ) (at n v : ℕ) → at + n ≤ length l → s ≡ replicate (length (mid_of at (at + n - at) l)) v
    → put_mid at (at + n - at) l s ≡ paste l at (repeated n v) n
filled-part l s at n v h e =
    let more : at + n - at ≡ n = omega arith in
    let long : length (mid_of at (at + n - at) l) ≡ n = mid_len at (at + n) l h ∙ more in
    let all : s ≡ take n (repeated n v) = e ∙ (ap (λ k. replicate k v) long ∙ (replicated n v ∙ sym (take_all n (repeated n v) (omega (arith, length-listed (λ k. v) 0 n))))) in
    ap (λ x. take at l ++ (x ++ post_of at (at + n - at) l)) all
    ∙ (ap (λ x. take at l ++ (take n (repeated n v) ++ x)) (Post-is at (at + n) l (omega arith)) ∙ sym (append_assoc (take at l) (take n (repeated n v)) (drop (at + n) l)))

-- one step of a loop that stores f 0, f 1, ..
module _ {A : Type 0} (d : A) (f : ℕ → A) (l₀ l : List A) (at n j : ℕ) where
  pub fill_step : at + n ≤ length l₀ → j < n → l ≡ paste l₀ at (listed f 0 n) j → set l (at + j) (f j) ≡ paste l₀ at (listed f 0 n) (j + 1)
  fill_step h k e =
      let v : get_or (listed f 0 n) j d ≡ f j = listed_at f 0 n j d k ∙ ap f (zero-add j) in
      rw (e, add-one j)
      (subst (λ (a : A). set (paste l₀ at (listed f 0 n) j) (at + j) a ≡ paste l₀ at (listed f 0 n) (suc j)) v
      (paste-suc l₀ at (listed f 0 n) j d (omega arith) (omega (arith, length-listed f 0 n))))

  pub fill_done : n ≤ j → j ≤ n → l ≡ paste l₀ at (listed f 0 n) j → l ≡ paste l₀ at (listed f 0 n) n
  fill_done h k e = let z : j ≡ n = omega arith in rw z at e

-- the words after the four loops
module _ (w₀ w₁ w₂ w₃ w₄ : List ℕ) (size : length w₀ ≡ 5276)
    (e₁ : w₁ ≡ paste w₀ 0 (repeated 5276 0) 5276)
    (e₂ : w₂ ≡ paste w₁ 340 (repeated 8 never) 8)
    (e₃ : w₃ ≡ paste w₂ 348 (repeated 256 128) 256)
    (e₄ : w₄ ≡ paste w₃ 604 (listed idle_level 0 256) 256) where
  all-zero : w₁ ≡ repeated 5276 0
  all-zero = e₁ ∙ paste_all 0 w₀ (repeated 5276 0) 5276 size (length-listed (λ k. 0) 0 5276)

  length₁ : length w₁ ≡ 5276
  length₁ = ap length all-zero ∙ length-listed (λ k. 0) 0 5276

  length₂ : length w₂ ≡ 5276
  length₂ = ap length e₂ ∙ length-paste w₁ 340 (repeated 8 never) 8 (omega (arith, length₁)) (omega (arith, length-listed (λ k. never) 0 8)) ∙ length₁

  length₃ : length w₃ ≡ 5276
  length₃ = ap length e₃ ∙ length-paste w₂ 348 (repeated 256 128) 256 (omega (arith, length₂)) (omega (arith, length-listed {A = ℕ} (λ k. 128) 0 256)) ∙ length₂

  pub blank-words : parts 0 sizes w₄ ≡ blank_parts
  unfolding start
  blank-words =
      ap (parts 0 sizes) e₄
      ∙ parts_whole 0 sizes 7 (listed idle_level 0 256) w₃ (lit≤ tt) (length-listed idle_level 0 256) (omega (arith, length₃))
      ∙ ap (λ (z : List (List ℕ)). set z 7 (listed idle_level 0 256))
      (ap (parts 0 sizes) e₃
      ∙ parts_whole 0 sizes 6 (repeated 256 128) w₂ (lit≤ tt) (length-listed (λ k. 128) 0 256) (omega (arith, length₂))
      ∙ ap (λ (z : List (List ℕ)). set z 6 (repeated 256 128))
      (ap (parts 0 sizes) e₂
      ∙ parts_whole 0 sizes 5 (repeated 8 never) w₁ (lit≤ tt) (length-listed (λ k. never) 0 8) (omega (arith, length₁))
      ∙ ap (λ (z : List (List ℕ)). set z 5 (repeated 8 never)) (parts-filler 0 sizes w₁ (λ k. ap (λ (l : List ℕ). get_or l k 0) all-zero ∙ repeated-at 0 5276 k))))

abbrev zeros : ℕ → List ℕ
zeros n = repeated n 0

-- a block of zeros
zero-block : (m n k i j : ℕ) → i < n → get_or (get_or (blocks 0 n k (zeros m)) i []) j 0 ≡ 0
zero-block m n k i j h =
    ap (λ (b : List ℕ). get_or b j 0) (block-front 0 n k i h (zeros m))
    ∙ front-filler 0 k (drop (i * k) (zeros m)) j (λ q. get_or-drop (i * k) (zeros m) q 0 ∙ repeated-at 0 m (i * k + q))

blank-timer : (b : List ℕ) → ((k : ℕ) → get_or b k 0 ≡ 0) → decode_timer b ≡ decode_timer []
unfolding decode_timer
blank-timer b h = simp h

blank-gpio : (b : List ℕ) (v u : Float) → ((k : ℕ) → get_or b k 0 ≡ 0) → v ≡ zero_float → u ≡ zero_float → decode_gpio b v u ≡ blank_gpio
unfolding decode_gpio ext_of
blank-gpio b v u h e f = rw (e, f) (simp h)

blank-timers : (n m : ℕ) → map decode_timer (blocks 0 n 40 (zeros m)) ≡ repeated n (decode_timer [])
blank-timers n m =
    let bs : List (List ℕ) = blocks 0 n 40 (zeros m) in
    all_one (decode_timer []) (decode_timer []) n (map decode_timer bs) (length-map bs decode_timer ∙ length-blocks 0 n 40 (zeros m))
    (λ i h. map_at decode_timer bs i [] (decode_timer []) (omega (arith, length-blocks 0 n 40 (zeros m))) ∙ blank-timer (get_or bs i []) (λ j. zero-block m n 40 i j h))

blank-gpios : (n m q : ℕ) → n * 2 ≤ q → gpios_of (blocks 0 n 16 (zeros m)) (blocks nan n 2 (repeated q zero_float)) ≡ repeated n blank_gpio
blank-gpios n m q le =
    all_one blank_gpio blank_gpio n (gpios_of bs rs) (length-gpios bs rs ∙ length-blocks 0 n 16 (zeros m))
    (λ i h. gpios-at bs rs i blank_gpio (omega (arith, length-blocks 0 n 16 (zeros m))) ∙ blank-gpio (get_or bs i []) _ _ (λ j. zero-block m n 16 i j h) (real i 0 h (lit≤ tt)) (real i 1 h (lit≤ tt)))
  where
    bs : List (List ℕ)
    bs = blocks 0 n 16 (zeros m)

    rs : List (List Float)
    rs = blocks nan n 2 (repeated q zero_float)

    real : (i k : ℕ) → i < n → k < 2 → get_or (get_or rs i []) k nan ≡ zero_float
    real i k h g =
        ap (λ (l : List Float). get_or l k nan) (block-front nan n 2 i h (repeated q zero_float))
        ∙ front_at nan 2 (drop (i * 2) (repeated q zero_float)) k g
        ∙ get_or-drop (i * 2) (repeated q zero_float) k nan
        ∙ listed_at (λ j. zero_float) 0 q (i * 2 + k) nan (omega arith)

-- a signal's idle level is a level
idle-level : (s : ℕ) → held_level (idle_level s) ≡ idle_level s
idle-level s = go (is_uart s 0)
  where
    go : (b : Bool) → cond b 1 0 % 2 ≡ cond b 1 0
    go true = refl
    go false = refl

idle-levels : (n : ℕ) → map held_level (listed idle_level 0 n) ≡ listed idle_level 0 n
idle-levels n = map-listed held_level idle_level 0 n ∙ listed-ext (λ s. held_level (idle_level s)) idle_level idle-level 0 n

pub flat-divided : (hz : Float) → Divided (flat_tree hz)
flat-divided hz = record {
  ppre1 = record { pos = lit≤ tt; le = lit≤ tt };
  ppre2 = record { pos = lit≤ tt; le = lit≤ tt };
  ppre3 = record { pos = lit≤ tt; le = lit≤ tt };
  ppre4 = record { pos = lit≤ tt; le = lit≤ tt };
  tim1 = record { pos = lit≤ tt; le = lit≤ tt };
  tim2 = record { pos = lit≤ tt; le = lit≤ tt };
}

-- the board that they hold, its lists as the words' parts make them; the places of timers hold zeros, with a step of 1 cycle
unfoldable pub blank_board : Float → Float → Board
blank_board hz vcc = record {
  timers = repeated 8 (decode_timer []);
  booking = repeated 8 never;
  nvic = record { nirq = 0; lines = repeated 256 idle };
  pads = record { gpio = repeated 128 blank_gpio; af = repeated 2048 0; route = repeated 256 128; sig_level = listed idle_level 0 256; vcc = vcc };
  clocks = record { tree = flat_tree hz; clock = new_clock hz; enr = repeated 9 0 };
  counts = record { timers = 0; pins = 0; last = 0 };
}

module _ (w : List ℕ) (x₀ x : List Float) (hz vcc : Float) (size : length x₀ ≡ 264)
    (words : parts 0 sizes w ≡ blank_parts)
    (reals : x ≡ paste x₀ 0 (repeated 264 zero_float) 264) where
  zero-reals : get_or (parts nan real_sizes x) 0 [] ≡ repeated 256 zero_float
  unfolding start
  zero-reals =
      let e : x ≡ repeated 264 zero_float = reals ∙ paste_all nan x₀ (repeated 264 zero_float) 264 size (length-listed (λ k. zero_float) 0 264) in
      all_one zero_float nan 256 (get_or (parts nan real_sizes x) 0 []) (length_part nan real_sizes 0 x)
      (λ i h. part_at nan real_sizes 0 i x h ∙ ap (λ (l : List Float). get_or l (0 + i) nan) e ∙ listed_at (λ k. zero_float) 0 264 (0 + i) nan (omega arith))

  pub fresh : with_clock (with_tree (with_vcc (view w x) vcc) (flat_tree hz)) (new_clock hz) ≡ blank_board hz vcc
  unfolding view blank_board
  fresh =
      let zero : (i : ℕ) → get_or (zeros 4) i 0 ≡ 0 = repeated-at 0 4 in
      rw
      (words, zero-reals, blank-timers 8 320, blank-gpios 128 2048 256 (lit≤ tt), idle-levels 256, map-listed line_of (λ k. 0) 0 256, map-listed held_signal (λ k. 0) 0 2048, map-listed held_pin (λ k. 128) 0 256, map-listed held_enable (λ k. 0) 0 9, zero 0, zero 1, zero 2, zero 3)
