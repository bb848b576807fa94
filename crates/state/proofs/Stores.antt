-- A store to the words or the reals is a store to one place of the view. Assumes nothing.
use mathlib.Core.Path.{◌≡◌, refl, ap, sym, ◌∙◌}
use mathlib.Core.List.{List, [], ◌∷◌}
use Prim.Native.Nat.{ℕ, zero, suc, ◌+◌, ◌-◌, ◌*◌, ◌%◌, ◌<◌, ◌≤◌}
use native.Mathlib.Nat.{min-eq_left, mod-eq_of_lt}
use native.Mathlib.Omega.{arith}
use borrow.Author.Tests.{lt-ltb, le-ltb}
use lib.Dec.{lit≤}
use lib.ListN.{length, get_or, set, length-set}
use lib.Seq.{get_or-set_same, get_or-set_other, paste}
use lib.Ieee.{Float, nan}
use Rattle.tim.specs.declared.Timer.{Timer}
use Rattle.clk.specs.declared.ClockTree.{ClockTree}
use Rattle.nvic.specs.Nvic.{Line, line_of, on_line}
use Rattle.nvic.proofs.Laws.{stored, no_line}
use Rattle.gpio.specs.declared.Gpio.{Gpio}
use Rattle.codec.specs.Codec.{decode_timer}
use Rattle.codec.specs.Pin.{decode_gpio}
use Rattle.machine.specs.Board.{with_timer, with_nvic, with_last}
use Rattle.state.specs.Board.{Divider, Divided, route_set, sig_level_set, with_af_at, with_enr, booking_set, with_sizes, with_vcc, with_tree, with_clock, with_gpios, pin_set}
use Rattle.state.specs.Parts.{start, parts, blocks}
use Rattle.state.proofs.Cut.{set_pair, map-set, parts-set, parts-pair, parts-paste, paste_all, block-paste, block-pair, length_part, length-blocks, part_at}
use Rattle.state.proofs.InRange.{bounded}
use Rattle.state.specs.View.{sizes, real_sizes, view, board_of, gpios_of, tree_of, divider_held}

pub gpios-set : (bs : List (List ℕ)) (rs : List (List Float)) (p : ℕ) (b : List ℕ) (r : List Float) → p < length bs → p < length rs
    → gpios_of (set bs p b) (set rs p r) ≡ set (gpios_of bs rs) p (decode_gpio b (get_or r 0 nan) (get_or r 1 nan))
unfolding gpios_of
gpios-set [] rs p b r h g = absurd (omega arith)
gpios-set (a ∷ bs) [] p b r h g = absurd (omega arith)
gpios-set (a ∷ bs) (q ∷ rs) zero b r h g = refl
gpios-set (a ∷ bs) (q ∷ rs) (suc p) b r h g = ap (λ (gs : List Gpio). decode_gpio a (get_or q 0 nan) (get_or q 1 nan) ∷ gs) (gpios-set bs rs p b r (omega arith) (omega arith))

-- the counts: the first three set, and the last
module _ (l : List ℕ) (h : length l ≡ 4) where
  firsts : (a b c : ℕ) → set (set (set l 0 a) 1 b) 2 c ≡ a ∷ b ∷ c ∷ get_or l 3 0 ∷ []
  firsts a b c = go l h
    where
      go : (l : List ℕ) → length l ≡ 4 → set (set (set l 0 a) 1 b) 2 c ≡ a ∷ b ∷ c ∷ get_or l 3 0 ∷ []
      go [] h = absurd (omega arith)
      go (p ∷ []) h = absurd (omega arith)
      go (p ∷ q ∷ []) h = absurd (omega arith)
      go (p ∷ q ∷ r ∷ []) h = absurd (omega arith)
      go (p ∷ q ∷ r ∷ s ∷ []) h = refl
      go (p ∷ q ∷ r ∷ s ∷ t ∷ l) h = absurd (omega arith)

-- a divider comes back from its word
divider-back : (d : ℕ) → Divider d → divider_held (d - 1) ≡ d
divider-back d h = omega arith

pub dividers : (t : ClockTree) → Divided t
    → tree_of ((t.ppre1 - 1) ∷ (t.ppre2 - 1) ∷ (t.ppre3 - 1) ∷ (t.ppre4 - 1) ∷ (t.tim1 - 1) ∷ (t.tim2 - 1) ∷ []) (t.sysclk_hz ∷ t.hclk_hz ∷ []) ≡ t
dividers t h =
    rw (
      divider-back t.ppre1 h.ppre1,
      divider-back t.ppre2 h.ppre2,
      divider-back t.ppre3 h.ppre3,
      divider-back t.ppre4 h.ppre4,
      divider-back t.tim1 h.tim1,
      divider-back t.tim2 h.tim2,
    )

pub vcc-set : (w : List ℕ) (x : List Float) → length x ≡ 264 → (v : Float) → view w (set x 256 v) ≡ with_vcc (view w x) v
unfolding view parts start
vcc-set w x reals v =
    ap (board_of (parts 0 sizes w)) (parts-set nan real_sizes 1 0 v x (lit≤ tt) (omega arith))
    ∙ rw (get_or-set_same (get_or (parts nan real_sizes x) 1 []) 0 v nan (omega (arith, length_part nan real_sizes 1 x)))

module _ (w : List ℕ) (x : List Float) (size : length w ≡ 5276) where
  -- a word stored in part i
  word_set : (i k v : ℕ) → k < get_or sizes i 0 → start sizes i + k < length w
      → view (set w (start sizes i + k) v) x ≡ board_of (set (parts 0 sizes w) i (set (get_or (parts 0 sizes w) i []) k v)) (parts nan real_sizes x)
  unfolding view
  word_set i k v h g = ap (λ (ws : List (List ℕ)). board_of ws (parts nan real_sizes x)) (parts-set 0 sizes i k v w h g)

  -- a block stored in part i
  block-set : (i k n : ℕ) (b : List ℕ) → k + n ≤ get_or sizes i 0 → start sizes i + k + n ≤ length w → n ≤ length b
      → view (paste w (start sizes i + k) b n) x ≡ board_of (set (parts 0 sizes w) i (paste (get_or (parts 0 sizes w) i []) k b n)) (parts nan real_sizes x)
  unfolding view
  block-set i k n b h g m = ap (λ (ws : List (List ℕ)). board_of ws (parts nan real_sizes x)) (parts-paste 0 sizes i k b w n h g m)

  pub timer-set : (i : ℕ) (b : List ℕ) (t : Timer) → i < 8 → length b ≡ 40 → decode_timer b ≡ t → view (paste w (0 + i * 40) b (length b)) x ≡ with_timer (view w x) i t
  unfolding view parts start
  timer-set i b t h l e =
      ap (λ (n : ℕ). view (paste w (0 + i * 40) b n) x) l
      ∙ block-set 0 (i * 40) 40 b (omega arith) (omega arith) (omega arith)
      ∙ rw (block-paste 0 8 40 i h b (get_or (parts 0 sizes w) 0 []) l (omega (arith, length_part 0 sizes 0 w)), map-set, e)

  pub route-set : (s p : ℕ) → s < 256 → p ≤ 128 → view (set w (348 + s) p) x ≡ route_set (view w x) s p
  unfolding view parts start
  route-set s p h k = word_set 6 s p h (omega arith) ∙ rw (map-set, min-eq_left k)

  pub level-set : (s v : ℕ) → s < 256 → v ≤ 1 → view (set w (604 + s) v) x ≡ sig_level_set (view w x) s v
  unfolding view parts start
  level-set s v h k = let e : v % 2 ≡ v = omega arith in word_set 7 s v h (omega arith) ∙ rw (map-set, e)

  pub af-set : (k v : ℕ) → k < 2048 → v < 256 → view (set w (3164 + k) v) x ≡ with_af_at (view w x) k v
  unfolding view parts start
  af-set k v h g = word_set 10 k v h (omega arith) ∙ rw (map-set, mod-eq_of_lt g)

  pub enr-set : (i v : ℕ) → i < 9 → v < 4294967296 → view (set w (331 + i) v) x ≡ with_enr (view w x) i v
  unfolding view parts start
  enr-set i v h g = word_set 4 i v h (omega arith) ∙ rw (map-set, mod-eq_of_lt g)

  pub booking-set : (owner cycle : ℕ) → owner < 8 → view (set w (340 + owner) cycle) x ≡ booking_set (view w x) owner cycle
  unfolding view parts start
  booking-set owner cycle h = word_set 5 owner cycle h (omega arith)

  -- a word of a line that there is
  pub line_set_lem : (f : Line → Line) (irq v : ℕ) → irq < (view w x).nvic.nirq → line_of v ≡ f (line_of (get_or w (860 + irq) 0))
      → view (set w (860 + irq) v) x ≡ with_nvic (view w x) (on_line f (view w x).nvic irq)
  unfolding view parts start
  line_set_lem f irq v h e =
      let l : irq < 256 = omega (arith, (bounded w x).nirq-le) in
      let lines : List ℕ = get_or (parts 0 sizes w) 8 [] in
      word_set 8 irq v l (omega arith)
      ∙ ap (with_nvic (view w x)) (stored f lines (view w x).nvic.nirq irq v (lt-ltb _ _ h) (e ∙ ap (λ (k : ℕ). f (line_of k)) (sym (part_at 0 sizes 8 irq w l))))

  -- without such a line nothing changes
  pub line-none : (f : Line → Line) (irq : ℕ) → (view w x).nvic.nirq ≤ irq → view w x ≡ with_nvic (view w x) (on_line f (view w x).nvic irq)
  line-none f irq h = sym (ap (with_nvic (view w x)) (no_line f (view w x).nvic irq (le-ltb _ _ h)))

  pub last_set : (c : ℕ) → view (set w 323 c) x ≡ with_last (view w x) c
  unfolding view parts start
  last_set c =
      let l : List ℕ = get_or (parts 0 sizes w) 1 [] in
      let e : (k : ℕ) → (k ≡ 3 → ⊥) → get_or (set l 3 c) k 0 ≡ get_or l k 0 = (λ k n. get_or-set_other l 3 k c 0 n) in
      word_set 1 3 c (lit≤ tt) (omega arith)
      ∙ rw (e 0 (λ z. omega arith), e 1 (λ z. omega arith), e 2 (λ z. omega arith), get_or-set_same l 3 c 0 (omega (arith, length_part 0 sizes 1 w)))

  pub sizes-set : (t p n : ℕ) → t ≤ 8 → p ≤ 128 → n ≤ 256 → view (set (set (set w 320 t) 321 p) 322 n) x ≡ with_sizes (view w x) t p n
  unfolding view parts start
  sizes-set t p n h g m =
      let l : List ℕ = get_or (parts 0 sizes w) 1 [] in
      let e : parts 0 sizes (set (set w 320 t) 321 p) ≡ set (parts 0 sizes w) 1 (set (set l 0 t) 1 p) = parts-pair 0 sizes 1 0 t p w (lit≤ tt) (omega arith) in
      let f : parts 0 sizes (set (set (set w 320 t) 321 p) 322 n) ≡ set (parts 0 sizes w) 1 (set (set (set l 0 t) 1 p) 2 n) =
      parts-set 0 sizes 1 2 n (set (set w 320 t) 321 p) (lit≤ tt) (omega (arith, length-set (set w 320 t) 321 p, length-set w 320 t))
      ∙ ap (λ (z : List (List ℕ)). set z 1 (set (get_or z 1 []) 2 n)) e in
      ap (λ (ws : List (List ℕ)). board_of ws (parts nan real_sizes x)) f ∙ rw (firsts l (length_part 0 sizes 1 w) t p n, min-eq_left h, min-eq_left g, min-eq_left m)

  module _ (reals : length x ≡ 264) where
    pub tree_set_lem : (b : List ℕ) (f h : Float) → length b ≡ 6 → view (paste w 324 b (length b)) (set (set x 257 f) 258 h) ≡ with_tree (view w x) (tree_of b (f ∷ h ∷ []))
    unfolding view parts start
    tree_set_lem b f h l =
        ap (λ (n : ℕ). view (paste w 324 b n) (set (set x 257 f) 258 h)) l
        ∙ ap (λ (ws : List (List ℕ)). board_of ws (parts nan real_sizes (set (set x 257 f) 258 h))) (parts-paste 0 sizes 2 0 b w 6 (lit≤ tt) (omega arith) (omega arith))
        ∙ ap (board_of (set (parts 0 sizes w) 2 (paste (get_or (parts 0 sizes w) 2 []) 0 b 6))) (parts-pair nan real_sizes 2 0 f h x (lit≤ tt) (omega arith))
        ∙ rw (paste_all 0 (get_or (parts 0 sizes w) 2 []) b 6 (length_part 0 sizes 2 w) l, set_pair (get_or (parts nan real_sizes x) 2 []) f h (length_part nan real_sizes 2 x))

    pub clock-set : (c : ℕ) (f t : Float) → view (set w 330 c) (set (set x 259 f) 260 t) ≡ with_clock (view w x) (record { hz = f; seg_cycle = c; seg_time = t })
    unfolding view parts start
    clock-set c f t =
        ap (λ (ws : List (List ℕ)). board_of ws (parts nan real_sizes (set (set x 259 f) 260 t))) (parts-set 0 sizes 3 0 c w (lit≤ tt) (omega arith))
        ∙ ap (board_of (set (parts 0 sizes w) 3 (set (get_or (parts 0 sizes w) 3 []) 0 c))) (parts-pair nan real_sizes 3 0 f t x (lit≤ tt) (omega arith))
        ∙ rw (get_or-set_same (get_or (parts 0 sizes w) 3 []) 0 c 0 (omega (arith, length_part 0 sizes 3 w)), set_pair (get_or (parts nan real_sizes x) 3 []) f t (length_part nan real_sizes 3 x))

    pub gpio-set : (p : ℕ) (b : List ℕ) (v u : Float) (g : Gpio) → p < 128 → length b ≡ 16 → decode_gpio b v u ≡ g
        → view (paste w (1116 + p * 16) b (length b)) (set (set x (0 + p * 2) v) (0 + (p * 2 + 1)) u) ≡ pin_set (view w x) p g
    unfolding view parts start
    gpio-set p b v u g h l e =
        let bs : List ℕ = get_or (parts 0 sizes w) 9 [] in
        let rs : List Float = get_or (parts nan real_sizes x) 0 [] in
        let x' : List Float = set (set x (0 + p * 2) v) (0 + (p * 2 + 1)) u in
        ap (λ (n : ℕ). view (paste w (1116 + p * 16) b n) x') l
        ∙ ap (λ (ws : List (List ℕ)). board_of ws (parts nan real_sizes x')) (parts-paste 0 sizes 9 (p * 16) b w 16 (omega arith) (omega arith) (omega arith))
        ∙ ap (board_of (set (parts 0 sizes w) 9 (paste bs (p * 16) b 16))) (parts-pair nan real_sizes 0 (p * 2) v u x (omega arith) (omega arith))
        ∙ ap (with_gpios (view w x))
        (ap (λ (z : List (List ℕ)). gpios_of z (blocks nan 128 2 (set (set rs (p * 2) v) (p * 2 + 1) u))) (block-paste 0 128 16 p h b bs l (omega (arith, length_part 0 sizes 9 w)))
        ∙ ap (gpios_of (set (blocks 0 128 16 bs) p b)) (block-pair nan 128 p v u rs h (omega (arith, length_part nan real_sizes 0 x)))
        ∙ gpios-set (blocks 0 128 16 bs) (blocks nan 128 2 rs) p b (v ∷ u ∷ []) (omega (arith, length-blocks 0 128 16 bs)) (omega (arith, length-blocks nan 128 2 rs))
        ∙ ap (set (gpios_of (blocks 0 128 16 bs) (blocks nan 128 2 rs)) p) e)
