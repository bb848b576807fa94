-- A word of a timer stored is a field of the timer stored. Assumes nothing.
use mathlib.Core.Path.{◌≡◌, refl, ap, sym, ◌∙◌}
use mathlib.Core.List.{List, [], ◌∷◌}
use Prim.Native.Nat.{ℕ, zero, suc, ◌+◌, ◌*◌, ◌<◌}
use native.Mathlib.Nat.{zero-add}
use native.Mathlib.Omega.{arith}
use lib.ListN.{length, get_or, set, drop, length-set, length-drop}
use lib.Seq.{get_or-set_same, drop-set-add, set-set, set-get_or}
use lib.Ieee.{Float, nan}
use Rattle.tim.specs.declared.Timer.{Timer}
use Rattle.codec.specs.Codec.{decode_timer}
use Rattle.machine.specs.Board.{Board, no_timer, timer_at, with_timer}
use Rattle.state.specs.Parts.{start, front, parts, blocks}
use Rattle.state.proofs.Cut.{map-set, parts-set, block-set, part-block, length_part}
use Rattle.state.specs.View.{sizes, real_sizes, view, board_of}
use Rattle.state.proofs.Places.{timer-read}

-- ---- the words of a timer

abbrev pub block : List ℕ → ℕ → List ℕ
block w i = front 0 40 (drop (i * 40) w)

front-set : (n : ℕ) (l : List ℕ) (k v : ℕ) → k < n → k < length l → front 0 n (set l k v) ≡ set (front 0 n l) k v
unfolding front
front-set zero l k v h g = absurd (omega arith)
front-set (suc n) [] k v h g = absurd (omega arith)
front-set (suc n) (x ∷ l) zero v h g = refl
front-set (suc n) (x ∷ l) (suc k) v h g = ap (λ (r : List ℕ). x ∷ r) (front-set n l k v (omega arith) (omega arith))

-- ---- a timer stored, and stored again

module _ (b : Board) (i : ℕ) where
  pub same-timer : with_timer b i (timer_at b i) ≡ b
  same-timer = ap (λ (ts : List Timer). record { timers = ts; booking = b.booking; nvic = b.nvic; pads = b.pads; clocks = b.clocks; counts = b.counts }) (set-get_or b.timers i no_timer)

  pub timer-twice : (t u : Timer) → with_timer (with_timer b i t) i u ≡ with_timer b i u
  timer-twice t u = ap (λ (ts : List Timer). record { timers = ts; booking = b.booking; nvic = b.nvic; pads = b.pads; clocks = b.clocks; counts = b.counts }) (set-set b.timers i t u)

  pub timer-back : (t : Timer) → i < length b.timers → timer_at (with_timer b i t) i ≡ t
  timer-back t h = get_or-set_same b.timers i t no_timer h

-- a timer changed by f and then by g
pub changed-twice : (b b₁ b₂ : Board) (i : ℕ) (f g : Timer → Timer) → i < length b.timers → b₁ ≡ with_timer b i (f (timer_at b i))
    → b₂ ≡ with_timer b₁ i (g (timer_at b₁ i)) → b₂ ≡ with_timer b i (g (f (timer_at b i)))
changed-twice b b₁ b₂ i f g h p q =
    q ∙ ap (λ (y : Board). with_timer y i (g (timer_at y i))) p
    ∙ timer-twice b i (f (timer_at b i)) (g (timer_at (with_timer b i (f (timer_at b i))) i))
    ∙ ap (λ (t : Timer). with_timer b i (g t)) (timer-back b i (f (timer_at b i)) h)

-- w₁ is w with words of timer i changed so that they are l
pub record Changed (w : List ℕ) (i : ℕ) (w₁ l : List ℕ) : Type 0 where
  pub size : length w₁ ≡ 5276
  pub words : block w₁ i ≡ l
  pub board : (x : List Float) → view w₁ x ≡ with_timer (view w x) i (decode_timer l)

module _ (w : List ℕ) (i : ℕ) (h : i < 8) where
  pub held : (x : List Float) → timer_at (view w x) i ≡ decode_timer (block w i)
  held x = timer-read w x i h ∙ ap (λ (k : ℕ). decode_timer (front 0 40 (drop k w))) (zero-add (i * 40))

  in_parts : get_or (blocks 0 8 40 (get_or (parts 0 sizes w) 0 [])) i [] ≡ block w i
  unfolding start
  in_parts = part-block 0 sizes 0 8 40 i w (omega arith) h (omega arith) ∙ ap (λ (k : ℕ). front 0 40 (drop k w)) (zero-add (i * 40))

  -- one word
  pub word_set : (x : List Float) (k v : ℕ) → length w ≡ 5276 → k < 40 → view (set w (i * 40 + k) v) x ≡ with_timer (view w x) i (decode_timer (set (block w i) k v))
  unfolding view parts start
  word_set x k v size g =
      let l : List ℕ = get_or (parts 0 sizes w) 0 [] in
      ap (λ (n : ℕ). view (set w n v) x) (sym (zero-add (i * 40 + k)))
      ∙ ap (λ (ws : List (List ℕ)). board_of ws (parts nan real_sizes x)) (parts-set 0 sizes 0 (i * 40 + k) v w (omega arith) (omega arith))
      ∙ rw (block-set 0 8 40 i h k v l g (omega (arith, length_part 0 sizes 0 w)), map-set)
      (ap (λ (r : List ℕ). with_timer (view w x) i (decode_timer (set r k v))) in_parts)

module _ (w : List ℕ) (i : ℕ) (h : i < 8) where
  pub unchanged : length w ≡ 5276 → Changed w i w (block w i)
  unchanged size = record { size = size; words = refl; board = λ x. sym (ap (with_timer (view w x) i) (sym (held w i h x)) ∙ same-timer (view w x) i) }

  pub changed : (w₁ l : List ℕ) (k v : ℕ) → k < 40 → Changed w i w₁ l → Changed w i (set w₁ (i * 40 + k) v) (set l k v)
  changed w₁ l k v g c = record {
    size = length-set w₁ (i * 40 + k) v ∙ c.size;
    words = ap (front 0 40) (drop-set-add (i * 40) w₁ k v) ∙ front-set 40 (drop (i * 40) w₁) k v g (omega (arith, c.size, length-drop (i * 40) w₁)) ∙ ap (λ (r : List ℕ). set r k v) c.words;
    board = λ x. word_set w₁ i h x k v c.size g
        ∙ ap (λ (r : List ℕ). with_timer (view w₁ x) i (decode_timer (set r k v))) c.words
        ∙ ap (λ (b : Board). with_timer b i (decode_timer (set l k v))) (c.board x)
        ∙ timer-twice (view w x) i (decode_timer l) (decode_timer (set l k v));
  }

  -- fields changed as f says
  pub fields-set : (w₁ l : List ℕ) (f : Timer → Timer) → Changed w i w₁ l → decode_timer l ≡ f (decode_timer (block w i))
      → (x : List Float) → view w₁ x ≡ with_timer (view w x) i (f (timer_at (view w x) i))
  fields-set w₁ l f c e x = c.board x ∙ ap (with_timer (view w x) i) (e ∙ ap f (sym (held w i h x)))

  pub field-set : (k v : ℕ) (f : Timer → Timer) → length w ≡ 5276 → k < 40 → decode_timer (set (block w i) k v) ≡ f (decode_timer (block w i))
      → (x : List Float) → view (set w (i * 40 + k) v) x ≡ with_timer (view w x) i (f (timer_at (view w x) i))
  field-set k v f size g e = fields-set (set w (i * 40 + k) v) (set (block w i) k v) f (changed w (block w i) k v g (unchanged size)) e
