-- A piece of a timer's words stored is a part of the timer stored. Assumes nothing.
use mathlib.Core.Path.{◌≡◌, refl, ap, sym, ◌∙◌}
use mathlib.Core.Bool.{Bool, true, false}
use mathlib.Core.List.{List, []}
use Prim.Native.Nat.{ℕ, zero, suc, ◌+◌, ◌-◌, ◌*◌, ◌<◌, ◌≤◌}
use native.Mathlib.Omega.{arith}
use borrow.Author.Tests.{eqb-true, eqb-false}
use lib.Dec.{eqb, lit≤}
use lib.ListN.{length, get_or, set, take, drop, length-drop}
use lib.Seq.{get_or-set_same, get_or-set_other, length-take-le, get_or-take, get_or-drop, paste, paste-zero, paste-suc, length-paste}
use lib.Ieee.{Float, nan}
use Rattle.tim.specs.declared.Timer.{Timer}
use Rattle.codec.specs.Codec.{inst_at, regs_at, chan_at, count_at, decode_timer}
use Rattle.machine.specs.Board.{no_timer, timer_at, with_timer}
use Rattle.state.specs.Board.{with_inst}
use Rattle.state.specs.Parts.{start, parts, blocks}
use Rattle.state.proofs.Cut.{map-set, map_at, parts-paste, piece-paste, length_part, length-blocks, length-block}
use Rattle.state.specs.View.{sizes, real_sizes, view, board_of}

-- ---- the elements of a list with a piece pasted into it

copied-other : (d s : List ℕ) (at n k : ℕ) → at + n ≤ length d → n ≤ length s → ((j : ℕ) → j < n → k ≡ at + j → ⊥)
    → get_or (paste d at s n) k 0 ≡ get_or d k 0
copied-other d s at zero k h g o = ap (λ (l : List ℕ). get_or l k 0) (sym (paste-zero d at s))
copied-other d s at (suc n) k h g o =
    ap (λ (l : List ℕ). get_or l k 0) (sym (paste-suc d at s n 0 (omega arith) (omega arith)))
    ∙ get_or-set_other (paste d at s n) (at + n) k (get_or s n 0) 0 (o n (omega arith))
    ∙ copied-other d s at n k (omega arith) (omega arith) (λ j q. o j (omega arith))

copied-same : (d s : List ℕ) (at n j : ℕ) → at + n ≤ length d → n ≤ length s → j < n → get_or (paste d at s n) (at + j) 0 ≡ get_or s j 0
copied-same d s at zero j h g i = absurd (omega arith)
copied-same d s at (suc n) j h g i = ap (λ (l : List ℕ). get_or l (at + j) 0) (sym (paste-suc d at s n 0 (omega arith) (omega arith))) ∙ go (λ q. copied-same d s at n j (omega arith) (omega arith) q) (eqb j n) refl
  where
    go : (j < n → get_or (paste d at s n) (at + j) 0 ≡ get_or s j 0) → (b : Bool) → eqb j n ≡ b → get_or (set (paste d at s n) (at + n) (get_or s n 0)) (at + j) 0 ≡ get_or s j 0
    go ih true e =
        let q : j ≡ n = eqb-true j n e in
        rw q (get_or-set_same (paste d at s n) (at + n) (get_or s n 0) 0 (omega (arith, length-paste d at s n (omega arith) (omega arith))))
    go ih false e =
        get_or-set_other (paste d at s n) (at + n) (at + j) (get_or s n 0) 0 (λ p. eqb-false j n e (omega arith))
        ∙ ih (omega (arith, eqb-false j n e))

-- ---- the parts of a timer, of words that are alike where the part lies

module _ (l m : List ℕ) where
  same_inst : ((k : ℕ) → k < 7 → get_or m k 0 ≡ get_or l k 0) → get_or m 39 0 ≡ get_or l 39 0 → inst_at m 0 39 ≡ inst_at l 0 39
  same_inst h g = rw (h 0 (lit≤ tt), h 1 (lit≤ tt), h 2 (lit≤ tt), h 3 (lit≤ tt), h 4 (lit≤ tt), h 5 (lit≤ tt), h 6 (lit≤ tt), g)

  same_regs : ((k : ℕ) → 7 ≤ k → k < 15 → get_or m k 0 ≡ get_or l k 0) → regs_at m 7 ≡ regs_at l 7
  same_regs h =
      let e : (k : ℕ) → k < 8 → get_or m (7 + k) 0 ≡ get_or l (7 + k) 0 = (λ k g. h (7 + k) (omega arith) (omega arith)) in
      rw (e 0 (lit≤ tt), e 1 (lit≤ tt), e 2 (lit≤ tt), e 3 (lit≤ tt), e 4 (lit≤ tt), e 5 (lit≤ tt), e 6 (lit≤ tt), e 7 (lit≤ tt))

  same-chan : ((k : ℕ) → 15 ≤ k → k < 33 → get_or m k 0 ≡ get_or l k 0) → chan_at m 15 ≡ chan_at l 15
  same-chan h =
      let e : (k : ℕ) → k < 18 → get_or m (15 + k) 0 ≡ get_or l (15 + k) 0 = (λ k g. h (15 + k) (omega arith) (omega arith)) in
      rw (
        e 0 (lit≤ tt),
        e 1 (lit≤ tt),
        e 2 (lit≤ tt),
        e 3 (lit≤ tt),
        e 4 (lit≤ tt),
        e 5 (lit≤ tt),
        e 6 (lit≤ tt),
        e 7 (lit≤ tt),
        e 8 (lit≤ tt),
        e 9 (lit≤ tt),
        e 10 (lit≤ tt),
        e 11 (lit≤ tt),
        e 12 (lit≤ tt),
        e 13 (lit≤ tt),
        e 14 (lit≤ tt),
        e 15 (lit≤ tt),
        e 16 (lit≤ tt),
        e 17 (lit≤ tt),
      )

  same_count : ((k : ℕ) → 33 ≤ k → k < 39 → get_or m k 0 ≡ get_or l k 0) → count_at m 33 ≡ count_at l 33
  same_count h =
      let e : (k : ℕ) → k < 6 → get_or m (33 + k) 0 ≡ get_or l (33 + k) 0 = (λ k g. h (33 + k) (omega arith) (omega arith)) in
      rw (e 0 (lit≤ tt), e 1 (lit≤ tt), e 2 (lit≤ tt), e 3 (lit≤ tt), e 4 (lit≤ tt), e 5 (lit≤ tt))

-- ---- words from f up to t of b in their places of l
abbrev slice : ℕ → ℕ → List ℕ → List ℕ
slice f t b = take (t - f) (drop f b)

length-slice : (f t : ℕ) (b : List ℕ) → t ≤ length b → length (slice f t b) ≡ t - f
length-slice f t b h = length-take-le (t - f) (drop f b) (omega (arith, length-drop f b))

module _ (l b : List ℕ) (f t : ℕ) (p : length l ≡ 40) (q : length b ≡ 40) (h : f ≤ t) (g : t ≤ 40) where
  abbrev patched : List ℕ
  patched = paste l f (slice f t b) (t - f)

  outside : (k : ℕ) → ((j : ℕ) → j < t - f → k ≡ f + j → ⊥) → get_or patched k 0 ≡ get_or l k 0
  outside k o = copied-other l (slice f t b) f (t - f) k (omega arith) (omega (arith, length-slice f t b (omega arith))) o

  inside : (k : ℕ) → f ≤ k → k < t → get_or patched k 0 ≡ get_or b k 0
  inside k u v =
      let e : f + (k - f) ≡ k = omega arith in
      ap (λ (z : ℕ). get_or patched z 0) (sym e)
      ∙ copied-same l (slice f t b) f (t - f) (k - f) (omega arith) (omega (arith, length-slice f t b (omega arith))) (omega arith)
      ∙ get_or-take (t - f) (drop f b) (k - f) 0 (omega arith)
      ∙ get_or-drop f b (k - f) 0
      ∙ ap (λ (z : ℕ). get_or b z 0) e

-- words 7 up to 39 are all but what set-up fixed
decode-live : (l b : List ℕ) → length l ≡ 40 → length b ≡ 40 → decode_timer (paste l 7 (slice 7 39 b) 32) ≡ with_inst (decode_timer b) (decode_timer l).inst
unfolding decode_timer
decode-live l b p q =
    let m : List ℕ = paste l 7 (slice 7 39 b) 32 in
    let e : (k : ℕ) → 7 ≤ k → k < 39 → get_or m k 0 ≡ get_or b k 0 = inside l b 7 39 p q (lit≤ tt) (lit≤ tt) in
    let i : inst_at m 0 39 ≡ inst_at l 0 39 =
    same_inst l m (λ k h. outside l b 7 39 p q (lit≤ tt) (lit≤ tt) k (λ j g z. omega arith)) (outside l b 7 39 p q (lit≤ tt) (lit≤ tt) 39 (λ j g z. omega arith)) in
    let r : regs_at m 7 ≡ regs_at b 7 = same_regs b m (λ k h u. e k h (omega arith)) in
    let c : chan_at m 15 ≡ chan_at b 15 = same-chan b m (λ k h u. e k (omega arith) (omega arith)) in
    let n : count_at m 33 ≡ count_at b 33 = same_count b m (λ k h u. e k (omega arith) u) in
    rw (i, r, c, n)

module _ (w : List ℕ) (x : List Float) (size : length w ≡ 5276) (i : ℕ) (h : i < 8) where
  abbrev block : List ℕ
  block = get_or (blocks 0 8 40 (get_or (parts 0 sizes w) 0 [])) i []

  -- a piece pasted into timer i's words
  piece-set : (f n : ℕ) (s : List ℕ) → f + n ≤ 40 → length s ≡ n
      → view (paste w (0 + (i * 40 + f)) s (length s)) x ≡ with_timer (view w x) i (decode_timer (paste block f s n))
  unfolding view parts start
  piece-set f n s g e =
      ap (λ (k : ℕ). view (paste w (0 + (i * 40 + f)) s k) x) e
      ∙ ap (λ (ws : List (List ℕ)). board_of ws (parts nan real_sizes x)) (parts-paste 0 sizes 0 (i * 40 + f) s w n (omega arith) (omega arith) (omega arith))
      ∙ rw (piece-paste 0 8 40 i h f n s (get_or (parts 0 sizes w) 0 []) g (omega arith) (omega (arith, length_part 0 sizes 0 w)), map-set)

  held : timer_at (view w x) i ≡ decode_timer block
  unfolding view
  held = map_at decode_timer (blocks 0 8 40 (get_or (parts 0 sizes w) 0 [])) i [] no_timer (omega (arith, length-blocks 0 8 40 (get_or (parts 0 sizes w) 0 [])))

  pub live-set : (b : List ℕ) (t : Timer) → length b ≡ 40 → decode_timer b ≡ t
      → view (paste w (0 + (i * 40 + 7)) (slice 7 39 b) (length (slice 7 39 b))) x ≡ with_timer (view w x) i (with_inst t (timer_at (view w x) i).inst)
  live-set b t l e =
      piece-set 7 32 (slice 7 39 b) (lit≤ tt) (length-slice 7 39 b (omega arith))
      ∙ ap (with_timer (view w x) i) (decode-live block b (length-block 0 8 40 i (get_or (parts 0 sizes w) 0 []) h) l
      ∙ ap (λ (y : Timer). with_inst (decode_timer b) y.inst) (sym held) ∙ ap (λ (y : Timer). with_inst y (timer_at (view w x) i).inst) e)
