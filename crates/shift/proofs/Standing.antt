-- The words stand for a shift and its entries: as it begins, and with every entry more. Assumes nothing.
use Rattle.std.proofs.Common.{◌≡◌, ℕ, zero, suc, ◌+◌, ◌-◌, ◌*◌, ◌/◌, ◌%◌, ◌^◌, ◌<◌, ◌≤◌, Bool, true, false, cond, ◌||◌, eqb, ltb, ◌⊎◌, List, [], ◌∷◌, ◌++◌, length, get_or, set, sym, refl, ap, ◌∙◌, subst, inl, inr, append_assoc, append-nil, mod-lt, arith, length-set, get_or-set_other, get_or-set_same, ltb-false, ltb-true, eqb-true}
use borrow.Author.Tests.{eqb-false}
use Rattle.book.specs.Book.{Entry}
use Rattle.book.specs.Level.{level_at, highs}
use Rattle.shift.specs.declared.Track.{Track}
use Rattle.shift.specs.Shift.{Shift, level_bit, level_before, edges, cycle_before, misplaced, out_of_order, number_of}
use Rattle.shift.specs.Kept.{counts, turned_track, passed_track, took, track_at, put_track, fresh_track, Fresh, from_of, to_of, number_kept, strays, entered, fed, latest, Told, Stands}
use Rattle.shift.proofs.Laws.{order-more, told-other, repeats, too-late, turns}

-- ---- the words

module _ (w : List ℕ) (p : ℕ) (t : Track) where
  abbrev w₁ : List ℕ
  w₁ = set w (4 * p) t.last

  abbrev w₂ : List ℕ
  w₂ = set w₁ (4 * p + 1) t.level

  abbrev w₃ : List ℕ
  w₃ = set w₂ (4 * p + 2) t.high

  pub put-length : length (put_track w p t) ≡ length w
  unfolding put_track
  put-length = simp length-set

  pub put_other : (k : ℕ) → (k < 4 * p) ⊎ (4 * p + 3 < k) → get_or (put_track w p t) k 0 ≡ get_or w k 0
  unfolding put_track
  put_other k h =
      get_or-set_other w₃ (4 * p + 3) k t.edges 0 (λ x. no h 3 (omega arith) x) ∙ get_or-set_other w₂ (4 * p + 2) k t.high 0 (λ x. no h 2 (omega arith) x)
      ∙ get_or-set_other w₁ (4 * p + 1) k t.level 0 (λ x. no h 1 (omega arith) x) ∙ get_or-set_other w (4 * p) k t.last 0 (λ x. no h 0 (omega arith) (omega arith))
    where
      no : (k < 4 * p) ⊎ (4 * p + 3 < k) → (i : ℕ) → i ≤ 3 → k ≡ 4 * p + i → ⊥
      no (inl a) i j x = omega arith
      no (inr a) i j x = omega arith

  module _ (room : 4 * p + 3 < length w) where
    put_last : get_or (put_track w p t) (4 * p) 0 ≡ t.last
    unfolding put_track
    put_last =
        get_or-set_other w₃ (4 * p + 3) (4 * p) t.edges 0 (λ x. omega arith) ∙ get_or-set_other w₂ (4 * p + 2) (4 * p) t.high 0 (λ x. omega arith)
        ∙ get_or-set_other w₁ (4 * p + 1) (4 * p) t.level 0 (λ x. omega arith) ∙ get_or-set_same w (4 * p) t.last 0 (omega arith)

    put-level : get_or (put_track w p t) (4 * p + 1) 0 ≡ t.level
    unfolding put_track
    put-level =
        get_or-set_other w₃ (4 * p + 3) (4 * p + 1) t.edges 0 (λ x. omega arith) ∙ get_or-set_other w₂ (4 * p + 2) (4 * p + 1) t.high 0 (λ x. omega arith)
        ∙ get_or-set_same w₁ (4 * p + 1) t.level 0 (simp length-set (omega arith))

    put-high : get_or (put_track w p t) (4 * p + 2) 0 ≡ t.high
    unfolding put_track
    put-high =
        get_or-set_other w₃ (4 * p + 3) (4 * p + 2) t.edges 0 (λ x. omega arith) ∙ get_or-set_same w₂ (4 * p + 2) t.high 0 (simp length-set (omega arith))

    put-edges : get_or (put_track w p t) (4 * p + 3) 0 ≡ t.edges
    unfolding put_track
    put-edges = get_or-set_same w₃ (4 * p + 3) t.edges 0 (simp length-set (omega arith))

    pub put_same : track_at (put_track w p t) p ≡ t
    put_same = rw (put_last, put-level, put-high, put-edges)

  pub put-apart : (q : ℕ) → (p ≡ q → ⊥) → track_at (put_track w p t) q ≡ track_at w q
  put-apart q n = go (ltb q p) refl
    where
      by : (q < p) ⊎ (p < q) → (i : ℕ) → i ≤ 3 → (4 * q + i < 4 * p) ⊎ (4 * p + 3 < 4 * q + i)
      by (inl a) i h = inl (omega arith)
      by (inr a) i h = inr (omega arith)

      all : (q < p) ⊎ (p < q) → track_at (put_track w p t) q ≡ track_at w q
      all h = rw (put_other (4 * q) (zeroth (by h 0 (omega arith))), put_other (4 * q + 1) (by h 1 (omega arith)), put_other (4 * q + 2) (by h 2 (omega arith)), put_other (4 * q + 3) (by h 3 (omega arith)))
        where
          zeroth : (4 * q + 0 < 4 * p) ⊎ (4 * p + 3 < 4 * q + 0) → (4 * q < 4 * p) ⊎ (4 * p + 3 < 4 * q)
          zeroth (inl a) = inl (omega arith)
          zeroth (inr a) = inr (omega arith)

      go : (b : Bool) → ltb q p ≡ b → track_at (put_track w p t) q ≡ track_at w q
      go true e = all (inl (ltb-true q p e))
      go false e = all (inr (omega (arith, ltb-false q p e)))

-- ---- one entry more

-- the number by its two tests
abbrev pub by_tests : Bool → Bool → ℕ
by_tests reversed disorder = cond reversed 9 (cond disorder 10 0)

module _ (s : Shift) (es : List Entry) (e : Entry) where
  abbrev grown : List Entry
  grown = es ++ (e ∷ [])

  told-own : (t : Track) → Told s es e.pin t → cycle_before e.pin es 0 ≤ e.cycle → e.level ≤ 1 → s.from ≤ s.to → s.to < 18446744073709551616
      → Told s grown e.pin (took s.from s.to t e.level e.cycle)
  unfolding took
  told-own t told order bit fwd fits = go (eqb e.level t.level) refl (counts s.from s.to e.cycle) refl
    where
      go : (a : Bool) → eqb e.level t.level ≡ a → (b : Bool) → counts s.from s.to e.cycle ≡ b
          → Told s grown e.pin (cond a (passed_track t e.cycle) (cond b (turned_track s.from s.to t e.level e.cycle) (passed_track t e.cycle)))
      go true x b y = repeats s es e t told order bit (eqb-true e.level t.level x)
      go false x true y = turns s es e t told order bit (eqb-false e.level t.level x) y fwd fits
      go false x false y = too-late s es e t told order bit y

  -- a number stays
  stuck : (number_of s es ≡ 0 → ⊥) → number_of s grown ≡ number_of s es
  unfolding number_of
  stuck = go (ltb s.to s.from) (out_of_order [] es) refl
    where
      go : (a b : Bool) → out_of_order [] es ≡ b → (by_tests a b ≡ 0 → ⊥) → by_tests a (out_of_order [] grown) ≡ by_tests a b
      go true b x n = refl
      go false true x n = rw (order-more es [] e, x)
      go false false x n = absurd (n refl)

  forward : number_of s es ≡ 0 → s.from ≤ s.to
  unfolding number_of
  forward = go (ltb s.to s.from) refl
    where
      go : (a : Bool) → ltb s.to s.from ≡ a → by_tests a (out_of_order [] es) ≡ 0 → s.from ≤ s.to
      go true x h = omega arith
      go false x h = ltb-false s.to s.from x

  next : number_of s es ≡ 0 → number_of s grown ≡ cond (misplaced es e) 10 0
  unfolding number_of
  next = go (ltb s.to s.from) (out_of_order [] es) refl
    where
      go : (a b : Bool) → out_of_order [] es ≡ b → by_tests a b ≡ 0 → by_tests a (out_of_order [] grown) ≡ cond (misplaced es e) 10 0
      go true b x n = omega arith
      go false true x n = omega arith
      go false false x n = rw (order-more es [] e, x)

  module _ (w : List ℕ) (h : Stands s es w) where
    same-stray : number_of s es ≡ 0 → strays w e ≡ misplaced es e
    same-stray z = go (ltb 127 e.pin) refl
      where
        go : (b : Bool) → ltb 127 e.pin ≡ b
            → b || (ltb 1 e.level || ltb e.cycle (track_at w e.pin).last) ≡ b || (ltb 1 e.level || ltb e.cycle (cycle_before e.pin es 0))
        go true x = refl
        go false x = ap (λ (c : ℕ). ltb 1 e.level || ltb e.cycle c) (h.tracks z e.pin (omega (arith, ltb-false 127 e.pin x))).last

    abbrev Grows : List ℕ → Type 0
    Grows w₁ = Stands s grown w₁

    -- what an entry that is not misplaced says
    fine : misplaced es e ≡ false → (e.pin < 128) × (e.level ≤ 1) × (cycle_before e.pin es 0 ≤ e.cycle)
    fine = go (ltb 127 e.pin) refl (ltb 1 e.level) refl (ltb e.cycle (cycle_before e.pin es 0)) refl
      where
        go : (a : Bool) → ltb 127 e.pin ≡ a → (b : Bool) → ltb 1 e.level ≡ b → (c : Bool) → ltb e.cycle (cycle_before e.pin es 0) ≡ c → a || (b || c) ≡ false
            → (e.pin < 128) × (e.level ≤ 1) × (cycle_before e.pin es 0 ≤ e.cycle)
        go true x b y c z n = absurd (let k : ◌≡◌ {A = ℕ} 0 1 = ap (λ (v : Bool). cond v 0 1) n in omega arith)
        go false x true y c z n = absurd (let k : ◌≡◌ {A = ℕ} 0 1 = ap (λ (v : Bool). cond v 0 1) n in omega arith)
        go false x false y true z n = absurd (let k : ◌≡◌ {A = ℕ} 0 1 = ap (λ (v : Bool). cond v 0 1) n in omega arith)
        go false x false y false z n = (omega (arith, ltb-false 127 e.pin x), ltb-false 1 e.level y, ltb-false e.cycle (cycle_before e.pin es 0) z)

    -- an entry misplaced: 10 from now on
    turned-away : number_of s es ≡ 0 → misplaced es e ≡ true → Grows (set w 514 10)
    turned-away z a =
        let n : number_of s grown ≡ 10 = next z ∙ rw a in
        record {
          long = length-set w 514 10 ∙ h.long;
          fits = h.fits;
          from = get_or-set_other w 514 512 10 0 (λ x. omega arith) ∙ h.from;
          to = get_or-set_other w 514 513 10 0 (λ x. omega arith) ∙ h.to;
          number = get_or-set_same w 514 10 0 (omega (arith, h.long)) ∙ sym n;
          tracks = λ x. absurd (omega (arith, n, x));
        }

    -- an entry in order
    taken : number_of s es ≡ 0 → misplaced es e ≡ false → Grows (put_track w e.pin (took (from_of w) (to_of w) (track_at w e.pin) e.level e.cycle))
    taken z a =
        let u = took (from_of w) (to_of w) (track_at w e.pin) e.level e.cycle in
        let f = fine a in
        record {
          long = put-length w e.pin u ∙ h.long;
          fits = h.fits;
          from = put_other w e.pin u 512 (inr (omega (arith, f.0))) ∙ h.from;
          to = put_other w e.pin u 513 (inr (omega (arith, f.0))) ∙ h.to;
          number = put_other w e.pin u 514 (inr (omega (arith, f.0))) ∙ h.number ∙ z ∙ sym (next z ∙ rw a);
          tracks = λ x q lt. each u f (rw (h.from, h.to)) (eqb e.pin q) refl lt;
        }
      where
        each : (u : Track) → (e.pin < 128) × (e.level ≤ 1) × (cycle_before e.pin es 0 ≤ e.cycle) → u ≡ took s.from s.to (track_at w e.pin) e.level e.cycle
            → {q : ℕ} (b : Bool) → eqb e.pin q ≡ b → q < 128 → Told s grown q (track_at (put_track w e.pin u) q)
        each u f k {q} true x lt =
            subst (λ (p : ℕ). Told s grown p (track_at (put_track w e.pin u) p)) (eqb-true e.pin q x)
            (subst (λ (t : Track). Told s grown e.pin t) (sym (put_same w e.pin u (omega (arith, h.long, f.0)) ∙ k))
            (told-own (track_at w e.pin) (h.tracks z e.pin f.0) f.2 f.1 (forward z) h.fits))
        each u f k {q} false x lt =
            let n = eqb-false e.pin q x in
            subst (λ (t : Track). Told s grown q t) (sym (put-apart w e.pin u q n)) (told-other s es e q (track_at w q) n (h.tracks z q lt))

    pub stands-entered : Grows (entered w e)
    unfolding entered
    stands-entered = go (eqb (number_kept w) 0) refl
      where
        served : number_of s es ≡ 0 → (b : Bool) → strays w e ≡ b
            → Grows (cond b (set w 514 10) (put_track w e.pin (took (from_of w) (to_of w) (track_at w e.pin) e.level e.cycle)))
        served z true x = turned-away z (sym (same-stray z) ∙ x)
        served z false x = taken z (sym (same-stray z) ∙ x)

        go : (b : Bool) → eqb (number_kept w) 0 ≡ b
            → Grows (cond b (cond (strays w e) (set w 514 10) (put_track w e.pin (took (from_of w) (to_of w) (track_at w e.pin) e.level e.cycle))) w)
        go true x = served (sym h.number ∙ eqb-true (number_kept w) 0 x) (strays w e) refl
        go false x =
            let n : number_of s es ≡ 0 → ⊥ = λ k. eqb-false (number_kept w) 0 x (h.number ∙ k) in
            record {
              long = h.long;
              fits = h.fits;
              from = h.from;
              to = h.to;
              number = h.number ∙ sym (stuck n);
              tracks = λ k. absurd (n (sym (stuck n) ∙ k));
            }

-- ---- a book more, and so books in any number of pieces

pub stands-fed : (s : Shift) (es fs : List Entry) (w : List ℕ) → Stands s es w → Stands s (es ++ fs) (fed w fs)
unfolding fed
stands-fed s es [] w h = rw append-nil h
stands-fed s es (e ∷ fs) w h =
    subst (λ (l : List Entry). Stands s l (fed (entered w e) fs)) (append_assoc es (e ∷ []) fs) (stands-fed s (es ++ (e ∷ [])) fs (entered w e) (stands-entered s es e w h))

-- ---- as it begins

pub highs-still : (l a W : ℕ) → highs (λ (c : ℕ). l) a W ≡ cond (eqb l 1) W 0
unfolding highs
highs-still l a zero = go (eqb l 1)
  where
    go : (b : Bool) → ◌≡◌ {A = ℕ} 0 (cond b 0 0)
    go true = refl
    go false = refl
highs-still l a (suc W) = go (eqb l 1) (highs-still l a W)
  where
    go : (b : Bool) → highs (λ (c : ℕ). l) a W ≡ cond b W 0 → highs (λ (c : ℕ). l) a W + cond b 1 0 ≡ cond b (suc W) 0
    go true h = omega arith
    go false h = omega arith

level-bit : (words : List ℕ) (pin : ℕ) → level_bit words pin ≤ 1
unfolding level_bit
level-bit words pin = omega (arith, mod-lt (get_or words (pin / 32) 0 / 2 ^ (pin % 32)) {m = 2} (omega arith))

told_fresh : (s : Shift) (pin : ℕ) → Told s [] pin (fresh_track s.from s.to (level_before s pin))
unfolding level_at cycle_before latest edges
told_fresh s pin = record {
  last = refl;
  level = refl;
  high = sym (highs-still (level_before s pin) s.from (s.to - s.from));
  edges = refl;
  stays = λ c h. refl;
  small = λ c. level-bit s.words pin;
}

module _ (s : Shift) (w : List ℕ) where
  abbrev begun₁ : List ℕ
  begun₁ = set w 512 s.from

  abbrev begun₂ : List ℕ
  begun₂ = set begun₁ 513 s.to

  abbrev number₀ : ℕ
  number₀ = cond (ltb s.to s.from) 9 0

  abbrev begun₃ : List ℕ
  begun₃ = set begun₂ 514 number₀

  keep : (k : ℕ) → k < 512 → get_or begun₃ k 0 ≡ get_or w k 0
  keep k lt =
      get_or-set_other begun₂ 514 k number₀ 0 (λ x. omega arith) ∙ get_or-set_other begun₁ 513 k s.to 0 (λ x. omega arith) ∙ get_or-set_other w 512 k s.from 0 (λ x. omega arith)

  keeps : (pin : ℕ) → pin < 128 → track_at begun₃ pin ≡ track_at w pin
  keeps pin lt = rw (keep (4 * pin) (omega arith), keep (4 * pin + 1) (omega arith), keep (4 * pin + 2) (omega arith), keep (4 * pin + 3) (omega arith))

  pub stands-fresh : (w₁ : List ℕ) → Fresh s.words s.from s.to 128 w → s.to < 18446744073709551616 → w₁ ≡ begun₃ → Stands s [] w₁
  unfolding number_of out_of_order
  stands-fresh w₁ f fits e = subst (λ (x : List ℕ). Stands s [] x) (sym e) (record {
    long = length-set begun₂ 514 number₀ ∙ length-set begun₁ 513 s.to ∙ length-set w 512 s.from ∙ f.long;
    fits = fits;
    from = get_or-set_other begun₂ 514 512 number₀ 0 (λ x. omega arith) ∙ get_or-set_other begun₁ 513 512 s.to 0 (λ x. omega arith) ∙ get_or-set_same w 512 s.from 0 (omega (arith, f.long));
    to = get_or-set_other begun₂ 514 513 number₀ 0 (λ x. omega arith) ∙ get_or-set_same begun₁ 513 s.to 0 (omega (arith, f.long, length-set w 512 s.from));
    number = get_or-set_same begun₂ 514 number₀ 0 (omega (arith, f.long, length-set w 512 s.from, length-set begun₁ 513 s.to));
    tracks = λ x pin lt. subst (λ (t : Track). Told s [] pin t) (sym (keeps pin lt ∙ f.each pin lt)) (told_fresh s pin);
  })

  pub stands-begun : (n : ℕ) → Fresh s.words s.from s.to 128 w → s.to < 18446744073709551616 → n ≡ number₀ → Stands s [] (set begun₂ 514 n)
  stands-begun n f fits e = stands-fresh (set begun₂ 514 n) f fits (ap (λ (x : ℕ). set begun₂ 514 x) e)
