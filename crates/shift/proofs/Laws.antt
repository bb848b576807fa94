-- The words stand for a shift and its entries: one entry more. Assumes nothing.
use Rattle.std.proofs.Common.{◌≡◌, ℕ, zero, suc, ◌+◌, ◌-◌, ◌%◌, ◌<◌, ◌≤◌, max, Bool, true, false, cond, not, ◌&&◌, ◌||◌, eqb, ltb, leb, ◌⊎◌, List, [], ◌∷◌, ◌++◌, sym, refl, ap, ◌∙◌, subst, inl, inr, append_assoc, append-nil, add-suc, mod-eq_of_lt, arith, ltb-false, ltb-true, le-ltb, eq-eqb, ne_eqb, eqb-true, le-leb, leb-false, leb-true}
use borrow.Author.Tests.{eqb-false, lt-leb}
use Rattle.book.specs.Book.{Entry}
use Rattle.book.specs.Level.{level_at, highs}
use Rattle.shift.specs.declared.Track.{Track}
use Rattle.shift.specs.Shift.{Shift, level_before, level_in, high_in, is_edge, edges, last_cycle, cycle_before, misplaced, out_of_order}
use Rattle.shift.specs.Kept.{counts, rest, turned_track, passed_track, latest, Told}

-- ---- one entry more in each definition

module _ (q : ℕ) (e : Entry) where
  pub level-more : (es : List Entry) (l c : ℕ) → level_at q (es ++ (e ∷ [])) l c ≡ cond (eqb e.pin q && leb e.cycle c) e.level (level_at q es l c)
  unfolding level_at
  level-more [] l c = refl
  level-more (x ∷ es) l c = level-more es (cond (eqb x.pin q && leb x.cycle c) x.level l) c

  pub cycle-more : (es : List Entry) (c : ℕ) → cycle_before q (es ++ (e ∷ [])) c ≡ cond (eqb e.pin q) e.cycle (cycle_before q es c)
  unfolding cycle_before
  cycle-more [] c = refl
  cycle-more (x ∷ es) c = cycle-more es (cond (eqb x.pin q) x.cycle c)

  pub latest-more : (es : List Entry) (l : ℕ) → latest q (es ++ (e ∷ [])) l ≡ cond (eqb e.pin q) e.level (latest q es l)
  unfolding latest
  latest-more [] l = refl
  latest-more (x ∷ es) l = latest-more es (cond (eqb x.pin q) x.level l)

  pub edges_more : (s : Shift) (es : List Entry) (l : ℕ) → edges s q (es ++ (e ∷ [])) l ≡ edges s q es l + cond (eqb e.pin q) (cond (is_edge s (latest q es l) e) 1 0) 0
  unfolding edges latest
  edges_more s [] l = go (eqb e.pin q)
    where
      go : (b : Bool) → cond b (cond (is_edge s l e) 1 0 + 0) 0 ≡ 0 + cond b (cond (is_edge s l e) 1 0) 0
      go true = omega arith
      go false = refl
  edges_more s (x ∷ es) l = go (eqb x.pin q) (edges_more s es x.level) (edges_more s es l)
    where
      go : (b : Bool)
          → edges s q (es ++ (e ∷ [])) x.level ≡ edges s q es x.level + cond (eqb e.pin q) (cond (is_edge s (latest q es x.level) e) 1 0) 0
          → edges s q (es ++ (e ∷ [])) l ≡ edges s q es l + cond (eqb e.pin q) (cond (is_edge s (latest q es l) e) 1 0) 0
          → cond b (cond (is_edge s l x) 1 0 + edges s q (es ++ (e ∷ [])) x.level) (edges s q (es ++ (e ∷ [])) l)
          ≡ cond b (cond (is_edge s l x) 1 0 + edges s q es x.level) (edges s q es l) + cond (eqb e.pin q) (cond (is_edge s (latest q es (cond b x.level l)) e) 1 0) 0
      go true h k = omega arith
      go false h k = k

or_assoc : (a b c : Bool) → a || (b || c) ≡ (a || b) || c
or_assoc true b c = refl
or_assoc false b c = refl

or-false : (a : Bool) → a || false ≡ a
or-false true = refl
or-false false = refl

pub order-more : (es before : List Entry) (e : Entry) → out_of_order before (es ++ (e ∷ [])) ≡ out_of_order before es || misplaced (before ++ es) e
unfolding out_of_order
order-more [] before e = or-false (misplaced before e) ∙ ap (λ (x : List Entry). misplaced x e) (sym (append-nil before))
order-more (x ∷ es) before e =
    ap (λ (b : Bool). misplaced before x || b) (order-more es (before ++ (x ∷ [])) e ∙ ap (λ (l : List Entry). out_of_order (before ++ (x ∷ [])) es || misplaced l e) (append_assoc before (x ∷ []) es))
    ∙ or_assoc (misplaced before x) (out_of_order (before ++ (x ∷ [])) es) (misplaced (before ++ (x ∷ es)) e)

-- ---- high cycles

pub highs-same : (f g : ℕ → ℕ) (a W : ℕ) → ((c : ℕ) → a ≤ c → c < a + W → f c ≡ g c) → highs f a W ≡ highs g a W
unfolding highs
highs-same f g a zero h = refl
highs-same f g a (suc W) h =
    rw (highs-same f g a W (λ c lo hi. h c lo (omega arith)), h (a + W) (omega arith) (omega (arith, add-suc a W)))

pub highs-most : (f : ℕ → ℕ) (a W : ℕ) → highs f a W ≤ W
unfolding highs
highs-most f a zero = omega arith
highs-most f a (suc W) = go (eqb (f (a + W)) 1) (highs-most f a W)
  where
    go : (b : Bool) → highs f a W ≤ W → highs f a W + cond b 1 0 ≤ suc W
    go true h = omega arith
    go false h = omega arith

-- low from k on, high from k on, and the same before k
pub highs-turned : (f g : ℕ → ℕ) (a k W : ℕ) → ((c : ℕ) → c < k → f c ≡ g c) → ((c : ℕ) → k ≤ c → f c ≡ 0) → ((c : ℕ) → k ≤ c → g c ≡ 1)
    → highs g a W ≡ highs f a W + (a + W - max k a)
unfolding highs
highs-turned f g a k zero h l u = omega arith
highs-turned f g a k (suc W) h l u = go (leb k (a + W)) refl (highs-turned f g a k W h l u)
  where
    go : (b : Bool) → leb k (a + W) ≡ b → highs g a W ≡ highs f a W + (a + W - max k a)
        → highs g a W + cond (eqb (g (a + W)) 1) 1 0 ≡ (highs f a W + cond (eqb (f (a + W)) 1) 1 0) + (a + suc W - max k a)
    go true e ih = let o = leb-true k (a + W) e in rw (l (a + W) o, u (a + W) o) (omega (arith, add-suc a W))
    go false e ih = let o = leb-false k (a + W) e in rw (h (a + W) o) (omega (arith, add-suc a W))

wraps : (x : ℕ) → (x % 18446744073709551616 + 1) % 18446744073709551616 ≡ (x + 1) % 18446744073709551616
wraps x = omega arith

-- ---- the end of the shift

pub last-is : (s : Shift) → ((s.from < s.to) × (last_cycle s ≡ s.to - 1)) ⊎ ((s.to ≤ s.from) × (last_cycle s ≡ s.from))
unfolding last_cycle
last-is s = go (ltb s.from s.to) refl
  where
    go : (b : Bool) → ltb s.from s.to ≡ b
        → ((s.from < s.to) × (cond b (s.to - 1) s.from ≡ s.to - 1)) ⊎ ((s.to ≤ s.from) × (cond b (s.to - 1) s.from ≡ s.from))
    go true e = inl (ltb-true s.from s.to e, refl)
    go false e = inr (ltb-false s.from s.to e, refl)

module _ (s : Shift) (k : ℕ) where
  within : counts s.from s.to k ≡ true → k ≤ last_cycle s
  within = go (ltb k s.to) refl (leb k s.from) refl (last-is s)
    where
      go : (a : Bool) → ltb k s.to ≡ a → (b : Bool) → leb k s.from ≡ b
          → ((s.from < s.to) × (last_cycle s ≡ s.to - 1)) ⊎ ((s.to ≤ s.from) × (last_cycle s ≡ s.from)) → a || b ≡ true → k ≤ last_cycle s
      go true e b f (inl l) h = omega (arith, ltb-true k s.to e)
      go true e b f (inr l) h = omega (arith, ltb-true k s.to e)
      go false e true f (inl l) h = omega (arith, leb-true k s.from f)
      go false e true f (inr l) h = omega (arith, leb-true k s.from f)
      go false e false f l h = absurd (let z : ◌≡◌ {A = ℕ} 0 1 = ap (λ (x : Bool). cond x 1 0) h in omega arith)

  beyond : counts s.from s.to k ≡ false → (s.to ≤ k) × (s.from < k) × (last_cycle s < k)
  beyond = go (ltb k s.to) refl (leb k s.from) refl (last-is s)
    where
      go : (a : Bool) → ltb k s.to ≡ a → (b : Bool) → leb k s.from ≡ b
          → ((s.from < s.to) × (last_cycle s ≡ s.to - 1)) ⊎ ((s.to ≤ s.from) × (last_cycle s ≡ s.from)) → a || b ≡ false → (s.to ≤ k) × (s.from < k) × (last_cycle s < k)
      go true e b f l h = absurd (let z : ◌≡◌ {A = ℕ} 0 1 = ap (λ (x : Bool). cond x 0 1) h in omega arith)
      go false e true f l h = absurd (let z : ◌≡◌ {A = ℕ} 0 1 = ap (λ (x : Bool). cond x 0 1) h in omega arith)
      go false e false f (inl l) h = (ltb-false k s.to e, leb-false k s.from f, omega (arith, ltb-false k s.to e))
      go false e false f (inr l) h = (ltb-false k s.to e, leb-false k s.from f, omega (arith, leb-false k s.from f))

  window : s.from ≤ k → k < s.from + (s.to - s.from) → k ≤ last_cycle s
  window lo hi = go (last-is s)
    where
      go : ((s.from < s.to) × (last_cycle s ≡ s.to - 1)) ⊎ ((s.to ≤ s.from) × (last_cycle s ≡ s.from)) → k ≤ last_cycle s
      go (inl l) = omega arith
      go (inr l) = omega arith

-- ---- one entry more: a pin that is not the entry's

module _ (s : Shift) (es : List Entry) (e : Entry) where
  abbrev grown : List Entry
  grown = es ++ (e ∷ [])

  pub told-other : (q : ℕ) (t : Track) → (e.pin ≡ q → ⊥) → Told s es q t → Told s grown q t
  told-other q t n h =
      let z : eqb e.pin q ≡ false = ne_eqb e.pin q n in
      let lv : (c : ℕ) → level_in s grown q c ≡ level_in s es q c = λ c. level-more q e es (level_before s q) c ∙ rw z in
      let cy : cycle_before q grown 0 ≡ cycle_before q es 0 = cycle-more q e es 0 ∙ rw z in
      let ed : edges s q grown (level_before s q) ≡ edges s q es (level_before s q) = edges_more q e s es (level_before s q) ∙ rw z (omega arith) in
      record {
        last = h.last ∙ sym cy;
        level = h.level ∙ sym (lv (last_cycle s));
        high = h.high ∙ highs-same (level_in s es q) (level_in s grown q) s.from (s.to - s.from) (λ c lo hi. sym (lv c));
        edges = h.edges ∙ ap (λ (x : ℕ). x % 18446744073709551616) (sym ed);
        stays = λ c k. lv c ∙ h.stays c (omega (arith, cy)) ∙ sym (latest-more q e es (level_before s q) ∙ rw z);
        small = λ c. subst (λ (x : ℕ). x ≤ 1) (sym (lv c)) (h.small c);
      }

  -- ---- one entry more: its own pin

  module _ (t : Track) (told : Told s es e.pin t) (order : cycle_before e.pin es 0 ≤ e.cycle) (bit : e.level ≤ 1) where
    abbrev was : ℕ → ℕ
    was = level_in s es e.pin

    abbrev is : ℕ → ℕ
    is = level_in s grown e.pin

    abbrev level₀ : ℕ
    level₀ = latest e.pin es (level_before s e.pin)

    abbrev edges₀ : ℕ
    edges₀ = edges s e.pin es (level_before s e.pin)

    mine : eqb e.pin e.pin ≡ true
    mine = eq-eqb e.pin e.pin refl

    since : (c : ℕ) → e.cycle ≤ c → is c ≡ e.level
    since c h = level-more e.pin e es (level_before s e.pin) c ∙ rw (mine, le-leb e.cycle c h)

    before : (c : ℕ) → c < e.cycle → is c ≡ was c
    before c h = level-more e.pin e es (level_before s e.pin) c ∙ rw (mine, lt-leb e.cycle c h)

    -- at the end of the shift the level is the latest, if no entry came after it
    at-end : e.cycle ≤ last_cycle s → t.level ≡ level₀
    at-end h = told.level ∙ told.stays (last_cycle s) (omega arith)

    built : (u : Track) → u.last ≡ e.cycle → u.level ≡ is (last_cycle s) → u.high ≡ high_in s grown e.pin
        → u.edges ≡ (edges₀ + cond (is_edge s level₀ e) 1 0) % 18446744073709551616 → Told s grown e.pin u
    built u a b c d =
        let cy : cycle_before e.pin grown 0 ≡ e.cycle = cycle-more e.pin e es 0 ∙ rw mine in
        record {
          last = a ∙ sym cy;
          level = b;
          high = c;
          edges = d ∙ ap (λ (x : ℕ). x % 18446744073709551616) (sym (edges_more e.pin e s es (level_before s e.pin) ∙ rw mine));
          stays = λ x h. since x (omega (arith, cy)) ∙ sym (latest-more e.pin e es (level_before s e.pin) ∙ rw mine);
          small = λ x. go x (leb e.cycle x) refl;
        }
      where
        go : (x : ℕ) (b : Bool) → leb e.cycle x ≡ b → is x ≤ 1
        go x true h = subst (λ (n : ℕ). n ≤ 1) (sym (since x (leb-true e.cycle x h))) bit
        go x false h = subst (λ (n : ℕ). n ≤ 1) (sym (before x (leb-false e.cycle x h))) (told.small x)

    -- an entry that changes nothing before the end of the shift
    quiet : ((c : ℕ) → c ≤ last_cycle s → is c ≡ was c) → is_edge s level₀ e ≡ false → Told s grown e.pin (passed_track t e.cycle)
    quiet same none = built (passed_track t e.cycle) refl (told.level ∙ sym (same (last_cycle s) (omega arith)))
        (told.high ∙ highs-same was is s.from (s.to - s.from) (λ c lo hi. sym (same c (window s c lo hi))))
        (told.edges ∙ ap (λ (x : ℕ). x % 18446744073709551616) (rw none (omega arith)))

    -- "An entry that repeats its pin's level is no edge."
    pub repeats : e.level ≡ t.level → Told s grown e.pin (passed_track t e.cycle)
    repeats v = quiet (λ c h. same c (leb e.cycle c) refl h) (edge (ltb s.from e.cycle) (ltb e.cycle s.to) refl)
      where
        same : (c : ℕ) (b : Bool) → leb e.cycle c ≡ b → c ≤ last_cycle s → is c ≡ was c
        same c true h le =
            let o = leb-true e.cycle c h in
            since c o ∙ v ∙ at-end (omega arith) ∙ sym (told.stays c (omega arith))
        same c false h le = before c (leb-false e.cycle c h)

        edge : (a b : Bool) → ltb e.cycle s.to ≡ b → a && (b && not (eqb e.level level₀)) ≡ false
        edge false b h = refl
        edge true false h = refl
        edge true true h = rw (eq-eqb e.level level₀ (v ∙ at-end (within s e.cycle (rw h)))) refl

    -- an entry at to or later
    pub too-late : counts s.from s.to e.cycle ≡ false → Told s grown e.pin (passed_track t e.cycle)
    too-late h =
        let o = beyond s e.cycle h in
        quiet (λ c le. before c (omega (arith, o.2))) (rw (le-ltb e.cycle s.to o.0) (no (ltb s.from e.cycle)))
      where
        no : (a : Bool) → a && false ≡ false
        no true = refl
        no false = refl

    passes-to : s.from < e.cycle → s.to ≤ e.cycle → counts s.from s.to e.cycle ≡ true → ⊥
    passes-to x y h =
        let no : counts s.from s.to e.cycle ≡ false = rw (le-ltb e.cycle s.to y, lt-leb e.cycle s.from x) in
        let z : ◌≡◌ {A = ℕ} 0 1 = ap (λ (b : Bool). cond b 1 0) (sym no ∙ h) in
        omega arith

    -- an entry that changes the level
    pub turns : (e.level ≡ t.level → ⊥) → counts s.from s.to e.cycle ≡ true → s.from ≤ s.to → s.to < 18446744073709551616
        → Told s grown e.pin (turned_track s.from s.to t e.level e.cycle)
    turns n h fwd fits =
        let k : e.cycle ≤ last_cycle s = within s e.cycle h in
        let l : t.level ≡ level₀ = at-end k in
        built (turned_track s.from s.to t e.level e.cycle) refl (sym (since (last_cycle s) k)) (heights (eqb e.level 1) refl l)
        (edge (ltb s.from e.cycle) refl (ltb e.cycle s.to) refl l h)
      where
        heights : (b : Bool) → eqb e.level 1 ≡ b → t.level ≡ level₀
            → cond b ((t.high + rest s.from s.to e.cycle) % 18446744073709551616) (t.high - rest s.from s.to e.cycle) ≡ high_in s grown e.pin
        heights true x l =
            let v : e.level ≡ 1 = eqb-true e.level 1 x in
            let z : level₀ ≡ 0 = omega (arith, told.small (last_cycle s), told.level) in
            let r : high_in s grown e.pin ≡ high_in s es e.pin + (s.from + (s.to - s.from) - max e.cycle s.from) =
            highs-turned was is s.from e.cycle (s.to - s.from) (λ c lo. sym (before c lo)) (λ c hi. told.stays c (omega arith) ∙ z) (λ c hi. since c hi ∙ v) in
            let q : s.from + (s.to - s.from) ≡ s.to = omega arith in
            let m : high_in s grown e.pin ≤ s.to - s.from = highs-most is s.from (s.to - s.from) in
            let w : t.high + rest s.from s.to e.cycle ≡ high_in s grown e.pin = sym (r ∙ rw (q, told.high)) in
            rw w (mod-eq_of_lt (omega arith))
        heights false x l =
            let v : e.level ≡ 0 = omega (arith, eqb-false e.level 1 x) in
            let z : level₀ ≡ 1 = omega (arith, told.small (last_cycle s), told.level) in
            let r : high_in s es e.pin ≡ high_in s grown e.pin + (s.from + (s.to - s.from) - max e.cycle s.from) =
            highs-turned is was s.from e.cycle (s.to - s.from) (λ c lo. before c lo) (λ c hi. since c hi ∙ v) (λ c hi. told.stays c (omega arith) ∙ z) in
            let q : s.from + (s.to - s.from) ≡ s.to = omega arith in
            let w : t.high ≡ high_in s grown e.pin + rest s.from s.to e.cycle = told.high ∙ r ∙ rw q in
            omega (arith, w)

        edge : (a : Bool) → ltb s.from e.cycle ≡ a → (b : Bool) → ltb e.cycle s.to ≡ b → t.level ≡ level₀ → counts s.from s.to e.cycle ≡ true
            → cond a ((t.edges + 1) % 18446744073709551616) t.edges ≡ (edges₀ + cond (a && (b && not (eqb e.level level₀))) 1 0) % 18446744073709551616
        edge true x true y l h = rw (ne_eqb e.level level₀ (λ v. n (v ∙ sym l)), told.edges) (wraps edges₀)
        edge true x false y l h = absurd (passes-to (ltb-true s.from e.cycle x) (ltb-false e.cycle s.to y) h)
        edge false x b y l h = told.edges ∙ ap (λ (m : ℕ). m % 18446744073709551616) (omega arith)
