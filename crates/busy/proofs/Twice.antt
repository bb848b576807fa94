-- A line that a timer sets twice, the second time asking for no less than the first, is as if set once. Assumes nothing.
use mathlib.Core.Path.{◌≡◌, refl, sym, ap, ◌∙◌}
use mathlib.Core.Bool.{Bool, true, false, not, ◌&&◌, ◌||◌, false≢true}
use mathlib.Core.List.{List, [], ◌∷◌}
use Prim.Native.Nat.{ℕ, zero, suc, ◌≤◌}
use lib.ListN.{get_or, set, length}
use lib.Seq.{set-set, set-get_or}
use borrow.Author.Tests.{ltb-true}
use Rattle.nvic.specs.Nvic.{Line, Nvic, some, line_set, has_line, line_at, on_line, set_line}
use Rattle.nvic.proofs.Laws.{same, no_line}

-- ---- one wish more

abbrev To : Bool → Bool → Type 0
To a b = a ≡ true → b ≡ true

more : (ws : List Bool) (i : ℕ) → To (some (set ws i false)) (some (set ws i true))
unfolding some
more [] i h = h
more (w ∷ ws) zero h = refl
more (true ∷ ws) (suc i) h = refl
more (false ∷ ws) (suc i) h = more ws i h

some_to : (ws : List Bool) (i : ℕ) (a b : Bool) → To a b → To (some (set ws i a)) (some (set ws i b))
some_to ws i true true t h = h
some_to ws i true false t h = absurd (false≢true (t refl))
some_to ws i false true t h = more ws i h
some_to ws i false false t h = h

-- a line that rose at the first did not rise at the second
once : (h₀ h₁ h₂ p : Bool) → To h₀ h₁ → To h₁ h₂ → ((h₂ && not h₁) || ((h₁ && not h₀) || p)) ≡ ((h₂ && not h₀) || p)
once true true true p t u = refl
once true true false p t u = absurd (false≢true (u refl))
once true false h₂ p t u = absurd (false≢true (t refl))
once false true true p t u = refl
once false true false p t u = absurd (false≢true (u refl))
once false false true p t u = refl
once false false false p t u = refl

-- the line is high when there is a wish, and timer i asked for a: then for v, then for w
line-twice : (l : Line) (i : ℕ) (v w : Bool) → l.high ≡ some l.wishes → To (get_or l.wishes i false) v → To v w
    → line_set (line_set l i v) i w ≡ line_set l i w
line-twice l i v w h t u =
    rw (set-set l.wishes i v w)
    (ap (λ (p : Bool). record { high = some (set l.wishes i w); pending = p; wishes = set l.wishes i w })
    (once l.high (some (set l.wishes i v)) (some (set l.wishes i w)) l.pending first (some_to l.wishes i v w u)))
  where
    first : To l.high (some (set l.wishes i v))
    first e =
        some_to l.wishes i (get_or l.wishes i false) v t
        (ap some (set-get_or l.wishes i false) ∙ sym h ∙ e)

on_line_lem : (f : Line → Line) (n : Nvic) (irq : ℕ) → has_line n.nirq irq ≡ true → on_line f n irq ≡ record { nirq = n.nirq; lines = set n.lines irq (f (line_at n irq)) }
unfolding on_line
on_line_lem f n irq h = rw h

pub set_twice : (n : Nvic) (irq i : ℕ) (v w : Bool) → n.nirq ≤ length n.lines → (line_at n irq).high ≡ some (line_at n irq).wishes
    → (has_line n.nirq irq ≡ true → To (get_or (line_at n irq).wishes i false) v)
    → To v w
    → set_line (set_line n irq i v) irq i w ≡ set_line n irq i w
set_twice n irq i v w r h t u = go (has_line n.nirq irq) refl
  where
    go : (q : Bool) → has_line n.nirq irq ≡ q → set_line (set_line n irq i v) irq i w ≡ set_line n irq i w
    go false e = ap (λ (m : Nvic). set_line m irq i w) (no_line (λ l. line_set l i v) n irq e)
    go true e =
        let m : Nvic = record { nirq = n.nirq; lines = set n.lines irq (line_set (line_at n irq) i v) } in
        let first : set_line n irq i v ≡ m = on_line_lem (λ l. line_set l i v) n irq e in
        let at : line_at m irq ≡ line_set (line_at n irq) i v =
        sym (ap (λ (k : Nvic). line_at k irq) first) ∙ same (λ l. line_set l i v) n irq (ltb-true irq n.nirq e) r in
        ap (λ (k : Nvic). set_line k irq i w) first ∙ on_line_lem (λ l. line_set l i w) m irq e
        ∙ ap (λ (ls : List Line). record { nirq = n.nirq; lines = ls }) (set-set n.lines irq (line_set (line_at n irq) i v) (line_set (line_at m irq) i w))
        ∙ ap (λ (l : Line). record { nirq = n.nirq; lines = set n.lines irq l })
        (ap (λ (l : Line). line_set l i w) at ∙ line-twice (line_at n irq) i v w h (t e) u)
        ∙ sym (on_line_lem (λ l. line_set l i w) n irq e)
