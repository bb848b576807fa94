-- A pin's level at a cycle, and the order of its cycles, over entries put one after the other. Assumes nothing.
use Prim.Native.Nat.{ℕ, ◌≤◌, ◌<◌}
use mathlib.Core.Path.{◌≡◌, refl, sym, ◌∙◌}
use mathlib.Core.Bool.{Bool, true, false, cond, ◌&&◌}
use mathlib.Core.List.{List, [], ◌∷◌, ◌++◌}
use native.Mathlib.Nat.{le_refl, le_trans}
use lib.Dec.{eqb, leb, lit≤}
use borrow.Author.Tests.{eqb-true, eq-eqb, ne_eqb, le-leb, lt-leb}
use Rattle.pins.specs.declared.Source.{Source}
use Rattle.gpio.specs.Gpio.{edge, changed, bit}
use Rattle.std.specs.Prelude.{Option, Some, None}
use Rattle.gpio.specs.declared.Edge.{Edge}
use Rattle.book.specs.Book.{Entry, entry_of}
use Rattle.machine.specs.Sound.{Elsewhere}
use Rattle.book.specs.Level.{level_at}

pub level-append : (pin : ℕ) (es fs : List Entry) (l c : ℕ) → level_at pin (es ++ fs) l c ≡ level_at pin fs (level_at pin es l c) c
unfolding level_at
level-append pin [] fs l c = refl
level-append pin (e ∷ es) fs l c = level-append pin es fs (cond (eqb e.pin pin && leb e.cycle c) e.level l) c

-- ---- the pin's entries in order: their cycles never fall, from c on, to d at most, and their levels are 0 or 1

unfoldable pub Upward : ℕ → ℕ → List Entry → ℕ → Type 0
Upward pin c [] d = c ≤ d
Upward pin c (e ∷ es) d = (e.pin ≡ pin → (c ≤ e.cycle) × (e.level ≤ 1)) × Upward pin (cond (eqb e.pin pin) e.cycle c) es d

module _ (pin : ℕ) where
  upward-sooner : (a c : ℕ) (es : List Entry) (d : ℕ) → a ≤ c → Upward pin c es d → Upward pin a es d
  unfolding Upward
  upward-sooner a c [] d le h = le_trans le h
  upward-sooner a c (e ∷ es) d le h = (λ x. (le_trans le (h.0 x).0, (h.0 x).1), go (eqb e.pin pin) (upward-sooner a c es d le) h.1)
    where
      go : (b : Bool) → (Upward pin c es d → Upward pin a es d) → Upward pin (cond b e.cycle c) es d → Upward pin (cond b e.cycle a) es d
      go true f k = k
      go false f k = f k

  pub upward-later : (c : ℕ) (es : List Entry) (d d₁ : ℕ) → d ≤ d₁ → Upward pin c es d → Upward pin c es d₁
  unfolding Upward
  upward-later c [] d d₁ le h = le_trans h le
  upward-later c (e ∷ es) d d₁ le h = (h.0, upward-later (cond (eqb e.pin pin) e.cycle c) es d d₁ le h.1)

  pub upward-then : (c : ℕ) (es : List Entry) (m : ℕ) (fs : List Entry) (d : ℕ) → Upward pin c es m → Upward pin m fs d → Upward pin c (es ++ fs) d
  unfolding Upward
  upward-then c [] m fs d h k = upward-sooner c m fs d h k
  upward-then c (e ∷ es) m fs d h k = (h.0, upward-then (cond (eqb e.pin pin) e.cycle c) es m fs d h.1 k)

pub bit-small : (b : Bool) → bit b ≤ 1
bit-small true = le_refl 1
bit-small false = lit≤ tt

-- ---- the pin's level

-- entries that never change the pin's level
pub record Silent (pin : ℕ) (es : List Entry) : Type 0 where
  pub stays : (l c : ℕ) → level_at pin es l c ≡ l
  pub upward : (d : ℕ) → Upward pin d es d

-- entries, all at a cycle, that take the pin from an old level to a new one
pub record Moves (pin at : ℕ) (es : List Entry) (old new : ℕ) : Type 0 where
  pub before : (l c : ℕ) → c < at → level_at pin es l c ≡ l
  pub since : (c : ℕ) → at ≤ c → level_at pin es old c ≡ new
  pub upward : Upward pin at es at

module _ (pin : ℕ) where
  pub silent-elsewhere : (at : ℕ) (m : Option Edge) → Elsewhere pin m → Silent pin (entry_of at m)
  unfolding level_at entry_of Upward
  silent-elsewhere at m e = record { stays = go m e; upward = up m e }
    where
      up : (m : Option Edge) → Elsewhere pin m → (d : ℕ) → Upward pin d (entry_of at m) d
      up None e d = le_refl d
      up (Some m) e d = (λ x. absurd (e x), rw (ne_eqb m.pin pin e) (le_refl d))

      go : (m : Option Edge) → Elsewhere pin m → (l c : ℕ) → level_at pin (entry_of at m) l c ≡ l
      go None e l c = refl
      go (Some m) e l c = rw (ne_eqb m.pin pin e)

  pub moves-silent : (at : ℕ) (es : List Entry) (l : ℕ) → Silent pin es → Moves pin at es l l
  moves-silent at es l k = record { before = λ m c h. k.stays m c; since = λ c h. k.stays l c; upward = k.upward at }

  pub moves-then : (at : ℕ) (es fs : List Entry) (old mid new : ℕ) → Moves pin at es old mid → Moves pin at fs mid new → Moves pin at (es ++ fs) old new
  moves-then at es fs old mid new p q = record {
    before = λ l c h. level-append pin es fs l c ∙ q.before (level_at pin es l c) c h ∙ p.before l c h;
    since = λ c h. level-append pin es fs old c ∙ rw (p.since c h) (q.since c h);
    upward = upward-then pin at es at fs at p.upward q.upward;
  }

  -- "An entry is made exactly when a pin's level changes."
  pub moves-own : (at old new : ℕ) (source : Source) → new ≤ 1 → Moves pin at (entry_of at (changed pin old new source)) old new
  unfolding level_at entry_of Upward
  moves-own at old new source small = go (eqb new old) refl
    where
      go : (b : Bool) → eqb new old ≡ b → Moves pin at (entry_of at (cond b None (Some (edge pin new source)))) old new
      go true e = record { before = λ l c h. refl; since = λ c h. sym (eqb-true new old e); upward = le_refl at }
      go false e = record {
        before = λ l c h. rw (eq-eqb pin pin refl, lt-leb at c h);
        since = λ c h. rw (eq-eqb pin pin refl, le-leb at c h);
        upward = (λ x. (le_refl at, small), rw (eq-eqb pin pin refl) (le_refl at));
      }
