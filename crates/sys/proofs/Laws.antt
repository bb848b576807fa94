-- What the functions leave, over any board: each step's equation in, the definition's board out. Assumes nothing.
use mathlib.Core.Path.{◌≡◌, refl, ap, sym, ◌∙◌}
use mathlib.Core.Bool.{true}
use Prim.Native.Nat.{ℕ, suc, ◌+◌, ◌-◌, ◌≤◌, ◌<◌}
use native.Mathlib.Nat.{sub-zero}
use native.Mathlib.Omega.{arith}
use mathlib.Core.List.{◌++◌}
use lib.Ieee.{Float}
use lib.ListN.{length}
use lib.Seq.{get_or-set_same}
use borrow.Author.Tests.{eq-eqb, ne_eqb}
use Rattle.pins.specs.declared.Source.{Source}
use Rattle.pins.specs.Pins.{by_chip}
use Rattle.gpio.specs.declared.Gpio.{Gpio}
use Rattle.gpio.specs.declared.PinCfg.{PinCfg}
use Rattle.std.specs.Prelude.{Option, None}
use Rattle.gpio.specs.declared.Edge.{Edge}
use Rattle.gpio.specs.declared.Moved.{Moved}
use Rattle.gpio.specs.Gpio.{signal_of, drives, changed, updated, refreshed, is_push_pull, push_pull, configured}
use Rattle.gpio.proofs.Laws.{level-change, own-signal, signal-wins}
use Rattle.machine.specs.Board.{Board, Pads, gpio_at, route_of, level_of, with_pads, with_gpio, with_sig_level, no_gpio}
use Rattle.machine.specs.Sys.{Move, update_pin, refresh_pin, leave, take, selected, select_af, sig_out, unrouted, reset_pin, Resets, reset_from, reset_pins}
use Rattle.machine.specs.Step.{changes_of}
use Rattle.book.specs.Book.{Book, puts, entry_of}
use Rattle.book.proofs.Laws.{puts-append}
use Rattle.sys.specs.Moves.{Moves, Reset}

module _ (b b₁ : Board) (i : ℕ) (g : Gpio) (v : Float) (m : Moved) (load : g ≡ gpio_at b.pads i) (supply : v ≡ b.pads.vcc)
    (store : b₁ ≡ with_pads b (with_gpio b.pads i m.gpio)) where
  moved : (p : Moved) → m ≡ p → (o : Move) → o ≡ record { pads = with_gpio b.pads i p.gpio; change = p.change } → Moves o b b₁ m.change
  moved p e o k = rw k (record { board = store ∙ ap (λ (x : Moved). with_pads b (with_gpio b.pads i x.gpio)) e; change = ap (λ (x : Moved). x.change) e })

  pub update-moves : m ≡ updated i g v → Moves (update_pin b.pads i) b b₁ m.change
  unfolding update_pin
  update-moves h = moved (updated i (gpio_at b.pads i) b.pads.vcc) (h ∙ ap (λ (x : Gpio). updated i x v) load ∙ ap (updated i (gpio_at b.pads i)) supply) _ refl

  pub loaded-moves : (s l : ℕ) → s ≡ signal_of g → l ≡ level_of b.pads s → m ≡ refreshed i g l v → Moves (refresh_pin b.pads i) b b₁ m.change
  unfolding refresh_pin
  loaded-moves s l q r h =
      moved (refreshed i (gpio_at b.pads i) (level_of b.pads (signal_of (gpio_at b.pads i))) b.pads.vcc)
      (h ∙ ap (λ (x : ℕ). refreshed i g x v) (r ∙ ap (level_of b.pads) q)
      ∙ ap (λ (x : Gpio). refreshed i x (level_of b.pads (signal_of x)) v) load
      ∙ ap (refreshed i (gpio_at b.pads i) (level_of b.pads (signal_of (gpio_at b.pads i)))) supply)
      (refresh_pin b.pads i) refl

-- ---- a pin refreshed
module _ (b b₁ : Board) (i : ℕ) where
  -- a push-pull pin that its signal drives
  push-sets : (s l : ℕ) → is_push_pull (gpio_at b.pads i).cfg ≡ true → s ≡ (gpio_at b.pads i).sig → drives s ≡ true → l ≡ level_of b.pads s
      → b₁ ≡ with_pads b (with_gpio b.pads i (push_pull (gpio_at b.pads i) l b.pads.vcc)) → b₁ ≡ with_pads b (refresh_pin b.pads i).pads
  unfolding refresh_pin
  push-sets s l h q d r e =
      let g : Gpio = gpio_at b.pads i in
      let v : Float = b.pads.vcc in
      let own : level_of b.pads (signal_of g) ≡ l = ap (level_of b.pads) (own-signal g h ∙ sym q) ∙ sym r in
      let same : (refreshed i g (level_of b.pads (signal_of g)) v).gpio ≡ push_pull g l v =
      ap (λ (n : ℕ). (refreshed i g n v).gpio) own ∙ signal-wins g h (ap drives (sym q) ∙ d) i l v in
      e ∙ ap (λ (x : Gpio). with_pads b (with_gpio b.pads i x)) (sym same)

  -- which has that level
  push-level : (l : ℕ) → i < length b.pads.gpio → b₁ ≡ with_pads b (with_gpio b.pads i (push_pull (gpio_at b.pads i) l b.pads.vcc))
      → l ≡ (gpio_at b₁.pads i).pin.level
  unfolding push_pull
  push-level l h e =
      sym (ap (λ (y : Board). (gpio_at y.pads i).pin.level) e
      ∙ ap (λ (x : Gpio). x.pin.level) (get_or-set_same b.pads.gpio i (push_pull (gpio_at b.pads i) l b.pads.vcc) no_gpio h))

  -- and the chip as its source
  push-source : (l : ℕ) → i < length b.pads.gpio → b₁ ≡ with_pads b (with_gpio b.pads i (push_pull (gpio_at b.pads i) l b.pads.vcc))
      → by_chip ≡ (gpio_at b₁.pads i).pin.source
  unfolding push_pull
  push-source l h e =
      sym (ap (λ (y : Board). (gpio_at y.pads i).pin.source) e
      ∙ ap (λ (x : Gpio). x.pin.source) (get_or-set_same b.pads.gpio i (push_pull (gpio_at b.pads i) l b.pads.vcc) no_gpio h))

  -- its change, from its level before and after, and its source after
  refresh-moves : i < length b.pads.gpio → b₁ ≡ with_pads b (refresh_pin b.pads i).pads
      → (was now : ℕ) (by : Source) → was ≡ (gpio_at b.pads i).pin.level → now ≡ (gpio_at b₁.pads i).pin.level → by ≡ (gpio_at b₁.pads i).pin.source
      → (r : Option Edge) → r ≡ changed i was now by → Moves (refresh_pin b.pads i) b b₁ r
  unfolding refresh_pin
  refresh-moves h e was now by p q o r c =
      let g : Gpio = gpio_at b.pads i in
      let m : Moved = refreshed i g (level_of b.pads (signal_of g)) b.pads.vcc in
      let new : now ≡ m.gpio.pin.level =
      q ∙ ap (λ (y : Board). (gpio_at y.pads i).pin.level) e
      ∙ ap (λ (x : Gpio). x.pin.level) (get_or-set_same b.pads.gpio i m.gpio no_gpio h) in
      let held : by ≡ m.gpio.pin.source =
      o ∙ ap (λ (y : Board). (gpio_at y.pads i).pin.source) e
      ∙ ap (λ (x : Gpio). x.pin.source) (get_or-set_same b.pads.gpio i m.gpio no_gpio h) in
      record {
        board = e;
        change =
            c ∙ ap (λ (n : ℕ). changed i n now by) p ∙ ap (λ (n : ℕ). changed i g.pin.level n by) new ∙ ap (changed i g.pin.level m.gpio.pin.level) held
            ∙ sym (level-change i g (level_of b.pads (signal_of g)) b.pads.vcc);
      }

  -- the change of a push-pull pin that its signal drives
  pub push-moves : i < length b.pads.gpio → (s l was : ℕ) → is_push_pull (gpio_at b.pads i).cfg ≡ true → s ≡ (gpio_at b.pads i).sig → drives s ≡ true
      → l ≡ level_of b.pads s → was ≡ (gpio_at b.pads i).pin.level
      → b₁ ≡ with_pads b (with_gpio b.pads i (push_pull (gpio_at b.pads i) l b.pads.vcc))
      → (r : Option Edge) → r ≡ changed i was l by_chip → Moves (refresh_pin b.pads i) b b₁ r
  push-moves h s l was p q d k o e r c = refresh-moves h (push-sets s l p q d k e) was l by_chip o (push-level l h e) (push-source l h e) r c

-- ---- a pin configured, and its routes
pub select-sets : (b b₁ b₂ b₃ : Board) (i : ℕ) (g g₁ : Gpio) (c : PinCfg) (f new : ℕ)
    → g ≡ gpio_at b.pads i → new ≡ selected b.pads i c f → g₁ ≡ configured g c new
    → b₁ ≡ with_pads b (with_gpio b.pads i g₁) → b₂ ≡ with_pads b₁ (leave b₁.pads i g.sig) → b₃ ≡ with_pads b₂ (take b₂.pads i new)
    → b₃ ≡ with_pads b (select_af b.pads i c f)
unfolding select_af
select-sets b b₁ b₂ b₃ i g g₁ c f new load sel conf p q r =
    let g' = configured (gpio_at b.pads i) c (selected b.pads i c f) in
    let e : g₁ ≡ g' = conf ∙ ap (λ (x : Gpio). configured x c new) load ∙ ap (configured (gpio_at b.pads i) c) sel in
    let x₁ = with_pads b (with_gpio b.pads i g') in
    let e₁ : b₁ ≡ x₁ = p ∙ ap (λ (x : Gpio). with_pads b (with_gpio b.pads i x)) e in
    let x₂ = with_pads x₁ (leave x₁.pads i (gpio_at b.pads i).sig) in
    let e₂ : b₂ ≡ x₂ = q ∙ ap (λ (y : Board). with_pads y (leave y.pads i g.sig)) e₁ ∙ ap (λ (x : Gpio). with_pads x₁ (leave x₁.pads i x.sig)) load in
    r ∙ ap (λ (y : Board). with_pads y (take y.pads i new)) e₂ ∙ ap (λ (n : ℕ). with_pads x₂ (take x₂.pads i n)) sel

-- one thing done to the pads, then a pin moved
pub then-moves : (b b₁ b₂ : Board) (p : Pads) (f : Pads → Move) (r : Option Edge) → b₁ ≡ with_pads b p → Moves (f b₁.pads) b₁ b₂ r → Moves (f p) b b₂ r
then-moves b b₁ b₂ p f r e m = record {
  board = m.board ∙ ap (λ (y : Board). with_pads y (f y.pads).pads) e;
  change = m.change ∙ ap (λ (y : Board). (f y.pads).change) e;
}

-- ---- a signal
module _ (b : Board) (s l : ℕ) where
  pub sig_same : level_of b.pads s ≡ l → Moves (sig_out b.pads s l) b b None
  unfolding sig_out
  sig_same h = simp (eq-eqb (level_of b.pads s) l h) (record { board = refl; change = refl })

  module _ (n : level_of b.pads s ≡ l → ⊥) (b₁ : Board) (e : b₁ ≡ with_pads b (with_sig_level b.pads s l)) where
    routed : route_of b₁.pads s ≡ route_of b.pads s
    routed = ap (λ (y : Board). route_of y.pads s) e

    pub sig_none : route_of b₁.pads s ≡ 128 → Moves (sig_out b.pads s l) b b₁ None
    unfolding sig_out
    sig_none h = simp (ne_eqb (level_of b.pads s) l n, eq-eqb (route_of b.pads s) 128 (sym routed ∙ h)) (record { board = e; change = refl })

    pub sig-pin : (p : ℕ) → p ≡ route_of b₁.pads s → (p ≡ 128 → ⊥) → (b₂ : Board) (r : Option Edge) → Moves (refresh_pin b₁.pads p) b₁ b₂ r
        → Moves (sig_out b.pads s l) b b₂ r
    unfolding sig_out
    sig-pin p q k b₂ r m =
        simp (ne_eqb (level_of b.pads s) l n, ne_eqb (route_of b.pads s) 128 (λ z. k (q ∙ routed ∙ z)), ← (q ∙ routed))
        (then-moves b b₁ b₂ (with_sig_level b.pads s l) (λ (x : Pads). refresh_pin x p) r e m)

-- ---- the pin reset

-- i pins of n are reset: what is left leads to the same pads and the same book
pub record Resetting (n cycle i : ℕ) (b : Board) (k₀ : Book) (y : Board) (k : Book) : Type 0 where
  pub within : i ≤ n
  pub few : k.count ≤ k₀.count + i
  pub board : y ≡ with_pads b y.pads
  pub pads : (reset_from (n - i) i y.pads).pads ≡ (reset_from n 0 b.pads).pads
  pub entries : puts k (changes_of cycle (reset_from (n - i) i y.pads).changes) ≡ puts k₀ (changes_of cycle (reset_from n 0 b.pads).changes)

pub reset-begins : (n cycle : ℕ) (b : Board) (k₀ : Book) → Resetting n cycle 0 b k₀ b k₀
reset-begins n cycle b k₀ = record {
  within = omega arith;
  few = omega arith;
  board = refl;
  pads = ap (λ (m : ℕ). (reset_from m 0 b.pads).pads) (sub-zero n);
  entries = ap (λ (m : ℕ). puts k₀ (changes_of cycle (reset_from m 0 b.pads).changes)) (sub-zero n);
}

-- one pin more of those that are left
reset-next : (m i : ℕ) (p : Pads) → (reset_from (suc m) i p).pads ≡ (reset_from m (i + 1) (reset_pin p i).pads).pads
unfolding reset_from
reset-next m i p = refl

reset-more : (m i cycle : ℕ) (p : Pads)
    → changes_of cycle (reset_from (suc m) i p).changes ≡ entry_of cycle (reset_pin p i).change ++ changes_of cycle (reset_from m (i + 1) (reset_pin p i).pads).changes
unfolding reset_from changes_of
reset-more m i cycle p = refl

-- none is left
none-pads : (i : ℕ) (p : Pads) → (reset_from 0 i p).pads ≡ p
unfolding reset_from
none-pads i p = refl

none-entries : (k : Book) (i cycle : ℕ) (p : Pads) → puts k (changes_of cycle (reset_from 0 i p).changes) ≡ k
unfolding reset_from changes_of puts
none-entries k i cycle p = refl

module _ (n cycle i : ℕ) (b : Board) (k₀ : Book) (y : Board) (k : Book) (h : Resetting n cycle i b k₀ y k) where
  pub reset-goes : i < n → (y₁ : Board) (c : Option Edge) → Moves (reset_pin y.pads i) y y₁ c → (k₁ : Book) → k₁ ≡ puts k (entry_of cycle c) → k₁.count ≤ k.count + 1
      → Resetting n cycle (i + 1) b k₀ y₁ k₁
  reset-goes l y₁ c m k₁ e f =
      let d : n - i ≡ suc (n - (i + 1)) = omega arith in
      let q : y₁.pads ≡ (reset_pin y.pads i).pads = ap (λ (z : Board). z.pads) m.board in
      record {
        within = omega arith;
        few = omega (arith, h.few);
        board = m.board ∙ ap (λ (z : Board). with_pads z (reset_pin y.pads i).pads) h.board ∙ ap (with_pads b) (sym q);
        pads = ap (λ (p : Pads). (reset_from (n - (i + 1)) (i + 1) p).pads) q ∙ sym (reset-next (n - (i + 1)) i y.pads) ∙ ap (λ (j : ℕ). (reset_from j i y.pads).pads) (sym d) ∙ h.pads;
        entries =
            ap (λ (p : Pads). puts k₁ (changes_of cycle (reset_from (n - (i + 1)) (i + 1) p).changes)) q
            ∙ ap (λ (z : Book). puts z (changes_of cycle (reset_from (n - (i + 1)) (i + 1) (reset_pin y.pads i).pads).changes)) (e ∙ ap (λ (x : Option Edge). puts k (entry_of cycle x)) m.change)
            ∙ sym (puts-append k (entry_of cycle (reset_pin y.pads i).change) (changes_of cycle (reset_from (n - (i + 1)) (i + 1) (reset_pin y.pads i).pads).changes))
            ∙ ap (puts k) (sym (reset-more (n - (i + 1)) i cycle y.pads))
            ∙ ap (λ (j : ℕ). puts k (changes_of cycle (reset_from j i y.pads).changes)) (sym d)
            ∙ h.entries;
      }

  pub reset-ends : n ≤ i → (b₀ : Board) → b ≡ with_pads b₀ (unrouted b₀.pads) → n ≡ b₀.counts.pins → Reset b₀ y cycle k₀ k
  unfolding reset_pins
  reset-ends g b₀ u c =
      let d : n - i ≡ 0 = omega (arith, h.within) in
      let p : y.pads ≡ (reset_from n 0 b.pads).pads = sym (none-pads i y.pads) ∙ ap (λ (j : ℕ). (reset_from j i y.pads).pads) (sym d) ∙ h.pads in
      let s : reset_from n 0 b.pads ≡ reset_from b₀.counts.pins 0 (unrouted b₀.pads) =
      ap (λ (z : Board). reset_from n 0 z.pads) u ∙ ap (λ (j : ℕ). reset_from j 0 (unrouted b₀.pads)) c in
      record {
        board = h.board ∙ ap (with_pads b) (p ∙ ap (λ (r : Resets). r.pads) s) ∙ ap (λ (z : Board). with_pads z (reset_from b₀.counts.pins 0 (unrouted b₀.pads)).pads) u;
        entries = sym (none-entries k i cycle y.pads) ∙ ap (λ (j : ℕ). puts k (changes_of cycle (reset_from j i y.pads).changes)) (sym d) ∙ h.entries ∙ ap (λ (r : Resets). puts k₀ (changes_of cycle r.changes)) s;
      }
