-- What driving leaves, over any board: each step's equation in, the definition's board out. Assumes nothing.
use mathlib.Core.Path.{◌≡◌, refl, ap, subst, ◌∙◌}
use mathlib.Core.Bool.{Bool, true, false, cond}
use Prim.Native.Nat.{ℕ, ◌+◌, ◌≤◌, ◌<◌}
use native.Mathlib.Omega.{arith}
use lib.Dec.{lit≤}
use mir.Val.{bool_byte}
use borrow.Author.Tests.{lt-ltb, le-ltb, le-leb}
use Rattle.tim.specs.declared.Timer.{Timer}
use Rattle.tim.specs.Change.{output}
use Rattle.sig.specs.Signal.{tim_signal}
use Rattle.std.specs.Prelude.{Option, None}
use Rattle.gpio.specs.declared.Edge.{Edge}
use Rattle.gpio.specs.Gpio.{bit}
use Rattle.book.specs.Book.{Changes, Book, puts, entry_of, entries_of}
use Rattle.book.proofs.Laws.{puts-four}
use Rattle.machine.specs.Board.{Board, Pads, level_of, with_pads}
use Rattle.machine.specs.Sys.{Move, Drive, sig_out, driver, drive_channel, no_changes, drive_outputs}
use Rattle.sys.specs.Moves.{Moves}
use Rattle.sys.proofs.Laws.{sig_same, then-moves}
use Rattle.outputs.specs.Outputs.{Driven, level_driven, DrivenOne}

-- a timer's four channels driven, their changes not yet written
record Drives (d : Drive) (b b₁ : Board) (r : Changes) : Type 0 where
  board : b₁ ≡ with_pads b d.pads
  changes : r ≡ d.changes

-- the four channels of timer n, one after the other
abbrev four_driven : ℕ → ℕ → Bool → Bool → Bool → Bool → Pads → Drive
four_driven n channels l l₁ l₂ l₃ p =
    let a = level_driven channels 0 (tim_signal n 0) l p in
    let b = level_driven channels 1 (tim_signal n 1) l₁ a.pads in
    let c = level_driven channels 2 (tim_signal n 2) l₂ b.pads in
    let d = level_driven channels 3 (tim_signal n 3) l₃ c.pads in
    record { pads = d.pads; changes = record { a = a.change; b = b.change; c = c.change; d = d.change } }

unfoldable levels_driven : ℕ → ℕ → Bool → Bool → Bool → Bool → Pads → Drive
levels_driven n channels l l₁ l₂ l₃ p = cond (driver n) (four_driven n channels l l₁ l₂ l₃ p) (record { pads = p; changes = no_changes })

pub channel-drives : (b b₁ : Board) (channels ch s k : ℕ) (l : Bool) (r : Option Edge) → ch < channels → k ≡ bit l
    → Moves (sig_out b.pads s k) b b₁ r → Moves (level_driven channels ch s l b.pads) b b₁ r
unfolding level_driven
channel-drives b b₁ channels ch s k l r h q m = simp (lt-ltb ch channels h, ← q) m

-- a channel that the timer has not
pub no-channel : (b : Board) (channels ch s : ℕ) (l : Bool) → channels ≤ ch → Moves (level_driven channels ch s l b.pads) b b None
unfolding level_driven
no-channel b channels ch s l h = simp (le-ltb ch channels h) (record { board = refl; change = refl })

-- `as u8` gives a level's bit
pub byte-bit : (l : Bool) → bool_byte l ≡ bit l
byte-bit true = refl
byte-bit false = refl

pub bit-small : (l : Bool) → bit l ≤ 1
bit-small true = lit≤ tt
bit-small false = lit≤ tt

-- a signal's number that a call gave
at-signal : (b b₁ : Board) (channels ch s s₁ : ℕ) (l : Bool) (r : Option Edge) → s ≡ s₁
    → Moves (level_driven channels ch s l b.pads) b b₁ r → Moves (level_driven channels ch s₁ l b.pads) b b₁ r
at-signal b b₁ channels ch s s₁ l r e m = subst (λ (n : ℕ). Moves (level_driven channels ch n l b.pads) b b₁ r) e m

four : (b b₁ b₂ b₃ b₄ : Board) (n k : ℕ) (l l₁ l₂ l₃ : Bool) (a₀ a₁ a₂ a₃ : Option Edge)
    → Moves (level_driven k 0 (tim_signal n 0) l b.pads) b b₁ a₀ → Moves (level_driven k 1 (tim_signal n 1) l₁ b₁.pads) b₁ b₂ a₁
    → Moves (level_driven k 2 (tim_signal n 2) l₂ b₂.pads) b₂ b₃ a₂ → Moves (level_driven k 3 (tim_signal n 3) l₃ b₃.pads) b₃ b₄ a₃
    → Drives (four_driven n k l l₁ l₂ l₃ b.pads) b b₄ (record { a = a₀; b = a₁; c = a₂; d = a₃ })
four b b₁ b₂ b₃ b₄ n k l l₁ l₂ l₃ a₀ a₁ a₂ a₃ m₀ m₁ m₂ m₃ =
    let f₁ = level_driven k 1 (tim_signal n 1) l₁ in
    let f₂ = level_driven k 2 (tim_signal n 2) l₂ in
    let f₃ = level_driven k 3 (tim_signal n 3) l₃ in
    let p₁ = (level_driven k 0 (tim_signal n 0) l b.pads).pads in
    let p₂ = (f₁ p₁).pads in
    let p₃ = (f₂ p₂).pads in
    let x₂ : Moves (f₁ p₁) b b₂ a₁ = then-moves b b₁ b₂ p₁ f₁ a₁ m₀.board m₁ in
    let x₃ : Moves (f₂ p₂) b b₃ a₂ = then-moves b b₂ b₃ p₂ f₂ a₂ x₂.board m₂ in
    let x₄ : Moves (f₃ p₃) b b₄ a₃ = then-moves b b₃ b₄ p₃ f₃ a₃ x₃.board m₃ in
    record { board = x₄.board; changes = rw (m₀.change, x₂.change, x₃.change, x₄.change) }

levels-drive : (b b₁ : Board) (n k : ℕ) (l l₁ l₂ l₃ : Bool) (r : Changes) → 2 ≤ n → n ≤ 4
    → Drives (four_driven n k l l₁ l₂ l₃ b.pads) b b₁ r → Drives (levels_driven n k l l₁ l₂ l₃ b.pads) b b₁ r
unfolding levels_driven
levels-drive b b₁ n k l l₁ l₂ l₃ r h j m = simp (le-leb 2 n h, le-leb n 4 j) m

-- the levels that a timer's outputs have at a count
same-outputs : (t : Timer) (cnt : ℕ) (p : Pads)
    → levels_driven t.inst.n t.inst.channels (output t 0 cnt) (output t 1 cnt) (output t 2 cnt) (output t 3 cnt) p ≡ drive_outputs t cnt p
unfolding levels_driven level_driven drive_outputs drive_channel
same-outputs t cnt p = refl

outputs-driven : (b b₁ : Board) (t u : Timer) (cnt at : ℕ) (l l₁ l₂ l₃ : Bool) (k k₁ : Book) → t ≡ u
    → l ≡ output t 0 cnt → l₁ ≡ output t 1 cnt → l₂ ≡ output t 2 cnt → l₃ ≡ output t 3 cnt
    → Driven (levels_driven t.inst.n t.inst.channels l l₁ l₂ l₃ b.pads) at b b₁ k k₁ → Driven (drive_outputs u cnt b.pads) at b b₁ k k₁
outputs-driven b b₁ t u cnt at l l₁ l₂ l₃ k k₁ load e e₁ e₂ e₃ m =
    let f = levels_driven t.inst.n t.inst.channels in
    let q : f l l₁ l₂ l₃ b.pads ≡ drive_outputs u cnt b.pads =
    ap (λ (x : Bool). f x l₁ l₂ l₃ b.pads) e ∙ ap (λ (x : Bool). f (output t 0 cnt) x l₂ l₃ b.pads) e₁
    ∙ ap (λ (x : Bool). f (output t 0 cnt) (output t 1 cnt) x l₃ b.pads) e₂
    ∙ ap (λ (x : Bool). f (output t 0 cnt) (output t 1 cnt) (output t 2 cnt) x b.pads) e₃ ∙ same-outputs t cnt b.pads
    ∙ ap (λ (x : Timer). drive_outputs x cnt b.pads) load in
    subst (λ (d : Drive). Driven d at b b₁ k k₁) q m

-- the changes put into a book
drives-append : (d : Drive) (at : ℕ) (b b₁ : Board) (k k₁ : Book) (c : Changes) → Drives d b b₁ c → k₁ ≡ puts k (entries_of at c) → Driven d at b b₁ k k₁
drives-append d at b b₁ k k₁ c m w = record { board = m.board; entries = w ∙ ap (λ (x : Changes). puts k (entries_of at x)) m.changes }

-- ---- channels driven and written
pub one-driven : (m : Move) (at : ℕ) (b b₁ : Board) (k k₁ : Book) (c : Option Edge) → Moves m b b₁ c → k₁ ≡ puts k (entry_of at c) → DrivenOne m at b b₁ k k₁
one-driven m at b b₁ k k₁ c h w = record { board = h.board; entries = w ∙ ap (λ (x : Option Edge). puts k (entry_of at x)) h.change }

-- a channel that the timer has not
pub channel-still : (b : Board) (k : Book) (channels ch s at : ℕ) (l : Bool) → channels ≤ ch → DrivenOne (level_driven channels ch s l b.pads) at b b k k
unfolding entry_of puts
channel-still b k channels ch s at l h = one-driven _ at b b k k None (no-channel b channels ch s l h) refl

-- a signal that moved
pub channel-driven : (b b₁ : Board) (k k₁ : Book) (channels ch s l₁ at : ℕ) (l : Bool) → ch < channels → l₁ ≡ bit l
    → DrivenOne (sig_out b.pads s l₁) at b b₁ k k₁ → DrivenOne (level_driven channels ch s l b.pads) at b b₁ k k₁
unfolding level_driven
channel-driven b b₁ k k₁ channels ch s l₁ at l h q d = simp (lt-ltb ch channels h, ← q) d

-- a signal that has its level
pub channel-same : (b : Board) (k : Book) (channels ch s l₁ at : ℕ) (l : Bool) → ch < channels → level_of b.pads s ≡ l₁ → l₁ ≡ bit l
    → DrivenOne (level_driven channels ch s l b.pads) at b b k k
unfolding entry_of puts
channel-same b k channels ch s l₁ at l h e q = one-driven _ at b b k k _ (channel-drives b b channels ch s l₁ l _ h q (sig_same b s l₁ e)) refl

moves_of : (m : Move) (at : ℕ) (b b₁ : Board) (k k₁ : Book) → DrivenOne m at b b₁ k k₁ → Moves m b b₁ m.change
moves_of m at b b₁ k k₁ d = record { board = d.board; change = refl }

-- a timer's four channels, one after the other
pub four-driven : (t : Timer) (cnt at s : ℕ) (l l₁ l₂ l₃ : Bool) (b b₁ b₂ b₃ b₄ : Board) (k k₁ k₂ k₃ k₄ : Book) → 2 ≤ t.inst.n → t.inst.n ≤ 4
    → s ≡ tim_signal t.inst.n 0 → l ≡ output t 0 cnt → l₁ ≡ output t 1 cnt → l₂ ≡ output t 2 cnt → l₃ ≡ output t 3 cnt
    → DrivenOne (level_driven t.inst.channels 0 s l b.pads) at b b₁ k k₁ → DrivenOne (level_driven t.inst.channels 1 (s + 1) l₁ b₁.pads) at b₁ b₂ k₁ k₂
    → DrivenOne (level_driven t.inst.channels 2 (s + 2) l₂ b₂.pads) at b₂ b₃ k₂ k₃ → DrivenOne (level_driven t.inst.channels 3 (s + 3) l₃ b₃.pads) at b₃ b₄ k₃ k₄
    → Driven (drive_outputs t cnt b.pads) at b b₄ k k₄
four-driven t cnt at s l l₁ l₂ l₃ b b₁ b₂ b₃ b₄ k k₁ k₂ k₃ k₄ g h e p p₁ p₂ p₃ d d₁ d₂ d₃ =
    let n = t.inst.n in
    let x = t.inst.channels in
    let a = level_driven x 0 s l b.pads in
    let a₁ = level_driven x 1 (s + 1) l₁ b₁.pads in
    let a₂ = level_driven x 2 (s + 2) l₂ b₂.pads in
    let a₃ = level_driven x 3 (s + 3) l₃ b₃.pads in
    let m = at-signal b b₁ x 0 s (tim_signal n 0) l a.change e (moves_of a at b b₁ k k₁ d) in
    let m₁ = at-signal b₁ b₂ x 1 (s + 1) (tim_signal n 1) l₁ a₁.change (omega arith) (moves_of a₁ at b₁ b₂ k₁ k₂ d₁) in
    let m₂ = at-signal b₂ b₃ x 2 (s + 2) (tim_signal n 2) l₂ a₂.change (omega arith) (moves_of a₂ at b₂ b₃ k₂ k₃ d₂) in
    let m₃ = at-signal b₃ b₄ x 3 (s + 3) (tim_signal n 3) l₃ a₃.change (omega arith) (moves_of a₃ at b₃ b₄ k₃ k₄ d₃) in
    let c : Changes = record { a = a.change; b = a₁.change; c = a₂.change; d = a₃.change } in
    outputs-driven b b₄ t t cnt at l l₁ l₂ l₃ k k₄ refl p p₁ p₂ p₃
    (drives-append _ at b b₄ k k₄ c (levels-drive b b₄ n x l l₁ l₂ l₃ c g h (four b b₁ b₂ b₃ b₄ n x l l₁ l₂ l₃ _ _ _ _ m m₁ m₂ m₃))
    (puts-four k k₁ k₂ k₃ k₄ at c d.entries d₁.entries d₂.entries d₃.entries))

-- a timer that drives nothing
pub none-driven : (t : Timer) (cnt at : ℕ) (b : Board) (k : Book) → driver t.inst.n ≡ false → Driven (drive_outputs t cnt b.pads) at b b k k
unfolding drive_outputs entries_of entry_of puts
none-driven t cnt at b k h = simp h (record { board = refl; entries = refl })

-- a timer that was loaded
pub at-timer : (b b₁ : Board) (t u : Timer) (cnt at : ℕ) (k k₁ : Book) → t ≡ u → Driven (drive_outputs t cnt b.pads) at b b₁ k k₁ → Driven (drive_outputs u cnt b.pads) at b b₁ k k₁
at-timer b b₁ t u cnt at k k₁ e d = subst (λ (x : Timer). Driven (drive_outputs x cnt b.pads) at b b₁ k k₁) e d
