-- The calls of pins over any arrays: what the callees gave in, the promise out. Assumes nothing.
use mathlib.Core.Path.{◌≡◌, refl, ap, sym, ◌∙◌}
use mathlib.Core.Bool.{Bool, true, false, cond}
use mathlib.Core.List.{List, [], ◌∷◌}
use Prim.Native.Nat.{ℕ, ◌≤◌}
use native.Mathlib.Omega.{arith}
use lib.Dec.{ltb, leb, lit≤}
use lib.Ieee.{Float}
use borrow.Author.Tests.{ltb-false, le-leb}
use Rattle.gpio.specs.declared.PinCfg.{PinCfg}
use Rattle.pins.specs.declared.ExtDrive.{ExtDrive}
use Rattle.std.specs.Prelude.{Option}
use Rattle.gpio.specs.declared.Edge.{Edge}
use Rattle.book.specs.Book.{Entry, book, puts, entry_of, places, Holds, Lent}
use Rattle.book.proofs.Laws.{holds}
use Rattle.machine.specs.Board.{Board, with_pads, with_last}
use Rattle.machine.specs.Sys as S
use Rattle.machine.specs.Call.{Call, Outcome, set_pin, drive_pin, reset_pins}
use Rattle.machine.specs.Step.{step, cfg_of, moved, changes_of, cycle_astray}
use Rattle.machine.specs.Refusals.{◌when◌, refusals, first, no_such_index, clock_astray, book_full}
use Rattle.machine.proofs.NumberLaws.{performed}
use Rattle.machine.proofs.TableLaws.{taken-same}
use Rattle.state.specs.View.{view}
use Rattle.sys.specs.Moves.{Moves, Reset}
use Rattle.answer.specs.declared.Answer.{Answer}
use Rattle.answer.specs.Promise.{answer, Answers}
use Rattle.answer.proofs.Given.{refused-step, served-step, away, unbooked, gives}

-- ---- the numbers

-- the first of a pin setting's
pub no_pin_lem : (b : Board) (pin cycle pl : ℕ) (t : Bool) (count : ℕ) → count ≡ b.counts.pins → count ≤ pin
    → 2 ≡ first (no_such_index pin b.counts.pins ∷ clock_astray b cycle ∷ (11 when t) ∷ book_full 4 pl ∷ [])
unfolding first
no_pin_lem b pin cycle pl t count e l = rw (le-leb b.counts.pins pin (omega arith))

-- those of a pin reset
pub reset-number : (b : Board) (cycle need pl n : ℕ)
    → n ≡ first (clock_astray b cycle ∷ (11 when false) ∷ book_full need pl ∷ []) → need ≡ b.counts.pins
    → n ≡ first (refusals b (reset_pins cycle pl))
unfolding first refusals
reset-number b cycle need pl n h e = h ∙ ap (λ (k : ℕ). cond (cycle_astray b cycle) 5 (cond (ltb pl k) 6 0)) e

-- those of a pin setting
abbrev pub asked : Board → ℕ → ℕ → ℕ → Bool → ℕ
asked b pin cycle pl t = first (no_such_index pin b.counts.pins ∷ clock_astray b cycle ∷ (11 when t) ∷ book_full 4 pl ∷ [])

-- and none of them: there is room
pub setting-room : (b : Board) (pin cycle pl n : ℕ) (t : Bool) → n ≡ asked b pin cycle pl t → n ≡ 0 → 4 ≤ pl
unfolding first
setting-room b pin cycle pl n t h z = ltb-false _ _ (four (leb b.counts.pins pin) (cycle_astray b cycle) t (ltb pl 4) (sym h ∙ z))
  where
    four : (t u k v : Bool) → ◌≡◌ {A = ℕ} (cond t 2 (cond u 5 (cond k 11 (cond v 6 0)))) 0 → v ≡ false
    four true u k v h = absurd (omega (arith, h))
    four false true k v h = absurd (omega (arith, h))
    four false false true v h = absurd (omega (arith, h))
    four false false false true h = absurd (omega (arith, h))
    four false false false false h = refl

-- they are step's
pub setting-number : (b : Board) (pin mode drain out up down function cycle pl n : ℕ) (g : PinCfg) → g ≡ cfg_of mode drain out up down
    → n ≡ asked b pin cycle pl (S.taken b.pads pin (S.selected b.pads pin g function))
    → n ≡ first (refusals b (set_pin pin mode drain out up down function cycle pl))
unfolding refusals
setting-number b pin mode drain out up down function cycle pl n g e h =
    h ∙ ap (λ (y : PinCfg). asked b pin cycle pl (S.taken b.pads pin (S.selected b.pads pin y function))) e
    ∙ ap (λ (t : Bool). asked b pin cycle pl t) (sym (taken-same b pin mode drain out up down function))

two : (u v : Bool) → ◌≡◌ {A = ℕ} (cond u 5 (cond v 6 0)) 0 → v ≡ false
two true v h = absurd (omega (arith, h))
two false true h = absurd (omega (arith, h))
two false false h = refl

-- a yes or no is 0 or 1
pub bit_le : (b : Bool) → cond b 1 0 ≤ 1
bit_le true = lit≤ tt
bit_le false = lit≤ tt

-- none applies: there is room
pub pin-room : (b : Board) (pin cycle pl n : ℕ) → n ≡ first (no_such_index pin b.counts.pins ∷ clock_astray b cycle ∷ book_full 4 pl ∷ []) → n ≡ 0 → 4 ≤ pl
unfolding first
pin-room b pin cycle pl n h z = setting-room b pin cycle pl n false h z

pub reset-room : (b : Board) (cycle pl n : ℕ) → n ≡ first (refusals b (reset_pins cycle pl)) → n ≡ 0 → b.counts.pins ≤ pl
unfolding first refusals
reset-room b cycle pl n h z = ltb-false _ _ (two (cycle_astray b cycle) (ltb pl b.counts.pins) (sym h ∙ z))

-- ---- a refused call
pub refuses : (w : List ℕ) (x : List Float) (u : Lent) (call : Call) (n : ℕ) (r : Answer) → n ≡ first (refusals (view w x) call) → (n ≡ 0 → ⊥)
    → r ≡ answer n 0 0 → (Answers (step (view w x) call) r w w x x) × (Holds (step (view w x) call).entries u u r.count)
refuses w x u call n r h z e =
    let s = refused-step (view w x) call n h z in
    (away w x _ n s r e, unbooked (step (view w x) call) u r.count (ap (λ (a : Answer). a.count) e) (ap (λ (o : Outcome). o.entries) s))

pub setting-refused : (w : List ℕ) (x : List Float) (u : Lent) (pin mode drain out up down function cycle n : ℕ) (g : PinCfg) (r : Answer)
    → g ≡ cfg_of mode drain out up down
    → n ≡ asked (view w x) pin cycle (places u) (S.taken (view w x).pads pin (S.selected (view w x).pads pin g function)) → (n ≡ 0 → ⊥) → r ≡ answer n 0 0
    → let c = set_pin pin mode drain out up down function cycle (places u) in
    (Answers (step (view w x) c) r w w x x) × (Holds (step (view w x) c).entries u u r.count)
setting-refused w x u pin mode drain out up down function cycle n g r e h z a =
    refuses w x u (set_pin pin mode drain out up down function cycle (places u)) n r
    (setting-number (view w x) pin mode drain out up down function cycle (places u) n g e h) z a

-- ---- a call that makes the entries es and leaves the board b
served : (w w₁ : List ℕ) (x x₁ : List Float) (u u₁ : Lent) (call : Call) (n : ℕ) (r : Answer) (es : List Entry) (b : Board)
    → n ≡ first (refusals (view w x) call) → n ≡ 0 → performed (view w x) call ≡ record { number = 0; value = 0; entries = es; board = b }
    → r ≡ answer 0 0 r.count → view w₁ x₁ ≡ b → Holds es u u₁ r.count
    → (Answers (step (view w x) call) r w w₁ x x₁) × (Holds (step (view w x) call).entries u u₁ r.count)
served w w₁ x x₁ u u₁ call n r es b h z does e v k =
    let o : Outcome = record { number = 0; value = 0; entries = es; board = b } in
    let s : step (view w x) call ≡ o = served-step (view w x) call (sym h ∙ z) ∙ does in
    let a : Answers o r w w₁ x x₁ =
    gives o r w w₁ x x₁ (ap (λ (y : Answer). y.number) e) (ap (λ (y : Answer). y.value) e) k.count v refl in
    (rw s a, rw s k)

-- one pin moved, its change written at place 0
pin-moved : (w w₁ w₂ : List ℕ) (x x₁ : List Float) (u u₁ : Lent) (call : Call) (n cycle : ℕ) (r : Answer) (m : S.Move) (change : Option Edge)
    → n ≡ first (refusals (view w x) call) → n ≡ 0 → performed (view w x) call ≡ moved (view w x) cycle m → 4 ≤ places u
    → Moves m (view w x) (view w₁ x₁) change → view w₂ x₁ ≡ with_last (view w₁ x₁) cycle
    → r ≡ answer 0 0 r.count → book u₁ r.count ≡ puts (book u 0) (entry_of cycle change) → r.count ≤ 1
    → (Answers (step (view w x) call) r w w₂ x x₁) × (Holds (step (view w x) call).entries u u₁ r.count)
pin-moved w w₁ w₂ x x₁ u u₁ call n cycle r m change h z does room moves last e put few =
    served w w₂ x x₁ u u₁ call n r (entry_of cycle m.change) (with_last (with_pads (view w x) m.pads) cycle) h z does e
    (last ∙ ap (λ (b : Board). with_last b cycle) moves.board)
    (holds (entry_of cycle m.change) u u₁ r.count
    (put ∙ ap (λ (d : Option Edge). puts (book u 0) (entry_of cycle d)) moves.change) (omega arith, omega arith, omega arith, omega arith))

pub pin-set : (w w₁ w₂ : List ℕ) (x x₁ : List Float) (u u₁ : Lent) (pin mode drain out up down function n cycle : ℕ) (r : Answer) (g : PinCfg) (change : Option Edge)
    → n ≡ asked (view w x) pin cycle (places u) (S.taken (view w x).pads pin (S.selected (view w x).pads pin g function)) → n ≡ 0
    → g ≡ cfg_of mode drain out up down → Moves (S.set_pin (view w x).pads pin g function) (view w x) (view w₁ x₁) change
    → view w₂ x₁ ≡ with_last (view w₁ x₁) cycle
    → r ≡ answer 0 0 r.count → book u₁ r.count ≡ puts (book u 0) (entry_of cycle change) → r.count ≤ 1
    → (Answers (step (view w x) (set_pin pin mode drain out up down function cycle (places u))) r w w₂ x x₁)
    × (Holds (step (view w x) (set_pin pin mode drain out up down function cycle (places u))).entries u u₁ r.count)
unfolding performed
pin-set w w₁ w₂ x x₁ u u₁ pin mode drain out up down function n cycle r g change h z cfg moves last e put few =
    pin-moved w w₁ w₂ x x₁ u u₁ (set_pin pin mode drain out up down function cycle (places u)) n cycle r
    (S.set_pin (view w x).pads pin g function) change (setting-number (view w x) pin mode drain out up down function cycle (places u) n g cfg h) z
    (ap (λ (y : PinCfg). moved (view w x) cycle (S.set_pin (view w x).pads pin y function)) (sym cfg))
    (setting-room (view w x) pin cycle (places u) n _ h z) moves last e put few

pub pin-driven : (w w₁ w₂ : List ℕ) (x x₁ : List Float) (u u₁ : Lent) (pin : ℕ) (d d₁ : ExtDrive) (n cycle : ℕ) (r : Answer) (change : Option Edge)
    → n ≡ first (no_such_index pin (view w x).counts.pins ∷ clock_astray (view w x) cycle ∷ book_full 4 (places u) ∷ []) → n ≡ 0
    → d ≡ d₁ → Moves (S.drive_pin (view w x).pads pin d) (view w x) (view w₁ x₁) change
    → view w₂ x₁ ≡ with_last (view w₁ x₁) cycle
    → r ≡ answer 0 0 r.count → book u₁ r.count ≡ puts (book u 0) (entry_of cycle change) → r.count ≤ 1
    → (Answers (step (view w x) (drive_pin pin d₁ cycle (places u))) r w w₂ x x₁)
    × (Holds (step (view w x) (drive_pin pin d₁ cycle (places u))).entries u u₁ r.count)
unfolding refusals performed
pin-driven w w₁ w₂ x x₁ u u₁ pin d d₁ n cycle r change h z ext moves last e put few =
    pin-moved w w₁ w₂ x x₁ u u₁ (drive_pin pin d₁ cycle (places u)) n cycle r
    (S.drive_pin (view w x).pads pin d) change h z (ap (λ (y : ExtDrive). moved (view w x) cycle (S.drive_pin (view w x).pads pin y)) (sym ext))
    (pin-room (view w x) pin cycle (places u) n h z) moves last e put few

-- every pin reset
pub pins-reset : (w w₁ w₂ : List ℕ) (x x₁ : List Float) (u u₁ : Lent) (n k cycle : ℕ) (r : Answer)
    → n ≡ first (refusals (view w x) (reset_pins cycle (places u))) → n ≡ 0
    → Reset (view w x) (view w₁ x₁) cycle (book u 0) (book u₁ k) → k ≤ (view w x).counts.pins
    → view w₂ x₁ ≡ with_last (view w₁ x₁) cycle → r ≡ answer 0 0 k
    → (Answers (step (view w x) (reset_pins cycle (places u))) r w w₂ x x₁)
    × (Holds (step (view w x) (reset_pins cycle (places u))).entries u u₁ r.count)
unfolding performed
pins-reset w w₁ w₂ x x₁ u u₁ n k cycle r h z reset few last e =
    let o = S.reset_pins (view w x).pads (view w x).counts.pins in
    let room : (view w x).counts.pins ≤ places u = reset-room (view w x) cycle (places u) n h z in
    let same : r.count ≡ k = ap (λ (y : Answer). y.count) e in
    let held : Holds (changes_of cycle o.changes) u u₁ k =
    holds (changes_of cycle o.changes) u u₁ k reset.entries (omega arith, omega arith, omega arith, omega arith) in
    served w w₂ x x₁ u u₁ (reset_pins cycle (places u)) n r (changes_of cycle o.changes) (with_last (with_pads (view w x) o.pads) cycle) h z
    refl (e ∙ ap (answer 0 0) (sym same)) (last ∙ ap (λ (b : Board). with_last b cycle) reset.board) (rw same held)
