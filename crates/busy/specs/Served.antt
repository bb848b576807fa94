-- "Busy server, same record" (document 02, F-13) of the exported function: runs of `board_deliver`, each on the arrays that the one before left, each with
-- whatever book it was lent. Proved in proofs/Served.antt (`same-served : SameServed`).
use Rattle.std.specs.Prelude.{◌≡◌, false, List, [], ◌∷◌, ◌++◌, ℕ, ◌+◌, Float}
use Rattle.book.specs.Book.{Entry, Lent, places, Holds}
use Rattle.machine.specs.Board.{first_board}
use Rattle.machine.specs.Call.{Call, deliver, is_refusal}
use Rattle.machine.specs.Step.{step, board_after}
use Rattle.state.specs.View.{view}
use Rattle.answer.specs.declared.Answer.{Answer}
use Rattle.answer.specs.Promise.{Answers}
use Rattle.book.specs.Level.{entries_from}

-- a run: its cycle, what the arrays and the book held when it came and when it returned, its answer
pub record Served : Type 0 where
  pub cycle : ℕ
  pub words : List ℕ
  pub words₁ : List ℕ
  pub reals : List Float
  pub reals₁ : List Float
  pub lent : Lent
  pub left : Lent
  pub answer : Answer

-- its contract, for timer i
pub record Meets (i : ℕ) (s : Served) : Type 0 where
  pub answers : Answers (step (view s.words s.reals) (deliver i s.cycle (places s.lent))) s.answer s.words s.words₁ s.reals s.reals₁
  pub holds : Holds (step (view s.words s.reals) (deliver i s.cycle (places s.lent))).entries s.lent s.left s.answer.count

-- one after the other, from arrays w and x, each on the arrays that the one before left; each answered 0 or 8
unfoldable pub Serves : ℕ → List ℕ → List Float → List Served → Type 0
Serves i w x [] = Unit {0}
Serves i w x (s ∷ ss) =
    (s.words ≡ w) × (s.reals ≡ x) × Meets i s × (is_refusal s.answer.number ≡ false) × Serves i s.words₁ s.reals₁ ss

-- the books joined: each one's first count places as it left them
unfoldable pub books_of : List Served → List Entry
books_of [] = []
books_of (s ∷ ss) = entries_from 0 s.answer.count s.left ++ books_of ss

unfoldable pub values_of : List Served → ℕ
values_of [] = 0
values_of (s ∷ ss) = s.answer.value + values_of ss

-- deliveries `ss` and `last`, answered 0; and `one`, on the same arrays at last's cycle, answered 0
abbrev pub SameServed : Type 0
SameServed =
    (ds : List Call) (i : ℕ) (w : List ℕ) (x : List Float) → view w x ≡ board_after first_board ds
    → (ss : List Served) (last one : Served) → Serves i w x (ss ++ (last ∷ [])) → Serves i w x (one ∷ [])
    → one.cycle ≡ last.cycle → last.answer.number ≡ 0 → one.answer.number ≡ 0
    → (view last.words₁ last.reals₁ ≡ view one.words₁ one.reals₁)
    × (books_of (ss ++ (last ∷ [])) ≡ entries_from 0 one.answer.count one.left)
    × (values_of (ss ++ (last ∷ [])) ≡ one.answer.value)
