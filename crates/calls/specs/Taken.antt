-- A list of words as a list of calls: which are performed, and what they leave.
use Rattle.std.specs.Prelude.{◌≡◌, Bool, cond, ◌||◌, List, [], ◌∷◌, ◌++◌, ℕ, zero, suc, ◌-◌, eqb, ltb, length, drop, Float}
use Rattle.std.proofs.lemmas.List.Edits.{sets}
use Rattle.book.specs.Book.{Lent, places, Book, puts, over, Holds}
use Rattle.machine.specs.Board.{Board}
use Rattle.state.specs.View.{view}
use Rattle.machine.specs.Call.{Call, Outcome, lent}
use Rattle.machine.specs.Step.{step, run, board_after}
use Rattle.accuracy.specs.Claim.{joined}
use Rattle.calls.specs.declared.Ran.{Ran}
use Rattle.encoding.specs.Encoding.{len_of, call_of}

-- at most so many calls, up to the first words that are no call
unfoldable pub calls_from : ℕ → List ℕ → List Call
calls_from zero ns = []
calls_from (suc n) ns = cond (eqb (len_of ns) 0) [] (call_of ns ∷ calls_from n (drop (len_of ns) ns))

-- a call has at least one word
abbrev pub calls_of : List ℕ → List Call
calls_of ns = calls_from (length ns) ns

-- a call finds no room: under three words for its answer, or fewer places behind the entries so far than it is lent
abbrev pub no_room : ℕ → ℕ → ℕ → Bool
no_room words room places = ltb words 3 || ltb room places

-- the calls that are performed: those before the first that finds no room, with so many words for answers and so many places
unfoldable pub taken : Board → List Call → ℕ → ℕ → List Call
taken b [] words room = []
taken b (c ∷ cs) words room =
    cond (no_room words room (lent c)) [] (c ∷ taken (step b c).board cs (words - 3) (room - length (step b c).entries))

-- three words an answer: number, value, count
abbrev pub answer_words : Outcome → List ℕ
answer_words o = o.number ∷ o.value ∷ length o.entries ∷ []

unfoldable pub answers_of : List Outcome → List ℕ
answers_of [] = []
answers_of (o ∷ os) = answer_words o ++ answers_of os

-- what one performed call leaves: the board, its answer in the words from place i on, its entries behind those of a book
pub record Does (o : Outcome) (b₁ : Board) (i : ℕ) (a a₁ : List ℕ) (k k₁ : Book) : Type 0 where
  pub board : b₁ ≡ o.board
  pub answer : a₁ ≡ sets a i (answer_words o)
  pub entries : k₁ ≡ puts k o.entries

-- what a list of performed calls leaves: the answers and the entries of `run` (joined as demand 3 joins them) from place 0, "later places
-- are untouched"
pub record Runs (b : Board) (cs : List Call) (b₁ : Board) (r : Ran) (a a₁ : List ℕ) (u u₁ : Lent) : Type 0 where
  pub calls : r.calls ≡ length cs
  pub board : b₁ ≡ board_after b cs
  pub answers : a₁ ≡ over (answers_of (run b cs)) a
  pub entries : Holds (joined (run b cs)) u u₁ r.entries

-- what run_calls leaves of its words, floats, answers and book: the calls of the words ns that find room, one after the other
abbrev pub Performs : (ns w w₁ : List ℕ) (x x₁ : List Float) (a a₁ : List ℕ) (u u₁ : Lent) (r : Ran) → Type 0
Performs ns w w₁ x x₁ a a₁ u u₁ r = Runs (view w x) (taken (view w x) (calls_of ns) (length a) (places u)) (view w₁ x₁) r a a₁ u u₁
