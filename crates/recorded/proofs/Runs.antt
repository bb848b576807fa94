-- `run_calls` keeps board and book as a chain of runs asks. Assumes nothing.
use mathlib.Core.Path.{◌≡◌, sym, ap, subst, ◌∙◌}
use mathlib.Core.List.{List}
use Prim.Native.Nat.{ℕ, ◌*◌, ◌≤◌}
use lib.Ieee.{Float}
use lib.ListN.{length, take, drop}
use lib.Seq.{take-append_seam}
use Rattle.book.specs.Book.{Lent, places, Holds}
use Rattle.machine.specs.Call.{Call}
use Rattle.machine.specs.Step.{run, board_after}
use Rattle.state.specs.View.{view}
use Rattle.calls.specs.declared.Ran.{Ran}
use Rattle.calls.specs.Taken as T
use Rattle.calls.proofs.TakenLaws.{taken-first, lent_all, taken-all}
use Rattle.accuracy.specs.Claim.{joined}
use Rattle.recorded.specs.Recorded.{Kept}

-- `run_calls`, by its promise: the calls that it performed are the first of its words', as many as it returned
pub by-run-calls : (ns w w₁ : List ℕ) (x x₁ : List Float) (a a₁ : List ℕ) (u u₁ : Lent) (r : Ran) → T.Performs ns w w₁ x x₁ a a₁ u u₁ r
    → Kept (record { calls = take r.calls (T.calls_of ns); words = w; words₁ = w₁; reals = x; reals₁ = x₁; lent = u; left = u₁; count = r.entries })
by-run-calls ns w w₁ x x₁ a a₁ u u₁ r h =
    let cs = T.calls_of ns in
    let ds = T.taken (view w x) cs (length a) (places u) in
    let e : ds ≡ take r.calls cs =
    sym (take-append_seam ds (drop (length ds) cs))
    ∙ ap (take (length ds)) (taken-first (view w x) cs (length a) (places u))
    ∙ ap (λ (n : ℕ). take n cs) (sym h.calls) in
    record {
      board = h.board ∙ ap (board_after (view w x)) e;
      book = subst (λ (es : List Call). Holds (joined (run (view w x) es)) u u₁ r.entries) e h.entries;
    }

-- with three words for each answer and the places of all, `run_calls` performs every call of its words
pub all-performed : (ns w w₁ : List ℕ) (x x₁ : List Float) (a a₁ : List ℕ) (u u₁ : Lent) (r : Ran) → T.Performs ns w w₁ x x₁ a a₁ u u₁ r
    → length (T.calls_of ns) * 3 ≤ length a → lent_all (T.calls_of ns) ≤ places u → r.calls ≡ length (T.calls_of ns)
all-performed ns w w₁ x x₁ a a₁ u u₁ r h y z = h.calls ∙ ap length (taken-all (view w x) (T.calls_of ns) (length a) (places u) y z)
