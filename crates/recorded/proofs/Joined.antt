-- The books of calls, joined, are the entries that `run` gives; so the claim holds of them. Assumes nothing.
use mathlib.Core.Path.{◌≡◌, refl, sym, ap, subst, ◌∙◌}
use mathlib.Core.List.{List, [], ◌∷◌, ◌++◌, map, append-nil, append_assoc}
use Prim.Native.Nat.{ℕ, zero, suc}
use native.Mathlib.Omega.{arith}
use lib.Ieee.{Float}
use lib.ListN.{length, get_or, drop}
use Rattle.book.specs.Book.{Entry, Lent, slices, Holds}
use Rattle.machine.specs.Board.{Board, gpio_at}
use Rattle.machine.specs.Call.{Call, write, lent}
use Rattle.machine.specs.Step.{step, run, board_after}
use Rattle.machine.proofs.Numbers.{entries_fit}
use Rattle.state.specs.View.{view}
use Rattle.answer.specs.declared.Answer.{Answer}
use Rattle.answer.specs.Promise.{Answers}
use Rattle.book.specs.Level.{entries_from, level_at, highs}
use Rattle.accuracy.specs.Claim.{Pilot, WithinBound, board₁, joined, period_of, high_of}
use Rattle.accuracy.proofs.Accurate.{accurate}
use Rattle.recorded.specs.Recorded.{Made, found, leaves, Kept, Chain, entries_left, calls_made, MadeOf, BookClaim}

-- ---- what a book holds is what was put into it

entries-later : (i n x y z v : ℕ) (p l c s : List ℕ) → entries_from (suc i) n (slices (x ∷ p) (y ∷ l) (z ∷ c) (v ∷ s)) ≡ entries_from i n (slices p l c s)
unfolding entries_from
entries-later i zero x y z v p l c s = refl
entries-later i (suc n) x y z v p l c s =
    ap (λ (es : List Entry). record { pin = get_or p i 0; level = get_or l i 0; cycle = get_or c i 0; source = get_or s i 0 } ∷ es) (entries-later (suc i) n x y z v p l c s)

entries_over : (es : List Entry) (p l c s : List ℕ)
    → entries_from 0 (length es) (slices (map (λ (e : Entry). e.pin) es ++ p) (map (λ (e : Entry). e.level) es ++ l) (map (λ (e : Entry). e.cycle) es ++ c) (map (λ (e : Entry). e.source) es ++ s)) ≡ es
unfolding entries_from
entries_over [] p l c s = refl
entries_over (e ∷ es) p l c s = ap (λ (ds : List Entry). e ∷ ds) (entries-later 0 (length es) _ _ _ _ _ _ _ _ ∙ entries_over es p l c s)

pub entries-held : (es : List Entry) (u u₁ : Lent) (n : ℕ) → Holds es u u₁ n → entries_from 0 n u₁ ≡ es
entries-held es u u₁ n h =
    ap (λ (k : ℕ). entries_from 0 k u₁) h.count
    ∙ ap (λ (v : Lent). entries_from 0 (length es) v) (rw (h.pins, h.levels, h.cycles, h.sources))
    ∙ entries_over es (drop (length (map (λ (e : Entry). e.pin) es)) u.pins) (drop (length (map (λ (e : Entry). e.level) es)) u.levels) (drop (length (map (λ (e : Entry). e.cycle) es)) u.cycles) (drop (length (map (λ (e : Entry). e.source) es)) u.sources)

-- ---- lists one behind the other

board-append : (b : Board) (cs ds : List Call) → board_after b (cs ++ ds) ≡ board_after (board_after b cs) ds
unfolding board_after
board-append b [] ds = refl
board-append b (c ∷ cs) ds = board-append (step b c).board cs ds

joined-append : (b : Board) (cs ds : List Call) → joined (run b (cs ++ ds)) ≡ joined (run b cs) ++ joined (run (board_after b cs) ds)
unfolding board_after run joined
joined-append b [] ds = refl
joined-append b (c ∷ cs) ds =
    ap (λ (es : List Entry). (step b c).entries ++ es) (joined-append (step b c).board cs ds)
    ∙ sym (append_assoc (step b c).entries (joined (run (step b c).board cs)) (joined (run (board_after (step b c).board cs) ds)))

-- ---- a chain of runs is one run

-- the books joined are the entries of all calls
pub chain-entries : (w : List ℕ) (x : List Float) (ms : List Made) → Chain w x ms → entries_left ms ≡ joined (run (view w x) (calls_made ms))
unfolding Chain entries_left calls_made run joined
chain-entries w x [] h = refl
chain-entries w x (m ∷ ms) h = go h.0 h.1 h.2 (chain-entries m.words₁ m.reals₁ ms h.3)
  where
    go : m.words ≡ w → m.reals ≡ x → Kept m → entries_left ms ≡ joined (run (leaves m) (calls_made ms))
        → entries_from 0 m.count m.left ++ entries_left ms ≡ joined (run (view w x) (m.calls ++ calls_made ms))
    go e f k ih =
        ap (λ (es : List Entry). es ++ entries_left ms) (entries-held (joined (run (found m) m.calls)) m.lent m.left m.count k.book)
        ∙ ap (λ (es : List Entry). joined (run (found m) m.calls) ++ es) (ih ∙ ap (λ (b : Board). joined (run b (calls_made ms))) k.board)
        ∙ sym (joined-append (found m) m.calls (calls_made ms))
        ∙ ap (λ (v : List ℕ). joined (run (view v m.reals) (m.calls ++ calls_made ms))) e
        ∙ ap (λ (v : List Float). joined (run (view w v) (m.calls ++ calls_made ms))) f

-- a run in the middle finds the board that the calls before it lead to, and the chain goes on from it
pub chain-middle : (w : List ℕ) (x : List Float) (ms : List Made) (m : Made) (ns : List Made) → Chain w x (ms ++ (m ∷ ns))
    → (found m ≡ board_after (view w x) (calls_made ms)) × Kept m × Chain m.words₁ m.reals₁ ns
unfolding Chain calls_made board_after
chain-middle w x [] m ns h = (ap (λ (v : List ℕ). view v m.reals) h.0 ∙ ap (λ (v : List Float). view w v) h.1, h.2, h.3)
chain-middle w x (k ∷ ms) m ns h = go h.0 h.1 h.2 (chain-middle k.words₁ k.reals₁ ms m ns h.3)
  where
    go : k.words ≡ w → k.reals ≡ x → Kept k → (found m ≡ board_after (leaves k) (calls_made ms)) × Kept m × Chain m.words₁ m.reals₁ ns
        → (found m ≡ board_after (view w x) (k.calls ++ calls_made ms)) × Kept m × Chain m.words₁ m.reals₁ ns
    go e f kept ih = (
      ih.0
          ∙ ap (λ (b : Board). board_after b (calls_made ms)) kept.board
          ∙ sym (board-append (found k) k.calls (calls_made ms))
          ∙ ap (λ (v : List ℕ). board_after (view v k.reals) (k.calls ++ calls_made ms)) e
          ∙ ap (λ (v : List Float). board_after (view w v) (k.calls ++ calls_made ms)) f,
      ih.1,
      ih.2,
    )

-- ---- the claim

start-board : (π : Pilot) (s : MadeOf π) → leaves s.start ≡ board₁ π
unfolding board_after
start-board π s =
    let c = chain-middle s.words s.reals s.before s.start s.after s.chain in
    c.1.board
    ∙ ap (board_after (found s.start)) s.call-start
    ∙ ap (λ (b : Board). (step b (write π.timer π.offset π.size π.value π.s π.places)).board)
    (c.0 ∙ ap (board_after (view s.words s.reals)) s.calls-before ∙ ap (λ (b : Board). board_after b π.before) s.first)

entries-after : (π : Pilot) (s : MadeOf π) → entries_left s.after ≡ joined (run (board₁ π) π.after)
entries-after π s =
    let c = chain-middle s.words s.reals s.before s.start s.after s.chain in
    chain-entries s.start.words₁ s.start.reals₁ s.after c.2
    ∙ ap (λ (cs : List Call). joined (run (leaves s.start) cs)) s.calls-after
    ∙ ap (λ (b : Board). joined (run b π.after)) (start-board π s)

pub book-accurate : BookClaim
book-accurate π s st a W w =
    subst (λ (b : Board). Bounded (entries_left s.after) b) (sym (start-board π s))
    (subst (λ (es : List Entry). Bounded es (board₁ π)) (sym (entries-after π s)) (accurate π st a W w))
  where
    Bounded : List Entry → Board → Type 0
    Bounded es b =
        WithinBound (highs (level_at π.pin es (gpio_at b.pads π.pin).pin.level) a W) W (period_of (board₁ π) π.timer) (high_of (board₁ π) π.timer π.ch)

-- ---- what keeps a run: the contracts of the exported functions

-- a call with a book, by its two promises
pub by_call : (c : Call) (r : Answer) (w w₁ : List ℕ) (x x₁ : List Float) (u u₁ : Lent) → Answers (step (view w x) c) r w w₁ x x₁ → Holds (step (view w x) c).entries u u₁ r.count
    → Kept (record { calls = c ∷ []; words = w; words₁ = w₁; reals = x; reals₁ = x₁; lent = u; left = u₁; count = r.count })
unfolding board_after run joined
by_call c r w w₁ x x₁ u u₁ a h = record { board = a.board; book = rw (append-nil (step (view w x) c).entries) h }

empty : (es : List Entry) → length es ≡ 0 → es ≡ []
empty [] h = refl
empty (e ∷ es) h = absurd (omega arith)

-- a call without a book, by its promise
pub by-bookless : (c : Call) → lent c ≡ 0 → (r : Answer) (w w₁ : List ℕ) (x x₁ : List Float) → Answers (step (view w x) c) r w w₁ x x₁
    → Kept (record { calls = c ∷ []; words = w; words₁ = w₁; reals = x; reals₁ = x₁; lent = slices [] [] [] []; left = slices [] [] [] []; count = 0 })
unfolding board_after run joined
by-bookless c z r w w₁ x x₁ a =
    let e : (step (view w x) c).entries ≡ [] = empty (step (view w x) c).entries (omega (arith, (entries_fit (view w x) c).places)) in
    record { board = a.board; book = rw e (record { count = refl; pins = refl; levels = refl; cycles = refl; sources = refl }) }
