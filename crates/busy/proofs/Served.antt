-- Runs of the exported delivery, one after the other, are the deliveries of `step`; so what holds of those holds of the arrays and the books. Assumes
-- nothing.
use mathlib.Core.Path.{◌≡◌, sym, ap, ◌∙◌, subst}
use mathlib.Core.List.{List, [], ◌∷◌, ◌++◌, map}
use Prim.Native.Nat.{ℕ, ◌+◌}
use lib.Ieee.{Float}
use Rattle.book.specs.Book.{Entry, places}
use Rattle.machine.specs.Board.{Board}
use Rattle.machine.specs.Call.{deliver, Outcome, is_refusal}
use Rattle.machine.specs.Step.{step, run, board_after}
use Rattle.machine.specs.Sound.{Sound}
use Rattle.machine.proofs.Reach.{sound-after}
use Rattle.machine.proofs.LineLaws.{Wished, wished-after}
use Rattle.accuracy.specs.Claim.{joined}
use Rattle.state.specs.View.{view}
use Rattle.book.specs.Level.{entries_from}
use Rattle.recorded.proofs.Joined.{entries-held}
use Rattle.busy.specs.Busy.{Visit, visits, Answered, events, Same, pieces}
use Rattle.busy.specs.Served.{Served, Meets, Serves, books_of, values_of, SameServed}
use Rattle.busy.proofs.Same.{last_number, same-on}

-- what a run's contract says, from a board on
record Told (i : ℕ) (b : Board) (s : Served) : Type 0 where
  pub number : s.answer.number ≡ (step b (deliver i s.cycle (places s.lent))).number
  pub value : s.answer.value ≡ (step b (deliver i s.cycle (places s.lent))).value
  pub book : entries_from 0 s.answer.count s.left ≡ (step b (deliver i s.cycle (places s.lent))).entries
  pub board : view s.words₁ s.reals₁ ≡ (step b (deliver i s.cycle (places s.lent))).board

told : (i : ℕ) (b : Board) (s : Served) → view s.words s.reals ≡ b → Meets i s → Told i b s
told i b s e m =
    subst (λ (z : Board). Told i z s) e
    (record {
      number = m.answers.number;
      value = m.answers.value;
      book = entries-held _ s.lent s.left s.answer.count m.holds;
      board = m.answers.board;
    })

found : (w v : List ℕ) (x y : List Float) → v ≡ w → y ≡ x → view v y ≡ view w x
found w v x y e f = ap (λ (z : List ℕ). view z y) e ∙ ap (λ (z : List Float). view w z) f

abbrev visit_of : Served → Visit
visit_of s = record { cycle = s.cycle; places = places s.lent }

-- runs and a last one, from a board on
record All (i : ℕ) (b : Board) (ss : List Served) (last : Served) : Type 0 where
  pub answered : Answered (run b (visits i (map visit_of ss)))
  pub number : last.answer.number ≡ last_number b i (map visit_of ss) last.cycle (places last.lent)
  pub values : values_of (ss ++ (last ∷ [])) ≡ events (run b (pieces i (map visit_of ss) last.cycle (places last.lent)))
  pub books : books_of (ss ++ (last ∷ [])) ≡ joined (run b (pieces i (map visit_of ss) last.cycle (places last.lent)))
  pub board : view last.words₁ last.reals₁ ≡ board_after b (pieces i (map visit_of ss) last.cycle (places last.lent))

all : (ss : List Served) (last : Served) (i : ℕ) (w : List ℕ) (x : List Float) → Serves i w x (ss ++ (last ∷ [])) → All i (view w x) ss last
unfolding Serves books_of values_of visits Answered events run joined board_after
all [] last i w x h =
    let t = told i (view w x) last (found w last.words x last.reals h.0 h.1) h.2 in
    record {
      answered = tt;
      number = t.number;
      values = ap (λ (n : ℕ). n + 0) t.value;
      books = ap (λ (es : List Entry). es ++ []) t.book;
      board = t.board;
    }
all (s ∷ ss) last i w x h = go (all ss last i s.words₁ s.reals₁ h.4)
  where
    go : All i (view s.words₁ s.reals₁) ss last → All i (view w x) (s ∷ ss) last
    go r₀ =
        let t = told i (view w x) s (found w s.words x s.reals h.0 h.1) h.2 in
        let r = subst (λ (z : Board). All i z ss last) t.board r₀ in
        record {
          answered = (ap is_refusal (sym t.number) ∙ h.3, r.answered);
          number = r.number;
          values = ap (λ (n : ℕ). n + values_of (ss ++ (last ∷ []))) t.value ∙ ap (λ (n : ℕ). (step (view w x) (deliver i s.cycle (places s.lent))).value + n) r.values;
          books = ap (λ (es : List Entry). es ++ books_of (ss ++ (last ∷ []))) t.book ∙ ap (λ (es : List Entry). (step (view w x) (deliver i s.cycle (places s.lent))).entries ++ es) r.books;
          board = r.board;
        }

pub same-served : SameServed
unfolding Serves
same-served ds i w x e ss last one h k cycle z y =
    let b = view w x in
    let l = places last.lent in
    let m = places one.lent in
    let a = all ss last i w x h in
    let t = told i b one (found w one.words x one.reals k.0 k.1) k.2 in
    let o : Outcome = step b (deliver i last.cycle m) in
    let at : step b (deliver i one.cycle m) ≡ o = ap (λ (c : ℕ). step b (deliver i c m)) cycle in
    let s : Same b (pieces i (map visit_of ss) last.cycle l) o =
    same-on b (subst Sound (sym e) (sound-after ds)) (subst Wished (sym e) (wished-after ds)) i (map visit_of ss) last.cycle l m
    (record { each = a.answered; last = sym a.number ∙ z; single = sym (ap (λ (u : Outcome). u.number) at) ∙ sym t.number ∙ y }) in (
      a.board ∙ s.board ∙ sym (t.board ∙ ap (λ (u : Outcome). u.board) at),
      a.books ∙ s.entries ∙ sym (t.book ∙ ap (λ (u : Outcome). u.entries) at),
      a.values ∙ s.counts ∙ sym (t.value ∙ ap (λ (u : Outcome). u.value) at),
    )
