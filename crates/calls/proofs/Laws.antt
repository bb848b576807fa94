-- Calls as words, and decoded. Assumes nothing.
use mathlib.Core.Path.{◌≡◌, refl}
use mathlib.Core.List.{List, [], ◌∷◌}
use Prim.Native.Nat.{ℕ, ◌≤◌}
use native.Mathlib.Omega.{arith}
use lib.Dec.{eqb}
use lib.Ieee.{Float}
use lib.ListN.{length}
use Rattle.book.specs.Book.{Entry, Holds, Lent}
use Rattle.machine.specs.Board.{Board}
use Rattle.machine.specs.Call.{Call, lent}
use Rattle.machine.specs.Step.{step}
use Rattle.machine.proofs.NumberLaws.{either}
use Rattle.machine.proofs.Numbers.{entries_fit}
use Rattle.answer.specs.declared.Answer.{Answer}
use Rattle.answer.specs.Promise.{Answers}
use Rattle.answer.proofs.Given.{unbooked}
use Rattle.encoding.specs.Encoding.{question_call, change_call}
use Rattle.encoding.specs.Asked.{plain_call, lent_call, asked_with, asked, lent_places}
use Rattle.encoding.specs.declared.Plain.{Plain}
use Rattle.encoding.specs.declared.Plain.TheVariants as P
use Rattle.encoding.specs.declared.BookCall.{BookCall}
use Rattle.encoding.specs.declared.BookCall.TheVariants as B
use Rattle.encoding.specs.declared.Call as Decoded
use Rattle.encoding.specs.declared.Call.TheVariants as D

-- ---- a call without a book leaves the slices
bookless : (c : Call) → lent c ≡ 0 → (b : Board) (r : Answer) (w w₁ : List ℕ) (x x₁ : List Float) (u : Lent)
    → Answers (step b c) r w w₁ x x₁ → Holds (step b c).entries u u r.count
bookless c z b r w w₁ x x₁ u h =
    unbooked (step b c) u r.count (omega (arith, h.count, (entries_fit b c).places)) (empty (step b c).entries (omega (arith, (entries_fit b c).places)))
  where
    empty : (es : List Entry) → length es ≤ 0 → es ≡ []
    empty [] q = refl
    empty (y ∷ ys) q = absurd (omega (arith, q))

plain-lent : (p : Plain) → lent (plain_call p) ≡ 0
plain-lent (P.SetUp s) = refl
plain-lent (P.Clock tree cycle) = refl
plain-lent (P.Enable word value) = refl
plain-lent (P.ClearPending irq) = refl
plain-lent (P.Read timer offset size cycle) = refl
plain-lent (P.Peek timer offset cycle) = refl
plain-lent (P.Booked timer) = refl
plain-lent P.Next = refl
plain-lent (P.Level pin) = refl
plain-lent (P.Volts pin) = refl
plain-lent (P.Line irq) = refl
plain-lent (P.Time cycle) = refl
plain-lent (P.Why pin cycle) = refl

pub plain-holds : (c : Decoded.Call) (p : Plain) → c ≡ D.Plain p → (b : Board) (r : Answer) (w w₁ : List ℕ) (x x₁ : List Float) (u : Lent) (n : ℕ)
    → Answers (step b (plain_call p)) r w w₁ x x₁ → Holds (step b (asked_with c n)).entries u u r.count
plain-holds c p e b r w w₁ x x₁ u n h = rw e (bookless (plain_call p) (plain-lent p) b r w w₁ x x₁ u h)

-- ---- the places that a call is lent
places-of : (k : BookCall) (cycle n : ℕ) → lent (lent_call k cycle n) ≡ n
places-of (B.SetPin pin setting) cycle n = refl
places-of (B.DrivePin pin kind volts) cycle n = refl
places-of B.ResetPins cycle n = refl
places-of (B.Write timer offset size value) cycle n = refl
places-of (B.Reset timer) cycle n = refl
places-of (B.Deliver timer) cycle n = refl

pub lent-asked : (c : Decoded.Call) → lent (asked c) ≡ lent_places c
lent-asked (D.Plain p) = plain-lent p
lent-asked (D.Lent k cycle n) = places-of k cycle n

module _ (ns : List ℕ) where
  pub lent-question : (op : ℕ) → lent (question_call op ns) ≡ 0
  unfolding question_call
  lent-question op =
      either (λ (c : Call). lent c ≡ 0) (eqb op 6) refl (either (λ (c : Call). lent c ≡ 0) (eqb op 8) refl (either (λ (c : Call). lent c ≡ 0) (eqb op 11) refl
      (either (λ (c : Call). lent c ≡ 0) (eqb op 13) refl (either (λ (c : Call). lent c ≡ 0) (eqb op 14) refl (either (λ (c : Call). lent c ≡ 0) (eqb op 15) refl
      (either (λ (c : Call). lent c ≡ 0) (eqb op 16) refl (either (λ (c : Call). lent c ≡ 0) (eqb op 18) refl refl)))))))

  pub lent-change : (op : ℕ) → lent (change_call op ns) ≡ 0
  unfolding change_call
  lent-change op =
      either (λ (c : Call). lent c ≡ 0) (eqb op 0) refl (either (λ (c : Call). lent c ≡ 0) (eqb op 1) refl (either (λ (c : Call). lent c ≡ 0) (eqb op 2) refl refl))
