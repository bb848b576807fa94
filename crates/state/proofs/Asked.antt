-- A timer or a pin looked up by a call's number, and the refusal where there is none: what `first` asks of the number. Assumes nothing.
-- After `let p = pin(..).ok_or(..)?`: `found _ _ _ _ _ (c.pin.ensures x) c.ok_or.ensures.value c.in_ok-p.was`; at its exit `missing` and `c.in_err-p.was`.
use mathlib.Core.Path.{◌≡◌, ◌∙◌, ap, refl, sym}
use mathlib.Core.Bool.{true, false, false≢true}
use Prim.Native.Nat.{ℕ}
use lib.Dec.{ltb, leb}
use borrow.Author.Tests.{ltb-true, ltb-false, le-leb, lt-leb}
use Rattle.std.specs.Prelude.{Option, None, Some, Result, Ok, Err, MatchOption}
use Rattle.std.specs.Option.{ok_or}
use Rattle.std.specs.Result.{is_ok}
use Rattle.std.proofs.lemmas.Result.{MatchResult-at_ok, MatchResult-at_err}

module _ {A E : Type 0} (Q : A → Type 0) (i n : ℕ) where
  pub found : (o : Option A) (e : E) {r : Result A E} {a : A} → MatchOption o (ltb i n ≡ false) (λ b. Q b × (ltb i n ≡ true)) → r ≡ ok_or o e
      → r ≡ Ok a → Q a × (leb n i ≡ false)
  found None e m h k = absurd (false≢true (ap is_ok (sym h ∙ k)))
  found (Some b) e m h k =
      let q : Q _ × (ltb i n ≡ true) = MatchResult-at_ok (λ y. Q y × (ltb i n ≡ true)) (λ d. ⊥) _ (sym h ∙ k) m in
      (q.0, lt-leb n i (ltb-true i n q.1))

  pub missing : (o : Option A) (e : E) {r : Result A E} {d : E} → MatchOption o (ltb i n ≡ false) Q → r ≡ ok_or o e → r ≡ Err d
      → (d ≡ e) × (leb n i ≡ true)
  missing None e m h k = (MatchResult-at_err (λ b. ⊥) (λ y. y ≡ e) _ (sym h ∙ k) refl, le-leb n i (ltb-false i n m))
  missing (Some b) e m h k = absurd (false≢true (ap is_ok (sym k ∙ h)))
