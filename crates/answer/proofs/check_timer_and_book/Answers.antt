-- The first three tests, then the book's.
use mathlib.Core.Path.{refl, sym, ap, ◌∙◌}
use mathlib.Core.List.{[], ◌∷◌}
use native.Mathlib.Omega.{arith}
use Rattle.book.specs.Book.{places}
use Rattle.book.specs.Lent.{slices_of}
use Rattle.machine.specs.Refusals.{no_such_index, bad_size, clock_astray, book_full, in_order}
use Rattle.state.specs.View.{view}
use Rattle.std.proofs.lemmas.Result.{err_from_is_err_and}
use Rattle.answer.specs.Refused.{refusal_number}
use Rattle.answer.proofs.Given.{first-front, first_rest, book-full, book-fits, number-positive}
use Rattle.answer.proofs.check_timer_and_book.Goals as goal

pub returns-in_err-i-clause-refusal : goal.returns-in_err-i-clause-refusal
returns-in_err-i-clause-refusal c =
    λ x. let h = c.in_err-i.ensures.refusal x in
    let p = err_from_is_err_and c.from_residual.result c.from_residual.ensures.1 in
    rw (p.1, p.2) (h ∙ first-front (no_such_index c.args.index (view c.args.words.now x).counts.timers ∷ bad_size c.args.size ∷ clock_astray (view c.args.words.now x) c.args.cycle ∷ []) (book_full 4 (places (slices_of c.args.book.now)) ∷ []) (λ e. omega (arith, number-positive c.in_err-i.field-0.0, h ∙ e)))

pub returns-then-places-lt4-clause-refusal : goal.returns-then-places-lt4-clause-refusal
unfolding in_order
returns-then-places-lt4-clause-refusal c =
    λ x. book-full (places (slices_of c.args.book.now)) (omega (arith, c.places.ensures, c.if-places-lt4.true))
    ∙ first_rest (no_such_index c.args.index (view c.args.words.now x).counts.timers ∷ bad_size c.args.size ∷ clock_astray (view c.args.words.now x) c.args.cycle ∷ []) (book_full 4 (places (slices_of c.args.book.now)) ∷ []) refl (sym (c.in_ok-i.ensures.refusal x))

pub returns-clause-refusal : goal.returns-clause-refusal
unfolding in_order
returns-clause-refusal c =
    λ x. book-fits (places (slices_of c.args.book.now)) (omega (arith, c.places.ensures, c.if-places-lt4.false))
    ∙ first_rest (no_such_index c.args.index (view c.args.words.now x).counts.timers ∷ bad_size c.args.size ∷ clock_astray (view c.args.words.now x) c.args.cycle ∷ []) (book_full 4 (places (slices_of c.args.book.now)) ∷ []) refl (sym (c.in_ok-i.ensures.refusal x))
