use native.Mathlib.Omega.{arith}
use mathlib.Core.Path.{refl}
use mathlib.Core.Bool.{true, false}
use Prim.Native.Nat.{◌-◌, ◌*◌}
use borrow.Author.Rules.{rules}
use lib.ListN.{length}
use Rattle.calls.proofs.Listed.{next-within, goes_on, stopped, stops_of, call-does, does-as, room-ends, ends-full}
use Rattle.calls.proofs.run_calls.Goals as goal

pub returns-in_default-clause-performs : goal.returns-in_default-clause-performs
returns-in_default-clause-performs c = room-ends c.args.calls.now _ _ _ _ _ _ _ _ _ c.places-room.ensures (stopped _ _ _ _ _ _ _ _ _ _ c.loop-done.invariant.0 _ _ refl refl true (stops_of (length c.args.answers.now - c.loop-done.done * 3) (c.places-room.result - c.loop-done.book.count) _ _ true (omega (arith, c.loop-done-test.true)) c.in_default.ensures.stops) refl) c.loop-done.invariant.0.words c.loop-done.invariant.0.places

pub perform_next-answer-requires : goal.perform_next-answer-requires
perform_next-answer-requires c =
    let h = c.in-Some.ensures.call.2 in
    let p = c.loop-done.invariant.0.places in
    (omega (arith, h, p, c.places-room.ensures), omega (arith, h, p, c.places-room.ensures), omega (arith, h, p, c.places-room.ensures), omega (arith, h, p, c.places-room.ensures))

pub overflow_add-at : goal.overflow_add-at
overflow_add-at c = omega (arith, c.well_formed, next-within _ _ _ _ _ _ _ _ _ _ c.loop-done.invariant.0 _ _ c.in-Some.ensures.call.1 refl false (rw c.in-Some.ensures.call.1 (stops_of (length c.args.answers.now - c.loop-done.done * 3) (c.places-room.result - c.loop-done.book.count) _ _ false (omega (arith, c.loop-done-test.true)) c.in-Some.ensures.stops)))

pub loop-done-preserved : goal.loop-done-preserved
loop-done-preserved c = (goes_on _ _ _ _ _ _ _ _ _ _ c.loop-done.invariant.0 _ _ c.in-Some.ensures.call.1 refl false (rw c.in-Some.ensures.call.1 (stops_of (length c.args.answers.now - c.loop-done.done * 3) (c.places-room.result - c.loop-done.book.count) _ _ false (omega (arith, c.loop-done-test.true)) c.in-Some.ensures.stops)) refl _ _ _ (does-as _ _ c.in-Some.ensures.call.0 _ _ _ _ _ _ _ (call-does _ _ _ _ _ _ _ _ _ _ _ c.perform_next-answer.ensures.answers c.put_answer.ensures c.perform_next-answer.ensures.entered)), omega (arith, c.put_answer.auto.answers, c.loop-done.invariant.1), search rules, search rules)

pub returns-clause-performs : goal.returns-clause-performs
returns-clause-performs c = ends-full c.args.calls.now _ _ _ _ _ _ _ _ _ _ _ c.loop-done.invariant.0 (omega (arith, c.loop-done-test.false, c.loop-done.auto.done-end)) (omega (arith, c.loop-done-test.false, c.loop-done.auto.done-end)) c.places-room.ensures
