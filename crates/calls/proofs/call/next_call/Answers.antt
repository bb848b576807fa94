-- The places of the decoded call are those of its words.
use Prim.Native.Nat.{◌<◌, ◌≤◌}
use native.Mathlib.Omega.{arith}
use Rattle.encoding.specs.Encoding.{len_of, book_of}
use Rattle.calls.proofs.Listed.{book-places, no-places, has-places}
use Rattle.calls.proofs.call.next_call.Goals as goal

pub returns-then-room-places-clause-stops : goal.returns-then-room-places-clause-stops
returns-then-room-places-clause-stops c =
    let e = book-places _ c.args.calls.now c.in_ok-call.ensures.call.0 in
    let h : c.args.room < book_of c.args.calls.now = omega (arith, c.if-room-places.true, c.places.ensures, e) in
    no-places (len_of c.args.calls.now) _ _ h

pub returns-clause-stops : goal.returns-clause-stops
returns-clause-stops c =
    let e = book-places _ c.args.calls.now c.in_ok-call.ensures.call.0 in
    let l : 0 < len_of c.args.calls.now = omega (arith, c.in_ok-call.ensures.call.1, c.in_ok-call.ensures.call.2) in
    let h : book_of c.args.calls.now ≤ c.args.room = omega (arith, c.if-room-places.false, c.places.ensures, e) in
    has-places _ _ _ l h
