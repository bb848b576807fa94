-- Refused, behind, or told the reason.
use mathlib.Core.Path.{refl, ◌∙◌}
use native.Mathlib.Omega.{arith}
use Rattle.state.specs.View.{view}
use Rattle.state.proofs.Asked.{found, missing}
use Rattle.std.proofs.lemmas.Result.{err_from_is_err_and}
use Rattle.why.proofs.Laws.{gpio-small, signal-lt, behind, in-time, no_pin_lem, no-time, backlog, told}
use Rattle.why.proofs.why.Goals as goal

pub returns-in_err-p : goal.returns-in_err-p
returns-in_err-p c =
    let p = err_from_is_err_and c.from_residual.result c.from_residual.ensures.1 in
    let q = missing _ _ _ _ _ (c.pin.ensures c.args.board.reals.now) c.ok_or.ensures.value c.in_err-p.was in
    rw (p.1, p.2, q.0) (no_pin_lem c.args.board.words.now c.args.board.reals.now _ c.args.cycle _ q.1 refl)

pub returns-then-is_astray : goal.returns-then-is_astray
returns-then-is_astray c =
    let q = found _ _ _ _ _ (c.pin.ensures c.args.board.reals.now) c.ok_or.ensures.value c.in_ok-p.was in
    no-time c.args.board.words.now c.args.board.reals.now _ c.args.cycle _ q.1 _ (c.is_astray.ensures c.args.board.reals.now) c.if-is_astray.true refl

pub returns-then-is_behind : goal.returns-then-is_behind
returns-then-is_behind c =
    let q = found _ _ _ _ _ (c.pin.ensures c.args.board.reals.now) c.ok_or.ensures.value c.in_ok-p.was in
    let late = behind (view c.args.board.words.now c.args.board.reals.now) _ c.args.cycle _ _ (c.feeder-source.ensures.channel c.args.board.reals.now) (c.is_behind.ensures c.args.board.reals.now) in
    backlog c.args.board.words.now c.args.board.reals.now _ c.args.cycle _ q.1 _ (c.is_astray.ensures c.args.board.reals.now) c.if-is_astray.false _ (rw q.0 at c.load_gpio-g.ensures) _ c.signal_of-s.ensures _
    (c.feeder-source.ensures.timer c.args.board.reals.now) _ late c.if-is_behind.true refl

pub first_reason-r-requires-clause-bounds : goal.first_reason-r-requires-clause-bounds
first_reason-r-requires-clause-bounds c =
    let a = c.args in
    let small = gpio-small a.board.words.now a.board.reals.now _ _ c.load_gpio-g.ensures in
    (rw c.signal_of-s.ensures (signal-lt c.load_gpio-g.result 256 (omega arith) small), in-time (view a.board.words.now a.board.reals.now) a.cycle _ (c.is_astray.ensures a.board.reals.now) c.if-is_astray.false)

pub returns : goal.returns
returns c =
    let q = found _ _ _ _ _ (c.pin.ensures c.args.board.reals.now) c.ok_or.ensures.value c.in_ok-p.was in
    let late = behind (view c.args.board.words.now c.args.board.reals.now) _ c.args.cycle _ _ (c.feeder-source.ensures.channel c.args.board.reals.now) (c.is_behind.ensures c.args.board.reals.now) in
    told c.args.board.words.now c.args.board.reals.now _ c.args.cycle _ q.1 _ (c.is_astray.ensures c.args.board.reals.now) c.if-is_astray.false _ (rw q.0 at c.load_gpio-g.ensures) _ c.signal_of-s.ensures _
    (c.feeder-source.ensures.timer c.args.board.reals.now) _ late c.if-is_behind.false _ (c.number.ensures ∙ (rw q.0 at c.first_reason-r.ensures c.args.board.reals.now)) c.served.ensures
