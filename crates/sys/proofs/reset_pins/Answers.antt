use Rattle.machine.specs.Board.{Board}
use Rattle.sys.proofs.Laws.{reset-begins, reset-ends, reset-goes}
use Rattle.sys.proofs.Small.{pins-small}
use borrow.Author.Rules.{rules}
use mathlib.Core.Path.{◌∙◌, ap, refl}
use native.Mathlib.Omega.{arith}
use Rattle.sys.proofs.reset_pins.Goals as goal

pub loop-i-init : goal.loop-i-init
loop-i-init c = (reset-begins _ c.args.cycle _ _, record { words = refl; reals = refl }, search rules)

pub invariant_of-p : goal.invariant_of-p
invariant_of-p c = record { below = omega (arith, c.loop-i-test.true, pins-small _ _ (c.pin_count-n.ensures c.args.board.now.reals.now)) }

pub append-requires : goal.append-requires
append-requires c =
    let s = c.loop-i.invariant.2 in
    omega (arith, c.loop-i-test.true, c.pin_count-n.ensures c.args.board.now.reals.now ∙ ap (λ (b : Board). b.counts.pins) (c.unroute.ensures c.args.board.now.reals.now), c.requires, c.loop-i.invariant.0.few, s.pins_length, s.levels_length, s.cycles_length, s.sources_length)

pub loop-i-preserved : goal.loop-i-preserved
loop-i-preserved c = (reset-goes _ c.args.cycle _ _ _ _ _ c.loop-i.invariant.0 c.loop-i-test.true _ _ c.reset_pin-change.ensures.moves _ c.append.ensures.entered c.append.ensures.at_most_one, search rules, search rules)

pub returns-clause-same_loan : goal.returns-clause-same_loan
returns-clause-same_loan c = search rules

pub returns-clause-same_slices : goal.returns-clause-same_slices
returns-clause-same_slices c = search rules

pub returns-clause-reset : goal.returns-clause-reset
returns-clause-reset c = reset-ends _ c.args.cycle _ _ _ _ _ c.loop-i.invariant.0 c.loop-i-test.false _ (c.unroute.ensures c.args.board.now.reals.now) (c.pin_count-n.ensures c.args.board.now.reals.now ∙ ap (λ (b : Board). b.counts.pins) (c.unroute.ensures c.args.board.now.reals.now))

pub returns-clause-at_most_pins : goal.returns-clause-at_most_pins
returns-clause-at_most_pins c = omega (arith, c.loop-i.invariant.0.few, c.loop-i.invariant.0.within, c.pin_count-n.ensures c.args.board.now.reals.now ∙ ap (λ (b : Board). b.counts.pins) (c.unroute.ensures c.args.board.now.reals.now))
