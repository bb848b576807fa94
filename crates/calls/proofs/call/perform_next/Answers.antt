-- The parts are put behind the entries so far.
use Rattle.calls.proofs.Listed.{part-entered}
use Rattle.calls.proofs.call.perform_next.Goals as goal

pub returns-clause-entered : goal.returns-clause-entered
returns-clause-entered c = part-entered c.args.call _ _ c.args.book.now.count _ c.places.ensures c.requires _ _ c.perform_in-answer.ensures.holds
