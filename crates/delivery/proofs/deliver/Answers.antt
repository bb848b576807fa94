-- The timer loaded, its events run, stored, its line settled and what is due next booked.
use Rattle.delivery.proofs.Laws.{loaded-fit, due-booked, delivers}
use mathlib.Core.Path.{refl}
use Rattle.delivery.proofs.deliver.Goals as goal

pub run-r-requires : goal.run-r-requires
run-r-requires c = record {
  timer = (loaded-fit c.args.board.now.words.now c.args.board.now.reals.now c.args.i.n _ (c.load_timer-t.ensures c.args.board.now.reals.now), c.divider-div.ensures.positive, c.requires);
  empty = refl;
}

pub store-requires : goal.store-requires
store-requires c = c.run-r.ensures.fit.0

pub returns-clause-delivers : goal.returns-clause-delivers
returns-clause-delivers c = delivers _ _ _ _ _ c.args.i.n c.args.cycle _ _ _ _ (c.load_timer-t.ensures c.args.board.now.reals.now) (rw (c.seen.ensures.words, c.seen.ensures.reals) at c.divider-div.ensures.divider) _ _ _ c.run-r.ensures.ends c.run-r.ensures.fit.2 (c.store.ensures _) (c.settle_line.ensures _) (due-booked _ _ c.args.i.n c.args.cycle _ _ c.run-r.ensures.fit.1 (c.book_due.ensures _))
