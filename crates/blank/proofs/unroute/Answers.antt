-- The routes, then the levels.
use Rattle.blank.proofs.Unrouted.{unrouted-view}
use Rattle.blank.proofs.unroute.Goals as goal

pub returns : goal.returns
returns c = λ x. unrouted-view c.args.words.now _ _ x c.told-words c.fill.ensures c.idle_levels.ensures
