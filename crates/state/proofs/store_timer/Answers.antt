-- A block of words that decodes to the timer.
use Rattle.state.proofs.Stores.{timer-set}
use borrow.Author.Rules.{rules}
use Rattle.state.proofs.store_timer.Goals as goal

pub returns : goal.returns
returns c = λ x. rw c.put.ensures (timer-set c.args.words.now x c.told-words c.args.i.n c.pack_timer-b.result c.args.t c.args.i.below (search rules) c.pack_timer-b.ensures)
