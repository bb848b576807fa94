-- A piece of a block of words that decodes to the timer.
use Rattle.state.proofs.Pieces.{live-set}
use borrow.Author.Rules.{rules}
use Rattle.state.proofs.store_live.Goals as goal

pub returns : goal.returns
returns c =
    λ x. rw c.put.ensures (live-set c.args.words.now x c.told-words c.args.i.n c.args.i.below c.pack_timer-b.result c.args.t (search rules) c.pack_timer-b.ensures)
