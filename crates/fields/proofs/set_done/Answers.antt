-- A channel's word stored.
use Rattle.fields.proofs.Stored.{done-set}
use Rattle.fields.proofs.set_done.Goals as goal

pub returns : goal.returns
returns c = done-set c.args.words.now c.args.i.n c.told-words c.args.i.below c.args.ch.n c.args.on c.args.ch.below
