-- Three words exchanged.
use Rattle.calls.proofs.Listed.{three-words}
use Rattle.calls.proofs.put_answer.Goals as goal

pub returns : goal.returns
returns c = rw (c.copy_from_slice.ensures.after, c.from.ensures, c.from-2.ensures) (three-words c.args.answers.now c.args.i _ _ _ c.requires)
