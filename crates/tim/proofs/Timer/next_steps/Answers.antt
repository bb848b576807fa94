-- The four channels, one after the other.
use Rattle.tim.specs.Next.{next_steps}
use Rattle.tim.proofs.Timer.next_steps.Goals as goal

pub returns : goal.returns
unfolding next_steps
returns c = rw (c.consider.ensures, c.consider-c.ensures, c.consider-b.ensures, c.consider-a.ensures, c.update_steps.ensures)
