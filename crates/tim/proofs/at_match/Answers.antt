-- By the mode.
use Rattle.rm0440.specs.Output.{at_match}
use borrow.Author.Tests.{ne_eqb}
use Rattle.tim.proofs.at_match.Goals as goal

pub returns-in-1 : goal.returns-in-1
unfolding at_match
returns-in-1 c = rw c.in-1.is

pub returns-in-2 : goal.returns-in-2
unfolding at_match
returns-in-2 c = rw c.in-2.is

pub returns-in-3 : goal.returns-in-3
unfolding at_match
returns-in-3 c = rw c.in-3.is

pub returns-in_default : goal.returns-in_default
unfolding at_match
returns-in_default c =
    let r = c.in_default.in_default-own.rest in rw (ne_eqb _ _ r.0.0.1, ne_eqb _ _ r.0.1, ne_eqb _ _ r.1)
