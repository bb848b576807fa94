-- By the wishes, and by the word's own level.
use Rattle.nvic.proofs.Laws.{none-wishes, some-wishes, low_word, rise-word}
use borrow.Author.Tests.{eq-eqb, ne_eqb}
use Rattle.nvic.proofs.settled.Goals as goal

pub returns-in-0-default : goal.returns-in-0-default
returns-in-0-default c = rw (none-wishes _ c.in-0-default.is-0) (low_word c.args.word)

pub returns-in_default-eq1 : goal.returns-in_default-eq1
returns-in_default-eq1 c = rw (some-wishes _ c.in_default-eq1.is-0.1, eq-eqb _ _ c.in_default-eq1.is-1)

pub returns-in_default : goal.returns-in_default
returns-in_default c = rw (some-wishes _ c.in_default.is-0.1, ne_eqb _ _ c.in_default.is-1.1) (rise-word c.args.word)
