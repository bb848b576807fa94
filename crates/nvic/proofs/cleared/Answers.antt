-- Bit 1 cleared.
use Rattle.nvic.proofs.Laws.{cleared-word}
use Rattle.nvic.proofs.cleared.Goals as goal

pub returns : goal.returns
returns c = cleared-word c.args.word
