-- The wish's bit set or cleared.
use Rattle.nvic.proofs.Laws.{wish-word, unwish-word}
use Rattle.nvic.proofs.wished.Goals as goal

pub returns-then-level : goal.returns-then-level
returns-then-level c = rw c.if-level.true (wish-word c.args.word c.args.i c.requires)

pub returns-else-level : goal.returns-else-level
returns-else-level c = rw c.if-level.false (unwish-word c.args.word c.args.i c.requires)
