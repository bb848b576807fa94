-- The library fills a part.
use Rattle.std.proofs.Common.{arith}
use Rattle.blank.proofs.Blank.{filled-part}
use Rattle.blank.proofs.fill.Goals as goal

pub returns : goal.returns
returns c = filled-part c.args.words.now _ c.args.at c.args.n c.args.v (omega (arith, c.told-words, c.requires)) (c.fill.ensures.after (λ y e. e))
