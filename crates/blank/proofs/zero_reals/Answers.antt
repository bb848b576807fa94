-- The library fills them all.
use Rattle.std.proofs.Common.{◌∙◌}
use Rattle.real.specs.Real.{zero_float}
use Rattle.blank.proofs.Blank.{filled}
use Rattle.blank.proofs.zero_reals.Goals as goal

pub returns : goal.returns
returns c = c.fill.ensures.after (λ y e. e) ∙ filled c.args.reals.now 264 zero_float c.told-reals
