-- Its eight words.
use mathlib.Core.Path.{◌∙◌}
use Rattle.fields.proofs.Stored.{inst-read}
use Rattle.fields.proofs.inst.Goals as goal

pub returns : goal.returns
returns c = λ x. c.unpack_inst.ensures ∙ inst-read c.args.words.now c.args.i.n x c.args.i.below
