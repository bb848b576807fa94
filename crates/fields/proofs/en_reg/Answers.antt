-- Its word.
use Rattle.fields.proofs.Stored.{inst-read}
use Rattle.tim.specs.declared.Inst.{Inst}
use mathlib.Core.Path.{ap, ◌∙◌}
use Rattle.fields.proofs.en_reg.Goals as goal

pub returns : goal.returns
returns c = λ x. c.low_32.ensures ∙ ap (λ (t : Inst). t.en_reg) (inst-read c.args.words.now c.args.i.n x c.args.i.below)
