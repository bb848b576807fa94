-- The counter's word.
use Rattle.fields.proofs.Stored.{cnt-read}
use mathlib.Core.Path.{sym, ◌∙◌}
use Rattle.fields.proofs.cnt0.Goals as goal

pub returns : goal.returns
returns c = λ x. c.low_32.ensures ∙ sym (cnt-read c.args.words.now c.args.i.n x c.args.i.below)
