-- What stands at a place of the row.
use Rattle.std.proofs.Common.{◌∙◌, ap}
use Rattle.std.specs.List.{slice_get}
use Rattle.text.proofs.WordLaws.{got}
use Rattle.text.specs.Words.{field_of}
use Rattle.text.proofs.Command.operand.Goals as goal

pub returns : goal.returns
unfolding field_of
returns c = c.copied.ensures ∙ got _ _ c.get.result c.get.ensures.lookup ∙ ap (λ xs. slice_get xs c.args.k) c.operands.ensures
