use Rattle.std.proofs.Common.{arith, ◌∙◌}
use Rattle.text.proofs.Spelled.{spell_turn, spell_done}
use Rattle.text.proofs.spell.Goals as goal

pub loop-i-preserved : goal.loop-i-preserved
loop-i-preserved c = spell_turn _ c.loop-i.rest c.loop-i.out (omega arith) (omega arith) ∙ c.loop-i.invariant

pub returns : goal.returns
returns c = spell_done _ c.loop-i.rest c.loop-i.out (omega arith) ∙ c.loop-i.invariant
