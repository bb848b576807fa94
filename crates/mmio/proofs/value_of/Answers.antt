use Rattle.mmio.proofs.Laws.{loaded-fit}
use mathlib.Core.Path.{ap, ◌∙◌}
use mathlib.Core.List.{[]}
use Rattle.tim.specs.declared.Timer.{Timer}
use Rattle.regs.specs.Regs.{reg_read}
use Rattle.mmio.proofs.value_of.Goals as goal

pub read_reg-requires : goal.read_reg-requires
read_reg-requires c =
    (loaded-fit c.args.words.now [] c.args.i.n _ (c.load_timer-t.ensures []), c.requires)

pub returns : goal.returns
returns c =
    λ x. c.read_reg.ensures ∙ ap (λ (t : Timer). reg_read t c.args.off c.args.cycle) (c.load_timer-t.ensures x)
