-- By whether the seven numbers are there.
use Rattle.setup.proofs.Limits.{inst-lacking, inst-whole}
use mathlib.Core.Path.{◌∙◌}
use Rattle.std.proofs.Common.{rules}
use Rattle.setup.proofs.SetUp.inst_at.Goals.{in_default-via-in-Some+then-get-lt7, in_default-via-in-Some+else-get-lt7+else-this-lt8, in_default-via-in_default}
use Rattle.setup.proofs.SetUp.inst_at.Goals as goal

pub returns-in_default : goal.returns-in_default
returns-in_default c = c.no_inst.ensures ∙ inst-lacking c.args.self.manual c.args.self.timers.now c.args.i
    (elim c.in_default.branch [ in_default-via-in-Some+then-get-lt7 w ↦ search rules | in_default-via-in-Some+else-get-lt7+else-this-lt8 w ↦ search rules | in_default-via-in_default w ↦ search rules ])

pub returns : goal.returns
returns c = let cut = c.in-Some-len7.ensures.lookup.0 in inst-whole c.args.self.manual c.args.self.timers.now c.args.i c.in-Some-len7.field-0.now cut.2 cut.1
