-- Limit by limit.
use Rattle.setup.proofs.Limits.{few-timers, sizes-bad, timers-bad, supply-bad, table-bad, table-decides}
use Rattle.setup.specs.Setup.{count_of}
use mathlib.Core.Path.{◌∙◌, refl, sym}
use Rattle.setup.proofs.SetUp.within_limits.Goals as goal

pub returns-then-not-sizes_good : goal.returns-then-not-sizes_good
returns-then-not-sizes_good c = sizes-bad c.args.self.hz c.args.self.vcc c.args.self.pins c.args.self.lines c.args.self.manual c.args.self.timers.now c.args.self.table.now (count_of c.args.self.timers.now) refl (sym c.sizes_good.ensures ∙ c.if-not-sizes_good.true)

pub timers_good-requires : goal.timers_good-requires
timers_good-requires c = few-timers _ c.args.self.pins c.args.self.lines (sym c.sizes_good.ensures ∙ c.if-not-sizes_good.false)

pub returns-then-not-timers_good : goal.returns-then-not-timers_good
returns-then-not-timers_good c = timers-bad c.args.self.hz c.args.self.vcc c.args.self.pins c.args.self.lines c.args.self.manual c.args.self.timers.now c.args.self.table.now (count_of c.args.self.timers.now) refl (sym c.sizes_good.ensures ∙ c.if-not-sizes_good.false) (sym c.timers_good.ensures ∙ c.if-not-timers_good.true)

pub returns-then-not-is_positive : goal.returns-then-not-is_positive
returns-then-not-is_positive c = supply-bad c.args.self.hz c.args.self.vcc c.args.self.pins c.args.self.lines c.args.self.manual c.args.self.timers.now c.args.self.table.now (count_of c.args.self.timers.now) refl (sym c.sizes_good.ensures ∙ c.if-not-sizes_good.false) (sym c.timers_good.ensures ∙ c.if-not-timers_good.false) (sym c.is_positive.ensures ∙ c.if-not-is_positive.true)

pub returns-then-self : goal.returns-then-self
returns-then-self c = table-bad c.args.self.hz c.args.self.vcc c.args.self.pins c.args.self.lines c.args.self.manual c.args.self.timers.now c.args.self.table.now (count_of c.args.self.timers.now) refl (sym c.sizes_good.ensures ∙ c.if-not-sizes_good.false) (sym c.timers_good.ensures ∙ c.if-not-timers_good.false) (sym c.is_positive.ensures ∙ c.if-not-is_positive.false) c.if-self.true

pub returns : goal.returns
returns c = c.entries_good.ensures ∙ table-decides c.args.self.hz c.args.self.vcc c.args.self.pins c.args.self.lines c.args.self.manual c.args.self.timers.now c.args.self.table.now (count_of c.args.self.timers.now) refl (sym c.sizes_good.ensures ∙ c.if-not-sizes_good.false) (sym c.timers_good.ensures ∙ c.if-not-timers_good.false) (sym c.is_positive.ensures ∙ c.if-not-is_positive.false) c.if-self.false
