-- Driven and appended, or nothing.
use Rattle.mmio.proofs.Laws.{drives-on, drives-off}
use Rattle.mmio.proofs.drive_if.Goals as goal

pub returns-in-Some-clause-driven_if : goal.returns-in-Some-clause-driven_if
returns-in-Some-clause-driven_if c = drives-on _ _ _ c.args.cycle _ _ _ _ c.in-Some.is c.drive_outputs.ensures.driven

pub returns-in_default-clause-driven_if : goal.returns-in_default-clause-driven_if
returns-in_default-clause-driven_if c = drives-off _ _ c.args.cycle _ _ c.in_default.is
