-- The steps of the first event, in cycles.
use Rattle.tim.proofs.Laws.{due-fits, next-runs, steps-le}
use Rattle.tim.specs.Next.{next_event}
use mathlib.Core.Path.{◌∙◌, sym}
use native.Mathlib.Omega.{arith}
use Rattle.tim.proofs.Timer.next_event.Goals as goal

pub returns-then-not-counts : goal.returns-then-not-counts
unfolding next_event
returns-then-not-counts c = rw (sym c.counts.ensures ∙ c.if-not-counts.true)

pub cycles_of-requires : goal.cycles_of-requires
cycles_of-requires c = (rw c.next_steps-first.ensures (steps-le c.args.self (omega arith) (omega arith)), c.requires.tick-le)

pub overflow_add-at : goal.overflow_add-at
overflow_add-at c = record { fits = rw (c.cycles_of.ensures, c.next_steps-first.ensures) (due-fits c.args.self c.requires (omega (arith, c.before.before.before.before.before)) (omega (arith, c.before.before.before.before.before))) }

pub returns : goal.returns
returns c = rw (c.cycles_of.ensures, c.next_steps-first.ensures) (next-runs c.args.self (sym c.counts.ensures ∙ c.if-not-counts.false))
