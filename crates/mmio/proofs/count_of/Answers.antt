-- The timer loaded, and its counter.
use Rattle.mmio.proofs.Laws.{loaded-fit, counter-lane}
use mathlib.Core.Path.{ap, ◌∙◌}
use mathlib.Core.List.{[]}
use native.Mathlib.Omega.{arith}
use Rattle.tim.specs.declared.Timer.{Timer}
use Rattle.tim.specs.Count.{cnt_at}
use Rattle.mmio.proofs.count_of.Goals as goal

pub returns-then-t-eq0 : goal.returns-then-t-eq0
returns-then-t-eq0 c = λ x. c.lane_of.ensures x ∙ counter-lane _ c.args.cycle

pub cnt_at-requires : goal.cnt_at-requires
cnt_at-requires c =
    (loaded-fit c.args.words.now [] c.args.i.n _ (c.load_timer-t.ensures []), omega (arith, c.requires))

pub returns : goal.returns
returns c =
    λ x. c.cnt_at.ensures ∙ ap (λ (t : Timer). cnt_at t c.args.cycle) (c.load_timer-t.ensures x)
