use native.Mathlib.Omega.{arith}
use Rattle.std.proofs.Common.{rules}
use Rattle.std.proofs.lemmas.Iterator.{YieldsList-from_range}
use Rattle.std.proofs.lemmas.Iterator.Search.{all_from_yields_List}
use mathlib.Core.Path.{◌∙◌, refl, sym}
use borrow.Author.Tests.{tests}
use Rattle.setup.proofs.Limits.{fits-in, all-fit}
use Rattle.setup.proofs.SetUp.timers_good.Goals as goal

pub returns : goal.returns
returns c =
    let mask = c.args.self.manual in
    let ns = c.args.self.timers.now in
    rw (sym c.timer_count.ensures) (all_from_yields_List (fits-in mask ns c.timer_count.result) _ _ c.all.result c.all.ensures.ran (YieldsList-from_range 0 c.timer_count.result c.timer_count.result refl (omega arith)) (λ x b q k. search (rules, tests)) ∙ all-fit mask ns _ _ 0 (omega arith))
