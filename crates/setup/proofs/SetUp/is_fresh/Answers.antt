use Rattle.std.proofs.Common.{rules}
use Rattle.std.proofs.lemmas.Iterator.{YieldsList-from_range}
use Rattle.std.proofs.lemmas.Iterator.Search.{all_from_yields_List}
use mathlib.Core.Path.{◌∙◌, refl, sym}
use borrow.Author.Tests.{tests}
use Rattle.setup.proofs.Limits.{other, all-other}
use Rattle.setup.proofs.SetUp.is_fresh.Goals as goal

pub returns : goal.returns
returns c =
    let mask = c.args.self.manual in
    let ns = c.args.self.timers.now in
    rw (sym c.timer_count.ensures) (all_from_yields_List (other mask ns c.args.n) _ _ c.all.result c.all.ensures.ran (YieldsList-from_range c.args.from c.timer_count.result _ refl refl) (λ x b q k. search (rules, tests)) ∙ all-other mask ns c.args.n _ _)
