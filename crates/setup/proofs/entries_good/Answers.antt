use Rattle.std.proofs.lemmas.Iterator.{YieldsList-from_slice}
use Rattle.std.proofs.lemmas.Iterator.Search.{all_from_yields_List}
use Rattle.setup.proofs.Limits.{all-below}
use mathlib.Core.Path.{◌∙◌}
use lib.Dec.{ltb}
use borrow.Author.Rules.{rules}
use borrow.Author.Tests.{tests}
use Rattle.setup.proofs.entries_good.Goals as goal

pub returns : goal.returns
returns c =
    all_from_yields_List (λ x. ltb x 256) _ _ c.all.result c.all.ensures.ran (YieldsList-from_slice c.args.table.now cc) (λ x b q k. search (rules, tests)) ∙ all-below c.args.table.now
