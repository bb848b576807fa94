-- The first call of the table whose word it is.
use Rattle.std.proofs.Common.{rules, ◌∙◌}
use Rattle.std.proofs.lemmas.Iterator.{YieldsList-from_slice}
use Rattle.std.proofs.lemmas.Iterator.Search.{find_from_yields_List}
use borrow.Author.Tests.{tests}
use Rattle.text.proofs.WordLaws.{found}
use Rattle.text.specs.Words.{same_word, word_of, commands}
use Rattle.text.proofs.call_of.Goals as goal

pub returns : goal.returns
returns c =
    c.copied.ensures
    ∙ find_from_yields_List (λ x. same_word c.args.word.now (word_of x)) _ _ c.find.result c.find.ensures.ran (YieldsList-from_slice commands (search rules)) (λ x b q k. search (rules, tests))
    ∙ found c.args.word.now
