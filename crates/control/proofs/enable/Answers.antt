-- By the word.
use Rattle.control.proofs.Laws.{no_word, word_set}
use mathlib.Core.Path.{refl}
use Rattle.control.proofs.enable.Goals as goal

pub returns-then-w-ge9 : goal.returns-then-w-ge9
returns-then-w-ge9 c = λ x. no_word _ _ _ _ _ c.if-w-ge9.true refl

pub returns : goal.returns
returns c = λ x. word_set _ _ _ _ c.served.ensures _ _ c.if-w-ge9.false (c.set_enr.ensures x)
