-- A pin's setting is six of the words.
use Rattle.std.proofs.Common.{◌≡◌, ◌∙◌, ap}
use Rattle.encoding.specs.Encoding.{word, call_with, book_of, book_call}
use Rattle.encoding.specs.Operations.{number_of}
use Rattle.encoding.proofs.decoded.Goals as goal

pub returns-in-SetPin : goal.returns-in-SetPin
unfolding call_with book_of book_call
returns-in-SetPin c =
    let e : word c.args.calls.now 0 ≡ 3 = c.requires.operation ∙ ap number_of c.in-SetPin.is in
    c.setting_in.ensures _ _ _ ∙ rw (c.word-in-SetPin.ensures, c.word64-in-SetPin.ensures, c.word64-in-SetPin-2.ensures, e)
