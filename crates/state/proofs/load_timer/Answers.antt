-- The block of words, decoded.
use Rattle.state.proofs.Places.{timer-read}
use Rattle.codec.specs.Codec.{decode_timer}
use mathlib.Core.Path.{◌∙◌, ap, sym}
use Rattle.state.proofs.load_timer.Goals as goal

pub returns : goal.returns
returns c = λ x. c.unpack_timer.ensures ∙ ap decode_timer c.get.ensures ∙ sym (timer-read c.args.words.now x c.args.i.n c.args.i.below)
