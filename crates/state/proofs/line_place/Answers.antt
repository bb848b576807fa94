-- Below the word of the count and below 256: below the count.
use Rattle.state.proofs.Places.{nirq-read}
use native.Mathlib.Omega.{arith}
use mathlib.Core.Path.{refl}
use Rattle.state.proofs.line_place.Goals.{else-irq-lt256-via-then-irq-lt256+else-irq-words, else-irq-lt256-via-else-irq-lt256}
use Rattle.state.proofs.line_place.Goals as goal

pub returns-then-irq-words : goal.returns-then-irq-words
returns-then-irq-words c = record {
  line = λ x. (refl, omega (arith, nirq-read c.args.words.now x, c.if-irq-lt256.true, c.if-irq-words.true));
  range = omega (arith, c.if-irq-lt256.true);
}

pub returns : goal.returns
returns c = record {
  line = λ x. elim c.else-irq-lt256.branch [
    | else-irq-lt256-via-then-irq-lt256+else-irq-words w ↦ omega (arith, nirq-read c.args.words.now x, w.if-irq-words.false)
    | else-irq-lt256-via-else-irq-lt256 w ↦ omega (arith, nirq-read c.args.words.now x, w.if-irq-lt256.false)
  ];
  range = tt;
}
