-- A number, or not-a-number.
use Rattle.encoding.proofs.Laws.{number-exponent, number_digits, not-a-number}
use Rattle.encoding.proofs.float.Goals.{then-exponent-ne2047-via-then-exponent-ne2047, then-exponent-ne2047-via-else-exponent-ne2047+then-digits-eq0}
use lib.Ieee as Ieee
use Rattle.encoding.proofs.float.Goals as goal

pub float_from_bits-result : goal.float_from_bits-result
float_from_bits-result c =
    elim c.then-exponent-ne2047.branch [ then-exponent-ne2047-via-then-exponent-ne2047 w ↦ number-exponent _ w.if-exponent-ne2047.true | then-exponent-ne2047-via-else-exponent-ne2047+then-digits-eq0 w ↦ number_digits _ w.if-digits-eq0.true ]

pub returns : goal.returns
unfolding Ieee.of_bits Ieee.div
returns c =
    not-a-number _ c.if-exponent-ne2047.false c.if-digits-eq0.false
