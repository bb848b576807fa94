-- The digits that are left, before the bytes that are laid, make the number's.
use Rattle.std.proofs.Common.{◌≡◌, ◌++◌, drop, length}
use Rattle.text.specs.Digits.{last_digits}
use Rattle.text.proofs.spell.Given as goal

abbrev pub invariant-loop-i : goal.invariant-loop-i
invariant-loop-i l = last_digits l.i l.rest ++ drop l.i l.out ≡ last_digits (length l.fn.out) l.n
