-- The table's rule is one test at each of its entries, which antt computes.
use Prim.Native.Nat.{ℕ}
use Rattle.rm0440.specs.Registers.{bits, kept_mask, mask}
use Rattle.regs.proofs.Table.{at}
use borrow.Author.Rules.{rules}
use lib.Dec.{eqb, eqb→eq}
use lib.ListN.{get_or}
use mathlib.Core.Bool.{Bool}
use mathlib.Core.List.{List, [], ◌∷◌}
use Rattle.regs.proofs.kept.Goals as goal

table : List ℕ
table = 1023 ∷ 4294967295 ∷ 4294967295 ∷ 24415 ∷ 7775 ∷ 0 ∷ 4294967295 ∷ 4294967295 ∷ 13107 ∷ 4294967295 ∷ 65535 ∷ 4294967295 ∷ 0 ∷ 4294967295 ∷ 4294967295 ∷ 4294967295 ∷ 4294967295 ∷ []

right : ℕ → ℕ → Bool
right k x = eqb x (kept_mask k)

pub returns : goal.returns
unfolding table right mask bits
returns c = eqb→eq (get_or table c.args.reg 0) (kept_mask c.args.reg) (at right table tt c.args.reg (search rules))
