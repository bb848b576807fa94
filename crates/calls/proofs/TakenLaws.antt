-- Which calls are performed: the first ones, and all of them where there is room. Assumes nothing.
use mathlib.Core.Path.{◌≡◌, refl, ap}
use mathlib.Core.Bool.{Bool, true, false, cond}
use mathlib.Core.List.{List, [], ◌∷◌, ◌++◌}
use Prim.Native.Nat.{ℕ, ◌+◌, ◌-◌, ◌*◌, ◌≤◌}
use native.Mathlib.Omega.{arith}
use lib.ListN.{length, drop}
use borrow.Author.Tests.{le-ltb}
use Rattle.machine.specs.Board.{Board}
use Rattle.machine.specs.Call.{Call, lent}
use Rattle.machine.specs.Step.{step}
use Rattle.machine.proofs.Numbers.{entries_fit}
use Rattle.calls.specs.Taken.{no_room, taken}

-- no call is left out or changed before the last that is performed
pub taken-first : (b : Board) (cs : List Call) (words room : ℕ) → taken b cs words room ++ drop (length (taken b cs words room)) cs ≡ cs
unfolding taken
taken-first b [] words room = refl
taken-first b (c ∷ cs) words room = go (no_room words room (lent c)) (taken (step b c).board cs (words - 3) (room - length (step b c).entries)) (taken-first (step b c).board cs (words - 3) (room - length (step b c).entries))
  where
    go : (t : Bool) (ds : List Call) → ds ++ drop (length ds) cs ≡ cs → cond t [] (c ∷ ds) ++ drop (length (cond t [] (c ∷ ds))) (c ∷ cs) ≡ c ∷ cs
    go true ds h = refl
    go false ds h = ap (λ (l : List Call). c ∷ l) h

-- the places that calls are lent, together
unfoldable pub lent_all : List Call → ℕ
lent_all [] = 0
lent_all (c ∷ cs) = lent c + lent_all cs

-- three words for each and the places of all: every call is performed
pub taken-all : (b : Board) (cs : List Call) (words room : ℕ) → length cs * 3 ≤ words → lent_all cs ≤ room → taken b cs words room ≡ cs
unfolding taken lent_all
taken-all b [] words room h g = refl
taken-all b (c ∷ cs) words room h g =
    rw (le-ltb words 3 (omega arith), le-ltb room (lent c) (omega arith))
    (ap (λ (l : List Call). c ∷ l)
    (taken-all (step b c).board cs (words - 3) (room - length (step b c).entries) (omega arith) (omega (arith, (entries_fit b c).places))))
