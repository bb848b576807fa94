-- What the functions' own proofs cite.
use mathlib.Core.Path.{◌≡◌, refl, sym}
use mathlib.Core.Bool.{Bool, true, false, cond}
use mathlib.Core.List.{List, [], ◌∷◌, ◌++◌}
use Prim.Native.Nat.{ℕ, ◌+◌, ◌-◌, ◌%◌, ◌<◌, ◌≤◌}
use lib.Dec.{eqb}
use lib.ListN.{length, take, drop}
use borrow.Author.Tests.{lt-ltb, le-ltb}
use native.Mathlib.Omega.{arith}
use Rattle.machine.specs.Refusals.{first}
use Rattle.tim.specs.declared.Inst.{Inst}
use Rattle.settings.specs.Record.{four, encode, good, write_number, given, Writes}

module _ (number width channels bus word bit irq manual : ℕ) where
  abbrev pub t : Inst
  t = given number width channels bus word bit irq manual

  -- what the code makes of them, the bus counted from 0
  abbrev pub made : ℕ → ℕ → List ℕ
  made k from =
      (11 + k) ∷ 0 ∷ k ∷ 0 ∷ (number % 256) ∷ (width % 256) ∷ (channels % 256) ∷ (from % 256) ∷ (word % 256) ∷ (bit % 256) ∷ (four irq ++ (1 ∷ []))

  pub record-size : (k : ℕ) → k ≡ cond (eqb manual 0) 1 2 → length (encode t) ≡ 13 + k
  unfolding encode
  record-size k e = rw e (go (eqb manual 0) refl)
    where
      go : (m : Bool) → eqb manual 0 ≡ m → length (encode t) ≡ 13 + cond (eqb manual 0) 1 2
      go true h = rw h
      go false h = rw h

  pub record-bytes : (k : ℕ) → k ≡ cond (eqb manual 0) 1 2 → take (13 + k) (made k (bus - 1)) ≡ encode t
  unfolding encode
  record-bytes k e = rw e (go (eqb manual 0) refl)
    where
      go : (m : Bool) → eqb manual 0 ≡ m → take (13 + cond (eqb manual 0) 1 2) (made (cond (eqb manual 0) 1 2) (bus - 1)) ≡ encode t
      go true h = rw h
      go false h = rw h

module _ (t : Inst) (lent : List ℕ) where
  pub write-cut : length lent < length (encode t) → Writes t lent lent (record { number = 13; count = 0 })
  unfolding write_number first
  write-cut h =
      let n : write_number t (length lent) ≡ 13 = rw (lt-ltb (length lent) (length (encode t)) h) in
      record { number = sym n; count = rw n; places = rw n }

  pub write-bad : length (encode t) ≤ length lent → good t ≡ false → Writes t lent lent (record { number = 1; count = 0 })
  unfolding write_number first
  write-bad h b =
      let n : write_number t (length lent) ≡ 1 = rw (le-ltb (length lent) (length (encode t)) h, b) in
      record { number = sym n; count = rw n; places = rw n }

  pub write-served : (out : List ℕ) (count : ℕ) → count ≡ length (encode t) → count ≤ length lent → good t ≡ true → out ≡ encode t ++ drop count lent
      → Writes t lent out (record { number = 0; count = count })
  unfolding write_number first
  write-served out count e h b o =
      let n : write_number t (length lent) ≡ 0 = rw (le-ltb (length lent) (length (encode t)) (omega arith), b) in
      record { number = sym n; count = rw n e; places = rw n (rw e at o) }
