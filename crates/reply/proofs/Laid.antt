-- What is filled of a buffer once a number is written behind it.
use Rattle.std.proofs.Common.{◌≡◌, ℕ, ◌+◌, ◌≤◌, List, ◌++◌, length, take, drop, ap, ◌∙◌, refl, Bool, true, false, cond, Some, None, arith}
use Rattle.std.proofs.lemmas.List.{length-take-le}
use Rattle.std.proofs.Math.Seq.{take-append_seam, take-append-add}
use Rattle.std.proofs.lemmas.Bool.{leb-true}
use Rattle.text.specs.Digits.{over, fits, places_of, digits_of, Wrote}
use Rattle.text.proofs.ReadsBack.{length_digits}

laid-behind : (at : ℕ) (xs old : List ℕ) → at ≤ length old → take (at + length xs) (over xs at old) ≡ take at old ++ xs
laid-behind at xs old h =
    let rest : List ℕ = drop (at + length xs) old in
    let e : length (take at old) ≡ at = length-take-le at old h in
    let s : take (length (take at old) + length xs) (take at old ++ (xs ++ rest)) ≡ take at old ++ take (length xs) (xs ++ rest) = take-append-add (take at old) (xs ++ rest) (length xs) in
    rw e at s ∙ ap (λ (t : List ℕ). take at old ++ t) (take-append_seam xs rest)

pub wrote-behind : (n at end : ℕ) (old new : List ℕ) → Wrote n at old new (Some end) → take end new ≡ take at old ++ digits_of n
wrote-behind n at end old new w = go (fits n at old) refl w.place w.bytes
  where
    go : (t : Bool) → fits n at old ≡ t → Some end ≡ cond t (Some (at + places_of n)) None → new ≡ cond t (over (digits_of n) at old) old → take end new ≡ take at old ++ digits_of n
    go true f p b =
        let q : end ≡ at + places_of n = cc in
        let e : end ≡ at + length (digits_of n) = omega (arith, q, length_digits (places_of n) n) in
        rw (e, b) (laid-behind at (digits_of n) old (omega (arith, leb-true _ _ f)))
    go false f p b = cc
