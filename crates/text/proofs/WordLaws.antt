-- Words compared byte by byte, and a word's place among others.
use Rattle.std.proofs.Common.{◌≡◌, refl, ℕ, Bool, true, false, ◌&&◌, List, [], ◌∷◌, eqb, map, nat_eq, rules, ◌∙◌, zero, suc, length, arith, ap, cond, ◌+◌, Some, slice_get}
use native.Mathlib.Numerals.{add-one}
use Rattle.std.specs.Cmp.Lexicographic.{pointwise}
use Rattle.std.specs.List.{find}
use Rattle.std.specs.Prelude.{Option, None}
use lib.Dec.{T, eqb→eq}
use Rattle.std.specs.Option.{option_copied}
use Rattle.std.specs.Slice.{IsItemAt}
use Rattle.std.proofs.lemmas.Option.{slice_get_past, slice_get_read}
use denote.Ref.{Bor}
use mathlib.Core.Path.{sym}
use Rattle.text.specs.Words.{same_word, place_in, call_of, command_at, commands, word_of, number_of}
use Rattle.text.specs.declared.Command.{Command}

both_left : (a b : Bool) → T (a && b) → T a
both_left true b t = tt
both_left false b t = t

both_right : (a b : Bool) → T (a && b) → T b
both_right true b t = t
both_right false b t = absurd t

-- words that are the same by this are one word
pub same_word_lem : (a b : List ℕ) → T (same_word a b) → a ≡ b
unfolding same_word
same_word_lem [] [] t = refl
same_word_lem [] (y ∷ ys) t = absurd t
same_word_lem (x ∷ xs) [] t = absurd t
same_word_lem (x ∷ xs) (y ∷ ys) t = cc (eqb→eq x y (both_left (eqb x y) (same_word xs ys) t), same_word_lem xs ys (both_right (eqb x y) (same_word xs ys) t))

-- what `==` of two slices says
pub same_pointwise : (a b : List ℕ) → pointwise nat_eq a b ≡ same_word a b
unfolding same_word
same_pointwise [] [] = refl
same_pointwise [] (y ∷ ys) = refl
same_pointwise (x ∷ xs) [] = refl
same_pointwise (x ∷ xs) (y ∷ ys) = rw (same_pointwise xs ys)

-- the first call of a list that a word names stands at the word's place among theirs
found_in : (w : List ℕ) (cs : List Command) → find (λ c. same_word w (word_of c)) cs ≡ slice_get cs (place_in w (map word_of cs))
unfolding place_in
found_in w [] = refl
found_in w (c ∷ cs) = go (same_word w (word_of c)) refl (found_in w cs)
  where
    p : ℕ
    p = place_in w (map word_of cs)

    go : (t : Bool) → same_word w (word_of c) ≡ t → find (λ c. same_word w (word_of c)) cs ≡ slice_get cs p → cond (same_word w (word_of c)) (Some c) (find (λ c. same_word w (word_of c)) cs) ≡ slice_get (c ∷ cs) (cond (same_word w (word_of c)) 0 (p + 1))
    go true e h = rw e
    go false e h = rw (e, add-one p) h

pub found : (w : List ℕ) → find (λ c. same_word w (word_of c)) commands ≡ call_of w
unfolding call_of command_at
found w = found_in w commands

-- what `get` of a slice says, as what stands at a place of the list
pub got : {X : Type 0} (xs : List X) (i : ℕ) (r : Option (Bor X)) → IsItemAt xs i r → option_copied r ≡ slice_get xs i
got xs i None h = sym (slice_get_past xs i h.3)
got xs i (Some x) h = sym (slice_get_read xs (length xs) i x.now refl h.3.0 (h.3.1 x.now))

-- ---- numbers

-- each call's number is its place, counted from i
abbrev in_order : ℕ → List Command → Bool
in_order i [] = true
in_order i (c ∷ cs) = eqb (number_of c) i && in_order (suc i) cs

place-number : (cs : List Command) (i : ℕ) → T (in_order i cs) → (k : ℕ) (c : Command) → slice_get cs k ≡ Some c → number_of c ≡ i + k
place-number [] i t k c e = absurd (search rules)
place-number (x ∷ cs) i t zero c e =
    let m : number_of x ≡ i = eqb→eq (number_of x) i (both_left (eqb (number_of x) i) (in_order (suc i) cs) t) in
    let n : x ≡ c = search rules in
    sym (ap number_of n) ∙ m ∙ omega arith
place-number (x ∷ cs) i t (suc k) c e = place-number cs (suc i) (both_right (eqb (number_of x) i) (in_order (suc i) cs) t) k c e ∙ omega arith

-- the call's number, which begins its words, is its place in the table
pub number_at : (n : ℕ) (c : Command) → Some c ≡ command_at n → number_of c ≡ n
unfolding command_at
number_at n c e = place-number commands 0 tt n c (sym e) ∙ omega arith
