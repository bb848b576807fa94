-- The copies of blocks of words, one word at a time. Assumes nothing.
use mathlib.Core.Path.{◌≡◌, ap, sym, subst, ◌∙◌}
use mathlib.Core.List.{List, [], append-nil}
use Prim.Native.Nat.{ℕ, suc, ◌+◌, ◌<◌, ◌≤◌}
use native.Mathlib.Nat.{zero-add}
use native.Mathlib.Numerals.{add-one}
use native.Mathlib.Omega.{arith}
use lib.ListN.{length, get_or, set, take, drop, length-drop, drop_of_length-le}
use lib.Seq.{get_or-drop, paste, paste-suc}
use Rattle.state.specs.Parts.{front}
use Rattle.state.proofs.Cut.{front-take}

pub get-step : (w b₀ b : List ℕ) (at j : ℕ) → length w ≡ 5276 → at + length b₀ ≤ 5276 → j < length b₀ → b ≡ paste b₀ 0 (drop at w) j
    → set b j (get_or w (at + j) 0) ≡ paste b₀ 0 (drop at w) (j + 1)
get-step w b₀ b at j l h k e =
    let z : 0 + j ≡ j = zero-add j in
    let g : get_or (drop at w) j 0 ≡ get_or w (at + j) 0 = get_or-drop at w j 0 in
    rw (e, add-one j, ← g)
    (subst (λ (x : ℕ). set (paste b₀ 0 (drop at w) j) x (get_or (drop at w) j 0) ≡ paste b₀ 0 (drop at w) (suc j)) z
    (paste-suc b₀ 0 (drop at w) j 0 (omega arith) (omega (arith, length-drop at w))))

pub get-done : (w b₀ b : List ℕ) (at j : ℕ) → length w ≡ 5276 → at + length b₀ ≤ 5276 → length b₀ ≤ j → j ≤ length b₀ → b ≡ paste b₀ 0 (drop at w) j
    → b ≡ front 0 (length b₀) (drop at w)
get-done w b₀ b at j l m h k e =
    let z : j ≡ length b₀ = omega arith in
    let end : drop (0 + length b₀) b₀ ≡ [] = drop_of_length-le b₀ {i = 0 + length b₀} (omega arith) in
    e
    ∙ ap (λ (n : ℕ). paste b₀ 0 (drop at w) n) z
    ∙ rw end (append-nil (take (length b₀) (drop at w)))
    ∙ sym (front-take 0 (length b₀) (drop at w) (omega (arith, length-drop at w)))

pub put_step : (w₀ w b : List ℕ) (at j : ℕ) → length w₀ ≡ 5276 → at + length b ≤ 5276 → j < length b → w ≡ paste w₀ at b j
    → set w (at + j) (get_or b j 0) ≡ paste w₀ at b (j + 1)
put_step w₀ w b at j l h k e = rw (e, add-one j) (paste-suc w₀ at b j 0 (omega arith) (omega arith))

pub put-done : (w₀ w b : List ℕ) (at j : ℕ) → length b ≤ j → j ≤ length b → w ≡ paste w₀ at b j → w ≡ paste w₀ at b (length b)
put-done w₀ w b at j h k e = let z : j ≡ length b = omega arith in rw z at e
