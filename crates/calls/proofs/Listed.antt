-- Calls one after the other: a part of the book for each, and what is left to do leads to the same end. Assumes nothing.
use mathlib.Core.Path.{◌≡◌, refl, ap, sym, subst, ◌∙◌}
use mathlib.Core.Bool.{Bool, true, false, cond, ◌||◌, false≢true}
use mathlib.Core.List.{List, [], ◌∷◌, ◌++◌, map, append_assoc}
use Prim.Native.Nat.{ℕ, zero, suc, ◌+◌, ◌-◌, ◌*◌, ◌≤◌, ◌<◌}
use native.Mathlib.Nat.{add-zero, zero-add}
use native.Mathlib.Omega.{arith}
use lib.Dec.{eqb, ltb, leb}
use lib.Ieee.{Float}
use lib.ListN.{length, take, drop, set, length-map, length-drop, take-append-drop}
use lib.Seq.{sets, sets-eq, drop-drop, drop-append-le, length-take-le, take_all}
use borrow.Author.Tests.{ne_eqb, le-ltb, lt-ltb, ltb-false, leb-true, eqb-false}
use Rattle.book.specs.Book.{Entry, Lent, slices, Room, Book, book, puts, places, over, Holds}
use Rattle.book.proofs.Laws.{puts-append, holds, roomy}
use Rattle.machine.specs.Board.{Board}
use Rattle.machine.specs.Call.{Call, Outcome, lent}
use Rattle.machine.specs.Step.{step, run, board_after}
use Rattle.machine.proofs.NumberLaws.{either}
use Rattle.machine.proofs.Numbers.{entries_fit}
use Rattle.state.specs.View.{view}
use Rattle.accuracy.specs.Claim.{joined}
use Rattle.answer.specs.declared.Answer.{Answer}
use Rattle.answer.specs.Promise.{Answers}
use Rattle.encoding.specs.Encoding.{word, word64, has_book, book_call, is_change, change_call, question_call, call_with, call_of, size_of, len_of, book_of}
use Rattle.calls.specs.Taken.{calls_from, calls_of, no_room, taken, answer_words, answers_of, Does, Runs}
use Rattle.encoding.specs.Asked.{asked, asked_with, lent_places}
use Rattle.encoding.specs.declared.Call as Decoded
use Rattle.calls.proofs.Laws.{lent-change, lent-question, lent-asked}

-- ---- the places that a call is lent
lent-book : (op : ℕ) (ns : List ℕ) (room : ℕ) → lent (book_call op ns room) ≡ room
unfolding book_call
lent-book op ns room =
    either (λ (c : Call). lent c ≡ room) (eqb op 3) refl (either (λ (c : Call). lent c ≡ room) (eqb op 4) refl (either (λ (c : Call). lent c ≡ room) (eqb op 5) refl
    (either (λ (c : Call). lent c ≡ room) (eqb op 7) refl (either (λ (c : Call). lent c ≡ room) (eqb op 9) refl refl))))

lent-with : (ns : List ℕ) (room : ℕ) → lent (call_with ns room) ≡ cond (has_book (word ns 0)) room 0
unfolding call_with
lent-with ns room = go (has_book (word ns 0))
  where
    go : (h : Bool) → lent (cond h (book_call (word ns 0) ns room) (cond (is_change (word ns 0)) (change_call (word ns 0) ns) (question_call (word ns 0) ns))) ≡ cond h room 0
    go true = lent-book (word ns 0) ns room
    go false = either (λ (c : Call). lent c ≡ 0) (is_change (word ns 0)) (lent-change ns (word ns 0)) (lent-question ns (word ns 0))

pub lent_of : (ns : List ℕ) → lent (call_of ns) ≡ book_of ns
unfolding book_of
lent_of ns =
    lent-with ns (book_of ns)
    ∙ go (eqb (word ns 0) 3) (eqb (word ns 0) 4) (eqb (word ns 0) 5) (eqb (word ns 0) 7) (eqb (word ns 0) 9) (eqb (word ns 0) 10)
    (word64 ns 10) (word64 ns 7) (word64 ns 3) (word64 ns 7) (word64 ns 4) (word64 ns 4)
  where
    go : (a b c d e f : Bool) (u v w x y z : ℕ)
        → cond (a || (b || (c || (d || (e || f))))) (cond a u (cond b v (cond c w (cond d x (cond e y (cond f z 0)))))) 0 ≡ cond a u (cond b v (cond c w (cond d x (cond e y (cond f z 0)))))
    go true b c d e f u v w x y z = refl
    go false true c d e f u v w x y z = refl
    go false false true d e f u v w x y z = refl
    go false false false true e f u v w x y z = refl
    go false false false false true f u v w x y z = refl
    go false false false false false true u v w x y z = refl
    go false false false false false false u v w x y z = refl

pub book-places : (c : Decoded.Call) (ns : List ℕ) → asked c ≡ call_of ns → lent_places c ≡ book_of ns
book-places c ns e = sym (lent-asked c) ∙ ap lent e ∙ lent_of ns

-- ---- a part of the book
abbrev pub part : ℕ → ℕ → List ℕ → List ℕ
part at end p = take (end - at) (drop at p)

-- the whole, with a part exchanged
abbrev pub whole : ℕ → ℕ → List ℕ → List ℕ → List ℕ
whole at end p q = take at p ++ (q ++ drop (end - at) (drop at p))

part_length : (at end : ℕ) (p : List ℕ) → at ≤ end → end ≤ length p → length (part at end p) ≡ end - at
part_length at end p h g = length-take-le (end - at) (drop at p) (omega (arith, length-drop at p))

-- entries over a part are stores in the whole
whole-over : (xs p : List ℕ) (at end : ℕ) → at ≤ end → end ≤ length p → length xs ≤ end - at → whole at end p (over xs (part at end p)) ≡ sets p at xs
whole-over xs p at end h g n =
    ap (λ (z : List ℕ). take at p ++ z)
    (append_assoc xs (drop (length xs) (part at end p)) (drop (end - at) (drop at p))
    ∙ ap (λ (z : List ℕ). xs ++ z)
    (sym (drop-append-le (length xs) (part at end p) (drop (end - at) (drop at p)) (omega (arith, part_length at end p h g)))
    ∙ ap (drop (length xs)) (take-append-drop (end - at) (drop at p)) ∙ drop-drop (length xs) at p))
    ∙ sym (append_assoc (take at p) xs (drop (at + length xs) p)) ∙ sym (sets-eq xs p at (omega arith))

-- the slices with entries stored from place n on
abbrev stored : Lent → ℕ → List Entry → Lent
stored u n es =
    slices (sets u.pins n (map (λ (e : Entry). e.pin) es)) (sets u.levels n (map (λ (e : Entry). e.level) es)) (sets u.cycles n (map (λ (e : Entry). e.cycle) es))
    (sets u.sources n (map (λ (e : Entry). e.source) es))

puts-is : (u : Lent) (n : ℕ) (es : List Entry) → puts (book u n) es ≡ book (stored u n es) (n + length es)
unfolding puts
puts-is u n [] = ap (book u) (sym (add-zero n))
puts-is u n (e ∷ es) =
    let k : n + 1 ≡ suc n = omega arith in
    let m : suc n + length es ≡ n + suc (length es) = omega arith in
    let v : Lent = slices (set u.pins n e.pin) (set u.levels n e.level) (set u.cycles n e.cycle) (set u.sources n e.source) in
    ap (λ (i : ℕ). puts (book v i) es) k ∙ puts-is v (suc n) es ∙ ap (book (stored u n (e ∷ es))) m

puts-count : (k : Book) (es : List Entry) → (puts k es).count ≡ k.count + length es
puts-count k es = ap (λ (y : Book). y.count) (puts-is (slices k.pins k.levels k.cycles k.sources) k.count es)

-- a part of each slice, and the slices with that part exchanged
abbrev pub cut : ℕ → ℕ → Lent → Lent
cut at end u = slices (part at end u.pins) (part at end u.levels) (part at end u.cycles) (part at end u.sources)

abbrev pub mended : ℕ → ℕ → Lent → Lent → Lent
mended at end u u₁ =
    slices (whole at end u.pins u₁.pins) (whole at end u.levels u₁.levels) (whole at end u.cycles u₁.cycles) (whole at end u.sources u₁.sources)

-- what a part holds, put behind the entries so far
parts-put : (es : List Entry) (u u₁ : Lent) (at end n : ℕ) → at ≤ end → Room end u → length es ≤ end - at → Holds es (cut at end u) u₁ n
    → book (mended at end u u₁) (at + n) ≡ puts (book u at) es
parts-put es u u₁ at end n h f m q =
    ap (λ (v : Lent). book v (at + n)) same ∙ ap (λ (i : ℕ). book (stored u at es) (at + i)) q.count ∙ sym (puts-is u at es)
  where
    laid : (g : Entry → ℕ) (p p₁ : List ℕ) → end ≤ length p → p₁ ≡ over (map g es) (part at end p) → whole at end p p₁ ≡ sets p at (map g es)
    laid g p p₁ x e = ap (whole at end p) e ∙ whole-over (map g es) p at end h x (omega (arith, length-map es g))

    same : mended at end u u₁ ≡ stored u at es
    same = rw (laid (λ (e : Entry). e.pin) u.pins u₁.pins f.0 q.pins, laid (λ (e : Entry). e.level) u.levels u₁.levels f.1 q.levels, laid (λ (e : Entry). e.cycle) u.cycles u₁.cycles f.2 q.cycles, laid (λ (e : Entry). e.source) u.sources u₁.sources f.3 q.sources)

-- ---- one call
module _ (c : Decoded.Call) (b : Board) (u : Lent) (at need : ℕ) (e : need ≡ lent_places c) (f : Room (at + lent_places c) u) where
  pub lent-part : places (cut at (at + need) u) ≡ lent_places c
  lent-part =
      omega (arith, e, part_length at (at + need) u.pins (omega arith) (omega (arith, e, f.0)), part_length at (at + need) u.levels (omega arith) (omega (arith, e, f.1)), part_length at (at + need) u.cycles (omega arith) (omega (arith, e, f.2)), part_length at (at + need) u.sources (omega arith) (omega (arith, e, f.3)))

  pub part-entered : (u₁ : Lent) (n : ℕ) → Holds (step b (asked_with c (places (cut at (at + need) u)))).entries (cut at (at + need) u) u₁ n
      → book (mended at (at + need) u u₁) (at + n) ≡ puts (book u at) (step b (asked c)).entries
  part-entered u₁ n h =
      parts-put (step b (asked c)).entries u u₁ at (at + need) n (omega arith) (omega (arith, e, f.0), omega (arith, e, f.1), omega (arith, e, f.2), omega (arith, e, f.3)) (omega (arith, e, (entries_fit b (asked c)).places, lent-asked c))
      (subst (λ (k : ℕ). Holds (step b (asked_with c k)).entries (cut at (at + need) u) u₁ n) lent-part h)

-- a part of three words exchanged is three stores
pub three-words : (a : List ℕ) (i x y z : ℕ) → i + 3 ≤ length a → whole i (i + 3) a (x ∷ y ∷ z ∷ []) ≡ sets a i (x ∷ y ∷ z ∷ [])
three-words a i x y z h =
    let n : i + 3 - i ≡ 3 = omega arith in
    ap (λ (k : ℕ). take i a ++ ((x ∷ y ∷ z ∷ []) ++ drop k (drop i a))) n
    ∙ ap (λ (l : List ℕ). take i a ++ ((x ∷ y ∷ z ∷ []) ++ l)) (drop-drop 3 i a)
    ∙ sym (append_assoc (take i a) (x ∷ y ∷ z ∷ []) (drop (i + 3) a)) ∙ sym (sets-eq (x ∷ y ∷ z ∷ []) a i h)

pub call-does : (o : Outcome) (r : Answer) (w w₁ : List ℕ) (x x₁ : List Float) (i : ℕ) (a a₁ : List ℕ) (k k₁ : Book)
    → Answers o r w w₁ x x₁ → a₁ ≡ sets a i (r.number ∷ r.value ∷ r.count ∷ []) → k₁ ≡ puts k o.entries
    → Does o (view w₁ x₁) i a a₁ k k₁
call-does o r w w₁ x x₁ i a a₁ k k₁ h e f = record {
  board = h.board;
  answer = e ∙ ap (λ (n : ℕ). sets a i (n ∷ r.value ∷ r.count ∷ [])) h.number ∙ ap (λ (n : ℕ). sets a i (o.number ∷ n ∷ r.count ∷ [])) h.value ∙ ap (λ (n : ℕ). sets a i (o.number ∷ o.value ∷ n ∷ [])) h.count;
  entries = f;
}

pub does-as : (c d : Call) → c ≡ d → (b b₁ : Board) (i : ℕ) (a a₁ : List ℕ) (k k₁ : Book) → Does (step b c) b₁ i a a₁ k k₁ → Does (step b d) b₁ i a a₁ k k₁
does-as c d e b b₁ i a a₁ k k₁ h = subst (λ (x : Call). Does (step b x) b₁ i a a₁ k k₁) e h

-- ---- the words of a call
module _ (ns : List ℕ) where
  pub len-le : len_of ns ≤ length ns
  unfolding len_of
  len-le = go (leb (size_of (word ns 0) ns) (length ns)) refl
    where
      go : (t : Bool) → leb (size_of (word ns 0) ns) (length ns) ≡ t → cond t (size_of (word ns 0) ns) 0 ≤ length ns
      go true e = leb-true (size_of (word ns 0) ns) (length ns) e
      go false e = omega arith

-- a call, with room
pub record Free (len words room need : ℕ) : Type 0 where
  pub some : 1 ≤ len
  pub three : 3 ≤ words
  pub fits : need ≤ room

pub free : (len words room need : ℕ) (s : Bool) → s ≡ (eqb len 0 || no_room words room need) → s ≡ false → Free len words room need
free len words room need s e f = go (eqb len 0) (ltb words 3) (ltb room need) refl refl refl (sym e ∙ f)
  where
    go : (t u v : Bool) → eqb len 0 ≡ t → ltb words 3 ≡ u → ltb room need ≡ v → (t || (u || v)) ≡ false → Free len words room need
    go true u v a b c h = absurd (false≢true (sym h))
    go false true v a b c h = absurd (false≢true (sym h))
    go false false true a b c h = absurd (false≢true (sym h))
    go false false false a b c h = record { some = omega (arith, eqb-false len 0 a); three = ltb-false words 3 b; fits = ltb-false room need c }

-- with room for an answer, the two other tests
pub stops_of : (words room len need : ℕ) (s : Bool) → 3 ≤ words → s ≡ (eqb len 0 || ltb room need) → s ≡ (eqb len 0 || no_room words room need)
stops_of words room len need s h e = rw (le-ltb words 3 h) e

-- places that it does not find, and those that it does
pub no-places : (len room need : ℕ) → room < need → true ≡ (eqb len 0 || ltb room need)
no-places len room need h = rw (lt-ltb room need h) (go (eqb len 0))
  where
    go : (t : Bool) → true ≡ (t || true)
    go true = refl
    go false = refl

pub has-places : (len room need : ℕ) → 0 < len → need ≤ room → false ≡ (eqb len 0 || ltb room need)
has-places len room need l h = rw (ne_eqb len 0 (λ (e : len ≡ 0). omega (arith, e, l)), le-ltb room need h)

-- without it, whatever they say
full : (words room len need : ℕ) → words ≤ 2 → (eqb len 0 || no_room words room need) ≡ true
full words room len need h = rw (lt-ltb words 3 (omega (arith, h))) (go (eqb len 0))
  where
    go : (t : Bool) → (t || true) ≡ true
    go true = refl
    go false = refl

-- ---- the calls that are left
taken-stops : (b : Board) (ns : List ℕ) (n words room : ℕ) → (eqb (len_of ns) 0 || no_room words room (book_of ns)) ≡ true → taken b (calls_from n ns) words room ≡ []
unfolding calls_from taken
taken-stops b ns zero words room h = refl
taken-stops b ns (suc n) words room h = go (eqb (len_of ns) 0) h
  where
    go : (t : Bool) → (t || no_room words room (book_of ns)) ≡ true → taken b (cond t [] (call_of ns ∷ calls_from n (drop (len_of ns) ns))) words room ≡ []
    go true e = refl
    go false e = rw (lent_of ns, e)

taken-goes : (b : Board) (ns : List ℕ) (n words room : ℕ) → (eqb (len_of ns) 0 || no_room words room (book_of ns)) ≡ false
    → taken b (calls_from (suc n) ns) words room
    ≡ call_of ns ∷ taken (step b (call_of ns)).board (calls_from n (drop (len_of ns) ns)) (words - 3) (room - length (step b (call_of ns)).entries)
unfolding calls_from taken
taken-goes b ns n words room h = go (eqb (len_of ns) 0) h
  where
    go : (t : Bool) → (t || no_room words room (book_of ns)) ≡ false
        → taken b (cond t [] (call_of ns ∷ calls_from n (drop (len_of ns) ns))) words room
        ≡ call_of ns ∷ taken (step b (call_of ns)).board (calls_from n (drop (len_of ns) ns)) (words - 3) (room - length (step b (call_of ns)).entries)
    go true e = absurd (false≢true (sym e))
    go false e = rw (lent_of ns, e)

-- ---- the end that calls lead to, so many done
pub record End : Type 0 where
  pub calls : ℕ
  pub board : Board
  pub answers : List ℕ
  pub book : Book

abbrev pub finish : Board → List Call → ℕ → List ℕ → Book → End
finish b cs done a k = record {
  calls = done + length cs;
  board = board_after b cs;
  answers = sets a (done * 3) (answers_of (run b cs));
  book = puts k (joined (run b cs));
}

-- one call done
finish-goes : (b : Board) (c : Call) (cs : List Call) (done : ℕ) (a : List ℕ) (k : Book)
    → finish b (c ∷ cs) done a k ≡ finish (step b c).board cs (done + 1) (sets a (done * 3) (answer_words (step b c))) (puts k (step b c).entries)
unfolding board_after run answers_of joined
finish-goes b c cs done a k =
    let m : done + suc (length cs) ≡ done + 1 + length cs = omega arith in
    let i : suc (suc (suc (done * 3))) ≡ (done + 1) * 3 = omega arith in
    ap (λ (n : ℕ). record { calls = n; board = board_after (step b c).board cs; answers = sets a (done * 3) (answer_words (step b c) ++ answers_of (run (step b c).board cs)); book = puts k ((step b c).entries ++ joined (run (step b c).board cs)) }) m
    ∙ ap (λ (n : ℕ). record { calls = done + 1 + length cs; board = board_after (step b c).board cs; answers = sets (sets a (done * 3) (answer_words (step b c))) n (answers_of (run (step b c).board cs)); book = puts k ((step b c).entries ++ joined (run (step b c).board cs)) }) i
    ∙ ap (λ (y : Book). record { calls = done + 1 + length cs; board = board_after (step b c).board cs; answers = sets (sets a (done * 3) (answer_words (step b c))) ((done + 1) * 3) (answers_of (run (step b c).board cs)); book = y })
    (puts-append k (step b c).entries (joined (run (step b c).board cs)))

-- the words from `at` on, as a part of all
abbrev pub rest : ℕ → List ℕ → List ℕ
rest at ns = take (length ns - at) (drop at ns)

rest-is : (at : ℕ) (ns : List ℕ) → rest at ns ≡ drop at ns
rest-is at ns = take_all (length ns - at) (drop at ns) (omega (arith, length-drop at ns))

rest-length : (at : ℕ) (ns : List ℕ) → length (rest at ns) ≡ length ns - at
rest-length at ns = ap length (rest-is at ns) ∙ length-drop at ns

-- at word `at`, so many done: what is left leads to the same end
pub record Going (ns : List ℕ) (room : ℕ) (b₀ b : Board) (a₀ a : List ℕ) (k₀ k : Book) (at done : ℕ) : Type 0 where
  pub same : finish b₀ (taken b₀ (calls_of ns) (length a₀) room) 0 a₀ k₀ ≡ finish b (taken b (calls_from (length ns - done) (rest at ns)) (length a₀ - done * 3) (room - k.count)) done a k
  pub few : done ≤ at
  pub within : at ≤ length ns
  pub words : done * 3 ≤ length a₀
  pub places : k.count ≤ room

module _ (ns : List ℕ) (room : ℕ) (b₀ b : Board) (a₀ a : List ℕ) (k₀ k : Book) (at done : ℕ) (q : Going ns room b₀ b a₀ a k₀ k at done)
    (len need : ℕ) (e : len ≡ len_of (rest at ns)) (f : need ≡ book_of (rest at ns)) (s : Bool) (g : s ≡ (eqb len 0 || no_room (length a₀ - done * 3) (room - k.count) need)) where
  test : s ≡ (eqb (len_of (rest at ns)) 0 || no_room (length a₀ - done * 3) (room - k.count) (book_of (rest at ns)))
  test = g ∙ ap (λ (n : ℕ). eqb n 0 || no_room (length a₀ - done * 3) (room - k.count) need) e ∙ ap (λ (n : ℕ). eqb (len_of (rest at ns)) 0 || no_room (length a₀ - done * 3) (room - k.count) n) f

  -- what the next call finds
  pub next-free : s ≡ false → Free len (length a₀ - done * 3) (room - k.count) need
  next-free o = free len (length a₀ - done * 3) (room - k.count) need s g o

  pub next-within : at + len ≤ length ns
  next-within = omega (arith, len-le (rest at ns), rest-length at ns, q.within)

  pub next_fits : (n : ℕ) → s ≡ false → n ≡ length (step b (call_of (rest at ns))).entries → k.count + n ≤ room
  next_fits n o c = omega (arith, (entries_fit b (call_of (rest at ns))).places, lent_of (rest at ns), (next-free o).fits, q.places)

  pub goes_on : s ≡ false → (b₁ : Board) (a₁ : List ℕ) (k₁ : Book) → Does (step b (call_of (rest at ns))) b₁ (done * 3) a a₁ k k₁
      → Going ns room b₀ b₁ a₀ a₁ k₀ k₁ (at + len) (done + 1)
  goes_on o b₁ a₁ k₁ d =
      let c = call_of (rest at ns) in
      let p = next-free o in
      let z : k₁.count ≡ k.count + length (step b c).entries = ap (λ (y : Book). y.count) d.entries ∙ puts-count k (step b c).entries in
      let u : length ns - done ≡ suc (length ns - (done + 1)) = omega (arith, p.some, q.few, next-within) in
      let v : length a₀ - done * 3 - 3 ≡ length a₀ - (done + 1) * 3 = omega arith in
      let y : room - k.count - length (step b c).entries ≡ room - k₁.count = omega (arith, z) in
      let m : drop (len_of (rest at ns)) (rest at ns) ≡ rest (at + len) ns = ap (λ (n : ℕ). drop n (rest at ns)) (sym e) ∙ ap (drop len) (rest-is at ns) ∙ drop-drop len at ns ∙ sym (rest-is (at + len) ns) in
      record {
        same =
            q.same
            ∙ ap (λ (n : ℕ). finish b (taken b (calls_from n (rest at ns)) (length a₀ - done * 3) (room - k.count)) done a k) u
            ∙ ap (λ (cs : List Call). finish b cs done a k) (taken-goes b (rest at ns) (length ns - (done + 1)) (length a₀ - done * 3) (room - k.count) (sym test ∙ o))
            ∙ finish-goes b c (taken (step b c).board (calls_from (length ns - (done + 1)) (drop (len_of (rest at ns)) (rest at ns))) (length a₀ - done * 3 - 3) (room - k.count - length (step b c).entries)) done a k
            ∙ ap (λ (l : List ℕ). finish (step b c).board (taken (step b c).board (calls_from (length ns - (done + 1)) l) (length a₀ - done * 3 - 3) (room - k.count - length (step b c).entries)) (done + 1) (sets a (done * 3) (answer_words (step b c))) (puts k (step b c).entries)) m
            ∙ ap (λ (n : ℕ). finish (step b c).board (taken (step b c).board (calls_from (length ns - (done + 1)) (rest (at + len) ns)) n (room - k.count - length (step b c).entries)) (done + 1) (sets a (done * 3) (answer_words (step b c))) (puts k (step b c).entries)) v
            ∙ ap (λ (n : ℕ). finish (step b c).board (taken (step b c).board (calls_from (length ns - (done + 1)) (rest (at + len) ns)) (length a₀ - (done + 1) * 3) n) (done + 1) (sets a (done * 3) (answer_words (step b c))) (puts k (step b c).entries)) y
            ∙ ap (λ (n : Board). finish n (taken n (calls_from (length ns - (done + 1)) (rest (at + len) ns)) (length a₀ - (done + 1) * 3) (room - k₁.count)) (done + 1) (sets a (done * 3) (answer_words (step b c))) (puts k (step b c).entries)) (sym d.board)
            ∙ ap (λ (l : List ℕ). finish b₁ (taken b₁ (calls_from (length ns - (done + 1)) (rest (at + len) ns)) (length a₀ - (done + 1) * 3) (room - k₁.count)) (done + 1) l (puts k (step b c).entries)) (sym d.answer)
            ∙ ap (λ (n : Book). finish b₁ (taken b₁ (calls_from (length ns - (done + 1)) (rest (at + len) ns)) (length a₀ - (done + 1) * 3) (room - k₁.count)) (done + 1) a₁ n) (sym d.entries);
        few = omega (arith, p.some, q.few);
        within = next-within;
        words = omega (arith, p.three, q.words);
        places = omega (arith, z, next_fits (length (step b c).entries) o refl);
      }

  -- ---- the end
  pub stopped : s ≡ true → finish b₀ (taken b₀ (calls_of ns) (length a₀) room) 0 a₀ k₀ ≡ finish b [] done a k
  stopped o = q.same ∙ ap (λ (cs : List Call). finish b cs done a k) (taken-stops b (rest at ns) (length ns - done) (length a₀ - done * 3) (room - k.count) (sym test ∙ o))

pub filled_up : (ns : List ℕ) (room : ℕ) (b₀ b : Board) (a₀ a : List ℕ) (k₀ k : Book) (at done : ℕ) → Going ns room b₀ b a₀ a k₀ k at done
    → length a₀ - done * 3 ≤ 2 → finish b₀ (taken b₀ (calls_of ns) (length a₀) room) 0 a₀ k₀ ≡ finish b [] done a k
filled_up ns room b₀ b a₀ a k₀ k at done q h =
    q.same ∙ ap (λ (cs : List Call). finish b cs done a k) (taken-stops b (rest at ns) (length ns - done) (length a₀ - done * 3) (room - k.count) (full (length a₀ - done * 3) (room - k.count) (len_of (rest at ns)) (book_of (rest at ns)) h))

answers-length : (b : Board) (cs : List Call) → length (answers_of (run b cs)) ≡ length cs * 3
unfolding run answers_of
answers-length b [] = refl
answers-length b (c ∷ cs) =
    let h : length (answers_of (run (step b c).board cs)) ≡ length cs * 3 = answers-length (step b c).board cs in
    omega arith

-- the end as the contract says it
pub ends : (b₀ b : Board) (cs : List Call) (a₀ a : List ℕ) (u₀ u : Lent) (done n : ℕ) → finish b₀ cs 0 a₀ (book u₀ 0) ≡ finish b [] done a (book u n)
    → done * 3 ≤ length a₀ → Room n u₀ → Runs b₀ cs b (record { calls = done; entries = n }) a₀ a u₀ u
unfolding board_after run answers_of joined puts
ends b₀ b cs a₀ a u₀ u done n h w f =
    let k : 0 + length cs ≡ done + 0 = ap (λ (e : End). e.calls) h in
    let m : done ≡ length cs = omega arith in
    let j : length (answers_of (run b₀ cs)) ≤ length a₀ = omega (arith, answers-length b₀ cs) in
    record {
      calls = m;
      board = sym (ap (λ (e : End). e.board) h);
      answers = sym (ap (λ (e : End). e.answers) h) ∙ sets-eq (answers_of (run b₀ cs)) a₀ 0 (omega arith) ∙ ap (λ (i : ℕ). answers_of (run b₀ cs) ++ drop i a₀) (zero-add (length (answers_of (run b₀ cs))));
      entries = holds (joined (run b₀ cs)) u₀ u n (sym (ap (λ (e : End). e.book) h)) f;
    }

pub room-ends : (ns : List ℕ) (b₀ b : Board) (a₀ a : List ℕ) (u₀ u : Lent) (done n room : ℕ) → room ≡ places u₀
    → finish b₀ (taken b₀ (calls_of ns) (length a₀) room) 0 a₀ (book u₀ 0) ≡ finish b [] done a (book u n) → done * 3 ≤ length a₀ → n ≤ room
    → Runs b₀ (taken b₀ (calls_of ns) (length a₀) (places u₀)) b (record { calls = done; entries = n }) a₀ a u₀ u
room-ends ns b₀ b a₀ a u₀ u done n room e h w x =
    subst (λ (k : ℕ). Runs b₀ (taken b₀ (calls_of ns) (length a₀) k) b (record { calls = done; entries = n }) a₀ a u₀ u) e
    (ends b₀ b (taken b₀ (calls_of ns) (length a₀) room) a₀ a u₀ u done n h w (roomy u₀ n room (omega (arith, e)) x))

-- the same where every place for an answer is used
pub ends-full : (ns : List ℕ) (room : ℕ) (b₀ b : Board) (a₀ a : List ℕ) (u₀ u : Lent) (at done n m : ℕ) → Going ns room b₀ b a₀ a (book u₀ 0) (book u n) at done
    → done ≡ m → length a₀ - done * 3 ≤ 2 → room ≡ places u₀
    → Runs b₀ (taken b₀ (calls_of ns) (length a₀) (places u₀)) b (record { calls = m; entries = n }) a₀ a u₀ u
ends-full ns room b₀ b a₀ a u₀ u at done n m q e h r =
    subst (λ (k : ℕ). Runs b₀ (taken b₀ (calls_of ns) (length a₀) (places u₀)) b (record { calls = k; entries = n }) a₀ a u₀ u) e
    (room-ends ns b₀ b a₀ a u₀ u done n room r (filled_up ns room b₀ b a₀ a (book u₀ 0) (book u n) at done q h) q.words q.places)
