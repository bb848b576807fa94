-- Every call is its refusals, in order, and then what it does: the laws behind Numbers. Assumes nothing.
use Rattle.std.specs.Option.{is_some, unwrap_or}
use mathlib.Core.Path.{◌≡◌, refl, ap, sym, ◌∙◌}
use mathlib.Core.Bool.{Bool, true, false, cond, not, ◌&&◌, ◌||◌}
use mathlib.Core.List.{List, [], ◌∷◌}
use mathlib.Core.Logic.{◌⊎◌, inl, inr}
use Prim.Native.Nat.{ℕ, zero, suc, ◌+◌, ◌≤◌, ◌<◌}
use native.Mathlib.Omega.{arith}
use lib.Dec.{eqb, leb, lit≤}
use lib.ListN.{length, set, length-append}
use borrow.Author.Tests.{ltb-false, eqb-true, eqb-false, eq-eqb, leb-false, not-true, not-false}
use Rattle.regs.specs.declared.Written.{Written}
use Rattle.tim.specs.Next.{next_event}
use Rattle.tim.specs.Change.{reset_state}
use Rattle.nvic.specs.Nvic as N
use Rattle.std.specs.Prelude.{Option}
use Rattle.gpio.specs.declared.Edge.{Edge}
use Rattle.book.specs.Book.{Entry, entry_of}
use Rattle.machine.specs.Board.{Board, timer_at, with_clocks, with_nvic, with_last, fresh_board}
use Rattle.machine.specs.Sys as Sys
use Rattle.machine.specs.Deliver.{divider_of, delivered, most_events, due_by}
use Rattle.machine.specs.Call.{Setup, Question, reading, peeking, booked, next, level, volts, line, time, why, BookCall, pin_setting, outside_drive, pin_reset, writing, resetting, delivery, Call, set_up, clock_tree, enable, clear_pending, ask, lend, is_delivery, is_why, lent, book_cycle, Outcome, refused, served, is_refusal}
use Rattle.machine.specs.Step.{step, cycle_astray, within_limits, tree_set, moved, cfg_of, pins_reset, changes_of, clock_on, written, followed, timer_reset, delivered_to, asking, answering}
use Rattle.machine.specs.Refusals.{Refusal, ◌when◌, limits, no_such_index, of_question, of_book_call, refusals, order, in_order, among, rank, applies, holds, first, ending, most, last_after}
use Rattle.machine.specs.Why.{is_behind}
use Rattle.machine.specs.Demand1.{Every, StampedAt}
use Rattle.machine.proofs.TableLaws.{positive-same, limits-same, tree-same, away-same, taken-same}
use Rattle.machine.proofs.DeliverLaws.{Delivery, run-law, every-none, every_append, entry-stamped, entries-stamped, entry-few, entries-few}

-- ---- refusals in order, then what follows

unfoldable pub given : List Refusal → Board → Outcome → Outcome
given [] b o = o
given ((n when t) ∷ rs) b o = cond t (refused n b) (given rs b o)

-- either the first number that applies is given, a refusal, or nothing applies
pub data Verdict (rs : List Refusal) (b : Board) (o : Outcome) : Type 0 where
  refuses : (n : ℕ) → 1 ≤ n → is_refusal n ≡ true → first rs ≡ n → applies rs ≡ true → given rs b o ≡ refused n b → Verdict rs b o
  passes : first rs ≡ 0 → applies rs ≡ false → given rs b o ≡ o → Verdict rs b o

pub both : (a b : Bool) → (a && b) ≡ true → (a ≡ true) × (b ≡ true)
both true b h = (refl, h)
both false b h = (h, cc)

-- ---- refusals are neither 0 nor 8

pub refusal-positive : (n : ℕ) → is_refusal n ≡ true → 1 ≤ n
refusal-positive n h = go (eqb n 0) refl h
  where
    go : (t : Bool) → eqb n 0 ≡ t → not (t || eqb n 8) ≡ true → 1 ≤ n
    go true e h = let z : ◌≡◌ {A = ℕ} 0 1 = cc in absurd (omega arith)
    go false e h = let z = eqb-false n 0 e in omega arith

pub refusal-nonzero : (n : ℕ) → is_refusal n ≡ true → n ≡ 0 → ⊥
refusal-nonzero n h e = omega (arith, refusal-positive n h)

pub no_both : (t : Bool) → t ≡ true → t ≡ false → ⊥
no_both t p q = let z : ◌≡◌ {A = ℕ} 0 1 = cc in omega arith

-- ---- a list in order

-- each number of an order is a refusal
unfoldable pub all_refusals : List ℕ → Bool
all_refusals [] = true
all_refusals (o ∷ os) = is_refusal o && all_refusals os

-- a list in order: its first number is a refusal, and the rest is in order
pub record Behind (n : ℕ) (rs : List Refusal) : Type 0 where
  pub refusal : is_refusal n ≡ true
  pub rest : List ℕ
  pub refusals : all_refusals rest ≡ true
  pub ordered : in_order rest rs ≡ true

pub behind : (os : List ℕ) (n : ℕ) (t : Bool) (rs : List Refusal) → all_refusals os ≡ true → in_order os ((n when t) ∷ rs) ≡ true → Behind n rs
unfolding in_order all_refusals
behind [] n t rs a h = absurd (no_both false h refl)
behind (o ∷ os) n t rs a h = go (eqb o n) refl h (both (is_refusal o) (all_refusals os) a) (behind os n t rs)
  where
    go : (e : Bool) → eqb o n ≡ e → cond e (in_order os rs) (in_order os ((n when t) ∷ rs)) ≡ true → (is_refusal o ≡ true) × (all_refusals os ≡ true)
        → (all_refusals os ≡ true → in_order os ((n when t) ∷ rs) ≡ true → Behind n rs) → Behind n rs
    go true e h a i = record { refusal = rw (sym (eqb-true o n e)) a.0; rest = os; refusals = a.1; ordered = h }
    go false e h a i = i a.1 h

pub verdict : (os : List ℕ) (rs : List Refusal) (b : Board) (o : Outcome) → all_refusals os ≡ true → in_order os rs ≡ true → Verdict rs b o
unfolding given first applies
verdict os [] b o a h = passes refl refl refl
verdict os ((n when true) ∷ rs) b o a h = let r = behind os n true rs a h in refuses n (refusal-positive n r.refusal) r.refusal refl refl refl
verdict os ((n when false) ∷ rs) b o a h = let r = behind os n false rs a h in on (verdict r.rest rs b o r.refusals r.ordered)
  where
    on : Verdict rs b o → Verdict ((n when false) ∷ rs) b o
    on (refuses m l u e a g) = refuses m l u e a g
    on (passes e a g) = passes e a g

pub holds-applies : (n : ℕ) (rs : List Refusal) → holds n rs ≡ true → applies rs ≡ true
unfolding holds applies
holds-applies n [] h = h
holds-applies n ((m when true) ∷ rs) h = refl
holds-applies n ((m when false) ∷ rs) h = holds-applies n rs h

pub first_holds : (rs : List Refusal) → applies rs ≡ true → holds (first rs) rs ≡ true
unfolding holds applies first
first_holds [] h = h
first_holds ((m when true) ∷ rs) h = rw (eq-eqb m m refl) refl
first_holds ((m when false) ∷ rs) h = first_holds rs h

-- ---- the first that applies stands before every other that does

-- no number twice
unfoldable pub once : List ℕ → Bool
once [] = true
once (o ∷ os) = not (among o os) && once os

same_number : (a b n : ℕ) → eqb a b ≡ true → eqb a n ≡ eqb b n
same_number a b n e = ap (λ (k : ℕ). eqb k n) (eqb-true a b e)

-- a number of a list in order is one of the order
pub held-among : (os : List ℕ) (n : ℕ) (rs : List Refusal) → in_order os rs ≡ true → holds n rs ≡ true → among n os ≡ true
unfolding in_order holds among
held-among os n [] r h = absurd (no_both false h refl)
held-among [] n (x ∷ rs) r h = absurd (no_both false r refl)
held-among (o ∷ os) n ((m when t) ∷ rs) r h =
    go (eqb o m) refl (eqb o n) refl r h (held-among os n rs) (held-among os n ((m when t) ∷ rs))
  where
    rest : (t e : Bool) → e ≡ false → ((t && e) || holds n rs) ≡ true → holds n rs ≡ true
    rest true e z h = rw z at h
    rest false e z h = h

    go : (e : Bool) → eqb o m ≡ e → (f : Bool) → eqb o n ≡ f → cond e (in_order os rs) (in_order os ((m when t) ∷ rs)) ≡ true
        → ((t && eqb m n) || holds n rs) ≡ true → (in_order os rs ≡ true → holds n rs ≡ true → among n os ≡ true)
        → (in_order os ((m when t) ∷ rs) ≡ true → holds n ((m when t) ∷ rs) ≡ true → among n os ≡ true) → (f || among n os) ≡ true
    go e p true q r h i j = refl
    go true p false q r h i j = i r (rest t (eqb m n) (sym (same_number o m n p) ∙ q) h)
    go false p false q r h i j = j r h

-- a number further on in the order stands behind
further : (o n f : ℕ) (os : List ℕ) → once (o ∷ os) ≡ true → among n os ≡ true → rank os f ≤ rank os n → rank (o ∷ os) f ≤ rank (o ∷ os) n
unfolding once rank
further o n f os a h l = go (eqb o n) refl (eqb o f) (not-true (among o os) (both (not (among o os)) (once os) a).0)
  where
    go : (e : Bool) → eqb o n ≡ e → (g : Bool) → among o os ≡ false → cond g 0 (suc (rank os f)) ≤ cond e 0 (suc (rank os n))
    go true e g z = absurd (no_both (among n os) h (ap (λ (k : ℕ). among k os) (sym (eqb-true o n e)) ∙ z))
    go false e true z = omega arith
    go false e false z = omega arith

pub first-before : (os : List ℕ) (n : ℕ) (rs : List Refusal) → once os ≡ true → in_order os rs ≡ true → holds n rs ≡ true
    → rank os (first rs) ≤ rank os n
unfolding once in_order holds first rank
first-before os n [] a r h = absurd (no_both false h refl)
first-before [] n (x ∷ rs) a r h = absurd (no_both false r refl)
first-before (o ∷ os) n ((m when true) ∷ rs) a r h = go (eqb o m) refl r (first-before os n ((m when true) ∷ rs) (both (not (among o os)) (once os) a).1)
  where
    go : (e : Bool) → eqb o m ≡ e → cond e (in_order os rs) (in_order os ((m when true) ∷ rs)) ≡ true
        → (in_order os ((m when true) ∷ rs) ≡ true → holds n ((m when true) ∷ rs) ≡ true → rank os m ≤ rank os n)
        → cond (eqb o m) 0 (suc (rank os m)) ≤ cond (eqb o n) 0 (suc (rank os n))
    go true e r i = rw e (omega arith)
    go false e r i = further o n m os a (held-among os n ((m when true) ∷ rs) r h) (i r h)
first-before (o ∷ os) n ((m when false) ∷ rs) a r h =
    go (eqb o m) refl r (first-before os n rs (both (not (among o os)) (once os) a).1) (first-before os n ((m when false) ∷ rs) (both (not (among o os)) (once os) a).1)
  where
    go : (e : Bool) → eqb o m ≡ e → cond e (in_order os rs) (in_order os ((m when false) ∷ rs)) ≡ true
        → (in_order os rs ≡ true → holds n rs ≡ true → rank os (first rs) ≤ rank os n)
        → (in_order os ((m when false) ∷ rs) ≡ true → holds n ((m when false) ∷ rs) ≡ true → rank os (first rs) ≤ rank os n)
        → cond (eqb o (first rs)) 0 (suc (rank os (first rs))) ≤ cond (eqb o n) 0 (suc (rank os n))
    go true e r i j = further o n (first rs) os a (held-among os n rs r h) (i r h)
    go false e r i j = further o n (first rs) os a (held-among os n ((m when false) ∷ rs) r h) (j r h)

pub order-once : once order ≡ true
unfolding once among
order-once = refl

-- ---- what each call does where nothing refuses it

abbrev pub book_performed : Board → BookCall → ℕ → ℕ → Outcome
book_performed b (pin_setting pin mode open_drain out pullup pulldown function) cycle places =
    moved b cycle (Sys.set_pin b.pads pin (cfg_of mode open_drain out pullup pulldown) function)
book_performed b (outside_drive pin e) cycle places = moved b cycle (Sys.drive_pin b.pads pin e)
book_performed b pin_reset cycle places = pins_reset b cycle
book_performed b (writing timer offset size value) cycle places =
    cond (clock_on b (timer_at b timer)) (followed b timer cycle (written b (timer_at b timer) offset size value cycle)) (served 0 (with_last b cycle))
book_performed b (resetting timer) cycle places = timer_reset b timer cycle
book_performed b (delivery timer) cycle places = delivered_to b timer cycle places

unfoldable pub performed : Board → Call → Outcome
performed b (set_up s) = served 0 (fresh_board s.hz s.vcc s.pins s.lines s.timers s.table)
performed b (clock_tree t cycle) = served 0 (with_last (tree_set b t cycle) cycle)
performed b (enable word value) =
    served 0 (with_clocks b (record { tree = b.clocks.tree; clock = b.clocks.clock; enr = set b.clocks.enr word value }))
performed b (clear_pending irq) = served 0 (with_nvic b (N.clear_pending b.nvic irq))
performed b (ask q) = answering b q
performed b (lend k cycle places) = book_performed b k cycle places

-- a gate before a test is a test of both
gated : {A : Type 0} (on test : Bool) (r f s : A) → cond on (cond test r f) s ≡ cond (on && test) r (cond on f s)
gated true test r f s = refl
gated false test r f s = refl

asked-given : (b : Board) (q : Question) (o : Outcome) → asking b q o ≡ given (of_question b q) b o
unfolding given
asked-given b (reading timer offset size cycle) o = refl
asked-given b (peeking timer offset cycle) o = refl
asked-given b (booked timer) o = refl
asked-given b next o = refl
asked-given b (level pin) o = refl
asked-given b (volts pin) o = refl
asked-given b (line irq) o = refl
asked-given b (time cycle) o = refl
asked-given b (why pin cycle) o = refl

-- equal tests refuse alike
by-test : (n : ℕ) (b : Board) (o : Outcome) {t u : Bool} → t ≡ u → cond (not t) (refused n b) o ≡ cond (not u) (refused n b) o
by-test n b o e = rw e refl

by_tests_lem : (n m : ℕ) (b : Board) (o : Outcome) {t u v w : Bool} → t ≡ u → v ≡ w
    → cond (not t) (refused n b) (cond (not v) (refused m b) o) ≡ cond (not u) (refused n b) (cond (not w) (refused m b) o)
by_tests_lem n m b o e f = rw (e, f) refl

by-third : (n m k : ℕ) (b : Board) (o : Outcome) (t u : Bool) {v w : Bool} → v ≡ w
    → cond t (refused n b) (cond u (refused m b) (cond v (refused k b) o)) ≡ cond t (refused n b) (cond u (refused m b) (cond w (refused k b) o))
by-third n m k b o t u e = rw e refl

pub step_given : (b : Board) (c : Call) → step b c ≡ given (refusals b c) b (performed b c)
unfolding step given refusals performed
step_given b (set_up s) = by_tests_lem 1 4 b _ (sym (limits-same s)) (sym (positive-same s.hz))
step_given b (clock_tree t cycle) = by-test 4 b _ (sym (tree-same t))
step_given b (enable word value) = refl
step_given b (clear_pending irq) = refl
step_given b (ask q) = asked-given b q (answering b q)
step_given b (lend (pin_setting pin mode open_drain out pullup pulldown function) cycle places) =
    by-third 2 5 11 b _ (leb b.counts.pins pin) (cycle_astray b cycle) (sym (taken-same b pin mode open_drain out pullup pulldown function))
step_given b (lend (outside_drive pin e) cycle places) = refl
step_given b (lend pin_reset cycle places) = refl
step_given b (lend (writing timer offset size value) cycle places) = rw (gated, away-same) refl
step_given b (lend (resetting timer) cycle places) = refl
step_given b (lend (delivery timer) cycle places) = refl

asked-order : (b : Board) (q : Question) → in_order order (of_question b q) ≡ true
unfolding in_order
asked-order b (reading timer offset size cycle) = refl
asked-order b (peeking timer offset cycle) = refl
asked-order b (booked timer) = refl
asked-order b next = refl
asked-order b (level pin) = refl
asked-order b (volts pin) = refl
asked-order b (line irq) = refl
asked-order b (time cycle) = refl
asked-order b (why pin cycle) = refl

pub in_order_lem : (b : Board) (c : Call) → in_order order (refusals b c) ≡ true
unfolding in_order refusals
in_order_lem b (set_up s) = refl
in_order_lem b (clock_tree t cycle) = refl
in_order_lem b (enable word value) = refl
in_order_lem b (clear_pending irq) = refl
in_order_lem b (ask q) = asked-order b q
in_order_lem b (lend (pin_setting pin mode open_drain out pullup pulldown function) cycle places) = refl
in_order_lem b (lend (outside_drive pin e) cycle places) = refl
in_order_lem b (lend pin_reset cycle places) = refl
in_order_lem b (lend (writing timer offset size value) cycle places) = refl
in_order_lem b (lend (resetting timer) cycle places) = refl
in_order_lem b (lend (delivery timer) cycle places) = refl

pub order-refuses : all_refusals order ≡ true
unfolding all_refusals
order-refuses = refl

pub answered : (b : Board) (c : Call) → Verdict (refusals b c) b (performed b c)
answered b c = verdict order (refusals b c) b (performed b c) order-refuses (in_order_lem b c)

-- a query leaves the board, refused or served
pub asked-board : (b : Board) (q : Question) → (step b (ask q)).board ≡ b
unfolding performed
asked-board b q = go (answered b (ask q))
  where
    go : Verdict (refusals b (ask q)) b (performed b (ask q)) → (step b (ask q)).board ≡ b
    go (refuses n l u f a g) = ap (λ (o : Outcome). o.board) (step_given b (ask q) ∙ g)
    go (passes f a g) = ap (λ (o : Outcome). o.board) (step_given b (ask q) ∙ g)

-- none of a list in order applies: what follows is given
pub passing : (rs : List Refusal) (b : Board) (o : Outcome) → in_order order rs ≡ true → first rs ≡ 0 → given rs b o ≡ o
passing rs b o h z = go (verdict order rs b o order-refuses h)
  where
    go : Verdict rs b o → given rs b o ≡ o
    go (refuses n l u f a g) = absurd (omega (arith, sym f ∙ z))
    go (passes f a g) = g

-- ---- what holds of each

-- a property of both holds of either
pub either : {A : Type 0} (P : A → Type 0) (b : Bool) {x y : A} → P x → P y → P (cond b x y)
either P true p q = p
either P false p q = q

pub delivered-law : (b : Board) (timer cycle places : ℕ)
    → Delivery most_events cycle (divider_of b (timer_at b timer)) places (timer_at b timer) b.pads (delivered b timer cycle places)
unfolding delivered
delivered-law b timer cycle places = run-law most_events cycle (divider_of b (timer_at b timer)) places (timer_at b timer) b.pads

pub performed-number : (b : Board) (c : Call) → (performed b c).number ≡ ending b c
unfolding performed ending followed timer_reset delivered_to
performed-number b (set_up s) = refl
performed-number b (clock_tree t cycle) = refl
performed-number b (enable word value) = refl
performed-number b (clear_pending irq) = refl
performed-number b (ask q) = refl
performed-number b (lend (pin_setting pin mode open_drain out pullup pulldown function) cycle places) = refl
performed-number b (lend (outside_drive pin e) cycle places) = refl
performed-number b (lend pin_reset cycle places) = refl
performed-number b (lend (writing timer offset size value) cycle places) =
    either (λ (o : Outcome). o.number ≡ 0) (clock_on b (timer_at b timer)) refl refl
performed-number b (lend (resetting timer) cycle places) = refl
performed-number b (lend (delivery timer) cycle places) = (delivered-law b timer cycle places).answer

eight-or-none : (d t : Bool) → t ≡ true → (◌≡◌ {A = ℕ} (cond d 8 0) 0) ⊎ ((◌≡◌ {A = ℕ} (cond d 8 0) 8) × (t ≡ true))
eight-or-none true t h = inr (refl, h)
eight-or-none false t h = inl refl

ending-asked : (b : Board) (q : Question) → (ending b (ask q) ≡ 0) ⊎ ((ending b (ask q) ≡ 8) × ((is_delivery (ask q) || is_why (ask q)) ≡ true))
unfolding ending
ending-asked b (reading timer offset size cycle) = inl refl
ending-asked b (peeking timer offset cycle) = inl refl
ending-asked b (booked timer) = inl refl
ending-asked b next = inl refl
ending-asked b (level pin) = inl refl
ending-asked b (volts pin) = inl refl
ending-asked b (line irq) = inl refl
ending-asked b (time cycle) = inl refl
ending-asked b (why pin cycle) = eight-or-none (is_behind b pin cycle) true refl

pub ending-cases : (b : Board) (c : Call) → (ending b c ≡ 0) ⊎ ((ending b c ≡ 8) × ((is_delivery c || is_why c) ≡ true))
unfolding ending
ending-cases b (set_up s) = inl refl
ending-cases b (clock_tree t cycle) = inl refl
ending-cases b (enable word value) = inl refl
ending-cases b (clear_pending irq) = inl refl
ending-cases b (ask q) = ending-asked b q
ending-cases b (lend (pin_setting pin mode open_drain out pullup pulldown function) cycle places) = inl refl
ending-cases b (lend (outside_drive pin e) cycle places) = inl refl
ending-cases b (lend pin_reset cycle places) = inl refl
ending-cases b (lend (writing timer offset size value) cycle places) = inl refl
ending-cases b (lend (resetting timer) cycle places) = inl refl
ending-cases b (lend (delivery timer) cycle places) = eight-or-none (due_by (next_event (delivered b timer cycle places).timer) cycle) true refl

-- what is performed is never answered with a refusal
pub performed-served : (b : Board) (c : Call) → is_refusal (performed b c).number ≡ false
performed-served b c = rw (performed-number b c) (go (ending-cases b c))
  where
    go : (ending b c ≡ 0) ⊎ ((ending b c ≡ 8) × ((is_delivery c || is_why c) ≡ true)) → is_refusal (ending b c) ≡ false
    go (inl z) = rw z refl
    go (inr z) = rw z.0 refl

pub performed-last : (b : Board) (c : Call) → (performed b c).board.counts.last ≡ last_after b c
unfolding performed fresh_board followed timer_reset delivered_to
performed-last b (set_up s) = refl
performed-last b (clock_tree t cycle) = refl
performed-last b (enable word value) = refl
performed-last b (clear_pending irq) = refl
performed-last b (ask q) = refl
performed-last b (lend (pin_setting pin mode open_drain out pullup pulldown function) cycle places) = refl
performed-last b (lend (outside_drive pin e) cycle places) = refl
performed-last b (lend pin_reset cycle places) = refl
performed-last b (lend (writing timer offset size value) cycle places) =
    either (λ (o : Outcome). o.board.counts.last ≡ cycle) (clock_on b (timer_at b timer)) refl refl
performed-last b (lend (resetting timer) cycle places) = refl
performed-last b (lend (delivery timer) cycle places) = refl

-- ---- entries

pub changes-few : (cycle : ℕ) (cs : List (Option Edge)) → length (changes_of cycle cs) ≤ length cs
unfolding changes_of
changes-few cycle [] = omega arith
changes-few cycle (c ∷ cs) = simp length-append (omega (arith, entry-few cycle c, changes-few cycle cs))

reset-length : (n i : ℕ) (p : _) → length (Sys.reset_from n i p).changes ≡ n
unfolding Sys.reset_from
reset-length zero i p = refl
reset-length (suc n) i p = ap suc (reset-length n (i + 1) (Sys.reset_pin p i).pads)

pub followed-few : (b : Board) (i cycle : ℕ) (w : Written) → length (followed b i cycle w).entries ≤ 4
unfolding followed
followed-few b i cycle w =
    either (λ (es : List Entry). length es ≤ 4) (is_some w.drive) (entries-few cycle (Sys.drive_outputs w.timer (unwrap_or w.drive 0) b.pads).changes) (lit≤ tt)

none : (t u : Bool) → (t || u) ≡ false → (t ≡ false) × (u ≡ false)
none true u h = (h, cc)
none false u h = (refl, h)

-- no test of a list applies: not the first
pub head-free : (n : ℕ) (t : Bool) (rs : List Refusal) → applies ((n when t) ∷ rs) ≡ false → t ≡ false
unfolding applies
head-free n t rs h = (none t (applies rs) h).0

-- a timer or pin of a call that is not refused is there
pub here : (i n : ℕ) (rs : List Refusal) → applies (no_such_index i n ∷ rs) ≡ false → i < n
here i n rs h = leb-false n i (head-free 2 (leb n i) rs h)

pub set-up-within : (b : Board) (s : Setup) → applies (refusals b (set_up s)) ≡ false → within_limits s ≡ true
unfolding refusals
set-up-within b s h = sym (limits-same s) ∙ not-false (limits s) (head-free 1 (not (limits s)) _ h)

-- nor the second, third, fourth
third : (n₁ n₂ n₃ : ℕ) (t₁ t₂ t₃ : Bool) (rs : List Refusal) → applies ((n₁ when t₁) ∷ (n₂ when t₂) ∷ (n₃ when t₃) ∷ rs) ≡ false → t₃ ≡ false
unfolding applies
third n₁ n₂ n₃ t₁ t₂ t₃ rs h = (none t₃ (applies rs) (none t₂ _ (none t₁ _ h).1).1).0

second : (n₁ n₂ : ℕ) (t₁ t₂ : Bool) (rs : List Refusal) → applies ((n₁ when t₁) ∷ (n₂ when t₂) ∷ rs) ≡ false → t₂ ≡ false
unfolding applies
second n₁ n₂ t₁ t₂ rs h = (none t₂ (applies rs) (none t₁ _ h).1).0

resets : (b : Board) → length (Sys.reset_pins b.pads b.counts.pins).changes ≡ b.counts.pins
unfolding Sys.reset_pins
resets b = reset-length b.counts.pins 0 (Sys.unrouted b.pads)

fourth : (n₁ n₂ n₃ n₄ : ℕ) (t₁ t₂ t₃ t₄ : Bool) (rs : List Refusal)
    → applies ((n₁ when t₁) ∷ (n₂ when t₂) ∷ (n₃ when t₃) ∷ (n₄ when t₄) ∷ rs) ≡ false → t₄ ≡ false
unfolding applies
fourth n₁ n₂ n₃ n₄ t₁ t₂ t₃ t₄ rs h = (none t₄ (applies rs) (none t₃ _ (none t₂ _ (none t₁ _ h).1).1).1).0

-- a pin setting that is not refused: no other pin routes the signal
pub socket-free : (b : Board) (pin mode open_drain out pullup pulldown function cycle places : ℕ)
    → applies (of_book_call b (pin_setting pin mode open_drain out pullup pulldown function) cycle places) ≡ false
    → Sys.taken b.pads pin (Sys.selected b.pads pin (cfg_of mode open_drain out pullup pulldown) function) ≡ false
socket-free b pin mode open_drain out pullup pulldown function cycle places h =
    sym (taken-same b pin mode open_drain out pullup pulldown function) ∙ third 2 5 11 _ _ _ _ h

pub performed-few : (b : Board) (c : Call) → length (performed b c).entries ≤ most b c
unfolding performed timer_reset delivered_to
performed-few b (set_up s) = omega arith
performed-few b (clock_tree t cycle) = omega arith
performed-few b (enable word value) = omega arith
performed-few b (clear_pending irq) = omega arith
performed-few b (ask q) = omega arith
performed-few b (lend (pin_setting pin mode open_drain out pullup pulldown function) cycle places) =
    entry-few cycle (Sys.set_pin b.pads pin (cfg_of mode open_drain out pullup pulldown) function).change
performed-few b (lend (outside_drive pin e) cycle places) = entry-few cycle (Sys.drive_pin b.pads pin e).change
performed-few b (lend pin_reset cycle places) =
    omega (arith, changes-few cycle (Sys.reset_pins b.pads b.counts.pins).changes, resets b)
performed-few b (lend (writing timer offset size value) cycle places) =
    either (λ (o : Outcome). length o.entries ≤ 4) (clock_on b (timer_at b timer))
    (followed-few b timer cycle (written b (timer_at b timer) offset size value cycle))
    (lit≤ tt)
performed-few b (lend (resetting timer) cycle places) =
    entries-few cycle (Sys.drive_outputs (reset_state (timer_at b timer).inst (divider_of b (timer_at b timer))) 0 b.pads).changes
performed-few b (lend (delivery timer) cycle places) = (delivered-law b timer cycle places).fits

pub most-fits : (b : Board) (c : Call) → applies (refusals b c) ≡ false → most b c ≤ lent c
unfolding refusals
most-fits b (set_up s) h = omega arith
most-fits b (clock_tree t cycle) h = omega arith
most-fits b (enable word value) h = omega arith
most-fits b (clear_pending irq) h = omega arith
most-fits b (ask q) h = omega arith
most-fits b (lend (pin_setting pin mode open_drain out pullup pulldown function) cycle places) h = omega (arith, ltb-false places 4 (fourth 2 5 11 6 _ _ _ _ [] h))
most-fits b (lend (outside_drive pin e) cycle places) h = omega (arith, ltb-false places 4 (third 2 5 6 _ _ _ [] h))
most-fits b (lend pin_reset cycle places) h = ltb-false places b.counts.pins (second 5 6 _ _ [] h)
most-fits b (lend (writing timer offset size value) cycle places) h = ltb-false places 4 (fourth 2 3 5 6 _ _ _ _ _ h)
most-fits b (lend (resetting timer) cycle places) h = ltb-false places 4 (third 2 5 6 _ _ _ [] h)
most-fits b (lend (delivery timer) cycle places) h = omega arith

-- ---- the entries' cycles

changes-stamped : (cycle : ℕ) (cs : List (Option Edge)) → Every (StampedAt cycle) (changes_of cycle cs)
unfolding changes_of
changes-stamped cycle [] = every-none (StampedAt cycle)
changes-stamped cycle (c ∷ cs) = every_append (StampedAt cycle) (entry_of cycle c) (changes_of cycle cs) (entry-stamped cycle c) (changes-stamped cycle cs)

followed-stamped : (b : Board) (i cycle : ℕ) (w : Written) → Every (StampedAt cycle) (followed b i cycle w).entries
unfolding followed
followed-stamped b i cycle w =
    either (Every (StampedAt cycle)) (is_some w.drive) (entries-stamped cycle (Sys.drive_outputs w.timer (unwrap_or w.drive 0) b.pads).changes) (every-none (StampedAt cycle))

pub performed-stamped : (b : Board) (c : Call) → is_delivery c ≡ false → Every (StampedAt (book_cycle c)) (performed b c).entries
unfolding performed timer_reset
performed-stamped b (set_up s) h = every-none (StampedAt 0)
performed-stamped b (clock_tree t cycle) h = every-none (StampedAt 0)
performed-stamped b (enable word value) h = every-none (StampedAt 0)
performed-stamped b (clear_pending irq) h = every-none (StampedAt 0)
performed-stamped b (ask q) h = every-none (StampedAt 0)
performed-stamped b (lend (pin_setting pin mode open_drain out pullup pulldown function) cycle places) h =
    entry-stamped cycle (Sys.set_pin b.pads pin (cfg_of mode open_drain out pullup pulldown) function).change
performed-stamped b (lend (outside_drive pin e) cycle places) h = entry-stamped cycle (Sys.drive_pin b.pads pin e).change
performed-stamped b (lend pin_reset cycle places) h = changes-stamped cycle (Sys.reset_pins b.pads b.counts.pins).changes
performed-stamped b (lend (writing timer offset size value) cycle places) h =
    either (λ (o : Outcome). Every (StampedAt cycle) o.entries) (clock_on b (timer_at b timer))
    (followed-stamped b timer cycle (written b (timer_at b timer) offset size value cycle))
    (every-none (StampedAt cycle))
performed-stamped b (lend (resetting timer) cycle places) h =
    entries-stamped cycle (Sys.drive_outputs (reset_state (timer_at b timer).inst (divider_of b (timer_at b timer))) 0 b.pads).changes
performed-stamped b (lend (delivery timer) cycle places) h = absurd (no_both true refl h)
