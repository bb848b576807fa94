-- The numbers of document 01's table, and what every answer keeps: the statements of specs/Demand1.antt, proved. Assumes nothing.
use mathlib.Core.Path.{◌≡◌, refl, ap, sym, ◌∙◌}
use mathlib.Core.Bool.{Bool, true, false, cond, not, ◌||◌}
use mathlib.Core.List.{List, []}
use mathlib.Core.Logic.{◌⊎◌, inl, inr}
use Prim.Native.Nat.{ℕ, ◌<◌}
use native.Mathlib.Omega.{arith}
use lib.ListN.{length}
use lib.Seq.{get_or-set_same}
use borrow.Author.Tests.{eq-eqb}
use Rattle.tim.specs.declared.Timer.{Timer}
use Rattle.tim.specs.Next.{next_event}
use Rattle.pins.specs.declared.ExtDrive.{ExtDrive}
use Rattle.book.specs.Book.{Entry}
use Rattle.machine.specs.Board.{Board, timer_at, no_timer}
use Rattle.machine.specs.Deliver.{Turn, divider_of, due_by, delivered, after_delivery, rebooked, line_settled}
use Rattle.machine.specs.Call.{Setup, Question, reading, peeking, booked, next, level, volts, line, time, why, Call, set_up, ask, set_pin, drive_pin, deliver, is_delivery, is_why, is_set_up, book_cycle, Outcome, refused, is_refusal}
use Rattle.real.specs.Real.{positive}
use Rattle.machine.specs.Step.{step, within_limits, delivered_to, cfg_of}
use Rattle.machine.specs.Why.{is_behind, why_low}
use Rattle.machine.specs.Refusals.{refusals, order, among, applies, first, ending, last_after}
use Rattle.machine.specs.Demand1.{Unchanged, Numbered, EntriesFit, Every, StampedAt, StampedBy, pin_level, pin_source, edge_of, Traced, stamps, Works, reached, Demand1}
use Rattle.machine.proofs.DeliverLaws.{every-none, turned-cycles}
use Rattle.machine.proofs.NumberLaws.{Verdict, refuses, passes, no_both, answered, performed, step_given, performed-number, performed-last, performed-few, most-fits, delivered-law}
use Rattle.machine.proofs.NumberLaws as N
use Rattle.machine.proofs.Traces.{traced-none}
use Rattle.machine.proofs.Placed.{Placed, reached-placed}
use Rattle.machine.proofs.TraceLaws.{performed-traced}
use Rattle.machine.proofs.PinLaws.{set-edge, drive-edge}

-- ---- the number

number_of : {x o : Outcome} → x ≡ o → x.number ≡ o.number
number_of e = ap (λ (o : Outcome). o.number) e

-- an answer is a refusal that changes nothing, or what the call does
data Answer (b : Board) (c : Call) : Type 0 where
  turned-away : is_refusal (step b c).number ≡ true → (step b c).number ≡ first (refusals b c) → applies (refusals b c) ≡ true → Unchanged b (step b c) → Answer b c
  done : applies (refusals b c) ≡ false → step b c ≡ performed b c → is_refusal (step b c).number ≡ false → Answer b c

answer : (b : Board) (c : Call) → Answer b c
answer b c = go (answered b c)
  where
    go : Verdict (refusals b c) b (performed b c) → Answer b c
    go (refuses n l u f a g) =
        let e = step_given b c ∙ g in
        turned-away (rw (number_of e) u) (number_of e ∙ sym f) a
        (record { board = ap (λ (o : Outcome). o.board) e; value = ap (λ (o : Outcome). o.value) e; entries = ap (λ (o : Outcome). o.entries) e })
    go (passes f a g) = let e = step_given b c ∙ g in done a e (rw (number_of e) (N.performed-served b c))

pub numbered : (b : Board) (c : Call) → Numbered b c
numbered b c = go (answer b c)
  where
    go : Answer b c → Numbered b c
    go (turned-away u f a k) = record {
      listed = inr (inr (rw f (N.held-among order (first (refusals b c)) (refusals b c) (N.in_order_lem b c) (N.first_holds (refusals b c) a))));
      ordered = N.in_order_lem b c;
      first-given = λ h. f;
      first-refuses = λ h. u;
      lowest = λ n h. rw f (N.first-before order n (refusals b c) N.order-once (N.in_order_lem b c) h);
      given-applies = λ h. rw f (N.first_holds (refusals b c) a);
      unchanged = λ h. k;
      else-served = λ h. absurd (no_both (applies (refusals b c)) a h);
      backlog = λ h. absurd (no_both _ u (ap is_refusal h));
    }
    go (done a e z) = record {
      listed = ends (N.ending-cases b c) (number_of e ∙ performed-number b c);
      ordered = N.in_order_lem b c;
      first-given = λ h. absurd (no_both (applies (refusals b c)) h a);
      first-refuses = λ h. absurd (no_both (applies (refusals b c)) h a);
      lowest = λ n h. absurd (no_both (applies (refusals b c)) (N.holds-applies n (refusals b c) h) a);
      given-applies = λ h. absurd (no_both _ h z);
      unchanged = λ h. absurd (no_both _ h z);
      else-served = λ h. number_of e ∙ performed-number b c;
      backlog = λ h. ending-delivers (N.ending-cases b c) (sym (performed-number b c) ∙ sym (number_of e) ∙ h);
    }
      where
        ends : (ending b c ≡ 0) ⊎ ((ending b c ≡ 8) × ((is_delivery c || is_why c) ≡ true)) → (step b c).number ≡ ending b c
            → ((step b c).number ≡ 0) ⊎ (((step b c).number ≡ 8) ⊎ (among (step b c).number order ≡ true))
        ends (inl z) h = inl (h ∙ z)
        ends (inr z) h = inr (inl (h ∙ z.0))

        ending-delivers : (ending b c ≡ 0) ⊎ ((ending b c ≡ 8) × ((is_delivery c || is_why c) ≡ true)) → ending b c ≡ 8 → (is_delivery c || is_why c) ≡ true
        ending-delivers (inl z) h = absurd (omega arith)
        ending-delivers (inr z) h = z.1

-- a refused call keeps the board
pub refusal-keeps : (b : Board) (c : Call) → is_refusal (step b c).number ≡ true → Unchanged b (step b c)
refusal-keeps b c h = (numbered b c).unchanged h

three : (b : Board) (o : Outcome) (t u : Bool) → o.number ≡ 0
    → let n = (cond t (refused 1 b) (cond u (refused 4 b) o)).number in (n ≡ 0) ⊎ ((n ≡ 1) ⊎ (n ≡ 4))
three b o true u h = inr (inl refl)
three b o false true h = inr (inr refl)
three b o false false h = inl h

pub set-up-number : (b : Board) (s : Setup)
    → ((step b (set_up s)).number ≡ 0) ⊎ (((step b (set_up s)).number ≡ 1) ⊎ ((step b (set_up s)).number ≡ 4))
unfolding step
set-up-number b s = three b _ (not (within_limits s)) (not (positive s.hz)) refl

-- ---- a question

-- what is performed keeps the board; answered 8 it has value 0
performed-asked : (b : Board) (q : Question) → (performed b (ask q)).board ≡ b
unfolding performed
performed-asked b q = refl

backlog-value : (b : Board) (q : Question) → (performed b (ask q)).number ≡ 8 → (performed b (ask q)).value ≡ 0
unfolding performed
backlog-value b (reading timer offset size cycle) h = absurd (omega arith)
backlog-value b (peeking timer offset cycle) h = absurd (omega arith)
backlog-value b (booked timer) h = absurd (omega arith)
backlog-value b next h = absurd (omega arith)
backlog-value b (level pin) h = absurd (omega arith)
backlog-value b (volts pin) h = absurd (omega arith)
backlog-value b (line irq) h = absurd (omega arith)
backlog-value b (time cycle) h = absurd (omega arith)
backlog-value b (why pin cycle) h = go (is_behind b pin cycle) (why_low b pin cycle) h
  where
    go : (t : Bool) (v : ℕ) → ◌≡◌ {A = ℕ} (cond t 8 0) 8 → cond t 0 v ≡ 0
    go true v h = refl
    go false v h = absurd (omega arith)

performed-empty : (b : Board) (q : Question) → (performed b (ask q)).entries ≡ []
unfolding performed
performed-empty b q = refl

pub question-keeps : (b : Board) (q : Question) → (step b (ask q)).board ≡ b
question-keeps b q = go (answer b (ask q))
  where
    go : Answer b (ask q) → (step b (ask q)).board ≡ b
    go (turned-away u f a k) = k.board
    go (done a e n) = ap (λ (o : Outcome). o.board) e ∙ performed-asked b q

pub question-backlog : (b : Board) (q : Question) → (step b (ask q)).number ≡ 8 → Unchanged b (step b (ask q))
question-backlog b q h = go (answer b (ask q))
  where
    go : Answer b (ask q) → Unchanged b (step b (ask q))
    go (turned-away u f a k) = k
    go (done a e n) = record {
      board = question-keeps b q;
      value = ap (λ (o : Outcome). o.value) e ∙ backlog-value b q (sym (number_of e) ∙ h);
      entries = ap (λ (o : Outcome). o.entries) e ∙ performed-empty b q;
    }

-- ---- the entries

pub entries_fit : (b : Board) (c : Call) → EntriesFit b c
entries_fit b c = go (answer b c)
  where
    go : Answer b c → EntriesFit b c
    go (turned-away u f a k) =
        let z : length (step b c).entries ≡ 0 = ap (λ (es : List Entry). length es) k.entries in record { places = omega arith; most = omega arith }
    go (done a e n) =
        let z : length (step b c).entries ≡ length (performed b c).entries = ap (λ (o : Outcome). length o.entries) e in
        let f = performed-few b c in
        record { places = omega (arith, most-fits b c a); most = omega arith }

pub stamped : (b : Board) (c : Call) → is_delivery c ≡ false → Every (StampedAt (book_cycle c)) (step b c).entries
stamped b c h = go (answer b c)
  where
    go : Answer b c → Every (StampedAt (book_cycle c)) (step b c).entries
    go (turned-away u f a k) = rw k.entries (every-none (StampedAt (book_cycle c)))
    go (done a e n) = rw e (N.performed-stamped b c h)

-- ---- the last changing call

pub last-moves : (b : Board) (c : Call) → is_refusal (step b c).number ≡ false → (step b c).board.counts.last ≡ last_after b c
last-moves b c h = go (answer b c)
  where
    go : Answer b c → (step b c).board.counts.last ≡ last_after b c
    go (turned-away u f a k) = absurd (no_both _ u h)
    go (done a e z) = ap (λ (o : Outcome). o.board.counts.last) e ∙ performed-last b c

-- ---- a delivery

eight-or-not : (d : Bool) (n : ℕ) → n ≡ cond d 8 0 → ((n ≡ 0 → d ≡ false) × (n ≡ 8 → d ≡ true))
eight-or-not true n h = (λ z. absurd (omega arith), λ z. refl)
eight-or-not false n h = (λ z. refl, λ z. absurd (omega arith))

delivered-works : (b : Board) (i cycle places : ℕ) → i < length b.timers → Works b i cycle places (delivered_to b i cycle places)
unfolding delivered_to after_delivery rebooked line_settled
delivered-works b i cycle places h =
    let r = delivered b i cycle places in
    let d = delivered-law b i cycle places in
    let t : timer_at (delivered_to b i cycle places).board i ≡ r.timer = get_or-set_same b.timers i r.timer no_timer h in
    let n = eight-or-not (due_by (next_event r.timer) cycle) r.number d.answer in
    record {
      cleared = λ z. ap (λ (x : Timer). due_by (next_event x) cycle) t ∙ n.0 z;
      backlog = λ z. ap (λ (x : Timer). due_by (next_event x) cycle) t ∙ n.1 z;
      works = d.works;
      value-le = d.events-le;
      timer = t ∙ ap (λ (x : Turn). x.timer) d.state;
      pads = ap (λ (x : Turn). x.pads) d.state;
      entries = ap (λ (x : Turn). x.entries) d.state;
      cycles = ap (λ (x : Turn). stamps x.entries) d.state ∙ turned-cycles r.events (divider_of b (timer_at b i)) (timer_at b i) b.pads;
      all-due = d.all-due;
    }

performed-delivery : (b : Board) (i cycle places : ℕ) → performed b (deliver i cycle places) ≡ delivered_to b i cycle places
unfolding performed
performed-delivery b i cycle places = refl

present : (b : Board) (i cycle places : ℕ) → applies (refusals b (deliver i cycle places)) ≡ false → i < b.counts.timers
unfolding refusals
present b i cycle places h = N.here i b.counts.timers _ h

pub delivery-works : (b : Board) (i cycle places : ℕ) → Placed b → applies (refusals b (deliver i cycle places)) ≡ false
    → Works b i cycle places (step b (deliver i cycle places))
delivery-works b i cycle places s h = go (answer b (deliver i cycle places)) (present b i cycle places h)
  where
    go : Answer b (deliver i cycle places) → i < b.counts.timers → Works b i cycle places (step b (deliver i cycle places))
    go (turned-away u f a e) k = absurd (no_both (applies (refusals b (deliver i cycle places))) a h)
    go (done a e z) k = rw (e, performed-delivery b i cycle places) (delivered-works b i cycle places (omega (arith, s.timers)))

delivered-stamped : (b : Board) (i cycle places : ℕ) → Every (StampedBy cycle) (delivered_to b i cycle places).entries
unfolding delivered_to
delivered-stamped b i cycle places = (delivered-law b i cycle places).stamped

-- no entry of a delivery is later than it
pub due-stamped : (b : Board) (i cycle places : ℕ) → Every (StampedBy cycle) (step b (deliver i cycle places)).entries
due-stamped b i cycle places = go (answer b (deliver i cycle places))
  where
    go : Answer b (deliver i cycle places) → Every (StampedBy cycle) (step b (deliver i cycle places)).entries
    go (turned-away u f a k) = rw k.entries (every-none (StampedBy cycle))
    go (done a e n) = rw (e, performed-delivery b i cycle places) (delivered-stamped b i cycle places)

-- ---- pins

pin-edge : (b : Board) (c : Call) (pin cycle : ℕ) → Answer b c
    → (applies (refusals b c) ≡ false → (performed b c).entries ≡ edge_of pin (pin_level b.pads pin) (pin_level (performed b c).board.pads pin) (pin_source (performed b c).board.pads pin) cycle)
    → (step b c).entries ≡ edge_of pin (pin_level b.pads pin) (pin_level (step b c).board.pads pin) (pin_source (step b c).board.pads pin) cycle
pin-edge b c pin cycle (turned-away u f a k) g = rw (k.entries, k.board, eq-eqb (pin_level b.pads pin) (pin_level b.pads pin) refl) refl
pin-edge b c pin cycle (done a e z) f = rw e (f a)

performed-set : (b : Board) (pin mode open_drain out pullup pulldown function cycle places : ℕ) → Placed b
    → let c = set_pin pin mode open_drain out pullup pulldown function cycle places in
    applies (refusals b c) ≡ false → (performed b c).entries ≡ edge_of pin (pin_level b.pads pin) (pin_level (performed b c).board.pads pin) (pin_source (performed b c).board.pads pin) cycle
unfolding performed refusals
performed-set b pin mode open_drain out pullup pulldown function cycle places s a =
    set-edge b.pads pin (cfg_of mode open_drain out pullup pulldown) function cycle
    (omega (arith, s.pins, N.here pin b.counts.pins _ a))

performed-drive : (b : Board) (pin : ℕ) (e : ExtDrive) (cycle places : ℕ) → Placed b
    → let c = drive_pin pin e cycle places in
    applies (refusals b c) ≡ false → (performed b c).entries ≡ edge_of pin (pin_level b.pads pin) (pin_level (performed b c).board.pads pin) (pin_source (performed b c).board.pads pin) cycle
unfolding performed refusals
performed-drive b pin e cycle places s a =
    drive-edge b.pads pin e cycle (omega (arith, s.pins, N.here pin b.counts.pins _ a))

-- "An entry is made exactly when a pin's level changes": none where the pin's level is the same after the call, else one, with the new level and the
-- call's cycle
pub set-pin-entries : (b : Board) (pin mode open_drain out pullup pulldown function cycle places : ℕ) → Placed b
    → let o = step b (set_pin pin mode open_drain out pullup pulldown function cycle places) in
    o.entries ≡ edge_of pin (pin_level b.pads pin) (pin_level o.board.pads pin) (pin_source o.board.pads pin) cycle
set-pin-entries b pin mode open_drain out pullup pulldown function cycle places s =
    let c = set_pin pin mode open_drain out pullup pulldown function cycle places in
    pin-edge b c pin cycle (answer b c) (λ a. performed-set b pin mode open_drain out pullup pulldown function cycle places s a)

pub drive-pin-entries : (b : Board) (pin : ℕ) (e : ExtDrive) (cycle places : ℕ) → Placed b
    → let o = step b (drive_pin pin e cycle places) in o.entries ≡ edge_of pin (pin_level b.pads pin) (pin_level o.board.pads pin) (pin_source o.board.pads pin) cycle
drive-pin-entries b pin e cycle places s =
    let c = drive_pin pin e cycle places in pin-edge b c pin cycle (answer b c) (λ a. performed-drive b pin e cycle places s a)

-- the same of every call but set-up, over all pins: a pin's level on the board that the call leaves is that of its last entry, else its level before;
-- and each entry is another level than its pin had
pub entries-are-changes : (b : Board) (c : Call) → Placed b → is_set_up c ≡ false
    → Traced b.pads (step b c).board.pads (step b c).entries
entries-are-changes b c s m = go (answer b c)
  where
    go : Answer b c → Traced b.pads (step b c).board.pads (step b c).entries
    go (turned-away u f a k) = rw (k.entries, k.board) (traced-none b.pads b.pads (λ i. refl))
    go (done a e n) = rw e (performed-traced b c s.wired s.pins a m)

-- ---- the demand

pub demand1 : Demand1
demand1 = record {
  number = numbered;
  set-up = set-up-number;
  asked = question-keeps;
  asked-backlog = question-backlog;
  fits = entries_fit;
  stamped = stamped;
  stamped-by = due-stamped;
  last-moves = last-moves;
  delivery = λ cs i cycle places h. delivery-works (reached cs) i cycle places (reached-placed cs) h;
  pin-setting = λ cs pin mode open_drain out pullup pulldown function cycle places.
      set-pin-entries (reached cs) pin mode open_drain out pullup pulldown function cycle places (reached-placed cs);
  outside-drive = λ cs pin e cycle places. drive-pin-entries (reached cs) pin e cycle places (reached-placed cs);
  changes = λ cs c h. entries-are-changes (reached cs) c (reached-placed cs) h;
}
