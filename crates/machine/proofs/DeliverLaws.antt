-- What holds of every delivery: its answer, its events, its entries. Assumes nothing.
use mathlib.Core.Path.{◌≡◌, refl, ap, ◌∙◌}
use mathlib.Core.Bool.{Bool, true, false, cond}
use mathlib.Core.List.{List, [], ◌∷◌, ◌++◌}
use Prim.Native.Nat.{ℕ, zero, suc, ◌-◌, ◌/◌, ◌≤◌, min}
use native.Mathlib.Numerals.{add-one}
use native.Mathlib.Omega.{arith}
use lib.Dec.{ltb, lit≤}
use lib.ListN.{length, replicate, length-append}
use borrow.Author.Tests.{ltb-true, ltb-false, leb-true}
use Rattle.tim.specs.declared.Timer.{Timer}
use Rattle.tim.specs.declared.Next.{Next}
use Rattle.tim.specs.declared.Due.{Due}
use Rattle.tim.specs.declared.Due.TheVariants.{At, Stopped}
use Rattle.tim.specs.Next.{next_event}
use Rattle.std.specs.Prelude.{Option, Some, None}
use Rattle.gpio.specs.declared.Edge.{Edge}
use Rattle.book.specs.Book.{Changes, Entry, entry_of, entries_of}
use Rattle.machine.specs.Board.{Pads}
use Rattle.machine.specs.Deliver.{Turn, turn, turn_of, Run, handled, stop, after_turn, due_by}
use Rattle.machine.specs.Demand1.{Every, StampedAt, StampedBy, after_events, AllDue, due_cycle, due_cycles, stamps}

-- ---- entries

pub every-none : (P : Entry → Type 0) → Every P []
unfolding Every
every-none P = tt

pub every_append : (P : Entry → Type 0) (xs ys : List Entry) → Every P xs → Every P ys → Every P (xs ++ ys)
unfolding Every
every_append P [] ys p q = q
every_append P (x ∷ xs) ys p q = (p.0, every_append P xs ys p.1 q)

pub every-imp : (P Q : Entry → Type 0) → ((e : Entry) → P e → Q e) → (xs : List Entry) → Every P xs → Every Q xs
unfolding Every
every-imp P Q f [] p = tt
every-imp P Q f (x ∷ xs) p = (f x p.0, every-imp P Q f xs p.1)

pub entry-stamped : (at : ℕ) (c : Option Edge) → Every (StampedAt at) (entry_of at c)
unfolding Every entry_of
entry-stamped at None = tt
entry-stamped at (Some e) = (refl, tt)

pub entries-stamped : (at : ℕ) (c : Changes) → Every (StampedAt at) (entries_of at c)
unfolding entries_of
entries-stamped at c =
    let P = StampedAt at in
    every_append P (entry_of at c.a) _ (entry-stamped at c.a)
    (every_append P (entry_of at c.b) _ (entry-stamped at c.b)
    (every_append P (entry_of at c.c) (entry_of at c.d) (entry-stamped at c.c) (entry-stamped at c.d)))

pub entry-few : (at : ℕ) (c : Option Edge) → length (entry_of at c) ≤ 1
unfolding entry_of
entry-few at None = lit≤ tt
entry-few at (Some e) = lit≤ tt

pub entries-few : (at : ℕ) (c : Changes) → length (entries_of at c) ≤ 4
unfolding entries_of
entries-few at c =
    simp length-append (omega (arith, entry-few at c.a, entry-few at c.b, entry-few at c.c, entry-few at c.d))

-- ---- one event

-- "Each event acts at its own due cycle, however late delivered": every edge that it makes carries that cycle
pub turn-stamped : (t : Timer) (p : Pads) (e : Next) (at div : ℕ) → Every (StampedAt at) (turn t p e at div).entries
unfolding turn
turn-stamped t p e at div = entries-stamped at _

pub turn-few : (t : Timer) (p : Pads) (e : Next) (at div : ℕ) → length (turn t p e at div).entries ≤ 4
unfolding turn
turn-few t p e at div = entries-few at _

pub turn_of-few : (t : Timer) (p : Pads) (d : Due) (div : ℕ) → length (turn_of t p d div).entries ≤ 4
turn_of-few t p (At at e) div = turn-few t p e at div
turn_of-few t p Stopped div = lit≤ tt

pub turn_of-stamped : (t : Timer) (p : Pads) (d : Due) (div now : ℕ) → due_by d now ≡ true → Every (StampedBy now) (turn_of t p d div).entries
unfolding Every
turn_of-stamped t p (At at e) div now h =
    every-imp (StampedAt at) (StampedBy now) (λ x q. omega (arith, leb-true at now h)) (turn t p e at div).entries (turn-stamped t p e at div)
turn_of-stamped t p Stopped div now h = tt

-- ---- the events of a delivery, one after the other

all-at : (at : ℕ) (es : List Entry) → Every (StampedAt at) es → stamps es ≡ replicate (length es) at
unfolding Every
all-at at [] h = refl
all-at at (e ∷ es) h = rw (h.0, all-at at es h.1) refl

turn_of-cycles : (t : Timer) (p : Pads) (d : Due) (div : ℕ) → stamps (turn_of t p d div).entries ≡ replicate (length (turn_of t p d div).entries) (due_cycle d)
turn_of-cycles t p (At at e) div = all-at at (turn t p e at div).entries (turn-stamped t p e at div)
turn_of-cycles t p Stopped div = refl

cycles-append : (xs ys : List Entry) → stamps (xs ++ ys) ≡ stamps xs ++ stamps ys
cycles-append [] ys = refl
cycles-append (x ∷ xs) ys = ap (λ (l : List ℕ). x.cycle ∷ l) (cycles-append xs ys)

pub turned-cycles : (n div : ℕ) (t : Timer) (p : Pads) → stamps (after_events n div t p).entries ≡ due_cycles n div t p
unfolding after_events due_cycles
turned-cycles zero div t p = refl
turned-cycles (suc n) div t p =
    let s = turn_of t p (next_event t) div in
    cycles-append s.entries (after_events n div s.timer s.pads).entries
    ∙ ap (λ (l : List ℕ). l ++ stamps (after_events n div s.timer s.pads).entries) (turn_of-cycles t p (next_event t) div)
    ∙ ap (λ (l : List ℕ). replicate (length s.entries) (due_cycle (next_event t)) ++ l) (turned-cycles n div s.timer s.pads)

abbrev pub turn_part : Run → Turn
turn_part r = record { timer = r.timer; pads = r.pads; entries = r.entries }

-- what a delivery of at most so many events, with so many places, gives
pub record Delivery (most now div left : ℕ) (t : Timer) (p : Pads) (r : Run) : Type 0 where
  -- it leaves the state that its events make, one after the other, and their entries joined: neither fewer events than it counts, nor others
  pub state : turn_part r ≡ after_events r.events div t p
  pub all-due : AllDue r.events now div t p
  -- "A delivery stops when nothing is due (0), or with more due (8)"
  pub answer : r.number ≡ cond (due_by (next_event r.timer) now) 8 0
  pub events-le : r.events ≤ most
  -- "With L places it clears everything due or handles at least the lesser of 100,001 and L div 4."
  pub works : r.number ≡ 8 → min most (left / 4) ≤ r.events
  pub fits : length r.entries ≤ left
  -- no entry is later than the delivery
  pub stamped : Every (StampedBy now) r.entries

stop-law : (most now div left : ℕ) (t : Timer) (p : Pads) (due : Bool) → due_by (next_event t) now ≡ due → (due ≡ true → min most (left / 4) ≤ 0)
    → Delivery most now div left t p (stop t p (cond due 8 0))
unfolding after_events AllDue Every
stop-law most now div left t p due e w = record {
  state = refl;
  all-due = tt;
  answer = rw e refl;
  events-le = omega arith;
  works = λ h. w (eight due h);
  fits = omega arith;
  stamped = tt;
}
  where
    eight : (b : Bool) → ◌≡◌ {A = ℕ} (cond b 8 0) 8 → b ≡ true
    eight true h = refl
    eight false h = cc

after-law : (most now div left : ℕ) (t : Timer) (p : Pads) (s : Turn) (r : Run) → s ≡ turn_of t p (next_event t) div → due_by (next_event t) now ≡ true → 4 ≤ left
    → length s.entries ≤ 4
    → Every (StampedBy now) s.entries
    → Delivery most now div (left - length s.entries) s.timer s.pads r
    → Delivery (suc most) now div left t p (after_turn s.entries r)
unfolding after_events AllDue
after-law most now div left t p s r q d l f st h = record {
  state = rw (add-one, ← q, ← h.state) refl;
  all-due = rw (add-one, ← q) (d, h.all-due);
  answer = h.answer;
  events-le = omega (arith, h.events-le);
  works = λ e. omega (arith, h.works e);
  fits = simp length-append (omega (arith, h.fits));
  stamped = every_append (StampedBy now) s.entries r.entries st h.stamped;
}

pub run-law : (most now div left : ℕ) (t : Timer) (p : Pads) → Delivery most now div left t p (handled most now div left t p)
unfolding handled
run-law zero now div left t p = stop-law zero now div left t p (due_by (next_event t) now) refl (λ e. omega arith)
run-law (suc most) now div left t p =
    let s = turn_of t p (next_event t) div in
    go (due_by (next_event t) now) refl (ltb left 4) refl (run-law most now div (left - length s.entries) s.timer s.pads)
  where
    go : (d : Bool) → due_by (next_event t) now ≡ d → (l : Bool) → ltb left 4 ≡ l
        → (let s = turn_of t p (next_event t) div in Delivery most now div (left - length s.entries) s.timer s.pads (handled most now div (left - length s.entries) s.timer s.pads))
        → Delivery (suc most) now div left t p
        (cond d (cond l (stop t p 8) (let s = turn_of t p (next_event t) div in after_turn s.entries (handled most now div (left - length s.entries) s.timer s.pads))) (stop t p 0))
    go false d l e h = stop-law (suc most) now div left t p false d (λ z. let f : ◌≡◌ {A = ℕ} 0 1 = cc in omega arith)
    go true d true e h = stop-law (suc most) now div left t p true d (λ z. omega (arith, ltb-true left 4 e))
    go true d false e h =
        let s = turn_of t p (next_event t) div in
        after-law most now div left t p s _ refl d (ltb-false left 4 e) (turn_of-few t p (next_event t) div) (turn_of-stamped t p (next_event t) div now d) h
