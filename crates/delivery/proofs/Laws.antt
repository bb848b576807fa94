-- The delivery over any timer, board and book: what is still due leads to the same end. Assumes nothing.
use mathlib.Core.Path.{◌≡◌, refl, ap, sym, subst, ◌∙◌}
use mathlib.Core.Bool.{Bool, true, false, cond}
use mathlib.Core.List.{List, [], ◌∷◌}
use Prim.Native.Nat.{ℕ, zero, suc, ◌+◌, ◌-◌, ◌*◌, ◌<◌, ◌≤◌}
use native.Mathlib.Nat.{add-zero}
use native.Mathlib.Omega.{arith}
use lib.Dec.{eqb, ltb, leb, lit<}
use lib.Ieee.{Float}
use lib.ListN.{length}
use lib.Seq.{set-get_or}
use borrow.Author.Tests.{le-leb, lt-leb, le-ltb, ltb-false, leb-true, leb-false, eqb-true}
use Rattle.tim.specs.declared.Timer.{Timer}
use Rattle.tim.specs.declared.Inst.{Inst}
use Rattle.tim.specs.declared.Ahead.{Ahead}
use Rattle.tim.specs.declared.Next.{Next}
use Rattle.tim.specs.declared.Next.TheVariants.{Update, Compare}
use Rattle.tim.specs.declared.Due.{Due}
use Rattle.tim.specs.declared.Due.TheVariants.{At, Stopped}
use Rattle.tim.specs.Timer.{Fit}
use Rattle.tim.specs.Count.{counts}
use Rattle.tim.specs.Next.{next_event, next_steps, consider, compares, compare_steps}
use Rattle.tim.proofs.Fit.{either, fit-updated, fit-compared}
use Rattle.tim.proofs.Fixed.{inst-updated, inst-compared}
use Rattle.book.specs.Book.{Entry, Book, book, put, puts, entries_of, Lent, Room}
use Rattle.book.proofs.Laws.{puts-append, holds}
use Rattle.state.specs.View.{view}
use Rattle.state.proofs.InRange.{bounded}
use Rattle.state.specs.Board.{booking_set, with_inst}
use Rattle.machine.specs.Board.{Board, Pads, no_timer, timer_at, with_pads, with_timer}
use Rattle.machine.specs.Sys.{drive_outputs}
use Rattle.machine.specs.Deliver.{applied, count_at, Turn, turn, turn_of, due_by, Run, stop, after_turn, handled as run, most_events, divider_of, booking_of, line_settled, rebooked, delivered, after_delivery}
use Rattle.outputs.specs.Outputs.{Driven}
use Rattle.delivery.specs.declared.Ran.{Ran}
use Rattle.delivery.specs.Delivery.{OfFour, verdict_of, Ends, Delivers, number_of}
use Rattle.delivery.specs.declared.Stop.{Stop}
use Rattle.delivery.specs.declared.Stop.TheVariants.{Done, Backlog}
use Rattle.std.proofs.Common.{Option, Some, None}

-- ---- an event's channel is one of four

record Near (a : Ahead) : Type 0 where
  near : OfFour a.next

near-consider : (t : Timer) (ch : ℕ) (best : Ahead) → ch < 4 → Near best → Near (consider t ch best)
unfolding consider
near-consider t ch best h n = either Near (compares t ch) (either Near (ltb (compare_steps t ch) best.steps) (record { near = h }) n) n

near-steps : (t : Timer) → Near (next_steps t)
unfolding next_steps
near-steps t =
    near-consider t 3 _ (lit< tt) (near-consider t 2 _ (lit< tt) (near-consider t 1 _ (lit< tt) (near-consider t 0 _ (lit< tt) (record { near = tt }))))

abbrev DueNear : Due → Type 0
DueNear (At at e) = OfFour e
DueNear Stopped = Unit {0}

pub of_four : (t : Timer) (d : Due) (at : ℕ) (e : Next) → d ≡ next_event t → d ≡ At at e → OfFour e
unfolding next_event
of_four t d at e p q = subst DueNear (sym p ∙ q) (either DueNear (counts t) (near-steps t).near tt)

pub fit-applied : (t : Timer) (e : Next) (at div : ℕ) → Fit t → at < 9223372036854775808 → 1 ≤ div → div ≤ 8192 → Fit (applied t e at div)
fit-applied t Update at div f h p d = fit-updated t f at div h p d
fit-applied t (Compare ch) at div f h p d = fit-compared t f ch

-- ---- one event's outputs

pub driven : (b b₁ : Board) (k k₁ : Book) (t : Timer) (e : Next) (cnt at : ℕ) → cnt ≡ count_at t e
    → Driven (drive_outputs t cnt b.pads) at b b₁ k k₁ → Driven (drive_outputs t (count_at t e) b.pads) at b b₁ k k₁
driven b b₁ k k₁ t e cnt at h d = subst (λ (n : ℕ). Driven (drive_outputs t n b.pads) at b b₁ k k₁) h d

-- the same as machine's turn
record Turns (s : Turn) (t₁ : Timer) (p₁ : Pads) (k k₁ : Book) : Type 0 where
  timer : t₁ ≡ s.timer
  pads : p₁ ≡ s.pads
  entries : k₁ ≡ puts k s.entries

turns : (t t₁ : Timer) (e : Next) (at div : ℕ) (b b₁ : Board) (k k₁ : Book) → t₁ ≡ applied t e at div
    → Driven (drive_outputs t₁ (count_at t₁ e) b.pads) at b b₁ k k₁ → Turns (turn t b.pads e at div) t₁ b₁.pads k k₁
unfolding turn
turns t t₁ e at div b b₁ k k₁ h d = record {
  timer = h;
  pads = ap (λ (x : Board). x.pads) d.board ∙ ap (λ (u : Timer). (drive_outputs u (count_at u e) b.pads).pads) h;
  entries = d.entries ∙ ap (λ (u : Timer). puts k (entries_of at (drive_outputs u (count_at u e) b.pads).changes)) h;
}

-- ---- the verdict

pub record Goes (at cycle events left : ℕ) : Type 0 where
  pub due : at ≤ cycle
  pub few : events < most_events
  pub free : 4 ≤ left

pub goes : (at cycle events left : ℕ) (v : Option Stop) → v ≡ verdict_of at cycle events left → v ≡ None → Goes at cycle events left
unfolding verdict_of
goes at cycle events left v h g = go (leb at cycle) refl (leb most_events events) refl (ltb left 4) refl (sym h ∙ g)
  where
    go : (a : Bool) → leb at cycle ≡ a → (b : Bool) → leb most_events events ≡ b → (c : Bool) → ltb left 4 ≡ c
        → ◌≡◌ {A = Option Stop} (cond a (cond b (Some Backlog) (cond c (Some Backlog) None)) (Some Done)) None → Goes at cycle events left
    go true p false q false r k = record { due = leb-true at cycle p; few = leb-false most_events events q; free = ltb-false left 4 r }
    go true p false q true r k = cc
    go true p true q c r k = cc
    go false p b q c r k = cc

-- the number of a verdict that stops
number_or : Option Stop → ℕ
number_or None = 0
number_or (Some s) = number_of s

-- ---- the run, by the next event

module _ (cycle div left : ℕ) (t : Timer) (p : Pads) where
  run_none : (f : ℕ) → next_event t ≡ Stopped → run f cycle div left t p ≡ stop t p 0
  unfolding run
  run_none zero h = rw h
  run_none (suc f) h = rw h

  module _ (at : ℕ) (e : Next) (d : next_event t ≡ At at e) where
    run-stop : (f events : ℕ) (v : Option Stop) (s : Stop) → f ≡ most_events - events → v ≡ verdict_of at cycle events left → v ≡ Some s
        → run f cycle div left t p ≡ stop t p (number_of s)
    unfolding run verdict_of number_or
    run-stop zero events v s g h n =
        let k : most_events ≤ events = omega arith in
        rw d (go (leb at cycle) (sym (rw (le-leb most_events events k) at h) ∙ n))
      where
        go : (a : Bool) → cond a (Some Backlog) (Some Done) ≡ Some s → stop t p (cond a 8 0) ≡ stop t p (number_of s)
        go true y = ap (λ (o : Option Stop). stop t p (number_or o)) y
        go false y = ap (λ (o : Option Stop). stop t p (number_or o)) y
    run-stop (suc f) events v s g h n =
        let k : events < most_events = omega arith in
        rw d (go (leb at cycle) (ltb left 4) _ (sym (rw (lt-leb most_events events k) at h) ∙ n))
      where
        go : (a b : Bool) (x : Run) → cond a (cond b (Some Backlog) None) (Some Done) ≡ Some s → cond a (cond b (stop t p 8) x) (stop t p 0) ≡ stop t p (number_of s)
        go true true x y = ap (λ (o : Option Stop). stop t p (number_or o)) y
        go true false x y = cc
        go false b x y = ap (λ (o : Option Stop). stop t p (number_or o)) y

    run-turn : (f : ℕ) → at ≤ cycle → 4 ≤ left → (s : Turn) → s ≡ turn t p e at div
        → run (suc f) cycle div left t p ≡ after_turn s.entries (run f cycle div (left - length s.entries) s.timer s.pads)
    unfolding run
    run-turn f x y s h = rw (h, d, le-leb at cycle x, le-ltb left 4 y)

-- ---- what a run leaves of the timer

inst-turn : (t : Timer) (p : Pads) (d : Due) (div : ℕ) → (turn_of t p d div).timer.inst ≡ t.inst
unfolding turn
inst-turn t p (At at Update) div = inst-updated t at div
inst-turn t p (At at (Compare ch)) div = inst-compared t ch
inst-turn t p Stopped div = refl

-- no event touches what set-up fixed
inst-run : (f cycle div left : ℕ) (t : Timer) (p : Pads) → (run f cycle div left t p).timer.inst ≡ t.inst
unfolding run
inst-run zero cycle div left t p = refl
inst-run (suc f) cycle div left t p =
    let s = turn_of t p (next_event t) div in
    either (λ (r : Run). r.timer.inst ≡ t.inst) (due_by (next_event t) cycle)
    (either (λ (r : Run). r.timer.inst ≡ t.inst) (ltb left 4) refl
    (inst-run f cycle div (left - length s.entries) s.timer s.pads ∙ inst-turn t p (next_event t) div))
    refl

-- without an event the timer is as it was
run-idle : (f cycle div left : ℕ) (t : Timer) (p : Pads) → (run f cycle div left t p).events ≡ 0 → (run f cycle div left t p).timer ≡ t
unfolding run
run-idle zero cycle div left t p = λ z. refl
run-idle (suc f) cycle div left t p =
    either (λ (r : Run). r.events ≡ 0 → r.timer ≡ t) (due_by (next_event t) cycle)
    (either (λ (r : Run). r.events ≡ 0 → r.timer ≡ t) (ltb left 4) (λ z. refl) (λ z. absurd (omega (arith, z))))
    (λ z. refl)

-- ---- what a run leaves of a book and a count of events

pub record Final : Type 0 where
  pub timer : Timer
  pub pads : Pads
  pub book : Book
  pub events : ℕ
  pub number : ℕ

abbrev pub settle : Book → ℕ → Run → Final
settle k n o = record { timer = o.timer; pads = o.pads; book = puts k o.entries; events = n + o.events; number = o.number }

settle-after : (k : Book) (n : ℕ) (es : List Entry) (o : Run) → settle k n (after_turn es o) ≡ settle (puts k es) (n + 1) o
settle-after k n es o =
    let e : n + (o.events + 1) ≡ n + 1 + o.events = omega arith in
    rw (puts-append k es o.entries, e)

settle-stop : (k : Book) (n : ℕ) (t : Timer) (p : Pads) (v : ℕ) → settle k n (stop t p v) ≡ record { timer = t; pads = p; book = k; events = n; number = v }
unfolding puts
settle-stop k n t p v = rw add-zero

puts-count : (k : Book) (es : List Entry) → (puts k es).count ≡ k.count + length es
unfolding puts
puts-count k [] = sym (add-zero k.count)
puts-count k (e ∷ es) = puts-count (put k e) es ∙ one (length es)
  where
    one : (n : ℕ) → k.count + 1 + n ≡ k.count + suc n
    one n = omega arith

-- ---- the invariant

pub record Going (cycle div room : ℕ) (o : Run) (b₀ : Board) (k₀ : Book) (t : Timer) (b : Board) (k : Book) (events : ℕ) : Type 0 where
  pub fit : Fit t
  pub within : k.count ≤ room
  pub few : events ≤ most_events
  pub small : k.count ≤ 4 * events
  pub board : b ≡ with_pads b₀ b.pads
  pub same : settle k₀ 0 o ≡ settle k events (run (most_events - events) cycle div (room - k.count) t b.pads)

pub begins : (cycle div room : ℕ) (t : Timer) (b : Board) (k : Book) → Fit t → k.count ≡ 0
    → Going cycle div room (run most_events cycle div room t b.pads) b k t b k 0
begins cycle div room t b k f h =
    let e : room ≡ room - k.count = omega arith in
    record {
      fit = f;
      within = omega arith;
      few = omega arith;
      small = omega arith;
      board = refl;
      same = ap (λ (n : ℕ). settle k 0 (run most_events cycle div n t b.pads)) e;
    }

ended : (o : Run) (b₀ b : Board) (k₀ k : Book) (r : Ran) → b ≡ with_pads b₀ b.pads
    → settle k₀ 0 o ≡ record { timer = r.timer; pads = b.pads; book = k; events = r.delivered.events; number = number_of r.delivered.stop } → Ends o b₀ b k₀ k r
ended o b₀ b k₀ k r h e = record {
  timer = sym (ap (λ (x : Final). x.timer) e);
  number = sym (ap (λ (x : Final). x.number) e);
  events = omega (arith, ap (λ (x : Final). x.events) e);
  board = h ∙ ap (with_pads b₀) (sym (ap (λ (x : Final). x.pads) e));
  entries = sym (ap (λ (x : Final). x.book) e);
}

module _ (cycle div room : ℕ) (o : Run) (b₀ : Board) (k₀ : Book) (t : Timer) (b : Board) (k : Book) (events : ℕ) (d : Due)
    (g : Going cycle div room o b₀ k₀ t b k events) (n : d ≡ next_event t) where
  pub ends-none : d ≡ Stopped → (u : Due) → Ends o b₀ b k₀ k (record { timer = t; due = u; delivered = record { stop = Done; events = events } })
  ends-none h u =
      ended o b₀ b k₀ k _ g.board
      (g.same ∙ ap (settle k events) (run_none cycle div (room - k.count) t b.pads (most_events - events) (sym n ∙ h)) ∙ settle-stop k events t b.pads 0)

  module _ (at : ℕ) (e : Next) (h : d ≡ At at e) (v : Option Stop) (j : v ≡ verdict_of at cycle events (room - k.count)) where
    pub ends-stop : (s : Stop) → v ≡ Some s → (u : Due) → Ends o b₀ b k₀ k (record { timer = t; due = u; delivered = record { stop = s; events = events } })
    ends-stop s x u =
        ended o b₀ b k₀ k _ g.board
        (g.same ∙ ap (settle k events) (run-stop cycle div (room - k.count) t b.pads at e (sym n ∙ h) (most_events - events) events v s refl j x)
        ∙ settle-stop k events t b.pads (number_of s))

    pub going_on : v ≡ None → cycle < 9223372036854775808 → 1 ≤ div → div ≤ 8192 → (t₁ : Timer) (b₁ : Board) (k₁ : Book) → t₁ ≡ applied t e at div
        → Driven (drive_outputs t₁ (count_at t₁ e) b.pads) at b b₁ k k₁ → k₁.count ≤ k.count + 4 → Going cycle div room o b₀ k₀ t₁ b₁ k₁ (events + 1)
    going_on x c p q t₁ b₁ k₁ a w r =
        let y = goes at cycle events (room - k.count) v j x in
        let s = turn t b.pads e at div in
        let z : Turns s t₁ b₁.pads k k₁ = turns t t₁ e at div b b₁ k k₁ a w in
        let m : most_events - events ≡ suc (most_events - (events + 1)) = omega (arith, y.few) in
        let l : room - k.count - length s.entries ≡ room - k₁.count =
        omega (arith, ap (λ (u : Book). u.count) z.entries, puts-count k s.entries) in
        record {
          fit = rw a (fit-applied t e at div g.fit (omega (arith, y.due)) p q);
          within = omega (arith, y.free, g.within);
          few = omega (arith, y.few);
          small = omega (arith, g.small);
          board = w.board ∙ ap (λ (u : Board). with_pads u (drive_outputs t₁ (count_at t₁ e) b.pads).pads) g.board
              ∙ ap (with_pads b₀) (sym (ap (λ (u : Board). u.pads) w.board));
          same = g.same
              ∙ ap (λ (f : ℕ). settle k events (run f cycle div (room - k.count) t b.pads)) m
              ∙ ap (settle k events) (run-turn cycle div (room - k.count) t b.pads at e (sym n ∙ h) (most_events - (events + 1)) y.due y.free s refl)
              ∙ settle-after k events s.entries (run (most_events - (events + 1)) cycle div (room - k.count - length s.entries) s.timer s.pads)
              ∙ ap (λ (i : ℕ). settle (puts k s.entries) (events + 1) (run (most_events - (events + 1)) cycle div i s.timer s.pads)) l
              ∙ ap (λ (u : Book). settle u (events + 1) (run (most_events - (events + 1)) cycle div (room - k₁.count) s.timer s.pads)) (sym z.entries)
              ∙ ap (λ (u : Timer). settle k₁ (events + 1) (run (most_events - (events + 1)) cycle div (room - k₁.count) u s.pads)) (sym z.timer)
              ∙ ap (λ (u : Pads). settle k₁ (events + 1) (run (most_events - (events + 1)) cycle div (room - k₁.count) t₁ u)) (sym z.pads);
        }

-- the places that are lent
pub room-ends : (cycle div room places : ℕ) (t : Timer) (b b₁ : Board) (k k₁ : Book) (r : Ran) → room ≡ places
    → Ends (run most_events cycle div room t b.pads) b b₁ k k₁ r → Ends (run most_events cycle div places t b.pads) b b₁ k k₁ r
room-ends cycle div room places t b b₁ k k₁ r h e = subst (λ (n : ℕ). Ends (run most_events cycle div n t b.pads) b b₁ k k₁ r) h e

-- ---- the whole

pub loaded-fit : (w : List ℕ) (x : List Float) (i : ℕ) (t : Timer) → t ≡ timer_at (view w x) i → Fit t
loaded-fit w x i t h = rw h ((bounded w x).timer-fit i)

pub due-booked : (b b₁ : Board) (i cycle : ℕ) (t : Timer) (d : Due) → d ≡ next_event t → b₁ ≡ booking_set b i (booking_of d cycle) → b₁ ≡ rebooked i t cycle b
unfolding rebooked
due-booked b b₁ i cycle t d h e = e ∙ ap (λ (x : Due). booking_set b i (booking_of x cycle)) h

-- the timer stored where there was an event: the board with what the run leaves
stored : (b b₁ b₂ : Board) (p : Pads) (i events : ℕ) (t s : Timer) → t ≡ timer_at b i → b₁ ≡ with_pads b p → s.inst ≡ t.inst → (events ≡ 0 → s ≡ t)
    → b₂ ≡ cond (eqb events 0) b₁ (with_timer b₁ i (with_inst s (timer_at b₁ i).inst)) → b₂ ≡ with_timer b₁ i s
stored b b₁ b₂ p i events t s load board fixed idle e = go (eqb events 0) refl e
  where
    same : t ≡ timer_at b₁ i
    same = load ∙ sym (ap (λ (y : Board). timer_at y i) board)

    kept : with_timer b₁ i (timer_at b₁ i) ≡ b₁
    kept = ap
        (λ (l : List Timer). record { timers = l; booking = b₁.booking; nvic = b₁.nvic; pads = b₁.pads; clocks = b₁.clocks; counts = b₁.counts })
        (set-get_or b₁.timers i no_timer)

    go : (z : Bool) → eqb events 0 ≡ z → b₂ ≡ cond z b₁ (with_timer b₁ i (with_inst s (timer_at b₁ i).inst)) → b₂ ≡ with_timer b₁ i s
    go true q h = h ∙ sym (ap (λ (u : Timer). with_timer b₁ i u) (idle (eqb-true events 0 q) ∙ same) ∙ kept)
    go false q h = h ∙ ap (λ (k : Inst). with_timer b₁ i (with_inst s k)) (sym (fixed ∙ ap (λ (u : Timer). u.inst) same))

module _ (b b₁ b₂ b₃ b₄ : Board) (i cycle div places : ℕ) (t : Timer) (r : Ran) (load : t ≡ timer_at b i) (steps : div ≡ divider_of b t) where
  same-run : run most_events cycle div places t b.pads ≡ delivered b i cycle places
  unfolding delivered
  same-run =
      ap (λ (n : ℕ). run most_events cycle n places t b.pads) steps
      ∙ ap (λ (u : Timer). run most_events cycle (divider_of b u) places u b.pads) load

  pub delivers : (n : ℕ) (u u₁ : Lent)
      → Ends (run most_events cycle div places t b.pads) b b₁ (book u 0) (book u₁ n) r
      → Room n u
      → b₂ ≡ cond (eqb r.delivered.events 0) b₁ (with_timer b₁ i (with_inst r.timer (timer_at b₁ i).inst)) → b₃ ≡ line_settled i r.timer b₂ → b₄ ≡ rebooked i r.timer cycle b₃
      → Delivers (delivered b i cycle places) b i cycle b₄ r.delivered n u u₁
  unfolding after_delivery
  delivers n u u₁ e' x store' line book' =
      let o = delivered b i cycle places in
      let store : b₂ ≡ with_timer b₁ i r.timer =
      stored b b₁ b₂ _ i r.delivered.events t r.timer load e'.board (ap (λ (u : Timer). u.inst) e'.timer ∙ inst-run most_events cycle div places t b.pads)
      (λ z. e'.timer ∙ run-idle most_events cycle div places t b.pads (sym e'.events ∙ z)) store' in
      let e : Ends o b b₁ (book u 0) (book u₁ n) r =
      subst (λ (q : Run). Ends q b b₁ (book u 0) (book u₁ n) r) same-run e' in
      record {
        number = e.number;
        events = e.events;
        board = book' ∙ ap (rebooked i r.timer cycle) (line ∙ ap (line_settled i r.timer) (store ∙ ap (λ (u : Board). with_timer u i r.timer) e.board))
            ∙ ap (λ (u : Timer). rebooked i u cycle (line_settled i u (with_pads (with_timer b i u) o.pads))) e.timer;
        entries = holds o.entries u u₁ n e.entries x;
      }
