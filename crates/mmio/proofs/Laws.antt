-- The calls over any board: the callees' equations in, step's answer out. Assumes nothing.
use Rattle.std.specs.Option.{is_some, unwrap_or}
use Rattle.std.proofs.Common.{Option, Some, None}
use mathlib.Core.Path.{◌≡◌, refl, ap, sym, subst, ◌∙◌}
use mathlib.Core.Bool.{Bool, true, false, cond, not, ◌&&◌}
use mathlib.Core.List.{List, [], ◌∷◌}
use Prim.Native.Nat.{ℕ, ◌<◌}
use native.Mathlib.Omega.{arith}
use lib.Dec.{eqb}
use borrow.Author.Tests.{not-true, not-false}
use lib.Ieee.{Float}
use lib.ListN.{length}
use lib.Seq.{set-set, set-get_or}
use Rattle.tim.specs.declared.Timer.{Timer}
use Rattle.tim.specs.declared.Inst.{Inst}
use Rattle.tim.specs.declared.Due.TheVariants.{Stopped}
use Rattle.tim.specs.Timer.{Fit}
use Rattle.tim.specs.Count.{cnt_at}
use Rattle.tim.specs.Next.{next_event}
use Rattle.tim.proofs.Fit.{either}
use Rattle.regs.specs.Regs as R
use Rattle.tim.specs.Change.{max_of, reset_state}
use Rattle.periph.specs.Lane.{lane_read}
use Rattle.book.specs.Book.{Book, book, puts, Holds, Room, Lent}
use Rattle.book.proofs.Laws.{holds}
use Rattle.machine.specs.Board.{Pads, Board, no_timer, timer_at, with_timer, with_pads, with_last}
use Rattle.machine.specs.Sys.{drive_outputs}
use Rattle.machine.specs.Deliver.{divider_of, line_settled, rebooked, delivered}
use Rattle.machine.specs.Call.{Outcome, read, peek, reset_timer, deliver}
use Rattle.machine.specs.Step.{step, clock_on, register, followed, timer_reset, delivered_to}
use Rattle.machine.specs.Refusals.{refusals, first, no_such_index, bad_size, clock_astray, book_full}
use Rattle.machine.proofs.NumberLaws.{performed}
use Rattle.state.specs.View.{view}
use Rattle.state.proofs.InRange.{bounded}
use Rattle.context.proofs.Laws.{stored_there}
use Rattle.outputs.specs.Outputs.{Driven}
use Rattle.delivery.specs.declared.Delivered.{Delivered}
use Rattle.delivery.specs.Delivery.{Delivers, number_of}
use Rattle.answer.specs.declared.Answer.{Answer}
use Rattle.answer.specs.Promise.{answer, Answers}
use Rattle.answer.proofs.Given.{Passed, passed, timer-passed, turns-away, turns-away-book, serves, serves-book}
use Rattle.mmio.specs.Leaves.{Leaves, DrivenIf, after}

-- the numbers that `answer::check_timer_and_book` looks at
abbrev pub asked : ℕ → ℕ → Board → ℕ → ℕ → ℕ
asked timer size b cycle room = first (no_such_index timer b.counts.timers ∷ bad_size size ∷ clock_astray b cycle ∷ book_full 4 room ∷ [])

-- what holds of an admitted call: its timer is one of eight, and so on
pub admitted : (w : List ℕ) (x : List Float) (timer size cycle room num : ℕ) → num ≡ asked timer size (view w x) cycle room → num ≡ 0 → Passed timer 8 size cycle 4 room
admitted w x timer size cycle room num h z =
    let p = passed (view w x) timer (view w x).counts.timers size cycle 4 room (sym z ∙ h) in
    record { index-lt = omega (arith, p.index-lt, (bounded w x).timers-le); size-le = p.size-le; cycle-le = p.cycle-le; places-le = p.places-le }

-- a timer's place
pub of-eight : (w : List ℕ) (x : List Float) (i : ℕ) → i < 8 → i < length (view w x).timers
of-eight w x i h = omega (arith, (bounded w x).timers-length)

pub loaded-fit : (w : List ℕ) (x : List Float) (i : ℕ) (t : Timer) → t ≡ timer_at (view w x) i → Fit t
loaded-fit w x i t load = rw load ((bounded w x).timer-fit i)

-- ---- reads

-- the numbers that `answer::check_timer` looks at
abbrev pub barred : ℕ → ℕ → Board → ℕ → ℕ
barred timer size b cycle = first (no_such_index timer b.counts.timers ∷ bad_size size ∷ clock_astray b cycle ∷ [])

-- what holds of an admitted read
pub read-admitted : (w : List ℕ) (x : List Float) (timer size cycle num : ℕ) → num ≡ barred timer size (view w x) cycle → num ≡ 0 → Passed timer 8 size cycle 0 0
read-admitted w x timer size cycle num h z =
    let p = timer-passed (view w x) timer (view w x).counts.timers size cycle (sym z ∙ h) in
    record { index-lt = omega (arith, p.index-lt, (bounded w x).timers-le); size-le = p.size-le; cycle-le = p.cycle-le; places-le = p.places-le }

module _ (w : List ℕ) (x : List Float) (timer offset size cycle num : ℕ) (r : Answer) (h : num ≡ barred timer size (view w x) cycle) where
  read_first : num ≡ first (refusals (view w x) (read timer offset size cycle))
  unfolding refusals
  read_first = h

  pub read-away : (num ≡ 0 → ⊥) → r ≡ answer num 0 0 → Answers (step (view w x) (read timer offset size cycle)) r w w x x
  read-away z a = turns-away w x (read timer offset size cycle) num r read_first z a

  module _ (z : num ≡ 0) (on : Bool) (gate : on ≡ clock_on (view w x) (timer_at (view w x) timer)) where
    pub read-on : (v : ℕ) → not on ≡ false → v ≡ lane_read (R.reg_read (timer_at (view w x) timer) (register offset) cycle) offset size → r ≡ answer 0 v 0
        → Answers (step (view w x) (read timer offset size cycle)) r w w x x
    unfolding performed
    read-on v o q a =
        rw a (serves (view w x) (read timer offset size cycle) (answer 0 v 0) w w x x (sym z ∙ read_first) refl (rw (sym gate ∙ not-false on o) q) refl refl)

    pub read_off : not on ≡ true → r ≡ answer 0 0 0 → Answers (step (view w x) (read timer offset size cycle)) r w w x x
    unfolding performed
    read_off o a =
        rw a (serves (view w x) (read timer offset size cycle) (answer 0 0 0) w w x x (sym z ∙ read_first) refl (rw (sym gate ∙ not-true on o) refl) refl refl)

-- the counter, read directly
pub counter-read : (t : Timer) (offset cycle c : ℕ) → register offset ≡ 0x24 → c ≡ cnt_at t cycle → c ≡ lane_read (R.reg_read t (register offset) cycle) offset 4
unfolding R.reg_read lane_read
counter-read t offset cycle c h e = e ∙ ap (λ (q : ℕ). R.reg_read t q cycle) (sym h)

-- and by way of its lane
pub counter-lane : (t : Timer) (cycle : ℕ) → lane_read (R.reg_read t (register 0x24) cycle) 0x24 4 ≡ cnt_at t cycle
unfolding R.reg_read lane_read
counter-lane t cycle = refl

module _ (w : List ℕ) (x : List Float) (timer offset cycle num : ℕ) (r : Answer) (h : num ≡ barred timer 4 (view w x) cycle) where
  peek-first : num ≡ first (refusals (view w x) (peek timer offset cycle))
  unfolding first refusals
  peek-first = h

  pub peek-away : (num ≡ 0 → ⊥) → r ≡ answer num 0 0 → Answers (step (view w x) (peek timer offset cycle)) r w w x x
  peek-away z a = turns-away w x (peek timer offset cycle) num r peek-first z a

  pub peek-gives : num ≡ 0 → (v : ℕ) → v ≡ lane_read (R.reg_read (timer_at (view w x) timer) (register offset) cycle) offset 4 → r ≡ answer 0 v 0
      → Answers (step (view w x) (peek timer offset cycle)) r w w x x
  unfolding performed lane_read
  peek-gives z v p a = rw a (serves (view w x) (peek timer offset cycle) (answer 0 v 0) w w x x (sym z ∙ peek-first) refl p refl refl)

-- ---- what follows where a timer was stored
pub drives-on : (drive : Option ℕ) (t : Timer) (cnt cycle : ℕ) (b b₁ : Board) (k k₁ : Book) → drive ≡ Some cnt → Driven (drive_outputs t cnt b.pads) cycle b b₁ k k₁
    → DrivenIf drive t cycle b b₁ k k₁
drives-on drive t cnt cycle b b₁ k k₁ o m = rw o (record { board = m.board; entries = m.entries })

pub drives-off : (drive : Option ℕ) (t : Timer) (cycle : ℕ) (b : Board) (k : Book) → drive ≡ None → DrivenIf drive t cycle b b k k
unfolding puts
drives-off drive t cycle b k o = rw o (record { board = refl; entries = refl })

-- outputs and lines leave the timers
drive-there : (drive : Option ℕ) (t : Timer) (i cycle : ℕ) (b b₁ : Board) (k k₁ : Book) → DrivenIf drive t cycle b b₁ k k₁ → timer_at b₁ i ≡ timer_at b i
drive-there drive t i cycle b b₁ k k₁ d = ap (λ (y : Board). timer_at y i) d.board

line-there : (line : Bool) (t : Timer) (i : ℕ) (b b₁ : Board) → b₁ ≡ cond line (line_settled i t b) b → timer_at b₁ i ≡ timer_at b i
unfolding line_settled
line-there line t i b b₁ e = ap (λ (y : Board). timer_at y i) e ∙ either (λ (y : Board). timer_at y i ≡ timer_at b i) line refl refl

-- a board with its timers listed anew
abbrev with_timers : Board → List Timer → Board
with_timers b ts = record { timers = ts; booking = b.booking; nvic = b.nvic; pads = b.pads; clocks = b.clocks; counts = b.counts }

-- a timer stored where it stands
same-timer : (b : Board) (i : ℕ) → b ≡ with_timer b i (timer_at b i)
same-timer b i = sym (ap (with_timers b) (set-get_or b.timers i no_timer))

pub follows : (b b₂ b₃ b₄ b₅ : Board) (i cycle : ℕ) (drive : Option ℕ) (lined booked : Bool) (k k₁ : Book) → DrivenIf drive (timer_at b i) cycle b b₂ k k₁
    → b₃ ≡ cond lined (line_settled i (timer_at b₂ i) b₂) b₂ → b₄ ≡ cond booked (rebooked i (timer_at b₃ i) cycle b₃) b₃ → b₅ ≡ with_last b₄ cycle
    → Leaves (after b i cycle drive lined booked) b₅ k k₁
unfolding followed
follows b b₂ b₃ b₄ b₅ i cycle drive lined booked k k₁ d e₃ e₄ e₅ =
    let t = timer_at b i in
    let moved : Pads = cond (is_some drive) (drive_outputs t (unwrap_or drive 0) b.pads).pads b.pads in
    let e₂ : b₂ ≡ with_pads (with_timer b i t) moved = d.board ∙ ap (λ (y : Board). with_pads y moved) (same-timer b i) in
    let there : timer_at b₂ i ≡ t = drive-there drive t i cycle b b₂ k k₁ d in
    let last : timer_at b₃ i ≡ t = line-there lined (timer_at b₂ i) i b₂ b₃ e₃ ∙ there in
    record {
      board = e₅ ∙ ap (λ (y : Board). with_last y cycle) (e₄ ∙ ap (λ (y : Timer). cond booked (rebooked i y cycle b₃) b₃) last
          ∙ ap (λ (y : Board). cond booked (rebooked i t cycle y) y)
          (e₃ ∙ ap (λ (y : Timer). cond lined (line_settled i y b₂) b₂) there ∙ ap (λ (y : Board). cond lined (line_settled i t y) y) e₂));
      entries = d.entries;
    }

-- a timer stored twice
twice : (b : Board) (i cycle : ℕ) (t : Timer) (drive : Option ℕ) (lined booked : Bool)
    → followed (with_timer b i t) i cycle (record { timer = t; drive = drive; line = lined; book = booked })
    ≡ followed b i cycle (record { timer = t; drive = drive; line = lined; book = booked })
unfolding followed
twice b i cycle t drive lined booked = rw (set-set b.timers i t t)

-- of a timer that was just stored it is `followed` of the board before
pub after-stored : (b b₁ : Board) (i cycle : ℕ) (t : Timer) (drive : Option ℕ) (lined booked : Bool) → i < length b.timers → b₁ ≡ with_timer b i t
    → after b₁ i cycle drive lined booked ≡ followed b i cycle (record { timer = t; drive = drive; line = lined; book = booked })
after-stored b b₁ i cycle t drive lined booked l e =
    ap (λ (y : Timer). followed b₁ i cycle (record { timer = y; drive = drive; line = lined; book = booked })) (stored_there b b₁ i t l e)
    ∙ ap (λ (y : Board). followed y i cycle (record { timer = t; drive = drive; line = lined; book = booked })) e
    ∙ twice b i cycle t drive lined booked

-- ---- reset

-- the reset timer is stopped: it is booked for never
reset-none : (x : Inst) (div : ℕ) → next_event (reset_state x div) ≡ Stopped
unfolding next_event reset_state
reset-none x div = rw (off (not (x.manual && eqb (max_of x) 0)))
  where
    off : (b : Bool) → b && false ≡ false
    off true = refl
    off false = refl

reset-followed : (b : Board) (i cycle : ℕ)
    → followed b i cycle (record { timer = reset_state (timer_at b i).inst (divider_of b (timer_at b i)); drive = Some 0; line = true; book = true }) ≡ timer_reset b i cycle
unfolding followed timer_reset rebooked
reset-followed b i cycle = rw (reset-none (timer_at b i).inst (divider_of b (timer_at b i)))

pub resets : (b b₁ b₂ : Board) (i cycle div : ℕ) (t s : Timer) (k k₁ : Book)
    → t ≡ timer_at b i → div ≡ divider_of b t → s ≡ reset_state t.inst div
    → i < length b.timers → b₁ ≡ with_timer b i s → Leaves (after b₁ i cycle (Some 0) true true) b₂ k k₁ → Leaves (timer_reset b i cycle) b₂ k k₁
resets b b₁ b₂ i cycle div t s k k₁ load steps new l e m =
    let same : s ≡ reset_state (timer_at b i).inst (divider_of b (timer_at b i)) =
    new ∙ ap (reset_state t.inst) steps ∙ ap (λ (y : Timer). reset_state y.inst (divider_of b y)) load in
    subst (λ (o : Outcome). Leaves o b₂ k k₁)
    (after-stored b b₁ i cycle s (Some 0) true true l e
    ∙ ap (λ (y : Timer). followed b i cycle (record { timer = y; drive = Some 0; line = true; book = true })) same
    ∙ reset-followed b i cycle)
    m

module _ (w : List ℕ) (x : List Float) (timer cycle room num : ℕ) (h : num ≡ asked timer 4 (view w x) cycle room) where
  reset-first : num ≡ first (refusals (view w x) (reset_timer timer cycle room))
  unfolding first refusals
  reset-first = h

  pub reset-away : (num ≡ 0 → ⊥) → (r : Answer) → r ≡ answer num 0 0 → Answers (step (view w x) (reset_timer timer cycle room)) r w w x x
  reset-away z r a = turns-away w x (reset_timer timer cycle room) num r reset-first z a

  pub reset-away-book : (num ≡ 0 → ⊥) → (r : Answer) → r ≡ answer num 0 0 → (u : Lent) → Holds (step (view w x) (reset_timer timer cycle room)).entries u u r.count
  reset-away-book z r a u = turns-away-book (view w x) (reset_timer timer cycle room) num r u reset-first z a

  pub reset-gives : num ≡ 0 → (w₁ : List ℕ) (x₁ : List Float) (u u₁ : Lent) (k : ℕ)
      → Leaves (timer_reset (view w x) timer cycle) (view w₁ x₁) (book u 0) (book u₁ k) → Room k u
      → Answers (step (view w x) (reset_timer timer cycle room)) (answer 0 0 k) w w₁ x x₁ × Holds (step (view w x) (reset_timer timer cycle room)).entries u u₁ k
  unfolding performed timer_reset
  reset-gives z w₁ x₁ u u₁ k m f =
      let q = holds (timer_reset (view w x) timer cycle).entries u u₁ k m.entries f in (
        serves (view w x) (reset_timer timer cycle room) (answer 0 0 k) w w₁ x x₁ (sym z ∙ reset-first) refl refl q.count m.board,
        serves-book (view w x) (reset_timer timer cycle room) u u₁ k (sym z ∙ reset-first) q,
      )

-- ---- events
module _ (w : List ℕ) (x : List Float) (timer cycle room num : ℕ) (h : num ≡ asked timer 4 (view w x) cycle room) where
  deliver-first : num ≡ first (refusals (view w x) (deliver timer cycle room))
  unfolding first refusals
  deliver-first = h

  pub deliver-away : (num ≡ 0 → ⊥) → (r : Answer) → r ≡ answer num 0 0 → Answers (step (view w x) (deliver timer cycle room)) r w w x x
  deliver-away z r a = turns-away w x (deliver timer cycle room) num r deliver-first z a

  pub deliver-away-book : (num ≡ 0 → ⊥) → (r : Answer) → r ≡ answer num 0 0 → (u : Lent) → Holds (step (view w x) (deliver timer cycle room)).entries u u r.count
  deliver-away-book z r a u = turns-away-book (view w x) (deliver timer cycle room) num r u deliver-first z a

  pub deliver-gives : num ≡ 0 → (w₁ w₂ : List ℕ) (x₁ : List Float) (u u₁ : Lent) (d : Delivered) (n k : ℕ) → n ≡ number_of d.stop
      → Delivers (delivered (view w x) timer cycle room) (view w x) timer cycle (view w₁ x₁) d k u u₁ → view w₂ x₁ ≡ with_last (view w₁ x₁) cycle
      → Answers (step (view w x) (deliver timer cycle room)) (answer n d.events k) w w₂ x x₁
      × Holds (step (view w x) (deliver timer cycle room)).entries u u₁ k
  unfolding performed delivered_to
  deliver-gives z w₁ w₂ x₁ u u₁ d n k e m s = (
    serves (view w x) (deliver timer cycle room) (answer n d.events k) w w₂ x x₁ (sym z ∙ deliver-first) (e ∙ m.number) m.events m.entries.count
        (s ∙ ap (λ (y : Board). with_last y cycle) m.board),
    serves-book (view w x) (deliver timer cycle room) u u₁ k (sym z ∙ deliver-first) m.entries,
  )
