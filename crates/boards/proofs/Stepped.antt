-- What a delivery and a write do to a timer of a board that calls lead to, of the statement of specs/Boards.antt. Assumes nothing.
use Rattle.std.specs.Option.{is_some, unwrap_or}
use mathlib.Core.Path.{◌≡◌, refl, sym, ap, ◌∙◌, subst}
use mathlib.Core.Bool.{Bool, true, false, cond}
use mathlib.Core.List.{List}
use Prim.Native.Nat.{ℕ, zero, suc, ◌-◌, ◌≤◌, ◌<◌}
use native.Mathlib.Omega.{arith}
use lib.Dec.{ltb}
use lib.ListN.{length}
use Rattle.tim.specs.declared.Timer.{Timer}
use Rattle.tim.specs.declared.Due.{Due}
use Rattle.tim.specs.declared.Due.TheVariants.{At, Stopped}
use Rattle.tim.specs.declared.Next.TheVariants.{Update, Compare}
use Rattle.tim.specs.Next.{next_event}
use Rattle.book.specs.Book.{Entry}
use Rattle.regs.specs.declared.Written.{Written}
use Rattle.regs.specs.Regs as R
use Rattle.follows.specs.Seen as S
use Rattle.follows.specs.Seen.{seen, Within, Left}
use Rattle.follows.specs.Follows.{Delivered}
use Rattle.follows.proofs.Theorem.{follows}
use Rattle.machine.specs.Board.{Board, Pads, timer_at, with_timer, with_pads, with_last}
use Rattle.machine.specs.Sys as Sys
use Rattle.machine.specs.Deliver.{Run, divider_of, line_settled, rebooked, turn, turn_of, due_by, handled as run, stop, most_events, delivered, after_delivery}
use Rattle.machine.specs.Deliver as D
use Rattle.machine.specs.Call as C
use Rattle.machine.specs.Call.{Outcome, served}
use Rattle.machine.specs.Step.{refuse_if, absent, odd_size, cycle_astray, book_full, clock_on, register, written, counter_astray, followed, delivered_to, step}
use Rattle.machine.specs.Sound.{Sound}
use Rattle.machine.specs.Demand1.{reached}
use Rattle.machine.proofs.Routing.{either}
use Rattle.machine.proofs.Reach.{sound-after}
use Rattle.boards.specs.Boards.{div_of, value_on, StepDelivers, StepWrites}
use Rattle.boards.proofs.Kept.{at_place, not-astray, kept-after}

pub never : (n : ℕ) → suc n ≡ 0 → ⊥
never n e = omega arith

-- ---- a delivery's timer is follows'

pub turn-same : (t : Timer) (p : Pads) (d : Due) (div : ℕ) → (turn_of t p d div).timer ≡ S.applied t div d
unfolding turn
turn-same t p (At x Update) div = refl
turn-same t p (At x (Compare ch)) div = refl
turn-same t p Stopped div = refl

-- answered 0: all events due are handled
abbrev Handled : ℕ → ℕ → ℕ → Timer → Run → Type 0
Handled f now div t r = (r.timer ≡ S.deliver f now div t) × (due_by (next_event r.timer) now ≡ false)

one-run : (f now div : ℕ) (t : Timer) (p : Pads) (r : Run) (es : List Entry) (q l : Bool) → due_by (next_event t) now ≡ q
    → (r.number ≡ 0 → Handled f now div (S.applied t div (next_event t)) r)
    → (cond q (cond l (stop t p 8) (D.after_turn es r)) (stop t p 0)).number ≡ 0
    → ((cond q (cond l (stop t p 8) (D.after_turn es r)) (stop t p 0)).timer ≡ cond (due_by (next_event t) now) (S.deliver f now div (S.applied t div (next_event t))) t)
    × (due_by (next_event (cond q (cond l (stop t p 8) (D.after_turn es r)) (stop t p 0)).timer) now ≡ false)
one-run f now div t p r es false l a ih z =
    (sym (ap (λ (c : Bool). cond c (S.deliver f now div (S.applied t div (next_event t))) t) a), a)
one-run f now div t p r es true true a ih z = absurd (never 7 z)
one-run f now div t p r es true false a ih z =
    ((ih z).0 ∙ sym (ap (λ (c : Bool). cond c (S.deliver f now div (S.applied t div (next_event t))) t) a), (ih z).1)

nothing_left : (q : Bool) → ◌≡◌ {A = ℕ} (cond q 8 0) 0 → q ≡ false
nothing_left true z = absurd (never 7 z)
nothing_left false z = refl

pub run-same : (f now div left : ℕ) (t : Timer) (p : Pads) → (run f now div left t p).number ≡ 0 → Handled f now div t (run f now div left t p)
unfolding run S.deliver
run-same zero now div left t p z = (refl, nothing_left (due_by (next_event t) now) z)
run-same (suc f) now div left t p z =
    let u = turn_of t p (next_event t) div in
    one-run f now div t p (run f now div (left - length u.entries) u.timer u.pads) u.entries (due_by (next_event t) now) (ltb left 4) refl
    (λ y. subst (λ (v : Timer). Handled f now div v (run f now div (left - length u.entries) u.timer u.pads)) (turn-same t p (next_event t) div)
    (run-same f now div (left - length u.entries) u.timer u.pads y)) z

-- ---- a call answered 0

-- was not refused
pub record Passed (c : Bool) (x o : Outcome) : Type 0 where
  pub test : c ≡ false
  pub is : x ≡ o
  pub number : o.number ≡ 0

pub peel : (c : Bool) (n : ℕ) (b : Board) (o : Outcome) → (n ≡ 0 → ⊥) → (refuse_if c n b o).number ≡ 0 → Passed c (refuse_if c n b o) o
peel true n b o ne z = absurd (ne z)
peel false n b o ne z = record { test = refl; is = refl; number = z }

module _ (b : Board) (s : Sound b) (i cycle : ℕ) (l : i < b.counts.timers) where
  -- its timer, after a delivery and after a write
  pub delivered-timer : (places : ℕ) → timer_at (delivered_to b i cycle places).board i ≡ (delivered b i cycle places).timer
  unfolding delivered_to after_delivery rebooked line_settled
  delivered-timer places = at_place b i (delivered b i cycle places).timer s.timers s.few-timers l

  pub followed-timer : (w : Written) → timer_at (followed b i cycle w).board i ≡ w.timer
  unfolding followed line_settled rebooked
  followed-timer w =
      let t = w.timer in
      let q = cond (is_some w.drive) (Sys.drive_outputs t (unwrap_or w.drive 0) b.pads).pads b.pads in
      let c = with_pads (with_timer b i t) q in
      let m = cond w.line (line_settled i t c) c in
      let e : timer_at c i ≡ t = at_place b i t s.timers s.few-timers l in
      let k : timer_at m i ≡ t = either (λ (x : Board). timer_at x i ≡ t) w.line e e in
      let z : timer_at (cond w.book (rebooked i t cycle m) m) i ≡ t = either (λ (x : Board). timer_at x i ≡ t) w.book k k in
      z

  -- the calls, answered 0
  pub delivers-so : (places : ℕ) → (step b (C.deliver i cycle places)).number ≡ 0 → (step b (C.deliver i cycle places) ≡ delivered_to b i cycle places) × ((delivered_to b i cycle places).number ≡ 0)
  unfolding step
  delivers-so places z =
      let p1 = peel (absent i b.counts.timers) 2 b (refuse_if (cycle_astray b cycle) 5 b (refuse_if (book_full 4 places) 6 b (delivered_to b i cycle places))) (λ e. omega arith) z in
      let p2 = peel (cycle_astray b cycle) 5 b (refuse_if (book_full 4 places) 6 b (delivered_to b i cycle places)) (λ e. omega arith) p1.number in
      let p3 = peel (book_full 4 places) 6 b (delivered_to b i cycle places) (λ e. omega arith) p2.number in
      (p1.is ∙ p2.is ∙ p3.is, p3.number)

  pub handled : (places : ℕ) → (delivered_to b i cycle places).number ≡ 0 → Handled most_events cycle (div_of b i) (timer_at b i) (delivered b i cycle places)
  unfolding delivered_to delivered
  handled places z = run-same most_events cycle (div_of b i) places (timer_at b i) b.pads z

  abbrev w : ℕ → ℕ → ℕ → Written
  w offset size value = written b (timer_at b i) offset size value cycle

  pub writes-so : (offset size value places : ℕ) → clock_on b (timer_at b i) ≡ true → (step b (C.write i offset size value cycle places)).number ≡ 0
      → (step b (C.write i offset size value cycle places) ≡ followed b i cycle (w offset size value)) × (cycle_astray b cycle ≡ false)
  unfolding step
  writes-so offset size value places on z =
      let o4 = cond (clock_on b (timer_at b i)) (refuse_if (counter_astray (register offset) (w offset size value).timer) 7 b (followed b i cycle (w offset size value))) (served 0 (with_last b cycle)) in
      let p1 = peel (absent i b.counts.timers) 2 b (refuse_if (odd_size size) 3 b (refuse_if (cycle_astray b cycle) 5 b (refuse_if (book_full 4 places) 6 b o4))) (λ e. omega arith) z in
      let p2 = peel (odd_size size) 3 b (refuse_if (cycle_astray b cycle) 5 b (refuse_if (book_full 4 places) 6 b o4)) (λ e. omega arith) p1.number in
      let p3 = peel (cycle_astray b cycle) 5 b (refuse_if (book_full 4 places) 6 b o4) (λ e. omega arith) p2.number in
      let p4 = peel (book_full 4 places) 6 b o4 (λ e. omega arith) p3.number in
      let on4 : o4 ≡ refuse_if (counter_astray (register offset) (w offset size value).timer) 7 b (followed b i cycle (w offset size value)) =
      ap (λ (c : Bool). cond c (refuse_if (counter_astray (register offset) (w offset size value).timer) 7 b (followed b i cycle (w offset size value))) (served 0 (with_last b cycle))) on in
      let p5 = peel (counter_astray (register offset) (w offset size value).timer) 7 b (followed b i cycle (w offset size value)) (λ e. omega arith) (ap (λ (o : Outcome). o.number) (sym on4) ∙ p4.number) in
      (p1.is ∙ p2.is ∙ p3.is ∙ p4.is ∙ on4 ∙ p5.is, p3.test)

  pub written_is : (offset size value : ℕ) → (w offset size value).timer ≡ (R.reg_written (timer_at b i) (register offset) (value_on b i offset size value cycle) cycle (div_of b i)).timer
  unfolding written
  written_is offset size value = refl

-- ---- the statement

pub delivers : StepDelivers
delivers cs i a cycle places l h from le d z =
    let b = reached cs in
    let s = sound-after cs in
    let p = delivers-so b s i cycle l places z in
    let q = handled b s i cycle l places p.1 in
    let same : timer_at (step b (C.deliver i cycle places)).board i ≡ (delivered b i cycle places).timer =
    ap (λ (o : Outcome). timer_at o.board i) p.0 ∙ delivered-timer b s i cycle l places in
    let left : Delivered (S.deliver most_events cycle (div_of b i) (timer_at b i)) cycle = subst (λ (t : Timer). Delivered t cycle) q.0 q.1 in (
      follows.deliveries most_events (timer_at b i) (div_of b i) a cycle (record { timed = (kept-after cs i l).timed; within = follows.upward (timer_at b i) a from d h; came = from }) le d left tt
          ∙ ap (λ (t : Timer). seen t (div_of b i) cycle) (sym (same ∙ q.0)),
      subst (λ (t : Timer). Delivered t cycle) (sym same) q.1,
    )

pub writes : StepWrites
writes cs f i offset size value cycle places l h d on z within left =
    let b = reached cs in
    let s = sound-after cs in
    let p = writes-so b s i cycle l offset size value places on z in
    let o = kept-after cs i l in
    let u : Timer = (R.reg_written (timer_at b i) (register offset) (value_on b i offset size value cycle) cycle (div_of b i)).timer in
    let same : timer_at (step b (C.write i offset size value cycle places)).board i ≡ u =
    ap (λ (x : Outcome). timer_at x.board i) p.0 ∙ followed-timer b s i cycle l (written b (timer_at b i) offset size value cycle) ∙ written_is b s i cycle l offset size value in
    let early : b.counts.last ≤ cycle = not-astray b cycle p.1 in
    let came : (timer_at b i).count.base ≤ cycle = omega (arith, o.based) in
    follows.writes f (timer_at b i) (div_of b i) (register offset) (value_on b i offset size value cycle) cycle
    (record { timed = o.timed; within = follows.upward (timer_at b i) cycle came d h; came = came }) d (subst Within same within) (subst (λ (t : Timer). Delivered (S.deliver f cycle (div_of b i) t) cycle) same left) tt
    ∙ ap (λ (t : Timer). seen (S.deliver f cycle (div_of b i) t) (div_of b i) cycle) (sym same)
