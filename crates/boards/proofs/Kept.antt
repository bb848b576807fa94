-- The timers of every board that calls lead to: each steps by its prescaler and divider, and its reference is not after the last call. Assumes nothing.
use Rattle.std.specs.Option.{is_some, unwrap_or}
use mathlib.Core.Path.{◌≡◌, refl, sym, ap, ◌∙◌, subst}
use mathlib.Core.Bool.{Bool, true, false, cond, not, ◌&&◌, ◌||◌}
use mathlib.Core.List.{List, [], ◌∷◌, ◌++◌, map}
use Prim.Native.Nat.{ℕ, zero, suc, ◌+◌, ◌-◌, ◌≤◌, ◌<◌}
use mathlib.Core.Logic.{◌⊎◌, inl, inr}
use native.Mathlib.Nat.{not-suc-le-zero, le_of_suc-le-suc, le_refl, eq-or-lt_of_le, zero-add, add-zero}
use native.Mathlib.Numerals.{add-one}
use native.Mathlib.Omega.{arith}
use lib.Dec.{eqb, ltb, leb}
use lib.Ieee.{Float}
use lib.Ieee as Ieee
use lib.ListN.{get_or, length, length-set}
use lib.Seq.{get_or-set_same, get_or-set_other}
use borrow.Author.Tests.{eqb-true, eqb-false, leb-true, leb-false, ltb-false, not-false}
use Rattle.tim.specs.declared.Timer.{Timer}
use Rattle.tim.specs.declared.Inst.{Inst}
use Rattle.tim.specs.declared.Due.{Due}
use Rattle.tim.specs.declared.Due.TheVariants.{At, Stopped}
use Rattle.tim.specs.declared.Next.TheVariants.{Update, Compare}
use Rattle.tim.specs.Next.{next_event}
use Rattle.tim.specs.Change as T
use Rattle.regs.specs.declared.Written.{Written}
use Rattle.clk.specs.declared.ClockTree.{ClockTree}
use Rattle.clk.specs.Clk.{flat_tree, timer_div, in_range, good, differing}
use Rattle.real.specs.Real.{positive}
use Rattle.pins.specs.declared.ExtDrive.{ExtDrive}
use Rattle.pins.specs.Clock as Clock
use Rattle.periph.specs.Lane.{lane_write}
use Rattle.follows.specs.Seen.{Left}
use Rattle.follows.proofs.Ports as P
use Rattle.follows.proofs.Standing.{either-sync}
use Rattle.follows.proofs.Lasting.{left-updated, left-compared, left-retimed, left-reset}
use Rattle.machine.specs.Board.{Board, Pads, timer_at, no_timer, with_timer, with_pads, with_clocks, filled, fresh_board, first_board, one}
use Rattle.machine.specs.Sys as Sys
use Rattle.machine.specs.Deliver.{Run, divider_of, line_settled, rebooked, turn, turn_of, due_by, most_events, delivered, after_delivery}
use Rattle.machine.specs.Deliver as D
use Rattle.machine.specs.Call.{Setup, Call, set_up, clock_tree, enable, set_pin, drive_pin, reset_pins, write, reset_timer, deliver, clear_pending, Outcome, Question, BookCall, pin_setting, outside_drive, pin_reset, writing, resetting, delivery, ask, lend}
use Rattle.machine.specs.Step.{absent, odd_size, cycle_astray, book_full, socket_taken, within_limits, clock_on, register, present, written, counter_astray, followed, timer_reset, delivered_to, timer_retimed, all_retimed, tree_set, step, board_after}
use Rattle.machine.specs.Sound.{Sound}
use Rattle.machine.proofs.NumberLaws.{asked-board}
use Rattle.machine.proofs.Routing.{either, by-test}
use Rattle.machine.proofs.Reach.{inst-written, run-good, sound-step, sound-first}
use Rattle.boards.specs.Boards.{Timers}

-- ---- by a cycle, whatever the board's last

abbrev Ok : ClockTree → ℕ → Timer → Type 0
Ok tree last t = Left (timer_div tree t.inst.apb) last t

abbrev By : ℕ → Board → Type 0
By last b = (j : ℕ) → j < b.counts.timers → Ok b.clocks.tree last (timer_at b j)

later : (b : Board) (cycle : ℕ) → b.counts.last ≤ cycle → Timers b → By cycle b
later b cycle le h j l = let o = h j l in record { timed = o.timed; based = omega (arith, o.based) }

-- another timer in place i
pub at_place : (b : Board) (i : ℕ) (t : Timer) → length b.timers ≡ 8 → b.counts.timers ≤ 8 → i < b.counts.timers → timer_at (with_timer b i t) i ≡ t
at_place b i t s f l = get_or-set_same b.timers i t no_timer (omega (arith, s))

pub elsewhere : (b : Board) (i j : ℕ) (t : Timer) → (j ≡ i → ⊥) → timer_at (with_timer b i t) j ≡ timer_at b j
elsewhere b i j t n = get_or-set_other b.timers i j t no_timer n

-- of the same build
by-timer : (b : Board) (last i : ℕ) (t : Timer) → Sound b → By last b → t.inst ≡ (timer_at b i).inst → Left (divider_of b (timer_at b i)) last t → By last (with_timer b i t)
by-timer b last i t s h e o j l = go (eqb j i) refl
  where
    go : (q : Bool) → eqb j i ≡ q → Ok b.clocks.tree last (timer_at (with_timer b i t) j)
    go true q =
        let is : j ≡ i = eqb-true j i q in
        let same : timer_at (with_timer b i t) j ≡ t =
        ap (λ (k : ℕ). timer_at (with_timer b i t) k) is ∙ at_place b i t s.timers s.few-timers (omega arith) in
        subst (Ok b.clocks.tree last) (sym same) (subst (λ (x : Inst). Left (timer_div b.clocks.tree x.apb) last t) (sym e) o)
    go false q = subst (Ok b.clocks.tree last) (sym (elsewhere b i j t (eqb-false j i q))) (h j l)

-- ---- the events of a delivery

turn-left : (t : Timer) (p : Pads) (d : Due) (div now : ℕ) → due_by d now ≡ true → Left div now t → Left div now (turn_of t p d div).timer
unfolding turn
turn-left t p (At x Update) div now e o = left-updated t div o.timed x now (leb-true x now e)
turn-left t p (At x (Compare ch)) div now e o = left-compared t div o.timed ch now o.based
turn-left t p Stopped div now e o = o

run-left : (f now div left : ℕ) (t : Timer) (p : Pads) → Left div now t → Left div now (D.handled f now div left t p).timer
unfolding D.handled
run-left zero now div left t p o = o
run-left (suc f) now div left t p o =
    by-test (λ (r : Run). Left div now r.timer) (due_by (next_event t) now)
    (λ e. either (λ (r : Run). Left div now r.timer) (ltb left 4) o
    (run-left f now div (left - length (turn_of t p (next_event t) div).entries) (turn_of t p (next_event t) div).timer (turn_of t p (next_event t) div).pads (turn-left t p (next_event t) div now e o)))
    (λ _. o)

-- ---- each call

abbrev Good : Outcome → Type 0
Good o = Timers o.board

pub not-astray : (b : Board) (cycle : ℕ) → cycle_astray b cycle ≡ false → b.counts.last ≤ cycle
not-astray b cycle e = go (ltb 4611686018427387904 cycle) (ltb cycle b.counts.last) refl e
  where
    go : (x y : Bool) → ltb cycle b.counts.last ≡ y → x || y ≡ false → b.counts.last ≤ cycle
    go x false q h = ltb-false cycle b.counts.last q
    go true true q h = absurd (let z : ◌≡◌ {A = ℕ} 0 1 = cc in omega arith)
    go false true q h = absurd (let z : ◌≡◌ {A = ℕ} 0 1 = cc in omega arith)

present-timer : (b : Board) (i : ℕ) → absent i b.counts.timers ≡ false → i < b.counts.timers
present-timer b i e = leb-false b.counts.timers i e

module _ (b : Board) (s : Sound b) (h : Timers b) where
  -- a write
  by-followed : (i cycle : ℕ) (w : Written) → By cycle (with_timer b i w.timer) → Good (followed b i cycle w)
  unfolding followed line_settled rebooked
  by-followed i cycle w k =
      let t = w.timer in
      let p = cond (is_some w.drive) (Sys.drive_outputs t (unwrap_or w.drive 0) b.pads).pads b.pads in
      let c = with_pads (with_timer b i t) p in
      let l = cond w.line (line_settled i t c) c in
      let kl : By cycle l = either (By cycle) w.line k k in
      let kb : By cycle (cond w.book (rebooked i t cycle l) l) = either (By cycle) w.book kl kl in
      kb

  left-written : (i offset size value cycle : ℕ) → i < b.counts.timers → b.counts.last ≤ cycle
      → Left (divider_of b (timer_at b i)) cycle (written b (timer_at b i) offset size value cycle).timer
  unfolding written
  left-written i offset size value cycle l le =
      let o = h i l in
      P.left (timer_at b i) (divider_of b (timer_at b i)) o.timed cycle (omega (arith, o.based)) (register offset) (lane_write (present (timer_at b i) (register offset) cycle) offset size value)

  kept-write : (i offset size value cycle places : ℕ) → Good (step b (write i offset size value cycle places))
  unfolding step
  kept-write i offset size value cycle places =
      let w = written b (timer_at b i) offset size value cycle in
      by-test Good (absent i b.counts.timers) (λ _. h)
      (λ a. either Good (odd_size size) h
      (by-test Good (cycle_astray b cycle) (λ _. h)
      (λ e.
      let le = not-astray b cycle e in
      let l = present-timer b i a in
      either Good (book_full 4 places) h
      (either Good (clock_on b (timer_at b i))
      (either Good (counter_astray (register offset) w.timer) h
      (by-followed i cycle w
      (by-timer b cycle i w.timer s (later b cycle le h) (inst-written b (timer_at b i) offset size value cycle) (left-written i offset size value cycle l le))))
      (later b cycle le h)))))

  -- a timer's reset
  kept-reset : (i cycle : ℕ) → i < b.counts.timers → b.counts.last ≤ cycle → Good (timer_reset b i cycle)
  unfolding timer_reset line_settled T.reset_state
  kept-reset i cycle l le =
      by-timer b cycle i (T.reset_state (timer_at b i).inst (divider_of b (timer_at b i))) s (later b cycle le h) refl
      (left-reset (timer_at b i).inst (divider_of b (timer_at b i)) cycle (h i l).timed.pos)

  -- a delivery
  kept-deliver : (i cycle places : ℕ) → i < b.counts.timers → b.counts.last ≤ cycle → Good (delivered_to b i cycle places)
  unfolding delivered_to delivered after_delivery rebooked line_settled
  kept-deliver i cycle places l le =
      let o = h i l in
      let r = run-good most_events cycle (divider_of b (timer_at b i)) places (timer_at b i).inst (timer_at b i) b.pads (record { inst = refl; pads = s.pads }) in
      by-timer b cycle i (D.handled most_events cycle (divider_of b (timer_at b i)) places (timer_at b i) b.pads).timer s (later b cycle le h) r.inst
      (run-left most_events cycle (divider_of b (timer_at b i)) places (timer_at b i) b.pads (record { timed = o.timed; based = omega (arith, o.based) }))

-- ---- the clock tree

both : (a b : Bool) → a && b ≡ true → (a ≡ true) × (b ≡ true)
both true b e = (refl, e)
both false b e = absurd (let z : ◌≡◌ {A = ℕ} 0 1 = cc in omega arith)

-- a good tree's dividers are above 0
good-div : (t : ClockTree) (apb : ℕ) → good t ≡ true → 0 < timer_div t apb
unfolding good timer_div
good-div t apb e =
    let p7 = both (positive t.sysclk_hz && positive t.hclk_hz && in_range t.ppre1 && in_range t.ppre2 && in_range t.ppre3 && in_range t.ppre4 && in_range t.tim1) (in_range t.tim2) e in
    let p6 = both (positive t.sysclk_hz && positive t.hclk_hz && in_range t.ppre1 && in_range t.ppre2 && in_range t.ppre3 && in_range t.ppre4) (in_range t.tim1) p7.0 in
    let p5 = both (positive t.sysclk_hz && positive t.hclk_hz && in_range t.ppre1 && in_range t.ppre2 && in_range t.ppre3) (in_range t.ppre4) p6.0 in
    let p4 = both (positive t.sysclk_hz && positive t.hclk_hz && in_range t.ppre1 && in_range t.ppre2) (in_range t.ppre3) p5.0 in
    let above : (d : ℕ) → in_range d ≡ true → 0 < d = λ d q. leb-true 1 d (both (leb 1 d) (leb d 8192) q).0 in
    either (λ (d : ℕ). 0 < d) (eqb apb 1) (above t.tim1 p6.1) (either (λ (d : ℕ). 0 < d) (eqb apb 2) (above t.tim2 p7.1)
    (either (λ (d : ℕ). 0 < d) (eqb apb 3) (above t.ppre3 p4.1) (above t.ppre4 p5.1)))

-- a tree that is not another one has the same dividers
none_other : (a b : Bool) → a || b ≡ false → (a ≡ false) × (b ≡ false)
none_other false b e = (refl, e)
none_other true b e = absurd (let z : ◌≡◌ {A = ℕ} 0 1 = cc in omega arith)

same_div : (a b : ClockTree) (apb : ℕ) → differing a b ≡ false → timer_div a apb ≡ timer_div b apb
unfolding differing timer_div
same_div a b apb e =
    let q7 = none_other (Ieee.ne a.hclk_hz b.hclk_hz || not (eqb a.ppre1 b.ppre1) || not (eqb a.ppre2 b.ppre2) || not (eqb a.ppre3 b.ppre3) || not (eqb a.ppre4 b.ppre4) || not (eqb a.tim1 b.tim1)) (not (eqb a.tim2 b.tim2)) e in
    let q6 = none_other (Ieee.ne a.hclk_hz b.hclk_hz || not (eqb a.ppre1 b.ppre1) || not (eqb a.ppre2 b.ppre2) || not (eqb a.ppre3 b.ppre3) || not (eqb a.ppre4 b.ppre4)) (not (eqb a.tim1 b.tim1)) q7.0 in
    let q5 = none_other (Ieee.ne a.hclk_hz b.hclk_hz || not (eqb a.ppre1 b.ppre1) || not (eqb a.ppre2 b.ppre2) || not (eqb a.ppre3 b.ppre3)) (not (eqb a.ppre4 b.ppre4)) q6.0 in
    let q4 = none_other (Ieee.ne a.hclk_hz b.hclk_hz || not (eqb a.ppre1 b.ppre1) || not (eqb a.ppre2 b.ppre2)) (not (eqb a.ppre3 b.ppre3)) q5.0 in
    let is : (x y : ℕ) → not (eqb x y) ≡ false → x ≡ y = λ x y q. eqb-true x y (not-false (eqb x y) q) in
    rw (is a.tim1 b.tim1 q6.1, is a.tim2 b.tim2 q7.1, is a.ppre3 b.ppre3 q4.1, is a.ppre4 b.ppre4 q5.1)

-- the timers below k have the new dividers, the others those of d
pub record Part (cycle k : ℕ) (d : ℕ → ℕ) (b : Board) : Type 0 where
  pub places : length b.timers ≡ 8
  pub few : b.counts.timers ≤ 8
  pub good-tree : good b.clocks.tree ≡ true
  pub new : (j : ℕ) → j < b.counts.timers → j < k → Ok b.clocks.tree cycle (timer_at b j)
  pub old : (j : ℕ) → j < b.counts.timers → k ≤ j → Left (d j) cycle (timer_at b j)

inst-retimed : (t : Timer) (now div : ℕ) → (T.retimed t now div).inst ≡ t.inst
unfolding T.retimed
inst-retimed t now div = either-sync t now (λ (z : Timer). z.inst ≡ t.inst) (λ k b. refl) refl

part-set : (cycle i : ℕ) (d : ℕ → ℕ) (b : Board) → i < b.counts.timers → Part cycle i d b
    → Part cycle (i + 1) d (with_timer b i (T.retimed (timer_at b i) cycle (divider_of b (timer_at b i))))
part-set cycle i d b l p = record {
  places = length-set b.timers i t ∙ p.places;
  few = p.few;
  good-tree = p.good-tree;
  new = λ j a c. go j a c (eqb j i) refl;
  old = λ j a c. subst (Left (d j) cycle) (sym (elsewhere b i j t (λ e. omega arith))) (p.old j a (omega arith));
}
  where
    t : Timer
    t = T.retimed (timer_at b i) cycle (divider_of b (timer_at b i))

    o : Left (d i) cycle (timer_at b i)
    o = p.old i l (le_refl i)

    go : (j : ℕ) → j < b.counts.timers → j < i + 1 → (q : Bool) → eqb j i ≡ q → Ok b.clocks.tree cycle (timer_at (with_timer b i t) j)
    go j a c true q =
        let same : timer_at (with_timer b i t) j ≡ t = ap (λ (k : ℕ). timer_at (with_timer b i t) k) (eqb-true j i q) ∙ at_place b i t p.places p.few l in
        subst (Ok b.clocks.tree cycle) (sym same)
        (subst (λ (x : Inst). Left (timer_div b.clocks.tree x.apb) cycle t) (sym (inst-retimed (timer_at b i) cycle (divider_of b (timer_at b i))))
        (left-retimed (timer_at b i) (d i) o.timed (divider_of b (timer_at b i)) cycle (good-div b.clocks.tree (timer_at b i).inst.apb p.good-tree) o.based))
    go j a c false q =
        let n : j ≡ i → ⊥ = eqb-false j i q in
        subst (Ok b.clocks.tree cycle) (sym (elsewhere b i j t n)) (p.new j a (below j i c n))
      where
        below : (j i : ℕ) → j < i + 1 → (j ≡ i → ⊥) → j < i
        below j i c n = go' (eq-or-lt_of_le (le_of_suc-le-suc (rw (add-one i) at c)))
          where
            go' : (j ≡ i) ⊎ (j < i) → j < i
            go' (inl e) = absurd (n e)
            go' (inr z) = z

part-retimed : (cycle i : ℕ) (d : ℕ → ℕ) (b : Board) → i < b.counts.timers → Part cycle i d b → Part cycle (i + 1) d (timer_retimed i cycle b)
unfolding timer_retimed rebooked
part-retimed cycle i d b l p =
    let k = part-set cycle i d b l p in
    either (Part cycle (i + 1) d) (T.retimed (timer_at b i) cycle (divider_of b (timer_at b i))).count.running
    (record { places = k.places; few = k.few; good-tree = k.good-tree; new = k.new; old = k.old }) k

timers-retimed : (i cycle : ℕ) (b : Board) → (timer_retimed i cycle b).counts.timers ≡ b.counts.timers
unfolding timer_retimed rebooked
timers-retimed i cycle b =
    either (λ (c : Board). c.counts.timers ≡ b.counts.timers) (T.retimed (timer_at b i) cycle (divider_of b (timer_at b i))).count.running refl refl

timers-all : (n i cycle : ℕ) (b : Board) → (all_retimed n i cycle b).counts.timers ≡ b.counts.timers
unfolding all_retimed
timers-all zero i cycle b = refl
timers-all (suc n) i cycle b = timers-all n (i + 1) cycle (timer_retimed i cycle b) ∙ timers-retimed i cycle b

part-all : (n i cycle : ℕ) (d : ℕ → ℕ) (b : Board) → i + n ≡ b.counts.timers → Part cycle i d b → Part cycle (i + n) d (all_retimed n i cycle b)
unfolding all_retimed
part-all zero i cycle d b e p = rw (add-zero i) p
part-all (suc n) i cycle d b e p =
    let q : i + 1 + n ≡ i + suc n = omega arith in
    subst (λ (k : ℕ). Part cycle k d (all_retimed n (i + 1) cycle (timer_retimed i cycle b))) q
    (part-all n (i + 1) cycle d (timer_retimed i cycle b) (q ∙ e ∙ sym (timers-retimed i cycle b)) (part-retimed cycle i d b (omega arith) p))

module _ (b : Board) (s : Sound b) (h : Timers b) where
  kept-tree : (t : ClockTree) (cycle : ℕ) → good t ≡ true → b.counts.last ≤ cycle → By cycle (tree_set b t cycle)
  unfolding tree_set
  kept-tree t cycle g le =
      let c = with_clocks b (record { tree = t; clock = Clock.hz_set b.clocks.clock t.hclk_hz cycle; enr = b.clocks.enr }) in
      by-test (By cycle) (differing b.clocks.tree t)
      (λ e. all c refl (subst (λ (k : ℕ). Part cycle k (λ j. divider_of b (timer_at b j)) (all_retimed b.counts.timers 0 cycle c)) (zero-add b.counts.timers)
      (part-all b.counts.timers 0 cycle (λ j. divider_of b (timer_at b j)) c (zero-add b.counts.timers) (record {
        places = s.timers;
        few = s.few-timers;
        good-tree = g;
        new = λ j a z. absurd (not-suc-le-zero z);
        old = λ j a z. later b cycle le h j a;
      }))))
      (λ e j l. subst (λ (x : ℕ). Left x cycle (timer_at b j)) (same_div b.clocks.tree t (timer_at b j).inst.apb e) (later b cycle le h j l))
    where
      all : (c : Board) → c.counts.timers ≡ b.counts.timers → Part cycle b.counts.timers (λ j. divider_of b (timer_at b j)) (all_retimed b.counts.timers 0 cycle c)
          → By cycle (all_retimed b.counts.timers 0 cycle c)
      all c e p j l = p.new j l (omega (arith, timers-all b.counts.timers 0 cycle c))

-- ---- set-up

flat-div : (hz : Float) (apb : ℕ) → timer_div (flat_tree hz) apb ≡ 1
unfolding timer_div
flat-div hz apb = either (λ (d : ℕ). d ≡ 1) (eqb apb 1) refl (either (λ (d : ℕ). d ≡ 1) (eqb apb 2) refl (either (λ (d : ℕ). d ≡ 1) (eqb apb 3) refl refl))

fresh-left : (is : List Inst) (rest : List Timer) (i : ℕ) → i < length is → Left 1 0 (get_or (map (λ (x : Inst). T.reset_state x 1) is ++ rest) i no_timer)
fresh-left [] rest i a = absurd (not-suc-le-zero a)
fresh-left (x ∷ xs) rest zero a = left-reset x 1 0 (omega arith)
fresh-left (x ∷ xs) rest (suc i) a = fresh-left xs rest i (le_of_suc-le-suc a)

pub kept_fresh : (hz vcc : Float) (pins lines : ℕ) (is : List Inst) (table : List ℕ) → Timers (fresh_board hz vcc pins lines is table)
unfolding fresh_board
kept_fresh hz vcc pins lines is table i l =
    subst (λ (d : ℕ). Left d 0 (get_or (filled 8 no_timer (map (λ (x : Inst). T.reset_state x 1) is)) i no_timer))
    (sym (flat-div hz (get_or (filled 8 no_timer (map (λ (x : Inst). T.reset_state x 1) is)) i no_timer).inst.apb)) (fresh-left is _ i l)

-- ---- every call

module _ (b : Board) (s : Sound b) (h : Timers b) where
  -- a call that leaves timers and tree, and moves the last cycle on
  moves-on : (cycle : ℕ) → cycle_astray b cycle ≡ false → By cycle b
  moves-on cycle e = later b cycle (not-astray b cycle e) h

  kept-set_up : (u : Setup) → Good (step b (set_up u))
  unfolding step
  kept-set_up u = either Good (not (within_limits u)) h (either Good (not (positive u.hz)) h (kept_fresh u.hz u.vcc u.pins u.lines u.timers u.table))

  kept-clock_tree : (t : ClockTree) (cycle : ℕ) → Good (step b (clock_tree t cycle))
  unfolding step
  kept-clock_tree t cycle =
      by-test Good (not (good t)) (λ _. h) (λ g. by-test Good (cycle_astray b cycle) (λ _. h) (λ e. kept-tree b s h t cycle (not-false (good t) g) (not-astray b cycle e)))

  kept-enable : (word value : ℕ) → Good (step b (enable word value))
  unfolding step
  kept-enable word value = either Good (absent word 9) h h

  kept-clear : (irq : ℕ) → Good (step b (clear_pending irq))
  unfolding step
  kept-clear irq = h

  kept-set_pin : (pin mode od out pu pd f cycle places : ℕ) → Good (step b (set_pin pin mode od out pu pd f cycle places))
  unfolding step
  kept-set_pin pin mode od out pu pd f cycle places =
      either Good (absent pin b.counts.pins) h
      (by-test Good (cycle_astray b cycle) (λ _. h)
      (λ e. either Good (socket_taken b (pin_setting pin mode od out pu pd f)) h (either Good (book_full 4 places) h (moves-on cycle e))))

  kept-drive_pin : (pin : ℕ) (x : ExtDrive) (cycle places : ℕ) → Good (step b (drive_pin pin x cycle places))
  unfolding step
  kept-drive_pin pin x cycle places =
      either Good (absent pin b.counts.pins) h (by-test Good (cycle_astray b cycle) (λ _. h) (λ e. either Good (book_full 4 places) h (moves-on cycle e)))

  kept-reset_pins : (cycle places : ℕ) → Good (step b (reset_pins cycle places))
  unfolding step
  kept-reset_pins cycle places = by-test Good (cycle_astray b cycle) (λ _. h) (λ e. either Good (ltb places b.counts.pins) h (moves-on cycle e))

  kept-reset_timer : (i cycle places : ℕ) → Good (step b (reset_timer i cycle places))
  unfolding step
  kept-reset_timer i cycle places =
      by-test Good (absent i b.counts.timers) (λ _. h)
      (λ a. by-test Good (cycle_astray b cycle) (λ _. h) (λ e. either Good (book_full 4 places) h (kept-reset b s h i cycle (present-timer b i a) (not-astray b cycle e))))

  kept-delivery : (i cycle places : ℕ) → Good (step b (deliver i cycle places))
  unfolding step
  kept-delivery i cycle places =
      by-test Good (absent i b.counts.timers) (λ _. h)
      (λ a. by-test Good (cycle_astray b cycle) (λ _. h) (λ e. either Good (book_full 4 places) h (kept-deliver b s h i cycle places (present-timer b i a) (not-astray b cycle e))))

  kept-asked : (q : Question) → Timers (step b (ask q)).board
  kept-asked q = subst Timers (sym (asked-board b q)) h

  kept-lent : (k : BookCall) (cycle places : ℕ) → Timers (step b (lend k cycle places)).board
  kept-lent (pin_setting pin mode od out pu pd f) cycle places = kept-set_pin pin mode od out pu pd f cycle places
  kept-lent (outside_drive pin e) cycle places = kept-drive_pin pin e cycle places
  kept-lent pin_reset cycle places = kept-reset_pins cycle places
  kept-lent (writing timer offset size value) cycle places = kept-write b s h timer offset size value cycle places
  kept-lent (resetting timer) cycle places = kept-reset_timer timer cycle places
  kept-lent (delivery timer) cycle places = kept-delivery timer cycle places

  pub kept_step : (c : Call) → Timers (step b c).board
  kept_step (set_up u) = kept-set_up u
  kept_step (clock_tree t cycle) = kept-clock_tree t cycle
  kept_step (enable word value) = kept-enable word value
  kept_step (clear_pending irq) = kept-clear irq
  kept_step (ask q) = kept-asked q
  kept_step (lend k cycle places) = kept-lent k cycle places

pub kept_run : (b : Board) (cs : List Call) → Sound b → Timers b → Timers (board_after b cs)
unfolding board_after
kept_run b [] s h = h
kept_run b (c ∷ cs) s h = kept_run (step b c).board cs (sound-step b c s) (kept_step b s h c)

pub kept-after : (cs : List Call) → Timers (board_after first_board cs)
kept-after cs = kept_run first_board cs sound-first (kept_fresh one one 0 0 [] [])
