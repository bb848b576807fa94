-- Deliveries one after the other, reads, late writes, reset, gate and clock tree, of a timer of a board that calls lead to: the statement of
-- specs/Boards.antt. Assumes nothing.
use mathlib.Core.Path.{◌≡◌, refl, sym, ap, ◌∙◌, subst}
use mathlib.Core.Bool.{Bool, true, false, cond, not}
use mathlib.Core.List.{List, [], ◌∷◌}
use Prim.Native.Nat.{ℕ, zero, suc, ◌+◌, ◌-◌, ◌%◌, ◌≤◌, ◌<◌}
use native.Mathlib.Nat.{le_trans, zero-add}
use native.Mathlib.Numerals.{add-one}
use native.Mathlib.Omega.{arith}
use lib.Dec.{eqb, ltb}
use lib.ListN.{length, length-set}
use lib.Seq.{get_or-set_same}
use borrow.Author.Tests.{eqb-true, eqb-false}
use Rattle.rm0440.specs.State as State
use Rattle.rm0440.specs.Write as M
use Rattle.rm0440.proofs.SameClock.{clocks-same}
use Rattle.rm0440.proofs.SameEgr.{write_same}
use Rattle.tim.specs.declared.Timer.{Timer}
use Rattle.tim.specs.declared.Inst.{Inst}
use Rattle.tim.specs.Count.{counts, ticks_at, cnt_at, synced}
use Rattle.tim.specs.Next.{next_event}
use Rattle.tim.specs.Change as T
use Rattle.regs.specs.Regs as R
use Rattle.clk.specs.declared.ClockTree.{ClockTree}
use Rattle.clk.specs.Clk.{timer_div, good, differing}
use Rattle.pins.specs.Clock as Clock
use Rattle.book.specs.Book.{Entry}
use Rattle.periph.specs.Lane.{lane_read}
use Rattle.follows.specs.Seen as S
use Rattle.follows.specs.Seen.{clocks_at, per, seen, rules_of, Within, Left}
use Rattle.follows.specs.Follows.{Delivered, between, Call, acts}
use Rattle.follows.proofs.Theorem.{follows}
use Rattle.follows.proofs.Standing.{either-sync}
use Rattle.machine.specs.Board.{Board, Pads, timer_at, no_timer, with_timer, with_last, with_clocks}
use Rattle.machine.specs.Deliver.{Run, divider_of, line_settled, rebooked, turn_of, due_by, handled as run, stop, most_events, delivered, after_delivery}
use Rattle.machine.specs.Deliver as D
use Rattle.machine.specs.Call as C
use Rattle.machine.specs.Call.{Outcome, served, refused}
use Rattle.machine.specs.Step.{refuse_if, absent, odd_size, cycle_astray, book_full, clock_on, register, written, timer_reset, delivered_to, timer_retimed, all_retimed, tree_set, step, board_after}
use Rattle.machine.specs.Sound.{Sound}
use Rattle.machine.specs.Demand1.{reached}
use Rattle.machine.proofs.Routing.{either, by-test}
use Rattle.machine.proofs.Reach.{run-good, sound-step, sound-after}
use Rattle.boards.specs.Boards.{div_of, value_on, Boards, Delivery, deliveries, treed, StepEvents, StepSeries, StepSeriesDue, StepReads, StepLate, StepLateWrites, StepResets, StepGated, StepRetimes, StepDeliversManual, StepWritesManual}
use Rattle.boards.proofs.Kept.{at_place, elsewhere, not-astray, kept-after}
use Rattle.boards.proofs.Stepped.{never, turn-same, peel, delivered-timer, followed-timer, delivers-so, handled, writes-so, written_is, delivers, writes}
use Rattle.boards.proofs.Fitting.{fits}

-- ---- a delivery is as many events as its value says

one-event : (now div : ℕ) (t : Timer) (p : Pads) (r : Run) (es : List Entry) (q l : Bool) → due_by (next_event t) now ≡ q
    → r.timer ≡ S.deliver r.events now div (S.applied t div (next_event t))
    → (cond q (cond l (stop t p 8) (D.after_turn es r)) (stop t p 0)).timer ≡ S.deliver (cond q (cond l (stop t p 8) (D.after_turn es r)) (stop t p 0)).events now div t
unfolding S.deliver
one-event now div t p r es false l a ih = refl
one-event now div t p r es true true a ih = refl
one-event now div t p r es true false a ih =
    ih ∙ sym (ap (λ (n : ℕ). S.deliver n now div t) (add-one r.events) ∙ ap (λ (c : Bool). cond c (S.deliver r.events now div (S.applied t div (next_event t))) t) a)

run-events : (f now div left : ℕ) (t : Timer) (p : Pads) → (run f now div left t p).timer ≡ S.deliver (run f now div left t p).events now div t
unfolding run S.deliver
run-events zero now div left t p = refl
run-events (suc f) now div left t p =
    let u = turn_of t p (next_event t) div in
    let r = run f now div (left - length u.entries) u.timer u.pads in
    one-event now div t p r u.entries (due_by (next_event t) now) (ltb left 4) refl
    (run-events f now div (left - length u.entries) u.timer u.pads ∙ ap (S.deliver r.events now div) (turn-same t p (next_event t) div))

-- a delivery is refused, or done at a cycle not before the last
module _ (b : Board) (i cycle places : ℕ) where
  pub by_call : (P : Outcome → Type 0) → ((n : ℕ) → (n ≡ 0 → ⊥) → P (refused n b)) → (b.counts.last ≤ cycle → P (delivered_to b i cycle places)) → P (step b (C.deliver i cycle places))
  unfolding step
  by_call P r d =
      by-test P (absent i b.counts.timers) (λ _. r 2 (never 1))
      (λ _. by-test P (cycle_astray b cycle) (λ _. r 5 (never 4)) (λ e. either P (book_full 4 places) (r 6 (never 5)) (d (not-astray b cycle e))))

  delivered-events : (delivered b i cycle places).timer ≡ S.deliver (delivered_to b i cycle places).value cycle (div_of b i) (timer_at b i)
  unfolding delivered delivered_to
  delivered-events = run-events most_events cycle (div_of b i) places (timer_at b i) b.pads

  -- what it leaves alone
  pub record Keeps (c : Board) : Type 0 where
    pub few : c.counts.timers ≡ b.counts.timers
    pub now : c.counts.last ≡ cycle
    pub tree : c.clocks.tree ≡ b.clocks.tree

  pub delivered-keeps : Keeps (delivered_to b i cycle places).board
  unfolding delivered_to after_delivery rebooked line_settled
  delivered-keeps = record { few = refl; now = refl; tree = refl }

  pub inst-delivered : (s : Sound b) → (delivered b i cycle places).timer.inst ≡ (timer_at b i).inst
  unfolding delivered
  inst-delivered s = (run-good most_events cycle (divider_of b (timer_at b i)) places (timer_at b i).inst (timer_at b i) b.pads (record { inst = refl; pads = s.pads })).inst

events-at : (b : Board) (s : Sound b) (i cycle places : ℕ) → i < b.counts.timers
    → timer_at (step b (C.deliver i cycle places)).board i ≡ S.deliver (step b (C.deliver i cycle places)).value cycle (div_of b i) (timer_at b i)
unfolding S.deliver
events-at b s i cycle places l =
    by_call b i cycle places (λ (o : Outcome). timer_at o.board i ≡ S.deliver o.value cycle (div_of b i) (timer_at b i)) (λ n ne. refl)
    (λ le. delivered-timer b s i cycle l places ∙ delivered-events b i cycle places)

events : StepEvents
events cs i cycle places l = events-at (reached cs) (sound-after cs) i cycle places l

-- ---- deliveries one after the other

-- u is timer t after the events up to a cycle, and nothing is due
pub record Reaches (t : Timer) (div cycle : ℕ) (u : Timer) : Type 0 where
  pub number : ℕ
  pub is : u ≡ S.deliver number cycle div t
  pub quiet : Delivered u cycle

module _ (i cycle places : ℕ) where
  abbrev end : Board → List Delivery → Outcome
  end b ds = step (board_after b (deliveries i ds)) (C.deliver i cycle places)

  abbrev Ends : Board → Board → List Delivery → Type 0
  Ends b c ds = (end c ds).number ≡ 0 → Reaches (timer_at b i) (div_of b i) cycle (timer_at (end c ds).board i) × (b.counts.last ≤ cycle)

  last_one : (b : Board) → Sound b → i < b.counts.timers → Ends b b []
  unfolding board_after
  last_one b s l z =
      let p = delivers-so b s i cycle l places z in
      let q = handled b s i cycle l places p.1 in
      let same : timer_at (step b (C.deliver i cycle places)).board i ≡ (delivered b i cycle places).timer =
      ap (λ (o : Outcome). timer_at o.board i) p.0 ∙ delivered-timer b s i cycle l places in
      let early : b.counts.last ≤ cycle =
      by_call b i cycle places (λ (o : Outcome). o.number ≡ 0 → b.counts.last ≤ cycle) (λ n ne e. absurd (ne e)) (λ le e. le) z in (
        record { number = most_events; is = same ∙ q.0; quiet = subst (λ (t : Timer). Delivered t cycle) (sym same) q.1 },
        early,
      )

  reach : (ds : List Delivery) (b : Board) → Sound b → i < b.counts.timers → Ends b b ds
  unfolding board_after
  reach [] b s l = last_one b s l
  reach (d ∷ ds) b s l =
      by_call b i d.cycle d.places (λ (o : Outcome). Sound o.board → Ends b o.board ds) (λ n ne k. reach ds b s l) (λ le k. on le k (λ m. reach ds c k m)) (sound-step b (C.deliver i d.cycle d.places) s)
    where
      c : Board
      c = (delivered_to b i d.cycle d.places).board

      v : ℕ
      v = (delivered_to b i d.cycle d.places).value

      on : b.counts.last ≤ d.cycle → Sound c → (i < c.counts.timers → Ends c c ds) → Ends b c ds
      on le k ih z =
          let kept = delivered-keeps b i d.cycle d.places in
          let t = timer_at b i in
          let div = div_of b i in
          let same : timer_at c i ≡ S.deliver v d.cycle div t = delivered-timer b s i d.cycle l d.places ∙ delivered-events b i d.cycle d.places in
          let inst : (timer_at c i).inst ≡ t.inst = ap (λ (u : Timer). u.inst) (delivered-timer b s i d.cycle l d.places) ∙ inst-delivered b i d.cycle d.places s in
          let div_is : div_of c i ≡ div = ap (λ (x : ClockTree). timer_div x (timer_at c i).inst.apb) kept.tree ∙ ap (λ (x : Inst). timer_div b.clocks.tree x.apb) inst in
          let r = ih (rw kept.few l) z in
          let u = timer_at (end c ds).board i in
          let later : d.cycle ≤ cycle = subst (λ (x : ℕ). x ≤ cycle) kept.now r.1 in
          let is : u ≡ S.deliver r.0.number cycle div (S.deliver v d.cycle div t) =
          r.0.is ∙ ap (λ (x : ℕ). S.deliver r.0.number cycle x (timer_at c i)) div_is ∙ ap (S.deliver r.0.number cycle div) same in (
            record {
              number = v + r.0.number;
              is = is ∙ sym (follows.splits v r.0.number t div d.cycle cycle later (subst (λ (x : Timer). Delivered x cycle) is r.0.quiet));
              quiet = r.0.quiet;
            },
            le_trans le later,
          )

series : StepSeries
series cs i a ds cycle places l h from le d z =
    let b = reached cs in
    let t = timer_at b i in
    let r = (reach i cycle places ds b (sound-after cs) l z).0 in
    let left : Delivered (S.deliver r.number cycle (div_of b i) t) cycle = subst (λ (u : Timer). Delivered u cycle) r.is r.quiet in (
      follows.deliveries r.number t (div_of b i) a cycle (record { timed = (kept-after cs i l).timed; within = follows.upward t a from d h; came = from }) le d left tt
          ∙ ap (λ (u : Timer). seen u (div_of b i) cycle) (sym r.is),
      r.quiet,
    )

series-due : StepSeriesDue
series-due cs i ds cycle places l h z =
    let b = reached cs in
    let t = timer_at b i in
    let p = reach i cycle places ds b (sound-after cs) l z in
    let r = p.0 in
    let o = kept-after cs i l in
    let left : Delivered (S.deliver r.number cycle (div_of b i) t) cycle = subst (λ (u : Timer). Delivered u cycle) r.is r.quiet in
    follows.deliveries-due r.number t (div_of b i) cycle (record { timed = o.timed; within = h; came = le_trans o.based p.1 }) left
    ∙ ap (λ (u : Timer). seen u (div_of b i) cycle) (sym r.is)

-- ---- reads and late calls

reads : StepReads
unfolding step
reads cs i offset size cycle z =
    let b = reached cs in
    let t = timer_at b i in
    let o = served (cond (clock_on b t) (lane_read (R.reg_read t (register offset) cycle) offset size) 0) b in
    let p1 = peel (absent i b.counts.timers) 2 b (refuse_if (odd_size size) 3 b (refuse_if (cycle_astray b cycle) 5 b o)) (λ e. omega arith) z in
    let p2 = peel (odd_size size) 3 b (refuse_if (cycle_astray b cycle) 5 b o) (λ e. omega arith) p1.number in
    let p3 = peel (cycle_astray b cycle) 5 b o (λ e. omega arith) p2.number in
    ap (λ (x : Outcome). x.value) (p1.is ∙ p2.is ∙ p3.is)
    ∙ ap (λ (x : ℕ). cond (clock_on b t) (lane_read x offset size) 0) (sym (follows.reads t (div_of b i) (register offset) cycle))

module _ (cs : List C.Call) (i cycle : ℕ) (l : i < (reached cs).counts.timers) (h : Within (timer_at (reached cs) i)) (le : (reached cs).counts.last ≤ cycle) where
  call : Call (timer_at (reached cs) i) (div_of (reached cs) i) cycle
  call = let o = kept-after cs i l in record { timed = o.timed; within = h; came = le_trans o.based le }

late : StepLate
late cs i cycle l h le = follows.late (timer_at (reached cs) i) (div_of (reached cs) i) cycle (call cs i cycle l h le)

late-writes : StepLateWrites
late-writes cs f i offset size value cycle places l h on z within left =
    let b = reached cs in
    let s = sound-after cs in
    let t = timer_at b i in
    let div = div_of b i in
    let p = writes-so b s i cycle l offset size value places on z in
    let k = call cs i cycle l h (not-astray b cycle p.1) in
    let off = register offset in
    let v = value_on b i offset size value cycle in
    let u : Timer = S.written t off v cycle div in
    let same : timer_at (step b (C.write i offset size value cycle places)).board i ≡ u =
    ap (λ (x : Outcome). timer_at x.board i) p.0 ∙ followed-timer b s i cycle l (written b t offset size value cycle) ∙ written_is b s i cycle l offset size value in
    subst (λ (x : Timer). M.write (rules_of t) off v (seen t div cycle) ≡ cond (acts off v (seen t div cycle)) (seen (S.deliver f cycle div x) div cycle) (seen x div cycle)) (sym same)
    (ap (M.write (rules_of t) off v) (sym (follows.late t div cycle k))
    ∙ follows.late-writes f t div off v cycle k (subst Within same within) (subst (λ (x : Timer). Delivered (S.deliver f cycle div x) cycle) same left))

-- ---- reset and gate

reset-timer : (b : Board) (s : Sound b) (i cycle : ℕ) → i < b.counts.timers → timer_at (timer_reset b i cycle).board i ≡ T.reset_state (timer_at b i).inst (div_of b i)
unfolding timer_reset line_settled
reset-timer b s i cycle l = at_place b i (T.reset_state (timer_at b i).inst (div_of b i)) s.timers s.few-timers l

resets : StepResets
unfolding step
resets cs i cycle places l z =
    let b = reached cs in
    let o = timer_reset b i cycle in
    let p1 = peel (absent i b.counts.timers) 2 b (refuse_if (cycle_astray b cycle) 5 b (refuse_if (book_full 4 places) 6 b o)) (λ e. omega arith) z in
    let p2 = peel (cycle_astray b cycle) 5 b (refuse_if (book_full 4 places) 6 b o) (λ e. omega arith) p1.number in
    let p3 = peel (book_full 4 places) 6 b o (λ e. omega arith) p2.number in
    follows.resets (timer_at b i) (div_of b i) (div_of b i) cycle cycle
    ∙ ap (λ (t : Timer). seen t (div_of b i) cycle) (sym (ap (λ (x : Outcome). timer_at x.board i) (p1.is ∙ p2.is ∙ p3.is) ∙ reset-timer b (sound-after cs) i cycle l))

gated : StepGated
unfolding step
gated cs i =
    let b = reached cs in
    let P : Outcome → Type 0 = λ o. timer_at o.board i ≡ timer_at b i in (
      λ offset size value cycle places off.
          either P (absent i b.counts.timers) refl
          (either P (odd_size size) refl
          (either P (cycle_astray b cycle) refl
          (either P (book_full 4 places) refl
          (by-test P (clock_on b (timer_at b i)) (λ on. absurd (let z : ◌≡◌ {A = ℕ} 0 1 = cc in omega arith)) (λ _. refl))))),
      λ word value. either P (absent word 9) refl refl,
    )

-- ---- another clock tree

module _ (cycle : ℕ) where
  -- timer j of the board as it was before timer i was retimed, and timer i
  abbrev new : Board → ℕ → Timer
  new b i = T.retimed (timer_at b i) cycle (divider_of b (timer_at b i))

  pub record One (i : ℕ) (b c : Board) : Type 0 where
    pub here : timer_at c i ≡ new b i
    pub others : (j : ℕ) → (j ≡ i → ⊥) → timer_at c j ≡ timer_at b j
    pub tree : c.clocks.tree ≡ b.clocks.tree
    pub sized : length c.timers ≡ 8

  one_set : (i : ℕ) (b : Board) → length b.timers ≡ 8 → i < 8 → One i b (with_timer b i (new b i))
  one_set i b s l = record {
    here = at-eight b i (new b i) s l;
    others = λ j n. elsewhere b i j (new b i) n;
    tree = refl;
    sized = length-set b.timers i (new b i) ∙ s;
  }
    where
      at-eight : (b : Board) (i : ℕ) (t : Timer) → length b.timers ≡ 8 → i < 8 → timer_at (with_timer b i t) i ≡ t
      at-eight b i t s l = get_or-set_same b.timers i t no_timer (omega (arith, s))

  one-retimed : (i : ℕ) (b : Board) → length b.timers ≡ 8 → i < 8 → One i b (timer_retimed i cycle b)
  unfolding timer_retimed rebooked
  one-retimed i b s l =
      let k = one_set i b s l in
      either (One i b) (new b i).count.running (record { here = k.here; others = k.others; tree = k.tree; sized = k.sized }) k

  pub record Many (n i : ℕ) (b c : Board) : Type 0 where
    pub below : (j : ℕ) → j < i → timer_at c j ≡ timer_at b j
    pub inside : (j : ℕ) → i ≤ j → j < i + n → timer_at c j ≡ new b j
    pub tree : c.clocks.tree ≡ b.clocks.tree

  many : (n i : ℕ) (b : Board) → length b.timers ≡ 8 → i + n ≤ 8 → Many n i b (all_retimed n i cycle b)
  unfolding all_retimed
  many zero i b s le = record { below = λ j l. refl; inside = λ j l m. absurd (omega arith); tree = refl }
  many (suc n) i b s le =
      let o = one-retimed i b s (omega arith) in
      more o (many n (i + 1) (timer_retimed i cycle b) o.sized (omega arith))
    where
      above : (i j : ℕ) → i ≤ j → (j ≡ i → ⊥) → i + 1 ≤ j
      above i j l ne = omega (arith, ne)

      go : One i b (timer_retimed i cycle b) → Many n (i + 1) (timer_retimed i cycle b) (all_retimed n (i + 1) cycle (timer_retimed i cycle b))
          → (j : ℕ) → i ≤ j → j < i + suc n → (q : Bool) → eqb j i ≡ q → timer_at (all_retimed n (i + 1) cycle (timer_retimed i cycle b)) j ≡ new b j
      go o r j l m true q =
          let e : j ≡ i = eqb-true j i q in
          r.below j (omega arith) ∙ ap (timer_at (timer_retimed i cycle b)) e ∙ o.here ∙ ap (new b) (sym e)
      go o r j l m false q =
          let ne : j ≡ i → ⊥ = eqb-false j i q in
          let t = timer_at b j in
          r.inside j (above i j l ne) (omega arith)
          ∙ ap (λ (x : Timer). T.retimed x cycle (timer_div (timer_retimed i cycle b).clocks.tree x.inst.apb)) (o.others j ne)
          ∙ ap (λ (x : ClockTree). T.retimed t cycle (timer_div x t.inst.apb)) o.tree

      more : One i b (timer_retimed i cycle b) → Many n (i + 1) (timer_retimed i cycle b) (all_retimed n (i + 1) cycle (timer_retimed i cycle b))
          → Many (suc n) i b (all_retimed n (i + 1) cycle (timer_retimed i cycle b))
      more o r = record {
        below = λ j l. r.below j (omega arith) ∙ o.others j (λ e. omega arith);
        inside = λ j l m. go o r j l m (eqb j i) refl;
        tree = r.tree ∙ o.tree;
      }

-- every timer has the new tree's divider
pub record Treed (b c : Board) (tree : ClockTree) (i cycle : ℕ) : Type 0 where
  pub timer : timer_at c i ≡ T.retimed (timer_at b i) cycle (timer_div tree (timer_at b i).inst.apb)
  pub tree_is : c.clocks.tree ≡ tree

tree_set_lem : (b : Board) (s : Sound b) (tree : ClockTree) (i cycle : ℕ) → i < b.counts.timers → differing b.clocks.tree tree ≡ true
    → Treed b (tree_set b tree cycle) tree i cycle
unfolding tree_set
tree_set_lem b s tree i cycle l e =
    let c = with_clocks b (record { tree = tree; clock = Clock.hz_set b.clocks.clock tree.hclk_hz cycle; enr = b.clocks.enr }) in
    let m = many cycle b.counts.timers 0 c s.timers (rw (zero-add b.counts.timers) s.few-timers) in
    rw e (record { timer = m.inside i (omega arith) (rw (zero-add b.counts.timers) l); tree_is = m.tree })

inst-retimed : (t : Timer) (now div : ℕ) → (T.retimed t now div).inst ≡ t.inst
unfolding T.retimed
inst-retimed t now div = either-sync t now (λ (z : Timer). z.inst ≡ t.inst) (λ k b. refl) refl

retimes : StepRetimes
unfolding step
retimes cs i tree cycle l z differs near =
    let b = reached cs in
    let t = timer_at b i in
    let div = div_of b i in
    let o = served 0 (with_last (tree_set b tree cycle) cycle) in
    let p1 = peel (not (good tree)) 4 b (refuse_if (cycle_astray b cycle) 5 b o) (λ e. omega arith) z in
    let p2 = peel (cycle_astray b cycle) 5 b o (λ e. omega arith) p1.number in
    let k = tree_set_lem b (sound-after cs) tree i cycle l differs in
    let c = treed cs tree cycle in
    let is : c ≡ with_last (tree_set b tree cycle) cycle = ap (λ (x : Outcome). x.board) (p1.is ∙ p2.is) in
    let div' = timer_div tree t.inst.apb in
    let same : timer_at c i ≡ T.retimed t cycle div' = ap (λ (x : Board). timer_at x i) is ∙ k.timer in
    let div_is : div_of c i ≡ div' =
    ap (λ (x : Board). timer_div x.clocks.tree (timer_at c i).inst.apb) is ∙ ap (λ (x : ClockTree). timer_div x (timer_at c i).inst.apb) k.tree_is
    ∙ ap (λ (x : Inst). timer_div tree x.apb) (ap (λ (x : Timer). x.inst) same ∙ inst-retimed t cycle div') in
    let y = synced t cycle in
    ap (λ (x : Timer). seen x (div_of c i) cycle) same ∙ ap (λ (x : ℕ). seen (T.retimed t cycle div') x cycle) div_is
    ∙ follows.retimes t div div' cycle (kept-after cs i l).timed (subst (λ (x : Timer). x.count.running ≡ true → ticks_at x cycle ≡ 0) same near)
    ∙ ap (λ (x : ℕ). State.with_count (seen t div cycle) y.count.running (cond (counts y) (clocks_at y x cycle % per y) 0) (cnt_at t cycle)) (sym div_is)

-- ---- outside the cases

delivers-manual : StepDeliversManual
delivers-manual cs i a ds cycle places l h from le d z clear =
    let b = reached cs in
    let t = timer_at b i in
    let f = fits cs i a in
    sym (clocks-same (rules_of t) (seen t (div_of b i) a) (between t (div_of b i) a cycle) (λ m _. follows.fits-stay (rules_of t) (seen t (div_of b i) a) m f.0 f.1) clear)
    ∙ (series cs i a ds cycle places l h from le d z).0

writes-manual : StepWritesManual
writes-manual cs f i offset size value cycle places l h d on z within left o =
    let b = reached cs in
    let t = timer_at b i in
    sym (write_same (rules_of t) (register offset) (value_on b i offset size value cycle) (seen t (div_of b i) cycle) o)
    ∙ writes cs f i offset size value cycle places l h d on z within left

pub boards : Boards
boards = record {
  timers = kept-after;
  delivers = delivers;
  writes = writes;
  events = events;
  series = series;
  series-due = series-due;
  reads = reads;
  late = late;
  late-writes = late-writes;
  resets = resets;
  gated = gated;
  retimes = retimes;
  fits = fits;
  delivers-manual = delivers-manual;
  writes-manual = writes-manual;
}
