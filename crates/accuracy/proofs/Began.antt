-- "CEN went from 0 to 1 at cycle s": what a served write that sets CEN leaves of its timer. Assumes nothing.
use Prim.Native.Nat.{ℕ, ◌+◌, ◌<◌}
use mathlib.Core.Path.{◌≡◌, refl, sym, ap, ◌∙◌}
use mathlib.Core.Bool.{true, false}
use mathlib.Core.List.{List}
use native.Mathlib.Omega.{arith}
use lib.Dec.{eqb}
use lib.ListN.{get_or, set, length}
use lib.Seq.{get_or-set_same}
use borrow.Author.Tests.{leb-false}
use Rattle.rm0440.specs.Bits.{field, is_set, CEN, UDIS, URS, ARPE}
use Rattle.rm0440.specs.Output as Out
use Rattle.rm0440.specs.Counter.{step_cycles}
use Rattle.tim.specs.declared.Timer.{Timer}
use Rattle.tim.specs.declared.Inst.{Inst}
use Rattle.regs.specs.declared.Written.{Written}
use Rattle.clk.specs.Clk.{timer_div}
use Rattle.tim.specs.Timer.{is_output, ccmr_byte, with_cr1}
use Rattle.tim.specs.Count.{synced}
use Rattle.tim.specs.Change as C
use Rattle.regs.specs.Regs as R
use Rattle.machine.specs.Board.{Board, Clocks, timer_at, no_timer}
use Rattle.machine.specs.Deliver.{divider_of, line_settled, rebooked}
use Rattle.machine.specs.Call.{write, Outcome}
use Rattle.machine.specs.Step.{step, absent, odd_size, cycle_astray, book_full, clock_on, written, register, counter_astray, followed}
use Rattle.machine.specs.Sound.{Sound}
use Rattle.machine.proofs.Routing.{either, by-test}
use Rattle.machine.proofs.Reach.{inst-written}
use Rattle.accuracy.proofs.Tests.{never}
use Rattle.accuracy.specs.Claim.{Started}
use Rattle.accuracy.proofs.Start.{Began}

-- ---- only a write to CR1 changes CR1

abbrev cr1 : Timer → ℕ
cr1 t = t.regs.cr1

abbrev Same : Timer → Timer → Type 0
Same t u = cr1 u ≡ cr1 t

abbrev SameBy : Timer → Written → Type 0
SameBy t w = cr1 w.timer ≡ cr1 t

same-synced : (t : Timer) (now : ℕ) → Same t (synced t now)
unfolding synced
same-synced t now = either (Same t) t.count.running refl refl

same-generated : (t : Timer) (now div : ℕ) → Same t (C.generated t now div)
unfolding C.generated C.recomputed_after_update C.restarted
same-generated t now div = either (Same t) (URS (cr1 t)) refl (either (Same t) (UDIS (cr1 t)) refl refl)

same-match : (v ch : ℕ) (t : Timer) → Same t (R.egr_match v ch t)
unfolding C.matched
same-match v ch t = either (Same t) (is_set (ch + 1) v) (either (Same t) (is_output t ch) refl refl) refl

same-egr : (t : Timer) (v now div : ℕ) → Same t (R.egr_written t v now div)
unfolding R.egr_written R.egr_update
same-egr t v now div =
    let a = R.egr_update t v now div in
    let b = R.egr_match v 0 a in
    let c = R.egr_match v 1 b in
    let d = R.egr_match v 2 c in
    same-match v 3 d ∙ same-match v 2 c ∙ same-match v 1 b ∙ same-match v 0 a
    ∙ either (Same t) (is_set 0 v) (same-generated (synced t now) now div ∙ same-synced t now) (same-synced t now)

same-cnt : (t : Timer) (v now : ℕ) → Same t (R.cnt_written t v now)
unfolding R.cnt_written C.recomputed
same-cnt t v now = same-synced t now

same-arr : (t : Timer) (v now : ℕ) → SameBy t (R.arr_written t v now)
unfolding R.arr_written C.recomputed
same-arr t v now = either (SameBy t) (ARPE (cr1 t)) (same-synced t now) (same-synced t now)

same-ccr : (t : Timer) (ch v now : ℕ) → SameBy t (R.ccr_written t ch v now)
unfolding R.ccr_written
same-ccr t ch v now = either (SameBy t) (Out.OCxPE (ccmr_byte t ch)) (same-synced t now) (same-synced t now)

same-channel : (t : Timer) (off v now : ℕ) → SameBy t (R.channel_written t off v now)
unfolding R.channel_written R.ccmr_written R.ccer_written
same-channel t off v now =
    either (SameBy t) (eqb t.inst.channels 0) refl
    (either (SameBy t) (eqb off 0x18) (same-synced t now)
    (either (SameBy t) (eqb off 0x1c) (same-synced t now)
    (either (SameBy t) (eqb off 0x20) refl
    (either (SameBy t) (R.is_ccr off) (same-ccr t (R.ccr_channel off) _ now) refl))))

-- ---- a timer that starts

pub record Starts (t : Timer) (now div : ℕ) : Type 0 where
  pub running : t.count.running ≡ true
  pub base-is : t.count.base ≡ now
  pub tick_is : t.count.tick ≡ step_cycles t.count.psc_act div

module _ (t : Timer) (v now div : ℕ) (off : CEN (cr1 t) ≡ false) where
  -- CEN set afterwards: it started
  abbrev If : Timer → Type 0
  If u = CEN (cr1 u) ≡ true → Starts u now div

  if-same : (u : Timer) → Same t u → If u
  if-same u e on = absurd (never (sym (ap CEN e ∙ off) ∙ on))

  if-turned : (old : ℕ) (s : Timer) → CEN (cr1 s) ≡ false → If (R.turned old s)
  unfolding R.turned C.recomputed
  if-turned old s e =
      let no : CEN (cr1 s) ≡ true → Starts s now div = λ on. absurd (never (sym e ∙ on)) in
      either If (eqb (field 4 1 old) (field 4 1 s.regs.cr1)) no
      (λ on. absurd (never (sym e ∙ on)))

  if-cr1 : If (R.cr1_written t v now div)
  unfolding R.cr1_written C.started C.recomputed
  if-cr1 =
      let s = with_cr1 (synced t now) (R.kept_cr1 t v) in
      by-test If (CEN s.regs.cr1)
      (λ e. by-test If (CEN t.regs.cr1) (λ on. absurd (never (sym off ∙ on))) (λ _ on. record { running = refl; base-is = refl; tick_is = refl }))
      (λ e. by-test If (CEN t.regs.cr1) (λ on. absurd (never (sym off ∙ on))) (λ _. if-turned t.regs.cr1 s e))

  abbrev IfBy : Written → Type 0
  IfBy w = If w.timer

  if-register : (reg : ℕ) → IfBy (R.reg_written t reg v now div)
  unfolding R.reg_written
  if-register reg =
      either IfBy (eqb reg 0x00) if-cr1
      (either IfBy (eqb reg 0x04) (if-same _ refl)
      (either IfBy (eqb reg 0x08) (if-same _ refl)
      (either IfBy (eqb reg 0x0c) (if-same _ refl)
      (either IfBy (eqb reg 0x10) (if-same _ refl)
      (either IfBy (eqb reg 0x14) (if-same _ (same-egr t v now div))
      (either IfBy (eqb reg 0x24) (if-same _ (same-cnt t _ now))
      (either IfBy (eqb reg 0x28) (if-same _ refl)
      (either IfBy (eqb reg 0x2c) (if-same _ (same-arr t _ now)) (if-same _ (same-channel t reg v now))))))))))

if-written : (b : Board) (t : Timer) (offset size value now : ℕ) → CEN (cr1 t) ≡ false → CEN (cr1 (written b t offset size value now).timer) ≡ true
    → Starts (written b t offset size value now).timer now (divider_of b t)
unfolding written
if-written b t offset size value now off = if-register t _ now (divider_of b t) off (register offset)

-- ---- the board after the write

module _ (b : Board) (i cycle : ℕ) (w : Written) where
  followed-timers : (followed b i cycle w).board.timers ≡ set b.timers i w.timer
  unfolding followed line_settled rebooked
  followed-timers =
      let P : Board → Type 0 = λ (k : Board). k.timers ≡ set b.timers i w.timer in
      either P w.book (either P w.line refl refl) (either P w.line refl refl)

  followed-clocks : (followed b i cycle w).board.clocks ≡ b.clocks
  unfolding followed line_settled rebooked
  followed-clocks =
      let P : Board → Type 0 = λ (k : Board). k.clocks ≡ b.clocks in
      either P w.book (either P w.line refl refl) (either P w.line refl refl)

  followed-count : (followed b i cycle w).board.counts.timers ≡ b.counts.timers
  unfolding followed line_settled rebooked
  followed-count =
      let P : Board → Type 0 = λ (k : Board). k.counts.timers ≡ b.counts.timers in
      either P w.book (either P w.line refl refl) (either P w.line refl refl)

  followed-timer : i < length b.timers → timer_at (followed b i cycle w).board i ≡ w.timer
  followed-timer h = ap (λ (l : List Timer). get_or l i no_timer) followed-timers ∙ get_or-set_same b.timers i w.timer no_timer h

module _ (b : Board) (i offset size value s places : ℕ) (sound : Sound b) where
  -- served, with CEN set afterwards
  abbrev Then : Outcome → Type 0
  Then o = o.number ≡ 0 → CEN (cr1 (timer_at o.board i)) ≡ true → Began o.board i s

  then-followed : CEN (cr1 (timer_at b i)) ≡ false → i < b.counts.timers → Then (followed b i s (written b (timer_at b i) offset size value s))
  then-followed off here z on =
      let w = written b (timer_at b i) offset size value s in
      let c = (followed b i s w).board in
      let e : timer_at c i ≡ w.timer = followed-timer b i s w (omega (arith, sound.timers, sound.few-timers)) in
      let g : Starts w.timer s (divider_of b (timer_at b i)) = if-written b (timer_at b i) offset size value s off (sym (ap (λ (t : Timer). CEN (cr1 t)) e) ∙ on) in
      let d : divider_of c (timer_at c i) ≡ divider_of b (timer_at b i) =
      ap (λ (t : Timer). divider_of c t) e ∙ ap (λ (k : Clocks). timer_div k.tree w.timer.inst.apb) (followed-clocks b i s w)
      ∙ ap (λ (x : Inst). timer_div b.clocks.tree x.apb) (inst-written b (timer_at b i) offset size value s) in
      record {
        present = rw (followed-count b i s w) here;
        running = ap (λ (t : Timer). t.count.running) e ∙ g.running;
        base-is = ap (λ (t : Timer). t.count.base) e ∙ g.base-is;
        tick_is = ap (λ (t : Timer). t.count.tick) e ∙ g.tick_is ∙ ap (λ (x : ℕ). step_cycles w.timer.count.psc_act x) (sym d) ∙ ap (λ (t : Timer). step_cycles t.count.psc_act (divider_of c (timer_at c i))) (sym e);
      }

  pub began : Started b i offset size value s places → Began (step b (write i offset size value s places)).board i s
  unfolding step
  began st = all st.served st.is-on
    where
      all : Then (step b (write i offset size value s places))
      all =
          by-test Then (absent i b.counts.timers) (λ e z. absurd (omega arith))
          (λ here. either Then (odd_size size) (λ z. absurd (omega arith))
          (either Then (cycle_astray b s) (λ z. absurd (omega arith))
          (either Then (book_full 4 places) (λ z. absurd (omega arith))
          (either Then (clock_on b (timer_at b i))
          (either Then (counter_astray (register offset) (written b (timer_at b i) offset size value s).timer) (λ z. absurd (omega arith))
          (then-followed st.was-off (leb-false b.counts.timers i here)))
          (λ z on. absurd (never (sym st.was-off ∙ on)))))))
