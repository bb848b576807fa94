-- A write over any board: the callees' equations in, step's answer out. Assumes nothing.
use Rattle.std.specs.Option.{is_some}
use Rattle.std.proofs.Common.{Option, Some, None}
use mathlib.Core.Path.{◌≡◌, refl, ap, sym, subst, ◌∙◌}
use mathlib.Core.Bool.{Bool, true, false, cond, ◌&&◌, false≢true}
use mathlib.Core.List.{List, [], ◌∷◌}
use Prim.Native.Nat.{ℕ, zero, suc, ◌+◌, ◌/◌, ◌≤◌, ◌<◌}
use native.Mathlib.Omega.{arith}
use lib.Bits.{bit_and}
use lib.Dec.{leb, eqb}
use borrow.Author.Tests.{eq-eqb, ne_eqb, leb-true}
use lib.Ieee.{Float}
use lib.ListN.{length}
use Rattle.tim.specs.declared.Timer.{Timer}
use Rattle.regs.specs.declared.Written.{Written}
use Rattle.tim.specs.declared.Inst.{Inst}
use Rattle.tim.specs.Timer.{Ready, ccmr_byte}
use Rattle.rm0440.specs.Output as Out
use Rattle.rm0440.specs.Registers.{kept_mask, mask, bits}
use Rattle.regs.specs.Regs as R
use Rattle.tim.proofs.Fit.{either}
use Rattle.regs.proofs.Fixed.{inst-written}
use Rattle.periph.specs.Lane.{lane_write}
use Rattle.book.specs.Book.{Book, book, Holds, Lent, Room, puts}
use Rattle.book.proofs.Laws.{holds}
use Rattle.machine.specs.Board.{Board, timer_at, with_timer, with_last}
use Rattle.machine.specs.Deliver.{divider_of, line_settled, rebooked}
use Rattle.machine.specs.Call.{Call, Outcome, write, served}
use Rattle.machine.specs.Step.{step, refuse_if, clock_on, register, present, written, counter_astray, followed}
use Rattle.machine.specs.Refusals.{Refusal, refusals, in_order, first}
use Rattle.machine.specs.Refusals as Refusals
use Rattle.state.specs.Board.{with_inst}
use Rattle.state.specs.View.{view}
use Rattle.state.proofs.InRange.{bounded}
use Rattle.context.proofs.Laws.{stored_there}
use Rattle.answer.specs.declared.Answer.{Answer}
use Rattle.answer.specs.Promise.{answer, Answers}
use Rattle.machine.proofs.NumberLaws.{given, passing}
use Rattle.answer.proofs.Given.{first-front, away, gives, turns-away, turns-away-book, unbooked}
use Rattle.mmio.specs.Leaves.{Leaves, after}
use Rattle.mmio.proofs.Laws.{asked, after-stored}
use Rattle.fields.specs.Field.{with_reg}
use Rattle.fields.proofs.Words.{same-timer}
use Rattle.write.specs.Writes.{written_by, written_on}

-- stored but for its fixed parts, which a write leaves
stored-live : (b b₁ : Board) (i : ℕ) (t : Timer) → t.inst ≡ (timer_at b i).inst → b₁ ≡ with_timer b i (with_inst t (timer_at b i).inst) → b₁ ≡ with_timer b i t
stored-live b b₁ i t h e = e ∙ ap (λ (k : Inst). with_timer b i (with_inst t k)) (sym h)

-- what follows from it, of the board before
pub stored-follows : (b b₁ b₂ : Board) (i cycle : ℕ) (u : Written) (k k₁ : Book) → i < length b.timers → u.timer.inst ≡ (timer_at b i).inst
    → b₁ ≡ with_timer b i (with_inst u.timer (timer_at b i).inst) → Leaves (after b₁ i cycle u.drive u.line u.book) b₂ k k₁ → Leaves (followed b i cycle u) b₂ k k₁
unfolding followed
stored-follows b b₁ b₂ i cycle u k k₁ l h e m =
    subst (λ (o : Outcome). Leaves o b₂ k k₁) (after-stored b b₁ i cycle u.timer u.drive u.line u.book l (stored-live b b₁ i u.timer h e)) m

-- ---- writes
pub loaded-ready : (w : List ℕ) (x : List Float) (i cycle div : ℕ) (t : Timer) → t ≡ timer_at (view w x) i → cycle ≤ 4611686018427387904 → 1 ≤ div → div ≤ 8192
    → Ready t cycle div
loaded-ready w x i cycle div t load c p q =
    rw load (record { fit = (bounded w x).timer-fit i; now-lt = omega arith; div-pos = omega arith; div-le = q })

-- the write of the loaded timer
module _ (w : List ℕ) (x : List Float) (i off v cycle div : ℕ) (t : Timer) (u : Written) (load : t ≡ timer_at (view w x) i) (steps : div ≡ divider_of (view w x) t)
    (new : u ≡ R.reg_written t off v cycle div) where
  is-written : u ≡ R.reg_written (timer_at (view w x) i) off v cycle (divider_of (view w x) (timer_at (view w x) i))
  is-written = new ∙ ap (R.reg_written t off v cycle) steps ∙ ap (λ (y : Timer). R.reg_written y off v cycle (divider_of (view w x) y)) load

  pub write-astray : (a : Bool) → a ≡ counter_astray off u.timer → a ≡ true → (r : Answer) → r ≡ answer 7 0 0 → Answers (written_by (view w x) i off v cycle) r w w x x
  unfolding written_by
  write-astray a h o r q =
      away w x (written_by (view w x) i off v cycle) 7 (rw (ap (λ (y : Written). counter_astray off y.timer) (sym is-written) ∙ sym h ∙ o) refl) r q

  pub write-astray-book : (a : Bool) → a ≡ counter_astray off u.timer → a ≡ true → (r : Answer) → r ≡ answer 7 0 0 → (s : Lent)
      → Holds (written_by (view w x) i off v cycle).entries s s r.count
  unfolding written_by
  write-astray-book a h o r q s =
      unbooked (written_by (view w x) i off v cycle) s r.count (ap (λ (y : Answer). y.count) q)
      (rw (ap (λ (y : Written). counter_astray off y.timer) (sym is-written) ∙ sym h ∙ o) refl)

  module _ (a : Bool) (h : a ≡ counter_astray off u.timer) (o : a ≡ false) where
    writes : written_by (view w x) i off v cycle ≡ followed (view w x) i cycle u
    unfolding written_by
    writes = rw (ap (λ (y : Written). counter_astray off y.timer) (sym is-written) ∙ sym h ∙ o) (ap (followed (view w x) i cycle) (sym is-written))

    pub write-follows : (w₁ : List ℕ) (x₁ : List Float) (s s₁ : Lent) (k : ℕ)
        → Leaves (followed (view w x) i cycle u) (view w₁ x₁) (book s 0) (book s₁ k)
        → Room k s
        → Answers (written_by (view w x) i off v cycle) (answer 0 0 k) w w₁ x x₁
        × Holds (written_by (view w x) i off v cycle).entries s s₁ k
    unfolding followed
    write-follows w₁ x₁ s s₁ k m f =
        let q = holds (followed (view w x) i cycle u).entries s s₁ k m.entries f in
        rw writes (gives (followed (view w x) i cycle u) (answer 0 0 k) w w₁ x x₁ refl refl q.count m.board refl, q)

-- the timer that a write leaves: its bounds, and its fixed parts
pub written-kept : (w : List ℕ) (i off v cycle div : ℕ) (t : Timer) (u : Written) → ((x : List Float) → t ≡ timer_at (view w x) i) → u ≡ R.reg_written t off v cycle div
    → (x : List Float) → u.timer.inst ≡ (timer_at (view w x) i).inst
written-kept w i off v cycle div t u load new x =
    ap (λ (y : Written). y.timer.inst) new ∙ inst-written t off v cycle div ∙ ap (λ (y : Timer). y.inst) (load x)

-- the value of the merged lane
module _ (w : List ℕ) (x : List Float) (i offset size value cycle v : ℕ)
    (e : v ≡ lane_write (present (timer_at (view w x) i) (register offset) cycle) offset size value) where
  pub on-merged : (r : Answer) (w₁ : List ℕ) (x₁ : List Float) → Answers (written_by (view w x) i (register offset) v cycle) r w w₁ x x₁
      → Answers (written_on (view w x) i offset size value cycle) r w w₁ x x₁
  on-merged r w₁ x₁ m = subst (λ (k : ℕ). Answers (written_by (view w x) i (register offset) k cycle) r w w₁ x x₁) e m

  pub on-merged-book : (s s₁ : Lent) (k : ℕ) → Holds (written_by (view w x) i (register offset) v cycle).entries s s₁ k
      → Holds (written_on (view w x) i offset size value cycle).entries s s₁ k
  on-merged-book s s₁ k m = subst (λ (z : ℕ). Holds (written_by (view w x) i (register offset) z cycle).entries s s₁ k) e m

-- a whole write is its value
pub whole : (old offset size value : ℕ) → size ≡ 4 → value ≡ lane_write old offset size value
unfolding lane_write
whole old offset size value h = rw (eq-eqb size 4 h)

-- ---- short ways

-- without entries nothing of the book changes
pub no-entries : (o : Outcome) (r : Answer) (w w₁ : List ℕ) (x x₁ : List Float) → o.entries ≡ [] → Answers o r w w₁ x x₁ → (s : Lent)
    → Holds o.entries s s r.count
no-entries o r w w₁ x x₁ e m s = unbooked o s r.count (m.count ∙ ap length e) e

-- by its number
module _ (w : List ℕ) (x : List Float) (i off n v cycle : ℕ) (h : off ≡ n) where
  pub at_reg : (r : Answer) (w₁ : List ℕ) (x₁ : List Float) → Answers (written_by (view w x) i n v cycle) r w w₁ x x₁ → Answers (written_by (view w x) i off v cycle) r w w₁ x x₁
  at_reg r w₁ x₁ m = subst (λ (k : ℕ). Answers (written_by (view w x) i k v cycle) r w w₁ x x₁) (sym h) m

  pub at-reg-book : (s s₁ : Lent) (k : ℕ) → Holds (written_by (view w x) i n v cycle).entries s s₁ k
      → Holds (written_by (view w x) i off v cycle).entries s s₁ k
  at-reg-book s s₁ k m = subst (λ (y : ℕ). Holds (written_by (view w x) i y v cycle).entries s s₁ k) (sym h) m

-- ---- DIER and SR

module _ (w : List ℕ) (x : List Float) (i v cycle : ℕ) where
  dier-by : written_by (view w x) i 0x0c v cycle ≡ followed (view w x) i cycle (R.lined (R.with_dier (timer_at (view w x) i) (R.kept 3 v)))
  unfolding written_by R.reg_written
  dier-by = refl

  sr-by : written_by (view w x) i 0x10 v cycle ≡ followed (view w x) i cycle (R.lined (R.with_sr (timer_at (view w x) i) (R.kept_sr (timer_at (view w x) i).regs.sr v)))
  unfolding written_by R.reg_written
  sr-by = refl

  pub dier-entries : (written_by (view w x) i 0x0c v cycle).entries ≡ []
  unfolding followed
  dier-entries = ap (λ (o : Outcome). o.entries) dier-by

  pub sr-entries : (written_by (view w x) i 0x10 v cycle).entries ≡ []
  unfolding followed
  sr-entries = ap (λ (o : Outcome). o.entries) sr-by

  module _ (b₁ b₂ : Board) (w₁ : List ℕ) (l : i < length (view w x).timers) (e₂ : b₂ ≡ line_settled i (timer_at b₁ i) b₁) (e₃ : view w₁ x ≡ with_last b₂ cycle) where
    lined-gives : (u : Timer) → b₁ ≡ with_timer (view w x) i u → Answers (followed (view w x) i cycle (R.lined u)) (answer 0 0 0) w w₁ x x
    unfolding followed
    lined-gives u e₁ =
        gives (followed (view w x) i cycle (R.lined u)) (answer 0 0 0) w w₁ x x refl refl refl
        (e₃ ∙ ap (λ (y : Board). with_last y cycle)
        (e₂ ∙ ap (λ (y : Timer). line_settled i y b₁) (stored_there (view w x) b₁ i u l e₁) ∙ ap (line_settled i u) e₁))
        refl

    pub dier-gives : (m : ℕ) → m ≡ kept_mask 3 → b₁ ≡ with_timer (view w x) i (with_reg (timer_at (view w x) i) 3 (bit_and v m))
        → Answers (written_by (view w x) i 0x0c v cycle) (answer 0 0 0) w w₁ x x
    dier-gives m k e₁ =
        subst (λ (o : Outcome). Answers o (answer 0 0 0) w w₁ x x) (sym dier-by)
        (lined-gives (R.with_dier (timer_at (view w x) i) (R.kept 3 v)) (e₁ ∙ ap (λ (y : ℕ). with_timer (view w x) i (R.with_dier (timer_at (view w x) i) (bit_and v y))) k))

    pub sr-gives : (t : Timer) (n : ℕ) → t ≡ timer_at (view w x) i → n ≡ R.kept_sr t.regs.sr v → b₁ ≡ with_timer (view w x) i (with_reg (timer_at (view w x) i) 4 n)
        → Answers (written_by (view w x) i 0x10 v cycle) (answer 0 0 0) w w₁ x x
    sr-gives t n load k e₁ =
        subst (λ (o : Outcome). Answers o (answer 0 0 0) w w₁ x x) (sym sr-by)
        (lined-gives (R.with_sr (timer_at (view w x) i) (R.kept_sr (timer_at (view w x) i).regs.sr v))
        (e₁ ∙ ap (λ (y : ℕ). with_timer (view w x) i (R.with_sr (timer_at (view w x) i) y)) (k ∙ ap (λ (y : Timer). R.kept_sr y.regs.sr v) load)))

-- ---- CR1

module _ (w : List ℕ) (x : List Float) (i v cycle : ℕ) where
  abbrev started : Timer
  started = R.cr1_written (timer_at (view w x) i) v cycle (divider_of (view w x) (timer_at (view w x) i))

  cr1-by : written_by (view w x) i 0 v cycle ≡ refuse_if (R.astray started) 7 (view w x) (followed (view w x) i cycle (R.booked started))
  unfolding written_by R.reg_written
  cr1-by = refl

  -- CR1 drives nothing
  pub cr1-entries : (written_by (view w x) i 0 v cycle).entries ≡ []
  unfolding followed
  cr1-entries = ap (λ (o : Outcome). o.entries) cr1-by ∙ either (λ (o : Outcome). o.entries ≡ []) (R.astray started) refl refl

  pub cr1-served : (b₁ b₂ : Board) (w₁ : List ℕ) → i < length (view w x).timers → R.astray started ≡ false → b₁ ≡ with_timer (view w x) i started
      → b₂ ≡ rebooked i (timer_at b₁ i) cycle b₁ → view w₁ x ≡ with_last b₂ cycle → Answers (written_by (view w x) i 0 v cycle) (answer 0 0 0) w w₁ x x
  unfolding followed
  cr1-served b₁ b₂ w₁ l h e₁ e₂ e₃ =
      let served : written_by (view w x) i 0 v cycle ≡ followed (view w x) i cycle (R.booked started) = cr1-by ∙ rw h refl in
      rw served
      (gives (followed (view w x) i cycle (R.booked started)) (answer 0 0 0) w w₁ x x refl refl refl
      (e₃ ∙ ap (λ (y : Board). with_last y cycle)
      (e₂ ∙ ap (λ (y : Timer). rebooked i y cycle b₁) (stored_there (view w x) b₁ i started l e₁) ∙ ap (rebooked i started cycle) e₁))
      refl)

-- the words are as they were
module _ (w w₀ : List ℕ) (same : w₀ ≡ w) (x : List Float) (i off v cycle : ℕ) where
  pub from-same : (r : Answer) (w₁ : List ℕ) (x₁ : List Float) → Answers (written_by (view w₀ x) i off v cycle) r w₀ w₁ x x₁
      → Answers (written_by (view w x) i off v cycle) r w w₁ x x₁
  from-same r w₁ x₁ m = subst (λ (y : List ℕ). Answers (written_by (view y x) i off v cycle) r y w₁ x x₁) same m

  pub from-same-book : (s s₁ : Lent) (k : ℕ) → Holds (written_by (view w₀ x) i off v cycle).entries s s₁ k
      → Holds (written_by (view w x) i off v cycle).entries s s₁ k
  from-same-book s s₁ k m = subst (λ (y : List ℕ). Holds (written_by (view y x) i off v cycle).entries s s₁ k) same m

-- ---- compares

-- where they are driven the next event is booked
compare-booked : (t : Timer) (ch v cycle : ℕ) → is_some (R.ccr_written t ch v cycle).drive ≡ (R.ccr_written t ch v cycle).book
unfolding R.ccr_written
compare-booked t ch v cycle = either (λ (w : Written). is_some w.drive ≡ w.book) (Out.OCxPE (ccmr_byte t ch)) refl refl

compare-line : (t : Timer) (ch v cycle : ℕ) → (R.ccr_written t ch v cycle).line ≡ false
unfolding R.ccr_written
compare-line t ch v cycle = either (λ (w : Written). w.line ≡ false) (Out.OCxPE (ccmr_byte t ch)) refl refl

-- the count is looked at only where the outputs are driven
at_count_lem : (b : Board) (i cycle cnt cnt₁ : ℕ) (driven lined booked : Bool) → (driven ≡ true → cnt ≡ cnt₁)
    → after b i cycle (cond driven (Some cnt) None) lined booked ≡ after b i cycle (cond driven (Some cnt₁) None) lined booked
unfolding followed
at_count_lem b i cycle cnt cnt₁ true lined booked h = ap (λ (n : ℕ). after b i cycle (Some n) lined booked) (h refl)
at_count_lem b i cycle cnt cnt₁ false lined booked h = refl

-- a compare that waits: nothing follows
pub waits-follow : (b b₁ : Board) (i cycle : ℕ) (k : Book) → b₁ ≡ with_last b cycle → Leaves (after b i cycle None false false) b₁ k k
unfolding followed puts
waits-follow b b₁ i cycle k e = record { board = e ∙ ap (λ (y : Board). with_last y cycle) (sym (same-timer b i)); entries = refl }

pub compare-follows : (b b₁ : Board) (i ch v cycle : ℕ) (drive : Option ℕ) → i < length b.timers
    → b₁ ≡ with_timer b i (R.ccr_written (timer_at b i) ch v cycle).timer → drive ≡ (R.ccr_written (timer_at b i) ch v cycle).drive
    → after b₁ i cycle drive false (is_some drive) ≡ followed b i cycle (R.ccr_written (timer_at b i) ch v cycle)
compare-follows b b₁ i ch v cycle drive l e o =
    let w = R.ccr_written (timer_at b i) ch v cycle in
    ap (λ (z : Option ℕ). after b₁ i cycle z false (is_some z)) o
    ∙ ap (λ (z : Bool). after b₁ i cycle w.drive false z) (compare-booked (timer_at b i) ch v cycle)
    ∙ ap (λ (z : Bool). after b₁ i cycle w.drive z w.book) (sym (compare-line (timer_at b i) ch v cycle))
    ∙ after-stored b b₁ i cycle w.timer w.drive w.line w.book l e

-- at the offset of a compare
pub channel-lt : (off : ℕ) → R.is_ccr off ≡ true → (0x34 ≤ off) × (R.ccr_channel off < 4)
channel-lt off h = go (leb 0x34 off) refl (leb off 0x40) refl h
  where
    go : (a : Bool) → leb 0x34 off ≡ a → (b : Bool) → leb off 0x40 ≡ b → (a && b) ≡ true → (0x34 ≤ off) × (R.ccr_channel off < 4)
    go true e true f h = (leb-true 0x34 off e, omega (arith, leb-true 0x34 off e, leb-true off 0x40 f))
    go true e false f h = absurd (false≢true h)
    go false e b f h = absurd (false≢true h)

-- the table keeps alike of the four
pub compare-kept : (off : ℕ) → R.is_ccr off ≡ true → kept_mask (off / 4) ≡ kept_mask 13
unfolding mask bits
compare-kept off h = ap kept_mask place ∙ go (R.ccr_channel off) (channel-lt off h).1
  where
    place : off / 4 ≡ 13 + R.ccr_channel off
    place = omega (arith, (channel-lt off h).0)

    go : (ch : ℕ) → ch < 4 → kept_mask (13 + ch) ≡ kept_mask 13
    go zero l = refl
    go (suc zero) l = refl
    go (suc (suc zero)) l = refl
    go (suc (suc (suc zero))) l = refl
    go (suc (suc (suc (suc ch)))) l = absurd (omega arith)

module _ (w : List ℕ) (x : List Float) (i off v cycle : ℕ) (h : R.is_ccr off ≡ true) where
  abbrev t : Timer
  t = timer_at (view w x) i

  abbrev compared : Written
  compared = R.ccr_written t (R.ccr_channel off) (R.kept (off / 4) v) cycle

  compare-by : written_by (view w x) i off v cycle ≡ followed (view w x) i cycle (cond (eqb t.inst.channels 0) (R.only t) compared)
  unfolding written_by R.reg_written R.channel_written
  compare-by =
      let other : (n : ℕ) → n < 0x34 → eqb off n ≡ false = λ n l. ne_eqb off n (λ e. omega (arith, e, (channel-lt off h).0)) in
      simp (other 0x00 (omega arith), other 0x04 (omega arith), other 0x08 (omega arith), other 0x0c (omega arith), other 0x10 (omega arith), other 0x14 (omega arith), other 0x18 (omega arith), other 0x1c (omega arith), other 0x20 (omega arith), other 0x24 (omega arith), other 0x28 (omega arith), other 0x2c (omega arith), h)

  module _ (n : Inst) (load : n ≡ t.inst) where
    -- a timer without channels
    without : n.channels ≡ 0 → written_by (view w x) i off v cycle ≡ followed (view w x) i cycle (R.only t)
    without z = compare-by ∙ rw (ap (λ (y : Inst). eqb y.channels 0) (sym load) ∙ eq-eqb _ _ z) refl

    pub without-entries : n.channels ≡ 0 → (written_by (view w x) i off v cycle).entries ≡ []
    unfolding followed
    without-entries z = ap (λ (o : Outcome). o.entries) (without z)

    pub without-gives : n.channels ≡ 0 → (w₁ : List ℕ) → view w₁ x ≡ with_last (view w x) cycle → Answers (written_by (view w x) i off v cycle) (answer 0 0 0) w w₁ x x
    unfolding followed
    without-gives z w₁ e =
        subst (λ (o : Outcome). Answers o (answer 0 0 0) w w₁ x x) (sym (without z))
        (gives (followed (view w x) i cycle (R.only t)) (answer 0 0 0) w w₁ x x refl refl refl (e ∙ ap (λ (y : Board). with_last y cycle) (sym (same-timer (view w x) i))) refl)

    -- one with channels
    pub compare-gives : (n.channels ≡ 0 → ⊥) → (kv : ℕ) → kv ≡ R.kept (off / 4) v → (o : Outcome) → o ≡ followed (view w x) i cycle (R.ccr_written t (R.ccr_channel off) kv cycle)
        → (w₁ : List ℕ) (x₁ : List Float) (s s₁ : Lent) (k : ℕ) → Leaves o (view w₁ x₁) (book s 0) (book s₁ k)
        → Room k s
        → Answers (written_by (view w x) i off v cycle) (answer 0 0 k) w w₁ x x₁ × Holds (written_by (view w x) i off v cycle).entries s s₁ k
    unfolding followed
    compare-gives z kv q o e w₁ x₁ s s₁ k m f =
        let by : written_by (view w x) i off v cycle ≡ followed (view w x) i cycle compared =
        compare-by ∙ rw (ap (λ (y : Inst). eqb y.channels 0) (sym load) ∙ ne_eqb _ _ z) refl in
        let m₁ : Leaves (followed (view w x) i cycle compared) (view w₁ x₁) (book s 0) (book s₁ k) =
        subst (λ (y : Outcome). Leaves y (view w₁ x₁) (book s 0) (book s₁ k)) (e ∙ ap (λ (y : ℕ). followed (view w x) i cycle (R.ccr_written t (R.ccr_channel off) y cycle)) q) m in
        let g = holds (followed (view w x) i cycle compared).entries s s₁ k m₁.entries f in
        rw by (gives (followed (view w x) i cycle compared) (answer 0 0 k) w w₁ x x₁ refl refl g.count m₁.board refl, g)

-- ---- the call
module _ (w : List ℕ) (x : List Float) (timer offset size value cycle room num : ℕ) (h : num ≡ asked timer size (view w x) cycle room) where
  abbrev writing : Call
  writing = write timer offset size value cycle room

  abbrev tests : List Refusal
  tests = Refusals.no_such_index timer (view w x).counts.timers ∷ Refusals.bad_size size ∷ Refusals.clock_astray (view w x) cycle ∷ Refusals.book_full 4 room ∷ []

  -- the first four tests refuse
  refusing : (num ≡ 0 → ⊥) → num ≡ first (refusals (view w x) writing)
  unfolding refusals
  refusing z = h ∙ first-front tests (Refusals.counter_astray (view w x) timer offset size value cycle ∷ []) (λ e. z (h ∙ e))

  pub write-away : (num ≡ 0 → ⊥) → (r : Answer) → r ≡ answer num 0 0 → Answers (step (view w x) writing) r w w x x
  write-away z r a = turns-away w x writing num r (refusing z) z a

  pub write-away-book : (num ≡ 0 → ⊥) → (r : Answer) → r ≡ answer num 0 0 → (s : Lent) → Holds (step (view w x) writing).entries s s r.count
  write-away-book z r a s = turns-away-book (view w x) writing num r s (refusing z) z a

  module _ (z : num ≡ 0) (on : Bool) (gate : on ≡ clock_on (view w x) (timer_at (view w x) timer)) where
    -- the four tests pass: the gate, and what is below it
    pub write-gated : step (view w x) writing ≡ cond on (written_on (view w x) timer offset size value cycle) (served 0 (with_last (view w x) cycle))
    unfolding step given in_order written written_by
    write-gated = rw gate (passing tests (view w x) _ refl (sym h ∙ z))

    pub write-below : on ≡ true → (r : Answer) (w₁ : List ℕ) (x₁ : List Float) → Answers (written_on (view w x) timer offset size value cycle) r w w₁ x x₁
        → Answers (step (view w x) writing) r w w₁ x x₁
    write-below o r w₁ x₁ m = rw (write-gated, o) m

    pub write-below-book : on ≡ true → (s s₁ : Lent) (k : ℕ) → Holds (written_on (view w x) timer offset size value cycle).entries s s₁ k
        → Holds (step (view w x) writing).entries s s₁ k
    write-below-book o s s₁ k m = rw (write-gated, o) m

    pub write-off : on ≡ false → (w₁ : List ℕ) → view w₁ x ≡ with_last (view w x) cycle → (r : Answer) → r ≡ answer 0 0 0 → Answers (step (view w x) writing) r w w₁ x x
    write-off o w₁ s r a = rw (write-gated, o, a) (gives (served 0 (with_last (view w x) cycle)) (answer 0 0 0) w w₁ x x refl refl refl s refl)

    pub write-off-book : on ≡ false → (r : Answer) → r ≡ answer 0 0 0 → (s : Lent) → Holds (step (view w x) writing).entries s s r.count
    write-off-book o r a s = unbooked (step (view w x) writing) s r.count (ap (λ (y : Answer). y.count) a) (rw (write-gated, o) refl)
