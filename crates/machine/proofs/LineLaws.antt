-- The interrupt lines: each timer's wish is what its flags ask for, a line is high when there is a wish, and where no two timers share a line
-- it goes as the Rust's. Assumes nothing.
use Rattle.std.specs.Option.{is_some, unwrap_or}
use mathlib.Core.Path.{◌≡◌, refl, sym, ap, ◌∙◌, subst, fun_ext}
use mathlib.Core.Bool.{Bool, true, false, cond, not, ◌&&◌, ◌||◌, false≢true}
use mathlib.Core.List.{List, [], ◌∷◌, ◌++◌, map}
use Prim.Native.Nat.{ℕ, zero, suc, ◌+◌, ◌-◌, ◌*◌, ◌≤◌, ◌<◌}
use native.Mathlib.Nat.{not-suc-le-zero}
use native.Mathlib.Omega.{arith}
use lib.Dec.{eqb, ltb, leb, lit≤}
use lib.Ieee.{Float}
use lib.ListN.{get_or, set, replicate, length, length-set, length-replicate}
use lib.Seq.{get_or-set_same, get_or-set_other}
use borrow.Author.Tests.{eqb-true, eqb-false, ltb-true, ltb-false, leb-true, eq-eqb, ne_eqb, lt-ltb, le-ltb}
use Rattle.rm0440.specs.Bits.{field, CEN, ARPE}
use Rattle.rm0440.specs.Output as Out
use Rattle.tim.specs.declared.Timer.{Timer}
use Rattle.tim.specs.declared.Inst.{Inst}
use Rattle.regs.specs.declared.Written.{Written}
use Rattle.tim.specs.Timer.{ccmr_byte, with_cr1}
use Rattle.tim.specs.Count.{synced}
use Rattle.tim.specs.Change as C
use Rattle.regs.specs.Regs as R
use Rattle.clk.specs.declared.ClockTree.{ClockTree}
use Rattle.clk.specs.Clk.{differing}
use Rattle.pins.specs.Clock as Clock
use Rattle.real.specs.Real.{positive}
use Rattle.nvic.specs.Nvic.{Line, Nvic, idle, some, line_set, line_cleared, has_line, line_at, on_line}
use Rattle.nvic.specs.Nvic as N
use Rattle.nvic.proofs.Laws.{same, other, no_line}
use Rattle.machine.specs.Board.{Board, no_timer, timer_at, with_timer, with_nvic, with_pads, with_clocks, with_last, filled, fresh_board, first_board, one}
use Rattle.machine.specs.Deliver.{divider_of, wants_line, line_settled, rebooked, delivered, after_delivery}
use Rattle.machine.specs.Sys as Sys
use Rattle.machine.specs.Refusals.{refusals, applies}
use Rattle.machine.specs.Sound.{Sound}
use Rattle.machine.specs.Call.{Setup, pin_setting, outside_drive, pin_reset, writing, resetting, delivery, Call, set_up, clock_tree, enable, clear_pending, ask, lend, Outcome, served, is_set_up, is_refusal}
use Rattle.machine.specs.Step.{register, written, within_limits, insts_good, entries_below, clock_on, followed, timer_reset, delivered_to, timer_retimed, all_retimed, tree_set, step, board_after}
use Rattle.machine.specs.Lines.{asks, any_of, Lines, RustLine, rust_set, rust_cleared, bare, rust_settled, rust_served, rust_after, rust_lines, OneEach, OneEachAlong, TwoTimers}
use Rattle.machine.proofs.NumberLaws.{both, Verdict, refuses, passes, answered, step_given, performed, performed-served, here, set-up-within}
use Rattle.machine.proofs.Routing.{either, by-test}
use Rattle.machine.proofs.Reach.{inst-reset, inst-retimed, inst-written, delivered-inst, sound-step, sound-first, sound-after}

-- ---- a register write that does not settle the line leaves what the flags ask for

abbrev Same : Timer → Timer → Type 0
Same t u = wants_line u ≡ wants_line t

wants-synced : (t : Timer) (now : ℕ) → Same t (synced t now)
unfolding synced
wants-synced t now = either (Same t) t.count.running refl refl

wants-retimed : (t : Timer) (now div : ℕ) → Same t (C.retimed t now div)
unfolding C.retimed
wants-retimed t now div = wants-synced t now

wants-turned : (old : ℕ) (t : Timer) → Same t (R.turned old t)
unfolding R.turned C.recomputed
wants-turned old t = either (Same t) (eqb (field 4 1 old) (field 4 1 t.regs.cr1)) refl refl

wants-started : (t : Timer) (now div : ℕ) → Same t (C.started t now div)
unfolding C.started C.recomputed
wants-started t now div = refl

wants-stopped : (t : Timer) (now : ℕ) → Same t (C.stopped t now)
unfolding C.stopped
wants-stopped t now = wants-synced t now

wants-cr1 : (t : Timer) (v now div : ℕ) → Same t (R.cr1_written t v now div)
unfolding R.cr1_written
wants-cr1 t v now div =
    let s = with_cr1 (synced t now) (R.kept_cr1 t v) in
    let e : Same t s = wants-synced t now in
    let turned : Same t (R.turned t.regs.cr1 s) = wants-turned t.regs.cr1 s ∙ e in
    either (Same t) (CEN s.regs.cr1) (either (Same t) (CEN t.regs.cr1) turned (wants-started s now div ∙ e))
    (either (Same t) (CEN t.regs.cr1) (wants-stopped s now ∙ e) turned)

wants-cnt : (t : Timer) (v now : ℕ) → Same t (R.cnt_written t v now)
unfolding R.cnt_written C.recomputed
wants-cnt t v now = wants-synced t now

abbrev Quiet : Timer → Written → Type 0
Quiet t w = w.line ≡ false → Same t w.timer

wants-arr : (t : Timer) (v now : ℕ) → Quiet t (R.arr_written t v now)
unfolding R.arr_written C.recomputed
wants-arr t v now = either (Quiet t) (ARPE t.regs.cr1) (λ e. wants-synced t now) (λ e. wants-synced t now)

wants-ccr : (t : Timer) (ch v now : ℕ) → Quiet t (R.ccr_written t ch v now)
unfolding R.ccr_written
wants-ccr t ch v now = either (Quiet t) (Out.OCxPE (ccmr_byte t ch)) (λ e. wants-synced t now) (λ e. wants-synced t now)

wants-ccmr : (t : Timer) (i v now : ℕ) → Quiet t (R.ccmr_written t i v now)
unfolding R.ccmr_written
wants-ccmr t i v now e = wants-synced t now

wants-ccer : (t : Timer) (v now : ℕ) → Quiet t (R.ccer_written t v now)
unfolding R.ccer_written
wants-ccer t v now e = refl

wants-channel : (t : Timer) (off v now : ℕ) → Quiet t (R.channel_written t off v now)
unfolding R.channel_written
wants-channel t off v now =
    either (Quiet t) (eqb t.inst.channels 0) (λ e. refl)
    (either (Quiet t) (eqb off 0x18) (wants-ccmr t 0 _ now)
    (either (Quiet t) (eqb off 0x1c) (wants-ccmr t 1 _ now)
    (either (Quiet t) (eqb off 0x20) (wants-ccer t _ now)
    (either (Quiet t) (R.is_ccr off) (wants-ccr t (R.ccr_channel off) _ now) (λ e. refl)))))

wants-register : (t : Timer) (off v now div : ℕ) → Quiet t (R.reg_written t off v now div)
unfolding R.reg_written
wants-register t off v now div =
    either (Quiet t) (eqb off 0x00) (λ e. wants-cr1 t v now div)
    (either (Quiet t) (eqb off 0x04) (λ e. refl)
    (either (Quiet t) (eqb off 0x08) (λ e. refl)
    (either (Quiet t) (eqb off 0x0c) (λ e. absurd (false≢true (sym e)))
    (either (Quiet t) (eqb off 0x10) (λ e. absurd (false≢true (sym e)))
    (either (Quiet t) (eqb off 0x14) (λ e. absurd (false≢true (sym e)))
    (either (Quiet t) (eqb off 0x24) (λ e. wants-cnt t _ now)
    (either (Quiet t) (eqb off 0x28) (λ e. refl)
    (either (Quiet t) (eqb off 0x2c) (wants-arr t _ now) (wants-channel t off v now)))))))))

pub wants-written : (b : Board) (t : Timer) (offset size value cycle : ℕ) → Quiet t (written b t offset size value cycle)
unfolding written
wants-written b t offset size value cycle = wants-register t (register offset) _ cycle (divider_of b t)

wants-reset : (i : Inst) (div : ℕ) → wants_line (C.reset_state i div) ≡ false
unfolding C.reset_state
wants-reset i div = refl

-- ---- a list of wishes

get_or-none : (ws : List Bool) → some ws ≡ false → (j : ℕ) → get_or ws j false ≡ false
unfolding some
get_or-none [] h j = refl
get_or-none (true ∷ ws) h j = absurd (false≢true (sym h))
get_or-none (false ∷ ws) h zero = refl
get_or-none (false ∷ ws) h (suc j) = get_or-none ws h j

none-some : (ws : List Bool) → ((j : ℕ) → get_or ws j false ≡ false) → some ws ≡ false
unfolding some
none-some [] h = refl
none-some (w ∷ ws) h = rw (h 0) (none-some ws (λ j. h (suc j)))

any_none : (n : ℕ) (f : ℕ → Bool) → any_of n f ≡ false → (j : ℕ) → j < n → f j ≡ false
unfolding any_of
any_none zero f h j l = absurd (not-suc-le-zero l)
any_none (suc n) f h j l = go (λ k. any_none n f k j) (f n) refl h (eqb j n) refl
  where
    go : (any_of n f ≡ false → j < n → f j ≡ false) → (v : Bool) → f n ≡ v → v || any_of n f ≡ false → (q : Bool) → eqb j n ≡ q → f j ≡ false
    go rest true e k q d = absurd (false≢true (sym k))
    go rest false e k true d = ap f (eqb-true j n d) ∙ e
    go rest false e k false d = rest k (omega (arith, l, eqb-false j n d))

none_any : (n : ℕ) (f : ℕ → Bool) → ((j : ℕ) → f j ≡ false) → any_of n f ≡ false
unfolding any_of
none_any zero f h = refl
none_any (suc n) f h = rw (h n) (none_any n f h)

alike : (a b : Bool) → (a ≡ false → b ≡ false) → (b ≡ false → a ≡ false) → a ≡ b
alike true true p q = refl
alike true false p q = q refl
alike false true p q = sym (p refl)
alike false false p q = refl

-- none but the first n have a wish: there is one exactly when one of those has it
some-any : (n : ℕ) (ws : List Bool) → ((j : ℕ) → n ≤ j → get_or ws j false ≡ false) → some ws ≡ any_of n (λ j. get_or ws j false)
some-any n ws h =
    alike (some ws) (any_of n (λ j. get_or ws j false)) (λ e. none_any n _ (get_or-none ws e))
    (λ e. none-some ws (λ j. by j (ltb j n) refl e))
  where
    by : (j : ℕ) (q : Bool) → ltb j n ≡ q → any_of n (λ j. get_or ws j false) ≡ false → get_or ws j false ≡ false
    by j true d e = any_none n (λ j. get_or ws j false) e j (ltb-true j n d)
    by j false d e = h j (ltb-false j n d)

-- all others have none: the wish of timer i is that there is one
some-own : (ws : List Bool) (i : ℕ) (level : Bool) → i < length ws → ((j : ℕ) → (j ≡ i → ⊥) → get_or ws j false ≡ false) → some (set ws i level) ≡ level
some-own ws i true l h =
    alike (some (set ws i true)) true (λ e. sym (get_or-set_same ws i true false l) ∙ get_or-none (set ws i true) e i) (λ e. absurd (false≢true (sym e)))
some-own ws i false l h = none-some (set ws i false) (λ j. by j (eqb j i) refl)
  where
    by : (j : ℕ) (q : Bool) → eqb j i ≡ q → get_or (set ws i false) j false ≡ false
    by j true d = ap (λ (k : ℕ). get_or (set ws i false) k false) (eqb-true j i d) ∙ get_or-set_same ws i false false l
    by j false d = get_or-set_other ws i j false false (eqb-false j i d) ∙ h j (eqb-false j i d)

-- ---- one line: eight wishes, and the level that they make

pub record Line-ok (m : ℕ → Bool) (l : Line) : Type 0 where
  pub sized : length l.wishes ≡ 8
  pub high : l.high ≡ some l.wishes
  pub is : (j : ℕ) → get_or l.wishes j false ≡ m j

ok-idle : Line-ok (λ j. false) idle
unfolding some
ok-idle = record { sized = refl; high = refl; is = get_or-none idle.wishes refl }

ok-cleared : (m : ℕ → Bool) (l : Line) → Line-ok m l → Line-ok m (line_cleared l)
ok-cleared m l h = record { sized = h.sized; high = h.high; is = h.is }

ok-set : (m : ℕ → Bool) (l : Line) (i : ℕ) (level : Bool) → i < 8 → Line-ok m l → Line-ok (λ j. cond (eqb j i) level (m j)) (line_set l i level)
ok-set m l i level a h = record { sized = length-set l.wishes i level ∙ h.sized; high = refl; is = λ j. by j (eqb j i) refl }
  where
    by : (j : ℕ) (q : Bool) → eqb j i ≡ q → get_or (set l.wishes i level) j false ≡ cond q level (m j)
    by j true d = ap (λ (k : ℕ). get_or (set l.wishes i level) k false) (eqb-true j i d) ∙ get_or-set_same l.wishes i level false (omega (arith, a, h.sized))
    by j false d = get_or-set_other l.wishes i j level false (eqb-false j i d) ∙ h.is j

ok-as : (m k : ℕ → Bool) (l : Line) → ((j : ℕ) → m j ≡ k j) → Line-ok m l → Line-ok k l
ok-as m k l e h = record { sized = h.sized; high = h.high; is = λ j. h.is j ∙ e j }

-- ---- all lines

pub record All-ok (m : ℕ → ℕ → Bool) (n : Nvic) : Type 0 where
  pub room : n.nirq ≤ length n.lines
  pub line : (irq : ℕ) → Line-ok (m irq) (line_at n irq)

all-as : (m k : ℕ → ℕ → Bool) (n : Nvic) → ((irq j : ℕ) → m irq j ≡ k irq j) → All-ok m n → All-ok k n
all-as m k n e h = record { room = h.room; line = λ irq. ok-as (m irq) (k irq) (line_at n irq) (e irq) (h.line irq) }

-- a change of one line
room-on : (f : Line → Line) (n : Nvic) (irq : ℕ) → n.nirq ≤ length n.lines → (on_line f n irq).nirq ≤ length (on_line f n irq).lines
unfolding on_line
room-on f n irq h = either (λ (k : Nvic). k.nirq ≤ length k.lines) (has_line n.nirq irq) (simp length-set h) h

pub nirq-on : (f : Line → Line) (n : Nvic) (irq : ℕ) → (on_line f n irq).nirq ≡ n.nirq
unfolding on_line
nirq-on f n irq = either (λ (k : Nvic). k.nirq ≡ n.nirq) (has_line n.nirq irq) refl refl

-- what line j is after a change of line irq
pub line_on : (f : Line → Line) (n : Nvic) (irq j : ℕ) → n.nirq ≤ length n.lines
    → line_at (on_line f n irq) j ≡ cond (eqb j irq && has_line n.nirq irq) (f (line_at n j)) (line_at n j)
line_on f n irq j r = by (eqb j irq) refl (has_line n.nirq irq) refl
  where
    by : (q : Bool) → eqb j irq ≡ q → (v : Bool) → has_line n.nirq irq ≡ v → line_at (on_line f n irq) j ≡ cond (q && v) (f (line_at n j)) (line_at n j)
    by false d v g = other f n irq j (eqb-false j irq d)
    by true d false g = ap (λ (k : Nvic). line_at k j) (no_line f n irq g)
    by true d true g =
        ap (λ (k : ℕ). line_at (on_line f n irq) k) (eqb-true j irq d) ∙ same f n irq (ltb-true irq n.nirq g) r
        ∙ ap (λ (k : ℕ). f (line_at n k)) (sym (eqb-true j irq d))

all-cleared : (m : ℕ → ℕ → Bool) (n : Nvic) (irq : ℕ) → All-ok m n → All-ok m (N.clear_pending n irq)
all-cleared m n irq h = record {
  room = room-on line_cleared n irq h.room;
  line = λ j.
      rw (line_on line_cleared n irq j h.room)
      (either (Line-ok (m j)) (eqb j irq && has_line n.nirq irq) (ok-cleared (m j) (line_at n j) (h.line j)) (h.line j));
}

-- timer i's `set_line`
abbrev set_to : (ℕ → ℕ → Bool) → ℕ → ℕ → ℕ → Bool → ℕ → ℕ → Bool
set_to m nirq irq i level j k = cond (eqb j irq && has_line nirq irq) (cond (eqb k i) level (m j k)) (m j k)

all_set : (m : ℕ → ℕ → Bool) (n : Nvic) (irq i : ℕ) (level : Bool) → i < 8 → All-ok m n → All-ok (set_to m n.nirq irq i level) (N.set_line n irq i level)
all_set m n irq i level a h = record {
  room = room-on (λ l. line_set l i level) n irq h.room;
  line = λ j.
      rw (line_on (λ l. line_set l i level) n irq j h.room)
      (by j (eqb j irq && has_line n.nirq irq));
}
  where
    by : (j : ℕ) (q : Bool) → Line-ok (λ k. cond q (cond (eqb k i) level (m j k)) (m j k)) (cond q (line_set (line_at n j) i level) (line_at n j))
    by j true = ok-set (m j) (line_at n j) i level a (h.line j)
    by j false = h.line j

-- ---- the board's lines: each wish is what its timer asks for

abbrev pub Wished : Board → Type 0
Wished b = All-ok (asks b) b.nvic

abbrev asked_of : Bool → Bool → Timer → ℕ → Bool
asked_of h r u irq = h && (r && (eqb u.inst.irq irq && wants_line u))

all_hold : (h r e w : Bool) → h ≡ true → r ≡ true → e ≡ true → h && (r && (e && w)) ≡ w
all_hold h r e w p q s = rw (p, q, s)

not_named : (h r : Bool) (u : Timer) (irq : ℕ) → (u.inst.irq ≡ irq → ⊥) → asked_of h r u irq ≡ false
not_named true true u irq p = rw (ne_eqb u.inst.irq irq p)
not_named true false u irq p = refl
not_named false r u irq p = refl

not-asked : (h r e w : Bool) → w ≡ false → h && (r && (e && w)) ≡ false
not-asked true true true w p = p
not-asked true true false w p = refl
not-asked true false e w p = refl
not-asked false r e w p = refl

nothing-asked : (h r : Bool) (u : Timer) (irq : ℕ) → wants_line u ≡ false → asked_of h r u irq ≡ false
nothing-asked h r u irq p = not-asked h r (eqb u.inst.irq irq) (wants_line u) p

-- what the timers ask for, where one is another
module _ (b : Board) (i : ℕ) (t : Timer) (names : t.inst.irq ≡ (timer_at b i).inst.irq) where
  -- its flags ask for the same
  asks-same : wants_line t ≡ wants_line (timer_at b i) → (irq j : ℕ) → asks b irq j ≡ asks (with_timer b i t) irq j
  asks-same e irq j =
      sym (ap (λ (z : Bool × ℕ). has_line b.nvic.nirq irq && (ltb j b.counts.timers && (eqb z.1 irq && z.0))) (there b.timers i j names e))
    where
      pair : Timer → Bool × ℕ
      pair u = (wants_line u, u.inst.irq)

      there : (l : List Timer) (i j : ℕ) → t.inst.irq ≡ (get_or l i no_timer).inst.irq → wants_line t ≡ wants_line (get_or l i no_timer) → pair (get_or (set l i t) j no_timer) ≡ pair (get_or l j no_timer)
      there [] i j n e = refl
      there (x ∷ xs) zero zero n e = rw (n, e)
      there (x ∷ xs) zero (suc j) n e = refl
      there (x ∷ xs) (suc i) zero n e = refl
      there (x ∷ xs) (suc i) (suc j) n e = there xs i j n e

  -- its line is settled
  asks_set : i < b.counts.timers → i < length b.timers → (irq j : ℕ)
      → set_to (asks b) b.nvic.nirq t.inst.irq i (wants_line t) irq j ≡ asks (with_timer b i t) irq j
  asks_set few l irq j = by (eqb irq t.inst.irq) refl (has_line b.nvic.nirq t.inst.irq) refl (eqb j i) refl
    where
      at_i : eqb j i ≡ true → get_or (set b.timers i t) j no_timer ≡ t
      at_i f = ap (λ (x : ℕ). get_or (set b.timers i t) x no_timer) (eqb-true j i f) ∙ get_or-set_same b.timers i t no_timer l

      by : (q : Bool) → eqb irq t.inst.irq ≡ q → (v : Bool) → has_line b.nvic.nirq t.inst.irq ≡ v → (k : Bool) → eqb j i ≡ k
          → cond (q && v) (cond k (wants_line t) (asks b irq j)) (asks b irq j) ≡ asks (with_timer b i t) irq j
      by q d v g false f =
          either (λ (x : Bool). x ≡ asks b irq j) (q && v) refl refl
          ∙ ap (λ (u : Timer). asked_of (has_line b.nvic.nirq irq) (ltb j b.counts.timers) u irq) (sym (get_or-set_other b.timers i j t no_timer (eqb-false j i f)))
      by true d true g true f =
          let e : irq ≡ t.inst.irq = eqb-true irq t.inst.irq d in
          sym (ap (λ (u : Timer). asked_of (has_line b.nvic.nirq irq) (ltb j b.counts.timers) u irq) (at_i f)
          ∙ all_hold (has_line b.nvic.nirq irq) (ltb j b.counts.timers) (eqb t.inst.irq irq) (wants_line t) (ap (has_line b.nvic.nirq) e ∙ g) (ap (λ (x : ℕ). ltb x b.counts.timers) (eqb-true j i f) ∙ lt-ltb i b.counts.timers few) (eq-eqb t.inst.irq irq (sym e)))
      by true d false g true f =
          let e : has_line b.nvic.nirq irq ≡ false = ap (has_line b.nvic.nirq) (eqb-true irq t.inst.irq d) ∙ g in
          ap (λ (h : Bool). asked_of h (ltb j b.counts.timers) (timer_at b j) irq) e
          ∙ sym (ap (λ (h : Bool). asked_of h (ltb j b.counts.timers) (timer_at (with_timer b i t) j) irq) e)
      by false d v g true f =
          let own : (timer_at b j).inst.irq ≡ t.inst.irq = ap (λ (x : ℕ). (timer_at b x).inst.irq) (eqb-true j i f) ∙ sym names in
          let new : (timer_at (with_timer b i t) j).inst.irq ≡ t.inst.irq = ap (λ (u : Timer). u.inst.irq) (at_i f) in
          not_named (has_line b.nvic.nirq irq) (ltb j b.counts.timers) (timer_at b j) irq (λ z. eqb-false irq t.inst.irq d (sym z ∙ own))
          ∙ sym (not_named (has_line b.nvic.nirq irq) (ltb j b.counts.timers) (timer_at (with_timer b i t) j) irq (λ z. eqb-false irq t.inst.irq d (sym z ∙ new)))

-- ---- set-up

none-started : (is : List Inst) (k j : ℕ) → wants_line (get_or (map (λ (i : Inst). C.reset_state i 1) is ++ replicate k no_timer) j no_timer) ≡ false
none-started [] zero j = refl
none-started [] (suc k) zero = refl
none-started [] (suc k) (suc j) = none-started [] k j
none-started (i ∷ is) k zero = wants-reset i 1
none-started (i ∷ is) k (suc j) = none-started is k j

idle-lines : (n k irq : ℕ) → line_at (record { nirq = n; lines = replicate k idle }) irq ≡ idle
unfolding line_at
idle-lines n k irq = either (λ (l : Line). l ≡ idle) (has_line n irq) (at k irq) refl
  where
    at : (k irq : ℕ) → get_or (replicate k idle) irq idle ≡ idle
    at zero irq = refl
    at (suc k) zero = refl
    at (suc k) (suc irq) = at k irq

wished-fresh : (hz vcc : Float) (pins lines : ℕ) (is : List Inst) (table : List ℕ) → lines ≤ 256 → Wished (fresh_board hz vcc pins lines is table)
unfolding fresh_board
wished-fresh hz vcc pins lines is table few = record {
  room = rw (length-replicate 256 idle) few;
  line = λ irq.
      rw (idle-lines lines 256 irq)
      (ok-as (λ j. false) _ idle
      (λ j. sym (nothing-asked (has_line lines irq) (ltb j (length is)) (get_or (filled 8 no_timer (map (λ (i : Inst). C.reset_state i 1) is)) j no_timer) irq (none-started is (8 - length (map (λ (i : Inst). C.reset_state i 1) is)) j)))
      ok-idle);
}

few-lines : (a b c d e f g h i : Bool) → (a && b && c && d && e && f && g && h && i) ≡ true → e ≡ true
few-lines a b c d e f g h i q =
    let r₁ = (both (a && b && c && d && e && f && g && h) i q).0 in
    let r₂ = (both (a && b && c && d && e && f && g) h r₁).0 in
    let r₃ = (both (a && b && c && d && e && f) g r₂).0 in
    (both (a && b && c && d) e (both (a && b && c && d && e) f r₃).0).1

within-lines : (s : Setup) → within_limits s ≡ true → s.lines ≤ 256
unfolding within_limits
within-lines s h = leb-true s.lines 256 (few-lines (leb 1 (length s.timers)) (leb (length s.timers) 8) (leb 1 s.pins) (leb s.pins 128) (leb s.lines 256) (insts_good s.timers)
    (positive s.vcc) (eqb (length s.table) (s.pins * 16)) (entries_below 256 s.table) h)

-- ---- each call

-- a board of the same timers, count and lines
wished-like : (b c : Board) → c.timers ≡ b.timers → c.counts.timers ≡ b.counts.timers → c.nvic ≡ b.nvic → Wished b → Wished c
wished-like b c e f g h =
    subst (λ (n : Nvic). All-ok (λ irq j. has_line n.nirq irq && (ltb j c.counts.timers && (eqb (get_or c.timers j no_timer).inst.irq irq && wants_line (get_or c.timers j no_timer)))) n) (sym g)
    (subst (λ (k : ℕ). All-ok (λ irq j. has_line b.nvic.nirq irq && (ltb j k && (eqb (get_or c.timers j no_timer).inst.irq irq && wants_line (get_or c.timers j no_timer)))) b.nvic) (sym f)
    (subst (λ (l : List Timer). All-ok (λ irq j. has_line b.nvic.nirq irq && (ltb j b.counts.timers && (eqb (get_or l j no_timer).inst.irq irq && wants_line (get_or l j no_timer)))) b.nvic) (sym e) h))

-- a timer whose flags ask for the same
wished-kept : (b : Board) (i : ℕ) (t : Timer) → t.inst ≡ (timer_at b i).inst → wants_line t ≡ wants_line (timer_at b i) → Wished b → Wished (with_timer b i t)
wished-kept b i t n e h = all-as (asks b) (asks (with_timer b i t)) b.nvic (asks-same b i t (ap (λ (k : Inst). k.irq) n) e) h

-- a timer whose line is settled
wished-settled : (b : Board) (i : ℕ) (t : Timer) → t.inst ≡ (timer_at b i).inst → i < b.counts.timers → Sound b → Wished b → Wished (line_settled i t (with_timer b i t))
unfolding line_settled
wished-settled b i t n few s h =
    all-as _ _ _ (λ irq j. asks_set b i t (ap (λ (k : Inst). k.irq) n) few (omega (arith, few, s.few-timers, s.timers)) irq j ∙ named irq j)
    (all_set (asks b) b.nvic t.inst.irq i (wants_line t) (omega (arith, few, s.few-timers)) h)
  where
    named : (irq j : ℕ) → asks (with_timer b i t) irq j ≡ asks (with_nvic (with_timer b i t) (N.set_line b.nvic t.inst.irq i (wants_line t))) irq j
    named irq j = ap (λ (k : ℕ). asked_of (has_line k irq) (ltb j b.counts.timers) (timer_at (with_timer b i t) j) irq) (sym (nirq-on (λ l. line_set l i (wants_line t)) b.nvic t.inst.irq))

module _ (b : Board) (i cycle : ℕ) (few : i < b.counts.timers) (s : Sound b) (h : Wished b) where
  wished-followed : (w : Written) → w.timer.inst ≡ (timer_at b i).inst → Quiet (timer_at b i) w → Wished (followed b i cycle w).board
  unfolding followed rebooked line_settled
  wished-followed w n quiet =
      let t = w.timer in
      let c = with_pads (with_timer b i t) (cond (is_some w.drive) (Sys.drive_outputs t (unwrap_or w.drive 0) b.pads).pads b.pads) in
      let l = cond w.line (line_settled i t c) c in
      let hl : Wished l =
      by-test Wished w.line
      (λ e. wished-like (line_settled i t (with_timer b i t)) (line_settled i t c) refl refl refl (wished-settled b i t n few s h))
      (λ e. wished-like (with_timer b i t) c refl refl refl (wished-kept b i t n (quiet e) h)) in
      let k = cond w.book (rebooked i t cycle l) l in
      let hk : Wished k = either Wished w.book (wished-like l (rebooked i t cycle l) refl refl refl hl) hl in
      wished-like k (with_last k cycle) refl refl refl hk

  wished-reset : Wished (timer_reset b i cycle).board
  unfolding timer_reset line_settled
  wished-reset =
      let t = C.reset_state (timer_at b i).inst (divider_of b (timer_at b i)) in
      wished-like (line_settled i t (with_timer b i t)) (timer_reset b i cycle).board refl refl refl
      (wished-settled b i t (inst-reset (timer_at b i).inst (divider_of b (timer_at b i))) few s h)

  wished-delivered : (places : ℕ) → Wished (delivered_to b i cycle places).board
  unfolding delivered_to after_delivery rebooked line_settled
  wished-delivered places =
      let r = delivered b i cycle places in
      wished-like (line_settled i r.timer (with_timer b i r.timer)) (delivered_to b i cycle places).board refl refl refl
      (wished-settled b i r.timer (delivered-inst b i cycle places s) few s h)

wished-retimed : (i cycle : ℕ) (b : Board) → Wished b → Wished (timer_retimed i cycle b)
unfolding timer_retimed rebooked
wished-retimed i cycle b h =
    let t = C.retimed (timer_at b i) cycle (divider_of b (timer_at b i)) in
    let k = wished-kept b i t (inst-retimed (timer_at b i) cycle (divider_of b (timer_at b i))) (wants-retimed (timer_at b i) cycle (divider_of b (timer_at b i))) h in
    either Wished t.count.running (wished-like (with_timer b i t) (rebooked i t cycle (with_timer b i t)) refl refl refl k) k

wished-all : (n i cycle : ℕ) (b : Board) → Wished b → Wished (all_retimed n i cycle b)
unfolding all_retimed
wished-all zero i cycle b h = h
wished-all (suc n) i cycle b h = wished-all n (i + 1) cycle (timer_retimed i cycle b) (wished-retimed i cycle b h)

wished-tree : (b : Board) (t : ClockTree) (cycle : ℕ) → Wished b → Wished (tree_set b t cycle)
unfolding tree_set
wished-tree b t cycle h =
    let c = with_clocks b (record { tree = t; clock = Clock.hz_set b.clocks.clock t.hclk_hz cycle; enr = b.clocks.enr }) in
    let k : Wished c = wished-like b c refl refl refl h in
    either Wished (differing b.clocks.tree t) (wished-all b.counts.timers 0 cycle c k) k

wished-cleared : (b : Board) (irq : ℕ) → Wished b → Wished (with_nvic b (N.clear_pending b.nvic irq))
wished-cleared b irq h =
    all-as (asks b) _ (N.clear_pending b.nvic irq)
    (λ j k. ap (λ (n : ℕ). asked_of (has_line n j) (ltb k b.counts.timers) (timer_at b k) j) (sym (nirq-on line_cleared b.nvic irq)))
    (all-cleared (asks b) b.nvic irq h)

wished-performed : (b : Board) (c : Call) → Sound b → Wished b → applies (refusals b c) ≡ false → Wished (performed b c).board
unfolding performed refusals
wished-performed b (set_up u) s h a =
    wished-fresh u.hz u.vcc u.pins u.lines u.timers u.table (within-lines u (set-up-within b u a))
wished-performed b (clock_tree t cycle) s h a = wished-like (tree_set b t cycle) (with_last (tree_set b t cycle) cycle) refl refl refl (wished-tree b t cycle h)
wished-performed b (enable word value) s h a = wished-like b (performed b (enable word value)).board refl refl refl h
wished-performed b (clear_pending irq) s h a = wished-cleared b irq h
wished-performed b (ask q) s h a = h
wished-performed b (lend (pin_setting pin mode od out pu pd f) cycle places) s h a =
    wished-like b (performed b (lend (pin_setting pin mode od out pu pd f) cycle places)).board refl refl refl h
wished-performed b (lend (outside_drive pin e) cycle places) s h a =
    wished-like b (performed b (lend (outside_drive pin e) cycle places)).board refl refl refl h
wished-performed b (lend pin_reset cycle places) s h a = wished-like b (performed b (lend pin_reset cycle places)).board refl refl refl h
wished-performed b (lend (writing timer offset size value) cycle places) s h a =
    either (λ (o : Outcome). Wished o.board) (clock_on b (timer_at b timer))
    (wished-followed b timer cycle (here timer b.counts.timers _ a) s h (written b (timer_at b timer) offset size value cycle)
    (inst-written b (timer_at b timer) offset size value cycle) (wants-written b (timer_at b timer) offset size value cycle))
    (wished-like b (with_last b cycle) refl refl refl h)
wished-performed b (lend (resetting timer) cycle places) s h a = wished-reset b timer cycle (here timer b.counts.timers _ a) s h
wished-performed b (lend (delivery timer) cycle places) s h a = wished-delivered b timer cycle (here timer b.counts.timers _ a) s h places

wished-step : (b : Board) (c : Call) → Sound b → Wished b → Wished (step b c).board
wished-step b c s h = go (answered b c)
  where
    go : Verdict (refusals b c) b (performed b c) → Wished (step b c).board
    go (refuses n l u f a g) = rw (step_given b c ∙ g) h
    go (passes f a g) = rw (step_given b c ∙ g) (wished-performed b c s h a)

pub wished-run : (b : Board) (cs : List Call) → Sound b → Wished b → Wished (board_after b cs)
unfolding board_after
wished-run b [] s h = h
wished-run b (c ∷ cs) s h = wished-run (step b c).board cs (sound-step b c s) (wished-step b c s h)

wished-first : Wished first_board
wished-first = wished-fresh one one 0 0 [] [] (lit≤ tt)

pub wished-after : (cs : List Call) → Wished (board_after first_board cs)
wished-after cs = wished-run first_board cs sound-first wished-first

pub lines_of : (b : Board) → Sound b → Wished b → Lines b
lines_of b s h = record {
  wishes = λ irq i. (h.line irq).is i;
  high = λ irq.
      (h.line irq).high
      ∙ some-any b.counts.timers (line_at b.nvic irq).wishes (λ j l. (h.line irq).is j ∙ ap (λ (r : Bool). asked_of (has_line b.nvic.nirq irq) r (timer_at b j) irq) (le-ltb j b.counts.timers l) ∙ none (has_line b.nvic.nirq irq));
}
  where
    none : (v : Bool) → v && false ≡ false
    none true = refl
    none false = refl

-- ---- what a call does to the lines

-- "Pending is still set only on a rise"
abbrev Rises : Line → Line → Type 0
Rises was is = is.pending ≡ true → (was.pending || (is.high && not was.high)) ≡ true

rises-same : (l : Line) → Rises l l
rises-same l h = rw h

rises-cleared : (l : Line) → Rises l (line_cleared l)
rises-cleared l h = absurd (false≢true h)

rises-set : (l : Line) (i : ℕ) (level : Bool) → Rises l (line_set l i level)
rises-set l i level h = go l.pending (some (set l.wishes i level) && not l.high) h
  where
    go : (p r : Bool) → (r || p) ≡ true → (p || r) ≡ true
    go true r e = refl
    go false true e = refl
    go false false e = e

-- where no other timer names line irq, timer i's `set_line` is the Rust's
bare_set : (l : Line) (i : ℕ) (level : Bool) → i < length l.wishes → ((j : ℕ) → (j ≡ i → ⊥) → get_or l.wishes j false ≡ false)
    → bare (line_set l i level) ≡ rust_set (bare l) level
bare_set l i level a h = ap (λ (v : Bool). record { high = v; pending = (v && not l.high) || l.pending }) (some-own l.wishes i level a h)

-- no other timer's wish
others : (b : Board) (i j k : ℕ) → OneEach b → i < b.counts.timers → j ≡ (timer_at b i).inst.irq → j < b.nvic.nirq → (k ≡ i → ⊥) → asks b j k ≡ false
others b i j k o few e l z = by (ltb k b.counts.timers) refl
  where
    none : (v : Bool) → v && false ≡ false
    none true = refl
    none false = refl

    by : (q : Bool) → ltb k b.counts.timers ≡ q → asked_of (has_line b.nvic.nirq j) q (timer_at b k) j ≡ false
    by false d = none (has_line b.nvic.nirq j)
    by true d =
        not_named (has_line b.nvic.nirq j) true (timer_at b k) j
        (λ y. z (sym (o i k few (ltb-true k b.counts.timers d) (sym (y ∙ e)) (subst (λ (x : ℕ). x < b.nvic.nirq) e l))))

absent-line : (n : Nvic) (j : ℕ) → has_line n.nirq j ≡ false → line_at n j ≡ idle
unfolding line_at
absent-line n j h = rw h

-- of every line, with the line count
pub record Moved (b : Board) (n : Nvic) (ls : (ℕ → RustLine) → ℕ → RustLine) : Type 0 where
  pub pends : (irq : ℕ) → Rises (line_at b.nvic irq) (line_at n irq)
  pub bares : OneEach b → (irq : ℕ) → bare (line_at n irq) ≡ ls (λ j. bare (line_at b.nvic j)) irq

moved_none : (b : Board) → Moved b b.nvic (λ ls. ls)
moved_none b = record { pends = λ irq. rises-same (line_at b.nvic irq); bares = λ o irq. refl }

moved-cleared : (b : Board) (irq : ℕ) → Wished b → Moved b (N.clear_pending b.nvic irq) (λ ls j. cond (eqb j irq) (rust_cleared (ls j)) (ls j))
moved-cleared b irq h = record {
  pends = λ j.
      rw (line_on line_cleared b.nvic irq j h.room)
      (either (Rises (line_at b.nvic j)) (eqb j irq && has_line b.nvic.nirq irq) (rises-cleared (line_at b.nvic j)) (rises-same (line_at b.nvic j)));
  bares = λ o j. rw (line_on line_cleared b.nvic irq j h.room) (by j (eqb j irq) refl (has_line b.nvic.nirq irq) refl);
}
  where
    by : (j : ℕ) (q : Bool) → eqb j irq ≡ q → (v : Bool) → has_line b.nvic.nirq irq ≡ v
        → bare (cond (q && v) (line_cleared (line_at b.nvic j)) (line_at b.nvic j)) ≡ cond q (rust_cleared (bare (line_at b.nvic j))) (bare (line_at b.nvic j))
    by j false d v g = refl
    by j true d true g = refl
    by j true d false g = rw (absent-line b.nvic j (ap (has_line b.nvic.nirq) (eqb-true j irq d) ∙ g))

moved-set : (b : Board) (i : ℕ) (t : Timer) → t.inst ≡ (timer_at b i).inst → i < b.counts.timers → Sound b → Wished b
    → Moved b (N.set_line b.nvic t.inst.irq i (wants_line t)) (rust_settled b.nvic.nirq t)
moved-set b i t n few s h = record {
  pends = λ j.
      rw (line_on (λ l. line_set l i (wants_line t)) b.nvic t.inst.irq j h.room)
      (either (Rises (line_at b.nvic j)) (eqb j t.inst.irq && has_line b.nvic.nirq t.inst.irq) (rises-set (line_at b.nvic j) i (wants_line t)) (rises-same (line_at b.nvic j)));
  bares = λ o j. rw (line_on (λ l. line_set l i (wants_line t)) b.nvic t.inst.irq j h.room) (by o j (eqb j t.inst.irq) refl (has_line b.nvic.nirq j) refl);
}
  where
    by : OneEach b → (j : ℕ) (q : Bool) → eqb j t.inst.irq ≡ q → (v : Bool) → has_line b.nvic.nirq j ≡ v
        → bare (cond (q && has_line b.nvic.nirq t.inst.irq) (line_set (line_at b.nvic j) i (wants_line t)) (line_at b.nvic j))
        ≡ cond (q && v) (rust_set (bare (line_at b.nvic j)) (wants_line t)) (bare (line_at b.nvic j))
    by o j false d v g = refl
    by o j true d false g = rw (ap (has_line b.nvic.nirq) (sym (eqb-true j t.inst.irq d)) ∙ g)
    by o j true d true g =
        let e : j ≡ t.inst.irq = eqb-true j t.inst.irq d in
        rw (ap (has_line b.nvic.nirq) (sym e) ∙ g)
        (bare_set (line_at b.nvic j) i (wants_line t) (omega (arith, few, s.few-timers, (h.line j).sized))
        (λ k z. (h.line j).is k ∙ others b i j k o few (e ∙ ap (λ (x : Inst). x.irq) n) (ltb-true j b.nvic.nirq g) z))

settled-moves : (b a : Board) (i : ℕ) (t : Timer) → t.inst ≡ (timer_at b i).inst → i < b.counts.timers → Sound b → Wished b
    → a.nvic ≡ N.set_line b.nvic t.inst.irq i (wants_line t) → timer_at a i ≡ t → Moved b a.nvic (rust_settled a.nvic.nirq (timer_at a i))
settled-moves b a i t n few s h e f =
    let m = N.set_line b.nvic t.inst.irq i (wants_line t) in
    subst (λ (k : Nvic). Moved b k (rust_settled k.nirq (timer_at a i))) (sym e)
    (subst (λ (u : Timer). Moved b m (rust_settled m.nirq u)) (sym f)
    (subst (λ (k : ℕ). Moved b m (rust_settled k t)) (sym (nirq-on (λ l. line_set l i (wants_line t)) b.nvic t.inst.irq)) (moved-set b i t n few s h)))

-- a write
followed-nvic : (b : Board) (i cycle : ℕ) (w : Written)
    → (followed b i cycle w).board.nvic ≡ cond w.line (N.set_line b.nvic w.timer.inst.irq i (wants_line w.timer)) b.nvic
unfolding followed line_settled rebooked
followed-nvic b i cycle w = go w.line w.book
  where
    go : (l k : Bool) → (followed b i cycle (record { timer = w.timer; drive = w.drive; line = l; book = k })).board.nvic
        ≡ cond l (N.set_line b.nvic w.timer.inst.irq i (wants_line w.timer)) b.nvic
    go true true = refl
    go true false = refl
    go false true = refl
    go false false = refl

followed-timer : (b : Board) (i cycle : ℕ) (w : Written) → i < length b.timers → timer_at (followed b i cycle w).board i ≡ w.timer
unfolding followed line_settled rebooked
followed-timer b i cycle w h = go w.line w.book
  where
    go : (l k : Bool) → timer_at (followed b i cycle (record { timer = w.timer; drive = w.drive; line = l; book = k })).board i ≡ w.timer
    go true true = get_or-set_same b.timers i w.timer no_timer h
    go true false = get_or-set_same b.timers i w.timer no_timer h
    go false true = get_or-set_same b.timers i w.timer no_timer h
    go false false = get_or-set_same b.timers i w.timer no_timer h

-- a reset, and a delivery
reset-moves : (b : Board) (i cycle : ℕ) → i < b.counts.timers → Sound b → Wished b
    → Moved b (timer_reset b i cycle).board.nvic (rust_settled (timer_reset b i cycle).board.nvic.nirq (timer_at (timer_reset b i cycle).board i))
unfolding timer_reset line_settled
reset-moves b i cycle few s h =
    let t = C.reset_state (timer_at b i).inst (divider_of b (timer_at b i)) in
    settled-moves b (timer_reset b i cycle).board i t (inst-reset (timer_at b i).inst (divider_of b (timer_at b i))) few s h refl
    (get_or-set_same b.timers i t no_timer (omega (arith, few, s.few-timers, s.timers)))

delivery-moves : (b : Board) (i cycle places : ℕ) → i < b.counts.timers → Sound b → Wished b
    → Moved b (delivered_to b i cycle places).board.nvic (rust_settled (delivered_to b i cycle places).board.nvic.nirq (timer_at (delivered_to b i cycle places).board i))
unfolding delivered_to after_delivery rebooked line_settled
delivery-moves b i cycle places few s h =
    let t = (delivered b i cycle places).timer in
    settled-moves b (delivered_to b i cycle places).board i t (delivered-inst b i cycle places s) few s h refl
    (get_or-set_same b.timers i t no_timer (omega (arith, few, s.few-timers, s.timers)))

retimed-nvic : (n i cycle : ℕ) (b : Board) → (all_retimed n i cycle b).nvic ≡ b.nvic
unfolding all_retimed timer_retimed rebooked
retimed-nvic zero i cycle b = refl
retimed-nvic (suc n) i cycle b =
    retimed-nvic n (i + 1) cycle (timer_retimed i cycle b)
    ∙ either (λ (c : Board). c.nvic ≡ b.nvic) (C.retimed (timer_at b i) cycle (divider_of b (timer_at b i))).count.running refl refl

tree-nvic : (b : Board) (t : ClockTree) (cycle : ℕ) → (tree_set b t cycle).nvic ≡ b.nvic
unfolding tree_set
tree-nvic b t cycle = either (λ (c : Board). c.nvic ≡ b.nvic) (differing b.clocks.tree t) (retimed-nvic b.counts.timers 0 cycle _) refl

moved-written : (b : Board) (i cycle : ℕ) (w : Written) → w.timer.inst ≡ (timer_at b i).inst → i < b.counts.timers → Sound b → Wished b → (q : Bool)
    → Moved b (cond q (followed b i cycle w) (served 0 (with_last b cycle))).board.nvic
    (λ ls. cond (q && w.line) (rust_settled (cond q (followed b i cycle w) (served 0 (with_last b cycle))).board.nvic.nirq (timer_at (cond q (followed b i cycle w) (served 0 (with_last b cycle))).board i) ls) ls)
moved-written b i cycle w n few s h false = moved_none b
moved-written b i cycle w n few s h true = go w.line refl
  where
    a : Board
    a = (followed b i cycle w).board

    go : (v : Bool) → w.line ≡ v → Moved b a.nvic (λ ls. cond v (rust_settled a.nvic.nirq (timer_at a i) ls) ls)
    go true e =
        settled-moves b a i w.timer n few s h (followed-nvic b i cycle w ∙ rw e) (followed-timer b i cycle w (omega (arith, few, s.few-timers, s.timers)))
    go false e = subst (λ (k : Nvic). Moved b k (λ ls. ls)) (sym (followed-nvic b i cycle w ∙ rw e)) (moved_none b)

moved-performed : (b : Board) (c : Call) → is_set_up c ≡ false → Sound b → Wished b → applies (refusals b c) ≡ false
    → Moved b (performed b c).board.nvic (rust_served b (performed b c).board c)
unfolding performed refusals
moved-performed b (set_up u) z s h a = absurd (false≢true (sym z))
moved-performed b (clock_tree t cycle) z s h a = subst (λ (k : Nvic). Moved b k (λ ls. ls)) (sym (tree-nvic b t cycle)) (moved_none b)
moved-performed b (enable word value) z s h a = moved_none b
moved-performed b (clear_pending irq) z s h a = moved-cleared b irq h
moved-performed b (ask q) z s h a = moved_none b
moved-performed b (lend (pin_setting pin mode od out pu pd f) cycle places) z s h a = moved_none b
moved-performed b (lend (outside_drive pin e) cycle places) z s h a = moved_none b
moved-performed b (lend pin_reset cycle places) z s h a = moved_none b
moved-performed b (lend (writing timer offset size value) cycle places) z s h a =
    moved-written b timer cycle (written b (timer_at b timer) offset size value cycle) (inst-written b (timer_at b timer) offset size value cycle)
    (here timer b.counts.timers _ a) s h (clock_on b (timer_at b timer))
moved-performed b (lend (resetting timer) cycle places) z s h a = reset-moves b timer cycle (here timer b.counts.timers _ a) s h
moved-performed b (lend (delivery timer) cycle places) z s h a = delivery-moves b timer cycle places (here timer b.counts.timers _ a) s h

moved-step : (b : Board) (c : Call) → is_set_up c ≡ false → Sound b → Wished b → Moved b (step b c).board.nvic (rust_after b c)
moved-step b c z s h = go (answered b c)
  where
    Goes : Outcome → Type 0
    Goes o = Moved b o.board.nvic (λ ls. cond (is_refusal o.number) ls (rust_served b o.board c ls))

    go : Verdict (refusals b c) b (performed b c) → Goes (step b c)
    go (refuses n l u f a g) =
        subst Goes (sym (step_given b c ∙ g)) (subst (λ (v : Bool). Moved b b.nvic (λ ls. cond v ls (rust_served b b c ls))) (sym u) (moved_none b))
    go (passes f a g) =
        let p = performed b c in
        subst Goes (sym (step_given b c ∙ g))
        (subst (λ (v : Bool). Moved b p.board.nvic (λ ls. cond v ls (rust_served b p.board c ls))) (sym (performed-served b c)) (moved-performed b c z s h a))

-- set-up starts all low
set-up-bare : (b : Board) (u : Setup) (irq : ℕ) → bare (line_at (step b (set_up u)).board.nvic irq) ≡ rust_after b (set_up u) (λ j. bare (line_at b.nvic j)) irq
unfolding performed fresh_board
set-up-bare b u irq = go (answered b (set_up u))
  where
    go : Verdict (refusals b (set_up u)) b (performed b (set_up u)) → bare (line_at (step b (set_up u)).board.nvic irq) ≡ rust_after b (set_up u) (λ j. bare (line_at b.nvic j)) irq
    go (refuses n l v f a g) = rw (step_given b (set_up u) ∙ g, v)
    go (passes f a g) = rw (step_given b (set_up u) ∙ g) (ap bare (idle-lines u.lines 256 irq))

first-idle : (irq : ℕ) → line_at first_board.nvic irq ≡ idle
unfolding fresh_board
first-idle irq = idle-lines 0 256 irq

bare_step : (b : Board) (c : Call) → Sound b → Wished b → OneEach b → (irq : ℕ)
    → bare (line_at (step b c).board.nvic irq) ≡ rust_after b c (λ j. bare (line_at b.nvic j)) irq
bare_step b (set_up u) s h o irq = set-up-bare b u irq
bare_step b (clock_tree t cycle) s h o irq = (moved-step b (clock_tree t cycle) refl s h).bares o irq
bare_step b (enable word value) s h o irq = (moved-step b (enable word value) refl s h).bares o irq
bare_step b (clear_pending n) s h o irq = (moved-step b (clear_pending n) refl s h).bares o irq
bare_step b (ask q) s h o irq = (moved-step b (ask q) refl s h).bares o irq
bare_step b (lend k cycle places) s h o irq = (moved-step b (lend k cycle places) refl s h).bares o irq

bare-run : (cs : List Call) (b : Board) → Sound b → Wished b → OneEachAlong b cs → (irq : ℕ)
    → bare (line_at (board_after b cs).nvic irq) ≡ rust_lines b cs (λ j. bare (line_at b.nvic j)) irq
unfolding board_after rust_lines OneEachAlong
bare-run [] b s h o irq = refl
bare-run (c ∷ cs) b s h o irq =
    bare-run cs (step b c).board (sound-step b c s) (wished-step b c s h) o.1 irq
    ∙ ap (λ (ls : ℕ → RustLine). rust_lines (step b c).board cs ls irq) (fun_ext (λ j. bare_step b c s h o.0 j))

pub two-timers : TwoTimers
two-timers = record {
  lines = λ cs. lines_of (board_after first_board cs) (sound-after cs) (wished-after cs);
  pends = λ cs c irq z. (moved-step (board_after first_board cs) c z (sound-after cs) (wished-after cs)).pends irq;
  as_before = λ cs o irq.
      bare-run cs first_board sound-first wished-first o irq
      ∙ ap (λ (ls : ℕ → RustLine). rust_lines first_board cs ls irq) (fun_ext (λ j. ap bare (first-idle j)));
}
