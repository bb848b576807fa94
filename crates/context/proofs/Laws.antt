-- What the functions leave, over any board: each step's equation in, the definition's board out. Assumes nothing.
use mathlib.Core.Path.{◌≡◌, refl, ap, sym, ◌∙◌}
use mathlib.Core.Bool.{Bool, true, false, cond, false≢true}
use Prim.Native.Nat.{ℕ, suc, ◌+◌, ◌-◌, ◌≤◌, ◌<◌, max}
use native.Mathlib.Omega.{arith}
use lib.ListN.{length}
use lib.Seq.{get_or-set_same}
use Rattle.tim.specs.declared.Timer.{Timer}
use Rattle.tim.specs.declared.Next.{Next}
use Rattle.tim.specs.declared.Due.{Due}
use Rattle.tim.specs.declared.Due.TheVariants.{At}
use Rattle.tim.specs.Change.{retimed}
use Rattle.tim.specs.Next.{next_event}
use Rattle.clk.specs.declared.ClockTree.{ClockTree}
use Rattle.clk.specs.Clk.{differing}
use Rattle.pins.specs.declared.ClockModel.{ClockModel}
use Rattle.pins.specs.Clock.{hz_set}
use Rattle.state.specs.Board.{booking_set, with_tree, with_clock}
use Rattle.machine.specs.Board.{Board, no_timer, timer_at, with_timer, with_clocks}
use Rattle.machine.specs.Deliver.{divider_of, booking_of, rebooked}
use Rattle.machine.specs.Step.{timer_retimed, all_retimed, tree_set}

-- ---- a choice whose test is known
cond-true : {A : Type 0} (b : Bool) (x y : A) → b ≡ true → x ≡ cond b x y
cond-true true x y h = refl
cond-true false x y h = absurd (false≢true h)

cond-false : {A : Type 0} (b : Bool) (x y : A) → b ≡ false → y ≡ cond b x y
cond-false true x y h = absurd (false≢true (sym h))
cond-false false x y h = refl

-- ---- a booking
pub at-booking : (d : Due) (at : ℕ) (e : Next) (cycle : ℕ) → d ≡ At at e → max at cycle ≡ booking_of d cycle
at-booking d at e cycle h = sym (ap (λ (x : Due). booking_of x cycle) h)

pub booked-anew : (b b₁ : Board) (i cycle : ℕ) (t : Timer) (d : Due) → t ≡ timer_at b i → d ≡ next_event t → b₁ ≡ booking_set b i (booking_of d cycle)
    → b₁ ≡ rebooked i (timer_at b i) cycle b
unfolding rebooked
booked-anew b b₁ i cycle t d load due e = e ∙ ap (λ (x : Due). booking_set b i (booking_of x cycle)) (due ∙ ap next_event load)

-- ---- a timer that was stored is there
pub stored_there : (b b₁ : Board) (i : ℕ) (t : Timer) → i < length b.timers → b₁ ≡ with_timer b i t → timer_at b₁ i ≡ t
stored_there b b₁ i t h e = ap (λ (y : Board). timer_at y i) e ∙ get_or-set_same b.timers i t no_timer h

-- ---- a timer retimed
module _ (b b₁ : Board) (i cycle div : ℕ) (t s : Timer) (load : t ≡ timer_at b i) (steps : div ≡ divider_of b t) (new : s ≡ retimed t cycle div)
    (store : b₁ ≡ with_timer b i s) where
  same : s ≡ retimed (timer_at b i) cycle (divider_of b (timer_at b i))
  same = new ∙ ap (retimed t cycle) steps ∙ ap (λ (x : Timer). retimed x cycle (divider_of b x)) load

  running : (on : Bool) → s.count.running ≡ on → (retimed (timer_at b i) cycle (divider_of b (timer_at b i))).count.running ≡ on
  running on h = sym (ap (λ (x : Timer). x.count.running) same) ∙ h

  pub retimed-running : (b₂ : Board) → i < length b.timers → s.count.running ≡ true → b₂ ≡ rebooked i (timer_at b₁ i) cycle b₁ → b₂ ≡ timer_retimed i cycle b
  unfolding timer_retimed
  retimed-running b₂ l h k =
      k ∙ ap (λ (x : Timer). rebooked i x cycle b₁) (stored_there b b₁ i s l store) ∙ ap (rebooked i s cycle) store ∙ ap (λ (x : Timer). rebooked i x cycle (with_timer b i x)) same ∙ cond-true _ _ _ (running true h)

  pub retimed-stopped : s.count.running ≡ false → b₁ ≡ timer_retimed i cycle b
  unfolding timer_retimed
  retimed-stopped h = store ∙ ap (λ (x : Timer). with_timer b i x) same ∙ cond-false _ _ _ (running false h)

-- ---- the timers one after the other
pub all_start : (n cycle : ℕ) (b : Board) → all_retimed (n - 0) 0 cycle b ≡ all_retimed n 0 cycle b
all_start n cycle b = ap (λ (m : ℕ). all_retimed m 0 cycle b) (omega arith)

pub all-step : (n i cycle : ℕ) (b b₁ : Board) → i < n → b₁ ≡ timer_retimed i cycle b
    → all_retimed (n - (i + 1)) (i + 1) cycle b₁ ≡ all_retimed (n - i) i cycle b
unfolding all_retimed
all-step n i cycle b b₁ h e =
    let one : suc (n - (i + 1)) ≡ n - i = omega arith in
    ap (all_retimed (n - (i + 1)) (i + 1) cycle) e ∙ ap (λ (m : ℕ). all_retimed m i cycle b) one

pub all_done : (n i cycle : ℕ) (b : Board) → n ≤ i → b ≡ all_retimed (n - i) i cycle b
unfolding all_retimed
all_done n i cycle b h = let none : 0 ≡ n - i = omega arith in ap (λ (m : ℕ). all_retimed m i cycle b) none

-- ---- the clock tree
module _ (b b₁ b₂ : Board) (was t : ClockTree) (k k₁ : ClockModel) (cycle : ℕ) (had : was ≡ b.clocks.tree) (clock : k ≡ b.clocks.clock)
    (set : b₁ ≡ with_tree b t) (new : k₁ ≡ hz_set k t.hclk_hz cycle) (kept : b₂ ≡ with_clock b₁ k₁) where
  clocked : b₂ ≡ with_clocks b (record { tree = t; clock = hz_set b.clocks.clock t.hclk_hz cycle; enr = b.clocks.enr })
  clocked =
      kept ∙ ap (λ (y : Board). with_clock y k₁) set
      ∙ ap (λ (y : ClockModel). with_clock (with_tree b t) y) (new ∙ ap (λ (y : ClockModel). hz_set y t.hclk_hz cycle) clock)

  pub tree-told : (b₃ : Board) → differing was t ≡ true → b₃ ≡ all_retimed b₂.counts.timers 0 cycle b₂ → b₃ ≡ tree_set b t cycle
  unfolding tree_set
  tree-told b₃ h e =
      e ∙ ap (λ (y : Board). all_retimed y.counts.timers 0 cycle y) clocked
      ∙ cond-true _ _ _ (sym (ap (λ (y : ClockTree). differing y t) had) ∙ h)

  pub tree-kept : differing was t ≡ false → b₂ ≡ tree_set b t cycle
  unfolding tree_set
  tree-kept h = clocked ∙ cond-false _ _ _ (sym (ap (λ (y : ClockTree). differing y t) had) ∙ h)
