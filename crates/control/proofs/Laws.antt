-- The calls over any arrays: what the callees gave in, the promise out. Assumes nothing.
use mathlib.Core.Path.{◌≡◌, refl, ap, sym, ◌∙◌}
use mathlib.Core.Bool.{Bool, true, false}
use mathlib.Core.List.{List}
use Prim.Native.Nat.{ℕ, ◌≤◌, ◌<◌}
use native.Mathlib.Omega.{arith}
use lib.Ieee.{Float}
use lib.Dec.{leb}
use borrow.Author.Tests.{le-leb, lt-leb}
use Rattle.pins.specs.declared.ClockModel.{ClockModel}
use Rattle.pins.specs.Clock.{time_at}
use Rattle.nvic.specs.Nvic as N
use Rattle.scheduler.specs.Booking.{least}
use Rattle.real.specs.Real.{bits_of}
use Rattle.gpio.specs.declared.Gpio.{Gpio}
use Rattle.machine.specs.Board.{Board, gpio_at, with_nvic}
use Rattle.machine.specs.Call.{Outcome, served, enable, query_booked, query_next, query_level, query_volts, query_line, query_time, clear_pending}
use Rattle.machine.specs.Step.{step, refuse_if, cycle_astray, level_query}
use Rattle.state.specs.Board.{booked_at, with_enr}
use Rattle.state.specs.View.{view}
use Rattle.answer.specs.declared.Answer.{Answer}
use Rattle.answer.specs.Promise.{answer, Answers}
use Rattle.answer.proofs.Given.{away, gives}

-- ---- a count that a callee gave
missing : (n m i : ℕ) → n ≡ m → n ≤ i → leb m i ≡ true
missing n m i e h = le-leb m i (omega arith)

found : (n m i : ℕ) → n ≡ m → i < n → leb m i ≡ false
found n m i e h = lt-leb m i (omega arith)

-- ---- calls that change nothing
module _ (w : List ℕ) (x : List Float) (r : Answer) where
  -- a call that its one test refuses
  turned : (t : Bool) (n : ℕ) (o : Outcome) → t ≡ true → r ≡ answer n 0 0 → Answers (refuse_if t n (view w x) o) r w w x x
  turned t n o h e = away w x _ n (ap (λ (b : Bool). refuse_if b n (view w x) o) h) r e

  told : (u v : ℕ) → u ≡ v → r ≡ answer 0 u 0 → Answers (served v (view w x)) r w w x x
  told u v h e = rw (e, h) (record { number = refl; value = refl; count = refl; board = refl; kept = λ p. (refl, refl) })

  -- one that its test lets pass
  passed : (t : Bool) (n u v : ℕ) → t ≡ false → u ≡ v → r ≡ answer 0 u 0 → Answers (refuse_if t n (view w x) (served v (view w x))) r w w x x
  passed t n u v h k e = rw h (told u v k e)

  pub no-timer : (i : ℕ) → leb (view w x).counts.timers i ≡ true → r ≡ answer 2 0 0 → Answers (step (view w x) (query_booked i)) r w w x x
  unfolding step
  no-timer i h e = turned _ 2 _ h e

  pub booked-told : (i v : ℕ) → leb (view w x).counts.timers i ≡ false → v ≡ booked_at (view w x) i → r ≡ answer 0 v 0
      → Answers (step (view w x) (query_booked i)) r w w x x
  unfolding step
  booked-told i v h l e = passed _ 2 v _ h l e

  pub next-told : (v : ℕ) → v ≡ least (view w x).booking → r ≡ answer 0 v 0 → Answers (step (view w x) query_next) r w w x x
  unfolding step
  next-told v l e = told v _ l e

  pub no-level : (i : ℕ) → leb (view w x).counts.pins i ≡ true → r ≡ answer 2 0 0 → Answers (step (view w x) (query_level i)) r w w x x
  unfolding step
  no-level i h e = turned _ 2 _ h e

  pub level-told : (i : ℕ) (g : Gpio) → leb (view w x).counts.pins i ≡ false → g ≡ gpio_at (view w x).pads i → r ≡ answer 0 (level_query g.pin) 0
      → Answers (step (view w x) (query_level i)) r w w x x
  unfolding step
  level-told i g h l e = passed _ 2 (level_query g.pin) _ h (ap (λ (y : Gpio). level_query y.pin) l) e

  pub no-volts : (i : ℕ) → leb (view w x).counts.pins i ≡ true → r ≡ answer 2 0 0 → Answers (step (view w x) (query_volts i)) r w w x x
  unfolding step
  no-volts i h e = turned _ 2 _ h e

  pub volts-told : (i v : ℕ) (g : Gpio) → leb (view w x).counts.pins i ≡ false → g ≡ gpio_at (view w x).pads i → v ≡ bits_of g.pin.volts
      → r ≡ answer 0 v 0 → Answers (step (view w x) (query_volts i)) r w w x x
  unfolding step
  volts-told i v g h l b e = passed _ 2 v _ h (b ∙ ap (λ (y : Gpio). bits_of y.pin.volts) l) e

  pub line-told : (i v : ℕ) → v ≡ N.state_of (N.line_at (view w x).nvic i) → r ≡ answer 0 v 0 → Answers (step (view w x) (query_line i)) r w w x x
  unfolding step
  line-told i v l e = told v _ l e

  pub time-astray : (cycle : ℕ) (t : Bool) → t ≡ cycle_astray (view w x) cycle → t ≡ true → r ≡ answer 5 0 0
      → Answers (step (view w x) (query_time cycle)) r w w x x
  unfolding step
  time-astray cycle t a h e = turned _ 5 _ (sym a ∙ h) e

  pub time-told : (cycle v : ℕ) (t : Bool) (k : ClockModel) (f : Float) → t ≡ cycle_astray (view w x) cycle → t ≡ false → k ≡ (view w x).clocks.clock
      → f ≡ time_at k cycle → v ≡ bits_of f → r ≡ answer 0 v 0 → Answers (step (view w x) (query_time cycle)) r w w x x
  unfolding step
  time-told cycle v t k f a h c d b e = passed _ 5 v _ (sym a ∙ h) (b ∙ ap bits_of (d ∙ ap (λ (y : ClockModel). time_at y cycle) c)) e

  pub no_word : (i v : ℕ) → 9 ≤ i → r ≡ answer 2 0 0 → Answers (step (view w x) (enable i v)) r w w x x
  unfolding step
  no_word i v h e = turned _ 2 _ (le-leb 9 i h) e

-- ---- calls that change the words
module _ (w w₁ : List ℕ) (x : List Float) (r : Answer) (served-0 : r ≡ answer 0 0 0) where
  done : (b : Board) → view w₁ x ≡ b → Answers (served 0 b) r w w₁ x x
  done b h =
      gives _ r w w₁ x x (ap (λ (a : Answer). a.number) served-0) (ap (λ (a : Answer). a.value) served-0) (ap (λ (a : Answer). a.count) served-0) h
      refl

  pub pending-cleared : (i : ℕ) → view w₁ x ≡ with_nvic (view w x) (N.clear_pending (view w x).nvic i)
      → Answers (step (view w x) (clear_pending i)) r w w₁ x x
  unfolding step
  pending-cleared i h = done _ h

  pub word_set : (i v : ℕ) → i < 9 → view w₁ x ≡ with_enr (view w x) i v → Answers (step (view w x) (enable i v)) r w w₁ x x
  unfolding step
  word_set i v h k = rw (lt-leb 9 i h) (done _ k)
