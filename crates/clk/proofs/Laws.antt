-- A good tree's divider is in range on every bus, so that "a divider that `timer_div` makes of the tree" adds nothing to number 4. Assumes nothing.
use mathlib.Core.Path.{◌≡◌, refl}
use mathlib.Core.Bool.{Bool, true, false, ◌&&◌, cond, false≢true}
use Prim.Native.Nat.{ℕ, ◌≤◌}
use lib.Dec.{leb, eqb}
use borrow.Author.Tests.{leb-true}
use Rattle.real.specs.Real.{positive}
use Rattle.clk.specs.declared.ClockTree.{ClockTree}
use Rattle.clk.specs.Clk.{good, in_range, timer_div}

first : (a b : Bool) → (a && b) ≡ true → a ≡ true
first true b h = refl
first false b h = h

second : (a b : Bool) → (a && b) ≡ true → b ≡ true
second true b h = h
second false b h = absurd (false≢true h)

-- of several tests that hold, each of the last four does, and so one chosen among numbers in range is in range
chosen : (tests one two three : Bool) (tim1 tim2 ppre3 ppre4 : ℕ)
    → (tests && in_range ppre3 && in_range ppre4 && in_range tim1 && in_range tim2) ≡ true
    → in_range (cond one tim1 (cond two tim2 (cond three ppre3 ppre4))) ≡ true
chosen tests true two three tim1 tim2 ppre3 ppre4 h = second (tests && in_range ppre3 && in_range ppre4) _ (first _ (in_range tim2) h)
chosen tests false true three tim1 tim2 ppre3 ppre4 h = second (tests && in_range ppre3 && in_range ppre4 && in_range tim1) _ h
chosen tests false false true tim1 tim2 ppre3 ppre4 h = second tests _ (first _ (in_range ppre4) (first _ (in_range tim1) (first _ (in_range tim2) h)))
chosen tests false false false tim1 tim2 ppre3 ppre4 h = second (tests && in_range ppre3) _ (first _ (in_range tim1) (first _ (in_range tim2) h))

pub good-timer-div : (t : ClockTree) (apb : ℕ) → good t ≡ true → (1 ≤ timer_div t apb) × (timer_div t apb ≤ 8192)
unfolding good timer_div
good-timer-div t apb h =
    let d = timer_div t apb in
    let r = chosen (positive t.sysclk_hz && positive t.hclk_hz && in_range t.ppre1 && in_range t.ppre2) (eqb apb 1) (eqb apb 2) (eqb apb 3) t.tim1 t.tim2 t.ppre3 t.ppre4 h in
    (leb-true 1 d (first (leb 1 d) (leb d 8192) r), leb-true d 8192 (second (leb 1 d) (leb d 8192) r))
