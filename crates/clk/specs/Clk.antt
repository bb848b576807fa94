-- The clock tree: which trees are good, what a timer's divider is, and when a tree is another one.
use Rattle.std.specs.Prelude.{Bool, cond, not, ◌&&◌, ◌||◌, ℕ, leb, eqb, Float}
use Rattle.std.specs.Float.Ieee as Ieee
use Rattle.real.specs.Real.{positive}
use Rattle.clk.specs.declared.ClockTree.{ClockTree}

-- "A tree running everything from one clock, no prescalers"
abbrev pub flat_tree : Float → ClockTree
flat_tree hz = record { sysclk_hz = hz; hclk_hz = hz; ppre1 = 1; ppre2 = 1; ppre3 = 1; ppre4 = 1; tim1 = 1; tim2 = 1 }

-- "the divider follows `timer_div`": "Ratio of core cycles per timer-kernel clock cycle on an APB bus (1 or 2; other buses [..] run at PCLK)"
unfoldable pub timer_div : ClockTree → ℕ → ℕ
timer_div t apb = cond (eqb apb 1) t.tim1 (cond (eqb apb 2) t.tim2 (cond (eqb apb 3) t.ppre3 t.ppre4))

-- a divider not "outside 1 to 8,192"
abbrev pub in_range : ℕ → Bool
in_range d = leb 1 d && leb d 8192

-- not number 4: "a tree divider, or a divider that `timer_div` makes of the tree, outside 1 to 8,192, or a frequency not finite and above 0"
unfoldable pub good : ClockTree → Bool
good t =
    positive t.sysclk_hz && positive t.hclk_hz && in_range t.ppre1 && in_range t.ppre2 && in_range t.ppre3 && in_range t.ppre4 && in_range t.tim1 && in_range t.tim2

-- "`set_clock_tree`, then if it changed": HCLK or a divider is another one; SYSCLK does not count
unfoldable pub differing : ClockTree → ClockTree → Bool
differing a b =
    Ieee.ne a.hclk_hz b.hclk_hz
    || not (eqb a.ppre1 b.ppre1)
    || not (eqb a.ppre2 b.ppre2)
    || not (eqb a.ppre3 b.ppre3)
    || not (eqb a.ppre4 b.ppre4)
    || not (eqb a.tim1 b.tim1)
    || not (eqb a.tim2 b.tim2)
