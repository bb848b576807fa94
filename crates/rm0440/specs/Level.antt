-- The output of a channel (RM0440, "Output compare mode", "Forced output mode", "PWM mode", TIMx_CCER).
use Rattle.std.specs.Prelude.{Bool, false, cond, ℕ, get_or}
use Rattle.rm0440.specs.Output as Out
use Rattle.rm0440.specs.State.{Timer, reg, ccr_of, mode, is_output, down}

-- OCxREF: forced, PWM, or latched
abbrev pub ocref : Timer → ℕ → Bool
ocref t ch = Out.ocref (mode t ch) (down t) t.cnt (ccr_of t ch) (get_or t.ref ch false)

-- the level of output ch
unfoldable pub level : Timer → ℕ → Bool
level t ch = Out.level (cond (is_output t ch) (Out.CCxE ch (reg t 8)) false) (Out.CCxP ch (reg t 8)) (ocref t ch)
