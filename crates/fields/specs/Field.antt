-- A timer with one register another.
use Rattle.std.specs.Prelude.{ℕ, zero, suc}
use Rattle.fields.specs.declared.Reg.{Reg}
use Rattle.tim.specs.declared.Timer.{Timer}
use Rattle.tim.specs.Timer.{with_cr1}
use Rattle.regs.specs.Regs.{with_cr2, with_smcr, with_dier, with_sr, with_ccer}

-- register k of CR1, CR2, SMCR, DIER, SR, CCER
abbrev pub with_reg : Timer → ℕ → ℕ → Timer
with_reg t zero v = with_cr1 t v
with_reg t (suc zero) v = with_cr2 t v
with_reg t (suc (suc zero)) v = with_smcr t v
with_reg t (suc (suc (suc zero))) v = with_dier t v
with_reg t (suc (suc (suc (suc zero)))) v = with_sr t v
with_reg t (suc (suc (suc (suc (suc k))))) v = with_ccer t v

-- which of them a register is
abbrev pub place_of : Reg → ℕ
place_of Reg.Cr1 = 0
place_of Reg.Cr2 = 1
place_of Reg.Smcr = 2
place_of Reg.Dier = 3
place_of Reg.Sr = 4
place_of Reg.Ccer = 5
