-- The update event (RM0440, "Counter modes", TIMx_CR1 and TIMx_EGR).
use Rattle.std.specs.Prelude.{Bool, cond}

-- "UDIS: the update event is not generated, shadow registers keep their value." Else each takes what was written to its register.
abbrev pub shadow : {A : Type 0} → Bool → A → A → A
shadow udis written active = cond udis active written
