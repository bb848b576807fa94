-- Timers from numbers, by computation: one with each number in its place, in manual mode by its own bit, a second one that lacks its last number, and none.
use mathlib.Core.Path.{◌≡◌, refl}
use mathlib.Core.Bool.{Bool, true, false}
use mathlib.Core.List.{List, [], ◌∷◌, map}
use Prim.Native.Nat.{ℕ}
use Rattle.tim.specs.declared.Inst.{Inst}
use Rattle.machine.specs.Board.{no_inst}
use Rattle.setup.specs.Setup.{insts_of, insts_from, inst_given}

pub record Figure : Type 0 where
  pub mask : ℕ
  pub numbers : List ℕ
  pub timers : List Inst

abbrev tim2 : Bool → Inst
tim2 m = record { n = 2; width = 32; channels = 4; apb = 1; en_reg = 3; en_bit = 5; irq = 28; manual = m }

abbrev pub figures : List Figure
figures =
    record { mask = 0; numbers = 2 ∷ 32 ∷ 4 ∷ 1 ∷ 3 ∷ 5 ∷ 28 ∷ []; timers = tim2 false ∷ [] }
    ∷ record { mask = 5; numbers = 2 ∷ 32 ∷ 4 ∷ 1 ∷ 3 ∷ 5 ∷ 28 ∷ []; timers = tim2 true ∷ [] }
    ∷ record { mask = 2; numbers = 2 ∷ 32 ∷ 4 ∷ 1 ∷ 3 ∷ 5 ∷ 28 ∷ 3 ∷ 16 ∷ 4 ∷ 1 ∷ 3 ∷ 1 ∷ []; timers = tim2 false ∷ no_inst ∷ [] }
    ∷ record { mask = 1; numbers = []; timers = [] }
    ∷ []

pub figures-hold : map (λ (f : Figure). insts_of f.mask f.numbers) figures ≡ map (λ (f : Figure). f.timers) figures
unfolding insts_from inst_given
figures-hold = refl
