-- The code's own types: the number of a refusal, and the timer that settings give.
use Rattle.std.specs.Prelude.{ℕ}
use Rattle.tim.specs.declared.Inst.{Inst}
use Rattle.settings.specs.declared.Refusal.{Refusal}
use Rattle.settings.specs.declared.Refusal.TheVariants.{BadSettings, CutShort, StrangeKind, WrongLength}
use Rattle.settings.specs.declared.Given.{Given}
use Rattle.settings.specs.Record.{given}

abbrev pub number_of : Refusal → ℕ
number_of BadSettings = 1
number_of CutShort = 13
number_of StrangeKind = 14
number_of WrongLength = 15

abbrev pub inst_of : Given → Inst
inst_of g = given g.number g.width g.channels g.bus g.word g.bit g.irq g.manual
