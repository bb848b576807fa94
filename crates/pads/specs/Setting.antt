-- The call that a pin setting is.
use Rattle.std.specs.Prelude.{ℕ}
use Rattle.machine.specs.Call.{Call, set_pin}
use Rattle.pads.specs.declared.PinSetting.{PinSetting}

-- pin, setting, cycle, and the book's places
abbrev pub set_pin_call : ℕ → PinSetting → ℕ → ℕ → Call
set_pin_call pin s cycle places = set_pin pin s.mode s.open_drain s.out s.pullup s.pulldown s.function cycle places
