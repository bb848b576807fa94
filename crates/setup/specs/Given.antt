-- A set-up as the code takes it.
use Rattle.machine.specs.Call.{Setup}
use Rattle.setup.specs.declared.SetUp.{SetUp}
use Rattle.setup.specs.Setup.{setup_of}

abbrev pub setup_given : SetUp → Setup
setup_given s = setup_of s.hz s.vcc s.pins s.lines s.manual s.timers.now s.table.now
