-- The number of each operation: a call's first word.
use Rattle.std.specs.Prelude.{ℕ}
use Rattle.encoding.specs.declared.Operation.{Operation}
use Rattle.encoding.specs.declared.Operation.TheVariants.{SetUp, Clock, Enable, SetPin, DrivePin, ResetPins, Read, Write, Peek, Reset, Deliver, Booked, Next, Level, Volts, Line, Time, ClearPending, Why}

abbrev pub number_of : Operation → ℕ
number_of SetUp = 0
number_of Clock = 1
number_of Enable = 2
number_of SetPin = 3
number_of DrivePin = 4
number_of ResetPins = 5
number_of Read = 6
number_of Write = 7
number_of Peek = 8
number_of Reset = 9
number_of Deliver = 10
number_of Booked = 11
number_of Next = 12
number_of Level = 13
number_of Volts = 14
number_of Line = 15
number_of Time = 16
number_of ClearPending = 17
number_of Why = 18
