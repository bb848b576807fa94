-- What a decoded call asks of the board.
use Rattle.std.specs.Prelude.{ℕ}
use Rattle.machine.specs.Call as M
use Rattle.setup.specs.Given.{setup_given}
use Rattle.pads.specs.Ext.{drive_of}
use Rattle.pads.specs.Setting.{set_pin_call}
use Rattle.encoding.specs.declared.Plain.{Plain}
use Rattle.encoding.specs.declared.Plain.TheVariants.{SetUp, Clock, Enable, ClearPending, Read, Peek, Booked, Next, Level, Volts, Line, Time, Why}
use Rattle.encoding.specs.declared.BookCall.{BookCall}
use Rattle.encoding.specs.declared.BookCall.TheVariants.{SetPin, DrivePin, ResetPins, Write, Reset, Deliver}
use Rattle.encoding.specs.declared.Call.{Call}

abbrev pub plain_call : Plain → M.Call
plain_call (SetUp s) = M.set_up (setup_given s)
plain_call (Clock tree cycle) = M.clock_tree tree cycle
plain_call (Enable word value) = M.enable word value
plain_call (ClearPending irq) = M.clear_pending irq
plain_call (Read timer offset size cycle) = M.read timer offset size cycle
plain_call (Peek timer offset cycle) = M.peek timer offset cycle
plain_call (Booked timer) = M.query_booked timer
plain_call Next = M.query_next
plain_call (Level pin) = M.query_level pin
plain_call (Volts pin) = M.query_volts pin
plain_call (Line irq) = M.query_line irq
plain_call (Time cycle) = M.query_time cycle
plain_call (Why pin cycle) = M.query_why pin cycle

-- at a cycle, lent so many places
abbrev pub lent_call : BookCall → ℕ → ℕ → M.Call
lent_call (SetPin pin setting) cycle places = set_pin_call pin setting cycle places
lent_call (DrivePin pin kind volts) cycle places = M.drive_pin pin (drive_of kind volts) cycle places
lent_call ResetPins cycle places = M.reset_pins cycle places
lent_call (Write timer offset size value) cycle places = M.write timer offset size value cycle places
lent_call (Reset timer) cycle places = M.reset_timer timer cycle places
lent_call (Deliver timer) cycle places = M.deliver timer cycle places

-- lent so many places, if it is lent a book
abbrev pub asked_with : Call → ℕ → M.Call
asked_with (Call.Plain call) n = plain_call call
asked_with (Call.Lent call cycle places) n = lent_call call cycle n

abbrev pub lent_places : Call → ℕ
lent_places (Call.Plain call) = 0
lent_places (Call.Lent call cycle places) = places

abbrev pub asked : Call → M.Call
asked c = asked_with c (lent_places c)
