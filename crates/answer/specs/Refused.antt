-- The numbers of the refusals.
use Rattle.std.specs.Prelude.{ℕ, Result, Ok, Err}
use Rattle.answer.specs.declared.Answer.{Answer}
use Rattle.answer.specs.declared.Refusal.{Refusal}
use Rattle.answer.specs.declared.Refusal.TheVariants.{OutsideLimits, NoSuchIndex, BadSize, BadClock, ClockAstray, BookFull, CounterAstray, EventsDue, SignalTaken}
use Rattle.answer.specs.Promise.{answer}

-- the table's numbers: "wrong board", "no such post", "odd plug", "bad clock", "clock astray", "book full", "counter astray", "backlog", and a signal that
-- another pin has
abbrev pub number_of : Refusal → ℕ
number_of OutsideLimits = 1
number_of NoSuchIndex = 2
number_of BadSize = 3
number_of BadClock = 4
number_of ClockAstray = 5
number_of BookFull = 6
number_of CounterAstray = 7
number_of EventsDue = 8
number_of SignalTaken = 11

-- 0 where there is none
abbrev pub refusal_number : {A : Type 0} → Result A Refusal → ℕ
refusal_number (Ok a) = 0
refusal_number (Err r) = number_of r

-- "1 to 7, and numbers added later, return value 0 and count 0"
abbrev pub told : Result Answer Refusal → Answer
told (Ok a) = a
told (Err r) = answer (number_of r) 0 0
