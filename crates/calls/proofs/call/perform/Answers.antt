-- Without a book the slices stay.
use Rattle.calls.proofs.Laws.{plain-holds}
use Rattle.calls.proofs.call.perform.Goals as goal

pub returns-in-Plain-clause-holds : goal.returns-in-Plain-clause-holds
returns-in-Plain-clause-holds c = plain-holds _ _ c.in-Plain.is _ _ _ _ _ _ _ _ c.perform_plain.ensures.answers
