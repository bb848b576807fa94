-- The timer loaded, and its next event booked.
use Rattle.context.proofs.Laws.{booked-anew}
use Rattle.context.proofs.Small.{loaded-fit}
use mathlib.Core.List.{[]}
use Rattle.context.proofs.rebook.Goals as goal

pub next_event-due-requires : goal.next_event-due-requires
next_event-due-requires c = loaded-fit c.args.words.now [] c.args.i.n _ (c.load_timer-t.ensures [])

pub returns : goal.returns
returns c = λ x. booked-anew _ _ c.args.i.n c.args.cycle _ _ (c.load_timer-t.ensures x) c.next_event-due.ensures (c.book_due.ensures x)
