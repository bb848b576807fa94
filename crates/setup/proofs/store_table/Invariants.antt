-- The loop has stored the first k entries.
use Rattle.setup.proofs.Laws.{Listing}
use Rattle.setup.proofs.store_table.Given as goal

abbrev pub invariant-loop-k : goal.invariant-loop-k
invariant-loop-k l = Listing l.table l.k l.initial.words l.words
