-- The writer of the lent book: document 01's "struct holding the book's cycle slice, with the fill count".
use Rattle.std.specs.Prelude.{List, ℕ, ◌+◌, set}
use denote.Ref.{MutBor, at_last}
use Rattle.writer.specs.declared.Writer.{Writer}

-- a writer of a slice of which n places are filled
abbrev pub writing : MutBor (List ℕ) → ℕ → Writer
writing cycles n = record { cycles = cycles; n = n }

-- one more: the cycle stands at the first place that is not filled, and the count is one more. `at_last` is the same borrow at another list
abbrev pub filled : Writer → ℕ → Writer
filled w cycle = writing (at_last w.cycles (set w.cycles.now w.n cycle)) (w.n + 1)
