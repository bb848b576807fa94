-- A word and two reals that hold the clock.
use Rattle.state.proofs.Stores.{clock-set}
use Rattle.state.proofs.LentBoard.set_clock.Goals as goal

pub returns-clause-board : goal.returns-clause-board
returns-clause-board c = clock-set c.args.self.now.words.now c.args.self.now.reals.now c.known_lengths.ensures.words c.known_lengths.ensures.reals _ _ _
