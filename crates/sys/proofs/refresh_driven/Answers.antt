use Rattle.gpio.specs.Gpio.{is_push_pull}
use Rattle.machine.specs.Board.{gpio_at}
use Rattle.state.specs.View.{view}
use mathlib.Core.Path.{◌∙◌, ap}
use Rattle.gpio.specs.Gpio.{drives}
use Rattle.std.specs.Cmp.{first_so, second_so}
use Rattle.sys.proofs.Laws.{push-moves}
use Rattle.sys.proofs.Small.{level-small, pin-there}
use native.Mathlib.Omega.{arith}
use Rattle.sys.proofs.refresh_driven.Goals as goal

pub drive_level-requires : goal.drive_level-requires
drive_level-requires c =
    omega (arith, level-small c.args.board.now.words.now c.args.board.now.reals.now _ (c.sig_level-l.ensures c.args.board.now.reals.now))

pub returns-clause-moves : goal.returns-clause-moves
returns-clause-moves c =
    let g = gpio_at (view c.args.board.now.words.now c.args.board.now.reals.now).pads c.args.i.n in push-moves _ _ c.args.i.n (pin-there c.args.board.now.words.now c.args.board.now.reals.now c.args.i.below) _ _ _ (first_so (is_push_pull g.cfg) (drives g.sig) c.requires) (c.signal.ensures.signal c.args.board.now.reals.now) (ap drives (c.signal.ensures.signal c.args.board.now.reals.now) ∙ second_so (is_push_pull g.cfg) (drives g.sig) c.requires) (c.sig_level-l.ensures c.args.board.now.reals.now) (c.level-was.ensures c.args.board.now.reals.now) c.drive_level.ensures.board _ c.changed.ensures
