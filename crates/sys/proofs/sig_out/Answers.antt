-- By the signal's level.
use mathlib.Core.Path.{◌∙◌, sym}
use Rattle.sys.proofs.Laws.{sig_same}
use Rattle.sys.proofs.sig_out.Goals as goal

pub returns-then-sig_level-level-clause-moves : goal.returns-then-sig_level-level-clause-moves
returns-then-sig_level-level-clause-moves c =
    sig_same _ _ _ (sym (c.sig_level.ensures c.args.board.now.reals.now) ∙ c.if-sig_level-level.true)

pub move_signal-requires : goal.move_signal-requires
move_signal-requires c =
    (c.requires.0, c.requires.1, λ e. c.if-sig_level-level.false (c.sig_level.ensures c.args.board.now.reals.now ∙ e))
