use Rattle.outputs.proofs.Laws.{bit-small, byte-bit, channel-driven, channel-same, channel-still}
use mathlib.Core.Path.{◌∙◌, sym}
use Rattle.outputs.proofs.enter_channel.Goals as goal

pub returns-then-ch-channels-clause-driven : goal.returns-then-ch-channels-clause-driven
returns-then-ch-channels-clause-driven c =
    channel-still _ _ c.args.channels c.args.ch c.args.s c.args.at c.args.level c.if-ch-channels.true

pub move_channel-requires : goal.move_channel-requires
move_channel-requires c = record {
  signal = (c.requires.signal, rw (byte-bit c.args.level) (bit-small c.args.level), λ e. c.if-sig_level-want.true (c.sig_level.ensures c.args.board.now.reals.now ∙ e));
  room = c.requires.room;
}

pub returns-then-sig_level-want-clause-driven : goal.returns-then-sig_level-want-clause-driven
returns-then-sig_level-want-clause-driven c =
    channel-driven _ _ _ _ c.args.channels c.args.ch c.args.s _ c.args.at c.args.level c.if-ch-channels.false (byte-bit c.args.level) c.move_channel.ensures.driven

pub returns-else-sig_level-want-clause-driven : goal.returns-else-sig_level-want-clause-driven
returns-else-sig_level-want-clause-driven c =
    channel-same _ _ c.args.channels c.args.ch c.args.s _ c.args.at c.args.level c.if-ch-channels.false (sym (c.sig_level.ensures c.args.board.now.reals.now) ∙ c.if-sig_level-want.false) (byte-bit c.args.level)
