use Rattle.outputs.proofs.Laws.{bit-small, byte-bit, channel-drives, no-channel}
use Rattle.outputs.proofs.drive_channel.Goals as goal

pub returns-then-ch-channels-clause-moves : goal.returns-then-ch-channels-clause-moves
returns-then-ch-channels-clause-moves c = no-channel _ c.args.channels c.args.ch c.args.s c.args.level c.if-ch-channels.true

pub sig_out-requires : goal.sig_out-requires
sig_out-requires c = (c.requires, rw (byte-bit c.args.level) (bit-small c.args.level))

pub returns-clause-moves : goal.returns-clause-moves
returns-clause-moves c = channel-drives _ _ c.args.channels c.args.ch c.args.s _ c.args.level _ c.if-ch-channels.false (byte-bit c.args.level) c.sig_out.ensures.moves
