-- Channel by channel.
use Rattle.std.proofs.Common.{rules, ap}
use Rattle.tim.specs.Change.{recomputed_after_update, done_after_update, with_done}
use Rattle.tim.proofs.Laws.{four_of}
use Rattle.tim.proofs.Timer.recompute_cc_done_after_update.Goals as goal

pub returns : goal.returns
unfolding recomputed_after_update
returns c =
    let t = c.args.self in
    ap (with_done t) (four_of _ (done_after_update t 0) (done_after_update t 1) (done_after_update t 2) (done_after_update t 3) (search rules) (search rules) (search rules) (search rules) (search rules))
