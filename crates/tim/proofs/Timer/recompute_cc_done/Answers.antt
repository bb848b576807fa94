-- Channel by channel.
use Rattle.std.proofs.Common.{rules, ap}
use Rattle.tim.specs.Change.{recomputed, done_now, with_done}
use Rattle.tim.proofs.Laws.{four_of}
use Rattle.tim.proofs.Timer.recompute_cc_done.Goals as goal

pub returns : goal.returns
unfolding recomputed
returns c =
    let t = c.args.self in
    ap (with_done t) (four_of _ (done_now t 0) (done_now t 1) (done_now t 2) (done_now t 3) (search rules) (search rules) (search rules) (search rules) (search rules))
