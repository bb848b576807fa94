-- The cycles folded by their minimum.
use Rattle.std.proofs.Common.{rules, ◌≡◌, min, ◌∙◌}
use Rattle.std.specs.List.{fold}
use Rattle.scheduler.specs.Booking.{never}
use Rattle.scheduler.proofs.Laws.{least-folded}
use Rattle.scheduler.proofs.Scheduler.next.Goals as goal

pub returns : goal.returns
returns c =
    let folded : c.fold.result ≡ fold min never c.args.self.now.cycles = search rules in
    folded ∙ least-folded c.args.self.now.cycles
