use borrow.Author.Rules.{rules}
use Rattle.outputs.proofs.Laws.{four-driven, none-driven}
use Rattle.outputs.proofs.drive_timer.Goals as goal

pub returns-then-not-contains-clause-driven : goal.returns-then-not-contains-clause-driven
returns-then-not-contains-clause-driven c = none-driven c.args.t c.args.cnt c.args.at _ _ (search rules)

pub returns-clause-driven : goal.returns-clause-driven
returns-clause-driven c =
    four-driven c.args.t c.args.cnt c.args.at _ _ _ _ _ _ _ _ _ _ _ _ _ _ _ (search rules) (search rules) c.tim-s.ensures c.output.ensures c.output-2.ensures c.output-3.ensures c.output-4.ensures
    c.enter_channel.ensures.driven c.enter_channel-2.ensures.driven c.enter_channel-3.ensures.driven c.enter_channel-4.ensures.driven
