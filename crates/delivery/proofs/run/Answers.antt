use Rattle.delivery.proofs.Laws.{begins, driven, of_four, goes, going_on, ends-none, ends-stop, room-ends}
use borrow.Author.Rules.{rules}
use mathlib.Core.Path.{refl, sym, ◌∙◌}
use native.Mathlib.Omega.{arith}
use Rattle.delivery.proofs.run.Goals as goal

pub loop-at-init : goal.loop-at-init
loop-at-init c = (begins _ _ _ _ _ _ c.requires.timer.0 c.requires.empty, record { words = refl; reals = refl }, search rules)

pub next_event-due-requires : goal.next_event-due-requires
next_event-due-requires c = c.loop-at.invariant.0.fit

pub returns-in_default-clause-ends : goal.returns-in_default-clause-ends
returns-in_default-clause-ends c = room-ends _ _ _ _ _ _ _ _ _ _ c.places-room.ensures (ends-none _ _ _ _ _ _ _ _ _ _ _ c.loop-at.invariant.0 c.next_event-due.ensures c.in_default.is _)

pub returns-in_default-clause-fit : goal.returns-in_default-clause-fit
returns-in_default-clause-fit c =
    let h = c.loop-at.invariant.0 in
    let s = c.loop-at.invariant.2 in
    (h.fit, c.next_event-due.ensures, (omega (arith, h.within, s.pins_length, s.levels_length, s.cycles_length, s.sources_length, c.places-room.ensures), omega (arith, h.within, c.places-room.ensures), omega (arith, h.within, c.places-room.ensures), omega (arith, h.within, c.places-room.ensures)), omega (arith, h.few, h.small))

pub overflow_sub-room : goal.overflow_sub-room
overflow_sub-room c = c.loop-at.invariant.0.within

pub returns-in-Some-clause-ends : goal.returns-in-Some-clause-ends
returns-in-Some-clause-ends c = room-ends _ _ _ _ _ _ _ _ _ _ c.places-room.ensures (ends-stop _ _ _ _ _ _ _ _ _ _ _ c.loop-at.invariant.0 c.next_event-due.ensures _ _ c.in-At.is _ c.verdict.ensures _ c.in-Some.is _)

pub returns-in-Some-clause-fit : goal.returns-in-Some-clause-fit
returns-in-Some-clause-fit c =
    let h = c.loop-at.invariant.0 in
    (h.fit, sym c.in-At.is ∙ c.next_event-due.ensures, (omega (arith, h.within, c.places-room.ensures), omega (arith, h.within, c.places-room.ensures), omega (arith, h.within, c.places-room.ensures), omega (arith, h.within, c.places-room.ensures)), omega (arith, h.few, h.small))

pub apply-t-requires : goal.apply-t-requires
apply-t-requires c = (of_four _ _ _ _ c.next_event-due.ensures c.in-At.is, c.loop-at.invariant.0.fit)

pub count_at-cnt-requires : goal.count_at-cnt-requires
count_at-cnt-requires c = of_four _ _ _ _ c.next_event-due.ensures c.in-At.is

pub drive_timer-requires : goal.drive_timer-requires
drive_timer-requires c =
    let d = goes _ _ _ _ _ c.verdict.ensures c.in_default-verdict.is in
    let s = c.loop-at.invariant.2 in
    omega (arith, d.free, c.loop-at.invariant.0.within, s.pins_length, s.levels_length, s.cycles_length, s.sources_length, c.places-room.ensures)

pub overflow_add-events : goal.overflow_add-events
overflow_add-events c = let d = goes _ _ _ _ _ c.verdict.ensures c.in_default-verdict.is in omega (arith, d.few)

pub loop-at-smaller : goal.loop-at-smaller
loop-at-smaller c = let d = goes _ _ _ _ _ c.verdict.ensures c.in_default-verdict.is in omega (arith, d.few)

pub loop-at-preserved : goal.loop-at-preserved
loop-at-preserved c = (
  going_on _ _ _ _ _ _ _ _ _ _ _ c.loop-at.invariant.0 c.next_event-due.ensures _ _ c.in-At.is _ c.verdict.ensures c.in_default-verdict.is c.requires.timer.2 c.requires.timer.1 c.args.div.below _ _ _ c.apply-t.ensures
      (driven _ _ _ _ _ _ _ _ c.count_at-cnt.ensures c.drive_timer.ensures.driven) c.drive_timer.ensures.at_most_four,
  search rules,
  search rules,
)
