-- The pin's reasons, then whether a timer feeds it, the route, the channel's.
use mathlib.Core.List.{[]}
use mathlib.Core.Path.{◌∙◌, ap, refl, subst, sym}
use Prim.Native.Nat.{◌<◌}
use native.Mathlib.Omega.{arith}
use Rattle.std.proofs.Common.{Option}
use Rattle.std.specs.Option.{IfSome}
use Rattle.why.specs.declared.Reason.{Reason}
use Rattle.why.specs.Tests.{number_of, number_or}
use Rattle.state.specs.View.{view}
use Rattle.state.proofs.InRange.{bounded}
use Rattle.why.proofs.Laws.{reason-pin, reason-plain, reason-unfed, reason-unrouted, reason-channel, unwrapped}
use Rattle.why.proofs.first_reason.Goals as goal

pub returns-in-Some : goal.returns-in-Some
returns-in-Some c = λ x. reason-pin (view c.args.words.now x) c.args.g c.args.p.n c.args.s _ c.args.cycle _ _ (c.sig_level-level.ensures x) (ap (number_or 5) (sym c.in-Some.is) ∙ c.of_pin.ensures.value) (subst (λ (o : Option Reason). IfSome o (λ r. number_of r < 5)) c.in-Some.is c.of_pin.ensures.below)

pub returns-then-g-ne2 : goal.returns-then-g-ne2
returns-then-g-ne2 c = λ x. reason-plain (view c.args.words.now x) c.args.g c.args.p.n c.args.s _ c.args.cycle _ _ (c.sig_level-level.ensures x) (ap (number_or 5) (sym c.in_default.is) ∙ c.of_pin.ensures.value) (omega arith) c.if-g-ne2.true

pub returns-in_default-feeder : goal.returns-in_default-feeder
returns-in_default-feeder c =
    λ x. rw c.in_default-feeder.is
    (reason-unfed (view c.args.words.now x) c.args.g c.args.p.n c.args.s _ c.args.cycle _ _ (c.sig_level-level.ensures x) (ap (number_or 5) (sym c.in_default.is) ∙ c.of_pin.ensures.value) (omega arith) c.if-g-ne2.false (omega arith))

pub returns-then-not-is_routed : goal.returns-then-not-is_routed
returns-then-not-is_routed c =
    λ x. rw c.in-Some-feeder.is
    (reason-unrouted (view c.args.words.now x) c.args.g c.args.p.n c.args.s _ c.args.cycle _ _ (c.sig_level-level.ensures x) (ap (number_or 5) (sym c.in_default.is) ∙ c.of_pin.ensures.value) (omega arith) c.if-g-ne2.false
    (rw c.in-Some-feeder.is at c.requires.fed x).0 (sym (c.is_routed.ensures x) ∙ c.if-not-is_routed.true))

pub of_channel-requires : goal.of_channel-requires
of_channel-requires c =
    (rw (c.load_timer-t.ensures []) ((bounded c.args.words.now []).timer-fit c.in-Some-feeder.f.timer.n), c.requires.bounds.1)

pub returns : goal.returns
returns c =
    λ x. rw (c.unwrap_or.ensures, c.in-Some-feeder.is)
    (unwrapped _ ∙ c.of_channel.ensures
    ∙ reason-channel (view c.args.words.now x) c.args.g c.args.p.n c.args.s _ c.args.cycle _ _ (c.sig_level-level.ensures x) (ap (number_or 5) (sym c.in_default.is) ∙ c.of_pin.ensures.value) (omega arith) c.if-g-ne2.false
    (rw c.in-Some-feeder.is at c.requires.fed x).0 (sym (c.is_routed.ensures x) ∙ c.if-not-is_routed.false) _ (c.load_timer-t.ensures x) _ (rw c.in-Some-feeder.is at c.requires.fed x).1 _ refl)
