-- Refused, or written.
use Rattle.std.proofs.Common.{◌≡◌, refl, sym, ◌∙◌}
use Rattle.shift.specs.Kept.{number_kept, number_given}
use Rattle.shift.specs.Refused.{number_with}
use Rattle.shift.proofs.Ending.{ended-refused, ended-served, ended-both}
use Rattle.shift.proofs.shift_end.Goals as goal

pub returns-in-Some : goal.returns-in-Some
returns-in-Some c =
    let w = c.args.kept.now in
    let f = c.args.figures.now in
    let n = c.number-number in
    let h : (number_given (number_kept w) ≡ number_with c.in-Some.refusal) × (number_with c.in-Some.refusal ≡ 0 → ⊥) = c.in-Some.ensures in
    let both = ended-both w _ f _ (ended-refused w n.result f (n.ensures ∙ sym h.0) (λ z. h.1 (sym n.ensures ∙ z))) in
    record { ended = both.0; reports = both.1 }

pub returns : goal.returns
returns c =
    let w = c.args.kept.now in
    let f = c.args.figures.now in
    let h : number_given (number_kept w) ≡ 0 = c.in_default.ensures in
    let both = ended-both w _ f _ (ended-served w 0 f (sym h) c.high_pins-high.result _ refl c.write_figures.ensures c.high_pins-high.ensures) in
    record { ended = both.0; reports = both.1 }
