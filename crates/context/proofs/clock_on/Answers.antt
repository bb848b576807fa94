-- By the place of the enable bit.
use mathlib.Core.Path.{refl, sym, ap, ◌∙◌}
use mathlib.Core.Logic.{inl, inr}
use Prim.Native.Nat.{ℕ, ◌≤◌}
use lib.ListN.{get_or}
use borrow.Author.Tests.{le-ltb}
use native.Mathlib.Omega.{arith}
use Rattle.tim.specs.declared.Inst.{Inst}
use Rattle.state.specs.View.{view}
use Rattle.context.proofs.Small.{enabled, no-bit, no_word}
use Rattle.context.proofs.clock_on.Goals.{then-reg-lt9, else-reg-lt9}
use Rattle.context.proofs.clock_on.Goals as goal

pub returns-else-bit-lt32 : goal.returns-else-bit-lt32
returns-else-bit-lt32 c =
    λ x. elim c.if-reg-lt9.branch [
      | then-reg-lt9 w ↦ let h : 32 ≤ c.inst-t.result.en_bit = elim c.if-bit-lt32.either [ inl p ↦ p.1 | inr q ↦ omega (arith, q, w.if-reg-lt9.true) ] in
          w.t-7-is ∙ le-ltb _ 32 h ∙ no-bit c.args.words.now x c.args.i.n _ (c.inst-t.ensures x) h
      | else-reg-lt9 w ↦ w.t-7-is ∙ le-ltb _ 9 w.if-reg-lt9.false ∙ no_word c.args.words.now x c.args.i.n _ refl (omega (arith, c.en_reg-reg.ensures x, w.if-reg-lt9.false))
    ]

pub returns-then-bit-lt32 : goal.returns-then-bit-lt32
returns-then-bit-lt32 c =
    λ x. enabled c.args.words.now x c.args.i.n _ (c.inst-t.ensures x) _
    (c.enr.ensures x ∙ ap (λ (k : ℕ). get_or (view c.args.words.now x).clocks.enr k 0)
    (c.en_reg-reg.ensures x ∙ sym (ap (λ (t : Inst). t.en_reg) (c.inst-t.ensures x))))
