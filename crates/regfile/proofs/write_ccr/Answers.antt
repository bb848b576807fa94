-- By OCxPE: the stores one after the other.
use lib.Ieee.{Float}
use mathlib.Core.List.{List}
use Rattle.regfile.proofs.Written.{waits-drive, acts-drive, ccr-waits, ccr-acts}
use Rattle.regfile.proofs.write_ccr.Goals as goal

pub returns-then-mode-eq1 : goal.returns-then-mode-eq1
returns-then-mode-eq1 c = record {
  board = λ x. ccr-waits c.args.words.now x c.args.i.n c.args.ch.n c.args.v c.args.cycle c.args.i.below c.args.ch.below _ (c.load_timer-t.ensures x) _ c.max.ensures _ (c.ccmr_byte-mode.ensures x) _ _ (c.sync.ensures x) (c.set_ccr.ensures x) c.if-mode-eq1.true;
  drive = λ x. waits-drive c.args.words.now x c.args.i.n c.args.ch.n c.args.v c.args.cycle c.args.i.below c.args.ch.below _ (c.load_timer-t.ensures x) _ c.max.ensures _ (c.ccmr_byte-mode.ensures x) c.if-mode-eq1.true;
}

pub returns : goal.returns
returns c =
    let board = (λ (x : List Float). ccr-acts c.args.words.now x c.args.i.n c.args.ch.n c.args.v c.args.cycle c.args.i.below c.args.ch.below _ (c.load_timer-t.ensures x) _ c.max.ensures _ (c.ccmr_byte-mode.ensures x) _ _ (c.sync.ensures x) (c.set_ccr.ensures x) c.if-mode-eq1.false _ _ (c.set_ccr_act.ensures x) (c.settle_done.ensures x)) in
    record { board = board; drive = λ x. acts-drive c.args.words.now x c.args.i.n c.args.ch.n c.args.v c.args.cycle c.args.i.below c.args.ch.below _ (c.load_timer-t.ensures x) _ c.max.ensures _ (c.ccmr_byte-mode.ensures x) c.if-mode-eq1.false _ (board x) _ (c.cnt0.ensures x) }
