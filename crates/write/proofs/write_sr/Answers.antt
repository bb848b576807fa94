-- The register stored, then the line.
use Rattle.mmio.proofs.Laws.{of-eight}
use Rattle.write.proofs.Laws.{sr-gives}
use Rattle.write.proofs.write_sr.Goals as goal

pub returns : goal.returns
returns c =
    λ x. sr-gives c.args.words.now x c.args.i.n c.args.v c.args.cycle _ _ _ (of-eight c.args.words.now x c.args.i.n c.args.i.below) (c.settle_line_at.ensures x) (c.set_last.ensures x) _ _ (c.load_timer-t.ensures x) c.kept_sr.ensures (c.set_reg.ensures x)
