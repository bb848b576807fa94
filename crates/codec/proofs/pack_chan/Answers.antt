-- Each number is its own remainder, and an array is the list of its elements.
use Rattle.codec.proofs.Laws.{chan}
use borrow.Author.Rules.{rules}
use Rattle.codec.proofs.pack_chan.Goals as goal

pub returns : goal.returns
returns c = chan _ (search rules) (search rules) (search rules) (search rules) (search rules) (λ k. search rules) (λ k. search rules) (λ k. search rules)
