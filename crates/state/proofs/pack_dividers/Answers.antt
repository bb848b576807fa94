-- Each divider comes back from its word.
use Rattle.state.proofs.Stores.{dividers}
use Rattle.state.proofs.pack_dividers.Goals as goal

pub returns : goal.returns
returns c = dividers _ c.requires
