-- What a write of the answers tells.
use Rattle.std.specs.Prelude.{◌≡◌, Result, IsErr}

-- how the writing stands behind it; once one has failed, each further one fails like it
abbrev pub Tells : {A E : Type 0} → Result A E → Result A E → Result A E → Type 0
Tells result before behind = (result ≡ behind) × (IsErr before → behind ≡ before)
