-- What the code's tests on a float tell of it: is it above 0, is it finite. Assumes nothing.
use Rattle.std.proofs.Common.{◌≡◌, true, false, sym, refl}
use lib.Ieee as Ieee
use lib.Ieee.{Float, binary64, nan, inf, fin}
use Rattle.real.specs.Real.{zero_float, positive}

-- above 0: positive exactly when below infinity
pub below-infinity : (f : Float) → Ieee.lt zero_float f ≡ true → Ieee.lt f (Ieee.of_bits binary64 0x7ff0_0000_0000_0000) ≡ positive f
unfolding Ieee.lt Ieee.of_bits positive
below-infinity nan h = refl
below-infinity (inf true) h = sym h
below-infinity (inf false) h = refl
below-infinity (fin s m e) h = sym h

pub not-above : (f : Float) → Ieee.lt zero_float f ≡ false → positive f ≡ false
unfolding positive
not-above nan h = refl
not-above (inf s) h = refl
not-above (fin s m e) h = h
