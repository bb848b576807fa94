-- The clock's time. "`ClockModel::time_at` keeps its float operations. A cycle above 2^53 becomes the nearest float, ties to even."
use Rattle.std.specs.Prelude.{cond, ℕ, Float}
use Rattle.std.specs.Float.Ieee as Ieee
use Rattle.std.specs.Float.{binary64}
use Rattle.real.specs.Real.{zero_float, nearest_to}
use Rattle.pins.specs.declared.ClockModel.{ClockModel}

-- a clock at a frequency from cycle 0 and time 0 on
abbrev pub new_clock : Float → ClockModel
new_clock f = record { hz = f; seg_cycle = 0; seg_time = zero_float }

-- the time at which the frequency was set, and the cycles since then divided by the frequency
abbrev pub time_at : ClockModel → ℕ → Float
time_at k cycle =
    Ieee.add binary64 k.seg_time (Ieee.div binary64 (Ieee.sub binary64 (nearest_to cycle) (nearest_to k.seg_cycle)) k.hz)

-- another frequency from a cycle on; the same frequency changes nothing
abbrev pub hz_set : ClockModel → Float → ℕ → ClockModel
hz_set k f cycle = cond (Ieee.eq f k.hz) k (record { hz = f; seg_cycle = cycle; seg_time = time_at k cycle })
