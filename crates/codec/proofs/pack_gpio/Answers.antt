-- Part by part; the drive comes back from its number and its volts, the source from two bits.
use Prim.Native.Nat.{◌%◌}
use Rattle.codec.proofs.PinLaws.{drive, level-back, source-back}
use Rattle.codec.specs.Pin.{decode_gpio}
use Rattle.pins.specs.Pins.{source_number}
use mathlib.Core.Path.{◌≡◌}
use native.Mathlib.Omega.{arith}
use Rattle.codec.proofs.pack_gpio.Goals as goal

pub returns : goal.returns
unfolding decode_gpio
returns c =
    let g = c.args.g in
    let s : g.sig % 256 ≡ g.sig = omega arith in
    let l = level-back g.pin.level (source_number g.pin.source) (omega arith) in
    let k = source-back g.pin.level g.pin.source (omega arith) in
    simp (c.pack_cfg-cfg.ensures, c.pack_mcu-mcu.ensures, c.ext_code-ext.ensures, c.level_word.ensures, drive, s, l, k)
