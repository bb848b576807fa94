-- Every view is in range, whatever the arrays hold. Assumes nothing.
use mathlib.Core.Path.{◌≡◌, refl, ap, ◌∙◌}
use mathlib.Core.List.{List, [], ◌∷◌}
use Prim.Native.Nat.{ℕ, zero, suc, ◌<◌, ◌≤◌}
use native.Mathlib.Omega.{arith}
use lib.ListN.{length, get_or, drop, length-map}
use lib.Ieee.{Float, nan}
use Rattle.tim.specs.Timer.{Fit}
use Rattle.nvic.specs.Nvic.{line_of}
use Rattle.codec.specs.Codec.{decode_timer}
use Rattle.gpio.specs.Gpio.{GpioFit}
use Rattle.codec.proofs.Bounds.{timer-fit}
use Rattle.codec.proofs.Bounds.{gpio-fit}
use Rattle.machine.specs.Board.{no_timer, no_gpio}
use Rattle.state.specs.Parts.{parts, blocks}
use Rattle.state.proofs.Cut.{map-all, length_part, length-blocks}
use Rattle.state.specs.View.{sizes, real_sizes, view, gpios_of, held_signal, held_pin, held_level, held_enable}
use Rattle.state.specs.Bounded.{Bounded}

pub length-gpios : (bs : List (List ℕ)) (rs : List (List Float)) → length (gpios_of bs rs) ≡ length bs
unfolding gpios_of
length-gpios [] rs = refl
length-gpios (b ∷ bs) rs = ap suc (length-gpios bs (drop 1 rs))

gpios-fit : (bs : List (List ℕ)) (rs : List (List Float)) (p : ℕ) → GpioFit (get_or (gpios_of bs rs) p no_gpio)
unfolding gpios_of
gpios-fit [] rs p = omega arith
gpios-fit (b ∷ bs) rs zero = gpio-fit b (get_or (get_or rs 0 []) 0 nan) (get_or (get_or rs 0 []) 1 nan)
gpios-fit (b ∷ bs) rs (suc p) = gpios-fit bs (drop 1 rs) p

pub bounded : (w : List ℕ) (x : List Float) → Bounded (view w x)
unfolding view
bounded w x =
    let part : ℕ → List ℕ = (λ i. get_or (parts 0 sizes w) i []) in
    record {
      timer-fit = map-all decode_timer Fit no_timer (omega arith) timer-fit (blocks 0 8 40 (part 0));
      gpio-fit = gpios-fit (blocks 0 128 16 (part 9)) (blocks nan 128 2 (get_or (parts nan real_sizes x) 0 []));
      af-lt = map-all held_signal (λ n. n < 256) 0 (omega arith) (λ n. omega arith) (part 10);
      route-le = map-all held_pin (λ n. n ≤ 128) 128 (omega arith) (λ n. omega arith) (part 6);
      level-le = map-all held_level (λ n. n ≤ 1) 0 (omega arith) (λ n. omega arith) (part 7);
      enr-lt = map-all held_enable (λ n. n < 4294967296) 0 (omega arith) (λ n. omega arith) (part 4);
      divided = record {
        ppre1 = record { pos = omega arith; le = omega arith };
        ppre2 = record { pos = omega arith; le = omega arith };
        ppre3 = record { pos = omega arith; le = omega arith };
        ppre4 = record { pos = omega arith; le = omega arith };
        tim1 = record { pos = omega arith; le = omega arith };
        tim2 = record { pos = omega arith; le = omega arith };
      };
      timers-le = omega arith;
      pins-le = omega arith;
      nirq-le = omega arith;
      timers-length = length-map (blocks 0 8 40 (part 0)) decode_timer ∙ length-blocks 0 8 40 (part 0);
      booking-length = length_part 0 sizes 5 w;
      lines-length = length-map (part 8) line_of ∙ length_part 0 sizes 8 w;
      gpio-length = length-gpios (blocks 0 128 16 (part 9)) (blocks nan 128 2 (get_or (parts nan real_sizes x) 0 [])) ∙ length-blocks 0 128 16 (part 9);
      af-length = length-map (part 10) held_signal ∙ length_part 0 sizes 10 w;
      route-length = length-map (part 6) held_pin ∙ length_part 0 sizes 6 w;
      level-length = length-map (part 7) held_level ∙ length_part 0 sizes 7 w;
      enr-length = length-map (part 4) held_enable ∙ length_part 0 sizes 4 w;
    }
