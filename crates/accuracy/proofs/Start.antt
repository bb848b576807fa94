-- The start: on the board that it left the timer runs the programmed pilot. Assumes nothing.
use Prim.Native.Nat.{ℕ, ◌+◌, ◌-◌, ◌*◌, ◌≤◌, ◌<◌}
use mathlib.Core.Path.{◌≡◌, refl, ap, sym, ◌∙◌}
use mathlib.Core.Bool.{Bool, true, false, cond}
use mathlib.Core.List.{[]}
use native.Mathlib.Nat.{mul-le-mul_right}
use native.Mathlib.Omega.{arith}
use lib.Dec.{eqb, ltb}
use borrow.Author.Tests.{ltb-true, ltb-false}
use lib.ListN.{get_or, length, get_or-eq_default}
use Rattle.rm0440.specs.Bits.{DIR}
use Rattle.rm0440.specs.Counter.{step_cycles}
use Rattle.tim.specs.Next.{next_steps}
use Rattle.machine.specs.Board.{Board, Pads, timer_at, gpio_at, route_of, no_gpio}
use Rattle.gpio.specs.declared.Gpio.{Gpio}
use Rattle.gpio.specs.Gpio.{signal_of, alternate_mode}
use Rattle.sig.specs.Signal.{tim_signal}
use Rattle.machine.specs.Deliver.{divider_of}
use Rattle.machine.specs.Sound.{Sound}
use Rattle.machine.proofs.Reach.{sockets}
use Rattle.book.specs.Level.{level_at}
use Rattle.accuracy.specs.Claim.{Settings, first_update, cycles_of}
use Rattle.accuracy.proofs.Aim.{Aim, Fixed, due, coming}
use Rattle.accuracy.proofs.One.{steps-upto}
use Rattle.accuracy.proofs.Levels.{Upward}
use Rattle.accuracy.proofs.Record.{Told}

-- what the board that the start left programs
abbrev pub aim_of : Board → ℕ → ℕ → ℕ → Aim
aim_of b i ch s = record {
  n = (timer_at b i).inst.n;
  apb = (timer_at b i).inst.apb;
  ch = ch;
  psc = (timer_at b i).regs.psc;
  div = divider_of b (timer_at b i);
  tick = cycles_of b i;
  reload = (timer_at b i).regs.arr;
  compare = get_or (timer_at b i).chan.ccr ch 0;
  first = first_update (timer_at b i) s (cycles_of b i);
}

-- what a start leaves of its timer
pub record Began (b : Board) (i s : ℕ) : Type 0 where
  pub present : i < b.counts.timers
  pub running : (timer_at b i).count.running ≡ true
  pub base-is : (timer_at b i).count.base ≡ s
  pub tick_is : (timer_at b i).count.tick ≡ step_cycles (timer_at b i).count.psc_act (divider_of b (timer_at b i))

-- a pin in alternate mode is one of the 128: past them stands an input
pin-small : (p : Pads) (pin : ℕ) → length p.gpio ≡ 128 → (gpio_at p pin).cfg.mode ≡ alternate_mode → pin < 128
pin-small p pin l h = go (ltb pin 128) refl
  where
    go : (x : Bool) → ltb pin 128 ≡ x → pin < 128
    go true e = ltb-true pin 128 e
    go false e =
        let g : gpio_at p pin ≡ no_gpio = get_or-eq_default p.gpio no_gpio (omega (arith, ltb-false pin 128 e)) in
        let z : ◌≡◌ {A = ℕ} 0 2 = sym (ap (λ (x : Gpio). x.cfg.mode) g) ∙ h in
        absurd (omega arith)

-- so the pilot is programmed, and no cycle of its wave has come yet
module _ (b : Board) (i s ch pin : ℕ) (began : Began b i s) (up : DIR (timer_at b i).regs.cr1 ≡ false) (set : Settings b i ch pin) (sound : Sound b) where
  fixed-start : Fixed (aim_of b i ch s) (timer_at b i)
  fixed-start = record {
    number = refl;
    bus = refl;
    channel = set.channel;
    four = omega (arith, set.channel, sound.channels i began.present);
    running = began.running;
    upward = go (eqb (timer_at b i).inst.channels 0);
    one-pulse = set.one-pulse;
    psc-is = refl;
    psc-act = set.prescaler;
    arr_is = refl;
    arr-act = set.reload;
    ccr-is = refl;
    ccr-act = set.compare;
    tick_is = began.tick_is ∙ ap (λ (x : ℕ). step_cycles x (divider_of b (timer_at b i))) set.prescaler;
    step_is = refl;
    output = set.output;
    enabled = set.enabled;
    polarity = set.polarity;
    mode = set.mode;
    above_zero = set.above_zero;
  }
    where
      go : (z : Bool) → cond z false (DIR (timer_at b i).regs.cr1) ≡ false
      go true = refl
      go false = up

  due-start : due (timer_at b i) ≤ (aim_of b i ch s).first
  due-start =
      let f = fixed-start in
      let tick : (next_steps (timer_at b i)).steps * (timer_at b i).count.tick ≡ (next_steps (timer_at b i)).steps * cycles_of b i = ap (λ (x : ℕ). (next_steps (timer_at b i)).steps * x) f.tick_is in
      let arr : ((timer_at b i).count.arr_act + 1 - (timer_at b i).count.cnt0) * cycles_of b i ≡ ((timer_at b i).regs.arr + 1 - (timer_at b i).count.cnt0) * cycles_of b i = ap (λ (x : ℕ). (x + 1 - (timer_at b i).count.cnt0) * cycles_of b i) set.reload in
      omega (arith, began.base-is, mul-le-mul_right (cycles_of b i) (steps-upto (aim_of b i ch s) (timer_at b i) f))

  -- the pin routes the channel's signal, because it is set to it
  routes : route_of b.pads (tim_signal (timer_at b i).inst.n ch) ≡ pin
  routes =
      let e : signal_of (gpio_at b.pads pin) ≡ tim_signal (timer_at b i).inst.n ch = rw set.alternate set.set_to in
      ap (λ (s : ℕ). route_of b.pads s) (sym e) ∙ (sockets b.pads sound.pads).selected-routes pin (λ z. omega (arith, e, z))

  pub told-start : Told (aim_of b i ch s) pin (gpio_at b.pads pin).pin.level (timer_at b i) b.pads []
  unfolding level_at Upward
  told-start = record {
    drives = set.drives;
    fixed = fixed-start;
    phase = coming (record { update = rw (began.base-is, set.reload) refl });
    wired = record { sound = sound.pads; pin-is = pin-small b.pads pin sound.pads.gpios set.alternate; route = routes; push-pull = set.push-pull };
    past = λ c from to. omega (arith, due-start);
    present = λ c le. refl;
    ordered = omega arith;
  }
