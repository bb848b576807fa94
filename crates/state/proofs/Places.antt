-- What the view has at a place, of the words and the reals there. Assumes nothing.
use mathlib.Core.Path.{◌≡◌, refl, ap, sym, ◌∙◌}
use mathlib.Core.Bool.{Bool, true, false, not}
use mathlib.Core.List.{List, [], ◌∷◌, map}
use Prim.Native.Nat.{ℕ, zero, suc, ◌+◌, ◌*◌, ◌/◌, ◌%◌, ◌<◌, ◌≤◌, min}
use native.Mathlib.Nat.{add-zero, add_assoc}
use native.Mathlib.Omega.{arith}
use borrow.Author.Tests.{lt-ltb, le-ltb, ltb-true, ltb-false, eq-eqb, ne_eqb, eqb-true, eqb-false}
use lib.Dec.{ltb, eqb, lit≤}
use lib.ListN.{length, get_or, drop}
use lib.Seq.{get_or-drop, get_or-set_same}
use lib.Ieee.{Float, nan}
use Rattle.nvic.specs.Nvic.{line_of, line_at}
use Rattle.nvic.proofs.Laws.{word_at}
use Rattle.scheduler.specs.Booking.{rebook}
use Rattle.pins.specs.Pins.{source_of}
use Rattle.gpio.specs.declared.Gpio.{Gpio}
use Rattle.codec.specs.Codec.{decode_timer}
use Rattle.codec.specs.Pin.{decode_gpio}
use Rattle.state.specs.Board.{pin_at, route_at, sig_level_at, enr_at, booked_at}
use Rattle.state.specs.Parts.{start, front, parts, blocks}
use Rattle.state.proofs.Cut.{get_or_any, map_at, front_at, length_front, part_at, part-front, part-block, length_part, length-blocks}
use Rattle.state.proofs.InRange.{bounded}
use Rattle.gpio.specs.Gpio.{is_push_pull}
use Rattle.machine.specs.Board.{no_timer, no_gpio, timer_at}
use Rattle.state.specs.View.{sizes, real_sizes, view, gpios_of, held_pin, held_level, held_signal, held_enable, divider_held}

pub gpios-at : (bs : List (List ℕ)) (rs : List (List Float)) (p : ℕ) (d : Gpio) → p < length bs
    → get_or (gpios_of bs rs) p d ≡ decode_gpio (get_or bs p []) (get_or (get_or rs p []) 0 nan) (get_or (get_or rs p []) 1 nan)
unfolding gpios_of
gpios-at [] rs p d h = absurd (omega arith)
gpios-at (b ∷ bs) rs zero d h = refl
gpios-at (b ∷ bs) [] (suc p) d h = gpios-at bs [] p d (omega arith)
gpios-at (b ∷ bs) (r ∷ rs) (suc p) d h = gpios-at bs rs p d (omega arith)

pub no_flag : (n : ℕ) → not (eqb (n % 2) 1) ≡ eqb (n % 2) 0
no_flag n = go (eqb (n % 2) 1) refl
  where
    go : (b : Bool) → eqb (n % 2) 1 ≡ b → not b ≡ eqb (n % 2) 0
    go true e = sym (ne_eqb (n % 2) 0 (λ z. omega (arith, eqb-true (n % 2) 1 e)))
    go false e = sym (eq-eqb (n % 2) 0 (omega (arith, eqb-false (n % 2) 1 e)))

module _ (w : List ℕ) (x : List Float) where
  -- a mapped part's element
  mapped : (f : ℕ → ℕ) (i k e : ℕ) → k < get_or sizes i 0 → get_or (map f (get_or (parts 0 sizes w) i [])) k e ≡ f (get_or w (start sizes i + k) 0)
  mapped f i k e h = map_at f (get_or (parts 0 sizes w) i []) k 0 e (omega (arith, length_part 0 sizes i w)) ∙ ap f (part_at 0 sizes i k w h)

  pub timer-read : (i : ℕ) → i < 8 → timer_at (view w x) i ≡ decode_timer (front 0 40 (drop (0 + i * 40) w))
  unfolding view start
  timer-read i h =
      map_at decode_timer (blocks 0 8 40 (get_or (parts 0 sizes w) 0 [])) i [] no_timer (omega (arith, length-blocks 0 8 40 (get_or (parts 0 sizes w) 0 [])))
      ∙ ap decode_timer (part-block 0 sizes 0 8 40 i w (omega arith) h (lit≤ tt))

  pub route-read : (s : ℕ) → s < 256 → route_at (view w x) s ≡ min (get_or w (348 + s) 0) 128
  unfolding view start
  route-read s h = mapped held_pin 6 s 128 h

  pub level-read : (s : ℕ) → s < 256 → sig_level_at (view w x) s ≡ get_or w (604 + s) 0 % 2
  unfolding view start
  level-read s h = mapped held_level 7 s 0 h

  pub af-read : (k : ℕ) → k < 2048 → get_or (view w x).pads.af k 0 ≡ get_or w (3164 + k) 0 % 256
  unfolding view start
  af-read k h = mapped held_signal 10 k 0 h

  pub enr-read : (i : ℕ) → i < 9 → enr_at (view w x) i ≡ get_or w (331 + i) 0 % 4294967296
  unfolding view start
  enr-read i h = mapped held_enable 4 i 0 h

  pub booking-read : (owner : ℕ) → owner < 8 → booked_at (view w x) owner ≡ get_or w (340 + owner) 0
  unfolding view start
  booking-read owner h =
      get_or_any (get_or (parts 0 sizes w) 5 []) owner _ 0 (omega (arith, length_part 0 sizes 5 w)) ∙ part_at 0 sizes 5 owner w h

  pub booking-all : (view w x).booking ≡ front 0 8 (drop 340 w)
  unfolding view start
  booking-all = part-front 0 sizes 5 w (lit≤ tt)

  -- the word of an owner in the table that its booking leaves
  pub booked-word : (m next : List ℕ) (owner cycle : ℕ) → owner < 8 → m ≡ (view w x).booking → next ≡ rebook m owner cycle → get_or next owner 0 ≡ cycle
  booked-word m next owner cycle h e f =
      ap (λ (l : List ℕ). get_or l owner 0) f ∙ get_or-set_same m owner cycle 0 (omega (arith, ap length (e ∙ booking-all), length_front 0 8 (drop 340 w)))

  pub timers-read : (view w x).counts.timers ≡ min (get_or w 320 0) 8
  unfolding view start
  timers-read = ap (λ (k : ℕ). min k 8) (part_at 0 sizes 1 0 w (lit≤ tt))

  pub pins-read : (view w x).counts.pins ≡ min (get_or w 321 0) 128
  unfolding view start
  pins-read = ap (λ (k : ℕ). min k 128) (part_at 0 sizes 1 1 w (lit≤ tt))

  pub nirq-read : (view w x).nvic.nirq ≡ min (get_or w 322 0) 256
  unfolding view start
  nirq-read = ap (λ (k : ℕ). min k 256) (part_at 0 sizes 1 2 w (lit≤ tt))

  pub last-read : (view w x).counts.last ≡ get_or w 323 0
  unfolding view start
  last-read = part_at 0 sizes 1 3 w (lit≤ tt)

  pub vcc-read : (view w x).pads.vcc ≡ get_or x 256 nan
  unfolding view start
  vcc-read = part_at nan real_sizes 1 0 x (lit≤ tt)

  divider : (k : ℕ) → k < 6 → divider_held (get_or (get_or (parts 0 sizes w) 2 []) k 0) ≡ divider_held (get_or w (324 + k) 0)
  unfolding start
  divider k h = ap divider_held (part_at 0 sizes 2 k w h)

  pub tree-read : (view w x).clocks.tree ≡ record {
    sysclk_hz = get_or x 257 nan;
    hclk_hz = get_or x 258 nan;
    ppre1 = divider_held (get_or w 324 0);
    ppre2 = divider_held (get_or w 325 0);
    ppre3 = divider_held (get_or w 326 0);
    ppre4 = divider_held (get_or w 327 0);
    tim1 = divider_held (get_or w 328 0);
    tim2 = divider_held (get_or w 329 0);
  }
  unfolding view start
  tree-read =
      rw (
        part_at nan real_sizes 2 0 x (lit≤ tt),
        part_at nan real_sizes 2 1 x (lit≤ tt),
        divider 0 (lit≤ tt),
        divider 1 (lit≤ tt),
        divider 2 (lit≤ tt),
        divider 3 (lit≤ tt),
        divider 4 (lit≤ tt),
        divider 5 (lit≤ tt),
      )

  pub clock-read : (view w x).clocks.clock ≡ record { hz = get_or x 259 nan; seg_cycle = get_or w 330 0; seg_time = get_or x 260 nan }
  unfolding view start
  clock-read = rw (part_at nan real_sizes 3 0 x (lit≤ tt), part_at 0 sizes 3 0 w (lit≤ tt), part_at nan real_sizes 3 1 x (lit≤ tt))

  pub gpio-read : (p : ℕ) → p < 128
      → pin_at (view w x) p ≡ decode_gpio (front 0 16 (drop (1116 + p * 16) w)) (get_or x (0 + p * 2) nan) (get_or x (0 + (p * 2 + 1)) nan)
  unfolding view start
  gpio-read p h =
      let bs : List (List ℕ) = blocks 0 128 16 (get_or (parts 0 sizes w) 9 []) in
      let rs : List (List Float) = blocks nan 128 2 (get_or (parts nan real_sizes x) 0 []) in
      let e : get_or bs p [] ≡ front 0 16 (drop (1116 + p * 16) w) = part-block 0 sizes 9 128 16 p w (lit≤ tt) h (lit≤ tt) in
      let f : get_or rs p [] ≡ front nan 2 (drop (0 + p * 2) x) = part-block nan real_sizes 0 128 2 p x (lit≤ tt) h (lit≤ tt) in
      let real : (k : ℕ) → k < 2 → get_or (get_or rs p []) k nan ≡ get_or x (0 + p * 2 + k) nan =
      (λ k g. ap (λ (l : List Float). get_or l k nan) f ∙ front_at nan 2 (drop (0 + p * 2) x) k g ∙ get_or-drop (0 + p * 2) x k nan) in
      let v : get_or (get_or rs p []) 0 nan ≡ get_or x (0 + p * 2) nan = real 0 (lit≤ tt) ∙ ap (λ (k : ℕ). get_or x k nan) (add-zero (0 + p * 2)) in
      let u : get_or (get_or rs p []) 1 nan ≡ get_or x (0 + (p * 2 + 1)) nan = real 1 (lit≤ tt) ∙ ap (λ (k : ℕ). get_or x k nan) (add_assoc 0 (p * 2) 1) in
      gpios-at bs rs p no_gpio (omega (arith, length-blocks 0 128 16 (get_or (parts 0 sizes w) 9 []))) ∙ rw (e, v, u)

  -- word k of a pin
  pub gpio-word : (p k : ℕ) → k < 16 → get_or (front 0 16 (drop (1116 + p * 16) w)) k 0 ≡ get_or w (1116 + (p * 16 + k)) 0
  gpio-word p k h = front_at 0 16 (drop (1116 + p * 16) w) k h ∙ get_or-drop (1116 + p * 16) w k 0 ∙ ap (λ (n : ℕ). get_or w n 0) (add_assoc 1116 (p * 16) k)

  module _ (p : ℕ) (h : p < 128) where
    pub pin_level_lem : (pin_at (view w x) p).pin.level ≡ get_or w (1116 + (p * 16 + 14)) 0 % 2
    unfolding decode_gpio
    pin_level_lem = ap (λ (g : Gpio). g.pin.level) (gpio-read p h) ∙ ap (λ (n : ℕ). n % 2) (gpio-word p 14 (lit≤ tt))

    pub pin-source : (pin_at (view w x) p).pin.source ≡ source_of (get_or w (1116 + (p * 16 + 14)) 0 / 2 % 4)
    unfolding decode_gpio
    pin-source = ap (λ (g : Gpio). g.pin.source) (gpio-read p h) ∙ ap (λ (n : ℕ). source_of (n / 2 % 4)) (gpio-word p 14 (lit≤ tt))

    pub pin-signal : (pin_at (view w x) p).sig ≡ get_or w (1116 + (p * 16 + 15)) 0 % 256
    unfolding decode_gpio
    pin-signal = ap (λ (g : Gpio). g.sig) (gpio-read p h) ∙ ap (λ (n : ℕ). n % 256) (gpio-word p 15 (lit≤ tt))

    pin-mode : (pin_at (view w x) p).cfg.mode ≡ get_or w (1116 + p * 16) 0 % 256
    unfolding decode_gpio
    pin-mode = ap (λ (g : Gpio). g.cfg.mode) (gpio-read p h) ∙ ap (λ (n : ℕ). n % 256) (gpio-word p 0 (lit≤ tt)) ∙ ap (λ (n : ℕ). get_or w (1116 + n) 0 % 256) (add-zero (p * 16))

    pin-drain : (pin_at (view w x) p).cfg.open_drain ≡ eqb (get_or w (1116 + (p * 16 + 1)) 0 % 2) 1
    unfolding decode_gpio
    pin-drain = ap (λ (g : Gpio). g.cfg.open_drain) (gpio-read p h) ∙ ap (λ (n : ℕ). eqb (n % 2) 1) (gpio-word p 1 (lit≤ tt))

    -- the two tests of a push-pull pin
    pub push-pull : get_or w (1116 + p * 16) 0 % 256 ≡ 2 → is_push_pull (pin_at (view w x) p).cfg ≡ eqb (get_or w (1116 + (p * 16 + 1)) 0 % 2) 0
    push-pull e = rw (pin-mode ∙ e, pin-drain) (no_flag (get_or w (1116 + (p * 16 + 1)) 0))

    pub not-push-pull : (get_or w (1116 + p * 16) 0 % 256 ≡ 2 → ⊥) → is_push_pull (pin_at (view w x) p).cfg ≡ false
    not-push-pull n = rw (pin-mode, ne_eqb (get_or w (1116 + p * 16) 0 % 256) 2 n)

  -- a line that there is
  pub line_read : (irq : ℕ) → irq < (view w x).nvic.nirq → line_at (view w x).nvic irq ≡ line_of (get_or w (860 + irq) 0)
  unfolding view start
  line_read irq h =
      word_at (get_or (parts 0 sizes w) 8 []) (view w x).nvic.nirq irq (lt-ltb _ _ h)
      ∙ ap line_of (part_at 0 sizes 8 irq w (omega (arith, (bounded w x).nirq-le)))
