-- The bench pilot of document 01: the claim's conditions hold of a list of calls, and its bound is met exactly. By computation from the
-- first board on.
use Prim.Native.Nat.{ℕ, ◌+◌, ◌-◌, ◌*◌}
use mathlib.Core.Path.{◌≡◌, refl, ap, ◌∙◌}
use mathlib.Core.Bool.{Bool, true, false, not, ◌&&◌, ◌||◌, false≢true}
use mathlib.Core.List.{List, [], ◌∷◌, ◌++◌}
use lib.Dec.{eqb, ltb, leb}
use borrow.Author.Tests.{eqb-true, ltb-true, leb-true, not-true}
use lib.ListN.{get_or, replicate}
use Rattle.rm0440.specs.Bits.{CEN, DIR, OPM}
use Rattle.rm0440.specs.Output as Out
use Rattle.sig.specs.Signal.{tim_signal}
use Rattle.gpio.specs.Gpio.{alternate_mode}
use Rattle.book.specs.Book.{Entry}
use Rattle.tim.specs.Timer.{is_output, oc_mode, ccr_in_use}
use Rattle.machine.specs.Board.{Board, timer_at, gpio_at, one}
use Rattle.machine.specs.Sys.{driver}
use Rattle.machine.specs.Call.{Call, Setup, set_up, enable, set_pin, write, Outcome}
use Rattle.machine.specs.Step.{step, run, board_after}
use Rattle.book.specs.Level.{level_at, highs}
use Rattle.accuracy.specs.Claim.{Pilot, Steady, Window, steady, covered, joined, board₀, board₁, timer₁, first_update, cycles_of, period_of, high_of}
use Rattle.accuracy.proofs.Computed.{computed}
use Rattle.std.specs.Cmp.{first_so, second_so}
use Rattle.accuracy.proofs.Quick.{delivery, few, suffice, joined-last, steady-last, covered-last}

-- ---- lists of calls

-- a timer of 32 bits and four channels, and two pins whose function 0 is its channel 0; 1 Hz, 1 volt
abbrev pub setup_by : Bool → ℕ → Setup
setup_by manual n = record {
  hz = one;
  vcc = one;
  pins = 2;
  lines = 0;
  timers = record { n = n; width = 32; channels = 4; apb = 1; irq = 28; en_reg = 0; en_bit = 0; manual = manual } ∷ [];
  table = (tim_signal n 0 ∷ replicate 15 0) ++ (tim_signal n 0 ∷ replicate 15 0);
}

abbrev pub setup : ℕ → Setup
setup n = setup_by false n

-- a pin set to function 0, push-pull (0) or open drain (1), at a cycle
abbrev pub wire : ℕ → ℕ → ℕ → Call
wire pin open_drain cycle = set_pin pin 2 open_drain 0 0 0 0 cycle 4

-- timer n set up and its clock on, the pins wired; CR1, CCMR1, CCER, reload 9 and compare 3 written
abbrev pub prepared : ℕ → List Call → ℕ → ℕ → ℕ → List Call
prepared n pins cr1 ccmr ccer =
    set_up (setup n)
    ∷ enable 0 1
    ∷ (pins ++ (write 0 0x00 4 cr1 0 4 ∷ write 0 0x18 4 ccmr 0 4 ∷ write 0 0x20 4 ccer 0 4 ∷ write 0 0x2c 4 9 0 4 ∷ write 0 0x34 4 3 0 4 ∷ []))

-- pin 0, push-pull
abbrev pub plain : List Call
plain = wire 0 0 0 ∷ []

-- timer 2, PWM mode 1, CC1E
abbrev pub usual : List Call
usual = prepared 2 plain 0 0x60 1

-- the calls before; then the start at cycle 100, by a value of CR1; then other calls, and last a delivery to the timer
pub record Trial : Type 0 where
  pub before : List Call
  pub cr1 : ℕ
  pub since : List Call
  pub last : ℕ

abbrev pub pilot : Trial → Pilot
pilot x = record {
  before = x.before;
  timer = 0;
  offset = 0;
  size = 4;
  value = x.cr1;
  s = 100;
  places = 4;
  after = x.since ++ (delivery x.last ∷ []);
  ch = 0;
  pin = 0;
}

abbrev pub bench : Trial
bench = record { before = usual; cr1 = 1; since = []; last = 140 }

-- ---- the conditions as tests, in the order of Claim.antt

abbrev pub start : Pilot → Outcome
start π = step (board₀ π) (write π.timer π.offset π.size π.value π.s π.places)

abbrev pub signal : Pilot → ℕ
signal π = tim_signal (timer₁ π).inst.n π.ch

-- the last of them given
unfoldable pub tests_by : Pilot → Bool → List Bool
tests_by π since =
    let t = timer₁ π in
    let g = gpio_at (board₁ π).pads π.pin in
    eqb (start π).number 0  -- 0: served
    ∷ not (CEN (timer_at (board₀ π) π.timer).regs.cr1)
    ∷ CEN t.regs.cr1
    ∷ not (DIR t.regs.cr1)  -- 3: upward
    ∷ driver t.inst.n  -- 4: drives
    ∷ eqb t.count.psc_act t.regs.psc
    ∷ eqb t.count.arr_act t.regs.arr  -- 6: reload
    ∷ eqb (ccr_in_use t π.ch) (get_or t.chan.ccr π.ch 0)  -- 7: compare
    ∷ not (OPM t.regs.cr1)  -- 8: one-pulse
    ∷ ltb π.ch t.inst.channels
    ∷ is_output t π.ch  -- 10: output
    ∷ Out.CCxE π.ch t.regs.ccer  -- 11: enabled
    ∷ not (Out.CCxP π.ch t.regs.ccer)  -- 12: polarity
    ∷ eqb (oc_mode t π.ch) Out.pwm_mode1  -- 13: mode
    ∷ eqb g.cfg.mode alternate_mode
    ∷ not g.cfg.open_drain  -- 15: push-pull
    ∷ eqb g.sig (signal π)
    ∷ (not t.inst.manual || ltb 0 t.regs.arr)  -- 17: above 0
    ∷ since  -- 18: since
    ∷ []

abbrev pub tests : Pilot → List Bool
tests π = tests_by π (steady π.timer π.pin (board₁ π) π.after)

-- all of them passed
abbrev pub passed : List Bool
passed = replicate 19 true

pub steady_by : (π : Pilot) → tests π ≡ passed → Steady π
unfolding tests_by
steady_by π e =
    let t = timer₁ π in
    let g = gpio_at (board₁ π).pads π.pin in
    let at : (k : ℕ) → get_or (tests π) k true ≡ get_or passed k true = λ k. ap (λ (l : List Bool). get_or l k true) e in
    record {
      started = record { served = eqb-true (start π).number 0 (at 0); was-off = not-true _ (at 1); is-on = at 2; upward = not-true _ (at 3) };
      settings = record {
        drives = at 4;
        prescaler = eqb-true t.count.psc_act t.regs.psc (at 5);
        reload = eqb-true t.count.arr_act t.regs.arr (at 6);
        compare = eqb-true (ccr_in_use t π.ch) (get_or t.chan.ccr π.ch 0) (at 7);
        one-pulse = not-true _ (at 8);
        channel = ltb-true π.ch t.inst.channels (at 9);
        output = at 10;
        enabled = at 11;
        polarity = not-true _ (at 12);
        mode = eqb-true (oc_mode t π.ch) Out.pwm_mode1 (at 13);
        alternate = eqb-true g.cfg.mode alternate_mode (at 14);
        push-pull = not-true _ (at 15);
        set_to = eqb-true g.sig (signal π) (at 16);
        above_zero = λ m. ltb-true 0 t.regs.arr (only t.inst.manual (ltb 0 t.regs.arr) m (at 17));
      };
      since = at 18;
    }
  where
    only : (m z : Bool) → m ≡ true → not m || z ≡ true → z ≡ true
    only true z e h = h
    only false z e h = absurd (false≢true e)

-- ---- a window

-- a window of W cycles from a on: in the span, its highs, the pilot's period and high cycles
pub record Seen : Type 0 where
  pub inside : Bool
  pub highs-are : ℕ
  pub period-is : ℕ
  pub high_is : ℕ

-- the span's end and the record given
unfoldable pub seen_by : Pilot → ℕ → ℕ → ℕ → List Entry → Seen
seen_by π a W end es = record {
  inside = leb (first_update (timer₁ π) π.s (cycles_of (board₁ π) π.timer)) a && leb (a + W) end;
  highs-are = highs (level_at π.pin es (gpio_at (board₁ π).pads π.pin).pin.level) a W;
  period-is = period_of (board₁ π) π.timer;
  high_is = high_of (board₁ π) π.timer π.ch;
}

abbrev pub seen : Pilot → ℕ → ℕ → Seen
seen π a W = seen_by π a W (covered π.timer (board₁ π) π.after 0) (joined (run (board₁ π) π.after))

pub window-by : (π : Pilot) (a W : ℕ) → (seen π a W).inside ≡ true → Window π a W
unfolding seen_by
window-by π a W e =
    let from = leb (first_update (timer₁ π) π.s (cycles_of (board₁ π) π.timer)) a in
    let to = leb (a + W) (covered π.timer (board₁ π) π.after 0) in
    record { from = leb-true _ _ (first_so from to e); to = leb-true _ _ (second_so from to e) }

-- ---- a trial's last delivery has few events

abbrev pub board₂ : Trial → Board
board₂ x = board_after (board₁ (pilot x)) x.since

abbrev pub entries : Trial → List Entry
entries x = joined (run (board₁ (pilot x)) x.since) ++ (few (board₂ x) x.last).entries

module _ (x : Trial) where
  pub trial-tests : tests (pilot x) ≡ tests_by (pilot x) (steady 0 0 (board₁ (pilot x)) x.since)
  trial-tests = ap (tests_by (pilot x)) (steady-last x.last x.since 0 (board₁ (pilot x)))

  module _ (enough : suffice (board₂ x) x.last ≡ true) where
    pub trial-entries : joined (run (board₁ (pilot x)) (pilot x).after) ≡ entries x
    trial-entries = joined-last x.last x.since (board₁ (pilot x)) enough

    pub trial-seen : (a W : ℕ) → seen (pilot x) a W ≡ seen_by (pilot x) a W (x.last + 1) (entries x)
    trial-seen a W =
        ap (λ (end : ℕ). seen_by (pilot x) a W end (joined (run (board₁ (pilot x)) (pilot x).after))) (covered-last x.last x.since (board₁ (pilot x)) 0 enough)
        ∙ ap (seen_by (pilot x) a W (x.last + 1)) trial-entries

-- ---- the bench pilot

abbrev entry : ℕ → ℕ → ℕ → Entry
entry pin level cycle = record { pin = pin; level = level; cycle = cycle; source = 1 }

-- "high at 100: edges low 103, high 110, low 113. Cycles 110 to 112: H 3, difference 21, the bound; 113 to 119: H 0, also 21."
pub record Bench : Type 0 where
  pub conditions : tests (pilot bench) ≡ passed
  pub starts : (gpio_at (board₁ (pilot bench)).pads 0).pin.level ≡ 1
  pub edges : joined (run (board₁ (pilot bench)) (pilot bench).after)
      ≡ entry 0 0 103 ∷ entry 0 1 110 ∷ entry 0 0 113 ∷ entry 0 1 120 ∷ entry 0 0 123 ∷ entry 0 1 130 ∷ entry 0 0 133 ∷ entry 0 1 140 ∷ []
  pub three : seen (pilot bench) 110 3 ≡ record { inside = true; highs-are = 3; period-is = 10; high_is = 3 }
  pub none : seen (pilot bench) 113 7 ≡ record { inside = true; highs-are = 0; period-is = 10; high_is = 3 }
  -- 30 and 9, 0 and 21: as far apart as they may be
  pub three-meets : ◌≡◌ {A = ℕ} (3 * 10) (3 * 3 + 3 * (10 - 3))
  pub none-meets : ◌≡◌ {A = ℕ} (7 * 3) (0 * 10 + 3 * (10 - 3))

pub bench-holds : Bench
unfolding computed tests_by seen_by
bench-holds = record {
  conditions = trial-tests bench;
  starts = refl;
  edges = trial-entries bench refl;
  three = trial-seen bench refl 110 3;
  none = trial-seen bench refl 113 7;
  three-meets = refl;
  none-meets = refl;
}
