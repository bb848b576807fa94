-- The reasons in the order in which the code asks them, and the query's answer. Assumes nothing.
use mathlib.Core.Path.{◌≡◌, refl, ap, sym, ◌∙◌}
use mathlib.Core.Bool.{Bool, true, false, cond, not, beq, ◌&&◌, ◌||◌}
use mathlib.Core.List.{List, [], ◌∷◌, ◌++◌}
use Prim.Native.Nat.{ℕ, suc, ◌+◌, ◌-◌, ◌*◌, ◌/◌, ◌%◌, ◌^◌, ◌≤◌, ◌<◌}
use native.Mathlib.Omega.{arith}
use lib.Dec.{eqb, ltb, leb}
use lib.Ieee.{Float}
use lib.ListN.{length}
use lib.Pow.{shr-shr}
use borrow.Author.Tests.{le-leb, lt-ltb, le-ltb, ltb-false, eq-eqb, ne_eqb}
use Rattle.tim.specs.declared.Timer.{Timer}
use Rattle.tim.specs.declared.Inst.{Inst}
use Rattle.rm0440.specs.Bits.{is_set}
use Rattle.rm0440.specs.Output.{level}
use Rattle.tim.specs.Timer.{oc_mode, Fit}
use Rattle.tim.specs.Count.{cnt_at}
use Rattle.tim.specs.Next.{next_event}
use Rattle.tim.specs.Change.{ocref}
use Rattle.gpio.specs.declared.Gpio.{Gpio}
use Rattle.gpio.specs.Gpio.{signal_of}
use Rattle.machine.specs.Board.{Board, timer_at, gpio_at, route_of, level_of}
use Rattle.machine.specs.Call.{query_why}
use Rattle.machine.specs.Step.{step, cycle_astray}
use Rattle.machine.specs.Deliver.{due_by}
use Rattle.machine.specs.Why.{channel_of, feeds, feeder_from, feeder, is_behind, timer_behind, is_alternate, is_off, is_held, counts_low, tests, reasons, first_true, why_low}
use Rattle.state.specs.View.{view}
use Rattle.state.proofs.InRange.{bounded}
use Rattle.answer.specs.declared.Answer.{Answer}
use Rattle.answer.specs.Promise.{answer, Answers}
use Rattle.answer.proofs.Given.{away}
use Rattle.std.specs.Prelude.{Option, Some, None, MatchOption}
use Rattle.std.specs.Option.{unwrap_or}
use Rattle.why.specs.declared.Reason.{Reason}
use Rattle.why.specs.declared.Reason.TheVariants.{Unknown}
use Rattle.why.specs.declared.Feed.{Feed}
use Rattle.why.specs.Fed.{index_or, IsFed}
use Rattle.why.specs.Tests.{number_of, number_or, pin_tests, channel_tests}

-- ---- the timers one after the other

module _ (b : Board) (s : ℕ) where
  pub from_start : (n : ℕ) → feeder_from (n - 0) 0 b s ≡ feeder_from n 0 b s
  from_start n = ap (λ (m : ℕ). feeder_from m 0 b s) (omega arith)

  opened-at : (n i : ℕ) → i < n → feeder_from (n - i) i b s ≡ cond (feeds (timer_at b i).inst s) i (feeder_from (n - (i + 1)) (i + 1) b s)
  unfolding feeder_from
  opened-at n i h = let one : n - i ≡ suc (n - (i + 1)) = omega arith in ap (λ (m : ℕ). feeder_from m i b s) one

  pub from-here : (n i : ℕ) (k : Inst) → i < n → k ≡ (timer_at b i).inst → feeds k s ≡ true → i ≡ feeder_from (n - i) i b s
  from-here n i k h e t = sym (opened-at n i h ∙ rw (sym (ap (λ (x : Inst). feeds x s) e) ∙ t))

  pub from_next : (n i : ℕ) (k : Inst) → i < n → k ≡ (timer_at b i).inst → feeds k s ≡ false
      → feeder_from (n - (i + 1)) (i + 1) b s ≡ feeder_from (n - i) i b s
  from_next n i k h e t = sym (opened-at n i h ∙ rw (sym (ap (λ (x : Inst). feeds x s) e) ∙ t))

  pub from_end : (n i : ℕ) → n ≤ i → i ≤ n → n ≡ feeder_from (n - i) i b s
  unfolding feeder_from
  from_end n i h l = let none : 0 ≡ n - i = omega arith in let e : n ≡ i = omega arith in e ∙ ap (λ (m : ℕ). feeder_from m i b s) none

-- ---- a timer's event is due

pub loaded_fit : (w : List ℕ) (n : ℕ) (t : Timer) → ((x : List Float) → t ≡ timer_at (view w x) n) → Fit t
loaded_fit w n t e = rw (e []) ((bounded w []).timer-fit n)

pub behind : (b : Board) (s cycle : ℕ) (f : Option Feed) (late : Bool) → IsFed b s f
    → MatchOption f (late ≡ false) (λ y. late ≡ due_by (next_event (timer_at b y.timer.n)) cycle) → late ≡ timer_behind b (index_or b.counts.timers f) cycle
behind b s cycle None late h m = rw (le-ltb b.counts.timers b.counts.timers (omega arith)) m
behind b s cycle (Some f) late h m = rw (lt-ltb f.timer.n b.counts.timers h.0) m

-- ---- bits and levels

-- CCxP by the channel's bits
polarity : (n k : ℕ) → is_set (k + 1) n ≡ eqb (n / 2 ^ k / 2 % 2) 1
polarity n k = rw (← shr-shr n k 1)

pub signal-lt : (g : Gpio) (n : ℕ) → 0 < n → g.sig < n → signal_of g < n
signal-lt g n z h = go (eqb g.cfg.mode 2)
  where
    go : (b : Bool) → cond b g.sig 0 < n
    go true = h
    go false = z

-- ---- the counter's side

alike : (p r : Bool) → beq p r ≡ not (level true p r)
alike true true = refl
alike true false = refl
alike false r = refl

pub low-pwm : (t : Timer) (ch cycle mode : ℕ) → mode ≡ oc_mode t ch → 6 ≤ mode → (cnt : ℕ) → cnt ≡ cnt_at t cycle → (active : Bool) → active ≡ ocref t ch cnt
    → beq (eqb (t.regs.ccer / 2 ^ (4 * ch) / 2 % 2) 1) active ≡ counts_low t ch cycle
unfolding counts_low
low-pwm t ch cycle mode is pwm cnt counted active ref =
    rw (le-leb 6 (oc_mode t ch) (omega (arith, is, pwm)), polarity t.regs.ccer (4 * ch), sym (ref ∙ ap (ocref t ch) counted))
    (alike (eqb (t.regs.ccer / 2 ^ (4 * ch) / 2 % 2) 1) active)

-- ---- the first true of a list

-- of an output that its mode holds low: held
pub channel-held : (t : Timer) (ch level cycle : ℕ) → is_off t ch ≡ false → level ≡ 0 → (mode : ℕ) → mode ≡ oc_mode t ch → mode ≤ 5
    → 1 ≡ first_true (channel_tests t ch level cycle)
unfolding first_true
channel-held t ch level cycle on low mode is h = rw (on, le-leb (oc_mode t ch) 5 (omega (arith, is, h)), eq-eqb level 0 low)

-- no reason of the channel's is the last of all
pub unwrapped : (o : Option Reason) → number_of (unwrap_or o Unknown) ≡ number_or 10 o
unwrapped None = refl
unwrapped (Some r) = refl

-- a first part that has one decides, a first part without one leaves it to the rest
first-early : (ts us : List Bool) → first_true ts < length ts → first_true ts ≡ first_true (ts ++ us)
unfolding first_true
first-early [] us h = absurd (omega arith)
first-early (true ∷ ts) us h = refl
first-early (false ∷ ts) us h = ap suc (first-early ts us (omega arith))

first-late : (ts us : List Bool) → length ts ≤ first_true ts → first_true (ts ++ us) ≡ length ts + first_true us
unfolding first_true
first-late [] us h = omega arith
first-late (true ∷ ts) us h = absurd (omega arith)
first-late (false ∷ ts) us h = let i = first-late ts us (omega arith) in omega (arith, i)

two-more : (ts : List Bool) → first_true (false ∷ false ∷ ts) ≡ suc (suc (first_true ts))
unfolding first_true
two-more ts = refl

-- ---- the reason

-- of tests by value: a pin and its signal's level, whether a timer feeds the signal and the pin routes it, and the channel
module _ (g : Gpio) (level : ℕ) (fed routed : Bool) (t : Timer) (ch cycle : ℕ) where
  rest : List Bool
  rest =
      (is_alternate g && not fed)
      ∷ (is_alternate g && not routed)
      ∷ (is_alternate g && (fed && is_off t ch))
      ∷ (is_alternate g && (fed && (is_held t ch && eqb level 0)))
      ∷ (is_alternate g && (fed && (counts_low t ch cycle && eqb level 0)))
      ∷ []

  pub pin-decides : (r : ℕ) → r ≡ first_true (pin_tests g level) → r < 5 → r ≡ first_true (tests g level fed routed t ch cycle)
  unfolding rest
  pin-decides r e h = e ∙ first-early (pin_tests g level) rest (omega (arith, e))

  late : (r : ℕ) → r ≡ first_true (pin_tests g level) → 5 ≤ r → first_true (tests g level fed routed t ch cycle) ≡ 5 + first_true rest
  unfolding rest
  late r e h = first-late (pin_tests g level) rest (omega (arith, e))

  module _ (r : ℕ) (first : r ≡ first_true (pin_tests g level)) (none : 5 ≤ r) where
    pub plain-ten : is_alternate g ≡ false → 10 ≡ first_true (tests g level fed routed t ch cycle)
    unfolding rest first_true
    plain-ten a = sym (late r first none ∙ rw a)

    pub unfed-five : is_alternate g ≡ true → fed ≡ false → 5 ≡ first_true (tests g level fed routed t ch cycle)
    unfolding rest first_true
    unfed-five a f = sym (late r first none ∙ rw (a, f))

    pub unrouted-six : is_alternate g ≡ true → fed ≡ true → routed ≡ false → 6 ≡ first_true (tests g level fed routed t ch cycle)
    unfolding rest first_true
    unrouted-six a f u = sym (late r first none ∙ rw (a, f, u))

    pub channel-seven : is_alternate g ≡ true → fed ≡ true → routed ≡ true → (v : ℕ) → v ≡ first_true (channel_tests t ch level cycle)
        → 7 + v ≡ first_true (tests g level fed routed t ch cycle)
    unfolding rest
    channel-seven a f u v e = sym (late r first none ∙ two)
      where
        two : 5 + first_true rest ≡ 7 + v
        two = rw (a, f, u) (ap (λ (n : ℕ). 5 + n) (two-more (channel_tests t ch level cycle)) ∙ omega (arith, e))

-- of pin p, as g, with signal s, and timer i of a board
abbrev pub reason_of : Board → Gpio → ℕ → ℕ → ℕ → ℕ → ℕ → ℕ
reason_of b g p s i cycle level =
    first_true
    (tests g level (ltb i b.counts.timers) (eqb (route_of b.pads s) p) (timer_at b i) (channel_of (timer_at b i).inst s) cycle)

module _ (b : Board) (g : Gpio) (p s i cycle level first : ℕ) (driven : level ≡ level_of b.pads s) (pin : first ≡ first_true (pin_tests g level)) where
  pinned : first ≡ first_true (pin_tests g (level_of b.pads s))
  pinned = pin ∙ ap (λ (l : ℕ). first_true (pin_tests g l)) driven

  pub reason-pin : first < 5 → first ≡ reason_of b g p s i cycle (level_of b.pads s)
  reason-pin h = pin-decides g (level_of b.pads s) (ltb i b.counts.timers) (eqb (route_of b.pads s) p) (timer_at b i) (channel_of (timer_at b i).inst s) cycle first pinned h

  module _ (none : 5 ≤ first) where
    pub reason-plain : (g.cfg.mode ≡ 2 → ⊥) → 10 ≡ reason_of b g p s i cycle (level_of b.pads s)
    reason-plain m = plain-ten g (level_of b.pads s) (ltb i b.counts.timers) (eqb (route_of b.pads s) p) (timer_at b i) (channel_of (timer_at b i).inst s) cycle first pinned none (ne_eqb g.cfg.mode 2 m)

    module _ (mode : g.cfg.mode ≡ 2) where
      pub reason-unfed : b.counts.timers ≤ i → 5 ≡ reason_of b g p s i cycle (level_of b.pads s)
      reason-unfed h =
          unfed-five g (level_of b.pads s) (ltb i b.counts.timers) (eqb (route_of b.pads s) p) (timer_at b i) (channel_of (timer_at b i).inst s) cycle first pinned none (eq-eqb g.cfg.mode 2 mode) (le-ltb i b.counts.timers h)

      module _ (h : i < b.counts.timers) where
        pub reason-unrouted : eqb (route_of b.pads s) p ≡ false → 6 ≡ reason_of b g p s i cycle (level_of b.pads s)
        reason-unrouted u =
            unrouted-six g (level_of b.pads s) (ltb i b.counts.timers) (eqb (route_of b.pads s) p) (timer_at b i) (channel_of (timer_at b i).inst s) cycle first pinned none (eq-eqb g.cfg.mode 2 mode) (lt-ltb i b.counts.timers h) u

        pub reason-channel : eqb (route_of b.pads s) p ≡ true → (t : Timer) → t ≡ timer_at b i → (ch : ℕ) → ch ≡ channel_of (timer_at b i).inst s → (v : ℕ)
            → v ≡ first_true (channel_tests t ch level cycle) → 7 + v ≡ reason_of b g p s i cycle (level_of b.pads s)
        reason-channel u t load ch channel v e =
            channel-seven g (level_of b.pads s) (ltb i b.counts.timers) (eqb (route_of b.pads s) p) (timer_at b i) (channel_of (timer_at b i).inst s) cycle first pinned none (eq-eqb g.cfg.mode 2 mode) (lt-ltb i b.counts.timers h)
            u v
            (e ∙ ap (λ (l : ℕ). first_true (channel_tests t ch l cycle)) driven ∙ ap (λ (c : ℕ). first_true (channel_tests t c (level_of b.pads s) cycle)) channel
            ∙ ap (λ (k : Timer). first_true (channel_tests k (channel_of (timer_at b i).inst s) (level_of b.pads s) cycle)) load)

-- ---- what the callees ask

pub gpio-small : (w : List ℕ) (x : List Float) (p : ℕ) (g : Gpio) → g ≡ gpio_at (view w x).pads p → g.sig < 256
gpio-small w x p g e = rw e ((bounded w x).gpio-fit p).sig

pub in-time : (b : Board) (cycle : ℕ) (t : Bool) → t ≡ cycle_astray b cycle → t ≡ false → cycle < 9223372036854775808
in-time b cycle t e h = omega (arith, ltb-false 4611686018427387904 cycle (neither _ _ (sym e ∙ h)))
  where
    neither : (p q : Bool) → (p || q) ≡ false → p ≡ false
    neither true q h = h
    neither false q h = refl

-- ---- the query

module _ (w : List ℕ) (x : List Float) (pin cycle : ℕ) (r : Answer) where
  pub no_pin_lem : leb (view w x).counts.pins pin ≡ true → r ≡ answer 2 0 0 → Answers (step (view w x) (query_why pin cycle)) r w w x x
  unfolding step
  no_pin_lem h e = away w x _ 2 (rw h) r e

  module _ (here : leb (view w x).counts.pins pin ≡ false) where
    module _ (t : Bool) (astray : t ≡ cycle_astray (view w x) cycle) where
      pub no-time : t ≡ true → r ≡ answer 5 0 0 → Answers (step (view w x) (query_why pin cycle)) r w w x x
      unfolding step
      no-time h e = away w x _ 5 (rw (here, sym astray ∙ h)) r e

      module _ (in-time : t ≡ false) (g : Gpio) (loaded : g ≡ gpio_at (view w x).pads pin) (s : ℕ) (selected : s ≡ signal_of g) (i : ℕ)
          (from : i ≡ feeder (view w x) s) (late : Bool) (due : late ≡ timer_behind (view w x) i cycle) where
        behind-is : late ≡ is_behind (view w x) pin cycle
        behind-is =
            due ∙ ap (λ (k : ℕ). timer_behind (view w x) k cycle) (from ∙ ap (feeder (view w x)) (selected ∙ ap signal_of loaded))

        pub backlog : late ≡ true → r ≡ answer 8 0 0 → Answers (step (view w x) (query_why pin cycle)) r w w x x
        unfolding step
        backlog h e = away w x _ 8 (rw (here, sym astray ∙ in-time, sym behind-is ∙ h)) r e

        -- the reason by value
        by : Gpio → ℕ → ℕ → ℕ
        by g s i =
            first_true
            (tests g (level_of (view w x).pads s) (ltb i (view w x).counts.timers) (eqb (route_of (view w x).pads s) pin) (timer_at (view w x) i)
            (channel_of (timer_at (view w x) i).inst s) cycle)

        by-board : by g s i ≡ why_low (view w x) pin cycle
        unfolding by reasons
        by-board =
            ap (λ (k : ℕ). by g s k) from ∙ ap (λ (k : ℕ). by g k (feeder (view w x) k)) selected
            ∙ ap (λ (k : Gpio). by k (signal_of k) (feeder (view w x) (signal_of k))) loaded

        pub told : late ≡ false → (v : ℕ)
            → v ≡ first_true
            (tests g (level_of (view w x).pads s) (ltb i (view w x).counts.timers) (eqb (route_of (view w x).pads s) pin) (timer_at (view w x) i)
            (channel_of (timer_at (view w x) i).inst s) cycle)
            → r ≡ answer 0 v 0 → Answers (step (view w x) (query_why pin cycle)) r w w x x
        unfolding step by
        told h v f e =
            rw (here, sym astray ∙ in-time, sym behind-is ∙ h, e)
            (record { number = refl; value = f ∙ by-board; count = refl; board = refl; kept = λ p. (refl, refl) })
