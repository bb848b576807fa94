-- The waveform on record: the level of a channel's pin at every cycle of a delivery, and of deliveries one after the other of `step`, is the
-- machine's, whatever the mode, the direction and the polarity (`DrivenPin` has the premises). The proof: proofs/Waved.antt and proofs/Joined.antt; an instance: proofs/Bench.antt.
use Rattle.std.specs.Prelude.{ℕ, ◌+◌, ◌-◌, ◌/◌, ◌≤◌, ◌<◌, ◌≡◌, true, false, cond, List, ◌++◌, get_or}
use Rattle.rm0440.specs.Clock.{clocks}
use Rattle.rm0440.specs.Level.{level}
use Rattle.tim.specs.declared.Timer.{Timer}
use Rattle.tim.specs.Timer.{down, is_output, ccr_in_use}
use Rattle.tim.specs.Next.{update_steps}
use Rattle.sig.specs.Signal.{tim_signal}
use Rattle.gpio.specs.Gpio.{bit}
use Rattle.machine.specs.Board.{Pads, timer_at, gpio_at, route_of}
use Rattle.machine.specs.Sys.{driver}
use Rattle.machine.specs.Sound.{SoundPads}
use Rattle.machine.specs.Deliver.{handled}
use Rattle.machine.specs.Call.{Call as AnyCall}
use Rattle.machine.specs.Step.{run}
use Rattle.machine.specs.Demand1.{reached}
use Rattle.book.specs.Book.{Entry}
use Rattle.book.specs.Level.{level_at}
use Rattle.accuracy.specs.Claim.{joined}
use Rattle.follows.specs.Seen.{clocks_at, per, seen, rules_of}
use Rattle.follows.specs.Follows.{Call, Delivered, between}
use Rattle.boards.specs.Boards.{div_of, Delivery, deliveries, last}

-- the count k steps after the reference, before the turn
abbrev pub onward : Timer → ℕ → ℕ
onward t k = cond (down t) (t.count.cnt0 - k) (t.count.cnt0 + k)

-- from step k on, channel ch's compare is not met in this period if the record calls it done (outside done-equality)
abbrev pub Settled : Timer → ℕ → ℕ → Type 0
Settled t ch k =
    get_or t.chan.cc_done ch false ≡ true → is_output t ch ≡ true → (j : ℕ) → k < j → j < update_steps t → onward t j ≡ ccr_in_use t ch → ⊥

-- the level of pin p
abbrev pub shown : Pads → ℕ → ℕ
shown p pin = (gpio_at p pin).pin.level

-- a driving timer with channel ch's push-pull pin routed; nothing is due at cycle a, and the pin shows the machine's level from there up to the
-- next event (else direction-late: a write of CR1, ARR or PSC does not drive)
pub record DrivenPin (t : Timer) (div a ch pin : ℕ) (p : Pads) : Type 0 where
  pub call : Call t div a
  pub quiet : Delivered t a
  pub drives : driver t.inst.n ≡ true
  pub channel : ch < 4
  pub has : ch < t.inst.channels
  pub pads : SoundPads p
  pub pin-is : pin < 128
  pub route : route_of p (tim_signal t.inst.n ch) ≡ pin
  pub push-pull : (gpio_at p pin).cfg.open_drain ≡ false
  pub settled : Settled t ch (clocks_at t div a / per t)
  pub shows : (c : ℕ) → a ≤ c → Delivered t c → shown p pin ≡ bit (level (seen t div c) ch)

-- a delivery answered 0 at cycle now: at every cycle from a to now the record has the machine's level
abbrev pub Waves : Type 0
Waves =
    (events places now : ℕ) (t : Timer) (div a ch pin : ℕ) (p : Pads) → DrivenPin t div a ch pin p → (handled events now div places t p).number ≡ 0
    → (c : ℕ) → a ≤ c → c ≤ now
    → level_at pin (handled events now div places t p).entries (shown p pin) c ≡ bit (level (clocks (rules_of t) (between t div a c) (seen t div a)) ch)

-- ---- of `step`

-- the entries of deliveries to timer i one after the other, joined
abbrev pub entries_made : List AnyCall → ℕ → List Delivery → ℕ → ℕ → List Entry
entries_made cs i ds cycle places = joined (run (reached cs) (deliveries i ds)) ++ (last cs i ds cycle places).entries

-- deliveries of which the last is answered 0, the others as may be (8 too), from a board that calls lead to: at every cycle from a to the last one's
-- the record has the machine's level
abbrev pub StepWaves : Type 0
StepWaves =
    (cs : List AnyCall) (i a ch pin : ℕ) (ds : List Delivery) (cycle places : ℕ) → i < (reached cs).counts.timers → a ≤ (reached cs).counts.last
    → DrivenPin (timer_at (reached cs) i) (div_of (reached cs) i) a ch pin (reached cs).pads → (last cs i ds cycle places).number ≡ 0
    → (c : ℕ) → a ≤ c → c ≤ cycle
    → level_at pin (entries_made cs i ds cycle places) (shown (reached cs).pads pin) c
    ≡ bit (level (clocks (rules_of (timer_at (reached cs) i)) (between (timer_at (reached cs) i) (div_of (reached cs) i) a c) (seen (timer_at (reached cs) i) (div_of (reached cs) i) a)) ch)
