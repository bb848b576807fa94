-- What driving a timer's outputs does to the pin of one of its channels. Assumes nothing.
use Prim.Native.Nat.{ℕ, zero, suc, ◌<◌}
use mathlib.Core.Path.{◌≡◌, refl, ap, ◌∙◌}
use mathlib.Core.Bool.{Bool, true, false, cond}
use mathlib.Core.List.{List, ◌++◌}
use native.Mathlib.Omega.{arith}
use lib.Dec.{leb, eqb}
use borrow.Author.Tests.{eqb-true, eqb-false, ne_eqb, leb-true, lt-ltb}
use Rattle.sig.specs.Signal.{tim_signal}
use Rattle.sig.proofs.Laws.{tim-no-input}
use Rattle.tim.specs.declared.Timer.{Timer}
use Rattle.tim.specs.Change.{output}
use Rattle.gpio.specs.declared.PinCfg.{PinCfg}
use Rattle.gpio.specs.Gpio.{bit, drives}
use Rattle.book.specs.Book.{Entry, entry_of, entries_of}
use Rattle.machine.specs.Board.{Pads, gpio_at, route_of}
use Rattle.machine.specs.Sys.{drive_channel, drive_outputs, driver, sig_out}
use Rattle.machine.specs.Sound.{SoundPads, Held}
use Rattle.machine.proofs.Routing.{sound-sig, sound-channel, held-channel, own-sig, Follows}
use Rattle.std.specs.Cmp.{second_so}
use Rattle.accuracy.proofs.Levels.{Moves, moves-silent, moves-then, moves-own, silent-elsewhere, bit-small}

abbrev pub shown : Pads → ℕ → ℕ
shown p pin = (gpio_at p pin).pin.level

-- sound pads on which a push-pull pin routes a signal
pub record Wired (s pin : ℕ) (p : Pads) : Type 0 where
  pub sound : SoundPads p
  pub pin-is : pin < 128
  pub route : route_of p s ≡ pin
  pub push-pull : (gpio_at p pin).cfg.open_drain ≡ false

-- what is held stays wired
pub wired-held : (s pin : ℕ) (p q : Pads) → Wired s pin p → SoundPads q → Held s pin p q → Wired s pin q
wired-held s pin p q w sound h = record {
  sound = sound;
  pin-is = w.pin-is;
  route = h.route ∙ w.route;
  push-pull = ap (λ (c : PinCfg). c.open_drain) h.cfg ∙ w.push-pull;
}

-- ---- the signals of timers 2, 3 and 4

module _ (n ch : ℕ) (drv : driver n ≡ true) (four : ch < 4) where
  pub signal-small : tim_signal n ch < 256
  signal-small = omega (arith, leb-true n 4 (second_so (leb 2 n) (leb n 4) drv))

  pub signal-drives : drives (tim_signal n ch) ≡ true
  signal-drives = rw (ne_eqb (tim_signal n ch) 0 (λ z. omega arith), tim-no-input n ch four)

-- ---- one channel, and four

-- a channel driven: the pin stays wired, and the entries are its level's change
pub record Driven (s pin at : ℕ) (p q : Pads) (es : List Entry) (new : ℕ) : Type 0 where
  pub wired : Wired s pin q
  pub shows : shown q pin ≡ new
  pub moves : Moves pin at es (shown p pin) (shown q pin)

pub driven-then : (s pin at : ℕ) (p q r : Pads) (es fs : List Entry) (l m : ℕ) → Driven s pin at p q es l → Driven s pin at q r fs m → Driven s pin at p r (es ++ fs) m
driven-then s pin at p q r es fs l m d e = record {
  wired = e.wired;
  shows = e.shows;
  moves = moves-then pin at es fs (shown p pin) (shown q pin) (shown r pin) d.moves e.moves;
}

module _ (t : Timer) (cnt ch pin at : ℕ) (drv : driver t.inst.n ≡ true) (four : ch < 4) (has : ch < t.inst.channels) where
  -- the channel's own pin shows its output
  own-channel : (p : Pads) → Wired (tim_signal t.inst.n ch) pin p
      → Driven (tim_signal t.inst.n ch) pin at p (drive_channel t cnt ch p).pads (entry_of at (drive_channel t cnt ch p).change) (bit (output t ch cnt))
  unfolding drive_channel
  own-channel p w =
      let s = tim_signal t.inst.n ch in
      let f : Follows s pin (bit (output t ch cnt)) p (sig_out p s (bit (output t ch cnt))) = own-sig p s pin w.sound (signal-small t.inst.n ch drv four) w.pin-is w.route (signal-drives t.inst.n ch drv four) w.push-pull (bit (output t ch cnt)) in
      rw (lt-ltb ch t.inst.channels has)
      (record {
        wired = record {
          sound = sound-sig p s (bit (output t ch cnt)) w.sound;
          pin-is = w.pin-is;
          route = f.route;
          push-pull = ap (λ (c : PinCfg). c.open_drain) f.cfg ∙ w.push-pull;
        };
        shows = f.shown;
        moves = rw (f.change, f.shown) (moves-own pin at (shown p pin) (bit (output t ch cnt)) f.source (bit-small (output t ch cnt)));
      })

  -- another channel leaves it
  other-channel : (p : Pads) (j : ℕ) → (j ≡ ch → ⊥) → Wired (tim_signal t.inst.n ch) pin p
      → Driven (tim_signal t.inst.n ch) pin at p (drive_channel t cnt j p).pads (entry_of at (drive_channel t cnt j p).change) (shown p pin)
  other-channel p j ne w =
      let s = tim_signal t.inst.n ch in
      let q = (drive_channel t cnt j p).pads in
      let h = held-channel p s pin w.sound (signal-small t.inst.n ch drv four) w.pin-is w.route t cnt j (λ e. ne (omega arith)) in
      record {
        wired = wired-held s pin p q w (sound-channel t cnt j p w.sound) h.held;
        shows = h.held.shown;
        moves = rw h.held.shown (moves-silent pin at _ (shown p pin) (silent-elsewhere pin at _ h.elsewhere));
      }

  each-channel : (p : Pads) (j : ℕ) → Wired (tim_signal t.inst.n ch) pin p
      → Driven (tim_signal t.inst.n ch) pin at p (drive_channel t cnt j p).pads (entry_of at (drive_channel t cnt j p).change) (cond (eqb j ch) (bit (output t ch cnt)) (shown p pin))
  each-channel p j w = go (eqb j ch) refl
    where
      go : (b : Bool) → eqb j ch ≡ b
          → Driven (tim_signal t.inst.n ch) pin at p (drive_channel t cnt j p).pads (entry_of at (drive_channel t cnt j p).change) (cond b (bit (output t ch cnt)) (shown p pin))
      go true e = rw (eqb-true j ch e) (own-channel p w)
      go false e = other-channel p j (eqb-false j ch e) w

  one-of-four : (o l : ℕ) → cond (eqb 3 ch) o (cond (eqb 2 ch) o (cond (eqb 1 ch) o (cond (eqb 0 ch) o l))) ≡ o
  one-of-four o l = go ch four
    where
      go : (c : ℕ) → c < 4 → cond (eqb 3 c) o (cond (eqb 2 c) o (cond (eqb 1 c) o (cond (eqb 0 c) o l))) ≡ o
      go zero h = refl
      go (suc zero) h = refl
      go (suc (suc zero)) h = refl
      go (suc (suc (suc zero))) h = refl
      go (suc (suc (suc (suc c)))) h = omega arith

  pub outputs-driven : (p : Pads) → Wired (tim_signal t.inst.n ch) pin p
      → Driven (tim_signal t.inst.n ch) pin at p (drive_outputs t cnt p).pads (entries_of at (drive_outputs t cnt p).changes) (bit (output t ch cnt))
  unfolding drive_outputs entries_of
  outputs-driven p w =
      let s = tim_signal t.inst.n ch in
      let a = drive_channel t cnt 0 p in
      let b = drive_channel t cnt 1 a.pads in
      let c = drive_channel t cnt 2 b.pads in
      let d = drive_channel t cnt 3 c.pads in
      let wa = each-channel p 0 w in
      let wb = each-channel a.pads 1 wa.wired in
      let wc = each-channel b.pads 2 wb.wired in
      let wd = each-channel c.pads 3 wc.wired in
      let all = driven-then s pin at p a.pads d.pads _ _ _ _ wa (driven-then s pin at a.pads b.pads d.pads _ _ _ _ wb (driven-then s pin at b.pads c.pads d.pads _ _ _ _ wc wd)) in
      rw drv
      (record {
        wired = all.wired;
        shows = wd.shows ∙ rw (wc.shows, wb.shows, wa.shows) (one-of-four (bit (output t ch cnt)) (shown p pin));
        moves = all.moves;
      })
