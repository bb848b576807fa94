-- What the record tells at each moment, and that a delivery's events keep it. Assumes nothing.
use Prim.Native.Nat.{ℕ, zero, suc, ◌-◌, ◌≤◌, ◌<◌}
use mathlib.Core.Path.{◌≡◌, refl, sym, ap, subst, ◌∙◌}
use mathlib.Core.Bool.{Bool, true, false, cond}
use mathlib.Core.List.{List, ◌++◌, append_assoc, append-nil}
use native.Mathlib.Nat.{le_trans}
use native.Mathlib.Omega.{arith}
use lib.Dec.{ltb, leb}
use lib.ListN.{length}
use borrow.Author.Tests.{ltb-true, ltb-false, leb-false}
use Rattle.tim.specs.declared.Timer.{Timer}
use Rattle.tim.specs.declared.Next.{Next}
use Rattle.tim.specs.declared.Due.{Due}
use Rattle.tim.specs.Change.{output}
use Rattle.tim.specs.Count.{counts}
use Rattle.tim.specs.Next.{next_steps, next_event}
use Rattle.stepping.proofs.Nearest.{event-runs}
use Rattle.sig.specs.Signal.{tim_signal}
use Rattle.gpio.specs.Gpio.{bit}
use Rattle.book.specs.Book.{Entry, entries_of}
use Rattle.machine.specs.Board.{Pads}
use Rattle.machine.specs.Sys.{driver, drive_outputs}
use Rattle.machine.specs.Deliver.{applied, count_at, turn, turn_of, Run, handled, stop, due_by}
use Rattle.machine.proofs.Routing.{by-test}
use Rattle.book.specs.Level.{level_at}
use Rattle.accuracy.proofs.Wave.{wave}
use Rattle.accuracy.proofs.Levels.{level-append, Upward, upward-later, upward-then}
use Rattle.accuracy.proofs.Aim.{Aim, period, high, signal_of, Fixed, due, Phase, Goes, counting}
use Rattle.accuracy.proofs.One.{goes, output-is}
use Rattle.accuracy.proofs.Drive.{Wired, Driven, shown, outputs-driven}

abbrev pub pilot : Aim → ℕ → ℕ
pilot a = wave (period a) (high a) a.first

-- a timer that runs the pilot, its pin, and the entries so far: up to the next event they tell the wave, from then on the pin's level
pub record Told (a : Aim) (pin l₀ : ℕ) (t : Timer) (p : Pads) (es : List Entry) : Type 0 where
  pub drives : driver a.n ≡ true
  pub fixed : Fixed a t
  pub phase : Phase a t
  pub wired : Wired (signal_of a) pin p
  pub past : (c : ℕ) → a.first ≤ c → c < due t → level_at pin es l₀ c ≡ pilot a c
  pub present : (c : ℕ) → due t ≤ c → level_at pin es l₀ c ≡ shown p pin
  -- the pin's entries are in order
  pub ordered : Upward pin 0 es (due t)

module _ (a : Aim) (pin l₀ : ℕ) where
  -- the outputs driven, for a timer of the pilot's number
  outputs-wired : (s : Timer) (cnt at : ℕ) (p : Pads) → driver a.n ≡ true → Fixed a s → Wired (signal_of a) pin p
      → Driven (signal_of a) pin at p (drive_outputs s cnt p).pads (entries_of at (drive_outputs s cnt p).changes) (bit (ltb cnt a.compare))
  outputs-wired s cnt at p d f w =
      subst (λ (x : Bool). Driven (signal_of a) pin at p (drive_outputs s cnt p).pads (entries_of at (drive_outputs s cnt p).changes) (bit x)) (output-is a s f cnt)
      (subst (λ (n : ℕ). driver n ≡ true → Wired (tim_signal n a.ch) pin p → Driven (tim_signal n a.ch) pin at p (drive_outputs s cnt p).pads (entries_of at (drive_outputs s cnt p).changes) (bit (output s a.ch cnt))) f.number
      (λ e v. outputs-driven s cnt a.ch pin at e f.four f.channel p v) d w)

  -- one event
  module _ (t : Timer) (p : Pads) (es : List Entry) (h : Told a pin l₀ t p es) where
    event-told : (s : Timer) (cnt : ℕ) → Goes a t s cnt
        → Told a pin l₀ s (drive_outputs s cnt p).pads (es ++ entries_of (due t) (drive_outputs s cnt p).changes)
    event-told s cnt g = record { drives = h.drives; fixed = g.fixed; phase = g.phase; wired = w.wired; past = past; present = present; ordered = ordered }
      where
        fs : List Entry
        fs = entries_of (due t) (drive_outputs s cnt p).changes

        w : Driven (signal_of a) pin (due t) p (drive_outputs s cnt p).pads fs (bit (ltb cnt a.compare))
        w = outputs-wired s cnt (due t) p h.drives g.fixed h.wired

        since : (c : ℕ) → due t ≤ c → level_at pin (es ++ fs) l₀ c ≡ shown (drive_outputs s cnt p).pads pin
        since c le = level-append pin es fs l₀ c ∙ ap (λ (l : ℕ). level_at pin fs l c) (h.present c le) ∙ w.moves.since c le

        present : (c : ℕ) → due s ≤ c → level_at pin (es ++ fs) l₀ c ≡ shown (drive_outputs s cnt p).pads pin
        present c le = since c (omega (arith, g.later))

        ordered : Upward pin 0 (es ++ fs) (due s)
        ordered = upward-later pin 0 (es ++ fs) (due t) (due s) g.later (upward-then pin 0 es (due t) fs (due t) h.ordered w.moves.upward)

        past : (c : ℕ) → a.first ≤ c → c < due s → level_at pin (es ++ fs) l₀ c ≡ pilot a c
        past c from to = go (ltb c (due t)) refl
          where
            go : (b : Bool) → ltb c (due t) ≡ b → level_at pin (es ++ fs) l₀ c ≡ pilot a c
            go true e =
                let l : c < due t = ltb-true c (due t) e in
                level-append pin es fs l₀ c ∙ w.moves.before (level_at pin es l₀ c) c l ∙ h.past c from l
            go false e =
                let l : due t ≤ c = ltb-false c (due t) e in
                since c l ∙ w.shows ∙ sym (g.wave-is c from l to)

    turn-later : due t ≤ due (turn_of t p (next_event t) a.div).timer
    unfolding turn
    turn-later = rw (event-runs t (counting a t h.fixed)) (goes a t h.fixed (next_steps t).next refl h.phase).later

    turn-told : Told a pin l₀ (turn_of t p (next_event t) a.div).timer (turn_of t p (next_event t) a.div).pads (es ++ (turn_of t p (next_event t) a.div).entries)
    unfolding turn
    turn-told =
        rw (event-runs t (counting a t h.fixed))
        (let e : Next = (next_steps t).next in
        let s : Timer = applied t e (due t) a.div in
        event-told s (count_at s e) (goes a t h.fixed e refl h.phase))

  -- a delivery: answered 0, it has handled what was due
  pub record Ran (now from : ℕ) (es : List Entry) (r : Run) : Type 0 where
    pub told : Told a pin l₀ r.timer r.pads (es ++ r.entries)
    pub later : from ≤ due r.timer
    pub full : r.number ≡ 0 → now < due r.timer

  due-by : (t : Timer) (now : ℕ) → counts t ≡ true → due_by (next_event t) now ≡ leb (due t) now
  due-by t now runs = ap (λ (d : Due). due_by d now) (event-runs t runs)

  stops : (now from : ℕ) (t : Timer) (p : Pads) (es : List Entry) (n : ℕ) → Told a pin l₀ t p es → from ≤ due t → (n ≡ 0 → leb (due t) now ≡ false) → Ran now from es (stop t p n)
  stops now from t p es n h le none = record { told = rw append-nil h; later = le; full = λ z. leb-false (due t) now (none z) }

  pub run-told : (events now left from : ℕ) (t : Timer) (p : Pads) (es : List Entry) → Told a pin l₀ t p es → from ≤ due t → Ran now from es (handled events now a.div left t p)
  unfolding handled
  run-told zero now left from t p es h le = stops now from t p es _ h le (λ z. sym (due-by t now (counting a t h.fixed)) ∙ go (due_by (next_event t) now) z)
    where
      go : (b : Bool) → ◌≡◌ {A = ℕ} (cond b 8 0) 0 → b ≡ false
      go true e = absurd (omega arith)
      go false e = refl
  run-told (suc events) now left from t p es h le =
      by-test (Ran now from es) (due_by (next_event t) now)
      (λ e. by-test (Ran now from es) (ltb left 4)
      (λ l. stops now from t p es 8 h le (λ z. absurd (omega arith)))
      (λ l.
      let s = turn_of t p (next_event t) a.div in
      let r = run-told events now (left - length s.entries) from s.timer s.pads (es ++ s.entries) (turn-told t p es h) (le_trans le (turn-later t p es h)) in
      record { told = rw append_assoc at r.told; later = r.later; full = r.full }))
      (λ e. stops now from t p es 0 h le (λ z. sym (due-by t now (counting a t h.fixed)) ∙ e))
