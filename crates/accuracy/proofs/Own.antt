-- The board between calls, and a delivery to the pilot's own timer. Assumes nothing.
use Prim.Native.Nat.{ℕ, ◌≤◌, ◌<◌}
use mathlib.Core.Path.{◌≡◌, sym, ap, subst, ◌∙◌}
use mathlib.Core.List.{List, ◌++◌, append-nil}
use native.Mathlib.Omega.{arith}
use lib.ListN.{get_or, set}
use lib.Seq.{get_or-set_same}
use Rattle.tim.specs.declared.Timer.{Timer}
use Rattle.clk.specs.Clk.{timer_div}
use Rattle.book.specs.Book.{Entry}
use Rattle.machine.specs.Board.{Board, timer_at, no_timer}
use Rattle.machine.specs.Deliver.{divider_of, most_events, delivered, after_delivery, line_settled, rebooked}
use Rattle.machine.specs.Deliver as D
use Rattle.machine.specs.Call.{deliver, Outcome, refused}
use Rattle.machine.specs.Step.{step, absent, cycle_astray, book_full, delivered_to}
use Rattle.machine.specs.Sound.{Sound}
use Rattle.machine.proofs.Routing.{either}
use Rattle.accuracy.proofs.Aim.{Aim, due}
use Rattle.accuracy.proofs.Record.{Told, Ran, run-told}

-- a board on which timer i runs the pilot, and the entries so far; its next event is no earlier than a cycle
pub record Kept (a : Aim) (pin l₀ i from : ℕ) (b : Board) (es : List Entry) : Type 0 where
  pub here : i < b.counts.timers
  pub divider : timer_div b.clocks.tree a.apb ≡ a.div
  pub told : Told a pin l₀ (timer_at b i) b.pads es
  pub later : from ≤ due (timer_at b i)

module _ (a : Aim) (pin l₀ i from : ℕ) (b : Board) (es : List Entry) (sound : Sound b) (k : Kept a pin l₀ i from b es) (cycle places : ℕ) where
  ran : Ran a pin l₀ cycle from es (delivered b i cycle places)
  unfolding delivered
  ran =
      let div : divider_of b (timer_at b i) ≡ a.div = ap (timer_div b.clocks.tree) k.told.fixed.bus ∙ k.divider in
      subst (λ (d : ℕ). Ran a pin l₀ cycle from es (D.handled most_events cycle d places (timer_at b i) b.pads)) (sym div)
      (run-told a pin l₀ most_events cycle places from (timer_at b i) b.pads es k.told k.later)

  -- the pilot goes on, and answered 0 everything up to the cycle was handled
  pub record Served (o : Outcome) : Type 0 where
    pub kept : Kept a pin l₀ i from o.board (es ++ o.entries)
    pub full : o.number ≡ 0 → cycle < due (timer_at o.board i)

  served-to : Served (delivered_to b i cycle places)
  unfolding delivered_to after_delivery rebooked line_settled
  served-to =
      let r = delivered b i cycle places in
      let e : get_or (set b.timers i r.timer) i no_timer ≡ r.timer = get_or-set_same b.timers i r.timer no_timer (omega (arith, sound.timers, sound.few-timers, k.here)) in
      record {
        kept = record {
          here = k.here;
          divider = k.divider;
          told = subst (λ (t : Timer). Told a pin l₀ t r.pads (es ++ r.entries)) (sym e) ran.told;
          later = subst (λ (t : Timer). from ≤ due t) (sym e) ran.later;
        };
        full = λ z. subst (λ (t : Timer). cycle < due t) (sym e) (ran.full z);
      }

  served-refused : (n : ℕ) → (n ≡ 0 → ⊥) → Served (refused n b)
  served-refused n ne = record {
    kept = record { here = k.here; divider = k.divider; told = rw append-nil k.told; later = k.later };
    full = λ z. absurd (ne z);
  }

  pub deliver-own : Served (step b (deliver i cycle places))
  unfolding step
  deliver-own =
      either Served (absent i b.counts.timers) (served-refused 2 (λ z. omega arith))
      (either Served (cycle_astray b cycle) (served-refused 5 (λ z. omega arith))
      (either Served (book_full 4 places) (served-refused 6 (λ z. omega arith)) served-to))
