-- Demand 3: the recorded duty is the programmed one. The claim of Claim.antt, for every list of calls. Assumes nothing.
use Prim.Native.Nat.{ℕ, ◌+◌, ◌≤◌, ◌<◌}
use mathlib.Core.Path.{◌≡◌, refl, sym, ap, subst, ◌∙◌}
use mathlib.Core.Logic.{◌⊎◌, inl, inr}
use mathlib.Core.Bool.{Bool, true, false, cond, ◌||◌}
use mathlib.Core.List.{List, [], ◌∷◌, ◌++◌, append_assoc, append-nil}
use native.Mathlib.Nat.{mul-le-mul_left, min-le_right}
use native.Mathlib.Omega.{arith}
use lib.Dec.{eqb}
use borrow.Author.Tests.{eqb-true, eqb-false, eq-eqb, ne_eqb}
use Rattle.sig.specs.Signal.{tim_signal}
use Rattle.book.specs.Book.{Entry}
use Rattle.machine.specs.Board.{Board, timer_at, gpio_at}
use Rattle.machine.specs.Sys.{driver}
use Rattle.machine.specs.Call.{pin_setting, outside_drive, pin_reset, writing, resetting, delivery, Call, set_up, clock_tree, enable, clear_pending, ask, lend, deliver, is_refusal}
use Rattle.machine.specs.Step.{step, run, board_after}
use Rattle.machine.specs.Sound.{Sound}
use Rattle.machine.proofs.NumberLaws.{refusal-nonzero}
use Rattle.machine.proofs.Routing.{by-test}
use Rattle.machine.proofs.Reach.{Wired, Rest, Leaves, frame_step, frame_refused, sound-step, sound-after}
use Rattle.accuracy.proofs.Tests.{never, one_of, apart}
use Rattle.std.specs.Cmp.{first_so, second_so}
use Rattle.accuracy.specs.Claim.{steady_call, steady, delivered_at, covered, joined, Pilot, Steady, board₀, board₁, recorded, Claim}
use Rattle.accuracy.proofs.Levels.{Upward}
use Rattle.accuracy.proofs.Wave.{duty}
use Rattle.accuracy.proofs.Aim.{Aim, period, high, signal_of, due}
use Rattle.accuracy.proofs.Start.{aim_of, told-start}
use Rattle.accuracy.proofs.Began.{began}
use Rattle.accuracy.proofs.Own.{Kept, deliver-own}
use Rattle.accuracy.proofs.Others.{kept-rest}

-- ---- one call

module _ (a : Aim) (pin l₀ i from : ℕ) (b : Board) (es : List Entry) (sound : Sound b) (k : Kept a pin l₀ i from b es) where
  wired : Wired b i a.ch (signal_of a) pin
  wired =
      let f = k.told.fixed in
      record {
        sound = sound;
        timer = k.here;
        channel = f.four;
        signal = ap (λ (n : ℕ). tim_signal n a.ch) (sym f.number);
        drives = ap driver f.number ∙ k.told.drives;
        route = k.told.wired.route;
        pin = k.told.wired.pin-is;
        push-pull = k.told.wired.push-pull;
      }

  -- the cycle after the last full delivery
  abbrev reached : Call → ℕ
  reached c = cond (eqb (step b c).number 0) (delivered_at i c from) from

  abbrev Goes : Call → Type 0
  Goes c = Kept a pin l₀ i (reached c) (step b c).board (es ++ (step b c).entries)

  -- a call that leaves the pilot alone
  by-rest : (c : Call) → delivered_at i c from ≡ from → Rest i (signal_of a) pin b (step b c) → Goes c
  by-rest c e r =
      subst (λ (x : ℕ). Kept a pin l₀ i x (step b c).board (es ++ (step b c).entries)) (sym (rw e (same (eqb (step b c).number 0))))
      (kept-rest a pin l₀ i from b es (step b c) (sound-step b c sound) r k)
    where
      same : (x : Bool) → cond x from from ≡ from
      same true = refl
      same false = refl

  leaving : (c : Call) → delivered_at i c from ≡ from → Leaves i pin (signal_of a) b c → Goes c
  leaving c e h = by-rest c e (frame_step b i a.ch (signal_of a) pin wired c h)

  -- a delivery to the timer itself
  own : (cycle places : ℕ) → Goes (deliver i cycle places)
  unfolding delivered_at
  own cycle places =
      let d = deliver-own a pin l₀ i from b es sound k cycle places in
      let o = step b (deliver i cycle places) in
      record {
        here = d.kept.here;
        divider = d.kept.divider;
        told = d.kept.told;
        later = rw (eq-eqb i i refl)
            (by-test (λ (x : ℕ). x ≤ due (timer_at o.board i)) (eqb o.number 0)
            (λ e. omega (arith, d.full (eqb-true o.number 0 e))) (λ e. d.kept.later));
      }

  -- a delivery to whatever timer
  any-delivery : (j cycle places : ℕ) → Goes (deliver j cycle places)
  unfolding delivered_at
  any-delivery j cycle places = go (eqb j i) refl
    where
      go : (x : Bool) → eqb j i ≡ x → Goes (deliver j cycle places)
      go true e = subst (λ (m : ℕ). Goes (deliver m cycle places)) (sym (eqb-true j i e)) (own cycle places)
      go false e = leaving (deliver j cycle places) (rw e) (eqb-false j i e)

  -- a served call that is steady
  served-call : (c : Call) → steady_call i pin b c ≡ true → Goes c
  unfolding steady_call delivered_at
  served-call (set_up x) h = absurd (never h)
  served-call (clock_tree t cycle) h = absurd (never h)
  served-call (enable word value) h = leaving (enable word value) refl tt
  served-call (clear_pending irq) h = leaving (clear_pending irq) refl tt
  served-call (ask q) h = leaving (ask q) refl tt
  served-call (lend (pin_setting q mode od out pu pd f) cycle places) h =
      leaving (lend (pin_setting q mode od out pu pd f) cycle places) refl (apart q pin h)
  served-call (lend (outside_drive q e) cycle places) h = leaving (lend (outside_drive q e) cycle places) refl tt
  served-call (lend pin_reset cycle places) h = absurd (never h)
  served-call (lend (writing j offset size value) cycle places) h = leaving (lend (writing j offset size value) cycle places) refl h
  served-call (lend (resetting j) cycle places) h = leaving (lend (resetting j) cycle places) refl (apart j i h)
  served-call (lend (delivery j) cycle places) h = any-delivery j cycle places

  -- "refused calls aside"
  refused-call : (c : Call) → is_refusal (step b c).number ≡ true → Goes c
  refused-call c h =
      let n = (step b c).number in
      let z : eqb n 0 ≡ false = ne_eqb n 0 (refusal-nonzero n h) in
      subst (λ (x : ℕ). Kept a pin l₀ i x (step b c).board (es ++ (step b c).entries)) (sym (ap (λ (x : Bool). cond x (delivered_at i c from) from) z))
      (kept-rest a pin l₀ i from b es (step b c) (sound-step b c sound) (frame_refused b i (signal_of a) pin c h) k)

  any-call : (c : Call) → is_refusal (step b c).number || steady_call i pin b c ≡ true → Goes c
  any-call c h = go (one_of (is_refusal (step b c).number) (steady_call i pin b c) h)
    where
      go : (is_refusal (step b c).number ≡ true) ⊎ (steady_call i pin b c ≡ true) → Goes c
      go (inl e) = refused-call c e
      go (inr e) = served-call c e

-- ---- a list of calls

module _ (a : Aim) (pin l₀ i : ℕ) where
  all-calls : (cs : List Call) (from : ℕ) (b : Board) (es : List Entry) → Sound b → Kept a pin l₀ i from b es → steady i pin b cs ≡ true
      → Kept a pin l₀ i (covered i b cs from) (board_after b cs) (es ++ joined (run b cs))
  unfolding steady covered joined run board_after
  all-calls [] from b es sound k st = rw append-nil k
  all-calls (c ∷ cs) from b es sound k st =
      let x = is_refusal (step b c).number || steady_call i pin b c in
      let rest = steady i pin (step b c).board cs in
      let first = any-call a pin l₀ i from b es sound k c (first_so x rest st) in
      rw append_assoc at (all-calls cs _ (step b c).board (es ++ (step b c).entries) (sound-step b c sound) first (second_so x rest st))

-- ---- the claim

module _ (π : Pilot) (st : Steady π) where
  sound₀ : Sound (board₀ π)
  sound₀ = sound-after π.before

  sound₁ : Sound (board₁ π)
  sound₁ = sound-step (board₀ π) _ sound₀

  abbrev aimed : Aim
  aimed = aim_of (board₁ π) π.timer π.ch π.s

  abbrev entries_after : List Entry
  entries_after = joined (run (board₁ π) π.after)

  -- the board and the record at the list's end
  at-end : Kept aimed π.pin (gpio_at (board₁ π).pads π.pin).pin.level π.timer (covered π.timer (board₁ π) π.after 0) (board_after (board₁ π) π.after) entries_after
  at-end =
      let begun = began (board₀ π) π.timer π.offset π.size π.value π.s π.places sound₀ st.started in
      let l₀ : ℕ = (gpio_at (board₁ π).pads π.pin).pin.level in
      let start : Kept aimed π.pin l₀ π.timer 0 (board₁ π) [] = record {
        here = begun.present;
        divider = refl;
        told = told-start (board₁ π) π.timer π.s π.ch π.pin begun st.started.upward st.settings sound₁;
        later = omega arith;
      } in
      all-calls aimed π.pin l₀ π.timer π.after 0 (board₁ π) [] sound₁ start st.since

  -- the record is in order for the pilot's pin: no entry's cycle is below that of the pin's entry before it, and each level is 0 or 1
  pub in_order_lem : Upward π.pin 0 entries_after (due (timer_at (board_after (board₁ π) π.after) π.timer))
  in_order_lem = at-end.told.ordered

  pub pin-is : π.pin < 128
  pin-is = at-end.told.wired.pin-is

pub accurate : Claim
accurate π st a W w =
    let aim = aimed π st in
    let end = at-end π st in
    duty (recorded π) (period aim) (high aim) aim.first a W
    (mul-le-mul_left aim.tick (min-le_right aim.compare (aim.reload + 1))) w.from
    (λ c lo hi. end.told.past c (omega (arith, w.from)) (omega (arith, w.to, end.later)))
