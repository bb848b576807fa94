-- The record of deliveries one after the other, of `step`, is the machine's waveform. Assumes nothing.
use Prim.Native.Nat.{ℕ, zero, suc, ◌-◌, ◌≤◌, ◌<◌}
use mathlib.Core.Path.{◌≡◌, refl, sym, ap, ◌∙◌, subst}
use mathlib.Core.Bool.{Bool, true, false, cond}
use mathlib.Core.List.{List, [], ◌∷◌, ◌++◌, append_assoc, append-nil}
use native.Mathlib.Nat.{le_trans}
use native.Mathlib.Omega.{arith}
use lib.Dec.{ltb}
use lib.ListN.{length}
use borrow.Author.Tests.{leb-true}
use Rattle.tim.specs.declared.Timer.{Timer}
use Rattle.tim.specs.declared.Inst.{Inst}
use Rattle.tim.specs.declared.Due.{Due}
use Rattle.tim.specs.declared.Due.TheVariants.{At}
use Rattle.tim.specs.Count.{counts}
use Rattle.tim.specs.Next.{next_steps, next_event}
use Rattle.stepping.proofs.Nearest.{event-runs, event-stopped}
use Rattle.clk.specs.declared.ClockTree.{ClockTree}
use Rattle.clk.specs.Clk.{timer_div}
use Rattle.book.specs.Book.{Entry}
use Rattle.book.specs.Level.{level_at}
use Rattle.machine.specs.Board.{Board, Pads, timer_at}
use Rattle.machine.specs.Deliver.{turn, Run, handled as run, stop, due_by, most_events, line_settled, rebooked, delivered, after_delivery}
use Rattle.machine.specs.Call as C
use Rattle.machine.specs.Call.{Outcome}
use Rattle.machine.specs.Step.{delivered_to, step, board_after}
use Rattle.machine.specs.Step as Step
use Rattle.machine.specs.Sound.{Sound}
use Rattle.machine.specs.Demand1.{reached}
use Rattle.machine.proofs.Routing.{by-test}
use Rattle.machine.proofs.Reach.{sound-step, sound-after}
use Rattle.accuracy.specs.Claim.{joined}
use Rattle.follows.specs.Follows.{Call, Delivered}
use Rattle.boards.specs.Boards.{div_of, Delivery, deliveries}
use Rattle.boards.proofs.Stepped.{delivered-timer}
use Rattle.boards.proofs.More.{by_call, delivered-keeps, inst-delivered}
use Rattle.waves.specs.Waves.{shown, StepWaves}
use Rattle.waves.proofs.Waved.{due, Told, all_told, s, q, fs, told, applied-same, nothing_left, rest, wave, begins}

module _ (t₀ : Timer) (div a ch pin : ℕ) (call : Call t₀ div a) (quiet : Delivered t₀ a) (four : ch < 4) (l₀ : ℕ) where
  abbrev Has : ℕ → Timer → Pads → List Entry → ℕ → Type 0
  Has k t p es x = Told t₀ div a ch pin call quiet four l₀ k t p es x

  -- what a run leaves told, with the record up to it
  pub record Ran (now : ℕ) (es : List Entry) (r : Run) : Type 0 where
    pub count : ℕ
    pub at : ℕ
    pub has : Has count r.timer r.pads (es ++ r.entries) at
    pub by-now : at ≤ now
    pub none-due : r.number ≡ 0 → Delivered r.timer now

  ended : (now k : ℕ) (t : Timer) (p : Pads) (es : List Entry) (x n : ℕ) → Has k t p es x → x ≤ now → (n ≡ 0 → Delivered t now) → Ran now es (stop t p n)
  ended now k t p es x n o le d = record {
    count = k;
    at = x;
    has = subst (λ (l : List Entry). Has k t p l x) (sym (append-nil es)) o;
    by-now = le;
    none-due = d;
  }

  abbrev Onward : ℕ → ℕ → Type 0
  Onward f now = (left k : ℕ) (t : Timer) (p : Pads) (es : List Entry) (x : ℕ) → Has k t p es x → x ≤ now → Ran now es (run f now div left t p)

  next-ran : (f now left k : ℕ) (t : Timer) (p : Pads) (es : List Entry) (x : ℕ) → Has k t p es x → counts t ≡ true → due t ≤ now → Onward f now
      → Ran now es (rest t₀ div a ch pin call quiet four l₀ f now left t p (At (due t) (next_steps t).next))
  unfolding turn
  next-ran f now left k t p es x o r le ih =
      let e = (next_steps t).next in
      let new = fs t₀ div a ch pin call quiet four l₀ k t p es x o r e refl in
      let y = told t₀ div a ch pin call quiet four l₀ k t p es x o r e refl (applied-same t₀ div a ch pin call quiet four l₀ t (due t) e) in
      let z = ih (left - length new) (suc k) (s t₀ div a ch pin call quiet four l₀ k t p es x o r e refl) (q t₀ div a ch pin call quiet four l₀ k t p es x o r e refl) (es ++ new) (due t) y le in
      record { count = z.count; at = z.at; has = rw append_assoc at z.has; by-now = z.by-now; none-due = z.none-due }

  step-ran : (f now left k : ℕ) (t : Timer) (p : Pads) (es : List Entry) (x : ℕ) → Has k t p es x → due_by (next_event t) now ≡ true → Onward f now
      → Ran now es (rest t₀ div a ch pin call quiet four l₀ f now left t p (next_event t))
  step-ran f now left k t p es x o e ih = go (counts t) refl
    where
      go : (b : Bool) → counts t ≡ b → Ran now es (rest t₀ div a ch pin call quiet four l₀ f now left t p (next_event t))
      go true r =
          let le : due t ≤ now = leb-true (due t) now (ap (λ (d : Due). due_by d now) (sym (event-runs t r)) ∙ e) in
          subst (λ (d : Due). Ran now es (rest t₀ div a ch pin call quiet four l₀ f now left t p d)) (sym (event-runs t r)) (next-ran f now left k t p es x o r le ih)
      go false r = absurd (let z : ◌≡◌ {A = ℕ} 0 1 = cc (ap (λ (d : Due). due_by d now) (event-stopped t r)) in omega arith)

  run_ran : (f now : ℕ) → Onward f now
  unfolding run
  run_ran zero now left k t p es x o le =
      ended now k t p es x (cond (due_by (next_event t) now) 8 0) o le
      (λ z. nothing_left t₀ div a ch pin call quiet four l₀ (due_by (next_event t) now) z)
  run_ran (suc f) now left k t p es x o le =
      by-test (Ran now es) (due_by (next_event t) now)
      (λ e. by-test (Ran now es) (ltb left 4) (λ l. ended now k t p es x 8 o le (λ z. absurd (omega arith))) (λ l. step-ran f now left k t p es x o e (run_ran f now)))
      (λ e. ended now k t p es x 0 o le (λ z. e))

  -- ---- of `step`

  module _ (i : ℕ) where
    -- timer i of board b, with the record up to it
    pub record Kept (b : Board) (es : List Entry) : Type 0 where
      pub count : ℕ
      pub at : ℕ
      pub has : Has count (timer_at b i) b.pads es at
      pub by_last : at ≤ b.counts.last
      pub div_is : div_of b i ≡ div

    delivered-pads : (b : Board) (cycle places : ℕ) → ((delivered_to b i cycle places).board.pads ≡ (delivered b i cycle places).pads) × ((delivered_to b i cycle places).entries ≡ (delivered b i cycle places).entries)
    unfolding delivered_to after_delivery rebooked line_settled
    delivered-pads b cycle places = (refl, refl)

    number_same : (b : Board) (cycle places : ℕ) → (delivered_to b i cycle places).number ≡ (delivered b i cycle places).number
    unfolding delivered_to
    number_same b cycle places = refl

    delivered-is : (b : Board) (cycle places : ℕ) → delivered b i cycle places ≡ run most_events cycle (div_of b i) places (timer_at b i) b.pads
    unfolding delivered
    delivered-is b cycle places = refl

    module _ (b : Board) (sound : Sound b) (l : i < b.counts.timers) (es : List Entry) (o : Kept b es) (cycle places : ℕ) (le : b.counts.last ≤ cycle) where
      ran : Ran cycle es (delivered b i cycle places)
      ran =
          subst (Ran cycle es) (sym (delivered-is b cycle places ∙ ap (λ (x : ℕ). run most_events cycle x places (timer_at b i) b.pads) o.div_is))
          (run_ran most_events cycle places o.count (timer_at b i) b.pads es o.at o.has (le_trans o.by_last le))

      abbrev c : Board
      c = (delivered_to b i cycle places).board

      kept : Kept c (es ++ (delivered_to b i cycle places).entries)
      kept =
          let k = delivered-keeps b i cycle places in
          let same = delivered-timer b sound i cycle l places in
          let inst : (timer_at c i).inst ≡ (timer_at b i).inst = ap (λ (u : Timer). u.inst) same ∙ inst-delivered b i cycle places sound in
          record {
            count = ran.count;
            at = ran.at;
            has =
                subst (λ (t : Timer). Has ran.count t c.pads (es ++ (delivered_to b i cycle places).entries) ran.at) (sym same)
                (subst (λ (p : Pads). Has ran.count (delivered b i cycle places).timer p (es ++ (delivered_to b i cycle places).entries) ran.at) (sym (delivered-pads b cycle places).0)
                (subst (λ (n : List Entry). Has ran.count (delivered b i cycle places).timer (delivered b i cycle places).pads (es ++ n) ran.at) (sym (delivered-pads b cycle places).1) ran.has));
            by_last = rw k.now ran.by-now;
            div_is = ap (λ (x : ClockTree). timer_div x (timer_at c i).inst.apb) k.tree ∙ ap (λ (x : Inst). timer_div b.clocks.tree x.apb) inst ∙ o.div_is;
          }

      shown-all : (delivered_to b i cycle places).number ≡ 0 → (y : ℕ) → a ≤ y → y ≤ cycle
          → level_at pin (es ++ (delivered_to b i cycle places).entries) l₀ y ≡ wave t₀ div a ch pin call quiet four l₀ y
      shown-all z y from le' =
          subst (λ (n : List Entry). level_at pin (es ++ n) l₀ y ≡ wave t₀ div a ch pin call quiet four l₀ y) (sym (delivered-pads b cycle places).1)
          (all_told t₀ div a ch pin call quiet four l₀ ran.count (delivered b i cycle places).timer (delivered b i cycle places).pads (es ++ (delivered b i cycle places).entries) ran.at ran.has
          cycle (ran.none-due (sym (number_same b cycle places) ∙ z)) y from le')

    module _ (cycle places : ℕ) where
      abbrev end : Board → List Delivery → Outcome
      end b ds = step (board_after b (deliveries i ds)) (C.deliver i cycle places)

      -- the record from here on has the machine's level
      abbrev Shown : Board → List Entry → List Delivery → Type 0
      Shown b es ds = (end b ds).number ≡ 0 → (y : ℕ) → a ≤ y → y ≤ cycle
          → level_at pin (es ++ (joined (Step.run b (deliveries i ds)) ++ (end b ds).entries)) l₀ y ≡ wave t₀ div a ch pin call quiet four l₀ y

      last-shown : (b : Board) → Sound b → i < b.counts.timers → (es : List Entry) → Kept b es → Shown b es []
      unfolding board_after Step.run joined
      last-shown b sound l es o =
          by_call b i cycle places (λ (x : Outcome). x.number ≡ 0 → (y : ℕ) → a ≤ y → y ≤ cycle → level_at pin (es ++ x.entries) l₀ y ≡ wave t₀ div a ch pin call quiet four l₀ y)
          (λ n ne z. absurd (ne z)) (λ le. shown-all b sound l es o cycle places le)

      all_shown : (ds : List Delivery) (b : Board) → Sound b → i < b.counts.timers → (es : List Entry) → Kept b es → Shown b es ds
      unfolding board_after Step.run joined
      all_shown [] b sound l es o = last-shown b sound l es o
      all_shown (d ∷ ds) b sound l es o =
          by_call b i d.cycle d.places
          (λ (x : Outcome). Sound x.board → (end x.board ds).number ≡ 0 → (y : ℕ) → a ≤ y → y ≤ cycle
          → level_at pin (es ++ ((x.entries ++ joined (Step.run x.board (deliveries i ds))) ++ (end x.board ds).entries)) l₀ y ≡ wave t₀ div a ch pin call quiet four l₀ y)
          (λ n ne k. all_shown ds b sound l es o)
          (λ le k z y from to.
          let kd = delivered-keeps b i d.cycle d.places in
          let c = (delivered_to b i d.cycle d.places).board in
          let new = (delivered_to b i d.cycle d.places).entries in
          let js = joined (Step.run c (deliveries i ds)) in
          subst (λ (n : List Entry). level_at pin n l₀ y ≡ wave t₀ div a ch pin call quiet four l₀ y) (regroup es new js (end c ds).entries)
          (all_shown ds c k (rw kd.few l) (es ++ new) (kept b sound l es o d.cycle d.places le) z y from to))
          (sound-step b (C.deliver i d.cycle d.places) sound)
        where
          regroup : (es new js ls : List Entry) → (es ++ new) ++ (js ++ ls) ≡ es ++ ((new ++ js) ++ ls)
          regroup es new js ls = append_assoc es new (js ++ ls) ∙ ap (λ (z : List Entry). es ++ z) (sym (append_assoc new js ls))

pub step-waves : StepWaves
step-waves cs i a ch pin ds cycle places l from o z c lo hi =
    let b = reached cs in
    all_shown (timer_at b i) (div_of b i) a ch pin o.call o.quiet o.channel (shown b.pads pin) i cycle places ds b (sound-after cs) l []
    (record { count = 0; at = a; has = begins (timer_at b i) (div_of b i) a ch pin b.pads o; by_last = from; div_is = refl }) z c lo hi
