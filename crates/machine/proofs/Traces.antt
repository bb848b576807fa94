-- The book and the pins' levels agree: after every call but set-up a pin's level is that of its last entry, and each entry is a change.
-- Assumes nothing.
use mathlib.Core.Path.{◌≡◌, refl, ap, sym, ◌∙◌}
use mathlib.Core.Bool.{Bool, true, false, cond}
use mathlib.Core.List.{List, [], ◌∷◌, ◌++◌}
use mathlib.Core.Logic.{◌⊎◌, inl, inr}
use Prim.Native.Nat.{ℕ, zero, suc, ◌+◌, ◌≤◌, ◌<◌}
use native.Mathlib.Omega.{arith}
use lib.Dec.{eqb, ltb}
use lib.ListN.{length, set, get_or, length-set}
use lib.Seq.{get_or-set_same, get_or-set_other}
use borrow.Author.Tests.{eqb-true, eqb-false}
use Rattle.tim.specs.declared.Timer.{Timer}
use Rattle.tim.specs.declared.Next.{Next}
use Rattle.tim.specs.declared.Due.{Due}
use Rattle.tim.specs.declared.Due.TheVariants.{At, Stopped}
use Rattle.tim.specs.Next.{next_event}
use Rattle.tim.specs.Change.{output}
use Rattle.sig.specs.Signal.{tim_signal}
use Rattle.gpio.specs.declared.Gpio.{Gpio}
use Rattle.gpio.specs.declared.PinCfg.{PinCfg}
use Rattle.pins.specs.declared.ExtDrive.{ExtDrive}
use Rattle.gpio.specs.Gpio.{updated, refreshed, configured, connected, signal_of, bit}
use Rattle.book.specs.Book.{Entry, entry_of, entries_of}
use Rattle.machine.specs.Board.{Pads, gpio_at, route_of, level_of, with_gpio, with_sig_level, no_pin, plain_cfg, no_gpio}
use Rattle.machine.specs.Sys.{Move, still, update_pin, refresh_pin, select_af, selected, sig_out, Drive, drive_channel, driver, drive_outputs, set_pin, drive_pin, reset_pin, reset_from}
use Rattle.machine.specs.Deliver.{Turn, turn, turn_of, applied, count_at}
use Rattle.machine.specs.Step.{changes_of}
use Rattle.machine.specs.Demand1.{edge_of, pin_level, pin_source, level_after, Edges, Traced, after_events}
use Rattle.machine.proofs.NumberLaws.{either}
use Rattle.machine.proofs.PinLaws.{update-edge, refresh-edge, select-gpio}

seen-append : (es fs : List Entry) (i l : ℕ) → level_after (es ++ fs) i l ≡ level_after fs i (level_after es i l)
unfolding level_after
seen-append [] fs i l = refl
seen-append (e ∷ es) fs i l = seen-append es fs i (cond (eqb e.pin i) e.level l)

edges-same : (es : List Entry) (f g : ℕ → ℕ) → ((i : ℕ) → f i ≡ g i) → Edges es f → Edges es g
unfolding Edges
edges-same [] f g q h = tt
edges-same (e ∷ es) f g q h = (
  sym (ap (λ (l : ℕ). eqb e.level l) (q e.pin)) ∙ h.0,
  edges-same es (λ i. cond (eqb e.pin i) e.level (f i)) (λ i. cond (eqb e.pin i) e.level (g i))
      (λ i. ap (λ (l : ℕ). cond (eqb e.pin i) e.level l) (q i)) h.1,
)

edges-append : (es fs : List Entry) (f : ℕ → ℕ) → Edges es f → Edges fs (λ i. level_after es i (f i)) → Edges (es ++ fs) f
unfolding Edges level_after
edges-append [] fs f h k = k
edges-append (e ∷ es) fs f h k = (h.0, edges-append es fs (λ i. cond (eqb e.pin i) e.level (f i)) h.1 k)

pub traced-append : (p q r : Pads) (es fs : List Entry) → Traced p q es → Traced q r fs → Traced p r (es ++ fs)
traced-append p q r es fs a b = record {
  after = λ i. b.after i ∙ ap (λ (l : ℕ). level_after fs i l) (a.after i) ∙ sym (seen-append es fs i (pin_level p i));
  edges = edges-append es fs (λ i. pin_level p i) a.edges (edges-same fs (λ i. pin_level q i) (λ i. level_after es i (pin_level p i)) a.after b.edges);
}

pub traced-none : (p q : Pads) → ((i : ℕ) → pin_level q i ≡ pin_level p i) → Traced p q []
unfolding level_after Edges
traced-none p q h = record { after = h; edges = tt }

-- ---- one pin

same-level : (p q : Pads) (i : ℕ) → pin_level q i ≡ pin_level p i → ((j : ℕ) → (j ≡ i → ⊥) → pin_level q j ≡ pin_level p j) → (j : ℕ) → pin_level q j ≡ pin_level p j
same-level p q i e f j = go (eqb j i) refl
  where
    go : (t : Bool) → eqb j i ≡ t → pin_level q j ≡ pin_level p j
    go true t = let z = eqb-true j i t in ap (λ (k : ℕ). pin_level q k) z ∙ e ∙ sym (ap (λ (k : ℕ). pin_level p k) z)
    go false t = f j (eqb-false j i t)

other-level : (p q : Pads) (i : ℕ) → ((j : ℕ) → (j ≡ i → ⊥) → pin_level q j ≡ pin_level p j) → (j : ℕ) → pin_level q j ≡ cond (eqb i j) (pin_level q i) (pin_level p j)
other-level p q i f j = go (eqb i j) refl
  where
    go : (t : Bool) → eqb i j ≡ t → pin_level q j ≡ cond t (pin_level q i) (pin_level p j)
    go true t = sym (ap (λ (k : ℕ). pin_level q k) (eqb-true i j t))
    go false t = f j (λ z. eqb-false i j t (sym z))

traced-edge : (p q : Pads) (i cycle : ℕ) → ((j : ℕ) → (j ≡ i → ⊥) → pin_level q j ≡ pin_level p j) → Traced p q (edge_of i (pin_level p i) (pin_level q i) (pin_source q i) cycle)
unfolding level_after Edges
traced-edge p q i cycle f = go (eqb (pin_level q i) (pin_level p i)) refl
  where
    go : (s : Bool) → eqb (pin_level q i) (pin_level p i) ≡ s → Traced p q (cond s [] (record { pin = i; level = pin_level q i; cycle = cycle; source = pin_source q i } ∷ []))
    go true e = traced-none p q (same-level p q i (eqb-true (pin_level q i) (pin_level p i) e) f)
    go false e = record { after = other-level p q i f; edges = (e, tt) }

-- the pins with one another, of the same level
put-level : (p q : Pads) (i : ℕ) (g : Gpio) → q.gpio ≡ set p.gpio i g → g.pin.level ≡ pin_level p i → i < length p.gpio → (j : ℕ) → pin_level q j ≡ pin_level p j
put-level p q i g e l h =
    same-level p q i
    (ap (λ (gs : List Gpio). (get_or gs i no_gpio).pin.level) e ∙ ap (λ (x : Gpio). x.pin.level) (get_or-set_same p.gpio i g no_gpio h) ∙ l)
    (λ j n. ap (λ (gs : List Gpio). (get_or gs j no_gpio).pin.level) e ∙ ap (λ (x : Gpio). x.pin.level) (get_or-set_other p.gpio i j g no_gpio n))

put_other : (p : Pads) (i : ℕ) (g : Gpio) (j : ℕ) → (j ≡ i → ⊥) → pin_level (with_gpio p i g) j ≡ pin_level p j
put_other p i g j n = ap (λ (x : Gpio). x.pin.level) (get_or-set_other p.gpio i j g no_gpio n)

-- the routes and the number of pins stay
pub record Kept (p q : Pads) : Type 0 where
  pub route : q.route ≡ p.route
  pub size : length q.gpio ≡ length p.gpio

pub kept_trans : (p q r : Pads) → Kept p q → Kept q r → Kept p r
kept_trans p q r a b = record { route = b.route ∙ a.route; size = b.size ∙ a.size }

-- a pin resolved, or a signal driven
pub record Moves (p : Pads) (m : Move) : Type 0 where
  pub traced : (cycle : ℕ) → Traced p m.pads (entry_of cycle m.change)
  pub kept : Kept p m.pads

still-moves : (p q : Pads) → q.gpio ≡ p.gpio → q.route ≡ p.route → Moves p (still q)
unfolding entry_of
still-moves p q e f = record {
  traced = λ cycle. traced-none p q (λ i. ap (λ (gs : List Gpio). (get_or gs i no_gpio).pin.level) e);
  kept = record { route = f; size = ap length e };
}

pub refresh-keeps : (p : Pads) (i : ℕ) → Kept p (refresh_pin p i).pads
unfolding refresh_pin
refresh-keeps p i = record { route = refl; size = simp length-set }

refresh-other : (p : Pads) (i j : ℕ) → (j ≡ i → ⊥) → pin_level (refresh_pin p i).pads j ≡ pin_level p j
unfolding refresh_pin
refresh-other p i j n = put_other p i (refreshed i (gpio_at p i) (level_of p (signal_of (gpio_at p i))) p.vcc).gpio j n

update_other : (p : Pads) (i j : ℕ) → (j ≡ i → ⊥) → pin_level (update_pin p i).pads j ≡ pin_level p j
unfolding update_pin
update_other p i j n = put_other p i (updated i (gpio_at p i) p.vcc).gpio j n

pub refresh-traced : (p : Pads) (i cycle : ℕ) → i < length p.gpio → Traced p (refresh_pin p i).pads (entry_of cycle (refresh_pin p i).change)
refresh-traced p i cycle h = rw (refresh-edge p i cycle h) (traced-edge p (refresh_pin p i).pads i cycle (refresh-other p i))

pub update-traced : (p : Pads) (i cycle : ℕ) → i < length p.gpio → Traced p (update_pin p i).pads (entry_of cycle (update_pin p i).change)
update-traced p i cycle h = rw (update-edge p i cycle h) (traced-edge p (update_pin p i).pads i cycle (update_other p i))

-- each signal's route is a pin of the board, or none
abbrev pub Wired : Pads → Type 0
Wired p = (s : ℕ) → (route_of p s ≡ no_pin) ⊎ (route_of p s < length p.gpio)

pub wired-kept : (p q : Pads) → Kept p q → Wired p → Wired q
wired-kept p q k w s = rw (k.route, k.size) (w s)

sig-moves : (p : Pads) (s l : ℕ) → Wired p → Moves p (sig_out p s l)
unfolding sig_out
sig-moves p s l w =
    either (Moves p) (eqb (level_of p s) l) (still-moves p p refl refl) (go (eqb (route_of p s) no_pin) refl (w s))
  where
    go : (t : Bool) → eqb (route_of p s) no_pin ≡ t → (route_of p s ≡ no_pin) ⊎ (route_of p s < length p.gpio)
        → Moves p (cond t (still (with_sig_level p s l)) (refresh_pin (with_sig_level p s l) (route_of p s)))
    go true e w = still-moves p (with_sig_level p s l) refl refl
    go false e (inl z) = absurd (eqb-false (route_of p s) no_pin e z)
    go false e (inr h) = record {
      traced = λ cycle. let t = refresh-traced (with_sig_level p s l) (route_of p s) cycle h in record { after = t.after; edges = t.edges };
      kept = let k = refresh-keeps (with_sig_level p s l) (route_of p s) in record { route = k.route; size = k.size };
    }

-- ---- a timer's channels

channel-moves : (t : Timer) (cnt ch : ℕ) (p : Pads) → Wired p → Moves p (drive_channel t cnt ch p)
unfolding drive_channel
channel-moves t cnt ch p w =
    either (Moves p) (ltb ch t.inst.channels) (sig-moves p (tim_signal t.inst.n ch) (bit (output t ch cnt)) w) (still-moves p p refl refl)

pub record Drives (p : Pads) (d : Drive) : Type 0 where
  pub traced : (cycle : ℕ) → Traced p d.pads (entries_of cycle d.changes)
  pub kept : Kept p d.pads

pub drive-moves : (t : Timer) (cnt : ℕ) (p : Pads) → Wired p → Drives p (drive_outputs t cnt p)
unfolding drive_outputs entries_of entry_of
drive-moves t cnt p w =
    let a = drive_channel t cnt 0 p in
    let b = drive_channel t cnt 1 a.pads in
    let c = drive_channel t cnt 2 b.pads in
    let d = drive_channel t cnt 3 c.pads in
    let ma = channel-moves t cnt 0 p w in
    let wa = wired-kept p a.pads ma.kept w in
    let mb = channel-moves t cnt 1 a.pads wa in
    let wb = wired-kept a.pads b.pads mb.kept wa in
    let mc = channel-moves t cnt 2 b.pads wb in
    let wc = wired-kept b.pads c.pads mc.kept wb in
    let md = channel-moves t cnt 3 c.pads wc in
    either (Drives p) (driver t.inst.n)
    (record {
      traced = λ cycle.
          traced-append p a.pads d.pads (entry_of cycle a.change) _ (ma.traced cycle)
          (traced-append a.pads b.pads d.pads (entry_of cycle b.change) _ (mb.traced cycle)
          (traced-append b.pads c.pads d.pads (entry_of cycle c.change) (entry_of cycle d.change) (mc.traced cycle) (md.traced cycle)));
      kept =
          kept_trans p a.pads d.pads ma.kept
          (kept_trans a.pads b.pads d.pads mb.kept (kept_trans b.pads c.pads d.pads mc.kept md.kept));
    })
    (record { traced = λ cycle. traced-none p p (λ i. refl); kept = record { route = refl; size = refl } })

-- ---- events

pub record Turns (p : Pads) (u : Turn) : Type 0 where
  pub traced : Traced p u.pads u.entries
  pub kept : Kept p u.pads

turn-turns : (t : Timer) (p : Pads) (e : Next) (at div : ℕ) → Wired p → Turns p (turn t p e at div)
unfolding turn
turn-turns t p e at div w =
    let s = applied t e at div in
    let d = drive-moves s (count_at s e) p w in
    record { traced = d.traced at; kept = d.kept }

turn_of-turns : (t : Timer) (p : Pads) (d : Due) (div : ℕ) → Wired p → Turns p (turn_of t p d div)
turn_of-turns t p (At at e) div w = turn-turns t p e at div w
turn_of-turns t p Stopped div w = record { traced = traced-none p p (λ i. refl); kept = record { route = refl; size = refl } }

pub turned-turns : (n div : ℕ) (t : Timer) (p : Pads) → Wired p → Turns p (after_events n div t p)
unfolding after_events
turned-turns zero div t p w = record { traced = traced-none p p (λ i. refl); kept = record { route = refl; size = refl } }
turned-turns (suc n) div t p w =
    let s = turn_of t p (next_event t) div in
    let h = turn_of-turns t p (next_event t) div w in
    let k = turned-turns n div s.timer s.pads (wired-kept p s.pads h.kept w) in
    let r = after_events n div s.timer s.pads in
    record {
      traced = traced-append p s.pads r.pads s.entries r.entries h.traced k.traced;
      kept = kept_trans p s.pads r.pads h.kept k.kept;
    }

-- ---- pin calls

pub set-traced : (p : Pads) (i : ℕ) (c : PinCfg) (f cycle : ℕ) → i < length p.gpio → Traced p (set_pin p i c f).pads (entry_of cycle (set_pin p i c f).change)
unfolding set_pin
set-traced p i c f cycle h =
    let q = select_af p i c f in
    traced-append p q (refresh_pin q i).pads [] (entry_of cycle (refresh_pin q i).change)
    (traced-none p q (put-level p q i (configured (gpio_at p i) c (selected p i c f)) (select-gpio p i c f) refl h))
    (refresh-traced q i cycle (rw (select-gpio p i c f, length-set) h))

pub drive-traced : (p : Pads) (i : ℕ) (e : ExtDrive) (cycle : ℕ) → i < length p.gpio → Traced p (drive_pin p i e).pads (entry_of cycle (drive_pin p i e).change)
unfolding drive_pin
drive-traced p i e cycle h =
    let q = with_gpio p i (connected (gpio_at p i) e) in
    traced-append p q (update_pin q i).pads [] (entry_of cycle (update_pin q i).change)
    (traced-none p q (put-level p q i (connected (gpio_at p i) e) refl refl h))
    (update-traced q i cycle (rw length-set h))

reset-traced : (p : Pads) (i cycle : ℕ) → i < length p.gpio → Traced p (reset_pin p i).pads (entry_of cycle (reset_pin p i).change)
unfolding reset_pin
reset-traced p i cycle h =
    let q = with_gpio p i (configured (gpio_at p i) plain_cfg 0) in
    traced-append p q (refresh_pin q i).pads [] (entry_of cycle (refresh_pin q i).change)
    (traced-none p q (put-level p q i (configured (gpio_at p i) plain_cfg 0) refl refl h))
    (refresh-traced q i cycle (rw length-set h))

reset-size : (p : Pads) (i : ℕ) → length (reset_pin p i).pads.gpio ≡ length p.gpio
unfolding reset_pin
reset-size p i = (refresh-keeps (with_gpio p i (configured (gpio_at p i) plain_cfg 0)) i).size ∙ simp length-set

pub resets-traced : (n i cycle : ℕ) (p : Pads) → i + n ≤ length p.gpio → Traced p (reset_from n i p).pads (changes_of cycle (reset_from n i p).changes)
unfolding reset_from changes_of
resets-traced zero i cycle p h = traced-none p p (λ j. refl)
resets-traced (suc n) i cycle p h =
    let q = (reset_pin p i).pads in
    let z = reset-size p i in
    traced-append p q (reset_from n (i + 1) q).pads (entry_of cycle (reset_pin p i).change) (changes_of cycle (reset_from n (i + 1) q).changes)
    (reset-traced p i cycle (omega arith))
    (resets-traced n (i + 1) cycle q (omega arith))
