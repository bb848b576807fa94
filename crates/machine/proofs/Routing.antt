-- The pads: what an act on them leaves alone of a signal and the pin that routes it, and what keeps them sound. Assumes nothing.
use mathlib.Core.Path.{◌≡◌, refl, sym, ap, ◌∙◌}
use mathlib.Core.Bool.{Bool, true, false, cond, false≢true}
use mathlib.Core.List.{List}
use Prim.Native.Nat.{ℕ, zero, suc, ◌+◌, ◌≤◌, ◌<◌}
use native.Mathlib.Omega.{arith}
use lib.Dec.{eqb, ltb}
use lib.Ieee.{Float}
use lib.ListN.{get_or, set, length, replicate, length-set, length-replicate, get_or-eq_default, get_or-map}
use lib.Seq.{get_or-set_same, get_or-set_other, map-set_same}
use borrow.Author.Tests.{eqb-true, eqb-false, eq-eqb, ne_eqb, ltb-true, ltb-false}
use Rattle.pins.specs.declared.Source.{Source}
use Rattle.pins.specs.declared.Pin.{Pin}
use Rattle.pins.specs.declared.Mcu.{Mcu}
use Rattle.pins.specs.declared.ExtDrive.{ExtDrive}
use Rattle.pins.specs.declared.ExtDrive.TheVariants as ext
use Rattle.pins.specs.Pins.{by_chip, effective_dir, driven_level, sensed_from, resolved}
use Rattle.pins.proofs.Resolved.{output}
use Rattle.gpio.specs.declared.Gpio.{Gpio}
use Rattle.gpio.specs.declared.PinCfg.{PinCfg}
use Rattle.tim.specs.declared.Timer.{Timer}
use Rattle.sig.specs.Signal.{tim_signal}
use Rattle.std.specs.Prelude.{Option, None}
use Rattle.gpio.specs.declared.Edge.{Edge}
use Rattle.gpio.specs.Gpio.{drives, signal_side, side_of, signal_of, alternate_mode, with_mcu, changed, updated, refreshed, configured, connected}
use Rattle.machine.specs.Board.{Pads, gpio_at, route_of, level_of, with_gpio, with_route, with_sig_level, no_pin, no_gpio, plain_cfg, idle_levels}
use Rattle.machine.specs.Sys.{Move, Drive, update_pin, refresh_pin, leave, take, selected, taken, select_af, sig_out, drive_channel, driver, drive_outputs, set_pin, drive_pin, unrouted, reset_pin, reset_from, reset_pins}
use Rattle.machine.specs.Sound.{Routed, SoundPads, Held, Elsewhere}
use Rattle.machine.proofs.PinLaws.{select-gpio}

-- what holds of both arms holds of either
pub either : {A : Type 0} (P : A → Type 0) (b : Bool) {x y : A} → P x → P y → P (cond b x y)
either P true p q = p
either P false p q = q

-- the same where each arm may use its test
pub by-test : {A : Type 0} (P : A → Type 0) (b : Bool) {x y : A} → (b ≡ true → P x) → (b ≡ false → P y) → P (cond b x y)
by-test P true p q = p refl
by-test P false p q = q refl

-- ---- a pin by value

sensed-mcu : (p : Pin) (vcc : Float) (e : ExtDrive) → (sensed_from p vcc e).mcu ≡ p.mcu
unfolding sensed_from
sensed-mcu p vcc ext.Low = refl
sensed-mcu p vcc ext.High = refl
sensed-mcu p vcc (ext.Analog x) = refl
sensed-mcu p vcc ext.Float =
    either (λ (q : Pin). q.mcu ≡ p.mcu) (eqb p.mcu.pullup 0) (either (λ (q : Pin). q.mcu ≡ p.mcu) (eqb p.mcu.pulldown 0) refl refl) refl

resolved-mcu : (p : Pin) (vcc : Float) → (resolved p vcc).mcu ≡ p.mcu
unfolding resolved
resolved-mcu p vcc = either (λ (q : Pin). q.mcu ≡ p.mcu) (eqb (effective_dir p) 0) (sensed-mcu p vcc p.ext) refl

-- a push-pull pin with a signal's side shows the signal's level, whatever is connected
side-shows : (g : Gpio) (vcc : Float) (l : ℕ) → g.pin.mcu ≡ signal_side g.pin.mcu g.cfg l → g.cfg.open_drain ≡ false → (resolved g.pin vcc).level ≡ l
side-shows g vcc l e od =
    let dir : effective_dir g.pin ≡ 1 = ap (λ (m : Mcu). cond (eqb m.ddoe 0) m.dir m.ddov) e ∙ rw od in
    let level : driven_level g.pin ≡ l = ap (λ (m : Mcu). cond (eqb m.ov_enable 0) m.out m.ov_value) e in
    ap (λ (q : Pin). q.level) (output g.pin vcc (λ z. omega arith)) ∙ level

-- a pin that signal s at level l is routed to
pub record Showing (g : Gpio) (s l : ℕ) : Type 0 where
  pub mode : g.cfg.mode ≡ alternate_mode
  pub selects : g.sig ≡ s
  pub side : drives s ≡ true → g.pin.mcu ≡ signal_side g.pin.mcu g.cfg l
  pub shows : drives s ≡ true → g.cfg.open_drain ≡ false → g.pin.level ≡ l

updated-showing : (i : ℕ) (g : Gpio) (vcc : Float) (s l : ℕ) → g.cfg.mode ≡ alternate_mode → g.sig ≡ s
    → (drives s ≡ true → g.pin.mcu ≡ signal_side g.pin.mcu g.cfg l) → Showing (updated i g vcc).gpio s l
unfolding updated
updated-showing i g vcc s l m e side = record {
  mode = m;
  selects = e;
  side = λ d. rw (resolved-mcu g.pin vcc) (side d);
  shows = λ d od. side-shows g vcc l (side d) od;
}

side-of : (g : Gpio) (s l : ℕ) → g.cfg.mode ≡ alternate_mode → g.sig ≡ s → drives s ≡ true → side_of g l ≡ signal_side g.pin.mcu g.cfg l
unfolding side_of
side-of g s l m e d = rw (m, e, d)

refreshed-showing : (i : ℕ) (g : Gpio) (vcc : Float) (s l : ℕ) → g.cfg.mode ≡ alternate_mode → g.sig ≡ s → Showing (refreshed i g l vcc).gpio s l
unfolding refreshed
refreshed-showing i g vcc s l m e =
    updated-showing i (with_mcu g (side_of g l)) vcc s l m e (λ d. rw (side-of g s l m e d))

signal-of : (g : Gpio) (s : ℕ) → g.cfg.mode ≡ alternate_mode → g.sig ≡ s → signal_of g ≡ s
signal-of g s m e = rw (m, e)

updated-level : (i : ℕ) (g : Gpio) (vcc : Float) (l : ℕ) → (updated i g vcc).gpio.pin.level ≡ l
    → (updated i g vcc).change ≡ changed i g.pin.level l (updated i g vcc).gpio.pin.source
unfolding updated
updated-level i g vcc l e = rw e

-- ---- the signals that pins selected

updated-sig : (i : ℕ) (g : Gpio) (vcc : Float) → (updated i g vcc).gpio.sig ≡ g.sig
unfolding updated
updated-sig i g vcc = refl

refreshed-sig : (i : ℕ) (g : Gpio) (l : ℕ) (vcc : Float) → (refreshed i g l vcc).gpio.sig ≡ g.sig
unfolding refreshed
refreshed-sig i g l vcc = updated-sig i (with_mcu g (side_of g l)) vcc

-- each pin keeps its signal
abbrev pub SameSigs : Pads → Pads → Type 0
SameSigs a b = (p : ℕ) → (gpio_at b p).sig ≡ (gpio_at a p).sig

sigs-put : (pads : Pads) (q : ℕ) (g : Gpio) → g.sig ≡ (gpio_at pads q).sig → SameSigs pads (with_gpio pads q g)
sigs-put pads q g e p =
    sym (get_or-map (λ (x : Gpio). x.sig) (set pads.gpio q g) p no_gpio)
    ∙ (ap (λ (l : List ℕ). get_or l p 0) (map-set_same (λ (x : Gpio). x.sig) pads.gpio q g no_gpio e)
    ∙ get_or-map (λ (x : Gpio). x.sig) pads.gpio p no_gpio)

sigs-refresh : (pads : Pads) (q : ℕ) → SameSigs pads (refresh_pin pads q).pads
unfolding refresh_pin
sigs-refresh pads q = sigs-put pads q _ (refreshed-sig q (gpio_at pads q) _ pads.vcc)

pub sigs-drive : (pads : Pads) (q : ℕ) (e : ExtDrive) → SameSigs pads (drive_pin pads q e).pads
unfolding drive_pin update_pin
sigs-drive pads q e p =
    let x = with_gpio pads q (connected (gpio_at pads q) e) in
    sigs-put x q _ (updated-sig q (gpio_at x q) pads.vcc) p ∙ sigs-put pads q (connected (gpio_at pads q) e) refl p

sigs-out : (pads : Pads) (s l : ℕ) → SameSigs pads (sig_out pads s l).pads
unfolding sig_out
sigs-out pads s l p =
    let P : Move → Type 0 = λ m. (gpio_at m.pads p).sig ≡ (gpio_at pads p).sig in
    either P (eqb (level_of pads s) l) refl
    (either P (eqb (route_of pads s) no_pin) refl (sigs-refresh (with_sig_level pads s l) (route_of pads s) p))

sigs-channel : (t : Timer) (cnt ch : ℕ) (pads : Pads) → SameSigs pads (drive_channel t cnt ch pads).pads
unfolding drive_channel
sigs-channel t cnt ch pads p =
    either (λ (m : Move). (gpio_at m.pads p).sig ≡ (gpio_at pads p).sig) (ltb ch t.inst.channels) (sigs-out pads (tim_signal t.inst.n ch) _ p) refl

pub sigs-outputs : (t : Timer) (cnt : ℕ) (pads : Pads) → SameSigs pads (drive_outputs t cnt pads).pads
unfolding drive_outputs
sigs-outputs t cnt pads p =
    let a = (drive_channel t cnt 0 pads).pads in
    let b = (drive_channel t cnt 1 a).pads in
    let c = (drive_channel t cnt 2 b).pads in
    either (λ (m : Drive). (gpio_at m.pads p).sig ≡ (gpio_at pads p).sig) (driver t.inst.n)
    (sigs-channel t cnt 3 c p ∙ (sigs-channel t cnt 2 b p ∙ (sigs-channel t cnt 1 a p ∙ sigs-channel t cnt 0 pads p))) refl

-- a pin that selected a signal is one of the 128: past them stands one that has none
pub selecting-pin : (pads : Pads) (p : ℕ) → length pads.gpio ≡ 128 → ((gpio_at pads p).sig ≡ 0 → ⊥) → p < 128
selecting-pin pads p l z = go (ltb p 128) refl
  where
    go : (t : Bool) → ltb p 128 ≡ t → p < 128
    go true e = ltb-true p 128 e
    go false e = absurd (z (ap (λ (g : Gpio). g.sig) (get_or-eq_default pads.gpio no_gpio (omega (arith, ltb-false p 128 e)))))

-- each pin that selected a signal routes it
abbrev Owns : Pads → Type 0
Owns pads = (p : ℕ) → ((gpio_at pads p).sig ≡ 0 → ⊥) → route_of pads (gpio_at pads p).sig ≡ p

-- as long as routes and signals stay
owns-on : (a b : Pads) → b.route ≡ a.route → SameSigs a b → Owns a → Owns b
owns-on a b r e h p z =
    ap (λ (l : List ℕ). get_or l (gpio_at b p).sig no_pin) r ∙ (ap (λ (s : ℕ). route_of a s) (e p) ∙ h p (λ y. z (e p ∙ y)))

-- ---- soundness

-- Routed, by the pin and the level
to-showing : (pads : Pads) (s p : ℕ) → Routed pads s p → Showing (gpio_at pads p) s (level_of pads s)
to-showing pads s p r = record { mode = r.mode; selects = r.selects; side = r.side; shows = r.shows }

to-routed : (pads : Pads) (s p : ℕ) (g : Gpio) (l : ℕ) → gpio_at pads p ≡ g → level_of pads s ≡ l → Showing g s l → Routed pads s p
to-routed pads s p g l eg el h = record {
  mode = rw eg h.mode;
  selects = rw eg h.selects;
  side = λ d. rw (eg, el) (h.side d);
  shows = λ d od. rw (eg, el) (h.shows d (rw eg at od));
}

-- sound but for pin q, whose side and level wait for a refresh
pub record Loose (q : ℕ) (pads : Pads) : Type 0 where
  pub gpios : length pads.gpio ≡ 128
  pub routes : length pads.route ≡ 256
  pub levels : length pads.sig_level ≡ 256
  pub table : (k : ℕ) → get_or pads.af k 0 < 256
  pub none : route_of pads 0 ≡ no_pin
  pub routed : (s p : ℕ) → s < 256 → p < 128 → (p ≡ q → ⊥) → route_of pads s ≡ p → Routed pads s p
  pub owns : Owns pads
  pub mode : (s : ℕ) → s < 256 → q < 128 → route_of pads s ≡ q → (gpio_at pads q).cfg.mode ≡ alternate_mode
  pub selects : (s : ℕ) → s < 256 → q < 128 → route_of pads s ≡ q → (gpio_at pads q).sig ≡ s

pub loose : (pads : Pads) (q : ℕ) → SoundPads pads → Loose q pads
loose pads q h = record {
  gpios = h.gpios;
  routes = h.routes;
  levels = h.levels;
  table = h.table;
  none = h.none;
  routed = λ s p a b _ e. h.routed s p a b e;
  owns = h.owns;
  mode = λ s a b e. (h.routed s q a b e).mode;
  selects = λ s a b e. (h.routed s q a b e).selects;
}

-- no pin waits
pub tight : (pads : Pads) (q : ℕ) → Loose q pads → 128 ≤ q → SoundPads pads
tight pads q h far = record {
  gpios = h.gpios;
  routes = h.routes;
  levels = h.levels;
  table = h.table;
  none = h.none;
  routed = λ s p a b e. h.routed s p a b (λ z. omega arith) e;
  owns = h.owns;
}

-- pin q replaced by one of the same signal that shows every signal routed to it
place : (pads : Pads) (q : ℕ) (g : Gpio) → Loose q pads → g.sig ≡ (gpio_at pads q).sig
    → ((s : ℕ) → s < 256 → q < 128 → route_of pads s ≡ q → Showing g s (level_of pads s)) → SoundPads (with_gpio pads q g)
place pads q g h same own = record {
  gpios = length-set pads.gpio q g ∙ h.gpios;
  routes = h.routes;
  levels = h.levels;
  table = h.table;
  none = h.none;
  routed = λ s p a b e. go s p a b e (eqb p q) refl;
  owns = owns-on pads (with_gpio pads q g) refl (sigs-put pads q g same) h.owns;
}
  where
    go : (s p : ℕ) → s < 256 → p < 128 → route_of pads s ≡ p → (t : Bool) → eqb p q ≡ t → Routed (with_gpio pads q g) s p
    go s p a b e true t =
        let z : p ≡ q = eqb-true p q t in
        let k : q < length pads.gpio = omega (arith, h.gpios) in
        to-routed (with_gpio pads q g) s p g (level_of pads s) (rw z (get_or-set_same pads.gpio q g no_gpio k)) refl (own s a (omega arith) (e ∙ z))
    go s p a b e false t =
        to-routed (with_gpio pads q g) s p (gpio_at pads p) (level_of pads s) (get_or-set_other pads.gpio q p g no_gpio (eqb-false p q t)) refl
        (to-showing pads s p (h.routed s p a b (eqb-false p q t) e))

pub sound-update : (pads : Pads) (q : ℕ) → SoundPads pads → SoundPads (update_pin pads q).pads
unfolding update_pin
sound-update pads q h =
    place pads q (updated q (gpio_at pads q) pads.vcc).gpio (loose pads q h) (updated-sig q (gpio_at pads q) pads.vcc)
    (λ s a b e. let r = h.routed s q a b e in updated-showing q (gpio_at pads q) pads.vcc s (level_of pads s) r.mode r.selects r.side)

pub sound-refresh-loose : (pads : Pads) (q : ℕ) → Loose q pads → SoundPads (refresh_pin pads q).pads
unfolding refresh_pin
sound-refresh-loose pads q h =
    place pads q (refreshed q (gpio_at pads q) (level_of pads (signal_of (gpio_at pads q))) pads.vcc).gpio h
    (refreshed-sig q (gpio_at pads q) (level_of pads (signal_of (gpio_at pads q))) pads.vcc)
    (λ s a b e.
    rw (signal-of (gpio_at pads q) s (h.mode s a b e) (h.selects s a b e))
    (refreshed-showing q (gpio_at pads q) pads.vcc s (level_of pads s) (h.mode s a b e) (h.selects s a b e)))

pub sound-refresh : (pads : Pads) (q : ℕ) → SoundPads pads → SoundPads (refresh_pin pads q).pads
sound-refresh pads q h = sound-refresh-loose pads q (loose pads q h)

pub sound-connected : (pads : Pads) (q : ℕ) (e : ExtDrive) → SoundPads pads → SoundPads (with_gpio pads q (connected (gpio_at pads q) e))
sound-connected pads q e h =
    place pads q (connected (gpio_at pads q) e) (loose pads q h) refl
    (λ s a b r. let k = h.routed s q a b r in record { mode = k.mode; selects = k.selects; side = k.side; shows = k.shows })

pub sound-drive : (pads : Pads) (q : ℕ) (e : ExtDrive) → SoundPads pads → SoundPads (drive_pin pads q e).pads
unfolding drive_pin
sound-drive pads q e h = sound-update (with_gpio pads q (connected (gpio_at pads q) e)) q (sound-connected pads q e h)

-- a signal's level waits for a refresh of its pin
loose-level : (pads : Pads) (s l : ℕ) → SoundPads pads → Loose (route_of pads s) (with_sig_level pads s l)
loose-level pads s l h = record {
  gpios = h.gpios;
  routes = h.routes;
  levels = length-set pads.sig_level s l ∙ h.levels;
  table = h.table;
  none = h.none;
  owns = h.owns;
  routed = λ t p a b ne e.
      to-routed (with_sig_level pads s l) t p (gpio_at pads p) (level_of pads t) refl
      (get_or-set_other pads.sig_level s t l 0 (λ z. ne (sym e ∙ ap (λ (x : ℕ). route_of pads x) z)))
      (to-showing pads t p (h.routed t p a b e));
  mode = λ t a b e. (h.routed t (route_of pads s) a b e).mode;
  selects = λ t a b e. (h.routed t (route_of pads s) a b e).selects;
}

pub sound-sig : (pads : Pads) (s l : ℕ) → SoundPads pads → SoundPads (sig_out pads s l).pads
unfolding sig_out
sound-sig pads s l h =
    either (λ (m : Move). SoundPads m.pads) (eqb (level_of pads s) l) h
    (by-test (λ (m : Move). SoundPads m.pads) (eqb (route_of pads s) no_pin)
    (λ e. tight (with_sig_level pads s l) (route_of pads s) (loose-level pads s l h) (omega (arith, eqb-true (route_of pads s) no_pin e)))
    (λ e. sound-refresh-loose (with_sig_level pads s l) (route_of pads s) (loose-level pads s l h)))

pub sound-channel : (t : Timer) (cnt ch : ℕ) (pads : Pads) → SoundPads pads → SoundPads (drive_channel t cnt ch pads).pads
unfolding drive_channel
sound-channel t cnt ch pads h =
    either (λ (m : Move). SoundPads m.pads) (ltb ch t.inst.channels) (sound-sig pads (tim_signal t.inst.n ch) _ h) h

pub sound-outputs : (t : Timer) (cnt : ℕ) (pads : Pads) → SoundPads pads → SoundPads (drive_outputs t cnt pads).pads
unfolding drive_outputs
sound-outputs t cnt pads h =
    either (λ (m : Drive). SoundPads m.pads) (driver t.inst.n)
    (sound-channel t cnt 3 _ (sound-channel t cnt 2 _ (sound-channel t cnt 1 _ (sound-channel t cnt 0 pads h)))) h

-- ---- a pin set

-- pin q selects the signal new, which no other pin has selected, and no signal is routed to it yet
record Freed (q new : ℕ) (pads : Pads) : Type 0 where
  gpios : length pads.gpio ≡ 128
  routes : length pads.route ≡ 256
  levels : length pads.sig_level ≡ 256
  table : (k : ℕ) → get_or pads.af k 0 < 256
  none : route_of pads 0 ≡ no_pin
  owns : (p : ℕ) → (p ≡ q → ⊥) → ((gpio_at pads p).sig ≡ 0 → ⊥) → route_of pads (gpio_at pads p).sig ≡ p
  apart : (p : ℕ) → (p ≡ q → ⊥) → ((gpio_at pads p).sig ≡ 0 → ⊥) → (gpio_at pads p).sig ≡ new → ⊥
  routed : (s p : ℕ) → s < 256 → p < 128 → (p ≡ q → ⊥) → route_of pads s ≡ p → Routed pads s p
  free : (s : ℕ) → s < 256 → q < 128 → route_of pads s ≡ q → ⊥
  mode : (new ≡ 0 → ⊥) → q < 128 → (gpio_at pads q).cfg.mode ≡ alternate_mode
  selects : q < 128 → (gpio_at pads q).sig ≡ new

-- a signal that another pin selected is taken
taken-by : (pads : Pads) (q p s : ℕ) → (s ≡ 0 → ⊥) → route_of pads s ≡ p → p < 128 → (p ≡ q → ⊥) → taken pads q s ≡ true
taken-by pads q p s z r k ne = rw (ne_eqb s 0 z, ne_eqb (route_of pads s) no_pin (λ y. omega (arith, r, y)), ne_eqb (route_of pads s) q (λ y. ne (sym r ∙ y)))

pub not_taken : (pads : Pads) (q p s : ℕ) → taken pads q s ≡ false → (s ≡ 0 → ⊥) → route_of pads s ≡ p → p < 128 → (p ≡ q → ⊥) → ⊥
not_taken pads q p s free z r k ne = false≢true (sym free ∙ taken-by pads q p s z r k ne)

module _ (pads : Pads) (q new : ℕ) (g : Gpio) (h : SoundPads pads) (m : (new ≡ 0 → ⊥) → g.cfg.mode ≡ alternate_mode) (e : g.sig ≡ new) (untaken : taken pads q new ≡ false) where
  own-place : q < 128 → gpio_at (with_gpio pads q g) q ≡ g
  own-place a = get_or-set_same pads.gpio q g no_gpio (omega (arith, h.gpios))

  others : (s p : ℕ) → s < 256 → p < 128 → (p ≡ q → ⊥) → route_of pads s ≡ p → Showing (gpio_at (with_gpio pads q g) p) s (level_of pads s)
  others s p a b ne r = rw (get_or-set_other pads.gpio q p g no_gpio ne) (to-showing pads s p (h.routed s p a b r))

  other-sig : (p : ℕ) → (p ≡ q → ⊥) → (gpio_at (with_gpio pads q g) p).sig ≡ (gpio_at pads p).sig
  other-sig p ne = ap (λ (x : Gpio). x.sig) (get_or-set_other pads.gpio q p g no_gpio ne)

  other-owns : (p : ℕ) → (p ≡ q → ⊥) → ((gpio_at (with_gpio pads q g) p).sig ≡ 0 → ⊥) → route_of pads (gpio_at (with_gpio pads q g) p).sig ≡ p
  other-owns p ne z = let k = other-sig p ne in ap (λ (s : ℕ). route_of pads s) k ∙ h.owns p (λ y. z (k ∙ y))

  other-apart : (p : ℕ) → (p ≡ q → ⊥) → ((gpio_at (with_gpio pads q g) p).sig ≡ 0 → ⊥) → (gpio_at (with_gpio pads q g) p).sig ≡ new → ⊥
  other-apart p ne z y =
      let k = other-sig p ne in
      not_taken pads q p new untaken (λ x. z (y ∙ x)) (ap (λ (s : ℕ). route_of pads s) (sym y) ∙ other-owns p ne z)
      (selecting-pin pads p h.gpios (λ x. z (k ∙ x))) ne

  keep : ((s : ℕ) → s < 256 → q < 128 → route_of pads s ≡ q → ⊥) → Freed q new (with_gpio pads q g)
  keep free = record {
    gpios = length-set pads.gpio q g ∙ h.gpios;
    routes = h.routes;
    levels = h.levels;
    table = h.table;
    none = h.none;
    owns = other-owns;
    apart = other-apart;
    routed = λ s p a b ne r. to-routed (with_gpio pads q g) s p _ (level_of pads s) refl refl (others s p a b ne r);
    free = free;
    mode = λ z a. rw (own-place a) (m z);
    selects = λ a. rw (own-place a) e;
  }

  -- the routes of the others after the route of the signal that q selected went
  uncut : (o s p : ℕ) → s < 256 → p < 128 → route_of (with_route pads o no_pin) s ≡ p → (s ≡ o → ⊥) × (route_of pads s ≡ p)
  uncut o s p a b r = go (eqb s o) refl
    where
      go : (t : Bool) → eqb s o ≡ t → (s ≡ o → ⊥) × (route_of pads s ≡ p)
      go true t =
          let z : s ≡ o = eqb-true s o t in
          let k : o < length pads.route = omega (arith, h.routes) in
          let v : route_of (with_route pads o no_pin) s ≡ no_pin = rw z (get_or-set_same pads.route o no_pin no_pin k) in
          absurd (omega (arith, v, r))
      go false t = (eqb-false s o t, sym (get_or-set_other pads.route o s no_pin no_pin (eqb-false s o t)) ∙ r)

  own-signal : (s : ℕ) → s < 256 → q < 128 → route_of pads s ≡ q → s ≡ (gpio_at pads q).sig
  own-signal s a b r = sym (h.routed s q a b r).selects

  -- the route that goes is not another pin's
  uncut-owns : (o : ℕ) → route_of pads o ≡ q → (p : ℕ) → (p ≡ q → ⊥) → ((gpio_at (with_gpio pads q g) p).sig ≡ 0 → ⊥)
      → route_of (with_route pads o no_pin) (gpio_at (with_gpio pads q g) p).sig ≡ p
  uncut-owns o r p ne z =
      let k = other-owns p ne z in
      get_or-set_other pads.route o (gpio_at (with_gpio pads q g) p).sig no_pin no_pin (λ y. ne (sym k ∙ (ap (λ (s : ℕ). route_of pads s) y ∙ r))) ∙ k

  cut : ((gpio_at pads q).sig ≡ 0 → ⊥) → route_of pads (gpio_at pads q).sig ≡ q → Freed q new (with_route (with_gpio pads q g) (gpio_at pads q).sig no_pin)
  cut nz own = record {
    gpios = length-set pads.gpio q g ∙ h.gpios;
    routes = length-set pads.route (gpio_at pads q).sig no_pin ∙ h.routes;
    levels = h.levels;
    table = h.table;
    none = get_or-set_other pads.route (gpio_at pads q).sig 0 no_pin no_pin (λ z. nz (sym z)) ∙ h.none;
    owns = uncut-owns (gpio_at pads q).sig own;
    apart = other-apart;
    routed = λ s p a b ne r.
        to-routed (with_route (with_gpio pads q g) (gpio_at pads q).sig no_pin) s p _ (level_of pads s) refl refl
        (others s p a b ne (uncut (gpio_at pads q).sig s p a b r).1);
    free = λ s a b r.
        let u = uncut (gpio_at pads q).sig s q a b r in
        u.0 (own-signal s a b u.1);
    mode = λ z a. rw (own-place a) (m z);
    selects = λ a. rw (own-place a) e;
  }

  freed : Freed q new (leave (with_gpio pads q g) q (gpio_at pads q).sig)
  freed =
      by-test (Freed q new) (eqb (gpio_at pads q).sig 0)
      (λ t. keep (λ s a b r.
      let z : s ≡ 0 = own-signal s a b r ∙ eqb-true (gpio_at pads q).sig 0 t in
      let k : route_of pads 0 ≡ q = rw z at r in
      omega (arith, k, h.none)))
      (λ t. by-test (Freed q new) (eqb (route_of pads (gpio_at pads q).sig) q)
      (λ u. cut (eqb-false (gpio_at pads q).sig 0 t) (eqb-true (route_of pads (gpio_at pads q).sig) q u))
      (λ u. keep (λ s a b r. eqb-false (route_of pads (gpio_at pads q).sig) q u (sym (ap (λ (x : ℕ). route_of pads x) (own-signal s a b r)) ∙ r))))

-- the signal taken
module _ (pads : Pads) (q new : ℕ) (small : new < 256) (h : Freed q new pads) where
  untaken : (s : ℕ) → (s ≡ new → ⊥) → route_of (with_route pads new q) s ≡ route_of pads s
  untaken s ne = get_or-set_other pads.route new s q no_pin ne

  taken-one : (s : ℕ) → s < 256 → s ≡ new → route_of (with_route pads new q) s ≡ q
  taken-one s a z = let k : new < length pads.route = omega (arith, h.routes) in rw z (get_or-set_same pads.route new q no_pin k)

  took : (s : ℕ) → s < 256 → q < 128 → route_of (with_route pads new q) s ≡ q → s ≡ new
  took s a b r = go (eqb s new) refl
    where
      go : (t : Bool) → eqb s new ≡ t → s ≡ new
      go true t = eqb-true s new t
      go false t = absurd (h.free s a b (sym (untaken s (eqb-false s new t)) ∙ r))

  left-be : (s p : ℕ) → s < 256 → (p ≡ q → ⊥) → route_of (with_route pads new q) s ≡ p → route_of pads s ≡ p
  left-be s p a ne r = go (eqb s new) refl
    where
      go : (t : Bool) → eqb s new ≡ t → route_of pads s ≡ p
      go true t = absurd (ne (sym r ∙ taken-one s a (eqb-true s new t)))
      go false t = sym (untaken s (eqb-false s new t)) ∙ r

  -- q routes what it selected, the others what they had
  owner : (p : ℕ) → ((gpio_at pads p).sig ≡ 0 → ⊥) → route_of (with_route pads new q) (gpio_at pads p).sig ≡ p
  owner p z = go (eqb p q) refl
    where
      go : (t : Bool) → eqb p q ≡ t → route_of (with_route pads new q) (gpio_at pads p).sig ≡ p
      go true t =
          let e : p ≡ q = eqb-true p q t in
          let own : (gpio_at pads p).sig ≡ new = ap (λ (x : ℕ). (gpio_at pads x).sig) e ∙ h.selects (omega (arith, e, selecting-pin pads p h.gpios z)) in
          taken-one (gpio_at pads p).sig (omega (arith, own)) own ∙ sym e
      go false t =
          let ne = eqb-false p q t in
          untaken (gpio_at pads p).sig (h.apart p ne z) ∙ h.owns p ne z

  -- if it selected nothing, it owns nothing
  ownless : new ≡ 0 → Owns pads
  ownless n p z = go (eqb p q) refl
    where
      go : (t : Bool) → eqb p q ≡ t → route_of pads (gpio_at pads p).sig ≡ p
      go true t =
          let e : p ≡ q = eqb-true p q t in
          absurd (z (ap (λ (x : ℕ). (gpio_at pads x).sig) e ∙ (h.selects (omega (arith, e, selecting-pin pads p h.gpios z)) ∙ n)))
      go false t = h.owns p (eqb-false p q t) z

  took_it : Loose q (take pads q new)
  took_it =
      by-test (Loose q) (eqb new 0)
      (λ t. record {
        gpios = h.gpios;
        routes = h.routes;
        levels = h.levels;
        table = h.table;
        none = h.none;
        routed = h.routed;
        owns = ownless (eqb-true new 0 t);
        mode = λ s a b r. absurd (h.free s a b r);
        selects = λ s a b r. absurd (h.free s a b r);
      })
      (λ t. record {
        gpios = h.gpios;
        routes = length-set pads.route new q ∙ h.routes;
        levels = h.levels;
        table = h.table;
        none = untaken 0 (λ z. eqb-false new 0 t (sym z)) ∙ h.none;
        owns = owner;
        routed = λ s p a b ne r.
            to-routed (with_route pads new q) s p (gpio_at pads p) (level_of pads s) refl refl
            (to-showing pads s p (h.routed s p a b ne (left-be s p a ne r)));
        mode = λ s a b r. h.mode (eqb-false new 0 t) b;
        selects = λ s a b r. h.selects b ∙ sym (took s a b r);
      })

selected-mode : (pads : Pads) (q : ℕ) (c : PinCfg) (f : ℕ) → (selected pads q c f ≡ 0 → ⊥) → c.mode ≡ alternate_mode
selected-mode pads q c f =
    by-test (λ (x : ℕ). (x ≡ 0 → ⊥) → c.mode ≡ alternate_mode) (eqb c.mode alternate_mode) (λ t _. eqb-true c.mode alternate_mode t) (λ t z. absurd (z refl))

selected-small : (pads : Pads) (q : ℕ) (c : PinCfg) (f : ℕ) → SoundPads pads → selected pads q c f < 256
selected-small pads q c f h = either (λ (s : ℕ). s < 256) (eqb c.mode alternate_mode) (h.table _) (omega arith)

pub loose-select : (pads : Pads) (q : ℕ) (c : PinCfg) (f : ℕ) → SoundPads pads → taken pads q (selected pads q c f) ≡ false → Loose q (select_af pads q c f)
unfolding select_af
loose-select pads q c f h free =
    took_it (leave (with_gpio pads q (configured (gpio_at pads q) c (selected pads q c f))) q (gpio_at pads q).sig) q (selected pads q c f)
    (selected-small pads q c f h)
    (freed pads q (selected pads q c f) (configured (gpio_at pads q) c (selected pads q c f)) h (selected-mode pads q c f) refl free)

pub sound-set : (pads : Pads) (q : ℕ) (c : PinCfg) (f : ℕ) → SoundPads pads → taken pads q (selected pads q c f) ≡ false → SoundPads (set_pin pads q c f).pads
unfolding set_pin
sound-set pads q c f h free = sound-refresh-loose (select_af pads q c f) q (loose-select pads q c f h free)

-- and the other pins keep their signals
pub sigs-set : (pads : Pads) (q : ℕ) (c : PinCfg) (f p : ℕ) → (p ≡ q → ⊥) → (gpio_at (set_pin pads q c f).pads p).sig ≡ (gpio_at pads p).sig
unfolding set_pin
sigs-set pads q c f p ne =
    sigs-refresh (select_af pads q c f) q p
    ∙ (ap (λ (gs : List Gpio). (get_or gs p no_gpio).sig) (select-gpio pads q c f)
    ∙ ap (λ (x : Gpio). x.sig) (get_or-set_other pads.gpio q p (configured (gpio_at pads q) c (selected pads q c f)) no_gpio ne))

-- ---- pin reset

-- pads of the right sizes, in which no signal is routed
pub record Unwired (pads : Pads) : Type 0 where
  pub gpios : length pads.gpio ≡ 128
  pub routes : length pads.route ≡ 256
  pub levels : length pads.sig_level ≡ 256
  pub table : (k : ℕ) → get_or pads.af k 0 < 256
  pub nowhere : (s : ℕ) → route_of pads s ≡ no_pin

pub all_alike : (n s a : ℕ) → get_or (replicate n a) s a ≡ a
all_alike zero s a = refl
all_alike (suc n) zero a = refl
all_alike (suc n) (suc s) a = all_alike n s a

pub idle-length : (s n : ℕ) → length (idle_levels s n) ≡ n
unfolding idle_levels
idle-length s zero = refl
idle-length s (suc n) = ap suc (idle-length (s + 1) n)

-- they are sound if no pin selected a signal
pub unwired : (pads : Pads) → Unwired pads → ((p : ℕ) → (gpio_at pads p).sig ≡ 0) → SoundPads pads
unwired pads h none = record {
  gpios = h.gpios;
  routes = h.routes;
  levels = h.levels;
  table = h.table;
  none = h.nowhere 0;
  routed = λ s p a b e. absurd (omega (arith, h.nowhere s, e));
  owns = λ p z. absurd (z (none p));
}

unwired-reset : (pads : Pads) → SoundPads pads → Unwired (unrouted pads)
unfolding unrouted
unwired-reset pads h = record {
  gpios = h.gpios;
  routes = length-replicate 256 no_pin;
  levels = idle-length 0 256;
  table = h.table;
  nowhere = λ s. all_alike 256 s no_pin;
}

unwired-pin : (pads : Pads) (i : ℕ) → Unwired pads → Unwired (reset_pin pads i).pads
unfolding reset_pin refresh_pin
unwired-pin pads i h = record {
  gpios = simp length-set h.gpios;
  routes = h.routes;
  levels = h.levels;
  table = h.table;
  nowhere = h.nowhere;
}

unwired-from : (n i : ℕ) (pads : Pads) → Unwired pads → Unwired (reset_from n i pads).pads
unfolding reset_from
unwired-from zero i pads h = h
unwired-from (suc n) i pads h = unwired-from n (i + 1) (reset_pin pads i).pads (unwired-pin pads i h)

-- a pin that selects nothing in a place
put-none : (pads : Pads) (i : ℕ) (g : Gpio) → g.sig ≡ 0 → (gpio_at (with_gpio pads i g) i).sig ≡ 0
put-none pads i g e = go (ltb i (length pads.gpio)) refl
  where
    go : (t : Bool) → ltb i (length pads.gpio) ≡ t → (gpio_at (with_gpio pads i g) i).sig ≡ 0
    go true t = ap (λ (x : Gpio). x.sig) (get_or-set_same pads.gpio i g no_gpio (ltb-true _ _ t)) ∙ e
    go false t =
        ap (λ (x : Gpio). x.sig)
        (get_or-eq_default (set pads.gpio i g) no_gpio (omega (arith, length-set pads.gpio i g, ltb-false i (length pads.gpio) t)))

reset-none : (pads : Pads) (i p : ℕ) → ((p ≡ i → ⊥) → (gpio_at pads p).sig ≡ 0) → (gpio_at (reset_pin pads i).pads p).sig ≡ 0
unfolding reset_pin
reset-none pads i p h = go (eqb p i) refl
  where
    x : Pads
    x = with_gpio pads i (configured (gpio_at pads i) plain_cfg 0)

    go : (t : Bool) → eqb p i ≡ t → (gpio_at (reset_pin pads i).pads p).sig ≡ 0
    go true t = sigs-refresh x i p ∙ rw (eqb-true p i t) (put-none pads i (configured (gpio_at pads i) plain_cfg 0) refl)
    go false t =
        let ne = eqb-false p i t in
        sigs-refresh x i p ∙ (ap (λ (y : Gpio). y.sig) (get_or-set_other pads.gpio i p (configured (gpio_at pads i) plain_cfg 0) no_gpio ne) ∙ h ne)

-- n pins from i on reset: none has a signal, if no other had
none_from : (n i : ℕ) (pads : Pads) → ((p : ℕ) → (i ≤ p → p < i + n → ⊥) → (gpio_at pads p).sig ≡ 0) → (p : ℕ) → (gpio_at (reset_from n i pads).pads p).sig ≡ 0
unfolding reset_from
none_from zero i pads h p = h p (λ a b. omega arith)
none_from (suc n) i pads h p =
    none_from n (i + 1) (reset_pin pads i).pads (λ k out. reset-none pads i k (λ ne. h k (λ a b. out (omega arith) (omega arith)))) p

-- "no routes .. and each pin an input again": no pin has a signal, if none beyond the board's pins had
pub none-selected : (pads : Pads) (pins : ℕ) → ((p : ℕ) → pins ≤ p → (gpio_at pads p).sig ≡ 0) → (p : ℕ) → (gpio_at (reset_pins pads pins).pads p).sig ≡ 0
unfolding reset_pins unrouted
none-selected pads pins h p = none_from pins 0 (unrouted pads) (λ k out. h k (beyond k out)) p
  where
    beyond : (k : ℕ) → (0 ≤ k → k < 0 + pins → ⊥) → pins ≤ k
    beyond k out = go (ltb k pins) refl
      where
        go : (t : Bool) → ltb k pins ≡ t → pins ≤ k
        go true t = absurd (out (omega arith) (omega (arith, ltb-true k pins t)))
        go false t = ltb-false k pins t

pub pins-reset : (pads : Pads) (pins : ℕ) → SoundPads pads → ((p : ℕ) → pins ≤ p → (gpio_at pads p).sig ≡ 0) → SoundPads (reset_pins pads pins).pads
unfolding reset_pins
pins-reset pads pins h beyond = unwired (reset_pins pads pins).pads (unwired-from pins 0 (unrouted pads) (unwired-reset pads h)) (none-selected pads pins beyond)

-- ---- what is held

pub held-refl : (s p : ℕ) (a : Pads) → Held s p a a
held-refl s p a = record { route = refl; level = refl; cfg = refl; sig = refl; mcu = refl; shown = refl }

pub held-trans : {s p : ℕ} {a b c : Pads} → Held s p a b → Held s p b c → Held s p a c
held-trans h k = record {
  route = k.route ∙ h.route;
  level = k.level ∙ h.level;
  cfg = k.cfg ∙ h.cfg;
  sig = k.sig ∙ h.sig;
  mcu = k.mcu ∙ h.mcu;
  shown = k.shown ∙ h.shown;
}

pub elsewhere-changed : (p q old new : ℕ) (source : Source) → (q ≡ p → ⊥) → Elsewhere p (changed q old new source)
elsewhere-changed p q old new source ne = either (Elsewhere p) (eqb new old) tt ne

pub elsewhere-same : (p : ℕ) (c : Option Edge) → c ≡ None → Elsewhere p c
elsewhere-same p c e = rw e tt

pub changed-same : (p old : ℕ) (source : Source) → changed p old old source ≡ None
changed-same p old source = rw (eq-eqb old old refl)

updated-elsewhere : (p q : ℕ) (g : Gpio) (vcc : Float) → (q ≡ p → ⊥) → Elsewhere p (updated q g vcc).change
unfolding updated
updated-elsewhere p q g vcc ne = elsewhere-changed p q g.pin.level (resolved g.pin vcc).level (resolved g.pin vcc).source ne

-- a move that leaves the signal s and its pin p alone
pub record Spares (s p : ℕ) (pads : Pads) (m : Move) : Type 0 where
  pub held : Held s p pads m.pads
  pub elsewhere : Elsewhere p m.change

-- another pin replaced, another route, another level
held-gpio : (pads : Pads) (s p q : ℕ) (g : Gpio) → (q ≡ p → ⊥) → Held s p pads (with_gpio pads q g)
held-gpio pads s p q g ne =
    let e : gpio_at (with_gpio pads q g) p ≡ gpio_at pads p = get_or-set_other pads.gpio q p g no_gpio (λ z. ne (sym z)) in
    record {
      route = refl;
      level = refl;
      cfg = ap (λ (x : Gpio). x.cfg) e;
      sig = ap (λ (x : Gpio). x.sig) e;
      mcu = ap (λ (x : Gpio). x.pin.mcu) e;
      shown = ap (λ (x : Gpio). x.pin.level) e;
    }

held-route : (pads : Pads) (s p o x : ℕ) → (s ≡ o → ⊥) → Held s p pads (with_route pads o x)
held-route pads s p o x ne = record {
  route = get_or-set_other pads.route o s x no_pin ne;
  level = refl;
  cfg = refl;
  sig = refl;
  mcu = refl;
  shown = refl;
}

held-level : (pads : Pads) (s p o x : ℕ) → (s ≡ o → ⊥) → Held s p pads (with_sig_level pads o x)
held-level pads s p o x ne = record {
  route = refl;
  level = get_or-set_other pads.sig_level o s x 0 ne;
  cfg = refl;
  sig = refl;
  mcu = refl;
  shown = refl;
}

pub held_update : (pads : Pads) (s p q : ℕ) → (q ≡ p → ⊥) → Spares s p pads (update_pin pads q)
unfolding update_pin
held_update pads s p q ne = record {
  held = held-gpio pads s p q _ ne;
  elsewhere = updated-elsewhere p q (gpio_at pads q) pads.vcc ne;
}

pub held-refresh : (pads : Pads) (s p q : ℕ) → (q ≡ p → ⊥) → Spares s p pads (refresh_pin pads q)
unfolding refresh_pin refreshed
held-refresh pads s p q ne = record {
  held = held-gpio pads s p q _ ne;
  elsewhere = updated-elsewhere p q _ pads.vcc ne;
}

-- the pin itself resolved again: a push-pull pin keeps its level
own-updated : (pads : Pads) (s p : ℕ) (g : Gpio) → length pads.gpio ≡ 128 → p < 128
    → g.cfg ≡ (gpio_at pads p).cfg → g.sig ≡ (gpio_at pads p).sig → g.pin.mcu ≡ (gpio_at pads p).pin.mcu → g.pin.level ≡ (gpio_at pads p).pin.level
    → Held s p pads (with_gpio pads p g)
own-updated pads s p g n a c f m l =
    let k : p < length pads.gpio = omega arith in
    let e : gpio_at (with_gpio pads p g) p ≡ g = get_or-set_same pads.gpio p g no_gpio k in
    record {
      route = refl;
      level = refl;
      cfg = ap (λ (x : Gpio). x.cfg) e ∙ c;
      sig = ap (λ (x : Gpio). x.sig) e ∙ f;
      mcu = ap (λ (x : Gpio). x.pin.mcu) e ∙ m;
      shown = ap (λ (x : Gpio). x.pin.level) e ∙ l;
    }

module _ (pads : Pads) (s p : ℕ) (sound : SoundPads pads) (small : s < 256) (pin : p < 128) (routes : route_of pads s ≡ p) where
  -- the pin that routes another signal is another pin
  pub other-pin : (o : ℕ) → (o ≡ s → ⊥) → route_of pads o ≡ p → ⊥
  other-pin o ne r = go (ltb o 256) refl
    where
      go : (t : Bool) → ltb o 256 ≡ t → ⊥
      go true t = ne (sym (sound.routed o p (ltb-true o 256 t) pin r).selects ∙ (sound.routed s p small pin routes).selects)
      go false t =
          let k : length pads.route ≤ o = omega (arith, sound.routes, ltb-false o 256 t) in
          let z : route_of pads o ≡ no_pin = get_or-eq_default pads.route no_pin k in
          omega (arith, z, r)

  pub held-sig : (o l : ℕ) → (o ≡ s → ⊥) → Spares s p pads (sig_out pads o l)
  unfolding sig_out
  held-sig o l ne =
      let k : Held s p pads (with_sig_level pads o l) = held-level pads s p o l (λ z. ne (sym z)) in
      let r = held-refresh (with_sig_level pads o l) s p (route_of pads o) (other-pin o ne) in
      either (Spares s p pads) (eqb (level_of pads o) l) (record { held = held-refl s p pads; elsewhere = tt })
      (either (Spares s p pads) (eqb (route_of pads o) no_pin) (record { held = k; elsewhere = tt })
      (record { held = held-trans k r.held; elsewhere = r.elsewhere }))

  module _ (driving : drives s ≡ true) (push-pull : (gpio_at pads p).cfg.open_drain ≡ false) where
    stays : (resolved (gpio_at pads p).pin pads.vcc).level ≡ (gpio_at pads p).pin.level
    stays =
        let r = sound.routed s p small pin routes in
        side-shows (gpio_at pads p) pads.vcc (level_of pads s) (r.side driving) push-pull ∙ sym (r.shows driving push-pull)

    pub held-update-own : Held s p pads (update_pin pads p).pads
    unfolding update_pin updated
    held-update-own = own-updated pads s p _ sound.gpios pin refl refl (resolved-mcu (gpio_at pads p).pin pads.vcc) stays

    pub same-update-own : (update_pin pads p).change ≡ None
    unfolding update_pin updated
    same-update-own = rw stays (changed-same p (gpio_at pads p).pin.level _)

held-leave : (pads : Pads) (s p q o : ℕ) → route_of pads s ≡ p → (q ≡ p → ⊥) → Held s p pads (leave pads q o)
held-leave pads s p q o routes ne =
    either (Held s p pads) (eqb o 0) (held-refl s p pads)
    (by-test (Held s p pads) (eqb (route_of pads o) q)
    (λ t. held-route pads s p o no_pin (λ z. ne (sym (eqb-true (route_of pads o) q t) ∙ (ap (λ (x : ℕ). route_of pads x) (sym z) ∙ routes))))
    (λ t. held-refl s p pads))

held-take : (pads : Pads) (s p q o : ℕ) → (o ≡ s → ⊥) → Held s p pads (take pads q o)
held-take pads s p q o ne = either (Held s p pads) (eqb o 0) (held-refl s p pads) (held-route pads s p o q (λ z. ne (sym z)))

held-select : (pads : Pads) (s p q : ℕ) (c : PinCfg) (f : ℕ) → route_of pads s ≡ p → (q ≡ p → ⊥) → (selected pads q c f ≡ s → ⊥) → Held s p pads (select_af pads q c f)
unfolding select_af
held-select pads s p q c f routes ne free =
    let g = configured (gpio_at pads q) c (selected pads q c f) in
    held-trans (held-trans (held-gpio pads s p q g ne) (held-leave (with_gpio pads q g) s p q (gpio_at pads q).sig routes ne))
    (held-take (leave (with_gpio pads q g) q (gpio_at pads q).sig) s p q (selected pads q c f) free)

-- another pin set, to another signal than the one that is routed
pub held-set : (pads : Pads) (s p q : ℕ) (c : PinCfg) (f : ℕ) → route_of pads s ≡ p → (q ≡ p → ⊥) → (selected pads q c f ≡ s → ⊥) → Spares s p pads (set_pin pads q c f)
unfolding set_pin
held-set pads s p q c f routes ne free =
    let r = held-refresh (select_af pads q c f) s p q ne in
    record { held = held-trans (held-select pads s p q c f routes ne free) r.held; elsewhere = r.elsewhere }

-- another pin driven from outside
pub held-drive-other : (pads : Pads) (s p q : ℕ) (e : ExtDrive) → (q ≡ p → ⊥) → Spares s p pads (drive_pin pads q e)
unfolding drive_pin
held-drive-other pads s p q e ne =
    let g = connected (gpio_at pads q) e in
    let r = held_update (with_gpio pads q g) s p q ne in
    record { held = held-trans (held-gpio pads s p q g ne) r.held; elsewhere = r.elsewhere }

-- what a push-pull pin shows after its own signal wanted a level
pub record Follows (s p l : ℕ) (pads : Pads) (m : Move) : Type 0 where
  pub route : route_of m.pads s ≡ p
  pub level : level_of m.pads s ≡ l
  pub cfg : (gpio_at m.pads p).cfg ≡ (gpio_at pads p).cfg
  pub sig : (gpio_at m.pads p).sig ≡ (gpio_at pads p).sig
  pub shown : (gpio_at m.pads p).pin.level ≡ l
  pub source : Source
  pub change : m.change ≡ changed p (gpio_at pads p).pin.level l source

-- the four changes of a timer's channels, none of them pin p's
pub record SparesAll (s p : ℕ) (pads : Pads) (m : Drive) : Type 0 where
  pub held : Held s p pads m.pads
  pub a : Elsewhere p m.changes.a
  pub b : Elsewhere p m.changes.b
  pub c : Elsewhere p m.changes.c
  pub d : Elsewhere p m.changes.d

module _ (pads : Pads) (s p : ℕ) (sound : SoundPads pads) (small : s < 256) (pin : p < 128) (routes : route_of pads s ≡ p) where
  pub held-channel : (t : Timer) (cnt ch : ℕ) → (tim_signal t.inst.n ch ≡ s → ⊥) → Spares s p pads (drive_channel t cnt ch pads)
  unfolding drive_channel
  held-channel t cnt ch ne =
      either (Spares s p pads) (ltb ch t.inst.channels) (held-sig pads s p sound small pin routes (tim_signal t.inst.n ch) _ ne)
      (record { held = held-refl s p pads; elsewhere = tt })

  module _ (driving : drives s ≡ true) (push-pull : (gpio_at pads p).cfg.open_drain ≡ false) where
    drive-own : (e : ExtDrive) → Spares s p pads (drive_pin pads p e)
    unfolding drive_pin
    drive-own e =
        let q = with_gpio pads p (connected (gpio_at pads p) e) in
        let k : Held s p pads q = own-updated pads s p (connected (gpio_at pads p) e) sound.gpios pin refl refl refl refl in
        let c = sound-connected pads p e sound in
        let o : (gpio_at q p).cfg.open_drain ≡ false = ap (λ (x : PinCfg). x.open_drain) k.cfg ∙ push-pull in
        record {
          held = held-trans k (held-update-own q s p c small pin routes driving o);
          elsewhere = elsewhere-same p _ (same-update-own q s p c small pin routes driving o);
        }

    -- any pin driven from outside
    pub held-drive : (q : ℕ) (e : ExtDrive) → Spares s p pads (drive_pin pads q e)
    held-drive q e = go (eqb q p) refl
      where
        go : (t : Bool) → eqb q p ≡ t → Spares s p pads (drive_pin pads q e)
        go true t = rw (eqb-true q p t) (drive-own e)
        go false t = held-drive-other pads s p q e (eqb-false q p t)

    own-level : (l : ℕ) → level_of (with_sig_level pads s l) s ≡ l
    own-level l = let k : s < length pads.sig_level = omega (arith, sound.levels) in get_or-set_same pads.sig_level s l 0 k

    follows-refresh : (l : ℕ) → Follows s p l pads (refresh_pin (with_sig_level pads s l) p)
    unfolding refresh_pin refreshed updated
    follows-refresh l =
        let q = with_sig_level pads s l in
        let g = gpio_at pads p in
        let r = sound.routed s p small pin routes in
        let w = level_of q (signal_of g) in
        let m = refreshed p g w pads.vcc in
        let z : w ≡ l = ap (λ (x : ℕ). level_of q x) (signal-of g s r.mode r.selects) ∙ own-level l in
        let k : p < length pads.gpio = omega (arith, sound.gpios) in
        let e : gpio_at (with_gpio q p m.gpio) p ≡ m.gpio = get_or-set_same pads.gpio p m.gpio no_gpio k in
        let h : Showing m.gpio s w = refreshed-showing p g pads.vcc s w r.mode r.selects in
        let v : m.gpio.pin.level ≡ l = h.shows driving push-pull ∙ z in
        record {
          route = routes;
          level = own-level l;
          cfg = ap (λ (x : Gpio). x.cfg) e;
          sig = ap (λ (x : Gpio). x.sig) e;
          shown = ap (λ (x : Gpio). x.pin.level) e ∙ v;
          source = m.gpio.pin.source;
          change = updated-level p (with_mcu g (side_of g w)) pads.vcc l v;
        }

    -- the pin's own signal wants a level
    pub own-sig : (l : ℕ) → Follows s p l pads (sig_out pads s l)
    unfolding sig_out
    own-sig l =
        by-test (Follows s p l pads) (eqb (level_of pads s) l)
        (λ t.
        let e : level_of pads s ≡ l = eqb-true (level_of pads s) l t in
        let v : (gpio_at pads p).pin.level ≡ l = (sound.routed s p small pin routes).shows driving push-pull ∙ e in
        record { route = routes; level = e; cfg = refl; sig = refl; shown = v; source = by_chip; change = rw (v, eq-eqb l l refl) })
        (λ t. by-test (Follows s p l pads) (eqb (route_of pads s) no_pin)
        (λ u. absurd (omega (arith, eqb-true (route_of pads s) no_pin u)))
        (λ u. rw routes (follows-refresh l)))

-- the outputs of a timer with other signals
module _ (pads : Pads) (s p : ℕ) (sound : SoundPads pads) (small : s < 256) (pin : p < 128) (routes : route_of pads s ≡ p) where
  pub held-outputs : (t : Timer) (cnt : ℕ) → ((ch : ℕ) → ch < 4 → tim_signal t.inst.n ch ≡ s → ⊥) → SparesAll s p pads (drive_outputs t cnt pads)
  unfolding drive_outputs
  held-outputs t cnt ne =
      let a = drive_channel t cnt 0 pads in
      let b = drive_channel t cnt 1 a.pads in
      let c = drive_channel t cnt 2 b.pads in
      let sa = sound-channel t cnt 0 pads sound in
      let sb = sound-channel t cnt 1 a.pads sa in
      let sc = sound-channel t cnt 2 b.pads sb in
      let ha = held-channel pads s p sound small pin routes t cnt 0 (ne 0 (omega arith)) in
      let hb = next a.pads 1 sa ha.held (omega arith) in
      let ka : Held s p pads b.pads = held-trans ha.held hb.held in
      let hc = next b.pads 2 sb ka (omega arith) in
      let kb : Held s p pads c.pads = held-trans ka hc.held in
      let hd = next c.pads 3 sc kb (omega arith) in
      either (SparesAll s p pads) (driver t.inst.n)
      (record { held = held-trans kb hd.held; a = ha.elsewhere; b = hb.elsewhere; c = hc.elsewhere; d = hd.elsewhere })
      (record { held = held-refl s p pads; a = tt; b = tt; c = tt; d = tt })
    where
      next : (x : Pads) (ch : ℕ) → SoundPads x → Held s p pads x → ch < 4 → Spares s p x (drive_channel t cnt ch x)
      next x ch h k l = held-channel x s p h small pin (k.route ∙ routes) t cnt ch (ne ch l)
