-- The boards that calls lead to are sound, and what a call leaves alone of a pilot: a timer, its channel's signal and the pin that routes it.
-- Assumes nothing.
use Rattle.std.specs.Option.{is_some, unwrap_or}
use Rattle.std.proofs.Common.{None}
use mathlib.Core.Path.{◌≡◌, refl, sym, ap, ◌∙◌, subst}
use mathlib.Core.Bool.{Bool, true, false, cond, not, ◌&&◌, ◌||◌, and-eq-true_iff}
use mathlib.Core.List.{List, [], ◌∷◌, ◌++◌, map}
use Prim.Native.Nat.{ℕ, zero, suc, ◌+◌, ◌-◌, ◌≤◌, ◌<◌}
use native.Mathlib.Nat.{not-suc-le-zero, le_of_suc-le-suc}
use native.Mathlib.Omega.{arith}
use lib.Dec.{eqb, ltb, leb, lit<}
use lib.Ieee.{Float}
use lib.ListN.{get_or, set, replicate, length, length-set, length-append, length-map, length-replicate, get_or-map}
use lib.Seq.{get_or-set_same, get_or-set_other, map-set_same}
use borrow.Author.Tests.{eqb-true, eqb-false, ltb-true, leb-true, not-true, ne_eqb}
use Rattle.rm0440.specs.Bits.{field, is_set, UDIS, URS, CEN, ARPE}
use Rattle.rm0440.specs.Output as Out
use Rattle.tim.specs.declared.Timer.{Timer}
use Rattle.tim.specs.declared.Inst.{Inst}
use Rattle.regs.specs.declared.Written.{Written}
use Rattle.tim.specs.declared.Due.{Due}
use Rattle.tim.specs.declared.Due.TheVariants.{At, Stopped}
use Rattle.tim.specs.declared.Next.{Next}
use Rattle.tim.specs.declared.Next.TheVariants.{Update, Compare}
use Rattle.tim.specs.Timer.{is_output, ccmr_byte, with_cr1}
use Rattle.tim.specs.Count.{synced}
use Rattle.tim.specs.Next.{next_event}
use Rattle.tim.specs.Change as C
use Rattle.regs.specs.Regs as R
use Rattle.clk.specs.declared.ClockTree.{ClockTree}
use Rattle.clk.specs.Clk.{good, differing}
use Rattle.pins.specs.declared.ExtDrive.{ExtDrive}
use Rattle.nvic.specs.Nvic.{Nvic}
use Rattle.gpio.specs.declared.PinCfg.{PinCfg}
use Rattle.sig.specs.Signal.{tim_signal}
use Rattle.sig.proofs.Laws.{tim-injective, tim-no-input}
use Rattle.std.specs.Prelude.{Option, Some, None}
use Rattle.gpio.specs.declared.Edge.{Edge}
use Rattle.gpio.specs.declared.Gpio.{Gpio}
use Rattle.gpio.specs.Gpio.{drives, signal_of, alternate_mode}
use Rattle.book.specs.Book.{Entry, entry_of, entries_of}
use Rattle.machine.specs.Board.{Board, Pads, Clocks, no_inst, no_timer, no_pin, blank_gpio, no_gpio, timer_at, gpio_at, route_of, with_timer, with_pads, with_nvic, with_booking, with_clocks, with_last, filled, fresh_board, first_board, one}
use Rattle.machine.specs.Sys as Sys
use Rattle.machine.specs.Deliver.{Run, Turn, divider_of, line_settled, rebooked, applied, count_at, turn, turn_of, stop, due_by, most_events, delivered, after_delivery}
use Rattle.machine.specs.Deliver as D
use Rattle.machine.specs.Call.{Setup, pin_setting, outside_drive, pin_reset, writing, resetting, delivery, Call, set_up, clock_tree, enable, clear_pending, ask, lend, Outcome, is_refusal}
use Rattle.machine.specs.Step.{fresh, inst_good, insts_good, entries_below, within_limits, clock_on, register, told, asked_number, written, followed, timer_reset, delivered_to, timer_retimed, all_retimed, tree_set, cfg_of, moved, step, board_after}
use Rattle.machine.specs.Refusals.{refusals, applies}
use Rattle.machine.specs.Sound.{SoundPads, Sound, Held, Elsewhere}
use Rattle.machine.specs.Sockets.{Sockets, OneSocket}
use Rattle.machine.proofs.NumberLaws.{Verdict, refuses, passes, answered, step_given, performed, performed-served, no_both, here, set-up-within, socket-free}
use Rattle.machine.proofs.Routing.{either, SameSigs, sigs-outputs, sigs-drive, sigs-set, not_taken, unwired, all_alike, idle-length, none-selected, sound-outputs, sound-set, sound-drive, pins-reset, by-test, SparesAll, held-refl, held-trans, held-set, held-drive, held-outputs}

-- ---- a timer keeps its place in the chip

inst-synced : (t : Timer) (now : ℕ) → (synced t now).inst ≡ t.inst
unfolding synced
inst-synced t now = either (λ (u : Timer). u.inst ≡ t.inst) t.count.running refl refl

inst-reloaded : (t : Timer) → (C.reloaded t).inst ≡ t.inst
unfolding C.reloaded
inst-reloaded t = either (λ (u : Timer). u.inst ≡ t.inst) (UDIS t.regs.cr1) refl refl

inst-updated : (t : Timer) (at div : ℕ) → (C.updated t at div).inst ≡ t.inst
unfolding C.updated C.ended C.recomputed_after_update C.restarted
inst-updated t at div = inst-reloaded t

inst-compared : (t : Timer) (ch : ℕ) → (C.compared t ch).inst ≡ t.inst
unfolding C.compared C.matched
inst-compared t ch = refl

inst-generated : (t : Timer) (now div : ℕ) → (C.generated t now div).inst ≡ t.inst
unfolding C.generated C.recomputed_after_update C.restarted
inst-generated t now div =
    either (λ (u : Timer). u.inst ≡ t.inst) (URS t.regs.cr1) refl (either (λ (u : Timer). u.inst ≡ t.inst) (UDIS t.regs.cr1) refl refl)

pub inst-retimed : (t : Timer) (now div : ℕ) → (C.retimed t now div).inst ≡ t.inst
unfolding C.retimed
inst-retimed t now div = inst-synced t now

pub inst-reset : (i : Inst) (div : ℕ) → (C.reset_state i div).inst ≡ i
unfolding C.reset_state
inst-reset i div = refl

inst-turned : (old : ℕ) (t : Timer) → (R.turned old t).inst ≡ t.inst
unfolding R.turned C.recomputed
inst-turned old t = either (λ (u : Timer). u.inst ≡ t.inst) (eqb (field 4 1 old) (field 4 1 t.regs.cr1)) refl refl

inst-started : (t : Timer) (now div : ℕ) → (C.started t now div).inst ≡ t.inst
unfolding C.started C.recomputed
inst-started t now div = refl

inst-stopped : (t : Timer) (now : ℕ) → (C.stopped t now).inst ≡ t.inst
unfolding C.stopped
inst-stopped t now = inst-synced t now

inst-matched : (t : Timer) (ch : ℕ) → (C.matched t ch).inst ≡ t.inst
unfolding C.matched
inst-matched t ch = refl

inst-cr1 : (t : Timer) (v now div : ℕ) → (R.cr1_written t v now div).inst ≡ t.inst
unfolding R.cr1_written
inst-cr1 t v now div =
    let s = with_cr1 (synced t now) (R.kept_cr1 t v) in
    let e : s.inst ≡ t.inst = inst-synced t now in
    let turned : (R.turned t.regs.cr1 s).inst ≡ t.inst = inst-turned t.regs.cr1 s ∙ e in
    either (λ (u : Timer). u.inst ≡ t.inst) (CEN s.regs.cr1)
    (either (λ (u : Timer). u.inst ≡ t.inst) (CEN t.regs.cr1) turned (inst-started s now div ∙ e))
    (either (λ (u : Timer). u.inst ≡ t.inst) (CEN t.regs.cr1) (inst-stopped s now ∙ e) turned)

inst-egr-match : (v ch : ℕ) (t : Timer) → (R.egr_match v ch t).inst ≡ t.inst
inst-egr-match v ch t =
    either (λ (u : Timer). u.inst ≡ t.inst) (is_set (ch + 1) v) (either (λ (u : Timer). u.inst ≡ t.inst) (is_output t ch) (inst-matched t ch) refl) refl

inst-egr-update : (t : Timer) (v now div : ℕ) → (R.egr_update t v now div).inst ≡ t.inst
unfolding R.egr_update
inst-egr-update t v now div =
    either (λ (u : Timer). u.inst ≡ t.inst) (is_set 0 v) (inst-generated (synced t now) now div ∙ inst-synced t now) (inst-synced t now)

inst-egr : (t : Timer) (v now div : ℕ) → (R.egr_written t v now div).inst ≡ t.inst
unfolding R.egr_written
inst-egr t v now div =
    let a = R.egr_update t v now div in
    let b = R.egr_match v 0 a in
    let c = R.egr_match v 1 b in
    let d = R.egr_match v 2 c in
    inst-egr-match v 3 d ∙ (inst-egr-match v 2 c ∙ (inst-egr-match v 1 b ∙ (inst-egr-match v 0 a ∙ inst-egr-update t v now div)))

inst-cnt : (t : Timer) (v now : ℕ) → (R.cnt_written t v now).inst ≡ t.inst
unfolding R.cnt_written C.recomputed
inst-cnt t v now = inst-synced t now

-- of a register written
abbrev Keeps : Timer → Written → Type 0
Keeps t w = w.timer.inst ≡ t.inst

inst-arr : (t : Timer) (v now : ℕ) → Keeps t (R.arr_written t v now)
unfolding R.arr_written C.recomputed
inst-arr t v now = either (Keeps t) (ARPE t.regs.cr1) (inst-synced t now) (inst-synced t now)

inst-ccr : (t : Timer) (ch v now : ℕ) → Keeps t (R.ccr_written t ch v now)
unfolding R.ccr_written
inst-ccr t ch v now = either (Keeps t) (Out.OCxPE (ccmr_byte t ch)) (inst-synced t now) (inst-synced t now)

inst-ccmr : (t : Timer) (i v now : ℕ) → Keeps t (R.ccmr_written t i v now)
unfolding R.ccmr_written
inst-ccmr t i v now = inst-synced t now

inst-ccer : (t : Timer) (v now : ℕ) → Keeps t (R.ccer_written t v now)
unfolding R.ccer_written
inst-ccer t v now = refl

inst-channel : (t : Timer) (off v now : ℕ) → Keeps t (R.channel_written t off v now)
unfolding R.channel_written
inst-channel t off v now =
    either (Keeps t) (eqb t.inst.channels 0) refl
    (either (Keeps t) (eqb off 0x18) (inst-ccmr t 0 _ now)
    (either (Keeps t) (eqb off 0x1c) (inst-ccmr t 1 _ now)
    (either (Keeps t) (eqb off 0x20) (inst-ccer t _ now)
    (either (Keeps t) (R.is_ccr off) (inst-ccr t (R.ccr_channel off) _ now) refl))))

inst-register : (t : Timer) (off v now div : ℕ) → Keeps t (R.reg_written t off v now div)
unfolding R.reg_written
inst-register t off v now div =
    either (Keeps t) (eqb off 0x00) (inst-cr1 t v now div)
    (either (Keeps t) (eqb off 0x04) refl
    (either (Keeps t) (eqb off 0x08) refl
    (either (Keeps t) (eqb off 0x0c) refl
    (either (Keeps t) (eqb off 0x10) refl
    (either (Keeps t) (eqb off 0x14) (inst-egr t v now div)
    (either (Keeps t) (eqb off 0x24) (inst-cnt t _ now)
    (either (Keeps t) (eqb off 0x28) refl
    (either (Keeps t) (eqb off 0x2c) (inst-arr t _ now) (inst-channel t off v now)))))))))

pub inst-written : (b : Board) (t : Timer) (offset size value cycle : ℕ) → (written b t offset size value cycle).timer.inst ≡ t.inst
unfolding written
inst-written b t offset size value cycle = inst-register t (register offset) _ cycle (divider_of b t)

pub inst-applied : (t : Timer) (e : Next) (at div : ℕ) → (applied t e at div).inst ≡ t.inst
inst-applied t Update at div = inst-updated t at div
inst-applied t (Compare ch) at div = inst-compared t ch

-- ---- a board with one thing another

-- no pin from n on selected a signal
abbrev Beyond : ℕ → Pads → Type 0
Beyond n p = (i : ℕ) → n ≤ i → (gpio_at p i).sig ≡ 0

beyond-on : (n : ℕ) (p q : Pads) → SameSigs p q → Beyond n p → Beyond n q
beyond-on n p q e h i l = e i ∙ h i l

sound-pads : (b : Board) (p : Pads) → Sound b → Beyond b.counts.pins p → SoundPads p → Sound (with_pads b p)
sound-pads b p h far k = record {
  timers = h.timers;
  few-timers = h.few-timers;
  few-pins = h.few-pins;
  distinct = h.distinct;
  channels = h.channels;
  beyond = far;
  pads = k;
}

sound-nvic : (b : Board) (n : Nvic) → Sound b → Sound (with_nvic b n)
sound-nvic b n h = record { timers = h.timers; few-timers = h.few-timers; few-pins = h.few-pins; distinct = h.distinct; channels = h.channels; beyond = h.beyond; pads = h.pads }

sound-booking : (b : Board) (m : List ℕ) → Sound b → Sound (with_booking b m)
sound-booking b m h = record { timers = h.timers; few-timers = h.few-timers; few-pins = h.few-pins; distinct = h.distinct; channels = h.channels; beyond = h.beyond; pads = h.pads }

sound-clocks : (b : Board) (c : Clocks) → Sound b → Sound (with_clocks b c)
sound-clocks b c h = record { timers = h.timers; few-timers = h.few-timers; few-pins = h.few-pins; distinct = h.distinct; channels = h.channels; beyond = h.beyond; pads = h.pads }

sound-last : (b : Board) (cycle : ℕ) → Sound b → Sound (with_last b cycle)
sound-last b cycle h = record { timers = h.timers; few-timers = h.few-timers; few-pins = h.few-pins; distinct = h.distinct; channels = h.channels; beyond = h.beyond; pads = h.pads }

same-insts : (b : Board) (i : ℕ) (t : Timer) → t.inst ≡ (timer_at b i).inst → (j : ℕ) → (timer_at (with_timer b i t) j).inst ≡ (timer_at b j).inst
same-insts b i t e j =
    sym (get_or-map (λ (u : Timer). u.inst) (set b.timers i t) j no_timer)
    ∙ (ap (λ (l : List Inst). get_or l j no_inst) (map-set_same (λ (u : Timer). u.inst) b.timers i t no_timer e)
    ∙ get_or-map (λ (u : Timer). u.inst) b.timers j no_timer)

sound-timer : (b : Board) (i : ℕ) (t : Timer) → t.inst ≡ (timer_at b i).inst → Sound b → Sound (with_timer b i t)
sound-timer b i t e h = record {
  timers = length-set b.timers i t ∙ h.timers;
  few-timers = h.few-timers;
  few-pins = h.few-pins;
  distinct = λ j k a c z.
      h.distinct j k a c (sym (ap (λ (x : Inst). x.n) (same-insts b i t e j)) ∙ (z ∙ ap (λ (x : Inst). x.n) (same-insts b i t e k)));
  channels = λ j a. omega (arith, ap (λ (x : Inst). x.channels) (same-insts b i t e j), h.channels j a);
  beyond = h.beyond;
  pads = h.pads;
}

-- ---- set-up

and_left : (a b : Bool) → (a && b) ≡ true → a ≡ true
and_left a b h = ((and-eq-true_iff a b).0 h).0

and_right : (a b : Bool) → (a && b) ≡ true → b ≡ true
and_right a b h = ((and-eq-true_iff a b).0 h).1

fresh-apart : (n : ℕ) (is : List Inst) → fresh n is ≡ true → (j : ℕ) → j < length is → (get_or is j no_inst).n ≡ n → ⊥
unfolding fresh
fresh-apart n [] h j a e = not-suc-le-zero a
fresh-apart n (x ∷ xs) h zero a e = eqb-false x.n n (not-true (eqb x.n n) (and_left (not (eqb x.n n)) (fresh n xs) h)) e
fresh-apart n (x ∷ xs) h (suc j) a e = fresh-apart n xs (and_right (not (eqb x.n n)) (fresh n xs) h) j (le_of_suc-le-suc a) e

good-fresh : (x : Inst) (xs : List Inst) → insts_good (x ∷ xs) ≡ true → fresh x.n xs ≡ true
unfolding insts_good
good-fresh x xs h = and_right (inst_good x) (fresh x.n xs) (and_left (inst_good x && fresh x.n xs) (insts_good xs) h)

good-rest : (x : Inst) (xs : List Inst) → insts_good (x ∷ xs) ≡ true → insts_good xs ≡ true
unfolding insts_good
good-rest x xs h = and_right (inst_good x && fresh x.n xs) (insts_good xs) h

insts-distinct : (is : List Inst) → insts_good is ≡ true → (i j : ℕ) → i < length is → j < length is → (get_or is i no_inst).n ≡ (get_or is j no_inst).n → i ≡ j
insts-distinct [] h i j a b e = absurd (not-suc-le-zero a)
insts-distinct (x ∷ xs) h zero zero a b e = refl
insts-distinct (x ∷ xs) h zero (suc j) a b e = absurd (fresh-apart x.n xs (good-fresh x xs h) j (le_of_suc-le-suc b) (sym e))
insts-distinct (x ∷ xs) h (suc i) zero a b e = absurd (fresh-apart x.n xs (good-fresh x xs h) i (le_of_suc-le-suc a) e)
insts-distinct (x ∷ xs) h (suc i) (suc j) a b e = ap suc (insts-distinct xs (good-rest x xs h) i j (le_of_suc-le-suc a) (le_of_suc-le-suc b) e)

-- "0 to 4 channels"
good-channels : (x : Inst) → inst_good x ≡ true → x.channels ≤ 4
good-channels x h =
    let a : Bool = leb 1 x.n && leb x.n 24 && (eqb x.width 16 || eqb x.width 32) in
    let d : Bool = leb x.channels 4 in
    let e : Bool = leb x.en_reg 8 in
    let f : Bool = leb x.en_bit 31 in
    leb-true x.channels 4 (and_right a d (and_left (a && d) e (and_left (a && d && e) f h)))

insts-channels : (is : List Inst) → insts_good is ≡ true → (i : ℕ) → i < length is → (get_or is i no_inst).channels ≤ 4
unfolding insts_good
insts-channels [] h i a = absurd (not-suc-le-zero a)
insts-channels (x ∷ xs) h zero a = good-channels x (and_left (inst_good x) (fresh x.n xs) (and_left (inst_good x && fresh x.n xs) (insts_good xs) h))
insts-channels (x ∷ xs) h (suc i) a = insts-channels xs (good-rest x xs h) i (le_of_suc-le-suc a)

abbrev started : List Inst → List Timer
started is = map (λ (i : Inst). C.reset_state i 1) is

fresh-inst : (is : List Inst) (rest : List Timer) (i : ℕ) → i < length is → (get_or (started is ++ rest) i no_timer).inst ≡ get_or is i no_inst
fresh-inst [] rest i a = absurd (not-suc-le-zero a)
fresh-inst (x ∷ xs) rest zero a = inst-reset x 1
fresh-inst (x ∷ xs) rest (suc i) a = fresh-inst xs rest i (le_of_suc-le-suc a)

filled-length : {A : Type 0} (n : ℕ) (x : A) (xs : List A) → length xs ≤ n → length (filled n x xs) ≡ n
filled-length n x xs h = simp (length-append, length-replicate) (omega arith)

-- "signal table of .. entries below 256", filled up with 0
table-small : (table : List ℕ) (n k : ℕ) → entries_below 256 table ≡ true → get_or (table ++ replicate n 0) k 0 < 256
unfolding entries_below
table-small [] n k h = rw (all_alike n k 0) (lit< tt)
table-small (x ∷ xs) n zero h = ltb-true x 256 (and_left (ltb x 256) (entries_below 256 xs) h)
table-small (x ∷ xs) n (suc k) h = table-small xs n k (and_right (ltb x 256) (entries_below 256 xs) h)

-- each of the 128 pins is blank, and past them stands one without a signal
blank-sig : (n i : ℕ) → (get_or (replicate n blank_gpio) i no_gpio).sig ≡ 0
blank-sig zero i = refl
blank-sig (suc n) zero = refl
blank-sig (suc n) (suc i) = blank-sig n i

pub sound-fresh : (hz vcc : Float) (pins lines : ℕ) (is : List Inst) (table : List ℕ) → length is ≤ 8 → pins ≤ 128 → insts_good is ≡ true → entries_below 256 table ≡ true
    → Sound (fresh_board hz vcc pins lines is table)
unfolding fresh_board
sound-fresh hz vcc pins lines is table few small good below = record {
  timers = filled-length 8 no_timer (started is) (rw (length-map is (λ (i : Inst). C.reset_state i 1)) few);
  few-timers = few;
  few-pins = small;
  distinct = λ i j a b e.
      insts-distinct is good i j a b
      (sym (ap (λ (x : Inst). x.n) (fresh-inst is _ i a)) ∙ (e ∙ ap (λ (x : Inst). x.n) (fresh-inst is _ j b)));
  channels = λ i a. subst (λ (x : Inst). x.channels ≤ 4) (sym (fresh-inst is _ i a)) (insts-channels is good i a);
  beyond = λ i l. blank-sig 128 i;
  pads = unwired _
      (record {
        gpios = length-replicate 128 blank_gpio;
        routes = length-replicate 256 no_pin;
        levels = idle-length 0 256;
        table = λ k. table-small table (2048 - length table) k below;
        nowhere = λ s. all_alike 256 s no_pin;
      })
      (λ i. blank-sig 128 i);
}

pub sound-first : Sound first_board
unfolding insts_good entries_below
sound-first = sound-fresh one one 0 0 [] [] (omega arith) (omega arith) refl refl

-- of nine tests that hold, the second, the fourth, the sixth and the last
picked : (a b c d e f g h i : Bool) → (a && b && c && d && e && f && g && h && i) ≡ true → (b ≡ true) × (d ≡ true) × (f ≡ true) × (i ≡ true)
picked a b c d e f g h i z =
    let u : (a && b && c && d && e && f) ≡ true = and_left _ g (and_left _ h (and_left (a && b && c && d && e && f && g && h) i z)) in
    let v : (a && b && c && d) ≡ true = and_left _ e (and_left (a && b && c && d && e) f u) in
    (and_right a b (and_left _ c (and_left (a && b && c) d v)), and_right (a && b && c) d v, and_right (a && b && c && d && e) f u, and_right (a && b && c && d && e && f && g && h) i z)

-- what set-up's limits say
pub record Limits (s : Setup) : Type 0 where
  pub few : length s.timers ≤ 8
  pub small : s.pins ≤ 128
  pub apart : insts_good s.timers ≡ true
  pub below : entries_below 256 s.table ≡ true

limits : (s : Setup) → within_limits s ≡ true → Limits s
unfolding within_limits
limits s h =
    let p = picked (leb 1 (length s.timers)) (leb (length s.timers) 8) (leb 1 s.pins) (leb s.pins 128) (leb s.lines 256) (insts_good s.timers) _ _ _ h in
    record { few = leb-true _ 8 p.0; small = leb-true _ 128 p.1; apart = p.2; below = p.3 }

-- ---- each call

abbrev Good : Outcome → Type 0
Good o = Sound o.board

sound-followed : (b : Board) (i cycle : ℕ) (w : Written) → w.timer.inst ≡ (timer_at b i).inst → Sound b → Good (followed b i cycle w)
unfolding followed line_settled rebooked
sound-followed b i cycle w e h =
    let t = w.timer in
    let d = Sys.drive_outputs t (unwrap_or w.drive 0) b.pads in
    let p = cond (is_some w.drive) d.pads b.pads in
    let c = with_pads (with_timer b i t) p in
    let hp : SoundPads p = either SoundPads (is_some w.drive) (sound-outputs t (unwrap_or w.drive 0) b.pads h.pads) h.pads in
    let far : Beyond b.counts.pins p =
    either (Beyond b.counts.pins) (is_some w.drive) (beyond-on b.counts.pins b.pads d.pads (sigs-outputs t (unwrap_or w.drive 0) b.pads) h.beyond) h.beyond in
    let hc : Sound c = sound-pads (with_timer b i t) p (sound-timer b i t e h) far hp in
    let l = cond w.line (line_settled i t c) c in
    let hl : Sound l = either Sound w.line (sound-nvic c _ hc) hc in
    sound-last (cond w.book (rebooked i t cycle l) l) cycle (either Sound w.book (sound-booking l _ hl) hl)

sound-reset : (b : Board) (i cycle : ℕ) → Sound b → Good (timer_reset b i cycle)
unfolding timer_reset line_settled
sound-reset b i cycle h =
    let t = C.reset_state (timer_at b i).inst (divider_of b (timer_at b i)) in
    let d = Sys.drive_outputs t 0 b.pads in
    let hc : Sound (with_pads (with_timer b i t) d.pads) =
    sound-pads (with_timer b i t) d.pads (sound-timer b i t (inst-reset (timer_at b i).inst (divider_of b (timer_at b i))) h)
    (beyond-on b.counts.pins b.pads d.pads (sigs-outputs t 0 b.pads) h.beyond) (sound-outputs t 0 b.pads h.pads) in
    sound-last _ cycle (sound-booking _ _ (sound-nvic _ _ hc))

-- a delivery
pub record Turned (i : Inst) (t : Timer) (p : Pads) : Type 0 where
  pub inst : t.inst ≡ i
  pub pads : SoundPads p

pub turn-good : (i : Inst) (t : Timer) (p : Pads) (e : Next) (at div : ℕ) → Turned i t p → Turned i (turn t p e at div).timer (turn t p e at div).pads
unfolding turn
turn-good i t p e at div h =
    let s = applied t e at div in
    record { inst = inst-applied t e at div ∙ h.inst; pads = sound-outputs s (count_at s e) p h.pads }

pub turn-of-good : (i : Inst) (t : Timer) (p : Pads) (d : Due) (div : ℕ) → Turned i t p → Turned i (turn_of t p d div).timer (turn_of t p d div).pads
turn-of-good i t p (At at e) div h = turn-good i t p e at div h
turn-of-good i t p Stopped div h = h

abbrev Ran : Inst → Run → Type 0
Ran i r = Turned i r.timer r.pads

pub run-good : (n now div left : ℕ) (i : Inst) (t : Timer) (p : Pads) → Turned i t p → Turned i (D.handled n now div left t p).timer (D.handled n now div left t p).pads
unfolding D.handled
run-good zero now div left i t p h = h
run-good (suc n) now div left i t p h =
    let s = turn_of t p (next_event t) div in
    let r = run-good n now div (left - length s.entries) i s.timer s.pads (turn-of-good i t p (next_event t) div h) in
    either (Ran i) (due_by (next_event t) now) (either (Ran i) (ltb left 4) h (record { inst = r.inst; pads = r.pads })) h

-- and its events leave the pins' signals
sigs-turn : (t : Timer) (p : Pads) (d : Due) (div : ℕ) → SameSigs p (turn_of t p d div).pads
unfolding turn
sigs-turn t p (At at e) div i = sigs-outputs (applied t e at div) (count_at (applied t e at div) e) p i
sigs-turn t p Stopped div i = refl

sigs-run : (n now div left : ℕ) (t : Timer) (p : Pads) → SameSigs p (D.handled n now div left t p).pads
unfolding D.handled
sigs-run zero now div left t p i = refl
sigs-run (suc n) now div left t p i =
    let s = turn_of t p (next_event t) div in
    let P : Run → Type 0 = λ r. (gpio_at r.pads i).sig ≡ (gpio_at p i).sig in
    either P (due_by (next_event t) now)
    (either P (ltb left 4) refl (sigs-run n now div (left - length s.entries) s.timer s.pads i ∙ sigs-turn t p (next_event t) div i)) refl

sound-settled : (b : Board) (i now : ℕ) (t : Timer) (p : Pads) → Turned (timer_at b i).inst t p → SameSigs b.pads p → Sound b → Sound (after_delivery b i now t p)
unfolding after_delivery rebooked line_settled
sound-settled b i now t p k e h =
    sound-booking _ _ (sound-nvic _ _
    (sound-pads (with_timer b i t) p (sound-timer b i t k.inst h) (beyond-on b.counts.pins b.pads p e h.beyond) k.pads))

pub delivered-inst : (b : Board) (i cycle places : ℕ) → Sound b → (delivered b i cycle places).timer.inst ≡ (timer_at b i).inst
unfolding delivered
delivered-inst b i cycle places h =
    (run-good most_events cycle (divider_of b (timer_at b i)) places (timer_at b i).inst (timer_at b i) b.pads (record { inst = refl; pads = h.pads })).inst

sound-delivered : (b : Board) (i cycle places : ℕ) → Sound b → Good (delivered_to b i cycle places)
unfolding delivered_to delivered
sound-delivered b i cycle places h =
    let r = run-good most_events cycle (divider_of b (timer_at b i)) places (timer_at b i).inst (timer_at b i) b.pads (record { inst = refl; pads = h.pads }) in
    sound-last _ cycle
    (sound-settled b i cycle _ _ r (sigs-run most_events cycle (divider_of b (timer_at b i)) places (timer_at b i) b.pads) h)

-- the clock tree
sound-retimed : (i cycle : ℕ) (b : Board) → Sound b → Sound (timer_retimed i cycle b)
unfolding timer_retimed rebooked
sound-retimed i cycle b h =
    let t = C.retimed (timer_at b i) cycle (divider_of b (timer_at b i)) in
    let k = sound-timer b i t (inst-retimed (timer_at b i) cycle (divider_of b (timer_at b i))) h in
    either Sound t.count.running (sound-booking (with_timer b i t) _ k) k

sound-all-retimed : (n i cycle : ℕ) (b : Board) → Sound b → Sound (all_retimed n i cycle b)
unfolding all_retimed
sound-all-retimed zero i cycle b h = h
sound-all-retimed (suc n) i cycle b h = sound-all-retimed n (i + 1) cycle (timer_retimed i cycle b) (sound-retimed i cycle b h)

sound-tree : (b : Board) (t : ClockTree) (cycle : ℕ) → Sound b → Sound (tree_set b t cycle)
unfolding tree_set
sound-tree b t cycle h =
    let k = sound-clocks b _ h in
    either Sound (differing b.clocks.tree t) (sound-all-retimed b.counts.timers 0 cycle _ k) k

-- a pin set
sound-set-pin : (b : Board) (q : ℕ) (c : PinCfg) (f : ℕ) → q < b.counts.pins → Sys.taken b.pads q (Sys.selected b.pads q c f) ≡ false
    → Sound b → Sound (with_pads b (Sys.set_pin b.pads q c f).pads)
sound-set-pin b q c f there free h =
    sound-pads b _ h (λ i l. sigs-set b.pads q c f i (λ z. omega (arith, z)) ∙ h.beyond i l) (sound-set b.pads q c f h.pads free)

-- a call that is not refused
sound-performed : (b : Board) (c : Call) → Sound b → applies (refusals b c) ≡ false → Good (performed b c)
unfolding performed refusals
sound-performed b (set_up s) h a =
    let l = limits s (set-up-within b s a) in
    sound-fresh s.hz s.vcc s.pins s.lines s.timers s.table l.few l.small l.apart l.below
sound-performed b (clock_tree t cycle) h a = sound-last _ cycle (sound-tree b t cycle h)
sound-performed b (enable word value) h a = sound-clocks b _ h
sound-performed b (clear_pending irq) h a = sound-nvic b _ h
sound-performed b (ask q) h a = h
sound-performed b (lend (pin_setting pin mode od out pu pd f) cycle places) h a =
    sound-last _ cycle
    (sound-set-pin b pin (cfg_of mode od out pu pd) f (here pin b.counts.pins _ a) (socket-free b pin mode od out pu pd f cycle places a) h)
sound-performed b (lend (outside_drive pin e) cycle places) h a =
    sound-last _ cycle
    (sound-pads b _ h (beyond-on b.counts.pins b.pads (Sys.drive_pin b.pads pin e).pads (sigs-drive b.pads pin e) h.beyond) (sound-drive b.pads pin e h.pads))
sound-performed b (lend pin_reset cycle places) h a =
    sound-last _ cycle
    (sound-pads b _ h (λ i l. none-selected b.pads b.counts.pins h.beyond i) (pins-reset b.pads b.counts.pins h.pads h.beyond))
sound-performed b (lend (writing timer offset size value) cycle places) h a =
    either Good (clock_on b (timer_at b timer))
    (sound-followed b timer cycle (written b (timer_at b timer) offset size value cycle) (inst-written b (timer_at b timer) offset size value cycle) h)
    (sound-last b cycle h)
sound-performed b (lend (resetting timer) cycle places) h a = sound-reset b timer cycle h
sound-performed b (lend (delivery timer) cycle places) h a = sound-delivered b timer cycle places h

pub sound-step : (b : Board) (c : Call) → Sound b → Sound (step b c).board
sound-step b c h = go (answered b c)
  where
    go : Verdict (refusals b c) b (performed b c) → Sound (step b c).board
    go (refuses n l u f a g) = rw (step_given b c ∙ g) h
    go (passes f a g) = rw (step_given b c ∙ g) (sound-performed b c h a)

pub sound-run : (b : Board) (cs : List Call) → Sound b → Sound (board_after b cs)
unfolding board_after
sound-run b [] h = h
sound-run b (c ∷ cs) h = sound-run (step b c).board cs (sound-step b c h)

pub sound-after : (cs : List Call) → Sound (board_after first_board cs)
sound-after cs = sound-run first_board cs sound-first

-- ---- one channel, one socket

-- a pin that follows a signal selected it
selects : (g : Gpio) → (signal_of g ≡ 0 → ⊥) → signal_of g ≡ g.sig
selects g = by-test (λ (s : ℕ). (s ≡ 0 → ⊥) → s ≡ g.sig) (eqb g.cfg.mode alternate_mode) (λ t z. refl) (λ t z. absurd (z refl))

pub sockets : (pads : Pads) → SoundPads pads → Sockets pads
sockets pads h = record { selected-routes = routes; one-pin = λ p q z e. sym (routes p z) ∙ (ap (λ (s : ℕ). route_of pads s) e ∙ routes q (λ y. z (e ∙ y))) }
  where
    routes : (p : ℕ) → (signal_of (gpio_at pads p) ≡ 0 → ⊥) → route_of pads (signal_of (gpio_at pads p)) ≡ p
    routes p z =
        let e = selects (gpio_at pads p) z in
        ap (λ (s : ℕ). route_of pads s) e ∙ h.owns p (λ y. z (e ∙ y))

-- "a pin in alternate mode with a non-zero signal selected routes it", so two pins never select one signal, on every board that calls lead to
pub one-socket : OneSocket
one-socket cs = sockets (board_after first_board cs).pads (sound-after cs).pads

-- ---- what a call leaves alone of a pilot

-- no entry of pin p
abbrev pub Spared : ℕ → List Entry → Type 0
Spared p [] = Unit {0}
Spared p (e ∷ es) = (e.pin ≡ p → ⊥) × Spared p es

pub spared-append : (p : ℕ) (xs ys : List Entry) → Spared p xs → Spared p ys → Spared p (xs ++ ys)
spared-append p [] ys h k = k
spared-append p (x ∷ xs) ys h k = (h.0, spared-append p xs ys h.1 k)

pub spared-entry : (p cycle : ℕ) (c : Option Edge) → Elsewhere p c → Spared p (entry_of cycle c)
unfolding entry_of
spared-entry p cycle None h = tt
spared-entry p cycle (Some e) h = (h, tt)

pub spared-entries : (s p cycle : ℕ) (pads : Pads) (d : Sys.Drive) → SparesAll s p pads d → Spared p (entries_of cycle d.changes)
unfolding entries_of
spared-entries s p cycle pads d h =
    let c = d.changes in
    let y = entry_of cycle c.c ++ entry_of cycle c.d in
    let x = entry_of cycle c.b ++ y in
    let hy : Spared p y = spared-append p (entry_of cycle c.c) (entry_of cycle c.d) (spared-entry p cycle c.c h.c) (spared-entry p cycle c.d h.d) in
    let hx : Spared p x = spared-append p (entry_of cycle c.b) y (spared-entry p cycle c.b h.b) hy in
    spared-append p (entry_of cycle c.a) x (spared-entry p cycle c.a h.a) hx

-- a timer that changed at most in CR2, SMCR, DIER and SR
pub record Calm (t u : Timer) : Type 0 where
  pub inst : u.inst ≡ t.inst
  pub count : u.count ≡ t.count
  pub chan : u.chan ≡ t.chan
  pub cr1 : u.regs.cr1 ≡ t.regs.cr1
  pub ccer : u.regs.ccer ≡ t.regs.ccer
  pub psc : u.regs.psc ≡ t.regs.psc
  pub arr : u.regs.arr ≡ t.regs.arr

pub calm-same : (t u : Timer) → u ≡ t → Calm t u
calm-same t u e = record {
  inst = ap (λ (x : Timer). x.inst) e;
  count = ap (λ (x : Timer). x.count) e;
  chan = ap (λ (x : Timer). x.chan) e;
  cr1 = ap (λ (x : Timer). x.regs.cr1) e;
  ccer = ap (λ (x : Timer). x.regs.ccer) e;
  psc = ap (λ (x : Timer). x.regs.psc) e;
  arr = ap (λ (x : Timer). x.regs.arr) e;
}

-- channel ch of timer i drives signal s, which pin p routes, push-pull
pub record Wired (b : Board) (i ch s p : ℕ) : Type 0 where
  pub sound : Sound b
  pub timer : i < b.counts.timers
  pub channel : ch < 4
  pub signal : s ≡ tim_signal (timer_at b i).inst.n ch
  pub drives : Sys.driver (timer_at b i).inst.n ≡ true
  pub route : route_of b.pads s ≡ p
  pub pin : p < 128
  pub push-pull : (gpio_at b.pads p).cfg.open_drain ≡ false

-- timer i, signal s and pin p are left alone between two boards
pub record Past (i s p : ℕ) (a b : Board) : Type 0 where
  pub held : Held s p a.pads b.pads
  pub timer : Calm (timer_at a i) (timer_at b i)
  pub tree : b.clocks.tree ≡ a.clocks.tree
  pub timers : b.counts.timers ≡ a.counts.timers

-- and by a call, which makes no entry of the pin
pub record Rest (i s p : ℕ) (b : Board) (o : Outcome) : Type 0 where
  pub past : Past i s p b o.board
  pub spared : Spared p o.entries

module _ (i s p : ℕ) (a : Board) where
  pub past-refl : Past i s p a a
  past-refl = record { held = held-refl s p a.pads; timer = calm-same (timer_at a i) (timer_at a i) refl; tree = refl; timers = refl }

  past-nvic : (b : Board) (n : Nvic) → Past i s p a b → Past i s p a (with_nvic b n)
  past-nvic b n h = record { held = h.held; timer = h.timer; tree = h.tree; timers = h.timers }

  past-booking : (b : Board) (m : List ℕ) → Past i s p a b → Past i s p a (with_booking b m)
  past-booking b m h = record { held = h.held; timer = h.timer; tree = h.tree; timers = h.timers }

  past-last : (b : Board) (cycle : ℕ) → Past i s p a b → Past i s p a (with_last b cycle)
  past-last b cycle h = record { held = h.held; timer = h.timer; tree = h.tree; timers = h.timers }

  past-pads : (q : Pads) → Held s p a.pads q → Past i s p a (with_pads a q)
  past-pads q h = record { held = h; timer = calm-same (timer_at a i) (timer_at a i) refl; tree = refl; timers = refl }

  -- another timer replaced
  past-other : (j : ℕ) (t : Timer) (q : Pads) → (j ≡ i → ⊥) → Held s p a.pads q → Past i s p a (with_pads (with_timer a j t) q)
  past-other j t q ne h = record {
    held = h;
    timer = calm-same (timer_at a i) (timer_at (with_timer a j t) i) (get_or-set_other a.timers j i t no_timer (λ z. ne (sym z)));
    tree = refl;
    timers = refl;
  }

  -- the timer itself replaced by a calm one
  past-own : (t : Timer) (q : Pads) → i < length a.timers → Calm (timer_at a i) t → Held s p a.pads q → Past i s p a (with_pads (with_timer a i t) q)
  past-own t q k c h = record { held = h; timer = rw (get_or-set_same a.timers i t no_timer k) c; tree = refl; timers = refl }

  -- a call that left the board as it was
  pub rest-still : (n v : ℕ) → Rest i s p a (record { number = n; value = v; entries = []; board = a })
  rest-still n v = record { past = past-refl; spared = tt }

pub signal-small : (b : Board) (i ch s p : ℕ) → Wired b i ch s p → s < 256
signal-small b i ch s p w =
    let n = (timer_at b i).inst.n in
    let e : s ≡ tim_signal n ch = w.signal in
    omega (arith, leb-true n 4 (and_right (leb 2 n) (leb n 4) w.drives), w.channel)

pub signal-drives : (b : Board) (i ch s p : ℕ) → Wired b i ch s p → drives s ≡ true
signal-drives b i ch s p w =
    let n = (timer_at b i).inst.n in
    rw (w.signal, ne_eqb (tim_signal n ch) 0 (λ z. omega arith), tim-no-input n ch w.channel)

-- the signals of another timer are others
pub other-signals : (b : Board) (i ch s p j : ℕ) → Wired b i ch s p → j < b.counts.timers → (j ≡ i → ⊥)
    → (c : ℕ) → c < 4 → tim_signal (timer_at b j).inst.n c ≡ s → ⊥
other-signals b i ch s p j w k ne c l e =
    ne (w.sound.distinct j i k w.timer (tim-injective (timer_at b j).inst.n (timer_at b i).inst.n c ch l w.channel (e ∙ w.signal)).0)

-- the pilot goes on
pub wired-on : (b : Board) (i ch s p : ℕ) (c : Call) → Wired b i ch s p → Rest i s p b (step b c) → Wired (step b c).board i ch s p
wired-on b i ch s p c w r =
    let e = ap (λ (x : Inst). x.n) r.past.timer.inst in
    record {
      sound = sound-step b c w.sound;
      timer = rw r.past.timers w.timer;
      channel = w.channel;
      signal = w.signal ∙ ap (λ (n : ℕ). tim_signal n ch) (sym e);
      drives = ap (λ (n : ℕ). Sys.driver n) e ∙ w.drives;
      route = r.past.held.route ∙ w.route;
      pin = w.pin;
      push-pull = ap (λ (x : PinCfg). x.open_drain) r.past.held.cfg ∙ w.push-pull;
    }

-- ---- each call

-- a write's outcome
module _ (b : Board) (i s p : ℕ) where
  -- the line and the booking after it
  past-followed : (j cycle : ℕ) (t : Timer) (line book : Bool) (c : Board) → Past i s p b c
      → Past i s p b (with_last (cond book (rebooked j t cycle (cond line (line_settled j t c) c)) (cond line (line_settled j t c) c)) cycle)
  unfolding line_settled rebooked
  past-followed j cycle t line book c h =
      let l = cond line (line_settled j t c) c in
      let k : Past i s p b l = either (Past i s p b) line (past-nvic i s p b c _ h) h in
      past-last i s p b (cond book (rebooked j t cycle l) l) cycle (either (Past i s p b) book (past-booking i s p b l _ k) k)

  rest-followed : (j cycle : ℕ) (w : Written)
      → Past i s p b (with_pads (with_timer b j w.timer) (cond (is_some w.drive) (Sys.drive_outputs w.timer (unwrap_or w.drive 0) b.pads).pads b.pads))
      → Spared p (cond (is_some w.drive) (entries_of cycle (Sys.drive_outputs w.timer (unwrap_or w.drive 0) b.pads).changes) []) → Rest i s p b (followed b j cycle w)
  unfolding followed
  rest-followed j cycle w h k = record { past = past-followed j cycle w.timer w.line w.book _ h; spared = k }

-- a write that only CR2, SMCR, DIER or SR take
record Quiet (t : Timer) (w : Written) : Type 0 where
  timer : Calm t w.timer
  drive : w.drive ≡ None

quiet-register : (t : Timer) (off v now div : ℕ) → (eqb off 0x04 || (eqb off 0x08 || (eqb off 0x0c || eqb off 0x10))) ≡ true → Quiet t (R.reg_written t off v now div)
unfolding R.reg_written
quiet-register t off v now div h = four (eqb off 0x04) refl h
  where
    calm : (u : Timer) → u.inst ≡ t.inst → u.count ≡ t.count → u.chan ≡ t.chan → u.regs.cr1 ≡ t.regs.cr1 → u.regs.ccer ≡ t.regs.ccer → u.regs.psc ≡ t.regs.psc → u.regs.arr ≡ t.regs.arr → Calm t u
    calm u a b c d e f g = record { inst = a; count = b; chan = c; cr1 = d; ccer = e; psc = f; arr = g }

    sixteen : (x : Bool) → eqb off 0x10 ≡ x → x ≡ true → Quiet t (R.reg_written t off v now div)
    sixteen x e h = rw (eqb-true off 0x10 (e ∙ h)) (record { timer = calm _ refl refl refl refl refl refl refl; drive = refl })

    twelve : (x : Bool) → eqb off 0x0c ≡ x → (x || eqb off 0x10) ≡ true → Quiet t (R.reg_written t off v now div)
    twelve true e h = rw (eqb-true off 0x0c e) (record { timer = calm _ refl refl refl refl refl refl refl; drive = refl })
    twelve false e h = sixteen (eqb off 0x10) refl h

    eight : (x : Bool) → eqb off 0x08 ≡ x → (x || (eqb off 0x0c || eqb off 0x10)) ≡ true → Quiet t (R.reg_written t off v now div)
    eight true e h = rw (eqb-true off 0x08 e) (record { timer = calm _ refl refl refl refl refl refl refl; drive = refl })
    eight false e h = twelve (eqb off 0x0c) refl h

    four : (x : Bool) → eqb off 0x04 ≡ x → (x || (eqb off 0x08 || (eqb off 0x0c || eqb off 0x10))) ≡ true → Quiet t (R.reg_written t off v now div)
    four true e h = rw (eqb-true off 0x04 e) (record { timer = calm _ refl refl refl refl refl refl refl; drive = refl })
    four false e h = eight (eqb off 0x08) refl h

quiet-written : (b : Board) (t : Timer) (offset size value cycle : ℕ)
    → (eqb (register offset) 0x04 || (eqb (register offset) 0x08 || (eqb (register offset) 0x0c || eqb (register offset) 0x10))) ≡ true → Quiet t (written b t offset size value cycle)
unfolding written
quiet-written b t offset size value cycle h = quiet-register t (register offset) _ cycle (divider_of b t) h

-- a delivery to a timer with other signals
module _ (s p : ℕ) (small : s < 256) (pin : p < 128) where
  record RunSpares (x : Pads) (r : Run) : Type 0 where
    held : Held s p x r.pads
    spared : Spared p r.entries

  record TurnSpares (x : Pads) (r : Turn) : Type 0 where
    held : Held s p x r.pads
    spared : Spared p r.entries

  module _ (j : Inst) (ne : (c : ℕ) → c < 4 → tim_signal j.n c ≡ s → ⊥) where
    turn-spares : (t : Timer) (x : Pads) (e : Next) (at div : ℕ) → Turned j t x → route_of x s ≡ p → TurnSpares x (turn t x e at div)
    unfolding turn
    turn-spares t x e at div h r =
        let u = applied t e at div in
        let z : u.inst ≡ j = inst-applied t e at div ∙ h.inst in
        let k = held-outputs x s p h.pads small pin r u (count_at u e) (λ c l q. ne c l (ap (λ (y : Inst). tim_signal y.n c) (sym z) ∙ q)) in
        record { held = k.held; spared = spared-entries s p at x (Sys.drive_outputs u (count_at u e) x) k }

    turn-of-spares : (t : Timer) (x : Pads) (d : Due) (div : ℕ) → Turned j t x → route_of x s ≡ p → TurnSpares x (turn_of t x d div)
    turn-of-spares t x (At at e) div h r = turn-spares t x e at div h r
    turn-of-spares t x Stopped div h r = record { held = held-refl s p x; spared = tt }

    run-spares : (n now div left : ℕ) (t : Timer) (x : Pads) → Turned j t x → route_of x s ≡ p → RunSpares x (D.handled n now div left t x)
    unfolding D.handled
    run-spares zero now div left t x h r = record { held = held-refl s p x; spared = tt }
    run-spares (suc n) now div left t x h r =
        let u = turn_of t x (next_event t) div in
        let k = turn-of-spares t x (next_event t) div h r in
        let g = run-spares n now div (left - length u.entries) u.timer u.pads (turn-of-good j t x (next_event t) div h) (k.held.route ∙ r) in
        let none : RunSpares x (stop t x 0) = record { held = held-refl s p x; spared = tt } in
        either (RunSpares x) (due_by (next_event t) now)
        (either (RunSpares x) (ltb left 4) (record { held = held-refl s p x; spared = tt })
        (record { held = held-trans k.held g.held; spared = spared-append p u.entries _ k.spared g.spared }))
        none

module _ (b : Board) (i ch s p : ℕ) (w : Wired b i ch s p) where
  frame-last : (cycle : ℕ) → Rest i s p b (record { number = 0; value = 0; entries = []; board = with_last b cycle })
  frame-last cycle = record { past = past-last i s p b b cycle (past-refl i s p b); spared = tt }

  -- another pin set: the channel's signal is taken, so it is set to another
  rest-set : (q mode od out pu pd f cycle : ℕ) → (q ≡ p → ⊥) → Sys.taken b.pads q (Sys.selected b.pads q (cfg_of mode od out pu pd) f) ≡ false
      → Rest i s p b (moved b cycle (Sys.set_pin b.pads q (cfg_of mode od out pu pd) f))
  rest-set q mode od out pu pd f cycle ne untaken =
      let m = Sys.set_pin b.pads q (cfg_of mode od out pu pd) f in
      let free : Sys.selected b.pads q (cfg_of mode od out pu pd) f ≡ s → ⊥ = λ z.
      not_taken b.pads q p s (sym (ap (λ (x : ℕ). Sys.taken b.pads q x) z) ∙ untaken) (λ y. omega (arith, w.signal, y)) w.route w.pin (λ y. ne (sym y)) in
      let k = held-set b.pads s p q (cfg_of mode od out pu pd) f w.route ne free in
      record { past = past-last i s p b (with_pads b m.pads) cycle (past-pads i s p b m.pads k.held); spared = spared-entry p cycle m.change k.elsewhere }

  rest-drive : (q : ℕ) (e : ExtDrive) (cycle : ℕ) → Rest i s p b (moved b cycle (Sys.drive_pin b.pads q e))
  rest-drive q e cycle =
      let m = Sys.drive_pin b.pads q e in
      let k = held-drive b.pads s p w.sound.pads (signal-small b i ch s p w) w.pin w.route (signal-drives b i ch s p w) w.push-pull q e in
      record { past = past-last i s p b (with_pads b m.pads) cycle (past-pads i s p b m.pads k.held); spared = spared-entry p cycle m.change k.elsewhere }

  -- the outputs of another timer
  outputs-other : (j : ℕ) (t : Timer) (cnt : ℕ) → j < b.counts.timers → (j ≡ i → ⊥) → t.inst ≡ (timer_at b j).inst → SparesAll s p b.pads (Sys.drive_outputs t cnt b.pads)
  outputs-other j t cnt l ne e =
      held-outputs b.pads s p w.sound.pads (signal-small b i ch s p w) w.pin w.route t cnt
      (λ c k z. other-signals b i ch s p j w l ne c k (ap (λ (y : Inst). tim_signal y.n c) (sym e) ∙ z))

  followed-other : (j cycle : ℕ) (x : Written) → j < b.counts.timers → (j ≡ i → ⊥) → x.timer.inst ≡ (timer_at b j).inst → Rest i s p b (followed b j cycle x)
  followed-other j cycle x l ne e =
      let d = Sys.drive_outputs x.timer (unwrap_or x.drive 0) b.pads in
      let k = outputs-other j x.timer (unwrap_or x.drive 0) l ne e in
      rest-followed b i s p j cycle x
      (past-other i s p b j x.timer _ ne (either (Held s p b.pads) (is_some x.drive) k.held (held-refl s p b.pads)))
      (either (Spared p) (is_some x.drive) (spared-entries s p cycle b.pads d k) tt)

  followed-quiet : (cycle : ℕ) (x : Written) → Quiet (timer_at b i) x → Rest i s p b (followed b i cycle x)
  followed-quiet cycle x q =
      rest-followed b i s p i cycle x
      (past-own i s p b x.timer _ (omega (arith, w.sound.timers, w.sound.few-timers, w.timer)) q.timer (rw q.drive (held-refl s p b.pads)))
      (rw q.drive tt)

  -- a write that leaves the pilot alone: to another timer, to a quiet register, or stopped by the clock gate
  rest-write : (j offset size value cycle : ℕ) → j < b.counts.timers
      → (not (eqb j i) || ((eqb (register offset) 0x04 || (eqb (register offset) 0x08 || (eqb (register offset) 0x0c || eqb (register offset) 0x10))) || not (clock_on b (timer_at b i)))) ≡ true
      → Rest i s p b (cond (clock_on b (timer_at b j)) (followed b j cycle (written b (timer_at b j) offset size value cycle)) (record { number = 0; value = 0; entries = []; board = with_last b cycle }))
  rest-write j offset size value cycle l h = go (eqb j i) refl h
    where
      own : (x y : Bool) → (eqb (register offset) 0x04 || (eqb (register offset) 0x08 || (eqb (register offset) 0x0c || eqb (register offset) 0x10))) ≡ x
          → clock_on b (timer_at b i) ≡ y → (x || not y) ≡ true
          → Rest i s p b (cond y (followed b i cycle (written b (timer_at b i) offset size value cycle)) (record { number = 0; value = 0; entries = []; board = with_last b cycle }))
      own x false q g h = frame-last cycle
      own true true q g h = followed-quiet cycle _ (quiet-written b (timer_at b i) offset size value cycle q)
      own false true q g h = absurd (no_both false h refl)

      go : (x : Bool) → eqb j i ≡ x
          → (not x || ((eqb (register offset) 0x04 || (eqb (register offset) 0x08 || (eqb (register offset) 0x0c || eqb (register offset) 0x10))) || not (clock_on b (timer_at b i)))) ≡ true
          → Rest i s p b (cond (clock_on b (timer_at b j)) (followed b j cycle (written b (timer_at b j) offset size value cycle)) (record { number = 0; value = 0; entries = []; board = with_last b cycle }))
      go true e q = rw (eqb-true j i e) (own _ (clock_on b (timer_at b i)) refl refl q)
      go false e q =
          either (Rest i s p b) (clock_on b (timer_at b j))
          (followed-other j cycle _ l (eqb-false j i e) (inst-written b (timer_at b j) offset size value cycle)) (frame-last cycle)

  reset-other : (j cycle : ℕ) → j < b.counts.timers → (j ≡ i → ⊥) → Rest i s p b (timer_reset b j cycle)
  unfolding timer_reset line_settled
  reset-other j cycle l ne =
      let t = C.reset_state (timer_at b j).inst (divider_of b (timer_at b j)) in
      let d = Sys.drive_outputs t 0 b.pads in
      let k = outputs-other j t 0 l ne (inst-reset (timer_at b j).inst (divider_of b (timer_at b j))) in
      let c = with_pads (with_timer b j t) d.pads in
      record {
        past = past-last i s p b _ cycle (past-booking i s p b _ _ (past-nvic i s p b c _ (past-other i s p b j t d.pads ne k.held)));
        spared = spared-entries s p cycle b.pads d k;
      }

  past-settled : (j now : ℕ) (t : Timer) (x : Pads) → (j ≡ i → ⊥) → Held s p b.pads x → Past i s p b (after_delivery b j now t x)
  unfolding after_delivery rebooked line_settled
  past-settled j now t x ne h = past-booking i s p b _ _ (past-nvic i s p b (with_pads (with_timer b j t) x) _ (past-other i s p b j t x ne h))

  delivered-other : (j cycle places : ℕ) → j < b.counts.timers → (j ≡ i → ⊥) → Rest i s p b (delivered_to b j cycle places)
  unfolding delivered_to delivered
  delivered-other j cycle places l ne =
      let t = timer_at b j in
      let k = run-spares s p (signal-small b i ch s p w) w.pin t.inst (other-signals b i ch s p j w l ne) most_events cycle (divider_of b t) places t b.pads
      (record { inst = refl; pads = w.sound.pads }) w.route in
      record { past = past-last i s p b _ cycle (past-settled j cycle _ _ ne k.held); spared = k.spared }

-- a call that leaves the pilot of timer i on pin p by signal s alone, deliveries to the timer itself aside
abbrev pub Leaves : ℕ → ℕ → ℕ → Board → Call → Type 0
Leaves i p s b (set_up _) = ⊥
Leaves i p s b (clock_tree _ _) = ⊥
Leaves i p s b (enable _ _) = Unit {0}
Leaves i p s b (clear_pending _) = Unit {0}
Leaves i p s b (ask _) = Unit {0}
Leaves i p s b (lend (pin_setting q mode od out pu pd f) _ _) = q ≡ p → ⊥
Leaves i p s b (lend (outside_drive _ _) _ _) = Unit {0}
Leaves i p s b (lend pin_reset _ _) = ⊥
Leaves i p s b (lend (writing j offset size value) _ _) =
    (not (eqb j i) || ((eqb (register offset) 0x04 || (eqb (register offset) 0x08 || (eqb (register offset) 0x0c || eqb (register offset) 0x10))) || not (clock_on b (timer_at b i)))) ≡ true
Leaves i p s b (lend (resetting j) _ _) = j ≡ i → ⊥
Leaves i p s b (lend (delivery j) _ _) = j ≡ i → ⊥

frame-performed : (b : Board) (i ch s p : ℕ) → Wired b i ch s p → (c : Call) → Leaves i p s b c → applies (refusals b c) ≡ false → Rest i s p b (performed b c)
unfolding performed refusals
frame-performed b i ch s p w (set_up x) h a = absurd h
frame-performed b i ch s p w (clock_tree t cycle) h a = absurd h
frame-performed b i ch s p w (enable word value) h a =
    let k = past-refl i s p b in record { past = record { held = k.held; timer = k.timer; tree = refl; timers = refl }; spared = tt }
frame-performed b i ch s p w (clear_pending irq) h a = record { past = past-nvic i s p b b _ (past-refl i s p b); spared = tt }
frame-performed b i ch s p w (ask q) h a = rest-still i s p b (asked_number b q) (told b q)
frame-performed b i ch s p w (lend (pin_setting q mode od out pu pd f) cycle places) h a =
    rest-set b i ch s p w q mode od out pu pd f cycle h (socket-free b q mode od out pu pd f cycle places a)
frame-performed b i ch s p w (lend (outside_drive q e) cycle places) h a = rest-drive b i ch s p w q e cycle
frame-performed b i ch s p w (lend pin_reset cycle places) h a = absurd h
frame-performed b i ch s p w (lend (writing j offset size value) cycle places) h a =
    rest-write b i ch s p w j offset size value cycle (here j b.counts.timers _ a) h
frame-performed b i ch s p w (lend (resetting j) cycle places) h a = reset-other b i ch s p w j cycle (here j b.counts.timers _ a) h
frame-performed b i ch s p w (lend (delivery j) cycle places) h a = delivered-other b i ch s p w j cycle places (here j b.counts.timers _ a) h

pub frame_step : (b : Board) (i ch s p : ℕ) → Wired b i ch s p → (c : Call) → Leaves i p s b c → Rest i s p b (step b c)
frame_step b i ch s p w c h = go (answered b c)
  where
    go : Verdict (refusals b c) b (performed b c) → Rest i s p b (step b c)
    go (refuses n l u f a g) = rw (step_given b c ∙ g) (rest-still i s p b n 0)
    go (passes f a g) = rw (step_given b c ∙ g) (frame-performed b i ch s p w c h a)

-- "change nothing": a refused call of any kind leaves the pilot alone
pub frame_refused : (b : Board) (i s p : ℕ) (c : Call) → is_refusal (step b c).number ≡ true → Rest i s p b (step b c)
frame_refused b i s p c h = go (answered b c)
  where
    go : Verdict (refusals b c) b (performed b c) → Rest i s p b (step b c)
    go (refuses n l u f a g) = rw (step_given b c ∙ g) (rest-still i s p b n 0)
    go (passes f a g) = absurd (no_both _ h (ap (λ (o : Outcome). is_refusal o.number) (step_given b c ∙ g) ∙ performed-served b c))
