-- The board in the making: timer by timer, entry by entry, then the sizes. Assumes nothing.
use mathlib.Core.Path.{◌≡◌, refl, ap, sym, ◌∙◌}
use mathlib.Core.Bool.{Bool, true, false, not}
use mathlib.Core.List.{List, []}
use Prim.Native.Nat.{ℕ, zero, suc, ◌+◌, ◌-◌, ◌<◌, ◌≤◌}
use native.Mathlib.Nat.{sub-zero, zero-add}
use native.Mathlib.Numerals.{add-one}
use native.Mathlib.Omega.{arith}
use lib.Ieee.{Float}
use lib.ListN.{length, get_or, set, drop, replicate, length-map, get_or-map}
use lib.Seq.{paste, paste-zero, paste-suc, take_all}
use borrow.Author.Tests.{not-true, not-false}
use Rattle.real.specs.Real.{positive}
use Rattle.tim.specs.declared.Inst.{Inst}
use Rattle.tim.specs.declared.Timer.{Timer}
use Rattle.tim.specs.Change.{reset_state}
use Rattle.tim.specs.Timer.{Fit}
use Rattle.tim.proofs.Fit.{fit-reset}
use Rattle.machine.specs.Board.{Board, no_inst, no_timer, filled, fresh_board, with_timer}
use Rattle.machine.specs.Call.{Setup}
use Rattle.machine.specs.Step.{step, within_limits}
use Rattle.state.specs.Board.{with_af_at, with_sizes}
use Rattle.state.proofs.InRange.{bounded}
use Rattle.state.specs.View.{view}
use Rattle.setup.specs.Setup.{count_of, inst_given, insts_from, insts_of, timers_of, with_timers, with_table, Answered}
use Rattle.setup.proofs.Limits.{length-insts}

-- ---- a list filled from its front
module _ {A : Type 0} where
  paste-next : (l s : List A) (z v : A) (i : ℕ) → v ≡ get_or s i z → i < length l → i < length s → set (paste l 0 s i) i v ≡ paste l 0 s (i + 1)
  paste-next l s z v i e h g =
      ap (set (paste l 0 s i) i) e ∙ ap (λ (k : ℕ). set (paste l 0 s i) k (get_or s i z)) (sym (zero-add i))
      ∙ paste-suc l 0 s i z (omega arith) g ∙ ap (paste l 0 s) (sym (add-one i))

  drop-replicate : (k n : ℕ) (x : A) → drop k (replicate n x) ≡ replicate (n - k) x
  drop-replicate zero n x = ap (λ (m : ℕ). replicate m x) (sym (sub-zero n))
  drop-replicate (suc k) zero x = let e : 0 ≡ 0 - suc k = omega arith in ap (λ (m : ℕ). replicate m x) e
  drop-replicate (suc k) (suc n) x = let e : n - k ≡ suc n - suc k = omega arith in drop-replicate k n x ∙ ap (λ (m : ℕ). replicate m x) e

  paste-filled : (n : ℕ) (x : A) (s : List A) (m : ℕ) → m ≡ length s → paste (replicate n x) 0 s m ≡ filled n x s
  paste-filled n x s m e =
      ap (paste (replicate n x) 0 s) e
      ∙ rw (zero-add (length s), take_all (length s) s (omega arith), drop-replicate (length s) n x)

-- ---- the timers
insts-at : (mask : ℕ) (ns : List ℕ) (k i j : ℕ) → j < k → get_or (insts_from mask ns k i) j no_inst ≡ inst_given mask ns (i + j)
unfolding insts_from
insts-at mask ns zero i j h = absurd (omega arith)
insts-at mask ns (suc k) i zero h = ap (inst_given mask ns) (omega arith)
insts-at mask ns (suc k) i (suc j) h = insts-at mask ns k (i + 1) j (omega arith) ∙ ap (inst_given mask ns) (omega arith)

module _ (mask : ℕ) (ns : List ℕ) where
  timer-at : (j : ℕ) → j < count_of ns → get_or (timers_of mask ns) j (reset_state no_inst 1) ≡ reset_state (inst_given mask ns j) 1
  timer-at j h =
      get_or-map (λ (i : Inst). reset_state i 1) (insts_of mask ns) j no_inst
      ∙ ap (λ (i : Inst). reset_state i 1) (insts-at mask ns (count_of ns) 0 j h ∙ ap (inst_given mask ns) (zero-add j))

  length-timers : length (timers_of mask ns) ≡ count_of ns
  length-timers = length-map (insts_of mask ns) (λ (i : Inst). reset_state i 1) ∙ length-insts mask ns (count_of ns) 0

pub new-fit : (t : Timer) (i : Inst) → t ≡ reset_state i 1 → Fit t
new-fit t i h = rw h (fit-reset i 1 (omega arith) (omega arith))

-- i timers are stored
pub record Storing (mask : ℕ) (ns : List ℕ) (i : ℕ) (w₀ w : List ℕ) : Type 0 where
  pub within : i ≤ count_of ns
  pub board : (x : List Float) → view w x ≡ with_timers (view w₀ x) (timers_of mask ns) i

-- the board with other timers
abbrev timed : Board → List Timer → Board
timed b ts = record { timers = ts; booking = b.booking; nvic = b.nvic; pads = b.pads; clocks = b.clocks; counts = b.counts }

pub store-begins : (mask : ℕ) (ns w : List ℕ) → Storing mask ns 0 w w
store-begins mask ns w = record { within = omega arith; board = λ x. ap (timed (view w x)) (paste-zero (view w x).timers 0 (timers_of mask ns)) }

module _ (mask : ℕ) (ns : List ℕ) (i : ℕ) (w₀ w : List ℕ) (s : Storing mask ns i w₀ w) where
  pub store_goes : i < count_of ns → count_of ns ≤ 8 → (j : Inst) (t : Timer) (w₁ : List ℕ) → j ≡ inst_given mask ns i → t ≡ reset_state j 1
      → ((x : List Float) → view w₁ x ≡ with_timer (view w x) i t) → Storing mask ns (i + 1) w₀ w₁
  store_goes h g j t w₁ p q e = record {
    within = omega arith;
    board = λ x.
        e x ∙ ap (λ (b : Board). with_timer b i t) (s.board x)
        ∙ ap (timed (view w₀ x))
        (paste-next (view w₀ x).timers (timers_of mask ns) (reset_state no_inst 1) t i
        (q ∙ ap (λ (k : Inst). reset_state k 1) p ∙ sym (timer-at mask ns i h))
        (omega (arith, (bounded w₀ x).timers-length)) (omega (arith, length-timers mask ns)));
  }

  pub store-ends : count_of ns ≤ i → (x : List Float) → view w x ≡ with_timers (view w₀ x) (timers_of mask ns) (count_of ns)
  store-ends h x = let e : i ≡ count_of ns = omega (arith, s.within) in s.board x ∙ ap (with_timers (view w₀ x) (timers_of mask ns)) e

-- ---- the signal table

-- k entries are stored
pub record Listing (l : List ℕ) (k : ℕ) (w₀ w : List ℕ) : Type 0 where
  pub within : k ≤ length l
  pub board : (x : List Float) → view w x ≡ with_table (view w₀ x) l k

-- the board with another table
abbrev tabled : Board → List ℕ → Board
tabled b l = record {
  timers = b.timers;
  booking = b.booking;
  nvic = b.nvic;
  pads = record { gpio = b.pads.gpio; af = l; route = b.pads.route; sig_level = b.pads.sig_level; vcc = b.pads.vcc };
  clocks = b.clocks;
  counts = b.counts;
}

pub list-begins : (l w : List ℕ) → Listing l 0 w w
list-begins l w = record { within = omega arith; board = λ x. ap (tabled (view w x)) (paste-zero (view w x).pads.af 0 l) }

module _ (l : List ℕ) (k : ℕ) (w₀ w : List ℕ) (s : Listing l k w₀ w) where
  pub list-goes : k < length l → length l ≤ 2048 → (w₁ : List ℕ) → ((x : List Float) → view w₁ x ≡ with_af_at (view w x) k (get_or l k 0)) → Listing l (k + 1) w₀ w₁
  list-goes h g w₁ e = record {
    within = omega arith;
    board = λ x.
        e x ∙ ap (λ (b : Board). with_af_at b k (get_or l k 0)) (s.board x)
        ∙ ap (tabled (view w₀ x)) (paste-next (view w₀ x).pads.af l 0 (get_or l k 0) k refl (omega (arith, (bounded w₀ x).af-length)) h);
  }

  pub list-ends : length l ≤ k → (x : List Float) → view w x ≡ with_table (view w₀ x) l (length l)
  list-ends h x = let e : k ≡ length l = omega (arith, s.within) in s.board x ∙ ap (with_table (view w₀ x) l) e

-- ---- the board made

-- the cleared board with timers, a table and sizes
abbrev made : Board → List Timer → List ℕ → ℕ → ℕ → ℕ → Board
made b ts l n pins lines = with_sizes (tabled (timed b ts) l) n pins lines

pub filled-up : (hz vcc : Float) (pins lines mask : ℕ) (ns table : List ℕ) (b₀ b₁ b₂ b₃ : Board) (n : ℕ) → b₀ ≡ fresh_board hz vcc 0 0 [] []
    → b₁ ≡ with_timers b₀ (timers_of mask ns) (count_of ns) → b₂ ≡ with_table b₁ table (length table) → n ≡ count_of ns → b₃ ≡ with_sizes b₂ n pins lines
    → b₃ ≡ fresh_board hz vcc pins lines (insts_of mask ns) table
unfolding fresh_board
filled-up hz vcc pins lines mask ns table b₀ b₁ b₂ b₃ n e₀ e₁ e₂ m e₃ =
    e₃ ∙ ap (λ (b : Board). with_sizes b n pins lines) (e₂ ∙ ap (λ (b : Board). with_table b table (length table)) (e₁ ∙ ap (λ (b : Board). with_timers b (timers_of mask ns) (count_of ns)) e₀))
    ∙ ap (λ (ts : List Timer). made (fresh_board hz vcc 0 0 [] []) ts (paste (replicate 2048 0) 0 table (length table)) n pins lines)
    (paste-filled 8 no_timer (timers_of mask ns) (count_of ns) (sym (length-timers mask ns)))
    ∙ ap (λ (l : List ℕ). made (fresh_board hz vcc 0 0 [] []) (filled 8 no_timer (timers_of mask ns)) l n pins lines) (paste-filled 2048 0 table (length table) refl)
    ∙ ap (λ (k : ℕ). made (fresh_board hz vcc 0 0 [] []) (filled 8 no_timer (timers_of mask ns)) (filled 2048 0 table) k pins lines) (m ∙ sym (length-insts mask ns (count_of ns) 0))

-- ---- the call, by what its two tests gave
module _ (s : Setup) (w : List ℕ) (x : List Float) (l : Bool) (e : l ≡ within_limits s) where
  pub outside : not l ≡ true → Answered s w x w x 1
  unfolding step
  outside h = let q = sym e ∙ not-true l h in record { number = rw q; board = rw q; words = λ n. refl; reals = λ n. refl }

  module _ (h : not l ≡ false) (p : Bool) (f : p ≡ positive s.hz) where
    pub no-clock : not p ≡ true → Answered s w x w x 4
    unfolding step
    no-clock g =
        let q = sym e ∙ not-false l h in
        let r = sym f ∙ not-true p g in
        record { number = rw (q, r); board = rw (q, r); words = λ n. refl; reals = λ n. refl }

    pub replaced : not p ≡ false → (w₁ : List ℕ) (x₁ : List Float) → view w₁ x₁ ≡ fresh_board s.hz s.vcc s.pins s.lines s.timers s.table
        → Answered s w x w₁ x₁ 0
    unfolding step
    replaced g w₁ x₁ b =
        let q = sym e ∙ not-false l h in
        let r = sym f ∙ not-false p g in
        record { number = rw (q, r); board = rw (q, r) b; words = λ n. absurd (n refl); reals = λ n. absurd (n refl) }
