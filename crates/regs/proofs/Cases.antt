-- Registers: which case of a definition a write or a read takes. Assumes nothing.
use mathlib.Core.Path.{◌≡◌, refl, ◌∙◌, ap}
use mathlib.Core.Bool.{Bool, true, false, cond}
use Prim.Native.Nat.{ℕ, zero, suc, ◌+◌, ◌%◌, ◌≤◌, ◌<◌}
use Rattle.std.proofs.Common.{add-one}
use native.Mathlib.Nat.{div-one}
use borrow.Author.Tests.{ne_eqb, le-leb}
use Rattle.rm0440.specs.Bits.{is_set, CEN}
use Rattle.tim.specs.declared.Timer.{Timer}
use Rattle.tim.specs.Count.{synced}
use Rattle.tim.specs.Change.{started, stopped}
use Rattle.tim.specs.Timer.{with_cr1}
use Rattle.regs.specs.Regs.{cr1_written, turned, kept_cr1, egr_match, egr_update, egr_written, is_ccr}

-- bit 0
pub bit0-set : (x y : ℕ) → y ≡ x → y % 2 ≡ 1 → is_set 0 x ≡ true
bit0-set x y q h = rw (← q, div-one y, h)

pub bit0-clear : (x y : ℕ) → y ≡ x → (y % 2 ≡ 1 → ⊥) → is_set 0 x ≡ false
bit0-clear x y q h = rw (← q, div-one y) (ne_eqb (y % 2) 1 h)

bit0-same : (x y : ℕ) → x % 2 ≡ y % 2 → is_set 0 x ≡ is_set 0 y
bit0-same x y h = rw (div-one x, div-one y, h)

-- CEN before and after: kept the bits that CR1 keeps, s the timer synced, u it with CR1 written
module _ (t : Timer) (v now div : ℕ) {kept : ℕ} {s u : Timer} (k : kept ≡ kept_cr1 t v) (y : s ≡ synced t now) (w : u ≡ with_cr1 s kept) where
  stored : u ≡ with_cr1 (synced t now) (kept_cr1 t v)
  stored = w ∙ (ap (λ (x : Timer). with_cr1 x kept) y ∙ ap (λ (b : ℕ). with_cr1 (synced t now) b) k)

  pub cr1-stays : {r : Timer} → t.regs.cr1 % 2 ≡ kept % 2 → r ≡ turned t.regs.cr1 u → r ≡ cr1_written t v now div
  unfolding cr1_written
  cr1-stays n e =
      e ∙ (ap (turned t.regs.cr1) stored ∙ go (CEN (kept_cr1 t v)) (CEN t.regs.cr1) (bit0-same t.regs.cr1 (kept_cr1 t v) (n ∙ ap (λ (x : ℕ). x % 2) k)))
    where
      go : (new old : Bool) → old ≡ new
          → turned t.regs.cr1 (with_cr1 (synced t now) (kept_cr1 t v))
          ≡ cond new
          (cond old (turned t.regs.cr1 (with_cr1 (synced t now) (kept_cr1 t v))) (started (with_cr1 (synced t now) (kept_cr1 t v)) now div))
          (cond old (stopped (with_cr1 (synced t now) (kept_cr1 t v)) now) (turned t.regs.cr1 (with_cr1 (synced t now) (kept_cr1 t v))))
      go true true h = refl
      go true false h = cc
      go false true h = cc
      go false false h = refl

  pub cr1-starts : {r : Timer} → kept % 2 ≡ 1 → (t.regs.cr1 % 2 ≡ 1 → ⊥) → r ≡ started u now div → r ≡ cr1_written t v now div
  unfolding cr1_written
  cr1-starts n o e = e ∙ (ap (λ (x : Timer). started x now div) stored ∙ rw (bit0-set (kept_cr1 t v) kept k n, bit0-clear t.regs.cr1 t.regs.cr1 refl o))

  pub cr1-stops : {r : Timer} → (kept % 2 ≡ 1 → ⊥) → t.regs.cr1 % 2 ≡ 1 → r ≡ stopped u now → r ≡ cr1_written t v now div
  unfolding cr1_written
  cr1-stops n o e = e ∙ (ap (λ (x : Timer). stopped x now) stored ∙ rw (bit0-clear (kept_cr1 t v) kept k n, bit0-set t.regs.cr1 t.regs.cr1 refl o))

pub ccr-in : (off : ℕ) → 0x34 ≤ off → off ≤ 0x40 → is_ccr off ≡ true
ccr-in off l h = rw (le-leb 0x34 off l, le-leb off 0x40 h)

-- the first n channels matched, where EGR asks for it
pub egr_matches : ℕ → Timer → ℕ → Timer
egr_matches v t zero = t
egr_matches v t (suc n) = egr_match v n (egr_matches v t n)

pub egr-none : (v : ℕ) (t : Timer) → t ≡ egr_matches v t 0
unfolding egr_matches
egr-none v t = refl

pub egr-step : (v : ℕ) (t : Timer) (n : ℕ) → egr_matches v t (n + 1) ≡ egr_match v n (egr_matches v t n)
unfolding egr_matches
egr-step v t n = ap (egr_matches v t) (add-one n)

pub egr-four : (t : Timer) (v now div : ℕ) → egr_matches v (egr_update t v now div) 4 ≡ egr_written t v now div
unfolding egr_matches egr_written
egr-four t v now div = refl
