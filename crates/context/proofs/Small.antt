-- Bounds: of enable words, of dividers, of a timer retimed. Assumes nothing.
use mathlib.Core.Path.{◌≡◌, refl, ap, sym, ◌∙◌}
use mathlib.Core.Bool.{Bool, true, false, cond, ◌&&◌, false≢true}
use mathlib.Core.List.{List}
use Prim.Native.Nat.{ℕ, ◌/◌, ◌≤◌, ◌<◌, ◌^◌}
use native.Mathlib.Omega.{arith}
use native.Mathlib.Nat.{zero-div, div-eq_of_lt, lt_of_lt_of_le}
use lib.Dec.{leb, eqb}
use lib.Ieee.{Float}
use lib.ListN.{length, get_or, get_or-eq_default}
use lib.Pow.{pow_mono}
use borrow.Author.Tests.{leb-true}
use Rattle.real.specs.Real.{positive}
use Rattle.rm0440.specs.Bits.{is_set}
use Rattle.tim.specs.declared.Timer.{Timer}
use Rattle.tim.specs.declared.Inst.{Inst}
use Rattle.tim.specs.Timer.{Fit}
use Rattle.tim.specs.Change.{retimed}
use Rattle.tim.proofs.Fit.{fit-retimed}
use Rattle.clk.specs.declared.ClockTree.{ClockTree}
use Rattle.clk.specs.Clk.{good, in_range, timer_div}
use Rattle.state.specs.Board.{Divider, Divided}
use Rattle.state.specs.View.{view}
use Rattle.state.proofs.InRange.{bounded}
use Rattle.machine.specs.Board.{timer_at}
use Rattle.machine.specs.Step.{clock_on}

-- ---- enable words
no-high : (e k : ℕ) → e / 2 ^ k ≡ 0 → false ≡ is_set k e
no-high e k h = rw h

module _ (w : List ℕ) (x : List Float) (i : ℕ) (n : Inst) (load : n ≡ (timer_at (view w x) i).inst) where
  -- the bit of its word
  pub enabled : (e : ℕ) → e ≡ get_or (view w x).clocks.enr n.en_reg 0 → is_set n.en_bit e ≡ clock_on (view w x) (timer_at (view w x) i)
  enabled e h =
      ap (is_set n.en_bit) h ∙ ap (λ (k : Inst). is_set k.en_bit (get_or (view w x).clocks.enr k.en_reg 0)) load

  pub no_word : 9 ≤ n.en_reg → false ≡ clock_on (view w x) (timer_at (view w x) i)
  no_word h =
      no-high 0 n.en_bit (zero-div (2 ^ n.en_bit))
      ∙ enabled 0 (sym (get_or-eq_default (view w x).clocks.enr 0 {n = n.en_reg} (rw (bounded w x).enr-length h)))

  pub no-bit : 32 ≤ n.en_bit → false ≡ clock_on (view w x) (timer_at (view w x) i)
  no-bit h =
      let e : ℕ = get_or (view w x).clocks.enr n.en_reg 0 in
      no-high e n.en_bit (div-eq_of_lt (lt_of_lt_of_le ((bounded w x).enr-lt n.en_reg) (pow_mono {i = 32} {j = n.en_bit} h)))
      ∙ enabled e refl

-- ---- dividers
either : {A : Type 0} (P : A → Type 0) (b : Bool) {x y : A} → P x → P y → P (cond b x y)
either P true p q = p
either P false p q = q

pub timer-divider : (t : ClockTree) (apb : ℕ) → Divided t → Divider (timer_div t apb)
unfolding timer_div
timer-divider t apb d =
    either Divider (eqb apb 1) d.tim1 (either Divider (eqb apb 2) d.tim2 (either Divider (eqb apb 3) d.ppre3 d.ppre4))

first : (a b : Bool) → (a && b) ≡ true → a ≡ true
first true b h = refl
first false b h = h

second : (a b : Bool) → (a && b) ≡ true → b ≡ true
second true b h = h
second false b h = absurd (false≢true h)

in-range : (d : ℕ) → in_range d ≡ true → Divider d
in-range d h = record { pos = leb-true 1 d (first (leb 1 d) (leb d 8192) h); le = leb-true d 8192 (second (leb 1 d) (leb d 8192) h) }

-- tests before, and six dividers in range
divided : (p : Bool) (t : ClockTree)
    → (p && in_range t.ppre1 && in_range t.ppre2 && in_range t.ppre3 && in_range t.ppre4 && in_range t.tim1 && in_range t.tim2) ≡ true → Divided t
divided p t h =
    let p₁ = p && in_range t.ppre1 in
    let p₂ = p₁ && in_range t.ppre2 in
    let p₃ = p₂ && in_range t.ppre3 in
    let p₄ = p₃ && in_range t.ppre4 in
    let p₅ = p₄ && in_range t.tim1 in
    let h₅ = first p₅ (in_range t.tim2) h in
    let h₄ = first p₄ (in_range t.tim1) h₅ in
    let h₃ = first p₃ (in_range t.ppre4) h₄ in
    let h₂ = first p₂ (in_range t.ppre3) h₃ in
    let h₁ = first p₁ (in_range t.ppre2) h₂ in
    record {
      ppre1 = in-range t.ppre1 (second p (in_range t.ppre1) h₁);
      ppre2 = in-range t.ppre2 (second p₁ (in_range t.ppre2) h₂);
      ppre3 = in-range t.ppre3 (second p₂ (in_range t.ppre3) h₃);
      ppre4 = in-range t.ppre4 (second p₃ (in_range t.ppre4) h₄);
      tim1 = in-range t.tim1 (second p₄ (in_range t.tim1) h₅);
      tim2 = in-range t.tim2 (second p₅ (in_range t.tim2) h);
    }

pub good-divided : (t : ClockTree) → good t ≡ true → Divided t
unfolding good
good-divided t h = divided (positive t.sysclk_hz && positive t.hclk_hz) t h

-- ---- a timer of the board, and retimed
pub loaded-fit : (w : List ℕ) (x : List Float) (i : ℕ) (t : Timer) → t ≡ timer_at (view w x) i → Fit t
loaded-fit w x i t h = rw h ((bounded w x).timer-fit i)

pub of-eight : (w : List ℕ) (x : List Float) (i : ℕ) → i < 8 → i < length (view w x).timers
of-eight w x i h = omega (arith, (bounded w x).timers-length)

pub retimed-fit : (t s : Timer) (cycle div : ℕ) → Fit t → s ≡ retimed t cycle div → cycle < 9223372036854775808 → 1 ≤ div → div ≤ 8192 → Fit s
retimed-fit t s cycle div f h c p d = rw h (fit-retimed t f cycle div c p d)
