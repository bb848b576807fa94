-- Laws of signal numbers, and document 01's figures.
use mathlib.Core.Path.{◌≡◌, refl}
use mathlib.Core.Bool.{false}
use mathlib.Core.List.{List, [], ◌∷◌, map}
use Prim.Native.Nat.{ℕ, ◌/◌, ◌≤◌, ◌<◌}
use native.Mathlib.Omega.{arith}
use borrow.Author.Tests.{le-leb, lt-leb}
use Rattle.sig.specs.Signal.{nsig, no_signal, uarts, tim_signal, is_uart, is_input}

-- the channels of timers 2 to 4 have signals below the number of signals
pub tim-lt : (n c : ℕ) → 2 ≤ n → n ≤ 4 → c < 4 → tim_signal n c < nsig
tim-lt n c l h k = omega arith

-- different channels have different signals
pub tim-injective : (n m c d : ℕ) → c < 4 → d < 4 → tim_signal n c ≡ tim_signal m d → (n ≡ m) × (c ≡ d)
tim-injective n m c d h k e = omega arith

-- a channel's signal is no signal of a UART, so it is no input
pub tim-no-uart : (n c k : ℕ) → c < 4 → is_uart (tim_signal n c) k ≡ false
unfolding is_uart
tim-no-uart n c k h =
    rw (le-leb 1 (tim_signal n c / 16) (omega arith), lt-leb (tim_signal n c / 16) uarts (omega arith))

pub tim-no-input : (n c : ℕ) → c < 4 → is_input (tim_signal n c) ≡ false
tim-no-input n c h = tim-no-uart n c 1 h

pub tim-not-none : (n c : ℕ) → tim_signal n c ≡ no_signal → ⊥
tim-not-none n c e = omega arith

-- document 01's figures of signals: a timer and a channel beside the expected signal
pub record Figure : Type 0 where
  pub timer : ℕ
  pub channel : ℕ
  pub signal : ℕ

unfoldable pub figures : List Figure
figures = record { timer = 2; channel = 0; signal = 194 } ∷ record { timer = 4; channel = 3; signal = 229 } ∷ []

-- the definition gives them all
pub figures-hold : map (λ f. tim_signal f.timer f.channel) figures ≡ map (λ f. f.signal) figures
unfolding figures
figures-hold = refl
