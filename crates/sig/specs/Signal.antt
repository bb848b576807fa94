-- Signal numbers: what a pin's alternate function connects the pin to.
use Rattle.std.specs.Prelude.{Bool, cond, ◌&&◌, ℕ, ◌+◌, ◌*◌, ◌/◌, ◌%◌, leb, eqb}

-- how many signals there are; the number that stands for no signal; how many UARTs there are
abbrev pub nsig : ℕ
nsig = 256

abbrev pub no_signal : ℕ
no_signal = 0

abbrev pub uarts : ℕ
uarts = 9

-- "signal of timer n, channel c (from 0): 16 × (n + 10) + c + 2"
abbrev pub tim_signal : ℕ → ℕ → ℕ
tim_signal n c = 16 * (n + 10) + c + 2

-- s is the signal 16 × p + k of a UART p, p from 1 to 9: transmit is k = 0, receive is k = 1
unfoldable pub is_uart : ℕ → ℕ → Bool
is_uart s k = leb 1 (s / 16) && leb (s / 16) uarts && eqb (s % 16) k

-- the input signals are the UARTs' receive signals: their pin stays an input
abbrev pub is_input : ℕ → Bool
is_input s = is_uart s 1

-- the level that a signal starts with: an idle transmit signal is high
abbrev pub idle_level : ℕ → ℕ
idle_level s = cond (is_uart s 0) 1 0
