-- The timer that feeds a signal, and its channel, where there is one.
use Rattle.std.specs.Prelude.{◌≡◌, ◌<◌, ℕ, Option, Some, None, IfSome}
use Rattle.machine.specs.Board.{Board, timer_at}
use Rattle.machine.specs.Why.{channel_of}
use Rattle.why.specs.declared.Feed.{Feed}

-- the timer's index, and n where there is none
abbrev pub index_or : ℕ → Option Feed → ℕ
index_or n None = n
index_or n (Some f) = f.timer.n

-- it is one of the board's, and the signal is its channel's
abbrev pub IsFed : Board → ℕ → Option Feed → Type 0
IsFed b s f = IfSome f (λ y. (y.timer.n < b.counts.timers) × (y.channel.n ≡ channel_of (timer_at b y.timer.n).inst s))
