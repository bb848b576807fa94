-- Where RM0440 and the Rust disagree, by the names of docs/DIFFERENCES.md. The machine has both rules side by side at the
-- one place that each concerns: `cond r.NAME (the manual's) (the Rust's)`.
use Rattle.std.specs.Prelude.{Bool, true, false}

-- true: as RM0440 has it
pub record Rules : Type 0 where
  -- the counter
  pub reload-zero : Bool
  pub above-reload : Bool
  pub centre-aligned : Bool
  pub start-delay : Bool
  pub stop-phase : Bool
  pub cnt-write-phase : Bool
  -- update and preload
  pub one-pulse : Bool
  pub one-pulse-udis : Bool
  pub one-pulse-ug : Bool
  pub ug-under-udis : Bool
  pub preload-cleared : Bool
  -- compare and output. done-equality is match-again, stopped-match and one-pulse-last-match too: which count is a match
  pub done-equality : Bool
  pub compare-above-reload : Bool
  pub mode-change-latch : Bool
  pub ccg-latches : Bool
  pub trigger-generation : Bool

-- the rules that document 02's manual mode takes from the manual, each by a request: F-2, F-6, F-8, F-11
pub record Taken : Type 0 where
  pub one-pulse : Bool
  pub reload-zero : Bool
  pub centre-aligned : Bool
  pub one-pulse-udis : Bool

-- those as m says, all the others by b
abbrev pub rules : Bool → Taken → Rules
rules b m = record {
  reload-zero = m.reload-zero;
  above-reload = b;
  centre-aligned = m.centre-aligned;
  start-delay = b;
  stop-phase = b;
  cnt-write-phase = b;
  one-pulse = m.one-pulse;
  one-pulse-udis = m.one-pulse-udis;
  one-pulse-ug = b;
  ug-under-udis = b;
  preload-cleared = b;
  done-equality = b;
  compare-above-reload = b;
  mode-change-latch = b;
  ccg-latches = b;
  trigger-generation = b;
}

abbrev pub all_taken : Taken
all_taken = record { one-pulse = true; reload-zero = true; centre-aligned = true; one-pulse-udis = true }

abbrev pub manual : Rules
manual = rules true all_taken

-- the Rust's rules but for what is taken
abbrev pub manual_mode : Taken → Rules
manual_mode m = rules false m

-- what the port's timer takes, in manual mode or not: one-pulse, as F-2 asks, reload-zero, as F-6, and one-pulse-udis, as F-11. F-8 switches the one
-- that is left.
abbrev pub port_takes : Bool → Taken
port_takes on = record { one-pulse = on; reload-zero = on; centre-aligned = false; one-pulse-udis = on }

-- the rules of the port's timer; without manual mode they are the Rust's
abbrev pub port_rules : Bool → Rules
port_rules on = manual_mode (port_takes on)

abbrev pub rust : Rules
rust = port_rules false
