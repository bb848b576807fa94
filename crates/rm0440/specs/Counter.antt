-- Numbers of the counter that tim shares (RM0440, "Time-base unit" and "Counter modes"); the counter as a part of the whole timer is Clock's.
use Rattle.std.specs.Prelude.{Bool, cond, ℕ, zero, suc, ◌+◌, ◌-◌, ◌*◌, ◌/◌, ltb}

-- "Upcounting mode: the counter counts from 0 to the auto-reload value, then restarts from 0 and generates a counter overflow event."
-- The manual blocks a reload of 0 (docs/DIFFERENCES.md, reload-zero) and counts on from above the reload (above-reload).
unfoldable pub tick_up : ℕ → ℕ → ℕ
tick_up reload cnt = cond (ltb cnt reload) (suc cnt) 0

-- "Downcounting mode: the counter counts from the auto-reload value down to 0, then restarts from the auto-reload value and generates a counter underflow event."
unfoldable pub tick_down : ℕ → ℕ → ℕ
tick_down reload zero = reload
tick_down reload (suc cnt) = cnt

-- one step in the direction that DIR gives
-- whatever CMS (docs/DIFFERENCES.md, centre-aligned) and SMCR hold (slave-mode)
abbrev pub tick : Bool → ℕ → ℕ → ℕ
tick down reload cnt = cond down (tick_down reload cnt) (tick_up reload cnt)

-- the counter after n steps
unfoldable pub after : (ℕ → ℕ) → ℕ → ℕ → ℕ
after f zero cnt = cnt
after f (suc n) cnt = f (after f n cnt)

-- "The prescaler divides the counter clock frequency by any factor between 1 and 65536": cycles to a step, of the active prescaler and the kernel clock's divider
abbrev pub step_cycles : ℕ → ℕ → ℕ
step_cycles psc div = (psc + 1) * div

-- whole steps between two cycles
abbrev pub steps_between : ℕ → ℕ → ℕ → ℕ
steps_between base cycle t = (cycle - base) / t

-- the value at which counting starts again: 0 upward, the auto-reload value downward
abbrev pub restart : Bool → ℕ → ℕ
restart down reload = cond down reload 0
