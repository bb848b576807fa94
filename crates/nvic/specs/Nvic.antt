-- The interrupt part: lines with a level, a pending flag and the timers' wishes, and how words of memory hold them.
use Rattle.std.specs.Prelude.{Bool, false, cond, not, ◌&&◌, ◌||◌, List, [], ◌∷◌, map, ℕ, ◌+◌, ◌*◌, ◌/◌, ◌%◌, ◌^◌, ltb, eqb, get_or, set, replicate}

-- a line: its level, its pending flag, and for each of eight timers what "that timer's own latest `set_line` asked for" (document 02, F-7)
pub record Line : Type 0 where
  pub high : Bool
  pub pending : Bool
  pub wishes : List Bool

-- a line that is low and not pending, and that no timer wants high
abbrev pub idle : Line
idle = record { high = false; pending = false; wishes = replicate 8 false }

-- at least one wish
unfoldable pub some : List Bool → Bool
some [] = false
some (w ∷ ws) = w || some ws

-- "A line shall be high exactly when at least one timer naming it wants it high"; "Pending is still set only on a rise of the line", and a pending
-- line stays so
abbrev pub line_with : Line → List Bool → Line
line_with l ws = record { high = some ws; pending = (some ws && not l.high) || l.pending; wishes = ws }

-- `set_line` of timer i: its wish is the level, the other timers' stay
abbrev pub line_set : Line → ℕ → Bool → Line
line_set l i level = line_with l (set l.wishes i level)

-- a pending clear: the level and the wishes stay
abbrev pub line_cleared : Line → Line
line_cleared l = record { high = l.high; pending = false; wishes = l.wishes }

-- "1 if a line is high plus 2 if pending"
abbrev pub state_of : Line → ℕ
state_of l = cond l.high 1 0 + cond l.pending 2 0

-- nirq lines, numbered from 0; document 01 allows 0 to 256
pub record Nvic : Type 0 where
  pub nirq : ℕ
  pub lines : List Line

-- whether there is a line irq
abbrev pub has_line : ℕ → ℕ → Bool
has_line nirq irq = ltb irq nirq

-- line irq; "at or above the line count it is ignored and reads as low and not pending"
unfoldable pub line_at : Nvic → ℕ → Line
line_at n irq = cond (has_line n.nirq irq) (get_or n.lines irq idle) idle

-- line irq changed by f; at or above the line count nothing changes
unfoldable pub on_line : (Line → Line) → Nvic → ℕ → Nvic
on_line f n irq =
    cond (has_line n.nirq irq) (record { nirq = n.nirq; lines = set n.lines irq (f (line_at n irq)) }) n

-- line irq driven to a level by timer i
abbrev pub set_line : Nvic → ℕ → ℕ → Bool → Nvic
set_line n irq i level = on_line (λ l. line_set l i level) n irq

-- the pending flag of line irq cleared
abbrev pub clear_pending : Nvic → ℕ → Nvic
clear_pending n irq = on_line line_cleared n irq

-- the line that a word holds: bit 0 is the level, bit 1 is pending, bits 2 to 9 are the wishes of timers 0 to 7
abbrev pub wish_of : ℕ → ℕ → Bool
wish_of w i = eqb (w / (4 * 2 ^ i) % 2) 1

abbrev pub line_of : ℕ → Line
line_of w = record { high = eqb (w % 2) 1; pending = eqb (w / 2 % 2) 1; wishes = map (wish_of w) (0 ∷ 1 ∷ 2 ∷ 3 ∷ 4 ∷ 5 ∷ 6 ∷ 7 ∷ []) }

abbrev pub lines_of : List ℕ → List Line
lines_of ws = map line_of ws

-- the interrupt part that a count and words hold, one word for each line
abbrev pub nvic_of : ℕ → List ℕ → Nvic
nvic_of nirq ws = record { nirq = nirq; lines = lines_of ws }
