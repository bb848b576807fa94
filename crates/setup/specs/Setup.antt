-- Set-up from numbers: seven of each timer, in the order NUMBER WIDTH CHANNELS BUS WORD BIT IRQ of docs/CALLS.md; the mask of those in manual mode; and
-- the signal table.
use Rattle.std.specs.Prelude.{◌≡◌, Bool, cond, ◌&&◌, List, [], ◌∷◌, map, ℕ, zero, suc, ◌+◌, ◌*◌, ◌/◌, leb, Float, get_or, length}
use Rattle.std.proofs.Math.Seq.{paste}
use Rattle.rm0440.specs.Bits.{is_set}
use Rattle.tim.specs.declared.Inst.{Inst}
use Rattle.tim.specs.declared.Timer.{Timer}
use Rattle.tim.specs.Change.{reset_state}
use Rattle.machine.specs.Board.{Board, no_inst, with_pads}
use Rattle.machine.specs.Call.{Setup, set_up}
use Rattle.machine.specs.Step.{step}
use Rattle.state.specs.View.{view}

-- how many timers the numbers make; the last one may lack some of its seven
abbrev pub count_of : List ℕ → ℕ
count_of ns = (length ns + 6) / 7

-- timer i, in manual mode where bit i of the mask is 1 ("chosen per timer at set-up", F-2). One that lacks numbers is none at all, and its number 0 is refused: "timer numbers 1 to 24"
unfoldable pub inst_given : ℕ → List ℕ → ℕ → Inst
inst_given mask ns i = cond (leb (i * 7 + 7) (length ns))
    (record {
      n = get_or ns (i * 7) 0;
      width = get_or ns (i * 7 + 1) 0;
      channels = get_or ns (i * 7 + 2) 0;
      apb = get_or ns (i * 7 + 3) 0;
      en_reg = get_or ns (i * 7 + 4) 0;
      en_bit = get_or ns (i * 7 + 5) 0;
      irq = get_or ns (i * 7 + 6) 0;
      manual = is_set i mask;
    })
    no_inst

-- k timers from i on
unfoldable pub insts_from : ℕ → List ℕ → ℕ → ℕ → List Inst
insts_from mask ns zero i = []
insts_from mask ns (suc k) i = inst_given mask ns i ∷ insts_from mask ns k (i + 1)

abbrev pub insts_of : ℕ → List ℕ → List Inst
insts_of mask ns = insts_from mask ns (count_of ns) 0

abbrev pub setup_of : Float → Float → ℕ → ℕ → ℕ → List ℕ → List ℕ → Setup
setup_of hz vcc pins lines mask timers table = record { hz = hz; vcc = vcc; pins = pins; lines = lines; timers = insts_of mask timers; table = table }

-- 1 to 8 timers, 1 to 128 pins, up to 256 lines
abbrev pub sizes_good : ℕ → ℕ → ℕ → Bool
sizes_good timers pins lines = leb 1 timers && leb timers 8 && leb 1 pins && leb pins 128 && leb lines 256

-- ---- a board in the making

-- "starts as .. `Timer::new`"
abbrev pub timers_of : ℕ → List ℕ → List Timer
timers_of mask ns = map (λ (i : Inst). reset_state i 1) (insts_of mask ns)

-- the first n of the timers stand in the board
abbrev pub with_timers : Board → List Timer → ℕ → Board
with_timers b ts n = record { timers = paste b.timers 0 ts n; booking = b.booking; nvic = b.nvic; pads = b.pads; clocks = b.clocks; counts = b.counts }

-- the first n entries of the signal table stand in the board
abbrev pub with_table : Board → List ℕ → ℕ → Board
with_table b table n =
    with_pads b (record { gpio = b.pads.gpio; af = paste b.pads.af 0 table n; route = b.pads.route; sig_level = b.pads.sig_level; vcc = b.pads.vcc })

-- ---- the call

-- the number, the board, and "refused, it leaves that board": with a number other than 0 the lent arrays hold what they held
pub record Answered (s : Setup) (w : List ℕ) (x : List Float) (w₁ : List ℕ) (x₁ : List Float) (r : ℕ) : Type 0 where
  pub number : r ≡ (step (view w x) (set_up s)).number
  pub board : view w₁ x₁ ≡ (step (view w x) (set_up s)).board
  pub words : (r ≡ 0 → ⊥) → w₁ ≡ w
  pub reals : (r ≡ 0 → ⊥) → x₁ ≡ x
