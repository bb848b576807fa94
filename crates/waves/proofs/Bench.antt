-- The bench pilot of document 01 meets the premises of specs/Waves.antt: its timer after the start at cycle 100. By computation from the first board on.
use Prim.Native.Nat.{ℕ, ◌≤◌}
use mathlib.Core.Path.{◌≡◌, refl, sym, ap}
use mathlib.Core.Bool.{true, false}
use mathlib.Core.List.{List, [], ◌∷◌, ◌++◌}
use native.Mathlib.Omega.{arith}
use borrow.Author.Tests.{ltb-true, leb-true}
use Rattle.rm0440.specs.Clock.{clocks}
use Rattle.rm0440.specs.Level.{level}
use Rattle.tim.specs.declared.Timer.{Timer}
use Rattle.gpio.specs.Gpio.{bit}
use Rattle.book.specs.Level.{level_at}
use Rattle.machine.specs.Board.{Board, timer_at}
use Rattle.machine.specs.Call as C
use Rattle.machine.specs.Deliver.{handled}
use Rattle.machine.specs.Demand1.{reached}
use Rattle.machine.proofs.Reach.{sound-after}
use Rattle.accuracy.proofs.Computed.{computed}
use Rattle.accuracy.proofs.Bench.{usual}
use Rattle.follows.specs.Seen.{seen, rules_of}
use Rattle.follows.specs.Follows.{Call, between}
use Rattle.follows.proofs.Theorem.{follows}
use Rattle.boards.specs.Boards.{div_of}
use Rattle.boards.proofs.Kept.{kept-after}
use Rattle.waves.specs.Waves.{shown, DrivenPin}
use Rattle.waves.proofs.Waved.{waves}

-- timer 2, PWM mode 1, reload 9, compare 3; started at cycle 100
abbrev cs : List C.Call
cs = usual ++ (C.write 0 0x00 4 1 100 4 ∷ [])

abbrev b : Board
b = reached cs

abbrev t : Timer
t = timer_at b 0

abbrev div : ℕ
div = div_of b 0

call_at : (c : ℕ) → 100 ≤ c → Call t div c
unfolding computed
call_at c le = record {
  timed = (kept-after cs 0 (ltb-true 0 b.counts.timers refl)).timed;
  within = λ r. leb-true t.count.cnt0 t.count.arr_act refl;
  came = omega arith;
}

-- its compare is not done
not_done : {A : Type 0} → false ≡ true → A
not_done e = absurd (let z : ◌≡◌ {A = ℕ} 0 1 = cc in omega arith)

pub pilot : DrivenPin t div 100 0 0 b.pads
unfolding computed
pilot = record {
  call = call_at 100 (leb-true 100 100 refl);
  quiet = refl;
  drives = refl;
  channel = ltb-true 0 4 refl;
  has = ltb-true 0 4 refl;
  pads = (sound-after cs).pads;
  pin-is = ltb-true 0 128 refl;
  route = refl;
  push-pull = refl;
  settled = λ d. not_done d;
  shows = λ c le d. ap bit (sym (follows.stays t div 0 c (call_at c le) refl (ltb-true 0 4 refl) (λ j l e. not_done e) d));
}

-- a delivery at cycle 140 is answered 0, and the record is the machine's at every cycle from 100 on
pub answered : (handled 20 140 div 100 t b.pads).number ≡ 0
unfolding computed
answered = refl

pub bench-waves : (c : ℕ) → 100 ≤ c → c ≤ 140
    → level_at 0 (handled 20 140 div 100 t b.pads).entries (shown b.pads 0) c ≡ bit (level (clocks (rules_of t) (between t div 100 c) (seen t div 100)) 0)
bench-waves c lo hi = waves 20 100 140 t div 100 0 0 b.pads pilot answered c lo hi

-- "high at 100: edges low 103, high 110, low 113"
pub figures : level_at 0 (handled 20 140 div 100 t b.pads).entries (shown b.pads 0) 102 ∷ level_at 0 (handled 20 140 div 100 t b.pads).entries (shown b.pads 0) 103
    ∷ level_at 0 (handled 20 140 div 100 t b.pads).entries (shown b.pads 0) 110 ∷ [] ≡ 1 ∷ 0 ∷ 1 ∷ []
unfolding computed
figures = refl
