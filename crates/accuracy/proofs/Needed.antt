-- Twelve lists of calls in each of which one single condition of the claim fails, and with it the bound. By computation from the first
-- board on. That another pin took the channel is no condition any more: such a setting is refused (11).
use Prim.Native.Nat.{ℕ, ◌+◌, ◌-◌, ◌*◌}
use mathlib.Core.Path.{◌≡◌, refl, sym, ap, ◌∙◌}
use mathlib.Core.Bool.{Bool, true, ◌&&◌, false}
use mathlib.Core.List.{List, [], ◌∷◌, map}
use lib.Dec.{leb}
use borrow.Author.Tests.{le-leb}
use lib.ListN.{get_or, replicate, set, drop}
use Rattle.machine.specs.Call.{Call, set_up, enable, write}
use Rattle.machine.specs.Step.{step}
use Rattle.accuracy.specs.Claim.{WithinBound, steady, board₁}
use Rattle.accuracy.proofs.Computed.{computed}
use Rattle.accuracy.proofs.Tests.{never}
use Rattle.accuracy.proofs.Quick.{suffice}
use Rattle.accuracy.proofs.Bench.{setup_by, wire, prepared, plain, usual, bench, Trial, pilot, tests_by, tests, passed, Seen, seen_by, seen, board₂, entries, trial-tests, trial-seen}

-- the failing test by its number, the calls, a window in the span, and the window's highs
pub record Case : Type 0 where
  pub fails : ℕ
  pub trial : Trial
  pub a : ℕ
  pub W : ℕ
  pub H : ℕ

abbrev case : ℕ → List Call → ℕ → List Call → ℕ → ℕ → ℕ → ℕ → Case
case n before cr1 since last a W H = record { fails = n; trial = record { before = before; cr1 = cr1; since = since; last = last }; a = a; W = W; H = H }

unfoldable pub cases : List Case
cases =
    case 3 usual 0x11 [] 120 117 4 4  -- counting down: high for 4 cycles of 10
    ∷ case 4 (prepared 5 plain 0 0x60 1) 1 [] 120 110 8 0  -- timer 5 never drives: the pin stays low
    ∷ case 6 (prepared 2 plain 0x80 0x60 1) 0x83 [] 4294967410 4294967399 8 0  -- ARPE and UDIS, so that the reload waits for ever: a period of 2^32 cycles
    ∷ case 7 (prepared 2 plain 0 0x68 1) 3 [] 120 110 8 0  -- OC1PE and UDIS, so that the compare waits for ever: the pin stays low
    ∷ case 8 usual 9 [] 120 110 4 4  -- one-pulse: the timer stops at its first update, the pin high
    ∷ case 10 (prepared 2 plain 0 0x61 1) 1 [] 120 110 8 0  -- an input: the pin stays low
    ∷ case 11 (prepared 2 plain 0 0x60 0) 1 [] 120 110 8 0  -- CC1E clear: the pin stays low
    ∷ case 12 (prepared 2 plain 0 0x60 3) 1 [] 120 113 4 4  -- CC1P set: high for 7 cycles of 10
    ∷ case 13 (prepared 2 plain 0 0x70 1) 1 [] 120 113 4 4  -- PWM mode 2: high for 7 cycles of 10
    ∷ case 15 (prepared 2 (wire 0 1 0 ∷ []) 0 0x60 1) 1 [] 120 110 8 0  -- open drain, with nothing that pulls up: the pin stays low
    ∷ case 18 usual 1 (write 0 0x34 4 7 101 4 ∷ []) 120 110 4 4  -- the compare is written after the start: high for 7 cycles of 10
    ∷ []

-- every condition but one holds, the window lies in the span, and its highs are these; the period is 10, high for 3
abbrev pub outcome : Case → List Bool × Seen
outcome c = (tests (pilot c.trial), seen (pilot c.trial) c.a c.W)

abbrev pub expected : Case → List Bool × Seen
expected c = (set passed c.fails false, record { inside = true; highs-are = c.H; period-is = 10; high_is = 3 })

-- by few events
abbrev quickly : Case → Bool × (List Bool × Seen)
quickly c =
    let π = pilot c.trial in (
      suffice (board₂ c.trial) c.trial.last,
      (tests_by π (steady 0 0 (board₁ π) c.trial.since), seen_by π c.a c.W (c.trial.last + 1) (entries c.trial)),
    )

abbrev wanted : Case → Bool × (List Bool × Seen)
wanted c = (true, expected c)

one-by : (c : Case) → quickly c ≡ wanted c → outcome c ≡ expected c
one-by c e =
    pair (trial-tests c.trial ∙ ap (λ (x : Bool × (List Bool × Seen)). x.1.0) e)
    (trial-seen c.trial (ap (λ (x : Bool × (List Bool × Seen)). x.0) e) c.a c.W ∙ ap (λ (x : Bool × (List Bool × Seen)). x.1.1) e)
  where
    pair : {l m : List Bool} {x y : Seen} → l ≡ m → x ≡ y → ◌≡◌ {A = List Bool × Seen} (l, x) (m, y)
    pair p q = cc

all-by : (cs : List Case) → map quickly cs ≡ map wanted cs → map outcome cs ≡ map expected cs
all-by [] e = refl
all-by (c ∷ cs) e =
    let first = one-by c (ap (λ (l : List (Bool × (List Bool × Seen))). get_or l 0 (quickly c)) e) in
    let rest = all-by cs (ap (drop 1) e) in
    rw (first, rest)

pub cases-hold : map outcome cases ≡ map expected cases
unfolding computed cases tests_by seen_by
cases-hold = all-by cases refl

-- the bound as a test, of the figures
abbrev pub keeps : ℕ → ℕ → ℕ → ℕ → Bool
keeps H W P D = leb (H * P) (W * D + D * (P - D)) && leb (W * D) (H * P + D * (P - D))

-- the twelfth: in manual mode a reload of 0, counter 5 and compare 3. The counter is blocked and the pin stays low, where a period of one step that
-- is high throughout would ask for W highs
abbrev pub held : Trial
held = record {
  before =
      set_up (setup_by true 2) ∷ enable 0 1 ∷ wire 0 0 0 ∷ write 0 0x18 4 0x60 0 4 ∷ write 0 0x20 4 1 0 4 ∷ write 0 0x2c 4 0 0 4 ∷ write 0 0x34 4 3 0 4 ∷ write 0 0x24 4 5 0 4 ∷ [];
  cr1 = 1;
  since = [];
  last = 120;
}

pub held-fails : (tests (pilot held) ≡ set passed 17 false) × (seen (pilot held) 110 8 ≡ record { inside = true; highs-are = 0; period-is = 1; high_is = 1 })
    × (keeps 0 8 1 1 ≡ false)
unfolding computed tests_by seen_by
held-fails = (trial-tests held, trial-seen held refl 110 8, refl)

-- another pin asks for the bench pilot's channel after the start
pub another-pin : (step (board₁ (pilot bench)) (wire 1 0 101)).number ≡ 11
unfolding computed
another-pin = refl

pub cases-fail : map (λ (c : Case). keeps c.H c.W 10 3) cases ≡ replicate 11 false
unfolding cases
cases-fail = refl

pub apart_by : (H W P D : ℕ) → keeps H W P D ≡ false → WithinBound H W P D → ⊥
apart_by H W P D e w =
    never (sym e ∙ rw (le-leb (H * P) (W * D + D * (P - D)) w.above, le-leb (W * D) (H * P + D * (P - D)) w.below))
