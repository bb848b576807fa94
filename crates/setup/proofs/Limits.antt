-- The limits, timer by timer and entry by entry: what is left to test gives the same answer. Assumes nothing.
use mathlib.Core.Path.{◌≡◌, refl, ap, sym, ◌∙◌}
use mathlib.Core.Bool.{Bool, true, false, not, ◌&&◌, false≢true}
use mathlib.Core.List.{List, [], ◌∷◌}
use Prim.Native.Nat.{ℕ, zero, suc, ◌+◌, ◌-◌, ◌*◌, ◌<◌, ◌≤◌}
use native.Mathlib.Omega.{arith}
use lib.Dec.{leb, ltb, eqb}
use lib.Ieee.{Float}
use lib.ListN.{length, get_or, drop}
use borrow.Author.Tests.{eq-eqb, ne_eqb, le-leb, lt-leb, leb-true, ltb-true, eqb-true}
use Rattle.std.specs.List.{slice_range, list_all, range_with_len}
use Rattle.std.proofs.lemmas.List.{get_or-take, get_or-drop}
use Rattle.real.specs.Real.{positive}
use Rattle.rm0440.specs.Bits.{is_set}
use Rattle.machine.specs.Board.{no_inst}
use Rattle.machine.specs.Step.{fresh, inst_good, insts_good, entries_below, within_limits}
use Rattle.setup.specs.Setup.{count_of, inst_given, insts_from, insts_of, setup_of, sizes_good}

first : (a b : Bool) → (a && b) ≡ true → a ≡ true
first true b h = refl
first false b h = h

second : (a b : Bool) → (a && b) ≡ true → b ≡ true
second true b h = h
second false b h = absurd (false≢true h)

-- what set-up's stores rest on
pub record Within (p l : ℕ) (ns ts : List ℕ) : Type 0 where
  pub timers : count_of ns ≤ 8
  pub pins : p ≤ 128
  pub lines : l ≤ 256
  pub table : length ts ≡ p * 16
  pub entries : entries_below 256 ts ≡ true

-- ---- a timer's numbers
module _ (mask : ℕ) (ns : List ℕ) (i : ℕ) where
  pub inst-lacking : length ns < i * 7 + 7 → no_inst ≡ inst_given mask ns i
  unfolding inst_given
  inst-lacking h = rw (lt-leb (i * 7 + 7) (length ns) h)

  cut-at : (k : ℕ) → k < 7 → get_or (slice_range ns (i * 7) (i * 7 + 7)) k 0 ≡ get_or ns (i * 7 + k) 0
  cut-at k h = get_or-take (i * 7 + 7 - i * 7) (drop (i * 7) ns) k 0 (omega arith) ∙ get_or-drop (i * 7) ns k 0

  pub inst-whole : (cut : List ℕ) → cut ≡ slice_range ns (i * 7) (i * 7 + 7) → i * 7 + 7 ≤ length ns
      → record {
        n = get_or cut 0 0;
        width = get_or cut 1 0;
        channels = get_or cut 2 0;
        apb = get_or cut 3 0;
        en_reg = get_or cut 4 0;
        en_bit = get_or cut 5 0;
        irq = get_or cut 6 0;
        manual = is_set i mask;
      } ≡ inst_given mask ns i
  unfolding inst_given
  inst-whole cut e h =
      let first : i * 7 + 0 ≡ i * 7 = omega arith in
      rw (
        e,
        cut-at 0 (omega arith),
        cut-at 1 (omega arith),
        cut-at 2 (omega arith),
        cut-at 3 (omega arith),
        cut-at 4 (omega arith),
        cut-at 5 (omega arith),
        cut-at 6 (omega arith),
        first,
        le-leb (i * 7 + 7) (length ns) h,
      )

-- ---- the timers from one on
module _ (mask : ℕ) (ns : List ℕ) where
  -- timer i has another number
  abbrev pub other : ℕ → ℕ → Bool
  other n i = not (eqb (inst_given mask ns i).n n)

  -- timer i keeps the limits, and none of the later ones has its number
  abbrev pub fits-in : ℕ → ℕ → Bool
  fits-in count i = inst_good (inst_given mask ns i) && fresh (inst_given mask ns i).n (insts_from mask ns (count - (i + 1)) (i + 1))

  pub all-other : (n k i : ℕ) → list_all (other n) (range_with_len i k) ≡ fresh n (insts_from mask ns k i)
  unfolding insts_from fresh
  all-other n zero i = refl
  all-other n (suc k) i = ap (λ (b : Bool). other n i && b) (all-other n k (i + 1))

  pub all-fit : (count k i : ℕ) → i + k ≡ count → list_all (fits-in count) (range_with_len i k) ≡ insts_good (insts_from mask ns k i)
  unfolding insts_from insts_good
  all-fit count zero i e = refl
  all-fit count (suc k) i e = let m : count - (i + 1) ≡ k = omega (arith, e) in rw (m, all-fit count k (i + 1) (omega (arith, e)))

-- ---- the signal table

pub all-below : (l : List ℕ) → list_all (λ x. ltb x 256) l ≡ entries_below 256 l
unfolding entries_below
all-below [] = refl
all-below (x ∷ l) = ap (λ (b : Bool). ltb x 256 && b) (all-below l)

pub entry_at : (l : List ℕ) (k : ℕ) → entries_below 256 l ≡ true → k < length l → get_or l k 0 < 256
unfolding entries_below
entry_at [] k e h = absurd (omega arith)
entry_at (x ∷ l) zero e h = ltb-true x 256 (first (ltb x 256) (entries_below 256 l) e)
entry_at (x ∷ l) (suc k) e h = entry_at l k (second (ltb x 256) (entries_below 256 l) e) (omega arith)

-- ---- all of them
pub length-insts : (mask : ℕ) (ns : List ℕ) (k i : ℕ) → length (insts_from mask ns k i) ≡ k
unfolding insts_from
length-insts mask ns zero i = refl
length-insts mask ns (suc k) i = ap suc (length-insts mask ns k (i + 1))

pub few-timers : (timers pins lines : ℕ) → sizes_good timers pins lines ≡ true → timers ≤ 8
few-timers timers pins lines h =
    let a₁ = leb 1 timers in
    let a₂ = a₁ && leb timers 8 in
    let a₃ = a₂ && leb 1 pins in
    let a₄ = a₃ && leb pins 128 in
    leb-true timers 8 (second a₁ (leb timers 8) (first a₂ (leb 1 pins) (first a₃ (leb pins 128) (first a₄ (leb lines 256) h))))

module _ (hz vcc : Float) (pins lines mask : ℕ) (ns table : List ℕ) where
  abbrev limits : Bool
  limits = within_limits (setup_of hz vcc pins lines mask ns table)

  module _ (count : ℕ) (n : count ≡ count_of ns) where
    limits-are : limits ≡ (sizes_good count pins lines && insts_good (insts_from mask ns count 0) && positive vcc && eqb (length table) (pins * 16) && entries_below 256 table)
    unfolding within_limits
    limits-are = rw (n, length-insts mask ns (count_of ns) 0)

    pub sizes-bad : sizes_good count pins lines ≡ false → false ≡ limits
    sizes-bad e = sym (limits-are ∙ rw e)

    module _ (s : sizes_good count pins lines ≡ true) where
      pub timers-bad : insts_good (insts_from mask ns count 0) ≡ false → false ≡ limits
      timers-bad e = sym (limits-are ∙ rw (s, e))

      module _ (t : insts_good (insts_from mask ns count 0) ≡ true) where
        pub supply-bad : positive vcc ≡ false → false ≡ limits
        supply-bad e = sym (limits-are ∙ rw (s, t, e))

        module _ (v : positive vcc ≡ true) where
          pub table-bad : (length table ≡ pins * 16 → ⊥) → false ≡ limits
          table-bad e = sym (limits-are ∙ rw (s, t, v, ne_eqb (length table) (pins * 16) e))

          pub table-decides : length table ≡ pins * 16 → entries_below 256 table ≡ limits
          table-decides e = sym (limits-are ∙ rw (s, t, v, eq-eqb (length table) (pins * 16) e))

  -- what the limits say of the sizes and the table
  pub within : limits ≡ true → Within pins lines ns table
  within h =
      let a₁ = leb 1 (count_of ns) in
      let a₂ = a₁ && leb (count_of ns) 8 in
      let a₃ = a₂ && leb 1 pins in
      let a₄ = a₃ && leb pins 128 in
      let a₅ = a₄ && leb lines 256 in
      let a₆ = a₅ && insts_good (insts_of mask ns) in
      let a₇ = a₆ && positive vcc in
      let a₈ = a₇ && eqb (length table) (pins * 16) in
      let h₉ = sym (limits-are (count_of ns) refl) ∙ h in
      let h₈ = first a₈ (entries_below 256 table) h₉ in
      let h₇ = first a₇ (eqb (length table) (pins * 16)) h₈ in
      let h₅ = first a₅ (insts_good (insts_of mask ns)) (first a₆ (positive vcc) h₇) in
      let h₄ = first a₄ (leb lines 256) h₅ in
      let h₂ = first a₂ (leb 1 pins) (first a₃ (leb pins 128) h₄) in
      record {
        timers = leb-true (count_of ns) 8 (second a₁ (leb (count_of ns) 8) h₂);
        pins = leb-true pins 128 (second a₃ (leb pins 128) h₄);
        lines = leb-true lines 256 (second a₄ (leb lines 256) h₅);
        table = eqb-true (length table) (pins * 16) (second a₇ (eqb (length table) (pins * 16)) h₈);
        entries = second a₈ (entries_below 256 table) h₉;
      }
