-- Clocks of which only the counters move, edge-aligned and centre-aligned: the whole state, DIR included, is that of a place. Assumes nothing.
use Prim.Native.Nat.{ℕ, zero, suc, ◌+◌, ◌-◌, ◌/◌, ◌%◌, ◌≤◌, ◌<◌}
use mathlib.Core.Path.{◌≡◌, refl, sym, ap, ◌∙◌}
use mathlib.Core.Bool.{Bool, true, false, cond, not, ◌&&◌}
use native.Mathlib.Nat.{mod-lt, zero-mod, zero-div, add-zero, add-suc, mod-eq_of_lt, suc-mod}
use native.Mathlib.Numerals.{add-one}
use native.Mathlib.Omega.{arith}
use lib.Dec.{eqb, ltb, leb}
use borrow.Author.Tests.{ltb-true, ltb-false, lt-ltb, le-ltb}
use Rattle.rm0440.specs.Bits.{DIR}
use Rattle.rm0440.specs.Rules.{Rules}
use Rattle.rm0440.specs.State.{Timer, down, centre, with_bit, with_cr1, with_count}
use Rattle.rm0440.specs.Clock.{wraps, counted, restarted, blocked}
use Rattle.rm0440.specs.Late as Late
use Rattle.rm0440.specs.Late.{moved, passed}
use Rattle.follows.proofs.Leap.{inside-mod, inside-div, end-mod, end-div}
use Rattle.follows.proofs.Place.{period, Counter, at, turns, step}
use Rattle.follows.proofs.Periodic.{counter, round, Turnable}
use Rattle.follows.proofs.Centre.{wraps-is, centre-channels, centre-rule, dir-is, cms-stays}
use Rattle.follows.proofs.Dir.{dir-twice}

-- the state with its counter at k, q clocks into the next step; edge-aligned DIR is software's
abbrev pub put : Rules → Timer → ℕ → Counter → Timer
put r s q k = with_cr1 (cond (centre r s) (with_bit 4 k.down s.cr1) s.cr1) (with_count s true q k.cnt)

module _ (r : Rules) (s : Timer) (rule : r.above-reload ≡ false) (small : r.centre-aligned ≡ true → s.cr1 < 4294967296)
    (free : blocked r s ≡ false) where
  -- centre-aligned
  module _ (e : centre r s ≡ true) where
    abbrev turning : ℕ → Counter → Timer
    turning q k = with_cr1 (with_bit 4 k.down s.cr1) (with_count s true q k.cnt)

    put-turning : (q : ℕ) (k : Counter) → put r s q k ≡ turning q k
    put-turning q k = ap (λ (b : Bool). with_cr1 (cond b (with_bit 4 k.down s.cr1) s.cr1) (with_count s true q k.cnt)) e

    still : (q : ℕ) (k : Counter) → centre r (turning q k) ≡ true
    still q k = ap (λ (y : ℕ). r.centre-aligned && (not (eqb s.channels 0) && not (eqb y 0))) (cms-stays k.down s.cr1) ∙ e

    way : (q : ℕ) (k : Counter) → down (turning q k) ≡ k.down
    way q k = ap (λ (z : Bool). cond z false (DIR (with_bit 4 k.down s.cr1))) (centre-channels r s e) ∙ dir-is k.down s.cr1

    turns-so : (q : ℕ) (k : Counter) → wraps r (turning q k) ≡ turns true s.arr k.down k.cnt
    turns-so q k =
        wraps-is r (turning q k) rule
        ∙ ap (λ (c : Bool). turns c s.arr (down (turning q k)) k.cnt) (still q k)
        ∙ ap (λ (d : Bool). turns true s.arr d k.cnt) (way q k)

    restarted-so : (k : Counter) → restarted r (turning 0 k) ≡ turning 0 (counter (not k.down) (cond k.down 0 s.arr))
    unfolding restarted
    restarted-so k =
        ap (λ (c : Bool). cond c
        (with_cr1 (with_bit 4 (not (down (turning 0 k))) (with_bit 4 k.down s.cr1)) (with_count s true 0 (cond (down (turning 0 k)) 0 s.arr)))
        (with_count (turning 0 k) true 0 (cond (down (turning 0 k)) s.arr 0))) (still 0 k)
        ∙ ap (λ (d : Bool). with_cr1 (with_bit 4 (not d) (with_bit 4 k.down s.cr1)) (with_count s true 0 (cond d 0 s.arr))) (way 0 k)
        ∙ ap (λ (x : ℕ). with_cr1 x (with_count s true 0 (cond k.down 0 s.arr))) (dir-twice (not k.down) k.down s.cr1 (small (centre-rule r s e)))

    counted-so : (k : Counter) → counted (turning 0 k) ≡ turning 0 (counter k.down (cond k.down (k.cnt - 1) (k.cnt + 1)))
    counted-so k = ap (λ (d : Bool). turning 0 (counter k.down (cond d (k.cnt - 1) (k.cnt + 1)))) (way 0 k)

    moved-turning : (k : Counter) → moved r (turning 0 k) ≡ turning 0 (step true s.arr k)
    unfolding moved step
    moved-turning k =
        rw (turns-so 0 k, restarted-so k, counted-so k) (go (turns true s.arr k.down k.cnt))
      where
        go : (b : Bool) → cond b (turning 0 (counter (not k.down) (cond k.down 0 s.arr))) (turning 0 (counter k.down (cond k.down (k.cnt - 1) (k.cnt + 1))))
            ≡ turning 0 (cond b (counter (not k.down) (cond k.down 0 s.arr)) (counter k.down (cond k.down (k.cnt - 1) (k.cnt + 1))))
        go true = refl
        go false = refl

  -- edge-aligned
  module _ (e : centre r s ≡ false) where
    abbrev plain : ℕ → ℕ → Timer
    plain q x = with_count s true q x

    put-plain : (q : ℕ) (k : Counter) → put r s q k ≡ plain q k.cnt
    put-plain q k = ap (λ (b : Bool). with_cr1 (cond b (with_bit 4 k.down s.cr1) s.cr1) (with_count s true q k.cnt)) e

    moved_plain : (x : ℕ) → moved r (plain 0 x) ≡ plain 0 (step false s.arr (counter (down s) x)).cnt
    unfolding moved restarted step
    moved_plain x =
        rw (wraps-is r (plain 0 x) rule, e) (go (turns false s.arr (down s) x))
      where
        go : (b : Bool) → cond b (plain 0 (cond (down s) s.arr 0)) (plain 0 (cond (down s) (x - 1) (x + 1)))
            ≡ plain 0 (cond b (counter (down s) (cond (down s) s.arr 0)) (counter (down s) (cond (down s) (x - 1) (x + 1)))).cnt
        go true = refl
        go false = refl

  -- ---- by places

  abbrev here : ℕ → Counter
  here p = at (centre r s) (down s) s.arr p

  abbrev P : ℕ
  P = period (centre r s) s.arr

  moved-place : (p : ℕ) → p < P → moved r (put r s 0 (here p)) ≡ put r s 0 (here (suc p % P))
  moved-place p h = go (centre r s) refl
    where
      next : step (centre r s) s.arr (here p) ≡ here (suc p % P)
      next = round (centre r s) (down s) s.arr p h

      go : (b : Bool) → centre r s ≡ b → moved r (put r s 0 (here p)) ≡ put r s 0 (here (suc p % P))
      go true e =
          ap (moved r) (put-turning e 0 (here p)) ∙ moved-turning e (here p)
          ∙ ap (λ (k : Counter). turning e 0 k) (ap (λ (c : Bool). step c s.arr (here p)) (sym e) ∙ next) ∙ sym (put-turning e 0 (here (suc p % P)))
      go false e =
          let d : here p ≡ counter (down s) (here p).cnt = ap (λ (c : Bool). counter (cond c (leb s.arr p) (down s)) (here p).cnt) e in
          ap (moved r) (put-plain e 0 (here p)) ∙ moved_plain e (here p).cnt
          ∙ ap (λ (k : Counter). plain e 0 k.cnt) (ap (λ (c : Bool). step c s.arr (counter (down s) (here p).cnt)) (sym e) ∙ ap (step (centre r s) s.arr) (sym d) ∙ next)
          ∙ sym (put-plain e 0 (here (suc p % P)))

  -- q clocks into the step after p
  abbrev on : ℕ → ℕ → Timer
  on q p = put r s q (here p)

  abbrev per : ℕ
  per = s.psc + 1

  inside : (q p : ℕ) → q < s.psc → passed r (on q p) ≡ on (suc q) p
  unfolding passed
  inside q p h = rw (free, lt-ltb q s.psc h, add-one q)

  ends : (q p : ℕ) → s.psc ≤ q → p < P → passed r (on q p) ≡ on 0 (suc p % P)
  unfolding passed
  ends q p h l = rw (free, le-ltb q s.psc h) (moved-place p l)

  module _ (pos : Turnable (centre r s) s.arr) (p : ℕ) (in_p : p < P) where
    abbrev after : ℕ → Timer
    after n = on (n % per) ((p + n / per) % P)

    one : (m : ℕ) → passed r (after m) ≡ after (suc m)
    one m = go (ltb (m % per) s.psc) refl
      where
        ps : 0 < per
        ps = omega arith

        go : (b : Bool) → ltb (m % per) s.psc ≡ b → passed r (after m) ≡ after (suc m)
        go true e =
            let h : m % per < s.psc = ltb-true _ _ e in
            inside (m % per) ((p + m / per) % P) h ∙ rw (inside-mod m per ps (omega arith), inside-div m per ps (omega arith))
        go false e =
            let h : s.psc ≤ m % per = ltb-false _ _ e in
            let l : suc (m % per) ≡ per = omega (arith, mod-lt m {m = per} ps) in
            let x : suc ((p + m / per) % P) % P ≡ (p + suc (m / per)) % P = sym (suc-mod (p + m / per) P) ∙ ap (λ (y : ℕ). y % P) (sym (add-suc p (m / per))) in
            ends (m % per) ((p + m / per) % P) h (mod-lt (p + m / per) pos) ∙ ap (λ (y : ℕ). on 0 y) x ∙ rw (end-mod m per ps l, end-div m per ps l)

    -- n clocks: the counters alone have moved, by n / per places
    pub passes_on : (n : ℕ) → Late.passes r n (on 0 p) ≡ after n
    unfolding Late.passes
    passes_on zero = rw (zero-mod per, zero-div per, add-zero p, mod-eq_of_lt in_p)
    passes_on (suc n) = ap (passed r) (passes_on n) ∙ one n
