-- A match delivered: the port's compare in either mode, and the machine's match that it is a part of. Assumes nothing.
use Prim.Native.Nat.{ℕ, zero, suc, ◌+◌, ◌<◌}
use mathlib.Core.Path.{◌≡◌, refl, ap, ◌∙◌}
use mathlib.Core.Bool.{Bool, true, false, cond, not, ◌&&◌, ◌||◌}
use native.Mathlib.Omega.{arith}
use lib.Dec.{lit<}
use lib.ListN.{get_or, set, length}
use lib.Seq.{get_or-set_same, get_or-set_other}
use Rattle.rm0440.specs.Output as Out
use Rattle.tim.specs.declared.Timer.{Timer}
use Rattle.tim.specs.Change as C
use Rattle.rm0440.specs.Rules.{Rules, manual_mode, Taken}
use Rattle.rm0440.specs.State as M
use Rattle.rm0440.specs.State.{CMS}
use Rattle.rm0440.specs.Clock.{flags, going, meets, matched, equal}
use Rattle.follows.proofs.Leap as Leap
use Rattle.follows.specs.Seen.{raw}
use Rattle.follows.proofs.Port.{compared}

-- ---- on the machine: channels that match at once may match one by one

abbrev pub hit_one : Rules → ℕ → M.Timer → M.Timer
hit_one r ch s =
    M.with_matches (M.with_sr (cond (flags r s) (M.with_bit (ch + 1) true s.sr) s.sr) s) (set s.ref ch (Out.at_match (M.mode s ch) (get_or s.ref ch false))) (set s.done ch true)

module _ (m : Taken) (s : M.Timer) where
  abbrev r : Rules
  r = manual_mode m

  other : (ch i : ℕ) → (i ≡ ch → ⊥) → meets r (hit_one r ch s) i ≡ meets r s i
  other ch i h = rw (get_or-set_other s.done ch i true false h)

  quash : (o e n d : Bool) → d ≡ true → o && (e && (false || (n && not d))) ≡ false
  quash o e n false h = absurd (let z : ◌≡◌ {A = ℕ} 0 1 = cc in omega arith)
  quash false e n true h = refl
  quash true false n true h = refl
  quash true true false true h = refl
  quash true true true true h = refl

  own : (ch : ℕ) → ch < length s.done → meets r (hit_one r ch s) ch ≡ false
  own ch h = quash (M.is_output s ch) (equal s ch) (going r s) (get_or (set s.done ch true) ch false) (get_or-set_same s.done ch true false h)

  absorb-0 : (b : Bool) → flags r s ≡ b → 0 < length s.done → meets r s 0 ≡ true → matched r (hit_one r 0 s) ≡ matched r s
  unfolding matched
  absorb-0 true f l m = rw (own 0 l, other 0 1 (λ e. omega arith), other 0 2 (λ e. omega arith), other 0 3 (λ e. omega arith), m, f)
  absorb-0 false f l m = rw (own 0 l, other 0 1 (λ e. omega arith), other 0 2 (λ e. omega arith), other 0 3 (λ e. omega arith), m, f)

  absorb-1 : (b : Bool) → flags r s ≡ b → 1 < length s.done → meets r s 1 ≡ true → meets r s 0 ≡ false → matched r (hit_one r 1 s) ≡ matched r s
  unfolding matched
  absorb-1 true f l m z = rw (own 1 l, other 1 0 (λ e. omega arith), other 1 2 (λ e. omega arith), other 1 3 (λ e. omega arith), m, z, f)
  absorb-1 false f l m z = rw (own 1 l, other 1 0 (λ e. omega arith), other 1 2 (λ e. omega arith), other 1 3 (λ e. omega arith), m, z, f)

  absorb-2 : (b : Bool) → flags r s ≡ b → 2 < length s.done → meets r s 2 ≡ true → meets r s 0 ≡ false → meets r s 1 ≡ false → matched r (hit_one r 2 s) ≡ matched r s
  unfolding matched
  absorb-2 true f l m z y = rw (own 2 l, other 2 0 (λ e. omega arith), other 2 1 (λ e. omega arith), other 2 3 (λ e. omega arith), m, z, y, f)
  absorb-2 false f l m z y = rw (own 2 l, other 2 0 (λ e. omega arith), other 2 1 (λ e. omega arith), other 2 3 (λ e. omega arith), m, z, y, f)

  absorb-3 : (b : Bool) → flags r s ≡ b → 3 < length s.done → meets r s 3 ≡ true → meets r s 0 ≡ false → meets r s 1 ≡ false → meets r s 2 ≡ false
      → matched r (hit_one r 3 s) ≡ matched r s
  unfolding matched
  absorb-3 true f l m z y x = rw (own 3 l, other 3 0 (λ e. omega arith), other 3 1 (λ e. omega arith), other 3 2 (λ e. omega arith), m, z, y, x, f)
  absorb-3 false f l m z y x = rw (own 3 l, other 3 0 (λ e. omega arith), other 3 1 (λ e. omega arith), other 3 2 (λ e. omega arith), m, z, y, x, f)

  absorb : (ch : ℕ) → ch < 4 → length s.done ≡ 4 → meets r s ch ≡ true → ((i : ℕ) → i < ch → meets r s i ≡ false) → matched r (hit_one r ch s) ≡ matched r s
  absorb zero h l m low = absorb-0 (flags r s) refl (omega arith) m
  absorb (suc zero) h l m low = absorb-1 (flags r s) refl (omega arith) m (low 0 (lit< tt))
  absorb (suc (suc zero)) h l m low = absorb-2 (flags r s) refl (omega arith) m (low 0 (lit< tt)) (low 1 (lit< tt))
  absorb (suc (suc (suc zero))) h l m low = absorb-3 (flags r s) refl (omega arith) m (low 0 (lit< tt)) (low 1 (lit< tt)) (low 2 (lit< tt))
  absorb (suc (suc (suc (suc ch)))) h l m low = absurd (omega arith)

-- ---- the port's event, k steps on the way

module _ (m : Taken) (t : Timer) (k : ℕ) where
  hits : (ch : ℕ) → ch < 4 → Leap.at (raw (compared m t ch)) 0 k ≡ hit_one (manual_mode m) ch (Leap.at (raw t) 0 k)
  unfolding compared C.cc_flag
  hits zero h = refl
  hits (suc zero) h = refl
  hits (suc (suc zero)) h = refl
  hits (suc (suc (suc zero))) h = refl
  hits (suc (suc (suc (suc ch)))) h = absurd (omega arith)

  pub absorbed : (ch : ℕ) → ch < 4 → length t.chan.cc_done ≡ 4 → meets (manual_mode m) (Leap.at (raw t) 0 k) ch ≡ true
      → ((i : ℕ) → i < ch → meets (manual_mode m) (Leap.at (raw t) 0 k) i ≡ false)
      → matched (manual_mode m) (Leap.at (raw (compared m t ch)) 0 k) ≡ matched (manual_mode m) (Leap.at (raw t) 0 k)
  absorbed ch h l e low = ap (matched (manual_mode m)) (hits ch h) ∙ absorb m (Leap.at (raw t) 0 k) ch h l e low
