-- Deliveries one after the other, and of a timer with events due at its reference. Assumes nothing.
use Prim.Native.Nat.{ℕ, zero, suc, ◌+◌, ◌-◌, ◌≤◌}
use mathlib.Core.Path.{◌≡◌, refl, sym, ap, ◌∙◌}
use mathlib.Core.Bool.{Bool, true, false, cond}
use native.Mathlib.Nat.{zero-add, le_trans}
use native.Mathlib.Omega.{arith}
use lib.Dec.{leb}
use borrow.Author.Tests.{leb-true, leb-false, le-leb}
use Rattle.rm0440.specs.Rules.{port_takes}
use Rattle.rm0440.specs.State as M
use Rattle.rm0440.specs.Clock.{matched, clocks}
use Rattle.tim.specs.declared.Timer.{Timer}
use Rattle.tim.specs.declared.Due.{Due}
use Rattle.tim.specs.declared.Due.TheVariants.{At, Stopped}
use Rattle.tim.specs.Timer.{down}
use Rattle.tim.specs.Count.{counts}
use Rattle.tim.specs.Next.{next_event}
use Rattle.stepping.proofs.Agrees.{event-overflown}
use Rattle.stepping.proofs.Synced.{runs_of}
use Rattle.follows.specs.Seen.{raw, clocks_at, seen, rules_of, Within, due_by, applied, deliver}
use Rattle.follows.specs.Follows.{Delivered, DeliveriesDue, Splits, Upward}
use Rattle.follows.proofs.Leap as Leap
use Rattle.follows.proofs.Leap.{matched-none}
use Rattle.follows.proofs.Port as Port
use Rattle.follows.proofs.Deliver.{from-there, still, deliver-stopped, seen-stopped, mute}
use Rattle.follows.proofs.Instances.{on-course}
use Rattle.follows.proofs.Standing.{seen-new}
use Rattle.follows.proofs.Delivered.{left_is, seen-left}

-- ---- from the reference on

none-on : (d : Bool) (v : ℕ) → cond d (v - 0) (v + 0) ≡ v
none-on true v = omega arith
none-on false v = omega arith

pub deliveries-due : DeliveriesDue
deliveries-due f t div c k d = go (counts t) refl
  where
    n : ℕ
    n = clocks_at t div c

    start : seen t div t.count.base ≡ raw t
    start = seen-new t div t.count.base refl k.within

    go : (r : Bool) → counts t ≡ r → clocks (rules_of t) n (matched (rules_of t) (seen t div t.count.base)) ≡ seen (deliver f c div t) div c
    go true r =
        let at : raw t ≡ Leap.at (raw t) 0 0 =
        ap (λ (b : Bool). M.with_count (raw t) b 0 t.count.cnt0) (runs_of t r) ∙ ap (M.with_count (raw t) true 0) (sym (none-on (down t) t.count.cnt0)) in
        ap (λ (s : M.Timer). clocks (rules_of t) n (matched (rules_of t) s)) (start ∙ at)
        ∙ from-there (port_takes t.inst.manual) t div (on-course t.inst.manual t refl div k.timed r k.within) f n c refl k.came (left_is t.inst.manual f c div t refl d) ∙ seen-left t.inst.manual f c div t refl
    go false r =
        ap (λ (s : M.Timer). clocks (rules_of t) n (matched (rules_of t) s)) start
        ∙ ap (clocks (rules_of t) n) (matched-none (rules_of t) (raw t) (mute (port_takes t.inst.manual) (raw t) r)) ∙ still (port_takes t.inst.manual) t r n
        ∙ seen-stopped (port_takes t.inst.manual) t r div c ∙ ap (λ (u : Timer). Port.seen (port_takes t.inst.manual) u div c) (sym (deliver-stopped (port_takes t.inst.manual) t r f c div)) ∙ seen-left t.inst.manual f c div t refl

-- ---- two deliveries

-- more events are allowed than are due
more : (f g c div : ℕ) (t : Timer) → Delivered (deliver g c div t) c → deliver (f + g) c div t ≡ deliver g c div t
unfolding deliver
more f zero c div t d = rest (f + 0)
  where
    rest : (n : ℕ) → deliver n c div t ≡ t
    rest zero = refl
    rest (suc n) = rw d
more f (suc g) c div t d =
    let e : f + suc g ≡ suc (f + g) = omega arith in
    ap (λ (n : ℕ). deliver n c div t) e ∙ go (due_by (next_event t) c) d (more f g c div (applied t div (next_event t)))
  where
    go : (b : Bool) → Delivered (cond b (deliver g c div (applied t div (next_event t))) t) c
        → (Delivered (deliver g c div (applied t div (next_event t))) c → deliver (f + g) c div (applied t div (next_event t)) ≡ deliver g c div (applied t div (next_event t)))
        → cond b (deliver (f + g) c div (applied t div (next_event t))) t ≡ cond b (deliver g c div (applied t div (next_event t))) t
    go true h ih = ih h
    go false h ih = refl

-- due by a, due by c
due-later : (e : Due) (a c : ℕ) → a ≤ c → due_by e a ≡ true → due_by e c ≡ true
due-later (At x e) a c le d = le-leb x c (le_trans (leb-true x a d) le)
due-later Stopped a c le d = d

pub splits : Splits
unfolding deliver
splits zero g t div a c le d = ap (λ (n : ℕ). deliver n c div t) (zero-add g)
splits (suc f) g t div a c le d = go (due_by (next_event t) a) refl d (splits f g (applied t div (next_event t)) div a c le)
  where
    u : Timer
    u = applied t div (next_event t)

    one : due_by (next_event t) c ≡ true → deliver (suc f + g) c div t ≡ deliver (f + g) c div u
    one e = let z : suc f + g ≡ suc (f + g) = omega arith in ap (λ (n : ℕ). deliver n c div t) z ∙ rw e

    go : (b : Bool) → due_by (next_event t) a ≡ b → Delivered (deliver g c div (cond b (deliver f a div u) t)) c
        → (Delivered (deliver g c div (deliver f a div u)) c → deliver (f + g) c div u ≡ deliver g c div (deliver f a div u))
        → deliver (suc f + g) c div t ≡ deliver g c div (cond b (deliver f a div u) t)
    go true e h ih = one (due-later (next_event t) a c le e) ∙ ih h
    go false e h ih = more (suc f) g c div t h

-- ---- upward

pub upward : Upward
upward t a b d h = go (down t) refl
  where
    go : (x : Bool) → down t ≡ x → Within t
    go true e = h e
    go false e = λ r. over r (leb t.count.cnt0 t.count.arr_act) refl
      where
        over : counts t ≡ true → (q : Bool) → leb t.count.cnt0 t.count.arr_act ≡ q → t.count.cnt0 ≤ t.count.arr_act
        over r true q = leb-true _ _ q
        over r false q =
            let z : due_by (next_event t) a ≡ true =
            ap (λ (e : Due). due_by e a) (event-overflown t r e (leb-false _ _ q)) ∙ le-leb t.count.base a b in
            absurd (let y : ◌≡◌ {A = ℕ} 0 1 = cc in omega arith)
