-- The port follows the machine: the statement of specs/Follows.antt. Assumes nothing.
use Prim.Native.Nat.{ℕ, ◌+◌, ◌-◌, ◌≤◌}
use mathlib.Core.Path.{◌≡◌, refl, sym, ap, ◌∙◌}
use mathlib.Core.Bool.{Bool, true, false, cond}
use mathlib.Core.Logic.{inl}
use native.Mathlib.Nat.{min-eq_right}
use native.Mathlib.Omega.{arith}
use Rattle.rm0440.specs.Counter.{tick_down, after}
use Rattle.rm0440.specs.Read.{read_channel, read}
use Rattle.rm0440.specs.Level.{level}
use Rattle.rm0440.specs.Clock.{matched}
use Rattle.rm0440.specs.Write.{write}
use Rattle.rm0440.proofs.SameClock.{clock-same, clocks-same}
use Rattle.rm0440.proofs.SameEgr.{write_same}
use Rattle.tim.specs.declared.Timer.{Timer}
use Rattle.tim.specs.declared.Inst.{Inst}
use Rattle.tim.specs.Count.{ticks_at}
use Rattle.tim.specs.Change as T
use Rattle.regs.specs.Regs as R
use Rattle.regs.proofs.Fixed.{inst-written}
use Rattle.follows.specs.Seen.{seen, rules_of, Left, written, deliver}
use Rattle.follows.specs.Follows.{between, Deliveries, Writes, Late, Reads, Outputs, Stays, Goes, AboveReload, ClampDown, acts, LateWrites, Follows}
use Rattle.follows.proofs.Delivered as D
use Rattle.follows.proofs.Standing.{Near}
use Rattle.follows.proofs.Ports as P
use Rattle.follows.proofs.Written as W
use Rattle.follows.proofs.Settled as S
use Rattle.follows.proofs.LateWrites as L
use Rattle.follows.proofs.Series.{deliveries-due, splits, upward}
use Rattle.follows.proofs.Fits.{fits-stay}
use Rattle.follows.proofs.Lasting.{updated-within}
use Rattle.stepping.proofs.Agrees.{counts-overflown, counts-down-clamped, event-overflown}

deliveries : Deliveries rules_of (λ t s n. Unit {0})
deliveries f t div a c k le d e u = D.follows t.inst.manual t refl div k.timed k.within f a c k.came le d e

writes : Writes rules_of (λ t off v s. Unit {0})
writes f t div off v now k d h e u =
    let w = W.writes t.inst.manual t refl div k.timed k.within now k.came d off v h in
    let l = P.left t div k.timed now k.came off v in
    w.same ∙ S.settles t.inst.manual (R.reg_written t off v now div).timer (ap (λ (i : Inst). i.manual) (inst-written t off v now div)) div l.timed h now l.based f w.settled e

goes : Goes
goes t div off v now k h = let l = P.left t div k.timed now k.came off v in record { timed = l.timed; within = h; came = l.based }

late : Late
late t div now k = D.passes-by t.inst.manual t refl div k.timed k.within now

reads : Reads
unfolding read read_channel R.reg_read R.channel_read
reads t div off now = refl

outputs : Outputs
unfolding level T.output
outputs t div ch now = refl

stays : Stays
stays t div ch now k r l kept d = D.stays t.inst.manual t refl div k.timed k.within r ch l kept now k.came d

above-reload : AboveReload
above-reload t c r d e = (counts-overflown t r c d e, event-overflown t r d (omega arith))

clamp-down : ClampDown
clamp-down t c r d l =
    let le : t.count.arr_act ≤ t.count.cnt0 = omega arith in (
      counts-down-clamped t r c d ∙ ap (λ (x : ℕ). after (tick_down t.count.arr_act) (ticks_at t c) x) (min-eq_right le),
      ap (λ (b : Bool). cond b (t.count.cnt0 + 1) (t.count.arr_act + 1 - t.count.cnt0)) d,
    )

late-writes : LateWrites
late-writes f t div off v now k h e =
    let w = L.late-write t div k.timed now k.came off v h in
    ap (write (rules_of t) off v) (late t div now k) ∙ w.same ∙ go (acts off v (seen t div now)) w.near
  where
    u : Timer
    u = written t off v now div

    l : Left div now u
    l = P.left t div k.timed now k.came off v

    go : (a : Bool) → (a ≡ true → Near u now) → cond a (matched (rules_of t) (seen u div now)) (seen u div now) ≡ cond a (seen (deliver f now div u) div now) (seen u div now)
    go true near = S.settles t.inst.manual u (ap (λ (i : Inst). i.manual) (inst-written t off v now div)) div l.timed h now l.based f (inl (near refl)) e
    go false near = refl

pub follows : Follows
follows = record {
  deliveries = deliveries;
  writes = writes;
  late = late;
  reads = reads;
  outputs = outputs;
  stays = stays;
  resets = λ t div div' now now'. S.resets t div now div' now';
  retimes = λ t div div' now w near. S.retimed-seen t div w now div' near;
  goes = goes;
  above-reload = above-reload;
  clamp-down = clamp-down;
  ends = updated-within;
  clocks-agree = clock-same;
  writes-agree = write_same;
  deliveries-manual = λ f t div a c k le d e u. sym (clocks-same (rules_of t) (seen t div a) (between t div a c) u.fits u.outside) ∙ deliveries f t div a c k le d e tt;
  writes-manual = λ f t div off v now k d h e o. sym (write_same (rules_of t) off v (seen t div now) o) ∙ writes f t div off v now k d h e tt;
  late-writes = late-writes;
  deliveries-due = deliveries-due;
  splits = splits;
  upward = upward;
  fits-stay = fits-stay;
}
