-- Deliveries one after the other are one delivery of as many events. Assumes nothing.
use mathlib.Core.Path.{◌≡◌, refl, sym, ap, ◌∙◌, subst}
use mathlib.Core.Bool.{Bool, true, false, cond, ◌&&◌, ◌||◌, false≢true}
use mathlib.Core.List.{List, [], ◌∷◌, ◌++◌, append-nil}
use Prim.Native.Nat.{ℕ, ◌+◌, ◌≤◌, ◌<◌}
use native.Mathlib.Omega.{arith}
use lib.Dec.{ltb, eqb}
use lib.ListN.{set, length, length-set}
use lib.Seq.{get_or-set_same, set-set}
use borrow.Author.Tests.{ltb-false, leb-false}
use Rattle.tim.specs.declared.Timer.{Timer}
use Rattle.tim.specs.declared.Inst.{Inst}
use Rattle.tim.specs.Next.{next_event}
use Rattle.clk.specs.Clk.{timer_div}
use Rattle.nvic.specs.Nvic.{Nvic, has_line, set_line}
use Rattle.book.specs.Book.{Entry}
use Rattle.machine.specs.Board.{Board, no_timer, timer_at, with_nvic, first_board}
use Rattle.machine.specs.Deliver.{Turn, divider_of, booking_of, due_by, wants_line, delivered, after_delivery, rebooked, line_settled}
use Rattle.machine.specs.Call.{deliver, Outcome, is_refusal}
use Rattle.machine.specs.Step.{absent, cycle_astray, book_full, refuse_if, delivered_to, step, run, board_after}
use Rattle.machine.specs.Demand1.{after_events, AllDue}
use Rattle.machine.specs.Sound.{Sound}
use Rattle.machine.specs.Lines.{asks}
use Rattle.machine.proofs.NumberLaws.{delivered-law}
use Rattle.machine.proofs.Reach.{sound-step, sound-after}
use Rattle.machine.proofs.LineLaws.{Wished, wished-run, wished-after}
use Rattle.accuracy.specs.Claim.{joined}
use Rattle.busy.specs.Busy.{Visit, visits, Answered, events, Same, SameButLines, Busy, pieces, SameRecord}
use Rattle.busy.proofs.Events.{events-append, joined_turn, all-later, all_append, as_many, inst-events, wants-events}
use Rattle.busy.proofs.Twice.{set_twice}

-- ---- a delivery that is not refused

record Fine (b : Board) (i c l : ℕ) : Type 0 where
  pub is : step b (deliver i c l) ≡ delivered_to b i c l
  pub there : i < b.counts.timers
  pub later : b.counts.last ≤ c

or-false : (x y : Bool) → x || y ≡ false → y ≡ false
or-false true y h = absurd (false≢true (sym h))
or-false false y h = h

fine : (b : Board) (i c l : ℕ) → is_refusal (step b (deliver i c l)).number ≡ false → Fine b i c l
unfolding step
fine b i c l h = go (absent i b.counts.timers) refl (cycle_astray b c) refl (book_full 4 l) refl h
  where
    R : Bool → Bool → Bool → Outcome
    R x y z = refuse_if x 2 b (refuse_if y 5 b (refuse_if false 11 b (refuse_if z 6 b (delivered_to b i c l))))

    go : (x : Bool) → absent i b.counts.timers ≡ x → (y : Bool) → cycle_astray b c ≡ y → (z : Bool) → book_full 4 l ≡ z → is_refusal (R x y z).number ≡ false → Fine b i c l
    go true d y e z g f = absurd (false≢true (sym f))
    go false d true e z g f = absurd (false≢true (sym f))
    go false d false e true g f = absurd (false≢true (sym f))
    go false d false e false g f = record {
      is = ap (λ (x : Bool). R x (cycle_astray b c) (book_full 4 l)) d ∙ ap (λ (y : Bool). R false y (book_full 4 l)) e ∙ ap (λ (z : Bool). R false false z) g;
      there = leb-false b.counts.timers i d;
      later = ltb-false c b.counts.last (or-false (ltb 4611686018427387904 c) (ltb c b.counts.last) e);
    }

-- ---- what so many events leave

abbrev div_of : Board → ℕ → ℕ
div_of b i = divider_of b (timer_at b i)

abbrev turned_by : Board → ℕ → ℕ → Turn
turned_by b i n = after_events n (div_of b i) (timer_at b i) b.pads

-- the board with the timer and the pads of a turn, the next event booked from c on, these lines, and c as the last cycle
abbrev leaving : Board → ℕ → ℕ → Nvic → Turn → Board
leaving b i c nv u = record {
  timers = set b.timers i u.timer;
  booking = set b.booking i (booking_of (next_event u.timer) c);
  nvic = nv;
  pads = u.pads;
  clocks = b.clocks;
  counts = record { timers = b.counts.timers; pins = b.counts.pins; last = c };
}

-- from b on, n events of timer i up to cycle c led to a, with these entries and x as the number given last
record Sum (b : Board) (i c : ℕ) (a : Board) (es : List Entry) (n x : ℕ) : Type 0 where
  pub is : a ≡ leaving b i c a.nvic (turned_by b i n)
  pub book : es ≡ (turned_by b i n).entries
  pub due : AllDue n c (div_of b i) (timer_at b i) b.pads
  pub left : x ≡ cond (due_by (next_event (turned_by b i n).timer) c) 8 0
  pub later : b.counts.last ≤ c
  pub there : i < b.counts.timers
  pub line : a.nvic ≡ set_line b.nvic (turned_by b i n).timer.inst.irq i (wants_line (turned_by b i n).timer)

-- one delivery
module _ (b : Board) (i c l : ℕ) where
  direct : Fine b i c l → Sum b i c (delivered_to b i c l).board (delivered_to b i c l).entries (delivered_to b i c l).value (delivered_to b i c l).number
  unfolding delivered_to after_delivery rebooked line_settled
  direct f =
      let r = delivered b i c l in
      let d = delivered-law b i c l in
      record {
        is = ap (leaving b i c (delivered_to b i c l).board.nvic) d.state;
        book = ap (λ (u : Turn). u.entries) d.state;
        due = d.all-due;
        left = d.answer ∙ ap (λ (u : Turn). cond (due_by (next_event u.timer) c) 8 0) d.state;
        later = f.later;
        there = f.there;
        line = ap (λ (u : Turn). set_line b.nvic u.timer.inst.irq i (wants_line u.timer)) d.state;
      }

  one : is_refusal (step b (deliver i c l)).number ≡ false
      → Sum b i c (step b (deliver i c l)).board (step b (deliver i c l)).entries (step b (deliver i c l)).value (step b (deliver i c l)).number
  one h = let f = fine b i c l h in subst (λ (o : Outcome). Sum b i c o.board o.entries o.value o.number) (sym f.is) (direct f)

-- ---- one behind the other

module _ (b : Board) (i a : ℕ) (nv : Nvic) (n : ℕ) (l : i < length b.timers) where
  abbrev E : Board
  E = leaving b i a nv (turned_by b i n)

  timer-there : timer_at E i ≡ (turned_by b i n).timer
  timer-there = get_or-set_same b.timers i (turned_by b i n).timer no_timer l

  div-there : div_of E i ≡ div_of b i
  div-there = ap (λ (k : Inst). timer_div b.clocks.tree k.apb) (ap (λ (t : Timer). t.inst) timer-there ∙ inst-events n (div_of b i) (timer_at b i) b.pads)

  -- m events more
  module _ (m : ℕ) where
    abbrev more : Turn
    more = after_events m (div_of b i) (turned_by b i n).timer (turned_by b i n).pads

    more-there : turned_by E i m ≡ more
    more-there =
        ap (λ (k : ℕ). after_events m k (timer_at E i) (turned_by b i n).pads) div-there
        ∙ ap (λ (t : Timer). after_events m (div_of b i) t (turned_by b i n).pads) timer-there

    all_there : turned_by b i (n + m) ≡ joined_turn (turned_by b i n) more
    all_there = events-append n m (div_of b i) (timer_at b i) b.pads

    left_there : (c : ℕ) (nw : Nvic) → leaving E i c nw (turned_by E i m) ≡ leaving b i c nw (turned_by b i (n + m))
    left_there c nw =
        ap (leaving E i c nw) more-there
        ∙ ap (λ (ts : List Timer). record { timers = ts; booking = set E.booking i (booking_of (next_event more.timer) c); nvic = nw; pads = more.pads; clocks = b.clocks; counts = record { timers = b.counts.timers; pins = b.counts.pins; last = c } })
        (set-set b.timers i (turned_by b i n).timer more.timer)
        ∙ ap (λ (ms : List ℕ). record { timers = set b.timers i more.timer; booking = ms; nvic = nw; pads = more.pads; clocks = b.clocks; counts = record { timers = b.counts.timers; pins = b.counts.pins; last = c } })
        (set-set b.booking i (booking_of (next_event (turned_by b i n).timer) a) (booking_of (next_event more.timer) c))
        ∙ ap (leaving b i c nw) (sym all_there)

    timer-last : (turned_by E i m).timer ≡ (turned_by b i (n + m)).timer
    timer-last = ap (λ (u : Turn). u.timer) more-there ∙ sym (ap (λ (u : Turn). u.timer) all_there)

    due-there : (c : ℕ) → AllDue m c (div_of E i) (timer_at E i) E.pads → AllDue m c (div_of b i) (turned_by b i n).timer (turned_by b i n).pads
    due-there c h =
        subst (λ (t : Timer). AllDue m c (div_of b i) t (turned_by b i n).pads) timer-there
        (subst (λ (k : ℕ). AllDue m c k (timer_at E i) (turned_by b i n).pads) div-there h)

-- what the lines need: each wish is what its timer's flags ask for
abbrev Wishes : Board → ℕ → Type 0
Wishes b i = (nv : Nvic) (n m : ℕ)
    → let t = (turned_by b i n).timer in
    let u = (turned_by b i (n + m)).timer in
    set_line (set_line b.nvic t.inst.irq i (wants_line t)) u.inst.irq i (wants_line u) ≡ set_line b.nvic u.inst.irq i (wants_line u)

-- all of a sum but its lines
record Bare (b : Board) (i c : ℕ) (a : Board) (es : List Entry) (n x : ℕ) : Type 0 where
  pub is : a ≡ leaving b i c a.nvic (turned_by b i n)
  pub book : es ≡ (turned_by b i n).entries
  pub due : AllDue n c (div_of b i) (timer_at b i) b.pads
  pub left : x ≡ cond (due_by (next_event (turned_by b i n).timer) c) 8 0
  pub later : b.counts.last ≤ c
  pub there : i < b.counts.timers

bare : (b : Board) (i c : ℕ) (a : Board) (es : List Entry) (n x : ℕ) → Sum b i c a es n x → Bare b i c a es n x
bare b i c a es n x s = record { is = s.is; book = s.book; due = s.due; left = s.left; later = s.later; there = s.there }

module _ (b : Board) (i a c : ℕ) (b₁ b₂ : Board) (es fs : List Entry) (n m x y : ℕ) (l : i < length b.timers) (s : Sum b i a b₁ es n x) where
  abbrev E₁ : Board
  E₁ = leaving b i a b₁.nvic (turned_by b i n)

  both : Bare b₁ i c b₂ fs m y → Bare b i c b₂ (es ++ fs) (n + m) y
  both r₀ =
      let r : Bare E₁ i c b₂ fs m y = subst (λ (z : Board). Bare z i c b₂ fs m y) s.is r₀ in
      record {
        is = r.is ∙ left_there b i a b₁.nvic n l m c b₂.nvic;
        book = ap (λ (k : List Entry). k ++ fs) s.book ∙ ap (λ (k : List Entry). (turned_by b i n).entries ++ k) (r.book ∙ ap (λ (u : Turn). u.entries) (more-there b i a b₁.nvic n l m))
            ∙ sym (ap (λ (u : Turn). u.entries) (all_there b i a b₁.nvic n l m));
        due = all_append n m c (div_of b i) (timer_at b i) b.pads (all-later n a c (div_of b i) (timer_at b i) b.pads r.later s.due) (due-there b i a b₁.nvic n l m c r.due);
        left = r.left ∙ ap (λ (t : Timer). cond (due_by (next_event t) c) 8 0) (timer-last b i a b₁.nvic n l m);
        later = omega (arith, s.later, r.later);
        there = s.there;
      }

  -- and its lines
  lines : b₂.nvic ≡ set_line b₁.nvic (turned_by b₁ i m).timer.inst.irq i (wants_line (turned_by b₁ i m).timer) → Wishes b i
      → b₂.nvic ≡ set_line b.nvic (turned_by b i (n + m)).timer.inst.irq i (wants_line (turned_by b i (n + m)).timer)
  lines e w =
      e
      ∙ ap (λ (t : Timer). set_line b₁.nvic t.inst.irq i (wants_line t)) (ap (λ (z : Board). (turned_by z i m).timer) s.is ∙ timer-last b i a b₁.nvic n l m)
      ∙ ap (λ (k : Nvic). set_line k (turned_by b i (n + m)).timer.inst.irq i (wants_line (turned_by b i (n + m)).timer)) s.line
      ∙ w b₁.nvic n m

-- on boards whose wishes are what the flags ask for
wishes : (b : Board) (i : ℕ) → i < b.counts.timers → Wished b → Wishes b i
wishes b i few w nv n m =
    let t = timer_at b i in
    let u = turned_by b i n in
    let v = turned_by b i (n + m) in
    let iu : u.timer.inst ≡ t.inst = inst-events n (div_of b i) t b.pads in
    let iv : v.timer.inst ≡ t.inst = inst-events (n + m) (div_of b i) t b.pads in
    ap (λ (k : ℕ). set_line (set_line b.nvic k i (wants_line u.timer)) v.timer.inst.irq i (wants_line v.timer)) (ap (λ (k : Inst). k.irq) iu)
    ∙ ap (λ (k : ℕ). set_line (set_line b.nvic t.inst.irq i (wants_line u.timer)) k i (wants_line v.timer)) (ap (λ (k : Inst). k.irq) iv)
    ∙ set_twice b.nvic t.inst.irq i (wants_line u.timer) (wants_line v.timer) w.room (w.line t.inst.irq).high
    (λ h e. wants-events n (div_of b i) t b.pads (asked (sym ((w.line t.inst.irq).is i) ∙ e)))
    (λ h. ap (λ (k : Turn). wants_line k.timer) (events-append n m (div_of b i) t b.pads) ∙ wants-events m (div_of b i) u.timer u.pads h)
    ∙ sym (ap (λ (k : ℕ). set_line b.nvic k i (wants_line v.timer)) (ap (λ (k : Inst). k.irq) iv))
  where
    last : (p q r z : Bool) → p && (q && (r && z)) ≡ true → z ≡ true
    last true true true z h = h
    last true true false z h = absurd (false≢true h)
    last true false r z h = absurd (false≢true h)
    last false q r z h = absurd (false≢true h)

    asked : asks b (timer_at b i).inst.irq i ≡ true → wants_line (timer_at b i) ≡ true
    asked h =
        last (has_line b.nvic.nirq (timer_at b i).inst.irq) (ltb i b.counts.timers) (eqb (timer_at b i).inst.irq (timer_at b i).inst.irq)
        (wants_line (timer_at b i)) h

-- ---- the deliveries

abbrev pub last_number : Board → ℕ → List Visit → ℕ → ℕ → ℕ
last_number b i vs c l = (step (board_after b (visits i vs)) (deliver i c l)).number

kept-length : (b : Board) (i c : ℕ) (a : Board) (es : List Entry) (n x : ℕ) → Sum b i c a es n x → i < length b.timers → i < length a.timers
kept-length b i c a es n x s h = omega (arith, h, ap (λ (z : Board). length z.timers) s.is ∙ length-set b.timers i (turned_by b i n).timer)

sum_of : (vs : List Visit) (b : Board) (i c l : ℕ) → i < length b.timers → Answered (run b (pieces i vs c l))
    → Bare b i c (board_after b (pieces i vs c l)) (joined (run b (pieces i vs c l))) (events (run b (pieces i vs c l))) (last_number b i vs c l)
unfolding visits Answered events run board_after joined
sum_of [] b i c l h an =
    let o = step b (deliver i c l) in
    let s = bare b i c o.board o.entries o.value o.number (one b i c l an.0) in
    subst (λ (n : ℕ). Bare b i c o.board (o.entries ++ []) n o.number) zeroed
    (subst (λ (es : List Entry). Bare b i c o.board es o.value o.number) (sym (append-nil o.entries)) s)
  where
    zeroed : (step b (deliver i c l)).value ≡ (step b (deliver i c l)).value + 0
    zeroed = omega arith
sum_of (v ∷ vs) b i c l h an =
    let o = step b (deliver i v.cycle v.places) in
    let s = one b i v.cycle v.places an.0 in
    both b i v.cycle c o.board _ o.entries _ o.value _ o.number _ h s
    (sum_of vs o.board i c l (kept-length b i v.cycle o.board o.entries o.value o.number s h) an.1)

lines_of : (vs : List Visit) (b : Board) (i c l : ℕ) → Sound b → Wished b → Answered (run b (pieces i vs c l))
    → (board_after b (pieces i vs c l)).nvic
    ≡ set_line b.nvic (turned_by b i (events (run b (pieces i vs c l)))).timer.inst.irq i (wants_line (turned_by b i (events (run b (pieces i vs c l)))).timer)
unfolding visits Answered events run board_after joined
lines_of [] b i c l sb wb an =
    let o = step b (deliver i c l) in
    let zeroed : o.value ≡ o.value + 0 = omega arith in
    (one b i c l an.0).line ∙ ap (λ (n : ℕ). set_line b.nvic (turned_by b i n).timer.inst.irq i (wants_line (turned_by b i n).timer)) zeroed
lines_of (v ∷ vs) b i c l sb wb an =
    let d = deliver i v.cycle v.places in
    let o = step b d in
    let s = one b i v.cycle v.places an.0 in
    let inside : i < length b.timers = omega (arith, s.there, sb.few-timers, sb.timers) in
    lines b i v.cycle c o.board (board_after o.board (pieces i vs c l)) o.entries (joined (run o.board (pieces i vs c l))) o.value (events (run o.board (pieces i vs c l))) o.number 0 inside s
    (lines_of vs o.board i c l (sound-step b d sb) (wished-run b (d ∷ []) sb wb) an.1) (wishes b i s.there wb)

-- ---- beside the single one

served : (n : ℕ) → n ≡ 0 → is_refusal n ≡ false
served n z = rw z refl

no_more : (q : Bool) (x : ℕ) → x ≡ cond q 8 0 → x ≡ 0 → q ≡ false
no_more true x e z = absurd (omega (arith, e, z))
no_more false x e z = refl

module _ (b : Board) (i : ℕ) (inside : i < length b.timers) (vs : List Visit) (c l k : ℕ) (an : Answered (run b (pieces i vs c l))) (z : last_number b i vs c l ≡ 0)
    (y : (step b (deliver i c k)).number ≡ 0) where
  abbrev o : Outcome
  o = step b (deliver i c k)

  abbrev n : ℕ
  n = events (run b (pieces i vs c l))

  many : Bare b i c (board_after b (pieces i vs c l)) (joined (run b (pieces i vs c l))) n (last_number b i vs c l)
  many = sum_of vs b i c l inside an

  single : Sum b i c o.board o.entries o.value o.number
  single = one b i c k (served o.number y)

  same-events : n ≡ o.value
  same-events =
      as_many n o.value c (div_of b i) (timer_at b i) b.pads many.due (no_more _ (last_number b i vs c l) many.left z) single.due (no_more _ o.number single.left y)

  same_entries : joined (run b (pieces i vs c l)) ≡ o.entries
  same_entries = many.book ∙ ap (λ (m : ℕ). (turned_by b i m).entries) same-events ∙ sym single.book

  same-but-lines : SameButLines b (pieces i vs c l) o
  same-but-lines = record {
    board = ap (λ (a : Board). with_nvic a o.board.nvic) many.is ∙ ap (λ (m : ℕ). leaving b i c o.board.nvic (turned_by b i m)) same-events ∙ sym single.is;
    entries = same_entries;
    counts = same-events;
  }

  same : Sound b → Wished b → Same b (pieces i vs c l) o
  same sb wb =
      let e : (board_after b (pieces i vs c l)).nvic ≡ o.board.nvic =
      lines_of vs b i c l sb wb an
      ∙ ap (λ (m : ℕ). set_line b.nvic (turned_by b i m).timer.inst.irq i (wants_line (turned_by b i m).timer)) same-events
      ∙ sym single.line in
      record {
        board = many.is ∙ ap (λ (nv : Nvic). leaving b i c nv (turned_by b i n)) e ∙ ap (λ (m : ℕ). leaving b i c o.board.nvic (turned_by b i m)) same-events ∙ sym single.is;
        entries = same_entries;
        counts = same-events;
      }

answered-all : (vs : List Visit) (b : Board) (i c l : ℕ) → Answered (run b (visits i vs)) → last_number b i vs c l ≡ 0 → Answered (run b (pieces i vs c l))
unfolding visits Answered run board_after
answered-all [] b i c l h z = (served _ z, tt)
answered-all (v ∷ vs) b i c l h z = (h.0, answered-all vs (step b (deliver i v.cycle v.places)).board i c l h.1 z)

pub same-on : (b : Board) → Sound b → Wished b → (i : ℕ) (vs : List Visit) (c l k : ℕ) → Busy b i vs c l k → Same b (pieces i vs c l) (step b (deliver i c k))
same-on b sb wb i vs c l k h =
    same b i (omega (arith, (one b i c k (served _ h.single)).there, sb.few-timers, sb.timers)) vs c l k
    (answered-all vs b i c l h.each h.last) h.last h.single sb wb

pub same-record : SameRecord
same-record = record {
  reached = λ ds i vs c l k h. same-on (board_after first_board ds) (sound-after ds) (wished-after ds) i vs c l k h;
  any-board = λ b i inside vs c l k h. same-but-lines b i inside vs c l k (answered-all vs b i c l h.each h.last) h.last h.single;
}
