-- What the walks over a table share: the types of the table and of the struct, and the call of `from`, which makes the struct of a table.
-- Assumes nothing.
use mathlib.Core.Path.{◌≡◌}
use Prim.Native.Nat.{ℕ}
use mathlib.Core.List.{[], ◌∷◌, List}
use seplogic.Ra.Ura.{Ura}
use mir.Syntax.{w64}
use mir.Val.{Val}
use base.Logic.{SProp, ent, emp, ex_e, snd∗}
use base.Fml.{GName, ftrue}
use prog.Memory.{Memory}
use prog.Routine.{Routine}
use types.Logic.{Logic, sem}
use contract.Monad.{Fun, fact}
use types.Kit.{‵, ◌$◌, ◌∵◌, !, qed, move, join, frame, done}
use denote.RattleType.{RattleType}
use denote.Array.{array_vals}
use denote.Plain.{uint_vals}
use denote.Builtin.{u64, Array, ArrayOf}
use denote.Ref.{MutBor}
use denote.Signature.{Slot, plain}
use denote.Steps.{only, nothing}
use denote.Struct.Laws as LL
use denote.Triple.Spec.{triple_of}
use denote.Triple.Statement.{Contract}
use denote.Triple.Clauses.{ensured, lasts}
use denote.Triple.Walked.{Stay, Goes}
use denote.Exit.{yes}
use Rattle.scheduler.specs.declared.Scheduler.{Scheduler}
use Rattle.scheduler.specs.Booking.{holding}
use Rattle.scheduler.specs.contracts.Scheduler as T
use Rattle.scheduler.proofs.Scheduler.TheLaws as T'
use Rattle.scheduler.specs.contracts.SchedulerFromArrayU648.from as of

abbrev pub R : RattleType
R = T.the_row

abbrev pub AR : RattleType
AR = Array u64 tt 8

abbrev pub ARS : Slot 0
ARS = ArrayOf (plain (λ _. u64)) (λ _. tt) 8

-- an array of plain data: nothing of it is kept
abbrev pub gone : Stay ARS yes
gone = record { fit = λ κs xs w. Unit {0}; has = λ κs xs w vs. ftrue }

-- the machine value of a table, and of a struct
abbrev pub table_val : List ℕ → Val
table_val xs = only (array_vals (uint_vals w64) xs)

abbrev pub v : Scheduler → Val
v h = LL.val T.the_type T'.the_laws h

-- a local lent under the name δ, at h
abbrev pub x : ℕ → GName → Scheduler → MutBor Scheduler
x l δ h = record { ref_ptr = (l, 0); ghost_name = δ; now = h }

-- the contract of `from`
abbrev pub Of : {M : Type 1} {𝓤 : Ura M} (𝓛 : Logic 𝓤) (mem' : Memory → SProp 𝓤) (run : Routine → Fun 𝓤) → Contract 𝓤
Of 𝓛 mem' run = triple_of 𝓛 of.signature (of.spec 𝓛 mem' run)

module _ {M : Type 1} {𝓤 : Ura M} (𝓛 : Logic 𝓤) (at_mem : Memory → SProp 𝓤) (run : Routine → Fun 𝓤) where
  pub goes-gone : Goes 𝓛 0 ARS yes gone
  goes-gone κs xs w vs fits = 𝓛.laws.⇛_intro (emp 𝓤)

  abbrev pub to-of : List ℕ → (Of 𝓛 at_mem run).Ghost
  to-of xs = ((tt, tt, tt, (xs, tt), (table_val xs ∷ [], tt)), tt)

  pub goes_of : (xs : List ℕ) → ent 𝓤 (sem 𝓛 (AR.own_val xs (table_val xs ∷ []))) ((Of 𝓛 at_mem run).pre (to-of xs))
  goes_of xs = qed 𝓛 (‵ (AR.own_val xs (table_val xs ∷ [])) ∷ []) ∵ nothing ! $ move ! (1 ∷ 0 ∷ []) $ join ! $ nothing ! $ join ! $ frame ! $ done !

  pub said_of : (xs : List ℕ) (r : Scheduler) → ent 𝓤 (ensured 𝓛 of.ended (of.clauses 𝓛 at_mem run) tt (xs, tt) tt r) (fact 𝓤 (r ≡ holding xs))
  said_of xs r = ex_e 𝓤 _ (λ ws. snd∗ 𝓤 (sem 𝓛 (lasts of.ended tt (xs, tt) ws)) (fact 𝓤 (r ≡ holding xs)))
