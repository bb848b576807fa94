-- No change touches what set-up fixed: number, width, channels, bus, interrupt, enable bit. Assumes nothing.
use mathlib.Core.Path.{◌≡◌, refl}
use Prim.Native.Nat.{ℕ}
use Rattle.rm0440.specs.Bits.{UDIS, URS}
use Rattle.tim.specs.declared.Timer.{Timer}
use Rattle.tim.specs.declared.Inst.{Inst}
use Rattle.tim.specs.Count.{synced}
use Rattle.tim.specs.Change.{recomputed, recomputed_after_update, reloaded, restarted, ended, updated, generated, matched, compared, started, stopped, retimed, reset_state}
use Rattle.tim.proofs.Fit.{either}

module _ (t : Timer) where
  pub inst-synced : (now : ℕ) → (synced t now).inst ≡ t.inst
  unfolding synced
  inst-synced now = either (λ (s : Timer). s.inst ≡ t.inst) t.count.running refl refl

  pub inst-recomputed : (recomputed t).inst ≡ t.inst
  unfolding recomputed
  inst-recomputed = refl

  pub inst-reloaded : (reloaded t).inst ≡ t.inst
  unfolding reloaded
  inst-reloaded = either (λ (s : Timer). s.inst ≡ t.inst) (UDIS t.regs.cr1) refl refl

  pub inst-updated : (at div : ℕ) → (updated t at div).inst ≡ t.inst
  unfolding updated ended recomputed_after_update restarted
  inst-updated at div = inst-reloaded

  pub inst-generated : (now div : ℕ) → (generated t now div).inst ≡ t.inst
  unfolding generated recomputed_after_update restarted
  inst-generated now div =
      either (λ (s : Timer). s.inst ≡ t.inst) (URS t.regs.cr1) refl
      (either (λ (s : Timer). s.inst ≡ t.inst) (UDIS t.regs.cr1) refl refl)

  pub inst-matched : (ch : ℕ) → (matched t ch).inst ≡ t.inst
  unfolding matched
  inst-matched ch = refl

  pub inst-compared : (ch : ℕ) → (compared t ch).inst ≡ t.inst
  unfolding compared matched
  inst-compared ch = refl

  pub inst-started : (now div : ℕ) → (started t now div).inst ≡ t.inst
  unfolding started recomputed
  inst-started now div = refl

pub inst-stopped : (t : Timer) (now : ℕ) → (stopped t now).inst ≡ t.inst
unfolding stopped
inst-stopped t now = inst-synced t now

pub inst-retimed : (t : Timer) (now div : ℕ) → (retimed t now div).inst ≡ t.inst
unfolding retimed
inst-retimed t now div = inst-synced t now

pub inst-reset : (i : Inst) (div : ℕ) → (reset_state i div).inst ≡ i
unfolding reset_state
inst-reset i div = refl
