-- A stop and each fault that is reported had waited.
use Rattle.jn_machine.proofs.Common.{◌≡◌, ◌≤◌, ℕ, ◌+◌, Bool, true, false, List, [], ◌∷◌, Option, Some, None, refl, sym, ◌∙◌, ap, arith, not, is_some, Outside, Pick, Chance, DeviceState, count_kind, count_told, is_stop, darkness, IsCalled, Left}
use Rattle.jn_base.specs.declared.device.FaultKind.{FaultKind}
use Rattle.jn_machine.proofs.Called.{called-later}

module _ (most : ℕ) (h : Chance) (d e : DeviceState) (c : IsCalled most h d e) where
  left-waiting : e.waiting ≡ c.last.waiting
  left-waiting = ap (λ (f : DeviceState). f.waiting) c.after

  pub stop-had-waited : d.power ≡ true → is_some h.stop ≡ true → count_kind is_stop e.waiting + 1 ≤ count_kind is_stop d.waiting
  stop-had-waited on stopped = less (ap (count_kind is_stop) left-waiting) (dark c.last.power (sym stopped ∙ c.stop)) (ap darkness on) (let later = called-later most h d e c in later.spends.stop_of)
    where
      dark : (power : Bool) → true ≡ not power → darkness power ≡ 1
      dark false k = refl
      dark true k = absurd (clash k)
        where
          clash : true ≡ false → ⊥
          clash z = cc

      less : {after before last p q : ℕ} → after ≡ last → p ≡ 1 → q ≡ 0 → last + p ≤ before + q → after + 1 ≤ before
      less a b k l = omega arith

  pub told-had-waited : d.told ≡ [] → (f : FaultKind → Bool) → count_kind f e.waiting + count_told f h.told ≤ count_kind f d.waiting
  told-had-waited none f = less (ap (count_kind f) left-waiting) (ap (count_told f) c.told) (ap (count_told f) none) (let later = called-later most h d e c in later.spends.told_of f)
    where
      less : {after told before last now was : ℕ} → after ≡ last → told ≡ now → was ≡ 0 → last + now ≤ before + was → after + told ≤ before
      less a b k l = omega arith

  -- nothing waits, so nothing strikes
  pub nothing-strikes : d.power ≡ true → d.told ≡ [] → d.waiting ≡ [] → (h.stop ≡ None) × (h.told ≡ [])
  nothing-strikes on none quiet = (no-stop h.stop refl, no-fault h.told refl)
    where
      no-stop : (stop : Option (Pick → Left)) → h.stop ≡ stop → h.stop ≡ None
      no-stop None k = k
      no-stop (Some made) k = absurd (impossible _ _ (stop-had-waited on (ap (λ (o : Option (Pick → Left)). is_some o) k)) (ap (count_kind is_stop) quiet))
        where
          impossible : (a b : ℕ) → a + 1 ≤ b → b ≡ 0 → ⊥
          impossible a b p q = omega arith

      no-fault : (told : List Outside) → h.told ≡ told → h.told ≡ []
      no-fault [] k = k
      no-fault (fault ∷ told) k = absurd (impossible _ _ _ _ (told-had-waited none (λ kind. true)) (ap (count_kind (λ kind. true)) quiet) (ap (count_told (λ kind. true)) k))
        where
          impossible : (a b n t : ℕ) → a + t ≤ b → b ≡ 0 → t ≡ 1 + n → ⊥
          impossible a b n t p q r = omega arith
