-- A promise for which there is no memory.
use Rattle.jn_intent.proofs.Common.{◌≡◌, ℕ, sym, ◌∙◌, ap, subst, true≢false, is_ok, Err, Result, IsServing, FlagPromised, StoreView, Memory, view_of}
use Rattle.jn_storage.specs.declared.faults.PromiseFault.{PromiseFault}
use Rattle.jn_storage.specs.declared.faults.PromiseFault.TheVariants.{Memory as NoMemory}

pub promise_fails : (m : Memory) (v : StoreView) → IsServing (view_of m v) → (n : ℕ) → n ≡ m.promised → (answer : Result (Unit {0}) PromiseFault) (x : PromiseFault) → answer ≡ Err x → x ≡ NoMemory → FlagPromised {A = Unit {0}} (view_of m v) answer (view_of (record m { promised = n }) v)
promise_fails m v serving n n_is answer x is fault = record {
  enough = λ ok. absurd (true≢false (sym ok ∙ ap is_ok is));
  promised = λ ok. absurd (true≢false (sym ok ∙ ap is_ok is));
  refused = λ short e. absurd (cc (sym e ∙ is ∙ ap {B = Result (Unit {0}) PromiseFault} (λ (f : PromiseFault). Err f) fault));
  kept = λ _. ap (λ p. view_of (record m { promised = p }) v) n_is;
  serving = subst (λ p. IsServing (view_of (record m { promised = p }) v)) (sym n_is) serving;
}
