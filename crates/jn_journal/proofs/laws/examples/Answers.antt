use Rattle.std.proofs.Common.{List, [], ◌∷◌, ℕ, refl, subst, append-nil, arith}
use Rattle.jn_journal.specs.declared.reading.Ending.TheVariants.{Torn}
use Rattle.jn_journal.specs.Format.{journal}
use Rattle.jn_journal.specs.Reading.{Reads}
use Rattle.jn_journal.proofs.Journals.{read-back, reads-nothing, zeros-end, example-torn, example-damaged}
use Rattle.jn_journal.proofs.laws.examples.Goals as goal

pub returns : goal.returns
returns c = record {
  written = λ chain. ((omega arith, tt), subst (λ (bytes : List ℕ). Reads chain bytes ((5 ∷ []) ∷ []) Torn) (append-nil (journal chain ((5 ∷ []) ∷ []))) (read-back chain [] ((5 ∷ []) ∷ []) (omega arith, tt) tt));
  torn = λ chain. (example-torn chain (5 ∷ []), reads-nothing chain (0 ∷ 0 ∷ []) Torn (zeros-end (0 ∷ 0 ∷ []) (refl, (refl, tt))));
  synced = λ chain. (0 ∷ 0 ∷ [], refl, example-torn chain (5 ∷ []));
  damaged = λ chain. example-damaged chain;
}
