-- What a source gave, and how its reading ends.
use Rattle.jn_run.proofs.Common.{◌≡◌, ◌≢◌, ℕ, List, [], ◌∷◌, ◌++◌, length, drop, option_map, Option, Some, None, Result, Ok, Err, Vec, refl, sym, ◌∙◌, ap, subst, true≢false, is_ok, Global, prepend_known, SourceState, HasTooManyBytes, Reads}
use Rattle.jn_run.specs.Source.{FailsToGive, Gives, GivesSome}
use Rattle.jn_run.specs.Reading.{ReadsAll}
use Rattle.jn_run.specs.declared.reading.ReadFault.{ReadFault}
use Rattle.jn_run.specs.declared.reading.ReadFault.TheVariants as reads

drop-front : (xs ys : List ℕ) → drop (length xs) (xs ++ ys) ≡ ys
drop-front [] ys = refl
drop-front (x ∷ xs) ys = drop-front xs ys

-- what is left is what was there but for the bytes that came
pub left-of : (first left : Option (List ℕ)) (bytes : List ℕ) → first ≡ prepend_known bytes left → left ≡ option_map (λ (all : List ℕ). drop (length bytes) all) first
left-of first None bytes is = sym (ap (λ (known : Option (List ℕ)). option_map (λ (all : List ℕ). drop (length bytes) all) known) is)
left-of first (Some rest) bytes is = sym (ap (λ (known : Option (List ℕ)). option_map (λ (all : List ℕ). drop (length bytes) all) known) is ∙ ap (λ (all : List ℕ). Some all) (drop-front bytes rest))

pub gives-of : (before after : SourceState) (bytes : List ℕ) → before.left ≡ prepend_known bytes after.left → after.faults ≡ before.faults → Gives (length bytes) before after
gives-of before after bytes is same = record { left = left-of before.left after.left bytes is; faults = same }

-- ---- how it ends

fault-is : (r : Result (Vec ℕ Global) ReadFault) (d e : ReadFault) → r ≡ Err d → r ≡ Err e → d ≡ e
fault-is r d e is other = cc

failed-long : reads.Failed ≢ reads.TooLong
failed-long h = cc

failed-memory : reads.Failed ≢ reads.Memory
failed-memory h = cc

long-memory : reads.TooLong ≢ reads.Memory
long-memory h = cc

module _ (before after : SourceState) (r : Result (Vec ℕ Global) ReadFault) where
  no-vec : (e : ReadFault) → r ≡ Err e → (v : Vec ℕ Global) → r ≡ Ok v → ⊥
  no-vec e is v ok = true≢false (sym (ap is_ok ok) ∙ ap is_ok is)

  pub whole-so : (v : Vec ℕ Global) → r ≡ Ok v → Reads v.items before after → ReadsAll before r after
  whole-so v is all = record {
    whole = λ u ok. subst (λ (w : Vec ℕ Global). Reads w.items before after) (one v u (sym is ∙ ok)) all;
    failed = λ e. absurd (no-vec reads.Failed e v is);
    too_long = λ e. absurd (no-vec reads.TooLong e v is);
    memory = λ e. absurd (no-vec reads.Memory e v is);
  }
    where
      one : (u w : Vec ℕ Global) → Path (Result (Vec ℕ Global) ReadFault) (Ok u) (Ok w) → u ≡ w
      one u w h = cc

  pub failed-so : r ≡ Err reads.Failed → FailsToGive before after → ReadsAll before r after
  failed-so is fails = record {
    whole = λ v ok. absurd (no-vec reads.Failed is v ok);
    failed = λ e. fails;
    too_long = λ e. absurd (failed-long (fault-is r reads.Failed reads.TooLong is e));
    memory = λ e. absurd (failed-memory (fault-is r reads.Failed reads.Memory is e));
  }

  pub long-so : r ≡ Err reads.TooLong → HasTooManyBytes before after → ReadsAll before r after
  long-so is many = record {
    whole = λ v ok. absurd (no-vec reads.TooLong is v ok);
    failed = λ e. absurd (failed-long (fault-is r reads.Failed reads.TooLong e is));
    too_long = λ e. many;
    memory = λ e. absurd (long-memory (fault-is r reads.TooLong reads.Memory is e));
  }

  pub memory-so : r ≡ Err reads.Memory → GivesSome before after → ReadsAll before r after
  memory-so is some = record {
    whole = λ v ok. absurd (no-vec reads.Memory is v ok);
    failed = λ e. absurd (failed-memory (fault-is r reads.Failed reads.Memory e is));
    too_long = λ e. absurd (long-memory (fault-is r reads.TooLong reads.Memory e is));
    memory = λ e. some;
  }
