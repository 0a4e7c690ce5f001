-- What is read of the source.
use Rattle.std.specs.Prelude.{◌≡◌, ℕ, Result, Ok, Err, Vec}
use Rattle.std.specs.declared.alloc.Global.{Global}
use Rattle.jn_run.specs.declared.reading.ReadFault.{ReadFault}
use Rattle.jn_run.specs.declared.reading.ReadFault.TheVariants as reads
use Rattle.jn_run.specs.Outcome.{HasTooManyBytes, Reads}
use Rattle.jn_writing.specs.Outside.{SourceState}
use Rattle.jn_run.specs.Source.{FailsToGive, GivesSome}

-- a source was read to its end, or wasn't, by why
pub record ReadsAll (before : SourceState) (answer : Result (Vec ℕ Global) ReadFault) (after : SourceState) : Type 0 where
  pub whole : (v : Vec ℕ Global) → answer ≡ Ok v → Reads v.items before after
  pub failed : answer ≡ Err reads.Failed → FailsToGive before after
  pub too_long : answer ≡ Err reads.TooLong → HasTooManyBytes before after
  pub memory : answer ≡ Err reads.Memory → GivesSome before after
