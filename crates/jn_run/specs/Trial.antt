-- A trial's line.
use Rattle.std.specs.Prelude.{◌≡◌, ℕ, Option, Result, Ok, Err, Vec}
use Rattle.std.specs.declared.alloc.Global.{Global}
use Rattle.jn_host.specs.Outside.{Contents}
use Rattle.jn_options.specs.declared.asked.Trial.{Trial}
use Rattle.jn_run.specs.Outcome.{RanTrial, TrialToLimit}
use Rattle.jn_run.specs.declared.running.RunFault.{RunFault}
use Rattle.jn_run.specs.declared.running.RunFault.TheVariants as runs

-- the line of a whole run, or why there is none: a limit, or want of memory
pub record SumsUp (trial : Trial) (kept : Option Contents) (answer : Result (Vec ℕ Global) RunFault) : Type 0 where
  pub line : (v : Vec ℕ Global) → answer ≡ Ok v → RanTrial trial kept (λ text. v.items ≡ text)
  pub limit : answer ≡ Err runs.Limit → TrialToLimit trial kept
  pub no_write : answer ≡ Err runs.Write → ⊥
