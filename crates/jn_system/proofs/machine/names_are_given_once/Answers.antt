use Rattle.jn_system.proofs.Common.{run, opening_world}
use Rattle.jn_system.proofs.SmallSteps.NameLemmas.{fresh_work, fresh_tid}
use Rattle.jn_system.proofs.SmallSteps.Runs.{run_kept, opening_kept}
use Rattle.jn_system.proofs.machine.names_are_given_once.Goals as goal

pub returns : goal.returns
returns c = record {
  tids = λ files epochs atoms may T m. fresh_tid (run atoms (opening_world files epochs)) T (run_kept atoms (opening_world files epochs) may (opening_kept files epochs)).names m;
  works = λ files epochs atoms may W T m. fresh_work (run atoms (opening_world files epochs)) W T (run_kept atoms (opening_world files epochs) may (opening_kept files epochs)).names m;
}
