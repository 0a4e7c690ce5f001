use Rattle.jn_world_refines.proofs.Joined.{went-nowhere, went-further, went-to-cut, cut-leads}
use Rattle.jn_world_refines.proofs.tasks.calls_go_on_one_after_another.Goals as goal

pub returns : goal.returns
returns g c = record {
  nowhere = λ x m w stands lines. went-nowhere _ _ x m w stands lines;
  further = λ x m rest w a b c first less w' second. went-further _ _ x m rest w a b c first less w' second;
  cut = λ x m rest w a b c first limit second. went-to-cut _ _ x m rest w a b c first limit second;
  cut_leads = cut-leads;
}
