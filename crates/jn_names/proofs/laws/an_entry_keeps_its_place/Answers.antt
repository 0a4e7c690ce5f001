use Rattle.jn_names.proofs.Keeping.{bind-keeps, unbind-keeps}
use Rattle.jn_names.proofs.laws.an_entry_keeps_its_place.Goals as goal

pub returns-clause-bound : goal.returns-clause-bound
returns-clause-bound c = λ k place slots now name file entry b h other here. bind-keeps k place slots now name file entry b h other here

pub returns-clause-unbound : goal.returns-clause-unbound
returns-clause-unbound c = λ place slots now name entry h other here. unbind-keeps place slots now name entry h other here
