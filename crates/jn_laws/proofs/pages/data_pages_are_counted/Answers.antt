use Rattle.jn_laws.proofs.DataPages.{pages-in-use}
use Rattle.jn_laws.proofs.pages.data_pages_are_counted.Goals as goal

pub returns : goal.returns
returns g c = λ x m w is stands n p at. pages-in-use _ _ x m w is stands n p at
