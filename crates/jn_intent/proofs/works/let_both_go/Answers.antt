use Rattle.jn_intent.proofs.Common.{◌∙◌, ap, subst, sym, TableView, page_let_go, IsHeldAt}
use Rattle.jn_intent.proofs.works.let_both_go.Goals as goal

pub let_page_go-requires-2 : goal.let_page_go-requires-2
let_page_go-requires-2 c = subst (λ (t : TableView). IsHeldAt t c.args.intention.now.map) (sym c.let_page_go.ensures) c.requires.map

pub returns : goal.returns
returns c = c.let_page_go-2.ensures ∙ ap (λ (t : TableView). page_let_go t c.args.intention.now.map) c.let_page_go.ensures
