use Rattle.std.proofs.Common.{rules, sym, ◌∙◌}
use Rattle.jn_coord.proofs.ClosingLemmas.{going-next, next-closed, next-stopped}
use Rattle.jn_coord.proofs.coordinator.Coordinator.close_next.Goals as goal

pub let_go-requires-clause-going : goal.let_go-requires-clause-going
let_go-requires-clause-going g c = going-next c.args.who c.in-Some.tid _ c.requires.fits.rising (sym c.next_closing.ensures ∙ c.in-Some.is)

pub returns-then-is_err : goal.returns-then-is_err
returns-then-is_err g c = next-stopped c.args.who _ _ _ c.in-Some.tid c.let_go.result c.requires.fits (sym c.next_closing.ensures ∙ c.in-Some.is) c.let_go.ensures (search rules)

pub returns : goal.returns
returns g c = next-closed c.args.who _ _ _ _ c.in-Some.tid c.let_go.result c.requires.fits (sym c.next_closing.ensures ∙ c.in-Some.is) c.let_go.ensures (search rules) c.remove.ensures
