use Rattle.std.proofs.Common.{refl, ◌∙◌, ◌+◌, ◌/◌, ap, false}
use Rattle.jn_stable.specs.Halves.{put_both}
use Rattle.jn_stable.proofs.Halves.{puts_at, put_err, put_second_err}
use Rattle.jn_stable.proofs.Puts.{both_put, second_put_err}
use Rattle.jn_stable.proofs.pairs.PairsStableStore.put.Goals as goal

pub returns-in_err-put-clause-halves : goal.returns-in_err-put-clause-halves
returns-in_err-put-clause-halves g c =
    let start = ap (λ d. g.D.PhysDisk.state d) c.self.view_is in
    put_err _ _ _ _ _ c.from_residual.ensures.0 (puts_at _ _ _ _ _ _ _ start refl c.in_err-put.ensures.put c.in_err-put.ensures.makes)

pub returns-in_err-put-2-clause-put : goal.returns-in_err-put-2-clause-put
returns-in_err-put-2-clause-put g c =
    let start = ap (λ d. g.D.PhysDisk.state d) c.self.view_is in
    let place = ap (λ n. c.args.i + n / 2) (c.count.ensures ∙ ap (λ d. (g.D.PhysDisk.state d).count) c.self.view_is) in
    second_put_err _ _ _ _ _ c.requires (puts_at _ _ _ _ _ _ _ start refl c.in_ok-put.ensures.put c.in_ok-put.ensures.makes).put
    (puts_at _ _ _ _ _ _ _ refl place c.in_err-put-2.ensures.put c.in_err-put-2.ensures.makes).put _ c.from_residual-in_err-put-2.ensures.0

pub returns-in_err-put-2-clause-halves : goal.returns-in_err-put-2-clause-halves
returns-in_err-put-2-clause-halves g c =
    let start = ap (λ d. g.D.PhysDisk.state d) c.self.view_is in
    let place = ap (λ n. c.args.i + n / 2) (c.count.ensures ∙ ap (λ d. (g.D.PhysDisk.state d).count) c.self.view_is) in
    put_second_err _ _ _ _ _ _ c.from_residual-in_err-put-2.ensures.0 (puts_at _ _ _ _ _ _ _ start refl c.in_ok-put.ensures.put c.in_ok-put.ensures.makes)
    (puts_at _ _ _ _ _ _ _ refl place c.in_err-put-2.ensures.put c.in_err-put-2.ensures.makes)

pub returns-clause-put : goal.returns-clause-put
returns-clause-put g c =
    let start = ap (λ d. g.D.PhysDisk.state d) c.self.view_is in
    let place = ap (λ n. c.args.i + n / 2) (c.count.ensures ∙ ap (λ d. (g.D.PhysDisk.state d).count) c.self.view_is) in
    both_put _ _ _ _ _ false c.requires (puts_at _ _ _ _ _ _ _ start refl c.in_ok-put.ensures.put c.in_ok-put.ensures.makes).put
    (puts_at _ _ _ _ _ _ _ refl place c.in_ok-put-2.ensures.put c.in_ok-put-2.ensures.makes).put

pub returns-clause-halves : goal.returns-clause-halves
returns-clause-halves g c =
    let start = ap (λ d. g.D.PhysDisk.state d) c.self.view_is in
    let place = ap (λ n. c.args.i + n / 2) (c.count.ensures ∙ ap (λ d. (g.D.PhysDisk.state d).count) c.self.view_is) in
    put_both _ _ _ (puts_at _ _ _ _ _ _ _ start refl c.in_ok-put.ensures.put c.in_ok-put.ensures.makes)
    (puts_at _ _ _ _ _ _ _ refl place c.in_ok-put-2.ensures.put c.in_ok-put-2.ensures.makes)
