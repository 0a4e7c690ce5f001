use Rattle.std.proofs.Common.{refl, sym, ◌∙◌, ◌+◌, ◌/◌, ap}
use denote.Enum.Bare.{same_true, same_false}
use Rattle.jn_phys.specs.contracts.Found.{the_type}
use Rattle.jn_stable.specs.Halves.{whole}
use Rattle.jn_stable.proofs.Halves.{gets_at, puts_at, cleaned_err, cleaned_second_err}
use Rattle.jn_stable.proofs.Cleans.{second_put, second_put_stopped, first_put, first_put_stopped, compared_other, compared_same}
use Rattle.jn_stable.proofs.pairs.PairsStableStore.cleanup.Goals as goal

pub returns-in_err-get-clause-halves : goal.returns-in_err-get-clause-halves
returns-in_err-get-clause-halves g c =
    let start = ap (λ d. g.D.PhysDisk.state d) c.self.view_is in
    cleaned_err _ _ _ _ (gets_at _ _ _ _ _ _ start refl c.in_err-get.ensures.got c.in_err-get.ensures.makes) _ c.from_residual.ensures.0

pub returns-in_err-compare-clause-halves : goal.returns-in_err-compare-clause-halves
returns-in_err-compare-clause-halves g c =
    let start = ap (λ d. g.D.PhysDisk.state d) c.self.view_is in
    let place = ap (λ n. c.args.i + n / 2) (c.count.ensures ∙ ap (λ d. (g.D.PhysDisk.state d).count) c.self.view_is) in
    cleaned_second_err _ _ _ _ _ _ (gets_at _ _ _ _ _ _ start refl (rw c.if-branch.true at c.in_ok-get.ensures.got) (rw c.if-branch.true at c.in_ok-get.ensures.makes))
    (gets_at _ _ _ _ _ _ refl place c.in_err-compare.ensures.got c.in_err-compare.ensures.makes) _ c.from_residual-in_err-compare.ensures.0

pub returns-then-eq-clause-halves : goal.returns-then-eq-clause-halves
returns-then-eq-clause-halves g c =
    let start = ap (λ d. g.D.PhysDisk.state d) c.self.view_is in
    let place = ap (λ n. c.args.i + n / 2) (c.count.ensures ∙ ap (λ d. (g.D.PhysDisk.state d).count) c.self.view_is) in
    whole _ _ _ (gets_at _ _ _ _ _ _ start refl (rw c.if-branch.true at c.in_ok-get.ensures.got) (rw c.if-branch.true at c.in_ok-get.ensures.makes))
    (let seen = compared_same _ _ _ _ _ c.in_ok-compare.field-0 (same_true the_type tt _ _ (sym c.if-eq.ensures)) c.in_ok-compare.ensures.compared c.in_ok-compare.ensures.got c.in_ok-compare.ensures.makes in gets_at _ _ _ _ _ _ refl place seen.got seen.makes)

pub returns-in_err-put-clause-cleaned : goal.returns-in_err-put-clause-cleaned
returns-in_err-put-clause-cleaned g c =
    let start = ap (λ d. g.D.PhysDisk.state d) c.self.view_is in
    let place = ap (λ n. c.args.i + n / 2) (c.count.ensures ∙ ap (λ d. (g.D.PhysDisk.state d).count) c.self.view_is) in
    let seen = compared_other _ _ _ _ _ c.in_ok-compare.field-0 (same_false the_type _ _ (sym c.if-eq.ensures)) c.in_ok-compare.ensures.compared c.in_ok-compare.ensures.got c.in_ok-compare.ensures.makes in
    (second_put_stopped _ _ _ _ _ _ c.requires _ (gets_at _ _ _ _ _ _ start refl (rw c.if-branch.true at c.in_ok-get.ensures.got) (rw c.if-branch.true at c.in_ok-get.ensures.makes)) (gets_at _ _ _ _ _ _ refl place seen.1.got seen.1.makes) seen.2
    (puts_at _ _ _ _ _ _ _ refl place c.in_err-put.ensures.put c.in_err-put.ensures.makes) _ c.from_residual-in_err-put.ensures.0).cleaned

pub returns-in_err-put-clause-halves : goal.returns-in_err-put-clause-halves
returns-in_err-put-clause-halves g c =
    let start = ap (λ d. g.D.PhysDisk.state d) c.self.view_is in
    let place = ap (λ n. c.args.i + n / 2) (c.count.ensures ∙ ap (λ d. (g.D.PhysDisk.state d).count) c.self.view_is) in
    let seen = compared_other _ _ _ _ _ c.in_ok-compare.field-0 (same_false the_type _ _ (sym c.if-eq.ensures)) c.in_ok-compare.ensures.compared c.in_ok-compare.ensures.got c.in_ok-compare.ensures.makes in
    (second_put_stopped _ _ _ _ _ _ c.requires _ (gets_at _ _ _ _ _ _ start refl (rw c.if-branch.true at c.in_ok-get.ensures.got) (rw c.if-branch.true at c.in_ok-get.ensures.makes)) (gets_at _ _ _ _ _ _ refl place seen.1.got seen.1.makes) seen.2
    (puts_at _ _ _ _ _ _ _ refl place c.in_err-put.ensures.put c.in_err-put.ensures.makes) _ c.from_residual-in_err-put.ensures.0).halves

pub returns-in_ok-put-clause-cleaned : goal.returns-in_ok-put-clause-cleaned
returns-in_ok-put-clause-cleaned g c =
    let start = ap (λ d. g.D.PhysDisk.state d) c.self.view_is in
    let place = ap (λ n. c.args.i + n / 2) (c.count.ensures ∙ ap (λ d. (g.D.PhysDisk.state d).count) c.self.view_is) in
    let seen = compared_other _ _ _ _ _ c.in_ok-compare.field-0 (same_false the_type _ _ (sym c.if-eq.ensures)) c.in_ok-compare.ensures.compared c.in_ok-compare.ensures.got c.in_ok-compare.ensures.makes in
    (second_put _ _ _ _ _ _ c.requires _ (gets_at _ _ _ _ _ _ start refl (rw c.if-branch.true at c.in_ok-get.ensures.got) (rw c.if-branch.true at c.in_ok-get.ensures.makes)) (gets_at _ _ _ _ _ _ refl place seen.1.got seen.1.makes) seen.2
    (puts_at _ _ _ _ _ _ _ refl place c.in_ok-put.ensures.put c.in_ok-put.ensures.makes)).cleaned

pub returns-in_ok-put-clause-halves : goal.returns-in_ok-put-clause-halves
returns-in_ok-put-clause-halves g c =
    let start = ap (λ d. g.D.PhysDisk.state d) c.self.view_is in
    let place = ap (λ n. c.args.i + n / 2) (c.count.ensures ∙ ap (λ d. (g.D.PhysDisk.state d).count) c.self.view_is) in
    let seen = compared_other _ _ _ _ _ c.in_ok-compare.field-0 (same_false the_type _ _ (sym c.if-eq.ensures)) c.in_ok-compare.ensures.compared c.in_ok-compare.ensures.got c.in_ok-compare.ensures.makes in
    (second_put _ _ _ _ _ _ c.requires _ (gets_at _ _ _ _ _ _ start refl (rw c.if-branch.true at c.in_ok-get.ensures.got) (rw c.if-branch.true at c.in_ok-get.ensures.makes)) (gets_at _ _ _ _ _ _ refl place seen.1.got seen.1.makes) seen.2
    (puts_at _ _ _ _ _ _ _ refl place c.in_ok-put.ensures.put c.in_ok-put.ensures.makes)).halves

pub returns-in_err-get-2-clause-halves : goal.returns-in_err-get-2-clause-halves
returns-in_err-get-2-clause-halves g c =
    let start = ap (λ d. g.D.PhysDisk.state d) c.self.view_is in
    let place = ap (λ n. c.args.i + n / 2) (c.count.ensures ∙ ap (λ d. (g.D.PhysDisk.state d).count) c.self.view_is) in
    cleaned_second_err _ _ _ _ _ _ (gets_at _ _ _ _ _ _ start refl (rw c.if-branch.false at c.in_ok-get.ensures.got) (rw c.if-branch.false at c.in_ok-get.ensures.makes))
    (gets_at _ _ _ _ _ _ refl place c.in_err-get-2.ensures.got c.in_err-get-2.ensures.makes) _ c.from_residual-in_err-get-2.ensures.0

pub returns-in_err-put-2-clause-cleaned : goal.returns-in_err-put-2-clause-cleaned
returns-in_err-put-2-clause-cleaned g c =
    let start = ap (λ d. g.D.PhysDisk.state d) c.self.view_is in
    let place = ap (λ n. c.args.i + n / 2) (c.count.ensures ∙ ap (λ d. (g.D.PhysDisk.state d).count) c.self.view_is) in
    (first_put_stopped _ _ _ _ _ _ c.requires (gets_at _ _ _ _ _ _ start refl (rw c.if-branch.false at c.in_ok-get.ensures.got) (rw c.if-branch.false at c.in_ok-get.ensures.makes)) (gets_at _ _ _ _ _ _ refl place (rw c.if-branch-2.true at c.in_ok-get-2.ensures.got) (rw c.if-branch-2.true at c.in_ok-get-2.ensures.makes))
    (puts_at _ _ _ _ _ _ _ refl refl c.in_err-put-2.ensures.put c.in_err-put-2.ensures.makes) _ c.from_residual-in_err-put-2.ensures.0).cleaned

pub returns-in_err-put-2-clause-halves : goal.returns-in_err-put-2-clause-halves
returns-in_err-put-2-clause-halves g c =
    let start = ap (λ d. g.D.PhysDisk.state d) c.self.view_is in
    let place = ap (λ n. c.args.i + n / 2) (c.count.ensures ∙ ap (λ d. (g.D.PhysDisk.state d).count) c.self.view_is) in
    (first_put_stopped _ _ _ _ _ _ c.requires (gets_at _ _ _ _ _ _ start refl (rw c.if-branch.false at c.in_ok-get.ensures.got) (rw c.if-branch.false at c.in_ok-get.ensures.makes)) (gets_at _ _ _ _ _ _ refl place (rw c.if-branch-2.true at c.in_ok-get-2.ensures.got) (rw c.if-branch-2.true at c.in_ok-get-2.ensures.makes))
    (puts_at _ _ _ _ _ _ _ refl refl c.in_err-put-2.ensures.put c.in_err-put-2.ensures.makes) _ c.from_residual-in_err-put-2.ensures.0).halves

pub returns-in_ok-put-2-clause-cleaned : goal.returns-in_ok-put-2-clause-cleaned
returns-in_ok-put-2-clause-cleaned g c =
    let start = ap (λ d. g.D.PhysDisk.state d) c.self.view_is in
    let place = ap (λ n. c.args.i + n / 2) (c.count.ensures ∙ ap (λ d. (g.D.PhysDisk.state d).count) c.self.view_is) in
    (first_put _ _ _ _ _ _ c.requires (gets_at _ _ _ _ _ _ start refl (rw c.if-branch.false at c.in_ok-get.ensures.got) (rw c.if-branch.false at c.in_ok-get.ensures.makes)) (gets_at _ _ _ _ _ _ refl place (rw c.if-branch-2.true at c.in_ok-get-2.ensures.got) (rw c.if-branch-2.true at c.in_ok-get-2.ensures.makes))
    (puts_at _ _ _ _ _ _ _ refl refl c.in_ok-put-2.ensures.put c.in_ok-put-2.ensures.makes)).cleaned

pub returns-in_ok-put-2-clause-halves : goal.returns-in_ok-put-2-clause-halves
returns-in_ok-put-2-clause-halves g c =
    let start = ap (λ d. g.D.PhysDisk.state d) c.self.view_is in
    let place = ap (λ n. c.args.i + n / 2) (c.count.ensures ∙ ap (λ d. (g.D.PhysDisk.state d).count) c.self.view_is) in
    (first_put _ _ _ _ _ _ c.requires (gets_at _ _ _ _ _ _ start refl (rw c.if-branch.false at c.in_ok-get.ensures.got) (rw c.if-branch.false at c.in_ok-get.ensures.makes)) (gets_at _ _ _ _ _ _ refl place (rw c.if-branch-2.true at c.in_ok-get-2.ensures.got) (rw c.if-branch-2.true at c.in_ok-get-2.ensures.makes))
    (puts_at _ _ _ _ _ _ _ refl refl c.in_ok-put-2.ensures.put c.in_ok-put-2.ensures.makes)).halves
