use Rattle.std.proofs.Common.{Ok, refl, sym, ◌∙◌, ◌+◌, ◌/◌, ap, subst, List, ℕ}
use Rattle.jn_store.specs.Store.{StoreGot}
use Rattle.jn_store.specs.Pairs.{pairs_view}
use Rattle.jn_stable.specs.Halves.{GetsHalves, got_first, got_second}
use Rattle.jn_stable.proofs.Halves.{first_got, second_got, gets_at, got_err, got_second_err}
use Rattle.jn_stable.proofs.pairs.PairsStableStore.get.Goals as goal
use Rattle.jn_stable.proofs.pairs.PairsStableStore.get.Goals.{else-not-branch-via-then-not-branch+in_ok-get-2+else-not-branch-2, else-not-branch-via-else-not-branch}

pub returns-in_err-get-clause-halves : goal.returns-in_err-get-clause-halves
returns-in_err-get-clause-halves g c =
    got_err _ _ _ _ (gets_at _ _ _ _ _ _ (ap (λ d. g.D.PhysDisk.state d) c.self.view_is) refl c.in_err-get.ensures.got c.in_err-get.ensures.makes) _ c.from_residual.ensures.0

pub returns-in_err-get-2-clause-halves : goal.returns-in_err-get-2-clause-halves
returns-in_err-get-2-clause-halves g c =
    let start = ap (λ d. g.D.PhysDisk.state d) c.self.view_is in
    let place = ap (λ n. c.args.i + n / 2) (c.count.ensures ∙ ap (λ d. (g.D.PhysDisk.state d).count) c.self.view_is) in
    got_second_err _ _ _ _ _ (gets_at _ _ _ _ _ _ start refl (rw c.if-not-branch.true at c.in_ok-get.ensures.got) (rw c.if-not-branch.true at c.in_ok-get.ensures.makes))
    (gets_at _ _ _ _ _ _ refl place c.in_err-get-2.ensures.got c.in_err-get-2.ensures.makes) _ c.from_residual-in_err-get-2.ensures.0

pub returns-clause-got : goal.returns-clause-got
returns-clause-got g c =
    let s = g.D.PhysDisk.state c.args.self.now in
    let start = ap (λ d. g.D.PhysDisk.state d) c.self.view_is in
    let place = ap (λ n. c.args.i + n / 2) (c.count.ensures ∙ ap (λ d. (g.D.PhysDisk.state d).count) c.self.view_is) in
    elim c.else-not-branch.branch [
      | else-not-branch-via-then-not-branch+in_ok-get-2+else-not-branch-2 w ↦
          subst (λ d. StoreGot (pairs_view s) c.args.i (Ok c.else-not-branch.page) (pairs_view (g.D.PhysDisk.state d))) (sym w.self-is)
          (subst (λ (x : List ℕ). StoreGot (pairs_view s) c.args.i (Ok x) (pairs_view (g.D.PhysDisk.state w.get-then-not-branch.new.self))) (sym w.page-is)
          (second_got s c.args.i _ _ _ (gets_at _ _ _ _ _ _ start refl (rw w.if-not-branch.true at c.in_ok-get.ensures.got) (rw w.if-not-branch.true at c.in_ok-get.ensures.makes))
          (gets_at _ _ _ _ _ _ refl place (rw w.if-not-branch-2.false at w.in_ok-get-2.ensures.got) (rw w.if-not-branch-2.false at w.in_ok-get-2.ensures.makes))))
      | else-not-branch-via-else-not-branch w ↦
          subst (λ d. StoreGot (pairs_view s) c.args.i (Ok c.else-not-branch.page) (pairs_view (g.D.PhysDisk.state d))) (sym w.self-is)
          (subst (λ (x : List ℕ). StoreGot (pairs_view s) c.args.i (Ok x) (pairs_view (g.D.PhysDisk.state c.get.new.self))) (sym w.page-is)
          (first_got s c.args.i _ _ (gets_at _ _ _ _ _ _ start refl (rw w.if-not-branch.false at c.in_ok-get.ensures.got) (rw w.if-not-branch.false at c.in_ok-get.ensures.makes))))
    ]

pub returns-clause-halves : goal.returns-clause-halves
returns-clause-halves g c =
    let s = g.D.PhysDisk.state c.args.self.now in
    let start = ap (λ d. g.D.PhysDisk.state d) c.self.view_is in
    let place = ap (λ n. c.args.i + n / 2) (c.count.ensures ∙ ap (λ d. (g.D.PhysDisk.state d).count) c.self.view_is) in
    elim c.else-not-branch.branch [
      | else-not-branch-via-then-not-branch+in_ok-get-2+else-not-branch-2 w ↦
          subst (λ d. GetsHalves s c.args.i (Ok c.else-not-branch.page) (g.D.PhysDisk.state d)) (sym w.self-is)
          (subst (λ (x : List ℕ). GetsHalves s c.args.i (Ok x) (g.D.PhysDisk.state w.get-then-not-branch.new.self)) (sym w.page-is)
          (got_second _ _ _ (gets_at _ _ _ _ _ _ start refl (rw w.if-not-branch.true at c.in_ok-get.ensures.got) (rw w.if-not-branch.true at c.in_ok-get.ensures.makes))
          (gets_at _ _ _ _ _ _ refl place (rw w.if-not-branch-2.false at w.in_ok-get-2.ensures.got) (rw w.if-not-branch-2.false at w.in_ok-get-2.ensures.makes))))
      | else-not-branch-via-else-not-branch w ↦
          subst (λ d. GetsHalves s c.args.i (Ok c.else-not-branch.page) (g.D.PhysDisk.state d)) (sym w.self-is)
          (subst (λ (x : List ℕ). GetsHalves s c.args.i (Ok x) (g.D.PhysDisk.state c.get.new.self)) (sym w.page-is)
          (got_first _ _ (gets_at _ _ _ _ _ _ start refl (rw w.if-not-branch.false at c.in_ok-get.ensures.got) (rw w.if-not-branch.false at c.in_ok-get.ensures.makes))))
    ]
