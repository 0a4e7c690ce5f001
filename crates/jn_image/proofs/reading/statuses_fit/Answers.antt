use Rattle.jn_image.proofs.Common.{◌≡◌, ◌≤◌, ◌-◌, ◌+◌, ◌*◌, ℕ, List, length, sym, subst, statuses_fit}
use Rattle.jn_image.proofs.Loops.{fewer, status_over, status_within}
use Rattle.jn_image.proofs.reading.statuses_fit.Goals as goal

pub returns-then-rest-gt1 : goal.returns-then-rest-gt1
returns-then-rest-gt1 c =
    status_over c.args.count c.loop.counter c.loop.rest.now (statuses_fit c.args.count c.args.pages.now) c.loop-test.true c.loop.invariant.so_far c.if-rest-gt1.true

pub loop-preserved : goal.loop-preserved
loop-preserved c =
    let left = c.args.count - (c.loop.counter + 1) in
    record {
      enough = subst (λ (rest : List ℕ). 513 * left ≤ length rest) (sym c.behind_half-after.ensures)
          (fewer c.args.count c.loop.counter c.loop.rest.now c.loop-test.true c.loop.invariant.enough);
      so_far = subst (λ (rest : List ℕ). statuses_fit left rest ≡ statuses_fit c.args.count c.args.pages.now) (sym c.behind_half-after.ensures)
          (status_within c.args.count c.loop.counter c.loop.rest.now (statuses_fit c.args.count c.args.pages.now) c.loop-test.true c.loop.invariant.so_far c.if-rest-gt1.false);
    }
