use Rattle.jn_image.proofs.Common.{◌≡◌, ◌≤◌, ◌-◌, ◌+◌, ◌*◌, ◌∷◌, [], ◌++◌, ℕ, List, drop, length, sym, subst, Half, halves_in}
use Rattle.jn_image.proofs.Loops.{fewer, half_read}
use Rattle.jn_image.proofs.reading.halves_of.Goals as goal

pub loop-preserved : goal.loop-preserved
loop-preserved c =
    let left = c.args.count - (c.loop.counter + 1) in
    let all = halves_in c.args.count c.args.pages.now in
    record {
      enough = subst (λ (rest : List ℕ). 513 * left ≤ length rest) (sym c.behind_half-after.ensures)
          (fewer c.args.count c.loop.counter c.loop.rest.now c.loop-test.true c.loop.invariant.enough);
      so_far = subst (λ (rest : List ℕ). c.push.new.self.items ++ halves_in left rest ≡ all) (sym c.behind_half-after.ensures)
          (subst (λ (front : List Half). front ++ halves_in left (drop 513 c.loop.rest.now) ≡ all) (sym c.in_ok-push.ensures.items)
          (subst (λ (h : Half). (c.loop.halves.items ++ h ∷ []) ++ halves_in left (drop 513 c.loop.rest.now) ≡ all) (sym c.half_of.ensures)
          (half_read c.args.count c.loop.counter c.loop.halves.items c.loop.rest.now all c.loop-test.true c.loop.invariant.so_far)));
    }
