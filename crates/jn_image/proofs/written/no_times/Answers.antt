use Rattle.jn_image.proofs.Common.{◌≡◌, ◌<◌, ◌+◌, ◌-◌, ℕ, suc, List, [], ◌∷◌, ◌++◌, replicate, no_times, sym, ap, subst, ◌∙◌, append_assoc, arith}
use Rattle.jn_image.proofs.written.no_times.Goals as goal

one_more : (front total : List ℕ) (n i : ℕ) → i < n → front ++ replicate (n - i) 0 ≡ total → (front ++ 0 ∷ []) ++ replicate (n - (i + 1)) 0 ≡ total
one_more front total n i lt so_far =
    let k : n - i ≡ suc (n - (i + 1)) = omega (arith, lt) in
    append_assoc front (0 ∷ []) (replicate (n - (i + 1)) 0) ∙ ap (λ n. front ++ replicate n 0) (sym k) ∙ so_far

pub loop-preserved : goal.loop-preserved
loop-preserved c = rw c.in_ok-push.ensures.items (one_more c.loop.times.items (no_times c.args.leaves) (c.args.leaves + 1) c.loop.counter (subst (λ (n : ℕ). c.loop.counter < n + 1) c.from-end.ensures c.loop-test.true) c.loop.invariant)
