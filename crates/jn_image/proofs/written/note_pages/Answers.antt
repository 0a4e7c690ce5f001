use Rattle.jn_image.proofs.Common.{◌≡◌, ◌<◌, ◌≤◌, ◌+◌, ◌-◌, ℕ, suc, List, sym, ap, subst, ◌∙◌, arith, slice_index, HasEntries, page_noted, pages_noted}
use Rattle.jn_image.proofs.written.note_pages.Goals as goal

-- one more data page
further : (named : List ℕ) (entries : ℕ → List ℕ) (times total : List ℕ) (i n : ℕ) → i < n → pages_noted named entries times i (n - i) ≡ total
    → pages_noted named entries (page_noted (slice_index named (i + 1)) (entries i) times) (i + 1) (n - (i + 1)) ≡ total
further named entries times total i n lt so_far =
    let k : n - i ≡ suc (n - (i + 1)) = omega (arith, lt) in
    sym (ap (λ k. pages_noted named entries times i k) k) ∙ so_far

-- and none is left
finished : (named : List ℕ) (entries : ℕ → List ℕ) (times total : List ℕ) (i n : ℕ) → n ≤ i → pages_noted named entries times i (n - i) ≡ total → times ≡ total
finished named entries times total i n le so_far =
    let k : 0 ≡ n - i = omega (arith, le) in
    ap (λ k. pages_noted named entries times i k) k ∙ so_far

pub loop-i-preserved : goal.loop-i-preserved
loop-i-preserved c = λ entries are.
    let lt : c.loop-i.i < c.args.image.now.leaves = let n = c.leaf_count.ensures.count in let low = c.loop-i-test.true in omega (arith, n, low) in
    let page : HasEntries c.data_page.result.now (entries c.loop-i.i) = subst (λ (p : List ℕ). HasEntries p (entries c.loop-i.i)) (sym c.data_page.ensures) (are c.loop-i.i lt) in
    ap (λ (t : List ℕ). pages_noted c.args.named.now entries t (c.loop-i.i + 1) (c.args.image.now.leaves - (c.loop-i.i + 1))) (c.note_page.ensures (entries c.loop-i.i) page)
    ∙ further c.args.named.now entries c.loop-i.times.items _ c.loop-i.i c.args.image.now.leaves lt (c.loop-i.invariant entries are)

pub returns : goal.returns
returns c = λ entries are.
    finished c.args.named.now entries c.loop-i.times.items _ c.loop-i.i c.args.image.now.leaves (let n = c.leaf_count.ensures.count in let end = c.loop-i-test.false in omega (arith, n, end)) (c.loop-i.invariant entries are)
