use Rattle.jn_records.proofs.Common.{◌≡◌, ℕ, true, List, length, Option, None, Some, IfSome, sym, ap, subst, ◌∙◌, all_within, map_page, head_blocks}
use Rattle.jn_records.proofs.HeadPages.{entries_are}
use Rattle.jn_records.proofs.map.map_entries.Goals as goal

counted : (r : Option (List ℕ)) (xs : List ℕ) → IfSome r (λ ys. ys ≡ xs) → length xs ≡ head_blocks → IfSome r (λ ys. length ys ≡ head_blocks)
counted None xs same count = tt
counted (Some ys) xs same count = ap (λ (l : List ℕ). length l) same ∙ count

pub returns-clause-count : goal.returns-clause-count
returns-clause-count c = counted c.of_page.result c.read_entries.result c.of_page.ensures.same c.read_entries.ensures.count

pub returns-clause-only : goal.returns-clause-only
returns-clause-only c = λ entries count within e.
    let same = entries_are c.args.leaves c.args.page.now c.ranges.leaves.fits entries count within e c.read_entries.result c.read_entries.ensures in
    c.of_page.ensures.only (subst (λ (xs : List ℕ). all_within c.args.leaves xs ≡ true) (sym same) within) (e ∙ ap map_page (sym same)) ∙ ap (λ (xs : List ℕ). Some xs) same
