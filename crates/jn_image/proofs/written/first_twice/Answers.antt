use Rattle.jn_image.proofs.Common.{◌≡◌, ℕ, List, ap, subst, ◌∙◌, Finds, heads_noted, pages_noted, no_times, all_noted, IsNotTwice}
use Rattle.jn_image.proofs.written.first_twice.Goals as goal

pub returns : goal.returns
returns c = λ entries are.
    let leaves = c.args.image.now.leaves in
    let counted = c.leaf_count.ensures.count in
    let times : c.deref.result.now ≡ all_noted leaves c.args.heads.now c.args.named.now entries =
    c.deref.ensures.value ∙ c.note_pages.ensures entries are
    ∙ ap (λ (t : List ℕ). pages_noted c.args.named.now entries t 0 leaves) (c.note_heads.ensures ∙ ap (λ (t : List ℕ). heads_noted t c.args.heads.now) (c.in_ok-times.ensures ∙ ap no_times counted)) in
    subst (λ (t : List ℕ). Finds (IsNotTwice leaves t) c.least_twice.result) times (subst (λ (n : ℕ). Finds (IsNotTwice n c.deref.result.now) c.least_twice.result) c.leaf_count-2.ensures.count c.least_twice.ensures)
