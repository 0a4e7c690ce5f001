use Rattle.jn_intent.proofs.Common.{◌≡◌, true, ◌∙◌, sym, subst, arith, rules, length-set, is_ok, slice_set, TableView, IsTable}
use Rattle.jn_files.proofs.Touching.{touched_table}
use Rattle.jn_intent.proofs.prepare.fill_next.Goals as goal

pub overflow_add-result : goal.overflow_add-result
overflow_add-result g c = let free = (c.is_table.ensures.free_leaves c.in-Some.page).0 c.in-Some.ensures.least.is_free_itself in let few = c.is_table.ensures.few_leaves in let below = free.below in omega (arith, few, below)

pub returns-clause-table : goal.returns-clause-table
returns-clause-table g c =
    let done : is_ok c.fill.result ≡ true = search rules in
    let t = c.take_leaf.new.self in
    subst (λ (x : TableView). IsTable x) (sym (c.fill.ensures.done done))
    (touched_table t (slice_set t.touched c.in-Some.page true) c.is_table-2.ensures (length-set t.touched c.in-Some.page true ∙ c.is_table-2.ensures.touches))
