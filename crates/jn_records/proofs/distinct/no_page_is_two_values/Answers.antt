use Rattle.jn_records.proofs.Common.{◌≡◌, Option, Some, refl, replicate, sym, ◌∙◌, root_page, head_page, record_page}
use Rattle.jn_records.proofs.Roots.{root_is_read, value_is}
use Rattle.jn_records.proofs.Heads.{head_is_read}
use Rattle.jn_records.proofs.RecordsAgain.{record_is_read}
use Rattle.jn_records.proofs.distinct.no_page_is_two_values.Goals as goal

abbrev found : {A : Type 0} → A → Option A
found x = Some x

one_value : {A : Type 0} (x y : A) → found x ≡ found y → x ≡ y
one_value x y e = cc

pub returns-clause-roots : goal.returns-clause-roots
returns-clause-roots c = λ a b is-a is-b e. value_is a b (replicate 496 0) (replicate 496 0) (sym (root_is_read (root_page a) a is-a refl) ∙ root_is_read (root_page a) b is-b e)

pub returns-clause-heads : goal.returns-clause-heads
returns-clause-heads c = λ leaves a b small is-a fits-a is-b fits-b e.
    one_value a b (sym (head_is_read leaves (head_page a) a small is-a fits-a refl) ∙ head_is_read leaves (head_page a) b small is-b fits-b e)

pub returns-clause-records : goal.returns-clause-records
returns-clause-records c = λ a b pages-a fits-a pages-b fits-b e.
    one_value a b (sym (record_is_read (record_page a) a pages-a fits-a refl) ∙ record_is_read (record_page a) b pages-b fits-b e)
