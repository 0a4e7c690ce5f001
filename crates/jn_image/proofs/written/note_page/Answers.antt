use Rattle.jn_image.proofs.Common.{◌≡◌, ◌<◌, ℕ, Bool, true, List, sym, ap, ◌∙◌, arith, nat_tests, nat_lt, if◌then◌else◌, noted_all, one_list}
use Rattle.jn_image.proofs.written.note_page.Goals as goal

is_named : (n : ℕ) → 0 < n → nat_lt 0 n ≡ true
is_named n h = grind (arith, nat_tests, h)

pub returns-then-named-gt0 : goal.returns-then-named-gt0
returns-then-named-gt0 c = λ entries has.
    c.note_all.ensures
    ∙ ap (λ (xs : List ℕ). noted_all c.args.times.now.items xs) (one_list c.args.page.now c.read_entries-entries.result entries c.read_entries-entries.ensures has)
    ∙ sym (ap (λ (b : Bool). if b then noted_all c.args.times.now.items entries else c.args.times.now.items) (is_named c.args.named c.if-named-gt0.true))
