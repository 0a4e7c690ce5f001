use Rattle.std.proofs.Common.{List, ℕ, ◌++◌, ap, ◌∙◌}
use Rattle.jn_journal.specs.declared.reading.Ending.TheVariants.{Torn}
use Rattle.jn_journal.proofs.Journals.{one-reading, torn-reads}
use Rattle.jn_journal.proofs.laws.a_torn_journal_gives_its_first_records.Goals as goal

pub returns : goal.returns
returns c chain file contents xs e fit t r =
    let front = torn-reads chain file contents fit t in
    let same = one-reading chain file xs front.0 e Torn r front.2 in
    ((front.1, ap (λ (ys : List (List ℕ)). ys ++ front.1) same.0 ∙ front.3), same.1)
