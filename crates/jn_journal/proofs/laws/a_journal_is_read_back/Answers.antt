use Rattle.std.proofs.Common.{◌++◌, List, ℕ, subst, append-nil}
use Rattle.jn_journal.specs.declared.reading.Ending.TheVariants.{Torn}
use Rattle.jn_journal.specs.Format.{journal}
use Rattle.jn_journal.specs.Reading.{Reads}
use Rattle.jn_journal.proofs.Journals.{read-back}
use Rattle.jn_journal.proofs.laws.a_journal_is_read_back.Goals as goal

pub returns : goal.returns
returns c chain zeros contents fit none =
    subst (λ (xs : List (List ℕ)). Reads chain (journal chain contents ++ zeros) xs Torn) (append-nil contents) (read-back chain zeros contents fit none)
