-- How the words that the code appends are spelled.
use Rattle.std.specs.Prelude.{ℕ, List, decimal}
use Rattle.jn_summary.specs.declared.told.Word.{Word}
use Rattle.jn_summary.specs.declared.told.Word.TheVariants.{Name, Number}

abbrev pub spelled : Word → List ℕ
spelled (Name text) = text.now
spelled (Number n) = decimal n
