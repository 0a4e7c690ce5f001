-- What the code that appends lines says of them.
use Rattle.std.specs.Prelude.{ℕ, List, ◌++◌, codes, decimal, map}
use Rattle.std.specs.List.{AllByRecursion}
use Rattle.jn_schedule.specs.Grammar.{Part, Bytes, IsByte}
use Rattle.jn_text.specs.Words.{block_word}
use Rattle.jn_gen.specs.Texts.{line_of, part_word}
use Rattle.jn_report.specs.Text.{tid_word}
use Rattle.jn_gen.specs.declared.word.Word.{Word}
use Rattle.jn_gen.specs.declared.word.Word.TheVariants.{Keyword, Client, Server, Number, Transaction, Block}

-- how a word is spelled
abbrev pub spelled : Word → List ℕ
spelled (Keyword text) = text.now
spelled (Client c) = codes "c" ++ decimal c.0
spelled (Server s) = decimal s.0
spelled (Number n) = decimal n
spelled (Transaction t) = tid_word t
spelled (Block bytes) = block_word bytes.now

-- the line of these parts
abbrev pub parts_line : List Part → List ℕ
parts_line ps = line_of (map part_word ps)

-- a block's bytes are bytes
abbrev pub IsOfBytes : Part → Type 0
IsOfBytes (Bytes stored) = AllByRecursion IsByte stored
IsOfBytes _ = Unit {0}
