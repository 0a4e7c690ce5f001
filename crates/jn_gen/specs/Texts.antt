-- A schedule's text: a line for each event, of the words of its parts with a space between two.
use Rattle.std.specs.Prelude.{ℕ, List, [], ◌∷◌, ◌++◌, codes, decimal, map}
use Rattle.jn_report.specs.Text.{tid_word, spaced}
use Rattle.jn_schedule.specs.declared.Event.{Event}
use Rattle.jn_schedule.specs.Grammar.{Part, Keyword, Client, Number, Name, Bytes, parts_of}
use Rattle.jn_text.specs.Words.{block_word}

-- a block is spelled without the zeros at its end
abbrev pub part_word : Part → List ℕ
part_word (Keyword k) = k
part_word (Client c) = codes "c" ++ decimal c
part_word (Number low high n) = decimal n
part_word (Name t) = tid_word t
part_word (Bytes stored) = block_word stored

-- a space between two words
abbrev pub joined : List (List ℕ) → List ℕ
joined [] = []
joined (w ∷ ws) = w ++ spaced ws

-- a line of words, with the line feed at its end
abbrev pub line_of : List (List ℕ) → List ℕ
line_of ws = joined ws ++ 10 ∷ []

abbrev pub event_words : Event → List (List ℕ)
event_words e = map part_word (parts_of e)

abbrev pub text_of : List Event → List ℕ
text_of [] = []
text_of (e ∷ es) = line_of (event_words e) ++ text_of es
