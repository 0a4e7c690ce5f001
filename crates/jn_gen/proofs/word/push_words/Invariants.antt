use Rattle.jn_gen.proofs.Common.{◌≡◌, ◌++◌, drop, map, spelled, spaced}
use Rattle.jn_gen.proofs.word.push_words.Given as goal

-- the text so far, and then that of the rest
abbrev pub invariant-loop-word : goal.invariant-loop-word
invariant-loop-word l = l.out.items ++ spaced (map spelled (drop l.word-index l.words)) ≡ l.fn.out.items ++ spaced (map spelled l.words)
