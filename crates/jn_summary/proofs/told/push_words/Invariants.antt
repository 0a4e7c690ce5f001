use Rattle.std.proofs.Common.{◌≡◌, ◌++◌, drop, map}
use Rattle.jn_report.specs.Text.{spaced}
use Rattle.jn_summary.specs.Spell.{spelled}
use Rattle.jn_summary.proofs.told.push_words.Given as goal

-- the text so far, and then that of the rest
abbrev pub invariant-loop-word : goal.invariant-loop-word
invariant-loop-word l = l.out.items ++ spaced (map spelled (drop l.word-index l.words)) ≡ l.fn.out.items ++ spaced (map spelled l.words)
