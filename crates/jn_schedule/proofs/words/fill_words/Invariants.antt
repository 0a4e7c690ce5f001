use Rattle.jn_schedule.proofs.Common.{length, ◌-◌, texts}
use Rattle.jn_schedule.proofs.Splits.{Found}
use Rattle.jn_schedule.proofs.words.fill_words.Given as goal

abbrev pub invariant-loop-end : goal.invariant-loop-end
invariant-loop-end l = Found l.text l.end (texts l.words.items)

abbrev pub decreases-loop-end : goal.decreases-loop-end
decreases-loop-end l = length l.text - l.end
