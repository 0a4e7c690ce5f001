use Rattle.jn_image.proofs.Common.{◌≡◌, Bool, true, false, refl, sym, ◌∙◌, not, false≢true}
use Rattle.jn_image.proofs.Repeated.{old_value}
use Rattle.jn_image.proofs.repeats.note.Goals as goal

stood : (added had : Bool) → added ≡ not had → added ≡ false → had ≡ true
stood added true e f = refl
stood added false e f = absurd (false≢true (sym f ∙ e))

pub returns-else-branch : goal.returns-else-branch
returns-else-branch c = λ xs n at noted. rw c.lesser.ensures
    (old_value xs n c.args.seen.now c.insert.new.self c.args.least noted c.in-Some.value (at ∙ c.in-Some.is) c.in_ok-insert.ensures.updates
    (stood c.in_ok-insert.field-0 _ c.in_ok-insert.ensures.added c.if-branch.false))
