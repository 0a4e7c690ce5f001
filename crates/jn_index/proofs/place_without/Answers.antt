use Rattle.jn_index.proofs.Editing.{others_behind, before_later, behind_later, behind_earlier}
use Rattle.jn_index.proofs.place_without.Goals as goal

pub returns-then-fits_at-clause-after : goal.returns-then-fits_at-clause-after
returns-then-fits_at-clause-after c = others_behind c.args.entries.now c.args.out c.requires.bound c.args.sought (c.fits_at.ensures.after c.if-fits_at.true)

pub returns-then-out-place-clause-before : goal.returns-then-out-place-clause-before
returns-then-out-place-clause-before c = before_later c.args.entries.now c.args.out c.requires.bound c.args.sought c.place_of-place.result c.place_of-place.ensures.before c.place_of-place.ensures.after c.if-out-place.true

pub returns-then-out-place-clause-after : goal.returns-then-out-place-clause-after
returns-then-out-place-clause-after c = behind_later c.args.entries.now c.args.out c.requires.bound c.args.sought c.place_of-place.result c.place_of-place.ensures.before c.place_of-place.ensures.after c.if-out-place.true

pub returns-else-out-place-clause-after : goal.returns-else-out-place-clause-after
returns-else-out-place-clause-after c = behind_earlier c.args.entries.now c.args.out c.requires.bound c.args.sought c.place_of-place.result c.place_of-place.ensures.before c.place_of-place.ensures.after
