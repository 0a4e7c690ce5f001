use Rattle.jn_following.proofs.Entries.{fits_all}
use Rattle.jn_following.proofs.following.fits_entries.Goals as goal

pub loop-entry-init : goal.loop-entry-init
loop-entry-init c = fits_all c.args.client c.args.number c.args.text.now c.args.entries.now
