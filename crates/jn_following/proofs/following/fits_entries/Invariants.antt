use Rattle.std.proofs.Common.{◌≡◌, drop}
use Rattle.jn_following.specs.Asked.{outstanding_of}
use Rattle.jn_serial.specs.Follows.{fits_asked}
use Rattle.jn_following.proofs.Entries.{fits_then}
use Rattle.jn_following.proofs.following.fits_entries.Given as goal

abbrev pub invariant-loop-entry : goal.invariant-loop-entry
invariant-loop-entry l = fits_then l.client l.number l.text l.fits (drop l.entry-index l.entries) ≡ fits_asked (outstanding_of l.entries l.client) l.number l.text
