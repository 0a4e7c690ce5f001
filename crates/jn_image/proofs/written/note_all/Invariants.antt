use Rattle.jn_image.proofs.Common.{◌≡◌, drop, noted_all}
use Rattle.jn_image.proofs.written.note_all.Given as goal

abbrev pub invariant-loop-address : goal.invariant-loop-address
invariant-loop-address l = noted_all l.times.items (drop l.address-index l.addresses) ≡ noted_all l.fn.times.items l.addresses
