use Rattle.jn_records.proofs.Common.{refl, used_at}
use Rattle.jn_records.proofs.Heads.{read_as}
use Rattle.jn_records.proofs.head.used_at.Goals as goal

pub returns : goal.returns
unfolding used_at
returns c =
    let listed = rw c.in-Some-2.is at c.in_ok-addresses.ensures in
    read_as c.maps_at.result _ (used_at c.args.bytes.now) c.maps_at.ensures (rw (c.in-Some.ensures, listed, c.from_vec.ensures) refl)
