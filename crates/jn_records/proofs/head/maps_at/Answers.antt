use Rattle.jn_records.proofs.Common.{refl, maps_at}
use Rattle.jn_records.proofs.head.maps_at.Goals as goal

pub returns : goal.returns
unfolding maps_at
returns c =
    let listed = rw c.in-Some.is at c.in_ok-maps.ensures in
    rw (listed, c.from_vec.ensures) refl
