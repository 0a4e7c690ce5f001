use Rattle.jn_records.proofs.Common.{refl, prepared_at}
use Rattle.jn_records.proofs.record.prepared_at.Goals as goal

pub returns : goal.returns
unfolding prepared_at
returns c =
    let listed = rw c.in-Some-2.is at c.in_ok-reads.ensures in
    rw (c.in-Some.ensures, c.in-Some-u8_at.ensures, c.in-Some-u8_at-2.ensures, listed, c.prepared.ensures, c.from_vec-reads.ensures) refl
