use Rattle.jn_records.proofs.Common.{refl, flag_at}
use Rattle.jn_records.proofs.record.flag_at.Goals as goal

pub returns : goal.returns
unfolding flag_at
returns c =
    let listed = rw c.in-Some-2.is at c.in_ok-works.ensures in
    rw (c.in-Some.ensures, c.in-Some-u8_at.ensures, c.in-Some-u32_at.ensures, c.in-Some-u8_at-2.ensures, listed, c.from_vec.ensures) refl
