-- Names by which runs are written down as examples.
use Rattle.std.specs.Prelude.{ℕ, if◌then◌else◌}
use Rattle.jn_base.specs.declared.names.ServerNo.{ServerNo}
use Rattle.jn_base.specs.declared.names.ClientNo.{ClientNo}
use Rattle.jn_base.specs.declared.names.FileNo.{FileNo}
use Rattle.jn_base.specs.declared.names.BlockNo.{BlockNo}
use Rattle.jn_base.specs.declared.names.Tid.{Tid}
use Rattle.jn_base.specs.declared.names.WorkId.{WorkId}
use Rattle.jn_rows.specs.Stable.{Pick, Left, whole_only}

abbrev pub s0 : ServerNo
s0 = record { 0 = 0 }

abbrev pub s1 : ServerNo
s1 = record { 0 = 1 }

abbrev pub c1 : ClientNo
c1 = record { 0 = 1 }

abbrev pub c2 : ClientNo
c2 = record { 0 = 2 }

abbrev pub tid : ServerNo → ℕ → Tid
tid s ticket = record { server = s; epoch = 1; ticket = ticket }

abbrev pub file : ℕ → FileNo
file n = record { 0 = n }

abbrev pub block : ℕ → BlockNo
block n = record { 0 = n }

abbrev pub the_work : WorkId
the_work = record { server = s0; epoch = 1; ticket = 0 }

-- each pick that reads the first half of page 3 finds the change at which the server was stopped
abbrev pub half_made : Pick → Left
half_made c = if c 3 then whole_only 1 else whole_only 0
