-- When a server has nothing but files.
use Rattle.std.specs.Prelude.{◌≡◌, None}
use Rattle.jn_base.specs.declared.names.Tid.{Tid}
use Rattle.jn_base.specs.declared.names.WorkId.{WorkId}
use Rattle.jn_rows.specs.Stable.{StableState}

-- no work is prepared, and no transaction has a flag
pub record IsSettledState (y : StableState) : Type 0 where
  pub works : (W : WorkId) → y.works W ≡ None
  pub flags : (T : Tid) → y.flags T ≡ None
