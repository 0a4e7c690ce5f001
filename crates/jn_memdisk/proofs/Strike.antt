-- The loop of `strike`.
use Rattle.std.proofs.Common.{◌≡◌, ℕ, ◌+◌, ◌≤◌, List, ◌++◌, Option, Some, None, length, take, drop}
use Rattle.jn_base.specs.declared.device.FaultKind.{FaultKind}
use Rattle.jn_device.specs.declared.Armed.{Armed}
use Rattle.jn_device.specs.Calls.{due, waiting_on}
use Rattle.jn_memdisk.specs.Faults.{list_of}

-- the first of two
abbrev pub first_of : Option FaultKind → Option FaultKind → Option FaultKind
first_of None later = later
first_of (Some k) later = Some k

-- from all, up to place i of ws
pub record Ticked (all : List Armed) (struck : Option FaultKind) (i : ℕ) (ws : List Armed) : Type 0 where
  pub rest : take i ws ++ waiting_on (drop i ws) ≡ waiting_on all
  pub struck_is : first_of struck (due (drop i ws)) ≡ due all
  pub within : i ≤ length ws
  pub spent : length ws + length (list_of struck) ≤ length all
