use Rattle.std.proofs.Common.{◌≡◌, drop}
use Rattle.jn_device.specs.Events.{is_taken}
use Rattle.jn_memdisk.proofs.faults.Faults.takes.Given as goal

abbrev pub invariant-loop-w : goal.invariant-loop-w
invariant-loop-w l = is_taken l.n (drop l.w-index l.self.waiting.items) ≡ is_taken l.n l.fn.self.waiting.items
