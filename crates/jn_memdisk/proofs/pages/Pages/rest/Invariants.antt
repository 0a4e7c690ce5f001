use Rattle.std.proofs.Common.{◌≡◌, ◌<◌, ◌≤◌, ℕ, vec_len}
use Rattle.jn_device.specs.Events.{rested}
use Rattle.jn_memdisk.specs.Disk.{pages_of}
use Rattle.jn_memdisk.proofs.pages.Pages.rest.Given as goal

abbrev pub invariant-loop-i : goal.invariant-loop-i
invariant-loop-i l = record {
  halves : l.self.halves ≡ l.fn.self.halves;
  len : vec_len l.self.marks ≡ vec_len l.fn.self.marks;
  below : (q : ℕ) → q < l.i → pages_of l.self q ≡ rested (pages_of l.fn.self q);
  above : (q : ℕ) → l.i ≤ q → pages_of l.self q ≡ pages_of l.fn.self q;
}
