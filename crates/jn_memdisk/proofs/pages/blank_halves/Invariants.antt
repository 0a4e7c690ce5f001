use Rattle.std.proofs.Common.{◌≡◌, ◌<◌, ℕ, vec_len, true}
use Rattle.jn_device.specs.Device.{blank_page}
use Rattle.jn_memdisk.specs.Pages.{half_at}
use Rattle.jn_memdisk.proofs.pages.blank_halves.Given as goal

abbrev pub invariant-loop-made : goal.invariant-loop-made
invariant-loop-made l = record {
  len : vec_len l.halves ≡ l._made;
  blank : (q : ℕ) → q < l._made → half_at l.halves.items q ≡ record { good = true; bytes = blank_page };
}
