use Rattle.std.proofs.Common.{◌≡◌, ◌<◌, ℕ, [], vec_len}
use Rattle.std.specs.Prelude.{slice_index_or}
use Rattle.jn_device.specs.Device.{blank_page}
use Rattle.jn_store.proofs.array.ArrayStore.new.Given as goal

abbrev pub invariant-loop-made : goal.invariant-loop-made
invariant-loop-made l = record {
  len : vec_len l.pages ≡ l._made;
  blank : (i : ℕ) → i < l._made → slice_index_or l.pages.items i [] ≡ blank_page;
}
