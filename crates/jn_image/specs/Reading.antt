-- How an image is read from bytes with which nothing is wrong.
use Rattle.std.specs.Prelude.{◌*◌, ℕ, zero, suc, nat_eq, List, [], ◌∷◌, take, drop, slice_index}
use Rattle.jn_device.specs.declared.Half.{Half}
use Rattle.jn_records.specs.StablePages.{page_count}
use Rattle.jn_image.specs.declared.image.Image.{Image}
use Rattle.jn_image.specs.Faults.{version_in, server_in, counts_in}

abbrev pub half_in : List ℕ → Half
half_in bytes = record { good = nat_eq (slice_index bytes 0) 1; bytes = take 512 (drop 1 bytes) }

-- n physical pages, one after another
abbrev pub halves_in : ℕ → List ℕ → List Half
halves_in zero bytes = []
halves_in (suc n) bytes = half_in bytes ∷ halves_in n (drop 513 bytes)

unfoldable pub image_in : List ℕ → Image
image_in bytes = record {
  version = version_in bytes;
  server = record { 0 = server_in bytes };
  pool = (counts_in bytes).pool;
  heads = (counts_in bytes).heads;
  leaves = (counts_in bytes).leaves;
  pages = halves_in (2 * page_count (counts_in bytes)) (drop 16 bytes);
}
