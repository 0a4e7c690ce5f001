-- An image with the head of a file and, beside it, a page that begins like a head of the same file and is none.
use Rattle.std.specs.Prelude.{ℕ, true, nat_eq, if◌then◌else◌, List, ◌∷◌, replicate}
use Rattle.jn_base.specs.Limits.{head_blocks, most_maps}
use Rattle.jn_records.specs.declared.head.Head.{Head}
use Rattle.jn_records.specs.declared.head.Head.TheVariants.{Used}
use Rattle.jn_records.specs.Heads.{head_page}
use Rattle.jn_records.specs.Sound.{Image}

-- file 9, with no block
abbrev pub head_of_9 : Head
head_of_9 = Used (record { 0 = 9 }) (replicate head_blocks 0) (replicate most_maps 0)

-- its first block has an address, though there are no data pages
abbrev pub malformed_page : List ℕ
malformed_page = 1 ∷ 0 ∷ 0 ∷ 0 ∷ 9 ∷ 0 ∷ 1 ∷ replicate 505 0

-- two heads and nothing else
abbrev pub malformed_image : Image
malformed_image = record {
  version = 2;
  server = record { 0 = 0 };
  counts = record { pool = 0; heads = 2; leaves = 0 };
  good = λ p. true;
  bytes = λ i. if nat_eq i 1 then head_page head_of_9 else malformed_page;
}
