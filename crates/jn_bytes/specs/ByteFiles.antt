-- A file of bytes: block 0 has their number, and the blocks behind it have them.
use Rattle.std.specs.Prelude.{ℕ, zero, suc, ◌+◌, ◌-◌, ◌++◌, ◌&&◌, nat_le, nat_lt, List, [], ◌∷◌, replicate, take, drop, bytes_eq, Option, Some, None, option_map, if◌then◌else◌}
use Rattle.std.specs.List.{slice_get}
use Rattle.byteorder.specs.Endian.{big_bytes, big_number}
use Rattle.jn_base.specs.declared.names.FileNo.{FileNo}
use Rattle.jn_base.specs.declared.names.LockUnit.TheVariants.{Block}
use Rattle.jn_order.specs.Files.{Files, or_else, zeros}
use Rattle.jn_base.specs.Limits.{block_size, most_file_bytes, most_blocks}

-- block 0 of a file with so many bytes: "JBYT", their number, zeros
unfoldable pub length_block : ℕ → List ℕ
length_block n = 74 ∷ 66 ∷ 89 ∷ 84 ∷ big_bytes 4 n ++ replicate 440 0

-- the number where `length_block` has it
abbrev pub told_length : List ℕ → ℕ
told_length block = big_number 4 (drop 4 block)

-- how many bytes there are by block 0, if it is of the format: all zeros stand for none
unfoldable pub length_in : List ℕ → Option ℕ
length_in block =
    if bytes_eq block zeros then Some 0
    else (if bytes_eq block (length_block (told_length block)) && nat_le (told_length block) most_file_bytes then Some (told_length block) else None)

-- cut or filled to the size of a block
unfoldable pub sized : List ℕ → List ℕ
sized bytes = take block_size (bytes ++ zeros)

-- block p of a file, zeros where it isn't stored
abbrev pub block_in : Files → FileNo → ℕ → List ℕ
block_in files f p = sized (or_else (files (Block f (record { 0 = p }))) zeros)

-- the bytes of n blocks from block p on
abbrev pub stretch : Files → FileNo → ℕ → ℕ → List ℕ
stretch files f p zero = []
stretch files f p (suc n) = block_in files f p ++ stretch files f (p + 1) n

-- the blocks behind block 0
unfoldable pub data_blocks : ℕ
data_blocks = most_blocks - 1

-- every place that a byte of the file can have
abbrev pub places : Files → FileNo → List ℕ
places files f = stretch files f 1 data_blocks

-- the bytes of a file, if its block 0 is of the format
abbrev pub bytes_of : Files → FileNo → Option (List ℕ)
bytes_of files f = option_map (λ n. take n (places files f)) (length_in (block_in files f 0))

-- bytes from place `offset` on laid over others, of which the first has place `at`; there are no more than before
abbrev pub laid_over : ℕ → List ℕ → ℕ → List ℕ → List ℕ
laid_over offset bytes at [] = []
laid_over offset bytes at (x ∷ xs) = (if nat_lt at offset then x else or_else (slice_get bytes (at - offset)) x) ∷ laid_over offset bytes (at + 1) xs
