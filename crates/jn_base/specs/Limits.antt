-- How much there may be of each thing.
use Rattle.std.specs.Prelude.{ℕ, ◌*◌, ◌-◌}

-- the blocks whose addresses stand in a head, and in each map page
abbrev pub head_blocks : ℕ
head_blocks = 120

-- the map pages whose addresses stand in a head
abbrev pub most_maps : ℕ
most_maps = 20

-- the blocks of a file: those of its head and those of its map pages
abbrev pub most_blocks : ℕ
most_blocks = 2520

-- the addresses of a file: one for each block and one for each map page
abbrev pub most_cells : ℕ
most_cells = 2540

-- the bytes of a block
abbrev pub block_size : ℕ
block_size = 448

-- the bytes of a file of bytes: those of its blocks but block 0, which has the length
abbrev pub most_file_bytes : ℕ
most_file_bytes = block_size * (most_blocks - 1)

-- the bytes that one call reads: those of ten blocks
abbrev pub most_bytes_read : ℕ
most_bytes_read = 4480

-- the live works of a server
abbrev pub most_works : ℕ
most_works = 64

-- the live transactions of a coordinator
abbrev pub most_transactions : ℕ
most_transactions = 64

-- the units that a work reads
abbrev pub most_reads : ℕ
most_reads = 40

-- the intentions of a work
abbrev pub most_intentions : ℕ
most_intentions = 24
