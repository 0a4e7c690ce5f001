-- The buckets of a directory, and the one in which a name stands.
use Rattle.std.specs.Prelude.{ℕ, ◌%◌, List, sum}

-- how many buckets a directory has
unfoldable pub buckets : ℕ
buckets = 32

-- the bucket of a name
abbrev pub bucket_of : List ℕ → ℕ
bucket_of name = sum name % 32
