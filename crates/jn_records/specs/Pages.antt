-- The stable pages, byte by byte: what each value is spelled as. Numbers have their highest byte first.
use Rattle.std.specs.Prelude.{◌≡◌, ◌<◌, ◌^◌, ◌-◌, ◌++◌, ◌⊎◌, ℕ, List, length, replicate, codes, Option, Some}
use Rattle.byteorder.specs.Endian.{big_bytes}
use Rattle.jn_fields.specs.Reading.{◌>>=◌, number_at, bytes_at}
use Rattle.jn_records.specs.declared.root.Root.{Root}

-- zeros behind the bytes, to the end of the page
abbrev pub padded : List ℕ → List ℕ
padded bytes = bytes ++ replicate (512 - length bytes) 0

-- the version of the format that is written
abbrev pub format_version : ℕ
format_version = 2

-- the versions that are read
abbrev pub IsVersion : ℕ → Type 0
IsVersion n = (n ≡ 1) ⊎ (n ≡ 2)

-- the last epoch that a root has: no restart begins behind it
abbrev pub last_epoch : ℕ
last_epoch = 4294967295

-- the root: the format's name, its version, then its fields
abbrev pub root_bytes : Root → List ℕ
root_bytes r = codes "JUN1" ++ big_bytes 1 r.version ++ big_bytes 1 r.server.0 ++ big_bytes 2 r.pool ++ big_bytes 2 r.heads ++ big_bytes 2 r.leaves ++ big_bytes 4 r.epoch

unfoldable pub root_page : Root → List ℕ
root_page r = padded (root_bytes r)

-- a root of a version that is read, with numbers of their types
pub record IsRoot (r : Root) : Type 0 where
  pub version : IsVersion r.version
  pub server : r.server.0 < 2 ^ 8
  pub pool : r.pool < 2 ^ 16
  pub heads : r.heads < 2 ^ 16
  pub leaves : r.leaves < 2 ^ 16
  pub epoch : r.epoch < 2 ^ 32

-- the fields of a root, behind the four bytes of the format's name
unfoldable pub root_at : List ℕ → Option (Root × List ℕ)
root_at page = do
  begin ← bytes_at 4 page
  version ← number_at 1 begin.1
  server ← number_at 1 version.1
  pool ← number_at 2 server.1
  heads ← number_at 2 pool.1
  leaves ← number_at 2 heads.1
  epoch ← number_at 4 leaves.1
  Some (record { version = version.0; server = record { 0 = server.0 }; pool = pool.0; heads = heads.0; leaves = leaves.0; epoch = epoch.0 }, epoch.1)
