-- How many calls of the device a call of the storage makes at most.
use Rattle.std.specs.Prelude.{ℕ}

-- a step of a work that commits: two pages are put at most, a map page and a head
abbrev pub step_calls : ℕ
step_calls = 32

-- a preparation: for each intention a data page and a record are put, and then the ready record
abbrev pub prepare_calls : ℕ
prepare_calls = 784

-- how many calls of the device a message, or the clients' dismissal, makes at most: 16 for the flag of each of 64 transactions
abbrev pub row_calls : ℕ
row_calls = 1024
