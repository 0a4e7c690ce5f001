-- How many calls of the device a call of the store makes at most.
use Rattle.std.specs.Prelude.{ℕ}

-- a put of both halves, each with its four tries, of which each is read back; a cleanup likewise
abbrev pub put_calls : ℕ
put_calls = 16

-- a get that a cleanup comes before
abbrev pub cleaned_get_calls : ℕ
cleaned_get_calls = 24
