-- How numbers and bytes are spelled in schedules and reports.
use Rattle.std.specs.Prelude.{ℕ, List, [], ◌∷◌, nat_eq, if◌then◌else◌}
use Rattle.hex.specs.Hex.{encode_lower}

-- the bytes without the zeros at their end
abbrev pub before_zeros : ℕ → List ℕ → List ℕ
before_zeros b [] = if nat_eq b 0 then [] else b ∷ []
before_zeros b (c ∷ cs) = b ∷ c ∷ cs

abbrev pub without_end_zeros : List ℕ → List ℕ
without_end_zeros [] = []
without_end_zeros (b ∷ bs) = before_zeros b (without_end_zeros bs)

-- bytes as pairs of lower-case hexadecimal digits, `-` where there are none
abbrev pub hex_word : List ℕ → List ℕ
hex_word [] = 45 ∷ []
hex_word (b ∷ bs) = encode_lower (b ∷ bs)

-- a block in a report
abbrev pub block_word : List ℕ → List ℕ
block_word bytes = hex_word (without_end_zeros bytes)
