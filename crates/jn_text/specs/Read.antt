-- What stands at a place of a text.
use Rattle.std.specs.Prelude.{◌≡◌, ◌≤◌, ◌<◌, ◌-◌, ◌||◌, ℕ, Bool, false, List, length, take, drop, slice_index, decimal}
use Rattle.std.specs.Char.{is_ascii_digit}
use Rattle.std.specs.Int.{is_in_range}
use Rattle.hex.specs.Hex.{IsBytes}
use Rattle.jn_text.specs.Words.{hex_word}

-- a number of at most the limit, whose digits begin at one place and end at another
pub record IsNumberAt (bytes : List ℕ) (start limit n end : ℕ) : Type 0 where
  pub ordered : start ≤ end
  pub within : end ≤ length bytes
  pub digits : take (end - start) (drop start bytes) ≡ decimal n
  pub small : n ≤ limit
  -- no digit follows
  pub whole : is_ascii_digit (slice_index bytes end) ≡ false

-- `0` to `9` and `a` to `f`
abbrev pub is_lower_hex_digit : ℕ → Bool
is_lower_hex_digit c = is_in_range 48 57 c || is_in_range 97 102 c

-- at most 448 bytes, whose pairs of digits, or whose `-`, begin at one place and end at another
pub record IsHexAt (bytes : List ℕ) (start : ℕ) (content : List ℕ) (end : ℕ) : Type 0 where
  pub ordered : start ≤ end
  pub within : end ≤ length bytes
  pub digits : take (end - start) (drop start bytes) ≡ hex_word content
  pub small : length content ≤ 448
  pub of_bytes : IsBytes content
  -- no digit follows digits
  pub whole : 0 < length content → is_lower_hex_digit (slice_index bytes end) ≡ false
