-- The bytes of a journal: records, one behind another. Numbers have their highest byte first.
use Rattle.std.specs.Prelude.{◌+◌, ◌-◌, ◌^◌, ◌<◌, ℕ, nat_eq, if◌then◌else◌, List, [], ◌∷◌, ◌++◌, length}
use Rattle.std.specs.List.{AllByRecursion}
use Rattle.byteorder.specs.Endian.{big_bytes}
use Rattle.sha2.specs.Sha256.{sha256}

-- how many bytes are zero
abbrev pub zeros_in : List ℕ → ℕ
zeros_in [] = 0
zeros_in (b ∷ bytes) = (if nat_eq b 0 then 1 else 0) + zeros_in bytes

-- each byte, and behind it what it lacks to 255
abbrev pub doubled : List ℕ → List ℕ
doubled [] = []
doubled (b ∷ bytes) = b ∷ (255 - b) ∷ doubled bytes

-- the header of a body: how long it is, and how many of its bytes are zero
unfoldable pub header_of : List ℕ → List ℕ
header_of body = doubled (big_bytes 4 (length body) ++ big_bytes 4 (zeros_in body))

-- a body behind its header
abbrev pub headed : List ℕ → List ℕ
headed body = header_of body ++ body

-- the digest of a record: of the digest before it, and of its content. The next record begins with it
abbrev pub next_chain : List ℕ → List ℕ → List ℕ
next_chain chain content = sha256 (chain ++ content)

abbrev pub body_of : List ℕ → List ℕ → List ℕ
body_of chain content = next_chain chain content ++ content

abbrev pub record_of : List ℕ → List ℕ → List ℕ
record_of chain content = headed (body_of chain content)

-- the records of these contents, each chained to the one before it
abbrev pub journal : List ℕ → List (List ℕ) → List ℕ
journal chain [] = []
journal chain (x ∷ xs) = record_of chain x ++ journal (next_chain chain x) xs

-- the digest of the last of them
abbrev pub chain_after : List ℕ → List (List ℕ) → List ℕ
chain_after chain [] = chain
chain_after chain (x ∷ xs) = chain_after (next_chain chain x) xs

-- the length of its body has a place in the header
abbrev pub Fits : List ℕ → Type 0
Fits content = 32 + length content < 2 ^ 32

abbrev pub AllFit : List (List ℕ) → Type 0
AllFit contents = AllByRecursion Fits contents
