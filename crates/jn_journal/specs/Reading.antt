-- What is read of bytes that a crash may have torn.
use Rattle.std.specs.Prelude.{◌≡◌, ◌⊎◌, ◌≤◌, ◌<◌, ◌^◌, ℕ, List, ◌++◌, length}
use Rattle.std.specs.List.{AllByRecursion}
use Rattle.jn_journal.specs.declared.reading.Ending.{Ending}
use Rattle.jn_journal.specs.declared.reading.Ending.TheVariants.{Torn, Damaged}
use Rattle.jn_journal.specs.Format.{doubled, headed, record_of, journal, chain_after, Fits, AllFit}
use Rattle.jn_journal.specs.Torn.{IsTorn}

abbrev pub AreBytes : List ℕ → Type 0
AreBytes bytes = AllByRecursion (λ b. b < 256) bytes

abbrev pub BeginsWith : (front file : List ℕ) → Type 0
BeginsWith front file = (rest : List ℕ) × (file ≡ front ++ rest)

-- a crash may have left these bytes of a header, of any eight bytes, and of what stood behind it; the header isn't whole
pub record LacksHeader (file : List ℕ) : Type 0 where
  pub numbers : List ℕ
  pub behind : List ℕ
  pub eight : length numbers ≡ 8
  pub small : AreBytes numbers
  pub torn : IsTorn (doubled numbers ++ behind) file
  pub lacks : ¬ (BeginsWith (doubled numbers) file)

-- a crash may have left them of a body, of any numbers, with its header, and of what stood behind; they aren't whole
pub record LacksBody (file : List ℕ) : Type 0 where
  pub body : List ℕ
  pub behind : List ℕ
  pub room : 32 ≤ length body
  pub fits : length body < 2 ^ 32
  pub torn : IsTorn (headed body ++ behind) file
  pub lacks : ¬ (BeginsWith (headed body) file)

-- a crash may have left these bytes where a record was written, and the record isn't whole
abbrev pub IsTornRecord : List ℕ → Type 0
IsTornRecord file = LacksHeader file ⊎ LacksBody file

-- a record stands first, with this content
abbrev pub IsWhole : (chain file content rest : List ℕ) → Type 0
IsWhole chain file content rest = Fits content × (file ≡ record_of chain content ++ rest)

-- how bytes end in which no whole record stands first: as a crash may leave them, or as none does
abbrev pub Ends : (chain file : List ℕ) → Ending → Type 0
Ends chain file Torn = IsTornRecord file
Ends chain file Damaged = (¬ (IsTornRecord file)) × ((content rest : List ℕ) → ¬ (IsWhole chain file content rest))

-- the bytes are the records of these contents, and then no other: so they end
pub record Reads (chain file : List ℕ) (contents : List (List ℕ)) (ending : Ending) : Type 0 where
  pub rest : List ℕ
  pub are : file ≡ journal chain contents ++ rest
  pub fit : AllFit contents
  pub ends : Ends (chain_after chain contents) rest ending
