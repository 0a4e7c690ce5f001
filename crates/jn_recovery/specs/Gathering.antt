-- What is kept in memory, as it follows from the records and the heads that stand on the pages.
use Rattle.std.specs.Prelude.{◌≡◌, ◌≤◌, ◌<◌, ◌^◌, ℕ, zero, suc, Bool, true, false, List, [], ◌∷◌, All, length, Option, Some, None}
use Rattle.std.specs.List.{list_any}
use Rattle.jn_alloc.specs.Free.{free_count}
use Rattle.jn_files.specs.Table.{TableView, is_held}
use Rattle.jn_files.specs.Calls.{with_held, with_promised_heads}
use Rattle.jn_page_state.specs.Contents.{stored_list, with_first}
use Rattle.jn_page_state.specs.Recoverable.{PassesOnce}
use Rattle.jn_records.specs.declared.flag.Flag.{Flag}
use Rattle.jn_records.specs.declared.head.Head.{Head}
use Rattle.jn_records.specs.declared.record.Record.{Record}
use Rattle.jn_records.specs.declared.record.Record.TheVariants.{Intention, Ready, Going}
use Rattle.jn_records.specs.declared.work.WorkState.{WorkState}
use Rattle.jn_sets.specs.Pool.{record_in}
use Rattle.jn_storage.specs.Listing.{total}
use Rattle.jn_recovery.specs.Matches.{flag_on}
use Rattle.jn_recovery.specs.Pages.{is_at, heads_needed}

-- what there is of these, in order
abbrev pub collected : {A B : Type 0} → (A → Option B) → List A → List B
collected f [] = []
collected f (x ∷ xs) = with_first (f x) (collected f xs)

-- ---- works and flags

-- the work of a ready or going record, of which nothing is carried out yet
abbrev pub state_on : List Record → Record → Option WorkState
state_on pool (Ready head n reads) = Some (record { head = head; list = stored_list pool head.work n; reads = reads; going = false; next = 0 })
state_on pool (Going head n reads) = Some (record { head = head; list = stored_list pool head.work n; reads = reads; going = true; next = 0 })
state_on pool _ = None

abbrev pub works_on : List Record → List WorkState
works_on pool = collected (state_on pool) pool

abbrev pub flags_on : List Record → List Flag
flags_on pool = collected flag_on pool

abbrev pub IsFew : WorkState → Type 0
IsFew s = length s.list < 2 ^ 32

-- ---- data pages

-- an intention's record names data page a, for its block or as a map page
abbrev pub record_names : ℕ → Record → Bool
record_names a (Intention work tid order i) = is_at a i
record_names a _ = false

-- and it doesn't name it as both
abbrev pub IsApart : Record → Type 0
IsApart (Intention work tid order i) = (a : ℕ) → i.address ≡ suc a → i.map ≡ suc a → ⊥
IsApart _ = Unit {0}

-- nothing is held yet, and no page is named twice
pub record MayHold (t : TableView) (pool : List Record) : Type 0 where
  pub loose : (a : ℕ) → is_held t a ≡ false
  pub unpromised : t.free_leaves.promised ≡ 0
  pub size : length t.held ≡ t.counts.leaves
  pub fit : (i a : ℕ) → record_names a (record_in pool i) ≡ true → a < t.counts.leaves
  pub apart : (i : ℕ) → IsApart (record_in pool i)
  pub once : (a : ℕ) → PassesOnce (λ i. record_names a (record_in pool i))

-- ---- one page after another

-- the page of an address may be held: it is there, nothing holds it, and none is promised
abbrev pub MayHoldAt : TableView → ℕ → Type 0
MayHoldAt t zero = Unit {0}
MayHoldAt t (suc a) = (a < t.counts.leaves) × (is_held t a ≡ false) × (t.free_leaves.promised ≡ 0)

abbrev pub held_at : TableView → ℕ → TableView
held_at t zero = t
held_at t (suc a) = with_held t a

-- both pages of an intention's record
abbrev pub HoldsBoth : TableView → Record → Type 0
HoldsBoth t (Intention work tid order i) = MayHoldAt t i.address × MayHoldAt (held_at t i.address) i.map
HoldsBoth t _ = Unit {0}

abbrev pub both_held : TableView → Record → TableView
both_held t (Intention work tid order i) = held_at (held_at t i.address) i.map
both_held t _ = t

-- exactly the pages that these records name are held
pub record HoldsNamed (t : TableView) (records : List Record) (u : TableView) : Type 0 where
  pub counts : u.counts ≡ t.counts
  pub heads : u.heads ≡ t.heads
  pub maps : u.maps ≡ t.maps
  pub free_heads : u.free_heads ≡ t.free_heads
  pub promised : u.free_leaves.promised ≡ t.free_leaves.promised
  pub size : length u.held ≡ length t.held
  pub touched : u.touched ≡ t.touched
  pub held : (a : ℕ) → is_held u a ≡ list_any (record_names a) records

-- ---- heads

abbrev pub all_needed : List Head → List WorkState → ℕ
all_needed heads works = total (λ s. heads_needed heads s.list) works

pub record MayPromise (t : TableView) (works : List WorkState) : Type 0 where
  pub few : All IsFew works
  pub unpromised : t.free_heads.promised ≡ 0
  pub enough : all_needed t.heads works ≤ free_count t.free_heads
  pub fits : all_needed t.heads works < 2 ^ 32

-- the works' data pages are held, and their heads promised
pub record IsGathered (t : TableView) (pool : List Record) (u : TableView) : Type 0 where
  pub holding : TableView
  pub holds : HoldsNamed t pool holding
  pub promises : u ≡ with_promised_heads holding (all_needed t.heads (works_on pool))
