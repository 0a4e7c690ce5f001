-- What the pages of a server say, apart from their bytes, and the stable state that follows from it.
use Rattle.std.specs.Prelude.{ℕ, zero, suc, nat_eq, Bool, false, ◌&&◌, List, [], ◌∷◌, map, Option, Some, None, option_and_then}
use Rattle.std.specs.List.{find, list_any}
use Rattle.jn_base.specs.declared.names.Tid.{Tid}
use Rattle.jn_base.specs.declared.names.WorkId.{WorkId}
use Rattle.jn_order.specs.Files.{zeros}
use Rattle.jn_records.specs.declared.head.Head.{Head}
use Rattle.jn_records.specs.declared.intention.Intention.{Intention}
use Rattle.jn_records.specs.declared.intention.StoredIntention.{StoredIntention}
use Rattle.jn_records.specs.declared.intention.What.{What}
use Rattle.jn_records.specs.declared.intention.What.TheVariants.{Put}
use Rattle.jn_records.specs.declared.record.Record.{Record}
use Rattle.jn_records.specs.declared.record.Record.TheVariants.{Intention as IntentionRecord, Ready, Going, Flag as FlagRecord}
use Rattle.jn_records.specs.Intentions.{names_address}
use Rattle.jn_records.specs.Layouts.{Layout, layouts_by, has_address, files_in}
use Rattle.jn_records.specs.StablePages.{entry_in}
use Rattle.jn_rows.specs.Stable.{StableState, Prepared, FlagState, ready_work, flag_state, gone_on}
use Rattle.jn_sets.specs.Pool.{is_prepared, is_intention, is_flag}

-- the root's epoch, a record for each slot of the pool, a head for each place, and the block of each data page
pub record Contents : Type 0 where
  pub epoch : ℕ
  pub pool : List Record
  pub heads : List Head
  pub blocks : ℕ → List ℕ

-- ---- the files

-- what a data page says as a map page
abbrev pub entry_of : (ℕ → List ℕ) → ℕ → ℕ → ℕ
entry_of blocks d k = entry_in (blocks d) k

-- each head with its map pages
abbrev pub layouts_in : Contents → List Layout
layouts_in c = layouts_by (entry_of c.blocks) c.heads

-- ---- the works

-- the bytes of an intention: a put's stand in the data page that it names
abbrev pub bytes_by : (ℕ → List ℕ) → What → ℕ → List ℕ
bytes_by blocks Put (suc d) = blocks d
bytes_by blocks _ _ = zeros

abbrev pub intended : (ℕ → List ℕ) → StoredIntention → Intention
intended blocks i = record { what = i.what; file = i.file; block = i.block; bytes = bytes_by blocks i.what i.address }

abbrev pub stored_in : Record → Option StoredIntention
stored_in (IntentionRecord work tid order i) = Some i
stored_in _ = None

-- a work's intention at a place among them
abbrev pub intention_of : List Record → WorkId → ℕ → Option StoredIntention
intention_of pool work order = option_and_then stored_in (find (is_intention work order) pool)

abbrev pub with_first : {A : Type 0} → Option A → List A → List A
with_first None list = list
with_first (Some x) list = x ∷ list

-- so many intentions of a work from a place on; what is missing is left out
abbrev pub intentions_from : List Record → WorkId → ℕ → ℕ → List StoredIntention
intentions_from pool work order zero = []
intentions_from pool work order (suc n) = with_first (intention_of pool work order) (intentions_from pool work (suc order) n)

-- a work's list, as its records have it
abbrev pub stored_list : List Record → WorkId → ℕ → List StoredIntention
stored_list pool work n = intentions_from pool work 0 n

-- and with the bytes of its puts
abbrev pub full_list : List Record → (ℕ → List ℕ) → WorkId → ℕ → List Intention
full_list pool blocks work n = map (intended blocks) (stored_list pool work n)

abbrev pub prepared_by : List Record → (ℕ → List ℕ) → WorkId → Option Record → Option Prepared
prepared_by pool blocks work (Some (Ready head n reads)) = Some (ready_work head (full_list pool blocks work n) reads)
prepared_by pool blocks work (Some (Going head n reads)) = gone_on (Some (ready_work head (full_list pool blocks work n) reads))
prepared_by pool blocks work _ = None

-- one work for each ready or going record, with its intentions by their places
abbrev pub works_in : List Record → (ℕ → List ℕ) → WorkId → Option Prepared
works_in pool blocks work = prepared_by pool blocks work (find (is_prepared work) pool)

-- ---- the flags

abbrev pub flag_by : Option Record → Option FlagState
flag_by (Some (FlagRecord flag)) = Some (flag_state flag)
flag_by _ = None

abbrev pub flags_in : List Record → Tid → Option FlagState
flags_in pool t = flag_by (find (is_flag t) pool)

-- ---- the state

abbrev pub state_in : Contents → StableState
state_in c = record { epoch = c.epoch; files = files_in (layouts_in c) c.blocks; works = works_in c.pool c.blocks; flags = flags_in c.pool }

-- ---- which data pages are in use

-- some head has the address at one of its first n cells
abbrev pub heads_name : ℕ → List Layout → ℕ → Bool
heads_name n layouts a = list_any (has_address n a) layouts

-- an intention of a prepared work that passes the test
abbrev pub holds_intention : (StoredIntention → Bool) → List Record → Record → Bool
holds_intention test pool (IntentionRecord work tid order i) = test i && list_any (is_prepared work) pool
holds_intention test pool _ = false

abbrev pub works_have : (StoredIntention → Bool) → List Record → Bool
works_have test pool = list_any (holds_intention test pool) pool

-- some prepared work names the address, for a block or as a map page
abbrev pub works_name : List Record → ℕ → Bool
works_name pool a = works_have (names_address a) pool

-- it is that of the intention's block
abbrev pub names_for_block : ℕ → StoredIntention → Bool
names_for_block a i = nat_eq i.address a
