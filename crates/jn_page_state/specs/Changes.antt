-- One put of a page, as a change of what the pages say, and when it is a change of the stable state.
use Rattle.std.specs.Prelude.{◌≡◌, ℕ, ◌<◌, Bool, true, false, ◌&&◌, ◌||◌, nat_eq, nat_le, if◌then◌else◌, List, length, slice_set}
use Rattle.std.specs.List.{list_any}
use Rattle.jn_base.specs.declared.names.FileNo.{FileNo}
use Rattle.jn_base.specs.declared.names.LockUnit.{LockUnit}
use Rattle.jn_base.specs.declared.names.Tid.{Tid}
use Rattle.jn_base.specs.declared.names.WorkId.{WorkId}
use Rattle.jn_base.specs.Limits.{most_blocks, most_maps}
use Rattle.jn_records.specs.declared.flag.Flag.{Flag}
use Rattle.jn_records.specs.declared.head.Head.{Head}
use Rattle.jn_records.specs.declared.intention.Intention.{Intention}
use Rattle.jn_records.specs.declared.intention.StoredIntention.{StoredIntention}
use Rattle.jn_records.specs.declared.intention.What.{What}
use Rattle.jn_records.specs.declared.intention.What.TheVariants.{Fresh, Gone, Cut, Put}
use Rattle.jn_records.specs.declared.record.Record.{Record}
use Rattle.jn_records.specs.declared.record.Record.TheVariants.{Free, Ready}
use Rattle.jn_records.specs.declared.work.WorkHead.{WorkHead}
use Rattle.jn_records.specs.Intentions.{intention_has_page}
use Rattle.jn_records.specs.Layouts.{Layout, Unused, Of, at_cell, map_cell, layout_at, is_layout_of, IsPartCut}
use Rattle.jn_records.specs.MapPlaces.{is_in_range, keeps_map}
use Rattle.jn_sets.specs.Pool.{record_in, is_free, is_prepared, is_flag, is_rubbish}
use Rattle.jn_page_state.specs.Contents.{Contents, full_list, layouts_in}
use Rattle.jn_page_state.specs.Recoverable.{PassesOnce, names_block}

-- ---- a record's page is put

abbrev pub with_record : Contents → ℕ → Record → Contents
with_record c slot new = record c { pool = slice_set c.pool slot new }

-- a record that counts for nothing: free, or an intention of a work that isn't prepared
abbrev pub is_idle : List Record → Record → Bool
is_idle pool r = is_free r || is_rubbish pool r

-- the slot of a record that counts for nothing gets another such
pub record IsIdlePut (pool : List Record) (slot : ℕ) (new : Record) : Type 0 where
  pub there : slot < length pool
  pub old_idle : is_idle pool (record_in pool slot) ≡ true
  pub new_idle : is_idle pool new ≡ true

-- a free slot
pub record IsFreeSlot (pool : List Record) (slot : ℕ) : Type 0 where
  pub there : slot < length pool
  pub free : record_in pool slot ≡ Free

-- a free slot gets the ready record of a work that isn't prepared, whose intentions stand in the pool
pub record IsReadyPut (pool : List Record) (blocks : ℕ → List ℕ) (slot : ℕ) (head : WorkHead) (n : ℕ) (list : List Intention) : Type 0 where
  pub slot_free : IsFreeSlot pool slot
  pub new : list_any (is_prepared head.work) pool ≡ false
  pub list_stands : full_list pool blocks head.work n ≡ list

-- the slot of a work's one ready record
pub record IsReadySlot (pool : List Record) (slot : ℕ) (head : WorkHead) (n : ℕ) (reads : List LockUnit) : Type 0 where
  pub there : slot < length pool
  pub stands : record_in pool slot ≡ Ready head n reads
  pub once : PassesOnce (λ i. is_prepared head.work (record_in pool i))

-- the slot of a work's one ready or going record
pub record IsPreparedSlot (pool : List Record) (slot : ℕ) (work : WorkId) : Type 0 where
  pub there : slot < length pool
  pub stands : is_prepared work (record_in pool slot) ≡ true
  pub once : PassesOnce (λ i. is_prepared work (record_in pool i))

-- a free slot gets the first flag of a transaction
pub record IsFlagPut (pool : List Record) (slot : ℕ) (flag : Flag) : Type 0 where
  pub slot_free : IsFreeSlot pool slot
  pub new : list_any (is_flag flag.tid) pool ≡ false

-- the slot of a transaction's one flag
pub record IsFlagSlot (pool : List Record) (slot : ℕ) (t : Tid) : Type 0 where
  pub there : slot < length pool
  pub stands : is_flag t (record_in pool slot) ≡ true
  pub once : PassesOnce (λ i. is_flag t (record_in pool i))

-- ---- an intention is carried out

abbrev pub with_head : Contents → ℕ → Head → Contents
with_head c place new = record c { heads = slice_set c.heads place new }

-- the address of block p where an intention at block n, with data page a, is carried out
abbrev pub address_after : What → ℕ → ℕ → ℕ → ℕ → ℕ
address_after Put n a p old = if nat_eq n p then a else old
address_after Cut n a p old = if nat_le n p then 0 else old
address_after _ n a p old = 0

-- and that of map page j: the intention's own comes where there is none
abbrev pub map_after : What → ℕ → ℕ → ℕ → ℕ → ℕ
map_after Put n m j old = if is_in_range j n && nat_eq old 0 then m else old
map_after Cut n m j old = if keeps_map n j then old else 0
map_after _ n m j old = 0

-- a layout that an intention may be carried out at: that of its file, and for a fresh file also an unused one
abbrev pub serves_for : What → FileNo → Layout → Bool
serves_for Fresh f Unused = true
serves_for what f h = is_layout_of f h

-- and what it is then
abbrev pub is_head_after : What → FileNo → Layout → Bool
is_head_after Gone f Unused = true
is_head_after Gone f (Of g cells) = false
is_head_after what f h = is_layout_of f h

-- an intention is carried out at a place of the heads
pub record IsHeadPut (layouts : List Layout) (i : StoredIntention) (place : ℕ) (new : Layout) : Type 0 where
  pub there : place < length layouts
  pub names : intention_has_page i ≡ true
  pub range : i.block.0 < most_blocks
  -- no other head is its file's
  pub only : (j : ℕ) → is_layout_of i.file (layout_at layouts j) ≡ true → j ≡ place
  pub serves : serves_for i.what i.file (layout_at layouts place) ≡ true
  pub file_after : is_head_after i.what i.file new ≡ true
  pub addresses : (p : ℕ) → p < most_blocks → at_cell new p ≡ address_after i.what i.block.0 i.address p (at_cell (layout_at layouts place) p)
  pub maps : (j : ℕ) → j < most_maps → at_cell new (map_cell j) ≡ map_after i.what i.block.0 i.map j (at_cell (layout_at layouts place) (map_cell j))

-- the first put of a cut that falls inside of map page j: of its blocks those from there on are gone
pub record IsPartPut (layouts : List Layout) (i : StoredIntention) (j place : ℕ) (new : Layout) : Type 0 where
  pub cuts : i.what ≡ Cut
  pub part : IsPartCut layouts i.file i.block j place new
  pub maps : (k : ℕ) → k < most_maps → at_cell new (map_cell k) ≡ at_cell (layout_at layouts place) (map_cell k)

-- a file that is gone already has no head, and nothing is put
pub record IsGoneAlready (layouts : List Layout) (i : StoredIntention) : Type 0 where
  pub gone : i.what ≡ Gone
  pub absent : list_any (is_layout_of i.file) layouts ≡ false

-- One layout is another, and the blocks that are named then are as they were: by the put of a head, or of a map page.
pub record LaysOut (c : Contents) (place : ℕ) (new : Layout) (later : Contents) : Type 0 where
  pub epoch : later.epoch ≡ c.epoch
  pub pool : later.pool ≡ c.pool
  pub layouts : layouts_in later ≡ slice_set (layouts_in c) place new
  pub blocks : (d : ℕ) → names_block later d ≡ true → later.blocks d ≡ c.blocks d

-- ---- a data page is put

abbrev pub with_block : Contents → ℕ → List ℕ → Contents
with_block c d bytes = record c { blocks = λ k. if nat_eq d k then bytes else c.blocks k }

-- ---- the root is put

abbrev pub with_epoch : Contents → ℕ → Contents
with_epoch c epoch = record c { epoch = epoch }
