-- That the pages of a server have no record and no head but those that its stable state has.
use Rattle.std.specs.Prelude.{◌≡◌, ◌+◌, List, length, is_some, count_by}
use Rattle.jn_base.specs.declared.names.FileNo.{FileNo}
use Rattle.jn_base.specs.declared.names.Tid.{Tid}
use Rattle.jn_base.specs.declared.names.WorkId.{WorkId}
use Rattle.jn_base.specs.Names.{file_eq, tid_eq, work_eq}
use Rattle.jn_records.specs.Heads.{is_free}
use Rattle.jn_page_state.specs.Pages.{pool_on, heads_on}
use Rattle.jn_records.specs.declared.head.Head.{Head}
use Rattle.jn_records.specs.declared.record.Record.{Record}
use Rattle.jn_records.specs.StablePages.{Counts, Pages}
use Rattle.jn_rows.specs.Stable.{StableState}
use Rattle.jn_sets.specs.Pool.{free_count, rubbish_count}
use Rattle.jn_storage.specs.Listing.{IsListing, total}
use Rattle.jn_storage.specs.Orderly.{file_there, list_of}

-- Each record is free, that of a flag, of a prepared work or of an intention of one, or rubbish, and each head is free or that of a file that is there.
-- There is no other, and none twice.
pub record AreCounted (g : Counts) (y : StableState) (records : List Record) (heads : List Head) : Type 0 where
  pub works : List WorkId
  pub flags : List Tid
  pub files : List FileNo
  pub works_all : IsListing work_eq (λ W. is_some (y.works W)) works
  pub flags_all : IsListing tid_eq (λ T. is_some (y.flags T)) flags
  pub files_all : IsListing file_eq (file_there y.files) files
  pub records_all : free_count records + length flags + length works + total (λ W. length (list_of y W)) works + rubbish_count records ≡ g.pool
  pub heads_all : count_by is_free heads + length files ≡ g.heads

-- of these pages
abbrev pub CountsAll : Counts → StableState → Pages → Type 0
CountsAll g y pages = AreCounted g y (pool_on g pages) (heads_on g pages)
