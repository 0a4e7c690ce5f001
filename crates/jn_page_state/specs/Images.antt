-- A store that begins as a sound image, and one that ends as one.
use Rattle.std.specs.Prelude.{◌≡◌, ℕ, ◌<◌, ◌^◌, ◌-◌, None, nat_lt, if◌then◌else◌}
use Rattle.jn_base.specs.declared.names.ServerNo.{ServerNo}
use Rattle.jn_order.specs.Files.{Files}
use Rattle.jn_records.specs.Pages.{format_version}
use Rattle.jn_records.specs.Sound.{Image, IsSound}
use Rattle.jn_records.specs.StablePages.{Counts, page_count, files_of_pages}
use Rattle.jn_rows.specs.Stable.{StableState, Pick}
use Rattle.jn_store.specs.Store.{StoreView, IsOnly}
use Rattle.jn_page_state.specs.Pages.{found_on}
use Rattle.jn_page_state.specs.Recoverable.{IsRecoverable}

-- numbers of their types
pub record CountsFit (server : ServerNo) (g : Counts) : Type 0 where
  pub server_fits : server.0 < 2 ^ 8
  pub pool : g.pool < 2 ^ 16
  pub heads : g.heads < 2 ^ 16
  pub leaves : g.leaves < 2 ^ 16

-- each stable page has one candidate, that of the image
pub record IsStoreOf (m : Image) (v : StoreView) : Type 0 where
  pub count : page_count m.counts ≡ v.count
  pub pages : (i : ℕ) → i < page_count m.counts → IsOnly v i (m.bytes i)

-- files alone: no work is prepared, and no transaction has a flag
abbrev pub only_files : ℕ → Files → StableState
only_files epoch files = record { epoch = epoch; files = files; works = λ w. None; flags = λ t. None }

-- a recovery may begin, and finds the files of these pages, no work and no flag
pub record IsFresh (server : ServerNo) (g : Counts) (epoch : ℕ) (files : Files) (v : StoreView) : Type 0 where
  pub recoverable : IsRecoverable server g v
  pub found : (c : Pick) → found_on g v c ≡ only_files epoch files

-- the halves of a store's pages as an image: page i is kept at i and behind all others
abbrev pub place_in : ℕ → ℕ → ℕ
place_in count p = if nat_lt p count then p else p - count

-- of the version that is written
abbrev pub image_on : ServerNo → Counts → StoreView → Image
image_on server g v = record {
  version = format_version;
  server = server;
  counts = g;
  good = λ p. v.both (place_in v.count p);
  bytes = λ p. if nat_lt p v.count then v.first p else v.second (p - v.count);
}

-- the pages are those of a sound image, which holds these files
pub record IsImage (server : ServerNo) (g : Counts) (files : Files) (v : StoreView) : Type 0 where
  pub sound : IsSound server (image_on server g v)
  pub fit : CountsFit server g
  pub same_files : files_of_pages g (image_on server g v).bytes ≡ files
