-- A server that starts on the disk of an image and is closed at once leaves that image's files.
use Rattle.std.proofs.Common.{◌≡◌, ◌∙◌, ℕ, List, Option, suc, false, ap, sym, refl, subst}
use Rattle.jn_base.specs.declared.names.ServerNo.{ServerNo}
use Rattle.jn_disks.specs.Disks.{files_in}
use Rattle.jn_image_files.specs.Opened.{AreWithin, IsClosed, IsStoreOf}
use Rattle.jn_intent.specs.Scrubbing.{IsIdle, counts_in}
use Rattle.jn_memdisk.specs.declared.disk.MemDisk.{MemDisk}
use Rattle.jn_order.specs.Files.{Files}
use Rattle.jn_page_state.specs.Images.{IsFresh, IsImage, only_files}
use Rattle.jn_records.specs.StablePages.{Counts, page_count}
use Rattle.jn_recovery.specs.Counts.{counts_by}
use Rattle.jn_recovery.specs.Loading.{IsLoaded}
use Rattle.jn_recovery.specs.declared.counts.PageCounts.{PageCounts}
use Rattle.jn_recovery.specs.declared.load.Found.{Found}
use Rattle.jn_rows.specs.Stable.{StableState}
use Rattle.jn_image_files.proofs.OneDisk.{fresh-of, root-of}
use Rattle.jn_run.proofs.Stores.{device, look}
use Rattle.jn_storage.specs.Calls.{state}
use Rattle.jn_storage.specs.Storage.{StorageView}
use Rattle.jn_store.specs.Store.{IsCalm, StoreView}

-- ---- any store

counts-same : (a b : Counts) → a.pool ≡ b.pool → a.heads ≡ b.heads → a.leaves ≡ b.leaves → a ≡ b
counts-same a b pool heads leaves = λ i. record { pool = pool i; heads = heads i; leaves = leaves i }

module _ (server : ServerNo) (g : Counts) (epoch : ℕ) (files : Files) (v : StoreView) (fresh : IsFresh server g epoch files v) (told : Found) (w : StorageView) (l : IsLoaded server g v told w) where
  state-is : state w ≡ only_files (suc epoch) files
  state-is = l.found (λ n. false) ∙ ap (λ (x : StableState). record x { epoch = suc x.epoch }) (fresh.found l.before)

  pub idle : IsIdle w
  idle = record {
    works = λ work. ap (λ (x : StableState). x.works work) state-is;
    flags = λ t. ap (λ (x : StableState). x.flags t) state-is;
    rubbish = l.recovered.rubbish;
  }

  pub files-are : (state w).files ≡ files
  files-are = ap (λ (x : StableState). x.files) state-is

  pub counts-are : counts_in w.accounts ≡ g
  counts-are = counts-same (counts_in w.accounts) g l.pool l.heads l.leaves

  pub count-is : page_count g ≡ w.store.count
  count-is = fresh.recoverable.count ∙ sym l.recovering.later.count

  -- what is the image of the state that was found is that of the files
  pub image-so : (u : StoreView) → IsImage w.accounts.server (counts_in w.accounts) (state w).files u → IsImage server g files u
  image-so u image = subst (λ (q : ServerNo). IsImage q g files u) l.server_is
      (subst (λ (h : Counts). IsImage w.accounts.server h files u) counts-are (subst (λ (fs : Files). IsImage w.accounts.server (counts_in w.accounts) fs u) files-are image))

pub image-on : (q : ServerNo) (g : Counts) (files : Files) (u v : StoreView) → u ≡ v → IsImage q g files u → IsImage q g files v
image-on q g files u v same image = subst (λ (x : StoreView). IsImage q g files x) same image

-- ---- the store of an image that was examined

-- it is found to be fresh, in some epoch and with some files
abbrev pub IsSomeFresh : Counts → StoreView → Type 0
IsSomeFresh g v = (server : ServerNo) × (epoch : ℕ) × (files : Files) × IsFresh server g epoch files v

module _ (q : ServerNo) (content : Option (List ℕ)) (x : MemDisk × PageCounts) (s : IsStoreOf look device q content x) where
  pub fresh-so : IsSomeFresh (counts_by x.1) (look x.0)
  fresh-so = (q, (root-of look device q content x s).0, files_in (counts_by x.1) s.disk.image.pages, fresh-of look device q content x s refl)

  pub calm-so : IsCalm (look x.0)
  calm-so = s.store.untouched.calm

  -- what is left of it may be saved
  pub closed-so : (d : MemDisk) → ((server : ServerNo) (epoch : ℕ) (files : Files) → IsFresh server (counts_by x.1) epoch files (look x.0) → IsImage server (counts_by x.1) files (look d))
      → page_count (counts_by x.1) ≡ (look d).count → IsClosed q (counts_by x.1) (device d)
  closed-so d image count =
      let form = s.disk.is_sound.form in
      record {
        within = subst (λ (g : Counts). AreWithin g) s.disk.counts (record { pool = form.pool_within; heads = form.heads_within; leaves = form.leaves_within });
        files = files_in (counts_by x.1) s.disk.image.pages;
        image = image q (root-of look device q content x s).0 (files_in (counts_by x.1) s.disk.image.pages) (fresh-of look device q content x s refl);
        count = count;
      }
