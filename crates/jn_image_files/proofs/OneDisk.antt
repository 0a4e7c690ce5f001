-- The disk of one image.
use Rattle.jn_image_files.proofs.Common.{◌≡◌, ℕ, List, Option, refl, subst, ServerNo, DeviceState, Contents, Counts, PageCounts, counts_by, pairs_view, StoreView, image_of, files_in, sound_pages, IsStoreOf, IsOpened, Has, image_name}
use Rattle.jn_records.specs.Sound.{HasRoot}
use Rattle.jn_page_state.specs.Images.{IsFresh}

module _ {S : Type 0} (look : S → StoreView) (device : S → DeviceState) (q : ServerNo) (content : Option (List ℕ)) (x : S × PageCounts) (s : IsStoreOf look device q content x) where
  -- its root is of some epoch
  pub root-of : HasRoot (image_of s.disk.image.version q (counts_by x.1) s.disk.image.pages)
  root-of = subst (λ (g : Counts). HasRoot (image_of s.disk.image.version q g s.disk.image.pages)) s.disk.counts (sound_pages s.disk.image q s.disk.is_sound.form s.disk.is_sound.sound).sound.root

  -- where the keeper has the image, the disk is one that a server is opened with
  pub opened-of : (kept : Option Contents) (name : List ℕ) → Has kept (image_name name q.0) content → IsOpened kept name (counts_by x.1) (files_in (counts_by x.1) s.disk.image.pages) q (device x.0)
  opened-of kept name has = record {
    disk = record {
      image = s.disk.image;
      is_sound = s.disk.is_sound;
      counts = s.disk.counts;
      pages = s.disk.pages;
      bytes = subst (λ (c : Option (List ℕ)). Has kept (image_name name q.0) c) s.disk.bytes has;
    };
    files_are = refl;
    new = s.disk.new;
  }

  -- and a restart finds its files there
  pub fresh-of : look x.0 ≡ pairs_view (device x.0) → IsFresh q (counts_by x.1) root-of.0 (files_in (counts_by x.1) s.disk.image.pages) (pairs_view (device x.0))
  fresh-of seen = subst (λ (v : StoreView). IsFresh q (counts_by x.1) root-of.0 (files_in (counts_by x.1) s.disk.image.pages) v) seen (s.store.fresh root-of.0 root-of.1 root-of.2)
