-- A disk of the image that is kept under a name has the first books of that image, and two such disks are of one image, so that servers come up on them alike.
use Rattle.jn_node_laws.proofs.Common.{◌≡◌, ℕ, true, List, Option, Some, None, sym, ◌∙◌, ap, subst, true≢false, ServerNo, DeviceState, AreSound, HasPages, Contents, image_counts, image_name, one_image, found_on, Counts, Pick, pairs_view, Running, IsOpen, AreAlike, ImagesFixServers, Image, ◌^◌, Files, first_books, IsFresh, files_in, StoreView}
use Rattle.jn_image.proofs.SoundPages.{sound_pages}
use Rattle.std.specs.Prelude.{is_some, ◌<◌}
use Rattle.jn_image_files.specs.Opened.{IsOpened}
use Rattle.jn_page_state.specs.Pages as stands
use Rattle.jn_node_laws.proofs.Pages.{is-fresh, pages-are, same-first, up-alike, up-between, up-books}
use Rattle.jn_node_laws.proofs.Rooms.{books_of}
use Rattle.jn_node_laws.proofs.Stepping.{IsBetween}

-- ---- one disk

-- files alone are found there, in some epoch
pub record FilesAlone (s : ServerNo) (g : Counts) (v : StoreView) : Type 0 where
  pub epoch : ℕ
  pub small : epoch < 2 ^ 32
  pub files : Files
  pub fresh : IsFresh s g epoch files v

module _ (kept : Option Contents) (name : List ℕ) (s : ServerNo) (g : Counts) (files : Files) (d : DeviceState) (a : IsOpened kept name g files s d) where
  sound : AreSound a.disk.image.version s g a.disk.image.pages
  sound = subst (λ (k : Counts). AreSound a.disk.image.version s k a.disk.image.pages) a.disk.counts (sound_pages a.disk.image s a.disk.is_sound.form a.disk.is_sound.sound)

  pub image-fresh : FilesAlone s g (pairs_view d)
  image-fresh = let its = sound in let whole = its.sound in
      record { epoch = whole.root.0; small = whole.root.1; files = files_in g a.disk.image.pages; fresh = is-fresh a.disk.image.version s g a.disk.image.pages sound d a.disk.pages }

  module _ (x : Running) (up : IsOpen s g (pairs_view d) x) where
    pub opened-books : books_of g x ≡ first_books s g (pairs_view d)
    opened-books = up-books a.disk.image.version s g a.disk.image.pages sound d a.disk.pages x up

    pub opened-between : IsBetween s g x
    opened-between = up-between a.disk.image.version s g a.disk.image.pages sound d a.disk.pages x up

-- ---- two disks

-- their images
pub one-of-two : (kept : Option Contents) (name : List ℕ) (s : ServerNo) (g h : Counts) (files more : Files) (d e : DeviceState) → is_some kept ≡ true
    → (a : IsOpened kept name g files s d) (b : IsOpened kept name h more s e) → b.disk.image ≡ a.disk.image
one-of-two None name s g h files more d e told a b = absurd (true≢false (sym told))
one-of-two (Some holds) name s g h files more d e told a b = one_image s s (holds (image_name name s.0)) b.disk.image a.disk.image b.disk.is_sound b.disk.bytes a.disk.is_sound a.disk.bytes

module _ (kept : Option Contents) (name : List ℕ) (s : ServerNo) (g h : Counts) (files more : Files) (d e : DeviceState) (told : is_some kept ≡ true) (a : IsOpened kept name g files s d)
    (b : IsOpened kept name h more s e) where
  same-image : b.disk.image ≡ a.disk.image
  same-image = one-of-two kept name s g h files more d e told a b

  pub same-counts : h ≡ g
  same-counts = sym b.disk.counts ∙ ap image_counts same-image ∙ a.disk.counts

  its-pages : HasPages a.disk.image.pages e
  its-pages = subst (λ (m : Image). HasPages m.pages e) same-image b.disk.pages

  its-sound : AreSound a.disk.image.version s g a.disk.image.pages
  its-sound = sound kept name s g files d a

  pub servers-alike : (x y : Running) → IsOpen s g (pairs_view d) x → IsOpen s h (pairs_view e) y → AreAlike s g x y
  servers-alike x y up over = up-alike a.disk.image.version s g a.disk.image.pages its-sound d e a.disk.pages its-pages x y up (subst (λ (k : Counts). IsOpen s k (pairs_view e) y) same-counts over)

  -- what is found on both
  pub same-found : (c k : Pick) → found_on h (pairs_view e) k ≡ found_on g (pairs_view d) c
  same-found c k = ap (λ (n : Counts). found_on n (pairs_view e) k) same-counts
      ∙ ap (stands.state_of g) (pages-are a.disk.image.version s g a.disk.image.pages its-sound e its-pages k ∙ sym (pages-are a.disk.image.version s g a.disk.image.pages its-sound d a.disk.pages c))

  -- and the first books there
  pub same-books : first_books s h (pairs_view e) ≡ first_books s g (pairs_view d)
  same-books = ap (λ (n : Counts). first_books s n (pairs_view e)) same-counts ∙ same-first a.disk.image.version s g a.disk.image.pages its-sound d e a.disk.pages its-pages

pub images-fix : ImagesFixServers
images-fix kept name s g h files more d e x y told a b up over = (same-counts kept name s g h files more d e told a b, servers-alike kept name s g h files more d e told a b x y up over)
