-- What a run begins with, of the stores that were opened.
use Rattle.jn_run.proofs.Common.{◌≡◌, ℕ, zero, suc, ◌≤◌, ◌<◌, Bool, true, false, List, [], ◌∷◌, length, slice_get, Option, Some, None, refl, sym, ◌∙◌, ap, subst, arith, slice_get_past, nat_lt, ServerNo, DeviceState, IsNewStore, IsNewDisk, image_of, files_in, IsFresh, Contents, sound_pages, IsStoreOf, AreStoresOfImages, AreWithin, Has, image_name, IsOpening, Geometry, New, Images, Options, Files, AllFiles, HasRoot, Counts, PageCounts, counts_by, StableState, Pick, pairs_view, StoreView, Setup, Devices, closed_world, AreImages, AreDisks, AreOpened, geometry_counts, root_by, AreNew, BeginsWith, IsOpened, Opens, no_files, ◌*◌, page_count, HasNewDevice, IsFreshDevice, Opening, AreStoresOf}
use Rattle.jn_image_files.proofs.OneDisk.{root-of, opened-of, fresh-of}
use Rattle.jn_store.specs.DeviceCalls.{put_calls}
use Rattle.std.proofs.Math.Path.{fun_ext}
use Rattle.jn_base.specs.declared.names.LockUnit.{LockUnit}
use Rattle.jn_page_state.specs.Pages.{found_on}

-- these are their devices
abbrev pub AreDevices : {S : Type 0} → (S → DeviceState) → List (S × PageCounts) → Devices → Type 0
AreDevices {S} device stores images = (n : ℕ) (x : S × PageCounts) → slice_get stores n ≡ Some x → images (record { 0 = n }) ≡ device x.0

pub some-at : {A : Type 0} (xs : List A) (n : ℕ) → n < length xs → (x : A) × (slice_get xs n ≡ Some x)
some-at [] n lt = absurd (omega (arith, lt))
some-at (x ∷ xs) zero lt = (x, refl)
some-at (x ∷ xs) (suc n) lt = some-at xs n (omega (arith, lt))

pub get-below : {A : Type 0} (xs : List A) (n : ℕ) (x : A) → slice_get xs n ≡ Some x → n < length xs
get-below [] n x at = absurd (cc at)
get-below (y ∷ xs) zero x at = omega arith
get-below (y ∷ xs) (suc n) x at = let less = get-below xs n x at in omega (arith, less)

some-is : {A : Type 0} (a b : A) → Some a ≡ Some b → a ≡ b
some-is a b h = cc

some-none : {A : Type 0} (a : A) → Some a ≡ None → ⊥
some-none a h = cc

-- ---- the devices of stores

no_device : DeviceState
no_device = record { count = 0; pages = λ p. record { good = true; bytes = []; missed = false; fails = 0 }; power = false; waiting = []; told = []; calls = 0; puts = 0; stops = 0 }

device_in : {S : Type 0} → (S → DeviceState) → Option (S × PageCounts) → DeviceState
device_in device None = no_device
device_in device (Some x) = device x.0

pub images_of : {S : Type 0} → (S → DeviceState) → List (S × PageCounts) → Devices
images_of device stores q = device_in device (slice_get stores q.0)

pub images-of : {S : Type 0} (device : S → DeviceState) (stores : List (S × PageCounts)) → AreDevices device stores (images_of device stores)
unfolding images_of device_in
images-of device stores n x at = ap (device_in device) at

-- ---- what a run begins with

pub record Opened {S : Type 0} (device : S → DeviceState) (o : Options) (kept : Option Contents) (stores : List (S × PageCounts)) : Type 0 where
  pub opens : Opens o kept
  pub epochs : ServerNo → ℕ
  pub stores_are : AreStoresOf device opens.setup stores opens.images
  pub are_images : AreImages opens.setup opens.files epochs opens.images

module _ {S : Type 0} (look : S → StoreView) (device : S → DeviceState) (seen : (s : S) → look s ≡ pairs_view (device s)) (o : Options) (kept : Option Contents) (stores : List (S × PageCounts)) (count : length stores ≡ o.servers) where
  abbrev images : Devices
  images = images_of device stores

  devices : AreDevices device stores images
  devices = images-of device stores

  there : (q : ServerNo) → q.0 < o.servers → (x : S × PageCounts) × (slice_get stores q.0 ≡ Some x)
  there q lt = some-at stores q.0 (subst (λ (n : ℕ). q.0 < n) (sym count) lt)

  -- ---- new disks

  module _ (g : Geometry) (disks : AreDisks look g stores) where
    disks-new : (q : ServerNo) → q.0 < o.servers → IsNewDisk (root_by q (geometry_counts g) 0) (pairs_view (images q))
    disks-new q lt =
        let (x, at) = there q lt in
        subst (λ (d : DeviceState). IsNewDisk (root_by q (geometry_counts g) 0) (pairs_view d)) (sym (devices q.0 x at)) (subst (λ (v : StoreView). IsNewDisk (root_by q (geometry_counts g) 0) v) (seen x.0) (disks q.0 x at).new)

    images-new : AreNew g o.servers images
    images-new q lt = (disks-new q lt).store

    abbrev new_setup : Setup
    new_setup = record { servers = o.servers; counts = λ q. geometry_counts g; trace = o.trace }

    found-none : (q : ServerNo) → IsNewDisk (root_by q (geometry_counts g) 0) (pairs_view (images q)) → (c : Pick) → (closed_world o.servers no_files (λ q. 0)).found q c ≡ found_on (geometry_counts g) (pairs_view (images q)) c
    found-none q n c = sym (n.fresh.found c)

    -- the device of a new store
    fresh-new : (q : ServerNo) → (x : S × PageCounts) × (slice_get stores q.0 ≡ Some x) → IsNewStore (root_by q (geometry_counts g) 0) (pairs_view (images q)) → IsFreshDevice (page_count (geometry_counts g)) (images q)
    fresh-new q (x, at) n =
        let its : HasNewDevice (root_by q (geometry_counts g) 0) (images q) = subst (λ (d : DeviceState). HasNewDevice (root_by q (geometry_counts g) 0) d) (ap (λ (v : StoreView). v.device) (seen x.0) ∙ sym (devices q.0 x at)) (disks q.0 x at).device in
        record { count = its.count; waiting = n.untouched.calm.quiet; told = n.untouched.told; calls = its.calls }

    new-opened : o.opening ≡ New g → Opened device o kept stores
    new-opened is = record {
      opens = record {
        setup = new_setup;
        files = no_files;
        images = images;
        servers = refl;
        trace = refl;
        disks = subst (λ (a : Opening). BeginsWith a kept new_setup no_files images) (sym is) ((λ q. refl), refl, images-new);
      };
      epochs = λ q. 0;
      stores_are = record { servers = count; counts = λ n x at. sym (ap counts_by (disks n x at).counts); devices = devices };
      are_images = record {
        its = λ q u far. refl;
        fresh = λ q lt. fresh-new q (there q lt) (images-new q lt);
        found = λ q c lt. found-none q (disks-new q lt) c;
        recoverable = λ q lt. (disks-new q lt).fresh.recoverable;
      };
    }

  -- ---- the disks of images

  module _ (name : List ℕ) (found : ℕ → Option (List ℕ)) (held : (n : ℕ) → n < length stores → Has kept (image_name name n) (found n)) (are : AreStoresOfImages look device found stores) where
    -- the store of a server, and what stands on it
    record Its (q : ServerNo) (counts : Counts) (files : Files) (epoch : ℕ) (x : S × PageCounts) : Type 0 where
      counts_are : counts ≡ counts_by x.1
      opened : q.0 < length stores → IsOpened kept name counts files q (device x.0)
      fresh : IsFresh q counts epoch files (pairs_view (device x.0))
      waiting : (device x.0).waiting ≡ []
      told : (device x.0).told ≡ []
      pages : (device x.0).count ≡ 2 * page_count counts
      calls : (device x.0).calls ≡ 0

    record Began (q : ServerNo) : Type 0 where
      counts : Counts
      files : Files
      epoch : ℕ
      its : (x : S × PageCounts) → slice_get stores q.0 ≡ Some x → Its q counts files epoch x
      none : slice_get stores q.0 ≡ None → (u : LockUnit) → files u ≡ None

    its-is : (q : ServerNo) (x : S × PageCounts) → (s : IsStoreOf look device q (found q.0) x) → Its q (counts_by x.1) (files_in (counts_by x.1) s.disk.image.pages) (root-of look device q (found q.0) x s).0 x
    its-is q x s = record {
      counts_are = refl;
      opened = λ lt. opened-of look device q (found q.0) x s kept name (held q.0 lt);
      fresh = fresh-of look device q (found q.0) x s (seen x.0);
      waiting = s.disk.new.waiting;
      told = s.disk.new.told;
      pages = ap (λ (v : StoreView). v.device.count) (sym (seen x.0)) ∙ s.store.device;
      calls = s.disk.new.calls;
    }

    began : (q : ServerNo) → Began q
    began q = by (slice_get stores q.0) refl
      where
        by : (a : Option (S × PageCounts)) → slice_get stores q.0 ≡ a → Began q
        by None e = record {
          counts = record { pool = 0; heads = 0; leaves = 0 };
          files = λ u. None;
          epoch = 0;
          its = λ x at. absurd (some-none x (sym at ∙ e));
          none = λ e u. refl;
        }
        by (Some x) e =
            let s = are q.0 x e in
            record {
              counts = counts_by x.1;
              files = files_in (counts_by x.1) s.disk.image.pages;
              epoch = (root-of look device q (found q.0) x s).0;
              its = λ y at. subst (λ (z : S × PageCounts). Its q (counts_by x.1) (files_in (counts_by x.1) s.disk.image.pages) (root-of look device q (found q.0) x s).0 z) (some-is x y (sym e ∙ at)) (its-is q x s);
              none = λ no_store u. absurd (some-none x (sym e ∙ no_store));
            }

    abbrev its_setup : Setup
    its_setup = record { servers = o.servers; counts = λ q. (began q).counts; trace = o.trace }

    abbrev its_files : AllFiles
    its_files q = (began q).files

    abbrev its_epochs : ServerNo → ℕ
    its_epochs q = (began q).epoch

    its-opened : (q : ServerNo) → q.0 < o.servers → IsOpened kept name ((began q).counts) ((began q).files) q (images q)
    its-opened q lt =
        let (x, at) = there q lt in
        subst (λ (d : DeviceState). IsOpened kept name ((began q).counts) ((began q).files) q d) (sym (devices q.0 x at)) (((began q).its x at).opened (subst (λ (n : ℕ). q.0 < n) (sym count) lt))

    its-fresh : (q : ServerNo) → q.0 < o.servers → IsFresh q ((began q).counts) ((began q).epoch) ((began q).files) (pairs_view (images q))
    its-fresh q lt =
        let (x, at) = there q lt in
        subst (λ (d : DeviceState). IsFresh q ((began q).counts) ((began q).epoch) ((began q).files) (pairs_view d)) (sym (devices q.0 x at)) ((began q).its x at).fresh

    none : (n : ℕ) → n ≡ 0 → n ≤ put_calls
    none n e = omega (arith, e)

    images-opened : o.opening ≡ Images name → Opened device o kept stores
    images-opened is = record {
      opens = record {
        setup = its_setup;
        files = its_files;
        images = images;
        servers = refl;
        trace = refl;
        disks = subst (λ (a : Opening). BeginsWith a kept its_setup its_files images) (sym is) (none-past, its-opened);
      };
      epochs = its_epochs;
      stores_are = record { servers = count; counts = λ n x at. ((began (record { 0 = n })).its x at).counts_are; devices = devices };
      are_images = record {
        its = none-past;
        fresh = λ q lt.
            let (x, at) = there q lt in
            let i = (began q).its x at in
            record {
              count = ap (λ (d : DeviceState). d.count) (devices q.0 x at) ∙ i.pages;
              waiting = ap (λ (d : DeviceState). d.waiting) (devices q.0 x at) ∙ i.waiting;
              told = ap (λ (d : DeviceState). d.told) (devices q.0 x at) ∙ i.told;
              calls = none (images q).calls (ap (λ (d : DeviceState). d.calls) (devices q.0 x at) ∙ i.calls);
            };
        found = λ q c lt. sym ((its-fresh q lt).found c);
        recoverable = λ q lt. (its-fresh q lt).recoverable;
      };
    }
      where
        none-past : (q : ServerNo) (u : LockUnit) → o.servers ≤ q.0 → its_files q u ≡ None
        none-past q u far = (began q).none (slice_get_past stores q.0 (subst (λ (n : ℕ). n ≤ q.0) (sym count) far)) u

  pub opened-so : AreOpened look device o.opening kept stores → Opened device o kept stores
  opened-so are = by o.opening refl are
    where
      by : (a : Opening) → o.opening ≡ a → AreOpened look device a kept stores → Opened device o kept stores
      by (New g) is disks = new-opened g disks is
      by (Images name) is given = images-opened name given.0 given.1 given.2 is

-- ---- their counts of pages

-- are those that images may have
pub within-of : {S : Type 0} (look : S → StoreView) (device : S → DeviceState) (opening : Opening) (kept : Option Contents) (stores : List (S × PageCounts)) → IsOpening opening → AreOpened look device opening kept stores
    → (n : ℕ) (x : S × PageCounts) → slice_get stores n ≡ Some x → AreWithin (counts_by x.1)
within-of look device (New g) kept stores is disks n x at = subst (λ (c : PageCounts). AreWithin (counts_by c)) (sym (disks n x at).counts) (record { pool = is.pool; heads = is.heads; leaves = is.leaves })
within-of look device (Images name) kept stores is given n x at =
    let disk = (given.2 n x at).disk in
    let form = disk.is_sound.form in
    subst (λ (g : Counts). AreWithin g) disk.counts (record { pool = form.pool_within; heads = form.heads_within; leaves = form.leaves_within })

-- ---- what is found on devices is found once

-- the files that are found on the same devices are the same
pub one-files : (x : Setup) (files : AllFiles) (epochs : ServerNo → ℕ) (others : AllFiles) (other_epochs : ServerNo → ℕ) (images : Devices) → AreImages x files epochs images → AreImages x others other_epochs images → files ≡ others
one-files x files epochs others other_epochs images are again = fun_ext (λ q. fun_ext (λ u. at q u (nat_lt q.0 x.servers) refl))
  where
    no_pick : Pick
    no_pick n = false

    at : (q : ServerNo) (u : LockUnit) (b : Bool) → nat_lt q.0 x.servers ≡ b → files q u ≡ others q u
    at q u true here =
        let lt : q.0 < x.servers = grind (arith, here) in
        let same = are.found q no_pick lt ∙ sym (again.found q no_pick lt) in
        ap (λ (y : StableState). y.files u) same
    at q u false here = are.its q u (grind (arith, here)) ∙ sym (again.its q u (grind (arith, here)))
