-- A store of zeros with a root, as a new server has it: its pages fix what a recovery finds there.
use Rattle.jn_disks.proofs.Common.{◌≡◌, inr, ℕ, zero, suc, ◌+◌, ◌<◌, ◌^◌, ◌&&◌, ◌≤◌, nat_eq, nat_lt, ◌*◌, ◌-◌, Bool, true, false, true≢false, if◌then◌else◌, List, [], ◌∷◌, Some, None, drop, replicate, refl, sym, ◌∙◌, ap, subst, arith, option_map, option_and_then, there, blank_page, IsNewStore, IsNewDisk, new_page, no_files, CountsFit, IsFresh, IsImage, image_on, counts_of, image_fresh, Image, IsSound, page_count, slot_place, head_place, data_place, is_used, file_in, is_head_of, head_from, block_in, files_of_pages, StoreView, StorePut, IsBlank, IsOnly, StoreLater, nat_tests, place_in, root_by, format_version, root_page, Spot, InHead, AsMap, InMap, IsWrittenAt, head_page}
use Rattle.std.proofs.Math.Path.{fun_ext}
use Rattle.jn_base.specs.declared.device.Outside.{Outside}
use Rattle.jn_base.specs.declared.names.FileNo.{FileNo}
use Rattle.jn_base.specs.declared.names.LockUnit.{LockUnit}
use Rattle.jn_base.specs.declared.names.LockUnit.TheVariants.{File, Block}
use Rattle.jn_device.specs.Happens.{none}
use Rattle.jn_device.specs.Later.{count_kind, count_told}
use Rattle.jn_device.proofs.Happening.{happens_later}
use Rattle.jn_records.specs.declared.head.Head.TheVariants.{Free as FreeHead}
use Rattle.jn_records.specs.declared.record.Record.TheVariants.{Free}
use Rattle.jn_records.specs.declared.root.Root.{Root}
use Rattle.jn_records.specs.Records.{record_page}

-- ---- the page of zeros

blank_record : blank_page ≡ record_page Free
unfolding blank_page record_page
blank_record = refl

blank_head : blank_page ≡ head_page FreeHead
unfolding blank_page head_page
blank_head = refl

blank_unused : is_used blank_page ≡ false
unfolding blank_page
blank_unused = refl

blank_tail : drop 448 blank_page ≡ replicate 64 0
unfolding blank_page
blank_tail = refl

-- ---- what a store like that of a new server is

below : (a b : ℕ) → a < b → nat_lt a b ≡ true
below a b h = grind (arith, nat_tests)

past : (a b : ℕ) → nat_lt (a + b) b ≡ false
past a b = grind (arith, nat_tests)

back : (a b : ℕ) → a + b - b ≡ a
back a b = omega arith

behind : (root : Root) (p : ℕ) → 0 < p → new_page root p ≡ blank_page
behind root p least = ap (λ b. if b then root_page root else blank_page) (not_first p least)
  where
    not_first : (a : ℕ) → 0 < a → nat_eq a 0 ≡ false
    not_first a l = grind (arith, nat_tests, l)

module _ (root : Root) (version : root.version ≡ format_version) (epoch_fits : root.epoch < 2 ^ 32) (fit : CountsFit root.server (counts_of root)) (v : StoreView) (new : IsNewStore root v) where
  abbrev image : Image
  image = image_on root.server (counts_of root) v

  inside : (p : ℕ) → p < page_count (counts_of root) → p < v.count
  inside p lt = subst (λ (n : ℕ). p < n) (sym new.count) lt

  -- both halves are what is kept there
  first : (p : ℕ) → p < page_count (counts_of root) → image.bytes p ≡ new_page root p
  first p lt = ap (λ b. if b then v.first p else v.second (p - v.count)) (below p v.count (inside p lt)) ∙ (new.pages p (inside p lt)).first

  second : (p : ℕ) → p < page_count (counts_of root) → image.bytes (p + page_count (counts_of root)) ≡ new_page root p
  second p lt = ap (λ (n : ℕ). image.bytes (p + n)) (sym new.count)
      ∙ ap (λ b. if b then v.first (p + v.count) else v.second (p + v.count - v.count)) (past p v.count)
      ∙ ap v.second (back p v.count) ∙ (new.pages p (inside p lt)).second

  good : (p : ℕ) → p < 2 * page_count (counts_of root) → v.both (place_in v.count p) ≡ true
  good p lt = by (nat_lt p v.count) refl
    where
      within : (a n : ℕ) → nat_lt a n ≡ true → a < n
      within a n e = grind (arith, nat_tests, e)

      beyond : (a n k : ℕ) → nat_lt a n ≡ false → n ≡ k → a < 2 * k → a - n < n
      beyond a n k e s l = grind (arith, nat_tests, e, s, l)

      by : (b : Bool) → nat_lt p v.count ≡ b → v.both (if b then p else p - v.count) ≡ true
      by true e = (new.untouched.whole p (within p v.count e)).both
      by false e = (new.untouched.whole (p - v.count) (beyond p v.count (page_count (counts_of root)) e new.count lt)).both

  blank : (p : ℕ) → 0 < p → p < page_count (counts_of root) → image.bytes p ≡ blank_page
  blank p least lt = first p lt ∙ behind root p least

  root_stands : image.bytes 0 ≡ root_page (root_by root.server (counts_of root) root.epoch)
  root_stands = first 0 (omega arith) ∙ ap (λ (n : ℕ). root_page (record root { version = n })) version

  unused : (i : ℕ) → i < root.heads → is_used (image.bytes (head_place (counts_of root) i)) ≡ true → ⊥
  unused i lt used = true≢false (sym used ∙ ap is_used (blank (head_place (counts_of root) i) (omega arith) (omega (arith, lt))) ∙ blank_unused)

  unwritten : (a : ℕ) → 0 < a → (x : Spot) → IsWrittenAt image a x → ⊥
  unwritten a least (InHead i k) w = let u = w.0 in unused i u.head u.used
  unwritten a least (AsMap i j) w = let u = w.0 in unused i u.head u.used
  unwritten a least (InMap d k) w = let named = w.1 in unused named.head named.is_head named.used

  sound : IsSound root.server (image_on root.server (counts_of root) v)
  sound = record {
    server = refl;
    root = (root.epoch, epoch_fits, root_stands, inr refl);
    good = good;
    pairs = λ i lt. first i lt ∙ sym (second i lt);
    pool = λ i lt. blank (slot_place (counts_of root) i) (omega arith) (omega (arith, lt)) ∙ blank_record;
    files = λ f i j lt less here there used e. absurd (unused i lt used);
    heads = λ i lt. (FreeHead, record { whole = refl; within_leaves = refl }, tt, refl, blank (head_place (counts_of root) i) (omega arith) (omega (arith, lt)) ∙ blank_head);
    maps = λ d lt named. absurd (unused named.head named.is_head named.used);
    addresses = λ a least x y written other. absurd (unwritten a least x written);
    tails = λ i lt. ap (drop 448) (blank (data_place (counts_of root) i) (omega arith) (omega (arith, lt))) ∙ blank_tail;
  }

  unused_page : (f : FileNo) (i : ℕ) → i < root.heads → is_head_of f (image.bytes (head_place (counts_of root) i)) ≡ false
  unused_page f i lt = by (is_used (image.bytes (head_place (counts_of root) i))) refl
    where
      by : (b : Bool) → is_used (image.bytes (head_place (counts_of root) i)) ≡ b → (b && nat_eq (file_in (image.bytes (head_place (counts_of root) i))) f.0) ≡ false
      by false e = refl
      by true e = absurd (unused i lt e)

  no_head : (f : FileNo) (i n : ℕ) → i + n ≤ root.heads → head_from (counts_of root) image.bytes f i n ≡ None
  no_head f i zero fits = refl
  no_head f i (suc n) fits = ap (λ b. if b then Some (image.bytes (head_place (counts_of root) i)) else head_from (counts_of root) image.bytes f (i + 1) n) (unused_page f i (omega (arith, fits))) ∙ no_head f (i + 1) n (omega (arith, fits))

  files_none : files_of_pages (counts_of root) image.bytes ≡ no_files
  files_none = fun_ext (λ u. at u)
    where
      at : (u : LockUnit) → files_of_pages (counts_of root) image.bytes u ≡ None
      at (File f) = ap (λ o. option_map (λ head. there) o) (no_head f 0 root.heads (omega arith))
      at (Block f p) = ap (λ o. option_and_then (block_in (counts_of root) image.bytes p) o) (no_head f 0 root.heads (omega arith))

  pub is_image : IsImage root.server (counts_of root) no_files v
  is_image = record { sound = sound; fit = fit; same_files = files_none }

  only : (i : ℕ) → i < page_count (counts_of root) → IsOnly v i (image.bytes i)
  only i lt = subst (λ page. IsOnly v i page) (sym (first i lt)) (new.pages i (inside i lt))

  pub is_new_disk : IsNewDisk root v
  is_new_disk = record {
    store = new;
    fresh = subst (λ f. IsFresh root.server (counts_of root) root.epoch f v) files_none
        (image_fresh root.server image v sound fit (record { count = sym new.count; pages = only }) root.epoch epoch_fits root_stands);
  }

-- ---- a put of the root

-- calls keep how many pages a store's device has
pub same_device : (v w : StoreView) → StoreLater v w → w.device.count ≡ v.device.count
same_device v w later = (happens_later v.device w.device (later.happens v.device (none v.device))).count

none_told : (told : List Outside) → count_told (λ k. true) told ≤ 0 → told ≡ []
none_told [] few = refl
none_told (o ∷ os) few = absurd (omega (arith, few))

module _ (root : Root) (v w : StoreView) (blank : IsBlank (page_count (counts_of root)) v) (put : StorePut v 0 (root_page root) true w) where
  count : w.count ≡ page_count (counts_of root)
  count = put.later.count ∙ blank.count_is

  within : (i : ℕ) → i < w.count → i < page_count (counts_of root)
  within i lt = subst (λ (n : ℕ). i < n) count lt

  pages : (i : ℕ) → i < page_count (counts_of root) → IsOnly w i (new_page root i)
  pages zero lt = put.done refl
  pages (suc i) lt =
      let same = put.others (suc i) (omega (arith, lt, blank.count_is)) (λ e. absurd (cc e)) in
      let was = blank.pages (suc i) lt in
      let is = sym (behind root (suc i) (omega arith)) in
      record { first = same.first ∙ was.first ∙ is; second = same.second ∙ was.second ∙ is }

  new_store : IsNewStore root w
  new_store = record {
    count = count;
    pages = λ i lt. pages i (within i lt);
    untouched = record {
      calm = put.later.calm blank.calm;
      told = none_told w.told (let spent = put.later.spends.told_of (λ k. true) in
          let one = ap (count_kind (λ k. true)) blank.calm.quiet in let two = ap (count_told (λ k. true)) blank.told in omega (arith, spent, one, two));
      whole = λ i lt. put.later.whole blank.calm i (subst (λ (n : ℕ). i < n) (sym blank.count_is) (within i lt)) (blank.whole i (within i lt));
    };
  }

  pub new_is : root.version ≡ format_version → root.epoch < 2 ^ 32 → CountsFit root.server (counts_of root) → IsNewDisk root w
  new_is version epoch_fits fit = is_new_disk root version epoch_fits fit w new_store
