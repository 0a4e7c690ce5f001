-- Each page of a sound image has 512 bytes, and such images with the same bytes are one.
use Rattle.jn_image.proofs.Common.{head_blocks, ◌++◌, ◌≡◌, ◌≤◌, ◌<◌, ◌+◌, ◌*◌, ◌-◌, ℕ, suc, List, [], ◌∷◌, length, drop, replicate, sym, ap, subst, ◌∙◌, arith, length-append, length-drop, ⊎_elim, cases_lt, nat_tests, true, AllByRecursion, Half, ServerNo, Head, IsSound, page_count, Image, image_counts, image_in, seen, length-replicate, big_bytes, FreeHead, Used, Root, padded, root_bytes, root_page, slot_place, head_place, data_place, SoundImagesFit, BytesTellTheImage, most_maps, addresses_bytes, head_bytes, head_page, has_page}
use Rattle.jn_memdisk.specs.Pages.{half_at}
use Rattle.jn_records.proofs.Lists.{length-fields}
use Rattle.jn_records.specs.declared.record.Record.TheVariants.{Free}
use Rattle.jn_records.specs.Records.{record_page}
use Rattle.jn_image.proofs.Again.{image_again}

-- ---- how long a page is

padded_whole : (bytes : List ℕ) → length bytes ≤ 512 → length (padded bytes) ≡ 512
padded_whole bytes few = omega (arith, few, length-append bytes (replicate (512 - length bytes) 0), length-replicate {A = ℕ} (512 - length bytes) 0)

root_whole : (r : Root) → length (root_page r) ≡ 512
unfolding root_page
root_whole r = padded_whole (root_bytes r) (omega arith)

free_whole : length (record_page Free) ≡ 512
unfolding record_page
free_whole = padded_whole [] (omega arith)

head_whole : (h : Head) → has_page h ≡ true → length (head_page h) ≡ 512
unfolding head_page
head_whole FreeHead is = padded_whole [] (omega arith)
head_whole (Used file xs maps) is = padded_whole (head_bytes (Used file xs maps)) (size (addresses_bytes xs) (addresses_bytes maps) (addresses xs head_blocks blocks) (addresses maps most_maps ranges))
  where
    blocks : length xs ≡ head_blocks
    blocks = grind (arith, nat_tests, is)

    ranges : length maps ≡ most_maps
    ranges = grind (arith, nat_tests, is)

    addresses : (xs : List ℕ) (n : ℕ) → length xs ≡ n → length (addresses_bytes xs) ≡ 2 * n
    addresses xs n count =
        let each : length (addresses_bytes xs) ≡ 2 * length xs = length-fields (λ a. big_bytes 2 a) 2 (λ a. omega arith) xs in
        omega (arith, each, count)

    size : (front back : List ℕ) → length front ≡ 2 * head_blocks → length back ≡ 2 * most_maps → length (big_bytes 1 1 ++ big_bytes 4 file.0 ++ front ++ back) ≤ 512
    size front back f b = omega (arith, f, b, length-append front back)

tail_whole : (page : List ℕ) → drop 448 page ≡ replicate 64 0 → length page ≡ 512
tail_whole page zeros = let tail = ap length zeros in omega (arith, tail, length-drop 448 page, length-replicate {A = ℕ} 64 0)

-- ---- each page of a sound image

module _ (m : Image) (s : ServerNo) (is : IsSound s (seen m)) where
  abbrev Whole : ℕ → Type 0
  Whole p = length ((half_at m.pages p).bytes) ≡ 512

  at : (p q : ℕ) → p ≡ q → Whole q → Whole p
  at p q e whole = subst Whole (sym e) whole

  root : Whole 0
  root = ap length is.root.2 ∙ root_whole _

  slot : (i : ℕ) → i < m.pool → Whole (slot_place (image_counts m) i)
  slot i lt = ap length (is.pool i lt) ∙ free_whole

  head : (i : ℕ) → i < m.heads → Whole (head_place (image_counts m) i)
  head i lt = let (h, good, fits, of_version, e) = is.heads i lt in ap length e ∙ head_whole h good.whole

  leaf : (i : ℕ) → i < m.leaves → Whole (data_place (image_counts m) i)
  leaf i lt = tail_whole _ (is.tails i lt)

  stable : (i : ℕ) → i < page_count (image_counts m) → Whole i
  stable i lt = ⊎_elim
      (λ first. at i 0 (omega (arith, first)) root)
      (λ behind. ⊎_elim
      (λ k. at i (slot_place (image_counts m) (i - 1)) (omega (arith, behind)) (slot (i - 1) (omega (arith, behind, k))))
      (λ past. ⊎_elim
      (λ k. at i (head_place (image_counts m) (i - (1 + m.pool))) (omega (arith, past)) (head (i - (1 + m.pool)) (omega (arith, past, k))))
      (λ last. at i (data_place (image_counts m) (i - (1 + m.pool + m.heads))) (omega (arith, last)) (leaf (i - (1 + m.pool + m.heads)) (omega (arith, last, lt))))
      (cases_lt i (1 + m.pool + m.heads)))
      (cases_lt i (1 + m.pool)))
      (cases_lt i 1)

  physical : (p : ℕ) → p < 2 * page_count (image_counts m) → Whole p
  physical p lt = ⊎_elim
      (λ below. stable p below)
      (λ past. let i = p - page_count (image_counts m) in
      let less : i < page_count (image_counts m) = omega (arith, past, lt) in
      at p (i + page_count (image_counts m)) (omega (arith, past)) (sym (ap length (is.pairs i less)) ∙ stable i less))
      (cases_lt p (page_count (image_counts m)))

each : (hs : List Half) → ((p : ℕ) → p < length hs → length ((half_at hs p).bytes) ≡ 512) → AllByRecursion (λ h. length h.bytes ≡ 512) hs
each [] all = tt
each (h ∷ hs) all = (all 0 (omega arith), each hs (λ p lt. all (suc p) (omega (arith, lt))))

pub sound_fits : SoundImagesFit
sound_fits m s form is = each m.pages (λ p lt. physical m s is p (let count = form.both_halves in omega (arith, lt, count)))

-- ---- their bytes

pub bytes_tell : BytesTellTheImage
bytes_tell m n form fit like fits same = sym (image_again m form fit) ∙ ap image_in same ∙ image_again n like fits
