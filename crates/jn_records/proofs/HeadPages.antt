-- The pages of heads and map pages, field by field.
use Rattle.jn_records.proofs.Common.{◌≡◌, ◌<◌, ◌≤◌, ◌+◌, ◌*◌, ◌^◌, ◌++◌, ◌-◌, ℕ, zero, suc, true, false, List, [], ◌∷◌, length, take, drop, replicate, refl, sym, ap, ◌∙◌, arith, slice_index, nat_eq, nat_le, flat_map, list_all, AllByRecursion, nat_tests, append_assoc, drop_at, length-append, big_bytes, FileNo, Free, Used, addresses_bytes, all_within, head_bytes, head_page, map_page, IsHead, FileFits, head_blocks, most_maps, big_number, drop-take, is_used, file_in, address_in, map_in, entry_in, HasEntries, and_parts}
use Rattle.byteorder.specs.Numbers.{big_number-reads_back, big_from-take, length-bytes_high_first}
use Rattle.jn_records.proofs.Lists.{length-fields}

abbrev two : ℕ → List ℕ
two a = big_bytes 2 a

-- the address at a place among others
address_again : (front : List ℕ) (n : ℕ) (xs rest : List ℕ) (p : ℕ) → length front ≡ n → p < length xs → AllByRecursion (λ a. a < 256 ^ 2) xs
    → big_number 2 (drop (n + 2 * p) (front ++ (flat_map (λ a. two a) xs ++ rest))) ≡ slice_index xs p
address_again front n [] rest p size below fits = absurd (omega (arith, below))
address_again front n (x ∷ xs) rest zero size below fits =
    ap (λ (l : List ℕ). big_number 2 (drop (n + 2 * 0) (front ++ l))) (append_assoc (two x) (flat_map (λ a. two a) xs) rest)
    ∙ ap (big_number 2) (drop_at front (two x ++ (flat_map (λ a. two a) xs ++ rest)) (n + 2 * 0) (omega (arith, size)))
    ∙ big_number-reads_back 2 x (flat_map (λ a. two a) xs ++ rest) fits.0
address_again front n (x ∷ xs) rest (suc p) size below fits =
    let longer : length (front ++ two x) ≡ n + 2 = let l : length (two x) ≡ 2 = length-bytes_high_first 2 x in omega (arith, size, l, length-append front (two x)) in
    let at : n + 2 * suc p ≡ n + 2 + 2 * p = omega arith in
    ap (λ k. big_number 2 (drop k (front ++ (flat_map (λ a. two a) (x ∷ xs) ++ rest)))) at
    ∙ ap (λ (l : List ℕ). big_number 2 (drop (n + 2 + 2 * p) (front ++ l))) (append_assoc (two x) (flat_map (λ a. two a) xs) rest)
    ∙ ap (λ (l : List ℕ). big_number 2 (drop (n + 2 + 2 * p) l)) (sym (append_assoc front (two x) (flat_map (λ a. two a) xs ++ rest)))
    ∙ address_again (front ++ two x) (n + 2) xs rest p longer (omega (arith, below)) fits.1

fits_all : (leaves : ℕ) (xs : List ℕ) → leaves < 2 ^ 16 → list_all (λ a. nat_le a leaves) xs ≡ true → AllByRecursion (λ a. a < 256 ^ 2) xs
fits_all leaves [] small all = tt
fits_all leaves (x ∷ xs) small all = (grind (arith, nat_tests), fits_all leaves xs small (grind (arith, nat_tests)))

same_list : (xs ys : List ℕ) → length xs ≡ length ys → ((k : ℕ) → k < length xs → slice_index xs k ≡ slice_index ys k) → xs ≡ ys
same_list [] [] size same = refl
same_list [] (y ∷ ys) size same = absurd (omega (arith, size))
same_list (x ∷ xs) [] size same = absurd (omega (arith, size))
same_list (x ∷ xs) (y ∷ ys) size same = ap (λ z. z ∷ xs) (same 0 (omega arith)) ∙ ap (λ l. y ∷ l) (same_list xs ys (omega (arith, size)) (λ k below. same (suc k) (omega (arith, below))))

module _ (leaves : ℕ) (page : List ℕ) (few : leaves < 2 ^ 16) where
  pub free_unused : page ≡ head_page Free → is_used page ≡ false
  unfolding head_page
  free_unused e = ap is_used e

  module _ (f : FileNo) (xs maps : List ℕ) (is : IsHead leaves (Used f xs maps)) (fits : FileFits (Used f xs maps)) (e : page ≡ head_page (Used f xs maps)) where
    abbrev zeros_behind : List ℕ
    zeros_behind = replicate (512 - length (head_bytes (Used f xs maps))) 0

    -- the addresses of map pages, and the zeros behind them
    abbrev behind : List ℕ
    behind = addresses_bytes maps ++ zeros_behind

    spelled : head_page (Used f xs maps) ≡ 1 ∷ (big_bytes 4 f.0 ++ ((addresses_bytes xs ++ addresses_bytes maps) ++ zeros_behind))
    unfolding head_page
    spelled = refl

    regrouped : page ≡ 1 ∷ (big_bytes 4 f.0 ++ (addresses_bytes xs ++ behind))
    regrouped = e ∙ spelled ∙ ap (λ (l : List ℕ). 1 ∷ (big_bytes 4 f.0 ++ l)) (append_assoc (addresses_bytes xs) (addresses_bytes maps) zeros_behind)

    pub used_kind : is_used page ≡ true
    used_kind = ap is_used regrouped

    pub used_file : file_in page ≡ f.0
    used_file = ap file_in regrouped ∙ big_number-reads_back 4 f.0 (addresses_bytes xs ++ behind) (omega (arith, fits))

    equal : (m n : ℕ) → nat_eq m n ≡ true → m ≡ n
    equal m n h = grind (arith, nat_tests, h)

    pub whole : length xs ≡ head_blocks
    whole = equal (length xs) head_blocks (and_parts (nat_eq (length xs) head_blocks) (nat_eq (length maps) most_maps) is.whole).0

    pub whole_maps : length maps ≡ most_maps
    whole_maps = equal (length maps) most_maps (and_parts (nat_eq (length xs) head_blocks) (nat_eq (length maps) most_maps) is.whole).1

    pub used_address : (p : ℕ) → p < head_blocks → address_in page p ≡ slice_index xs p
    used_address p below = ap (λ (l : List ℕ). address_in l p) regrouped
        ∙ address_again (1 ∷ big_bytes 4 f.0) 5 xs behind p refl (omega (arith, below, whole)) (fits_all leaves xs few (and_parts (all_within leaves xs) (all_within leaves maps) is.within_leaves).0)

    -- what stands before the addresses of map pages
    abbrev before : List ℕ
    before = (1 ∷ big_bytes 4 f.0) ++ addresses_bytes xs

    behind_blocks : page ≡ before ++ behind
    behind_blocks = regrouped ∙ sym (append_assoc (1 ∷ big_bytes 4 f.0) (addresses_bytes xs) behind)

    before_size : length before ≡ 245
    before_size =
        let front : length (1 ∷ big_bytes 4 f.0) ≡ 5 = refl in
        let each : length (addresses_bytes xs) ≡ 2 * length xs = length-fields (λ a. two a) 2 (λ a. length-bytes_high_first 2 a) xs in
        omega (arith, front, each, whole, length-append (1 ∷ big_bytes 4 f.0) (addresses_bytes xs))

    pub used_map : (j : ℕ) → j < most_maps → map_in page j ≡ slice_index maps j
    used_map j below = ap (λ (l : List ℕ). map_in l j) behind_blocks
        ∙ address_again before 245 maps zeros_behind j before_size (omega (arith, below, whole_maps)) (fits_all leaves maps few (and_parts (all_within leaves xs) (all_within leaves maps) is.within_leaves).1)

  module _ (entries : List ℕ) (count : length entries ≡ head_blocks) (within : all_within leaves entries ≡ true) (e : page ≡ map_page entries) where
    map_spelled : map_page entries ≡ [] ++ (addresses_bytes entries ++ replicate (512 - length (addresses_bytes entries)) 0)
    unfolding map_page
    map_spelled = refl

    pub map_entry : (k : ℕ) → k < head_blocks → entry_in page k ≡ slice_index entries k
    map_entry k below =
        let start : 2 * k ≡ 0 + 2 * k = omega arith in
        ap (λ (l : List ℕ). entry_in l k) (e ∙ map_spelled)
        ∙ ap (λ n. big_number 2 (drop n ([] ++ (addresses_bytes entries ++ replicate (512 - length (addresses_bytes entries)) 0)))) start
        ∙ address_again [] 0 entries (replicate (512 - length (addresses_bytes entries)) 0) k refl (omega (arith, below, count)) (fits_all leaves entries few within)

    -- what is read there is what was written
    pub entries_are : (xs : List ℕ) → HasEntries page xs → xs ≡ entries
    entries_are xs has = same_list xs entries (omega (arith, has.count, count)) (λ k below. let low : k < head_blocks = omega (arith, below, has.count) in has.each k low ∙ map_entry k low)

-- the entries stand in the front of a page
pub front_entry : (n : ℕ) (page : List ℕ) (k : ℕ) → 2 * k + 2 ≤ n → entry_in (take n page) k ≡ entry_in page k
front_entry n page k below =
    let parted : n ≡ 2 * k + (n - 2 * k) = omega (arith, below) in
    ap (λ m. big_number 2 (drop (2 * k) (take m page))) parted ∙ ap (big_number 2) (drop-take (2 * k) (n - 2 * k) page) ∙ big_from-take 0 2 (n - 2 * k) (drop (2 * k) page) (omega (arith, below))

-- so the block of a data page has its entries as a map page
pub block_entry : (page : List ℕ) (k : ℕ) → k < head_blocks → entry_in (take 448 page) k ≡ entry_in page k
block_entry page k below = front_entry 448 page k (omega (arith, below))

-- and they are one list
pub one_list : (page xs ys : List ℕ) → HasEntries page xs → HasEntries page ys → xs ≡ ys
one_list page xs ys is has = same_list xs ys (is.count ∙ sym has.count) (λ k below. let low : k < head_blocks = let size = is.count in omega (arith, below, size) in is.each k low ∙ sym (has.each k low))
