-- The addresses of an image as one list: those of its heads, and behind them those of its map pages.
use Rattle.jn_image.proofs.Common.{◌≡◌, ⊎_elim, ◌<◌, ◌≤◌, ◌+◌, ◌*◌, ◌-◌, ◌/◌, ◌%◌, ◌&&◌, ℕ, zero, suc, Bool, true, false, List, [], ◌∷◌, ◌++◌, length, get_or, replicate, Option, Some, None, refl, sym, ap, ap₂, subst, ◌∙◌, arith, nat_le, nat_lt, flat_map, slice_index, if◌then◌else◌, AllByRecursion, cases_lt, false≢true, nat_tests, get_or_past, get_or-append-add, length-append, length-replicate, head_blocks, most_maps, Head, Free, Used, Finds, IsHeadAt, AreHeads, HeadsWhole, MapsWhole, AddressesOnce, head_bytes_of, is_used, address_in, map_in, entry_in, data_place, NamesMap, Spot, InHead, AsMap, InMap, IsWrittenAt, all_within, noted_all, no_times, maps_noted, all_maps_noted, head_noted, heads_noted, AreEntries, page_noted, pages_noted, all_noted, IsMapWhereNamed, IsNotTwice, get_or-append, list_all, free_unused, used_kind, used_address, used_map, whole, whole_maps, map_entry, and_parts}
use Rattle.jn_records.specs.Sound as sound
use Rattle.jn_image.proofs.HeadLists.{finds_same, head_or}
use Rattle.jn_image.proofs.Rows.{begin, row, rows_length, sizes, zeros_there, numbered, numbered_length, numbered_at}
use Rattle.jn_image.proofs.Times.{times_in, capped, all_at, all_size, all_then, none_noted, noted_first, IsOnceIn, stands, counted, once_few, few_once}

-- ---- rows

abbrev head_row : Option Head → List ℕ
head_row (Some (Used file addresses maps)) = addresses ++ maps
head_row (Some Free) = replicate 140 0
head_row None = replicate 140 0

abbrev map_row : Option Head → List ℕ
map_row (Some (Used file addresses maps)) = maps
map_row (Some Free) = replicate 20 0
map_row None = replicate 20 0

begin_heads : (i : ℕ) → begin 140 i ≡ 140 * i
begin_heads zero = omega arith
begin_heads (suc i) = let ih = begin_heads i in omega (arith, ih)

begin_maps : (i : ℕ) → begin 20 i ≡ 20 * i
begin_maps zero = omega arith
begin_maps (suc i) = let ih = begin_maps i in omega (arith, ih)

begin_pages : (i : ℕ) → begin 120 i ≡ 120 * i
begin_pages zero = omega arith
begin_pages (suc i) = let ih = begin_pages i in omega (arith, ih)

-- a place by its row, and where it stands there
in_head_row : (p : ℕ) → p % 140 < 140
in_head_row p = omega arith

in_map_row : (p : ℕ) → p % 20 < 20
in_map_row p = omega arith

in_page_row : (p : ℕ) → p % 120 < 120
in_page_row p = omega arith

head_place_of : (p : ℕ) → begin 140 (p / 140) + p % 140 ≡ p
head_place_of p = let b = begin_heads (p / 140) in omega (arith, b)

map_place_of : (p : ℕ) → begin 20 (p / 20) + p % 20 ≡ p
map_place_of p = let b = begin_maps (p / 20) in omega (arith, b)

page_place_of : (p : ℕ) → begin 120 (p / 120) + p % 120 ≡ p
page_place_of p = let b = begin_pages (p / 120) in omega (arith, b)

head_row_of : (p n size : ℕ) → size ≡ 140 * n → p < size → p / 140 < n
head_row_of p n size e lt = omega (arith, e, lt)

map_row_of : (p n size : ℕ) → size ≡ 20 * n → p < size → p / 20 < n
map_row_of p n size e lt = omega (arith, e, lt)

same_head_row : (i j k l : ℕ) → k < 140 → l < 140 → begin 140 i + k ≡ begin 140 j + l → (i ≡ j) × (k ≡ l)
same_head_row i j k l low less e = let b = begin_heads i in let c = begin_heads j in (omega (arith, e, b, c, low, less), omega (arith, e, b, c, low, less))

same_map_row : (i j k l : ℕ) → k < 20 → l < 20 → begin 140 i + (120 + k) ≡ begin 140 j + (120 + l) → (i ≡ j) × (k ≡ l)
same_map_row i j k l low less e = let b = begin_heads i in let c = begin_heads j in (omega (arith, e, b, c, low, less), omega (arith, e, b, c, low, less))

same_page_row : (n i j k l : ℕ) → k < 120 → l < 120 → n + (begin 120 i + k) ≡ n + (begin 120 j + l) → (i ≡ j) × (k ≡ l)
same_page_row n i j k l low less e = let b = begin_pages i in let c = begin_pages j in (omega (arith, e, b, c, low, less), omega (arith, e, b, c, low, less))

-- the address of a block isn't that of a map page
other_column : (i j k l : ℕ) → k < 120 → l < 20 → begin 140 i + k ≡ begin 140 j + (120 + l) → ⊥
other_column i j k l low less e = let b = begin_heads i in let c = begin_heads j in omega (arith, e, b, c, low, less)

-- heads stand before map pages
before_pages : (size n i k q : ℕ) → size ≡ 140 * n → i < n → k < 140 → begin 140 i + k ≡ size + q → ⊥
before_pages size n i k q s lt low e = let b = begin_heads i in omega (arith, s, lt, low, e, b)

-- ---- what was noted, as one list

maps_flat : (heads : List (Option Head)) (times : List ℕ) → all_maps_noted times heads ≡ noted_all times (flat_map map_row heads)
maps_flat [] times = refl
maps_flat (h ∷ heads) times = maps_flat heads (maps_noted times h) ∙ ap (λ (t : List ℕ). noted_all t (flat_map map_row heads)) (one h) ∙ sym (all_then (map_row h) (flat_map map_row heads) times)
  where
    one : (h : Option Head) → maps_noted times h ≡ noted_all times (map_row h)
    one (Some (Used file addresses maps)) = refl
    one (Some Free) = sym (none_noted 20 times)
    one None = sym (none_noted 20 times)

heads_flat : (heads : List (Option Head)) (times : List ℕ) → heads_noted times heads ≡ noted_all times (flat_map head_row heads)
heads_flat [] times = refl
heads_flat (h ∷ heads) times = heads_flat heads (head_noted times h) ∙ ap (λ (t : List ℕ). noted_all t (flat_map head_row heads)) (one h) ∙ sym (all_then (head_row h) (flat_map head_row heads) times)
  where
    one : (h : Option Head) → head_noted times h ≡ noted_all times (head_row h)
    one (Some (Used file addresses maps)) = sym (all_then addresses maps times)
    one (Some Free) = sym (none_noted 140 times)
    one None = sym (none_noted 140 times)

abbrev page_row : List ℕ → (ℕ → List ℕ) → ℕ → List ℕ
page_row named entries d = if nat_lt 0 (slice_index named (d + 1)) then entries d else replicate 120 0

pages_flat : (named : List ℕ) (entries : ℕ → List ℕ) (n d : ℕ) (times : List ℕ) → pages_noted named entries times d n ≡ noted_all times (flat_map (page_row named entries) (numbered (λ (k : ℕ). k) d n))
pages_flat named entries zero d times = refl
pages_flat named entries (suc n) d times =
    let rest : List ℕ = flat_map (page_row named entries) (numbered (λ (k : ℕ). k) (d + 1) n) in
    pages_flat named entries n (d + 1) (page_noted (slice_index named (d + 1)) (entries d) times)
    ∙ ap (λ (t : List ℕ). noted_all t rest) (one (nat_lt 0 (slice_index named (d + 1))))
    ∙ sym (all_then (page_row named entries d) rest times)
  where
    one : (b : Bool) → (if b then noted_all times (entries d) else times) ≡ noted_all times (if b then entries d else replicate 120 0)
    one true = refl
    one false = sym (none_noted 120 times)

no_time : (leaves a : ℕ) → slice_index (no_times leaves) a ≡ 0
no_time leaves a = zeros_there (leaves + 1) a

-- no address of a list is past the data pages
within_at : (leaves : ℕ) (xs : List ℕ) (k : ℕ) → all_within leaves xs ≡ true → get_or xs k 0 ≤ leaves
within_at leaves [] zero all = omega arith
within_at leaves [] (suc k) all = omega arith
within_at leaves (x ∷ xs) zero all = grind (arith, nat_tests, all)
within_at leaves (x ∷ xs) (suc k) all = within_at leaves xs k (rest (nat_le x leaves) (list_all (λ a. nat_le a leaves) xs) all)
  where
    rest : (a b : Bool) → (a && b) ≡ true → b ≡ true
    rest a b h = grind (arith, h)

tests_some : (n : ℕ) → 0 < n → nat_lt 0 n ≡ true
tests_some n h = grind (arith, nat_tests, h)

is_some_number : (n : ℕ) → nat_lt 0 n ≡ true → 0 < n
is_some_number n h = grind (arith, nat_tests, h)

capped_some : (n : ℕ) → 0 < n → 0 < capped (0 + n)
capped_some n h = grind (arith, nat_tests, h)

some_capped : (n : ℕ) → 0 < capped (0 + n) → 0 < n
some_capped n h = grind (arith, nat_tests, h)

capped_twice : (n : ℕ) → n < 2 → 1 < capped (0 + n) → ⊥
capped_twice n few h = few_is (capped_is n few)
  where
    capped_is : (n : ℕ) → n < 2 → capped (0 + n) ≡ n
    capped_is n few = grind (arith, nat_tests, few)

    few_is : capped (0 + n) ≡ n → ⊥
    few_is e = omega (arith, e, few, h)

many_capped : (n : ℕ) → (1 < capped (0 + n) → ⊥) → n < 2
many_capped n no_more = ⊎_elim (λ few. few) (λ many. absurd (no_more (most n many))) (cases_lt n 2)
  where
    most : (n : ℕ) → 2 ≤ n → 1 < capped (0 + n)
    most n many = grind (arith, nat_tests, many)

-- there is one for each data page, behind 0
pub named_size : (leaves : ℕ) (heads : List (Option Head)) (named : List ℕ) → named ≡ all_maps_noted (no_times leaves) heads → length named ≡ leaves + 1
named_size leaves heads named e = ap (λ (t : List ℕ). length t) (e ∙ maps_flat heads (no_times leaves)) ∙ all_size (flat_map map_row heads) (no_times leaves) ∙ length-replicate {A = ℕ} (leaves + 1) 0

no_zero : (a : ℕ) → 0 < a → 0 ≡ a → ⊥
no_zero a least e = omega (arith, least, e)

module _ (m : sound.Image) (heads : List (Option Head)) (are : AreHeads m heads) (all : (k : ℕ) → HeadsWhole m k) where
  abbrev leaves : ℕ
  leaves = m.counts.leaves

  abbrev page_at : ℕ → List ℕ
  page_at i = head_bytes_of m i

  within_heads : (i : ℕ) → i < length heads → i < m.counts.heads
  within_heads i lt = let n = are.count in omega (arith, lt, n)

  -- ---- one head

  head_size : (i : ℕ) (o : Option Head) → IsHeadAt m i o → length (head_row o) ≡ 140
  head_size i None at = length-replicate {A = ℕ} 140 0
  head_size i (Some Free) at = length-replicate {A = ℕ} 140 0
  head_size i (Some (Used k xs maps)) at =
      let front = whole leaves (page_at i) are.few k xs maps at.0 at.1 at.3 in
      let back = whole_maps leaves (page_at i) are.few k xs maps at.0 at.1 at.3 in
      omega (arith, front, back, length-append xs maps)

  map_size : (i : ℕ) (o : Option Head) → IsHeadAt m i o → length (map_row o) ≡ 20
  map_size i None at = length-replicate {A = ℕ} 20 0
  map_size i (Some Free) at = length-replicate {A = ℕ} 20 0
  map_size i (Some (Used k xs maps)) at = whole_maps leaves (page_at i) are.few k xs maps at.0 at.1 at.3

  -- the address of a block, and that of a map page, where the page is used
  head_block : (i k : ℕ) (o : Option Head) → IsHeadAt m i o → i < m.counts.heads → is_used (page_at i) ≡ true → k < head_blocks → get_or (head_row o) k 0 ≡ address_in (page_at i) k
  head_block i k None at lt used below = absurd (at (all i lt))
  head_block i k (Some Free) at lt used below = absurd (false≢true (sym (free_unused leaves (page_at i) are.few at.3) ∙ used))
  head_block i k (Some (Used f xs maps)) at lt used below =
      let front = whole leaves (page_at i) are.few f xs maps at.0 at.1 at.3 in
      get_or-append xs maps 0 k (omega (arith, front, below)) ∙ sym (used_address leaves (page_at i) are.few f xs maps at.0 at.1 at.3 k below)

  head_map_at : (i j : ℕ) (o : Option Head) → IsHeadAt m i o → i < m.counts.heads → is_used (page_at i) ≡ true → j < most_maps → get_or (head_row o) (120 + j) 0 ≡ map_in (page_at i) j
  head_map_at i j None at lt used below = absurd (at (all i lt))
  head_map_at i j (Some Free) at lt used below = absurd (false≢true (sym (free_unused leaves (page_at i) are.few at.3) ∙ used))
  head_map_at i j (Some (Used f xs maps)) at lt used below =
      let front = whole leaves (page_at i) are.few f xs maps at.0 at.1 at.3 in
      ap (λ n. get_or (xs ++ maps) (n + j) 0) (sym front) ∙ get_or-append-add xs maps j 0 ∙ sym (used_map leaves (page_at i) are.few f xs maps at.0 at.1 at.3 j below)

  row_map : (i j : ℕ) (o : Option Head) → IsHeadAt m i o → i < m.counts.heads → is_used (page_at i) ≡ true → j < most_maps → get_or (map_row o) j 0 ≡ map_in (page_at i) j
  row_map i j None at lt used below = absurd (at (all i lt))
  row_map i j (Some Free) at lt used below = absurd (false≢true (sym (free_unused leaves (page_at i) are.few at.3) ∙ used))
  row_map i j (Some (Used f xs maps)) at lt used below = sym (used_map leaves (page_at i) are.few f xs maps at.0 at.1 at.3 j below)

  -- where a row has an address the page is used
  head_used : (i p a : ℕ) (o : Option Head) → IsHeadAt m i o → 0 < a → get_or (head_row o) p 0 ≡ a → is_used (page_at i) ≡ true
  head_used i p a None at least e = absurd (no_zero a least (sym (zeros_there 140 p) ∙ e))
  head_used i p a (Some Free) at least e = absurd (no_zero a least (sym (zeros_there 140 p) ∙ e))
  head_used i p a (Some (Used f xs maps)) at least e = used_kind leaves (page_at i) are.few f xs maps at.0 at.1 at.3

  map_used : (i p a : ℕ) (o : Option Head) → IsHeadAt m i o → 0 < a → get_or (map_row o) p 0 ≡ a → is_used (page_at i) ≡ true
  map_used i p a None at least e = absurd (no_zero a least (sym (zeros_there 20 p) ∙ e))
  map_used i p a (Some Free) at least e = absurd (no_zero a least (sym (zeros_there 20 p) ∙ e))
  map_used i p a (Some (Used f xs maps)) at least e = used_kind leaves (page_at i) are.few f xs maps at.0 at.1 at.3

  at_head : (i : ℕ) → i < m.counts.heads → IsHeadAt m i (head_or heads i)
  at_head i lt = are.each i lt

  -- ---- the rows of heads

  abbrev in_heads : List ℕ
  in_heads = flat_map head_row heads

  abbrev in_maps : List ℕ
  in_maps = flat_map map_row heads

  head_sizes : AllByRecursion (λ o. length (head_row o) ≡ 140) heads
  head_sizes = sizes head_row 140 None heads (λ i lt. head_size i (head_or heads i) (at_head i (within_heads i lt)))

  map_sizes : AllByRecursion (λ o. length (map_row o) ≡ 20) heads
  map_sizes = sizes map_row 20 None heads (λ i lt. map_size i (head_or heads i) (at_head i (within_heads i lt)))

  in_head : (i p : ℕ) → p < 140 → get_or in_heads (begin 140 i + p) 0 ≡ get_or (head_row (head_or heads i)) p 0
  in_head i p lt = row head_row 140 None (λ p. zeros_there 140 p) heads head_sizes i p lt

  in_map : (i p : ℕ) → p < 20 → get_or in_maps (begin 20 i + p) 0 ≡ get_or (map_row (head_or heads i)) p 0
  in_map i p lt = row map_row 20 None (λ p. zeros_there 20 p) heads map_sizes i p lt

  heads_length : length in_heads ≡ 140 * m.counts.heads
  heads_length = rows_length head_row 140 None (λ p. zeros_there 140 p) heads head_sizes ∙ ap (begin 140) are.count ∙ begin_heads m.counts.heads

  maps_length : length in_maps ≡ 20 * m.counts.heads
  maps_length = rows_length map_row 20 None (λ p. zeros_there 20 p) heads map_sizes ∙ ap (begin 20) are.count ∙ begin_maps m.counts.heads

  -- ---- which data pages are named as map pages

  module _ (named : List ℕ) (noted : named ≡ all_maps_noted (no_times leaves) heads) where
    named_is : (d : ℕ) → d < leaves → slice_index named (d + 1) ≡ capped (0 + times_in (d + 1) in_maps)
    named_is d lt = ap (λ (t : List ℕ). slice_index t (d + 1)) (noted ∙ maps_flat heads (no_times leaves))
        ∙ all_at in_maps (no_times leaves) (d + 1) (omega arith) (let size = length-replicate {A = ℕ} (leaves + 1) 0 in omega (arith, size, lt)) (let none = no_time leaves (d + 1) in omega (arith, none))
        ∙ ap (λ n. capped (n + times_in (d + 1) in_maps)) (no_time leaves (d + 1))

    named_length : length named ≡ leaves + 1
    named_length = named_size leaves heads named noted

    pub named_map : (d : ℕ) → d < leaves → NamesMap m.counts m.bytes d → 0 < slice_index named (d + 1)
    named_map d lt n = subst (λ (k : ℕ). 0 < k) (sym (named_is d lt)) (capped_some (times_in (d + 1) in_maps) (counted in_maps (d + 1) (begin 20 n.head + n.at) (omega arith)
        (in_map n.head n.at n.below ∙ row_map n.head n.at (head_or heads n.head) (at_head n.head n.is_head) n.is_head n.used n.below ∙ n.names ∙ next d)))
      where
        next : (d : ℕ) → suc d ≡ d + 1
        next d = omega arith

    pub map_named : (d : ℕ) → d < leaves → 0 < slice_index named (d + 1) → NamesMap m.counts m.bytes d
    map_named d lt some =
        let (p, at) = stands in_maps (d + 1) (some_capped (times_in (d + 1) in_maps) (subst (λ (k : ℕ). 0 < k) (named_is d lt) some)) in
        ⊎_elim (λ here. its p at here) (λ past. absurd (no_zero (d + 1) (omega arith) (sym (get_or_past in_maps p 0 past) ∙ at))) (cases_lt p (length in_maps))
      where
        its : (p : ℕ) → get_or in_maps p 0 ≡ d + 1 → p < length in_maps → NamesMap m.counts m.bytes d
        its p at here =
            let i : ℕ = p / 20 in
            let j : ℕ = p % 20 in
            let low : j < 20 = in_map_row p in
            let is_head : i < m.counts.heads = map_row_of p m.counts.heads (length in_maps) maps_length here in
            let place : begin 20 i + j ≡ p = map_place_of p in
            let stood : get_or (map_row (head_or heads i)) j 0 ≡ d + 1 = sym (in_map i j low) ∙ ap (λ n. get_or in_maps n 0) place ∙ at in
            let used = map_used i j (d + 1) (head_or heads i) (at_head i is_head) (omega arith) stood in
            record {
              head = i;
              at = j;
              is_head = is_head;
              used = used;
              below = low;
              names = sym (row_map i j (head_or heads i) (at_head i is_head) is_head used low) ∙ stood ∙ next d;
            }
          where
            next : (d : ℕ) → d + 1 ≡ suc d
            next d = omega arith

    pub maps_found : (r : Option ℕ) → Finds (IsMapWhereNamed m named) r → Finds (MapsWhole m) r
    maps_found r found = finds_same (IsMapWhereNamed m named) (MapsWhole m) (λ d h lt n. h lt (named_map d lt n)) (λ d h lt some. h lt (map_named d lt some)) r found

    -- ---- the rows of map pages

    module _ (entries : ℕ → List ℕ) (are_entries : AreEntries m entries) (maps_whole : (d : ℕ) → MapsWhole m d) where
      abbrev its_row : ℕ → List ℕ
      its_row d = page_row named entries d

      abbrev pages : List ℕ
      pages = numbered (λ (k : ℕ). k) 0 leaves

      abbrev in_pages : List ℕ
      in_pages = flat_map its_row pages

      abbrev written : List ℕ
      written = in_heads ++ in_pages

      row_size : (d : ℕ) → d < leaves → length (its_row d) ≡ 120
      row_size d lt = by (nat_lt 0 (slice_index named (d + 1)))
        where
          by : (b : Bool) → length (if b then entries d else replicate 120 0) ≡ 120
          by true = (are_entries d lt).count
          by false = length-replicate {A = ℕ} 120 0

      no_row : (p : ℕ) → get_or (its_row leaves) p 0 ≡ 0
      no_row p = ap (λ n. get_or (if nat_lt 0 n then entries leaves else replicate 120 0) p 0) (get_or_past named (leaves + 1) 0 (let size = named_length in omega (arith, size))) ∙ zeros_there 120 p

      page_is : (d : ℕ) → d < leaves → get_or pages d leaves ≡ d
      page_is d lt = numbered_at (λ (k : ℕ). k) 0 leaves d leaves lt ∙ from_zero d
        where
          from_zero : (d : ℕ) → 0 + d ≡ d
          from_zero d = omega arith

      row_sizes : AllByRecursion (λ d. length (its_row d) ≡ 120) pages
      row_sizes = sizes its_row 120 leaves pages (λ i lt. let low : i < leaves = let size = numbered_length (λ (k : ℕ). k) 0 leaves in omega (arith, lt, size) in ap (λ d. length (its_row d)) (page_is i low) ∙ row_size i low)

      in_page : (d k : ℕ) → k < 120 → get_or in_pages (begin 120 d + k) 0 ≡ get_or (its_row (get_or pages d leaves)) k 0
      in_page d k lt = row its_row 120 leaves no_row pages row_sizes d k lt

      row_entry : (d k : ℕ) → d < leaves → k < 120 → 0 < slice_index named (d + 1) → get_or (its_row d) k 0 ≡ entry_in (m.bytes (data_place m.counts d)) k
      row_entry d k lt below some = ap (λ (b : Bool). get_or (if b then entries d else replicate 120 0) k 0) (tests_some (slice_index named (d + 1)) some) ∙ (are_entries d lt).each k below

      -- where a row has an address the page is named
      row_named : (d k a : ℕ) → 0 < a → get_or (its_row d) k 0 ≡ a → 0 < slice_index named (d + 1)
      row_named d k a least e = by (nat_lt 0 (slice_index named (d + 1))) refl e
        where
          by : (b : Bool) → nat_lt 0 (slice_index named (d + 1)) ≡ b → get_or (if b then entries d else replicate 120 0) k 0 ≡ a → 0 < slice_index named (d + 1)
          by true t e = is_some_number (slice_index named (d + 1)) t
          by false t e = absurd (no_zero a least (sym (zeros_there 120 k) ∙ e))

      -- ---- places in the list

      abbrev place : Spot → ℕ
      place (InHead i k) = begin 140 i + k
      place (AsMap i j) = begin 140 i + (120 + j)
      place (InMap d k) = length in_heads + (begin 120 d + k)

      at_spot : (a : ℕ) (x : Spot) → IsWrittenAt m a x → get_or written (place x) 0 ≡ a
      at_spot a (InHead i k) w =
          let low : begin 140 i + k < length in_heads = let size = heads_length in let b = begin_heads i in let lt = w.0.head in let below = w.0.below in omega (arith, size, b, lt, below) in
          let less : k < 140 = let below = w.0.below in omega (arith, below) in
          get_or-append in_heads in_pages 0 (begin 140 i + k) low
          ∙ in_head i k less
          ∙ head_block i k (head_or heads i) (at_head i w.0.head) w.0.head w.0.used w.0.below ∙ w.1
      at_spot a (AsMap i j) w =
          let low : begin 140 i + (120 + j) < length in_heads = let size = heads_length in let b = begin_heads i in let lt = w.0.head in let below = w.0.below in omega (arith, size, b, lt, below) in
          let less : 120 + j < 140 = let below = w.0.below in omega (arith, below) in
          get_or-append in_heads in_pages 0 (begin 140 i + (120 + j)) low
          ∙ in_head i (120 + j) less
          ∙ head_map_at i j (head_or heads i) (at_head i w.0.head) w.0.head w.0.used w.0.below ∙ w.1
      at_spot a (InMap d k) w =
          get_or-append-add in_heads in_pages (begin 120 d + k) 0
          ∙ in_page d k w.2
          ∙ ap (λ (e : ℕ). get_or (its_row e) k 0) (page_is d w.0)
          ∙ row_entry d k w.0 w.2 (named_map d w.0 w.1) ∙ w.3

      record IsSpot (a p : ℕ) : Type 0 where
        spot : Spot
        is_written : IsWrittenAt m a spot
        stands_at : place spot ≡ p

      spot_in_head : (a p : ℕ) → 0 < a → get_or in_heads p 0 ≡ a → p < length in_heads → IsSpot a p
      spot_in_head a p least at here = ⊎_elim block_spot map_spot (cases_lt q 120)
        where
          i : ℕ
          i = p / 140

          q : ℕ
          q = p % 140

          low : q < 140
          low = in_head_row p

          is_head : i < m.counts.heads
          is_head = head_row_of p m.counts.heads (length in_heads) heads_length here

          back : begin 140 i + q ≡ p
          back = head_place_of p

          stood : get_or (head_row (head_or heads i)) q 0 ≡ a
          stood = sym (in_head i q low) ∙ ap (λ n. get_or in_heads n 0) back ∙ at

          used : is_used (page_at i) ≡ true
          used = head_used i q a (head_or heads i) (at_head i is_head) least stood

          block_spot : q < 120 → IsSpot a p
          block_spot less = record {
            spot = InHead i q;
            is_written = (record { head = is_head; used = used; below = less }, sym (head_block i q (head_or heads i) (at_head i is_head) is_head used less) ∙ stood);
            stands_at = back;
          }

          map_spot : 120 ≤ q → IsSpot a p
          map_spot past =
              let j : ℕ = q - 120 in
              let less : j < most_maps = omega (arith, past, low) in
              let at_map : 120 + j ≡ q = omega (arith, past) in
              record {
                spot = AsMap i j;
                is_written = (record { head = is_head; used = used; below = less }, sym (head_map_at i j (head_or heads i) (at_head i is_head) is_head used less) ∙ ap (λ n. get_or (head_row (head_or heads i)) n 0) at_map ∙ stood);
                stands_at = ap (λ n. begin 140 i + n) at_map ∙ back;
              }

      spot_in_page : (a q : ℕ) → 0 < a → get_or in_pages q 0 ≡ a → IsSpot a (length in_heads + q)
      spot_in_page a q least at = ⊎_elim inside outside (cases_lt d leaves)
        where
          d : ℕ
          d = q / 120

          k : ℕ
          k = q % 120

          low : k < 120
          low = in_page_row q

          back : begin 120 d + k ≡ q
          back = page_place_of q

          stood : get_or (its_row (get_or pages d leaves)) k 0 ≡ a
          stood = sym (in_page d k low) ∙ ap (λ n. get_or in_pages n 0) back ∙ at

          outside : leaves ≤ d → IsSpot a (length in_heads + q)
          outside past = absurd (no_zero a least (sym (no_row k)
              ∙ ap (λ (e : ℕ). get_or (its_row e) k 0) (sym (get_or_past pages d leaves (let size = numbered_length (λ (k : ℕ). k) 0 leaves in omega (arith, past, size)))) ∙ stood))

          inside : d < leaves → IsSpot a (length in_heads + q)
          inside lt =
              let here : get_or (its_row d) k 0 ≡ a = ap (λ (e : ℕ). get_or (its_row e) k 0) (sym (page_is d lt)) ∙ stood in
              let some = row_named d k a least here in
              record {
                spot = InMap d k;
                is_written = (lt, map_named d lt some, low, sym (row_entry d k lt low some) ∙ here);
                stands_at = ap (λ n. length in_heads + n) back;
              }

      spot_of : (a p : ℕ) → 0 < a → get_or written p 0 ≡ a → IsSpot a p
      spot_of a p least at = ⊎_elim
          (λ here. spot_in_head a p least (sym (get_or-append in_heads in_pages 0 p here) ∙ at) here)
          (λ past. let back : length in_heads + (p - length in_heads) ≡ p = omega (arith, past) in
          subst (λ (n : ℕ). IsSpot a n) back (spot_in_page a (p - length in_heads) least (sym (get_or-append-add in_heads in_pages (p - length in_heads) 0) ∙ ap (λ n. get_or written n 0) back ∙ at)))
          (cases_lt p (length in_heads))

      -- a place is that of one spot
      one_spot : (a : ℕ) (x y : Spot) → IsWrittenAt m a x → IsWrittenAt m a y → place x ≡ place y → x ≡ y
      one_spot a (InHead i k) (InHead j l) v w e = let rows = same_head_row i j k l (below_more k v.0.below) (below_more l w.0.below) e in ap₂ InHead rows.0 rows.1
        where
          below_more : (k : ℕ) → k < 120 → k < 140
          below_more k h = omega (arith, h)
      one_spot a (AsMap i k) (AsMap j l) v w e = let rows = same_map_row i j k l v.0.below w.0.below e in ap₂ AsMap rows.0 rows.1
      one_spot a (InMap i k) (InMap j l) v w e = let rows = same_page_row (length in_heads) i j k l v.2 w.2 e in ap₂ InMap rows.0 rows.1
      one_spot a (InHead i k) (AsMap j l) v w e = absurd (other_column i j k l v.0.below w.0.below e)
      one_spot a (AsMap i k) (InHead j l) v w e = absurd (other_column j i l k w.0.below v.0.below (sym e))
      one_spot a (InHead i k) (InMap j l) v w e = absurd (before_pages (length in_heads) m.counts.heads i k (begin 120 j + l) heads_length v.0.head (below_more k v.0.below) e)
        where
          below_more : (k : ℕ) → k < 120 → k < 140
          below_more k h = omega (arith, h)
      one_spot a (InMap i k) (InHead j l) v w e = absurd (before_pages (length in_heads) m.counts.heads j l (begin 120 i + k) heads_length w.0.head (below_more l w.0.below) (sym e))
        where
          below_more : (k : ℕ) → k < 120 → k < 140
          below_more k h = omega (arith, h)
      one_spot a (AsMap i k) (InMap j l) v w e = absurd (before_pages (length in_heads) m.counts.heads i (120 + k) (begin 120 j + l) heads_length v.0.head (past_blocks k v.0.below) e)
        where
          past_blocks : (k : ℕ) → k < 20 → 120 + k < 140
          past_blocks k h = omega (arith, h)
      one_spot a (InMap i k) (AsMap j l) v w e = absurd (before_pages (length in_heads) m.counts.heads j (120 + l) (begin 120 i + k) heads_length w.0.head (past_blocks l w.0.below) (sym e))
        where
          past_blocks : (k : ℕ) → k < 20 → 120 + k < 140
          past_blocks k h = omega (arith, h)

      -- ---- no address is past the data pages

      head_within : (i k : ℕ) (o : Option Head) → IsHeadAt m i o → get_or (head_row o) k 0 ≤ leaves
      head_within i k None at = let none = zeros_there 140 k in omega (arith, none)
      head_within i k (Some Free) at = let none = zeros_there 140 k in omega (arith, none)
      head_within i k (Some (Used f xs maps)) at = both xs maps k (and_parts (all_within leaves xs) (all_within leaves maps) at.0.within_leaves).0 (and_parts (all_within leaves xs) (all_within leaves maps) at.0.within_leaves).1
        where
          both : (xs ys : List ℕ) (k : ℕ) → all_within leaves xs ≡ true → all_within leaves ys ≡ true → get_or (xs ++ ys) k 0 ≤ leaves
          both [] ys k a b = within_at leaves ys k b
          both (x ∷ xs) ys zero a b = within_at leaves (x ∷ xs) zero a
          both (x ∷ xs) ys (suc k) a b = both xs ys k (and_parts (nat_le x leaves) (list_all (λ a. nat_le a leaves) xs) a).1 b

      spot_within : (a : ℕ) (x : Spot) → IsWrittenAt m a x → a ≤ leaves
      spot_within a (InHead i k) w =
          let e = head_block i k (head_or heads i) (at_head i w.0.head) w.0.head w.0.used w.0.below ∙ w.1 in
          subst (λ (n : ℕ). n ≤ leaves) e (head_within i k (head_or heads i) (at_head i w.0.head))
      spot_within a (AsMap i j) w =
          let e = head_map_at i j (head_or heads i) (at_head i w.0.head) w.0.head w.0.used w.0.below ∙ w.1 in
          subst (λ (n : ℕ). n ≤ leaves) e (head_within i (120 + j) (head_or heads i) (at_head i w.0.head))
      spot_within a (InMap d k) w =
          let page = maps_whole d w.0 w.1 in
          let e = sym (map_entry leaves (m.bytes (data_place m.counts d)) are.few page.entries page.row.count page.row.within_leaves page.is_page k w.2) ∙ w.3 in
          subst (λ (n : ℕ). n ≤ leaves) e (within_at leaves page.entries k page.row.within_leaves)

      -- ---- how often

      abbrev times : List ℕ
      times = all_noted leaves heads named entries

      times_are : times ≡ noted_all (no_times leaves) written
      times_are = pages_flat named entries leaves 0 (heads_noted (no_times leaves) heads)
          ∙ ap (λ (t : List ℕ). noted_all t in_pages) (heads_flat heads (no_times leaves)) ∙ sym (all_then in_heads in_pages (no_times leaves))

      times_at : (a : ℕ) → 0 < a → a ≤ leaves → slice_index times a ≡ capped (0 + times_in a written)
      times_at a least lt = ap (λ (t : List ℕ). slice_index t a) times_are
          ∙ all_at written (no_times leaves) a least (let size = length-replicate {A = ℕ} (leaves + 1) 0 in omega (arith, size, lt)) (let none = no_time leaves a in omega (arith, none))
          ∙ ap (λ n. capped (n + times_in a written)) (no_time leaves a)

      times_length : length times ≡ leaves + 1
      times_length = ap (λ (t : List ℕ). length t) times_are ∙ all_size written (no_times leaves) ∙ length-replicate {A = ℕ} (leaves + 1) 0

      once_in : (a : ℕ) → 0 < a → AddressesOnce m a → IsOnceIn written a
      once_in a least one p q at other =
          let x = spot_of a p least at in
          let y = spot_of a q least other in
          sym x.stands_at ∙ ap place (one least x.spot y.spot x.is_written y.is_written) ∙ y.stands_at

      not_twice : (a : ℕ) → AddressesOnce m a → IsNotTwice leaves times a
      not_twice zero one lt twice = let none : slice_index times 0 ≡ 0 = ap (λ (t : List ℕ). slice_index t 0) times_are ∙ noted_first written (no_times leaves) ∙ no_time leaves 0 in let more = twice.1 in omega (arith, none, more)
      not_twice (suc b) one lt twice =
          let least : 0 < suc b = omega arith in
          capped_twice (times_in (suc b) written) (once_few written (suc b) least (once_in (suc b) least one))
          (subst (λ (n : ℕ). 1 < n) (times_at (suc b) least (omega (arith, lt))) twice.1)

      addresses_once : (a : ℕ) → IsNotTwice leaves times a → AddressesOnce m a
      addresses_once a no_more least x y v w =
          let low = spot_within a x v in
          let few = many_capped (times_in a written) (λ many. no_more (omega (arith, low)) (let size = times_length in omega (arith, low, size), subst (λ (n : ℕ). 1 < n) (sym (times_at a least low)) many)) in
          one_spot a x y v w (few_once written a least few (place x) (place y) (at_spot a x v) (at_spot a y w))

      pub twice_found : (r : Option ℕ) → Finds (IsNotTwice leaves times) r → Finds (AddressesOnce m) r
      twice_found r found = finds_same (IsNotTwice leaves times) (AddressesOnce m) addresses_once not_twice r found

-- ---- the entries of each data page

abbrev pub entries_of : List ℕ → List ℕ
entries_of page = numbered (entry_in page) 0 head_blocks

pub are_entries_of : (m : sound.Image) → AreEntries m (λ d. entries_of (m.bytes (data_place m.counts d)))
are_entries_of m d lt = let page = m.bytes (data_place m.counts d) in record {
  count = numbered_length (entry_in page) 0 head_blocks;
  each = λ k below. numbered_at (entry_in page) 0 head_blocks k 0 below ∙ ap (entry_in page) (from_zero k);
}
  where
    from_zero : (k : ℕ) → 0 + k ≡ k
    from_zero k = omega arith
