-- Map pages among the pages of the format.
use Rattle.jn_page_state.proofs.Common.{◌≡◌, inl, inr, ◌<◌, ◌≤◌, ◌+◌, ◌*◌, ◌-◌, ◌^◌, ◌++◌, ℕ, zero, suc, true, List, length, take, drop, replicate, refl, sym, ap, ◌∙◌, arith, true≢false, cases_lt, slice_index_or, drop_at, append_assoc, length-append, Head, FreeHead, Used, addresses_bytes, IsHead, FileFits, head_page, IsMapPage, head_blocks, most_maps, head_map, Counts, Pages, head_place, is_used, map_in, entry_in, NamesMap, head_is_read, head_or_free, head_on, heads_on, listed, IsHeadPage, IsMapRow, free_unused, used_kind, used_map, map_entry, block_entry}
unfoldable use Rattle.jn_records.specs.Heads.{map_page}
use Rattle.byteorder.specs.Endian.{big_bytes}
use Rattle.byteorder.specs.Numbers.{length-bytes_high_first}
use Rattle.jn_records.proofs.Lists.{length-fields}

-- ---- the page of a row

-- zeros stand behind its addresses
pub row_tail : (row : List ℕ) → length row ≡ head_blocks → drop 448 (map_page row) ≡ replicate 64 0
unfolding map_page
row_tail row size =
    let each : length (addresses_bytes row) ≡ 2 * length row = length-fields (λ a. big_bytes 2 a) 2 (λ a. length-bytes_high_first 2 a) row in
    let long : length (addresses_bytes row) ≡ 240 = of_all (length row) (length (addresses_bytes row)) size each in
    let rest : 512 - length (addresses_bytes row) ≡ 272 = omega (arith, long) in
    let front : length (addresses_bytes row ++ replicate 208 0) ≡ 448 = omega (arith, long, zeros, length-append (addresses_bytes row) (replicate 208 0)) in
    ap (λ n. drop 448 (addresses_bytes row ++ replicate n 0)) rest ∙ ap (λ (l : List ℕ). drop 448 (addresses_bytes row ++ l)) parted
    ∙ ap (drop 448) (sym (append_assoc (addresses_bytes row) (replicate 208 0) (replicate 64 0))) ∙ drop_at (addresses_bytes row ++ replicate 208 0) (replicate 64 0) 448 front
  where
    parted : replicate {A = ℕ} 272 0 ≡ replicate 208 0 ++ replicate 64 0
    parted = refl

    of_all : (n m : ℕ) → n ≡ 120 → m ≡ 2 * n → m ≡ 240
    of_all n m e f = omega (arith, e, f)

    zeros : length {A = ℕ} (replicate 208 0) ≡ 208
    zeros = refl

-- and it is a map page, whose entries are the row
module _ (leaves : ℕ) (row : List ℕ) (is : IsMapRow leaves row) where
  pub row_page : IsMapPage leaves (map_page row)
  row_page = record { entries = row; row = is; is_page = refl }

  pub row_entry : leaves < 2 ^ 16 → (k : ℕ) → k < head_blocks → entry_in (take 448 (map_page row)) k ≡ slice_index_or row k 0
  row_entry few k below = block_entry (map_page row) k below ∙ map_entry leaves (map_page row) few row is.count is.within_leaves refl k below

-- ---- heads and their pages

-- a used head's page names the map pages that it does
pub page_maps : (leaves : ℕ) (page : List ℕ) (h : Head) → leaves < 2 ^ 16 → IsHead leaves h → FileFits h → page ≡ head_page h → is_used page ≡ true → (j : ℕ) → j < most_maps → map_in page j ≡ head_map h j
page_maps leaves page FreeHead few is fits e used j below = absurd (true≢false (sym used ∙ free_unused leaves page few e))
page_maps leaves page (Used f xs ms) few is fits e used j below = used_map leaves page few f xs ms is fits e j below

-- a head that names a map page is used
pub maps_used : (leaves : ℕ) (page : List ℕ) (h : Head) → leaves < 2 ^ 16 → IsHead leaves h → FileFits h → page ≡ head_page h → (j d : ℕ) → head_map h j ≡ suc d → is_used page ≡ true
maps_used leaves page FreeHead few is fits e j d at = absurd (omega (arith, at))
maps_used leaves page (Used f xs ms) few is fits e j d at = used_kind leaves page few f xs ms is fits e

-- a value of a list by number
pub listed_at : {A : Type 0} (f : ℕ → A) (d : A) (i n k : ℕ) → k < n → slice_index_or (listed f i n) k d ≡ f (i + k)
listed_at f d i zero k below = absurd (omega (arith, below))
listed_at f d i (suc n) zero below = let e : i ≡ i + 0 = omega arith in ap f e
listed_at f d i (suc n) (suc k) below = let e : suc i + k ≡ i + suc k = omega arith in listed_at f d (suc i) n k (omega (arith, below)) ∙ ap f e

pub past_listed : {A : Type 0} (f : ℕ → A) (d : A) (i n k : ℕ) → n ≤ k → slice_index_or (listed f i n) k d ≡ d
past_listed f d i zero k past = refl
past_listed f d i (suc n) zero past = absurd (omega (arith, past))
past_listed f d i (suc n) (suc k) past = past_listed f d (suc i) n k (omega (arith, past))

module _ (g : Counts) (pages : Pages) (few : g.leaves < 2 ^ 16) (heads : (i : ℕ) → i < g.heads → IsHeadPage g.leaves (pages (head_place g i))) where
  -- what a head's page says
  head_said : (i : ℕ) (lt : i < g.heads) → head_on g pages i ≡ (heads i lt).0
  head_said i lt = let at = heads i lt in ap head_or_free (head_is_read g.leaves (pages (head_place g i)) at.0 few at.1 at.2 at.3)

  pub head_is_on : (i : ℕ) → i < g.heads → slice_index_or (heads_on g pages) i FreeHead ≡ head_on g pages i
  head_is_on i lt = listed_at (head_on g pages) FreeHead 0 g.heads i lt ∙ (let e : 0 + i ≡ i = omega arith in ap (head_on g pages) e)

  -- the heads that are read name the map pages that the pages do
  pub map_is_said : (i j : ℕ) → i < g.heads → j < most_maps → is_used (pages (head_place g i)) ≡ true → map_in (pages (head_place g i)) j ≡ head_map (slice_index_or (heads_on g pages) i FreeHead) j
  map_is_said i j lt below used = let at = heads i lt in
      page_maps g.leaves (pages (head_place g i)) at.0 few at.1 at.2 at.3 used j below ∙ ap (λ h. head_map h j) (sym (head_is_on i lt ∙ head_said i lt))

  pub said_map : (i j d : ℕ) → j < most_maps → head_map (slice_index_or (heads_on g pages) i FreeHead) j ≡ suc d → NamesMap g pages d
  said_map i j d below e = elim (cases_lt i g.heads) [
    | inl lt ↦ let at = heads i lt in
        let used : is_used (pages (head_place g i)) ≡ true = maps_used g.leaves (pages (head_place g i)) at.0 few at.1 at.2 at.3 j d (ap (λ h. head_map h j) (sym (head_is_on i lt ∙ head_said i lt)) ∙ e) in
        record { head = i; at = j; is_head = lt; used = used; below = below; names = map_is_said i j lt below used ∙ e }
    | inr past ↦ absurd (none (sym (ap (λ h. head_map h j) (past_listed (head_on g pages) FreeHead 0 g.heads i past)) ∙ e))
  ]
    where
      none : 0 ≡ suc d → ⊥
      none e = omega (arith, e)
