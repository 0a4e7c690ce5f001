-- The addresses of a head or a map page, place by place.
use Rattle.jn_files.proofs.Common.{◌≡◌, ◌≢◌, ◌≤◌, ◌<◌, inl, inr, ℕ, zero, suc, true, List, [], ◌∷◌, length, refl, sym, ap, ◌∙◌, arith, cases_lt, and_parts, nat_tests, ext_get_or, slice_index, slice_set, nat_le, nat_eq, head_blocks, most_maps, FileNo, Head, Free, Used, has_page, within, all_within, head_map, cut_addresses, IsHeadOf}
use Rattle.std.specs.Prelude.{replicate}

pub cut_length : (n : ℕ) (xs : List ℕ) → length (cut_addresses n xs) ≡ length xs
cut_length n [] = refl
cut_length zero (x ∷ xs) = ap suc (cut_length zero xs)
cut_length (suc n) (x ∷ xs) = ap suc (cut_length n xs)

pub cut_kept : (n : ℕ) (xs : List ℕ) (k : ℕ) → k < n → slice_index (cut_addresses n xs) k ≡ slice_index xs k
cut_kept n [] k lt = refl
cut_kept zero (x ∷ xs) k lt = absurd (omega arith)
cut_kept (suc n) (x ∷ xs) zero lt = refl
cut_kept (suc n) (x ∷ xs) (suc k) lt = cut_kept n xs k (omega arith)

pub cut_gone : (n : ℕ) (xs : List ℕ) (k : ℕ) → n ≤ k → slice_index (cut_addresses n xs) k ≡ 0
cut_gone n [] k le = refl
cut_gone zero (x ∷ xs) zero le = refl
cut_gone zero (x ∷ xs) (suc k) le = cut_gone zero xs k (omega arith)
cut_gone (suc n) (x ∷ xs) zero le = absurd (omega arith)
cut_gone (suc n) (x ∷ xs) (suc k) le = cut_gone n xs k (omega arith)

-- a list that is so, place by place
pub cut_is : (n : ℕ) (xs ys : List ℕ) → length ys ≡ length xs → ((k : ℕ) → k < n → slice_index ys k ≡ slice_index xs k) → ((k : ℕ) → n ≤ k → k < length ys → slice_index ys k ≡ 0) → ys ≡ cut_addresses n xs
cut_is n xs ys long kept cut = ext_get_or 0 ys (cut_addresses n xs) (long ∙ sym (cut_length n xs)) (λ k below. elim (cases_lt k n) [
  | inl lt ↦ kept k lt ∙ sym (cut_kept n xs k lt)
  | inr ge ↦ cut k ge below ∙ sym (cut_gone n xs k ge)
])

pub cut_within : (n leaves : ℕ) (xs : List ℕ) → all_within leaves xs ≡ true → all_within leaves (cut_addresses n xs) ≡ true
cut_within n leaves [] all = refl
cut_within zero leaves (x ∷ xs) all = let rest = cut_within zero leaves xs (grind (arith, nat_tests)) in let small : nat_le 0 leaves ≡ true = grind (arith, nat_tests) in grind (arith, nat_tests)
cut_within (suc n) leaves (x ∷ xs) all = let rest = cut_within n leaves xs (grind (arith, nat_tests)) in grind (arith, nat_tests)

pub set_within : (p a leaves : ℕ) (xs : List ℕ) → a < leaves → all_within leaves xs ≡ true → all_within leaves (slice_set xs p (suc a)) ≡ true
set_within p a leaves [] lt all = refl
set_within zero a leaves (x ∷ xs) lt all = let small : nat_le (suc a) leaves ≡ true = grind (arith, nat_tests) in grind (arith, nat_tests)
set_within (suc p) a leaves (x ∷ xs) lt all = let rest = set_within p a leaves xs lt (grind (arith, nat_tests)) in grind (arith, nat_tests)

pub zeros_at : (n p : ℕ) → slice_index (replicate n 0) p ≡ 0
zeros_at zero p = refl
zeros_at (suc n) zero = refl
zeros_at (suc n) (suc p) = zeros_at n p

pub zeros_within : (n leaves : ℕ) → all_within leaves (replicate n 0) ≡ true
zeros_within zero leaves = refl
zeros_within (suc n) leaves = let rest = zeros_within n leaves in let small : nat_le 0 leaves ≡ true = grind (arith, nat_tests) in grind (arith, nat_tests)

-- ---- what is asked of a head's lists

pub whole_length : (f : FileNo) (xs maps : List ℕ) → has_page (Used f xs maps) ≡ true → length xs ≡ head_blocks
whole_length f xs maps whole = let long = (and_parts (nat_eq (length xs) head_blocks) (nat_eq (length maps) most_maps) whole).0 in grind (arith, nat_tests, long)

pub maps_length : (f : FileNo) (xs maps : List ℕ) → has_page (Used f xs maps) ≡ true → length maps ≡ most_maps
maps_length f xs maps whole = let long = (and_parts (nat_eq (length xs) head_blocks) (nat_eq (length maps) most_maps) whole).1 in grind (arith, nat_tests, long)

pub within_parts : (leaves : ℕ) (f : FileNo) (xs maps : List ℕ) → within leaves (Used f xs maps) ≡ true → (all_within leaves xs ≡ true) × (all_within leaves maps ≡ true)
within_parts leaves f xs maps all = and_parts (all_within leaves xs) (all_within leaves maps) all

-- no address is past the data pages
pub list_within : (leaves : ℕ) (xs : List ℕ) (p : ℕ) → all_within leaves xs ≡ true → slice_index xs p ≤ leaves
list_within leaves [] p all = omega arith
list_within leaves (x ∷ xs) zero all = grind (arith, nat_tests)
list_within leaves (x ∷ xs) (suc p) all = list_within leaves xs p (grind (arith, nat_tests))

pub past_list : (xs : List ℕ) (p : ℕ) → length xs ≤ p → slice_index xs p ≡ 0
past_list [] p past = refl
past_list (x ∷ xs) zero past = absurd (omega arith)
past_list (x ∷ xs) (suc p) past = past_list xs p (omega arith)

-- where an address stands there is a place
pub there_below : (xs : List ℕ) (p a : ℕ) → slice_index xs p ≡ suc a → p < length xs
there_below xs p a e = elim (cases_lt p (length xs)) [
  | inl lt ↦ lt
  | inr ge ↦ absurd (let none = past_list xs p ge in omega arith)
]

pub index_below : (xs : List ℕ) (p : ℕ) → slice_index xs p ≢ 0 → p < length xs
index_below xs p some = elim (cases_lt p (length xs)) [
  | inl lt ↦ lt
  | inr ge ↦ absurd (some (past_list xs p ge))
]

pub map_page_below : (leaves : ℕ) (h : Head) → IsHeadOf leaves h → (j d : ℕ) → head_map h j ≡ suc d → d < leaves
map_page_below leaves Free is j d e = absurd (omega arith)
map_page_below leaves (Used f xs maps) is j d e = let within = list_within leaves maps j (within_parts leaves f xs maps is.is_head.within_leaves).1 in omega arith
