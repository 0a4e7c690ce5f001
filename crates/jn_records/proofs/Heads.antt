-- A head is read again from its page.
use Rattle.jn_records.proofs.Common.{◌≡◌, ◌<◌, ◌^◌, ◌-◌, ℕ, true, List, [], ◌∷◌, ◌++◌, length, replicate, Some, Result, refl, sym, ap, subst, ◌∙◌, arith, append_assoc, nat_le, list_all, AllByRecursion, nat_tests, big_bytes, FileNo, Head, Free, Used, number_at, list_at, addresses_bytes, head_bytes, head_page, all_within, IsHead, FileFits, maps_at, used_at, head_at, IfOk, head_blocks, most_maps, number_again, list_again}

addresses_fit : (leaves : ℕ) (xs : List ℕ) → leaves < 2 ^ 16 → list_all (λ a. nat_le a leaves) xs ≡ true → AllByRecursion (λ a. a < 256 ^ 2) xs
addresses_fit leaves [] small all = tt
addresses_fit leaves (x ∷ xs) small all = (grind (arith, nat_tests), addresses_fit leaves xs small (grind (arith, nat_tests)))

addresses_again : (n : ℕ) (xs rest : List ℕ) → length xs ≡ n → AllByRecursion (λ a. a < 256 ^ 2) xs → list_at (λ b. number_at 2 b) n (addresses_bytes xs ++ rest) ≡ Some (xs, rest)
addresses_again n xs rest e all =
    subst (λ (k : ℕ). list_at (λ b. number_at 2 b) k (addresses_bytes xs ++ rest) ≡ Some (xs, rest)) e
    (list_again (λ (a : ℕ). big_bytes 2 a) (λ b. number_at 2 b) (λ a. a < 256 ^ 2) (λ a after small. number_again 2 a after small) xs rest all)

maps_again : (file : FileNo) (xs maps rest : List ℕ) → length maps ≡ most_maps → AllByRecursion (λ a. a < 256 ^ 2) maps → maps_at file xs (addresses_bytes maps ++ rest) ≡ Some (Used file xs maps)
unfolding maps_at
maps_again file xs maps rest whole all = rw (addresses_again most_maps maps rest whole all) refl

used_again : (file : FileNo) (xs maps rest : List ℕ) → file.0 < 2 ^ 32 → length xs ≡ head_blocks → AllByRecursion (λ a. a < 256 ^ 2) xs → length maps ≡ most_maps → AllByRecursion (λ a. a < 256 ^ 2) maps
    → used_at (big_bytes 4 file.0 ++ (addresses_bytes xs ++ (addresses_bytes maps ++ rest))) ≡ Some (Used file xs maps)
unfolding used_at
used_again file xs maps rest small whole all whole_maps all_maps =
    let behind = addresses_bytes maps ++ rest in
    rw (number_again 4 file.0 (addresses_bytes xs ++ behind) small, addresses_again head_blocks xs behind whole all) (maps_again file xs maps rest whole_maps all_maps)

pub head_is_read : (leaves : ℕ) (page : List ℕ) (h : Head) → leaves < 2 ^ 16 → IsHead leaves h → FileFits h → page ≡ head_page h → head_at page ≡ Some h
unfolding head_at head_page
head_is_read leaves page Free small is fits e =
    let zeros : head_page Free ≡ big_bytes 1 0 ++ replicate 511 0 = refl in
    ap head_at (e ∙ zeros) ∙ rw (number_again 1 0 (replicate 511 0) (omega arith)) refl
head_is_read leaves page (Used file xs maps) small is fits e =
    let rest = replicate (512 - length (head_bytes (Used file xs maps))) 0 in
    let behind = big_bytes 4 file.0 ++ (addresses_bytes xs ++ (addresses_bytes maps ++ rest)) in
    let regrouped : head_page (Used file xs maps) ≡ big_bytes 1 1 ++ (big_bytes 4 file.0 ++ ((addresses_bytes xs ++ addresses_bytes maps) ++ rest)) = refl in
    let parted = ap (λ (l : List ℕ). big_bytes 1 1 ++ (big_bytes 4 file.0 ++ l)) (append_assoc (addresses_bytes xs) (addresses_bytes maps) rest) in
    let whole : length xs ≡ head_blocks = grind (arith, nat_tests, is.whole) in
    let whole_maps : length maps ≡ most_maps = grind (arith, nat_tests, is.whole) in
    let near : all_within leaves xs ≡ true = grind (arith, is.within_leaves) in
    let near_maps : all_within leaves maps ≡ true = grind (arith, is.within_leaves) in
    ap head_at (e ∙ regrouped ∙ parted)
    ∙ rw (number_again 1 1 behind (omega arith)) (used_again file xs maps rest fits whole (addresses_fit leaves xs small near) whole_maps (addresses_fit leaves maps small near_maps))

-- what a call read is what is read there
pub read_as : {A E : Type 0} (r : Result A E) (x y : A) → IfOk r (λ v. v ≡ x) → y ≡ x → IfOk r (λ v. v ≡ y)
read_as {A} {E} r x y h e = subst (λ (z : A). IfOk r (λ v. v ≡ z)) (sym e) h
