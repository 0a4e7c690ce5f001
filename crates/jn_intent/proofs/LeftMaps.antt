-- The map pages that the intentions left of a work name.
use Rattle.jn_intent.proofs.Common.{◌≡◌, ℕ, zero, suc, Bool, true, false, ◌||◌, List, [], ◌∷◌, map, drop, Some, refl, sym, ◌∙◌, ap, true≢false, arith, nat_tests, nat_lt, slice_get, FileNo, file_eq, file_tells, intended, StoredIntention, MapPlaces, lacking, lacks_map, places_after, bare, names_maps, IsSuppliedBy, names_file}
use Rattle.jn_records.proofs.Supplied.{supplied-more, own-lacking}

-- what is left begins with the next intention
pub drop_here : {A : Type 0} (xs : List A) (k : ℕ) (x : A) → slice_get xs k ≡ Some x → drop k xs ≡ x ∷ drop (suc k) xs
drop_here [] zero x e = absurd (cc e)
drop_here [] (suc k) x e = absurd (cc e)
drop_here (y ∷ xs) zero x e = ap (λ z. z ∷ xs) (cc e)
drop_here (y ∷ xs) (suc k) x e = drop_here xs k x e

-- a put that lacks its map page names one
pub names_lacking : (places : MapPlaces) (i : StoredIntention) (rest : List StoredIntention) → IsSuppliedBy places (i ∷ rest) → lacks_map places (bare i) ≡ true → (page : ℕ) × (i.map ≡ suc page)
names_lacking places i rest is lacks = by i.map refl (some_is (is zero (ap (λ (b : Bool). Some b) lacks)))
  where
    some_is : {a b : Bool} → Some a ≡ Some b → a ≡ b
    some_is e = cc e

    by : (m : ℕ) → i.map ≡ m → nat_lt 0 i.map ≡ true → (page : ℕ) × (i.map ≡ suc page)
    by (suc page) e h = (page, e)
    by zero e h = absurd (none i.map e h)
      where
        none : (m : ℕ) → m ≡ 0 → nat_lt 0 m ≡ true → ⊥
        none m e h = grind (arith, nat_tests, e, h)

-- behind it the rest has its map pages
pub rest_supplied : (places : MapPlaces) (i : StoredIntention) (rest : List StoredIntention) → IsSuppliedBy places (i ∷ rest) → IsSuppliedBy (places_after (bare i) places) rest
rest_supplied places i rest is k lacks = is (suc k) lacks

-- where there are more map pages
pub more_supplied : (list : List StoredIntention) (p q : MapPlaces) → ((f : FileNo) (j : ℕ) → p f j ≡ true → q f j ≡ true) → IsSuppliedBy p list → IsSuppliedBy q list
more_supplied list p q more is = supplied-more (map bare list) (names_maps list) p q more is

-- or where those of its files stay
pub same_supplied : (list : List StoredIntention) (p q : MapPlaces) → ((f : FileNo) (j : ℕ) → names_file (map bare list) f ≡ true → q f j ≡ p f j) → IsSuppliedBy p list → IsSuppliedBy q list
same_supplied list p q same is k lacks = is k (ap (λ (l : List Bool). slice_get l k) (sym (own-lacking (map bare list) p q same)) ∙ lacks)

-- what a list lacks doesn't depend on bytes
pub same_lacking : (blocks : ℕ → List ℕ) (places : MapPlaces) (list : List StoredIntention) → lacking places (map bare list) ≡ lacking places (map (intended blocks) list)
same_lacking blocks places [] = refl
same_lacking blocks places (i ∷ list) = ap (λ (l : List Bool). lacks_map places (bare i) ∷ l) (same_lacking blocks (places_after (bare i) places) list)

-- a file that a list names is that of an intention
pub file_named : (list : List StoredIntention) (f : FileNo) → names_file (map bare list) f ≡ true → (k : ℕ) × (j : StoredIntention) × (slice_get list k ≡ Some j) × (j.file ≡ f)
file_named [] f h = absurd (true≢false (sym h))
file_named (i ∷ list) f h = by (file_eq i.file f) refl h (file_named list f)
  where
    by : (b : Bool) → file_eq i.file f ≡ b → (b || names_file (map bare list) f) ≡ true → (names_file (map bare list) f ≡ true → (k : ℕ) × (j : StoredIntention) × (slice_get list k ≡ Some j) × (j.file ≡ f))
        → (k : ℕ) × (j : StoredIntention) × (slice_get (i ∷ list) k ≡ Some j) × (j.file ≡ f)
    by true e h again = (0, i, refl, (let t = file_tells i.file f in grind (arith, e)))
    by false e h again = let it = again h in (suc it.0, it.1, it.2, it.3)

-- what is left of a list stands in it
pub left_at : {A : Type 0} (xs : List A) (n k : ℕ) (x : A) → slice_get (drop n xs) k ≡ Some x → (j : ℕ) × (slice_get xs j ≡ Some x)
left_at xs zero k x e = (k, e)
left_at [] (suc n) k x e = (k, e)
left_at (y ∷ xs) (suc n) k x e = let it = left_at xs n k x e in (suc it.0, it.1)
