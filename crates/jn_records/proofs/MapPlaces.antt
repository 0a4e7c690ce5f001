-- Which map pages are there after a list, and which it lacks.
use Rattle.jn_records.proofs.Common.{◌≡◌, ◌+◌, ◌-◌, ◌&&◌, ◌≤◌, ℕ, zero, suc, Bool, true, false, not, if◌then◌else◌, List, [], ◌∷◌, length, drop, refl, ap, ◌∙◌, arith, nat_tests, nat_lt, nat_le, count_by, list_all, FileNo, file_eq, Intention, is_put_intention, add-zero, sum_by-cons, ◌/◌, head_blocks, MapPlaces, has_map_after, places_after, places_then, need_of}

-- whether a file's map page is there after a list, by whether it is there before
abbrev pub there_at : List Intention → FileNo → ℕ → Bool → Bool
there_at [] f j there = there
there_at (i ∷ list) f j there = there_at list f j (if file_eq i.file f then has_map_after i.what i.block.0 j there else there)

pub then-at : (list : List Intention) (f : FileNo) (j : ℕ) (there : Bool) (places : MapPlaces) → places f j ≡ there → places_then list places f j ≡ there_at list f j there
then-at [] f j there places e = e
then-at (i ∷ list) f j there places e = then-at list f j (if file_eq i.file f then has_map_after i.what i.block.0 j there else there) (places_after i places)
    (ap (λ (b : Bool). if file_eq i.file f then has_map_after i.what i.block.0 j b else b) e)

-- behind the end of a list
pub none-left : (list : List Intention) (i : ℕ) (f : FileNo) (j : ℕ) (there : Bool) → length list ≤ i → there_at (drop i list) f j there ≡ there
none-left [] zero f j there past = refl
none-left [] (suc i) f j there past = refl
none-left (x ∷ list) zero f j there past = absurd (omega (arith, past))
none-left (x ∷ list) (suc i) f j there past = none-left list i f j there (omega (arith, past))
