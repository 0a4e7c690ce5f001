-- Which puts of a list lack a map page, one after another.
use Rattle.jn_storage.proofs.Common.{◌≡◌, ℕ, zero, suc, ◌≤◌, ◌+◌, ◌*◌, ◌-◌, ◌/◌, Bool, true, false, not, ◌&&◌, if◌then◌else◌, List, [], ◌∷◌, ◌++◌, Option, Some, None, length, refl, sym, ◌∙◌, ap, subst, arith, take, slice_get, count_by, nat_le, sum_by-cons, count_by-le-length, Intention, MapPlaces, lacks_map, lacking, places_after, places_then, is_put_intention, is_past_head}
use Rattle.jn_base.specs.Limits.{head_blocks}

pub lacking-length : (list : List Intention) (places : MapPlaces) → length (lacking places list) ≡ length list
lacking-length [] places = refl
lacking-length (i ∷ list) places = let again = lacking-length list (places_after i places) in grind arith

-- what is known of an intention in its turn
pub lacking-at : (list : List Intention) (places : MapPlaces) (k : ℕ) (i : Intention) → slice_get list k ≡ Some i
    → slice_get (lacking places list) k ≡ Some (lacks_map (places_then (take k list) places) i)
lacking-at [] places k i e = absurd (cc e)
lacking-at (x ∷ list) places zero i e = same x i (grind (arith, e))
  where
    same : (x i : Intention) → x ≡ i → Some (lacks_map places x) ≡ Some (lacks_map places i)
    same x i e = ap (λ (y : Intention). Some (lacks_map places y)) e
lacking-at (x ∷ list) places (suc k) i e = lacking-at list (places_after x places) k i e

-- one flag more
flags-to : (flags : List Bool) (k : ℕ) (b : Bool) → slice_get flags k ≡ Some b → take k flags ++ b ∷ [] ≡ take (suc k) flags
flags-to [] k b e = absurd (cc e)
flags-to (x ∷ flags) zero b e = grind (arith, e)
flags-to (x ∷ flags) (suc k) b e = ap (λ (l : List Bool). x ∷ l) (flags-to flags k b e)

next : (k : ℕ) → suc k ≡ k + 1
next k = omega arith

pub flag-more : (flags : List Bool) (k : ℕ) (b : Bool) → slice_get flags k ≡ Some b → take k flags ++ b ∷ [] ≡ take (k + 1) flags
flag-more flags k b e = subst (λ n. take k flags ++ b ∷ [] ≡ take n flags) (next k) (flags-to flags k b e)

counts-to : (flags : List Bool) (k : ℕ) (b : Bool) → slice_get flags k ≡ Some b → count_by (λ (b : Bool). b) (take k flags) + (if b then 1 else 0) ≡ count_by (λ (b : Bool). b) (take (suc k) flags)
counts-to [] k b e = absurd (cc e)
counts-to (x ∷ flags) zero b e = let one = sum_by-cons (λ (b : Bool). if b then 1 else 0) x [] in grind (arith, e)
counts-to (x ∷ flags) (suc k) b e =
    let again = counts-to flags k b e in
    let one = sum_by-cons (λ (b : Bool). if b then 1 else 0) x (take k flags) in
    let more = sum_by-cons (λ (b : Bool). if b then 1 else 0) x (take (suc k) flags) in
    omega (arith, again, one, more)

pub count-more : (flags : List Bool) (k : ℕ) (b : Bool) → slice_get flags k ≡ Some b → count_by (λ (b : Bool). b) (take k flags) + (if b then 1 else 0) ≡ count_by (λ (b : Bool). b) (take (k + 1) flags)
count-more flags k b e = subst (λ n. count_by (λ (b : Bool). b) (take k flags) + (if b then 1 else 0) ≡ count_by (λ (b : Bool). b) (take n flags)) (next k) (counts-to flags k b e)

pub whole : (flags : List Bool) (k : ℕ) → length flags ≤ k → take k flags ≡ flags
whole [] zero h = refl
whole [] (suc k) h = refl
whole (x ∷ flags) zero h = absurd (omega (arith, h))
whole (x ∷ flags) (suc k) h = ap (λ (l : List Bool). x ∷ l) (whole flags k (omega (arith, h)))

-- where its block's map page stands, if a put is past the head's blocks
abbrev pub map_of : Intention → Option ℕ
map_of i = if is_past_head i then Some (i.block.0 / head_blocks - 1) else None

none-when : (b : Bool) (n : ℕ) → (if b then Some n else None) ≡ None → b ≡ false
none-when true n e = absurd (cc e)
none-when false n e = refl

some-when : (b : Bool) (n m : ℕ) → (if b then Some n else None) ≡ Some m → (b ≡ true) × (m ≡ n)
some-when true n m e = (refl, grind (arith, e))
some-when false n m e = absurd (cc e)

-- a put in the head, and all that is no put, lacks none
pub lacks-not : (list : List Intention) (places : MapPlaces) (k : ℕ) (i : Intention) (m : Option ℕ) → slice_get list k ≡ Some i → m ≡ map_of i → m ≡ None → slice_get (lacking places list) k ≡ Some false
lacks-not list places k i m at is none = lacking-at list places k i at ∙ ap (λ (b : Bool). Some b) (by (is_put_intention i) (nat_le head_blocks i.block.0) (not (places_then (take k list) places i.file (i.block.0 / head_blocks - 1))) (none-when (is_past_head i) _ (sym is ∙ none)))
  where
    by : (b c d : Bool) → (b && c) ≡ false → (b && c && d) ≡ false
    by b c d h = grind (arith, h)

-- another put lacks its map page where it isn't found
pub lacks-unfound : (list : List Intention) (places : MapPlaces) (k : ℕ) (i : Intention) (m : Option ℕ) (n : ℕ) (there found : Bool) → slice_get list k ≡ Some i → m ≡ map_of i → m ≡ Some n → there ≡ places i.file n
    → ((j : Intention) (q : MapPlaces) → slice_get list k ≡ Some j → q j.file (j.block.0 / head_blocks - 1) ≡ there → found ≡ places_then (take k list) q j.file (j.block.0 / head_blocks - 1))
    → slice_get (lacking places list) k ≡ Some (not found)
lacks-unfound list places k i m n there found at is some known finds = lacking-at list places k i at ∙ ap (λ (b : Bool). Some b) (by (is_put_intention i) (nat_le head_blocks i.block.0) (places_then (take k list) places i.file (i.block.0 / head_blocks - 1)) found past.0 (finds i places at (sym (known ∙ ap (λ (x : ℕ). places i.file x) past.1))))
  where
    past : (is_past_head i ≡ true) × (n ≡ i.block.0 / head_blocks - 1)
    past = some-when (is_past_head i) _ n (sym is ∙ some)

    by : (b c d e : Bool) → (b && c) ≡ true → e ≡ d → (b && c && not d) ≡ not e
    by b c d e h same = grind (arith, h, same)

-- a list needs no more pages than two for each of its intentions
pub pages-few : (list : List Intention) (places : MapPlaces) → count_by is_put_intention list + count_by (λ (b : Bool). b) (lacking places list) ≤ 2 * length list
pages-few list places =
    let puts = count_by-le-length is_put_intention list in
    let maps = count_by-le-length (λ (b : Bool). b) (lacking places list) in
    omega (arith, puts, maps, lacking-length list places)
