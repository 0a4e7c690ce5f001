-- A list that has its map pages has them again.
use Rattle.jn_records.proofs.Common.{◌≡◌, ◌⊎◌, inl, inr, ◌≤◌, ◌-◌, ◌/◌, ℕ, zero, suc, Bool, true, false, not, ◌&&◌, ◌||◌, if◌then◌else◌, List, [], ◌∷◌, take, slice_get, Option, Some, None, refl, sym, ◌∙◌, ap, subst, arith, true≢false, nat_eq, nat_le, nat_tests, FileNo, Intention, What, Fresh, Gone, Cut, Put, file_eq, file_tells, names_file, is_put_intention, in_order, stands_before, head_blocks, is_in_range, keeps_map, is_put, MapPlaces, has_map_after, places_after, places_then, lacks_map, lacking, IsSupplied, and_parts}

-- it takes away a map page that is there, and it has one there whatever was before
abbrev drops : Intention → FileNo → ℕ → Bool
drops i f j = file_eq i.file f && not (has_map_after i.what i.block.0 j true)

abbrev brings : Intention → FileNo → ℕ → Bool
brings i f j = file_eq i.file f && has_map_after i.what i.block.0 j false

after-by : (what : What) (n j : ℕ) (x b : Bool) → (if b then has_map_after what n j x else x) ≡ (if b && not (has_map_after what n j true) then false else if b && has_map_after what n j false then true else x)
after-by what n j x false = refl
after-by Fresh n j x true = refl
after-by Gone n j x true = refl
after-by Cut n j x true = by x (keeps_map n j)
  where
    by : (x k : Bool) → (x && k) ≡ (if not k then false else x)
    by x k = grind arith
after-by Put n j x true = by x (is_in_range j n)
  where
    by : (x r : Bool) → (x || r) ≡ (if r then true else x)
    by x r = grind arith

after-is : (i : Intention) (p : MapPlaces) (f : FileNo) (j : ℕ) → places_after i p f j ≡ (if drops i f j then false else if brings i f j then true else p f j)
after-is i p f j = after-by i.what i.block.0 j (p f j) (file_eq i.file f)

-- the first intention of a list that touches a map page takes it away
abbrev drops_first : List Intention → FileNo → ℕ → Bool
drops_first [] f j = false
drops_first (i ∷ list) f j = if drops i f j then true else if brings i f j then false else drops_first list f j

-- there is more, but where the list takes it away first
abbrev IsMore : List Intention → MapPlaces → MapPlaces → Type 0
IsMore list p q = (f : FileNo) (j : ℕ) → p f j ≡ true → (q f j ≡ true) ⊎ (drops_first list f j ≡ true)

more-after : (i : Intention) (list : List Intention) (p q : MapPlaces) → IsMore (i ∷ list) p q → IsMore list (places_after i p) (places_after i q)
more-after i list p q more f j h = back (by (drops i f j) (brings i f j) (p f j) (q f j) (drops_first list f j) (sym (after-is i p f j) ∙ h) (more f j))
  where
    by : (a b x y z : Bool) → (if a then false else if b then true else x) ≡ true → (x ≡ true → (y ≡ true) ⊎ ((if a then true else if b then false else z) ≡ true))
        → ((if a then false else if b then true else y) ≡ true) ⊎ (z ≡ true)
    by true b x y z h m = absurd (true≢false (sym h))
    by false true x y z h m = inl refl
    by false false x y z h m = m h

    back : ((if drops i f j then false else if brings i f j then true else q f j) ≡ true) ⊎ (drops_first list f j ≡ true) → (places_after i q f j ≡ true) ⊎ (drops_first list f j ≡ true)
    back (inl k) = inl (after-is i q f j ∙ k)
    back (inr k) = inr k

is-put : (what : What) → is_put what ≡ true → what ≡ Put
is-put Put h = refl
is-put Fresh h = absurd (true≢false (sym h))
is-put Gone h = absurd (true≢false (sym h))
is-put Cut h = absurd (true≢false (sym h))

at-range : (p : ℕ) → nat_le head_blocks p ≡ true → is_in_range (p / head_blocks - 1) p ≡ true
at-range p h = grind (arith, nat_tests, h)

-- a put with a map page there has one where there is more
put-has : (i : Intention) (list : List Intention) (p q : MapPlaces) → IsMore (i ∷ list) p q → lacks_map p i ≡ false → lacks_map q i ≡ false
put-has i list p q more h = by (is_put_intention i) refl (nat_le head_blocks i.block.0) refl
  where
    j : ℕ
    j = i.block.0 / head_blocks - 1

    lacks : Bool → Bool → Bool → Bool
    lacks a b x = a && b && not x

    found : (a b x : Bool) → lacks a b x ≡ false → a ≡ true → b ≡ true → x ≡ true
    found true true true e f g = refl
    found true true false e f g = absurd (true≢false e)
    found true false x e f g = absurd (true≢false (sym g))
    found false b x e f g = absurd (true≢false (sym f))

    never : (a b x : Bool) → x ≡ true → lacks a b x ≡ false
    never true true x e = ap not e
    never true false x e = refl
    never false b x e = refl

    itself : file_eq i.file i.file ≡ true
    itself = grind (arith, nat_tests)

    stays : is_put_intention i ≡ true → drops i i.file j ≡ false
    stays e = ap (λ (w : What). file_eq i.file i.file && not (has_map_after w i.block.0 j true)) (is-put i.what e) ∙ and-false (file_eq i.file i.file)
      where
        and-false : (b : Bool) → (b && false) ≡ false
        and-false b = grind arith

    brought : is_put_intention i ≡ true → nat_le head_blocks i.block.0 ≡ true → brings i i.file j ≡ true
    brought e g = ap (λ (w : What). file_eq i.file i.file && has_map_after w i.block.0 j false) (is-put i.what e) ∙ ap (λ (b : Bool). b && is_in_range j i.block.0) itself ∙ at-range i.block.0 g

    not-first : (a b z : Bool) → a ≡ false → b ≡ true → (if a then true else if b then false else z) ≡ false
    not-first a b z x y = grind (arith, x, y)

    its : is_put_intention i ≡ true → nat_le head_blocks i.block.0 ≡ true → (q i.file j ≡ true) ⊎ (drops_first (i ∷ list) i.file j ≡ true) → lacks_map q i ≡ false
    its e g (inl k) = never (is_put_intention i) (nat_le head_blocks i.block.0) (q i.file j) k
    its e g (inr k) = absurd (true≢false (sym k ∙ not-first (drops i i.file j) (brings i i.file j) (drops_first list i.file j) (stays e) (brought e g)))

    by : (a : Bool) → is_put_intention i ≡ a → (b : Bool) → nat_le head_blocks i.block.0 ≡ b → lacks_map q i ≡ false
    by false e b g = ap (λ (a : Bool). lacks a (nat_le head_blocks i.block.0) (q i.file j)) e
    by true e false g = ap (λ (a : Bool). lacks a (nat_le head_blocks i.block.0) (q i.file j)) e ∙ ap (λ (b : Bool). lacks true b (q i.file j)) g
    by true e true g = its e g (more i.file j (found (is_put_intention i) (nat_le head_blocks i.block.0) (p i.file j) h e g))

-- so a list lacks no more
lack-less : (list : List Intention) (p q : MapPlaces) → IsMore list p q → (k : ℕ) → slice_get (lacking q list) k ≡ Some true → slice_get (lacking p list) k ≡ Some true
lack-less [] p q more k h = h
lack-less (i ∷ list) p q more zero h = ap (λ (b : Bool). Some b) (by (lacks_map p i) refl)
  where
    its : (a b : Bool) → Some a ≡ Some b → a ≡ b
    its a b e = cc

    by : (b : Bool) → lacks_map p i ≡ b → lacks_map p i ≡ true
    by true e = e
    by false e = absurd (true≢false (sym (its (lacks_map q i) true h) ∙ put-has i list p q more e))
lack-less (i ∷ list) p q more (suc k) h = lack-less list (places_after i p) (places_after i q) (more-after i list p q more) k h

pub supplied-more : (list : List Intention) (named : List Bool) (p q : MapPlaces) → ((f : FileNo) (j : ℕ) → p f j ≡ true → q f j ≡ true) → IsSupplied p list named → IsSupplied q list named
supplied-more list named p q more h k lacks = h k (lack-less list p q (λ f j e. inl (more f j e)) k lacks)

-- ---- puts come behind the first intention of their file

abbrev only_puts : FileNo → List Intention → Bool
only_puts f [] = true
only_puts f (i ∷ list) = (not (file_eq i.file f) || is_put i.what) && only_puts f list

abbrev firsts_come_first : List Intention → Bool
firsts_come_first [] = true
firsts_come_first (i ∷ list) = only_puts i.file list && firsts_come_first list

both : (a b : Bool) → a ≡ true → b ≡ true → (a && b) ≡ true
both a b x y = grind (arith, x, y)

puts-behind : (f : FileNo) (last : Intention) (list : List Intention) → f.0 ≤ last.file.0 → in_order (Some last) list ≡ true → only_puts f list ≡ true
puts-behind f last [] le h = refl
puts-behind f last (i ∷ list) le h = both (not (file_eq i.file f) || is_put i.what) (only_puts f list) (here i.what refl) (puts-behind f i list further (and_parts (stands_before last i) (in_order (Some i) list) h).1)
  where
    before : stands_before last i ≡ true
    before = (and_parts (stands_before last i) (in_order (Some i) list) h).0

    further : f.0 ≤ i.file.0
    further = grind (arith, nat_tests, before, le)

    here : (what : What) → i.what ≡ what → (not (file_eq i.file f) || is_put i.what) ≡ true
    here Fresh e = grind (arith, nat_tests, before, le, e)
    here Gone e = grind (arith, nat_tests, before, le, e)
    here Cut e = grind (arith, nat_tests, before, le, e)
    here Put e = grind (arith, nat_tests, before, le, e)

firsts : (last : Option Intention) (list : List Intention) → in_order last list ≡ true → firsts_come_first list ≡ true
firsts last [] h = refl
firsts None (i ∷ list) h = both (only_puts i.file list) (firsts_come_first list) (puts-behind i.file i list (omega arith) h) (firsts (Some i) list h)
firsts (Some last) (i ∷ list) h = let rest = (and_parts (stands_before last i) (in_order (Some i) list) h).1 in
    both (only_puts i.file list) (firsts_come_first list) (puts-behind i.file i list (omega arith) rest) (firsts (Some i) list rest)

equal : (a b : FileNo) → file_eq a b ≡ true → a ≡ b
equal a b h = grind (arith, nat_tests, h)

-- ---- again from the start

-- puts of a file take none of its map pages away
puts-keep : (list : List Intention) (n : ℕ) (p : MapPlaces) (f : FileNo) (j : ℕ) → only_puts f list ≡ true → p f j ≡ true → places_then (take n list) p f j ≡ true
puts-keep list zero p f j o h = h
puts-keep [] (suc n) p f j o h = h
puts-keep (i ∷ list) (suc n) p f j o h = puts-keep list n (places_after i p) f j (and_parts (not (file_eq i.file f) || is_put i.what) (only_puts f list) o).1
    (kept i.what (file_eq i.file f) (p f j) (and_parts (not (file_eq i.file f) || is_put i.what) (only_puts f list) o).0 h)
  where
    kept : (what : What) (b x : Bool) → (not b || is_put what) ≡ true → x ≡ true → (if b then has_map_after what i.block.0 j x else x) ≡ true
    kept what false x o h = h
    kept Put true x o h = ap (λ (y : Bool). y || is_in_range j i.block.0) h
    kept Fresh true x o h = absurd (true≢false (sym o))
    kept Gone true x o h = absurd (true≢false (sym o))
    kept Cut true x o h = absurd (true≢false (sym o))

more-then : (list : List Intention) (n : ℕ) (p : MapPlaces) → firsts_come_first list ≡ true → IsMore list p (places_then (take n list) p)
more-then list zero p o f j h = inl h
more-then [] (suc n) p o f j h = inl h
more-then (i ∷ list) (suc n) p o f j h = by (more-then list n (places_after i p) (and_parts (only_puts i.file list) (firsts_come_first list) o).1 f j) (drops i f j) refl (brings i f j) refl
  where
    its : only_puts i.file list ≡ true
    its = (and_parts (only_puts i.file list) (firsts_come_first list) o).0

    now : (a b : Bool) → drops i f j ≡ a → brings i f j ≡ b → places_after i p f j ≡ (if a then false else if b then true else p f j)
    now a b d e = after-is i p f j ∙ ap (λ (a : Bool). if a then false else if brings i f j then true else p f j) d ∙ ap (λ (b : Bool). if a then false else if b then true else p f j) e

    past : drops i f j ≡ false → brings i f j ≡ false → drops_first (i ∷ list) f j ≡ drops_first list f j
    past d e = ap (λ (a : Bool). if a then true else if brings i f j then false else drops_first list f j) d ∙ ap (λ (b : Bool). if b then false else drops_first list f j) e

    on : drops i f j ≡ false → brings i f j ≡ false → (places_then (take n list) (places_after i p) f j ≡ true) ⊎ (drops_first list f j ≡ true)
        → (places_then (take n list) (places_after i p) f j ≡ true) ⊎ (drops_first (i ∷ list) f j ≡ true)
    on d e (inl k) = inl k
    on d e (inr k) = inr (past d e ∙ k)

    by : (places_after i p f j ≡ true → (places_then (take n list) (places_after i p) f j ≡ true) ⊎ (drops_first list f j ≡ true)) → (a : Bool) → drops i f j ≡ a → (b : Bool) → brings i f j ≡ b
        → (places_then (take n list) (places_after i p) f j ≡ true) ⊎ (drops_first (i ∷ list) f j ≡ true)
    by m true d b e = inr (ap (λ (a : Bool). if a then true else if brings i f j then false else drops_first list f j) d)
    by m false d true e = inl (puts-keep list n (places_after i p) f j (subst (λ (g : FileNo). only_puts g list ≡ true) (equal i.file f (and_parts (file_eq i.file f) (has_map_after i.what i.block.0 j false) e).0) its) (now false true d e))
    by m false d false e = on d e (m (now false false d e ∙ h))

pub supplied-again : (list : List Intention) (named : List Bool) (places : MapPlaces) (n : ℕ) → in_order None list ≡ true → IsSupplied places list named → IsSupplied (places_then (take n list) places) list named
supplied-again list named places n o h k lacks = h k (lack-less list places (places_then (take n list) places) (more-then list n places (firsts None list o)) k lacks)

-- ---- any one intention of the list

no-item : {A : Type 0} (k : ℕ) (i : A) → slice_get [] k ≡ Some i → ⊥
no-item zero i e = cc
no-item (suc k) i e = cc

-- what stands behind an intention of a file is a put
only-put : (list : List Intention) (k : ℕ) (i : Intention) (f : FileNo) → only_puts f list ≡ true → slice_get list k ≡ Some i → file_eq i.file f ≡ true → is_put i.what ≡ true
only-put [] k i f o is h = absurd (no-item k i is)
only-put (x ∷ list) zero i f o is h = subst (λ (z : Intention). is_put z.what ≡ true) same (its (file_eq x.file f) (is_put x.what) (and_parts (not (file_eq x.file f) || is_put x.what) (only_puts f list) o).0 (ap (λ (z : Intention). file_eq z.file f) same ∙ h))
  where
    same : x ≡ i
    same = cc

    its : (a b : Bool) → (not a || b) ≡ true → a ≡ true → b ≡ true
    its a b e d = grind (arith, e, d)
only-put (x ∷ list) (suc k) i f o is h = only-put list k i f (and_parts (not (file_eq x.file f) || is_put x.what) (only_puts f list) o).1 is h

-- an intention that takes a map page away is the first of its file
drops-there : (list : List Intention) (k : ℕ) (i : Intention) (f : FileNo) (j : ℕ) → firsts_come_first list ≡ true → slice_get list k ≡ Some i → drops i f j ≡ true → drops_first list f j ≡ true
drops-there [] k i f j o is d = absurd (no-item k i is)
drops-there (x ∷ list) zero i f j o is d = subst (λ (z : Intention). (if drops z f j then true else if brings z f j then false else drops_first list f j) ≡ true) (sym same) (ap (λ (a : Bool). if a then true else if brings i f j then false else drops_first list f j) d)
  where
    same : x ≡ i
    same = cc
drops-there (x ∷ list) (suc k) i f j o is d = by (drops-there list k i f j (and_parts (only_puts x.file list) (firsts_come_first list) o).1 is d) (file_eq x.file f) refl
  where
    here : file_eq i.file f ≡ true
    here = (and_parts (file_eq i.file f) (not (has_map_after i.what i.block.0 j true)) d).0

    put-stays : is_put i.what ≡ true → drops i f j ≡ false
    put-stays e = ap (λ (w : What). file_eq i.file f && not (has_map_after w i.block.0 j true)) (is-put i.what e) ∙ and-false (file_eq i.file f)
      where
        and-false : (b : Bool) → (b && false) ≡ false
        and-false b = grind arith

    by : drops_first list f j ≡ true → (b : Bool) → file_eq x.file f ≡ b → drops_first (x ∷ list) f j ≡ true
    by m false e = ap (λ (b : Bool). if b && not (has_map_after x.what x.block.0 j true) then true else if b && has_map_after x.what x.block.0 j false then false else drops_first list f j) e ∙ m
    by m true e = absurd (true≢false (sym d ∙ put-stays (only-put list k i f (subst (λ (g : FileNo). only_puts g list ≡ true) (equal x.file f e) (and_parts (only_puts x.file list) (firsts_come_first list) o).0) is here)))

step-more : (list : List Intention) (k : ℕ) (i : Intention) (p : MapPlaces) → firsts_come_first list ≡ true → slice_get list k ≡ Some i → IsMore list p (places_after i p)
step-more list k i p o is f j h = by (drops i f j) refl
  where
    after : (a b x : Bool) → a ≡ false → x ≡ true → (if a then false else if b then true else x) ≡ true
    after a b x d e = grind (arith, d, e)

    by : (a : Bool) → drops i f j ≡ a → (places_after i p f j ≡ true) ⊎ (drops_first list f j ≡ true)
    by true d = inr (drops-there list k i f j o is d)
    by false d = inl (after-is i p f j ∙ after (drops i f j) (brings i f j) (p f j) d h)

pub supplied-step : (list : List Intention) (named : List Bool) (places : MapPlaces) (k : ℕ) (i : Intention) → in_order None list ≡ true → slice_get list k ≡ Some i → IsSupplied places list named → IsSupplied (places_after i places) list named
supplied-step list named places k i o is h n lacks = h n (lack-less list places (places_after i places) (step-more list k i places (firsts None list o) is) n lacks)

-- ---- other files

pub own-lacking : (list : List Intention) (p q : MapPlaces) → ((f : FileNo) (j : ℕ) → names_file list f ≡ true → q f j ≡ p f j) → lacking q list ≡ lacking p list
own-lacking [] p q same = refl
own-lacking (i ∷ list) p q same = ap (λ (b : Bool). b ∷ lacking (places_after i q) list) lacks ∙ ap (λ (l : List Bool). lacks_map p i ∷ l) (own-lacking list (places_after i p) (places_after i q) (λ f j h. after f j (behind f h)))
  where
    itself : file_eq i.file i.file ≡ true
    itself = grind (arith, nat_tests)

    first : names_file (i ∷ list) i.file ≡ true
    first = ap (λ (b : Bool). b || names_file list i.file) itself

    behind : (f : FileNo) → names_file list f ≡ true → names_file (i ∷ list) f ≡ true
    behind f h = or-right (file_eq i.file f) (names_file list f) h
      where
        or-right : (a b : Bool) → b ≡ true → (a || b) ≡ true
        or-right a b e = grind (arith, e)

    after : (f : FileNo) (j : ℕ) → names_file (i ∷ list) f ≡ true → places_after i q f j ≡ places_after i p f j
    after f j h = ap (λ (b : Bool). if file_eq i.file f then has_map_after i.what i.block.0 j b else b) (same f j h)

    lacks : lacks_map q i ≡ lacks_map p i
    lacks = ap (λ (b : Bool). is_put_intention i && nat_le head_blocks i.block.0 && not b) (same i.file (i.block.0 / head_blocks - 1) first)
