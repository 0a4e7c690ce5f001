-- The stored files and blocks, read by name after an edit of the list.
use Rattle.jn_replay.proofs.Common.{sym, map, ◌≡◌, ℕ, zero, suc, ◌+◌, ◌<◌, ◌≤◌, nat_lt, Bool, true, not, ◌&&◌, if◌then◌else◌, List, [], ◌∷◌, ◌++◌, length, filter, position, set, get_or, Option, Some, None, refl, ap, ◌∙◌, subst, inl, inr, arith, option_map, is_some, cases_Bool, false≢true, nat_tests, ServerNo, FileNo, BlockNo, server_eq, file_eq, block_eq, StoredBlock, StoredFile, LockUnit, File, Block, there, registers, AreSame, stored_file, stored_block, block_count, is_file, is_block}
use Rattle.std.specs.List.{position_or_len, find}
use Rattle.std.proofs.lemmas.Option.{slice_get_read, slice_get_past, same_Some}
use Rattle.std.proofs.lemmas.List.Folds.{find_at}

-- a file as a client sees it, wherever its blocks lie in memory
pub record Contents : Type 0 where
  pub server : ServerNo
  pub file : FileNo
  pub blocks : List StoredBlock

abbrev pub contents : StoredFile → Contents
contents x = record { server = x.server; file = x.file; blocks = x.blocks.items }

-- the first file of a name, after another was put in its place
pub stored_file-set : (s : ServerNo) (f : FileNo) (xs : List StoredFile) (i : ℕ) (y : StoredFile) → position_or_len (is_file s f) xs ≡ i → i < length xs → is_file s f y ≡ true → (q : ServerNo) (g : FileNo) → stored_file q g (set xs i y) ≡ (if server_eq s q && file_eq f g then Some y else stored_file q g xs)
stored_file-set s f [] i y e l k q g = absurd (omega arith)
stored_file-set s f (x ∷ xs) zero y e l k q g = grind (arith, nat_tests)
stored_file-set s f (x ∷ xs) (suc i) y e l k q g = grind (arith, nat_tests, stored_file-set s f xs i y)

pub stored_file-push : (xs : List StoredFile) (y : StoredFile) (q : ServerNo) (g : FileNo) → stored_file y.server y.file xs ≡ None → stored_file q g (xs ++ y ∷ []) ≡ (if server_eq y.server q && file_eq y.file g then Some y else stored_file q g xs)
stored_file-push [] y q g e = refl
stored_file-push (x ∷ xs) y q g e = grind (arith, nat_tests, stored_file-push xs y q g)

pub stored_file-filter : (s : ServerNo) (f : FileNo) (xs : List StoredFile) (q : ServerNo) (g : FileNo) → stored_file q g (filter (λ x. not (is_file s f x)) xs) ≡ (if server_eq s q && file_eq f g then None else stored_file q g xs)
stored_file-filter s f [] q g = grind (arith, nat_tests)
stored_file-filter s f (x ∷ xs) q g = grind (arith, nat_tests, stored_file-filter s f xs q g)

pub stored_block-set : (p : BlockNo) (xs : List StoredBlock) (i : ℕ) (y : StoredBlock) → position_or_len (is_block p) xs ≡ i → i < length xs → is_block p y ≡ true → (q : BlockNo) → stored_block q (set xs i y) ≡ (if block_eq p q then Some y.bytes else stored_block q xs)
stored_block-set p [] i y e l k q = absurd (omega arith)
stored_block-set p (x ∷ xs) zero y e l k q = grind (arith, nat_tests)
stored_block-set p (x ∷ xs) (suc i) y e l k q = grind (arith, nat_tests, stored_block-set p xs i y)

pub stored_block-push : (xs : List StoredBlock) (y : StoredBlock) (q : BlockNo) → stored_block y.block xs ≡ None → stored_block q (xs ++ y ∷ []) ≡ (if block_eq y.block q then Some y.bytes else stored_block q xs)
stored_block-push [] y q e = refl
stored_block-push (x ∷ xs) y q e = grind (arith, nat_tests, stored_block-push xs y q)

pub stored_block-filter : (n : BlockNo) (xs : List StoredBlock) (q : BlockNo) → stored_block q (filter (λ (x : StoredBlock). nat_lt x.block.0 n.0) xs) ≡ (if nat_lt q.0 n.0 then stored_block q xs else None)
stored_block-filter n [] q = grind (arith, nat_tests)
stored_block-filter n (x ∷ xs) q = grind (arith, nat_tests, stored_block-filter n xs q)

-- the place of the first file of a name, and that file
pub record IsPlace (s : ServerNo) (f : FileNo) (xs : List StoredFile) (i : ℕ) (x : StoredFile) : Type 0 where
  pub first : position_or_len (is_file s f) xs ≡ i
  pub within : i < length xs
  pub item : x ≡ get_or xs i x
  pub found : stored_file s f xs ≡ Some x
  pub named : is_file s f x ≡ true

stored_file-find : (s : ServerNo) (f : FileNo) (xs : List StoredFile) → stored_file s f xs ≡ find (is_file s f) xs
stored_file-find s f [] = refl
stored_file-find s f (x ∷ xs) = ap (λ (r : Option StoredFile). if is_file s f x then Some x else r) (stored_file-find s f xs)

stored_block-find : (p : BlockNo) (xs : List StoredBlock) → stored_block p xs ≡ option_map (λ (x : StoredBlock). x.bytes) (find (is_block p) xs)
stored_block-find p [] = refl
stored_block-find p (x ∷ xs) = elim (cases_Bool (is_block p x)) [ inl e ↦ rw e | inr e ↦ rw e (stored_block-find p xs) ]

place-Some : {X : Type 0} (p : X → Bool) (xs : List X) (i : ℕ) (x : X) → Some i ≡ position p xs → x ≡ get_or xs i x → (position_or_len p xs ≡ i) × (i < length xs) × (find p xs ≡ Some x)
place-Some p xs i x e h =
    let at : position_or_len p xs ≡ i = grind (arith, nat_tests) in
    let within : i < length xs = grind (arith, nat_tests) in
    (at, within, find_at p xs ∙ rw at (slice_get_read xs (length xs) i x refl within h))

place-None : {X : Type 0} (p : X → Bool) (xs : List X) → None ≡ position p xs → find p xs ≡ None
place-None p xs e = find_at p xs ∙ slice_get_past xs (position_or_len p xs) (grind (arith, nat_tests))

find-passes : {X : Type 0} (p : X → Bool) (xs : List X) (x : X) → find p xs ≡ Some x → p x ≡ true
find-passes p [] x e = cc
find-passes p (y ∷ xs) x e = elim (cases_Bool (p y)) [
  | inl h ↦ (let g : Some y ≡ Some x = rw h at e in subst (λ z. p z ≡ true) (same_Some y x g) h)
  | inr h ↦ find-passes p xs x (rw h at e)
]

pub file_place : (s : ServerNo) (f : FileNo) (xs : List StoredFile) (i : ℕ) (x : StoredFile) → Some i ≡ position (is_file s f) xs → x ≡ get_or xs i x → IsPlace s f xs i x
file_place s f xs i x e h =
    let place = place-Some (is_file s f) xs i x e h in
    record { first = place.0; within = place.1; item = h; found = stored_file-find s f xs ∙ place.2; named = find-passes (is_file s f) xs x place.2 }

pub no_file_place : (s : ServerNo) (f : FileNo) (xs : List StoredFile) → None ≡ position (is_file s f) xs → stored_file s f xs ≡ None
no_file_place s f xs e = stored_file-find s f xs ∙ place-None (is_file s f) xs e

pub record IsBlockPlace (p : BlockNo) (xs : List StoredBlock) (i : ℕ) (x : StoredBlock) : Type 0 where
  pub first : position_or_len (is_block p) xs ≡ i
  pub within : i < length xs
  pub found : stored_block p xs ≡ Some x.bytes
  pub named : is_block p x ≡ true

pub block_place : (p : BlockNo) (xs : List StoredBlock) (i : ℕ) (x : StoredBlock) → Some i ≡ position (is_block p) xs → x ≡ get_or xs i x → IsBlockPlace p xs i x
block_place p xs i x e h =
    let place = place-Some (is_block p) xs i x e h in
    record { first = place.0; within = place.1; found = stored_block-find p xs ∙ ap (option_map (λ (y : StoredBlock). y.bytes)) place.2; named = find-passes (is_block p) xs x place.2 }

pub no_block_place : (p : BlockNo) (xs : List StoredBlock) → None ≡ position (is_block p) xs → stored_block p xs ≡ None
no_block_place p xs e = stored_block-find p xs ∙ ap (option_map (λ (y : StoredBlock). y.bytes)) (place-None (is_block p) xs e)

pub block_count-set : (xs : List StoredFile) (i : ℕ) (x y : StoredFile) → i < length xs → x ≡ get_or xs i x → block_count (set xs i y) + length x.blocks.items ≡ block_count xs + length y.blocks.items
block_count-set [] i x y l e = absurd (omega arith)
block_count-set (z ∷ xs) zero x y l e = rw e (omega arith)
block_count-set (z ∷ xs) (suc i) x y l e = omega (arith, block_count-set xs i x y (omega arith) e)

pub block_count-push : (xs : List StoredFile) (y : StoredFile) → block_count (xs ++ y ∷ []) ≡ block_count xs + length y.blocks.items
block_count-push [] y = omega arith
block_count-push (x ∷ xs) y = omega (arith, block_count-push xs y)

pub block_count-filter : (p : StoredFile → Bool) (xs : List StoredFile) → block_count (filter p xs) ≤ block_count xs
block_count-filter p [] = omega arith
block_count-filter p (x ∷ xs) = elim (cases_Bool (p x)) [ inl e ↦ rw e (omega (arith, block_count-filter p xs)) | inr e ↦ rw e (omega (arith, block_count-filter p xs)) ]

pub length-filter : {X : Type 0} (p : X → Bool) (xs : List X) → length (filter p xs) ≤ length xs
length-filter p [] = omega arith
length-filter p (x ∷ xs) = elim (cases_Bool (p x)) [ inl e ↦ rw e (omega (arith, length-filter p xs)) | inr e ↦ rw e (omega (arith, length-filter p xs)) ]

pub some_file_place : (s : ServerNo) (f : FileNo) (xs : List StoredFile) → is_some (position (is_file s f) xs) ≡ true → (x : StoredFile) × (stored_file s f xs ≡ Some x)
some_file_place s f xs h = some_of (stored_file s f xs) (ap is_some (stored_file-find s f xs) ∙ passes (is_file s f) xs h)
  where
    some_of : {X : Type 0} (o : Option X) → is_some o ≡ true → (x : X) × (o ≡ Some x)
    some_of None h = absurd (false≢true h)
    some_of (Some x) h = (x, refl)

    passes : {X : Type 0} (p : X → Bool) (xs : List X) → is_some (position p xs) ≡ true → is_some (find p xs) ≡ true
    passes p [] h = h
    passes p (x ∷ xs) h = elim (cases_Bool (p x)) [ inl e ↦ rw e | inr e ↦ rw e (passes p xs (grind (arith, nat_tests))) ]

-- a register of a list of files, from the first of them and the rest
abbrev register_of : ServerNo → LockUnit → Contents → Option (List ℕ) → Option (List ℕ)
register_of q (File g) c rest = if server_eq c.server q && file_eq c.file g then Some there else rest
register_of q (Block g b) c rest = if server_eq c.server q && file_eq c.file g then stored_block b c.blocks else rest

registers-cons : (x : StoredFile) (xs : List StoredFile) (q : ServerNo) (u : LockUnit) → registers (x ∷ xs) q u ≡ register_of q u (contents x) (registers xs q u)
registers-cons x xs q (File g) = elim (cases_Bool (is_file q g x)) [ inl h ↦ rw h | inr h ↦ rw h ]
registers-cons x xs q (Block g b) = elim (cases_Bool (is_file q g x)) [ inl h ↦ rw h | inr h ↦ rw h ]

pub registers-contents : (xs ys : List StoredFile) → map contents xs ≡ map contents ys → AreSame (registers xs) (registers ys)
registers-contents [] [] e q u = refl
registers-contents [] (y ∷ ys) e q u = absurd (cc e)
registers-contents (x ∷ xs) [] e q u = absurd (cc e)
registers-contents (x ∷ xs) (y ∷ ys) e q u =
    let first : contents x ≡ contents y = cc in
    let rest : map contents xs ≡ map contents ys = cc in
    registers-cons x xs q u
    ∙ ap (λ (c : Contents). register_of q u c (registers xs q u)) first
    ∙ ap (register_of q u (contents y)) (registers-contents xs ys rest q u)
    ∙ sym (registers-cons y ys q u)
