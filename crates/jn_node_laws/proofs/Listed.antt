-- All that the books hold can be listed: it can where they begin, and each row leaves it so.
use Rattle.jn_node_laws.proofs.Common.{◌≡◌, ⊎_elim, ℕ, ◌+◌, ◌-◌, Bool, true, false, List, [], ◌∷◌, Option, Some, None, is_some, refl, sym, ◌∙◌, ap, subst, arith, true≢false, if◌then◌else◌, ◌&&◌, ◌||◌, not, nat_tests, Tid, WorkId, file_eq, tid_eq, unit_eq, work_eq, file_tells, tid_tells, work_tells, RowOutcome, StableState, made_all, Memory, Beside, left_over, Tells, is_in, are_different, IsListing, nat_eq, ◌/◌, BlockNo, FileNo, LockUnit, File, Block, head_blocks, block_eq, unit_tells, Files, change, or_else, there, has_map_after, is_in_range, places_after, range_of, map_tells, AddFlag, AddReady, CarryOut, Change, DropFlag, MarkGoing, RemoveWork, made_by, left_by_work, file_there, has_map, is_stored, map_eq, left_by, AreListed, Books, taken_by, worked_by}
use Rattle.jn_records.specs.NetLists.{change_by, intention_change}
use Rattle.jn_records.specs.declared.intention.What.{What}
use Rattle.jn_records.specs.declared.intention.What.TheVariants.{Fresh, Gone, Cut, Put}

-- ---- a listing of what is among some keys

module _ {A : Type 0} (eq : A → A → Bool) (tells : Tells eq) (holds : A → Bool) where
  -- those of them at which it holds, each once
  abbrev sifted : List A → List A
  sifted [] = []
  sifted (x ∷ xs) = if holds x && not (is_in eq x (sifted xs)) then x ∷ sifted xs else sifted xs

  in-first : (x a : A) (kept : List A) (b : Bool) → holds x ≡ b → is_in eq a (if b && not (is_in eq x kept) then x ∷ kept else kept) ≡ ((eq x a && holds a) || is_in eq a kept)
  in-first x a kept b e = ⊎_elim
      (λ t. subst (λ (z : A). is_in eq z (if b && not (is_in eq x kept) then x ∷ kept else kept) ≡ ((eq x z && holds z) || is_in eq z kept)) t.1
      (let same : eq x x ≡ true = ⊎_elim (λ h. h.0) (λ h. absurd (h.1 refl)) (tells x x) in grind (arith, e, same)))
      (λ t. let other = t.0 in grind (arith, e, other))
      (tells x a)

  in-sifted : (a : A) (xs : List A) → is_in eq a (sifted xs) ≡ (is_in eq a xs && holds a)
  in-sifted a [] = refl
  in-sifted a (x ∷ xs) = let first = in-first x a (sifted xs) (holds x) refl in let again = in-sifted a xs in grind (arith, first, again)

  sifted-differ : (xs : List A) → are_different eq (sifted xs) ≡ true
  sifted-differ [] = refl
  sifted-differ (x ∷ xs) = let again = sifted-differ xs in grind (arith, again)

  pub among : (xs : List A) → ((a : A) → holds a ≡ true → is_in eq a xs ≡ true) → (keys : List A) × IsListing eq holds keys
  among xs each = (sifted xs, record { different = sifted-differ xs; all = λ a. in-sifted a xs ∙ by a (holds a) refl })
    where
      by : (a : A) (b : Bool) → holds a ≡ b → (is_in eq a xs && holds a) ≡ holds a
      by a true e = let in-them = each a e in grind (arith, e, in-them)
      by a false e = grind (arith, e)

  -- those of another listing, and one key more
  pub grown : (was : A → Bool) (keys : List A) (k : A) → IsListing eq was keys → ((a : A) → holds a ≡ true → (eq k a || was a) ≡ true) → (ks : List A) × IsListing eq holds ks
  grown was keys k l each = among (k ∷ keys) (λ a h. ap (λ (b : Bool). eq k a || b) (l.all a) ∙ each a h)

-- what is put in one place
module _ {A B : Type 0} (eq : A → A → Bool) (tells : Tells eq) (f : A → Option B) (k : A) (o : Option B) where
  placed : (keys : List A) → IsListing eq (λ a. is_some (f a)) keys → (ks : List A) × IsListing eq (λ a. is_some (if eq k a then o else f a)) ks
  placed keys l = grown eq tells (λ a. is_some (if eq k a then o else f a)) (λ a. is_some (f a)) keys k l (λ a h. by (eq k a) (f a) h)
    where
      by : (b : Bool) (p : Option B) → is_some (if b then o else p) ≡ true → (b || is_some p) ≡ true
      by true p h = refl
      by false p h = h

-- ---- each change

works-after : (c : Change) (x : StableState) (keys : List WorkId) → IsListing work_eq (λ W. is_some (x.works W)) keys → (ks : List WorkId) × IsListing work_eq (λ W. is_some ((made_by c x).works W)) ks
works-after (AddReady head list reads) x keys l = placed work_eq work_tells x.works head.work _ keys l
works-after (MarkGoing W) x keys l = placed work_eq work_tells x.works W _ keys l
works-after (RemoveWork W) x keys l = placed work_eq work_tells x.works W None keys l
works-after c x keys l = (keys, l)

flags-after : (c : Change) (x : StableState) (keys : List Tid) → IsListing tid_eq (λ T. is_some (x.flags T)) keys → (ks : List Tid) × IsListing tid_eq (λ T. is_some ((made_by c x).flags T)) ks
flags-after (AddFlag flag) x keys l = placed tid_eq tid_tells x.flags flag.tid _ keys l
flags-after (DropFlag T) x keys l = placed tid_eq tid_tells x.flags T None keys l
flags-after c x keys l = (keys, l)

-- a file that is there after an intention is its own, or was there
file-after : (w : What) (g : FileNo) (p : BlockNo) (bytes : List ℕ) (files : Files) (f : FileNo) → is_some (change (change_by w g p bytes) files (File f)) ≡ true
    → (file_eq g f || is_some (files (File f))) ≡ true
file-after Fresh g p bytes files f h = by (file_eq g f) h
  where
    by : (b : Bool) → is_some (or_else (if b then Some (Some there) else None) (files (File f))) ≡ true → (b || is_some (files (File f))) ≡ true
    by true h = refl
    by false h = h
file-after Gone g p bytes files f h = by (file_eq g f) h
  where
    by : (b : Bool) → is_some (or_else (if b then Some None else None) (files (File f))) ≡ true → (b || is_some (files (File f))) ≡ true
    by true h = refl
    by false h = h
file-after Cut g p bytes files f h = let old = h in grind (arith, old)
file-after Put g p bytes files f h = let old = h in grind (arith, old)

-- and so is a block that is stored
gone-block : (b c : Bool) (o : Option (List ℕ)) → is_some (or_else (if b then Some None else None) o) ≡ true → (c || is_some o) ≡ true
gone-block true c o h = absurd (true≢false (sym h))
gone-block false c o h = let old = h in grind (arith, old)

put-block : (b : Bool) (bytes : List ℕ) (o : Option (List ℕ)) → is_some (or_else (if b then Some (Some bytes) else None) o) ≡ true → (b || is_some o) ≡ true
put-block true bytes o h = refl
put-block false bytes o h = h

block-after : (w : What) (g : FileNo) (p : BlockNo) (bytes : List ℕ) (files : Files) (u : LockUnit) → is_stored (change (change_by w g p bytes) files) u ≡ true
    → (unit_eq (Block g p) u || is_stored files u) ≡ true
block-after w g p bytes files (File f) h = absurd (true≢false (sym h))
block-after Fresh g p bytes files (Block f q) h = gone-block (file_eq g f) (file_eq g f && block_eq p q) (files (Block f q)) h
block-after Gone g p bytes files (Block f q) h = gone-block (file_eq g f) (file_eq g f && block_eq p q) (files (Block f q)) h
block-after Cut g p bytes files (Block f q) h = gone-block _ (file_eq g f && block_eq p q) (files (Block f q)) h
block-after Put g p bytes files (Block f q) h = put-block (file_eq g f && block_eq p q) bytes (files (Block f q)) h

-- and a map page that is there
one-range : (q j : ℕ) → nat_eq q (j + 1) ≡ true → nat_eq (q - 1) j ≡ true
one-range q j e = grind (arith, nat_tests, e)

page-after : (w : What) (p j : ℕ) (b old : Bool) → (if b then has_map_after w p j old else old) ≡ true → ((b && nat_eq (range_of p) j) || old) ≡ true
page-after w p j false old h = h
page-after Fresh p j true old h = absurd (true≢false (sym h))
page-after Gone p j true old h = absurd (true≢false (sym h))
page-after Cut p j true old h = by old _ h
  where
    by : (a c : Bool) → (a && c) ≡ true → ((true && nat_eq (range_of p) j) || a) ≡ true
    by a c h = grind (arith, h)
page-after Put p j true old h = by old (is_in_range j p) refl h
  where
    by : (a c : Bool) → is_in_range j p ≡ c → (a || c) ≡ true → ((true && nat_eq (range_of p) j) || a) ≡ true
    by a true e h = let at = one-range (p / head_blocks) j e in grind (arith, at)
    by a false e h = grind (arith, h)

files-after : (c : Change) (x : StableState) (keys : List FileNo) → IsListing file_eq (file_there x.files) keys → (ks : List FileNo) × IsListing file_eq (file_there (made_by c x).files) ks
files-after (CarryOut W i) x keys l = grown file_eq file_tells (file_there (change (intention_change i) x.files)) (file_there x.files) keys i.file l
    (λ f h. file-after i.what i.file i.block i.bytes x.files f h)
files-after c x keys l = (keys, l)

blocks-after : (c : Change) (x : StableState) (keys : List LockUnit) → IsListing unit_eq (is_stored x.files) keys → (ks : List LockUnit) × IsListing unit_eq (is_stored (made_by c x).files) ks
blocks-after (CarryOut W i) x keys l = grown unit_eq unit_tells (is_stored (change (intention_change i) x.files)) (is_stored x.files) keys (Block i.file i.block) l
    (λ u h. block-after i.what i.file i.block i.bytes x.files u h)
blocks-after c x keys l = (keys, l)

maps-after : (c : Change) (x : StableState) (b : Beside) (keys : List (FileNo × ℕ)) → IsListing map_eq (has_map b.maps) keys
    → (ks : List (FileNo × ℕ)) × IsListing map_eq (has_map (left_by x c b).maps) ks
maps-after (CarryOut W i) x b keys l = grown map_eq map_tells (has_map (places_after i b.maps)) (has_map b.maps) keys (i.file, range_of i.block.0) l
    (λ m h. page-after i.what i.block.0 m.1 (file_eq i.file m.0) (b.maps m.0 m.1) h)
maps-after c x b keys l = (keys, l)

-- ---- a row

listed-one : (x : StableState) (c : Change) (b : Books) → AreListed b → AreListed (record b { found = made_by c b.found; beside = left_by x c b.beside })
listed-one x c b l =
    let (works, works_all) = works-after c b.found l.works l.works_all in
    let (flags, flags_all) = flags-after c b.found l.flags l.flags_all in
    let (files, files_all) = files-after c b.found l.files l.files_all in
    let (blocks, blocks_all) = blocks-after c b.found l.blocks l.blocks_all in
    let (maps, maps_all) = maps-after c x b.beside l.maps l.maps_all in
    record {
      works = works;
      flags = flags;
      files = files;
      blocks = blocks;
      maps = maps;
      works_all = works_all;
      flags_all = flags_all;
      files_all = files_all;
      blocks_all = blocks_all;
      maps_all = maps_all;
    }

-- what is left beside the state is counted by the state before all of them
listed-all : (x : StableState) (cs : List Change) (b : Books) → AreListed b → AreListed (record b { found = made_all cs b.found; beside = left_over x cs b.beside })
listed-all x [] b l = l
listed-all x (c ∷ cs) b l = listed-all x cs (record b { found = made_by c b.found; beside = left_by x c b.beside }) (listed-one x c b l)

-- of what is remembered, and of how many records are rubbish, nothing is listed
pub listed-still : (b : Books) (m : Memory) (n : ℕ) → AreListed b → AreListed (record b { memory = m; beside = record b.beside { rubbish = n } })
listed-still b m n l = record {
  works = l.works;
  flags = l.flags;
  files = l.files;
  blocks = l.blocks;
  maps = l.maps;
  works_all = l.works_all;
  flags_all = l.flags_all;
  files_all = l.files_all;
  blocks_all = l.blocks_all;
  maps_all = l.maps_all;
}

pub listed-taken : (b : Books) (row : RowOutcome Memory) → AreListed b → AreListed (taken_by b row)
listed-taken b row l = let after = listed-all b.found row.changes b l in
    listed-still (record b { found = made_all row.changes b.found; beside = left_over b.found row.changes b.beside }) row.table (left_over b.found row.changes b.beside).rubbish after

pub listed-worked : (b : Books) (row : RowOutcome Memory) → AreListed b → AreListed (worked_by b row)
listed-worked b row l = by row.changes
  where
    by : (cs : List Change) → AreListed (record { memory = row.table; found = made_all cs b.found; beside = left_by_work b.found cs b.beside })
    by [] = listed-still b row.table _ l
    by (c ∷ cs) = listed-still _ row.table _ (listed-all b.found (c ∷ cs) b l)
