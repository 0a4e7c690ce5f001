-- All that the first books hold can be listed: files, by their heads, their blocks and their map pages.
use Rattle.jn_node_laws.proofs.Common.{◌≡◌, ⊎_elim, ℕ, ◌<◌, zero, suc, Bool, true, false, List, [], ◌∷◌, ◌++◌, length, Option, Some, None, is_some, refl, sym, ◌∙◌, ap, arith, true≢false, if◌then◌else◌, ◌&&◌, ◌||◌, nat_lt, nat_tests, list_any, cases_lt, ServerNo, file_eq, unit_eq, Counts, Pages, heads_on, StableState, is_in, IsListing, standing_pages, nat_eq, option_and_then, option_map, slice_index, get_or_past, BlockNo, FileNo, LockUnit, File, Block, most_blocks, unit_tells, Files, there, IsFresh, maps_in, names_map, address_by, block_behind, block_in, files_of_pages, head_of, map_tells, file_there, has_map, is_stored, map_eq, StoreView, AreListed, first_books, map_of_file}
use Rattle.jn_records.specs.declared.head.Head.{Head}
use Rattle.jn_records.specs.declared.head.Head.TheVariants.{Free, Used}
use Rattle.jn_node_laws.proofs.Listed.{among}

-- ---- some things of each file

module _ {B : Type 0} (eq : B → B → Bool) (make : FileNo → ℕ → B) (same : (f k : FileNo) (p q : ℕ) → eq (make f p) (make k q) ≡ (file_eq f k && nat_eq p q)) where
  in-both : (b : B) (xs ys : List B) → is_in eq b (xs ++ ys) ≡ (is_in eq b xs || is_in eq b ys)
  in-both b [] ys = refl
  in-both b (x ∷ xs) ys = let again = in-both b xs ys in grind (arith, again)

  abbrev of-one : FileNo → ℕ → List B
  of-one f zero = []
  of-one f (suc n) = make f n ∷ of-one f n

  in-one : (f k : FileNo) (n q : ℕ) → file_eq f k ≡ true → q < n → is_in eq (make k q) (of-one f n) ≡ true
  in-one f k zero q e lt = absurd (omega (arith, lt))
  in-one f k (suc n) q e lt = ⊎_elim
      (λ low. let again = in-one f k n q e low in grind (arith, again))
      (λ high. let at : nat_eq n q ≡ true = grind (arith, nat_tests, high, lt) in let here = same f k n q in grind (arith, e, at, here))
      (cases_lt q n)

  abbrev of-each : List FileNo → ℕ → List B
  of-each [] n = []
  of-each (f ∷ files) n = of-one f n ++ of-each files n

  in-each : (files : List FileNo) (k : FileNo) (n q : ℕ) → is_in file_eq k files ≡ true → q < n → is_in eq (make k q) (of-each files n) ≡ true
  in-each [] k n q h lt = absurd (true≢false (sym h))
  in-each (f ∷ files) k n q h lt = in-both (make k q) (of-one f n) (of-each files n) ∙ by (file_eq f k) refl h (λ i. in-each files k n q i lt)
    where
      by : (b : Bool) → file_eq f k ≡ b → (b || is_in file_eq k files) ≡ true → (is_in file_eq k files ≡ true → is_in eq (make k q) (of-each files n) ≡ true)
          → (is_in eq (make k q) (of-one f n) || is_in eq (make k q) (of-each files n)) ≡ true
      by true e h later = let here = in-one f k n q e lt in grind (arith, here)
      by false e h later = let is = later h in grind (arith, is)

abbrev block_of_file : FileNo → ℕ → LockUnit
block_of_file f p = Block f (record { 0 = p })

-- ---- blocks

module _ (g : Counts) (pages : Pages) where
  stored-in : (f : FileNo) (p : BlockNo) → is_stored (files_of_pages g pages) (Block f p) ≡ true → (file_there (files_of_pages g pages) f ≡ true) × (nat_lt p.0 most_blocks ≡ true)
  stored-in f p h = by (head_of g pages f) refl h
    where
      below : (head : List ℕ) (b : Bool) → is_some (if b then block_behind g pages (address_by g pages head p.0) else None) ≡ true → b ≡ true
      below head true h = refl
      below head false h = h

      by : (o : Option (List ℕ)) → head_of g pages f ≡ o → is_some (option_and_then (block_in g pages p) o) ≡ true → (file_there (files_of_pages g pages) f ≡ true) × (nat_lt p.0 most_blocks ≡ true)
      by None e h = absurd (true≢false (sym h))
      by (Some head) e h = (ap (λ (o : Option (List ℕ)). is_some (option_map (λ (head : List ℕ). there) o)) e, below head (nat_lt p.0 most_blocks) h)

  blocks-listed : (files : List FileNo) → IsListing file_eq (file_there (files_of_pages g pages)) files → (blocks : List LockUnit) × IsListing unit_eq (is_stored (files_of_pages g pages)) blocks
  blocks-listed files l = among unit_eq unit_tells (is_stored (files_of_pages g pages)) (of-each unit_eq block_of_file (λ f k p q. refl) files most_blocks) each
    where
      each : (u : LockUnit) → is_stored (files_of_pages g pages) u ≡ true → is_in unit_eq u (of-each unit_eq block_of_file (λ f k p q. refl) files most_blocks) ≡ true
      each (File f) h = absurd (true≢false (sym h))
      each (Block f p) h = let (known, low) = stored-in f p h in
          in-each unit_eq block_of_file (λ f k p q. refl) files f most_blocks p.0 (l.all f ∙ known) (grind (arith, nat_tests, low))

-- ---- map pages

abbrev spots : List Head → List (FileNo × ℕ)
spots [] = []
spots (Free ∷ heads) = spots heads
spots (Used f addresses maps ∷ heads) = of-one map_eq map_of_file (λ f k p q. refl) f (length maps) ++ spots heads

named-within : (maps : List ℕ) (j : ℕ) → nat_lt 0 (slice_index maps j) ≡ true → j < length maps
named-within maps j h = ⊎_elim (λ lt. lt) (λ past. let e : slice_index maps j ≡ 0 = get_or_past maps j 0 past in absurd (true≢false (sym h ∙ ap (nat_lt 0) e))) (cases_lt j (length maps))

in-spots : (heads : List Head) (f : FileNo) (j : ℕ) → list_any (names_map f j) heads ≡ true → is_in map_eq (f, j) (spots heads) ≡ true
in-spots [] f j h = absurd (true≢false (sym h))
in-spots (Free ∷ heads) f j h = in-spots heads f j h
in-spots (Used k addresses maps ∷ heads) f j h = in-both map_eq map_of_file (λ f k p q. refl) (f, j) (of-one map_eq map_of_file (λ f k p q. refl) k (length maps)) (spots heads)
    ∙ by (file_eq k f) refl (nat_lt 0 (slice_index maps j)) refl h (in-spots heads f j)
  where
    by : (a : Bool) → file_eq k f ≡ a → (b : Bool) → nat_lt 0 (slice_index maps j) ≡ b → ((a && b) || list_any (names_map f j) heads) ≡ true
        → (list_any (names_map f j) heads ≡ true → is_in map_eq (f, j) (spots heads) ≡ true)
        → (is_in map_eq (f, j) (of-one map_eq map_of_file (λ f k p q. refl) k (length maps)) || is_in map_eq (f, j) (spots heads)) ≡ true
    by true e true i h later = let here = in-one map_eq map_of_file (λ f k p q. refl) k f (length maps) j e (named-within maps j i) in grind (arith, here)
    by true e false i h later = let is = later h in grind (arith, is)
    by false e b i h later = let is = later h in grind (arith, is)

maps-listed : (heads : List Head) → (maps : List (FileNo × ℕ)) × IsListing map_eq (has_map (maps_in heads)) maps
maps-listed heads = among map_eq map_tells (has_map (maps_in heads)) (spots heads) (λ m h. in-spots heads m.0 m.1 h)

-- ---- the first books

pub first-listed : (s : ServerNo) (g : Counts) (epoch : ℕ) (files : Files) (v : StoreView) → IsFresh s g epoch files v → AreListed (first_books s g v)
first-listed s g epoch files v fresh =
    let recoverable = fresh.recoverable in let found = recoverable.each (λ n. false) in let loadable = found.loadable in
    let alone = fresh.found (λ n. false) in
    let (blocks, blocks_all) = blocks-listed g (standing_pages v) loadable.files loadable.files_all in
    let (maps, maps_all) = maps-listed (heads_on g (standing_pages v)) in
    record {
      works = [];
      flags = [];
      files = loadable.files;
      blocks = blocks;
      maps = maps;
      works_all = record { different = refl; all = λ W. sym (ap (λ (z : StableState). is_some (z.works W)) alone) };
      flags_all = record { different = refl; all = λ T. sym (ap (λ (z : StableState). is_some (z.flags T)) alone) };
      files_all = loadable.files_all;
      blocks_all = blocks_all;
      maps_all = maps_all;
    }
