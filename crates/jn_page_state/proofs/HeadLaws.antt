-- One layout's change as an intention that is carried out.
use Rattle.jn_page_state.proofs.Common.{◌≡◌, ◌≢◌, ◌⊎◌, inl, inr, ◌<◌, ◌||◌, ℕ, suc, Bool, true, false, if◌then◌else◌, List, [], ◌∷◌, Option, None, Some, refl, sym, ◌∙◌, ap, subst, true≢false, arith, nat_tests, nat_lt, fun_ext, find_past, find, list_any, slice_set, option_map, option_and_then, BlockNo, FileNo, LockUnit, File, Block, WorkId, file_eq, file_tells, Files, change, or_else, there, removed, StoredIntention, What, Fresh, Gone, Cut, Put, change_by, intention_change, most_blocks, is_in_range, Layout, Unused, Of, at_cell, layout_at, is_layout_of, behind, block_in, files_in, Contents, layouts_in, bytes_by, intended, heads_name, works_have, works_in, flags_in, names_for_block, state_in, address_after, serves_for, is_head_after, IsHeadPut, IsPartPut, LaysOut, made_by, CarryOut, cut_from, names_what_it_needs, among, left_of, part_by}
use Rattle.jn_order.specs.Files.{Change}
use Rattle.jn_records.proofs.PartCuts.{part-files}
use Rattle.jn_page_state.proofs.FillLaws.{files_same, works_same}
use Rattle.jn_page_state.proofs.Found.{none_passes, found_once, found_written}

-- a change of one file, register by register
by_file : (c : Change) (old new : Files) (f : FileNo) → ((g : FileNo) → file_eq f g ≡ false → (c (File g) ≡ None) × (new (File g) ≡ old (File g)))
    → ((g : FileNo) (p : BlockNo) → file_eq f g ≡ false → (c (Block g p) ≡ None) × (new (Block g p) ≡ old (Block g p)))
    → new (File f) ≡ change c old (File f) → ((p : BlockNo) → new (Block f p) ≡ change c old (Block f p)) → new ≡ change c old
by_file c old new f files blocks file block = fun_ext (λ u. at u)
  where
    file_at : (g : FileNo) → ((file_eq f g ≡ true) × (f ≡ g)) ⊎ ((file_eq f g ≡ false) × (f ≢ g)) → new (File g) ≡ change c old (File g)
    file_at g (inl same) = subst (λ h. new (File h) ≡ change c old (File h)) same.1 file
    file_at g (inr other) = let e = files g other.0 in grind (arith, e.0, e.1)

    block_at : (g : FileNo) (p : BlockNo) → ((file_eq f g ≡ true) × (f ≡ g)) ⊎ ((file_eq f g ≡ false) × (f ≢ g)) → new (Block g p) ≡ change c old (Block g p)
    block_at g p (inl same) = subst (λ h. new (Block h p) ≡ change c old (Block h p)) same.1 (block p)
    block_at g p (inr other) = let e = blocks g p other.0 in grind (arith, e.0, e.1)

    at : (u : LockUnit) → new u ≡ change c old u
    at (File g) = file_at g (file_tells f g)
    at (Block g p) = block_at g p (file_tells f g)

-- an intention says nothing of other files
other_file : (what : What) (f g : FileNo) (p : BlockNo) (bytes : List ℕ) → file_eq f g ≡ false → change_by what f p bytes (File g) ≡ None
other_file Fresh f g p bytes e = grind arith
other_file Gone f g p bytes e = grind arith
other_file Cut f g p bytes e = refl
other_file Put f g p bytes e = refl

other_block : (what : What) (f g : FileNo) (n p : BlockNo) (bytes : List ℕ) → file_eq f g ≡ false → change_by what f n bytes (Block g p) ≡ None
other_block Fresh f g n p bytes e = grind arith
other_block Gone f g n p bytes e = grind arith
other_block Cut f g n p bytes e = grind arith
other_block Put f g n p bytes e = grind arith

-- the layouts of other files
serves_other : (what : What) (f g : FileNo) (h : Layout) → serves_for what f h ≡ true → file_eq f g ≡ false → is_layout_of g h ≡ false
serves_other Fresh f g Unused s e = refl
serves_other Gone f g Unused s e = refl
serves_other Cut f g Unused s e = refl
serves_other Put f g Unused s e = refl
serves_other Fresh f g (Of k cells) s e = grind (arith, file_tells)
serves_other Gone f g (Of k cells) s e = grind (arith, file_tells)
serves_other Cut f g (Of k cells) s e = grind (arith, file_tells)
serves_other Put f g (Of k cells) s e = grind (arith, file_tells)

after_other : (what : What) (f g : FileNo) (h : Layout) → is_head_after what f h ≡ true → file_eq f g ≡ false → is_layout_of g h ≡ false
after_other Gone f g Unused s e = refl
after_other Fresh f g Unused s e = refl
after_other Cut f g Unused s e = refl
after_other Put f g Unused s e = refl
after_other Gone f g (Of k cells) s e = absurd (true≢false (sym s))
after_other Fresh f g (Of k cells) s e = grind (arith, file_tells)
after_other Cut f g (Of k cells) s e = grind (arith, file_tells)
after_other Put f g (Of k cells) s e = grind (arith, file_tells)

-- what is found at the file, before and after
abbrev found_if : FileNo → Layout → Option Layout
found_if f h = if is_layout_of f h then Some h else None

module _ (blocks : ℕ → List ℕ) (f : FileNo) (n : BlockNo) (a : ℕ) (old new : Layout) where
  file_by : (what : What) → serves_for what f old ≡ true → is_head_after what f new ≡ true
      → option_map (λ h. there) (found_if f new) ≡ change (change_by what f n (bytes_by blocks what a)) (λ u. option_map (λ h. there) (found_if f old)) (File f)
  file_by Fresh s t = grind (arith, file_tells)
  file_by Gone s t = grind (arith, file_tells)
  file_by Cut s t = grind (arith, file_tells)
  file_by Put s t = grind (arith, file_tells)

  -- a block within the range of a file, by its cell before and after
  below_by : (what : What) (p : BlockNo) (m : ℕ) → names_what_it_needs what n.0 a m ≡ true → serves_for what f old ≡ true → is_head_after what f new ≡ true
      → at_cell new p.0 ≡ address_after what n.0 a p.0 (at_cell old p.0)
      → option_and_then (λ h. behind blocks (at_cell h p.0)) (found_if f new) ≡ change (change_by what f n (bytes_by blocks what a)) (λ u. option_and_then (λ h. behind blocks (at_cell h p.0)) (found_if f old)) (Block f p)
  below_by Fresh p m needs s t e = grind (arith, file_tells, e)
  below_by Gone p m needs s t e = grind (arith, file_tells, e)
  below_by Cut p m needs s t e = grind (arith, file_tells, e)
  below_by Put p m needs s t e = grind (arith, file_tells, nat_tests, e)

  -- and none past it
  past_by : (what : What) (p : BlockNo) (x : Option (List ℕ)) → x ≡ None → n.0 < most_blocks → nat_lt p.0 most_blocks ≡ false → None ≡ change (change_by what f n (bytes_by blocks what a)) (λ u. x) (Block f p)
  past_by Fresh p x e range past = grind (arith, e)
  past_by Gone p x e range past = grind (arith, e)
  past_by Cut p x e range past = grind (arith, e)
  past_by Put p x e range past = grind (arith, nat_tests, range, past, e)

abbrev none_of : Layout → Option (List ℕ)
none_of h = None

no_block : (o : Option Layout) → option_and_then none_of o ≡ None
no_block None = refl
no_block (Some h) = refl

-- ---- the files with one layout changed

module _ (c : Contents) (i : StoredIntention) (place : ℕ) (new : Layout) (put : IsHeadPut (layouts_in c) i place new) where
  abbrev old : Layout
  old = layout_at (layouts_in c) place

  other_found : (g : FileNo) → file_eq i.file g ≡ false → find (is_layout_of g) (slice_set (layouts_in c) place new) ≡ find (is_layout_of g) (layouts_in c)
  other_found g e = find_past (is_layout_of g) (layouts_in c) place new Unused (serves_other i.what i.file g old put.serves e) (after_other i.what i.file g new put.file_after e)

  before : find (is_layout_of i.file) (layouts_in c) ≡ found_if i.file old
  before = found_once (is_layout_of i.file) Unused (layouts_in c) place refl put.only

  after : find (is_layout_of i.file) (slice_set (layouts_in c) place new) ≡ found_if i.file new
  after = found_written (is_layout_of i.file) Unused (layouts_in c) place new put.there refl put.only

  block_here : (p : BlockNo) → option_and_then (block_in c.blocks p) (found_if i.file new) ≡ change (intention_change (intended c.blocks i)) (λ u. option_and_then (block_in c.blocks p) (found_if i.file old)) (Block i.file p)
  block_here p = by (nat_lt p.0 most_blocks) refl
    where
      inside : nat_lt p.0 most_blocks ≡ true → p.0 < most_blocks
      inside t = grind (arith, nat_tests, t)

      by : (b : Bool) → nat_lt p.0 most_blocks ≡ b → option_and_then (λ h. if b then behind c.blocks (at_cell h p.0) else None) (found_if i.file new)
          ≡ change (intention_change (intended c.blocks i)) (λ u. option_and_then (λ h. if b then behind c.blocks (at_cell h p.0) else None) (found_if i.file old)) (Block i.file p)
      by true t = below_by c.blocks i.file i.block i.address old new i.what p i.map put.names put.serves put.file_after (put.addresses p.0 (inside t))
      by false t = no_block (found_if i.file new)
          ∙ past_by c.blocks i.file i.block i.address old new i.what p (option_and_then none_of (found_if i.file old)) (no_block (found_if i.file old)) put.range t

  pub files_written : files_in (slice_set (layouts_in c) place new) c.blocks ≡ change (intention_change (intended c.blocks i)) (files_in (layouts_in c) c.blocks)
  files_written = by_file (intention_change (intended c.blocks i)) (files_in (layouts_in c) c.blocks) (files_in (slice_set (layouts_in c) place new) c.blocks) i.file
      (λ g e. (other_file i.what i.file g i.block (bytes_by c.blocks i.what i.address) e, ap (option_map (λ h. there)) (other_found g e)))
      (λ g p e. (other_block i.what i.file g i.block p (bytes_by c.blocks i.what i.address) e, ap (option_and_then (block_in c.blocks p)) (other_found g e)))
      (ap (option_map (λ h. there)) after ∙ file_by c.blocks i.file i.block i.address old new i.what put.serves put.file_after
      ∙ ap (λ o. change (intention_change (intended c.blocks i)) (λ u. option_map (λ h. there) o) (File i.file)) (sym before))
      (λ p. ap (option_and_then (block_in c.blocks p)) after ∙ block_here p
      ∙ ap (λ o. change (intention_change (intended c.blocks i)) (λ u. option_and_then (block_in c.blocks p) o) (Block i.file p)) (sym before))

-- ---- the state after a put that lays one layout out anew

module _ (c later : Contents) (place : ℕ) (new : Layout) (lays : LaysOut c place new later) where
  left : (a b : Bool) → a ≡ true → (a || b) ≡ true
  left a b t = grind (arith, t)

  right : (a b : Bool) → b ≡ true → (a || b) ≡ true
  right a b t = grind (arith, t)

  of_heads : (d : ℕ) → heads_name most_blocks (slice_set (layouts_in c) place new) (suc d) ≡ true → later.blocks d ≡ c.blocks d
  of_heads d t = lays.blocks d (left (heads_name most_blocks (layouts_in later) (suc d)) (works_have (names_for_block (suc d)) later.pool) (ap (λ l. heads_name most_blocks l (suc d)) lays.layouts ∙ t))

  of_works : (d : ℕ) → works_have (names_for_block (suc d)) c.pool ≡ true → later.blocks d ≡ c.blocks d
  of_works d t = lays.blocks d (right (heads_name most_blocks (layouts_in later) (suc d)) (works_have (names_for_block (suc d)) later.pool) (ap (works_have (names_for_block (suc d))) lays.pool ∙ t))

  pub laid_files : files_in (layouts_in later) later.blocks ≡ files_in (slice_set (layouts_in c) place new) c.blocks
  laid_files = ap (λ l. files_in l later.blocks) lays.layouts ∙ files_same c.blocks later.blocks (slice_set (layouts_in c) place new) of_heads

  pub laid_works : works_in later.pool later.blocks ≡ works_in c.pool c.blocks
  laid_works = ap (λ p. works_in p later.blocks) lays.pool ∙ works_same c.blocks later.blocks c.pool of_works

  -- the files alone may be others
  pub laid_state : (files : Files) → files_in (slice_set (layouts_in c) place new) c.blocks ≡ files → state_in later ≡ record (state_in c) { files = files }
  laid_state files is = ap (λ n. record (state_in later) { epoch = n }) lays.epoch ∙ ap (λ f. record (state_in later) { epoch = c.epoch; files = f }) (laid_files ∙ is)
      ∙ ap (λ w. record (state_in later) { epoch = c.epoch; files = files; works = w }) laid_works
      ∙ ap (λ p. record (state_in c) { files = files; flags = flags_in p }) lays.pool

pub carried_law : (c later : Contents) (work : WorkId) (i : StoredIntention) (place : ℕ) (new : Layout) → IsHeadPut (layouts_in c) i place new → LaysOut c place new later
    → state_in later ≡ made_by (CarryOut work (intended c.blocks i)) (state_in c)
carried_law c later work i place new put lays = laid_state c later place new lays (change (intention_change (intended c.blocks i)) (files_in (layouts_in c) c.blocks)) (files_written c i place new put)

pub part_law : (c later : Contents) (work : WorkId) (i : StoredIntention) (j place : ℕ) (new : Layout) → IsPartPut (layouts_in c) i j place new → LaysOut c place new later
    → state_in later ≡ left_of (record { whole = 0; gone = Some (λ (p : BlockNo). is_in_range j p.0) }) (CarryOut work (intended c.blocks i) ∷ []) (state_in c)
part_law c later work i j place new put lays =
    laid_state c later place new lays (change (among (λ (p : BlockNo). is_in_range j p.0) (cut_from i.file i.block)) (files_in (layouts_in c) c.blocks)) (part-files (layouts_in c) c.blocks i.file i.block j place new put.part)
    ∙ ap (λ f. record (state_in c) { files = f }) (by i.what put.cuts)
  where
    by : (what : What) → what ≡ Cut → change (among (λ (p : BlockNo). is_in_range j p.0) (cut_from i.file i.block)) (files_in (layouts_in c) c.blocks)
        ≡ change (part_by (λ (p : BlockNo). is_in_range j p.0) what (change_by what i.file i.block (bytes_by c.blocks what i.address))) (files_in (layouts_in c) c.blocks)
    by what e = rw e refl

-- a file that isn't there is removed
pub gone_law : (c : Contents) (i : StoredIntention) → i.what ≡ Gone → list_any (is_layout_of i.file) (layouts_in c) ≡ false
    → state_in c ≡ record (state_in c) { files = change (intention_change (intended c.blocks i)) (files_in (layouts_in c) c.blocks) }
gone_law c i gone absent = ap (λ f. record (state_in c) { files = f })
    (subst (λ w. files_in (layouts_in c) c.blocks ≡ change (change_by w i.file i.block (bytes_by c.blocks w i.address)) (files_in (layouts_in c) c.blocks)) (sym gone)
    (removed_already i.file (none_passes (is_layout_of i.file) Unused (layouts_in c) absent)))
  where
    none_there : (f : FileNo) → find (is_layout_of f) (layouts_in c) ≡ None → (u : LockUnit) → files_in (layouts_in c) c.blocks u ≡ change (removed f) (files_in (layouts_in c) c.blocks) u
    none_there f e (File g) = file_at g (file_tells f g)
      where
        file_at : (g : FileNo) → ((file_eq f g ≡ true) × (f ≡ g)) ⊎ ((file_eq f g ≡ false) × (f ≢ g)) → files_in (layouts_in c) c.blocks (File g) ≡ change (removed f) (files_in (layouts_in c) c.blocks) (File g)
        file_at g (inl same) = ap (option_map (λ h. there)) (subst (λ k. find (is_layout_of k) (layouts_in c) ≡ None) same.1 e) ∙ sym (ap (λ b. or_else (if b then Some None else None) (files_in (layouts_in c) c.blocks (File g))) same.0)
        file_at g (inr other) = sym (ap (λ b. or_else (if b then Some None else None) (files_in (layouts_in c) c.blocks (File g))) other.0)
    none_there f e (Block g p) = block_at g (file_tells f g)
      where
        block_at : (g : FileNo) → ((file_eq f g ≡ true) × (f ≡ g)) ⊎ ((file_eq f g ≡ false) × (f ≢ g)) → files_in (layouts_in c) c.blocks (Block g p) ≡ change (removed f) (files_in (layouts_in c) c.blocks) (Block g p)
        block_at g (inl same) = ap (option_and_then (block_in c.blocks p)) (subst (λ k. find (is_layout_of k) (layouts_in c) ≡ None) same.1 e) ∙ sym (ap (λ b. or_else (if b then Some None else None) (files_in (layouts_in c) c.blocks (Block g p))) same.0)
        block_at g (inr other) = sym (ap (λ b. or_else (if b then Some None else None) (files_in (layouts_in c) c.blocks (Block g p))) other.0)

    removed_already : (f : FileNo) → find (is_layout_of f) (layouts_in c) ≡ None → files_in (layouts_in c) c.blocks ≡ change (removed f) (files_in (layouts_in c) c.blocks)
    removed_already f e = fun_ext (λ u. none_there f e u)
