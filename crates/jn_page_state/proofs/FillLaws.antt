-- The state reads named data pages alone.
use Rattle.jn_page_state.proofs.Common.{◌≡◌, ◌<◌, ℕ, zero, suc, Bool, true, false, ◌&&◌, ◌||◌, if◌then◌else◌, List, ◌∷◌, map, Option, None, Some, refl, sym, ◌∙◌, ap, subst, true≢false, arith, fun_ext, nat_tests, find, list_any, nat_eq, nat_lt, option_and_then, BlockNo, FileNo, LockUnit, File, Block, WorkId, work_eq, work_tells, Head, FullIntention, StoredIntention, What, Fresh, Gone, Cut, Put, Record, Free, Intention, Ready, Going, FlagRecord, is_prepared, is_intention, Contents, bytes_by, intended, stored_in, intention_of, with_first, intentions_from, ready_work, prepared_by, works_in, entry_of, layouts_in, heads_name, holds_intention, works_have, names_for_block, state_in, with_block, is_read, most_blocks, most_cells, Layout, Unused, at_cell, layouts_by, is_layout_of, has_address, behind, block_in, files_in, entry_in, has-at}
use Rattle.jn_page_state.proofs.Found.{found_passes, found_any, found_any_by}
use Rattle.jn_page_state.proofs.Laying.{same_layouts, named_more, map_named}

abbrev with_bytes : StoredIntention → List ℕ → FullIntention
with_bytes i bytes = record { what = i.what; file = i.file; block = i.block; bytes = bytes }

none_some : {A : Type 0} → (a : A) → None ≡ Some a → ⊥
none_some a e = cc

some_is : {A : Type 0} → (a b : A) → Some a ≡ Some b → a ≡ b
some_is a b e = cc

-- ---- the files

module _ (one two : ℕ → List ℕ) where
  behind_same : (a : ℕ) → ((d : ℕ) → a ≡ suc d → two d ≡ one d) → behind two a ≡ behind one a
  behind_same zero same = refl
  behind_same (suc d) same = ap (λ (b : List ℕ). Some b) (same d refl)

  -- over the same layouts
  module _ (layouts : List Layout) (same : (d : ℕ) → heads_name most_blocks layouts (suc d) ≡ true → two d ≡ one d) where
    block_same : (f : FileNo) (p : BlockNo) (o : Option Layout) → find (is_layout_of f) layouts ≡ o → option_and_then (block_in two p) o ≡ option_and_then (block_in one p) o
    block_same f p None e = refl
    block_same f p (Some h) e = by (nat_lt p.0 most_blocks) refl
      where
        inside : nat_lt p.0 most_blocks ≡ true → p.0 < most_blocks
        inside t = grind (arith, nat_tests, t)

        by : (b : Bool) → nat_lt p.0 most_blocks ≡ b → (if b then behind two (at_cell h p.0) else None) ≡ (if b then behind one (at_cell h p.0) else None)
        by false t = refl
        by true t = behind_same (at_cell h p.0) (λ d at. same d (found_any_by (is_layout_of f) Unused (has_address most_blocks (suc d)) layouts h e (has-at h most_blocks (suc d) p.0 (inside t) at)))

    pub files_same : files_in layouts two ≡ files_in layouts one
    files_same = fun_ext (λ u. at u)
      where
        at : (u : LockUnit) → files_in layouts two u ≡ files_in layouts one u
        at (File f) = refl
        at (Block f p) = block_same f p (find (is_layout_of f) layouts) refl

  -- and the layouts, where the map pages that heads name are the same
  pub layouts_same : (heads : List Head) → ((d : ℕ) → heads_name most_cells (layouts_by (entry_of one) heads) (suc d) ≡ true → two d ≡ one d) → layouts_by (entry_of two) heads ≡ layouts_by (entry_of one) heads
  layouts_same heads same = same_layouts (entry_of one) (entry_of two) heads (λ i j d k few below e. ap (λ (b : List ℕ). entry_in b k) (same d (map_named (entry_of one) heads i j d few e)))

  -- ---- the works

  bytes_same : (what : What) (a : ℕ) → ((d : ℕ) → a ≡ suc d → two d ≡ one d) → bytes_by two what a ≡ bytes_by one what a
  bytes_same Fresh a same = refl
  bytes_same Gone a same = refl
  bytes_same Cut a same = refl
  bytes_same Put zero same = refl
  bytes_same Put (suc d) same = same d refl

  module _ (pool : List Record) (same : (d : ℕ) → works_have (names_for_block (suc d)) pool ≡ true → two d ≡ one d) where
    -- the record of an intention of a prepared work
    held : (w : WorkId) → list_any (is_prepared w) pool ≡ true → (r : Record) (k : ℕ) (s : StoredIntention) (d : ℕ) → is_intention w k r ≡ true → stored_in r ≡ Some s → s.address ≡ suc d → holds_intention (names_for_block (suc d)) pool r ≡ true
    held w prepared Free k s d t e at = absurd (none_some s e)
    held w prepared (Ready head n reads) k s d t e at = absurd (none_some s e)
    held w prepared (Going head n reads) k s d t e at = absurd (none_some s e)
    held w prepared (FlagRecord f) k s d t e at = absurd (none_some s e)
    held w prepared (Intention v u o i) k s d t e at =
        ap (λ b. b && list_any (is_prepared v) pool) (here (ap (λ z. z.address) (some_is i s e) ∙ at)) ∙ subst (λ q. list_any (is_prepared q) pool ≡ true) (sym (name t)) prepared
      where
        here : i.address ≡ suc d → nat_eq i.address (suc d) ≡ true
        here e = grind (arith, nat_tests)

        name : (work_eq v w && nat_eq o k) ≡ true → v ≡ w
        name t = grind (arith, work_tells)

    module _ (w : WorkId) (prepared : list_any (is_prepared w) pool ≡ true) where
      intention_same : (k : ℕ) (s : StoredIntention) (o : Option Record) → find (is_intention w k) pool ≡ o → option_and_then stored_in o ≡ Some s → intended two s ≡ intended one s
      intention_same k s None f e = absurd (none_some s e)
      intention_same k s (Some r) f e = ap (with_bytes s) (bytes_same s.what s.address (λ d at. same d (found_any_by (is_intention w k) Free (holds_intention (names_for_block (suc d)) pool) pool r f (held w prepared r k s d (found_passes (is_intention w k) Free pool r f) e at))))

      list_same : (order n : ℕ) → map (intended two) (intentions_from pool w order n) ≡ map (intended one) (intentions_from pool w order n)
      list_same order zero = refl
      list_same order (suc n) = by (intention_of pool w order) (λ s e. intention_same order s (find (is_intention w order) pool) refl e) (list_same (suc order) n)
        where
          by : (o : Option StoredIntention) → ((s : StoredIntention) → o ≡ Some s → intended two s ≡ intended one s)
              → map (intended two) (intentions_from pool w (suc order) n) ≡ map (intended one) (intentions_from pool w (suc order) n)
              → map (intended two) (with_first o (intentions_from pool w (suc order) n)) ≡ map (intended one) (with_first o (intentions_from pool w (suc order) n))
          by None here rest = rest
          by (Some s) here rest = ap (λ i. i ∷ map (intended two) (intentions_from pool w (suc order) n)) (here s refl) ∙ ap (λ l. intended one s ∷ l) rest

    work_by : (w : WorkId) (o : Option Record) → find (is_prepared w) pool ≡ o → prepared_by pool two w o ≡ prepared_by pool one w o
    work_by w None e = refl
    work_by w (Some Free) e = refl
    work_by w (Some (Intention v t k i)) e = refl
    work_by w (Some (FlagRecord f)) e = refl
    work_by w (Some (Ready head n reads)) e = ap (λ l. Some (ready_work head l reads)) (list_same w (found_any (is_prepared w) Free pool (Ready head n reads) e) 0 n)
    work_by w (Some (Going head n reads)) e = ap (λ l. Some (record (ready_work head l reads) { going = true })) (list_same w (found_any (is_prepared w) Free pool (Going head n reads) e) 0 n)

    pub works_same : works_in pool two ≡ works_in pool one
    works_same = fun_ext (λ w. work_by w (find (is_prepared w) pool) refl)

-- ---- the state

-- what is named for a block is read
pub read_block : (c : Contents) (d : ℕ) → heads_name most_blocks (layouts_in c) (suc d) ≡ true → heads_name most_cells (layouts_in c) (suc d) ≡ true
read_block c d named = named_more (layouts_in c) most_blocks most_cells d (omega arith) named

-- blocks that differ only where nothing reads them
module _ (c : Contents) (two : ℕ → List ℕ) (same : (d : ℕ) → is_read c d ≡ true → two d ≡ c.blocks d) where
  left : (a b : Bool) → a ≡ true → (a || b) ≡ true
  left a b t = grind (arith, t)

  right : (a b : Bool) → b ≡ true → (a || b) ≡ true
  right a b t = grind (arith, t)

  of_heads : (d : ℕ) → heads_name most_cells (layouts_in c) (suc d) ≡ true → two d ≡ c.blocks d
  of_heads d t = same d (left (heads_name most_cells (layouts_in c) (suc d)) (works_have (names_for_block (suc d)) c.pool) t)

  pub read_layouts : layouts_in (record c { blocks = two }) ≡ layouts_in c
  read_layouts = layouts_same c.blocks two c.heads of_heads

  pub named_read : state_in (record c { blocks = two }) ≡ state_in c
  named_read =
      ap (λ l. record (state_in (record c { blocks = two })) { files = files_in l two }) read_layouts
      ∙ ap (λ f. record (state_in (record c { blocks = two })) { files = f }) (files_same c.blocks two (layouts_in c) (λ d t. of_heads d (read_block c d t)))
      ∙ ap (λ w. record (state_in c) { works = w })
      (works_same c.blocks two c.pool (λ d t. same d (right (heads_name most_cells (layouts_in c) (suc d)) (works_have (names_for_block (suc d)) c.pool) t)))

-- another block at a data page that nothing reads
module _ (c : Contents) (d : ℕ) (bytes : List ℕ) (unread : is_read c d ≡ false) where
  same : (k : ℕ) → nat_eq d k ≡ true → d ≡ k
  same k e = grind (arith, nat_tests, e)

  elsewhere : (k : ℕ) → is_read c k ≡ true → (if nat_eq d k then bytes else c.blocks k) ≡ c.blocks k
  elsewhere k t = by (nat_eq d k) refl
    where
      by : (b : Bool) → nat_eq d k ≡ b → (if b then bytes else c.blocks k) ≡ c.blocks k
      by false e = refl
      by true e = absurd (true≢false (sym t ∙ subst (λ j. is_read c j ≡ false) (same k e) unread))

  pub fill_layouts : layouts_in (with_block c d bytes) ≡ layouts_in c
  fill_layouts = read_layouts c (with_block c d bytes).blocks elsewhere

  pub fill_law : state_in (with_block c d bytes) ≡ state_in c
  fill_law = named_read c (with_block c d bytes).blocks elsewhere
