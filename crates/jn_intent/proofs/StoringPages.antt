-- The data pages of a work that is being prepared: each is taken free, and a put's is filled with its block.
use Rattle.jn_intent.proofs.Common.{◌≡◌, ⊎_elim, ◌<◌, ◌+◌, ℕ, zero, suc, Bool, true, false, ◌||◌, if◌then◌else◌, List, [], ◌∷◌, ◌++◌, length, map, take, Some, refl, sym, ◌∙◌, ap, subst, true≢false, arith, length-append, take-suc, cases_eq, nat_tests, get_or-set_same, get_or-set_other, map-append, sum_by-append, sum_by-cons, sum_by-set, slice_get_within, get_or_from_slice_get, nat_eq, nat_lt, slice_get, slice_set, slice_index_or, count_by, list_any, free_numbers, TableView, IsTable, IsFreeLeaf, is_held, layouts_in, layouts_of, at_cell, layout_at, with_held, with_touched, bytes_by, intended, heads_name, names_for_block, block_on, pages_by, StoredIntention, FullIntention, What, Fresh, Gone, Cut, Put, is_put, is_put_intention, Counts, data_place, Pick, StoreView, IsSamePage, IsClean, Memory, is_at, ArePagesApart, stored_as, IsOwnPage, PagesPreparing, pages_taken, one, most_cells, false_from_ne_true, names_a_map}
use Rattle.std.proofs.lemmas.List.Folds.{list_any-append}
use Rattle.jn_alloc.specs.Free.{is_free}
use Rattle.jn_intent.proofs.CarriedPuts.{block_same}
use Rattle.jn_intent.proofs.Naming.{found_cell, or_first, or_rest}

-- ---- blocks

-- an intention's block has the page
at_block : (a : ℕ) (s : StoredIntention) → names_for_block (suc a) s ≡ true → is_at a s ≡ true
at_block a s h = or_first (nat_eq s.address (suc a)) (nat_eq s.map (suc a)) h

any_at_block : (a : ℕ) (stored : List StoredIntention) → list_any (names_for_block (suc a)) stored ≡ true → list_any (is_at a) stored ≡ true
any_at_block a [] h = absurd (true≢false (sym h))
any_at_block a (s ∷ stored) h = by (names_for_block (suc a) s) refl h (any_at_block a stored)
  where
    by : (b : Bool) → names_for_block (suc a) s ≡ b → (b || list_any (names_for_block (suc a)) stored) ≡ true → (list_any (names_for_block (suc a)) stored ≡ true → list_any (is_at a) stored ≡ true) → (is_at a s || list_any (is_at a) stored) ≡ true
    by true e h again = or_first (is_at a s) (list_any (is_at a) stored) (at_block a s e)
    by false e h again = or_rest (is_at a s) (list_any (is_at a) stored) (again h)

-- intentions are the same where the pages of their blocks are
intended_same : (one two : ℕ → List ℕ) (stored : List StoredIntention) → ((a : ℕ) → list_any (is_at a) stored ≡ true → one a ≡ two a) → map (intended one) stored ≡ map (intended two) stored
intended_same one two [] same = refl
intended_same one two (s ∷ stored) same =
    ap (λ (bytes : List ℕ). record { what = s.what; file = s.file; block = s.block; bytes = bytes } ∷ map (intended one) stored) (by s.what s.address refl)
    ∙ ap (λ (l : List FullIntention). intended two s ∷ l) (intended_same one two stored (λ a t. same a (or_rest (is_at a s) (list_any (is_at a) stored) t)))
  where
    by : (what : What) (a : ℕ) → s.address ≡ a → bytes_by one what a ≡ bytes_by two what a
    by Fresh a e = refl
    by Gone a e = refl
    by Cut a e = refl
    by Put zero e = refl
    by Put (suc a) e = same a (or_first (is_at a s) (list_any (is_at a) stored) (at_block a s (grind (arith, nat_tests, e))))

-- no page of the intentions changes
pub pages_moved : (m : Memory) (list : List FullIntention) (lacks : List Bool) (stored : List StoredIntention) (t : TableView) (w x : StoreView) → PagesPreparing m list lacks stored t w → x.count ≡ w.count
    → ((a : ℕ) → list_any (is_at a) stored ≡ true → IsSamePage w x (data_place m.table.counts a)) → PagesPreparing m list lacks stored t x
pages_moved m list lacks stored t w x p count same = record {
  table = p.table;
  counts = p.counts;
  heads = p.heads;
  maps = p.maps;
  free_heads = p.free_heads;
  unpromised = p.unpromised;
  held = p.held;
  free = p.free;
  apart = p.apart;
  own = p.own;
  clean = λ a h. let page = same a (any_at_block a stored h) in page.first ∙ p.clean a h ∙ sym page.second;
  named = p.named;
  blocks = λ c. intended_same (block_on m.table.counts (pages_by x c)) (block_on m.table.counts (pages_by w c)) stored (λ a h. block_same m.table.counts w x c a count (same a h)) ∙ p.blocks c;
}

-- ---- a page is taken

-- where an address is that of a page, this was free, and is held from then on
pub record Takes (t : TableView) (address : ℕ) (u : TableView) : Type 0 where
  pub counts : u.counts ≡ t.counts
  pub heads : u.heads ≡ t.heads
  pub maps : u.maps ≡ t.maps
  pub free_heads : u.free_heads ≡ t.free_heads
  pub promised : u.free_leaves.promised ≡ t.free_leaves.promised
  pub held : (a : ℕ) → is_held u a ≡ (is_held t a || nat_eq address (suc a))
  pub free : free_numbers u.free_leaves + one (nat_lt 0 address) ≡ free_numbers t.free_leaves
  pub was : (d : ℕ) → address ≡ suc d → IsFreeLeaf t d

pub takes_none : (t : TableView) → Takes t 0 t
takes_none t = record {
  counts = refl;
  heads = refl;
  maps = refl;
  free_heads = refl;
  promised = refl;
  held = λ a. none (is_held t a) (nat_eq 0 (suc a)) (grind (arith, nat_tests));
  free = let e : one (nat_lt 0 0) ≡ 0 = ap one (let h : nat_lt 0 0 ≡ false = grind (arith, nat_tests) in h) in omega (arith, e);
  was = λ d e. absurd (omega (arith, e));
}
  where
    none : (b c : Bool) → c ≡ false → b ≡ (b || c)
    none true c h = refl
    none false c h = sym h

pub takes_page : (t : TableView) → IsTable t → (d : ℕ) → is_free t.free_leaves d ≡ true → Takes t (suc d) (with_held t d)
takes_page t is d least = record {
  counts = refl;
  heads = refl;
  maps = refl;
  free_heads = refl;
  promised = refl;
  held = λ a. ⊎_elim
      (λ e. subst (λ k. slice_index_or (slice_set t.held d true) k false ≡ true) (sym e) (get_or-set_same t.held d true false (let n = is.leaves in let lt = leaf.below in omega (arith, n, lt)))
      ∙ sym (or_rest (is_held t a) (nat_eq (suc d) (suc a)) (grind (arith, nat_tests, e))))
      (λ ne. get_or-set_other t.held d a true false ne ∙ stays (is_held t a) (nat_eq (suc d) (suc a)) (grind (arith, nat_tests, ne)))
      (cases_eq a d);
  free =
      let e = sum_by-set (λ (free : Bool). if free then 1 else 0) t.free_leaves.flags d false false (let n = is.leaf_count in let lt = leaf.below in omega (arith, n, lt)) in
      let some : one (nat_lt 0 (suc d)) ≡ 1 = ap one (let h : nat_lt 0 (suc d) ≡ true = grind (arith, nat_tests) in h) in grind (arith, e, least, some);
  was = λ k e. subst (IsFreeLeaf t) (let s : d ≡ k = omega (arith, e) in s) leaf;
}
  where
    leaf : IsFreeLeaf t d
    leaf = (is.free_leaves d).0 least

    stays : (b c : Bool) → c ≡ false → b ≡ (b || c)
    stays true c h = refl
    stays false c h = sym h

-- a touch takes nothing
pub takes_touched : (t : TableView) (address d : ℕ) (u : TableView) → Takes t address u → Takes t address (with_touched u d)
takes_touched t address d u is = record { counts = is.counts; heads = is.heads; maps = is.maps; free_heads = is.free_heads; promised = is.promised; held = is.held; free = is.free; was = is.was }

-- ---- one more

apart_more : (stored : List StoredIntention) (s : StoredIntention) → ArePagesApart stored → ((a : ℕ) → s.address ≡ suc a → s.map ≡ suc a → ⊥) → ((a : ℕ) → is_at a s ≡ true → list_any (is_at a) stored ≡ false) → ArePagesApart (stored ++ s ∷ [])
apart_more [] s apart own new = (own, λ a h. refl, tt)
apart_more (i ∷ stored) s apart own new = (
  apart.0,
  λ a h. list_any-append (is_at a) stored (s ∷ []) ∙ neither (list_any (is_at a) stored) (is_at a s) (apart.1 a h) (differs a h (is_at a s) refl),
  apart_more stored s apart.2 own (λ a h. second (is_at a i) (list_any (is_at a) stored) (new a h)),
)
  where
    neither : (b c : Bool) → b ≡ false → c ≡ false → (b || (c || false)) ≡ false
    neither b c x y = grind (arith, x, y)

    second : (b c : Bool) → (b || c) ≡ false → c ≡ false
    second b c h = grind (arith, h)

    first : (b c : Bool) → (b || c) ≡ false → b ≡ false
    first b c h = grind (arith, h)

    differs : (a : ℕ) → is_at a i ≡ true → (b : Bool) → is_at a s ≡ b → b ≡ false
    differs a h false e = refl
    differs a h true e = absurd (true≢false (sym h ∙ first (is_at a i) (list_any (is_at a) stored) (new a e)))

any_more : (p : StoredIntention → Bool) (stored : List StoredIntention) (s : StoredIntention) → list_any p (stored ++ s ∷ []) ≡ (list_any p stored || p s)
any_more p stored s = list_any-append p stored (s ∷ []) ∙ by (list_any p stored) (p s)
  where
    by : (b c : Bool) → (b || (c || false)) ≡ (b || c)
    by true c = refl
    by false true = refl
    by false false = refl

pub take_more : {A : Type 0} (xs : List A) (n : ℕ) (x : A) → slice_get xs n ≡ Some x → take (suc n) xs ≡ take n xs ++ x ∷ []
take_more xs n x at = take-suc xs n x (slice_get_within xs n x at) ∙ ap (λ y. take n xs ++ y ∷ []) (get_or_from_slice_get xs n x x at)

module _ (m : Memory) (list : List FullIntention) (lacks : List Bool) (stored : List StoredIntention) (t filled u : TableView) (x : StoreView) (p : PagesPreparing m list lacks stored t x) (i : FullIntention) (at : slice_get list (length stored) ≡ Some i)
    (lack : Bool) (lacks_at : slice_get lacks (length stored) ≡ Some lack) (a map_address : ℕ) (block : Takes t a filled) (brings : Takes filled map_address u) (table : IsTable u)
    (put_is : nat_lt 0 a ≡ is_put i.what) (map_is : nat_lt 0 map_address ≡ lack)
    (same : (c : Pick) → intended (block_on m.table.counts (pages_by x c)) (stored_as i a map_address) ≡ i) (clean : (d : ℕ) → a ≡ suc d → IsClean x (data_place m.table.counts d)) where
  abbrev s : StoredIntention
  s = stored_as i a map_address

  longer : length (stored ++ s ∷ []) ≡ suc (length stored)
  longer = let l = length-append stored (s ∷ []) in omega (arith, l)

  taken : take (length (stored ++ s ∷ [])) list ≡ take (length stored) list ++ i ∷ []
  taken = ap (λ n. take n list) longer ∙ take_more list (length stored) i at

  lacks_taken : take (length (stored ++ s ∷ [])) lacks ≡ take (length stored) lacks ++ lack ∷ []
  lacks_taken = ap (λ n. take n lacks) longer ∙ take_more lacks (length stored) lack lacks_at

  more : pages_taken list lacks (length (stored ++ s ∷ [])) ≡ pages_taken list lacks (length stored) + one (is_put i.what) + one lack
  more =
      let all = ap (count_by is_put_intention) taken in let split = sum_by-append (λ (x : FullIntention). if is_put_intention x then 1 else 0) (take (length stored) list) (i ∷ []) in
      let last = sum_by-cons (λ (x : FullIntention). if is_put_intention x then 1 else 0) i [] in
      let maps = ap (count_by (λ (b : Bool). b)) lacks_taken in let maps_split = sum_by-append (λ (b : Bool). if b then 1 else 0) (take (length stored) lacks) (lack ∷ []) in
      let maps_last = sum_by-cons (λ (b : Bool). if b then 1 else 0) lack [] in omega (arith, all, split, last, maps, maps_split, maps_last)

  held_after : (d : ℕ) → is_held u d ≡ (is_held m.table d || list_any (is_at d) (stored ++ s ∷ []))
  held_after d = brings.held d ∙ ap (λ b. b || nat_eq map_address (suc d)) (block.held d ∙ ap (λ b. b || nat_eq a (suc d)) (p.held d)) ∙ joined (is_held m.table d) (list_any (is_at d) stored) (nat_eq a (suc d)) (nat_eq map_address (suc d))
      ∙ ap (λ b. is_held m.table d || b) (sym (any_more (is_at d) stored s))
    where
      joined : (b c e f : Bool) → (((b || c) || e) || f) ≡ (b || (c || (e || f)))
      joined true c e f = refl
      joined false true e f = refl
      joined false false e f = refl

  neither : (b c : Bool) → (b || c) ≡ false → (b ≡ false) × (c ≡ false)
  neither b c h = (grind (arith, h), grind (arith, h))

  -- a free data page of the table is one of memory's, and of no stored intention
  fresh_page : (d : ℕ) → IsFreeLeaf t d → IsOwnPage m d × (list_any (is_at d) stored ≡ false)
  fresh_page d free = (
    record {
      below = subst (λ (g : Counts). d < g.leaves) p.counts free.below;
      loose = (neither (is_held m.table d) (list_any (is_at d) stored) (sym (p.held d) ∙ free.loose)).0;
      unnamed = ap (λ ls. heads_name most_cells ls (suc d)) (λ k. layouts_of (sym p.maps k) (sym p.heads k)) ∙ false_from_ne_true (heads_name most_cells (layouts_in t) (suc d)) (λ named.
          let it = found_cell most_cells (layouts_in t) (suc d) named in free.unnamed it.0 it.1 it.3);
    },
    (neither (is_held m.table d) (list_any (is_at d) stored) (sym (p.held d) ∙ free.loose)).1,
  )

  -- its map page is another than its block's
  map_fresh : (d : ℕ) → map_address ≡ suc d → IsFreeLeaf t d × (nat_eq a (suc d) ≡ false)
  map_fresh d e = let free = brings.was d e in let loose = neither (is_held t d) (nat_eq a (suc d)) (sym (block.held d) ∙ free.loose) in (
    record {
      below = subst (λ (g : Counts). d < g.leaves) block.counts free.below;
      loose = loose.0;
      unnamed = λ slot q h. free.unnamed slot q ((λ k. at_cell (layout_at (layouts_of (block.maps k) (block.heads k)) slot) q) ∙ h);
    },
    loose.1,
  )

  equal : (b c : ℕ) → nat_eq b c ≡ true → b ≡ c
  equal b c h = grind (arith, nat_tests, h)

  -- a page of the new intention is fresh
  its_page : (d : ℕ) → is_at d s ≡ true → IsOwnPage m d × (list_any (is_at d) stored ≡ false)
  its_page d h = by (nat_eq a (suc d)) refl h
    where
      by : (b : Bool) → nat_eq a (suc d) ≡ b → (b || nat_eq map_address (suc d)) ≡ true → IsOwnPage m d × (list_any (is_at d) stored ≡ false)
      by true e h = fresh_page d (block.was d (equal a (suc d) e))
      by false e h = fresh_page d (map_fresh d (equal map_address (suc d) h)).0

  pub pages_more : PagesPreparing m list lacks (stored ++ stored_as i a map_address ∷ []) u x
  pages_more = record {
    table = table;
    counts = brings.counts ∙ block.counts ∙ p.counts;
    heads = brings.heads ∙ block.heads ∙ p.heads;
    maps = brings.maps ∙ block.maps ∙ p.maps;
    free_heads = brings.free_heads ∙ block.free_heads ∙ p.free_heads;
    unpromised = brings.promised ∙ block.promised ∙ p.unpromised;
    held = held_after;
    free = let before = p.free in let a_free = block.free in let m_free = brings.free in let puts = ap one put_is in let maps = ap one map_is in let all = more in omega (arith, before, a_free, m_free, puts, maps, all);
    apart = apart_more stored s p.apart (λ d x y. true≢false (sym (same_so a d x) ∙ (map_fresh d y).1)) (λ d h. (its_page d h).1);
    own = λ d h. either_own d (list_any (is_at d) stored) refl (sym (any_more (is_at d) stored s) ∙ h);
    clean = λ d h. either_clean d (list_any (names_for_block (suc d)) stored) refl (sym (any_more (names_for_block (suc d)) stored s) ∙ h);
    named = map-append names_a_map stored (s ∷ []) ∙ ap (λ l. l ++ nat_lt 0 map_address ∷ []) p.named ∙ ap (λ b. take (length stored) lacks ++ b ∷ []) map_is ∙ sym lacks_taken;
    blocks = λ c. map-append (intended (block_on m.table.counts (pages_by x c))) stored (s ∷ []) ∙ ap (λ l. l ++ intended (block_on m.table.counts (pages_by x c)) s ∷ []) (p.blocks c)
        ∙ ap (λ y. take (length stored) list ++ y ∷ []) (same c) ∙ sym taken;
  }
    where
      same_so : (b d : ℕ) → b ≡ suc d → nat_eq b (suc d) ≡ true
      same_so b d e = grind (arith, nat_tests, e)

      either_own : (d : ℕ) (b : Bool) → list_any (is_at d) stored ≡ b → (list_any (is_at d) stored || is_at d s) ≡ true → IsOwnPage m d
      either_own d true e h = p.own d e
      either_own d false e h = (its_page d (ap (λ b. b || is_at d s) (sym e) ∙ h)).0

      either_clean : (d : ℕ) (b : Bool) → list_any (names_for_block (suc d)) stored ≡ b → (list_any (names_for_block (suc d)) stored || names_for_block (suc d) s) ≡ true → IsClean x (data_place m.table.counts d)
      either_clean d true e h = p.clean d e
      either_clean d false e h = clean d (equal a (suc d) (ap (λ b. b || names_for_block (suc d) s) (sym e) ∙ h))
