-- A step of a prepared work leaves each prepared work the map pages that it needs.
use Rattle.jn_page_state.proofs.Common.{◌≡◌, ◌≢◌, inl, inr, ℕ, zero, suc, ◌<◌, ◌≤◌, ◌+◌, Bool, true, false, ◌&&◌, ◌||◌, if◌then◌else◌, List, [], ◌∷◌, map, Option, Some, None, option_map, option_and_then, is_some, refl, sym, ◌∙◌, ap, subst, true≢false, and_parts, arith, nat_tests, nat_eq, list_all, find, FileNo, LockUnit, File, Block, WorkId, file_eq, work_eq, work_tells, FullIntention, StoredIntention, What, Fresh, Gone, Cut, Put, Record, Free, Intention, Ready, Going, FlagRecord, record_in, is_prepared, is_intention, Prepared, ready_work, is_in_range, IsSuppliedBy, Contents, state_in, stored_in, intention_of, with_first, intentions_from, stored_list, full_list, intended, prepared_by, works_in, HasIntentions, IsCompleteBy, IsDistinct, Intends, IsSuppliedIn, maps_in, Head, WorkHead, ServerNo, slice_get, in_order, stands_before, names_file, is_put, MapPlaces, places_after, has_map_after, bare, names_maps, IsOrderly, unit_of, unit_by, unit_eq, or_right, none-some, same_Some, slice_get-map}
use Rattle.jn_locks.specs.Locks.{is_unit}
use Rattle.jn_locks.specs.declared.words.Mode.TheVariants.{Read, Commit}
use Rattle.jn_records.proofs.Supplied.{supplied-more, supplied-step, own-lacking}
use Rattle.jn_page_state.proofs.Found.{found_once}
use Rattle.jn_page_state.proofs.Slots.{passes_at}

same_file : (f g : FileNo) → file_eq f g ≡ true → f ≡ g
same_file f g h = grind (arith, nat_tests, h)

-- ---- the intentions of a work by their places

module _ (pool : List Record) (work : WorkId) where
  list_at : (n start k : ℕ) → ((order : ℕ) → start ≤ order → order < start + n → is_some (intention_of pool work order) ≡ true) → k < n
      → slice_get (intentions_from pool work start n) k ≡ intention_of pool work (start + k)
  list_at zero start k all below = absurd (omega (arith, below))
  list_at (suc n) start k all below = by (intention_of pool work start) refl (all start (omega arith) (omega arith)) k below
      (λ m low. list_at n (suc start) m (λ order le lt. all order (omega (arith, le)) (omega (arith, lt))) low)
    where
      by : (o : Option StoredIntention) → intention_of pool work start ≡ o → is_some o ≡ true → (k : ℕ) → k < suc n
          → ((m : ℕ) → m < n → slice_get (intentions_from pool work (suc start) n) m ≡ intention_of pool work (suc start + m))
          → slice_get (with_first o (intentions_from pool work (suc start) n)) k ≡ intention_of pool work (start + k)
      by None e some k below rest = absurd (true≢false (sym some))
      by (Some x) e some zero below rest = sym e ∙ ap (intention_of pool work) (omega arith)
      by (Some x) e some (suc m) below rest = rest m (omega (arith, below)) ∙ ap (intention_of pool work) (omega arith)

  -- the intention that stands in the pool has its place in the list
  intention_at : (n : ℕ) → HasIntentions pool work n → (i k : ℕ) (s : StoredIntention) → is_intention work k (record_in pool i) ≡ true → stored_in (record_in pool i) ≡ Some s → slice_get (stored_list pool work n) k ≡ Some s
  intention_at n has i k s stands is =
      let found : intention_of pool work k ≡ Some s =
      ap (option_and_then stored_in) (found_once (is_intention work k) Free pool i refl (λ j t. has.once k j i t stands) ∙ ap (λ b. if b then Some (record_in pool i) else None) stands) ∙ is in
      list_at n 0 k (λ order le lt. has.all order (omega (arith, lt))) (has.no_more k i stands) ∙ ap (intention_of pool work) (omega arith) ∙ found

get_mapped : {A B : Type 0} (f : A → B) (xs : List A) (k : ℕ) (x : A) → slice_get xs k ≡ Some x → slice_get (map f xs) k ≡ Some (f x)
get_mapped f xs k x e = slice_get-map f xs k ∙ ap (option_map f) e

-- ---- the order of a list asks nothing of bytes

module _ (blocks : ℕ → List ℕ) where
  order_behind : (last : StoredIntention) (stored : List StoredIntention) → in_order (Some (bare last)) (map bare stored) ≡ in_order (Some (intended blocks last)) (map (intended blocks) stored)
  order_behind last [] = refl
  order_behind last (s ∷ stored) = ap (λ b. stands_before (bare last) (bare s) && b) (order_behind s stored)

  same_order : (stored : List StoredIntention) → in_order None (map bare stored) ≡ in_order None (map (intended blocks) stored)
  same_order [] = refl
  same_order (s ∷ stored) = order_behind s stored

  -- each file that a list names is one of those that its work read
  file_read : (reads : List LockUnit) (stored : List StoredIntention) (f : FileNo) → list_all (λ i. is_unit reads (File i.file)) (map (intended blocks) stored) ≡ true → names_file (map bare stored) f ≡ true → is_unit reads (File f) ≡ true
  file_read reads [] f all h = absurd (true≢false (sym h))
  file_read reads (s ∷ stored) f all h = by (file_eq s.file f) refl (file_read reads stored f (and_parts (is_unit reads (File s.file)) (list_all (λ i. is_unit reads (File i.file)) (map (intended blocks) stored)) all).1) h
    where
      first : is_unit reads (File s.file) ≡ true
      first = (and_parts (is_unit reads (File s.file)) (list_all (λ i. is_unit reads (File i.file)) (map (intended blocks) stored)) all).0

      by : (b : Bool) → file_eq s.file f ≡ b → (names_file (map bare stored) f ≡ true → is_unit reads (File f) ≡ true) → (b || names_file (map bare stored) f) ≡ true → is_unit reads (File f) ≡ true
      by true e rest h = ap (λ g. is_unit reads (File g)) (sym (same_file s.file f e)) ∙ first
      by false e rest h = rest h

-- the unit of an intention is one of its list's
unit_among : (list : List FullIntention) (k : ℕ) (i : FullIntention) → slice_get list k ≡ Some i → is_unit (map unit_of list) (unit_of i) ≡ true
unit_among [] zero i e = absurd (none-some i e)
unit_among [] (suc k) i e = absurd (none-some i e)
unit_among (x ∷ list) zero i e = subst (λ z. (unit_eq (unit_of x) (unit_of z) || is_unit (map unit_of list) (unit_of z)) ≡ true) (same_Some x i e) (ap (λ b. b || is_unit (map unit_of list) (unit_of x)) (itself (unit_of x)))
  where
    itself : (u : LockUnit) → unit_eq u u ≡ true
    itself (File f) = grind (arith, nat_tests)
    itself (Block f p) = grind (arith, nat_tests)
unit_among (x ∷ list) (suc k) i e = or_right (unit_eq (unit_of x) (unit_of i)) (is_unit (map unit_of list) (unit_of i)) (unit_among list k i e)

-- ---- prepared works

-- a prepared work as the state has it
record HasWork (pool : List Record) (blocks : ℕ → List ℕ) (w : WorkId) (n : ℕ) (reads : List LockUnit) : Type 0 where
  prepared : Prepared
  stands : works_in pool blocks w ≡ Some prepared
  list_is : prepared.list ≡ full_list pool blocks w n
  reads_are : prepared.reads ≡ reads

-- and so its records are
record IsWork (pool : List Record) (blocks : ℕ → List ℕ) (w : WorkId) : Type 0 where
  size : ℕ
  reads : List LockUnit
  has : HasWork pool blocks w size reads
  intentions : HasIntentions pool w size

same_work : (v w : WorkId) → work_eq v w ≡ true → v ≡ w
same_work v w h = grind (arith, work_tells)

itself : (w : WorkId) → work_eq w w ≡ true
itself w = grind (arith, work_tells)

module _ (c : Contents) (distinct : IsDistinct c) where
  found_work : (w : WorkId) (i : ℕ) (r : Record) → record_in c.pool i ≡ r → is_prepared w r ≡ true → find (is_prepared w) c.pool ≡ Some r
  found_work w i r e stands =
      let here : is_prepared w (record_in c.pool i) ≡ true = ap (is_prepared w) e ∙ stands in
      found_once (is_prepared w) Free c.pool i refl (λ j t. distinct.works w j i t here) ∙ ap (λ b. if b then Some (record_in c.pool i) else None) here ∙ ap (λ (r : Record). Some r) e

  ready_work_is : (i : ℕ) (head : WorkHead) (n : ℕ) (reads : List LockUnit) → record_in c.pool i ≡ Ready head n reads → HasWork c.pool c.blocks head.work n reads
  ready_work_is i head n reads e = record {
    prepared = ready_work head (full_list c.pool c.blocks head.work n) reads;
    stands = ap (prepared_by c.pool c.blocks head.work) (found_work head.work i (Ready head n reads) e (itself head.work));
    list_is = refl;
    reads_are = refl;
  }

  going_work_is : (i : ℕ) (head : WorkHead) (n : ℕ) (reads : List LockUnit) → record_in c.pool i ≡ Going head n reads → HasWork c.pool c.blocks head.work n reads
  going_work_is i head n reads e = record {
    prepared = record (ready_work head (full_list c.pool c.blocks head.work n) reads) { going = true };
    stands = ap (prepared_by c.pool c.blocks head.work) (found_work head.work i (Going head n reads) e (itself head.work));
    list_is = refl;
    reads_are = refl;
  }

  work_of : (w : WorkId) (i : ℕ) (r : Record) → record_in c.pool i ≡ r → is_prepared w r ≡ true → IsCompleteBy c.pool r → IsWork c.pool c.blocks w
  work_of w i Free e stands has = absurd (true≢false (sym stands))
  work_of w i (Intention v t k s) e stands has = absurd (true≢false (sym stands))
  work_of w i (FlagRecord f) e stands has = absurd (true≢false (sym stands))
  work_of w i (Ready head n reads) e stands has = subst (IsWork c.pool c.blocks) (same_work head.work w stands) (record { size = n; reads = reads; has = ready_work_is i head n reads e; intentions = has })
  work_of w i (Going head n reads) e stands has = subst (IsWork c.pool c.blocks) (same_work head.work w stands) (record { size = n; reads = reads; has = going_work_is i head n reads e; intentions = has })

  module _ (complete : (i : ℕ) → IsCompleteBy c.pool (record_in c.pool i)) (server : ServerNo) (orderly : IsOrderly server (state_in c))
      (slot : ℕ) (i : StoredIntention) (stands : Intends c.pool slot i) where
    -- the work of the intention, and its place there
    own : IsWork c.pool c.blocks stands.work
    own = let at = passes_at (is_prepared stands.work) Free c.pool stands.prepared in work_of stands.work at.0 (record_in c.pool at.0) refl at.1 (complete at.0)

    is_its : is_intention stands.work stands.order (record_in c.pool slot) ≡ true
    is_its = ap (is_intention stands.work stands.order) stands.stands ∙ both (work_eq stands.work stands.work) (nat_eq stands.order stands.order) (itself stands.work) (same stands.order)
      where
        both : (a b : Bool) → a ≡ true → b ≡ true → (a && b) ≡ true
        both a b h k = grind (arith, h, k)

        same : (k : ℕ) → nat_eq k k ≡ true
        same k = grind (arith, nat_tests)

    at_place : (n : ℕ) → HasIntentions c.pool stands.work n → slice_get (stored_list c.pool stands.work n) stands.order ≡ Some i
    at_place n has = intention_at c.pool stands.work n has slot stands.order i is_its (ap stored_in stands.stands)

    -- its own list goes on
    own_step : (n : ℕ) (reads : List LockUnit) (places : MapPlaces) → HasWork c.pool c.blocks stands.work n reads → HasIntentions c.pool stands.work n
        → IsSuppliedBy places (stored_list c.pool stands.work n) → IsSuppliedBy (places_after (bare i) places) (stored_list c.pool stands.work n)
    own_step n reads places w has before =
        let order : in_order None (map bare (stored_list c.pool stands.work n)) ≡ true =
        same_order c.blocks (stored_list c.pool stands.work n) ∙ ap (in_order None) (sym w.list_is) ∙ (orderly.prepared stands.work w.prepared w.stands).order.order in
        supplied-step (map bare (stored_list c.pool stands.work n)) (names_maps (stored_list c.pool stands.work n)) places stands.order (bare i) order
        (get_mapped bare (stored_list c.pool stands.work n) stands.order i (at_place n has)) before

    -- a work that stands apart has none of a whole file's intention
    not_named : (w : WorkId) (n : ℕ) (reads : List LockUnit) → stands.work ≢ w → HasWork c.pool c.blocks w n reads → is_put i.what ≡ false
        → (f : FileNo) → names_file (map bare (stored_list c.pool w n)) f ≡ true → file_eq i.file f ≡ false
    not_named w n reads other q whole f named = by (file_eq i.file f) refl
      where
        unit_is : (what : What) → is_put what ≡ false → unit_by what i.file i.block ≡ File i.file
        unit_is Fresh e = refl
        unit_is Gone e = refl
        unit_is Cut e = refl
        unit_is Put e = absurd (true≢false e)

        writes : is_unit (map unit_of own.has.prepared.list) (File i.file) ≡ true
        writes = ap (is_unit (map unit_of own.has.prepared.list)) (sym (unit_is i.what whole))
            ∙ unit_among own.has.prepared.list stands.order (intended c.blocks i)
            (ap (λ l. slice_get l stands.order) own.has.list_is ∙ get_mapped (intended c.blocks) (stored_list c.pool stands.work own.size) stands.order i (at_place own.size own.intentions))

        all_read : list_all (λ (j : FullIntention). is_unit reads (File j.file)) (full_list c.pool c.blocks w n) ≡ true
        all_read = subst (λ l. list_all (λ (j : FullIntention). is_unit l (File j.file)) (full_list c.pool c.blocks w n) ≡ true) q.reads_are
            (subst (λ l. list_all (λ (j : FullIntention). is_unit q.prepared.reads (File j.file)) l ≡ true) q.list_is (orderly.prepared w q.prepared q.stands).reads_files)

        reads_it : is_unit q.prepared.reads (File f) ≡ true
        reads_it = ap (λ l. is_unit l (File f)) q.reads_are ∙ file_read c.blocks reads (stored_list c.pool w n) f all_read named

        clash : i.file ≡ f → ⊥
        clash e = true≢false (sym (orderly.apart stands.work w own.has.prepared q.prepared other own.has.stands q.stands (File f) Commit Read
            (ap (λ g. is_unit (map unit_of own.has.prepared.list) (File g)) (sym e) ∙ writes) reads_it))

        by : (b : Bool) → file_eq i.file f ≡ b → b ≡ false
        by true e = absurd (clash (same_file i.file f e))
        by false e = refl

    -- and any other list has what it had
    other_step : (w : WorkId) (n : ℕ) (reads : List LockUnit) (places : MapPlaces) → stands.work ≢ w → HasWork c.pool c.blocks w n reads
        → IsSuppliedBy places (stored_list c.pool w n) → IsSuppliedBy (places_after (bare i) places) (stored_list c.pool w n)
    other_step w n reads places other q before = by i.what refl
      where
        skipped : (b x y : Bool) → b ≡ false → (if b then x else y) ≡ y
        skipped b x y e = grind (arith, e)

        whole : is_put i.what ≡ false → IsSuppliedBy (places_after (bare i) places) (stored_list c.pool w n)
        whole e = subst (λ (l : List Bool). (k : ℕ) → slice_get l k ≡ Some true → slice_get (names_maps (stored_list c.pool w n)) k ≡ Some true)
            (sym (own-lacking (map bare (stored_list c.pool w n)) places (places_after (bare i) places)
            (λ f j h. skipped (file_eq i.file f) (has_map_after i.what i.block.0 j (places f j)) (places f j) (not_named w n reads other q e f h)))) before

        more : (b there range : Bool) → there ≡ true → (if b then there || range else there) ≡ true
        more b there range h = grind (arith, h)

        by : (what : What) → i.what ≡ what → IsSuppliedBy (places_after (bare i) places) (stored_list c.pool w n)
        by Fresh e = whole (ap is_put e)
        by Gone e = whole (ap is_put e)
        by Cut e = whole (ap is_put e)
        by Put e = supplied-more (map bare (stored_list c.pool w n)) (names_maps (stored_list c.pool w n)) places (places_after (bare i) places)
            (λ f j h. ap (λ what. if file_eq i.file f then has_map_after what i.block.0 j (places f j) else places f j) e ∙ more (file_eq i.file f) (places f j) (is_in_range j i.block.0) h) before

    -- each prepared work has after the step what it had
    step_supplied : (w : WorkId) (n : ℕ) (reads : List LockUnit) (places : MapPlaces) → HasWork c.pool c.blocks w n reads → HasIntentions c.pool w n
        → IsSuppliedBy places (stored_list c.pool w n) → IsSuppliedBy (places_after (bare i) places) (stored_list c.pool w n)
    step_supplied w n reads places has all before = elim (work_tells stands.work w) [
      | inl same ↦ subst (λ v. IsSuppliedBy places (stored_list c.pool v n) → IsSuppliedBy (places_after (bare i) places) (stored_list c.pool v n)) same.1
          (own_step n reads places (subst (λ v. HasWork c.pool c.blocks v n reads) (sym same.1) has) (subst (λ v. HasIntentions c.pool v n) (sym same.1) all)) before
      | inr other ↦ other_step w n reads places other.1 has before
    ]

    -- and so it is by the heads that have the map pages then
    pub heads_supplied : (heads later : List Head) → ((f : FileNo) (j : ℕ) → places_after (bare i) (maps_in heads) f j ≡ true → maps_in later f j ≡ true)
        → ((k : ℕ) → IsSuppliedIn heads c.pool (record_in c.pool k)) → (k : ℕ) → IsSuppliedIn later c.pool (record_in c.pool k)
    heads_supplied heads later more before k = by (record_in c.pool k) refl (complete k) (before k)
      where
        list_supplied : (w : WorkId) (n : ℕ) (reads : List LockUnit) → HasWork c.pool c.blocks w n reads → HasIntentions c.pool w n → IsSuppliedBy (maps_in heads) (stored_list c.pool w n) → IsSuppliedBy (maps_in later) (stored_list c.pool w n)
        list_supplied w n reads is all h = supplied-more (map bare (stored_list c.pool w n)) (names_maps (stored_list c.pool w n)) (places_after (bare i) (maps_in heads)) (maps_in later) more
            (step_supplied w n reads (maps_in heads) is all h)

        by : (r : Record) → record_in c.pool k ≡ r → IsCompleteBy c.pool r → IsSuppliedIn heads c.pool r → IsSuppliedIn later c.pool r
        by Free e all h = tt
        by (Intention w t n s) e all h = tt
        by (FlagRecord f) e all h = tt
        by (Ready head n reads) e all h = list_supplied head.work n reads (ready_work_is k head n reads e) all h
        by (Going head n reads) e all h = list_supplied head.work n reads (going_work_is k head n reads e) all h

-- where map pages stay, so does what lists have
pub more_supplied : (pool : List Record) (heads later : List Head) → ((f : FileNo) (j : ℕ) → maps_in heads f j ≡ true → maps_in later f j ≡ true) → (r : Record) → IsSuppliedIn heads pool r → IsSuppliedIn later pool r
more_supplied pool heads later more Free h = tt
more_supplied pool heads later more (Intention w t n s) h = tt
more_supplied pool heads later more (FlagRecord f) h = tt
more_supplied pool heads later more (Ready head n reads) h = supplied-more (map bare (stored_list pool head.work n)) (names_maps (stored_list pool head.work n)) (maps_in heads) (maps_in later) more h
more_supplied pool heads later more (Going head n reads) h = supplied-more (map bare (stored_list pool head.work n)) (names_maps (stored_list pool head.work n)) (maps_in heads) (maps_in later) more h
