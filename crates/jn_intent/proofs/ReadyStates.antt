-- A storage serves on with a work that is prepared.
use Rattle.jn_intent.proofs.Common.{◌≡◌, ◌≤◌, ◌+◌, ℕ, Bool, true, false, ◌||◌, if◌then◌else◌, List, ◌∷◌, length, Option, Some, None, refl, sym, ◌∙◌, ap, subst, true≢false, arith, is_some, LockUnit, WorkId, work_eq, work_tells, Need, WorkHead, StableState, Prepared, AddReady, made_by, ready_work, at_work, is_in, total, IsOrderly, IsPrepared, Accounts, intentions_of, list_of, needed, shortage, with_work, listing-more, total-same, Serves, count_by, is_put_intention, heads_of, file_there, one, sum_by-cons, nat_le, not, ◌&&◌, ◌-◌, ◌/◌, [], MapPlaces, lacking, lacks_map, places_after, head_blocks, is_past_head, most_pages}
use Rattle.jn_records.specs.declared.intention.Intention.{Intention}
use Rattle.jn_intent.proofs.StoringPool.{same_work}

-- enough is free and not promised
pub record HasRoom (a : Accounts) (need : Need) : Type 0 where
  pub records : need.records + a.promised_records ≤ a.free_records
  pub pages : need.pages ≤ a.free_pages
  pub heads : need.heads + a.promised_heads ≤ a.free_heads

pub has_room : (a : Accounts) (need : Need) → a.promised_records ≤ a.free_records → a.promised_heads ≤ a.free_heads → shortage a need ≡ None → HasRoom a need
has_room a need records heads e = record { records = grind (arith, e, records); pages = grind (arith, e); heads = grind (arith, e, heads) }

-- no list lacks more map pages than it has puts past the head's blocks
lacking_most : (places : MapPlaces) (list : List Intention) → count_by (λ b. b) (lacking places list) ≤ count_by is_past_head list
lacking_most places [] = omega arith
lacking_most places (i ∷ list) =
    let a = sum_by-cons (λ (b : Bool). if b then 1 else 0) (lacks_map places i) (lacking (places_after i places) list) in
    let b = sum_by-cons (λ (i : Intention). if is_past_head i then 1 else 0) i list in
    let again = lacking_most (places_after i places) list in
    let here = by (is_past_head i) (not (places i.file (i.block.0 / head_blocks - 1))) in
    let same = ap one (grouped (is_put_intention i) (nat_le head_blocks i.block.0) (not (places i.file (i.block.0 / head_blocks - 1)))) in omega (arith, a, b, again, here, same)
  where
    grouped : (a b c : Bool) → (a && b && c) ≡ ((a && b) && c)
    grouped a b c = grind arith

    by : (b c : Bool) → one (b && c) ≤ one b
    by true true = omega arith
    by true false = omega arith
    by false c = omega arith

module _ (x : StableState) (a : Accounts) (head : WorkHead) (list : List Intention) (reads : List LockUnit) (s : Serves x a) (new : x.works head.work ≡ None) (orderly : IsOrderly a.server (made_by (AddReady head list reads) x)) (room : HasRoom a (needed a.maps x list)) where
  own_list : list_of (made_by (AddReady head list reads) x) head.work ≡ list
  own_list = ap (λ b. intentions_of (if b then Some (ready_work head list reads) else x.works head.work)) (same_work head.work)

  list_else : (v : WorkId) → work_eq head.work v ≡ false → list_of (made_by (AddReady head list reads) x) v ≡ list_of x v
  list_else v e = ap (λ b. intentions_of (if b then Some (ready_work head list reads) else x.works v)) e

  -- the work as it is prepared
  pub its_work : IsPrepared x.files list reads
  its_work = orderly.prepared head.work (ready_work head list reads) (ap (λ b. if b then Some (ready_work head list reads) else x.works head.work) (same_work head.work))

  differs : (v : WorkId) → is_in work_eq v s.counted.works ≡ true → work_eq head.work v ≡ false
  differs v h = by (work_eq head.work v) refl
    where
      by : (b : Bool) → work_eq head.work v ≡ b → b ≡ false
      by false e = refl
      by true e =
          let same : head.work ≡ v = (let t = work_tells head.work v in grind (arith, e)) in
          absurd (true≢false (sym h ∙ s.counted.works_all.all v ∙ ap is_some (subst (λ u. x.works u ≡ None) same new)))

  -- a total over all works and the new one
  total_more : (f g : WorkId → ℕ) (n : ℕ) → f head.work ≡ n → ((v : WorkId) → work_eq head.work v ≡ false → f v ≡ g v) → total f (head.work ∷ s.counted.works) ≡ n + total g s.counted.works
  total_more f g n own same = ap (λ k. k + total f s.counted.works) own ∙ ap (λ k. n + k) (total-same work_eq work_tells f g s.counted.works (λ v h. same v (differs v h)))

  at_own : {A : Type 0} (f : WorkId → A) (y : A) → at_work f head.work y head.work ≡ y
  at_own f y = ap (λ b. if b then y else f head.work) (same_work head.work)

  at_else : {A : Type 0} (f : WorkId → A) (y : A) (v : WorkId) → work_eq head.work v ≡ false → at_work f head.work y v ≡ f v
  at_else f y v e = ap (λ b. if b then y else f v) e

  same_name : (v : WorkId) → work_eq head.work v ≡ true → head.work ≡ v
  same_name v e = let t = work_tells head.work v in grind (arith, e)

  pub serves_ready : Serves (made_by (AddReady head list reads) x) (with_work a head.work (needed a.maps x list) (lacking a.maps list))
  serves_ready = record {
    orderly = orderly;
    counted = record {
      works = head.work ∷ s.counted.works;
      flags = s.counted.flags;
      files = s.counted.files;
      blocks = s.counted.blocks;
      maps = s.counted.maps;
      works_all = listing-more work_eq work_tells head.work _ _ _ (ap is_some new) (λ v. by (work_eq head.work v) (x.works v)) s.counted.works_all;
      flags_all = s.counted.flags_all;
      files_all = s.counted.files_all;
      blocks_all = s.counted.blocks_all;
      maps_all = s.counted.maps_all;
      records =
          let lists = total_more (λ v. length (list_of (made_by (AddReady head list reads) x) v)) (λ v. length (list_of x v)) (length list) (ap (λ l. length l) own_list) (λ v e. ap (λ l. length l) (list_else v e)) in
          let before = s.counted.records in let enough = room.records in omega (arith, lists, before, enough);
      heads_used = s.counted.heads_used;
      pages =
          let held = total_more (at_work a.held head.work (needed a.maps x list).pages) a.held (needed a.maps x list).pages (at_own a.held (needed a.maps x list).pages) (at_else a.held (needed a.maps x list).pages) in
          let before = s.counted.pages in let enough = room.pages in omega (arith, held, before, enough);
      promises =
          let heads = total_more (λ v. heads_of (list_of (made_by (AddReady head list reads) x) v) (file_there x.files)) (λ v. heads_of (list_of x v) (file_there x.files)) (heads_of list (file_there x.files))
          (ap (λ l. heads_of l (file_there x.files)) own_list) (λ v e. ap (λ l. heads_of l (file_there x.files)) (list_else v e)) in
          let before = s.counted.promises in omega (arith, heads, before);
    };
    records_fit = let enough = room.records in omega (arith, enough);
    heads_fit = let enough = room.heads in omega (arith, enough);
    next_fits = λ v. next_by v (work_eq head.work v) refl;
    held_fits = λ v. held_by v (work_eq head.work v) refl;
    maps_fit = s.maps_fit;
  }
    where
      by : (b : Bool) (o : Option Prepared) → is_some (if b then Some (ready_work head list reads) else o) ≡ (b || is_some o)
      by true o = refl
      by false o = refl

      next_by : (v : WorkId) (b : Bool) → work_eq head.work v ≡ b → at_work a.next head.work 0 v ≤ length (list_of (made_by (AddReady head list reads) x) v)
      next_by v true e = subst (λ n. n ≤ length (list_of (made_by (AddReady head list reads) x) v)) (sym (ap (λ b. if b then 0 else a.next v) e)) (omega arith)
      next_by v false e = subst (λ n. n ≤ length (list_of (made_by (AddReady head list reads) x) v)) (sym (at_else a.next 0 v e)) (subst (λ l. a.next v ≤ length l) (sym (list_else v e)) (s.next_fits v))

      held_by : (v : WorkId) (b : Bool) → work_eq head.work v ≡ b → at_work a.held head.work (needed a.maps x list).pages v ≤ most_pages (list_of (made_by (AddReady head list reads) x) v)
      held_by v true e = subst (λ u. at_work a.held head.work (needed a.maps x list).pages u ≤ most_pages (list_of (made_by (AddReady head list reads) x) u)) (same_name v e)
          (let one = at_own a.held (needed a.maps x list).pages in let two = ap most_pages own_list in let most = lacking_most a.maps list in omega (arith, one, two, most))
      held_by v false e = subst (λ n. n ≤ most_pages (list_of (made_by (AddReady head list reads) x) v)) (sym (at_else a.held (needed a.maps x list).pages v e)) (subst (λ l. a.held v ≤ most_pages l) (sym (list_else v e)) (s.held_fits v))
