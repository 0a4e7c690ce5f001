-- A storage serves on with a work that goes, and with a rubbish record less.
use Rattle.jn_recovery.proofs.Common.{◌≡◌, ◌≤◌, ◌+◌, ◌&&◌, ℕ, Bool, true, false, not, if◌then◌else◌, length, Option, Some, None, refl, sym, ◌∙◌, ap, subst, arith, fun_ext, is_some, WorkId, work_eq, work_tells, StableState, Prepared, MarkGoing, RemoveWork, made_by, gone_on, at_work, is_in, total, IsOrderly, Accounts, intentions_of, list_of, CountsErased, CountsOff, orderly-marked, orderly-removed, but, is_in-but, listing-same, listing-less, total-but, total-same, file_there, heads_of, MapPlaces, IsListing, most_pages, map_eq, has_map}
use Rattle.jn_recovery.proofs.FlagStates.{length-one}
use Rattle.jn_recovery.proofs.Serving.{Serves}

module _ (x : StableState) (work : WorkId) where
  same_work : (v : WorkId) → work_eq work v ≡ true → work ≡ v
  same_work v e = grind (arith, work_tells)

  list_marked : (v : WorkId) → list_of (made_by (MarkGoing work) x) v ≡ list_of x v
  list_marked v = by (work_eq work v) refl
    where
      goes : (o : Option Prepared) → intentions_of (gone_on o) ≡ intentions_of o
      goes None = refl
      goes (Some p) = refl

      by : (b : Bool) → work_eq work v ≡ b → intentions_of (if b then gone_on (x.works work) else x.works v) ≡ intentions_of (x.works v)
      by true e = goes (x.works work) ∙ ap (λ w. intentions_of (x.works w)) (same_work v e)
      by false e = refl

  some_marked : (v : WorkId) → is_some ((made_by (MarkGoing work) x).works v) ≡ is_some (x.works v)
  some_marked v = by (work_eq work v) refl
    where
      goes : (o : Option Prepared) → is_some (gone_on o) ≡ is_some o
      goes None = refl
      goes (Some p) = refl

      by : (b : Bool) → work_eq work v ≡ b → is_some (if b then gone_on (x.works work) else x.works v) ≡ is_some (x.works v)
      by true e = goes (x.works work) ∙ ap (λ w. is_some (x.works w)) (same_work v e)
      by false e = refl

  pub serves_marked : (a : Accounts) → Serves x a → Serves (made_by (MarkGoing work) x) a
  serves_marked a s = record {
    orderly = orderly-marked a.server x work s.orderly;
    counted = record {
      works = s.counted.works;
      flags = s.counted.flags;
      files = s.counted.files;
      blocks = s.counted.blocks;
      maps = s.counted.maps;
      works_all = listing-same work_eq (λ w. is_some (x.works w)) (λ w. is_some ((made_by (MarkGoing work) x).works w)) s.counted.works some_marked s.counted.works_all;
      flags_all = s.counted.flags_all;
      files_all = s.counted.files_all;
      blocks_all = s.counted.blocks_all;
      maps_all = s.counted.maps_all;
      records = let lists = ap (λ (f : WorkId → ℕ). total f s.counted.works) (fun_ext (λ w. ap (λ l. length l) (list_marked w))) in omega (arith, s.counted.records, lists);
      heads_used = s.counted.heads_used;
      pages = s.counted.pages;
      promises = s.counted.promises ∙ sym (ap (λ (f : WorkId → ℕ). total f s.counted.works) (fun_ext (λ w. ap (λ l. heads_of l (file_there x.files)) (list_marked w))));
    };
    records_fit = s.records_fit;
    heads_fit = s.heads_fit;
    next_fits = λ w. subst (λ l. a.next w ≤ length l) (sym (list_marked w)) (s.next_fits w);
    held_fits = λ w. subst (λ l. a.held w ≤ most_pages l) (sym (list_marked w)) (s.held_fits w);
    maps_fit = s.maps_fit;
  }

pub serves_erased : (x : StableState) (a b : Accounts) → CountsErased a b → Serves x a → Serves x b
serves_erased x a b counts s = subst (Serves x) (sym counts.others) (record {
  orderly = s.orderly;
  counted = record {
    works = s.counted.works;
    flags = s.counted.flags;
    files = s.counted.files;
    blocks = s.counted.blocks;
    maps = s.counted.maps;
    works_all = s.counted.works_all;
    flags_all = s.counted.flags_all;
    files_all = s.counted.files_all;
    blocks_all = s.counted.blocks_all;
    maps_all = s.counted.maps_all;
    records = omega (arith, s.counted.records, counts.rubbish_less);
    heads_used = s.counted.heads_used;
    pages = s.counted.pages;
    promises = s.counted.promises;
  };
  records_fit = omega (arith, s.records_fit);
  heads_fit = s.heads_fit;
  next_fits = s.next_fits;
  held_fits = s.held_fits;
  maps_fit = s.maps_fit;
})

-- ---- a work is removed

-- what is free then
pub record IsRemoved (x : StableState) (a : Accounts) (work : WorkId) (b : Accounts) : Type 0 where
  pub server : b.server ≡ a.server
  pub pool : b.pool ≡ a.pool
  pub heads : b.heads ≡ a.heads
  pub leaves : b.leaves ≡ a.leaves
  pub counts : CountsOff a work (length (list_of x work)) b
  pub promised_heads : b.promised_heads + heads_of (list_of x work) (file_there x.files) ≡ a.promised_heads

module _ (x : StableState) (a b : Accounts) (work : WorkId) (s : Serves x a) (some : is_some (x.works work) ≡ true) (is : IsRemoved x a work b) where
  -- a total over all works but the one
  total_less : (f g : WorkId → ℕ) → ((v : WorkId) → work_eq work v ≡ false → f v ≡ g v) → total f (but work_eq work s.counted.works) + g work ≡ total g s.counted.works
  total_less f g same = summed _ _ _ _ (total-but work_eq work_tells g work s.counted.works s.counted.works_all.different (s.counted.works_all.all work ∙ some))
      (total-same work_eq work_tells f g (but work_eq work s.counted.works) (λ v q. same v (differs (is_in work_eq v s.counted.works) (work_eq work v) (sym (is_in-but work_eq work_tells work v s.counted.works) ∙ q))))
    where
      differs : (c d : Bool) → (c && not d) ≡ true → d ≡ false
      differs c d q = grind (arith, q)

      summed : (k l m n : ℕ) → k ≡ l + m → n ≡ m → n + l ≡ k
      summed k l m n e f = omega (arith, e, f)

  list_else : (v : WorkId) → work_eq work v ≡ false → list_of (made_by (RemoveWork work) x) v ≡ list_of x v
  list_else v e = ap (λ c. intentions_of (if c then None else x.works v)) e

  at_else : (f : WorkId → ℕ) (v : WorkId) → work_eq work v ≡ false → at_work f work 0 v ≡ f v
  at_else f v e = ap (λ c. if c then 0 else f v) e

  pub serves_removed : Serves (made_by (RemoveWork work) x) b
  serves_removed = record {
    orderly = subst (λ server. IsOrderly server (made_by (RemoveWork work) x)) (sym is.server) (orderly-removed a.server x work s.orderly);
    counted = record {
      works = but work_eq work s.counted.works;
      flags = s.counted.flags;
      files = s.counted.files;
      blocks = s.counted.blocks;
      maps = s.counted.maps;
      works_all = listing-less work_eq work_tells work _ _ _ (λ v. by (work_eq work v) (x.works v)) s.counted.works_all;
      flags_all = s.counted.flags_all;
      files_all = s.counted.files_all;
      blocks_all = s.counted.blocks_all;
      maps_all = subst (λ (maps : MapPlaces). IsListing map_eq (has_map maps) s.counted.maps) (sym is.counts.maps) s.counted.maps_all;
      records =
          let less = length-one work_eq work_tells work s.counted.works s.counted.works_all.different (s.counted.works_all.all work ∙ some) in
          let lists = total_less (λ v. length (list_of (made_by (RemoveWork work) x) v)) (λ v. length (list_of x v)) (λ v e. ap (λ l. length l) (list_else v e)) in
          omega (arith, s.counted.records, less, lists, is.counts.free_records, is.counts.rubbish_more, is.pool);
      heads_used = omega (arith, s.counted.heads_used, is.counts.free_heads, is.heads);
      pages =
          let held = total_less b.held a.held (λ v e. ap (λ (f : WorkId → ℕ). f v) is.counts.held ∙ at_else a.held v e) in
          omega (arith, s.counted.pages, held, is.counts.free_pages, is.leaves);
      promises =
          let heads = total_less (λ v. heads_of (list_of (made_by (RemoveWork work) x) v) (file_there x.files)) (λ v. heads_of (list_of x v) (file_there x.files)) (λ v e. ap (λ l. heads_of l (file_there x.files)) (list_else v e)) in
          omega (arith, s.counted.promises, heads, is.promised_heads);
    };
    records_fit = omega (arith, s.records_fit, is.counts.free_records, is.counts.promised_records);
    heads_fit = omega (arith, s.heads_fit, is.counts.free_heads, is.promised_heads);
    next_fits = λ v. subst (λ n. n ≤ length (list_of (made_by (RemoveWork work) x) v)) (sym (ap (λ (f : WorkId → ℕ). f v) is.counts.next)) (next_by v (work_eq work v) refl);
    held_fits = λ v. subst (λ n. n ≤ most_pages (list_of (made_by (RemoveWork work) x) v)) (sym (ap (λ (f : WorkId → ℕ). f v) is.counts.held)) (held_by v (work_eq work v) refl);
    maps_fit = λ f j h. s.maps_fit f j (sym (ap (λ (maps : MapPlaces). maps f j) is.counts.maps) ∙ h);
  }
    where
      by : (c : Bool) (o : Option Prepared) → is_some (if c then None else o) ≡ (is_some o && not c)
      by true None = refl
      by true (Some p) = refl
      by false None = refl
      by false (Some p) = refl

      next_by : (v : WorkId) (c : Bool) → work_eq work v ≡ c → (if c then 0 else a.next v) ≤ length (list_of (made_by (RemoveWork work) x) v)
      next_by v true e = omega arith
      next_by v false e = subst (λ l. a.next v ≤ length l) (sym (list_else v e)) (s.next_fits v)

      held_by : (v : WorkId) (c : Bool) → work_eq work v ≡ c → (if c then 0 else a.held v) ≤ most_pages (list_of (made_by (RemoveWork work) x) v)
      held_by v true e = omega arith
      held_by v false e = subst (λ l. a.held v ≤ most_pages l) (sym (list_else v e)) (s.held_fits v)
