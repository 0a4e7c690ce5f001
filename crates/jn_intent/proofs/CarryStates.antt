-- A storage serves on once an intention of a work is carried out.
use Rattle.jn_intent.proofs.Common.{◌≡◌, ⊎_elim, ◌≤◌, ◌+◌, ℕ, Bool, true, false, not, ◌&&◌, ◌||◌, if◌then◌else◌, List, ◌∷◌, length, Some, refl, sym, ◌∙◌, ap, subst, arith, slice_get_within, slice_get, FileNo, LockUnit, WorkId, file_eq, work_eq, file_tells, work_tells, unit_eq, Files, change, What, Fresh, Gone, Cut, Put, intention_change, StableState, Prepared, CarryOut, made_by, at_work, IsListing, total, IsOrderly, Accounts, IsLoadable, file_there, is_stored, intentions_of, list_of, made_there, there-after, one_if, makes_file, orderly-carried, promises-carried, but, listing-less, listing-more, listing-same, length-but, Serves, heads_of, ◌<◌, most_maps, most_pages, map_eq, has_map}
use Rattle.jn_records.specs.declared.intention.Intention.{Intention}
use Rattle.jn_intent.proofs.Numbers.{listing_length}

-- the files after an intention, each once: one more at most, where it makes one
record IsAfter (i : Intention) (files : Files) (most : ℕ) (keys : List FileNo) : Type 0 where
  pub listing : IsListing file_eq (file_there (change (intention_change i) files)) keys
  pub few : length keys ≤ most

files_after : (i : Intention) (files : Files) (keys : List FileNo) → IsListing file_eq (file_there files) keys → (ks : List FileNo) × IsAfter i files (length keys + one_if (makes_file i files)) ks
files_after i files keys l = by i.what refl
  where
    at : (f : FileNo) → file_there (change (intention_change i) files) f ≡ made_there i.what (file_eq i.file f) (file_there files f)
    at f = there-after i files f

    same : ((f : FileNo) → file_there (change (intention_change i) files) f ≡ file_there files f) → (ks : List FileNo) × IsAfter i files (length keys + one_if (makes_file i files)) ks
    same is = (keys, record { listing = listing-same file_eq (file_there files) (file_there (change (intention_change i) files)) keys is l; few = omega arith })

    fresh : i.what ≡ Fresh → (b : Bool) → file_there files i.file ≡ b → (ks : List FileNo) × IsAfter i files (length keys + one_if (makes_file i files)) ks
    fresh e true there = same (λ f. at f ∙ ap (λ w. made_there w (file_eq i.file f) (file_there files f)) e ∙ ⊎_elim
        (λ h. first (file_eq i.file f) (file_there files f) (subst (λ g. file_there files g ≡ true) h.1 there))
        (λ h. second (file_eq i.file f) (file_there files f) h.0)
        (file_tells i.file f))
      where
        first : (b c : Bool) → c ≡ true → (b || c) ≡ c
        first b c h = grind (arith, h)

        second : (b c : Bool) → b ≡ false → (b || c) ≡ c
        second b c h = grind (arith, h)
    fresh e false absent = (
      i.file ∷ keys,
      record {
        listing = listing-more file_eq file_tells i.file (file_there files) (file_there (change (intention_change i) files)) keys absent (λ f. at f ∙ ap (λ w. made_there w (file_eq i.file f) (file_there files f)) e) l;
        few = let made = ap one_if (makes e absent) in omega (arith, made);
      },
    )
      where
        makes : i.what ≡ Fresh → file_there files i.file ≡ false → makes_file i files ≡ true
        makes e absent = grind (arith, e, absent)

    by : (w : What) → i.what ≡ w → (ks : List FileNo) × IsAfter i files (length keys + one_if (makes_file i files)) ks
    by Fresh e = fresh e (file_there files i.file) refl
    by Gone e = (
      but file_eq i.file keys,
      record {
        listing = listing-less file_eq file_tells i.file (file_there files) (file_there (change (intention_change i) files)) keys (λ f. at f ∙ ap (λ w. made_there w (file_eq i.file f) (file_there files f)) e ∙ turned (not (file_eq i.file f)) (file_there files f)) l;
        few = let less = length-but file_eq i.file keys in omega (arith, less);
      },
    )
      where
        turned : (b c : Bool) → (b && c) ≡ (c && b)
        turned b c = grind arith
    by Cut e = same (λ f. at f ∙ ap (λ w. made_there w (file_eq i.file f) (file_there files f)) e)
    by Put e = same (λ f. at f ∙ ap (λ w. made_there w (file_eq i.file f) (file_there files f)) e)

module _ (x : StableState) (a : Accounts) (work : WorkId) (p : Prepared) (k : ℕ) (i : Intention) (s : Serves x a) (stands : x.works work ≡ Some p) (here : slice_get p.list k ≡ Some i) where
  after : (ks : List FileNo) × IsAfter i x.files (length s.counted.files + one_if (makes_file i x.files)) ks
  after = files_after i x.files s.counted.files s.counted.files_all

  pub promises : total (λ v. heads_of (list_of (made_by (CarryOut work i) x) v) (file_there (made_by (CarryOut work i) x).files)) s.counted.works + one_if (makes_file i x.files) ≡ a.promised_heads
  promises = promises-carried a.server x work p k i s.counted.works s.orderly stands here s.counted.works_all ∙ sym s.counted.promises

  -- a recovery would take the state
  pub carried_loadable : IsLoadable a.server a.heads (made_by (CarryOut work i) x)
  carried_loadable = record {
    orderly = orderly-carried a.server x work p k i s.orderly stands here;
    works = s.counted.works;
    files = after.0;
    works_all = s.counted.works_all;
    files_all = after.1.listing;
    fits = let few = after.1.few in let less = promises in omega (arith, few, less, s.counted.heads_used, s.heads_fit);
  }

  -- what is free then
  pub record IsCountedOn (b : Accounts) : Type 0 where
    pub server : b.server ≡ a.server
    pub pool : b.pool ≡ a.pool
    pub heads : b.heads ≡ a.heads
    pub free_records : b.free_records ≡ a.free_records
    pub promised_records : b.promised_records ≡ a.promised_records
    pub rubbish : b.rubbish ≡ a.rubbish
    pub promised_heads : b.promised_heads + one_if (makes_file i x.files) ≡ a.promised_heads
    pub next : b.next ≡ at_work a.next work (k + 1)
    pub files : List FileNo
    pub blocks : List LockUnit
    pub maps : List (FileNo × ℕ)
    pub files_all : IsListing file_eq (file_there (made_by (CarryOut work i) x).files) files
    pub heads_used : b.free_heads + length files ≡ b.heads
    pub blocks_all : IsListing unit_eq (is_stored (made_by (CarryOut work i) x).files) blocks
    pub maps_all : IsListing map_eq (has_map b.maps) maps
    pub pages : b.free_pages + length blocks + length maps + total b.held s.counted.works ≡ b.leaves
    pub held_fits : (w : WorkId) → b.held w ≤ most_pages (list_of x w)
    pub maps_fit : (f : FileNo) (j : ℕ) → b.maps f j ≡ true → j < most_maps

  pub serves_carried : (b : Accounts) → IsCountedOn b → Serves (made_by (CarryOut work i) x) b
  serves_carried b is = record {
    orderly = subst (λ server. IsOrderly server (made_by (CarryOut work i) x)) (sym is.server) (orderly-carried a.server x work p k i s.orderly stands here);
    counted = record {
      works = s.counted.works;
      flags = s.counted.flags;
      files = is.files;
      blocks = is.blocks;
      maps = is.maps;
      works_all = s.counted.works_all;
      flags_all = s.counted.flags_all;
      files_all = is.files_all;
      blocks_all = is.blocks_all;
      maps_all = is.maps_all;
      records = let rubbish = ap (λ (l : List WorkId). length l) is.rubbish in omega (arith, s.counted.records, is.free_records, is.pool, rubbish);
      heads_used = is.heads_used;
      pages = is.pages;
      promises = let less = promises in omega (arith, less, is.promised_heads);
    };
    records_fit = omega (arith, s.records_fit, is.free_records, is.promised_records);
    heads_fit =
        let few = after.1.few in let same = listing_length file_eq file_tells (file_there (made_by (CarryOut work i) x).files) is.files after.0 is.files_all after.1.listing in
        omega (arith, few, same, is.heads_used, is.heads, is.promised_heads, s.counted.heads_used, s.heads_fit);
    next_fits = λ w. subst (λ n. n ≤ length (list_of x w)) (sym (ap (λ (f : WorkId → ℕ). f w) is.next)) (next_by w (work_eq work w) refl);
    held_fits = is.held_fits;
    maps_fit = is.maps_fit;
  }
    where
      next_by : (w : WorkId) (c : Bool) → work_eq work w ≡ c → (if c then k + 1 else a.next w) ≤ length (list_of x w)
      next_by w true e =
          let same : work ≡ w = (let t = work_tells work w in grind (arith, e)) in
          let long = ap (λ o. length (intentions_of o)) (ap x.works (sym same) ∙ stands) in let lt = slice_get_within p.list k i here in omega (arith, long, lt)
      next_by w false e = s.next_fits w
