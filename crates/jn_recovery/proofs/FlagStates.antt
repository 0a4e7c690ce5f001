-- A storage serves on with one flag more or less, and with another count of promises.
use Rattle.jn_recovery.proofs.Common.{◌≡◌, ◌<◌, ◌≤◌, ◌+◌, ◌-◌, ℕ, Bool, true, List, [], ◌∷◌, length, None, refl, ◌∙◌, ap, arith, is_some, Tid, tid_eq, tid_tells, Flag, StableState, AddFlag, DropFlag, made_by, is_in, are_different, total, AtMost, IsGiven, Accounts, with_promises, orderly-put, orderly-dropped, Tells, but, listing-less, listing-more, total-but}
use Rattle.jn_recovery.proofs.Serving.{Serves}

-- one key less
pub length-one : {A : Type 0} (eq : A → A → Bool) → Tells eq → (k : A) (keys : List A) → are_different eq keys ≡ true → is_in eq k keys ≡ true → length (but eq k keys) + 1 ≡ length keys
length-one {A} eq tells k keys d i = let e = total-but eq tells (λ a. 1) k keys d i in let m = ones keys in let n = ones (but eq k keys) in omega (arith, e, m, n)
  where
    ones : (xs : List A) → total (λ a. 1) xs ≡ length xs
    ones [] = refl
    ones (x ∷ xs) = let again = ones xs in omega (arith, again)

abbrev pub with_flag_less : Accounts → Accounts
with_flag_less a = record a { free_records = a.free_records + 1 }

abbrev pub with_flag_more : Accounts → Accounts
with_flag_more a = record a { free_records = a.free_records - 1; promised_records = a.promised_records - 1 }

pub serves_dropped : (x : StableState) (a : Accounts) (t : Tid) → Serves x a → is_some (x.flags t) ≡ true → Serves (made_by (DropFlag t) x) (with_flag_less a)
serves_dropped x a t s has = record {
  orderly = orderly-dropped a.server x t s.orderly;
  counted = record {
    works = s.counted.works;
    flags = but tid_eq t s.counted.flags;
    files = s.counted.files;
    blocks = s.counted.blocks;
    maps = s.counted.maps;
    works_all = s.counted.works_all;
    flags_all = listing-less tid_eq tid_tells t _ _ _ (λ u. grind arith) s.counted.flags_all;
    files_all = s.counted.files_all;
    blocks_all = s.counted.blocks_all;
    maps_all = s.counted.maps_all;
    records = let less = length-one tid_eq tid_tells t s.counted.flags s.counted.flags_all.different (s.counted.flags_all.all t ∙ has) in omega (arith, s.counted.records, less);
    heads_used = s.counted.heads_used;
    pages = s.counted.pages;
    promises = s.counted.promises;
  };
  records_fit = omega (arith, s.records_fit);
  heads_fit = s.heads_fit;
  next_fits = s.next_fits;
  held_fits = s.held_fits;
  maps_fit = s.maps_fit;
}

pub serves_flagged : (x : StableState) (a : Accounts) (flag : Flag) → Serves x a → 0 < a.promised_records → x.flags flag.tid ≡ None → AtMost 63 tid_eq (λ t. is_some (x.flags t))
    → IsGiven a.server x.epoch flag.tid.server flag.tid.epoch → Serves (made_by (AddFlag flag) x) (with_flag_more a)
serves_flagged x a flag s promise new room given = record {
  orderly = orderly-put a.server x flag s.orderly new room given;
  counted = record {
    works = s.counted.works;
    flags = flag.tid ∷ s.counted.flags;
    files = s.counted.files;
    blocks = s.counted.blocks;
    maps = s.counted.maps;
    works_all = s.counted.works_all;
    flags_all = listing-more tid_eq tid_tells flag.tid _ _ _ (ap is_some new) (λ u. grind arith) s.counted.flags_all;
    files_all = s.counted.files_all;
    blocks_all = s.counted.blocks_all;
    maps_all = s.counted.maps_all;
    records = omega (arith, s.counted.records, s.records_fit, promise);
    heads_used = s.counted.heads_used;
    pages = s.counted.pages;
    promises = s.counted.promises;
  };
  records_fit = omega (arith, s.records_fit, promise);
  heads_fit = s.heads_fit;
  next_fits = s.next_fits;
  held_fits = s.held_fits;
  maps_fit = s.maps_fit;
}

pub serves_promised : (x : StableState) (a : Accounts) (n : ℕ) → Serves x a → n ≤ a.free_records → Serves x (with_promises a n)
serves_promised x a n s fits = record {
  orderly = s.orderly;
  counted = record {
    works = s.counted.works;
    flags = s.counted.flags;
    files = s.counted.files;
    blocks = s.counted.blocks;
    maps = s.counted.maps;
    works_all = s.counted.works_all;
    flags_all = s.counted.flags_all;
    files_all = s.counted.files_all;
    blocks_all = s.counted.blocks_all;
    maps_all = s.counted.maps_all;
    records = s.counted.records;
    heads_used = s.counted.heads_used;
    pages = s.counted.pages;
    promises = s.counted.promises;
  };
  records_fit = fits;
  heads_fit = s.heads_fit;
  next_fits = s.next_fits;
  held_fits = s.held_fits;
  maps_fit = s.maps_fit;
}
