-- A put of a plain list is two puts of its device.
use Rattle.std.proofs.Common.{Result, Ok, Err, ⊎_elim, ◌≡◌, ◌≢◌, ◌⊎◌, inl, inr, ℕ, ◌+◌, ◌-◌, ◌*◌, ◌<◌, ◌≤◌, true, false, List, [], length, refl, sym, ◌∙◌, ap, subst, arith}
use Rattle.std.specs.Prelude.{nat_eq, nat_lt, if◌then◌else◌, slice_set, slice_index_or}
use Rattle.std.proofs.lemmas.Bool.{cases_eq}
use Rattle.std.proofs.lemmas.Bool.Decides.{nat_tests}
use Rattle.std.proofs.lemmas.List.{get_or-set_same, get_or-set_other, length-set}
use Rattle.jn_device.specs.Device.{DeviceState}
use Rattle.jn_base.specs.Counts.{bumped}
use Rattle.jn_device.specs.Calls.{PutStep}
use Rattle.jn_device.specs.Happens.{Happens, put, joined}
use Rattle.jn_base.specs.declared.device.Stopped.{Stopped}
use Rattle.jn_device.proofs.Later.{spends_refl}
use Rattle.jn_store.specs.Store.{Candidate, IsServed, IsWholePage, StoreGot, StorePut, StoreCleaned}
use Rattle.jn_store.specs.PlainList.{array_page, array_device, array_view}
use Rattle.jn_store.proofs.Laws.{later_refl, same_refl}

-- the place of a half in the list
abbrev place : List (List ℕ) → ℕ → ℕ
place xs q = if nat_lt q (length xs) then q else q - length xs

module _ (xs : List (List ℕ)) (i : ℕ) (page : List ℕ) (below : i < length xs) where
  bytes_same : (q : ℕ) → place xs q ≡ i → (array_page (slice_set xs i page) q).bytes ≡ page
  bytes_same q at = ap (λ n. slice_index_or (slice_set xs i page) (if nat_lt q n then q else q - n) []) (length-set xs i page) ∙ ap (λ k. slice_index_or (slice_set xs i page) k []) at ∙ get_or-set_same xs i page [] below

  bytes_other : (q : ℕ) → place xs q ≢ i → (array_page (slice_set xs i page) q).bytes ≡ (array_page xs q).bytes
  bytes_other q away = ap (λ n. slice_index_or (slice_set xs i page) (if nat_lt q n then q else q - n) []) (length-set xs i page) ∙ get_or-set_other xs i (place xs q) page [] away

  page_same : (q : ℕ) → place xs q ≡ i → array_page (slice_set xs i page) q ≡ record { good = true; bytes = page; missed = false; fails = 0 }
  page_same q at = ap (λ (bytes : List ℕ). record { good = true; bytes = bytes; missed = false; fails = 0 }) (bytes_same q at)

  page_other : (q : ℕ) → place xs q ≢ i → array_page (slice_set xs i page) q ≡ array_page xs q
  page_other q away = ap (λ (bytes : List ℕ). record { good = true; bytes = bytes; missed = false; fails = 0 }) (bytes_other q away)

  abbrev first_put : ℕ → DeviceState
  first_put n = record (array_device xs n) { pages = λ q. if nat_eq q i then array_page (slice_set xs i page) q else array_page xs q; calls = bumped n; puts = bumped n }

  at_i : place xs i ≡ i
  at_i = grind (arith, nat_tests)

  at_partner : place xs (i + length xs) ≡ i
  at_partner = grind (arith, nat_tests)

  first_step : (n : ℕ) → PutStep (array_device xs n) i page false (first_put n)
  first_step n = record {
    call = record { count = refl; power = refl; waiting = refl; told_is = refl; calls = refl; stops_are = refl };
    answers = refl;
    page = let t : nat_eq i i ≡ true = grind (arith, nat_tests) in ap (λ b. if b then array_page (slice_set xs i page) i else array_page xs i) t ∙ page_same i at_i;
    others = λ q away. let t : nat_eq q i ≡ false = grind (arith, nat_tests) in ap (λ b. if b then array_page (slice_set xs i page) q else array_page xs q) t;
    puts = refl;
  }

  -- all but the second half
  other_pages : (q : ℕ) → q ≢ i + length xs → array_page (slice_set xs i page) q ≡ (if nat_eq q i then array_page (slice_set xs i page) q else array_page xs q)
  other_pages q away = elim (cases_eq q i) [
    | inl e ↦ let t : nat_eq q i ≡ true = grind (arith, nat_tests) in sym (ap (λ b. if b then array_page (slice_set xs i page) q else array_page xs q) t)
    | inr ne ↦ let t : nat_eq q i ≡ false = grind (arith, nat_tests) in let p : place xs q ≢ i = (λ e. grind (arith, nat_tests)) in page_other q p ∙ sym (ap (λ b. if b then array_page (slice_set xs i page) q else array_page xs q) t)
  ]

  second_step : (n : ℕ) → PutStep (first_put n) (i + length xs) page false (array_device (slice_set xs i page) (bumped (bumped n)))
  second_step n = record {
    call = record { count = ap (λ k. 2 * k) (length-set xs i page); power = refl; waiting = refl; told_is = refl; calls = refl; stops_are = refl };
    answers = refl;
    page = let t : nat_eq (i + length xs) i ≡ false = grind (arith, nat_tests) in
        page_same (i + length xs) at_partner ∙ ap (λ b. record { good = true; bytes = page; missed = false; fails = (if b then array_page (slice_set xs i page) (i + length xs) else array_page xs (i + length xs)).fails }) (sym t);
    others = λ q away. other_pages q away;
    puts = refl;
  }

  pub array_put : (n : ℕ) → Happens (array_device xs n) (array_device (slice_set xs i page) (bumped (bumped n)))
  array_put n = joined _ (first_put n) _ (put _ _ i page false (grind arith) (first_step n)) (put _ _ (i + length xs) page false (grind arith) (second_step n))

-- ---- each call as a step of the store

still : (count : ℕ) (xs : List (List ℕ)) (n : ℕ) → IsServed (array_view count xs n) (array_view count xs n)
still count xs n = record { power = refl; stops = refl }

is_whole : (count : ℕ) (xs : List (List ℕ)) (n i : ℕ) → IsWholePage (array_view count xs n) i
is_whole count xs n i = record { both = refl; clean = refl }

abbrev ok_or : Result (List ℕ) Stopped → List ℕ → List ℕ
ok_or (Ok x) d = x
ok_or (Err e) d = d

pub array_got : (count : ℕ) (xs : List (List ℕ)) (n i : ℕ) (page : List ℕ) → page ≡ slice_index_or xs i [] → StoreGot (array_view count xs n) i (Ok page) (array_view count xs n)
array_got count xs n i page is = record {
  later = later_refl (array_view count xs n);
  calls = omega arith;
  puts = refl;
  found = λ x e. inl (sym (ap (λ (r : Result (List ℕ) Stopped). ok_or r []) e) ∙ is);
  same = λ j. same_refl _ j;
  served = λ _. still count xs n;
  stop = λ e. absurd (cc e);
  calm = λ _. refl;
}

pub array_cleaned : (count : ℕ) (xs : List (List ℕ)) (n i : ℕ) → StoreCleaned (array_view count xs n) i (Ok false) (array_view count xs n)
array_cleaned count xs n i = record {
  later = later_refl (array_view count xs n);
  calls = omega arith;
  kept = λ x h. h;
  clean = λ _. refl;
  others = λ j _ _. same_refl _ j;
  wrote = λ e. absurd (cc e);
  unwritten = λ _. (refl, λ j. same_refl _ j);
  needless = λ _ _. refl;
  served = λ _. still count xs n;
  stop = λ e. absurd (cc e);
  calm = λ _. (refl, is_whole count xs n i);
}

twice_up : (n : ℕ) → (n ≤ bumped (bumped n)) × (bumped (bumped n) ≤ n + 2)
twice_up n = (grind (arith, nat_tests), grind (arith, nat_tests))

pub array_stored : (count : ℕ) (xs : List (List ℕ)) (n i : ℕ) (page : List ℕ) (m : ℕ) → i < length xs → m ≡ bumped (bumped n) → StorePut (array_view count xs n) i page true (array_view count (slice_set xs i page) m)
array_stored count xs n i page m below is = subst (λ k. StorePut (array_view count xs n) i page true (array_view count (slice_set xs i page) k)) (sym is) (record {
  later = record {
    happens = λ from h. joined from _ _ h (array_put xs i page below n);
    count = refl;
    calls = (twice_up n).0;
    puts = (twice_up n).0;
    stops = omega arith;
    spends = spends_refl [] [] true;
    quiet = λ _. refl;
    calm = λ _. record { quiet = refl; power = refl };
    no_stop = λ _. refl;
    whole = λ _ j _ _. record { both = refl; clean = refl };
  };
  calls = let up = (twice_up n).1 in omega (arith, up);
  done = λ _. record { first = get_or-set_same xs i page [] below; second = get_or-set_same xs i page [] below };
  part = λ x here. ⊎_elim (λ e. by x e) (λ e. by x e) here;
  others = λ j _ away. record { first = get_or-set_other xs i j page [] away; second = get_or-set_other xs i j page [] away };
  served = λ _. record { power = refl; stops = refl };
  stop = λ e. absurd (cc e);
  calm = λ _. (refl, record { both = refl; clean = refl });
})
  where
    by : (x : List ℕ) → x ≡ slice_index_or (slice_set xs i page) i [] → (x ≡ page) ⊎ Candidate (array_view count xs n) i x
    by x e = inl (e ∙ get_or-set_same xs i page [] below)
