-- A table is loaded: heads and map pages are read, and what is free is counted out.
use Rattle.jn_files.proofs.Common.{◌≡◌, ◌≢◌, ◌⊎◌, ⊎_elim, inl, inr, ◌<◌, ◌≤◌, ◌+◌, ◌-◌, ◌++◌, ℕ, zero, suc, Bool, true, List, [], ◌∷◌, length, take, Result, Ok, refl, sym, ap, subst, ◌∙◌, arith, slice_set, slice_index, count_by, is_ok, nat_lt, if◌then◌else◌, cases_eq, nat_tests, get_or-set_same, get_or-set_other, length-set, Stopped, FileNo, most_maps, Head, Free, Used, head_page, map_page, head_map, map_count, maps_named, PageCounts, head_place, data_place, page_count, StoreView, StoreCleaned, StoreGot, IsServed, IsOnly, Candidate, Shrinks, later_trans, same_trans, same_shrinks, head_in, row_at, IsHeadOf, IsMapRow, MapsLoadable, IsHeadAt, StoreRead, IsMapOfHead, IsMapOfHeads, one_if, AreMapPages, MapsCleaned, MapsMended, IsWholePage, StoreLater, IsRowRead, IsRowKept, MapsRead, MapsHeld, KeepsPower}
use Rattle.std.proofs.lemmas.List.Sums.{sum_by-cons}
use Rattle.jn_files.proofs.Cells.{map_within}
use Rattle.jn_files.proofs.Cutting.{maps_length}
use Rattle.jn_files.proofs.Said.{same_only}

-- ---- the heads' pages

-- the first slots are read
pub record ReadTo (g : PageCounts) (v : StoreView) (n : ℕ) (slots : List Head) (w : StoreView) : Type 0 where
  pub front : (heads : List Head) → MapsLoadable g heads v → slots ≡ take n heads
  pub read : StoreRead v n w
  pub power : 0 < n → w.power ≡ true
  pub stops : w.stops ≡ v.stops

pub read_more : (u v w : StoreView) (n : ℕ) → StoreRead u n v → StoreRead v 1 w → StoreRead u (n + 1) w
read_more u v w n before after = record {
  later = later_trans u v w before.later after.later;
  calls = let a = before.calls in let b = after.calls in omega (arith, a, b);
  puts = after.puts ∙ before.puts;
  same = λ j. same_trans u v w j (before.same j) (after.same j);
}

take_next : (heads : List Head) (n : ℕ) → n < length heads → take (n + 1) heads ≡ take n heads ++ head_in heads n ∷ []
take_next [] n lt = absurd (omega (arith, lt))
take_next (h ∷ hs) zero lt = refl
take_next (h ∷ hs) (suc n) lt = ap (λ (k : ℕ). take k (h ∷ hs)) (let e : suc n + 1 ≡ suc (n + 1) = omega arith in e) ∙ ap (λ l. h ∷ l) (take_next hs n (omega (arith, lt)))

module _ (g : PageCounts) (u v : StoreView) (n : ℕ) (slots : List Head) (so_far : ReadTo g u n slots v) (below : n < g.heads) where
  pub head_stands : (heads : List Head) → MapsLoadable g heads u → IsHeadAt v (head_place g n) g.leaves (head_in heads n)
  head_stands heads loadable = record {
    only = same_only u v (head_place g n) (head_page (head_in heads n)) (so_far.read.same (head_place g n)) (loadable.stored n (let s = loadable.slots in omega (arith, s, below)));
    head = loadable.each n;
  }

  pub reads_more : (w : StoreView) (next : List Head) (head : Head) → next ≡ slots ++ head ∷ [] → ((h : Head) → IsHeadAt v (head_place g n) g.leaves h → head ≡ h) → StoreRead v 1 w → IsServed v w → ReadTo g u (n + 1) next w
  reads_more w next head e found read served = record {
    front = λ heads loadable. e ∙ ap (λ (l : List Head). l ++ head ∷ []) (so_far.front heads loadable) ∙ ap (λ (h : Head). take n heads ++ h ∷ []) (found (head_in heads n) (head_stands heads loadable))
        ∙ sym (take_next heads n (let s = loadable.slots in omega (arith, s, below)));
    read = read_more u v w n so_far.read read;
    power = λ lt. served.power;
    stops = served.stops ∙ so_far.stops;
  }

-- ---- what is cleaned

module _ (g : PageCounts) where
  -- more data pages, and more calls
  pub cleaned_within : (A C : ℕ → Type 0) (m n : ℕ) (v w : StoreView) → ((d : ℕ) → A d → C d) → m ≤ n → MapsCleaned g A m v w → MapsCleaned g C n v w
  cleaned_within A C m n v w to le is = record {
    later = is.later;
    calls = let k = is.calls in omega (arith, k, le);
    fewer = is.fewer;
    others = λ i lt none. is.others i lt (λ d a. none d (to d a));
  }

  pub cleaned_then : (A B C : ℕ → Type 0) (m n k : ℕ) (u v w : StoreView) → ((d : ℕ) → A d → C d) → ((d : ℕ) → B d → C d) → m + n ≤ k → MapsCleaned g A m u v → MapsCleaned g B n v w → MapsCleaned g C k u w
  cleaned_then A B C m n k u v w to_a to_b le first second = record {
    later = later_trans u v w first.later second.later;
    calls = let a = first.calls in let b = second.calls in omega (arith, a, b, le);
    fewer = λ i lt x here. first.fewer i lt x (second.fewer i (on i lt) x here);
    others = λ i lt none. same_trans u v w i (first.others i lt (λ d a. none d (to_a d a))) (second.others i (on i lt) (λ d b. none d (to_b d b)));
  }
    where
      on : (i : ℕ) → i < u.count → i < v.count
      on i lt = let e = first.later.count in omega (arith, e, lt)

  -- ---- what is read

  still_read : (v w : StoreView) (rows new : List (List ℕ)) (d : ℕ) → IsRowRead g v rows d → IsRowRead g w new d ⊎ IsRowKept g v rows w new d → IsRowRead g w new d
  still_read v w rows new d was (inl again) = again
  still_read v w rows new d was (inr kept) = record {
    only = rw kept.row (same_only v w (data_place g d) (map_page (row_at rows d)) kept.same was.only);
    row = rw kept.row was.row;
  }

  pub reads_then : (A B C : ℕ → Type 0) (u v w : StoreView) (rows mid new : List (List ℕ)) → ((d : ℕ) → C d → A d ⊎ B d) → MapsRead g A u rows v mid → MapsRead g B v mid w new → MapsRead g C u rows w new
  reads_then A B C u v w rows mid new from first second = record {
    count = second.count ∙ first.count;
    each = λ d lt. both d (first.each d lt) (second.each d lt);
    read = λ d lt c. ⊎_elim (λ a. still_read v w mid new d (first.read d lt a) (second.each d lt)) (λ b. second.read d lt b) (from d c);
  }
    where
      both : (d : ℕ) → IsRowRead g v mid d ⊎ IsRowKept g u rows v mid d → IsRowRead g w new d ⊎ IsRowKept g v mid w new d → IsRowRead g w new d ⊎ IsRowKept g u rows w new d
      both d (inl was) then_so = inl (still_read v w mid new d was then_so)
      both d (inr kept) (inl again) = inl again
      both d (inr kept) (inr more) = inr (record { same = same_trans u v w (data_place g d) kept.same more.same; row = more.row ∙ kept.row })

  -- rows that are held, once others are read
  pub held_then : (A B C : ℕ → Type 0) (v w : StoreView) (rows new : List (List ℕ)) → ((d : ℕ) → C d → A d ⊎ B d) → MapsHeld g A rows v → MapsRead g B v rows w new → MapsHeld g C new w
  held_then A B C v w rows new from held reads = record {
    rows_are = record { count = reads.count ∙ held.rows_are.count; each = λ d lt. row d lt (reads.each d lt) };
    read = λ d lt c. ⊎_elim (λ a. still_read v w rows new d (held.read d lt a) (reads.each d lt)) (λ b. reads.read d lt b) (from d c);
  }
    where
      row : (d : ℕ) → d < g.leaves → IsRowRead g w new d ⊎ IsRowKept g v rows w new d → IsMapRow g.leaves (row_at new d)
      row d lt (inl again) = again.row
      row d lt (inr kept) = rw kept.row (held.rows_are.each d lt)

  -- ---- one map page

  module _ (v : StoreView) (address : ℕ) (fits : v.count ≡ page_count g) (low : address ≤ g.leaves) where
    abbrev these : ℕ → Type 0
    these d = address ≡ suc d

    -- the place is that of the data page
    module _ (some : address ≢ 0) (place : ℕ) (at : place ≡ data_place g (address - 1)) where
      its_page : address ≡ suc (address - 1)
      its_page = omega (arith, some)

      one : one_if address ≡ 1
      one = let t : nat_lt 0 address ≡ true = grind (arith, nat_tests, some) in rw t refl

      not_place : (i : ℕ) → ((d : ℕ) → these d → i ≢ data_place g d) → i ≢ place
      not_place i none e = none (address - 1) its_page (e ∙ at)

      module _ (answer : Result Bool Stopped) (w : StoreView) (step : StoreCleaned v place answer w) where
        pub one_cleaned : MapsCleaned g (λ d. address ≡ suc d) (one_if address) v w
        one_cleaned = record {
          later = step.later;
          calls = let n = step.calls in let e = one in omega (arith, n, e);
          fewer = λ i lt. elim (cases_eq i place) [
            | inl e ↦ subst (Shrinks v w) (sym e) step.kept
            | inr ne ↦ same_shrinks v w i (step.others i lt ne)
          ];
          others = λ i lt none. step.others i lt (not_place i none);
        }

        module _ (page : Result (List ℕ) Stopped) (x : StoreView) (got : StoreGot w place page x) where
          pub one_got : MapsCleaned g (λ d. address ≡ suc d) (one_if address) v x
          one_got = record {
            later = later_trans v w x step.later got.later;
            calls = let n = step.calls in let m = got.calls in let e = one in omega (arith, n, m, e);
            fewer = λ i lt y here. one_cleaned.fewer i lt y (same_shrinks w x i (got.same i) y here);
            others = λ i lt none. same_trans v w x i (one_cleaned.others i lt none) (got.same i);
          }

          pub one_mended : MapsMended g (λ d. address ≡ suc d) v x
          one_mended = λ calm d lt t. got.later.whole (step.later.calm calm) (data_place g d) (let e = step.later.count in omega (arith, lt, fits, e))
              (subst (IsWholePage w) (let e : place ≡ data_place g d = omega (arith, at, t) in e) (step.calm calm).1)

          -- the page that is found was a candidate before, and is the only one now
          pub was_candidate : (y : List ℕ) → page ≡ Ok y → Candidate v (data_place g (address - 1)) y
          was_candidate y e = subst (λ i. Candidate v i y) at (step.kept y (got.found y e))

          only_now : (y : List ℕ) → page ≡ Ok y → is_ok answer ≡ true → IsOnly x place y
          only_now y e done =
              let clean = step.clean done in
              let same = got.same place in
              ⊎_elim (λ (here : y ≡ w.first place). let only : IsOnly x place y = record { first = same.first ∙ sym here; second = same.second ∙ sym clean ∙ sym here } in only)
              (λ (here : y ≡ w.second place). let only : IsOnly x place y = record { first = same.first ∙ clean ∙ sym here; second = same.second ∙ sym here } in only)
              (got.found y e)

          pub one_read : (rows new : List (List ℕ)) (y row : List ℕ) → page ≡ Ok y → is_ok answer ≡ true → length rows ≡ g.leaves → new ≡ slice_set rows (address - 1) row → y ≡ map_page row → IsMapRow g.leaves row
              → MapsRead g (λ d. address ≡ suc d) v rows x new
          one_read rows new y row e done long new_is spelled is_row = record {
            count = ap length new_is ∙ length-set rows (address - 1) row;
            each = λ d lt. elim (cases_eq d (address - 1)) [
              | inl same ↦ inl (here d same)
              | inr ne ↦ inr (record {
                same = same_trans v w x (data_place g d) (step.others (data_place g d) (omega (arith, lt, fits)) (λ p. ne (omega (arith, p, at)))) (got.same (data_place g d));
                row = ap (λ l. row_at l d) new_is ∙ get_or-set_other rows (address - 1) d row [] ne;
              })
            ];
            read = λ d lt t. here d (omega (arith, t));
          }
            where
              row_is : row_at new (address - 1) ≡ row
              row_is = ap (λ l. row_at l (address - 1)) new_is ∙ get_or-set_same rows (address - 1) row [] (omega (arith, long, low, some))

              here : (d : ℕ) → d ≡ address - 1 → IsRowRead g x new d
              here d same = rw same (record {
                only = rw row_is (subst (λ (i : ℕ). IsOnly x i (map_page row)) at (subst (λ (z : List ℕ). IsOnly x place z) spelled (only_now y e done)));
                row = rw row_is is_row;
              })

-- ---- which of them are whole

-- what is whole stays so
pub mended_then : (g : PageCounts) (A B C : ℕ → Type 0) (u v w : StoreView) → u.count ≡ page_count g → StoreLater u v → StoreLater v w → ((d : ℕ) → C d → A d ⊎ B d) → MapsMended g A u v → MapsMended g B v w → MapsMended g C u w
mended_then g A B C u v w fits first second from before more calm d lt c = ⊎_elim
    (λ a. second.whole (first.calm calm) (data_place g d) (let e = first.count in omega (arith, lt, fits, e)) (before calm d lt a))
    (λ b. more (first.calm calm) d lt b) (from d c)

-- ---- how many map pages

-- of the first n
pub maps_to : Head → ℕ → ℕ
maps_to h zero = 0
maps_to h (suc n) = maps_to h n + one_if (head_map h n)

pub maps_to_next : (h : Head) (n : ℕ) → maps_to h (n + 1) ≡ maps_to h n + one_if (head_map h n)
unfolding maps_to
maps_to_next h n = ap (maps_to h) (let e : n + 1 ≡ suc n = omega arith in e)

pub maps_rise : (h : Head) (n m : ℕ) → n ≤ m → maps_to h n ≤ maps_to h m
unfolding maps_to
maps_rise h n zero le = let e : n ≡ 0 = omega (arith, le) in let same : maps_to h n ≡ maps_to h 0 = ap (maps_to h) e in omega (arith, same)
maps_rise h n (suc m) le = elim (cases_eq n (suc m)) [
  | inl e ↦ let same : maps_to h n ≡ maps_to h (suc m) = ap (maps_to h) e in omega (arith, same)
  | inr ne ↦ let less = maps_rise h n m (omega (arith, le, ne)) in omega (arith, less)
]

entries_to : List ℕ → ℕ → ℕ
entries_to maps zero = 0
entries_to maps (suc n) = entries_to maps n + one_if (slice_index maps n)

entries_first : (m : ℕ) (maps : List ℕ) (n : ℕ) → entries_to (m ∷ maps) (suc n) ≡ one_if m + entries_to maps n
unfolding entries_to
entries_first m maps zero = omega arith
entries_first m maps (suc n) = let rest = entries_first m maps n in omega (arith, rest)

entries_all : (maps : List ℕ) → entries_to maps (length maps) ≡ count_by (nat_lt 0) maps
unfolding entries_to
entries_all [] = refl
entries_all (m ∷ maps) = entries_first m maps (length maps) ∙ ap (λ n. one_if m + n) (entries_all maps) ∙ sym (sum_by-cons (λ (k : ℕ). if nat_lt 0 k then 1 else 0) m maps)

used_to : (f : FileNo) (xs maps : List ℕ) (n : ℕ) → maps_to (Used f xs maps) n ≡ entries_to maps n
unfolding entries_to maps_to
used_to f xs maps zero = refl
used_to f xs maps (suc n) = ap (λ k. k + one_if (slice_index maps n)) (used_to f xs maps n)

free_to : (n : ℕ) → maps_to Free n ≡ 0
unfolding maps_to
free_to zero = refl
free_to (suc n) = rw (free_to n) refl

pub all_maps : (leaves : ℕ) (h : Head) → IsHeadOf leaves h → maps_to h most_maps ≡ map_count h
all_maps leaves Free is = free_to most_maps
all_maps leaves (Used f xs maps) is = used_to f xs maps most_maps ∙ ap (entries_to maps) (sym (maps_length f xs maps is.is_head.whole)) ∙ entries_all maps

-- of the first n heads
pub heads_to : List Head → ℕ → ℕ
heads_to heads zero = 0
heads_to heads (suc n) = heads_to heads n + map_count (head_in heads n)

pub heads_to_next : (heads : List Head) (n : ℕ) → heads_to heads (n + 1) ≡ heads_to heads n + map_count (head_in heads n)
unfolding heads_to
heads_to_next heads n = ap (heads_to heads) (let e : n + 1 ≡ suc n = omega arith in e)

pub heads_rise : (heads : List Head) (n m : ℕ) → n ≤ m → heads_to heads n ≤ heads_to heads m
unfolding heads_to
heads_rise heads n zero le = let e : n ≡ 0 = omega (arith, le) in let same : heads_to heads n ≡ heads_to heads 0 = ap (heads_to heads) e in omega (arith, same)
heads_rise heads n (suc m) le = elim (cases_eq n (suc m)) [
  | inl e ↦ let same : heads_to heads n ≡ heads_to heads (suc m) = ap (heads_to heads) e in omega (arith, same)
  | inr ne ↦ let less = heads_rise heads n m (omega (arith, le, ne)) in omega (arith, less)
]

heads_first : (h : Head) (heads : List Head) (n : ℕ) → heads_to (h ∷ heads) (suc n) ≡ map_count h + heads_to heads n
unfolding heads_to
heads_first h heads zero = omega arith
heads_first h heads (suc n) = let rest = heads_first h heads n in omega (arith, rest)

pub all_heads : (heads : List Head) → heads_to heads (length heads) ≡ maps_named heads
unfolding heads_to
all_heads [] = refl
all_heads (h ∷ heads) = heads_first h heads (length heads) ∙ ap (λ n. map_count h + n) (all_heads heads)

-- ---- which map pages

pub map_first : (h : Head) (n m d : ℕ) → n ≤ m → IsMapOfHead h n d → IsMapOfHead h m d
map_first h n m d le is = record { map = is.map; below = let lt = is.below in omega (arith, lt, le); names = is.names }

pub map_next : (h : Head) (n d : ℕ) → head_map h n ≡ suc d → IsMapOfHead h (n + 1) d
map_next h n d e = record { map = n; below = omega arith; names = e }

pub map_of : (h : Head) (n d : ℕ) → IsMapOfHead h (n + 1) d → IsMapOfHead h n d ⊎ (head_map h n ≡ suc d)
map_of h n d is = elim (cases_eq is.map n) [
  | inl e ↦ inr (subst (λ (k : ℕ). head_map h k ≡ suc d) e is.names)
  | inr ne ↦ inl (record { map = is.map; below = let lt = is.below in omega (arith, lt, ne); names = is.names })
]

pub head_first : (heads : List Head) (n m d : ℕ) → n ≤ m → IsMapOfHeads heads n d → IsMapOfHeads heads m d
head_first heads n m d le is = record { slot = is.slot; before = let lt = is.before in omega (arith, lt, le); of_head = is.of_head }

pub head_next : (heads : List Head) (n d : ℕ) → IsMapOfHead (head_in heads n) most_maps d → IsMapOfHeads heads (n + 1) d
head_next heads n d is = record { slot = n; before = omega arith; of_head = is }

pub head_of : (heads : List Head) (n d : ℕ) → IsMapOfHeads heads (n + 1) d → IsMapOfHeads heads n d ⊎ IsMapOfHead (head_in heads n) most_maps d
head_of heads n d is = elim (cases_eq is.slot n) [
  | inl e ↦ inr (subst (λ (k : ℕ). IsMapOfHead (head_in heads k) most_maps d) e is.of_head)
  | inr ne ↦ inl (record { slot = is.slot; before = let lt = is.before in omega (arith, lt, ne); of_head = is.of_head })
]

-- ---- the map pages of one head, and of all

pub power_then : (u v w : StoreView) → KeepsPower u v → KeepsPower v w → KeepsPower u w
power_then u v w first second = record { power = λ p. second.power (first.power p); stops = second.stops ∙ first.stops }

module _ (g : PageCounts) (h : Head) (head : IsHeadOf g.leaves h) (v : StoreView) (fits : v.count ≡ page_count g) where
  -- the candidates of the next map page are those of before
  pub pages_still : AreMapPages g (IsMapOfHead h most_maps) v → (n : ℕ) → n < most_maps → (now : StoreView) → MapsCleaned g (λ d. IsMapOfHead h n d) (maps_to h n) v now → (address : ℕ) → address ≡ head_map h n
      → AreMapPages g (λ d. address ≡ suc d) now
  pages_still pages n lt now so_far address is d e page here =
      let names : head_map h n ≡ suc d = sym is ∙ e in
      let within = map_within g.leaves h n head in
      pages d (record { map = n; below = lt; names = names }) page (so_far.fewer (data_place g d) (omega (arith, names, within, fits)) page here)

  pub step_cleaned : (n : ℕ) (now w : StoreView) → MapsCleaned g (λ d. IsMapOfHead h n d) (maps_to h n) v now → (address : ℕ) → address ≡ head_map h n → MapsCleaned g (λ d. address ≡ suc d) (one_if address) now w
      → MapsCleaned g (λ d. IsMapOfHead h (n + 1) d) (maps_to h (n + 1)) v w
  step_cleaned n now w so_far address is more = cleaned_then g (λ d. IsMapOfHead h n d) (λ d. address ≡ suc d) (λ d. IsMapOfHead h (n + 1) d) (maps_to h n) (one_if address) (maps_to h (n + 1)) v now w
      (λ d m. map_first h n (n + 1) d (omega arith) m) (λ d e. map_next h n d (sym is ∙ e)) (let sum = maps_to_next h n in let same : one_if address ≡ one_if (head_map h n) = ap one_if is in omega (arith, sum, same)) so_far more

  pub whole_cleaned : (n : ℕ) → n ≤ most_maps → (w : StoreView) → MapsCleaned g (λ d. IsMapOfHead h n d) (maps_to h n) v w → MapsCleaned g (λ d. IsMapOfHead h most_maps d) (map_count h) v w
  whole_cleaned n le w so_far = cleaned_within g (λ d. IsMapOfHead h n d) (λ d. IsMapOfHead h most_maps d) (maps_to h n) (map_count h) v w (λ d m. map_first h n most_maps d le m)
      (let rise = maps_rise h n most_maps le in let all = all_maps g.leaves h head in omega (arith, rise, all)) so_far

  pub step_read : (n : ℕ) (now w : StoreView) (rows mid new : List (List ℕ)) → MapsRead g (λ d. IsMapOfHead h n d) v rows now mid → (address : ℕ) → address ≡ head_map h n → MapsRead g (λ d. address ≡ suc d) now mid w new
      → MapsRead g (λ d. IsMapOfHead h (n + 1) d) v rows w new
  step_read n now w rows mid new so_far address is more = reads_then g (λ d. IsMapOfHead h n d) (λ d. address ≡ suc d) (λ d. IsMapOfHead h (n + 1) d) v now w rows mid new
      (λ d m. ⊎_elim (λ first. inl first) (λ e. inr (is ∙ e)) (map_of h n d m)) so_far more

  pub step_mended : (n : ℕ) (now w : StoreView) → StoreLater v now → StoreLater now w → MapsMended g (λ d. IsMapOfHead h n d) v now → (address : ℕ) → address ≡ head_map h n → MapsMended g (λ d. address ≡ suc d) now w
      → MapsMended g (λ d. IsMapOfHead h (n + 1) d) v w
  step_mended n now w first second so_far address is more = mended_then g (λ d. IsMapOfHead h n d) (λ d. address ≡ suc d) (λ d. IsMapOfHead h (n + 1) d) v now w fits first second
      (λ d m. ⊎_elim (λ before. inl before) (λ e. inr (is ∙ e)) (map_of h n d m)) so_far more

module _ (g : PageCounts) (heads : List Head) (are : (slot : ℕ) → IsHeadOf g.leaves (head_in heads slot)) (v : StoreView) (fits : v.count ≡ page_count g) where
  pub heads_still : AreMapPages g (IsMapOfHeads heads (length heads)) v → (n : ℕ) → n < length heads → (now : StoreView) → MapsCleaned g (λ d. IsMapOfHeads heads n d) (heads_to heads n) v now → (h : Head) → h ≡ head_in heads n
      → AreMapPages g (IsMapOfHead h most_maps) now
  heads_still pages n lt now so_far h is d m page here =
      let its : IsMapOfHead (head_in heads n) most_maps d = subst (λ (x : Head). IsMapOfHead x most_maps d) is m in
      let names = its.names in
      let within = map_within g.leaves (head_in heads n) its.map (are n) in
      pages d (record { slot = n; before = lt; of_head = its }) page (so_far.fewer (data_place g d) (omega (arith, names, within, fits)) page here)

  pub next_cleaned : (n : ℕ) (now w : StoreView) → MapsCleaned g (λ d. IsMapOfHeads heads n d) (heads_to heads n) v now → (h : Head) → h ≡ head_in heads n → MapsCleaned g (λ d. IsMapOfHead h most_maps d) (map_count h) now w
      → MapsCleaned g (λ d. IsMapOfHeads heads (n + 1) d) (heads_to heads (n + 1)) v w
  next_cleaned n now w so_far h is more = cleaned_then g (λ d. IsMapOfHeads heads n d) (λ d. IsMapOfHead h most_maps d) (λ d. IsMapOfHeads heads (n + 1) d) (heads_to heads n) (map_count h) (heads_to heads (n + 1)) v now w
      (λ d m. head_first heads n (n + 1) d (omega arith) m) (λ d m. head_next heads n d (subst (λ (x : Head). IsMapOfHead x most_maps d) is m))
      (let sum = heads_to_next heads n in let same : map_count h ≡ map_count (head_in heads n) = ap map_count is in omega (arith, sum, same)) so_far more

  pub all_cleaned : (n : ℕ) → n ≤ length heads → (w : StoreView) → MapsCleaned g (λ d. IsMapOfHeads heads n d) (heads_to heads n) v w → MapsCleaned g (λ d. IsMapOfHeads heads (length heads) d) (maps_named heads) v w
  all_cleaned n le w so_far = cleaned_within g (λ d. IsMapOfHeads heads n d) (λ d. IsMapOfHeads heads (length heads) d) (heads_to heads n) (maps_named heads) v w (λ d m. head_first heads n (length heads) d le m)
      (let rise = heads_rise heads n (length heads) le in let all = all_heads heads in omega (arith, rise, all)) so_far

  pub next_held : (n : ℕ) (now w : StoreView) (mid new : List (List ℕ)) → MapsHeld g (λ d. IsMapOfHeads heads n d) mid now → (h : Head) → h ≡ head_in heads n → MapsRead g (λ d. IsMapOfHead h most_maps d) now mid w new
      → MapsHeld g (λ d. IsMapOfHeads heads (n + 1) d) new w
  next_held n now w mid new so_far h is more = held_then g (λ d. IsMapOfHeads heads n d) (λ d. IsMapOfHead h most_maps d) (λ d. IsMapOfHeads heads (n + 1) d) now w mid new
      (λ d m. ⊎_elim (λ first. inl first) (λ its. inr (subst (λ (x : Head). IsMapOfHead x most_maps d) (sym is) its)) (head_of heads n d m)) so_far more

  pub next_mended : (n : ℕ) (now w : StoreView) → StoreLater v now → StoreLater now w → MapsMended g (λ d. IsMapOfHeads heads n d) v now → (h : Head) → h ≡ head_in heads n → MapsMended g (λ d. IsMapOfHead h most_maps d) now w
      → MapsMended g (λ d. IsMapOfHeads heads (n + 1) d) v w
  next_mended n now w first second so_far h is more = mended_then g (λ d. IsMapOfHeads heads n d) (λ d. IsMapOfHead h most_maps d) (λ d. IsMapOfHeads heads (n + 1) d) v now w fits first second
      (λ d m. ⊎_elim (λ before. inl before) (λ its. inr (subst (λ (x : Head). IsMapOfHead x most_maps d) (sym is) its)) (head_of heads n d m)) so_far more
