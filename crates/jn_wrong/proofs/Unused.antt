-- What is free on pages on which nothing is stored.
use Rattle.jn_wrong.proofs.Common.{◌≡◌, ◌+◌, ◌-◌, ◌||◌, ℕ, suc, Bool, true, false, not, if◌then◌else◌, List, [], ◌∷◌, length, is_some, list_any, true≢false, refl, sym, ◌∙◌, ap, arith, FileNo, WorkId, Tid, work_eq, tid_eq, file_eq, work_tells, tid_tells, file_tells, Counts, Need, StableState, Memory, promised, count_by, is_free, free_count, is_rubbish, rubbish_count, pool_on, heads_on, record_on, head_on, listed, is_free_head, is_free_page, promised_heads, free_on, has_rubbish, CountsAll, Head, FreeHead, Used, Record, Free, Intention, Going, Flag, most_cells, Pages, sum_by-cons, count_by-le-length, contents_of}
use Rattle.jn_records.specs.Intentions.{names_address}
use Rattle.jn_records.specs.Layouts.{Layout, Unused, layout_by, layouts_by, has_address}
use Rattle.jn_records.proofs.Layouts.{has-found}
use Rattle.jn_records.specs.declared.record.Record.TheVariants.{Ready}
use Rattle.jn_storage.specs.Listing.{is_in, IsListing, total}
use Rattle.jn_storage.specs.Orderly.{file_there, list_of}
use Rattle.jn_page_state.specs.Contents.{Contents, heads_name, works_have, holds_intention, layouts_in, entry_of}
use Rattle.jn_page_state.proofs.PageChanges.{length-listed}
use Rattle.jn_wrong.proofs.Doing.{itself}

-- ---- counts

counted-cons : {A : Type 0} (p : A → Bool) (a : A) (xs : List A) → count_by p (a ∷ xs) ≡ (if p a then 1 else 0) + count_by p xs
counted-cons {A} p a xs = sum_by-cons (λ (y : A). if p y then 1 else 0) a xs

neither : (a b : Bool) → a ≡ false → b ≡ false → (a || b) ≡ false
neither false false h k = refl
neither true b h k = absurd (true≢false h)
neither false true h k = absurd (true≢false k)

first-false : (a b : Bool) → (a || b) ≡ false → a ≡ false
first-false false b h = refl
first-false true b h = absurd (true≢false h)

second-false : (a b : Bool) → (a || b) ≡ false → b ≡ false
second-false false b h = h
second-false true b h = absurd (true≢false h)

-- where as many pass as there are, none of another kind is among them
none-other : {A : Type 0} (p q : A → Bool) → ((a : A) → p a ≡ true → q a ≡ false) → (xs : List A) → count_by p xs ≡ length xs → list_any q xs ≡ false
none-other p q apart [] e = refl
none-other p q apart (x ∷ xs) e = by (p x) refl (none-other p q apart xs)
  where
    with-first : (b : Bool) → p x ≡ b → count_by p (x ∷ xs) ≡ (if b then 1 else 0) + count_by p xs
    with-first b t = counted-cons p x xs ∙ ap (λ (c : Bool). (if c then 1 else 0) + count_by p xs) t

    by : (b : Bool) → p x ≡ b → (count_by p xs ≡ length xs → list_any q xs ≡ false) → list_any q (x ∷ xs) ≡ false
    by true t rest = neither (q x) (list_any q xs) (apart x t) (rest (let c = with-first true t in omega (arith, c, e)))
    by false t rest = absurd (let c = with-first false t in let f = count_by-le-length p xs in omega (arith, c, e, f))

counts-none : {A : Type 0} (p : A → Bool) (xs : List A) → list_any p xs ≡ false → count_by p xs ≡ 0
counts-none p [] e = refl
counts-none p (x ∷ xs) e = let c = counted-cons p x xs ∙ ap (λ (b : Bool). (if b then 1 else 0) + count_by p xs) (first-false (p x) (list_any p xs) e) in
    let r = counts-none p xs (second-false (p x) (list_any p xs) e) in omega (arith, c, r)

counts-all : {A : Type 0} (p : A → Bool) (xs : List A) → ((a : A) → p a ≡ true) → count_by p xs ≡ length xs
counts-all p [] h = refl
counts-all p (x ∷ xs) h = let c = counted-cons p x xs ∙ ap (λ (b : Bool). (if b then 1 else 0) + count_by p xs) (h x) in let r = counts-all p xs h in omega (arith, c, r)

-- ---- pages on which each record and each head is free

pub record IsUnused (g : Counts) (pages : Pages) : Type 0 where
  pub records : free_count (pool_on g pages) ≡ g.pool
  pub heads : count_by is_free_head (heads_on g pages) ≡ g.heads

-- the layout of a free head has no data page
unused-has : (d : ℕ) → has_address most_cells (suc d) Unused ≡ false
unused-has d = by (has_address most_cells (suc d) Unused) refl
  where
    by : (b : Bool) → has_address most_cells (suc d) Unused ≡ b → b ≡ false
    by true e = let found = has-found Unused most_cells (suc d) e in absurd (omega (arith, found.2))
    by false e = refl

free-head : (maps : ℕ → ℕ → ℕ) (d : ℕ) (h : Head) → is_free_head h ≡ true → has_address most_cells (suc d) (layout_by maps h) ≡ false
free-head maps d FreeHead e = unused-has d
free-head maps d (Used f addresses head_maps) e = absurd (true≢false (sym e))

-- a test of layouts, head by head
any-laid : (test : Layout → Bool) (maps : ℕ → ℕ → ℕ) (heads : List Head) → list_any test (layouts_by maps heads) ≡ list_any (λ h. test (layout_by maps h)) heads
any-laid test maps [] = refl
any-laid test maps (h ∷ heads) = ap (λ (b : Bool). test (layout_by maps h) || b) (any-laid test maps heads)

free-record : (test : Record → Bool) → test Free ≡ false → (r : Record) → is_free r ≡ true → test r ≡ false
free-record test h Free e = h
free-record test h (Intention w t k i) e = absurd (true≢false (sym e))
free-record test h (Ready head n reads) e = absurd (true≢false (sym e))
free-record test h (Going head n reads) e = absurd (true≢false (sym e))
free-record test h (Flag flag) e = absurd (true≢false (sym e))

abbrev pub so_many : ℕ → ℕ → ℕ → Need
so_many records heads leaves = record { records = records; heads = heads; pages = leaves }

module _ (g : Counts) (pages : Pages) (u : IsUnused g pages) where
  pool-all : free_count (pool_on g pages) ≡ length (pool_on g pages)
  pool-all = u.records ∙ sym (length-listed (record_on g pages) 0 g.pool)

  heads-all : count_by is_free_head (heads_on g pages) ≡ length (heads_on g pages)
  heads-all = u.heads ∙ sym (length-listed (head_on g pages) 0 g.heads)

  abbrev said : Contents
  said = contents_of g pages

  abbrev maps : ℕ → ℕ → ℕ
  maps = entry_of said.blocks

  page-free : (d : ℕ) → is_free_page g pages d ≡ true
  page-free d = ap not (neither (heads_name most_cells (layouts_in said) (suc d)) (works_have (names_address (suc d)) (pool_on g pages))
      (any-laid (has_address most_cells (suc d)) maps (heads_on g pages)
      ∙ none-other is_free_head (λ h. has_address most_cells (suc d) (layout_by maps h)) (free-head maps d) (heads_on g pages) heads-all)
      (none-other is_free (holds_intention (names_address (suc d)) (pool_on g pages)) (free-record (holds_intention (names_address (suc d)) (pool_on g pages)) refl) (pool_on g pages) pool-all))

  pages-all : count_by (is_free_page g pages) (listed (λ d. d) 0 g.leaves) ≡ g.leaves
  pages-all = counts-all (is_free_page g pages) (listed (λ d. d) 0 g.leaves) page-free ∙ length-listed (λ d. d) 0 g.leaves

  -- all is free but what is promised
  pub all-free : (y : StableState) (m : Memory) → free_on g pages y m ≡ so_many (g.pool - promised m.coordinator.transactions) (g.heads - promised_heads y m.worker) g.leaves
  all-free y m = ap (λ (n : ℕ). so_many (n - promised m.coordinator.transactions) (count_by is_free_head (heads_on g pages) - promised_heads y m.worker) (count_by (is_free_page g pages) (listed (λ d. d) 0 g.leaves))) u.records
      ∙ ap (λ (n : ℕ). so_many (g.pool - promised m.coordinator.transactions) (n - promised_heads y m.worker) (count_by (is_free_page g pages) (listed (λ d. d) 0 g.leaves))) u.heads
      ∙ ap (λ (n : ℕ). so_many (g.pool - promised m.coordinator.transactions) (g.heads - promised_heads y m.worker) n) pages-all

  pub no-rubbish : rubbish_count (pool_on g pages) ≡ 0
  no-rubbish = counts-none (is_rubbish (pool_on g pages)) (pool_on g pages) (none-other is_free (is_rubbish (pool_on g pages)) (free-record (is_rubbish (pool_on g pages)) refl) (pool_on g pages) pool-all)

-- ---- where nothing is stored

-- no work, no flag and no file is there
pub record IsEmpty (y : StableState) : Type 0 where
  pub works : (W : WorkId) → is_some (y.works W) ≡ false
  pub flags : (T : Tid) → is_some (y.flags T) ≡ false
  pub files : (f : FileNo) → file_there y.files f ≡ false

no-keys : {A : Type 0} (eq : A → A → Bool) (test : A → Bool) → ((a : A) → eq a a ≡ true) → ((a : A) → test a ≡ false) → (keys : List A) → IsListing eq test keys → length keys ≡ 0
no-keys eq test same none [] listing = refl
no-keys eq test same none (k ∷ ks) listing = absurd (true≢false (sym here ∙ listing.all k ∙ none k))
  where
    here : is_in eq k (k ∷ ks) ≡ true
    here = ap (λ (b : Bool). b || is_in eq k ks) (same k)

no-total : {A : Type 0} (f : A → ℕ) (xs : List A) → length xs ≡ 0 → total f xs ≡ 0
no-total f [] e = refl
no-total f (x ∷ xs) e = absurd (omega (arith, e))

-- with everything counted, and no rubbish, each record and each head is free
pub unused : (g : Counts) (y : StableState) (pages : Pages) → IsEmpty y → CountsAll g y pages → rubbish_count (pool_on g pages) ≡ 0 → IsUnused g pages
unused g y pages none counted rubbish =
    let works = no-keys work_eq (λ W. is_some (y.works W)) (λ W. itself work_eq W (work_tells W W)) none.works counted.works counted.works_all in
    let flags = no-keys tid_eq (λ T. is_some (y.flags T)) (λ T. itself tid_eq T (tid_tells T T)) none.flags counted.flags counted.flags_all in
    let files = no-keys file_eq (file_there y.files) (λ f. itself file_eq f (file_tells f f)) none.files counted.files counted.files_all in
    let lists = no-total (λ W. length (list_of y W)) counted.works works in
    let records = counted.records_all in
    let heads = counted.heads_all in
    record { records = omega (arith, records, works, flags, lists, rubbish); heads = omega (arith, heads, files) }

pub no-rubbish-there : (g : Counts) (pages : Pages) → has_rubbish (pool_on g pages) ≡ false → rubbish_count (pool_on g pages) ≡ 0
no-rubbish-there g pages e = counts-none (is_rubbish (pool_on g pages)) (pool_on g pages) e
