-- One page's put as a change of what the pages say.
use Rattle.jn_page_state.proofs.Common.{◌≡◌, ◌≢◌, inl, inr, ◌<◌, ◌≤◌, ◌+◌, ◌^◌, ℕ, zero, suc, true, false, if◌then◌else◌, List, ◌∷◌, length, set, refl, sym, ap, ◌∙◌, arith, fun_ext, nat_eq, take, cases_eq, nat_tests, Head, Record, head_page, head_at, IsHead, FileFits, root_page, IsRoot, record_page, record_at, root_at, Counts, Pages, slot_place, head_place, data_place, head_is_read, record_is_read, root_is_read, IsRecord, with_page, with_same, with_other, Contents, with_record, with_head, with_block, with_epoch, epoch_by, epoch_in, record_or_free, head_or_free, record_on, head_on, block_on, listed, pool_on, heads_on, contents_of}
use Rattle.jn_records.specs.declared.root.Root.{Root}

-- ---- lists of values by number

module _ {A : Type 0} (f e : ℕ → A) where
  pub listed_same : (i n : ℕ) → ((k : ℕ) → i ≤ k → k < i + n → e k ≡ f k) → listed e i n ≡ listed f i n
  listed_same i zero same = refl
  listed_same i (suc n) same =
      ap (λ x. x ∷ listed e (suc i) n) (same i (omega arith) (omega arith))
      ∙ ap (λ l. f i ∷ l) (listed_same (suc i) n (λ k low high. same k (omega (arith, low)) (omega (arith, high))))

  pub listed_set : (i n s : ℕ) → s < n → ((k : ℕ) → k ≢ i + s → e k ≡ f k) → listed e i n ≡ set (listed f i n) s (e (i + s))
  listed_set i zero s below same = absurd (omega (arith, below))
  listed_set i (suc n) zero below same =
      ap (λ k. e k ∷ listed e (suc i) n) (here i)
      ∙ ap (λ l. e (i + 0) ∷ l) (listed_same (suc i) n (λ k low high. same k (λ h. omega (arith, h, low))))
    where
      here : (i : ℕ) → i ≡ i + 0
      here i = omega arith
  listed_set i (suc n) (suc s) below same =
      ap (λ x. x ∷ listed e (suc i) n) (same i (λ h. omega (arith, h)))
      ∙ ap (λ l. f i ∷ l) (listed_set (suc i) n s (omega (arith, below)) (λ k apart. same k (λ h. apart (omega (arith, h)))))
      ∙ ap (λ k. f i ∷ set (listed f (suc i) n) s (e k)) (next i s)
    where
      next : (i s : ℕ) → suc i + s ≡ i + suc s
      next i s = omega arith

pub length-listed : {A : Type 0} (f : ℕ → A) (i n : ℕ) → length (listed f i n) ≡ n
length-listed f i zero = refl
length-listed f i (suc n) = ap suc (length-listed f (suc i) n)

-- ---- contents

pub contents_as : (one two : Contents) → one.epoch ≡ two.epoch → one.pool ≡ two.pool → one.heads ≡ two.heads → one.blocks ≡ two.blocks → one ≡ two
contents_as one two a b c d = ap (λ x. record one { epoch = x }) a ∙ ap (λ x. record one { epoch = two.epoch; pool = x }) b ∙ ap (λ x. record one { epoch = two.epoch; pool = two.pool; heads = x }) c ∙ ap (λ x. record two { blocks = x }) d

module _ (g : Counts) (pages : Pages) (k : ℕ) (page : List ℕ) where
  apart : (j : ℕ) → k ≢ j → with_page pages k page j ≡ pages j
  apart j ne = with_other pages k page j ne

  here : (j : ℕ) → k ≡ j → with_page pages k page j ≡ page
  here j e = with_same pages k page j e

  pub epoch_kept : 0 < k → epoch_in (with_page pages k page) ≡ epoch_in pages
  epoch_kept above = ap (λ x. epoch_by (root_at x)) (apart 0 (λ e. omega (arith, e, above)))

  pub pool_kept : ((i : ℕ) → i < g.pool → k ≢ slot_place g i) → pool_on g (with_page pages k page) ≡ pool_on g pages
  pool_kept out = listed_same (record_on g pages) (record_on g (with_page pages k page)) 0 g.pool (λ i low high. ap (λ x. record_or_free (record_at x)) (apart (slot_place g i) (out i (omega (arith, high)))))

  pub heads_kept : ((i : ℕ) → i < g.heads → k ≢ head_place g i) → heads_on g (with_page pages k page) ≡ heads_on g pages
  heads_kept out = listed_same (head_on g pages) (head_on g (with_page pages k page)) 0 g.heads (λ i low high. ap (λ x. head_or_free (head_at x)) (apart (head_place g i) (out i (omega (arith, high)))))

  pub blocks_kept : ((d : ℕ) → k ≢ data_place g d) → block_on g (with_page pages k page) ≡ block_on g pages
  blocks_kept out = fun_ext (λ d. ap (take 448) (apart (data_place g d) (out d)))

-- ---- the four kinds of pages

pub record_put : (g : Counts) (pages : Pages) (slot : ℕ) (r : Record) → slot < g.pool → IsRecord r → contents_of g (with_page pages (slot_place g slot) (record_page r)) ≡ with_record (contents_of g pages) slot r
record_put g pages slot r below is = contents_as (contents_of g (with_page pages (slot_place g slot) (record_page r))) (with_record (contents_of g pages) slot r)
    (epoch_kept g pages (slot_place g slot) (record_page r) (omega arith))
    (listed_set (record_on g pages) (record_on g (with_page pages (slot_place g slot) (record_page r))) 0 g.pool slot below (λ i ne. ap (λ x. record_or_free (record_at x)) (with_other pages (slot_place g slot) (record_page r) (slot_place g i) (λ e. ne (omega (arith, e)))))
    ∙ ap (λ x. set (pool_on g pages) slot x) (ap (λ x. record_or_free (record_at x)) (with_same pages (slot_place g slot) (record_page r) (slot_place g (0 + slot)) (omega arith)) ∙ ap record_or_free (record_is_read (record_page r) r is.whole is.fits refl)))
    (heads_kept g pages (slot_place g slot) (record_page r) (λ i lt e. omega (arith, e, below)))
    (blocks_kept g pages (slot_place g slot) (record_page r) (λ d e. omega (arith, e, below)))

pub head_put : (g : Counts) (pages : Pages) (place : ℕ) (h : Head) → g.leaves < 2 ^ 16 → place < g.heads → IsHead g.leaves h → FileFits h → contents_of g (with_page pages (head_place g place) (head_page h)) ≡ with_head (contents_of g pages) place h
head_put g pages place h few below is fits = contents_as (contents_of g (with_page pages (head_place g place) (head_page h))) (with_head (contents_of g pages) place h)
    (epoch_kept g pages (head_place g place) (head_page h) (omega arith))
    (pool_kept g pages (head_place g place) (head_page h) (λ i lt e. omega (arith, e, lt)))
    (listed_set (head_on g pages) (head_on g (with_page pages (head_place g place) (head_page h))) 0 g.heads place below (λ i ne. ap (λ x. head_or_free (head_at x)) (with_other pages (head_place g place) (head_page h) (head_place g i) (λ e. ne (omega (arith, e)))))
    ∙ ap (λ x. set (heads_on g pages) place x) (ap (λ x. head_or_free (head_at x)) (with_same pages (head_place g place) (head_page h) (head_place g (0 + place)) (omega arith)) ∙ ap head_or_free (head_is_read g.leaves (head_page h) h few is fits refl)))
    (blocks_kept g pages (head_place g place) (head_page h) (λ d e. omega (arith, e, below)))

pub data_put : (g : Counts) (pages : Pages) (d : ℕ) (page : List ℕ) → contents_of g (with_page pages (data_place g d) page) ≡ with_block (contents_of g pages) d (take 448 page)
data_put g pages d page = contents_as (contents_of g (with_page pages (data_place g d) page)) (with_block (contents_of g pages) d (take 448 page))
    (epoch_kept g pages (data_place g d) page (omega arith))
    (pool_kept g pages (data_place g d) page (λ i lt e. omega (arith, e, lt)))
    (heads_kept g pages (data_place g d) page (λ i lt e. omega (arith, e, lt)))
    (fun_ext (λ k. at k))
  where
    at : (k : ℕ) → block_on g (with_page pages (data_place g d) page) k ≡ (if nat_eq d k then take 448 page else block_on g pages k)
    at k = elim (cases_eq d k) [
      | inl same ↦ let t : nat_eq d k ≡ true = grind (arith, nat_tests, same) in
          ap (take 448) (with_same pages (data_place g d) page (data_place g k) (omega (arith, same))) ∙ sym (ap (λ b. if b then take 448 page else block_on g pages k) t)
      | inr ne ↦ let t : nat_eq d k ≡ false = grind (arith, nat_tests, ne) in
          ap (take 448) (with_other pages (data_place g d) page (data_place g k) (λ e. ne (omega (arith, e)))) ∙ sym (ap (λ b. if b then take 448 page else block_on g pages k) t)
    ]

pub root_put : (g : Counts) (pages : Pages) (r : Root) → IsRoot r → contents_of g (with_page pages 0 (root_page r)) ≡ with_epoch (contents_of g pages) r.epoch
root_put g pages r is = contents_as (contents_of g (with_page pages 0 (root_page r))) (with_epoch (contents_of g pages) r.epoch)
    (ap (λ x. epoch_by (root_at x)) (with_same pages 0 (root_page r) 0 refl) ∙ ap epoch_by (root_is_read (root_page r) r is refl))
    (pool_kept g pages 0 (root_page r) (λ i lt e. omega (arith, e)))
    (heads_kept g pages 0 (root_page r) (λ i lt e. omega (arith, e)))
    (blocks_kept g pages 0 (root_page r) (λ d e. omega (arith, e)))
