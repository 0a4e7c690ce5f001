-- Pages that say a list of values, as the list that is read of them.
use Rattle.jn_page_state.proofs.Common.{◌≡◌, ◌<◌, ◌+◌, ◌^◌, ℕ, zero, suc, List, [], ◌∷◌, length, get_or, refl, ap, ◌∙◌, arith, Head, FreeHead, Record, Free, head_page, IsHead, FileFits, record_at, Counts, Pages, slot_place, head_place, head_is_read, slot_page, Says, head_in, listed, record_or_free, head_or_free, record_on, head_on, pool_on, heads_on}

-- a list is that of its values by number
listed_is : {A : Type 0} (d : A) (f : ℕ → A) (xs : List A) (i n : ℕ) → length xs ≡ n → ((k : ℕ) → k < n → f (i + k) ≡ get_or xs k d) → listed f i n ≡ xs
listed_is d f [] i zero size same = refl
listed_is d f [] i (suc n) size same = absurd (omega (arith, size))
listed_is d f (x ∷ xs) i zero size same = absurd (omega (arith, size))
listed_is d f (x ∷ xs) i (suc n) size same =
    ap (λ y. y ∷ listed f (suc i) n) (ap f (start i) ∙ same 0 (omega arith))
    ∙ ap (λ l. x ∷ l) (listed_is d f xs (suc i) n (omega (arith, size)) (λ k lt. ap f (next i k) ∙ same (suc k) (omega (arith, lt))))
  where
    start : (i : ℕ) → i ≡ i + 0
    start i = omega arith

    next : (i k : ℕ) → suc i + k ≡ i + suc k
    next i k = omega arith

pub pool_says : (g : Counts) (pages : Pages) (records : List Record) → length records ≡ g.pool → Says pages records → pool_on g pages ≡ records
pool_says g pages records size says = listed_is Free (record_on g pages) records 0 g.pool size
    (λ k lt. ap (λ p. record_or_free (record_at (pages p))) (at k) ∙ ap record_or_free (says k (omega (arith, lt, size))))
  where
    at : (k : ℕ) → slot_place g (0 + k) ≡ slot_page k
    at k = omega arith

pub heads_say : (g : Counts) (pages : Pages) (heads : List Head) → g.leaves < 2 ^ 16 → length heads ≡ g.heads
    → ((i : ℕ) → i < g.heads → IsHead g.leaves (head_in heads i) × FileFits (head_in heads i) × (pages (head_place g i) ≡ head_page (head_in heads i))) → heads_on g pages ≡ heads
heads_say g pages heads few size says = listed_is FreeHead (head_on g pages) heads 0 g.heads size
    (λ k lt. ap (head_on g pages) (at k) ∙ (let h = says k lt in ap head_or_free (head_is_read g.leaves (pages (head_place g k)) (head_in heads k) few h.0 h.1 h.2)))
  where
    at : (k : ℕ) → 0 + k ≡ k
    at k = omega arith
