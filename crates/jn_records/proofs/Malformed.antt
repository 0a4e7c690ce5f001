-- A page that begins like a head and is none.
use Rattle.jn_records.proofs.Common.{◌≡◌, ◌<◌, ◌+◌, ℕ, zero, suc, nat_eq, Bool, true, false, if◌then◌else◌, ◌∷◌, replicate, Some, refl, sym, ◌∙◌, subst, arith, true≢false, Head, Used, head_page, within, used_at, head_at, number_at, list_at, maps_at, is_used, file_in}
use Rattle.jn_records.specs.Malformed.{head_of_9, malformed_page, malformed_image}
use Rattle.jn_records.specs.Sound.{head_bytes_of, HasOneHead, IsWholeHead}
use Rattle.jn_records.proofs.Heads.{head_is_read}

pub begins-used : (i : ℕ) → is_used (head_bytes_of malformed_image i) ≡ true
unfolding head_page
begins-used i = by (nat_eq (1 + 0 + i) 1)
  where
    by : (b : Bool) → is_used (if b then head_page head_of_9 else malformed_page) ≡ true
    by true = refl
    by false = refl

pub begins-same : (i : ℕ) → file_in (head_bytes_of malformed_image i) ≡ 9
unfolding head_page
begins-same i = by (nat_eq (1 + 0 + i) 1)
  where
    by : (b : Bool) → file_in (if b then head_page head_of_9 else malformed_page) ≡ 9
    by true = refl
    by false = refl

pub first-head : IsWholeHead malformed_image 0
first-head = (head_of_9, record { whole = refl; within_leaves = refl }, omega arith, refl, refl)

abbrev the-read : Head
the-read = Used (record { 0 = 9 }) (1 ∷ replicate 119 0) (replicate 20 0)

read-so : head_at malformed_page ≡ Some the-read
unfolding head_at used_at maps_at number_at list_at
read-so = refl

some-head : (a b : Head) → Some a ≡ Some b → a ≡ b
some-head a b e = cc

pub no-head : IsWholeHead malformed_image 1 → ⊥
no-head (h, is, fits, of_version, e) =
    let same = some-head the-read h (sym read-so ∙ head_is_read 0 malformed_page h (omega arith) is fits e) in
    true≢false (sym (subst (λ (z : Head). within 0 z ≡ true) (sym same) is.within_leaves))

pub one-head : (f : ℕ) → HasOneHead malformed_image f
one-head f i j low lower whole wholly used its used' its' = first i low whole ∙ sym (first j lower wholly)
  where
    first : (i : ℕ) → i < 2 → IsWholeHead malformed_image i → i ≡ 0
    first zero h w = refl
    first (suc zero) h w = absurd (no-head w)
    first (suc (suc i)) h w = absurd (omega (arith, h))
