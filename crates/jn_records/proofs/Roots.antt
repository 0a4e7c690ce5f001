-- A root is read again from its page.
use Rattle.jn_records.proofs.Common.{◌≡◌, ◌⊎◌, inl, inr, ◌<◌, ◌^◌, ℕ, List, ◌++◌, Option, Some, refl, ap, ◌∙◌, arith, replicate, codes, big_bytes, Root, root_bytes, root_page, IsRoot, root_at, number_again, bytes_again}

version_small : (n : ℕ) → (n ≡ 1) ⊎ (n ≡ 2) → n < 256 ^ 1
version_small n (inl e) = omega (arith, e)
version_small n (inr e) = omega (arith, e)

root_again : (r : Root) (rest : List ℕ) → IsRoot r → root_at (root_bytes r ++ rest) ≡ Some (r, rest)
unfolding root_at
root_again r rest is =
    let after_leaves = big_bytes 4 r.epoch ++ rest in
    let after_heads = big_bytes 2 r.leaves ++ after_leaves in
    let after_pool = big_bytes 2 r.heads ++ after_heads in
    let after_server = big_bytes 2 r.pool ++ after_pool in
    let after_version = big_bytes 1 r.server.0 ++ after_server in
    let after_name = big_bytes 1 r.version ++ after_version in
    let regrouped : root_bytes r ++ rest ≡ codes "JUN1" ++ after_name = refl in
    ap root_at regrouped
    ∙ rw (
      bytes_again 4 (codes "JUN1") after_name refl,
      number_again 1 r.version after_version (version_small r.version is.version),
      number_again 1 r.server.0 after_server is.server,
      number_again 2 r.pool after_pool is.pool,
      number_again 2 r.heads after_heads is.heads,
      number_again 2 r.leaves after_leaves is.leaves,
      number_again 4 r.epoch rest is.epoch,
    ) refl

pub root_is_read : (page : List ℕ) (r : Root) → IsRoot r → page ≡ root_page r → root_at page ≡ Some (r, replicate 496 0)
unfolding root_page
root_is_read page r is e = ap root_at e ∙ root_again r (replicate 496 0) is

abbrev found : {A B : Type 0} → A → B → Option (A × B)
found x rest = Some (x, rest)

-- what is read is one value
pub value_is : {A B : Type 0} (x y : A) (p q : B) → found x p ≡ found y q → x ≡ y
value_is {A} {B} x y p q e =
    let pairs : ◌≡◌ {A = A × B} (x, p) (y, q) = cc in
    ap (λ (t : A × B). t.0) pairs
