-- Whether a record is rubbish, by the works that are named as rubbish.
use Rattle.jn_intent.proofs.Common.{◌≡◌, ◌+◌, ℕ, suc, Bool, true, false, ◌||◌, if◌then◌else◌, List, [], ◌∷◌, length, refl, sym, ◌∙◌, ap, arith, length-append, nat_tests, nat_lt, list_any, WorkId, Record, is_rubbish, rubbish_of, rubbish_in, rubbish_one}

pub some_rubbish : (pool rs : List Record) → list_any (is_rubbish pool) rs ≡ nat_lt 0 (length (rubbish_in pool rs))
some_rubbish pool [] = refl
some_rubbish pool (r ∷ rs) = by (is_rubbish pool r) (rubbish_of pool r) (rubbish_one pool r) (some_rubbish pool rs) ∙ ap (λ (n : ℕ). nat_lt 0 n) (sym (length-append (rubbish_of pool r) (rubbish_in pool rs)))
  where
    some : (n : ℕ) → nat_lt 0 (suc n) ≡ true
    some n = grind (arith, nat_tests)

    by : (b : Bool) (xs : List WorkId) → length xs ≡ (if b then 1 else 0) → list_any (is_rubbish pool) rs ≡ nat_lt 0 (length (rubbish_in pool rs)) → (b || list_any (is_rubbish pool) rs) ≡ nat_lt 0 (length xs + length (rubbish_in pool rs))
    by true xs one again = sym (some (length (rubbish_in pool rs))) ∙ ap (λ (n : ℕ). nat_lt 0 n) (let e : suc (length (rubbish_in pool rs)) ≡ length xs + length (rubbish_in pool rs) = omega (arith, one) in e)
    by false xs none again = again ∙ ap (λ (n : ℕ). nat_lt 0 n) (let e : length (rubbish_in pool rs) ≡ length xs + length (rubbish_in pool rs) = omega (arith, none) in e)
