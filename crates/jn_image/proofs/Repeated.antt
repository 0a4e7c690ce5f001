-- One more value, and whether it stood before.
use Rattle.jn_image.proofs.Common.{◌≡◌, ◌⊎◌, inl, inr, ⊎_elim, ◌<◌, ◌≤◌, ◌+◌, ℕ, Bool, true, false, cond, List, length, get_or, Option, Some, None, refl, sym, ap, ◌∙◌, subst, arith, nat_lt, if◌then◌else◌, cases_lt, nat_tests, get_or_past, Finds, StandsOnce, StandsOnceBelow, AreNoted, lesser}
use Rattle.std.specs.BTreeSet.{BTreeSet, contains, Updates}
use Rattle.std.specs.Ordering.{nat_cmp, is_eq}

-- a place below n + 1 is below n or n
last : (i n : ℕ) → i < n + 1 → (i < n) ⊎ (i ≡ n)
last i n below = ⊎_elim (λ lt. inl lt) (λ past. inr (omega (arith, below, past))) (cases_lt i n)

none_some : (a : ℕ) → None ≡ Some a → ⊥
none_some a e = cc

same_value : (a b : ℕ) → Some a ≡ Some b → a ≡ b
same_value a b e = cc

module _ (xs : List (Option ℕ)) (n : ℕ) where
  -- a value that isn't at place n stands as often as before
  stays : (a : ℕ) → (get_or xs n None ≡ Some a → ⊥) → StandsOnceBelow xs n a → StandsOnceBelow xs (n + 1) a
  stays a other once i j below beneath at too = ⊎_elim
      (λ lt. ⊎_elim (λ less. once i j lt less at too) (λ is. absurd (other (ap (λ k. get_or xs k None) (sym is) ∙ too))) (last j n beneath))
      (λ is. absurd (other (ap (λ k. get_or xs k None) (sym is) ∙ at)))
      (last i n below)

  -- what stood twice does so still
  earlier : (a : ℕ) → StandsOnceBelow xs (n + 1) a → StandsOnceBelow xs n a
  earlier a once i j below beneath at too = once i j (omega (arith, below)) (omega (arith, beneath)) at too

  twice : (x k : ℕ) → get_or xs n None ≡ Some x → k < n → get_or xs k None ≡ Some x → StandsOnceBelow xs (n + 1) x → ⊥
  twice x k here lt there once = apart (once k n (omega (arith, lt)) (omega arith) there here) lt
    where
      apart : {k n : ℕ} → k ≡ n → k < n → ⊥
      apart e lt = omega (arith, e, lt)

  -- the value at place n stood before
  again : (x k : ℕ) → get_or xs n None ≡ Some x → k < n → get_or xs k None ≡ Some x → (least : Option ℕ) → Finds (StandsOnceBelow xs n) least → Finds (StandsOnceBelow xs (n + 1)) (lesser least x)
  again x k here lt there None found = record {
    fails = twice x k here lt there;
    below = λ b less. stays b (λ at. other b less (same_value x b (sym here ∙ at))) (found b);
  }
    where
      other : (b : ℕ) → b < x → x ≡ b → ⊥
      other b less e = omega (arith, less, e)
  again x k here lt there (Some l) found = by (nat_lt l x) refl
    where
      other : (b : ℕ) → b < x → x ≡ b → ⊥
      other b less e = omega (arith, less, e)

      less_is : nat_lt l x ≡ true → l < x
      less_is e = grind (arith, nat_tests, e)

      most_is : nat_lt l x ≡ false → x ≤ l
      most_is e = grind (arith, nat_tests, e)

      by : (b : Bool) → nat_lt l x ≡ b → Finds (StandsOnceBelow xs (n + 1)) (if b then Some l else Some x)
      by true e = record {
        fails = λ once. found.fails (earlier l once);
        below = λ b less. stays b (λ at. other b (let up = less_is e in omega (arith, less, up)) (same_value x b (sym here ∙ at))) (found.below b less);
      }
      by false e = record {
        fails = twice x k here lt there;
        below = λ b less. stays b (λ at. other b less (same_value x b (sym here ∙ at))) (found.below b (let up = most_is e in omega (arith, less, up)));
      }

-- ---- a value is noted

module _ (xs : List (Option ℕ)) (n : ℕ) (old new : BTreeSet ℕ) (least : Option ℕ) (noted : AreNoted xs n old least) where
  module _ (x : ℕ) (here : get_or xs n None ≡ Some x) (updates : Updates nat_cmp old new x true) where
    same_key : (q : ℕ) → is_eq (nat_cmp x q) ≡ true → x ≡ q
    same_key q e = grind (arith, nat_tests, e)

    holds : (a : ℕ) → contains nat_cmp old a ≡ true → contains nat_cmp new a ≡ true
    holds a has = updates.0 a ∙ by (is_eq (nat_cmp x a))
      where
        by : (b : Bool) → cond b true (contains nat_cmp old a) ≡ true
        by true = refl
        by false = has

    held : (a : ℕ) → contains nat_cmp new a ≡ true → (contains nat_cmp old a ≡ true) ⊎ (x ≡ a)
    held a has = by (is_eq (nat_cmp x a)) refl
      where
        by : (b : Bool) → is_eq (nat_cmp x a) ≡ b → (contains nat_cmp old a ≡ true) ⊎ (x ≡ a)
        by true e = inr (same_key a e)
        by false e = inl (sym (ap (λ b. cond b true (contains nat_cmp old a)) e) ∙ sym (updates.0 a) ∙ has)

    now_kept : (k a : ℕ) → k < n + 1 → get_or xs k None ≡ Some a → contains nat_cmp new a ≡ true
    now_kept k a below at = ⊎_elim
        (λ lt. holds a (noted.kept k a lt at))
        (λ is. subst (λ q. contains nat_cmp new q ≡ true) (same_value x a (sym here ∙ ap (λ q. get_or xs q None) (sym is) ∙ at)) updates.1)
        (last k n below)

    now_stands : (a : ℕ) → contains nat_cmp new a ≡ true → (k : ℕ) × (k < n + 1) × (get_or xs k None ≡ Some a)
    now_stands a has = ⊎_elim
        (λ was. let s = noted.stands a was in (s.0, omega (arith, s.1), s.2))
        (λ is. (n, omega arith, here ∙ ap Some is))
        (held a has)

    pub old_value : contains nat_cmp old x ≡ true → AreNoted xs (n + 1) new (lesser least x)
    old_value has = let s = noted.stands x has in record {
      kept = now_kept;
      stands = now_stands;
      least_is = again xs n x s.0 here s.1 s.2 least noted.least_is;
    }

-- and behind the last all are
pub all_noted : (xs : List (Option ℕ)) (n : ℕ) (seen : BTreeSet ℕ) (least : Option ℕ) → length xs ≤ n → AreNoted xs n seen least → Finds (StandsOnce xs) least
all_noted xs n seen least long noted = by least noted.least_is
  where
    below : (i a : ℕ) → get_or xs i None ≡ Some a → i < n
    below i a at = ⊎_elim (λ lt. lt) (λ past. absurd (none_some a (sym (get_or_past xs i None (omega (arith, past, long))) ∙ at))) (cases_lt i n)

    by : (r : Option ℕ) → Finds (StandsOnceBelow xs n) r → Finds (StandsOnce xs) r
    by None found = λ a i j at too. found a i j (below i a at) (below j a too) at too
    by (Some l) found = record {
      fails = λ once. found.fails (λ i j lt less at too. once i j at too);
      below = λ b lt i j at too. found.below b lt i j (below i b at) (below j b too) at too;
    }
