-- The message at the cursor is the least that waits.
use Rattle.std.proofs.Common.{◌≡◌, ℕ, zero, suc, ◌+◌, ◌-◌, ◌≤◌, ◌<◌, Bool, true, false, List, [], ◌∷◌, length, drop, Some, None, refl, ◌∙◌, ap, subst, arith, get_or, set, length-drop}
use Rattle.std.proofs.lemmas.Bool.Decides.{nat_tests}
use Rattle.std.specs.Prelude.{not, nat_lt, if◌then◌else◌}
use Rattle.std.specs.List.{position_from}
use Rattle.jn_net.specs.declared.Sent.{Sent}
use Rattle.jn_net.specs.Carried.{waiting, with_delivered}
use Rattle.jn_net.specs.Cursor.{waits_at, IsCursor}

waits_at-drop : (n : ℕ) (xs : List Sent) (k : ℕ) → waits_at (drop n xs) k ≡ waits_at xs (n + k)
waits_at-drop zero [] k = refl
waits_at-drop (suc n) [] k = refl
waits_at-drop zero (x ∷ xs) k = grind arith
waits_at-drop (suc n) (x ∷ xs) k = grind (arith, waits_at-drop n xs k)

pub with_delivered_is : (n : ℕ) (xs : List Sent) (x : Sent) → n < length xs → x ≡ get_or xs n x → set xs n (record x { delivered = true }) ≡ with_delivered n xs
with_delivered_is n [] x h e = refl
with_delivered_is zero (y ∷ ys) x h e = ap (λ (m : Sent). record m { delivered = true } ∷ ys) e
with_delivered_is (suc n) (y ∷ ys) x h e = ap (λ (l : List Sent). y ∷ l) (with_delivered_is n ys x (omega arith) e)

search_is : (n at : ℕ) (xs : List Sent) → ((k : ℕ) → k < n → waits_at xs k ≡ false) → n ≤ length xs → (n < length xs → waits_at xs n ≡ true)
    → position_from (λ (m : Sent). not m.delivered) at xs ≡ (if nat_lt n (length xs) then Some (at + n) else None)
search_is n at [] before within waits = grind (arith, nat_tests)
search_is zero at (x ∷ xs) before within waits = grind (arith, nat_tests)
search_is (suc n) at (x ∷ xs) before within waits =
    first (not x.delivered) (before 0 (omega arith)) (search_is n (at + 1) xs (λ k h. before (suc k) (omega arith)) (omega arith) (λ h. waits (omega arith)))
  where
    first : (b : Bool) → b ≡ false → position_from (λ (m : Sent). not m.delivered) (at + 1) xs ≡ (if nat_lt n (length xs) then Some (at + 1 + n) else None)
        → (if b then Some at else position_from (λ (m : Sent). not m.delivered) (at + 1) xs) ≡ (if nat_lt (suc n) (suc (length xs)) then Some (at + suc n) else None)
    first b e h = grind (arith, nat_tests)

-- what waits, by the cursor
module _ (forgotten cursor : ℕ) (sent : List Sent) (at_cursor : IsCursor forgotten cursor sent) where
  waiting_is : waiting (record { sent = sent; forgotten = forgotten }) ≡ (if nat_lt (cursor - forgotten) (length (drop forgotten sent)) then Some (forgotten + (cursor - forgotten)) else None)
  waiting_is = search_is (cursor - forgotten) forgotten (drop forgotten sent)
      (λ k h. waits_at-drop forgotten sent k ∙ at_cursor.none_before (forgotten + k) (omega arith) (omega (arith, at_cursor.after_forgotten)))
      (omega (arith, length-drop forgotten sent, at_cursor.within))
      (λ h. waits_at-drop forgotten sent (cursor - forgotten) ∙ subst (λ k. waits_at sent k ≡ true) (omega (arith, at_cursor.after_forgotten)) (at_cursor.waits (omega (arith, length-drop forgotten sent, at_cursor.after_forgotten))))

  pub some_waits : cursor < length sent → Some cursor ≡ waiting (record { sent = sent; forgotten = forgotten })
  some_waits h = grind (arith, nat_tests, waiting_is, length-drop forgotten sent, at_cursor.after_forgotten)

  pub none_waits : length sent ≤ cursor → None ≡ waiting (record { sent = sent; forgotten = forgotten })
  none_waits h = grind (arith, nat_tests, waiting_is, length-drop forgotten sent, at_cursor.after_forgotten)
