-- What stands at a name.
use Rattle.jn_coord.proofs.Common.{◌≡◌, ℕ, List, [], ◌∷◌, Option, Some, None, refl, sym, ◌∙◌, ap, subst, arith, Tid, tid_tells, Transaction, transaction_at, Accounts, CountsRecords}

pub at-named : (T : Tid) (xs : List Transaction) (x : Transaction) → transaction_at T xs ≡ Some x → x.tid ≡ T
at-named T [] x e = absurd (cc e)
at-named T (y ∷ ys) x e = let t = tid_tells y.tid T in let again = at-named T ys x in grind (arith, e)

-- what holds of the transaction that was found
pub for-found : (T : Tid) (xs : List Transaction) (P : Transaction → Type 0) (y : Transaction) → transaction_at T xs ≡ Some y → P y → (x : Transaction) → transaction_at T xs ≡ Some x → P x
for-found T xs P y found p x at = subst P (ap some-or (sym found ∙ at)) p
  where
    some-or : Option Transaction → Transaction
    some-or None = y
    some-or (Some z) = z

-- ---- what is counted

pub counted : (a b : Accounts) (free promised : ℕ) → b ≡ record a { free_records = free; promised_records = promised } → CountsRecords a b
counted a b free promised e = subst (CountsRecords a) (sym e) refl

pub counted-then : (a b c : Accounts) → CountsRecords a b → CountsRecords b c → CountsRecords a c
counted-then a b c e f = f ∙ ap (λ (z : Accounts). record z { free_records = c.free_records; promised_records = c.promised_records }) e
