-- What one change of a table keeps.
use Rattle.jn_coord.proofs.Common.{◌≡◌, ⊎_elim, ℕ, Bool, true, false, ◌+◌, ◌≤◌, ◌<◌, if◌then◌else◌, List, [], ◌∷◌, Option, Some, None, length, refl, sym, ◌∙◌, ap, subst, arith, is_some, nat_tests, Tid, tid_eq, tid_tells, Transaction, Stage, transaction_at, with_stage, without, is_voting, promised, IsGiven, StorageView, IsServing, state, name_below, Remembered, are_above, rises, flag_told, committed_as, committed_at, ballot_fits, ballots_fit, spare_of, FitsWith}

-- the promises of a stage
abbrev pub votes : Stage → ℕ
votes s = if is_voting s then 1 else 0

-- ---- a transaction comes to another stage

some-stage : (y x : Transaction) → Some y ≡ Some x → y.stage ≡ x.stage
some-stage y x e = ap (λ o. stage_in o) e
  where
    stage_in : Option Transaction → Stage
    stage_in None = x.stage
    stage_in (Some z) = z.stage

promised-staged : (T : Tid) (s : Stage) (xs : List Transaction) (x : Transaction) → transaction_at T xs ≡ Some x → promised (with_stage T s xs) + votes x.stage ≡ promised xs + votes s
promised-staged T s [] x e = absurd (cc e)
promised-staged T s (y ∷ ys) x e = by (tid_eq y.tid T) e (promised-staged T s ys x)
  where
    one : (b : Bool) (n : ℕ) → (if b then n + 1 else n) ≡ n + (if b then 1 else 0)
    one true n = refl
    one false n = omega arith

    by : (b : Bool) → (if b then Some y else transaction_at T ys) ≡ Some x → (transaction_at T ys ≡ Some x → promised (with_stage T s ys) + votes x.stage ≡ promised ys + votes s)
        → promised (if b then record y { stage = s } ∷ ys else y ∷ with_stage T s ys) + votes x.stage ≡ promised (y ∷ ys) + votes s
    by true e again = subst (λ z. (if is_voting s then promised ys + 1 else promised ys) + votes z ≡ (if is_voting y.stage then promised ys + 1 else promised ys) + votes s) (some-stage y x e)
        (omega (arith, one (is_voting s) (promised ys), one (is_voting y.stage) (promised ys)))
    by false e again = omega (arith, again e, one (is_voting y.stage) (promised (with_stage T s ys)), one (is_voting y.stage) (promised ys))

committed-staged : (T U : Tid) (s : Stage) (xs : List Transaction) (x : Transaction) → transaction_at T xs ≡ Some x → committed_at U (with_stage T s xs) ≡ (if tid_eq T U then committed_as x.client s else committed_at U xs)
committed-staged T U s [] x e = absurd (cc e)
committed-staged T U s (y ∷ ys) x e = let again = committed-staged T U s ys x in let t = tid_tells y.tid T in let u = tid_tells y.tid U in let v = tid_tells T U in grind (arith, e)

length-staged : (T : Tid) (s : Stage) (xs : List Transaction) → length (with_stage T s xs) ≡ length xs
length-staged T s [] = refl
length-staged T s (y ∷ ys) = let again = length-staged T s ys in grind arith

above-staged : (T U : Tid) (s : Stage) (xs : List Transaction) → are_above U (with_stage T s xs) ≡ are_above U xs
above-staged T U s [] = refl
above-staged T U s (y ∷ ys) = let again = above-staged T U s ys in grind arith

rises-staged : (T : Tid) (s : Stage) (xs : List Transaction) → rises (with_stage T s xs) ≡ rises xs
rises-staged T s [] = refl
rises-staged T s (y ∷ ys) = let again = rises-staged T s ys in let above = above-staged T y.tid s ys in grind arith

ballots-staged : (T : Tid) (s : Stage) (xs : List Transaction) → ballots_fit xs ≡ true → ballot_fits s ≡ true → ballots_fit (with_stage T s xs) ≡ true
ballots-staged T s [] h f = refl
ballots-staged T s (y ∷ ys) h f = let again = ballots-staged T s ys in grind (arith, h, f)

named-staged : (T U : Tid) (s : Stage) (xs : List Transaction) → is_some (transaction_at U (with_stage T s xs)) ≡ is_some (transaction_at U xs)
named-staged T U s [] = refl
named-staged T U s (y ∷ ys) = let again = named-staged T U s ys in grind arith

pub fits-staged : (spare more : ℕ) (r : Remembered) (v w : StorageView) (T : Tid) (s : Stage) (x : Transaction) → FitsWith spare r v → transaction_at T r.transactions ≡ Some x
    → IsServing w → w.accounts.server ≡ v.accounts.server → (state w).epoch ≡ (state v).epoch
    → ((U : Tid) → flag_told ((state w).flags U) ≡ (if tid_eq T U then committed_as x.client s else flag_told ((state v).flags U)))
    → w.accounts.promised_records + (spare + votes x.stage) ≡ v.accounts.promised_records + (more + votes s) → ballot_fits s ≡ true
    → FitsWith more (record r { transactions = with_stage T s r.transactions }) w
fits-staged spare more r v w T s x fits at serving server epoch flags promises ballot = record {
  serving = serving;
  clients = fits.clients;
  few = subst (λ n. n ≤ 64) (sym (length-staged T s r.transactions)) fits.few;
  rising = rises-staged T s r.transactions ∙ fits.rising;
  flags = λ U. flags U ∙ ap (λ o. if tid_eq T U then committed_as x.client s else o) (fits.flags U) ∙ sym (committed-staged T U s r.transactions x at);
  promises = omega (arith, promises, promised-staged T s r.transactions x at, fits.promises);
  ballots = ballots-staged T s r.transactions fits.ballots ballot;
  given = λ U h. subst (λ n. IsGiven n (state w).epoch U.server U.epoch) (sym server) (subst (λ n. IsGiven v.accounts.server n U.server U.epoch) (sym epoch) (fits.given U (sym (named-staged T U s r.transactions) ∙ h)));
}

pub committed-found : (T : Tid) (xs : List Transaction) (x : Transaction) → transaction_at T xs ≡ Some x → committed_at T xs ≡ committed_as x.client x.stage
committed-found T [] x e = absurd (cc e)
committed-found T (y ∷ ys) x e = let again = committed-found T ys x in grind (arith, e)

-- where the flags are as they were, and so is the transaction's
pub same-flags : (spare : ℕ) (r : Remembered) (v : StorageView) (T : Tid) (s : Stage) (x : Transaction) → FitsWith spare r v → transaction_at T r.transactions ≡ Some x → committed_as x.client s ≡ committed_as x.client x.stage
    → (U : Tid) → flag_told ((state v).flags U) ≡ (if tid_eq T U then committed_as x.client s else flag_told ((state v).flags U))
same-flags spare r v T s x fits at same U = ⊎_elim (λ t. here t.1 t.0) (λ t. rw t.0 refl) (tid_tells T U)
  where
    here : T ≡ U → tid_eq T U ≡ true → flag_told ((state v).flags U) ≡ (if tid_eq T U then committed_as x.client s else flag_told ((state v).flags U))
    here e y = rw y (subst (λ V. flag_told ((state v).flags V) ≡ committed_as x.client s) e (fits.flags T ∙ committed-found T r.transactions x at ∙ sym same))

-- where the flags are as they were, and the transaction has none
pub flags-without : (r : Remembered) (v : StorageView) (T : Tid) (x : Transaction) → FitsWith 0 r v → transaction_at T r.transactions ≡ Some x → committed_as x.client x.stage ≡ None
    → (U : Tid) → flag_told ((state v).flags U) ≡ (if tid_eq T U then None else flag_told ((state v).flags U))
flags-without r v T x fits at none U = ⊎_elim (λ t. rw t.0 (subst (λ V. flag_told ((state v).flags V) ≡ None) t.1 (fits.flags T ∙ committed-found T r.transactions x at ∙ none))) (λ t. rw t.0 refl) (tid_tells T U)

pub no-votes : (v : StorageView) (n : ℕ) (s : Stage) → is_voting s ≡ false → n ≡ v.accounts.promised_records → n + votes s ≡ v.accounts.promised_records
no-votes v n s still e = rw still (omega (arith, e))

-- ---- a transaction goes

promised-without : (T : Tid) (xs : List Transaction) (x : Transaction) → transaction_at T xs ≡ Some x → promised (without T xs) + votes x.stage ≡ promised xs
promised-without T [] x e = absurd (cc e)
promised-without T (y ∷ ys) x e = let again = promised-without T ys x in grind (arith, e)

pub below-not : (T : Tid) → name_below T T ≡ false
below-not T = grind (arith, nat_tests)

pub above-none : (T : Tid) (xs : List Transaction) → are_above T xs ≡ true → committed_at T xs ≡ None
above-none T [] h = refl
above-none T (y ∷ ys) h = let again = above-none T ys in let t = tid_tells y.tid T in let n = below-not T in grind (arith, h)

committed-without : (T U : Tid) (xs : List Transaction) → rises xs ≡ true → committed_at U (without T xs) ≡ (if tid_eq T U then None else committed_at U xs)
committed-without T U [] h = grind arith
committed-without T U (y ∷ ys) h = let again = committed-without T U ys in let none = above-none y.tid ys in let t = tid_tells y.tid T in let u = tid_tells y.tid U in let v = tid_tells T U in grind (arith, h)

length-without : (T : Tid) (xs : List Transaction) → length (without T xs) ≤ length xs
length-without T [] = omega arith
length-without T (y ∷ ys) = let again = length-without T ys in grind arith

above-without : (T U : Tid) (xs : List Transaction) → are_above U xs ≡ true → are_above U (without T xs) ≡ true
above-without T U [] h = refl
above-without T U (y ∷ ys) h = let again = above-without T U ys in grind (arith, h)

rises-without : (T : Tid) (xs : List Transaction) → rises xs ≡ true → rises (without T xs) ≡ true
rises-without T [] h = refl
rises-without T (y ∷ ys) h = let again = rises-without T ys in let above = above-without T y.tid ys in grind (arith, h)

ballots-without : (T : Tid) (xs : List Transaction) → ballots_fit xs ≡ true → ballots_fit (without T xs) ≡ true
ballots-without T [] h = refl
ballots-without T (y ∷ ys) h = let again = ballots-without T ys in grind (arith, h)

named-without : (T U : Tid) (xs : List Transaction) → is_some (transaction_at U (without T xs)) ≡ true → is_some (transaction_at U xs) ≡ true
named-without T U [] h = h
named-without T U (y ∷ ys) h = let again = named-without T U ys in grind (arith, h)

pub fits-without : (r : Remembered) (v w : StorageView) (T : Tid) (x : Transaction) → FitsWith 0 r v → transaction_at T r.transactions ≡ Some x
    → IsServing w → w.accounts.server ≡ v.accounts.server → (state w).epoch ≡ (state v).epoch
    → ((U : Tid) → flag_told ((state w).flags U) ≡ (if tid_eq T U then None else flag_told ((state v).flags U)))
    → w.accounts.promised_records + votes x.stage ≡ v.accounts.promised_records
    → FitsWith 0 (record r { transactions = without T r.transactions }) w
fits-without r v w T x fits at serving server epoch flags promises = record {
  serving = serving;
  clients = fits.clients;
  few = omega (arith, length-without T r.transactions, fits.few);
  rising = rises-without T r.transactions fits.rising;
  flags = λ U. flags U ∙ ap (λ o. if tid_eq T U then None else o) (fits.flags U) ∙ sym (committed-without T U r.transactions fits.rising);
  promises = omega (arith, promises, promised-without T r.transactions x at, fits.promises);
  ballots = ballots-without T r.transactions fits.ballots;
  given = λ U h. subst (λ n. IsGiven n (state w).epoch U.server U.epoch) (sym server) (subst (λ n. IsGiven v.accounts.server n U.server U.epoch) (sym epoch) (fits.given U (named-without T U r.transactions h)));
}

-- a voting transaction has its promise
pub promise_held : (T : Tid) (xs : List Transaction) (x : Transaction) → transaction_at T xs ≡ Some x → is_voting x.stage ≡ true → 0 < promised xs
promise_held T xs x e voting = let less = promised-without T xs x e in grind (arith, voting)

pub promise_for : (spare : ℕ) (r : Remembered) (v : StorageView) (T : Tid) (x : Transaction) → FitsWith spare r v → Some x ≡ transaction_at T r.transactions → is_voting x.stage ≡ true → 0 < v.accounts.promised_records
promise_for spare r v T x fits e voting = let held = promise_held T r.transactions x (sym e) voting in omega (arith, held, fits.promises)

-- ---- what a transaction is to be given before it commits

pub spare-one : (x : Transaction) → spare_of (Some x) + votes x.stage ≡ 1
spare-one x = by (is_voting x.stage)
  where
    by : (b : Bool) → (if b then 0 else 1) + (if b then 1 else 0) ≡ 1
    by true = omega arith
    by false = omega arith

pub has-promise : (T : Tid) (r : Remembered) (v : StorageView) (x : Transaction) → FitsWith (spare_of (transaction_at T r.transactions)) r v → transaction_at T r.transactions ≡ Some x → 0 < v.accounts.promised_records
has-promise T r v x fits at = by (is_voting x.stage) refl
  where
    spare : v.accounts.promised_records ≡ promised r.transactions + spare_of (Some x)
    spare = fits.promises ∙ ap (λ o. promised r.transactions + spare_of o) at

    by : (b : Bool) → is_voting x.stage ≡ b → 0 < v.accounts.promised_records
    by true e = let held = promise_held T r.transactions x at e in omega (arith, spare, held)
    by false e = let one : spare_of (Some x) ≡ 1 = rw e refl in omega (arith, spare, one)
