-- A flag that is to be put has its room.
use Rattle.jn_coord.proofs.Common.{◌≡◌, ℕ, true, ◌+◌, ◌≤◌, if◌then◌else◌, List, [], ◌∷◌, Option, Some, None, length, refl, sym, ◌∙◌, ap, arith, is_some, ClientNo, Tid, WorkId, tid_eq, tid_tells, Transaction, Stage, Open, Voting, Committed, Aborted, FlagState, transaction_at, is_in, are_different, StorageView, state, MayPutFlag, HasFlag, Remembered, rises, flag_told, committed_as, committed_at, spare_of, FitsWith, is_committed, RequestNo}
use Rattle.jn_coord.proofs.Fitting.{above-none, has-promise, committed-found}

-- the names of the committed transactions
abbrev committed_names : List Transaction → List Tid
committed_names [] = []
committed_names (x ∷ xs) = if is_some (committed_as x.client x.stage) then x.tid ∷ committed_names xs else committed_names xs

names-listed : (U : Tid) (xs : List Transaction) → rises xs ≡ true → is_in tid_eq U (committed_names xs) ≡ is_some (committed_at U xs)
names-listed U [] h = refl
names-listed U (x ∷ xs) h = let again = names-listed U xs in let none = above-none x.tid xs in let t = tid_tells x.tid U in grind (arith, h)

names-different : (xs : List Transaction) → rises xs ≡ true → are_different tid_eq (committed_names xs) ≡ true
names-different [] h = refl
names-different (x ∷ xs) h = let again = names-different xs in let listed = names-listed x.tid xs in let none = above-none x.tid xs in grind (arith, h)

names-few : (xs : List Transaction) → length (committed_names xs) ≤ length xs
names-few [] = omega arith
names-few (x ∷ xs) = let again = names-few xs in grind arith

names-fewer : (T : Tid) (xs : List Transaction) → is_some (transaction_at T xs) ≡ true → committed_at T xs ≡ None → length (committed_names xs) + 1 ≤ length xs
names-fewer T [] s n = absurd (cc s)
names-fewer T (x ∷ xs) s n = let again = names-fewer T xs in let few = names-few xs in grind (arith, s, n)

told-some : (o : Option FlagState) → is_some (flag_told o) ≡ is_some o
told-some None = refl
told-some (Some flag) = refl

told-none : (o : Option FlagState) → flag_told o ≡ None → o ≡ None
told-none None e = refl
told-none (Some flag) e = absurd (cc e)

pub may-put : (r : Remembered) (v : StorageView) (T : Tid) (y : Transaction) (client : ClientNo) (request : RequestNo) (works : List WorkId)
    → FitsWith (spare_of (transaction_at T r.transactions)) r v → transaction_at T r.transactions ≡ Some y → committed_at T r.transactions ≡ None → length works ≤ 8
    → MayPutFlag v (record { tid = T; client = client; request = request; works = works })
may-put r v T y client request works fits found undecided few = record {
  promise = has-promise T r v y fits found;
  works_fit = few;
  room = record {
    keys = committed_names r.transactions;
    listing = record {
      different = names-different r.transactions fits.rising;
      all = λ U. names-listed U r.transactions fits.rising ∙ sym (ap is_some (fits.flags U)) ∙ told-some ((state v).flags U);
    };
    few = omega (arith, names-fewer T r.transactions (ap is_some found) undecided, fits.few);
  };
  new = told-none ((state v).flags T) (fits.flags T ∙ undecided);
  given = fits.given T (ap is_some found);
}

pub has_flag_at : (r : Remembered) (v : StorageView) (T : Tid) (y : Transaction) → FitsWith 0 r v → transaction_at T r.transactions ≡ Some y → is_committed y.stage ≡ true → HasFlag v T
has_flag_at r v T y fits found e = sym (told-some ((state v).flags T)) ∙ ap is_some (fits.flags T ∙ committed-found T r.transactions y found) ∙ some y.stage e
  where
    some : (s : Stage) → is_committed s ≡ true → is_some (committed_as y.client s) ≡ true
    some Open f = absurd (cc f)
    some (Voting b) f = absurd (cc f)
    some (Committed d) f = refl
    some (Aborted cause) f = absurd (cc f)
