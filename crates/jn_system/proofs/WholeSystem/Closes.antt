-- What is left of a table in which transactions are closed, and which flags are dropped.
use Rattle.jn_system.proofs.Common.{◌≡◌, ◌≢◌, ◌⊎◌, inl, inr, Bool, true, false, List, [], ◌∷◌, ◌++◌, true≢false, refl, sym, subst, if◌then◌else◌, ClientNo, client_eq, client_tells, Transaction, Stage, Commitment, Change, DropFlag, all_in, closed, thanked, thanked_changes, after_closing, changes_of_closing, all_thanked, flags_of_thanked}
use Rattle.jn_rows.specs.declared.coordinator.Stage.TheVariants.{Open, Voting, Committed, Aborted}

abbrev pub is_committed : Stage → Bool
is_committed (Committed d) = true
is_committed stage = false

-- One after another: it stays, or this holds of it and it goes, waits for its works as thanked, or goes with its flag.
pub data Closes (P : Transaction → Type 0) : List Transaction → List Transaction → List Change → Type 0 where
  Empty : Closes P [] [] []
  Stays : {xs ys : List Transaction} {cs : List Change} (x : Transaction) → Closes P xs ys cs → Closes P (x ∷ xs) (x ∷ ys) cs
  Goes : {xs ys : List Transaction} {cs : List Change} (x : Transaction) → P x → is_committed x.stage ≡ false → Closes P xs ys cs → Closes P (x ∷ xs) ys cs
  Waits : {xs ys : List Transaction} {cs : List Change} (x : Transaction) (d : Commitment) → P x → x.stage ≡ Committed d → Closes P xs ys cs
      → Closes P (x ∷ xs) (record x { stage = Committed (record d { thanked = true }) } ∷ ys) cs
  Forgets : {xs ys : List Transaction} {cs : List Change} (x : Transaction) (d : Commitment) → P x → x.stage ≡ Committed d → all_in d.works d.done ≡ true → Closes P xs ys cs
      → Closes P (x ∷ xs) ys (DropFlag x.tid ∷ cs)

module _ (P : Transaction → Type 0) (x : Transaction) (p : P x) {xs ys : List Transaction} {cs : List Change} (h : Closes P xs ys cs) where
  committed-closes : (d : Commitment) (b : Bool) → x.stage ≡ Committed d → all_in d.works d.done ≡ b
      → Closes P (x ∷ xs) ((if b then [] else record x { stage = Committed (record d { thanked = true }) } ∷ []) ++ ys) ((if b then DropFlag x.tid ∷ [] else []) ++ cs)
  committed-closes d true e g = Forgets x d p e g h
  committed-closes d false e g = Waits x d p e h

  closed-closes : (stage : Stage) → x.stage ≡ stage → Closes P (x ∷ xs) (closed stage x ++ ys) (thanked_changes stage x ++ cs)
  closed-closes Open e = Goes x p (subst (λ (s : Stage). is_committed s ≡ false) (sym e) refl) h
  closed-closes (Voting b) e = Goes x p (subst (λ (s : Stage). is_committed s ≡ false) (sym e) refl) h
  closed-closes (Aborted cause) e = Goes x p (subst (λ (s : Stage). is_committed s ≡ false) (sym e) refl) h
  closed-closes (Committed d) e = committed-closes d (all_in d.works d.done) e refl

  -- an undecided one stays where its outcome alone is thanked
  thanked-closes : (stage : Stage) → x.stage ≡ stage → Closes P (x ∷ xs) (thanked stage x ++ ys) (thanked_changes stage x ++ cs)
  thanked-closes Open e = Stays x h
  thanked-closes (Voting b) e = Stays x h
  thanked-closes (Aborted cause) e = Goes x p (subst (λ (s : Stage). is_committed s ≡ false) (sym e) refl) h
  thanked-closes (Committed d) e = committed-closes d (all_in d.works d.done) e refl

-- the transactions of a client
pub client-closes : (c : ClientNo) (xs : List Transaction) → Closes (λ (x : Transaction). x.client ≡ c) xs (after_closing c xs) (changes_of_closing c xs)
client-closes c [] = Empty
client-closes c (x ∷ xs) = by (client_eq x.client c) (client_tells x.client c) (client-closes c xs)
  where
    by : (b : Bool) → ((b ≡ true) × (x.client ≡ c)) ⊎ ((b ≡ false) × (x.client ≢ c)) → Closes (λ (y : Transaction). y.client ≡ c) xs (after_closing c xs) (changes_of_closing c xs)
        → Closes (λ (y : Transaction). y.client ≡ c) (x ∷ xs) (if b then closed x.stage x ++ after_closing c xs else x ∷ after_closing c xs) (if b then thanked_changes x.stage x ++ changes_of_closing c xs else changes_of_closing c xs)
    by true (inl t) h = closed-closes (λ (y : Transaction). y.client ≡ c) x t.1 h x.stage refl
    by true (inr t) h = absurd (true≢false t.0)
    by false t h = Stays x h

-- every outcome is thanked
pub outcomes-close : (xs : List Transaction) → Closes (λ (x : Transaction). Unit {0}) xs (all_thanked xs) (flags_of_thanked xs)
outcomes-close [] = Empty
outcomes-close (x ∷ xs) = thanked-closes (λ (y : Transaction). Unit {0}) x tt (outcomes-close xs) x.stage refl
