-- What holds of each server, state or client holds once one of them has changed.
use Rattle.jn_system.proofs.Common.{Option, Some, None, ◌≡◌, ◌≢◌, ◌⊎◌, inl, inr, Bool, true, false, sym, subst, if◌then◌else◌, ServerNo, ClientNo, server_eq, server_tells, client_eq, client_tells, StableState, Pick, at_server, at_client, Memory}

pub one-server : {A : Type 0} (P : ServerNo → A → Type 0) (f : ServerNo → A) (s : ServerNo) (x : A) → P s x → ((q : ServerNo) → s ≢ q → P q (f q)) → (q : ServerNo) → P q (at_server f s x q)
one-server {A} P f s x here others q = by (server_tells s q)
  where
    by : ((server_eq s q ≡ true) × (s ≡ q)) ⊎ ((server_eq s q ≡ false) × (s ≢ q)) → P q (if server_eq s q then x else f q)
    by (inl p) = subst (λ (b : Bool). P q (if b then x else f q)) (sym p.0) (subst (λ (z : ServerNo). P z x) p.1 here)
    by (inr p) = subst (λ (b : Bool). P q (if b then x else f q)) (sym p.0) (others q p.1)

pub one-found : (P : ServerNo → Pick → StableState → Type 0) (found : ServerNo → Pick → StableState) (s : ServerNo) (now : Pick → StableState) → ((c : Pick) → P s c (now c)) → ((q : ServerNo) → s ≢ q → (c : Pick) → P q c (found q c))
    → (q : ServerNo) (c : Pick) → P q c (if server_eq s q then now c else found q c)
one-found P found s now here others q c = by (server_tells s q)
  where
    by : ((server_eq s q ≡ true) × (s ≡ q)) ⊎ ((server_eq s q ≡ false) × (s ≢ q)) → P q c (if server_eq s q then now c else found q c)
    by (inl p) = subst (λ (b : Bool). P q c (if b then now c else found q c)) (sym p.0) (subst (λ (z : ServerNo). P z c (now c)) p.1 (here c))
    by (inr p) = subst (λ (b : Bool). P q c (if b then now c else found q c)) (sym p.0) (others q p.1 c)

pub one-client : {A : Type 0} (P : ClientNo → A → Type 0) (f : ClientNo → A) (c : ClientNo) (x : A) → P c x → ((d : ClientNo) → c ≢ d → P d (f d)) → (d : ClientNo) → P d (at_client f c x d)
one-client {A} P f c x here others d = by (client_tells c d)
  where
    by : ((client_eq c d ≡ true) × (c ≡ d)) ⊎ ((client_eq c d ≡ false) × (c ≢ d)) → P d (if client_eq c d then x else f d)
    by (inl p) = subst (λ (b : Bool). P d (if b then x else f d)) (sym p.0) (subst (λ (z : ClientNo). P z x) p.1 here)
    by (inr p) = subst (λ (b : Bool). P d (if b then x else f d)) (sym p.0) (others d p.1)

-- ---- what holds of each memory that there is

pub some-memory : (a b : Memory) → Some a ≡ Some b → a ≡ b
some-memory a b e = cc

pub none-memory : (a : Memory) → None ≡ Some a → ⊥
none-memory a e = cc

module _ (P : Memory → Type 0) (memory : ServerNo → Option Memory) (old : (q : ServerNo) (m : Memory) → memory q ≡ Some m → P m) (s : ServerNo) where
  pub memory-now : (a : Memory) → P a → (q : ServerNo) (m : Memory) → at_server memory s (Some a) q ≡ Some m → P m
  memory-now a now = one-server (λ q o. (m : Memory) → o ≡ Some m → P m) memory s (Some a) (λ m e. subst P (some-memory a m e) now) (λ q other. old q)

  pub memory-gone : (q : ServerNo) (m : Memory) → at_server memory s None q ≡ Some m → P m
  memory-gone = one-server (λ q o. (m : Memory) → o ≡ Some m → P m) memory s None (λ m e. absurd (none-memory m e)) (λ q other. old q)
