-- The system while its servers come up, one after another.
use Rattle.jn_machine_refines.proofs.Common.{◌≡◌, ◌≢◌, ◌⊎◌, inl, inr, ◌<◌, ℕ, ◌+◌, Bool, true, false, List, [], ◌∷◌, ◌++◌, append-nil, Option, Some, None, refl, sym, ◌∙◌, ap, arith, not, ◌||◌, if◌then◌else◌, nat_lt, is_some, nat_tests, ServerNo, server_eq, server_tells, AllFiles, Text, StableState, Pick, World, Memory, new_memory, opening, at_server, restored, Restart, AreNames, after, restart, closed_world, behind, with_epoch}
use Rattle.std.proofs.lemmas.Bool.{cases_Bool}
use Rattle.std.proofs.Math.Path.{fun_ext}
use Rattle.jn_report.specs.declared.line.Text.TheVariants as says

-- names of nothing
pub none-named : {A B : Type 0} (eq before : A → A → Bool) → ((a : A) → eq a a ≡ true) → (there : A → Option B) → ((a : A) → is_some (there a) ≡ false) → (names : List A) → AreNames eq before there names → names ≡ []
none-named eq before same there none [] h = refl
none-named eq before same there none (a ∷ names) h = absurd (clash _ _ (same a) (h.each a ∙ none a))
  where
    clash : (b c : Bool) → b ≡ true → (b || c) ≡ false → ⊥
    clash b c e k = grind arith

module _ (n : ℕ) (files : AllFiles) (epochs : ServerNo → ℕ) where
  -- each of the first servers has come up once more
  abbrev pub raised : ℕ → ServerNo → ℕ
  raised k q = if nat_lt q.0 k then epochs q + 1 else epochs q

  abbrev pub memory_in : ℕ → ServerNo → Option Memory
  memory_in k q = if nat_lt q.0 k || not (nat_lt q.0 n) then Some (new_memory q (raised k q)) else None

  abbrev pub found_in : ℕ → ServerNo → Pick → StableState
  found_in k q c = record { epoch = raised k q; files = files q; works = λ W. None; flags = λ T. None }

  -- the first servers are up, and these lines are reported
  abbrev pub partly : ℕ → List Text → World
  partly k ups = record (opening n files epochs) { memory = memory_in k; found = found_in k; lines = ups }

  with-both : (f g : ServerNo → Option Memory) (u v : ServerNo → Pick → StableState) (ls : List Text) → f ≡ g → u ≡ v → record (opening n files epochs) { memory = f; found = u; lines = ls } ≡ record (opening n files epochs) { memory = g; found = v; lines = ls }
  with-both f g u v ls e k = ap (λ (m : ServerNo → Option Memory). record (opening n files epochs) { memory = m; found = u; lines = ls }) e ∙ ap (λ (o : ServerNo → Pick → StableState). record (opening n files epochs) { memory = g; found = o; lines = ls }) k

  -- ---- before the first

  raised-none : (q : ServerNo) → raised 0 q ≡ epochs q
  raised-none q = grind (arith, nat_tests)

  pub none-up : closed_world n files epochs ≡ partly 0 []
  none-up = with-both (λ q. if nat_lt q.0 n then None else Some (new_memory q (epochs q))) (memory_in 0) (λ q c. record { epoch = epochs q; files = files q; works = λ W. None; flags = λ T. None }) (found_in 0) []
      (fun_ext (λ q. by q (cases_Bool (nat_lt q.0 n)) (below q)))
      (fun_ext (λ q. fun_ext (λ c. ap (λ (e : ℕ). record { epoch = e; files = files q; works = λ W. None; flags = λ T. None }) (sym (raised-none q)))))
    where
      below : (q : ServerNo) → nat_lt q.0 0 ≡ false
      below q = grind (arith, nat_tests)

      by : (q : ServerNo) → (nat_lt q.0 n ≡ true) ⊎ (nat_lt q.0 n ≡ false) → nat_lt q.0 0 ≡ false → (if nat_lt q.0 n then None else Some (new_memory q (epochs q))) ≡ memory_in 0 q
      by q (inl e) k = ap (λ (b : Bool). if b then None else Some (new_memory q (epochs q))) e ∙ sym (ap (λ (b : Bool). if b || not (nat_lt q.0 n) then Some (new_memory q (raised 0 q)) else None) k ∙ ap (λ (b : Bool). if not b then Some (new_memory q (raised 0 q)) else None) e)
      by q (inr e) k = ap (λ (b : Bool). if b then None else Some (new_memory q (epochs q))) e ∙ ap (λ (m : ℕ). Some (new_memory q m)) (sym (raised-none q)) ∙ sym (ap (λ (b : Bool). if b || not (nat_lt q.0 n) then Some (new_memory q (raised 0 q)) else None) k ∙ ap (λ (b : Bool). if not b then Some (new_memory q (raised 0 q)) else None) e)

  -- ---- behind the last

  pub all-up : (ups : List Text) → partly n ups ≡ behind ups (opening n files (raised n))
  all-up ups = ap (λ (ls : List Text). partly n ls) (sym (append-nil ups)) ∙ ap (λ (m : ServerNo → Option Memory). record (opening n files (raised n)) { memory = m; lines = ups ++ [] }) (fun_ext (λ q. by q (cases_Bool (nat_lt q.0 n))))
    where
      by : (q : ServerNo) → (nat_lt q.0 n ≡ true) ⊎ (nat_lt q.0 n ≡ false) → memory_in n q ≡ Some (new_memory q (raised n q))
      by q (inl e) = ap (λ (b : Bool). if b || not b then Some (new_memory q (raised n q)) else None) e
      by q (inr e) = ap (λ (b : Bool). if b || not b then Some (new_memory q (raised n q)) else None) e

  -- ---- one more

  module _ (k : ℕ) (l : k < n) where
    abbrev pub one : ServerNo
    one = record { 0 = k }

    pub is-down : memory_in k one ≡ None
    is-down = down (nat_lt k k) (nat_lt k n) self below
      where
        self : nat_lt k k ≡ false
        self = grind (arith, nat_tests)

        below : nat_lt k n ≡ true
        below = grind (arith, nat_tests, l)

        down : (a b : Bool) → a ≡ false → b ≡ true → (if a || not b then Some (new_memory one (raised k one)) else None) ≡ None
        down a b e f = grind (arith, e, f)

    raised-one : raised (k + 1) one ≡ raised k one + 1
    raised-one = grind (arith, nat_tests)

    raised-other : (q : ServerNo) → one ≢ q → raised (k + 1) q ≡ raised k q
    raised-other q e = ap (λ (b : Bool). if b then epochs q + 1 else epochs q) (same q (server_tells one q) e)
      where
        same : (q : ServerNo) → ((server_eq one q ≡ true) × (one ≡ q)) ⊎ ((server_eq one q ≡ false) × (one ≢ q)) → one ≢ q → nat_lt q.0 (k + 1) ≡ nat_lt q.0 k
        same q (inl t) e = absurd (e t.1)
        same q (inr t) e = grind (arith, nat_tests, t.0)

    memory-one : Some (new_memory one (raised k one + 1)) ≡ memory_in (k + 1) one
    memory-one = ap (λ (m : ℕ). Some (new_memory one m)) (sym raised-one) ∙ sym (up (nat_lt k (k + 1)) next)
      where
        next : nat_lt k (k + 1) ≡ true
        next = grind (arith, nat_tests)

        up : (b : Bool) → b ≡ true → (if b || not (nat_lt k n) then Some (new_memory one (raised (k + 1) one)) else None) ≡ Some (new_memory one (raised (k + 1) one))
        up b e = ap (λ (c : Bool). if c || not (nat_lt k n) then Some (new_memory one (raised (k + 1) one)) else None) e

    memory-other : (q : ServerNo) → one ≢ q → memory_in k q ≡ memory_in (k + 1) q
    memory-other q e = ap (λ (m : ℕ). if nat_lt q.0 k || not (nat_lt q.0 n) then Some (new_memory q m) else None) (sym (raised-other q e))
        ∙ ap (λ (b : Bool). if b || not (nat_lt q.0 n) then Some (new_memory q (raised (k + 1) q)) else None) (sym (same q (server_tells one q) e))
      where
        same : (q : ServerNo) → ((server_eq one q ≡ true) × (one ≡ q)) ⊎ ((server_eq one q ≡ false) × (one ≢ q)) → one ≢ q → nat_lt q.0 (k + 1) ≡ nat_lt q.0 k
        same q (inl t) e = absurd (e t.1)
        same q (inr t) e = grind (arith, nat_tests, t.0)

    -- a server comes up with no work and no flag
    pub comes-up : (pick : Pick) (ups : List Text) → after (Restart one pick [] []) (partly k ups) ≡ partly (k + 1) (ups ++ says.Up one (raised k one + 1) ∷ [])
    comes-up pick ups = ap (λ (o : Option Memory). restart one pick [] [] o (partly k ups)) is-down
        ∙ with-both (at_server (memory_in k) one (Some (restored one (found_in k one pick) [] []))) (memory_in (k + 1)) (λ q c. if server_eq one q then with_epoch (found_in k one pick) else found_in k q c) (found_in (k + 1)) (ups ++ says.Up one (raised k one + 1) ∷ [])
        (fun_ext (λ q. memory q (server_tells one q))) (fun_ext (λ q. fun_ext (λ c. found q c (server_tells one q))))
      where
        memory : (q : ServerNo) → ((server_eq one q ≡ true) × (one ≡ q)) ⊎ ((server_eq one q ≡ false) × (one ≢ q)) → at_server (memory_in k) one (Some (restored one (found_in k one pick) [] [])) q ≡ memory_in (k + 1) q
        memory q (inl t) = ap (λ (b : Bool). if b then Some (restored one (found_in k one pick) [] []) else memory_in k q) t.0 ∙ memory-one ∙ ap (λ (p : ServerNo). memory_in (k + 1) p) t.1
        memory q (inr t) = ap (λ (b : Bool). if b then Some (restored one (found_in k one pick) [] []) else memory_in k q) t.0 ∙ memory-other q t.1

        found : (q : ServerNo) (c : Pick) → ((server_eq one q ≡ true) × (one ≡ q)) ⊎ ((server_eq one q ≡ false) × (one ≢ q)) → (if server_eq one q then with_epoch (found_in k one pick) else found_in k q c) ≡ found_in (k + 1) q c
        found q c (inl t) = ap (λ (b : Bool). if b then with_epoch (found_in k one pick) else found_in k q c) t.0
            ∙ ap (λ (m : ℕ). record { epoch = m; files = files one; works = λ W. None; flags = λ T. None }) (sym raised-one) ∙ ap (λ (p : ServerNo). found_in (k + 1) p c) t.1
        found q c (inr t) = ap (λ (b : Bool). if b then with_epoch (found_in k one pick) else found_in k q c) t.0
            ∙ ap (λ (m : ℕ). record { epoch = m; files = files q; works = λ W. None; flags = λ T. None }) (sym (raised-other q t.1))
