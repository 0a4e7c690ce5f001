-- The world in which a run begins, with all its servers down, is the opening with all servers up once each has crashed, but for the lines that report it.
use Rattle.jn_at_rest.proofs.Common.{◌≡◌, ◌≢◌, ◌⊎◌, inl, inr, ℕ, zero, suc, ◌+◌, Bool, true, false, List, [], ◌∷◌, ◌++◌, append_assoc, append-nil, length, drop, Option, Some, None, refl, sym, ◌∙◌, ap, arith, if◌then◌else◌, nat_lt, map, ServerNo, server_eq, server_tells, AllFiles, Text, World, Memory, opening, new_memory, servers_from, at_server, commits_in, Step, Crash, IsRun, after, crash, Course, opening_course, go, go_on, numbered, closed_world}
use Rattle.std.proofs.Math.Path.{fun_ext}
use Rattle.std.proofs.lemmas.Bool.Decides.{nat_tests}
use Rattle.jn_report.specs.declared.line.Text.TheVariants as says
use Rattle.jn_at_rest.proofs.Lined.{IsLined}

-- the lines of so many servers that went down
abbrev pub downs : ℕ → ℕ → List Text
downs first zero = []
downs first (suc count) = says.Down (record { 0 = first }) ∷ downs (first + 1) count

pub downs-mute : (first count : ℕ) → commits_in (downs first count) ≡ []
downs-mute first zero = refl
downs-mute first (suc count) = downs-mute (first + 1) count

abbrev pub crashes : ℕ → ℕ → List Step
crashes first count = map (λ (s : ServerNo). Crash s) (servers_from first count)

pub may-crash : (servers : List ServerNo) (w : World) → IsRun (map (λ (s : ServerNo). Crash s) servers) w
may-crash [] w = tt
may-crash (s ∷ servers) w = (tt, may-crash servers (after (Crash s) w))

module _ (n : ℕ) (files : AllFiles) (epochs : ServerNo → ℕ) where
  -- the servers below this number are down
  abbrev memory_from : ℕ → ServerNo → Option Memory
  memory_from k q = if nat_lt q.0 k then None else Some (new_memory q (epochs q))

  abbrev down_below : ℕ → List Text → World
  down_below k texts = record (opening n files epochs) { memory = memory_from k; lines = texts }

  one-down : (k : ℕ) (texts : List Text) → after (Crash (record { 0 = k })) (down_below k texts) ≡ down_below (k + 1) (texts ++ says.Down (record { 0 = k }) ∷ [])
  one-down k texts = ap (λ (b : Bool). crash s (if b then None else Some (new_memory s (epochs s))) (down_below k texts)) (not-itself k)
      ∙ ap (λ (f : ServerNo → Option Memory). record (opening n files epochs) { memory = f; lines = texts ++ says.Down (record { 0 = k }) ∷ [] }) (fun_ext (λ q. at q (server_tells s q)))
    where
      s : ServerNo
      s = record { 0 = k }

      not-itself : (i : ℕ) → nat_lt i i ≡ false
      not-itself i = grind (arith, nat_tests)

      more : (i : ℕ) → nat_lt i (i + 1) ≡ true
      more i = grind (arith, nat_tests)

      same : (i : ℕ) → (i ≡ k → ⊥) → nat_lt i k ≡ nat_lt i (k + 1)
      same i h = by (nat_lt i k) (nat_lt i (k + 1)) refl refl
        where
          by : (a b : Bool) → nat_lt i k ≡ a → nat_lt i (k + 1) ≡ b → a ≡ b
          by true true e f = refl
          by false false e f = refl
          by true false e f = absurd (grind (arith, nat_tests, e, f))
          by false true e f = absurd (h (grind (arith, nat_tests, e, f)))

      at : (q : ServerNo) → ((server_eq s q ≡ true) × (s ≡ q)) ⊎ ((server_eq s q ≡ false) × (s ≢ q)) → at_server (memory_from k) s None q ≡ memory_from (k + 1) q
      at q (inl p) = ap (λ (b : Bool). if b then None else memory_from k q) p.0
          ∙ ap (λ (b : Bool). if b then None else Some (new_memory q (epochs q))) (sym (more k) ∙ ap (λ (i : ℕ). nat_lt i (k + 1)) (ap (λ (z : ServerNo). z.0) p.1))
      at q (inr p) = ap (λ (b : Bool). if b then None else memory_from k q) p.0
          ∙ ap (λ (b : Bool). if b then None else Some (new_memory q (epochs q))) (same q.0 (λ e. p.1 (sym (ap (λ (i : ℕ). record { 0 = i }) e))))

  record IsDownBelow (k : ℕ) (texts : List Text) (c : Course) : Type 0 where
    world : c.world ≡ down_below k texts
    waiting : c.waiting ≡ []

  all-down : (count first : ℕ) (texts : List Text) (c : Course) → IsDownBelow first texts c → IsDownBelow (first + count) (texts ++ downs first count) (go_on (crashes first count) c)
  all-down zero first texts c h = record { world = h.world ∙ ap (λ (k : ℕ). down_below k texts) (none first) ∙ ap (down_below (first + 0)) (sym (append-nil texts)); waiting = h.waiting }
    where
      none : (k : ℕ) → k ≡ k + 0
      none k = omega arith
  all-down (suc count) first texts c h = let last = all-down count (first + 1) (texts ++ says.Down (record { 0 = first }) ∷ []) (go (Crash (record { 0 = first })) c) (record {
    world = ap (after (Crash (record { 0 = first }))) h.world ∙ one-down first texts;
    waiting = ap (λ (ks : List ℕ). ks ++ numbered (length c.world.sent) (drop (length c.world.sent) (after (Crash (record { 0 = first })) c.world).sent)) h.waiting
        ∙ ap (λ (w : World). numbered (length w.sent) (drop (length w.sent) (after (Crash (record { 0 = first })) w).sent)) h.world
        ∙ ap (λ (w : World). numbered 0 (drop 0 w.sent)) (one-down first texts);
  }) in record {
    world = last.world ∙ ap (λ (k : ℕ). down_below k ((texts ++ says.Down (record { 0 = first }) ∷ []) ++ downs (first + 1) count)) (next first count)
        ∙ ap (down_below (first + suc count)) (append_assoc texts (says.Down (record { 0 = first }) ∷ []) (downs (first + 1) count));
    waiting = last.waiting;
  }
    where
      next : (a c : ℕ) → a + 1 + c ≡ a + suc c
      next a c = omega arith

  none-down : opening n files epochs ≡ down_below 0 []
  none-down = ap (λ (f : ServerNo → Option Memory). record (opening n files epochs) { memory = f; lines = [] }) (fun_ext (λ q. ap (λ (b : Bool). if b then None else Some (new_memory q (epochs q))) (none-less q.0)))
    where
      none-less : (i : ℕ) → false ≡ nat_lt i 0
      none-less i = grind (arith, nat_tests)

  pub closed-lined : IsLined (downs 0 n) (record { world = closed_world n files epochs; waiting = []; steps = [] }) (go_on (crashes 0 n) (opening_course n files epochs))
  closed-lined = let last = all-down n 0 [] (opening_course n files epochs) (record { world = none-down; waiting = refl }) in record {
    world = last.world ∙ ap (λ (k : ℕ). down_below k (downs 0 n)) (none n) ∙ ap (down_below n) (sym (append-nil (downs 0 n)));
    waiting = last.waiting;
  }
    where
      none : (k : ℕ) → 0 + k ≡ k
      none k = omega arith
