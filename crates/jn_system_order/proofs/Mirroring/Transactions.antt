-- A coordinator's transactions, looked for by name, once one or more of them change, and lists of works.
use Rattle.jn_system_order.proofs.Common.{◌≡◌, ◌≢◌, ◌⊎◌, inl, inr, Bool, true, false, List, [], ◌∷◌, ◌++◌, Option, Some, None, map, refl, sym, ◌∙◌, ap, subst, arith, ◌&&◌, ◌||◌, not, if◌then◌else◌, All, All-nil, All-cons, ServerNo, Tid, WorkId, tid_eq, work_eq, tid_tells, work_tells, Transaction, Stage, Sent, transaction_at, with_stage, without, is_work, besides, all_in, with_work, Machine, IsStage, IsTransaction, AreTransactions}

-- ---- works

pub is-work-one : (V W : WorkId) → is_work V (W ∷ []) ≡ true → W ≡ V
is-work-one V W h = by (work_tells W V) h
  where
    off : (b : Bool) → b ≡ false → (b || false) ≡ true → W ≡ V
    off b e k = absurd (grind arith)

    by : ((work_eq W V ≡ true) × (W ≡ V)) ⊎ ((work_eq W V ≡ false) × (W ≢ V)) → (work_eq W V || false) ≡ true → W ≡ V
    by (inl p) k = p.1
    by (inr p) k = off (work_eq W V) p.0 k

pub in-besides : (W : WorkId) (Vs Ws : List WorkId) → is_work W (besides Vs Ws) ≡ true → is_work W Vs ≡ true
in-besides W [] Ws h = h
in-besides W (V ∷ Vs) Ws h = by (not (is_work V Ws)) h (in-besides W Vs Ws)
  where
    more : (a b : Bool) → b ≡ true → (a || b) ≡ true
    more a b k = grind arith

    keep : (a b c : Bool) → (a || b) ≡ true → (b ≡ true → c ≡ true) → (a || c) ≡ true
    keep true b c k on = refl
    keep false b c k on = on k

    by : (b : Bool) → is_work W (if b then V ∷ besides Vs Ws else besides Vs Ws) ≡ true → (is_work W (besides Vs Ws) ≡ true → is_work W Vs ≡ true) → (work_eq V W || is_work W Vs) ≡ true
    by true k on = keep (work_eq V W) (is_work W (besides Vs Ws)) (is_work W Vs) k on
    by false k on = more (work_eq V W) (is_work W Vs) (on k)

pub in-either : (W : WorkId) (Vs Ws : List WorkId) → is_work W (Vs ++ Ws) ≡ true → (is_work W Vs ≡ true) ⊎ (is_work W Ws ≡ true)
in-either W [] Ws h = inr h
in-either W (V ∷ Vs) Ws h = by (work_eq V W) h (in-either W Vs Ws)
  where
    by : (b : Bool) → (b || is_work W (Vs ++ Ws)) ≡ true → (is_work W (Vs ++ Ws) ≡ true → (is_work W Vs ≡ true) ⊎ (is_work W Ws ≡ true)) → ((b || is_work W Vs) ≡ true) ⊎ (is_work W Ws ≡ true)
    by true k on = inl refl
    by false k on = on k

pub in-with : (V W : WorkId) (Ws : List WorkId) → is_work V (with_work W Ws) ≡ true → (is_work V Ws ≡ true) ⊎ (W ≡ V)
in-with V W Ws h = by (is_work W Ws) h
  where
    last : (is_work V Ws ≡ true) ⊎ (is_work V (W ∷ []) ≡ true) → (is_work V Ws ≡ true) ⊎ (W ≡ V)
    last (inl k) = inl k
    last (inr k) = inr (is-work-one V W k)

    by : (b : Bool) → is_work V (if b then Ws else Ws ++ W ∷ []) ≡ true → (is_work V Ws ≡ true) ⊎ (W ≡ V)
    by true k = inl k
    by false k = last (in-either V Ws (W ∷ []) k)

pub in-all : (W : WorkId) (Vs Ws : List WorkId) → all_in Vs Ws ≡ true → is_work W Vs ≡ true → is_work W Ws ≡ true
in-all W [] Ws h k = absurd (no k)
  where
    no : false ≡ true → ⊥
    no q = grind arith
in-all W (V ∷ Vs) Ws h k = by (work_tells V W) k (in-all W Vs Ws (second (is_work V Ws) (all_in Vs Ws) h))
  where
    first : (a b : Bool) → (a && b) ≡ true → a ≡ true
    first a b q = grind arith

    second : (a b : Bool) → (a && b) ≡ true → b ≡ true
    second a b q = grind arith

    by : ((work_eq V W ≡ true) × (V ≡ W)) ⊎ ((work_eq V W ≡ false) × (V ≢ W)) → (work_eq V W || is_work W Vs) ≡ true → (is_work W Vs ≡ true → is_work W Ws ≡ true) → is_work W Ws ≡ true
    by (inl p) q on = subst (λ (z : WorkId). is_work z Ws ≡ true) p.1 (first (is_work V Ws) (all_in Vs Ws) h)
    by (inr p) q on = on (subst (λ (b : Bool). (b || is_work W Vs) ≡ true) p.0 q)

-- a message to each work
pub All-works : (P : Sent → Type 0) (f : WorkId → Sent) (Ws : List WorkId) → ((W : WorkId) → is_work W Ws ≡ true → P (f W)) → All P (map f Ws)
All-works P f [] h = All-nil P
All-works P f (W ∷ Ws) h = All-cons P (f W) (map f Ws) (h W (self (work_tells W W))) (All-works P f Ws (λ V k. h V (more (work_eq W V) (is_work V Ws) k)))
  where
    more : (a b : Bool) → b ≡ true → (a || b) ≡ true
    more a b k = grind arith

    self : ((work_eq W W ≡ true) × (W ≡ W)) ⊎ ((work_eq W W ≡ false) × (W ≢ W)) → (work_eq W W || is_work W Ws) ≡ true
    self (inl p) = ap (λ (b : Bool). b || is_work W Ws) p.0
    self (inr p) = absurd (p.1 refl)

-- ---- transactions

abbrev none : Option Transaction
none = None

none-both : (b : Bool) → (if b then none else none) ≡ none
none-both true = refl
none-both false = refl

abbrev Is : Tid → Tid → Type 0
Is T U = ((tid_eq T U ≡ true) × (T ≡ U)) ⊎ ((tid_eq T U ≡ false) × (T ≢ U))

-- the name of one that is found, and what is said of it
pub found-is : (w : Machine) (s : ServerNo) (T : Tid) (xs : List Transaction) (x : Transaction) → AreTransactions w s xs → transaction_at T xs ≡ Some x → IsTransaction w s x × (x.tid ≡ T)
found-is w s T [] x all h = absurd (no h)
  where
    no : None ≡ Some x → ⊥
    no q = cc
found-is w s T (y ∷ ys) x all h = by (tid_tells y.tid T) h (found-is w s T ys x all.2)
  where
    some : Some y ≡ Some x → y ≡ x
    some q = cc

    by : Is y.tid T → (if tid_eq y.tid T then Some y else transaction_at T ys) ≡ Some x → (transaction_at T ys ≡ Some x → IsTransaction w s x × (x.tid ≡ T)) → IsTransaction w s x × (x.tid ≡ T)
    by (inl p) k on = let e = some (subst (λ (b : Bool). (if b then Some y else transaction_at T ys) ≡ Some x) p.0 k) in
        (subst (λ (z : Transaction). IsTransaction w s z) e all.0, ap (λ (z : Transaction). z.tid) (sym e) ∙ p.1)
    by (inr p) k on = on (subst (λ (b : Bool). (if b then Some y else transaction_at T ys) ≡ Some x) p.0 k)

abbrev pub in_stage : Stage → Option Transaction → Option Transaction
in_stage stage None = None
in_stage stage (Some x) = Some (record x { stage = stage })

pub at-stage : (U T : Tid) (stage : Stage) (xs : List Transaction) → transaction_at U (with_stage T stage xs) ≡ (if tid_eq T U then in_stage stage (transaction_at U xs) else transaction_at U xs)
at-stage U T stage [] = sym (none-both (tid_eq T U))
at-stage U T stage (x ∷ xs) = by (tid_tells x.tid T) (tid_tells x.tid U) (tid_tells T U) (at-stage U T stage xs)
  where
    by : Is x.tid T → Is x.tid U → Is T U → transaction_at U (with_stage T stage xs) ≡ (if tid_eq T U then in_stage stage (transaction_at U xs) else transaction_at U xs)
        → transaction_at U (if tid_eq x.tid T then record x { stage = stage } ∷ xs else x ∷ with_stage T stage xs)
        ≡ (if tid_eq T U then in_stage stage (if tid_eq x.tid U then Some x else transaction_at U xs) else (if tid_eq x.tid U then Some x else transaction_at U xs))
    by (inl p) (inl q) (inl t) h = ap (λ (b : Bool). transaction_at U (if b then record x { stage = stage } ∷ xs else x ∷ with_stage T stage xs)) p.0
        ∙ ap (λ (b : Bool). if b then Some (record x { stage = stage }) else transaction_at U xs) q.0
        ∙ sym (ap (λ (b : Bool). if b then in_stage stage (if tid_eq x.tid U then Some x else transaction_at U xs) else (if tid_eq x.tid U then Some x else transaction_at U xs)) t.0
        ∙ ap (λ (b : Bool). in_stage stage (if b then Some x else transaction_at U xs)) q.0)
    by (inl p) (inl q) (inr t) h = absurd (t.1 (sym p.1 ∙ q.1))
    by (inl p) (inr q) (inl t) h = absurd (q.1 (p.1 ∙ t.1))
    by (inl p) (inr q) (inr t) h = ap (λ (b : Bool). transaction_at U (if b then record x { stage = stage } ∷ xs else x ∷ with_stage T stage xs)) p.0
        ∙ ap (λ (b : Bool). if b then Some (record x { stage = stage }) else transaction_at U xs) q.0
        ∙ sym (ap (λ (b : Bool). if b then in_stage stage (if tid_eq x.tid U then Some x else transaction_at U xs) else (if tid_eq x.tid U then Some x else transaction_at U xs)) t.0
        ∙ ap (λ (b : Bool). if b then Some x else transaction_at U xs) q.0)
    by (inr p) (inl q) (inl t) h = absurd (p.1 (q.1 ∙ sym t.1))
    by (inr p) (inl q) (inr t) h = ap (λ (b : Bool). transaction_at U (if b then record x { stage = stage } ∷ xs else x ∷ with_stage T stage xs)) p.0
        ∙ ap (λ (b : Bool). if b then Some x else transaction_at U (with_stage T stage xs)) q.0
        ∙ sym (ap (λ (b : Bool). if b then in_stage stage (if tid_eq x.tid U then Some x else transaction_at U xs) else (if tid_eq x.tid U then Some x else transaction_at U xs)) t.0
        ∙ ap (λ (b : Bool). if b then Some x else transaction_at U xs) q.0)
    by (inr p) (inr q) t h = ap (λ (b : Bool). transaction_at U (if b then record x { stage = stage } ∷ xs else x ∷ with_stage T stage xs)) p.0
        ∙ ap (λ (b : Bool). if b then Some x else transaction_at U (with_stage T stage xs)) q.0 ∙ h
        ∙ sym (ap (λ (b : Bool). if tid_eq T U then in_stage stage (if b then Some x else transaction_at U xs) else (if b then Some x else transaction_at U xs)) q.0)

-- none stays none
pub none-staged : (U T : Tid) (stage : Stage) (xs : List Transaction) → transaction_at U xs ≡ None → transaction_at U (with_stage T stage xs) ≡ None
none-staged U T stage xs h = at-stage U T stage xs ∙ ap (λ o. if tid_eq T U then in_stage stage o else o) h ∙ none-both (tid_eq T U)

pub are-staged : (w : Machine) (s : ServerNo) (T : Tid) (stage : Stage) (xs : List Transaction) → AreTransactions w s xs → IsStage w T stage → AreTransactions w s (with_stage T stage xs)
are-staged w s T stage [] h k = tt
are-staged w s T stage (x ∷ xs) h k = by (tid_tells x.tid T) (are-staged w s T stage xs h.2 k)
  where
    by : Is x.tid T → AreTransactions w s (with_stage T stage xs) → AreTransactions w s (if tid_eq x.tid T then record x { stage = stage } ∷ xs else x ∷ with_stage T stage xs)
    by (inl p) on = subst (λ (b : Bool). AreTransactions w s (if b then record x { stage = stage } ∷ xs else x ∷ with_stage T stage xs)) (sym p.0)
        (record { place = h.0.place; begun = h.0.begun; is = subst (λ (z : Tid). IsStage w z stage) (sym p.1) k }, h.1, h.2)
    by (inr p) on = subst (λ (b : Bool). AreTransactions w s (if b then record x { stage = stage } ∷ xs else x ∷ with_stage T stage xs)) (sym p.0)
        (h.0, none-staged x.tid T stage xs h.1, on)

-- ---- one less

pub none-less : (U T : Tid) (xs : List Transaction) → transaction_at U xs ≡ None → transaction_at U (without T xs) ≡ None
none-less U T [] h = refl
none-less U T (x ∷ xs) h = by (tid_eq x.tid T) (tid_eq x.tid U) h (none-less U T xs)
  where
    no : Some x ≡ None → ⊥
    no q = cc

    by : (b c : Bool) → (if c then Some x else transaction_at U xs) ≡ None → (transaction_at U xs ≡ None → transaction_at U (without T xs) ≡ None) → transaction_at U (if b then xs else x ∷ without T xs) ≡ None
    by b true k on = absurd (no k)
    by true false k on = k
    by false false k on = next (tid_eq x.tid U) refl
      where
        next : (d : Bool) → tid_eq x.tid U ≡ d → (if d then Some x else transaction_at U (without T xs)) ≡ None
        next true e = absurd (no (subst (λ (z : Bool). (if z then Some x else transaction_at U xs) ≡ None) e h))
        next false e = on k

pub are-less : (w : Machine) (s : ServerNo) (T : Tid) (xs : List Transaction) → AreTransactions w s xs → AreTransactions w s (without T xs)
are-less w s T [] h = tt
are-less w s T (x ∷ xs) h = by (tid_eq x.tid T) (are-less w s T xs h.2)
  where
    by : (b : Bool) → AreTransactions w s (without T xs) → AreTransactions w s (if b then xs else x ∷ without T xs)
    by true on = h.2
    by false on = (h.0, none-less x.tid T xs h.1, on)

pub at-less : (w : Machine) (s : ServerNo) (U T : Tid) (xs : List Transaction) → AreTransactions w s xs → transaction_at U (without T xs) ≡ (if tid_eq T U then None else transaction_at U xs)
at-less w s U T [] h = sym (none-both (tid_eq T U))
at-less w s U T (x ∷ xs) h = by (tid_tells x.tid T) (tid_tells x.tid U) (tid_tells T U) (at-less w s U T xs h.2)
  where
    by : Is x.tid T → Is x.tid U → Is T U → transaction_at U (without T xs) ≡ (if tid_eq T U then None else transaction_at U xs)
        → transaction_at U (if tid_eq x.tid T then xs else x ∷ without T xs) ≡ (if tid_eq T U then None else (if tid_eq x.tid U then Some x else transaction_at U xs))
    by (inl p) (inl q) (inl t) k = ap (λ (b : Bool). transaction_at U (if b then xs else x ∷ without T xs)) p.0 ∙ subst (λ (z : Tid). transaction_at z xs ≡ None) q.1 h.1
        ∙ sym (ap (λ (b : Bool). if b then None else (if tid_eq x.tid U then Some x else transaction_at U xs)) t.0)
    by (inl p) (inl q) (inr t) k = absurd (t.1 (sym p.1 ∙ q.1))
    by (inl p) (inr q) (inl t) k = absurd (q.1 (p.1 ∙ t.1))
    by (inl p) (inr q) (inr t) k = ap (λ (b : Bool). transaction_at U (if b then xs else x ∷ without T xs)) p.0
        ∙ sym (ap (λ (b : Bool). if b then None else (if tid_eq x.tid U then Some x else transaction_at U xs)) t.0 ∙ ap (λ (b : Bool). if b then Some x else transaction_at U xs) q.0)
    by (inr p) (inl q) (inl t) k = absurd (p.1 (q.1 ∙ sym t.1))
    by (inr p) (inl q) (inr t) k = ap (λ (b : Bool). transaction_at U (if b then xs else x ∷ without T xs)) p.0 ∙ ap (λ (b : Bool). if b then Some x else transaction_at U (without T xs)) q.0
        ∙ sym (ap (λ (b : Bool). if b then None else (if tid_eq x.tid U then Some x else transaction_at U xs)) t.0 ∙ ap (λ (b : Bool). if b then Some x else transaction_at U xs) q.0)
    by (inr p) (inr q) t k = ap (λ (b : Bool). transaction_at U (if b then xs else x ∷ without T xs)) p.0 ∙ ap (λ (b : Bool). if b then Some x else transaction_at U (without T xs)) q.0 ∙ k
        ∙ sym (ap (λ (b : Bool). if tid_eq T U then None else (if b then Some x else transaction_at U xs)) q.0)

-- ---- one more

pub at-more : (U : Tid) (xs : List Transaction) (x : Transaction) → transaction_at x.tid xs ≡ None → transaction_at U (xs ++ x ∷ []) ≡ (if tid_eq x.tid U then Some x else transaction_at U xs)
at-more U [] x h = refl
at-more U (y ∷ ys) x h = by (tid_tells y.tid x.tid) (tid_tells y.tid U) (tid_tells x.tid U) h (at-more U ys x)
  where
    no : Some y ≡ None → ⊥
    no q = cc

    by : Is y.tid x.tid → Is y.tid U → Is x.tid U → (if tid_eq y.tid x.tid then Some y else transaction_at x.tid ys) ≡ None → (transaction_at x.tid ys ≡ None → transaction_at U (ys ++ x ∷ []) ≡ (if tid_eq x.tid U then Some x else transaction_at U ys))
        → (if tid_eq y.tid U then Some y else transaction_at U (ys ++ x ∷ [])) ≡ (if tid_eq x.tid U then Some x else (if tid_eq y.tid U then Some y else transaction_at U ys))
    by (inl p) q t k on = absurd (no (subst (λ (b : Bool). (if b then Some y else transaction_at x.tid ys) ≡ None) p.0 k))
    by (inr p) (inl q) (inl t) k on = absurd (p.1 (q.1 ∙ sym t.1))
    by (inr p) (inl q) (inr t) k on = ap (λ (b : Bool). if b then Some y else transaction_at U (ys ++ x ∷ [])) q.0
        ∙ sym (ap (λ (b : Bool). if b then Some x else (if tid_eq y.tid U then Some y else transaction_at U ys)) t.0 ∙ ap (λ (b : Bool). if b then Some y else transaction_at U ys) q.0)
    by (inr p) (inr q) t k on = ap (λ (b : Bool). if b then Some y else transaction_at U (ys ++ x ∷ [])) q.0
        ∙ on (subst (λ (b : Bool). (if b then Some y else transaction_at x.tid ys) ≡ None) p.0 k)
        ∙ sym (ap (λ (b : Bool). if tid_eq x.tid U then Some x else (if b then Some y else transaction_at U ys)) q.0)

pub are-more : (w : Machine) (s : ServerNo) (xs : List Transaction) (x : Transaction) → AreTransactions w s xs → IsTransaction w s x → transaction_at x.tid xs ≡ None → AreTransactions w s (xs ++ x ∷ [])
are-more w s [] x h k none = (k, refl, tt)
are-more w s (y ∷ ys) x h k none = by (tid_tells y.tid x.tid) none (are-more w s ys x h.2 k)
  where
    no : Some y ≡ None → ⊥
    no q = cc

    by : Is y.tid x.tid → (if tid_eq y.tid x.tid then Some y else transaction_at x.tid ys) ≡ None → (transaction_at x.tid ys ≡ None → AreTransactions w s (ys ++ x ∷ [])) → AreTransactions w s (y ∷ ys ++ x ∷ [])
    by (inl p) q on = absurd (no (subst (λ (b : Bool). (if b then Some y else transaction_at x.tid ys) ≡ None) p.0 q))
    by (inr p) q on = let none = subst (λ (b : Bool). (if b then Some y else transaction_at x.tid ys) ≡ None) p.0 q in
        (h.0, at-more y.tid ys x none ∙ other (tid_tells x.tid y.tid) ∙ h.1, on none)
      where
        other : Is x.tid y.tid → (if tid_eq x.tid y.tid then Some x else transaction_at y.tid ys) ≡ transaction_at y.tid ys
        other (inl t) = absurd (p.1 (sym t.1))
        other (inr t) = ap (λ (b : Bool). if b then Some x else transaction_at y.tid ys) t.0
