-- The works that a grant breaks go from the machine's memory, one by one.
use Rattle.jn_system_order.proofs.Common.{◌≡◌, ◌≢◌, ◌⊎◌, inl, inr, Bool, true, false, List, [], ◌∷◌, ◌++◌, Option, Some, None, is_some, refl, sym, ◌∙◌, ap, arith, ◌&&◌, ◌||◌, not, if◌then◌else◌, WorkId, work_eq, work_tells, Work, at_work, WorkerTable, work_at, is_work, Machine, Working, Atom, Lose, lose, run, MayRun, working_of, fun_ext}

abbrev pub loses : List WorkId → List Atom
loses [] = []
loses (V ∷ Vs) = Lose V ∷ loses Vs

abbrev pub lost : List WorkId → (WorkId → Option Working) → WorkId → Option Working
lost Vs active U = if is_work U Vs then None else active U

abbrev pub lose_all : List WorkId → Machine → Machine
lose_all Vs w = record w { active = lost Vs w.active }

lost-more : (V : WorkId) (Vs : List WorkId) (active : WorkId → Option Working) (U : WorkId) → lost Vs (at_work active V None) U ≡ lost (V ∷ Vs) active U
lost-more V Vs active U = by (work_eq V U) (is_work U Vs)
  where
    by : (a b : Bool) → (if b then None else (if a then None else active U)) ≡ (if a || b then None else active U)
    by true true = refl
    by true false = refl
    by false true = refl
    by false false = refl

pub run-loses : (Vs : List WorkId) (w : Machine) → run (loses Vs) w ≡ lose_all Vs w
run-loses [] w = refl
run-loses (V ∷ Vs) w = run-loses Vs (lose V w) ∙ ap (λ (f : WorkId → Option Working). record w { active = f }) (fun_ext (λ U. lost-more V Vs w.active U))

pub run-append : (a b : List Atom) (w : Machine) → run (a ++ b) w ≡ run b (run a w)
run-append [] b w = refl
run-append (x ∷ a) b w = run-append a b (run (x ∷ []) w)

pub may-lose : (Vs : List WorkId) (rest : List Atom) (w : Machine) → MayRun rest (run (loses Vs) w) → MayRun (loses Vs ++ rest) w
may-lose [] rest w h = h
may-lose (V ∷ Vs) rest w h = (tt, may-lose Vs rest (lose V w) h)

pub may-append : (a b : List Atom) (w : Machine) → MayRun a w → MayRun b (run a w) → MayRun (a ++ b) w
may-append [] b w h k = k
may-append (x ∷ a) b w h k = (h.0, may-append a b (run (x ∷ []) w) h.1 k)

-- ---- the works of a table that don't stay

abbrev pub missing : (WorkId → Bool) → WorkerTable → List WorkId
missing stays [] = []
missing stays (y ∷ ys) = if stays y.name then missing stays ys else y.name ∷ missing stays ys

pub missing-is : (stays : WorkId → Bool) (t : WorkerTable) (V : WorkId) → is_work V (missing stays t) ≡ (is_some (work_at V t) && not (stays V))
missing-is stays [] V = refl
missing-is stays (y ∷ ys) V = by (work_tells y.name V) (missing-is stays ys V)
  where
    rest : (b c : Bool) → is_work V (missing stays ys) ≡ c → is_work V (if b then missing stays ys else y.name ∷ missing stays ys) ≡ (if b then c else (work_eq y.name V || c))
    rest true c e = e
    rest false c e = ap (λ z. work_eq y.name V || z) e

    own : (b c : Bool) → (if b then (c && not b) else (true || (c && not b))) ≡ not b
    own true c = grind arith
    own false c = refl

    other : (b c : Bool) → (if b then c else (false || c)) ≡ c
    other true c = refl
    other false c = refl

    by : ((work_eq y.name V ≡ true) × (y.name ≡ V)) ⊎ ((work_eq y.name V ≡ false) × (y.name ≢ V)) → is_work V (missing stays ys) ≡ (is_some (work_at V ys) && not (stays V))
        → is_work V (if stays y.name then missing stays ys else y.name ∷ missing stays ys) ≡ (is_some (if work_eq y.name V then Some y else work_at V ys) && not (stays V))
    by (inl p) h = rest (stays y.name) (is_some (work_at V ys) && not (stays V)) h
        ∙ ap (λ (e : Bool). if stays y.name then (is_some (work_at V ys) && not (stays V)) else (e || (is_some (work_at V ys) && not (stays V)))) p.0
        ∙ ap (λ (N : WorkId). if stays N then (is_some (work_at V ys) && not (stays V)) else (true || (is_some (work_at V ys) && not (stays V)))) p.1
        ∙ own (stays V) (is_some (work_at V ys))
        ∙ sym (ap (λ (b : Bool). is_some (if b then Some y else work_at V ys) && not (stays V)) p.0)
    by (inr p) h = rest (stays y.name) (is_some (work_at V ys) && not (stays V)) h
        ∙ ap (λ (e : Bool). if stays y.name then (is_some (work_at V ys) && not (stays V)) else (e || (is_some (work_at V ys) && not (stays V)))) p.0
        ∙ other (stays y.name) (is_some (work_at V ys) && not (stays V))
        ∙ sym (ap (λ (b : Bool). is_some (if b then Some y else work_at V ys) && not (stays V)) p.0)

-- what is left, where each work that stays was active, and the same
pub left-active : (stays : WorkId → Bool) (o : Option Work) (n : Option Working) (V : WorkId) (t : WorkerTable) → work_at V t ≡ o → stays V ≡ is_some n → ((a : Working) → n ≡ Some a → working_of o ≡ Some a)
    → (if is_work V (missing stays t) then None else working_of o) ≡ n
left-active stays o n V t at e same = ap (λ (b : Bool). if b then None else working_of o) (missing-is stays t V)
    ∙ ap (λ z. if is_some z && not (stays V) then None else working_of o) at ∙ ap (λ (b : Bool). if is_some o && not b then None else working_of o) e ∙ by o n same
  where
    by : (o : Option Work) (n : Option Working) → ((a : Working) → n ≡ Some a → working_of o ≡ Some a) → (if is_some o && not (is_some n) then None else working_of o) ≡ n
    by None (Some a) f = f a refl
    by (Some y) (Some a) f = f a refl
    by None None f = refl
    by (Some y) None f = refl
