-- A loop that names each transaction that isn't named yet reports what a restart of the system reports.
use Rattle.jn_world_refines.proofs.Common.{◌≡◌, Bool, true, false, List, [], ◌∷◌, refl, ◌∙◌, ap, subst, arith, ◌||◌, ◌&&◌, if◌then◌else◌, list_any, list_all, fun_ext, nat_tests, Tid, tid_eq, tid_tells, Text, has_line, named_now, are_rising, tid_before, with_name, named_by, names_told}
use Rattle.jn_report.specs.declared.line.Text.TheVariants as says

-- ---- names in rising order

pub all-first : (a b : Bool) → (a && b) ≡ true → a ≡ true
all-first a b h = grind arith

pub all-second : (a b : Bool) → (a && b) ≡ true → b ≡ true
all-second a b h = grind arith

-- what holds of all these holds of each
pub of-all : {A : Type 0} (test : A → Bool) (eq : A → A → Bool) (a : A) → ((b : A) → eq b a ≡ true → test b ≡ true → test a ≡ true)
    → (bs : List A) → list_all test bs ≡ true → list_any (λ b. eq b a) bs ≡ true → test a ≡ true
of-all test eq a same [] h k = absurd (clash k)
  where
    clash : false ≡ true → ⊥
    clash e = cc
of-all {A} test eq a same (b ∷ bs) h k = by (eq b a) refl k (of-all test eq a same bs (all-second (test b) (list_all test bs) h))
  where
    by : (t : Bool) → eq b a ≡ t → (t || list_any (λ b. eq b a) bs) ≡ true → (list_any (λ b. eq b a) bs ≡ true → test a ≡ true) → test a ≡ true
    by true e q again = same b e (all-first (test b) (list_all test bs) h)
    by false e q again = again q

same-tid : (test : Tid → Bool) (T U : Tid) → tid_eq T U ≡ true → test T ≡ true → test U ≡ true
same-tid test T U e h = subst (λ V. test V ≡ true) (is T U e) h
  where
    is : (T U : Tid) → tid_eq T U ≡ true → T ≡ U
    is T U e = grind (arith, tid_tells)

other-tid : (T U : Tid) → tid_before T U ≡ true → tid_eq T U ≡ false
other-tid T U h = grind (arith, nat_tests)

-- ---- what is reported

pub told-names : (Ts : List Tid) (lines : List Text) (named : Tid → Bool) → are_rising tid_before Ts ≡ true → ((T : Tid) → list_any (λ U. tid_eq U T) Ts ≡ true → named T ≡ has_line T lines)
    → names_told Ts named ≡ named_now Ts lines
told-names [] lines named rising same = refl
told-names (T ∷ Ts) lines named rising same = by (named T) (has_line T lines) (same T here)
    (told-names Ts lines named risen after) (told-names Ts lines (with_name T named) risen later)
  where
    here : (tid_eq T T || list_any (λ U. tid_eq U T) Ts) ≡ true
    here = grind (arith, tid_tells)

    either : (a b : Bool) → b ≡ true → (a || b) ≡ true
    either a b h = grind arith

    after : (U : Tid) → list_any (λ V. tid_eq V U) Ts ≡ true → named U ≡ has_line U lines
    after U h = same U (either (tid_eq T U) (list_any (λ V. tid_eq V U) Ts) h)

    apart : (U : Tid) → list_any (λ V. tid_eq V U) Ts ≡ true → tid_eq T U ≡ false
    apart U h = other-tid T U (of-all (λ V. tid_before T V) tid_eq U (λ V. same-tid (λ W. tid_before T W) V U) Ts (all-first (list_all (λ V. tid_before T V) Ts) (are_rising tid_before Ts) rising) h)

    later : (U : Tid) → list_any (λ V. tid_eq V U) Ts ≡ true → with_name T named U ≡ has_line U lines
    later U h = ap (λ b. b || named U) (apart U h) ∙ after U h

    risen : are_rising tid_before Ts ≡ true
    risen = all-second (list_all (λ V. tid_before T V) Ts) (are_rising tid_before Ts) rising

    by : (a b : Bool) → a ≡ b → names_told Ts named ≡ named_now Ts lines → names_told Ts (with_name T named) ≡ named_now Ts lines
        → (if a then names_told Ts named else says.Commit T ∷ names_told Ts (with_name T named)) ≡ (if b then named_now Ts lines else says.Commit T ∷ named_now Ts lines)
    by true true e known new = known
    by false false e known new = ap (λ texts. says.Commit T ∷ texts) new
    by true false e known new = absurd (cc e)
    by false true e known new = absurd (cc e)

-- ---- which are named afterwards

named-one : (Ts : List Tid) (named : Tid → Bool) (U : Tid) → named_by Ts named U ≡ (has_line U (names_told Ts named) || named U)
named-one [] named U = refl
named-one (T ∷ Ts) named U = by (named T) (named-one Ts named U) (named-one Ts (with_name T named) U)
  where
    turn : (a b c d : Bool) → a ≡ (b || (c || d)) → a ≡ ((c || b) || d)
    turn a b c d h = grind arith

    by : (b : Bool) → named_by Ts named U ≡ (has_line U (names_told Ts named) || named U)
        → named_by Ts (with_name T named) U ≡ (has_line U (names_told Ts (with_name T named)) || (tid_eq T U || named U))
        → (if b then named_by Ts named else named_by Ts (with_name T named)) U ≡ (has_line U (if b then names_told Ts named else says.Commit T ∷ names_told Ts (with_name T named)) || named U)
    by true e f = e
    by false e f = turn (named_by Ts (with_name T named) U) (has_line U (names_told Ts (with_name T named))) (tid_eq T U) (named U) f

pub named-by : (Ts : List Tid) (named : Tid → Bool) → named_by Ts named ≡ (λ U. has_line U (names_told Ts named) || named U)
named-by Ts named = fun_ext (λ U. named-one Ts named U)
