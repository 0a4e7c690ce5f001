-- What is said of lines, without those aside.
use Rattle.jn_aside.proofs.Common.{◌≡◌, inl, inr, ℕ, ◌+◌, Bool, true, false, if◌then◌else◌, List, [], ◌∷◌, ◌++◌, Option, None, filter, refl, sym, ◌∙◌, ap, subst, arith, ◌||◌, cases_Bool, ServerNo, ClientNo, Tid, When, AtEvent, Text, Line, is_before, lines_before, says_it, count_lines, commit_in, history_of, begun_after, begun_then, is_tid, is_in, is_aside, plain}
use Rattle.std.specs.List.{fold, list_all}
use Rattle.jn_base.specs.declared.names.Party.{Party}
use Rattle.jn_base.specs.declared.names.MsgKind.{MsgKind}
use Rattle.jn_report.specs.declared.line.Text.TheVariants as says

-- what is so of both kinds of lines aside is so of each text aside
pub of-aside : (P : Text → Type 0) → ((s : ServerNo) (epoch : ℕ) → P (says.Up s epoch)) → ((k : ℕ) (from to : Party) (kind : MsgKind) → P (says.Message k from to kind)) → (x : Text) → is_aside x ≡ true → P x
of-aside P up message (says.Up s epoch) e = up s epoch
of-aside P up message (says.Message k from to kind) e = message k from to kind
of-aside P up message _ e = absurd (cc e)

-- a test that no text aside passes
abbrev pub IsMute : (Text → Bool) → Type 0
IsMute test = (x : Text) → is_aside x ≡ true → test x ≡ false

pub mute : (test : Text → Bool) → ((s : ServerNo) (epoch : ℕ) → test (says.Up s epoch) ≡ false) → ((k : ℕ) (from to : Party) (kind : MsgKind) → test (says.Message k from to kind) ≡ false) → IsMute test
mute test up message = of-aside (λ x. test x ≡ false) up message

-- ---- one line more

pub plain-aside : (l : Line) (ls : List Line) → is_aside l.text ≡ true → plain (l ∷ ls) ≡ plain ls
plain-aside l ls e = rw e refl

pub plain-other : (l : Line) (ls : List Line) → is_aside l.text ≡ false → plain (l ∷ ls) ≡ l ∷ plain ls
plain-other l ls e = rw e refl

pub plain-append : (xs ys : List Line) → plain (xs ++ ys) ≡ plain xs ++ plain ys
plain-append [] ys = refl
plain-append (l ∷ xs) ys = elim (cases_Bool (is_aside l.text)) [ inl e ↦ rw e (plain-append xs ys) | inr e ↦ rw e (ap (λ (zs : List Line). l ∷ zs) (plain-append xs ys)) ]

pub plain-none : (ls : List Line) → list_all (λ (l : Line). is_aside l.text) ls ≡ true → plain ls ≡ []
plain-none [] h = refl
plain-none (l ∷ ls) h = elim (cases_Bool (is_aside l.text)) [ inl e ↦ rw e (plain-none ls (rw e at h)) | inr e ↦ absurd (cc (e, h)) ]

-- what is the same of lines and of all but those aside is the same of lines that are one but for those
pub same-of : {X : Type 0} (f : List Line → X) → ((xs : List Line) → f (plain xs) ≡ f xs) → (a b : List Line) → plain a ≡ plain b → f a ≡ f b
same-of f h a b e = sym (h a) ∙ ap f e ∙ h b

-- ---- some of the lines

pub filter-plain : (p : When → Bool) (xs : List Line) → filter (λ (l : Line). p l.when) (plain xs) ≡ plain (filter (λ (l : Line). p l.when) xs)
filter-plain p [] = refl
filter-plain p (l ∷ xs) = elim (cases_Bool (is_aside l.text)) [
  | inl e ↦ elim (cases_Bool (p l.when)) [ inl h ↦ rw (e, h, e) (filter-plain p xs) | inr h ↦ rw (e, h) (filter-plain p xs) ]
  | inr e ↦ elim (cases_Bool (p l.when)) [ inl h ↦ rw (e, h, e) (ap (λ (zs : List Line). l ∷ zs) (filter-plain p xs)) | inr h ↦ rw (e, h) (filter-plain p xs) ]
]

-- so they are one but for lines aside, too
pub filter-aside : (p : When → Bool) (a b : List Line) → plain a ≡ plain b → plain (filter (λ (l : Line). p l.when) a) ≡ plain (filter (λ (l : Line). p l.when) b)
filter-aside p a b e = sym (filter-plain p a) ∙ ap (filter (λ (l : Line). p l.when)) e ∙ filter-plain p b

-- ---- tests and counts

pub says-plain : (test : Text → Bool) → IsMute test → (xs : List Line) → says_it test (plain xs) ≡ says_it test xs
says-plain test h [] = refl
says-plain test h (l ∷ xs) = elim (cases_Bool (is_aside l.text)) [ inl e ↦ rw (e, h l.text e) (says-plain test h xs) | inr e ↦ rw e (ap (λ b. test l.text || b) (says-plain test h xs)) ]

-- counted on from any number
counted-plain : (test : Text → Bool) → IsMute test → (a : ℕ) (xs : List Line) → fold (λ n (l : Line). n + (if test l.text then 1 else 0)) a (plain xs) ≡ fold (λ n (l : Line). n + (if test l.text then 1 else 0)) a xs
counted-plain test h a [] = refl
counted-plain test h a (l ∷ xs) = elim (cases_Bool (is_aside l.text)) [ inl e ↦ rw e (counted-plain test h a xs ∙ ap (λ n. fold (λ n (l : Line). n + (if test l.text then 1 else 0)) n xs) (same (test l.text) (h l.text e))) | inr e ↦ rw e (counted-plain test h (a + (if test l.text then 1 else 0)) xs) ]
  where
    same : (b : Bool) → b ≡ false → a ≡ a + (if b then 1 else 0)
    same true e = absurd (cc e)
    same false e = omega arith

pub count-plain : (test : Text → Bool) → IsMute test → (xs : List Line) → count_lines test (plain xs) ≡ count_lines test xs
count-plain test h xs = counted-plain test h 0 xs

-- ---- commits, and which transaction a client is in

pub history-plain : (xs : List Line) → history_of (plain xs) ≡ history_of xs
history-plain [] = refl
history-plain (l ∷ xs) = elim (cases_Bool (is_aside l.text)) [ inl e ↦ rw (e, of-aside (λ x. commit_in x ≡ []) (λ s n. refl) (λ k a b kind. refl) l.text e) (history-plain xs) | inr e ↦ rw e (ap (λ (ts : List Tid). commit_in l.text ++ ts) (history-plain xs)) ]

begun_then-plain : (c : ClientNo) (now : Option Tid) (xs : List Line) → begun_then c now (plain xs) ≡ begun_then c now xs
begun_then-plain c now [] = refl
begun_then-plain c now (l ∷ xs) = elim (cases_Bool (is_aside l.text)) [
  | inl e ↦ rw (e, of-aside (λ x. begun_after c now x ≡ now) (λ s n. refl) (λ k a b kind. refl) l.text e) (begun_then-plain c now xs)
  | inr e ↦ rw e (begun_then-plain c (begun_after c now l.text) xs)
]

pub is_in-plain : (c : ClientNo) (t : Tid) (number : ℕ) (xs : List Line) → is_in c t number (plain xs) ≡ is_in c t number xs
is_in-plain c t number xs = ap (λ o. is_tid o t) (ap (begun_then c None) (filter-plain (λ w. is_before w (AtEvent number)) xs) ∙ begun_then-plain c None (lines_before (AtEvent number) xs))

-- ---- what is said line by line

-- It goes from state to state, a line after the other. A line aside needs nothing and leaves the state as it is, but for what
-- `bare` leaves out of it; and what another line needs is the same of the bare state.
pub record Passes (S : Type 0) (A : S → List Line → Type 0) (Needs : S → Line → Type 0) (next : S → Line → S) (bare : S → S) : Type 0 where
  pub none : (s : S) → A s []
  pub join : (s : S) (l : Line) (ls : List Line) → Needs s l → A (next s l) ls → A s (l ∷ ls)
  pub first : (s : S) (l : Line) (ls : List Line) → A s (l ∷ ls) → Needs s l
  pub rest : (s : S) (l : Line) (ls : List Line) → A s (l ∷ ls) → A (next s l) ls
  pub free : (s : S) (l : Line) → is_aside l.text ≡ true → Needs s l
  pub still : (s : S) (l : Line) → is_aside l.text ≡ true → bare (next s l) ≡ bare s
  pub goes : (s : S) (l : Line) → is_aside l.text ≡ false → bare (next s l) ≡ next (bare s) l
  pub down : (s : S) (l : Line) → is_aside l.text ≡ false → Needs s l → Needs (bare s) l
  pub up : (s : S) (l : Line) → is_aside l.text ≡ false → Needs (bare s) l → Needs s l

module _ (S : Type 0) (A : S → List Line → Type 0) (Needs : S → Line → Type 0) (next : S → Line → S) (bare : S → S) (p : Passes S A Needs next bare) where
  to-plain : (s : S) (ls : List Line) → A s ls → A (bare s) (plain ls)
  to-plain s [] h = p.none (bare s)
  to-plain s (l ∷ ls) h = elim (cases_Bool (is_aside l.text)) [
    | inl e ↦ subst (λ zs. A (bare s) zs) (sym (plain-aside l ls e)) (subst (λ z. A z (plain ls)) (p.still s l e) (to-plain (next s l) ls (p.rest s l ls h)))
    | inr e ↦ subst (λ zs. A (bare s) zs) (sym (plain-other l ls e)) (p.join (bare s) l (plain ls) (p.down s l e (p.first s l ls h)) (subst (λ z. A z (plain ls)) (p.goes s l e) (to-plain (next s l) ls (p.rest s l ls h))))
  ]

  from-plain : (s : S) (ls : List Line) → A (bare s) (plain ls) → A s ls
  from-plain s [] h = p.none s
  from-plain s (l ∷ ls) h = elim (cases_Bool (is_aside l.text)) [
    | inl e ↦ p.join s l ls (p.free s l e) (from-plain (next s l) ls (subst (λ z. A z (plain ls)) (sym (p.still s l e)) (subst (λ zs. A (bare s) zs) (plain-aside l ls e) h)))
    | inr e ↦ let k = subst (λ zs. A (bare s) zs) (plain-other l ls e) h in
        p.join s l ls (p.up s l e (p.first (bare s) l (plain ls) k)) (from-plain (next s l) ls (subst (λ z. A z (plain ls)) (sym (p.goes s l e)) (p.rest (bare s) l (plain ls) k)))
  ]

  pub passes-aside : (s : S) (a b : List Line) → plain a ≡ plain b → A s a → A s b
  passes-aside s a b e h = from-plain s b (subst (λ zs. A (bare s) zs) e (to-plain s a h))

-- where the state has no lines
pub whole : (S : Type 0) (A : S → List Line → Type 0) (Needs : S → Line → Type 0) (next : S → Line → S) → ((s : S) → A s []) → ((s : S) (l : Line) (ls : List Line) → Needs s l → A (next s l) ls → A s (l ∷ ls)) → ((s : S) (l : Line) (ls : List Line) → A s (l ∷ ls) → Needs s l × A (next s l) ls)
    → ((s : S) (l : Line) → is_aside l.text ≡ true → Needs s l) → ((s : S) (l : Line) → is_aside l.text ≡ true → next s l ≡ s) → Passes S A Needs next (λ s. s)
whole S A Needs next none join split free still = record {
  none = none;
  join = join;
  first = λ s l ls h. (split s l ls h).0;
  rest = λ s l ls h. (split s l ls h).1;
  free = free;
  still = still;
  goes = λ s l e. refl;
  down = λ s l e h. h;
  up = λ s l e h. h;
}
