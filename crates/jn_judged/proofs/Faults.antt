-- No line is at fault by a rule exactly where none breaks it, but for what a show or the end leaves out.
use Rattle.jn_judged.proofs.Common.{ltb-true, ltb-false, ◌≡◌, ◌⊎◌, ◌↔◌, inl, inr, ℕ, zero, suc, cases_Bool, true, false, if◌then◌else◌, nat_eq, List, length, refl, sym, subst, arith, ◌+◌, ◌<◌, ◌≤◌, AllFiles, Event, When, Line, lines_at, ServerNo, Rule, breaks_outcomes, breaks_causes, breaks_following, breaks_order, breaks_shows, files_when, LeavesOut, Shows, Breaks, BreaksOrder, BreaksShows, BreaksOutcomes, BreaksCauses, BreaksFollowing, IsFault, InLine, LeftOut, lines_up_to, IsLeastFault, Keeps, IsFaultless}
use Rattle.std.specs.Prelude.{nat_lt}
use Rattle.jn_judged.proofs.Sets.{clash, not-so}
use Rattle.jn_judged.proofs.Splits.{NoneBreaks, none-breaks, split-of}

-- the rule of a number
abbrev pub breaks_by : AllFiles → List Event → ℕ → Rule
breaks_by files events rule before l after =
    if nat_eq rule 10 then breaks_order files events before l after
    else (if nat_eq rule 11 then breaks_shows files events before l after
    else (if nat_eq rule 12 then breaks_outcomes before l after
    else (if nat_eq rule 13 then breaks_causes events before l after
    else (if nat_eq rule 14 then breaks_following events before l after
    else false))))

broken : (files : AllFiles) (events : List Event) (before : List Line) (l : Line) (after : List Line) (rule : ℕ) → Breaks files events before l after rule → breaks_by files events rule before l after ≡ true
broken files events before l after rule (BreaksOrder b) = b
broken files events before l after rule (BreaksShows b) = b
broken files events before l after rule (BreaksOutcomes b) = b
broken files events before l after rule (BreaksCauses b) = b
broken files events before l after rule (BreaksFollowing b) = b

module _ (files : AllFiles) (events : List Event) (lines : List Line) where
  -- neither a show nor the end leaves something out
  abbrev pub NothingLeftOut : Type 0
  NothingLeftOut = (w : When) (s : ServerNo) → Shows events lines w s → LeavesOut (files_when files events lines w) s (lines_at w lines) → ⊥

  no-fault : (line rule r : ℕ) → NoneBreaks (breaks_by files events r) lines → (r ≡ 11 → NothingLeftOut) → rule ≡ r → IsFault files events lines line rule → ⊥
  no-fault line rule r none left same (InLine before l after x e b) =
      clash (breaks_by files events r before l after) (subst (λ (n : ℕ). breaks_by files events n before l after ≡ true) same (broken files events before l after x b)) (split-of (breaks_by files events r) lines before l after none e)
  no-fault line rule r none left same (LeftOut w s shown out) = left (sym same) w s shown out

  pub keeps-from : (rule : ℕ) → NoneBreaks (breaks_by files events rule) lines → (rule ≡ 11 → NothingLeftOut) → Keeps files events lines rule
  keeps-from rule none left line fault = no-fault line rule rule none left refl fault

  pub keeps-to : (breaks : Rule) (rule : ℕ) → ((before : List Line) (l : Line) (after : List Line) → breaks before l after ≡ true → Breaks files events before l after rule) → Keeps files events lines rule → NoneBreaks breaks lines
  keeps-to breaks rule make h = none-breaks breaks lines (λ before l after e. not-so (breaks before l after) (λ b. h (length before + 1) (InLine before l after rule e (make before l after b))))

-- each fault is by one of the five rules
pub one-of : (files : AllFiles) (events : List Event) (lines : List Line) (line rule : ℕ) → IsFault files events lines line rule
    → Keeps files events lines 10 → Keeps files events lines 11 → Keeps files events lines 12 → Keeps files events lines 13 → Keeps files events lines 14 → ⊥
one-of files events lines line rule (InLine before l after x e (BreaksOrder b)) a b11 c d f = a (length before + 1) (InLine before l after 10 e (BreaksOrder b))
one-of files events lines line rule (InLine before l after x e (BreaksShows b)) a b11 c d f = b11 (length before + 1) (InLine before l after 11 e (BreaksShows b))
one-of files events lines line rule (InLine before l after x e (BreaksOutcomes b)) a b11 c d f = c (length before + 1) (InLine before l after 12 e (BreaksOutcomes b))
one-of files events lines line rule (InLine before l after x e (BreaksCauses b)) a b11 c d f = d (length before + 1) (InLine before l after 13 e (BreaksCauses b))
one-of files events lines line rule (InLine before l after x e (BreaksFollowing b)) a b11 c d f = f (length before + 1) (InLine before l after 14 e (BreaksFollowing b))
one-of files events lines line rule (LeftOut w s shown out) a b11 c d f = b11 (lines_up_to w lines + 1) (LeftOut w s shown out)

-- ---- the least fault

pub one-least : (files : AllFiles) (events : List Event) (lines : List Line) (line rule other other_rule : ℕ) → IsLeastFault files events lines line rule → IsLeastFault files events lines other other_rule → (line ≡ other) × (rule ≡ other_rule)
one-least files events lines line rule other other_rule g h = by (g.least other other_rule h.fault) (h.least line rule g.fault)
  where
    by : (line < other) ⊎ ((line ≡ other) × (rule ≤ other_rule)) → (other < line) ⊎ ((other ≡ line) × (other_rule ≤ rule)) → (line ≡ other) × (rule ≡ other_rule)
    by (inl a) (inl b) = absurd (omega (arith, a, b))
    by (inl a) (inr b) = let e = b.0 in absurd (omega (arith, a, e))
    by (inr a) (inl b) = let e = a.0 in absurd (omega (arith, b, e))
    by (inr a) (inr b) = let x = a.1 in let y = b.1 in (a.0, omega (arith, x, y))

-- where no line is the least at fault
module _ (files : AllFiles) (events : List Event) (lines : List Line) (none : (line rule : ℕ) → IsLeastFault files events lines line rule → ⊥) where
  abbrev NoneBefore : ℕ → Type 0
  NoneBefore line = (other rule : ℕ) → other < line → IsFault files events lines other rule → ⊥

  abbrev NoneLesser : ℕ → ℕ → Type 0
  NoneLesser line rule = (other : ℕ) → other < rule → IsFault files events lines line other → ⊥

  not-lesser : (line rule : ℕ) → NoneBefore line → NoneLesser line rule → (other other_rule : ℕ) → IsFault files events lines other other_rule → (line < other) ⊎ ((line ≡ other) × (rule ≤ other_rule))
  not-lesser line rule before lesser other other_rule fault = elim (cases_Bool (nat_lt other line)) [
    | inl a ↦ absurd (before other other_rule (ltb-true other line a) fault)
    | inr a ↦ elim (cases_Bool (nat_lt line other)) [
      | inl b ↦ inl (ltb-true line other b)
      | inr b ↦ (let x = ltb-false other line a in let y = ltb-false line other b in at-line (omega (arith, x, y)))
    ]
  ]
    where
      at-line : line ≡ other → (line < other) ⊎ ((line ≡ other) × (rule ≤ other_rule))
      at-line e = elim (cases_Bool (nat_lt other_rule rule)) [
        | inl a ↦ absurd (lesser other_rule (ltb-true other_rule rule a) (subst (λ (n : ℕ). IsFault files events lines n other_rule) (sym e) fault))
        | inr a ↦ inr (e, ltb-false other_rule rule a)
      ]

  none-at : (line : ℕ) → NoneBefore line → (most rule : ℕ) → rule < most → IsFault files events lines line rule → ⊥
  none-at line before zero rule few fault = absurd (omega (arith, few))
  none-at line before (suc most) rule few fault = none line rule (record { fault = fault; least = not-lesser line rule before (λ other less. none-at line before most other (omega (arith, few, less))) })

  none-up-to : (most line rule : ℕ) → line < most → IsFault files events lines line rule → ⊥
  none-up-to zero line rule few fault = absurd (omega (arith, few))
  none-up-to (suc most) line rule few fault = none-at line (λ other r less. none-up-to most other r (omega (arith, few, less))) (suc rule) rule (omega arith) fault

pub least-or-none : (files : AllFiles) (events : List Event) (lines : List Line) → IsFaultless files events lines ↔ ((line rule : ℕ) → IsLeastFault files events lines line rule → ⊥)
least-or-none files events lines = (λ h line rule least. h line rule least.fault, λ none line rule fault. none-up-to files events lines none (suc line) line rule (omega arith) fault)
