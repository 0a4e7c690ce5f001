-- The report of a run that was cut off, and that of a whole run.
use Rattle.jn_headline.proofs.Common.{◌≡◌, inr, ℕ, suc, ◌+◌, ◌≤◌, ◌<◌, Bool, true, false, List, [], ◌∷◌, ◌++◌, append-nil, length, refl, sym, ◌∙◌, ap, subst, arith, length-map, not, if◌then◌else◌, ServerNo, AllFiles, Event, AtEvent, Text, Line, when_eq, lines_at, ShownSoFar, nothing_asked, Follows, Caused-events, lines_at-outside, plain, is_show, filter-aside, silent-agrees, silent-follows, opening, Item, events_of, world_of, lines_of, IsReported, told_by_steps, at_end, items-follow, opening-reached, IsOfItsCommits, IsCutEnd, IsTrueSoFar, cut_lines, Moment, IsTrueOfBegun, but_shows, Agrees}
use Rattle.jn_serial.specs.Caused.{Caused}
use Rattle.jn_aside.proofs.Telling.{told-aside}
use Rattle.jn_aside.proofs.Answering.{follows-aside}
use Rattle.jn_aside.proofs.Showing.{agrees-aside, so-far-aside, at-end-aside}
use Rattle.jn_aside.proofs.Causing.{caused-aside}
use Rattle.jn_headline.proofs.CutReports.Cut.{cut-true, run-true, next-true}
use Rattle.jn_headline.proofs.Ended.{PartOf, dismissed, dismissal-untold}

-- ---- lines that are one but for those aside

pub true-aside : (files : AllFiles) (events shows : List Event) (a b : List Line) → plain a ≡ plain b → IsTrueSoFar files events shows a → IsTrueSoFar files events shows b
true-aside files events shows a b same t = record {
  agrees = agrees-aside events a b same files t.agrees;
  shown = so-far-aside files shows a b same t.shown;
  told = told-aside a b same t.told;
  caused = caused-aside events a b same t.caused;
  follows = follows-aside events a b same t.follows;
}

pub whole-aside : (files : AllFiles) (events : List Event) (a b : List Line) → plain a ≡ plain b → IsOfItsCommits files events a → IsOfItsCommits files events b
whole-aside files events a b same t = record { so_far = true-aside files events events a b same t.so_far; at_end = at-end-aside files events a b same t.at_end }

-- ---- all that began is reported

pub none-silent : (files : AllFiles) (begun rest schedule : List Event) (count : ℕ) (lines : List Line) → begun ++ rest ≡ schedule → length begun ≡ count → IsTrueSoFar files begun begun lines → IsTrueOfBegun files schedule count lines
none-silent files begun rest schedule count lines e n t = record {
  told_of = begun;
  silent = [];
  rest = rest;
  events = ap (λ (es : List Event). es ++ rest) (append-nil begun) ∙ e;
  one = omega arith;
  begun = omega (arith, n);
  untold = λ z k. absurd (none-left z k);
  so_far = record {
    agrees = subst (λ (es : List Event). Agrees files es lines) (sym (append-nil begun)) t.agrees;
    shown = subst (λ (es : List Event). ShownSoFar files es lines) (sym (append-nil begun)) t.shown;
    told = t.told;
    caused = subst (λ (es : List Event). Caused es lines) (sym (append-nil begun)) t.caused;
    follows = subst (λ (es : List Event). Follows es lines) (sym (append-nil begun)) t.follows;
  };
}
  where
    none-left : (z : Event) → [] ≡ z ∷ [] → ⊥
    none-left z k = cc

-- ---- within its end

module _ (servers : ℕ) (files : AllFiles) (epochs : ServerNo → ℕ) (items : List Item) (now : Moment) (part : PartOf servers files epochs items now) where
  pub part-is-cut : IsCutEnd (record { steps = part.steps; printed = part.printed }) (world_of items (opening servers files epochs))
  part-is-cut = record { steps = (tt, part.is_run); of_end = part.of_end; printed = part.prints }

  pub part-lines : plain now.state.lines ≡ plain (cut_lines items (record { steps = part.steps; printed = part.printed }) (opening servers files epochs))
  part-lines = part.lines ∙ ap (λ (ts : List Text). plain (lines_of items (opening servers files epochs) ++ at_end (ts ++ told_by_steps part.steps (dismissed (world_of items (opening servers files epochs))).world ++ part.printed))) (sym (dismissal-untold (world_of items (opening servers files epochs))))

module _ (servers : ℕ) (files : AllFiles) (epochs : ServerNo → ℕ) (items : List Item) (reported : IsReported items (opening servers files epochs)) where
  pub part-true : (now : Moment) → PartOf servers files epochs items now → IsTrueSoFar files (events_of items) (events_of items) now.state.lines
  part-true now part = true-aside files (events_of items) (events_of items) _ now.state.lines (sym (part-lines servers files epochs items now part))
      (cut-true servers files epochs items (record { steps = part.steps; printed = part.printed }) reported (part-is-cut servers files epochs items now part))

  -- ---- within its schedule

  abbrev ls : List Line
  ls = lines_of items (opening servers files epochs)

  nothing-told : lines_at (AtEvent (1 + length (events_of items))) (lines_of items (opening servers files epochs)) ≡ []
  nothing-told = lines_at-outside 1 (1 + length items) (1 + length (events_of items)) ls (items-follow files epochs items (opening servers files epochs) (opening-reached files epochs servers) reported.steps reported.under nothing_asked (λ c. refl)).within (inr (past (length items) (length (events_of items)) (length-map items (λ (item : Item). item.event))))
    where
      past : (n m : ℕ) → m ≡ n → 1 + n ≤ 1 + m
      past n m q = omega (arith, q)

  last-number : (count : ℕ) → count ≡ length items + 1 → length (events_of items) + 1 ≡ count
  last-number count n = let long = length-map items (λ (item : Item). item.event) in omega (arith, n, long)

  at-last : (count : ℕ) → count ≡ length items + 1 → plain (lines_at (AtEvent count) (lines_of items (opening servers files epochs))) ≡ []
  at-last count n = ap (λ (k : ℕ). plain (lines_at (AtEvent k) ls)) (sym (last-number count n) ∙ other-way (length (events_of items))) ∙ ap plain nothing-told
    where
      other-way : (a : ℕ) → a + 1 ≡ 1 + a
      other-way a = omega arith

  -- of the last event nothing is reported
  last-silent : (e : Event) (rest schedule : List Event) (count : ℕ) → (events_of items ++ (e ∷ [])) ++ rest ≡ schedule → count ≡ length items + 1 → (b : Bool) → is_show e ≡ b → IsTrueOfBegun files schedule count (lines_of items (opening servers files epochs))
  last-silent e rest schedule count is n false other = let t = next-true servers files epochs items e reported other in record {
    told_of = events_of items;
    silent = e ∷ [];
    rest = rest;
    events = is;
    one = omega arith;
    begun = last-number count n;
    untold = λ z k. at-last count n;
    so_far = record {
      agrees = t.agrees;
      shown = subst (λ (b : Bool). ShownSoFar files (events_of items ++ (if not b then e ∷ [] else [])) ls) (sym other) t.shown;
      told = t.told;
      caused = t.caused;
      follows = t.follows;
    };
  }
  last-silent e rest schedule count is n true show = let t = run-true servers files epochs items reported in record {
    told_of = events_of items;
    silent = e ∷ [];
    rest = rest;
    events = is;
    one = omega arith;
    begun = last-number count n;
    untold = λ z k. at-last count n;
    so_far = record {
      agrees = silent-agrees (events_of items) e ls t.follows files t.agrees;
      shown = subst (λ (b : Bool). ShownSoFar files (events_of items ++ (if not b then e ∷ [] else [])) ls) (sym show) (subst (λ (es : List Event). ShownSoFar files es ls) (sym (append-nil (events_of items))) t.shown);
      told = t.told;
      caused = Caused-events (events_of items) (e ∷ []) ls t.caused;
      follows = silent-follows (events_of items) e ls t.follows nothing-told;
    };
  }

  pub schedule-true : (begun rest schedule : List Event) (count : ℕ) → events_of items ++ begun ++ rest ≡ schedule → length begun < 2 → count ≡ length items + length begun → IsTrueOfBegun files schedule count (lines_of items (opening servers files epochs))
  schedule-true [] rest schedule count is few n = none-silent files (events_of items) rest schedule count ls (ap (λ (es : List Event). es ++ rest) (sym (append-nil (events_of items))) ∙ is) (let long = length-map items (λ (item : Item). item.event) in omega (arith, n, long)) (run-true servers files epochs items reported)
  schedule-true (e ∷ []) rest schedule count is few n = last-silent e rest schedule count is n (is_show e) refl
  schedule-true (e ∷ f ∷ begun) rest schedule count is few n = absurd (too-many (length begun) few)
    where
      too-many : (n : ℕ) → suc (suc n) < 2 → ⊥
      too-many n h = omega (arith, h)

pub begun-aside : (files : AllFiles) (schedule : List Event) (count : ℕ) (a b : List Line) → plain a ≡ plain b → IsTrueOfBegun files schedule count a → IsTrueOfBegun files schedule count b
begun-aside files schedule count a b same t = record {
  told_of = t.told_of;
  silent = t.silent;
  rest = t.rest;
  events = t.events;
  one = t.one;
  begun = t.begun;
  untold = λ e k. sym (filter-aside (λ w. when_eq w (AtEvent count)) a b same) ∙ t.untold e k;
  so_far = true-aside files (t.told_of ++ t.silent) (t.told_of ++ but_shows t.silent) a b same t.so_far;
}
