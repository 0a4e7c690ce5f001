-- The lines of one kind among those that a step reports.
use Rattle.jn_wrong.proofs.Common.{◌≡◌, Bool, true, false, List, [], ◌∷◌, ◌++◌, length, drop, refl, ◌∙◌, ap, arith, ◌||◌, ◌&&◌, not, filter, if◌then◌else◌, list_all, drop-append_seam, When, Text, Line, Step, Course, go_on, own_texts, lines_at, may_tell, is_of_delivery, is_up, is_stopped, More, gone-on, NextEvent, is_down}

pub filter-both : {A : Type 0} (test : A → Bool) (xs ys : List A) → filter test (xs ++ ys) ≡ filter test xs ++ filter test ys
filter-both test [] ys = refl
filter-both test (x ∷ xs) ys = by (test x) (filter-both test xs ys)
  where
    by : (b : Bool) → filter test (xs ++ ys) ≡ filter test xs ++ filter test ys → (if b then x ∷ filter test (xs ++ ys) else filter test (xs ++ ys)) ≡ (if b then x ∷ filter test xs else filter test xs) ++ filter test ys
    by true e = ap (λ (zs : List _). x ∷ zs) e
    by false e = e

module _ (test : Text → Bool) where
  pub lines-left : (w : When) (texts : List Text) → filter (λ (l : Line). test l.text) (lines_at w texts) ≡ lines_at w (filter test texts)
  lines-left w [] = refl
  lines-left w (text ∷ texts) = by (test text) (lines-left w texts)
    where
      by : (b : Bool) → filter (λ (l : Line). test l.text) (lines_at w texts) ≡ lines_at w (filter test texts)
          → (if b then record { when = w; text = text } ∷ filter (λ (l : Line). test l.text) (lines_at w texts) else filter (λ (l : Line). test l.text) (lines_at w texts)) ≡ lines_at w (if b then text ∷ filter test texts else filter test texts)
      by true e = ap (λ (ls : List Line). record { when = w; text = text } ∷ ls) e
      by false e = e

  pub none-left : (texts : List Text) → list_all (λ (text : Text). not (test text)) texts ≡ true → filter test texts ≡ []
  none-left [] h = refl
  none-left (text ∷ texts) h = by (test text) (first (not (test text)) (list_all (λ (text : Text). not (test text)) texts) h) (none-left texts (second (not (test text)) (list_all (λ (text : Text). not (test text)) texts) h))
    where
      first : (a b : Bool) → (a && b) ≡ true → a ≡ true
      first a b k = grind arith

      second : (a b : Bool) → (a && b) ≡ true → b ≡ true
      second a b k = grind arith

      by : (b : Bool) → not b ≡ true → filter test texts ≡ [] → (if b then text ∷ filter test texts else filter test texts) ≡ []
      by false k e = e
      by true k e = absurd (clash k)
        where
          clash : false ≡ true → ⊥
          clash z = cc

  -- of what the steps of the system report none is of a kind that no step reports
  pub own-filtered : ((step : Step) (text : Text) → may_tell step text ≡ true → not (test text) ≡ true) → (steps : List Step) (c : Course) → filter test (own_texts c.world (go_on steps c).world) ≡ []
  own-filtered system steps c = by (gone-on (λ (text : Text). not (test text)) system steps c)
    where
      by : More (λ (text : Text). not (test text)) c.world (go_on steps c).world → filter test (own_texts c.world (go_on steps c).world) ≡ []
      by m = ap (λ (ls : List Text). filter test (drop (length c.world.lines) ls)) m.lines ∙ ap (λ (ls : List Text). filter test ls) (drop-append_seam c.world.lines m.texts) ∙ none-left m.texts m.kinds

-- ---- what steps of the system report

abbrev pub is_of_step : Text → Bool
is_of_step text = is_of_delivery text || (is_up text || (is_down text || is_stopped text))

pub step-tells : (step : Step) (text : Text) → may_tell step text ≡ true → is_of_step text ≡ true
step-tells NextEvent text h = grind arith
step-tells _ text h = grind arith
