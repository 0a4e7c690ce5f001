-- What is shown, line by line.
use Rattle.jn_judged.proofs.Common.{◌≡◌, inl, inr, ℕ, ◌+◌, Bool, true, false, ◌&&◌, ◌||◌, not, List, [], ◌∷◌, ◌++◌, length, Option, Some, None, is_some, nat_eq, refl, sym, ◌∙◌, ap, subst, arith, append_assoc, nat_tests, cases_Bool, ◌↔◌, AllFiles, Event, When, AtEvent, End, Text, Line, lines_at, when_eq, event_at, history_of, is_no_show, is_locked, any_says, bytes_eq-Decides, ServerNo, File, Block, IsAsIn, AllAsIn, ShowsFiles, Shown, is_stored_as, prints_wrongly, is_show, has_printed, files_when, is_locked_at_end, miscounts, breaks_shows, OfFile, OfBlock, Shows, ByEvent, AtTheEnd, lines_up_to, BreaksShows, LeftOut, Keeps, CountsCommits}
use Rattle.jn_schedule.specs.declared.Event.TheVariants as events
use Rattle.jn_report.specs.declared.line.Text.TheVariants as says
use Rattle.jn_judged.proofs.Sets.{clash, not-false, not-true, or-false, or-both, both-true}
use Rattle.jn_judged.proofs.Splits.{NoneBreaksFrom, NoneBreaks, none-breaks, split-of, lines_at-take, lines_at-skip}
use Rattle.jn_judged.proofs.Faults.{NothingLeftOut, keeps-to, keeps-from}

-- ---- one text

stored-is : (bytes : List ℕ) (o : Option (List ℕ)) → is_stored_as bytes o ≡ true → o ≡ Some bytes
stored-is bytes None h = cc h
stored-is bytes (Some x) h = ap Some ((bytes_eq-Decides x bytes).0 h)

is-stored : (bytes : List ℕ) (o : Option (List ℕ)) → o ≡ Some bytes → is_stored_as bytes o ≡ true
is-stored bytes o e = subst (λ (x : Option (List ℕ)). is_stored_as bytes x ≡ true) (sym e) ((bytes_eq-Decides bytes bytes).1 refl)

as-in : (files : AllFiles) (text : Text) → prints_wrongly files text ≡ false → IsAsIn files text
as-in files (says.File s f) h = not-false (is_some (files s (File f))) h
as-in files (says.Page s f p bytes) h = stored-is bytes (files s (Block f p)) (not-false (is_stored_as bytes (files s (Block f p))) h)
as-in files _ h = tt

not-wrong : (files : AllFiles) (text : Text) → IsAsIn files text → prints_wrongly files text ≡ false
not-wrong files (says.File s f) h = ap not h
not-wrong files (says.Page s f p bytes) h = ap not (is-stored bytes (files s (Block f p)) h)
not-wrong files _ h = refl

same-number : (n m : ℕ) → n ≡ m → nat_eq n m ≡ true
same-number n m k = grind (arith, k, nat_tests)

-- ---- events

same-when : (v w : When) → when_eq v w ≡ true → v ≡ w
same-when (AtEvent i) (AtEvent j) h = grind (arith, h, nat_tests)
same-when End End h = refl
same-when (AtEvent i) End h = cc h
same-when End (AtEvent j) h = cc h

self-when : (w : When) → when_eq w w ≡ true
self-when (AtEvent i) = grind (arith, nat_tests)
self-when End = refl

the-show : (o : Option Event) → is_show o ≡ true → (s : ServerNo) × (o ≡ Some (events.Show s))
the-show (Some (events.Show s)) h = (s, refl)
the-show _ h = cc h

-- ---- lines of one event among all

module _ (files : AllFiles) (es : List Event) (full : List Line) where
  -- what a line's test is over all lines
  abbrev fails_in : Line → List Line → Bool
  fails_in l after = has_printed es full l.when && prints_wrongly (files_when files es full l.when) l.text || (is_locked_at_end l.when l.text || miscounts full l.text after)

  abbrev NoneFails : List Line → Type 0
  NoneFails [] = Unit {0}
  NoneFails (l ∷ ls) = (fails_in l ls ≡ false) × NoneFails ls

  parts : (l : Line) (after : List Line) → fails_in l after ≡ false → ((has_printed es full l.when && prints_wrongly (files_when files es full l.when) l.text) ≡ false) × ((is_locked_at_end l.when l.text ≡ false) × (miscounts full l.text after ≡ false))
  parts l after h = let one = or-false (has_printed es full l.when && prints_wrongly (files_when files es full l.when) l.text) (is_locked_at_end l.when l.text || miscounts full l.text after) h in
      (one.0, or-false (is_locked_at_end l.when l.text) (miscounts full l.text after) one.1)

  all-as-in : (w : When) (ls : List Line) → has_printed es full w ≡ true → NoneFails ls → AllAsIn (files_when files es full w) (lines_at w ls)
  all-as-in w [] p h = tt
  all-as-in w (l ∷ ls) p h = elim (cases_Bool (when_eq l.when w)) [
    | inl e ↦ rw e (as-in (files_when files es full w) l.text (right e), all-as-in w ls p h.1)
    | inr e ↦ rw e (all-as-in w ls p h.1)
  ]
    where
      second : (a b : Bool) → a ≡ true → (a && b) ≡ false → b ≡ false
      second a b k g = cc (k, g)

      right : when_eq l.when w ≡ true → prints_wrongly (files_when files es full w) l.text ≡ false
      right e = subst (λ (v : When). prints_wrongly (files_when files es full v) l.text ≡ false) (same-when l.when w e)
          (second (has_printed es full l.when) (prints_wrongly (files_when files es full l.when) l.text) (subst (λ (v : When). has_printed es full v ≡ true) (sym (same-when l.when w e)) p) (parts l ls h.0).0)

  none-locked : (ls : List Line) → NoneFails ls → any_says is_locked (lines_at End ls) ≡ false
  none-locked [] h = refl
  none-locked (l ∷ ls) h = elim (cases_Bool (when_eq l.when End)) [
    | inl e ↦ rw e (or-both (is_locked l.text) (any_says is_locked (lines_at End ls)) (here e) (none-locked ls h.1))
    | inr e ↦ rw e (none-locked ls h.1)
  ]
    where
      here : when_eq l.when End ≡ true → is_locked l.text ≡ false
      here e = subst (λ (v : When). is_locked_at_end v l.text ≡ false) (same-when l.when End e) (parts l ls h.0).1.0

  -- ---- what is left out

  shows-files : (w : When) (s : ServerNo) → has_printed es full w ≡ true → Shows es full w s → NoneFails full → NothingLeftOut files es full → ShowsFiles (files_when files es full w) s (lines_at w full)
  shows-files w s p shown h left = record {
    printed = all-as-in w full p h;
    no_other_file = λ f k. by (files_when files es full w s (File f)) refl (λ e. left w s shown (OfFile f e k));
    no_other_block = λ f b k g. by (files_when files es full w s (Block f b)) refl (λ e. left w s shown (OfBlock f b e k g));
  }
    where
      by : (o : Option (List ℕ)) {x : Option (List ℕ)} → x ≡ o → (is_some x ≡ true → ⊥) → x ≡ None
      by None e none = e
      by (Some y) e none = absurd (none (ap is_some e))

  shown-to : NoneFails full → NothingLeftOut files es full → Shown files es full
  shown-to h left = record {
    so_far = λ i s e k. shows-files (AtEvent i) s (printed i s e k) (ByEvent i s e (printed i s e k)) h left;
    at_end = record { all = λ s. shows-files End s refl (AtTheEnd s) h left; unlocked = none-locked full h };
  }
    where
      printed : (i : ℕ) (s : ServerNo) → event_at es i ≡ Some (events.Show s) → any_says is_no_show (lines_at (AtEvent i) full) ≡ false → has_printed es full (AtEvent i) ≡ true
      printed i s e k = rw (e, k) refl
      -- ---- and back

  as-in-at : (w : When) (before : List Line) (l : Line) (after : List Line) → when_eq l.when w ≡ true → AllAsIn (files_when files es full w) (lines_at w (before ++ l ∷ after)) → IsAsIn (files_when files es full w) l.text
  as-in-at w [] l after e h = (subst (AllAsIn (files_when files es full w)) (lines_at-take l w after e) h).0
  as-in-at w (x ∷ before) l after e h = elim (cases_Bool (when_eq x.when w)) [
    | inl k ↦ as-in-at w before l after e (subst (AllAsIn (files_when files es full w)) (lines_at-take x w (before ++ l ∷ after) k) h).1
    | inr k ↦ as-in-at w before l after e (subst (AllAsIn (files_when files es full w)) (lines_at-skip x w (before ++ l ∷ after) k) h)
  ]

  unlocked-at : (before : List Line) (l : Line) (after : List Line) → when_eq l.when End ≡ true → any_says is_locked (lines_at End (before ++ l ∷ after)) ≡ false → is_locked l.text ≡ false
  unlocked-at [] l after e h = (or-false (is_locked l.text) (any_says is_locked (lines_at End after)) (subst (λ (ls : List Line). any_says is_locked ls ≡ false) (lines_at-take l End after e) h)).0
  unlocked-at (x ∷ before) l after e h = elim (cases_Bool (when_eq x.when End)) [
    | inl k ↦ unlocked-at before l after e (or-false (is_locked x.text) (any_says is_locked (lines_at End (before ++ l ∷ after))) (subst (λ (ls : List Line). any_says is_locked ls ≡ false) (lines_at-take x End (before ++ l ∷ after) k) h)).1
    | inr k ↦ unlocked-at before l after e (subst (λ (ls : List Line). any_says is_locked ls ≡ false) (lines_at-skip x End (before ++ l ∷ after) k) h)
  ]

  all-shown : Shown files es full → (w : When) → has_printed es full w ≡ true → AllAsIn (files_when files es full w) (lines_at w full)
  all-shown h End p = (h.at_end.all (record { 0 = 0 })).printed
  all-shown h (AtEvent i) p = let both = both-true (is_show (event_at es i)) (not (any_says is_no_show (lines_at (AtEvent i) full))) p in let one = the-show (event_at es i) both.0 in
      (h.so_far i one.0 one.1 (not-true (any_says is_no_show (lines_at (AtEvent i) full)) both.1)).printed

  line-right : Shown files es full → CountsCommits full → (before : List Line) (l : Line) (after : List Line) → full ≡ before ++ l ∷ after → fails_in l after ≡ false
  line-right h counts before l after same = or-both (has_printed es full l.when && prints_wrongly (files_when files es full l.when) l.text) (is_locked_at_end l.when l.text || miscounts full l.text after)
      (first (has_printed es full l.when) refl) (or-both (is_locked_at_end l.when l.text) (miscounts full l.text after) (second l.when refl) (third l.text after same refl))
    where
      first : (b : Bool) → has_printed es full l.when ≡ b → (has_printed es full l.when && prints_wrongly (files_when files es full l.when) l.text) ≡ false
      first true p = rw p (not-wrong (files_when files es full l.when) l.text (as-in-at l.when before l after (self-when l.when) (subst (λ (ls : List Line). AllAsIn (files_when files es full l.when) (lines_at l.when ls)) same (all-shown h l.when p))))
      first false p = rw p refl

      second : (w : When) → l.when ≡ w → is_locked_at_end w l.text ≡ false
      second (AtEvent i) e = refl
      second End e = unlocked-at before l after (ap (λ (v : When). when_eq v End) e) (subst (λ (ls : List Line). any_says is_locked (lines_at End ls) ≡ false) same h.at_end.unlocked)

      third : (text : Text) (rest : List Line) → full ≡ before ++ l ∷ rest → l.text ≡ text → miscounts full text rest ≡ false
      third (says.Commits n) [] e x = let c = counts before l n e x in ap not (same-number n (length (history_of full)) c)
      third _ _ e x = refl

  shows-what : Shown files es full → (w : When) (s : ServerNo) → Shows es full w s → ShowsFiles (files_when files es full w) s (lines_at w full)
  shows-what h (AtEvent i) s (ByEvent j q e p) = h.so_far j q e (not-true (any_says is_no_show (lines_at (AtEvent j) full)) (both-true (is_show (event_at es j)) (not (any_says is_no_show (lines_at (AtEvent j) full))) p).1)
  shows-what h End s (AtTheEnd q) = h.at_end.all q

  nothing-left : Shown files es full → NothingLeftOut files es full
  nothing-left h w s shown (OfFile f k g) = clash (is_some (files_when files es full w s (File f))) k (ap is_some ((shows-what h w s shown).no_other_file f g))
  nothing-left h w s shown (OfBlock f b k p g) = clash (is_some (files_when files es full w s (Block f b))) k (ap is_some ((shows-what h w s shown).no_other_block f b p g))

-- ---- the whole report

fails-from : (files : AllFiles) (es : List Event) (full before rest : List Line) → before ++ rest ≡ full → NoneBreaksFrom (breaks_shows files es) before rest → NoneFails files es full rest
fails-from files es full before [] same h = tt
fails-from files es full before (l ∷ ls) same h = (subst (λ (all : List Line). fails_in files es all l ls ≡ false) same h.0, fails-from files es full (before ++ l ∷ []) ls (append_assoc before (l ∷ []) ls ∙ same) h.1)

counts-of : (files : AllFiles) (es : List Event) (lines : List Line) → NoneBreaks (breaks_shows files es) lines → CountsCommits lines
counts-of files es lines h before l n e x = right (nat_eq n (length (history_of lines))) refl (subst (λ (text : Text). miscounts lines text [] ≡ false) x (subst (λ (all : List Line). miscounts all l.text [] ≡ false) (sym e)
    (parts files es (before ++ l ∷ []) l [] (split-of (breaks_shows files es) lines before l [] h e)).1.1))
  where
    right : (b : Bool) → nat_eq n (length (history_of lines)) ≡ b → not (nat_eq n (length (history_of lines))) ≡ false → n ≡ length (history_of lines)
    right b y z = grind (arith, y, z, nat_tests)

pub shows-kept : (files : AllFiles) (es : List Event) (lines : List Line) → Keeps files es lines 11 ↔ (Shown files es lines × CountsCommits lines)
shows-kept files es lines = (to, from)
  where
    to : Keeps files es lines 11 → Shown files es lines × CountsCommits lines
    to h = let none = keeps-to files es lines (breaks_shows files es) 11 (λ before l after b. BreaksShows b) h in
        (shown-to files es lines (fails-from files es lines [] lines refl none) (λ w s shown left. h (lines_up_to w lines + 1) (LeftOut w s shown left)), counts-of files es lines none)

    from : Shown files es lines × CountsCommits lines → Keeps files es lines 11
    from h = keeps-from files es lines 11
        (none-breaks (breaks_shows files es) lines (λ before l after e. subst (λ (all : List Line). fails_in files es all l after ≡ false) e (line-right files es lines h.0 h.1 before l after e)))
        (λ e. nothing-left files es lines h.0)
