-- A short report without a fault.
use Rattle.jn_judged.proofs.Common.{◌≡◌, inl, inr, ℕ, zero, suc, ◌≤◌, false, ◌&&◌, List, [], ◌∷◌, ◌++◌, Option, Some, None, refl, sym, ◌∙◌, ap, arith, cases_Bool, true≢false, AllFiles, AtEvent, Text, Line, any_says, event_at, history_of, ServerNo, File, Block, server_eq, file_eq, no_files, first_server, file_7, replay, accounts_file, IsOfEvent, Follows, made_twice, answered_then, there_already, file_line, count_line, IsFaultless, CountsCommits, FileNo}
use Rattle.jn_base.specs.declared.names.BlockNo.{BlockNo}
use Rattle.jn_schedule.specs.declared.Event.TheVariants.{Show}
use Rattle.jn_report.specs.declared.line.Text.TheVariants.{Commits}
use Rattle.jn_judged.proofs.Sets.{clash, or-false}
use Rattle.jn_judged.proofs.Kept.{all-kept}

abbrev right_lines : List Line
right_lines = answered_then there_already (file_line ∷ count_line 1 ∷ [])

abbrev left_files : AllFiles
left_files = replay no_files made_twice right_lines (history_of right_lines)

file-none : (s : ServerNo) (f : FileNo) → any_says (accounts_file s f) (file_line ∷ count_line 1 ∷ []) ≡ false → left_files s (File f) ≡ None
file-none s f h = elim (cases_Bool (server_eq first_server s)) [
  | inl e ↦ elim (cases_Bool (file_eq file_7 f)) [
    | inl k ↦ clash (server_eq first_server s && file_eq file_7 f) (rw (e, k) refl) (or-false (server_eq first_server s && file_eq file_7 f) (any_says (accounts_file s f) (count_line 1 ∷ [])) h).0
    | inr k ↦ rw (e, k) refl
  ]
  | inr e ↦ rw e refl
]

block-none : (s : ServerNo) (f : FileNo) (p : BlockNo) → left_files s (Block f p) ≡ None
block-none s f p = elim (cases_Bool (server_eq first_server s)) [
  | inl e ↦ elim (cases_Bool (file_eq file_7 f)) [ inl k ↦ rw (e, k) refl | inr k ↦ rw (e, k) refl ]
  | inr e ↦ rw e refl
]

no-show : {A : Type 0} (i : ℕ) (s : ServerNo) → event_at made_twice i ≡ Some (Show s) → A
no-show zero s h = cc h
no-show (suc zero) s h = cc h
no-show (suc (suc zero)) s h = cc h
no-show (suc (suc (suc zero))) s h = cc h
no-show (suc (suc (suc (suc zero)))) s h = cc h
no-show (suc (suc (suc (suc (suc zero))))) s h = cc h
no-show (suc (suc (suc (suc (suc (suc zero)))))) s h = cc h
no-show (suc (suc (suc (suc (suc (suc (suc zero))))))) s h = cc h
no-show (suc (suc (suc (suc (suc (suc (suc (suc zero)))))))) s h = cc h
no-show (suc (suc (suc (suc (suc (suc (suc (suc (suc i))))))))) s h = cc h

abbrev last_text : List Line → Option Text
last_text [] = None
last_text (l ∷ []) = Some l.text
last_text (l ∷ m ∷ ls) = last_text (m ∷ ls)

last-of : (before : List Line) (l : Line) → last_text (before ++ l ∷ []) ≡ Some l.text
last-of [] l = refl
last-of (x ∷ []) l = refl
last-of (x ∷ y ∷ before) l = last-of (y ∷ before) l

counts-one : CountsCommits right_lines
counts-one before l n e x = same (ap last_text e ∙ last-of before l ∙ ap Some x)
  where
    same : Some (Commits 1) ≡ Some (Commits n) → n ≡ 1
    same k = cc k

none : 0 ≤ 1
none = omega arith

at-event : (i : ℕ) → 1 ≤ i → i ≤ 8 → IsOfEvent 8 (AtEvent i)
at-event i a b = (a, b)

follows-well : Follows made_twice right_lines
follows-well = record {
  answers = (
    record { fit = tt; own = tt; once = none },
    (
      record { fit = (refl, tt); own = (refl, tt); once = none },
      (
        record { fit = tt; own = tt; once = none },
        (
          record { fit = (refl, tt); own = (refl, tt); once = none },
          (
            record { fit = tt; own = tt; once = none },
            (
              record { fit = (refl, tt); own = (refl, tt); once = none },
              (record { fit = tt; own = tt; once = none }, (record { fit = (refl, (refl, tt)); own = (refl, (refl, tt)); once = none }, tt)),
            ),
          ),
        ),
      ),
    ),
  );
  of_events = (
    λ h. at-event 2 (omega arith) (omega arith),
    (
      λ h. at-event 4 (omega arith) (omega arith),
      (
        λ h. at-event 6 (omega arith) (omega arith),
        (
          λ h. at-event 8 (omega arith) (omega arith),
          (λ h. at-event 8 (omega arith) (omega arith), (λ h. true≢false (sym h), (λ h. true≢false (sym h), tt))),
        ),
      ),
    ),
  );
}

pub right-report : IsFaultless no_files made_twice (answered_then there_already (file_line ∷ count_line 1 ∷ []))
right-report = (all-kept no_files made_twice right_lines).1 (record {
  agrees = ((refl, (refl, tt)), tt);
  shown = record {
    so_far = λ i s e k. no-show i s e;
    at_end = record {
      all = λ s. record { printed = (refl, (tt, tt)); no_other_file = λ f h. file-none s f h; no_other_block = λ f p g h. block-none s f p };
      unlocked = refl;
    };
  };
  told = record {
    before = (tt, (tt, (tt, (tt, (refl, (tt, (tt, tt)))))));
    once = (refl, tt);
    not_lost = (tt, (tt, (tt, (tt, (tt, (tt, (tt, tt)))))));
  };
  caused = (refl, (refl, (refl, (refl, (refl, (refl, (refl, tt)))))));
  follows = follows-well;
  counts = counts-one;
})
