-- An active work after one more operation, and after a change that its locks don't see.
use Rattle.jn_worker.proofs.Common.{most_blocks, ◌≡◌, ◌≤◌, ◌<◌, ◌+◌, ℕ, Bool, true, false, List, [], ◌∷◌, length, Option, Some, None, if◌then◌else◌, refl, sym, ap, subst, arith, nat_lt, list_all, nat_tests, LockUnit, File, Block, Answer, TooManyReads, TooManyWrites, Op, Create, Remove, CutBlocks, ReadOp, WriteOp, Files, change, answer_to, file_of, Intention, list_change, length_with, block_of, intention_for, Read, IntentionWrite, is_unit, ActiveWork, with_units, units_for, wants_of, is_fit, list_after, done, past_limit, unit_of, unit_in_range, ActiveFits}
use Rattle.jn_worker.proofs.Units.{ascends_more, all_more, kept_more, there_one}
use Rattle.jn_worker.proofs.Listed.{all_after, order_after, length_after, new_file, new_in_range, target, new_unit, there_after, lost_after}

abbrev reads_with : ActiveWork → Op → Bool → List LockUnit
reads_with a op fit = with_units (units_for Read (wants_of op fit)) a.reads

abbrev writes_with : ActiveWork → Op → Bool → List LockUnit
writes_with a op fit = with_units (units_for IntentionWrite (wants_of op fit)) a.writes

-- an operation reads its file
reads_file : (op : Op) (fit : Bool) (reads : List LockUnit) → is_unit (with_units (units_for Read (wants_of op fit)) reads) (File (file_of op)) ≡ true
reads_file op false reads = there_one (File (file_of op)) reads
reads_file (Create f) true reads = there_one (File f) reads
reads_file (Remove f) true reads = there_one (File f) reads
reads_file (CutBlocks f n) true reads = there_one (File f) reads
reads_file (ReadOp f p) true reads = kept_more (Block f p ∷ []) (File f) _ (there_one (File f) reads)
reads_file (WriteOp f p bytes) true reads = there_one (File f) reads

-- and writes what its intention does
writes_target : (op : Op) (new : Intention) (list : List Intention) (writes : List LockUnit) → intention_for list op ≡ Some new → is_unit (with_units (units_for IntentionWrite (wants_of op true)) writes) (target op) ≡ true
writes_target (Create f) new list writes e = there_one (File f) writes
writes_target (Remove f) new list writes e = there_one (File f) writes
writes_target (CutBlocks f n) new list writes e = there_one (File f) writes
writes_target (ReadOp f p) new list writes e = absurd (cc e)
writes_target (WriteOp f p bytes) new list writes e = there_one (Block f p) writes

units-in-range : (op : Op) (fit : Bool) → (block_of op).0 < most_blocks → list_all (λ u. unit_in_range u) (units_for Read (wants_of op fit)) ≡ true
units-in-range op false b = refl
units-in-range (Create f) true b = refl
units-in-range (Remove f) true b = refl
units-in-range (CutBlocks f n) true b = refl
units-in-range (ReadOp f p) true b = grind (arith, nat_tests, b)
units-in-range (WriteOp f p bytes) true b = refl

abbrev past_limit_by : Bool → Bool → Option Answer
past_limit_by reads intentions = if reads then Some TooManyReads else (if intentions then Some TooManyWrites else None)

within : (reads intentions : ℕ) → past_limit reads intentions ≡ None → (reads ≤ 40) × (intentions ≤ 24)
within reads intentions h = by (nat_lt 40 reads) refl (nat_lt 24 intentions) refl h
  where
    by : (b : Bool) → nat_lt 40 reads ≡ b → (c : Bool) → nat_lt 24 intentions ≡ c → past_limit_by b c ≡ None → (reads ≤ 40) × (intentions ≤ 24)
    by true b c d e = absurd (cc e)
    by false b true d e = absurd (cc e)
    by false b false d e = (grind (arith, nat_tests, b), grind (arith, nat_tests, d))

all-same : (P Q : Intention → Bool) (list : List Intention) → ((i : Intention) → P i ≡ true → Q i ≡ true) → list_all P list ≡ true → list_all Q list ≡ true
all-same P Q [] f h = refl
all-same P Q (i ∷ list) f h = let here = f i in let again = all-same P Q list f in grind (arith, h)

module _ (files : Files) (a : ActiveWork) (op : Op) (f : ActiveFits files a) (range : (block_of op).0 < most_blocks) where
  -- where the file isn't as the operation needs it
  unfit_after : length (reads_with a op false) ≤ 40 → length a.list ≤ 24 → ActiveFits files (record a { reads = reads_with a op false; writes = writes_with a op false })
  unfit_after reads intentions = record {
    prepared = record {
      order = f.prepared.order;
      length_fits = intentions;
      in_range = f.prepared.in_range;
      reads_fit = reads;
      reads_ascend = ascends_more (units_for Read (wants_of op false)) a.reads f.prepared.reads_ascend;
      reads_in_range = all_more (λ u. unit_in_range u) (units_for Read (wants_of op false)) a.reads (units-in-range op false range) f.prepared.reads_in_range;
      reads_files = all-same _ _ a.list (λ i h. kept_more (units_for Read (wants_of op false)) (File i.file) a.reads h) f.prepared.reads_files;
      files_there = f.prepared.files_there;
      no_lost_put = f.prepared.no_lost_put;
    };
    writes = f.writes;
  }

  fit_after : is_fit (answer_to op (change (list_change a.list) files)) ≡ true → length (reads_with a op true) ≤ 40 → length_with a.list op ≤ 24
      → ActiveFits files (record a { list = list_after (intention_for a.list op) op a.list; reads = reads_with a op true; writes = writes_with a op true })
  fit_after fit reads intentions = record {
    prepared = record {
      order = order_after op a.list (intention_for a.list op) refl f.prepared.order;
      length_fits = omega (arith, intentions, length_after op a.list (intention_for a.list op) refl);
      in_range = all_after _ _ op a.list (intention_for a.list op) refl (λ i s h. h) (λ new e. new_in_range a.list op new e range) f.prepared.in_range;
      reads_fit = reads;
      reads_ascend = ascends_more (units_for Read (wants_of op true)) a.reads f.prepared.reads_ascend;
      reads_in_range = all_more (λ u. unit_in_range u) (units_for Read (wants_of op true)) a.reads (units-in-range op true range) f.prepared.reads_in_range;
      reads_files = all_after _ _ op a.list (intention_for a.list op) refl (λ i s h. kept_more (units_for Read (wants_of op true)) (File i.file) a.reads h)
          (λ new e. subst (λ g. is_unit (reads_with a op true) (File g) ≡ true) (sym (new_file a.list op new e)) (reads_file op true a.reads)) f.prepared.reads_files;
      files_there = there_after op a.list files f.prepared.order fit f.prepared.files_there;
      no_lost_put = lost_after op a.list files f.prepared.order fit f.prepared.no_lost_put;
    };
    writes = all_after _ _ op a.list (intention_for a.list op) refl (λ i s h. kept_more (units_for IntentionWrite (wants_of op true)) (unit_of i) a.writes h)
        (λ new e. subst (λ u. is_unit (writes_with a op true) u ≡ true) (sym (new_unit a.list op new e)) (writes_target op new a.list a.writes e)) f.writes;
  }

  pub active_after : (answer : Answer) → answer ≡ answer_to op (change (list_change a.list) files) → past_limit (length (reads_with a op (is_fit answer))) (if is_fit answer then length_with a.list op else length a.list) ≡ None
      → ActiveFits files (done a op answer (wants_of op (is_fit answer)))
  active_after answer is limit = by (is_fit answer) (ap is_fit (sym is)) limit
    where
      by : (b : Bool) → is_fit (answer_to op (change (list_change a.list) files)) ≡ b → past_limit (length (reads_with a op b)) (if b then length_with a.list op else length a.list) ≡ None
          → ActiveFits files (record a { list = if b then list_after (intention_for a.list op) op a.list else a.list; reads = reads_with a op b; writes = writes_with a op b; last = a.last + 1; kept = Some answer })
      by true e l = let w = within _ _ l in let g = fit_after e w.0 w.1 in record { prepared = g.prepared; writes = g.writes }
      by false e l = let w = within _ _ l in let g = unfit_after w.0 w.1 in record { prepared = g.prepared; writes = g.writes }
