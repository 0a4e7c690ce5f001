-- The steps of the example may come.
use Rattle.jn_system.proofs.Common.{◌≡◌, ◌≢◌, inl, inr, ℕ, true, false, List, [], ◌∷◌, ◌++◌, take, Option, Some, None, is_some, refl, sym, ◌∙◌, ap, subst, arith, ServerNo, LockUnit, Tid, WorkId, server_tells, tid_tells, work_tells, or_else, change, and_then, intention_change, list_change, Prepared, FlagState, at_work, at_tid, ready_work, flag_state, is_work, asks, effect_of, HasRead, ReadsFiles, World, Working, Atom, after, run, MayRun, no_files, File, Block}
use Rattle.jn_system.specs.SmallSteps.Steps.{new_work}
use Rattle.jn_system.specs.SmallSteps.Example.{example_server, example_transaction, example_work, its_answer, its_intention, its_reads, its_working, its_head, its_flag, its_works, example_opening, to_the_vote, to_the_flag, to_the_second_stop, to_the_end, example_atoms}
use Rattle.jn_system.proofs.SmallSteps.Updates.{not_both, some_is, none_some}

-- one run after another
may_then : (a b : List Atom) (w : World) → MayRun a w → MayRun b (run a w) → MayRun (a ++ b) w
may_then [] b w h k = k
may_then (x ∷ a) b w h k = (h.0, may_then a b (after x w) h.1 k)

lists : (u : LockUnit) → list_change (its_intention ∷ []) u ≡ and_then (list_change []) (effect_of its_answer) u
lists u = grind arith

reads_it : (u : LockUnit) → asks its_answer u ≡ true → HasRead its_reads u
reads_it u h = grind arith

reads_file : ReadsFiles (its_intention ∷ []) its_reads
reads_file (File f) (inl h) = h
reads_file (File f) (inr h) = h
reads_file (Block f p) (inl h) = absurd (not_both false h refl)
reads_file (Block f p) (inr h) = absurd (not_both false h refl)

no_none : {A P : Type 0} → (a : A) → None ≡ Some a → P
no_none a e = absurd (none_some a e)

works_is : (s : ServerNo) (W : WorkId) → its_works s ≡ Some W → (example_server ≡ s) × (example_work ≡ W)
works_is s W e = grind (arith, server_tells)

is_it : (W : WorkId) → is_work W (example_work ∷ []) ≡ true → example_work ≡ W
is_it W h = grind (arith, work_tells)

same_true : (W : WorkId) → example_work ≡ W → at_work (λ V. false) example_work true W ≡ true
same_true W e = subst (λ z. at_work (λ V. false) example_work true z ≡ true) e refl

same_owner : (f : WorkId → Tid) (W : WorkId) → example_work ≡ W → at_work f example_work example_transaction W ≡ example_transaction
same_owner f W e = subst (λ z. at_work f example_work example_transaction z ≡ example_transaction) e refl

no_active : (V : WorkId) (a : Working) → at_work (at_work (λ W. None) example_work (Some new_work)) example_work (Some its_working) V ≡ Some a → example_work ≢ V → ⊥
no_active V a h ne = grind (arith, work_tells)

true_false : {P : Type 0} → false ≡ true → P
true_false h = absurd (not_both false h refl)

flag_named : (k : FlagState) (T : Tid) → is_some (at_tid (λ U. None) example_transaction (Some k) T) ≡ true → at_tid (λ U. false) example_transaction true T ≡ true
flag_named k T h = grind (arith, tid_tells)

may_vote : MayRun to_the_vote example_opening
may_vote = (
  record { up = refl; ticket = refl; epoch = λ c. refl },
  (
    record { up = refl; begun = refl; ticket = refl; epoch = λ c. refl },
    (
      record {
        before = new_work;
        is = refl;
        list = lists;
        kept = λ u h. true_false h;
        reads = reads_it;
        reads_files = reads_file;
        seen = λ n. true;
        answers = refl;
        no_commit = λ c V q is. no_none q is;
      },
      (
        record {
          fresh = refl;
          place = λ s W e. let k = works_is s W e in ap (λ (z : WorkId). z.server) (sym k.1) ∙ k.0;
          opened = λ s W e. same_true W (works_is s W e).1;
          owner = λ s W e. same_owner example_opening.owner W (works_is s W e).1;
        },
        (
          record { up = refl; begun = refl; not_aborted = refl; knows = (refl, refl, refl, λ W h. true_false h) },
          (
            λ c. record {
              active = refl;
              tid = refl;
              part = refl;
              mine = λ V q is. no_none q is;
              others = λ V q is. no_none q is;
              no_reader = λ V a is ne. absurd (no_active V a is ne);
            },
            (
              λ c. refl,
              (
                record { up = refl; begun = refl; not_aborted = refl; knows = (refl, refl, refl, λ W h. h) },
                tt,
              ),
            ),
          ),
        ),
      ),
    ),
  ),
)

abbrev voted : World
voted = run to_the_vote example_opening

may_flag : MayRun to_the_flag voted
may_flag = (
  tt,
  (
    λ c. (
      record {
        begun = refl;
        ended = refl;
        not_aborted = refl;
        ready = λ s W e. same_true W (works_is s W e).1;
        works = record {
          each = λ W h. subst (λ (z : WorkId). its_works z.server ≡ Some z) (is_it W h) refl;
          all = λ s W e. subst (λ z. is_work z (example_work ∷ []) ≡ true) (works_is s W e).1 refl;
        };
      },
      refl,
    ),
    (
      tt,
      (
        record { flagged = λ c. refl; not_named = refl },
        tt,
      ),
    ),
  ),
)

abbrev flagged : World
flagged = run to_the_flag voted

abbrev going : Prepared
going = record (ready_work its_head (its_intention ∷ []) its_reads) { going = true }

may_stop : MayRun to_the_second_stop flagged
may_stop = (
  record { down = refl; one = λ c. refl; all_named = λ T h. flag_named (flag_state its_flag) T h },
  (
    λ c. record { named = refl; none = refl },
    (
      λ c. record { work = going; is = refl; going = refl; none = refl; writes = λ u h. h },
      (
        tt,
        tt,
      ),
    ),
  ),
)

abbrev stopped : World
stopped = run to_the_second_stop flagged

-- what is written twice
written : (p : Prepared) → Some going ≡ Some p → (u : LockUnit) (v : Option (List ℕ)) → list_change p.list u ≡ Some v → change (intention_change its_intention) (change (intention_change its_intention) (no_files example_server)) u ≡ v
written p is u v h = ap (λ o. or_else o (change (intention_change its_intention) (no_files example_server) u)) (subst (λ (q : Prepared). list_change q.list u ≡ Some v) (sym (some_is going p is)) h)

written_one : (p : Prepared) → Some going ≡ Some p → (u : LockUnit) (v : Option (List ℕ)) → list_change (take 1 p.list) u ≡ Some v → change (intention_change its_intention) (change (intention_change its_intention) (no_files example_server)) u ≡ v
written_one p is u v h = ap (λ o. or_else o (change (intention_change its_intention) (no_files example_server) u)) (subst (λ (q : Prepared). list_change (take 1 q.list) u ≡ Some v) (sym (some_is going p is)) h)

may_end : MayRun to_the_end stopped
may_end = (
  record { down = refl; one = λ c. refl; all_named = λ T h. flag_named (flag_state its_flag) T h },
  (
    λ c. record { work = going; is = refl; going = refl; none = refl; writes = λ u h. h },
    (
      record { up = refl; counts = λ c p is g u v h. written_one p is u v h },
      (
        λ c. record { why = inl refl; done = λ p is n u v h. written p is u v h },
        (
          record { opened = refl; not_active = refl; nowhere = λ c. refl },
          (
            tt,
            (
              λ c. (λ s W e. same_true W (works_is s W e).1, refl),
              tt,
            ),
          ),
        ),
      ),
    ),
  ),
)

pub may_run : MayRun example_atoms example_opening
may_run = may_then to_the_vote (to_the_flag ++ (to_the_second_stop ++ to_the_end)) example_opening may_vote
    (may_then to_the_flag (to_the_second_stop ++ to_the_end) voted may_flag (may_then to_the_second_stop to_the_end flagged may_stop may_end))
