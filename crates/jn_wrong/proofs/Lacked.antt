-- The schedules that make a file, and write a block of it, computed up to where their transaction ends, and from there.
use Rattle.jn_wrong.proofs.Common.{Bool, true, ap, list_any, Cause, Line, Text, Setup, State, next_task, ◌≡◌, ℕ, false, List, [], ◌∷◌, Some, None, refl, ServerNo, no_files, before, Counts, Resource, setup, makes_one, full_of, file, block, File, Block, zeros, block_of, IsNoneOf, Did, IsOnlyOfLacking, for_a_file, Full, ActiveWork, one_write, for_a_block, full_at_block, FullAt, Aborted, IsOnlyOf, IsOnlyWhereLacking, one_record, head_blocks, one_page, writes_at, for_a_map_page}
use Rattle.jn_base.specs.declared.names.Resource.TheVariants.{Records, Pages}
use Rattle.jn_wrong.proofs.StillRuns.{goes}
use Rattle.jn_locks.specs.Locks as locks
use Rattle.jn_records.specs.declared.intention.What.TheVariants.{Fresh, Put}
use Rattle.jn_wrong.proofs.Computed.{Pieces, pieces-so}
use Rattle.jn_wrong.proofs.Exact.{new_epochs, setup_of}
use Rattle.jn_wrong.proofs.Lacking.{IsSo, GoesOn, TellsSo, only-lacking, only-where-lacking}

-- the rest of a run: steps to the restart at the end, to its show, and to its last one
goes-on : (x : Setup) (s : State) (told : List Line) → Pieces x (14 ∷ 12 ∷ 1 ∷ []) s → next_task (goes x 30 s) ≡ None → (goes x 30 s).lines ≡ told → GoesOn x s 30 told
goes-on x s told pieces end tells = record { so = pieces-so x (14 ∷ 12 ∷ 1 ∷ []) s pieces; end = end; tells = tells }

-- ---- a file is made

abbrev makes_file_7 : ActiveWork
makes_file_7 = record { list = (record { what = Fresh; file = file 7; block = block 0; bytes = zeros }) ∷ []; reads = File (file 7) ∷ []; writes = File (file 7) ∷ []; last = 1; kept = Some Did; vulnerable = false }

made-so : (counts : ServerNo → Counts) (epochs : ServerNo → ℕ) → IsSo makes_one 53 makes_file_7 (record { 0 = 4 }) 8 for_a_file counts epochs
unfolding locks.unit_before
made-so counts epochs = record {
  so = pieces-so (setup_of 1 false counts) (0 ∷ 51 ∷ []) (before (setup_of 1 false counts) makes_one no_files (new_epochs 1 epochs)) (
    refl,
    record { epoch = 0; below = refl; found = λ c. refl; not_last = refl },
    (
      refl,
      refl,
      tt,
    ),
  );
  rests = refl;
  tasks = refl;
  waits = refl;
  rests_on = refl;
  busy = λ r. refl;
  up = refl;
  empty = refl;
  begins = refl;
  meets = refl;
  then_settles = refl;
  settles = refl;
  still_empty = refl;
  asks = record { rests = refl; waits = refl; sent = refl; up = refl };
  refuses = record { rests = refl; waits = refl; sent = refl; up = refl };
  tells_so = record { outcome = _; rests = refl; waits = refl; sent = refl };
  is_told = λ new. refl;
  empty_on = refl;
  prepares = record { rests = refl; waits = refl; sent = refl; up = refl };
  alone = refl;
  needs_are = λ maps. refl;
  votes = record { rests = refl; waits = refl; sent = refl; up = refl };
  commits = refl;
  refuses_work = λ resource free need. record { rests = refl; waits = refl; sent = refl; up = refl };
  drops = λ resource free need. record { rests = refl; waits = refl; sent = refl; up = refl };
  tells_outcome = λ resource free need. record { outcome = _; rests = refl; waits = refl; sent = refl };
  outcome_told = λ resource free need new. refl;
}

pub made-lacking : IsOnlyOfLacking for_a_file makes_one full_of
made-lacking = only-lacking makes_one 53 makes_file_7 (record { 0 = 4 }) 8 for_a_file made-so full_of (λ resource free need. (refl, refl))

made-tells : (counts : ServerNo → Counts) (epochs : ServerNo → ℕ) → TellsSo makes_one 53 makes_file_7 (record { 0 = 4 }) 8 for_a_file counts epochs 30 full_of
unfolding locks.unit_before
made-tells counts epochs = record {
  no_flag = goes-on (setup_of 1 false counts) _ _ (refl, record { epoch = 1; below = refl; found = λ c. refl; not_last = refl }, (refl, record { memory = _; below = refl; up = refl; nothing = λ f. refl }, (refl, refl, tt))) refl refl;
  no_work = λ resource free need. goes-on (setup_of 1 false counts) _ _ (refl, record { epoch = 1; below = refl; found = λ c. refl; not_last = refl }, (refl, record { memory = _; below = refl; up = refl; nothing = λ f. refl }, (refl, refl, tt))) refl refl;
}

pub made-where-lacking : IsOnlyWhereLacking for_a_file makes_one full_of
made-where-lacking = only-where-lacking makes_one 53 makes_file_7 (record { 0 = 4 }) 8 for_a_file made-so full_of 30 made-tells

-- with one record, which the flag is promised, none is free of the two that the work needs
pub made-by-one : IsOnlyOf one_record makes_one (full_of Records 0 2)
made-by-one images closing lines new whole = made-where-lacking one_record images closing lines Records 0 2 refl refl new refl whole

-- so it isn't reported that data pages are lacking
pub not-pages : (free need : ℕ) → IsNoneOf one_record makes_one (full_of Pages free need)
not-pages free need images closing new whole = clash (ap names_records (made-by-one images closing (full_of Pages free need) new whole))
  where
    of_cause : Cause → Bool
    of_cause (FullAt s Records has wants) = true
    of_cause cause = false

    of_text : Text → Bool
    of_text (Aborted c j T cause) = of_cause cause
    of_text text = false

    names_records : List Line → Bool
    names_records lines = list_any (λ (l : Line). of_text l.text) lines

    clash : false ≡ true → ⊥
    clash k = cc

-- where 32 records, 16 heads and 128 data pages are free, nothing is lacking
pub none-full : (resource : Resource) (free need : ℕ) → IsNoneOf (setup 1) makes_one (full_of resource free need)
none-full resource free need images closing new whole = clash (made-lacking (setup 1) images closing resource free need refl refl new whole)
  where
    clash : None ≡ Some (Full resource free need) → ⊥
    clash k = cc

-- ---- and a block of it written

abbrev writes_block_0 : List ℕ → ActiveWork
writes_block_0 bytes = record {
  list = (record { what = Fresh; file = file 7; block = block 0; bytes = zeros }) ∷ (record { what = Put; file = file 7; block = block 0; bytes = block_of bytes }) ∷ [];
  reads = File (file 7) ∷ [];
  writes = File (file 7) ∷ Block (file 7) (block 0) ∷ [];
  last = 2;
  kept = Some Did;
  vulnerable = false;
}

written-so : (bytes : List ℕ) (counts : ServerNo → Counts) (epochs : ServerNo → ℕ) → IsSo (one_write bytes []) 71 (writes_block_0 bytes) (record { 0 = 5 }) 11 for_a_block counts epochs
unfolding locks.unit_before
written-so bytes counts epochs = record {
  so = pieces-so (setup_of 1 false counts) (0 ∷ 69 ∷ []) (before (setup_of 1 false counts) (one_write bytes []) no_files (new_epochs 1 epochs)) (
    refl,
    record { epoch = 0; below = refl; found = λ c. refl; not_last = refl },
    (
      refl,
      refl,
      tt,
    ),
  );
  rests = refl;
  tasks = refl;
  waits = refl;
  rests_on = refl;
  busy = λ r. refl;
  up = refl;
  empty = refl;
  begins = refl;
  meets = refl;
  then_settles = refl;
  settles = refl;
  still_empty = refl;
  asks = record { rests = refl; waits = refl; sent = refl; up = refl };
  refuses = record { rests = refl; waits = refl; sent = refl; up = refl };
  tells_so = record { outcome = _; rests = refl; waits = refl; sent = refl };
  is_told = λ new. refl;
  empty_on = refl;
  prepares = record { rests = refl; waits = refl; sent = refl; up = refl };
  alone = refl;
  needs_are = λ maps. refl;
  votes = record { rests = refl; waits = refl; sent = refl; up = refl };
  commits = refl;
  refuses_work = λ resource free need. record { rests = refl; waits = refl; sent = refl; up = refl };
  drops = λ resource free need. record { rests = refl; waits = refl; sent = refl; up = refl };
  tells_outcome = λ resource free need. record { outcome = _; rests = refl; waits = refl; sent = refl };
  outcome_told = λ resource free need new. refl;
}

pub written-lacking : (bytes : List ℕ) → IsOnlyOfLacking for_a_block (one_write bytes []) full_at_block
written-lacking bytes = only-lacking (one_write bytes []) 71 (writes_block_0 bytes) (record { 0 = 5 }) 11 for_a_block (written-so bytes) full_at_block (λ resource free need. (refl, refl))

written-tells : (bytes : List ℕ) (counts : ServerNo → Counts) (epochs : ServerNo → ℕ) → TellsSo (one_write bytes []) 71 (writes_block_0 bytes) (record { 0 = 5 }) 11 for_a_block counts epochs 30 full_at_block
unfolding locks.unit_before
written-tells bytes counts epochs = record {
  no_flag = goes-on (setup_of 1 false counts) _ _ (refl, record { epoch = 1; below = refl; found = λ c. refl; not_last = refl }, (refl, record { memory = _; below = refl; up = refl; nothing = λ f. refl }, (refl, refl, tt))) refl refl;
  no_work = λ resource free need. goes-on (setup_of 1 false counts) _ _ (refl, record { epoch = 1; below = refl; found = λ c. refl; not_last = refl }, (refl, record { memory = _; below = refl; up = refl; nothing = λ f. refl }, (refl, refl, tt))) refl refl;
}

pub written-where-lacking : (bytes : List ℕ) → IsOnlyWhereLacking for_a_block (one_write bytes []) full_at_block
written-where-lacking bytes = only-where-lacking (one_write bytes []) 71 (writes_block_0 bytes) (record { 0 = 5 }) 11 for_a_block (written-so bytes) full_at_block 30 (written-tells bytes)

pub none-full-written : (bytes : List ℕ) (resource : Resource) (free need : ℕ) → IsNoneOf (setup 1) (one_write bytes []) (full_at_block resource free need)
none-full-written bytes resource free need images closing new whole = clash (written-lacking bytes (setup 1) images closing resource free need refl refl new whole)
  where
    clash : None ≡ Some (Full resource free need) → ⊥
    clash k = cc

-- ---- and a block of it that is past those of a head, for which a map page is lacking too

abbrev writes_block_120 : List ℕ → ActiveWork
writes_block_120 bytes = record {
  list = (record { what = Fresh; file = file 7; block = block 0; bytes = zeros }) ∷ (record { what = Put; file = file 7; block = block 120; bytes = block_of bytes }) ∷ [];
  reads = File (file 7) ∷ [];
  writes = File (file 7) ∷ Block (file 7) (block 120) ∷ [];
  last = 2;
  kept = Some Did;
  vulnerable = false;
}

mapped-so : (bytes : List ℕ) (counts : ServerNo → Counts) (epochs : ServerNo → ℕ) → IsSo (writes_at head_blocks bytes) 71 (writes_block_120 bytes) (record { 0 = 5 }) 11 for_a_map_page counts epochs
unfolding locks.unit_before
mapped-so bytes counts epochs = record {
  so = pieces-so (setup_of 1 false counts) (0 ∷ 69 ∷ []) (before (setup_of 1 false counts) (writes_at head_blocks bytes) no_files (new_epochs 1 epochs)) (
    refl,
    record { epoch = 0; below = refl; found = λ c. refl; not_last = refl },
    (
      refl,
      refl,
      tt,
    ),
  );
  rests = refl;
  tasks = refl;
  waits = refl;
  rests_on = refl;
  busy = λ r. refl;
  up = refl;
  empty = refl;
  begins = refl;
  meets = refl;
  then_settles = refl;
  settles = refl;
  still_empty = refl;
  asks = record { rests = refl; waits = refl; sent = refl; up = refl };
  refuses = record { rests = refl; waits = refl; sent = refl; up = refl };
  tells_so = record { outcome = _; rests = refl; waits = refl; sent = refl };
  is_told = λ new. refl;
  empty_on = refl;
  prepares = record { rests = refl; waits = refl; sent = refl; up = refl };
  alone = refl;
  needs_are = λ maps. refl;
  votes = record { rests = refl; waits = refl; sent = refl; up = refl };
  commits = refl;
  refuses_work = λ resource free need. record { rests = refl; waits = refl; sent = refl; up = refl };
  drops = λ resource free need. record { rests = refl; waits = refl; sent = refl; up = refl };
  tells_outcome = λ resource free need. record { outcome = _; rests = refl; waits = refl; sent = refl };
  outcome_told = λ resource free need new. refl;
}

pub mapped-lacking : (bytes : List ℕ) → IsOnlyOfLacking for_a_map_page (writes_at head_blocks bytes) full_at_block
mapped-lacking bytes = only-lacking (writes_at head_blocks bytes) 71 (writes_block_120 bytes) (record { 0 = 5 }) 11 for_a_map_page (mapped-so bytes) full_at_block (λ resource free need. (refl, refl))

mapped-tells : (bytes : List ℕ) (counts : ServerNo → Counts) (epochs : ServerNo → ℕ) → TellsSo (writes_at head_blocks bytes) 71 (writes_block_120 bytes) (record { 0 = 5 }) 11 for_a_map_page counts epochs 30 full_at_block
unfolding locks.unit_before
mapped-tells bytes counts epochs = record {
  no_flag = goes-on (setup_of 1 false counts) _ _ (refl, record { epoch = 1; below = refl; found = λ c. refl; not_last = refl }, (refl, record { memory = _; below = refl; up = refl; nothing = λ f. refl }, (refl, refl, tt))) refl refl;
  no_work = λ resource free need. goes-on (setup_of 1 false counts) _ _ (refl, record { epoch = 1; below = refl; found = λ c. refl; not_last = refl }, (refl, record { memory = _; below = refl; up = refl; nothing = λ f. refl }, (refl, refl, tt))) refl refl;
}

pub mapped-where-lacking : (bytes : List ℕ) → IsOnlyWhereLacking for_a_map_page (writes_at head_blocks bytes) full_at_block
mapped-where-lacking bytes = only-where-lacking (writes_at head_blocks bytes) 71 (writes_block_120 bytes) (record { 0 = 5 }) 11 for_a_map_page (mapped-so bytes) full_at_block 30 (mapped-tells bytes)

-- where one data page is free, of the two that are needed
pub not-without-map : (bytes : List ℕ) → IsNoneOf one_page (writes_at head_blocks bytes) (full_at_block Pages 0 1)
not-without-map bytes images closing new whole = clash (mapped-lacking bytes one_page images closing Pages 0 1 refl refl new whole)
  where
    clash : Some (Full Pages 1 2) ≡ Some (Full Pages 0 1) → ⊥
    clash k = cc
