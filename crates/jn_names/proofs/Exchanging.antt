-- A call's operations are answered and do what the call is and does.
use Rattle.std.proofs.Common.{◌≡◌, ℕ, zero, suc, ◌+◌, true, false, List, [], ◌∷◌, ◌++◌, Option, Some, None, inl, inr, option_map, Result, Ok, Err, refl, sym, ap, subst, arith, append_assoc}
use Rattle.std.specs.Prelude.{is_some, nat_lt, option_and_then}
use Rattle.std.proofs.lemmas.Bool.{cases_Bool}
use Rattle.std.proofs.lemmas.List.{append-nil}
use Rattle.jn_base.specs.declared.names.FileNo.{FileNo}
use Rattle.jn_base.specs.declared.names.LockUnit.TheVariants.{File, Block}
use Rattle.jn_base.specs.declared.op.Op.{Op}
use Rattle.jn_base.specs.declared.op.Op.TheVariants.{Write}
use Rattle.jn_base.specs.declared.op.Answer.{Answer}
use Rattle.jn_base.specs.declared.op.Answer.TheVariants.{NoFile}
use Rattle.jn_order.specs.Files.{Files, change, written, or_else, answer_to, files_after}
unfoldable use Rattle.jn_order.specs.Files.{zeros}
use Rattle.jn_order.specs.Changes.{files_then}
use Rattle.jn_order.specs.Answers.{Answered, ops_of, FilesAnswer}
use Rattle.jn_names.specs.declared.entry.Entry.{Entry}
use Rattle.jn_base.specs.declared.call.NameCommand.{NameCommand}
use Rattle.jn_base.specs.declared.call.NameCommand.TheVariants as calls
use Rattle.jn_names.specs.declared.next.NameNext.{NameNext}
use Rattle.jn_names.specs.declared.next.NameNext.TheVariants.{Did, Names, Refused}
use Rattle.jn_names.specs.declared.next.NameRefusal.TheVariants.{Operation, NotDirectory}
use Rattle.jn_names.specs.declared.turn.Stage.{Stage}
use Rattle.jn_names.specs.declared.turn.Stage.TheVariants as stages
use Rattle.jn_names.specs.declared.turn.Turn.{Turn}
use Rattle.jn_names.specs.declared.turn.Turn.TheVariants.{Sends, Over}
use Rattle.jn_names.specs.Names.{bucket_of}
unfoldable use Rattle.jn_names.specs.Names.{buckets}
use Rattle.jn_names.specs.Buckets.{Slot}
unfoldable use Rattle.jn_names.specs.Buckets.{bucket_in, bucket_bytes}
use Rattle.jn_names.specs.Calls.{directory_of, name_of, bucket_at, made_at, entries_of, entries_from, ascending, listed, replied, reply_at, reply_to, with_bucket, files_after_call}
use Rattle.jn_names.specs.Turns.{read_bucket, ask_each, first_turn, write_made, add_each, go_on, turn, GoesOn}
use Rattle.jn_names.proofs.Tests.{lt-holds, lt-fails}

-- whatever is asked from this turn on, where the files answer, the call is over with this reply and leaves these files
pub record Right (command : NameCommand) (t : Turn) (files : Files) (reply : NameNext) (left : Files) : Type 0 where
  pub each : (os : List Answered) (last : NameNext) → FilesAnswer files os → GoesOn command t os last → (last ≡ reply) × (files_then (ops_of os) files ≡ left)

over : (command : NameCommand) (reply : NameNext) (files : Files) → Right command (Over reply) files reply files
over command reply files = record { each = by }
  where
    by : (os : List Answered) (last : NameNext) → FilesAnswer files os → GoesOn command (Over reply) os last → (last ≡ reply) × (files_then (ops_of os) files ≡ files)
    by [] last a f = (sym f, refl)
    by (s ∷ more) last a f = absurd f

sends : (command : NameCommand) (op : Op) (stage : Stage) (files : Files) (reply : NameNext) (left : Files) → Right command (turn command stage (answer_to op files)) (files_after op files) reply left → Right command (Sends op stage) files reply left
sends command op stage files reply left h = record { each = by }
  where
    same : (s : Answered) (more : List Answered) (last : NameNext) (q : Op) → answer_to q files ≡ s.answer → FilesAnswer (files_after q files) more → GoesOn command (turn command stage s.answer) more last
        → Right command (turn command stage (answer_to q files)) (files_after q files) reply left → (last ≡ reply) × (files_then (ops_of more) (files_after q files) ≡ left)
    same s more last q a rest f k = k.each more last rest (subst (λ (x : Answer). GoesOn command (turn command stage x) more last) (sym a) f)

    by : (os : List Answered) (last : NameNext) → FilesAnswer files os → GoesOn command (Sends op stage) os last → (last ≡ reply) × (files_then (ops_of os) files ≡ left)
    by [] last a f = absurd f
    by (s ∷ more) last a f = same s more last s.op a.0 a.1 f.1 (subst (λ (x : Op). Right command (turn command stage (answer_to x files)) (files_after x files) reply left) (sym f.0) h)

-- a bucket is read of a file that is there, and one is written
reads : (command : NameCommand) (d : FileNo) (k : ℕ) (stage : Stage) (files : Files) (reply : NameNext) (left : Files) → is_some (files (File d)) ≡ true
    → Right command (go_on command stage (or_else (files (Block d (record { 0 = k }))) zeros)) files reply left → Right command (Sends (read_bucket d k) stage) files reply left
reads command d k stage files reply left there h = sends command (read_bucket d k) stage files reply left (rw there h)

writes : (command : NameCommand) (d : FileNo) (k : ℕ) (bytes : List ℕ) (stage : Stage) (files : Files) (reply : NameNext) (left : Files) → is_some (files (File d)) ≡ true
    → Right command (go_on command stage zeros) (change (written d (record { 0 = k }) bytes) files) reply left → Right command (Sends (Write d (record { 0 = k }) bytes) stage) files reply left
writes command d k bytes stage files reply left there h = sends command (Write d (record { 0 = k }) bytes) stage files reply left (rw there h)

-- ---- the bucket of a name

made : (command : NameCommand) (files : Files) (result : Result (List Slot) NameNext) → is_some (files (File (directory_of command))) ≡ true
    → Right command (write_made command result) files (replied result) (with_bucket (directory_of command) (bucket_of (name_of command)) result files)
made command files (Err reply) there = over command reply files
made command files (Ok slots) there = writes command (directory_of command) (bucket_of (name_of command)) (bucket_bytes slots) stages.Write files Did _ there (over command Did _)

named : (command : NameCommand) (files : Files) → is_some (files (File (directory_of command))) ≡ true
    → Right command (Sends (read_bucket (directory_of command) (bucket_of (name_of command))) stages.Bucket) files
    (replied (made_at command (bucket_at files (directory_of command) (bucket_of (name_of command)))))
    (with_bucket (directory_of command) (bucket_of (name_of command)) (made_at command (bucket_at files (directory_of command) (bucket_of (name_of command)))) files)
named command files there = reads command (directory_of command) (bucket_of (name_of command)) stages.Bucket files _ _ there (made command files (made_at command (bucket_at files (directory_of command) (bucket_of (name_of command)))) there)

-- ---- all buckets

abbrev behind : List Entry → Option (List Entry) → Option (List Entry)
behind es more = option_map (λ (xs : List Entry). es ++ xs) more

none-behind : (o : Option (List Entry)) → behind [] o ≡ o
none-behind None = refl
none-behind (Some es) = refl

more-behind : (es slots : List Entry) (o : Option (List Entry)) → behind (es ++ slots) o ≡ behind es (option_map (λ (xs : List Entry). slots ++ xs) o)
more-behind es slots None = refl
more-behind es slots (Some xs) = ap (λ (x : List Entry). Some x) (append_assoc es slots xs)

module _ (d : FileNo) (files : Files) (there : is_some (files (File d)) ≡ true) where
  lists : (n k : ℕ) (es : List Entry) → k + n ≡ buckets → Right (calls.Names d) (ask_each d k es) files (listed (behind es (entries_from files d k n))) files
  lists zero k es e =
      let t : nat_lt k buckets ≡ false = lt-fails k buckets (omega (arith, e)) in
      rw t (subst (λ (x : List Entry). Right (calls.Names d) (Over (Names (ascending es))) files (Names (ascending x)) files) (sym (append-nil es)) (over (calls.Names d) (Names (ascending es)) files))
  lists (suc n) k es e =
      let t : nat_lt k buckets ≡ true = lt-holds k buckets (omega (arith, e)) in
      rw t (reads (calls.Names d) d k (stages.Each k es) files _ files there (by (bucket_at files d k) (λ (slots : List Slot). lists n (k + 1) (es ++ entries_of slots) (omega (arith, e)))))
    where
      by : (o : Option (List Slot)) → ((slots : List Slot) → Right (calls.Names d) (ask_each d (k + 1) (es ++ entries_of slots)) files (listed (behind (es ++ entries_of slots) (entries_from files d (k + 1) n))) files)
          → Right (calls.Names d) (add_each d k es o) files (listed (behind es (option_and_then (λ slots. option_map (λ xs. entries_of slots ++ xs) (entries_from files d (k + 1) n)) o))) files
      by None more = over (calls.Names d) (Refused NotDirectory) files
      by (Some slots) more = rw (← more-behind es (entries_of slots) (entries_from files d (k + 1) n)) (more slots)

-- `names` writes nothing
pub names-leave : (d : FileNo) (k : ℕ) (o : Option (List Slot)) (files : Files) → with_bucket d k (made_at (calls.Names d) o) files ≡ files
names-leave d k None files = refl
names-leave d k (Some slots) files = refl

all-named : (d : FileNo) (files : Files) → is_some (files (File d)) ≡ true
    → Right (calls.Names d) (ask_each d 0 []) files (listed (entries_from files d 0 buckets)) (with_bucket d (bucket_of []) (made_at (calls.Names d) (bucket_at files d (bucket_of []))) files)
all-named d files there = rw (names-leave d (bucket_of []) (bucket_at files d (bucket_of [])) files, ← none-behind (entries_from files d 0 buckets)) (lists d files there buckets 0 [] (omega arith))

-- ---- whole calls

present : (command : NameCommand) (files : Files) → is_some (files (File (directory_of command))) ≡ true
    → Right command (first_turn command) files (reply_at command files) (with_bucket (directory_of command) (bucket_of (name_of command)) (made_at command (bucket_at files (directory_of command) (bucket_of (name_of command)))) files)
present (calls.Bind d name file) files there = named (calls.Bind d name file) files there
present (calls.Unbind d name) files there = named (calls.Unbind d name) files there
present (calls.Find d name) files there = named (calls.Find d name) files there
present (calls.Names d) files there = all-named d files there

asks-first : (command : NameCommand) (d : FileNo) (k : ℕ) (stage : Stage) (files : Files) → is_some (files (File d)) ≡ false → Right command (Sends (read_bucket d k) stage) files (Refused (Operation NoFile)) files
asks-first command d k stage files gone = sends command (read_bucket d k) stage files (Refused (Operation NoFile)) files (rw gone (over command (Refused (Operation NoFile)) files))

all-absent : (d : FileNo) (files : Files) → is_some (files (File d)) ≡ false → Right (calls.Names d) (ask_each d 0 []) files (Refused (Operation NoFile)) files
unfolding buckets
all-absent d files gone = asks-first (calls.Names d) d 0 (stages.Each 0 []) files gone

absent : (command : NameCommand) (files : Files) → is_some (files (File (directory_of command))) ≡ false → Right command (first_turn command) files (Refused (Operation NoFile)) files
absent (calls.Bind d name file) files gone = asks-first (calls.Bind d name file) d (bucket_of name) stages.Bucket files gone
absent (calls.Unbind d name) files gone = asks-first (calls.Unbind d name) d (bucket_of name) stages.Bucket files gone
absent (calls.Find d name) files gone = asks-first (calls.Find d name) d (bucket_of name) stages.Bucket files gone
absent (calls.Names d) files gone = all-absent d files gone

pub each-call : (command : NameCommand) (files : Files) → Right command (first_turn command) files (reply_to command files) (files_after_call command files)
each-call command files = elim (cases_Bool (is_some (files (File (directory_of command))))) [
  | inl h ↦ rw h (present command files h)
  | inr h ↦ rw h (absent command files h)
]
