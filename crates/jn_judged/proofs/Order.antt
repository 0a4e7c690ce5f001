-- Answers that are those of the order of commits, line by line.
use Rattle.jn_judged.proofs.Common.{◌≡◌, ℕ, ◌+◌, Bool, true, false, ◌&&◌, ◌||◌, not, if◌then◌else◌, List, [], ◌∷◌, ◌++◌, Option, Some, None, map, is_some, refl, sym, ◌∙◌, ap, subst, append_assoc, ◌↔◌, list_any, Tid, AllFiles, Event, Line, history_of, bytes_eq-Decides, File, Block, OneFiles, answer_to, or_else, zeros, reply_told, names_listed, first_reply, replied, done_in, done_from, done_of, AgreesFrom, Agrees, Answered, answered_by, done_by, answered_from, same_answer, same_byte_refusal, same_next, same_entries, same_name_refusal, same_name_next, same_reply, one_unless, differing, differing_in, answers_first, breaks_order, length, take, drop, nat_lt, eqb-true, eq-eqb, ServerNo, FileNo, file_eq, Text, answer_in, names_told, call_reply, is_addressed}
use Rattle.std.proofs.lemmas.List.{map-append}
use Rattle.jn_base.specs.declared.op.Op.{Op}
use Rattle.jn_base.specs.declared.op.Op.TheVariants as ops
use Rattle.jn_base.specs.declared.op.Answer.{Answer}
use Rattle.jn_base.specs.declared.op.Answer.TheVariants as answers
use Rattle.jn_base.specs.declared.op.Command.TheVariants as commands
use Rattle.jn_order.specs.Changes.{or_also}
use Rattle.std.proofs.Common.{nat_eq}
use Rattle.std.specs.Str.{bytes_eq}
use Rattle.jn_base.specs.declared.names.ClientNo.{ClientNo}
use Rattle.jn_base.specs.declared.call.ByteCommand.{ByteCommand}
use Rattle.jn_base.specs.declared.call.ByteCommand.TheVariants.{ReadBytes, WriteBytes}
use Rattle.jn_base.specs.declared.call.NameCommand.{NameCommand}
use Rattle.jn_base.specs.declared.call.NameCommand.TheVariants.{Bind, Unbind, Find, Names}
use Rattle.jn_base.specs.declared.call.Call.{Call}
use Rattle.jn_base.specs.declared.call.Call.TheVariants.{OfBytes, OfNames}
use Rattle.jn_bytes.specs.declared.next.Next.{Next}
use Rattle.jn_bytes.specs.declared.next.Next.TheVariants as byte_nexts
use Rattle.jn_bytes.specs.declared.next.ByteRefusal.{ByteRefusal}
use Rattle.jn_bytes.specs.declared.next.ByteRefusal.TheVariants as byte_refusals
use Rattle.jn_bytes.specs.ByteFiles.{bytes_of}
use Rattle.jn_bytes.specs.Calls.{file_of_call, reply_of, reply_to as bytes_reply}
use Rattle.jn_names.specs.declared.entry.Entry.{Entry}
use Rattle.jn_names.specs.declared.next.NameNext.{NameNext}
use Rattle.jn_names.specs.declared.next.NameNext.TheVariants as name_nexts
use Rattle.jn_names.specs.declared.next.NameRefusal.{NameRefusal}
use Rattle.jn_names.specs.declared.next.NameRefusal.TheVariants as name_refusals
use Rattle.jn_names.specs.Names.{buckets, bucket_of}
use Rattle.jn_names.specs.Buckets.{Slot, find_in, bound_in, unbound_in}
use Rattle.jn_names.specs.Calls.{directory_of, bucket_at, found, or_refused, made_at, entries_from, ascending, listed, replied as names_replied, reply_at, reply_to as names_reply}
use Rattle.jn_calls.specs.declared.reply.Reply.{Reply}
use Rattle.jn_calls.specs.declared.reply.Reply.TheVariants as replies
use Rattle.jn_calls.specs.declared.reply.Wish.{Wish}
use Rattle.jn_calls.specs.declared.reply.Wish.TheVariants as wishes
use Rattle.jn_calls.specs.Calls.{reply_to}
use Rattle.jn_replay.specs.declared.replied.Replied.{Replied}
use Rattle.jn_replay.specs.Replies.{call_fits, all_files_by, files_by_all, GivesReplies}
use Rattle.jn_report.specs.declared.line.Refusal.TheVariants as refusals
use Rattle.jn_report.specs.declared.line.Text.TheVariants as says
use Rattle.jn_schedule.specs.declared.Event.TheVariants as events
use Rattle.jn_serial.specs.Begun.{is_in}
use Rattle.jn_judged.proofs.Sets.{clash}
use Rattle.jn_judged.proofs.Splits.{NoneBreaksFrom, NoneBreaks, split-of}

-- ---- answers

same-equal : (a b : Answer) → same_answer a b ≡ true → a ≡ b
same-equal answers.Did answers.Did h = refl
same-equal (answers.Read x) (answers.Read y) h = ap answers.Read ((bytes_eq-Decides x y).0 h)
same-equal answers.NoFile answers.NoFile h = refl
same-equal answers.Exists answers.Exists h = refl
same-equal a b h = cc h

-- what the files give is one of four answers
given-same : (op : Op) (files : OneFiles) → same_answer (answer_to op files) (answer_to op files) ≡ true
given-same (ops.Create f) files = by (is_some (files (File f)))
  where
    by : (b : Bool) → same_answer (if b then answers.Exists else answers.Did) (if b then answers.Exists else answers.Did) ≡ true
    by true = refl
    by false = refl
given-same (ops.Remove f) files = by (is_some (files (File f)))
  where
    by : (b : Bool) → same_answer (if b then answers.Did else answers.NoFile) (if b then answers.Did else answers.NoFile) ≡ true
    by true = refl
    by false = refl
given-same (ops.Cut f n) files = by (is_some (files (File f)))
  where
    by : (b : Bool) → same_answer (if b then answers.Did else answers.NoFile) (if b then answers.Did else answers.NoFile) ≡ true
    by true = refl
    by false = refl
given-same (ops.Read f p) files = by (is_some (files (File f)))
  where
    by : (b : Bool) → same_answer (if b then answers.Read (or_else (files (Block f p)) zeros) else answers.NoFile) (if b then answers.Read (or_else (files (Block f p)) zeros) else answers.NoFile) ≡ true
    by true = (bytes_eq-Decides (or_else (files (Block f p)) zeros) (or_else (files (Block f p)) zeros)).1 refl
    by false = refl
given-same (ops.Write f p bytes) files = by (is_some (files (File f)))
  where
    by : (b : Bool) → same_answer (if b then answers.Did else answers.NoFile) (if b then answers.Did else answers.NoFile) ≡ true
    by true = refl
    by false = refl

-- ---- replies

byte-refusal-equal : (a b : ByteRefusal) → same_byte_refusal a b ≡ true → a ≡ b
byte-refusal-equal (byte_refusals.Operation a) (byte_refusals.Operation b) h = ap byte_refusals.Operation (same-equal a b h)
byte-refusal-equal byte_refusals.NotBytes byte_refusals.NotBytes h = refl
byte-refusal-equal (byte_refusals.PastEnd n) (byte_refusals.PastEnd m) h = ap byte_refusals.PastEnd (eqb-true n m h)
byte-refusal-equal a b h = cc h

next-equal : (a b : Next) → same_next a b ≡ true → a ≡ b
next-equal (byte_nexts.Done x) (byte_nexts.Done y) h = ap byte_nexts.Done ((bytes_eq-Decides x y).0 h)
next-equal byte_nexts.Did byte_nexts.Did h = refl
next-equal (byte_nexts.Refused a) (byte_nexts.Refused b) h = ap byte_nexts.Refused (byte-refusal-equal a b h)
next-equal a b h = cc h

file-equal : (f g : FileNo) → file_eq f g ≡ true → f ≡ g
file-equal f g h = ap (λ (n : ℕ). record { 0 = n }) (eqb-true f.0 g.0 h)

first-true : (p q : Bool) → (p && q) ≡ true → p ≡ true
first-true true q h = refl
first-true false q h = h

second-true : (p q : Bool) → (p && q) ≡ true → q ≡ true
second-true true q h = h
second-true false q h = cc h

entry-equal : (a b : Entry) → (bytes_eq a.name b.name && file_eq a.file b.file) ≡ true → a ≡ b
entry-equal a b h = let name = (bytes_eq-Decides a.name b.name).0 (first-true _ _ h) in let file = file-equal a.file b.file (second-true _ _ h) in λ i. record { name = name i; file = file i }

entries-equal : (xs ys : List Entry) → same_entries xs ys ≡ true → xs ≡ ys
entries-equal [] [] h = refl
entries-equal (a ∷ xs) (b ∷ ys) h = let one = entry-equal a b (first-true _ _ h) in let more = entries-equal xs ys (second-true _ _ h) in λ i. one i ∷ more i
entries-equal [] (b ∷ ys) h = cc h
entries-equal (a ∷ xs) [] h = cc h

name-refusal-equal : (a b : NameRefusal) → same_name_refusal a b ≡ true → a ≡ b
name-refusal-equal (name_refusals.Operation a) (name_refusals.Operation b) h = ap name_refusals.Operation (same-equal a b h)
name-refusal-equal name_refusals.BucketFull name_refusals.BucketFull h = refl
name-refusal-equal name_refusals.NoName name_refusals.NoName h = refl
name-refusal-equal name_refusals.NotDirectory name_refusals.NotDirectory h = refl
name-refusal-equal a b h = cc h

name-next-equal : (a b : NameNext) → same_name_next a b ≡ true → a ≡ b
name-next-equal name_nexts.Did name_nexts.Did h = refl
name-next-equal (name_nexts.Found f) (name_nexts.Found g) h = ap name_nexts.Found (eqb-true f g h)
name-next-equal (name_nexts.Names xs) (name_nexts.Names ys) h = ap name_nexts.Names (entries-equal xs ys h)
name-next-equal (name_nexts.Refused a) (name_nexts.Refused b) h = ap name_nexts.Refused (name-refusal-equal a b h)
name-next-equal a b h = cc h

reply-equal : (a b : Reply) → same_reply a b ≡ true → a ≡ b
reply-equal (replies.Answered a) (replies.Answered b) h = ap replies.Answered (same-equal a b h)
reply-equal (replies.OfBytes a) (replies.OfBytes b) h = ap replies.OfBytes (next-equal a b h)
reply-equal (replies.OfNames a) (replies.OfNames b) h = ap replies.OfNames (name-next-equal a b h)
reply-equal a b h = cc h

-- what files reply is equal to itself
itself : (n : ℕ) → nat_eq n n ≡ true
itself n = eq-eqb n n refl

bytes-itself : (x : List ℕ) → bytes_eq x x ≡ true
bytes-itself x = (bytes_eq-Decides x x).1 refl

bytes-same : (command : ByteCommand) (files : OneFiles) → same_next (bytes_reply command files) (bytes_reply command files) ≡ true
bytes-same command files = by (is_some (files (File (file_of_call command))))
  where
    of : (o : Option (List ℕ)) → same_next (reply_of command o) (reply_of command o) ≡ true
    of None = refl
    of (Some all) = had command
      where
        had : (c : ByteCommand) → same_next (reply_of c (Some all)) (reply_of c (Some all)) ≡ true
        had (ReadBytes f offset count) = bytes-itself (take count (drop offset all))
        had (WriteBytes f offset bytes) = past (nat_lt (length all) offset)
          where
            past : (b : Bool) → same_next (if b then byte_nexts.Refused (byte_refusals.PastEnd (length all)) else byte_nexts.Did) (if b then byte_nexts.Refused (byte_refusals.PastEnd (length all)) else byte_nexts.Did) ≡ true
            past true = itself (length all)
            past false = refl

    by : (b : Bool) → same_next (if b then reply_of command (bytes_of files (file_of_call command)) else byte_nexts.Refused (byte_refusals.Operation answers.NoFile)) (if b then reply_of command (bytes_of files (file_of_call command)) else byte_nexts.Refused (byte_refusals.Operation answers.NoFile)) ≡ true
    by true = of (bytes_of files (file_of_call command))
    by false = refl

entries-itself : (es : List Entry) → same_entries es es ≡ true
entries-itself [] = refl
entries-itself (e ∷ es) = rw (bytes-itself e.name, itself e.file.0, entries-itself es) refl

-- how a call on names can end
abbrev IsSame : NameNext → Type 0
IsSame next = same_name_next next next ≡ true

refused-same : (refusal : NameRefusal) (o : Option (List Slot)) → same_name_refusal refusal refusal ≡ true → IsSame (names_replied (or_refused refusal o))
refused-same refusal None h = h
refused-same refusal (Some slots) h = refl

found-same : (o : Option FileNo) → IsSame (found o)
found-same None = refl
found-same (Some file) = itself file.0

made-same : (command : NameCommand) (o : Option (List Slot)) → IsSame (names_replied (made_at command o))
made-same command None = refl
made-same (Bind d name f) (Some slots) = refused-same name_refusals.BucketFull (bound_in name f slots) refl
made-same (Unbind d name) (Some slots) = refused-same name_refusals.NoName (unbound_in name slots) refl
made-same (Find d name) (Some slots) = found-same (find_in name slots)
made-same (Names d) (Some slots) = refl

listed-same : (o : Option (List Entry)) → IsSame (listed o)
listed-same None = refl
listed-same (Some es) = entries-itself (ascending es)

at-same : (command : NameCommand) (files : OneFiles) → IsSame (reply_at command files)
at-same (Names d) files = listed-same (entries_from files d 0 buckets)
at-same (Bind d name f) files = made-same (Bind d name f) (bucket_at files d (bucket_of name))
at-same (Unbind d name) files = made-same (Unbind d name) (bucket_at files d (bucket_of name))
at-same (Find d name) files = made-same (Find d name) (bucket_at files d (bucket_of name))

names-same : (command : NameCommand) (files : OneFiles) → IsSame (names_reply command files)
names-same command files = by (is_some (files (File (directory_of command))))
  where
    by : (b : Bool) → IsSame (if b then reply_at command files else name_nexts.Refused (name_refusals.Operation answers.NoFile))
    by true = at-same command files
    by false = refl

reply-same : (wish : Wish) (files : OneFiles) → same_reply (reply_to wish files) (reply_to wish files) ≡ true
reply-same (wishes.Operation op) files = given-same op files
reply-same (wishes.Call (OfBytes command)) files = bytes-same command files
reply-same (wishes.Call (OfNames command)) files = names-same command files

equal-same : (wish : Wish) (files : OneFiles) (b : Reply) → reply_to wish files ≡ b → same_reply (reply_to wish files) b ≡ true
equal-same wish files b e = subst (λ (x : Reply). same_reply (reply_to wish files) x ≡ true) e (reply-same wish files)

-- ---- what a transaction did

abbrev all_done : List Answered → List Replied
all_done ds = map (λ (d : Answered). d.done) ds

each-done : (c : ClientNo) (j : ℕ) (rs : List Replied) → all_done (answered_by c j rs) ≡ rs
each-done c j [] = refl
each-done c j (r ∷ rs) = ap (λ (qs : List Replied). r ∷ qs) (each-done c j rs)

done-by : (t : Tid) (lines : List Line) (j : ℕ) (e : Event) → all_done (done_by j e (done_in t lines j e)) ≡ done_in t lines j e
done-by t lines j (events.Command c command) = each-done c j (done_in t lines j (events.Command c command))
done-by t lines j (events.Call c s call) = each-done c j (done_in t lines j (events.Call c s call))
done-by t lines j _ = refl

done-from : (t : Tid) (lines : List Line) (j : ℕ) (es : List Event) → all_done (answered_from t lines j es) ≡ done_from t lines j es
done-from t lines j [] = refl
done-from t lines j (e ∷ es) = map-append (λ (d : Answered). d.done) (done_by j e (done_in t lines j e)) (answered_from t lines (j + 1) es) ∙ ap (λ (rs : List Replied). rs ++ all_done (answered_from t lines (j + 1) es)) (done-by t lines j e)
    ∙ ap (λ (rs : List Replied). done_in t lines j e ++ rs) (done-from t lines (j + 1) es)

-- ---- nothing differs

both-empty : (xs ys : List Answered) → xs ++ ys ≡ [] → (xs ≡ []) × (ys ≡ [])
both-empty [] ys h = (refl, h)
both-empty (x ∷ xs) ys h = cc h

differing-to : (files : AllFiles) (ds : List Answered) → differing files ds ≡ [] → GivesReplies files (all_done ds)
differing-to files [] h = tt
differing-to files (d ∷ ds) h = let parts = both-empty (one_unless (same_reply (reply_to d.done.wish (files d.done.server)) d.done.reply) d) (differing (all_files_by d.done.server d.done.wish files) ds) h in
    (reply-equal (reply_to d.done.wish (files d.done.server)) d.done.reply (turn (same_reply (reply_to d.done.wish (files d.done.server)) d.done.reply) parts.0), differing-to (all_files_by d.done.server d.done.wish files) ds parts.1)
  where
    turn : (b : Bool) → one_unless b d ≡ [] → b ≡ true
    turn true k = refl
    turn false k = cc k

differing-from : (files : AllFiles) (ds : List Answered) → GivesReplies files (all_done ds) → differing files ds ≡ []
differing-from files [] h = refl
differing-from files (d ∷ ds) h = ap (λ (b : Bool). one_unless b d ++ differing (all_files_by d.done.server d.done.wish files) ds) (equal-same d.done.wish (files d.done.server) d.done.reply h.0) ∙ differing-from (all_files_by d.done.server d.done.wish files) ds h.1

agrees-to : (files : AllFiles) (es : List Event) (lines : List Line) (ts : List Tid) → differing_in files es lines ts ≡ [] → AgreesFrom files es lines ts
agrees-to files es lines [] h = tt
agrees-to files es lines (t ∷ ts) h = let parts = both-empty (differing files (answered_from t lines 1 es)) (differing_in (files_by_all (done_of es lines t) files) es lines ts) h in
    (subst (GivesReplies files) (done-from t lines 1 es) (differing-to files (answered_from t lines 1 es) parts.0), agrees-to (files_by_all (done_of es lines t) files) es lines ts parts.1)

agrees-from : (files : AllFiles) (es : List Event) (lines : List Line) (ts : List Tid) → AgreesFrom files es lines ts → differing_in files es lines ts ≡ []
agrees-from files es lines [] h = refl
agrees-from files es lines (t ∷ ts) h = ap (λ (ds : List Answered). ds ++ differing_in (files_by_all (done_of es lines t) files) es lines ts) (differing-from files (answered_from t lines 1 es) (subst (GivesReplies files) (sym (done-from t lines 1 es)) h.0))
    ∙ agrees-from (files_by_all (done_of es lines t) files) es lines ts h.1

-- ---- each that differs has a line

abbrev IsTold : List Entry → List Line → Answered → Type 0
IsTold es lines d = is_some (first_reply d.done.wish d.client d.number es lines) ≡ true

abbrev AllTold : List Line → List Answered → Type 0
AllTold lines [] = Unit {0}
AllTold lines (d ∷ ds) = IsTold [] lines d × AllTold lines ds

told-append : (lines : List Line) (xs ys : List Answered) → AllTold lines xs → AllTold lines ys → AllTold lines (xs ++ ys)
told-append lines [] ys h k = k
told-append lines (d ∷ xs) ys h k = (h.0, told-append lines xs ys h.1 k)

told-one : (c : ClientNo) (j : ℕ) (s : ServerNo) (wish : Wish) (lines : List Line) (o : Option Reply) → first_reply wish c j [] lines ≡ o → AllTold lines (answered_by c j (replied s wish o))
told-one c j s wish lines None e = tt
told-one c j s wish lines (Some x) e = (ap is_some e, tt)

told-if : (c : ClientNo) (j : ℕ) (s : ServerNo) (wish : Wish) (lines : List Line) (b : Bool) → AllTold lines (answered_by c j (if b then replied s wish (first_reply wish c j [] lines) else []))
told-if c j s wish lines true = told-one c j s wish lines (first_reply wish c j [] lines) refl
told-if c j s wish lines false = tt

told-in : (t : Tid) (lines : List Line) (j : ℕ) (e : Event) → AllTold lines (done_by j e (done_in t lines j e))
told-in t lines j (events.Command c (commands.Do s op)) = told-if c j s (wishes.Operation op) lines (is_in c t j lines)
told-in t lines j (events.Call c s call) = told-if c j s (wishes.Call call) lines (is_in c t j lines && call_fits call)
told-in t lines j _ = tt

told-from : (t : Tid) (lines : List Line) (j : ℕ) (es : List Event) → AllTold lines (answered_from t lines j es)
told-from t lines j [] = tt
told-from t lines j (e ∷ es) = told-append lines (done_by j e (done_in t lines j e)) (answered_from t lines (j + 1) es) (told-in t lines j e) (told-from t lines (j + 1) es)

told-differing : (lines : List Line) (files : AllFiles) (ds : List Answered) → AllTold lines ds → AllTold lines (differing files ds)
told-differing lines files [] h = tt
told-differing lines files (d ∷ ds) h = told-append lines (one_unless (same_reply (reply_to d.done.wish (files d.done.server)) d.done.reply) d) (differing (all_files_by d.done.server d.done.wish files) ds) (by (same_reply (reply_to d.done.wish (files d.done.server)) d.done.reply)) (told-differing lines (all_files_by d.done.server d.done.wish files) ds h.1)
  where
    by : (b : Bool) → AllTold lines (one_unless b d)
    by true = tt
    by false = (h.0, tt)

told-all : (files : AllFiles) (es : List Event) (lines : List Line) (ts : List Tid) → AllTold lines (differing_in files es lines ts)
told-all files es lines [] = tt
told-all files es lines (t ∷ ts) = told-append lines (differing files (answered_from t lines 1 es)) (differing_in (files_by_all (done_of es lines t) files) es lines ts) (told-differing lines files (answered_from t lines 1 es) (told-from t lines 1 es)) (told-all (files_by_all (done_of es lines t) files) es lines ts)

-- whether a line gives a reply doesn't depend on what was listed before
names-some : (command : NameCommand) (es fs : List Entry) (x : Text) → is_some (names_told command es x) ≡ is_some (names_told command fs x)
names-some command es fs (says.Did c j) = refl
names-some command es fs (says.Found c j f) = refl
names-some command es fs (says.Refused c j refusals.NoFile) = refl
names-some command es fs (says.Refused c j refusals.Exists) = refl
names-some command es fs (says.Refused c j refusals.BucketFull) = refl
names-some command es fs (says.Refused c j refusals.NoName) = refl
names-some command es fs (says.Refused c j refusals.NotDirectory) = refl
names-some command es fs _ = refl

call-some : (call : Call) (es fs : List Entry) (x : Text) → is_some (call_reply call es x) ≡ is_some (call_reply call fs x)
call-some (OfBytes command) es fs x = refl
call-some (OfNames command) es fs x = names-some command es fs x

told-some : (wish : Wish) (c : ClientNo) (j : ℕ) (es fs : List Entry) (x : Text) → is_some (reply_told wish c j es x) ≡ is_some (reply_told wish c j fs x)
told-some (wishes.Operation op) c j es fs x = refl
told-some (wishes.Call call) c j es fs x = by (is_addressed c j (answer_in x))
  where
    by : (b : Bool) → is_some (if b then call_reply call es x else None) ≡ is_some (if b then call_reply call fs x else None)
    by true = call-some call es fs x
    by false = refl

either-some : (o p q r : Option Reply) → is_some o ≡ is_some p → is_some q ≡ is_some r → is_some (or_also o q) ≡ is_some (or_also p r)
either-some None None q r a b = b
either-some None (Some y) q r a b = cc a
either-some (Some x) None q r a b = cc a
either-some (Some x) (Some y) q r a b = refl

first-some : (wish : Wish) (c : ClientNo) (j : ℕ) (es fs : List Entry) (ls : List Line) → is_some (first_reply wish c j es ls) ≡ is_some (first_reply wish c j fs ls)
first-some wish c j es fs [] = refl
first-some wish c j es fs (l ∷ ls) = either-some (reply_told wish c j es l.text) (reply_told wish c j fs l.text) _ _ (told-some wish c j es fs l.text) (first-some wish c j (es ++ names_listed c j l.text) (fs ++ names_listed c j l.text) ls)

-- the first line that answers
record HasFirst (d : Answered) (lines : List Line) : Type 0 where
  before : List Line
  line : Line
  after : List Line
  is : lines ≡ before ++ line ∷ after
  answers : answers_first before line.text d ≡ true

has-first : (d : Answered) (es : List Entry) (lines : List Line) → IsTold es lines d → HasFirst d lines
has-first d es [] h = cc h
has-first d es (l ∷ ls) h = by (reply_told d.done.wish d.client d.number es l.text) refl (λ k. has-first d (es ++ names_listed d.client d.number l.text) ls k)
  where
    none-here : (o : Option Reply) → is_some o ≡ false → o ≡ None
    none-here None k = refl
    none-here (Some x) k = cc k

    later : reply_told d.done.wish d.client d.number es l.text ≡ None → HasFirst d ls → HasFirst d (l ∷ ls)
    later e a =
        let none = none-here (reply_told d.done.wish d.client d.number [] l.text) (told-some d.done.wish d.client d.number [] es l.text ∙ ap is_some e) in record {
          before = l ∷ a.before;
          line = a.line;
          after = a.after;
          is = ap (λ (xs : List Line). l ∷ xs) a.is;
          answers = ap (λ (o : Option Reply). is_some (reply_told d.done.wish d.client d.number [] a.line.text) && not (is_some (or_also o (first_reply d.done.wish d.client d.number (names_listed d.client d.number l.text) a.before)))) none
              ∙ ap (λ (b : Bool). is_some (reply_told d.done.wish d.client d.number [] a.line.text) && not b) (first-some d.done.wish d.client d.number (names_listed d.client d.number l.text) [] a.before) ∙ a.answers;
        }

    by : (o : Option Reply) → reply_told d.done.wish d.client d.number es l.text ≡ o → (IsTold (es ++ names_listed d.client d.number l.text) ls d → HasFirst d ls) → HasFirst d (l ∷ ls)
    by (Some x) e more = record { before = []; line = l; after = ls; is = refl; answers = ap (λ (b : Bool). b && true) (told-some d.done.wish d.client d.number [] es l.text ∙ ap is_some e) }
    by None e more = later e (more (subst (λ (o : Option Reply). is_some (or_also o (first_reply d.done.wish d.client d.number (es ++ names_listed d.client d.number l.text) ls)) ≡ true) e h))

nothing-differs : (files : AllFiles) (es : List Event) (lines : List Line) → NoneBreaks (breaks_order files es) lines → differing_in files es lines (history_of lines) ≡ []
nothing-differs files es lines h = by (differing_in files es lines (history_of lines)) refl
  where
    first : (d : Answered) (ds : List Answered) → differing_in files es lines (history_of lines) ≡ d ∷ ds → HasFirst d lines → ⊥
    first d ds e a = clash (breaks_order files es a.before a.line a.after)
        (subst (λ (all : List Line). list_any (answers_first a.before a.line.text) (differing_in files es all (history_of all)) ≡ true) a.is (subst (λ (xs : List Answered). list_any (answers_first a.before a.line.text) xs ≡ true) (sym e) (front (answers_first a.before a.line.text d) (list_any (answers_first a.before a.line.text) ds) a.answers)))
        (split-of (breaks_order files es) lines a.before a.line a.after h a.is)
      where
        front : (b c : Bool) → b ≡ true → (b || c) ≡ true
        front b c k = rw k refl

    by : (ds : List Answered) → differing_in files es lines (history_of lines) ≡ ds → ds ≡ []
    by [] e = refl
    by (d ∷ ds) e = absurd (first d ds e (has-first d [] lines (subst (AllTold lines) e (told-all files es lines (history_of lines))).0))

none-differs : (files : AllFiles) (es : List Event) (lines before rest : List Line) → before ++ rest ≡ lines → differing_in files es lines (history_of lines) ≡ [] → NoneBreaksFrom (breaks_order files es) before rest
none-differs files es lines before [] same h = tt
none-differs files es lines before (l ∷ ls) same h = (
  subst (λ (all : List Line). list_any (answers_first before l.text) (differing_in files es all (history_of all)) ≡ false) (sym same) (ap (list_any (answers_first before l.text)) h),
  none-differs files es lines (before ++ l ∷ []) ls (append_assoc before (l ∷ []) ls ∙ same) h,
)

pub agrees-by-lines : (files : AllFiles) (es : List Event) (lines : List Line) → NoneBreaks (breaks_order files es) lines ↔ Agrees files es lines
agrees-by-lines files es lines = (
  λ h. agrees-to files es lines (history_of lines) (nothing-differs files es lines h),
  λ h. none-differs files es lines [] lines refl (agrees-from files es lines (history_of lines) h),
)
