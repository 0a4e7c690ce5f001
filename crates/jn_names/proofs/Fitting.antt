-- What the code makes of a bucket is what is made of it, and a bucket that is asked for is one of a directory's.
use Rattle.std.proofs.Common.{◌≡◌, ℕ, ◌+◌, Bool, true, false, List, [], ◌∷◌, ◌++◌, Option, Some, None, Result, Ok, Err, inl, inr, refl, sym, ◌∙◌, ap, subst}
use Rattle.std.specs.Prelude.{is_some, nat_lt, if◌then◌else◌}
use Rattle.std.proofs.lemmas.Bool.{cases_Bool, ltb-true}
use Rattle.jn_base.specs.declared.names.FileNo.{FileNo}
use Rattle.jn_base.specs.declared.op.Op.TheVariants.{Write}
use Rattle.jn_base.specs.declared.op.Answer.{Answer}
use Rattle.jn_base.specs.declared.op.Answer.TheVariants as answers
unfoldable use Rattle.jn_order.specs.Files.{zeros}
use Rattle.jn_names.specs.declared.entry.Entry.{Entry}
use Rattle.jn_base.specs.declared.call.NameCommand.{NameCommand}
use Rattle.jn_base.specs.declared.call.NameCommand.TheVariants as calls
use Rattle.jn_names.specs.declared.next.NameNext.{NameNext}
use Rattle.jn_names.specs.declared.next.NameNext.TheVariants.{Refused}
use Rattle.jn_names.specs.declared.next.NameRefusal.{NameRefusal}
use Rattle.jn_names.specs.declared.next.NameRefusal.TheVariants.{NotDirectory}
use Rattle.jn_names.specs.declared.turn.Stage.{Stage}
use Rattle.jn_names.specs.declared.turn.Stage.TheVariants as stages
use Rattle.jn_names.specs.declared.turn.Turn.TheVariants.{Sends, Over}
use Rattle.jn_base.specs.Names.{is_name}
use Rattle.jn_names.specs.Names.{bucket_of}
unfoldable use Rattle.jn_names.specs.Names.{buckets}
use Rattle.jn_names.specs.Buckets.{Slot, belongs, all_belong}
unfoldable use Rattle.jn_names.specs.Buckets.{bucket_in, bucket_bytes, places_in}
use Rattle.jn_names.specs.Calls.{directory_of, name_of, or_refused, made_of, made_at, entries_of}
use Rattle.jn_names.specs.Places.{IsPut, IsMade, are_named}
use Rattle.jn_names.specs.Turns.{ask_each, first_turn, write_made, add_each, go_on, turn, TurnFits}
use Rattle.jn_names.proofs.Checking.{parts}
use Rattle.jn_names.proofs.Slots.{no-name}
use Rattle.jn_names.proofs.Tests.{left, right, both}

pub made-put : (o : Option (List Slot)) (put : Bool) (block : List ℕ) (refusal : NameRefusal) (result : Option NameNext) → result ≡ (if put then None else Some (Refused refusal)) → IsPut o put block → IsMade (or_refused refusal o) result block
made-put None put block refusal result r h = rw (r, h) refl
made-put (Some slots) put block refusal result r h = rw (r, h.0) h.1

not-bucket : (command : NameCommand) (o : Option (List Slot)) → is_some o ≡ false → Over (Refused NotDirectory) ≡ write_made command (made_at command o)
not-bucket command None h = refl
not-bucket command (Some slots) h = absurd (cc h)

reply-of : (command : NameCommand) (r : Result (List Slot) NameNext) (reply : NameNext) (block : List ℕ) → IsMade r (Some reply) block → Over reply ≡ write_made command r
reply-of command (Ok slots) reply block h = absurd h
reply-of command (Err last) reply block h = ap Over h

reply-made : (command : NameCommand) (o : Option (List Slot)) (reply : NameNext) (block : List ℕ) → is_some o ≡ true → ((slots : List Slot) → o ≡ Some slots → IsMade (made_of command slots) (Some reply) block) → Over reply ≡ write_made command (made_at command o)
reply-made command None reply block s h = absurd (cc s)
reply-made command (Some slots) reply block s h = reply-of command (made_of command slots) reply block (h slots refl)

write-of : (command : NameCommand) (r : Result (List Slot) NameNext) (block content : List ℕ) → content ≡ block → IsMade r None block → Sends (Write (directory_of command) (record { 0 = bucket_of (name_of command) }) content) stages.Write ≡ write_made command r
write-of command (Ok slots) block content e h = ap (λ (x : List ℕ). Sends (Write (directory_of command) (record { 0 = bucket_of (name_of command) }) x) stages.Write) (e ∙ h)
write-of command (Err last) block content e h = absurd h

write-is-made : (command : NameCommand) (o : Option (List Slot)) (block content : List ℕ) → content ≡ block → is_some o ≡ true → ((slots : List Slot) → o ≡ Some slots → IsMade (made_of command slots) None block)
    → Sends (Write (directory_of command) (record { 0 = bucket_of (name_of command) }) content) stages.Write ≡ write_made command (made_at command o)
write-is-made command None block content e s h = absurd (cc s)
write-is-made command (Some slots) block content e s h = write-of command (made_of command slots) block content e (h slots refl)

module _ (command : NameCommand) (k : ℕ) (block : List ℕ) (e : k ≡ bucket_of (name_of command)) where
  pub by-none : false ≡ is_some (bucket_in k block) → Over (Refused NotDirectory) ≡ write_made command (made_at command (bucket_in (bucket_of (name_of command)) block))
  by-none s = subst (λ (n : ℕ). Over (Refused NotDirectory) ≡ write_made command (made_at command (bucket_in n block))) e (not-bucket command (bucket_in k block) (sym s))

  pub by-reply : (reply : NameNext) (now : List ℕ) → true ≡ is_some (bucket_in k block) → ((j : ℕ) (slots : List Slot) → bucket_in j block ≡ Some slots → IsMade (made_of command slots) (Some reply) now)
      → Over reply ≡ write_made command (made_at command (bucket_in (bucket_of (name_of command)) block))
  by-reply reply now s h = subst (λ (n : ℕ). Over reply ≡ write_made command (made_at command (bucket_in n block))) e (reply-made command (bucket_in k block) reply now (sym s) (λ slots. h k slots))

  pub by-write : (d : FileNo) (now content : List ℕ) → d ≡ directory_of command → true ≡ is_some (bucket_in k block) → ((j : ℕ) (slots : List Slot) → bucket_in j block ≡ Some slots → IsMade (made_of command slots) None now) → content ≡ now
      → Sends (Write d (record { 0 = k }) content) stages.Write ≡ write_made command (made_at command (bucket_in (bucket_of (name_of command)) block))
  by-write d now content f s h c =
      ap (λ (g : FileNo). Sends (Write g (record { 0 = k }) content) stages.Write) f
      ∙ ap (λ (n : ℕ). Sends (Write (directory_of command) (record { 0 = n }) content) stages.Write) e
      ∙ write-is-made command (bucket_in k block) now content c (sym s) (λ slots. h k slots)
      ∙ ap (λ (n : ℕ). write_made command (made_at command (bucket_in n block))) e

-- ---- all buckets

pub not-each : (d : FileNo) (k : ℕ) (es : List Entry) (o : Option (List Slot)) → is_some o ≡ false → Over (Refused NotDirectory) ≡ add_each d k es o
not-each d k es None h = refl
not-each d k es (Some slots) h = absurd (cc h)

pub is-places : (k : ℕ) (block : List ℕ) → is_some (bucket_in k block) ≡ true → bucket_in k block ≡ Some (places_in block)
is-places k block h = by (bucket_in k block) refl h
  where
    by : (o : Option (List Slot)) → bucket_in k block ≡ o → is_some o ≡ true → o ≡ Some (places_in block)
    by None e s = absurd (cc s)
    by (Some slots) e s = ap (λ (x : List Slot). Some x) (parts k block slots e).front

named : (k : ℕ) (slots : List Slot) → all_belong k slots ≡ true → are_named slots ≡ true
named k [] h = refl
named k (None ∷ slots) h = named k slots h
named k (Some e ∷ slots) h = both (is_name e.name) (are_named slots) (no-name k e slots (left (belongs k (Some e) slots) (all_belong k slots) h)) (named k slots (right (belongs k (Some e) slots) (all_belong k slots) h))

pub places-named : (k : ℕ) (block : List ℕ) → is_some (bucket_in k block) ≡ true → are_named (places_in block) ≡ true
places-named k block h = named k (places_in block) (parts k block (places_in block) (is-places k block h)).belong

pub each-added : (d : FileNo) (k : ℕ) (es now : List Entry) (block : List ℕ) → is_some (bucket_in k block) ≡ true → now ≡ es ++ entries_of (places_in block) → ask_each d (k + 1) now ≡ add_each d k es (bucket_in k block)
each-added d k es now block h e = ap (ask_each d (k + 1)) e ∙ sym (ap (add_each d k es) (is-places k block h))

-- ---- buckets that are asked for

ask-fits : (d : FileNo) (k : ℕ) (es : List Entry) → TurnFits (ask_each d k es)
ask-fits d k es = elim (cases_Bool (nat_lt k buckets)) [
  | inl m ↦ rw m (ltb-true k buckets m)
  | inr m ↦ rw m tt
]

made-fits : (command : NameCommand) (r : Result (List Slot) NameNext) → TurnFits (write_made command r)
made-fits command (Ok slots) = tt
made-fits command (Err reply) = tt

add-fits : (d : FileNo) (k : ℕ) (es : List Entry) (o : Option (List Slot)) → TurnFits (add_each d k es o)
add-fits d k es None = tt
add-fits d k es (Some slots) = ask-fits d (k + 1) (es ++ entries_of slots)

go-fits : (command : NameCommand) (stage : Stage) (block : List ℕ) → TurnFits (go_on command stage block)
go-fits command stages.Bucket block = made-fits command (made_at command (bucket_in (bucket_of (name_of command)) block))
go-fits command (stages.Each k es) block = add-fits (directory_of command) k es (bucket_in k block)
go-fits command stages.Write block = tt

pub turn-fits : (command : NameCommand) (stage : Stage) (answer : Answer) → TurnFits (turn command stage answer)
turn-fits command stage answers.Did = go-fits command stage zeros
turn-fits command stage (answers.Read block) = go-fits command stage block
turn-fits command stage answers.NoFile = tt
turn-fits command stage answers.Exists = tt
turn-fits command stage (answers.Locked u t) = tt
turn-fits command stage answers.TooManyReads = tt
turn-fits command stage answers.TooManyWrites = tt
turn-fits command stage (answers.Broken u t) = tt
turn-fits command stage (answers.Lost then' now) = tt
turn-fits command stage answers.Closing = tt

pub first-fits : (command : NameCommand) → TurnFits (first_turn command)
first-fits (calls.Bind d name file) = tt
first-fits (calls.Unbind d name) = tt
first-fits (calls.Find d name) = tt
first-fits (calls.Names d) = ask-fits d 0 []
