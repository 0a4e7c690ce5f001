-- A call that is refused has written nothing, whoever refused it.
use Rattle.std.proofs.Common.{◌≡◌, ℕ, ◌+◌, Bool, true, false, List, [], ◌∷◌, ◌++◌, Option, Some, None, Result, Ok, Err, inl, inr, refl, sym, subst}
use Rattle.std.specs.Prelude.{⊤, ◌⊎◌, ◌&&◌, ◌||◌, nat_lt}
use Rattle.std.specs.List.{list_any}
use Rattle.std.proofs.lemmas.Bool.{cases_Bool}
use Rattle.jn_base.specs.declared.names.FileNo.{FileNo}
use Rattle.jn_base.specs.declared.op.Op.{Op}
use Rattle.jn_base.specs.declared.op.Answer.{Answer}
use Rattle.jn_base.specs.declared.op.Answer.TheVariants as answers
use Rattle.jn_order.specs.Files.{is_did}
unfoldable use Rattle.jn_order.specs.Files.{zeros}
use Rattle.jn_order.specs.Answers.{Answered}
use Rattle.jn_names.specs.declared.entry.Entry.{Entry}
use Rattle.jn_base.specs.declared.call.NameCommand.{NameCommand}
use Rattle.jn_base.specs.declared.call.NameCommand.TheVariants as calls
use Rattle.jn_names.specs.declared.next.NameNext.{NameNext}
use Rattle.jn_names.specs.declared.next.NameNext.TheVariants.{Refused}
use Rattle.jn_names.specs.declared.next.NameRefusal.{NameRefusal}
use Rattle.jn_names.specs.declared.turn.Stage.{Stage}
use Rattle.jn_names.specs.declared.turn.Stage.TheVariants as stages
use Rattle.jn_names.specs.declared.turn.Turn.{Turn}
use Rattle.jn_names.specs.declared.turn.Turn.TheVariants.{Sends, Over}
use Rattle.jn_names.specs.Names.{bucket_of}
unfoldable use Rattle.jn_names.specs.Names.{buckets}
use Rattle.jn_names.specs.Buckets.{Slot}
unfoldable use Rattle.jn_names.specs.Buckets.{bucket_in}
use Rattle.jn_names.specs.Calls.{directory_of, name_of, made_at, entries_of}
use Rattle.jn_names.specs.Turns.{ask_each, first_turn, write_made, add_each, go_on, turn, GoesOn, is_write, has_written}

-- what is sent is no write, or is one behind which nothing comes
abbrev WritesLast : Turn → Type 0
WritesLast (Sends op stage) = (is_write op ≡ false) ⊎ (stage ≡ stages.Write)
WritesLast (Over reply) = ⊤

made-last : (command : NameCommand) (r : Result (List Slot) NameNext) → WritesLast (write_made command r)
made-last command (Ok slots) = inr refl
made-last command (Err reply) = tt

ask-last : (d : FileNo) (k : ℕ) (es : List Entry) → WritesLast (ask_each d k es)
ask-last d k es = elim (cases_Bool (nat_lt k buckets)) [ inl m ↦ rw m (inl refl) | inr m ↦ rw m tt ]

add-last : (d : FileNo) (k : ℕ) (es : List Entry) (o : Option (List Slot)) → WritesLast (add_each d k es o)
add-last d k es None = tt
add-last d k es (Some slots) = ask-last d (k + 1) (es ++ entries_of slots)

go-last : (command : NameCommand) (stage : Stage) (block : List ℕ) → WritesLast (go_on command stage block)
go-last command stages.Bucket block = made-last command (made_at command (bucket_in (bucket_of (name_of command)) block))
go-last command (stages.Each k es) block = add-last (directory_of command) k es (bucket_in k block)
go-last command stages.Write block = tt

turn-last : (command : NameCommand) (stage : Stage) (answer : Answer) → WritesLast (turn command stage answer)
turn-last command stage answers.Did = go-last command stage zeros
turn-last command stage (answers.Read block) = go-last command stage block
turn-last command stage answers.NoFile = tt
turn-last command stage answers.Exists = tt
turn-last command stage (answers.Locked u t) = tt
turn-last command stage answers.TooManyReads = tt
turn-last command stage answers.TooManyWrites = tt
turn-last command stage (answers.Broken u t) = tt
turn-last command stage (answers.Lost then' now) = tt
turn-last command stage answers.Closing = tt

first-last : (command : NameCommand) → WritesLast (first_turn command)
first-last (calls.Bind d name file) = inl refl
first-last (calls.Unbind d name) = inl refl
first-last (calls.Find d name) = inl refl
first-last (calls.Names d) = ask-last d 0 []

and-false : (a b : Bool) → b ≡ false → (a && b) ≡ false
and-false true b h = h
and-false false b h = refl

or-false : (a b : Bool) → a ≡ false → b ≡ false → (a || b) ≡ false
or-false a b h k = rw (h, k) refl

-- the write of a call that is refused wasn't done
not-did : (command : NameCommand) (answer : Answer) (more : List Answered) (why : NameRefusal) → GoesOn command (turn command stages.Write answer) more (Refused why) → is_did answer ≡ false
not-did command answers.Did [] why h = absurd (cc h)
not-did command answers.Did (s ∷ more) why h = absurd h
not-did command (answers.Read block) more why h = refl
not-did command answers.NoFile more why h = refl
not-did command answers.Exists more why h = refl
not-did command (answers.Locked u t) more why h = refl
not-did command answers.TooManyReads more why h = refl
not-did command answers.TooManyWrites more why h = refl
not-did command (answers.Broken u t) more why h = refl
not-did command (answers.Lost then' now) more why h = refl
not-did command answers.Closing more why h = refl

from-turn : (command : NameCommand) (t : Turn) (os : List Answered) (why : NameRefusal) → WritesLast t → GoesOn command t os (Refused why) → list_any has_written os ≡ false
from-turn command (Over last) [] why w h = refl
from-turn command (Over last) (s ∷ more) why w h = absurd h
from-turn command (Sends op stage) [] why w h = absurd h
from-turn command (Sends op stage) (s ∷ more) why w h = or-false (has_written s) (list_any has_written more) (here w) (from-turn command (turn command stage s.answer) more why (turn-last command stage s.answer) h.1)
  where
    here : ((is_write op ≡ false) ⊎ (stage ≡ stages.Write)) → has_written s ≡ false
    here (inl e) = subst (λ (x : Op). (is_write x && is_did s.answer) ≡ false) (sym h.0) (rw e refl)
    here (inr e) = and-false (is_write s.op) (is_did s.answer) (not-did command s.answer more why (subst (λ (x : Stage). GoesOn command (turn command x s.answer) more (Refused why)) e h.1))

pub unwritten : (command : NameCommand) (os : List Answered) (why : NameRefusal) → GoesOn command (first_turn command) os (Refused why) → list_any has_written os ≡ false
unwritten command os why h = from-turn command (first_turn command) os why (first-last command) h
