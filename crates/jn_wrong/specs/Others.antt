-- Wrong reports of schedules that have only one from new images.
use Rattle.std.specs.Prelude.{List, [], ◌∷◌}
use Rattle.jn_base.specs.declared.names.Party.TheVariants.{Client, Server}
use Rattle.jn_base.specs.declared.names.MsgKind.TheVariants as kinds
use Rattle.jn_base.specs.declared.names.Cause.TheVariants.{Requested}
use Rattle.jn_base.specs.declared.names.Tid.{Tid}
use Rattle.jn_report.specs.declared.line.EventRefusal.{EventRefusal}
use Rattle.jn_report.specs.declared.line.Refusal.{Refusal}
use Rattle.jn_report.specs.declared.line.Text.{Text}
use Rattle.jn_report.specs.declared.line.Text.TheVariants as says
use Rattle.jn_report.specs.declared.line.Line.{Line}
use Rattle.jn_system.specs.WholeSystem.ExampleNames.{s0, s1, c1, c2, tid}
use Rattle.jn_machine.specs.Examples.{block_of, line, at_end}
use Rattle.jn_wrong.specs.Wrong.{the_end, up}

abbrev begun : Line
begun = line 2 (says.Begun c1 1 (tid s0 0))

-- ---- a client begins

-- its client refuses the command, or the event is refused
abbrev pub refused_by_client : Refusal → List Line
refused_by_client refusal = up ∷ line 1 (says.Refused c1 1 refusal) ∷ the_end

abbrev pub refused_as_event : EventRefusal → List Line
refused_as_event refusal = up ∷ line 1 (says.RefusedEvent refusal) ∷ the_end

-- a line more, in the settle or at the end
abbrev pub with_another : Text → List Line
with_another text = up ∷ begun ∷ line 2 text ∷ the_end

abbrev pub ended_with_another : Text → List Line
ended_with_another text = up ∷ begun ∷ at_end text ∷ the_end

-- a transaction that nobody began commits, and is counted
abbrev pub nobodys : Tid
nobodys = record { server = record { 0 = 5 }; epoch = 9; ticket = 9 }

abbrev pub commit_of_nobody : List Line
commit_of_nobody = up ∷ begun ∷ line 2 (says.Commit nobodys) ∷ at_end (says.Down s0) ∷ at_end (says.Up s0 2) ∷ at_end (says.Commits 1) ∷ []

-- the settle leaves the answer waiting, which the next one hands over
abbrev pub answered_later : List Line
answered_later = up ∷ line 3 (says.Begun c1 1 (tid s0 0)) ∷ the_end

-- the answer stands at the command's own event, before anything settles
abbrev pub answered_at_once : List Line
answered_at_once = up ∷ line 1 (says.Begun c1 1 (tid s0 0)) ∷ the_end

-- the end's restart skips an epoch
abbrev pub epoch_skipped : List Line
epoch_skipped = up ∷ begun ∷ at_end (says.Down s0) ∷ at_end (says.Up s0 3) ∷ at_end (says.Commits 0) ∷ []

-- ---- two clients begin, and one aborts

abbrev pub two_and : Line → Line → List Line
two_and begun_too outcome = up ∷ begun ∷ begun_too ∷ outcome ∷ the_end

abbrev second : Line
second = line 4 (says.Begun c2 3 (tid s0 1))

-- the second one has the transaction of the first one
abbrev pub one_for_two : List Line
one_for_two = two_and (line 4 (says.Begun c2 3 (tid s0 0))) (line 6 (says.Aborted c1 5 (tid s0 0) Requested))

-- the first one is told that the transaction of the second one aborted, or committed
abbrev pub aborted_for_another : List Line
aborted_for_another = two_and second (line 6 (says.Aborted c1 5 (tid s0 1) Requested))

abbrev pub committed_for_another : List Line
committed_for_another = up ∷ begun ∷ second ∷ line 6 (says.Commit (tid s0 1)) ∷ line 6 (says.Committed c1 5 (tid s0 1)) ∷ at_end (says.Down s0) ∷ at_end (says.Up s0 2) ∷ at_end (says.Commits 1) ∷ []

-- ---- of two servers one is opened

abbrev pub opened_another : List Line
opened_another = up ∷ line 0 (says.Up s1 1) ∷ begun ∷ line 4 (says.Opened c1 3 s0)
    ∷ at_end (says.Down s0) ∷ at_end (says.Down s1) ∷ at_end (says.Up s0 2) ∷ at_end (says.Up s1 2) ∷ at_end (says.Commits 0) ∷ []

-- at the end they go down, or come up, in another order
abbrev opened : Line
opened = line 4 (says.Opened c1 3 s1)

abbrev pub downs_swapped : List Line
downs_swapped = up ∷ line 0 (says.Up s1 1) ∷ begun ∷ opened
    ∷ at_end (says.Down s1) ∷ at_end (says.Down s0) ∷ at_end (says.Up s0 2) ∷ at_end (says.Up s1 2) ∷ at_end (says.Commits 0) ∷ []

abbrev pub ups_swapped : List Line
ups_swapped = up ∷ line 0 (says.Up s1 1) ∷ begun ∷ opened
    ∷ at_end (says.Down s0) ∷ at_end (says.Down s1) ∷ at_end (says.Up s1 2) ∷ at_end (says.Up s0 2) ∷ at_end (says.Commits 0) ∷ []

-- ---- a file is made, and a block of it read

-- it has bytes that nobody wrote
abbrev pub read_otherwise : List Line
read_otherwise = up ∷ begun ∷ line 4 (says.Opened c1 3 s0) ∷ line 6 (says.Did c1 5) ∷ line 8 (says.Read c1 7 (block_of (104 ∷ []))) ∷ line 10 (says.Aborted c1 9 (tid s0 0) Requested) ∷ the_end

-- ---- a show before anything commits

-- it reports this
abbrev pub show_tells : Text → List Line
show_tells text = up ∷ begun ∷ line 4 (says.Opened c1 3 s0) ∷ line 6 (says.Did c1 5) ∷ line 7 text ∷ the_end

-- ---- messages

-- the second message has its line before the first one
abbrev pub messages_swapped : List Line
messages_swapped = up ∷ line 1 (says.Message 1 (Server s0) (Client c1) kinds.Begun) ∷ line 2 (says.Message 0 (Client c1) (Server s0) kinds.Begin) ∷ begun ∷ the_end

-- the client's thanks have their line before its outcome
abbrev pub thanked_too_soon : List Line
thanked_too_soon = up ∷ line 1 (says.Message 0 (Client c1) (Server s0) kinds.Begin) ∷ line 2 (says.Message 1 (Server s0) (Client c1) kinds.Begun) ∷ begun
    ∷ line 3 (says.Message 2 (Client c1) (Server s0) kinds.Abort) ∷ line 4 (says.Message 3 (Server s0) (Client c1) kinds.Outcome) ∷ line 4 (says.Message 4 (Client c1) (Server s0) kinds.Thanks)
    ∷ line 4 (says.Aborted c1 3 (tid s0 0) Requested) ∷ the_end
