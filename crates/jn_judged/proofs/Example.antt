-- The short reports, computed.
use Rattle.jn_judged.proofs.Common.{[], ◌∷◌, refl, AllFiles, AtEvent, End, no_files, made_and_removed, told_twice, opened_and_down, lost_after, refused_line, begun_line, first_server, second_server, one_client, one_transaction, file_7, made_twice, answered_then, there_already, made_again, made_line, commit_line, committed_line, file_line, count_line, BreaksOrder, BreaksShows, BreaksCauses, BreaksFollowing, IsFault, InLine, LeftOut, AtTheEnd, OfFile}
use Rattle.jn_base.specs.declared.names.Cause.TheVariants as causes
use Rattle.jn_report.specs.declared.line.Text.TheVariants as says

pub order-broken : IsFault no_files made_twice (answered_then made_again (file_line ∷ count_line 1 ∷ [])) 3 10
order-broken = InLine (begun_line ∷ made_line ∷ []) made_again (commit_line ∷ committed_line ∷ file_line ∷ count_line 1 ∷ []) 10 refl (BreaksOrder refl)

pub left-out : IsFault no_files made_twice (answered_then there_already (count_line 1 ∷ [])) 7 11
left-out = LeftOut End first_server (AtTheEnd first_server) (OfFile file_7 refl refl)

pub not-there : IsFault no_files [] (file_line ∷ count_line 0 ∷ []) 1 11
not-there = InLine [] file_line (count_line 0 ∷ []) 11 refl (BreaksShows refl)

pub counted-wrongly : IsFault no_files made_twice (answered_then there_already (file_line ∷ count_line 2 ∷ [])) 7 11
counted-wrongly = InLine (begun_line ∷ made_line ∷ there_already ∷ commit_line ∷ committed_line ∷ file_line ∷ []) (count_line 2) [] 11 refl (BreaksShows refl)

pub no-cause : (files : AllFiles) → IsFault files opened_and_down (lost_after refused_line) 4 13
no-cause files = InLine (begun_line ∷ refused_line ∷ (record { when = AtEvent 5; text = says.Down second_server }) ∷ []) (record { when = AtEvent 7; text = says.Aborted one_client 6 one_transaction (causes.Lost second_server) }) [] 13 refl (BreaksCauses refl)

pub answered-twice : (files : AllFiles) → IsFault files made_and_removed told_twice 3 14
answered-twice files = InLine (begun_line ∷ made_line ∷ []) made_line (made_again ∷ []) 14 refl (BreaksFollowing refl)
