-- Calls are replied, and do, what their operations are answered and do.
use Rattle.std.proofs.Common.{◌≡◌, if◌then◌else◌, List, [], ◌∷◌, ◌++◌, refl, sym, ◌∙◌, ap, subst, inl, inr}
use Rattle.std.proofs.Math.Path.{fun_ext}
use Rattle.std.proofs.lemmas.Bool.{cases_Bool, cond-true}
use Rattle.jn_base.specs.declared.names.ServerNo.{ServerNo}
use Rattle.jn_base.specs.declared.op.Answer.{Answer}
use Rattle.jn_base.specs.Names.{server_eq}
use Rattle.jn_order.specs.Files.{Files, AllFiles, answer_to, is_did, files_after, all_files_after}
use Rattle.jn_order.specs.Changes.{files_then as ops_then}
use Rattle.jn_order.proofs.FilesLemmas.{server_eq-true, server_eq-refl, files_after-not_did}
use Rattle.jn_replay.specs.declared.files.Performed.{Performed}
use Rattle.jn_replay.specs.Operations.{files_then, GivesAnswers}
use Rattle.jn_replay.specs.declared.replied.Replied.{Replied}
use Rattle.jn_replay.specs.Replies.{files_by_all, GivesReplies}
use Rattle.jn_order.specs.Answers.{Answered, ops_of, FilesAnswer}
use Rattle.jn_calls.specs.declared.reply.Reply.TheVariants as replies
use Rattle.jn_calls.specs.declared.reply.Wish.TheVariants as wishes
use Rattle.jn_calls.specs.Calls.{files_by}
use Rattle.jn_calls.proofs.Exchanging.{is-its-call}
use Rattle.jn_unfolding.specs.Unfolding.{Unfolds, nothing, operation, call, left_over, performed_at}

-- ---- changes at one server

-- the files of all servers, where those of one change
abbrev at_server : ServerNo → (Files → Files) → AllFiles → AllFiles
at_server s f files q = if server_eq s q then f (files q) else files q

there : (s : ServerNo) (f : Files → Files) (files : AllFiles) → at_server s f files s ≡ f (files s)
there s f files = cond-true (server_eq s s) (f (files s)) (files s) (server_eq-refl s)

-- what is the same for that server's files is the same at all
same-there : (s : ServerNo) (f g : Files → Files) (files : AllFiles) → f (files s) ≡ g (files s) → at_server s f files ≡ at_server s g files
same-there s f g files e = fun_ext (λ q. at q)
  where
    at : (q : ServerNo) → at_server s f files q ≡ at_server s g files q
    at q = elim (cases_Bool (server_eq s q)) [
      | inl h ↦ rw h (subst (λ (r : ServerNo). f (files r) ≡ g (files r)) (server_eq-true s q h) e)
      | inr h ↦ rw h refl
    ]

twice-there : (s : ServerNo) (f g : Files → Files) (files : AllFiles) → at_server s g (at_server s f files) ≡ at_server s (λ x. g (f x)) files
twice-there s f g files = fun_ext (λ q. at q)
  where
    at : (q : ServerNo) → at_server s g (at_server s f files) q ≡ at_server s (λ x. g (f x)) files q
    at q = elim (cases_Bool (server_eq s q)) [ inl h ↦ rw h refl | inr h ↦ rw h refl ]

none-there : (s : ServerNo) (files : AllFiles) → at_server s (λ x. x) files ≡ files
none-there s files = fun_ext (λ q. at q)
  where
    at : (q : ServerNo) → at_server s (λ x. x) files q ≡ files q
    at q = elim (cases_Bool (server_eq s q)) [ inl h ↦ rw h refl | inr h ↦ rw h refl ]

-- ---- an exchange at one server, whose files have changed by f

abbrev left_by : ServerNo → List Answered → (Files → Files) → AllFiles → AllFiles
left_by s exchange f files = at_server s (λ x. ops_then (ops_of exchange) (f x)) files

exchanged : (s : ServerNo) (exchange : List Answered) (os : List Performed) (f : Files → Files) (files : AllFiles) → GivesAnswers (at_server s f files) (performed_at s exchange ++ os)
    → FilesAnswer (f (files s)) exchange × GivesAnswers (left_by s exchange f files) os × (files_then (performed_at s exchange ++ os) (at_server s f files) ≡ files_then os (left_by s exchange f files))
exchanged s [] os f files h = (tt, h, refl)
exchanged s (a ∷ more) os f files (h, k) =
    let e : all_files_after s a.op (at_server s f files) ≡ at_server s (λ x. files_after a.op (f x)) files = twice-there s f (files_after a.op) files in
    let again = exchanged s more os (λ x. files_after a.op (f x)) files (subst (λ (now : AllFiles). GivesAnswers now (performed_at s more ++ os)) e k) in (
      (subst (λ (now : Files). answer_to a.op now ≡ a.answer) (there s f files) h, again.0),
      again.1,
      ap (files_then (performed_at s more ++ os)) e ∙ again.2,
    )

-- ---- all that was done

pub unfolded : (files : AllFiles) (done : List Replied) (operations : List Performed) → Unfolds done operations → GivesAnswers files operations → GivesReplies files done × (files_then operations files ≡ files_by_all done files)
unfolded files _ _ nothing h = (tt, refl)
unfolded files _ _ (operation p ds os u) (h, k) = let again = unfolded (all_files_after p.server p.op files) ds os u k in ((ap (λ (a : Answer). replies.Answered a) h, again.0), again.1)
unfolded files _ _ (left_over p ds os is u) (h, k) =
    let same : all_files_after p.server p.op files ≡ files
    = same-there p.server (files_after p.op) (λ x. x) files (files_after-not_did p.op (files p.server) (ap is_did h ∙ is)) ∙ none-there p.server files in
    let again = unfolded files ds os u (subst (λ (now : AllFiles). GivesAnswers now os) same k) in (again.0, ap (files_then os) same ∙ again.1)
unfolded files _ _ (call s c exchange reply ds os fits is u) h =
    let start : files ≡ at_server s (λ x. x) files = sym (none-there s files) in
    let parts = exchanged s exchange os (λ x. x) files (subst (λ (now : AllFiles). GivesAnswers now (performed_at s exchange ++ os)) start h) in
    let one = is-its-call c (files s) exchange reply fits parts.0 is in
    let same : left_by s exchange (λ x. x) files ≡ at_server s (files_by (wishes.Call c)) files = same-there s (ops_then (ops_of exchange)) (files_by (wishes.Call c)) files one.1 in
    let again = unfolded (at_server s (files_by (wishes.Call c)) files) ds os u (subst (λ (now : AllFiles). GivesAnswers now os) same parts.1) in
    ((sym one.0, again.0), ap (files_then (performed_at s exchange ++ os)) start ∙ parts.2 ∙ ap (files_then os) same ∙ again.1)
