-- A server comes up and goes down by turns, as the lines report it.
use Rattle.jn_wrong.proofs.Common.{◌≡◌, ◌≢◌, ◌⊎◌, inl, inr, ℕ, ◌+◌, ◌<◌, Bool, true, false, List, [], ◌∷◌, ◌++◌, append-nil, Option, Some, None, is_some, refl, sym, ◌∙◌, ap, subst, arith, ◌&&◌, ◌||◌, not, if◌then◌else◌, nat_lt, list_all, nat_tests, ServerNo, ClientNo, server_eq, server_tells, AllFiles, Event, Text, ClientTable, Sent, Pick, World, Memory, at_server, new_memory, server_timeout, restored, named_now, Step, after, Setup, State, MayLead, before, is_note, is_of_delivery, is_up_after, may_be_told, takes_turns, Note, StableState, lines_of, ClientRow, by_command, by_ignoring, by_answering, by_telling, FoundThen, by_narrowing, by_raising, Quiet, is_refused, is_lost, StepCase, client_row, row_done, row_stopped, gone_late, gone_down, come_up, found_anew, dismissed, quietly, step-case, one-server, weaker, Tells, take-tells, noted, noted-with}
use Rattle.jn_report.specs.declared.line.Text.TheVariants as says
use Rattle.jn_wrong.proofs.Reading.{no_turn, of-answer, of-note, of-delivery, named-quiet, reads, behind, quiet-reads, quiet-behind as still-behind, Reading, run-read}

both : (a b : Bool) → a ≡ true → b ≡ true → (a && b) ≡ true
both a b h k = grind arith

-- ---- what a step reports that turns no server on or off

abbrev pub Aside : World → List Text → Type 0
Aside w lines = (texts : List Text) × (lines ≡ w.lines ++ texts) × (list_all no_turn texts ≡ true)

module _ (w : World) where
  pub no-lines : Aside w w.lines
  no-lines = ([], sym (append-nil w.lines), refl)

  one-line : (text : Text) → no_turn text ≡ true → Aside w (w.lines ++ text ∷ [])
  one-line text h = (text ∷ [], refl, both (no_turn text) true h refl)

  pub client-aside : (c : ClientNo) (step : Step) (t : ClientTable) (sent : List Sent) (lines : List Text) → ClientRow w c step t sent lines → Aside w lines
  client-aside c _ _ _ _ (by_command command t to message is) = no-lines
  client-aside c _ _ _ _ (by_ignoring k room stop message t e is) = one-line (says.Ignored k) refl
  client-aside c _ _ _ _ (by_answering k room stop message t to answer e is) = no-lines
  client-aside c _ _ _ _ (by_telling k room stop message t line answer e is) = one-line line (of-answer line (subst Tells is (take-tells (w.clients c) message)))

  pub row-aside : (s : ServerNo) (k : Option ℕ) (told : List Note) → Aside w (w.lines ++ lines_of s k told)
  row-aside s None told = (lines_of s None told, refl, weaker is_note no_turn of-note (lines_of s None told) (noted s told))
  row-aside s (Some k) told = (lines_of s (Some k) told, refl, weaker is_of_delivery no_turn of-delivery (lines_of s (Some k) told) (noted-with s k told))

  pub quiet-aside : (step : Step) (event : ℕ) (sent : List Sent) (lines : List Text) → Quiet w step event sent lines → Aside w lines
  quiet-aside _ _ _ _ (is_refused c command refusal e) = one-line (says.Refused c w.event refusal) refl
  quiet-aside _ _ _ _ (is_lost k room stop s message e is) = one-line (says.Lost k) refl
  quiet-aside _ _ _ _ is = no-lines

module _ (q : ServerNo) where
  aside : (was : Bool) (text : Text) → no_turn text ≡ true → (may_be_told q was text ≡ true) × (is_up_after q was text ≡ was)
  aside was (says.Up s epoch) h = absurd (cc h)
  aside was (says.Down s) h = absurd (cc h)
  aside was (says.Stopped s) h = absurd (cc h)
  aside was text h = (refl, refl)

  abbrev turns : Bool → List Text → Bool
  turns was texts = reads Bool (is_up_after q) (may_be_told q) aside was texts

  abbrev told_up : Bool → List Text → Bool
  told_up was texts = behind Bool (is_up_after q) (may_be_told q) aside was texts

  -- ---- one step of the system

  abbrev up : World → Bool
  up w = is_some (w.memory q)

  record Turns (w now : World) : Type 0 where
    texts : List Text
    lines : now.lines ≡ w.lines ++ texts
    turn : turns (up w) texts ≡ true
    leaves : told_up (up w) texts ≡ up now

  quiet-turns : (was : Bool) (texts : List Text) → list_all no_turn texts ≡ true → turns was texts ≡ true
  quiet-turns = quiet-reads Bool (is_up_after q) (may_be_told q) aside

  quiet-behind : (was : Bool) (texts : List Text) → list_all no_turn texts ≡ true → told_up was texts ≡ was
  quiet-behind = still-behind Bool (is_up_after q) (may_be_told q) aside

  module _ (w : World) where
    stays : (now : World) → Aside w now.lines → up now ≡ up w → Turns w now
    stays now a same = record { texts = a.0; lines = a.1; turn = quiet-turns (up w) a.0 a.2; leaves = quiet-behind (up w) a.0 a.2 ∙ sym same }

    at-same : (s : ServerNo) (m n : Memory) → w.memory s ≡ Some m → is_some (at_server w.memory s (Some n) q) ≡ up w
    at-same s m n e = one-server (λ p o. is_some o ≡ is_some (w.memory p)) w.memory s (Some n) (sym (ap is_some e)) (λ p other. refl) q

    now-up : (b : Bool) (o : Option Memory) → (if b then is_some o else up w) ≡ is_some (if b then o else w.memory q)
    now-up true o = refl
    now-up false o = refl

    -- a line of a server that was up, or down
    may-tell : (test : Bool → Bool) (s : ServerNo) (o : Option Memory) → w.memory s ≡ o → test (is_some o) ≡ true → (not (server_eq s q) || test (up w)) ≡ true
    may-tell test s o e h = by (server_tells s q)
      where
        by : ((server_eq s q ≡ true) × (s ≡ q)) ⊎ ((server_eq s q ≡ false) × (s ≢ q)) → (not (server_eq s q) || test (up w)) ≡ true
        by (inl t) = ap (λ (b : Bool). not b || test (up w)) t.0 ∙ ap (λ (p : ServerNo). test (is_some (w.memory p))) (sym t.1) ∙ ap (λ (z : Option Memory). test (is_some z)) e ∙ h
        by (inr t) = ap (λ (b : Bool). not b || test (up w)) t.0

    found-turns : (s : ServerNo) (step : Step) (found : Pick → StableState) (lines : List Text) → w.memory s ≡ None → FoundThen w s step found lines → Turns w (record w { found = λ p c. if server_eq s p then found c else w.found p c; lines = lines })
    found-turns s _ _ _ e (by_narrowing g) = stays _ (no-lines w) refl
    found-turns s _ _ _ e (by_raising raise) = record { texts = says.Stopped s ∷ []; lines = refl; turn = refl; leaves = one-server (λ p b. b ≡ is_some (w.memory p)) (λ p. is_some (w.memory p)) s false (sym (ap is_some e)) (λ p other. refl) q }

    by-case : (step : Step) (now : World) → StepCase w step now → Turns w now
    by-case step _ (client_row _ c t sent lines row) = stays _ (client-aside w c step t sent lines row) refl
    by-case step _ (row_done _ s m k row e is) = stays _ (row-aside w s k row.notes) (at-same s m row.table e)
    by-case step _ (row_stopped _ s m k row made e is) = record { texts = says.Stopped s ∷ []; lines = refl; turn = refl; leaves = now-up (server_eq s q) None }
    by-case _ _ (gone_late s m T e) = stays _ (no-lines w) (at-same s m (server_timeout m T) e)
    by-case _ _ (gone_down s m e) = record { texts = says.Down s ∷ []; lines = refl; turn = both (not (server_eq s q) || up w) true (may-tell (λ b. b) s (Some m) e refl) refl; leaves = now-up (server_eq s q) None }
    by-case _ _ (come_up s pick Ws Ts e) = record {
      texts = says.Up s ((w.found s pick).epoch + 1) ∷ named_now Ts w.lines;
      lines = refl;
      turn = both (not (server_eq s q) || not (up w)) _ (may-tell not s None e refl) (quiet-turns (if server_eq s q then true else up w) (named_now Ts w.lines) (named-quiet Ts w.lines));
      leaves = quiet-behind (if server_eq s q then true else up w) (named_now Ts w.lines) (named-quiet Ts w.lines) ∙ now-up (server_eq s q) (Some (restored s (w.found s pick) Ws Ts));
    }
    by-case step _ (found_anew _ s found lines e is) = found-turns s step found lines e is
    by-case _ _ dismissed = stays _ (no-lines w) refl
    by-case step _ (quietly _ event sent lines is) = stays _ (quiet-aside w step event sent lines is) refl

    step-turns : (step : Step) → Turns w (after step w)
    step-turns step = by-case step (after step w) (step-case w step)

  -- ---- runs

  each : (w : World) (step : Step) (was : Bool) → was ≡ up w → Reading Bool (is_up_after q) (may_be_told q) aside (λ (was : Bool) (w : World). was ≡ up w) was w (after step w)
  each w step was h = by (step-turns w step)
    where
      by : Turns w (after step w) → Reading Bool (is_up_after q) (may_be_told q) aside (λ (was : Bool) (w : World). was ≡ up w) was w (after step w)
      by t = record {
        texts = t.texts;
        lines = t.lines;
        read = ap (λ (b : Bool). turns b t.texts) h ∙ t.turn;
        stands = ap (λ (b : Bool). told_up b t.texts) h ∙ t.leaves;
      }

  pub by-turns : (x : Setup) (schedule : List Event) (files : AllFiles) (epochs : ServerNo → ℕ) (t : State) → q.0 < x.servers → MayLead x (before x schedule files epochs) t → takes_turns q t.lines ≡ true
  by-turns x schedule files epochs t below leads = run-read Bool (is_up_after q) (may_be_told q) aside (λ (was : Bool) (w : World). was ≡ up w) each false x (before x schedule files epochs) t refl refl
      (sym (down (nat_lt q.0 x.servers) (is-below q.0 x.servers below))) leads
    where
      is-below : (a n : ℕ) → a < n → nat_lt a n ≡ true
      is-below a n h = grind (arith, nat_tests, h)

      down : (b : Bool) → b ≡ true → is_some (if b then None else Some (new_memory q (epochs q))) ≡ false
      down true e = refl
      down false e = absurd (cc e)
