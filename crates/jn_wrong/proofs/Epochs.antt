-- A server comes up in a later epoch each time.
use Rattle.jn_wrong.proofs.Common.{◌≡◌, ◌≢◌, ◌⊎◌, inl, inr, ℕ, ◌+◌, ◌≤◌, Bool, true, false, List, [], ◌∷◌, refl, sym, ◌∙◌, subst, arith, ◌&&◌, ◌||◌, not, if◌then◌else◌, nat_lt, take, nat_tests, ServerNo, server_eq, server_tells, AllFiles, Event, Text, StableState, Change, AddReady, MarkGoing, CarryOut, RemoveWork, AddFlag, DropFlag, Pick, made_by, made_all, World, named_now, Step, after, Setup, State, MayLead, before, epoch_after, may_rise, epochs_rise, restart_with, one-found, FoundThen, by_narrowing, by_raising, StepCase, client_row, row_done, row_stopped, gone_late, gone_down, come_up, found_anew, dismissed, quietly, step-case, with_epoch, left_of}
use Rattle.jn_report.specs.declared.line.Text.TheVariants as says
use Rattle.jn_wrong.proofs.Turns.{Aside, no-lines, client-aside, row-aside, quiet-aside}
use Rattle.jn_wrong.proofs.Reading.{no_turn, named-quiet, reads, quiet-reads, quiet-behind, Reading, run-read}

both : (a b : Bool) → a ≡ true → b ≡ true → (a && b) ≡ true
both a b h k = grind arith

-- no row changes the epoch
made-one : (change : Change) (x : StableState) → (made_by change x).epoch ≡ x.epoch
made-one (AddReady head list reads) x = refl
made-one (MarkGoing W) x = refl
made-one (CarryOut W i) x = refl
made-one (RemoveWork W) x = refl
made-one (AddFlag flag) x = refl
made-one (DropFlag T) x = refl

made-epoch : (changes : List Change) (x : StableState) → (made_all changes x).epoch ≡ x.epoch
made-epoch [] x = refl
made-epoch (change ∷ changes) x = made-epoch changes (made_by change x) ∙ made-one change x

module _ (q : ServerNo) where
  aside : (last : ℕ) (text : Text) → no_turn text ≡ true → (may_rise q last text ≡ true) × (epoch_after q last text ≡ last)
  aside last (says.Up s epoch) h = absurd (cc h)
  aside last text h = (refl, refl)

  -- each pick finds this epoch at least
  abbrev AtLeast : ℕ → World → Type 0
  AtLeast last w = (c : Pick) → last ≤ (w.found q c).epoch

  abbrev Rises : ℕ → World → World → Type 0
  Rises last w now = Reading ℕ (epoch_after q) (may_rise q) aside AtLeast last w now

  itself : (n : ℕ) → n ≤ n
  itself n = omega arith

  module _ (w : World) (last : ℕ) (h : AtLeast last w) where
    stays : (now : World) → Aside w now.lines → AtLeast last now → Rises last w now
    stays now a kept = record {
      texts = a.0;
      lines = a.1;
      read = quiet-reads ℕ (epoch_after q) (may_rise q) aside last a.0 a.2;
      stands = subst (λ (z : ℕ). AtLeast z now) (sym (quiet-behind ℕ (epoch_after q) (may_rise q) aside last a.0 a.2)) kept;
    }

    -- other states at a server, whose epochs are as great where it is this one
    at-least : (s : ServerNo) (found : Pick → StableState) → ((c : Pick) → ((d : Pick) → last ≤ (w.found s d).epoch) → last ≤ (found c).epoch) → (c : Pick) → last ≤ (if server_eq s q then found c else w.found q c).epoch
    at-least s found here c = one-found (λ p d x. p ≡ q → last ≤ x.epoch) w.found s found (λ d e. here d (subst (λ (p : ServerNo). (b : Pick) → last ≤ (w.found p b).epoch) (sym e) h))
        (λ p other d e. subst (λ (z : ServerNo). last ≤ (w.found z d).epoch) (sym e) (h d)) q c refl

    changed-least : (s : ServerNo) (changes : Pick → List Change) (found : Pick → StableState) → ((c : Pick) → (found c).epoch ≡ (made_all (changes c) (w.found s c)).epoch) → (c : Pick) → last ≤ (if server_eq s q then found c else w.found q c).epoch
    changed-least s changes found same = at-least s found (λ c all. subst (λ (e : ℕ). last ≤ e) (sym (same c ∙ made-epoch (changes c) (w.found s c))) (all c))

    found-rises : (s : ServerNo) (step : Step) (found : Pick → StableState) (lines : List Text) → FoundThen w s step found lines → Rises last w (record w { found = λ p c. if server_eq s p then found c else w.found p c; lines = lines })
    found-rises s _ _ _ (by_narrowing g) = stays _ (no-lines w) (at-least s (λ c. w.found s (g c)) (λ c all. all (g c)))
    found-rises s _ _ _ (by_raising raise) = record { texts = says.Stopped s ∷ []; lines = refl; read = refl; stands = at-least s (λ c. if raise c then with_epoch (w.found s c) else w.found s c) (λ c all. later c (raise c) (all c)) }
      where
        next : (n : ℕ) → last ≤ n → last ≤ n + 1
        next n k = omega (arith, k)

        later : (c : Pick) (b : Bool) → last ≤ (w.found s c).epoch → last ≤ (if b then with_epoch (w.found s c) else w.found s c).epoch
        later c true k = next (w.found s c).epoch k
        later c false k = k

    by-case : (step : Step) (now : World) → StepCase w step now → Rises last w now
    by-case step _ (client_row _ c t sent lines row) = stays _ (client-aside w c step t sent lines row) h
    by-case step _ (row_done _ s m k row e is) = stays _ (row-aside w s k row.notes) (changed-least s (λ c. row.changes) (λ c. made_all row.changes (w.found s c)) (λ c. refl))
    by-case step _ (row_stopped _ s m k row made e is) = record { texts = says.Stopped s ∷ []; lines = refl; read = refl; stands = changed-least s (λ c. take (made c).whole row.changes) (λ c. left_of (made c) row.changes (w.found s c)) (λ c. refl) }
    by-case _ _ (gone_late s m T e) = stays _ (no-lines w) h
    by-case _ _ (gone_down s m e) = record { texts = says.Down s ∷ []; lines = refl; read = refl; stands = h }
    by-case _ _ (come_up s pick Ws Ts e) = record {
      texts = says.Up s ((w.found s pick).epoch + 1) ∷ named_now Ts w.lines;
      lines = refl;
      read = both (not (server_eq s q) || nat_lt last ((w.found s pick).epoch + 1)) _ (by (server_tells s q)) (quiet-reads ℕ (epoch_after q) (may_rise q) aside then' (named_now Ts w.lines) (named-quiet Ts w.lines));
      stands = subst (λ (z : ℕ). AtLeast z (restart_with s (w.found s pick) Ws Ts w)) (sym (quiet-behind ℕ (epoch_after q) (may_rise q) aside then' (named_now Ts w.lines) (named-quiet Ts w.lines))) (λ c. now c (server_eq s q));
    }
      where
        then' : ℕ
        then' = if server_eq s q then (w.found s pick).epoch + 1 else last

        greater : (a b : ℕ) → a ≤ b → nat_lt a (b + 1) ≡ true
        greater a b k = grind (arith, nat_tests, k)

        by : ((server_eq s q ≡ true) × (s ≡ q)) ⊎ ((server_eq s q ≡ false) × (s ≢ q)) → (not (server_eq s q) || nat_lt last ((w.found s pick).epoch + 1)) ≡ true
        by (inl t) = let later = greater last (w.found s pick).epoch (subst (λ (p : ServerNo). last ≤ (w.found p pick).epoch) (sym t.1) (h pick)) in grind (arith, later)
        by (inr t) = grind (arith, t.0)

        now : (c : Pick) (b : Bool) → (if b then (w.found s pick).epoch + 1 else last) ≤ (if b then with_epoch (w.found s pick) else w.found q c).epoch
        now c true = itself ((w.found s pick).epoch + 1)
        now c false = h c
    by-case step _ (found_anew _ s found lines e is) = found-rises s step found lines is
    by-case _ _ dismissed = stays _ (no-lines w) h
    by-case step _ (quietly _ event sent lines is) = stays _ (quiet-aside w step event sent lines is) h

    step-rises : (step : Step) → Rises last w (after step w)
    step-rises step = by-case step (after step w) (step-case w step)

  pub rise : (x : Setup) (schedule : List Event) (files : AllFiles) (epochs : ServerNo → ℕ) (t : State) → MayLead x (before x schedule files epochs) t → epochs_rise q (epochs q) t.lines ≡ true
  rise x schedule files epochs t leads = run-read ℕ (epoch_after q) (may_rise q) aside AtLeast (λ w step last h. step-rises w last h step) (epochs q) x (before x schedule files epochs) t refl refl (λ c. itself (epochs q)) leads
