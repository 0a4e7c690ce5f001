-- Puts on a store that stands.
use Rattle.jn_page_state.proofs.Common.{◌≡◌, inl, inr, ◌⊎◌, ◌<◌, ℕ, Bool, true, false, List, [], ◌∷◌, sym, ap, subst, ◌∙◌, ServerNo, Head, Record, Counts, data_place, StableState, Pick, Change, made_by, IsStopState, IsLoadable, StoreView, IsClean, state_in, found_on, pages_by, PagePut, PutStep, put_in, IsReadable, IsPut, is_put_at, KeepsClean, contents_by, IsConsistent, IsRecoverable, names_block, MayStand, held_contents, epoch_after, records_after, heads_after, rows_after, IsStanding, standing_state, IsPutStep, MayChange, Makes, MakesNothing, MakesFirst, whole-stop}
use Rattle.jn_page_state.proofs.CleanPages.{one_state}
use Rattle.jn_page_state.proofs.FilesOnPages.{state_said as said_by_pages}
use Rattle.jn_page_state.proofs.HeldAfter.{held_after}
use Rattle.jn_page_state.proofs.HeldLaws.{contents_held, front_held, maps_held, may_put}
use Rattle.jn_page_state.proofs.Picking.{is_changed, is_unchanged, found_picked, still_recoverable}

module _ (server : ServerNo) (g : Counts) (v : StoreView) (epoch : ℕ) (records : List Record) (heads : List Head) (rows : List (List ℕ)) (standing : IsStanding server g v epoch records heads rows)
    (put : PagePut) (ok : Bool) (w : StoreView) (is : IsPutStep server g v put ok w) (may : MayStand g v heads rows put) where
  readable : IsReadable server g v
  readable = record { count = standing.recoverable.count; each = λ c. (standing.recoverable.each c).of_format }

  pub as_said : (c : Pick) → contents_by g v c ≡ held_contents g v epoch records heads c
  as_said c = contents_held server g v epoch records heads rows standing.held c

  pub up : (c : Pick) → found_on g v c ≡ standing_state g v
  up = one_state server g v readable (front_held server g v epoch records heads rows standing.held) (maps_held server g v epoch records heads rows standing.held) standing.recoverable.clean

  pub state_said : (c : Pick) → standing_state g v ≡ state_in (held_contents g v epoch records heads c)
  state_said c = sym (up c) ∙ said_by_pages server g (pages_by v c) (standing.recoverable.each c).of_format ∙ ap (λ x. state_in x) (as_said c)

  pub consistent : (c : Pick) → IsConsistent g (held_contents g v epoch records heads c)
  consistent c = subst (IsConsistent g) (as_said c) (standing.recoverable.each c).consistent

  pub loadable : (c : Pick) → IsLoadable server g.heads (state_in (held_contents g v epoch records heads c))
  loadable c = subst (IsLoadable server g.heads) (up c ∙ state_said c) (standing.recoverable.each c).loadable

  pub is_put : IsPut server g v put ok w
  is_put = record { readable = readable; page = is.page; may = may_put server g v epoch records heads rows standing.held put may; step = is.step }

  pub standing_after : IsRecoverable server g w → ok ≡ true → IsStanding server g w (epoch_after put epoch) (records_after put records) (heads_after put heads) (rows_after put rows)
  standing_after recoverable done = record {
    held = held_after server g v w epoch records heads rows standing.held put is.page (subst (λ b. PutStep server g v put b w) done is.step) may;
    recoverable = recoverable;
  }

  -- what the put makes of each pick, as the pages have it
  now_said : (c : Pick) (x : StableState) → state_in (put_in put (held_contents g v epoch records heads c)) ≡ x → state_in (put_in put (contents_by g v c)) ≡ x
  now_said c x e = ap (λ y. state_in (put_in put y)) (as_said c) ∙ e

  module _ (kept : (c : Pick) → IsConsistent g (put_in put (held_contents g v epoch records heads c)))
      (names : (c : Pick) (d : ℕ) → d < g.leaves → names_block (put_in put (held_contents g v epoch records heads c)) d ≡ true → IsClean v (data_place g d) × (is_put_at put d ≡ false))
      (unwritten : (c : Pick) (d : ℕ) → names_block (held_contents g v epoch records heads c) d ≡ true → is_put_at put d ≡ false) where
    keeps : KeepsClean g v put
    keeps = record {
      names = λ c d lt named. names c d lt (sym (ap (λ x. names_block (put_in put x) d) (as_said c)) ∙ named);
      unwritten = λ c d lt named. unwritten c d (sym (ap (λ x. names_block x d) (as_said c)) ∙ named);
    }

    pub recoverable_after : ((c : Pick) → IsLoadable server g.heads (state_in (put_in put (held_contents g v epoch records heads c)))) → IsRecoverable server g w
    recoverable_after fits = still_recoverable server g v put ok w is_put standing.recoverable
        (record {
          consistent = λ c. subst (λ x. IsConsistent g (put_in put x)) (sym (as_said c)) (kept c);
          loadable = λ c. subst (λ x. IsLoadable server g.heads (state_in (put_in put x))) (sym (as_said c)) (fits c);
        })
        keeps

    pub makes : (step : Change) → ((c : Pick) → state_in (put_in put (held_contents g v epoch records heads c)) ≡ made_by step (state_in (held_contents g v epoch records heads c)))
        → MayChange server g v step → Makes server g v epoch records heads rows put step ok w
    makes step changes fits = record {
      change = is_changed server g v put ok w is_put (standing_state g v) step up (λ c. now_said c (made_by step (standing_state g v)) (now c));
      recoverable = recoverable;
      standing = standing_after recoverable;
    }
      where
        now : (c : Pick) → state_in (put_in put (held_contents g v epoch records heads c)) ≡ made_by step (standing_state g v)
        now c = changes c ∙ sym (ap (made_by step) (state_said c))

        recoverable : IsRecoverable server g w
        recoverable = recoverable_after (λ c. subst (IsLoadable server g.heads) (sym (now c)) fits)

    module _ (same : (c : Pick) → state_in (put_in put (held_contents g v epoch records heads c)) ≡ state_in (held_contents g v epoch records heads c)) where
      same_recoverable : IsRecoverable server g w
      same_recoverable = recoverable_after (λ c. subst (IsLoadable server g.heads) (sym (same c)) (loadable c))

      pub makes_nothing : MakesNothing server g v epoch records heads rows put ok w
      makes_nothing = record {
        unchanged = is_unchanged server g v put ok w is_put (standing_state g v) up (λ c. now_said c (standing_state g v) (same c ∙ sym (state_said c)));
        recoverable = same_recoverable;
        standing = standing_after same_recoverable;
      }

    -- the first of two puts
    pub makes_first : (step : Change) → ((c : Pick) → IsStopState (state_in (held_contents g v epoch records heads c)) (step ∷ []) (state_in (put_in put (held_contents g v epoch records heads c))))
        → ((c : Pick) → IsLoadable server g.heads (state_in (put_in put (held_contents g v epoch records heads c)))) → MakesFirst server g v epoch records heads rows put step ok w
    makes_first step stops fits = record {
      found = λ c. let at = found_picked server g v put ok w is_put c in by c at.0 at.1;
      recoverable = recoverable_after fits;
      standing = standing_after (recoverable_after fits);
    }
      where
        by : (c b : Pick) → (found_on g w c ≡ found_on g v b) ⊎ (found_on g w c ≡ state_in (put_in put (contents_by g v b))) → IsStopState (standing_state g v) (step ∷ []) (found_on g w c)
        by c b (inl e) = whole-stop (standing_state g v) (step ∷ []) (found_on g w c) 0 (e ∙ up b)
        by c b (inr e) = subst (λ x. IsStopState x (step ∷ []) (found_on g w c)) (sym (state_said b))
            (subst (λ y. IsStopState (state_in (held_contents g v epoch records heads b)) (step ∷ []) y) (sym (e ∙ ap (λ y. state_in (put_in put y)) (as_said b))) (stops b))

  -- a data page that was named for a block is clean
  pub clean_before : (c : Pick) (d : ℕ) → d < g.leaves → names_block (held_contents g v epoch records heads c) d ≡ true → IsClean v (data_place g d)
  clean_before c d lt named = standing.recoverable.clean c d lt (ap (λ x. names_block x d) (as_said c) ∙ named)
