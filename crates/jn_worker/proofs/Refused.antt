-- A vote for a work that isn't active.
use Rattle.jn_worker.proofs.Common.{◌≡◌, true, false, List, [], ◌∷◌, ◌++◌, Option, Some, None, refl, sym, ◌∙◌, ap, subst, Ok, if◌then◌else◌, append-nil, ClientNo, Tid, Tickets, WorkId, Server, work_eq, Collected, Ignored, Vote, Work, Phase, Active, Broken, Stored, ignored, Prepared, is_going, WorkerTable, WorkStorage, work_at, prepare_row, prepare_phase, voted, found-name, is_in, StorageView, state, WorkerView, Fits, WorkFits, PhaseFits, seen, is_active, is_active_phase, Takes, vote_inactive}
use Rattle.jn_msgs.specs.declared.message.Message.TheVariants as messages
use Rattle.jn_msgs.specs.declared.message.Vote.TheVariants as votes
use Rattle.jn_worker.proofs.Exits.{without_change}

-- a going work is prepared
going-ignored : (t : WorkerTable) (s : WorkStorage) (k : Tickets) (T : Tid) (c : ClientNo) (w : Work) (phase : Phase) (p : Option Prepared) → s.state.works w.name ≡ p → PhaseFits phase w.tid p → is_going p ≡ true → prepare_phase t s k T c w phase ≡ ignored t k
going-ignored t s k T c w (Stored q) p e f g = ap (λ o. if is_going o then ignored t k else voted t k T w.name votes.Ready) e ∙ ap (λ b. if b then ignored t k else voted t k T w.name votes.Ready) g
going-ignored t s k T c w (Active a) None e f g = absurd (cc g)
going-ignored t s k T c w (Active a) (Some p) e f g = absurd f
going-ignored t s k T c w (Broken u S) None e f g = absurd (cc g)
going-ignored t s k T c w (Broken u S) (Some p) e f g = absurd f

votes-again : (t : WorkerTable) (s : WorkStorage) (k : Tickets) (T : Tid) (c : ClientNo) (w : Work) (phase : Phase) → is_active_phase phase ≡ false → is_going (s.state.works w.name) ≡ false → prepare_phase t s k T c w phase ≡ voted t k T w.name (vote_inactive phase)
votes-again t s k T c w (Stored q) i g = ap (λ b. if b then ignored t k else voted t k T w.name votes.Ready) g
votes-again t s k T c w (Active a) i g = absurd (cc i)
votes-again t s k T c w (Broken u S) i g = refl

pub vote_ignored : (t : WorkerView) (ws found : List Work) (gs names : List WorkId) (v : StorageView) (before after : Collected) (k : Tickets) (T : Tid) (c : ClientNo) (W : WorkId) (w : Work) → Fits t v → record { table = ws; going = gs } ≡ t → found ≡ ws → names ≡ gs → work_at W found ≡ Some w → is_in work_eq W names ≡ true
    → after ≡ record { messages = before.messages; notes = before.notes ++ Ignored ∷ [] } → Takes 784 (prepare_row t.table (seen v) k T c W (work_at W t.table)) t v before k (Ok (tt {0})) t v after k
vote_ignored t ws found gs names v before after k T c W w h view same same_names look inside is =
    subst (λ row. Takes 784 row t v before k (Ok (tt {0})) t v after k) (sym row)
    (without_change (tt {0}) (ignored t.table k) t t v before after k k refl refl (ap (λ (o : Collected). o.messages) is ∙ sym (append-nil before.messages)) (ap (λ (o : Collected). o.notes) is) refl h (λ f. f))
  where
    at : work_at W t.table ≡ Some w
    at = subst (λ (t : WorkerView). work_at W t.table ≡ Some w) view (subst (λ ws. work_at W ws ≡ Some w) same look)

    going : is_in work_eq W t.going ≡ true
    going = subst (λ (t : WorkerView). is_in work_eq W t.going ≡ true) view (subst (λ gs. is_in work_eq W gs ≡ true) same_names inside)

    named : w.name ≡ W
    named = found-name W t.table w at

    row : prepare_row t.table (seen v) k T c W (work_at W t.table) ≡ ignored t.table k
    row = ap (λ o. prepare_row t.table (seen v) k T c W o) at ∙ going-ignored t.table (seen v) k T c w w.phase ((state v).works W) (ap (λ n. (state v).works n) named) (subst (λ o. WorkFits o ((state v).works W)) at (h.stored W)) (sym (h.going W) ∙ going)

pub vote_told : (t : WorkerView) (ws found : List Work) (gs names : List WorkId) (v : StorageView) (before after : Collected) (k : Tickets) (T : Tid) (c : ClientNo) (W : WorkId) (w : Work) (vote : Vote) → Fits t v → is_active (work_at W t.table) ≡ false → record { table = ws; going = gs } ≡ t → found ≡ ws → names ≡ gs → work_at W found ≡ Some w → is_in work_eq W names ≡ false → vote ≡ vote_inactive w.phase
    → after ≡ record { messages = before.messages ++ (Server T.server, messages.Vote T W vote) ∷ []; notes = before.notes } → Takes 784 (prepare_row t.table (seen v) k T c W (work_at W t.table)) t v before k (Ok (tt {0})) t v after k
vote_told t ws found gs names v before after k T c W w vote h inactive view same same_names look inside which is =
    subst (λ row. Takes 784 row t v before k (Ok (tt {0})) t v after k) (sym row)
    (without_change (tt {0}) (voted t.table k T W (vote_inactive w.phase)) t t v before after k k refl refl (ap (λ (o : Collected). o.messages) is ∙ ap (λ vote. before.messages ++ (Server T.server, messages.Vote T W vote) ∷ []) which) (ap (λ (o : Collected). o.notes) is ∙ sym (append-nil before.notes)) refl h (λ f. f))
  where
    at : work_at W t.table ≡ Some w
    at = subst (λ (t : WorkerView). work_at W t.table ≡ Some w) view (subst (λ ws. work_at W ws ≡ Some w) same look)

    going : is_in work_eq W t.going ≡ false
    going = subst (λ (t : WorkerView). is_in work_eq W t.going ≡ false) view (subst (λ gs. is_in work_eq W gs ≡ false) same_names inside)

    named : w.name ≡ W
    named = found-name W t.table w at

    row : prepare_row t.table (seen v) k T c W (work_at W t.table) ≡ voted t.table k T W (vote_inactive w.phase)
    row = ap (λ o. prepare_row t.table (seen v) k T c W o) at ∙ (votes-again t.table (seen v) k T c w w.phase (sym (ap is_active at) ∙ inactive) (ap (λ n. is_going ((state v).works n)) named ∙ (sym (h.going W) ∙ going)) ∙ ap (λ n. voted t.table k T n (vote_inactive w.phase)) named)
