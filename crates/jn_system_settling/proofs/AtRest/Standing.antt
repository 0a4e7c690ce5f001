-- What holds of transactions and works at servers that are up, in every world that a run reaches.
use Rattle.jn_system_settling.proofs.Common.{◌≡◌, ◌≢◌, ◌⊎◌, inl, inr, ◌<◌, ℕ, Bool, true, false, List, [], ◌∷◌, Option, Some, None, is_some, refl, sym, ◌∙◌, ap, subst, arith, if◌then◌else◌, nat_lt, nat_tests, ServerNo, Tid, WorkId, Server, tid_eq, tid_tells, AllFiles, Transaction, Stage, Voting, Ballot, Prepared, Pick, is_going, transaction_at, is_work, name_from, Machine, Knowledge, Invariant, Knows, run_atoms, opening_world, not_both, World, Memory, UpFact, ServerFact, IsTransaction, IsStage, knowledge_in, known_in, knowledge_of, found-is, openings, HasOpening, In, Each, each-in, Reached, Free, invariant, RequestNo}
use Rattle.jn_msgs.specs.declared.message.Message.TheVariants as messages
use Rattle.jn_system_order.proofs.Ordering.Facts.{opening}
use Rattle.jn_system_reports.proofs.Reporting.Past.{SaysPast, EntryFact, BeganBy}

-- what holds of each transaction holds of one that is found
pub each-found : (P : Transaction → Type 0) (T : Tid) (xs : List Transaction) (x : Transaction) → Each P xs → transaction_at T xs ≡ Some x → P x
each-found P T [] x h e = absurd (cc e)
each-found P T (y ∷ xs) x h e = by (tid_eq y.tid T) e (each-found P T xs x h.1)
  where
    some : Some y ≡ Some x → y ≡ x
    some q = cc

    by : (b : Bool) → (if b then Some y else transaction_at T xs) ≡ Some x → (transaction_at T xs ≡ Some x → P x) → P x
    by true q again = subst P (some q) h.0
    by false q again = again q

module _ (files : AllFiles) (epochs : ServerNo → ℕ) (r : World) (R : Reached files epochs r) where
  abbrev pub machine : Machine
  machine = run_atoms R.atoms (opening_world files epochs)

  pub inv : Invariant machine
  inv = invariant files epochs r R

  pub up-at : (s : ServerNo) (m : Memory) → r.memory s ≡ Some m → UpFact s m (r.found s)
  up-at s m e = subst (λ o. ServerFact s o (r.found s)) e (R.locks s)

  -- of one that its coordinator has
  module _ (T : Tid) (m : Memory) (x : Transaction) (up : r.memory T.server ≡ Some m) (found : transaction_at T m.coordinator.transactions ≡ Some x) where
    pub its-fact : IsTransaction machine T.server x × (x.tid ≡ T)
    its-fact = found-is machine T.server T m.coordinator.transactions x (R.mirrors.transactions T.server m up) found

    pub is-begun : machine.begun T ≡ true
    is-begun = subst (λ (U : Tid). machine.begun U ≡ true) its-fact.1 its-fact.0.begun

    pub its-stage : IsStage machine T x.stage
    its-stage = subst (λ (U : Tid). IsStage machine U x.stage) its-fact.1 its-fact.0.is

    pub is-known : Knows machine T (knowledge_in x.stage)
    is-known = subst (λ (k : Knowledge). Knows machine T k) (R.mirrors.knowledge T ∙ ap (λ o. known_in o T) up ∙ ap knowledge_of found) (inv.core.knowledge T (R.mirrors.up T.server ∙ ap is_some up) is-begun)

    -- its name isn't the next one
    pub not-next : tid_eq (name_from m.tickets) T ≡ false
    not-next = by (tid_tells (name_from m.tickets) T)
      where
        by : ((tid_eq (name_from m.tickets) T ≡ true) × (name_from m.tickets ≡ T)) ⊎ ((tid_eq (name_from m.tickets) T ≡ false) × (name_from m.tickets ≢ T)) → tid_eq (name_from m.tickets) T ≡ false
        by (inr p) = p.0
        by (inl p) = absurd (too-far (ap (λ (U : Tid). U.ticket) (sym p.1) ∙ sym (R.mirrors.ticket T.server m up))
            ((inv.names.tids T (λ n. false) is-begun).1 (R.mirrors.up T.server ∙ ap is_some up) (ap (λ (U : Tid). U.epoch) (sym p.1) ∙ (up-at T.server m up).epoch ∙ sym (ap (λ x. x.epoch) (R.mirrors.found T.server (λ n. false))))))
          where
            too-far : T.ticket ≡ machine.ticket T.server → T.ticket < machine.ticket T.server → ⊥
            too-far e l = omega (arith, e, l)

    entry : EntryFact (openings r.sent) r.clients machine Free m.coordinator.seen x
    entry = each-found (EntryFact (openings r.sent) r.clients machine Free m.coordinator.seen) T m.coordinator.transactions x (R.past.entries T.server m up) found

    -- while it is its client's, no later Begin comes
    pub no-later : (q : RequestNo) (s : ServerNo) → In (Server s, messages.Begin x.client q) r.sent → (r.clients x.client).transaction ≡ Some T → nat_lt (m.coordinator.seen x.client) q.0 ≡ true → ⊥
    no-later q s has current l = by (each-in (SaysPast (openings r.sent) r.clients machine Free) r.sent (Server s, messages.Begin x.client q) R.past.says has)
      where
        by : BeganBy (openings r.sent) x.client (r.clients x.client) q → ⊥
        by h = let e = entry in let first = h.now T e.request current (subst (λ (U : Tid). HasOpening (opening x.client e.request U) (openings r.sent)) its-fact.1 e.has) in
            let seen = e.seen_it in grind (arith, nat_tests, first, seen, l)

  -- a work of a vote doesn't go
  pub not-going : (T : Tid) (m : Memory) (x : Transaction) (b : Ballot) (W : WorkId) → r.memory T.server ≡ Some m → transaction_at T m.coordinator.transactions ≡ Some x → x.stage ≡ Voting b → is_work W b.works ≡ true
      → (c : Pick) → is_going ((r.found W.server c).works W) ≡ false
  not-going T m x b W up found stage work c = by ((r.found W.server c).works W) refl
    where
      its : IsStage machine T (Voting b)
      its = subst (λ (z : Stage). IsStage machine T z) stage (its-stage T m x up found)

      knows : Knows machine T (knowledge_in (Voting b))
      knows = subst (λ (z : Stage). Knows machine T (knowledge_in z)) stage (is-known T m x up found)

      owner : machine.owner W ≡ T
      owner = (inv.core.parts T W.server W (its.1.each W work)).owner

      going : (p : Prepared) → (r.found W.server c).works W ≡ Some p → (b : Bool) → p.going ≡ b → p.going ≡ false
      going p e false q = q
      going p e true q = absurd (not_both (machine.named T) (subst (λ (U : Tid). machine.named U ≡ true) owner (((inv.core.states W.server c).prepared W p (ap (λ x. x.works W) (R.mirrors.found W.server c) ∙ e)).going q)) knows.0)

      by : (o : Option Prepared) → (r.found W.server c).works W ≡ o → is_going o ≡ false
      by None e = refl
      by (Some p) e = going p e p.going refl
