-- What a grant changes of a server's active works, as steps of the machine: the works that break are lost.
use Rattle.jn_system_order.proofs.Common.{◌≡◌, ◌≢◌, ◌⊎◌, inl, inr, Bool, true, false, List, Option, Some, None, is_some, refl, sym, ◌∙◌, ap, subst, arith, ◌&&◌, ◌||◌, not, if◌then◌else◌, ServerNo, WorkId, server_eq, work_eq, server_tells, work_tells, Inquire, Work, Phase, Pick, stable, WorkerTable, Wanted, work_at, is_work, Machine, Working, Says, World, Memory, UpFact, Mirrors, working_of, working_in, active_in, Origin, Mine, Kept, Broke, Regrants}
use Rattle.jn_system_order.proofs.Mirroring.Losing.{lost, missing, missing-is, left-active}

some-same : {A : Type 0} → (a b : A) → Some a ≡ Some b → a ≡ b
some-same a b e = cc

is-some : {A : Type 0} → (o : Option A) → is_some o ≡ true → (a : A) × (o ≡ Some a)
is-some None h = absurd (grind arith)
is-some (Some a) h = (a, refl)

module _ (r : World) (w : Machine) (s : ServerNo) (m : Memory) (mirrors : Mirrors r w) (is : r.memory s ≡ Some m) (up : UpFact s m (r.found s)) where
  -- the machine's active works of the server are those of the table
  pub active-here : (V : WorkId) → V.server ≡ s → w.active V ≡ working_of (work_at V m.worker)
  active-here V e = mirrors.active V ∙ ap (λ (q : ServerNo). active_in (r.memory q) V) e ∙ ap (λ o. active_in o V) is

  -- the machine finds the stable state
  pub found-here : (q : ServerNo) (c : Pick) → q ≡ s → w.found q c ≡ stable (r.found s)
  found-here q c e = mirrors.found q c ∙ ap (λ (z : ServerNo). r.found z c) e ∙ up.same c

  pub found-same : (q : ServerNo) (c : Pick) → w.found q c ≡ (if server_eq s q then w.found s c else w.found q c)
  found-same q c = by (server_tells s q)
    where
      by : ((server_eq s q ≡ true) × (s ≡ q)) ⊎ ((server_eq s q ≡ false) × (s ≢ q)) → w.found q c ≡ (if server_eq s q then w.found s c else w.found q c)
      by (inl p) = ap (λ (z : ServerNo). w.found z c) (sym p.1) ∙ sym (ap (λ (b : Bool). if b then w.found s c else w.found q c) p.0)
      by (inr p) = sym (ap (λ (b : Bool). if b then w.found s c else w.found q c) p.0)

  module _ (N : WorkId) (x : Work) (wants : List Wanted) (phase : Phase) (now : WorkerTable) (found : work_at N m.worker ≡ Some x) (g : Regrants N wants phase m.worker now) where
    -- the works that stay, and the one that is granted its wants
    abbrev pub stays : WorkId → Bool
    stays V = work_eq N V || is_some (working_of (work_at V now))

    abbrev pub broken : List WorkId
    broken = missing stays m.worker

    pub its-server : N.server ≡ s
    its-server = up.table.place N x found ∙ up.server

    pub own-now : work_at N now ≡ Some (record x { phase = phase })
    own-now = let v = is-some (work_at N now) (g.there N ∙ ap is_some found) in v.1 ∙ ap Some (by v.0 (g.origin N v.0 v.1))
      where
        by : (v : Work) → Origin N wants phase m.worker N v → v ≡ record x { phase = phase }
        by v (Mine e y h same) = same ∙ ap (λ (z : Work). record z { phase = phase }) (some-same y x (sym h ∙ found))
        by v (Kept ne h clear) = absurd (ne refl)
        by v (Broke ne y h way u T same) = absurd (ne refl)

    pub not-lost : is_work N broken ≡ false
    not-lost = missing-is stays m.worker N ∙ by (work_tells N N)
      where
        by : ((work_eq N N ≡ true) × (N ≡ N)) ⊎ ((work_eq N N ≡ false) × (N ≢ N)) → (is_some (work_at N m.worker) && not (work_eq N N || is_some (working_of (work_at N now)))) ≡ false
        by (inl p) = ap (λ (b : Bool). is_some (work_at N m.worker) && not (b || is_some (working_of (work_at N now)))) p.0 ∙ off (is_some (work_at N m.worker))
          where
            off : (b : Bool) → (b && false) ≡ false
            off b = grind arith
        by (inr p) = absurd (p.1 refl)

    pub left-own : lost broken w.active N ≡ working_in x.phase
    left-own = ap (λ (b : Bool). if b then None else w.active N) not-lost ∙ active-here N its-server ∙ ap working_of found

    -- every other work of the server is active as the table says
    pub left-here : (V : WorkId) → N ≢ V → V.server ≡ s → lost broken w.active V ≡ working_of (work_at V now)
    left-here V ne e = ap (λ o. if is_work V broken then None else o) (active-here V e)
        ∙ left-active stays (work_at V m.worker) (working_of (work_at V now)) V m.worker refl (only (work_tells N V)) (λ a h. same a (work_at V now) refl h)
      where
        only : ((work_eq N V ≡ true) × (N ≡ V)) ⊎ ((work_eq N V ≡ false) × (N ≢ V)) → (work_eq N V || is_some (working_of (work_at V now))) ≡ is_some (working_of (work_at V now))
        only (inl p) = absurd (ne p.1)
        only (inr p) = ap (λ (b : Bool). b || is_some (working_of (work_at V now))) p.0

        same : (a : Working) (o : Option Work) → work_at V now ≡ o → working_of o ≡ Some a → working_of (work_at V m.worker) ≡ Some a
        same a None h k = absurd (grind arith)
        same a (Some v) h k = by (g.origin V v h)
          where
            none : None ≡ Some a → ⊥
            none q = cc

            by : Origin N wants phase m.worker V v → working_of (work_at V m.worker) ≡ Some a
            by (Mine e y l f) = absurd (ne e)
            by (Kept d l clear) = ap working_of l ∙ k
            by (Broke d y l way u T f) = absurd (none (subst (λ (z : Work). working_in z.phase ≡ Some a) f k))

    -- and those of other servers as before
    pub left-elsewhere : (V : WorkId) → s ≢ V.server → lost broken w.active V ≡ w.active V
    left-elsewhere V ne = ap (λ (b : Bool). if b then None else w.active V) (missing-is stays m.worker V ∙ none (work_at V m.worker) refl)
      where
        none : (o : Option Work) → work_at V m.worker ≡ o → (is_some o && not (stays V)) ≡ false
        none None h = refl
        none (Some y) h = absurd (ne (sym (up.table.place V y h ∙ up.server)))

    pub elsewhere-other : (V : WorkId) → s ≢ V.server → N ≢ V
    elsewhere-other V ne e = ne (sym (ap (λ (U : WorkId). U.server) (sym e) ∙ its-server))

    -- each work of the new table is one of the old, for the same transaction
    pub owner-now : (V : WorkId) (v : Work) → work_at V now ≡ Some v → Says w (Inquire v.tid V)
    owner-now V v h = by (g.origin V v h)
      where
        by : Origin N wants phase m.worker V v → Says w (Inquire v.tid V)
        by (Mine e y l f) = subst (λ (z : Work). Says w (Inquire z.tid V)) (sym f) (mirrors.owner s m V y is (subst (λ (U : WorkId). work_at U m.worker ≡ Some y) e l))
        by (Kept d l clear) = mirrors.owner s m V v is l
        by (Broke d y l way u T f) = subst (λ (z : Work). Says w (Inquire z.tid V)) (sym f) (mirrors.owner s m V y is l)
