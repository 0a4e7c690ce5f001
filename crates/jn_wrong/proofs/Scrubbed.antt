-- Behind a scrub each pick of halves finds the same.
use Rattle.jn_wrong.proofs.Common.{◌≡◌, ◌<◌, ℕ, Bool, true, false, [], Option, None, refl, sym, ◌∙◌, ap, subst, arith, nat_tests, nat_lt, if◌then◌else◌, ServerNo, EventRefusal, Pick, Setup, Task, Meets, Acts, Deed, Alone, Befalls, deed_of, met, refusal_of, Moment, DoesStep, fun_ext, found_on, pages_by, state_of, Counts, pairs_view, StoreView, IsClean, scrubbed, IsScrubbed}
use Rattle.jn_schedule.specs.declared.Event.TheVariants as events

-- where each page is clean
clean-same : (v : StoreView) (g : Counts) → ((i : ℕ) → i < v.count → IsClean v i) → (c r : Pick) → found_on g v c ≡ found_on g v r
clean-same v g clean c r = ap (state_of g) (fun_ext (λ k. page k (nat_lt k v.count) refl))
  where
    below : (k n : ℕ) → nat_lt k n ≡ true → k < n
    below k n e = grind (arith, nat_tests, e)

    halves : (b d : Bool) (k : ℕ) → IsClean v k → (if b then v.second k else v.first k) ≡ (if d then v.second k else v.first k)
    halves true true k e = refl
    halves false false k e = refl
    halves true false k e = sym e
    halves false true k e = e

    page : (k : ℕ) (b : Bool) → nat_lt k v.count ≡ b → pages_by v c k ≡ pages_by v r k
    page k true e = ap (λ x. if nat_lt k v.count then x else []) (halves (c k) (r k) k (clean k (below k v.count e)))
    page k false e = ap (λ (b : Bool). if b then (if c k then v.second k else v.first k) else []) e ∙ sym (ap (λ (b : Bool). if b then (if r k then v.second k else v.first k) else []) e)

module _ (x : Setup) (q : ServerNo) (a b : Moment) (d : DoesStep x a b) (there : q.0 < x.servers) (unstopped : d.chance.stop ≡ None) (is : deed_of x d.chance d.task a.state ≡ scrubbed d.chance q) where
  one-found : (c r : Pick) → found_on (x.counts q) (pairs_view (b.devices q)) c ≡ found_on (x.counts q) (pairs_view (b.devices q)) r
  one-found = by (subst (λ (deed : Deed). Befalls x d.chance deed a.state.course.world a.devices b.devices) is d.befalls)
    where
      by : Befalls x d.chance (scrubbed d.chance q) a.state.course.world a.devices b.devices → (c r : Pick) → found_on (x.counts q) (pairs_view (b.devices q)) c ≡ found_on (x.counts q) (pairs_view (b.devices q)) r
      by f = from f.used
        where
          from : Alone q (IsScrubbed (x.counts q) d.chance a.state.course.world q) a.devices b.devices → (c r : Pick) → found_on (x.counts q) (pairs_view (b.devices q)) c ≡ found_on (x.counts q) (pairs_view (b.devices q)) r
          from alone = clean-same (pairs_view (b.devices q)) (x.counts q) (λ i l. let s = alone.its in s.clean unstopped i (subst (λ (n : ℕ). i < n) (sym (let k = f.recoverable q there in k.count)) l))

pub scrubbed-in-schedule : (x : Setup) (q : ServerNo) (a b : Moment) (d : DoesStep x a b) → q.0 < x.servers → d.task ≡ Meets (events.Scrub q) → refusal_of x a.state.course.world (events.Scrub q) ≡ None → d.chance.stop ≡ None
    → (c r : Pick) → found_on (x.counts q) (pairs_view (b.devices q)) c ≡ found_on (x.counts q) (pairs_view (b.devices q)) r
scrubbed-in-schedule x q a b d there task unrefused unstopped = one-found x q a b d there unstopped (ap (λ (t : Task). deed_of x d.chance t a.state) task ∙ ap (λ (o : Option EventRefusal). met x d.chance (events.Scrub q) a.state.clients a.state.course.world o) unrefused)

pub scrubbed-at-end : (x : Setup) (q : ServerNo) (a b : Moment) (d : DoesStep x a b) → q.0 < x.servers → d.task ≡ Acts (events.Scrub q) → d.chance.stop ≡ None
    → (c r : Pick) → found_on (x.counts q) (pairs_view (b.devices q)) c ≡ found_on (x.counts q) (pairs_view (b.devices q)) r
scrubbed-at-end x q a b d there task unstopped = one-found x q a b d there unstopped (ap (λ (t : Task). deed_of x d.chance t a.state) task)
