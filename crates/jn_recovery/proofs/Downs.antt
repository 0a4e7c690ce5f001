-- What a recovery leaves where it ends before there is a storage.
use Rattle.jn_recovery.proofs.Common.{◌≡◌, inl, ⊎_elim, ◌≤◌, ◌+◌, Result, Err, sym, ◌∙◌, ap, subst, arith, ℕ, IfErr, ServerNo, found_on, IsFewer, IsRecoverable, fewer_picked, fewer_recoverable, pages_by, heads_on, Counts, StableState, Pick, StoreView, StoreLater, IsCalm, IsStop, IsSameOrNext, CountsRestartLast, most_calls, KeepsDataPages, Recovering, IsDown, IsUsedUp, IsNotUsedUp, Stopped, EpochsUsedUp, maps_named, calls_by}
use Rattle.jn_recovery.specs.declared.load.DownCause.TheVariants.{Memory}

same_or_next : (x y : StableState) → y ≡ x → IsSameOrNext x y
same_or_next x y e = record { same = e ∙ ap (λ k. record x { epoch = k }) (sym (ap (λ (z : StableState). z.epoch) e)); epoch = inl (ap (λ (z : StableState). z.epoch) e) }

module _ (server : ServerNo) (g : Counts) (v : StoreView) (pick : Pick) (w : StoreView) where
  pub recovering_by : StoreLater v w → w.calls ≤ v.calls + calls_by g v pick → IsRecoverable server g w → ((c : Pick) → (b : Pick) × IsSameOrNext (found_on g v b) (found_on g w c)) → CountsRestartLast g v w → KeepsDataPages g v w → Recovering server g v pick w
  recovering_by later calls recoverable each last kept = record {
    later = later;
    calls = calls;
    recoverable = recoverable;
    each = each;
    counted_last = last;
    data_pages = kept;
    finds = λ c. let h = each c in (h.0, record { same = h.1.same; later = ⊎_elim (λ e. omega (arith, e)) (λ e. omega (arith, e)) h.1.epoch });
  }

  pub recovering_fewer : IsRecoverable server g v → IsFewer v w → StoreLater v w → w.calls ≤ v.calls + calls_by g v pick → KeepsDataPages g v w → Recovering server g v pick w
  recovering_fewer recoverable fewer later calls kept = recovering_by later calls (fewer_recoverable v w fewer server g recoverable) (λ c. let h = fewer_picked v w fewer g c in (h.0, same_or_next (found_on g v h.0) (found_on g w c) h.1))
      (inl (λ c. let h = fewer_picked v w fewer g c in (h.0, ap (λ (x : StableState). x.epoch) h.1))) kept

  module _ (recovering : Recovering server g v pick w) where
    pub stopped_down : IsStop v w → (IsCalm v → ⊥) → IsDown server g v Stopped w
    stopped_down stop calm = record {
      some = pick;
      recovering = recovering;
      stop = λ e. stop;
      calm = λ quiet e. calm quiet;
      used_up = λ e. absurd (cc e);
      memory = λ e. absurd (cc e);
    }

    pub memory_down : IsNotUsedUp g v → IsDown server g v Memory w
    memory_down left = record {
      some = pick;
      recovering = recovering;
      stop = λ e. absurd (cc e);
      calm = λ quiet e. absurd (cc e);
      used_up = λ e. absurd (cc e);
      memory = λ e. left;
    }

    pub used_down : IsUsedUp g v w → IsDown server g v EpochsUsedUp w
    used_down used = record {
      some = pick;
      recovering = recovering;
      stop = λ e. absurd (cc e);
      calm = λ quiet e. absurd (cc e);
      used_up = λ e. used;
      memory = λ e. absurd (cc e);
    }

-- before the heads are read, any pick has so many calls
pub few_calls : (g : Counts) (v : StoreView) (pick : Pick) (n most : ℕ) → n ≤ v.calls + most → most ≤ most_calls g 0 → n ≤ v.calls + calls_by g v pick
few_calls g v pick n most calls few = with_maps (maps_named (heads_on g (pages_by v pick)))
  where
    with_maps : (m : ℕ) → n ≤ v.calls + most_calls g m
    with_maps m = omega (arith, calls, few)

-- an answer that is an error, and which one
pub if_err_is : {X E : Type 0} (r : Result X E) (P : E → Type 0) (e : E) → r ≡ Err e → P e → IfErr r P
if_err_is r P e is h = subst (λ x. IfErr x P) (sym is) h
