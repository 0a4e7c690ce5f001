-- Any steps of recoveries find what was there, and leave a store for the next one.
use Rattle.jn_page_state.proofs.Common.{◌≡◌, ⊎_elim, ◌≤◌, ℕ, Bool, refl, sym, ap, subst, ◌∙◌, arith, ServerNo, Record, Free, Counts, StableState, Pick, StoreView, state_in, IsIdlePut, found_on, pages_by, PagePut, RootPut, RecordPut, IsPagePut, PutStep, put_in, IsReadable, IsPut, KeepsFound, KeepsClean, contents_by, IsRecoverable, IsLoadable, names_for_block, most_blocks, Recovers, cleans, counts, erases, joined, IsSameButEpoch, FindsSame}
use Rattle.jn_page_state.proofs.ConsistentPuts.{idle_consistent, idle_named}
use Rattle.jn_page_state.proofs.FilesOnPages.{state_said, loadable_said}
use Rattle.jn_page_state.proofs.OtherPuts.{root_consistent, later_loadable}
use Rattle.jn_page_state.proofs.Picking.{found_picked, still_recoverable, fewer_recoverable, fewer_picked}
use Rattle.jn_page_state.proofs.PoolLaws.{idle_law}

same_refl : (x y : StableState) → y ≡ x → IsSameButEpoch x y
same_refl x y e = record { same = e ∙ ap (λ k. record x { epoch = k }) (sym (ap (λ z. z.epoch) e)); later = let k = ap (λ z. z.epoch) e in omega (arith, k) }

same_trans : (x y z : StableState) → IsSameButEpoch x y → IsSameButEpoch y z → IsSameButEpoch x z
same_trans x y z a b = record {
  same = b.same ∙ ap (λ (s : StableState). record s { epoch = z.epoch }) a.same;
  later = let one = a.later in let two = b.later in omega (arith, one, two);
}

module _ (server : ServerNo) (g : Counts) where
  readable : (v : StoreView) → IsRecoverable server g v → IsReadable server g v
  readable v before = record { count = before.count; each = λ c. (before.each c).of_format }

  as_said : (v : StoreView) → IsRecoverable server g v → (c : Pick) → found_on g v c ≡ state_in (contents_by g v c)
  as_said v before c = state_said server g (pages_by v c) (before.each c).of_format

  may_load : (v : StoreView) → IsRecoverable server g v → (c : Pick) → IsLoadable server g.heads (state_in (contents_by g v c))
  may_load v before c = loadable_said server g (pages_by v c) (before.each c).of_format (before.each c).loadable

  -- neither the root nor a record asks anything of map pages
  root_put : (v w : StoreView) (epoch : ℕ) (ok : Bool) → IsRecoverable server g v → IsPagePut server g (RootPut epoch) → PutStep server g v (RootPut epoch) ok w → IsPut server g v (RootPut epoch) ok w
  root_put v w epoch ok before page step = record { readable = readable v before; page = page; may = λ c. tt; step = step }

  record_put : (v w : StoreView) (slot : ℕ) (r : Record) (ok : Bool) → IsRecoverable server g v → IsPagePut server g (RecordPut slot r) → PutStep server g v (RecordPut slot r) ok w → IsPut server g v (RecordPut slot r) ok w
  record_put v w slot r ok before page step = record { readable = readable v before; page = page; may = λ c. tt; step = step }

  -- a put whose every pick has the same state, epochs aside
  put_finds : (v w : StoreView) (put : PagePut) (ok : Bool) → IsPut server g v put ok w
      → ((c : Pick) → IsSameButEpoch (found_on g v c) (state_in (put_in put (contents_by g v c)))) → FindsSame g v w
  put_finds v w put ok is same c =
      let h = found_picked server g v put ok w is c in (
        h.0,
        ⊎_elim
            (λ old. same_refl (found_on g v h.0) (found_on g w c) old)
            (λ new. subst (IsSameButEpoch (found_on g v h.0)) (sym new) (same h.0))
            h.1,
      )

  root_clean : (v : StoreView) (epoch : ℕ) → IsRecoverable server g v → KeepsClean g v (RootPut epoch)
  root_clean v epoch before = record { names = λ c d lt named. (before.clean c d lt named, refl); unwritten = λ c d lt named. refl }

  root_found : (v : StoreView) (epoch : ℕ) → ((c : Pick) → (contents_by g v c).epoch ≤ epoch) → IsRecoverable server g v → KeepsFound server g v (RootPut epoch)
  root_found v epoch later before = record {
    consistent = λ c. root_consistent g (contents_by g v c) epoch (before.each c).consistent;
    loadable = λ c. later_loadable server g.heads epoch (state_in (contents_by g v c)) (later c) (may_load v before c);
  }

  erase_clean : (v : StoreView) (slot : ℕ) → ((c : Pick) → IsIdlePut (contents_by g v c).pool slot Free) → IsRecoverable server g v → KeepsClean g v (RecordPut slot Free)
  erase_clean v slot idle before = record {
    names = λ c d lt named. (before.clean c d lt (idle_named (contents_by g v c) slot Free (idle c) most_blocks names_for_block d named), refl);
    unwritten = λ c d lt named. refl;
  }

  erase_found : (v : StoreView) (slot : ℕ) → ((c : Pick) → IsIdlePut (contents_by g v c).pool slot Free) → IsRecoverable server g v → KeepsFound server g v (RecordPut slot Free)
  erase_found v slot idle before = record {
    consistent = λ c. idle_consistent (contents_by g v c) slot Free (idle c) g (before.each c).consistent;
    loadable = λ c. subst (IsLoadable server g.heads) (sym (idle_law (contents_by g v c) slot Free (idle c))) (may_load v before c);
  }

  pub recovered : (v w : StoreView) → Recovers server g v w → IsRecoverable server g v → IsRecoverable server g w × FindsSame g v w
  recovered _ _ (cleans v w fewer) before = (fewer_recoverable v w fewer server g before, λ c. let h = fewer_picked v w fewer g c in (h.0, same_refl (found_on g v h.0) (found_on g w c) h.1))
  recovered _ _ (counts v w epoch ok later page step) before = (
    still_recoverable server g v (RootPut epoch) ok w (root_put v w epoch ok before page step) before (root_found v epoch later before) (root_clean v epoch before),
    put_finds v w (RootPut epoch) ok (root_put v w epoch ok before page step) (λ c. record { same = ap (λ (x : StableState). record x { epoch = epoch }) (sym (as_said v before c)); later = later c }),
  )
  recovered _ _ (erases v w slot ok idle page step) before = (
    still_recoverable server g v (RecordPut slot Free) ok w (record_put v w slot Free ok before page step) before (erase_found v slot idle before) (erase_clean v slot idle before),
    put_finds v w (RecordPut slot Free) ok (record_put v w slot Free ok before page step)
        (λ c. same_refl (found_on g v c) (state_in (put_in (RecordPut slot Free) (contents_by g v c))) (idle_law (contents_by g v c) slot Free (idle c) ∙ sym (as_said v before c))),
  )
  recovered _ _ (joined u v w one two) before =
      let first = recovered u v one before in
      let second = recovered v w two first.0 in
      (second.0, λ c. let b = second.1 c in let a = first.1 b.0 in (a.0, same_trans (found_on g u a.0) (found_on g v b.0) (found_on g w c) a.1 b.1))
