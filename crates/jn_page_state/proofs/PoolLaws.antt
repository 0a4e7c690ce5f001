-- One record's change as a change of the stable state.
use Rattle.jn_page_state.proofs.Common.{◌≡◌, ◌≢◌, ℕ, Bool, true, false, if◌then◌else◌, List, Option, None, Some, refl, sym, ◌∙◌, ap, true≢false, arith, fun_ext, list_any, slice_set, LockUnit, Tid, WorkId, work_eq, tid_eq, work_tells, tid_tells, Flag, FullIntention, Record, Free, Intention, Ready, Going, FlagRecord, WorkHead, StableState, Prepared, FlagState, made_by, AddReady, MarkGoing, RemoveWork, AddFlag, DropFlag, at_work, at_tid, gone_on, flag_state, record_in, is_prepared, is_intention, is_flag, Contents, state_in, works_in, flags_in, prepared_by, ready_work, full_list, flag_by, with_record, IsIdlePut, IsFreeSlot, IsReadyPut, IsReadySlot, IsPreparedSlot, IsFlagPut, IsFlagSlot}
use Rattle.jn_page_state.proofs.Found.{found_once, none_at}
use Rattle.jn_page_state.proofs.PoolLemmas.{works_written, work_kept, flags_kept, flags_written, idle_works, idle_flags}

same_state : (x : StableState) (works : WorkId → Option Prepared) (flags : Tid → Option FlagState) → x.works ≡ works → x.flags ≡ flags → x ≡ record x { works = works; flags = flags }
same_state x works flags e f = ap (λ w. record x { works = w }) e ∙ ap (λ g. record x { works = works; flags = g }) f

work_other : (w v : WorkId) → w ≢ v → work_eq w v ≡ false
work_other w v ne = grind (arith, work_tells)

work_same : (w : WorkId) → work_eq w w ≡ true
work_same w = grind (arith, work_tells)

tid_other : (t u : Tid) → t ≢ u → tid_eq t u ≡ false
tid_other t u ne = grind (arith, tid_tells)

tid_same : (t : Tid) → tid_eq t t ≡ true
tid_same t = grind (arith, tid_tells)

clash : (b : Bool) → b ≡ false → b ≡ true → ⊥
clash b f t = grind arith

module _ (c : Contents) (slot : ℕ) where
  pub idle_law : (new : Record) → IsIdlePut c.pool slot new → state_in (with_record c slot new) ≡ state_in c
  idle_law new put = same_state (state_in (with_record c slot new)) (works_in c.pool c.blocks) (flags_in c.pool) (idle_works c.pool c.blocks slot new put.old_idle put.new_idle) (idle_flags c.pool slot new put.old_idle put.new_idle)

  module _ (free : IsFreeSlot c.pool slot) where
    free_list : (v : WorkId) (k : ℕ) → is_intention v k (record_in c.pool slot) ≡ false
    free_list v k = ap (is_intention v k) free.free

    free_work : (v : WorkId) → is_prepared v (record_in c.pool slot) ≡ false
    free_work v = ap (is_prepared v) free.free

    free_flag : (t : Tid) → is_flag t (record_in c.pool slot) ≡ false
    free_flag t = ap (is_flag t) free.free

    -- none passes, and so none but this
    none_else : (p : Record → Bool) → p Free ≡ false → list_any p c.pool ≡ false → (j : ℕ) → p (record_in c.pool j) ≡ true → j ≡ slot
    none_else p out none j t = absurd (clash (p (record_in c.pool j)) (none_at p Free c.pool j out none) t)

    pub ready_law : (head : WorkHead) (n : ℕ) (list : List FullIntention) (reads : List LockUnit) → IsReadyPut c.pool c.blocks slot head n list
        → state_in (with_record c slot (Ready head n reads)) ≡ made_by (AddReady head list reads) (state_in c)
    ready_law head n list reads put =
        let w = head.work in
        let written : works_in (slice_set c.pool slot (Ready head n reads)) c.blocks ≡ at_work (works_in c.pool c.blocks) w (Some (ready_work head list reads)) =
        works_written c.pool c.blocks slot (Ready head n reads) free_list (λ v k. refl) free.there w (none_else (is_prepared w) refl put.new) (λ v ne. free_work v) (λ v ne. work_other w v ne)
        ∙ ap (λ b. at_work (works_in c.pool c.blocks) w (prepared_by c.pool c.blocks w (if b then Some (Ready head n reads) else None))) (work_same w)
        ∙ ap (λ l. at_work (works_in c.pool c.blocks) w (Some (ready_work head l reads))) put.list_stands in
        same_state (state_in (with_record c slot (Ready head n reads))) (at_work (works_in c.pool c.blocks) w (Some (ready_work head list reads))) (flags_in c.pool) written
        (flags_kept c.pool slot (Ready head n reads) free_flag (λ t. refl))

    pub flag_law : (flag : Flag) → IsFlagPut c.pool slot flag → state_in (with_record c slot (FlagRecord flag)) ≡ made_by (AddFlag flag) (state_in c)
    flag_law flag put =
        let t = flag.tid in
        same_state (state_in (with_record c slot (FlagRecord flag))) (works_in c.pool c.blocks) (at_tid (flags_in c.pool) t (Some (flag_state flag)))
        (fun_ext (λ v. work_kept c.pool c.blocks slot (FlagRecord flag) free_list (λ v k. refl) v (free_work v) refl))
        (flags_written c.pool slot (FlagRecord flag) free.there t (none_else (is_flag t) refl put.new) (λ u ne. free_flag u) (λ u ne. tid_other t u ne)
        ∙ ap (λ b. at_tid (flags_in c.pool) t (flag_by (if b then Some (FlagRecord flag) else None))) (tid_same t))

  -- a record of a work is none of another, no intention and no flag
  pub prepared_list : (w v : WorkId) (k : ℕ) (r : Record) → is_prepared w r ≡ true → is_intention v k r ≡ false
  prepared_list w v k Free h = refl
  prepared_list w v k (Intention x t o i) h = absurd (true≢false (sym h))
  prepared_list w v k (Ready head n reads) h = refl
  prepared_list w v k (Going head n reads) h = refl
  prepared_list w v k (FlagRecord f) h = refl

  pub prepared_flag : (w : WorkId) (t : Tid) (r : Record) → is_prepared w r ≡ true → is_flag t r ≡ false
  prepared_flag w t Free h = refl
  prepared_flag w t (Intention x u o i) h = refl
  prepared_flag w t (Ready head n reads) h = refl
  prepared_flag w t (Going head n reads) h = refl
  prepared_flag w t (FlagRecord f) h = absurd (true≢false (sym h))

  pub prepared_other : (w v : WorkId) (r : Record) → is_prepared w r ≡ true → w ≢ v → is_prepared v r ≡ false
  prepared_other w v Free h ne = refl
  prepared_other w v (Intention x u o i) h ne = refl
  prepared_other w v (Ready head n reads) h ne = grind (arith, work_tells)
  prepared_other w v (Going head n reads) h ne = grind (arith, work_tells)
  prepared_other w v (FlagRecord f) h ne = refl

  pub flag_list : (t : Tid) (v : WorkId) (k : ℕ) (r : Record) → is_flag t r ≡ true → (is_intention v k r ≡ false) × (is_prepared v r ≡ false)
  flag_list t v k Free h = (refl, refl)
  flag_list t v k (Intention x u o i) h = absurd (true≢false (sym h))
  flag_list t v k (Ready head n reads) h = absurd (true≢false (sym h))
  flag_list t v k (Going head n reads) h = absurd (true≢false (sym h))
  flag_list t v k (FlagRecord f) h = (refl, refl)

  pub flag_other : (t u : Tid) (r : Record) → is_flag t r ≡ true → t ≢ u → is_flag u r ≡ false
  flag_other t u Free h ne = refl
  flag_other t u (Intention x y o i) h ne = refl
  flag_other t u (Ready head n reads) h ne = refl
  flag_other t u (Going head n reads) h ne = refl
  flag_other t u (FlagRecord f) h ne = grind (arith, tid_tells)

  pub removed_law : (w : WorkId) → IsPreparedSlot c.pool slot w → state_in (with_record c slot Free) ≡ made_by (RemoveWork w) (state_in c)
  removed_law w at = same_state (state_in (with_record c slot Free)) (at_work (works_in c.pool c.blocks) w None) (flags_in c.pool)
      (works_written c.pool c.blocks slot Free (λ v k. prepared_list w v k (record_in c.pool slot) at.stands) (λ v k. refl) at.there w (λ j t. at.once j slot t at.stands) (λ v ne. prepared_other w v (record_in c.pool slot) at.stands ne) (λ v ne. refl))
      (flags_kept c.pool slot Free (λ t. prepared_flag w t (record_in c.pool slot) at.stands) (λ t. refl))

  pub dropped_law : (t : Tid) → IsFlagSlot c.pool slot t → state_in (with_record c slot Free) ≡ made_by (DropFlag t) (state_in c)
  dropped_law t at = same_state (state_in (with_record c slot Free)) (works_in c.pool c.blocks) (at_tid (flags_in c.pool) t None)
      (fun_ext (λ v. work_kept c.pool c.blocks slot Free (λ u k. (flag_list t u k (record_in c.pool slot) at.stands).0) (λ u k. refl) v (flag_list t v 0 (record_in c.pool slot) at.stands).1 refl))
      (flags_written c.pool slot Free at.there t (λ j p. at.once j slot p at.stands) (λ u ne. flag_other t u (record_in c.pool slot) at.stands ne) (λ u ne. refl))

  pub going_law : (head : WorkHead) (n : ℕ) (reads : List LockUnit) → IsReadySlot c.pool slot head n reads
      → state_in (with_record c slot (Going head n reads)) ≡ made_by (MarkGoing head.work) (state_in c)
  going_law head n reads at =
      let w = head.work in
      let stands : is_prepared w (record_in c.pool slot) ≡ true = ap (is_prepared w) at.stands ∙ work_same w in
      let list = full_list c.pool c.blocks w n in
      let before : works_in c.pool c.blocks w ≡ Some (ready_work head list reads) =
      ap (prepared_by c.pool c.blocks w) (found_once (is_prepared w) Free c.pool slot refl (λ j t. at.once j slot t stands) ∙ ap (λ b. if b then Some (record_in c.pool slot) else None) stands ∙ ap (λ (r : Record). Some r) at.stands) in
      same_state (state_in (with_record c slot (Going head n reads))) (at_work (works_in c.pool c.blocks) w (gone_on (works_in c.pool c.blocks w))) (flags_in c.pool)
      (works_written c.pool c.blocks slot (Going head n reads) (λ v k. prepared_list w v k (record_in c.pool slot) stands) (λ v k. refl) at.there w (λ j t. at.once j slot t stands) (λ v ne. prepared_other w v (record_in c.pool slot) stands ne) (λ v ne. work_other w v ne)
      ∙ ap (λ b. at_work (works_in c.pool c.blocks) w (prepared_by c.pool c.blocks w (if b then Some (Going head n reads) else None))) (work_same w)
      ∙ sym (ap (λ o. at_work (works_in c.pool c.blocks) w (gone_on o)) before))
      (flags_kept c.pool slot (Going head n reads) (λ t. prepared_flag w t (record_in c.pool slot) stands) (λ t. refl))
