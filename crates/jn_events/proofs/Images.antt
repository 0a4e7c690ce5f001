-- What a settle and the scrubs of all servers leave of images.
use Rattle.jn_events.proofs.Common.{DeviceState, HoldImages, IsAtRest, Setup, Moment, Carried, StandsOn, has_work_at, work_of, Place, Slot, Up, Down, Gone, Counts, counts_by, StableState, stable, view_with, memory_of, room_of, state, pairs_view, StoreView, HasNoRubbish, AreClean, HoldsImageAt, IsScrubbedAt, HoldsImage, Standing, Stands, StandsAt, ◌≡◌, false, [], ◌∷◌, true≢false, refl, Option, Some, None, Ok, Err, ◌<◌, ℕ, arith, ◌+◌, inl, inr, sym, ◌∙◌, subst, ◌≤◌, length, ap, slice_get_within, List, not, is_some, Result, OnOk, slice_get, ◌⊎◌}
use Rattle.jn_events.proofs.Calm.{all-by}
use Rattle.jn_events.proofs.Finishing.{either}
use Rattle.jn_page_state.specs.Images.{IsImage}
use Rattle.jn_server.specs.Settled.{IsSettledState}
use Rattle.jn_system.proofs.WholeSystem.BusyServers.{nothing}
use Rattle.jn_worker.specs.Fitting.{is_none}
use Rattle.jn_world.proofs.Images.{files-alone}

empty-by : {A : Type 0} (xs : List A) → not (is_none xs) ≡ false → xs ≡ []
empty-by [] h = refl
empty-by (x ∷ xs) h = absurd (true≢false h)

none-by : {A : Type 0} (o : Option A) → is_some o ≡ false → o ≡ None
none-by None h = refl
none-by (Some x) h = absurd (true≢false h)

module _ {S : Type 0} (look : S → StoreView) where
  -- ---- rubbish

  -- a server with nothing to do has none
  idle-slot : (slot : Slot S) → has_work_at look slot ≡ false → HasNoRubbish look slot
  idle-slot (Up p) h =
      let v = view_with look p in
      let none = nothing (memory_of v) (state v.storage) (room_of v.storage) (none-by (work_of v) h) in
      empty-by v.storage.accounts.rubbish none.1
  idle-slot (Down s) h = tt
  idle-slot Gone h = tt

  pub rested-clean : {A E : Type 0} (device : S → DeviceState) (r : Result A E) (net : Carried) (ps : List (Place S)) → OnOk r (IsAtRest look device net ps) → OnOk r (AreClean look ps)
  rested-clean device (Ok x) net ps h = all-by (λ (p : Place S). HasNoRubbish look p.slot) ps (λ n p e. let one = h.idle n p (slice_get_within ps n p e) e in idle-slot p.slot one.idle)
  rested-clean device (Err x) net ps h = tt

  -- so many were scrubbed
  pub images-none : (ps : List (Place S)) (n : ℕ) (p : Place S) → n < 0 → slice_get ps n ≡ Some p → HoldsImageAt look n p
  images-none ps n p less e = absurd (omega (arith, less))

  pub images-more : (s : ℕ) (before after : List (Place S)) → ((n : ℕ) (p : Place S) → n < s → slice_get before n ≡ Some p → HoldsImageAt look n p) → IsScrubbedAt look s before after
      → (n : ℕ) (p : Place S) → n < s + 1 → slice_get after n ≡ Some p → HoldsImageAt look n p
  images-more s before after h one n p less e = by (either n s less)
    where
      by : (n ≡ s) ⊎ (n < s) → HoldsImageAt look n p
      by (inl g) = subst (λ (k : ℕ). HoldsImageAt look k p) (sym g) (one.here p (subst (λ (k : ℕ). slice_get after k ≡ Some p) g e))
      by (inr g) = h n p g (sym (one.others n (λ z. omega (arith, z, g))) ∙ e)

  pub images-all : (s : ℕ) (ps : List (Place S)) → length ps ≤ s → ((n : ℕ) (p : Place S) → n < s → slice_get ps n ≡ Some p → HoldsImageAt look n p) → HoldImages look ps
  images-all s ps many h n p e = h n p (let low = slice_get_within ps n p e in omega (arith, low, many)) e

  module _ (device : S → DeviceState) (seen : (s : S) → look s ≡ pairs_view (device s)) (x : Setup) (w : Standing S) (m : Moment) (stands : Stands look device x w m) where
    pub given-image : (n : ℕ) (p : Place S) (s : S) → slice_get w.places n ≡ Some p → StandsOn p.slot s → HoldsImageAt look n p
        → IsSettledState (stable (m.state.course.world.found (record { 0 = n }))) → IsImage (record { 0 = n }) (x.counts (record { 0 = n })) (stable (m.state.course.world.found (record { 0 = n }))).files (pairs_view (device s))
    given-image n p s at its holds alone =
        let there = stands.places n p at in
        subst (λ (g : Counts). IsImage (record { 0 = n }) g (stable (m.state.course.world.found (record { 0 = n }))).files (pairs_view (device s))) (sym there.counts)
        (by p.slot there.stands its holds)
      where
        by : (a : Slot S) → StandsAt look device (counts_by p.counts) a (m.state.course.world.memory (record { 0 = n })) (m.state.course.world.found (record { 0 = n })) (m.devices (record { 0 = n }))
            → StandsOn a s → HoldsImage look (record { 0 = n }) (counts_by p.counts) a → IsImage (record { 0 = n }) (counts_by p.counts) (stable (m.state.course.world.found (record { 0 = n }))).files (pairs_view (device s))
        by (Up a) st is image =
            let same : stable (m.state.course.world.found (record { 0 = n })) ≡ state (view_with look a).storage = ap stable st.1 in
            subst (λ (v : StoreView). IsImage (record { 0 = n }) (counts_by p.counts) (stable (m.state.course.world.found (record { 0 = n }))).files v) (ap look (sym is) ∙ seen s)
            (subst (λ (y : StableState). IsImage (record { 0 = n }) (counts_by p.counts) y.files (look a.storage.0)) (sym same)
            (image (files-alone look (state (view_with look a).storage) (stable (m.state.course.world.found (record { 0 = n }))) same alone)))
        by (Down t) st is image = absurd image
        by Gone st is image = absurd image
