-- What a show and a scrub leave of images.
use Rattle.jn_world.proofs.Common.{same_Some, ServerNo, DeviceState, WhereUp, KeepsBeside, ScrubbedBy, LeavesImage, IsCalmAt, is_up, Place, Slot, Up, Down, Gone, Counts, counts_by, Line, When, view_with, state, StoreView, IsUpAndCalm, AreUpAndCalm, ◌≡◌, Some, [], ◌∷◌, length, refl, arith, true, true≢false, sym, ◌∙◌, ap, ℕ, subst, Bool, false, set, All-set, slice_get_within, List, slice_get}
use Rattle.jn_base.specs.declared.names.WorkId.{WorkId}
use Rattle.jn_order.specs.Files.{Files}
use Rattle.jn_page_state.specs.Images.{IsImage}
use Rattle.jn_rows.specs.Stable.{StableState}
use Rattle.jn_server.specs.Settled.{IsSettledState}
use Rattle.jn_worker.specs.Leaving.{Beside}
use Rattle.jn_world.proofs.Calm.{all-at}
use Rattle.jn_world.proofs.Places.{get-other, get-same}
use Rattle.jn_world.specs.Images.{HasNoRubbish, AreClean, StayClean, HoldsImage, HoldsImageAt, IsScrubbedAt}

no-length : (l : List WorkId) → length l ≡ 0 → l ≡ []
no-length [] e = refl
no-length (W ∷ l) e = absurd (omega (arith, e))

module _ {S : Type 0} (look : S → StoreView) where
  keeps-slot : (a b : Slot S) → WhereUp look KeepsBeside a b → is_up a ≡ true → HasNoRubbish look a → HasNoRubbish look b
  keeps-slot (Up p) (Up q) keeps up none = no-length (view_with look q).storage.accounts.rubbish (ap (λ (b : Beside). b.rubbish) keeps ∙ ap (λ (l : List WorkId). length l) none)
  keeps-slot a (Down s) keeps up none = tt
  keeps-slot a Gone keeps up none = tt
  keeps-slot (Down s) (Up q) keeps up none = absurd (true≢false (sym up))
  keeps-slot Gone (Up q) keeps up none = absurd (true≢false (sym up))

  -- a call of one that keeps it
  pub clean-put : (ps : List (Place S)) (n i : ℕ) (p q : Place S) → i ≡ n → slice_get ps n ≡ Some p → WhereUp look KeepsBeside p.slot q.slot → StayClean look ps (set ps i q)
  clean-put ps n i p q index at keeps calm all =
      let own = all-at (λ (x : Place S). IsUpAndCalm look x) ps n p calm at in
      subst (λ (k : ℕ). AreClean look (set ps k q)) (sym index)
      (All-set (λ (x : Place S). HasNoRubbish look x.slot) ps n q (keeps-slot p.slot q.slot keeps own.up (all-at (λ (x : Place S). HasNoRubbish look x.slot) ps n p all at)) all)

  -- ---- a scrub

  pub files-alone : (y z : StableState) → z ≡ y → IsSettledState z → IsSettledState y
  files-alone y z e h = subst (λ (x : StableState). IsSettledState x) e h

  module _ (device : S → DeviceState) (q : ServerNo) (g : Counts) (when : When) where
    scrubbed-slot : (a b : Slot S) (done : Bool) (first later : List Line) → ScrubbedBy look device q g when a done b first later → WhereUp look (LeavesImage q g) a b → is_up b ≡ true → IsCalmAt look a → HasNoRubbish look a → HoldsImage look q g b
    scrubbed-slot (Up p) (Up p') true first later scrubbed leaves up calm none = λ alone.
        let same : state (view_with look p').storage ≡ state (view_with look p).storage = scrubbed.ends.found (λ n. false) in
        let files = files-alone (state (view_with look p).storage) (state (view_with look p').storage) same alone in
        subst (λ (fs : Files). IsImage q g fs (look p'.storage.0)) (sym (ap (λ (x : StableState). x.files) same))
        (leaves calm (record { works = files.works; flags = files.flags; rubbish = none }))
    scrubbed-slot (Up p) (Up p') false first later scrubbed leaves up calm none = absurd scrubbed.ends
    scrubbed-slot (Up p) (Down s) done first later scrubbed leaves up calm none = absurd (true≢false (sym up))
    scrubbed-slot (Up p) Gone done first later scrubbed leaves up calm none = absurd (true≢false (sym up))
    scrubbed-slot (Down s) b done first later scrubbed leaves up calm none = absurd scrubbed
    scrubbed-slot Gone b done first later scrubbed leaves up calm none = absurd scrubbed

    pub scrubbed-put : (ps : List (Place S)) (i : ℕ) (p new : Place S) (first later : List Line) → i ≡ q.0 → slice_get ps q.0 ≡ Some p → new.counts ≡ p.counts → counts_by p.counts ≡ g
        → (done : Bool) × ScrubbedBy look device q g when p.slot done new.slot first later → WhereUp look (LeavesImage q g) p.slot new.slot → is_up new.slot ≡ true → AreUpAndCalm look ps → AreClean look ps → IsScrubbedAt look q.0 ps (set ps i new)
    scrubbed-put ps i p new first later index at counts is scrubbed leaves up calm clean = subst (λ (k : ℕ). IsScrubbedAt look q.0 ps (set ps k new)) (sym index) (record {
      here = λ b e.
          let same = same_Some new b (sym (get-same ps q.0 new (slice_get_within ps q.0 p at)) ∙ e) in
          let own = all-at (λ (x : Place S). IsUpAndCalm look x) ps q.0 p calm at in
          subst (λ (x : Place S). HoldsImageAt look q.0 x) same
          (subst (λ (n : Counts). HoldsImage look q n new.slot) (sym (ap counts_by counts ∙ is))
          (scrubbed-slot p.slot new.slot scrubbed.0 first later scrubbed.1 leaves up own.calm (all-at (λ (x : Place S). HasNoRubbish look x.slot) ps q.0 p clean at)));
      others = λ j differs. get-other ps q.0 j new differs;
    })
