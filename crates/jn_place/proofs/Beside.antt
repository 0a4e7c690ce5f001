-- What calls of a server leave beside files, works and flags, and that a scrub leaves an image.
use Rattle.jn_place.proofs.Common.{◌≡◌, ℕ, Bool, true, false, Option, Some, Ok, refl, sym, ◌∙◌, ap, subst, ServerNo, DeviceState, cleared, Scrubbed, counts_in, Message, Collected, Memory, Counts, RowOutcome, Befalls, Steps, ServerView, Parts, view_with, state, CountsErased, Accounts, pairs_view, StoreView, Slot, Up, Down, Gone, WhereUp, TakeLeaves, WorkLeaves, KeepsBeside, LeavesImage, work_of, WhereDone, IsAsBefore, Follows, LeavesOwnImage, Stands, IsClean, IsWholePage, LeavesClean, beside_of, LeavesByWork}
use Rattle.jn_order.specs.Files.{Files}
use Rattle.jn_page_state.specs.Images.{IsImage}
use Rattle.jn_place.proofs.Calling.{was-done}
use Rattle.jn_place.proofs.Ending.{Sees}

-- what holds before and after a call holds once its faults are reported
abbrev pub Outlasts : {S : Type 0} → (S → StoreView) → (S → DeviceState) → (ServerView → ServerView → Type 0) → Type 0
Outlasts {S} look device so = (v : ServerView) (m b : Parts S) → IsAsBefore look m b → device b.storage.0 ≡ cleared (device m.storage.0) → so v (view_with look m) → so v (view_with look b)

module _ {S : Type 0} (look : S → StoreView) where
  -- ---- the server's own call

  pub up-so : (so : ServerView → ServerView → Type 0) (a : Slot S) (p q : Parts S) → a ≡ Up p → so (view_with look p) (view_with look q) → WhereUp look so a (Up q)
  up-so so a p q is h = subst (λ (x : Slot S). WhereUp look so x (Up q)) (sym is) h

  pub down-so : (so : ServerView → ServerView → Type 0) (a : Slot S) (s : S) → WhereUp look so a (Down s)
  down-so so (Up p) s = tt
  down-so so (Down t) s = tt
  down-so so Gone s = tt

  pub works-leave : (a : Slot S) (p q : Parts S) (before after : Collected) (done : Bool) → a ≡ Up p → Steps (work_of (view_with look p)) (view_with look p) before (Ok done) (view_with look q) after
      → (done ≡ true → (row : RowOutcome Memory) → work_of (view_with look p) ≡ Some row → LeavesByWork (view_with look p) row (view_with look q)) → WhereUp look WorkLeaves a (Up q)
  works-leave a p q before after done is h left = up-so WorkLeaves a p q is (λ row e. let s = subst (λ (o : Option (RowOutcome Memory)). Steps o (view_with look p) before (Ok done) (view_with look q) after) e h in (s.2 refl, left (was-done look row p q before after done s) row e))

  pub keeps-so : (a : Slot S) (p q : Parts S) → a ≡ Up p → (view_with look q).storage.accounts ≡ (view_with look p).storage.accounts → WhereUp look KeepsBeside a (Up q)
  keeps-so a p q is e = up-so KeepsBeside a p q is (ap beside_of e)

  pub befell-keeps : (a : Slot S) (p q : Parts S) → a ≡ Up p → Befalls (view_with look p) (view_with look q) → WhereUp look KeepsBeside a (Up q)
  befell-keeps a p q is h = keeps-so a p q is h.storage.same

  pub scrubs-image : (a : Slot S) (p q : Parts S) → a ≡ Up p → Scrubbed (view_with look p).storage true (view_with look q).storage → WhereUp look LeavesOwnImage a (Up q)
  scrubs-image a p q is h = up-so LeavesOwnImage a p q is (λ calm idle. h.image calm idle)

  pub scrubs-clean : (a : Slot S) (p q : Parts S) → a ≡ Up p → Scrubbed (view_with look p).storage true (view_with look q).storage → WhereUp look LeavesClean a (Up q)
  scrubs-clean a p q is h = up-so LeavesClean a p q is (record { clean = h.clean refl; whole = h.whole })

  -- ---- with what follows it

  module _ (device : S → DeviceState) where
    pub left-up : (so : ServerView → ServerView → Type 0) → Outlasts look device so → (a m b : Slot S) (done : Bool) → WhereDone look so a done m → Follows look device m done b → WhereUp look so a b
    left-up so lasts (Up p) (Up m) (Up b) true h f = lasts (view_with look p) m b f.0 f.1 h
    left-up so lasts (Up p) (Up m) (Up b) false h f = absurd f
    left-up so lasts (Up p) (Up m) (Down s) done h f = tt
    left-up so lasts (Up p) (Up m) Gone done h f = tt
    left-up so lasts (Up p) (Down t) b done h f = absurd f
    left-up so lasts (Up p) Gone b done h f = absurd f
    left-up so lasts (Down s) m b done h f = tt
    left-up so lasts Gone m b done h f = tt

    pub take-lasts : (message : Message) → Outlasts look device (TakeLeaves message)
    take-lasts message v m b same after h = ap beside_of same.accounts ∙ h

    pub work-lasts : Outlasts look device WorkLeaves
    work-lasts v m b same after h row is =
        let leaves = h row is in (
          (
            λ none. subst (λ (a : Accounts). CountsErased v.storage.accounts a) (sym same.accounts) (leaves.0.0 none),
            λ c one. ap beside_of same.accounts ∙ leaves.0.1 c one,
          ),
          ap beside_of same.accounts ∙ leaves.1,
        )

    pub keeps-lasts : Outlasts look device KeepsBeside
    keeps-lasts v m b same after h = ap beside_of same.accounts ∙ h

    clean-left : Sees look device → (i : ℕ) (s t : S) → device t ≡ cleared (device s) → IsClean (look s) i → IsClean (look t) i
    clean-left sees i s t after h = subst (λ (v : StoreView). IsClean v i) (sym (sees t)) (subst (λ (d : DeviceState). IsClean (pairs_view d) i) (sym after) (subst (λ (v : StoreView). IsClean v i) (sees s) h))

    whole-left : Sees look device → (i : ℕ) (s t : S) → device t ≡ cleared (device s) → IsWholePage (look s) i → IsWholePage (look t) i
    whole-left sees i s t after h =
        let at-s : IsWholePage (pairs_view (device s)) i = subst (λ (v : StoreView). IsWholePage v i) (sees s) h in
        subst (λ (v : StoreView). IsWholePage v i) (sym (sees t)) (subst (λ (d : DeviceState). IsWholePage (pairs_view d) i) (sym after) (record { both = at-s.both; clean = at-s.clean }))

    pub clean-lasts : Sees look device → Outlasts look device LeavesClean
    clean-lasts sees v m b same after h = record {
      clean = λ i below. clean-left sees i m.storage.0 b.storage.0 after (h.clean i below);
      whole = λ calm i below. whole-left sees i m.storage.0 b.storage.0 after (h.whole calm i below);
    }

    cleared-image : (q : ServerNo) (g : Counts) (files : Files) (d : DeviceState) → IsImage q g files (pairs_view d) → IsImage q g files (pairs_view (cleared d))
    cleared-image q g files d h = record { sound = h.sound; fit = h.fit; same_files = h.same_files }

    image-left : Sees look device → (q : ServerNo) (g : Counts) (files : Files) (s t : S) → device t ≡ cleared (device s) → IsImage q g files (look s) → IsImage q g files (look t)
    image-left sees q g files s t after h =
        let at-s : IsImage q g files (pairs_view (device s)) = subst (IsImage q g files) (sees s) h in
        subst (IsImage q g files) (sym (sees t)) (subst (λ (d : DeviceState). IsImage q g files (pairs_view d)) (sym after) (cleared-image q g files (device s) at-s))

    pub image-lasts : Sees look device → Outlasts look device LeavesOwnImage
    image-lasts sees v m b same after h calm idle = image-left sees v.storage.accounts.server (counts_in v.storage.accounts) (state v.storage).files m.storage.0 b.storage.0 after (h calm idle)

  -- of the server at this place
  pub its-image : (q : ServerNo) (g : Counts) (most : ℕ) (a b : Slot S) → Stands look q g most a → WhereUp look LeavesOwnImage a b → WhereUp look (LeavesImage q g) a b
  its-image q g most (Up p) (Up p') h left = λ calm idle.
      let v = view_with look p in
      subst (λ (n : ServerNo). IsImage n g (state v.storage).files (look p'.storage.0)) h.its (subst (λ (k : Counts). IsImage v.storage.accounts.server k (state v.storage).files (look p'.storage.0)) h.counts (left calm idle))
  its-image q g most (Up p) (Down s) h left = tt
  its-image q g most (Up p) Gone h left = tt
  its-image q g most (Down s) b h left = tt
  its-image q g most Gone b h left = tt
