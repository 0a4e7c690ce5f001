-- What befalls the device of a server, and how servers go down and come up.
use Rattle.jn_place.proofs.Common.{◌≡◌, ℕ, true, [], sym, ◌∙◌, ap, subst, ServerNo, DeviceState, same_recoverable, IsRecoverable, Counts, counts_by, PageCounts, pairs_view, StoreView, HasSamePages, Place, Slot, Up, Down, Gone, LeavesStore, HoldsUp, Stands, NoneTold, IsPlace, IsDownAt, CountsAt, Parts, ServerView, view_with, Befalls, IsHeld, Accounts, counts_in}
use Rattle.jn_server.specs.Reading.{StandsOnPages}
use Rattle.jn_place.proofs.Steps.{down-stands}

-- what a device has reported is what its store has
pub told-still : {S : Type 0} (look : S → StoreView) (device : S → DeviceState) (s t : S) → look s ≡ pairs_view (device s) → look t ≡ pairs_view (device t) → (device t).told ≡ (device s).told → (look t).told ≡ (look s).told
told-still look device s t at-s at-t same = ap (λ (v : StoreView). v.told) at-t ∙ same ∙ sym (ap (λ (v : StoreView). v.told) at-s)

pub down-at : {S : Type 0} (look : S → StoreView) (server : ServerNo) (g : Counts) (a : Slot S) (s : S) → a ≡ Down s → IsDownAt look server g a → IsRecoverable server g (look s)
down-at {S} look server g a s is h = subst (λ (x : Slot S). IsDownAt look server g x) is h

stands-at : {S : Type 0} (look : S → StoreView) (server : ServerNo) (g : Counts) (most : ℕ) (a : Slot S) (s : S) → a ≡ Down s → Stands look server g most a → IsRecoverable server g (look s)
stands-at {S} look server g most a s is h = subst (λ (x : Slot S). Stands look server g most x) is h

told-at : {S : Type 0} (look : S → StoreView) (a : Slot S) (s : S) → a ≡ Down s → NoneTold look a → (look s).told ≡ []
told-at {S} look a s is h = subst (λ (x : Slot S). NoneTold look x) is h

pub befallen-down : {S : Type 0} (look : S → StoreView) (server : ServerNo) (most : ℕ) (p : Place S) (s t : S) → p.slot ≡ Down s → HasSamePages (look s) (look t) → (look t).told ≡ (look s).told
    → IsPlace look server most p → IsPlace look server most (record { counts = p.counts; slot = Down t })
befallen-down look server most p s t is pages told h = record {
  stands = same_recoverable (look s) (look t) pages server (counts_by p.counts) (stands-at look server (counts_by p.counts) most p.slot s is h.stands);
  told = told ∙ told-at look p.slot s is h.told;
  counted = tt;
}

held-still : (server : ServerNo) (g : Counts) (most : ℕ) (v w : ServerView) → Befalls v w → IsHeld server g most true v → IsHeld server g most true w
held-still server g most v w h k = record {
  its = ap (λ (a : Accounts). a.server) h.storage.same ∙ k.its;
  counts = ap counts_in h.storage.same ∙ k.counts;
  size = k.size ∙ sym h.storage.pages.count;
  serves = λ t. h.serves (k.serves t);
  names = λ t. rw (ap (λ (y : ServerView). y.tickets.next) h.tables) (k.names t);
}

pub befallen-up : {S : Type 0} (look : S → StoreView) (server : ServerNo) (most : ℕ) (p : Place S) (a b : Parts S) → p.slot ≡ Up a → Befalls (view_with look a) (view_with look b)
    → (look b.storage.0).told ≡ (look a.storage.0).told → StandsOnPages (view_with look b) → IsPlace look server most p → IsPlace look server most (record { counts = p.counts; slot = Up b })
befallen-up {S} look server most p a b is befalls told counted h = record {
  stands = held-still server (counts_by p.counts) most (view_with look a) (view_with look b) befalls (subst (λ (x : Slot S). Stands look server (counts_by p.counts) most x) is h.stands);
  told = told ∙ subst (λ (x : Slot S). NoneTold look x) is h.told;
  counted = counted;
}

-- what was reported is forgotten
pub cleared-down : {S : Type 0} (look : S → StoreView) (server : ServerNo) (most : ℕ) (p : Place S) (s t : S) → p.slot ≡ Down s → HasSamePages (look s) (look t) → (look t).told ≡ []
    → Stands look server (counts_by p.counts) most p.slot → IsPlace look server most (record { counts = p.counts; slot = Down t })
cleared-down look server most p s t is pages told h = record {
  stands = same_recoverable (look s) (look t) pages server (counts_by p.counts) (stands-at look server (counts_by p.counts) most p.slot s is h);
  told = told;
  counted = tt;
}

-- ---- going down

left-told : {S : Type 0} (look : S → StoreView) (a b : Slot S) → LeavesStore a b → NoneTold look a → NoneTold look b
left-told look (Up p) (Down s) e h = ap (λ x. (look x).told) e ∙ h
left-told look (Up p) (Up q) e h = absurd e
left-told look (Up p) Gone e h = absurd e
left-told look (Down s) b e h = absurd e
left-told look Gone b e h = absurd e

up-held : {S : Type 0} (look : S → StoreView) (server : ServerNo) (g : Counts) (most : ℕ) (a b : Slot S) → LeavesStore a b → Stands look server g most a → HoldsUp look server g most true a
up-held look server g most (Up p) b e h = h
up-held look server g most (Down s) b e h = absurd e
up-held look server g most Gone b e h = absurd e

down-counts : {S : Type 0} (look : S → StoreView) (server : ServerNo) (g : Counts) (a : Slot S) → IsDownAt look server g a → CountsAt look a
down-counts look server g (Up p) h = absurd h
down-counts look server g (Down s) h = tt
down-counts look server g Gone h = tt

-- a crash: from a place to what is left there, and then without power
pub crashed : {S : Type 0} (look : S → StoreView) (server : ServerNo) (most : ℕ) (p q r : Place S) → IsPlace look server most p → LeavesStore p.slot q.slot
    → (HoldsUp look server (counts_by p.counts) most true p.slot → IsDownAt look server (counts_by p.counts) q.slot) → q.counts ≡ p.counts
    → (IsDownAt look server (counts_by q.counts) q.slot → IsDownAt look server (counts_by q.counts) r.slot) → (NoneTold look q.slot → NoneTold look r.slot) → r.counts ≡ q.counts
    → IsPlace look server most r
crashed look server most p q r h left down q-counts off told r-counts =
    let at-q : IsDownAt look server (counts_by q.counts) q.slot =
    subst (λ (k : PageCounts). IsDownAt look server (counts_by k) q.slot) (sym q-counts) (down (up-held look server (counts_by p.counts) most p.slot q.slot left h.stands)) in
    let at-r : IsDownAt look server (counts_by r.counts) r.slot = subst (λ (k : PageCounts). IsDownAt look server (counts_by k) r.slot) (sym r-counts) (off at-q) in
    record {
      stands = down-stands look server (counts_by r.counts) most r.slot at-r;
      told = told (left-told look p.slot q.slot left h.told);
      counted = down-counts look server (counts_by r.counts) r.slot at-r;
    }
