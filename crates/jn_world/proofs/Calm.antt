-- While no fault waits: a call leaves servers up, and a crash takes one down.
use Rattle.jn_world.proofs.Common.{DeviceState, StaysCalm, Crashed, is_up, Place, Slot, Up, Down, Gone, Counts, pairs_view, StoreView, IsUpAndCalm, StayUp, AreUpAndCalm, IsTakenDown, IsQuietAt, AreQuiet, is_up_at, is_up_in, World, ◌≡◌, ℕ, Some, subst, Bool, true, sym, Ok, Err, ◌<◌, zero, suc, false, [], ◌∷◌, length, Option, ◌∙◌, ap, refl, set, All-get_or, All-set, slice_get_within, get_or_from_slice_get, All, OnOk, with_item}
use Rattle.jn_world.proofs.Places.{get-same}
use Rattle.std.proofs.Common.{List, slice_get, Result}

-- what holds of all holds of the one that a list reads, and the other way round
pub all-at : {A : Type 0} (P : A → Type 0) (xs : List A) (n : ℕ) (x : A) → All P xs → slice_get xs n ≡ Some x → P x
all-at P xs n x h e = subst P (get_or_from_slice_get xs n x x e) (All-get_or P xs n x (slice_get_within xs n x e) h)

module _ {S : Type 0} (look : S → StoreView) where
  -- a place that is read is written again
  pub stay-set : (ps : List (Place S)) (i : ℕ) (p q : Place S) (done : Bool) → slice_get ps i ≡ Some p → StaysCalm look p.slot done q.slot → StayUp look ps (set ps i q)
  stay-set ps i p q done at stays all =
      let own = all-at (λ (x : Place S). IsUpAndCalm look x) ps i p all at in
      let now = stays own.calm in
      All-set (λ (x : Place S). IsUpAndCalm look x) ps i q (record { up = now.1; calm = now.2 }) all

  -- and it is up
  pub stays-up : (ps : List (Place S)) (i : ℕ) (p q : Place S) (done : Bool) → slice_get ps i ≡ Some p → StaysCalm look p.slot done q.slot → AreUpAndCalm look ps → is_up q.slot ≡ true
  stays-up ps i p q done at stays all = let own = all-at (λ (x : Place S). IsUpAndCalm look x) ps i p all at in let now = stays own.calm in now.1

  -- ---- calls one after another

  pub stay : (ps qs : List (Place S)) → qs ≡ ps → StayUp look ps qs
  stay ps qs same all = subst (λ (xs : List (Place S)). AreUpAndCalm look xs) (sym same) all

  pub stay-here : {A E : Type 0} (a b : List (Place S)) (r : Result A E) → StayUp look a b → OnOk r (StayUp look a b)
  stay-here a b (Ok x) h = h
  stay-here a b (Err e) h = tt

-- ---- going down

pub down-set : {S : Type 0} (ps : List (Place S)) (i n : ℕ) (q : Place S) → i ≡ n → n < length ps → is_up q.slot ≡ false → IsTakenDown n ps (set ps i q)
down-set {S} ps i n q index within down = subst (λ (k : ℕ). IsTakenDown n ps (set ps k q)) (sym index) (record {
  down = ap (λ (o : Option (Place S)). is_up_in o) (get-same ps n q within) ∙ down;
  others = λ j was. by ps n j was;
})
  where
    by : (ps : List (Place S)) (n j : ℕ) → is_up_at j ps ≡ false → is_up_at j (set ps n q) ≡ false
    by [] n j was = was
    by (p ∷ ps) zero zero was = down
    by (p ∷ ps) zero (suc j) was = was
    by (p ∷ ps) (suc n) zero was = was
    by (p ∷ ps) (suc n) (suc j) was = by ps n j was

module _ {S : Type 0} (look : S → StoreView) (device : S → DeviceState) (seen : (s : S) → look s ≡ pairs_view (device s)) where
  -- a crash changes nothing of it
  quiet-crashed : (g : Counts) (a b : Slot S) → Crashed look device g a b → IsQuietAt look a → IsQuietAt look b
  quiet-crashed g (Up p) (Down s) h quiet =
      ap (λ (v : StoreView). v.waiting) (seen s) ∙ ap (λ (x : DeviceState). x.waiting) h.device_is ∙ sym (ap (λ (v : StoreView). v.waiting) (seen p.storage.0)) ∙ quiet
  quiet-crashed g (Up p) (Up q) h quiet = absurd h
  quiet-crashed g (Up p) Gone h quiet = absurd h
  quiet-crashed g (Down s) b h quiet = absurd h
  quiet-crashed g Gone b h quiet = absurd h

  pub quiet-set : (g : Counts) (ps : List (Place S)) (i n : ℕ) (p q : Place S) → i ≡ n → slice_get ps n ≡ Some p → Crashed look device g p.slot q.slot → AreQuiet look ps → AreQuiet look (set ps i q)
  quiet-set g ps i n p q index at crashed all = subst (λ (k : ℕ). AreQuiet look (set ps k q)) (sym index)
      (All-set (λ (x : Place S). IsQuietAt look x.slot) ps n q (quiet-crashed g p.slot q.slot crashed (all-at (λ (x : Place S). IsQuietAt look x.slot) ps n p all at)) all)

  crashed-down : (g : Counts) (a b : Slot S) → Crashed look device g a b → is_up b ≡ false
  crashed-down g (Up p) (Down s) h = refl
  crashed-down g (Up p) (Up q) h = absurd h
  crashed-down g (Up p) Gone h = absurd h
  crashed-down g (Down s) b h = absurd h
  crashed-down g Gone b h = absurd h

  pub taken-down : (g : Counts) (ps : List (Place S)) (i n : ℕ) (p q : Place S) → i ≡ n → n < length ps → Crashed look device g p.slot q.slot → IsTakenDown n ps (set ps i q)
  taken-down g ps i n p q index within crashed = down-set ps i n q index within (crashed-down g p.slot q.slot crashed)

module _ {S : Type 0} (look : S → StoreView) where
  -- no place becomes another
  pub stay-places : {A E : Type 0} (a b : World S) (r : Result A E) → b.places ≡ a.places → OnOk r (StayUp look a.places.items b.places.items)
  stay-places a b r same = stay-here look a.places.items b.places.items r (stay look a.places.items b.places.items (ap (λ (v : _). v.items) same))

  -- one place is written, after a call
  pub stay-put : (ps : List (Place S)) (n i : ℕ) (p q : Place S) (done : Bool) → i ≡ n → slice_get ps n ≡ Some p → StaysCalm look p.slot done q.slot → StayUp look ps (set ps i q)
  stay-put ps n i p q done index at stays = subst (λ (k : ℕ). StayUp look ps (set ps k q)) (sym index) (stay-set look ps n p q done at stays)

  pub stay-moved : {A E : Type 0} (a b : World S) (n i : ℕ) (p q : Place S) (done : Bool) (r : Result A E) → i ≡ n → slice_get a.places.items n ≡ Some p → StaysCalm look p.slot done q.slot → b.places ≡ with_item a.places i q
      → OnOk r (StayUp look a.places.items b.places.items)
  stay-moved a b n i p q done r index at stays places = stay-here look a.places.items b.places.items r
      (subst (λ (qs : List (Place S)). StayUp look a.places.items qs) (sym (ap (λ (v : _). v.items) places)) (stay-put a.places.items n i p q done index at stays))
