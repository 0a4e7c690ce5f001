-- While no fault waits: servers go down and come up, one after another.
use Rattle.jn_events.proofs.Common.{slice_get-get_or, same_Some, ServerNo, DeviceState, disarmed, AreDown, IsRisen, has_come, Befell, ComesCalm, IsCalmAt, IsRestart, is_up, Place, Restarted, Slot, Up, Down, Gone, Counts, counts_by, PageCounts, Line, When, pairs_view, StoreView, all-at, get-other, get-same, IsUpAndCalm, AreUpAndCalm, StayUp, AreQuiet, IsTakenDown, IsQuietAt, is_up_at, is_up_in, World, AreDisarmed, ◌≡◌, Some, ℕ, [], ◌∷◌, get_or, ◌<◌, true, length, Option, ◌∙◌, ap, arith, Ok, Err, false, ◌+◌, inl, inr, ◌≤◌, None, refl, true≢false, sym, subst, set, All-nil, All-from_get_or, slice_get_within, All, OnOk, ◌⊎◌, with_item}
use Rattle.jn_events.proofs.Finishing.{either}
use Rattle.jn_events.proofs.Pushed.{StandFor}
use Rattle.std.proofs.Common.{List, slice_get, Result}
use Rattle.jn_place.specs.declared.place.Restarted.TheVariants as came

-- ---- all of a list

pub all-by : {A : Type 0} (P : A → Type 0) (xs : List A) → ((n : ℕ) (x : A) → slice_get xs n ≡ Some x → P x) → All P xs
all-by P [] h = All-nil P
all-by P (x ∷ xs) h = All-from_get_or P (x ∷ xs) x (λ i within. h i (get_or (x ∷ xs) i x) (slice_get-get_or (x ∷ xs) i x within))

module _ {S : Type 0} (look : S → StoreView) where
  -- each of them is up
  pub up-of-all : (ps : List (Place S)) (n : ℕ) → n < length ps → AreUpAndCalm look ps → is_up_at n ps ≡ true
  up-of-all [] n within all = absurd (omega (arith, within))
  up-of-all (p ∷ ps) n within all =
      let at = slice_get-get_or (p ∷ ps) n p within in
      let own = all-at (λ (x : Place S). IsUpAndCalm look x) (p ∷ ps) n (get_or (p ∷ ps) n p) all at in
      ap (λ (o : Option (Place S)). is_up_in o) at ∙ own.up

  pub stay-then : {A E : Type 0} (a b c : List (Place S)) (r : Result A E) → StayUp look a b → OnOk r (StayUp look b c) → OnOk r (StayUp look a c)
  stay-then a b c (Ok x) h k = λ all. k (h all)
  stay-then a b c (Err e) h k = tt

  pub stay-to : {A E : Type 0} (a b : List (Place S)) (r : Result A E) → AreUpAndCalm look a → OnOk r (StayUp look a b) → OnOk r (AreUpAndCalm look b)
  stay-to a b (Ok x) h k = k h
  stay-to a b (Err e) h k = tt

  pub rise-to : {A E : Type 0} (a b : List (Place S)) (r : Result A E) → AreQuiet look a → OnOk r (AreQuiet look a → AreUpAndCalm look b) → OnOk r (AreUpAndCalm look b)
  rise-to a b (Ok x) h k = k h
  rise-to a b (Err e) h k = tt

-- one that is down already
pub down-there : {S : Type 0} (ps : List (Place S)) (n : ℕ) → is_up_at n ps ≡ false → IsTakenDown n ps ps
down-there ps n down = record { down = down; others = λ i was. was }

-- so many are down, and one more
pub down-none : {S : Type 0} (ps : List (Place S)) (i : ℕ) → i < 0 → is_up_at i ps ≡ false
down-none ps i less = absurd (omega (arith, less))

pub down-more : {S : Type 0} (s : ℕ) (ps qs : List (Place S)) → ((i : ℕ) → i < s → is_up_at i ps ≡ false) → IsTakenDown s ps qs → (i : ℕ) → i < s + 1 → is_up_at i qs ≡ false
down-more s ps qs before taken i less = by (either i s less)
  where
    by : (i ≡ s) ⊎ (i < s) → is_up_at i qs ≡ false
    by (inl e) = ap (λ (k : ℕ). is_up_at k qs) e ∙ taken.down
    by (inr l) = taken.others i (before i l)

pub down-all : {S : Type 0} (s : ℕ) (ps : List (Place S)) → length ps ≤ s → ((i : ℕ) → i < s → is_up_at i ps ≡ false) → AreDown ps
down-all {S} s ps many below n = by (slice_get ps n) refl
  where
    by : (o : Option (Place S)) → slice_get ps n ≡ o → is_up_at n ps ≡ false
    by None e = ap (λ (x : Option (Place S)). is_up_in x) e
    by (Some p) e = below n (let within = slice_get_within ps n p e in omega (arith, within, many))

-- the stores that a world begins with
pub stand-down : {S : Type 0} (stores : List (S × PageCounts)) (ps : List (Place S)) → StandFor stores ps → AreDown ps
stand-down {S} stores ps stand n = by (slice_get ps n) refl
  where
    by : (o : Option (Place S)) → slice_get ps n ≡ o → is_up_at n ps ≡ false
    by None e = ap (λ (x : Option (Place S)). is_up_in x) e
    by (Some p) e = let one = stand n p e in ap (λ (x : Option (Place S)). is_up_in x) e ∙ ap (λ (x : Place S). is_up x.slot) one.is

module _ {S : Type 0} (look : S → StoreView) (device : S → DeviceState) (seen : (s : S) → look s ≡ pairs_view (device s)) where
  none-waits : (s : S) (d : DeviceState) → device s ≡ disarmed d → (look s).waiting ≡ []
  none-waits s d e = ap (λ (v : StoreView). v.waiting) (seen s) ∙ ap (λ (x : DeviceState). x.waiting) e

  quiet-slot : (g : Counts) (a b : Slot S) → Befell look device g (λ d e. e ≡ disarmed d) a b → IsQuietAt look b
  quiet-slot g (Up p) (Up q) h = none-waits q.storage.0 (device p.storage.0) h.1
  quiet-slot g (Up p) (Down t) h = absurd h
  quiet-slot g (Up p) Gone h = absurd h
  quiet-slot g (Down s) (Down t) h = none-waits t (device s) h.1
  quiet-slot g (Down s) (Up q) h = absurd h
  quiet-slot g (Down s) Gone h = absurd h
  quiet-slot g Gone b h = absurd h

  -- where all are disarmed
  pub quiet-disarmed : (ps qs : List (Place S)) → AreDisarmed look device ps qs → AreQuiet look qs
  quiet-disarmed ps qs h = all-by (λ (p : Place S). IsQuietAt look p.slot) qs each
    where
      each : (n : ℕ) (q : Place S) → slice_get qs n ≡ Some q → IsQuietAt look q.slot
      each n q e =
          let many = h.as_many in
          let low = slice_get_within qs n q e in
          let within : n < length ps = omega (arith, low, many) in
          let p = get_or ps n q in
          let one = h.each n p q (slice_get-get_or ps n q within) e in
          quiet-slot (counts_by p.counts) p.slot q.slot one.befell

  -- ---- coming up

  comes-up : (q : ServerNo) (g : Counts) (when : When) (a b : Slot S) (r : Restarted) (lines now : List Line) → is_up a ≡ false → true ≡ has_come r → ComesCalm look a r b → IsRestart look device q g when a r b lines now
      → IsQuietAt look a → (is_up b ≡ true) × IsCalmAt look b
  comes-up q g when (Up p) b r lines now down has calm restart quiet = absurd (true≢false down)
  comes-up q g when Gone b r lines now down has calm restart quiet = absurd quiet
  comes-up q g when (Down s) (Up p) (came.Up epoch tids) lines now down has calm restart quiet = let end = calm quiet in (refl, end.1)
  comes-up q g when (Down s) (Down t) (came.Up epoch tids) lines now down has calm restart quiet = absurd restart.came
  comes-up q g when (Down s) Gone (came.Up epoch tids) lines now down has calm restart quiet = absurd restart.came
  comes-up q g when (Down s) b came.Stopped lines now down has calm restart quiet = let end = calm quiet in absurd (true≢false end.0)
  comes-up q g when (Down s) b came.UsedUp lines now down has calm restart quiet = absurd (true≢false has)

  pub risen-set : (q : ServerNo) (g : Counts) (when : When) (ps : List (Place S)) (i : ℕ) (p new : Place S) (r : Restarted) (lines now : List Line) → i ≡ q.0 → slice_get ps q.0 ≡ Some p → is_up p.slot ≡ false → true ≡ has_come r
      → ComesCalm look p.slot r new.slot → IsRestart look device q g when p.slot r new.slot lines now → IsRisen look q.0 ps (set ps i new)
  risen-set q g when ps i p new r lines now index at down has calm restart = subst (λ (k : ℕ). IsRisen look q.0 ps (set ps k new)) (sym index) (record {
    here = here;
    others = λ j differs. get-other ps q.0 j new differs;
  })
    where
      here : (a b : Place S) → slice_get ps q.0 ≡ Some a → slice_get (set ps q.0 new) q.0 ≡ Some b → IsQuietAt look a.slot → IsUpAndCalm look b
      here a b e f quiet =
          let first = same_Some a p (sym e ∙ at) in
          let second = same_Some new b (sym (get-same ps q.0 new (slice_get_within ps q.0 p at)) ∙ f) in
          let up = comes-up q g when p.slot new.slot r lines now down has calm restart (subst (λ (x : Place S). IsQuietAt look x.slot) first quiet) in
          subst (λ (x : Place S). IsUpAndCalm look x) second (record { up = up.0; calm = up.1 })

-- so many came up
pub record RisenTo {S : Type 0} (look : S → StoreView) (s : ℕ) (before after : List (Place S)) : Type 0 where
  pub each : AreQuiet look before → (n : ℕ) (p : Place S) → n < s → slice_get after n ≡ Some p → IsUpAndCalm look p
  pub rest : (n : ℕ) → s ≤ n → slice_get after n ≡ slice_get before n

module _ {S : Type 0} (look : S → StoreView) where
  pub risen-none : (ps : List (Place S)) → RisenTo look 0 ps ps
  risen-none ps = record { each = λ quiet n p less e. absurd (omega (arith, less)); rest = λ n h. refl }

  -- one that hasn't come up yet is down
  pub still-down : (s : ℕ) (before after : List (Place S)) → RisenTo look s before after → AreDown before → is_up_at s after ≡ false
  still-down s before after h down = ap (λ (o : Option (Place S)). is_up_in o) (h.rest s (omega arith)) ∙ down s

  pub risen-more : (s : ℕ) (before mid after : List (Place S)) → s < length mid → RisenTo look s before mid → IsRisen look s mid after → RisenTo look (s + 1) before after
  risen-more s before mid after within h risen = record {
    each = each;
    rest = λ n k. risen.others n (λ e. omega (arith, e, k)) ∙ h.rest n (omega (arith, k));
  }
    where
      each : AreQuiet look before → (n : ℕ) (p : Place S) → n < s + 1 → slice_get after n ≡ Some p → IsUpAndCalm look p
      each quiet n p less e = by (either n s less)
        where
          own : (d : Place S) → slice_get mid s ≡ Some d → slice_get after s ≡ Some p → IsUpAndCalm look p
          own d at f = risen.here d p at f (all-at (λ (x : Place S). IsQuietAt look x.slot) before s d quiet (sym (h.rest s (omega arith)) ∙ at))

          some-there : (xs : List (Place S)) (k : ℕ) → k < length xs → (d : Place S) × (slice_get xs k ≡ Some d)
          some-there [] k l = absurd (omega (arith, l))
          some-there (x ∷ xs) k l = (get_or (x ∷ xs) k x, slice_get-get_or (x ∷ xs) k x l)

          by : (n ≡ s) ⊎ (n < s) → IsUpAndCalm look p
          by (inl g) = let there = some-there mid s within in own there.0 there.1 (subst (λ (k : ℕ). slice_get after k ≡ Some p) g e)
          by (inr g) = h.each quiet n p g (sym (risen.others n (λ z. omega (arith, z, g))) ∙ e)

  pub risen-all : (s : ℕ) (before after : List (Place S)) → length after ≤ s → RisenTo look s before after → AreQuiet look before → AreUpAndCalm look after
  risen-all s before after many h quiet = all-by (λ (x : Place S). IsUpAndCalm look x) after (λ n p e. h.each quiet n p (let low = slice_get_within after n p e in omega (arith, low, many)) e)

  pub risen-by : (a b : World S) (n i : ℕ) (new : Place S) → b.places ≡ with_item a.places i new → IsRisen look n a.places.items (set a.places.items i new) → IsRisen look n a.places.items b.places.items
  risen-by a b n i new places h = subst (λ (qs : List (Place S)). IsRisen look n a.places.items qs) (sym (ap (λ (v : _). v.items) places)) h
