-- A block is a bucket exactly where its places are, one after another.
use Rattle.std.proofs.Common.{◌≡◌, ℕ, zero, suc, ◌+◌, ◌-◌, ◌*◌, ◌≤◌, ◌<◌, Bool, true, false, not, List, [], ◌++◌, length, take, drop, replicate, Option, Some, None, refl, sym, ◌∙◌, ap, arith, length-drop}
use Rattle.std.specs.Prelude.{bytes_eq, ◌&&◌, is_some, is_none, nat_eq, if◌then◌else◌}
use Rattle.jn_base.specs.declared.names.FileNo.{FileNo}
use Rattle.jn_base.specs.Names.{is_name}
use Rattle.jn_names.specs.Names.{bucket_of}
use Rattle.jn_names.specs.Buckets.{Slot, slot_bytes, slots_bytes, slot_front, slots_front, name_in, find_in, belongs, all_belong}
unfoldable use Rattle.jn_names.specs.Buckets.{bucket_bytes, places_in, bucket_in}
use Rattle.jn_names.specs.Places.{is_place, is_only_place}
use Rattle.std.proofs.lemmas.List.{take-append-drop}
use Rattle.jn_names.proofs.Bytes.{length-slot, take-front, drop-front}
use Rattle.jn_names.proofs.Tests.{left, right, both, same-tests, eq-true, eq-of}

-- ---- one place

same-and : (a b : Bool) → (a && true) ≡ false → (a && b) ≡ false
same-and false b h = refl
same-and true b h = absurd (cc h)

and-true : (a b : Bool) → (a && true) ≡ true → (a && b) ≡ b
and-true true b h = refl
and-true false b h = absurd (cc h)

pub not-turned : (a b : Bool) → a ≡ not b → b ≡ not a
not-turned a true h = rw h refl
not-turned a false h = rw h refl

not-by : (a : Bool) (k : ℕ) (slot : Slot) (more : List Slot) → (a && belongs k slot []) ≡ false → (a && belongs k slot more) ≡ false
not-by false k slot more h = refl
not-by true k None more h = absurd (cc h)
not-by true k (Some e) more h = same-and (is_name e.name && nat_eq (bucket_of e.name) k) (is_none (find_in e.name more)) h

pub only-not : (k n : ℕ) (bytes : List ℕ) → is_place k bytes ≡ false → is_only_place k n bytes ≡ false
only-not k n bytes h = not-by (bytes_eq (take 69 bytes) (slot_bytes (slot_front bytes))) k (slot_front bytes) (slots_front n (drop 69 bytes)) h

found-by : (a : Bool) (k : ℕ) (slot : Slot) (more : List Slot) → (a && belongs k slot []) ≡ true → 1 ≤ length (name_in slot) → (a && belongs k slot more) ≡ is_none (find_in (name_in slot) more)
found-by false k slot more h some = absurd (cc h)
found-by true k None more h some = absurd (omega (arith, some))
found-by true k (Some e) more h some = and-true (is_name e.name && nat_eq (bucket_of e.name) k) (is_none (find_in e.name more)) h

pub only-found : (k n : ℕ) (bytes : List ℕ) → is_place k bytes ≡ true → 1 ≤ length (name_in (slot_front bytes)) → is_only_place k n bytes ≡ is_none (find_in (name_in (slot_front bytes)) (slots_front n (drop 69 bytes)))
only-found k n bytes h some = found-by (bytes_eq (take 69 bytes) (slot_bytes (slot_front bytes))) k (slot_front bytes) (slots_front n (drop 69 bytes)) h some

pub only-else : (k n : ℕ) (bytes name rest : List ℕ) (found : Option FileNo) (r : Bool) → is_place k bytes ≡ true → name ≡ name_in (slot_front bytes) → 1 ≤ length name
    → rest ≡ drop 69 bytes → found ≡ find_in name (slots_front n rest) → is_some found ≡ not r → r ≡ is_only_place k n bytes
only-else k n bytes name rest found r h e some d f g = not-turned (is_some found) r g ∙ rw (f, d, e) (sym (only-found k n bytes h (rw (← e) some)))

-- ---- all places

-- so many places of the bucket, and zeros behind them
abbrev pub are_places : ℕ → ℕ → List ℕ → Bool
are_places k zero bytes = bytes_eq bytes (replicate 34 0)
are_places k (suc n) bytes = is_only_place k n bytes && are_places k n (drop 69 bytes)

and-true-same : (a : Bool) → a ≡ (a && true)
and-true-same true = refl
and-true-same false = refl

-- one place in front of checked ones
module _ (k n : ℕ) (bytes : List ℕ) where
  abbrev slot : Slot
  slot = slot_front bytes

  abbrev more : List Slot
  more = slots_front n (drop 69 bytes)

  abbrev Behind : Type 0
  Behind = are_places k n (drop 69 bytes) ≡ (bytes_eq (drop 69 bytes) (slots_bytes more) && all_belong k more)

  forth : Behind → (is_only_place k n bytes && are_places k n (drop 69 bytes)) ≡ true → (bytes_eq bytes (slot_bytes slot ++ slots_bytes more) && (belongs k slot more && all_belong k more)) ≡ true
  forth behind h =
      let one = left (is_only_place k n bytes) _ h in
      let others : (bytes_eq (drop 69 bytes) (slots_bytes more) && all_belong k more) ≡ true = sym behind ∙ right (is_only_place k n bytes) _ h in
      let first = eq-true (take 69 bytes) (slot_bytes slot) (left _ (belongs k slot more) one) in
      let last = eq-true (drop 69 bytes) (slots_bytes more) (left _ (all_belong k more) others) in
      both _ _ (eq-of bytes (slot_bytes slot ++ slots_bytes more) (sym (take-append-drop 69 bytes) ∙ ap (λ (x : List ℕ). x ++ drop 69 bytes) first ∙ ap (λ (x : List ℕ). slot_bytes slot ++ x) last))
      (both _ _ (right (bytes_eq (take 69 bytes) (slot_bytes slot)) _ one) (right (bytes_eq (drop 69 bytes) (slots_bytes more)) _ others))

  back : Behind → (bytes_eq bytes (slot_bytes slot ++ slots_bytes more) && (belongs k slot more && all_belong k more)) ≡ true → (is_only_place k n bytes && are_places k n (drop 69 bytes)) ≡ true
  back behind h =
      let same = eq-true bytes (slot_bytes slot ++ slots_bytes more) (left _ (belongs k slot more && all_belong k more) h) in
      let belong : (belongs k slot more && all_belong k more) ≡ true = right (bytes_eq bytes (slot_bytes slot ++ slots_bytes more)) _ h in
      let long = length-slot k slot more (left _ (all_belong k more) belong) in
      both _ _ (both _ _ (eq-of (take 69 bytes) (slot_bytes slot) (ap (take 69) same ∙ take-front 69 (slot_bytes slot) (slots_bytes more) long)) (left _ (all_belong k more) belong))
      (behind ∙ both _ _ (eq-of (drop 69 bytes) (slots_bytes more) (ap (drop 69) same ∙ drop-front 69 (slot_bytes slot) (slots_bytes more) long)) (right (belongs k slot more) _ belong))

pub places-checked : (k n : ℕ) (bytes : List ℕ) → length bytes ≡ 34 + 69 * n → are_places k n bytes ≡ (bytes_eq bytes (slots_bytes (slots_front n bytes)) && all_belong k (slots_front n bytes))
places-checked k zero bytes l = and-true-same (bytes_eq bytes (replicate 34 0))
places-checked k (suc n) bytes l = let behind = places-checked k n (drop 69 bytes) (let d = length-drop 69 bytes in omega (arith, d, l)) in same-tests _ _ (forth k n bytes behind) (back k n bytes behind)

is-some-if : {A : Type 0} (b : Bool) (x : A) → is_some (if b then Some x else None) ≡ b
is-some-if true x = refl
is-some-if false x = refl

pub bucket-checked : (k : ℕ) (block : List ℕ) → length block ≡ 448 → are_places k 6 block ≡ is_some (bucket_in k block)
unfolding bucket_in bucket_bytes places_in
bucket-checked k block l = places-checked k 6 block l ∙ sym (is-some-if (bytes_eq block (slots_bytes (slots_front 6 block)) && all_belong k (slots_front 6 block)) (slots_front 6 block))

places-step : (k m : ℕ) (bytes : List ℕ) → 0 < m → are_places k m bytes ≡ (is_only_place k (m - 1) bytes && are_places k (m - 1) (drop 69 bytes))
places-step k zero bytes h = absurd (omega (arith, h))
places-step k (suc n) bytes h = let e : suc n - 1 ≡ n = omega arith in rw e refl

pub places-fail : (k m n : ℕ) (bytes : List ℕ) (all : Bool) → 0 < m → m - 1 ≡ n → is_only_place k n bytes ≡ false → are_places k m bytes ≡ all → false ≡ all
places-fail k m n bytes all some e h same = sym (places-step k m bytes some ∙ rw (e, h) refl) ∙ same

pub places-go : (k m n : ℕ) (bytes rest : List ℕ) (all : Bool) → 0 < m → m - 1 ≡ n → is_only_place k n bytes ≡ true → rest ≡ drop 69 bytes → are_places k m bytes ≡ all → are_places k n rest ≡ all
places-go k m n bytes rest all some e h d same = rw d (sym (places-step k m bytes some ∙ rw (e, h) refl) ∙ same)

pub places-end : (k m : ℕ) (bytes : List ℕ) (all : Bool) → m ≡ 0 → are_places k m bytes ≡ all → bytes_eq bytes (replicate 34 0) ≡ all
places-end k m bytes all e same = rw e at same

-- ---- what a bucket is

pub record Parts (k : ℕ) (block : List ℕ) (slots : List Slot) : Type 0 where
  pub front : slots ≡ places_in block
  pub bytes : block ≡ slots_bytes slots
  pub belong : all_belong k slots ≡ true

pub parts : (k : ℕ) (block : List ℕ) (slots : List Slot) → bucket_in k block ≡ Some slots → Parts k block slots
unfolding bucket_in bucket_bytes
parts k block slots h = by (bytes_eq block (slots_bytes (places_in block))) (all_belong k (places_in block)) refl refl h
  where
    same : (a b : List Slot) → Some a ≡ Some b → a ≡ b
    same a b e = cc

    by : (x y : Bool) → bytes_eq block (slots_bytes (places_in block)) ≡ x → all_belong k (places_in block) ≡ y → (if x && y then Some (places_in block) else None) ≡ Some slots → Parts k block slots
    by false y e f g = absurd (cc g)
    by true false e f g = absurd (cc g)
    by true true e f g = let s = same (places_in block) slots g in record {
      front = sym s;
      bytes = rw (← s) (eq-true block (slots_bytes (places_in block)) e);
      belong = rw (← s) f;
    }

pub of-parts : (k : ℕ) (block : List ℕ) → block ≡ slots_bytes (places_in block) → all_belong k (places_in block) ≡ true → bucket_in k block ≡ Some (places_in block)
unfolding bucket_in bucket_bytes
of-parts k block e h = rw (eq-of block (slots_bytes (places_in block)) e, h) refl
