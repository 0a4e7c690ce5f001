-- How a bucket's block changes.
use Rattle.std.proofs.Common.{◌≡◌, ℕ, ◌+◌, ◌*◌, ◌<◌, true, false, List, ◌++◌, length, take, drop, Option, Some, None, option_map, refl, sym, ◌∙◌, ap, arith}
use Rattle.std.specs.Prelude.{slice_set}
use Rattle.jn_names.specs.Buckets.{Slot, slot_bytes, slots_bytes}
unfoldable use Rattle.jn_names.specs.Buckets.{places_in, bucket_in, bucket_bytes}
use Rattle.jn_names.specs.Places.{IsPut}
use Rattle.jn_names.proofs.Bytes.{are-long, slots-set}
use Rattle.jn_names.proofs.Checking.{parts}

pub six-places : (block : List ℕ) → length (places_in block) ≡ 6
unfolding places_in
six-places block = refl

-- a place is written over another
pub put-bytes : (k : ℕ) (block now : List ℕ) (slots : List Slot) (place : ℕ) (new : Slot) (bytes : List ℕ) → bucket_in k block ≡ Some slots → place < 6 → bytes ≡ slot_bytes new → length bytes ≡ 69
    → now ≡ take (69 * place) block ++ (bytes ++ drop (69 * place + length bytes) block) → now ≡ bucket_bytes (slice_set slots place new)
unfolding bucket_bytes
put-bytes k block now slots place new bytes h few e l b =
    let p = parts k block slots h in
    let six : length slots ≡ 6 = ap length p.front ∙ six-places block in
    let whole = ap (λ (x : List ℕ). take (69 * place) x ++ (bytes ++ drop (69 * place + 69) x)) p.bytes in
    (b ∙ rw l whole) ∙ ap (λ (x : List ℕ). take (69 * place) (slots_bytes slots) ++ (x ++ drop (69 * place + 69) (slots_bytes slots))) e
    ∙ sym (slots-set slots place new (are-long k slots p.belong) (omega (arith, few, six)))

-- the place that was found is written, or there was none
module _ (k : ℕ) (block now : List ℕ) (slots : List Slot) (new : Slot) (o : List Slot → Option ℕ) (found : Option ℕ) (b : bucket_in k block ≡ Some slots) (f : found ≡ o (places_in block)) where
  pub is-put : (place : ℕ) (bytes : List ℕ) → found ≡ Some place → place < 6 → bytes ≡ slot_bytes new → length (slot_bytes new) ≡ 69 → now ≡ take (69 * place) block ++ (bytes ++ drop (69 * place + length bytes) block)
      → IsPut (option_map (λ p. slice_set slots p new) (o slots)) true now
  is-put place bytes e few is l n =
      let p = parts k block slots b in
      let here : o slots ≡ Some place = ap o p.front ∙ sym f ∙ e in
      rw here (refl, put-bytes k block now slots place new bytes b few is (ap length is ∙ l) n)

  pub not-put : found ≡ None → IsPut (option_map (λ p. slice_set slots p new) (o slots)) false now
  not-put e =
      let p = parts k block slots b in
      let none : o slots ≡ None = ap o p.front ∙ sym f ∙ e in
      rw none refl
