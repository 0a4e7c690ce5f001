-- The stored blocks and the map pages once a put is carried out, each once.
use Rattle.jn_intent.proofs.Common.{◌≡◌, ⊎_elim, ◌<◌, ◌≤◌, ◌+◌, ◌-◌, ◌/◌, ℕ, Bool, true, false, not, ◌&&◌, ◌||◌, if◌then◌else◌, List, ◌∷◌, length, Some, None, refl, sym, ◌∙◌, ap, true≢false, arith, nat_tests, nat_eq, nat_le, is_some, FileNo, BlockNo, LockUnit, File, Block, file_eq, unit_eq, Files, change, written, StoredIntention, Put, is_put, IsListing, listing-more, listing-same, is_stored, one, MapPlaces, lacks_map, places_after, head_blocks, block_eq, bare, has_map_after, is_in_range, map_eq, has_map, map_tells}
use Rattle.jn_locks.proofs.Orders.{unit_tells}
use Rattle.jn_intent.proofs.Numbers.{listing_length}

-- one key more, or none where it was there
grown : {A : Type 0} (eq : A → A → Bool) → ((a b : A) → eq a b ≡ true → a ≡ b) → (k : A) (holds after : A → Bool) → ((a : A) → after a ≡ (eq k a || holds a)) → holds k ≡ true → (a : A) → after a ≡ holds a
grown eq equal k holds after is there a = is a ∙ by (eq k a) refl
  where
    by : (b : Bool) → eq k a ≡ b → (b || holds a) ≡ holds a
    by true e = sym (ap holds (sym (equal k a e)) ∙ there)
    by false e = refl

-- ---- blocks

unit_equal : (a b : LockUnit) → unit_eq a b ≡ true → a ≡ b
unit_equal a b e = ⊎_elim (λ h. h.1) (λ h. absurd (true≢false (sym e ∙ h.0))) (unit_tells a b)

stored_after : (f : FileNo) (p : BlockNo) (bytes : List ℕ) (files : Files) (u : LockUnit) → is_stored (change (written f p bytes) files) u ≡ (unit_eq (Block f p) u || is_stored files u)
stored_after f p bytes files (File g) = refl
stored_after f p bytes files (Block g q) = by (file_eq f g && block_eq p q)
  where
    by : (b : Bool) → is_some (change (λ u. if b then Some (Some bytes) else None) files (Block g q)) ≡ (b || is_some (files (Block g q)))
    by true = refl
    by false = refl

pub blocks_grow : (f : FileNo) (p : BlockNo) (bytes : List ℕ) (files : Files) (before later : List LockUnit) → IsListing unit_eq (is_stored files) before → IsListing unit_eq (is_stored (change (written f p bytes) files)) later
    → length later + one (is_stored files (Block f p)) ≡ length before + 1
blocks_grow f p bytes files before later l n = by (is_stored files (Block f p)) refl
  where
    by : (b : Bool) → is_stored files (Block f p) ≡ b → length later + one b ≡ length before + 1
    by true e = let same = listing_length unit_eq unit_tells (is_stored (change (written f p bytes) files)) later before n
        (listing-same unit_eq (is_stored files) (is_stored (change (written f p bytes) files)) before (grown unit_eq unit_equal (Block f p) (is_stored files) (is_stored (change (written f p bytes) files)) (stored_after f p bytes files) e) l) in
        omega (arith, same)
    by false e = let more = listing_length unit_eq unit_tells (is_stored (change (written f p bytes) files)) later (Block f p ∷ before) n
        (listing-more unit_eq unit_tells (Block f p) (is_stored files) (is_stored (change (written f p bytes) files)) before e (stored_after f p bytes files) l) in
        omega (arith, more)

-- ---- map pages

map_equal : (a b : FileNo × ℕ) → map_eq a b ≡ true → a ≡ b
map_equal a b e = ⊎_elim (λ h. h.1) (λ h. absurd (true≢false (sym e ∙ h.0))) (map_tells a b)

module _ (i : StoredIntention) (is : i.what ≡ Put) (places : MapPlaces) where
  abbrev range : ℕ
  range = i.block.0 / head_blocks - 1

  -- a put past the head's blocks has its map page then
  map_there : head_blocks ≤ i.block.0 → (m : FileNo × ℕ) → has_map (places_after (bare i) places) m ≡ (map_eq (i.file, range) m || has_map places m)
  map_there far m = ap (λ w. if file_eq i.file m.0 then has_map_after w i.block.0 m.1 (places m.0 m.1) else places m.0 m.1) is ∙ by (file_eq i.file m.0)
      ∙ ap (λ b. (file_eq i.file m.0 && b) || has_map places m) same
    where
      same : is_in_range m.1 i.block.0 ≡ nat_eq range m.1
      same = grind (arith, nat_tests, far)

      by : (b : Bool) → (if b then places m.0 m.1 || is_in_range m.1 i.block.0 else places m.0 m.1) ≡ ((b && is_in_range m.1 i.block.0) || places m.0 m.1)
      by true = turned (places m.0 m.1) (is_in_range m.1 i.block.0)
        where
          turned : (a b : Bool) → (a || b) ≡ (b || a)
          turned a b = grind arith
      by false = refl

  -- and one in a head's block needs none
  map_none : i.block.0 < head_blocks → (m : FileNo × ℕ) → has_map (places_after (bare i) places) m ≡ has_map places m
  map_none low m = ap (λ w. if file_eq i.file m.0 then has_map_after w i.block.0 m.1 (places m.0 m.1) else places m.0 m.1) is ∙ ap (λ b. if file_eq i.file m.0 then places m.0 m.1 || b else places m.0 m.1) out ∙ by (file_eq i.file m.0) (places m.0 m.1)
    where
      out : is_in_range m.1 i.block.0 ≡ false
      out = grind (arith, nat_tests, low)

      by : (b c : Bool) → (if b then c || false else c) ≡ c
      by true true = refl
      by true false = refl
      by false c = refl

  pub maps_grow : (before later : List (FileNo × ℕ)) → IsListing map_eq (has_map places) before → IsListing map_eq (has_map (places_after (bare i) places)) later
      → length later ≡ length before + one (lacks_map places (bare i))
  maps_grow before later l n = by (nat_le head_blocks i.block.0) refl (places i.file range) refl
    where
      lacks : (b c : Bool) → nat_le head_blocks i.block.0 ≡ b → places i.file range ≡ c → lacks_map places (bare i) ≡ (b && not c)
      lacks b c x y = ap (λ w. is_put w && nat_le head_blocks i.block.0 && not (places i.file range)) is ∙ ap (λ d. true && d && not (places i.file range)) x ∙ ap (λ d. true && b && not d) y ∙ drop_true b (not c)
        where
          drop_true : (b c : Bool) → (true && b && c) ≡ (b && c)
          drop_true b c = grind arith

      high : nat_le head_blocks i.block.0 ≡ true → head_blocks ≤ i.block.0
      high e = grind (arith, nat_tests, e)

      low : nat_le head_blocks i.block.0 ≡ false → i.block.0 < head_blocks
      low e = grind (arith, nat_tests, e)

      by : (b : Bool) → nat_le head_blocks i.block.0 ≡ b → (c : Bool) → places i.file range ≡ c → length later ≡ length before + one (lacks_map places (bare i))
      by false x c y =
          let same = listing_length map_eq map_tells (has_map (places_after (bare i) places)) later before n (listing-same map_eq (has_map places) (has_map (places_after (bare i) places)) before (map_none (low x)) l) in
          let none = ap one (lacks false c x y) in omega (arith, same, none)
      by true x true y =
          let same = listing_length map_eq map_tells (has_map (places_after (bare i) places)) later before n
          (listing-same map_eq (has_map places) (has_map (places_after (bare i) places)) before (grown map_eq map_equal (i.file, range) (has_map places) (has_map (places_after (bare i) places)) (map_there (high x)) y) l) in
          let none = ap one (lacks true true x y) in omega (arith, same, none)
      by true x false y =
          let more = listing_length map_eq map_tells (has_map (places_after (bare i) places)) later ((i.file, range) ∷ before) n
          (listing-more map_eq map_tells (i.file, range) (has_map places) (has_map (places_after (bare i) places)) before y (map_there (high x)) l) in
          let some = ap one (lacks true false x y) in omega (arith, more, some)
