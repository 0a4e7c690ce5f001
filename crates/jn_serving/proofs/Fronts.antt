-- The first frames of bytes are those of a front of them.
use Rattle.jn_serving.proofs.Common.{◌≡◌, ◌≤◌, ℕ, zero, suc, ◌+◌, ◌-◌, Bool, List, [], ◌∷◌, ◌++◌, length, take, refl, sym, ◌∙◌, ap, arith, append_assoc, Option, Some, Result, Ok, Err, if◌then◌else◌, None, take-append-add, take_all, ServerNo, Framed, WireFault, Held, Unframed, after_byte, holds, in_front, is_whole, joined, met, nothing_held, unframed, unframed_by, waiting, frames_of, held_of, most_bytes, fitting}
use Rattle.std.proofs.Common.{true, false}
use Rattle.std.specs.Prelude.{drop}
use Rattle.jn_wire.specs.Decoding.{decode}

-- ---- the first frames

few-met : (at : ℕ) (bytes : List ℕ) (d : Result Framed ℕ) → length (met at bytes d).frames ≤ 1
few-met at bytes (Ok f) = omega arith
few-met at bytes (Err n) = omega arith

few-by : (c : Bool) (at : ℕ) (bytes : List ℕ) (d : Result Framed ℕ) → length (if c then met at bytes d else holds (waiting at bytes)).frames ≤ 1
few-by true at bytes d = few-met at bytes d
few-by false at bytes d = omega arith

-- a byte gives one frame at most
few : (read : List ℕ → Result Framed ℕ) (h : Held) (fault : Option WireFault) (b : ℕ) → length (after_byte read h fault b).frames ≤ 1
few read h None b = let bytes = h.bytes ++ b ∷ [] in few-by (is_whole bytes) h.at bytes (read (drop 2 bytes))
few read h (Some f) b = omega arith

-- some of these bytes give exactly the first k of their frames
abbrev HasFront : (List ℕ → Result Framed ℕ) → Held → List ℕ → ℕ → Type 0
HasFront read h bytes k = (m : ℕ) × ((unframed_by read h (take m bytes)).frames ≡ take k (unframed_by read h bytes).frames)

behind : (read : List ℕ → Result Framed ℕ) (h : Held) (bytes : List ℕ) (k : ℕ) (fs : List Framed) → length fs ≤ 1 → ((k : ℕ) → HasFront read h bytes k)
    → (m : ℕ) × (fs ++ (unframed_by read h (take m bytes)).frames ≡ take (suc k) (fs ++ (unframed_by read h bytes).frames))
behind read h bytes k [] one more = more (suc k)
behind read h bytes k (f ∷ []) one more = let rest = more k in (rest.0, ap (λ (l : List Framed). f ∷ l) rest.1)
behind read h bytes k (f ∷ g ∷ fs) one more = absurd (omega (arith, one))

pub front : (read : List ℕ → Result Framed ℕ) (bytes : List ℕ) (h : Held) (k : ℕ) → HasFront read h bytes k
front read bytes h zero = (0, refl)
front read [] h (suc k) = (0, refl)
front read (b ∷ bytes) h (suc k) =
    let u = after_byte read h h.fault b in
    let rest = behind read u.held bytes k u.frames (few read h h.fault b) (front read bytes u.held) in
    (suc rest.0, rest.1)

-- ---- a piece behind what was read

pub pieces-join : (read : List ℕ → Result Framed ℕ) (h : Held) (xs ys : List ℕ)
    → unframed_by read h (xs ++ ys) ≡ in_front (unframed_by read h xs).frames (unframed_by read (unframed_by read h xs).held ys)
pieces-join read h [] ys = refl
pieces-join read h (b ∷ xs) ys =
    let u = after_byte read h h.fault b in
    let v = unframed_by read u.held xs in
    let w = unframed_by read v.held ys in
    ap (in_front u.frames) (pieces-join read u.held xs ys) ∙ ap (λ (fs : List Framed). record w { frames = fs }) (sym (append_assoc u.frames v.frames w.frames))

take-swap : {A : Type 0} (i j : ℕ) (xs : List A) → take i (take j xs) ≡ take j (take i xs)
take-swap zero zero xs = refl
take-swap zero (suc j) [] = refl
take-swap zero (suc j) (x ∷ xs) = refl
take-swap (suc i) zero [] = refl
take-swap (suc i) zero (x ∷ xs) = refl
take-swap (suc i) (suc j) [] = refl
take-swap (suc i) (suc j) (x ∷ xs) = ap (λ l. x ∷ l) (take-swap i j xs)

module _ (s : ServerNo) (read : List ℕ) (fits : length read ≤ most_bytes) where
  in-frames : (bytes : List ℕ) → take most_bytes (read ++ bytes) ≡ read ++ fitting (length read) bytes
  in-frames bytes = let sum : most_bytes ≡ length read + (most_bytes - length read) = omega (arith, fits) in
      ap (λ (n : ℕ). take n (read ++ bytes)) sum ∙ take-append-add read bytes (most_bytes - length read)

  -- what a piece gives behind what was read
  pub behind-read : (bytes : List ℕ) → unframed s (nothing_held 0) (take most_bytes (read ++ bytes)) ≡ in_front (frames_of s read) (unframed s (held_of s read) (fitting (length read) bytes))
  behind-read bytes =
      ap (unframed s (nothing_held 0)) (in-frames bytes)
      ∙ pieces-join (decode s) (nothing_held 0) read (fitting (length read) bytes)
      ∙ ap (λ (l : List ℕ). joined s (unframed s (nothing_held 0) l) (fitting (length read) bytes)) (sym (take_all most_bytes read fits))

  -- the first frames of a piece behind what was read are those of a front
  pub front-behind-read : (bytes : List ℕ) (k : ℕ)
      → (m : ℕ) × (frames_of s (take (length read + m) (read ++ bytes)) ≡ frames_of s read ++ take k (unframed s (held_of s read) (fitting (length read) bytes)).frames)
  front-behind-read bytes k =
      let first = front (decode s) (fitting (length read) bytes) (held_of s read) k in (
        first.0,
        ap (frames_of s) (take-append-add read bytes first.0)
            ∙ ap (λ (u : Unframed). u.frames) (behind-read (take first.0 bytes))
            ∙ ap (λ (l : List ℕ). frames_of s read ++ (unframed s (held_of s read) l).frames) (take-swap (most_bytes - length read) first.0 bytes)
            ∙ ap (λ (fs : List Framed). frames_of s read ++ fs) first.1,
      )
