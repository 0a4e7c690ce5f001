-- A piece that ends before its frame is whole, and one that ends with it.
use Rattle.std.proofs.Common.{◌≡◌, ◌≤◌, ℕ, Bool, true, false, List, [], ◌∷◌, ◌++◌, length, refl, sym, ◌∙◌, ap, subst, arith, append_assoc, append-nil, length-append, Result, Ok, Err, if◌then◌else◌}
use Rattle.std.specs.Prelude.{nat_le, drop}
use Rattle.std.proofs.lemmas.Bool.{false≢true}
use Rattle.std.proofs.lemmas.Bool.Decides.{nat_tests}
use Rattle.jn_wire.specs.declared.frame.Framed.{Framed}
use Rattle.jn_wire.specs.Unframing.{unframed_by, in_front, holds, met, waiting, is_whole, is_unfinished, whole_length, IsUnfinished}

-- the first two bytes tell the length
pub same-prefix : (p b : List ℕ) → 2 ≤ length p → whole_length (p ++ b) ≡ whole_length p
same-prefix [] b two = absurd (omega (arith, two))
same-prefix (x ∷ []) b two = absurd (omega (arith, two))
same-prefix (x ∷ y ∷ p) b two = refl

-- what is in front of more bytes of an unfinished frame isn't whole
front-unfinished : (p b : List ℕ) → IsUnfinished (p ++ b) → is_whole p ≡ false
front-unfinished p b u = by (nat_le 2 (length p)) refl
  where
    by : (c : Bool) → nat_le 2 (length p) ≡ c → is_whole p ≡ false
    by true e = let same = same-prefix p b (grind (arith, e, nat_tests)) in let more = length-append p b in let less = u (grind (arith, more, e, nat_tests)) in grind (arith, same, more, less, e, nat_tests)
    by false e = grind (arith, e, nat_tests)

front-whole : (p b : List ℕ) (y : ℕ) → is_whole (p ++ y ∷ b) ≡ true → is_whole p ≡ false
front-whole p b y w = by (nat_le 2 (length p)) refl
  where
    by : (c : Bool) → nat_le 2 (length p) ≡ c → is_whole p ≡ false
    by true e = let same = same-prefix p (y ∷ b) (grind (arith, e, nat_tests)) in let more = length-append p (y ∷ b) in grind (arith, same, more, w, e, nat_tests)
    by false e = grind (arith, e, nat_tests)

-- a byte with which no frame is whole
stepped : (read : List ℕ → Result Framed ℕ) (at : ℕ) (h : List ℕ) (x : ℕ) (b : List ℕ) → is_whole (h ++ x ∷ []) ≡ false → unframed_by read (waiting at h) (x ∷ b) ≡ unframed_by read (waiting at (h ++ x ∷ [])) b
stepped read at h x b e = ap (λ (c : Bool). let u = if c then met at (h ++ x ∷ []) (read (drop 2 (h ++ x ∷ []))) else holds (waiting at (h ++ x ∷ [])) in in_front u.frames (unframed_by read u.held b)) e

-- bytes of a frame that isn't whole yet are held
bytes-held : (read : List ℕ → Result Framed ℕ) (at : ℕ) (h b : List ℕ) → IsUnfinished (h ++ b) → unframed_by read (waiting at h) b ≡ holds (waiting at (h ++ b))
bytes-held read at h [] u = ap (λ (xs : List ℕ). holds (waiting at xs)) (sym (append-nil h))
bytes-held read at h (x ∷ b) u = let same = append_assoc h (x ∷ []) b in let behind = subst IsUnfinished (sym same) u in
    stepped read at h x b (front-unfinished (h ++ x ∷ []) b behind) ∙ bytes-held read at (h ++ x ∷ []) b behind ∙ ap (λ (xs : List ℕ). holds (waiting at xs)) same

unfinished-means : (bytes : List ℕ) → is_unfinished bytes ≡ true → IsUnfinished bytes
unfinished-means bytes e = λ two. grind (arith, e, two, nat_tests)

pub bytes-are-held : (read : List ℕ → Result Framed ℕ) (at : ℕ) (h b : List ℕ) → is_unfinished (h ++ b) ≡ true → unframed_by read (waiting at h) b ≡ holds (waiting at (h ++ b))
bytes-are-held read at h b u = bytes-held read at h b (unfinished-means (h ++ b) u)

alone : (at : ℕ) (bytes : List ℕ) (d : Result Framed ℕ) → in_front (met at bytes d).frames (holds (met at bytes d).held) ≡ met at bytes d
alone at bytes (Ok f) = refl
alone at bytes (Err n) = refl

-- the byte with which a frame is whole gives it
frame-met : (read : List ℕ → Result Framed ℕ) (at : ℕ) (h : List ℕ) (x : ℕ) (b : List ℕ) → is_whole (h ++ x ∷ b) ≡ true → unframed_by read (waiting at h) (x ∷ b) ≡ met at (h ++ x ∷ b) (read (drop 2 (h ++ x ∷ b)))
frame-met read at h x [] w = ap (λ (c : Bool). let u = if c then met at (h ++ x ∷ []) (read (drop 2 (h ++ x ∷ []))) else holds (waiting at (h ++ x ∷ [])) in in_front u.frames (holds u.held)) w
    ∙ alone at (h ++ x ∷ []) (read (drop 2 (h ++ x ∷ [])))
frame-met read at h x (y ∷ b) w = let same = append_assoc h (x ∷ []) (y ∷ b) in let behind = ap is_whole same ∙ w in
    stepped read at h x (y ∷ b) (front-whole (h ++ x ∷ []) b y behind) ∙ frame-met read at (h ++ x ∷ []) y b behind
    ∙ ap (λ (xs : List ℕ). met at xs (read (drop 2 xs))) same

not-both : (h : List ℕ) → is_unfinished h ≡ true → is_whole h ≡ false
not-both h u = grind (arith, u, nat_tests)

-- the bytes with which a frame is whole give it
pub frame-is-met : (read : List ℕ → Result Framed ℕ) (at : ℕ) (h b : List ℕ) → is_unfinished h ≡ true → is_whole (h ++ b) ≡ true → unframed_by read (waiting at h) b ≡ met at (h ++ b) (read (drop 2 (h ++ b)))
frame-is-met read at h [] u w = absurd (false≢true (sym (not-both h u) ∙ ap is_whole (sym (append-nil h)) ∙ w))
frame-is-met read at h (x ∷ b) u w = frame-met read at h x b w
