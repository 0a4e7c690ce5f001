-- What is given are the whole frames of the bytes, and what is held is no frame.
use Rattle.std.proofs.Common.{◌≡◌, ◌≤◌, ◌<◌, ◌+◌, ℕ, Bool, true, false, List, [], ◌∷◌, ◌++◌, length, refl, sym, ap, subst, arith, append_assoc, append-nil, length-append, Result, Ok, Err, Some, if◌then◌else◌}
use Rattle.std.specs.Prelude.{None, nat_le, drop}
use Rattle.std.proofs.lemmas.Bool.Decides.{nat_tests}
use Rattle.jn_base.specs.declared.names.ServerNo.{ServerNo}
use Rattle.jn_wire.specs.declared.frame.Framed.{Framed}
use Rattle.jn_wire.specs.declared.fault.WireFault.{WireFault}
use Rattle.jn_wire.specs.Decoding.{decode}
use Rattle.jn_wire.specs.Unframing.{Unframed, unframed, in_front, holds, nothing_held, met, is_whole, whole_length, IsUnfinished, IsUnframed, Waits, Frame, Fault}

-- a fault stays
pub faulty-stays : (s : ServerNo) (at : ℕ) (held : List ℕ) (fault : WireFault) (bytes : List ℕ) → unframed s (record { at = at; bytes = held; fault = Some fault }) bytes ≡ holds (record { at = at; bytes = held; fault = Some fault })
faulty-stays s at held fault [] = refl
faulty-stays s at held fault (b ∷ bytes) = ap (in_front []) (faulty-stays s at held fault bytes)

-- the first two bytes tell the length
same-length : (h : List ℕ) (b : ℕ) → 2 ≤ length h → whole_length (h ++ b ∷ []) ≡ whole_length h
same-length [] b two = absurd (omega (arith, two))
same-length (x ∷ []) b two = absurd (omega (arith, two))
same-length (x ∷ y ∷ h) b two = refl

one-more : (h : List ℕ) (b : ℕ) → length (h ++ b ∷ []) ≡ length h + 1
one-more h b = length-append h (b ∷ [])

still-unfinished : (h : List ℕ) (b : ℕ) → IsUnfinished h → is_whole (h ++ b ∷ []) ≡ false → IsUnfinished (h ++ b ∷ [])
still-unfinished h b before not_whole two = by (nat_le 2 (length h)) refl
  where
    by : (c : Bool) → nat_le 2 (length h) ≡ c → length (h ++ b ∷ []) < whole_length (h ++ b ∷ [])
    by true e = let more = one-more h b in let same = same-length h b (grind (arith, e, nat_tests)) in let less = before e in grind (arith, more, same, less, not_whole, two, nat_tests)
    by false e = let more = one-more h b in grind (arith, more, e, not_whole, two, nat_tests)

module _ (s : ServerNo) where
  -- what holds of these bytes behind whatever is held
  abbrev Means : List ℕ → Type 0
  Means bytes = (at : ℕ) (h : List ℕ) → IsUnfinished h → IsUnframed s at (h ++ bytes) (unframed s (record { at = at; bytes = h; fault = None }) bytes)

  abbrev rest : List ℕ → Unframed → Unframed
  rest bytes u = in_front u.frames (unframed s u.held bytes)

  whole : (at : ℕ) (now bytes : List ℕ) → Means bytes → (d : Result Framed ℕ) → decode s (drop 2 now) ≡ d → is_whole now ≡ true → IsUnframed s at (now ++ bytes) (rest bytes (met at now d))
  whole at now bytes more (Ok f) e w = Frame at now bytes f (unframed s (nothing_held (at + length now)) bytes) w e (more (at + length now) [] (λ two. absurd (cc two)))
  whole at now bytes more (Err n) e w = subst (λ (u : Unframed). IsUnframed s at (now ++ bytes) u) (sym (ap (in_front []) (faulty-stays s at [] (record { at = at; number = n }) bytes))) (Fault at now bytes n w e)

  abbrev now_is : ℕ → List ℕ → Bool → Unframed
  now_is at now c = if c then met at now (decode s (drop 2 now)) else holds (record { at = at; bytes = now; fault = None })

  stepped : (at : ℕ) (h : List ℕ) (b : ℕ) (bytes : List ℕ) → Means bytes → IsUnfinished h → (c : Bool) → is_whole (h ++ b ∷ []) ≡ c → IsUnframed s at ((h ++ b ∷ []) ++ bytes) (rest bytes (now_is at (h ++ b ∷ []) (is_whole (h ++ b ∷ []))))
  stepped at h b bytes more unfinished true e = subst (λ (c : Bool). IsUnframed s at ((h ++ b ∷ []) ++ bytes) (rest bytes (now_is at (h ++ b ∷ []) c))) (sym e) (whole at (h ++ b ∷ []) bytes more (decode s (drop 2 (h ++ b ∷ []))) refl e)
  stepped at h b bytes more unfinished false e = subst (λ (c : Bool). IsUnframed s at ((h ++ b ∷ []) ++ bytes) (rest bytes (now_is at (h ++ b ∷ []) c))) (sym e) (more at (h ++ b ∷ []) (still-unfinished h b unfinished e))

  pub means : (bytes : List ℕ) → Means bytes
  means [] at h unfinished = subst (λ (xs : List ℕ). IsUnframed s at xs (holds (record { at = at; bytes = h; fault = None }))) (sym (append-nil h)) (Waits at h unfinished)
  means (b ∷ bytes) at h unfinished = subst (λ (xs : List ℕ). IsUnframed s at xs (unframed s (record { at = at; bytes = h; fault = None }) (b ∷ bytes))) (append_assoc h (b ∷ []) bytes) (stepped at h b bytes (means bytes) unfinished (is_whole (h ++ b ∷ [])) refl)

  pub nothing-means : (bytes : List ℕ) → IsUnframed s 0 bytes (unframed s (nothing_held 0) bytes)
  nothing-means bytes = means bytes 0 [] (λ two. absurd (cc two))
