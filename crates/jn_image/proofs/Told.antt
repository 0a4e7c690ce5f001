-- What an answer to bytes says of them.
use Rattle.jn_image.proofs.Common.{◌≡◌, ◌⊎◌, inl, inr, ℕ, List, Some, None, Result, Ok, Err, refl, sym, ap, ◌∙◌, subst, IfOk, MatchResult, BadImage, Image, bad_of, TellsImage, HasForm, PagesFit, image_bytes, image_in}
use Rattle.jn_image.specs.declared.fault.DecodeError.{DecodeError}
use Rattle.jn_image.specs.declared.fault.DecodeError.TheVariants.{Bad, Memory}
use Rattle.jn_image.proofs.Again.{nothing_bad, image_again, found_form, found_fit, found_bytes}
use Rattle.jn_image.proofs.Headers.{AreBytes}

none_some : (f : BadImage) → None ≡ Some f → ⊥
none_some f e = cc

same_fault : (f g : BadImage) → Some f ≡ Some g → f ≡ g
same_fault f g e = cc

module _ (bytes : List ℕ) where
  pub told_found : AreBytes bytes → (r : Result Image DecodeError) → TellsImage (bad_of bytes) r → IfOk r (λ m. m ≡ image_in bytes) → IfOk r (λ m. HasForm m × PagesFit m × (bytes ≡ image_bytes m))
  told_found fit (Ok m) told is = subst (λ (v : Image). HasForm v × PagesFit v × (bytes ≡ image_bytes v)) (sym is) (found_form bytes fit told, found_fit bytes fit told, found_bytes bytes fit told)
  told_found fit (Err e) told is = tt

  pub told_only : (r : Result Image DecodeError) → TellsImage (bad_of bytes) r → IfOk r (λ m. m ≡ image_in bytes)
      → (m : Image) → HasForm m → PagesFit m → bytes ≡ image_bytes m → MatchResult r (λ v. v ≡ m) (λ e. e ≡ Memory)
  told_only (Ok v) told is m form fit e = is ∙ ap image_in e ∙ image_again m form fit
  told_only (Err (Bad f)) told is m form fit e = absurd (none_some f (sym (ap bad_of e ∙ nothing_bad m form fit) ∙ told))
  told_only (Err Memory) told is m form fit e = refl

  pub told_fault : (r : Result Image DecodeError) → TellsImage (bad_of bytes) r → (f : BadImage) → r ≡ Err (Bad f) → bad_of bytes ≡ Some f
  told_fault r told f e = subst (λ q. TellsImage (bad_of bytes) q) e told

  pub told_first : (r : Result Image DecodeError) → TellsImage (bad_of bytes) r → (f : BadImage) → bad_of bytes ≡ Some f → (r ≡ Err (Bad f)) ⊎ (r ≡ Err Memory)
  told_first (Ok m) told f e = absurd (none_some f (sym told ∙ e))
  told_first (Err (Bad g)) told f e = inl (ap (λ q. Err (Bad q)) (same_fault g f (sym told ∙ e)))
  told_first (Err Memory) told f e = inr refl
