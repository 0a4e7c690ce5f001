-- What is accepted is refused by no cause, and what is refused by one.
use Rattle.jn_image_files.proofs.Common.{◌≡◌, ℕ, List, Option, Some, None, sym, ◌∙◌, ap, subst, refl, Image, image_bytes, HasForm, PagesFit}
use Rattle.jn_image.proofs.Again.{nothing_bad}
use Rattle.jn_image.proofs.Exclusive.{one_fault, no_fault}
use Rattle.jn_image.proofs.SoundFits.{sound_fits, bytes_tell}
use Rattle.jn_image.specs.Faults.{bad_of}
use Rattle.jn_image.specs.Unsound.{seen, IsFirstFault}
use Rattle.jn_image.specs.declared.fault.BadImage.{BadImage}
use Rattle.jn_image_files.specs.Laws.{AcceptedIsNotRefused, AllAcceptedNoneRefused, BytesTellTheSoundImage, OneCauseRefuses}
use Rattle.jn_image_files.specs.declared.refusal.Cause.TheVariants.{Missing, Bad, Unsound}

none_some : {A : Type 0} (a : A) → None ≡ Some a → ⊥
none_some a e = cc

same : {A : Type 0} (a b : A) → Some a ≡ Some b → a ≡ b
same a b e = cc

-- one image with 512 bytes a page has these bytes
one : (content : Option (List ℕ)) (m n : Image) → HasForm m → PagesFit m → HasForm n → PagesFit n → content ≡ Some (image_bytes m) → content ≡ Some (image_bytes n) → m ≡ n
one content m n form fit like fits at too = bytes_tell m n form fit like fits (same (image_bytes m) (image_bytes n) (sym at ∙ too))

-- with whose bytes nothing is wrong
not_bad : (content : Option (List ℕ)) (m : Image) (bytes : List ℕ) (fault : BadImage) → HasForm m → PagesFit m → content ≡ Some (image_bytes m) → content ≡ Some bytes → bad_of bytes ≡ Some fault → ⊥
not_bad content m bytes fault form fit at too bad = none_some fault (sym (nothing_bad m form fit) ∙ ap bad_of (same (image_bytes m) bytes (sym at ∙ too)) ∙ bad)

pub accepted_is_not_refused : AcceptedIsNotRefused
accepted_is_not_refused q content Missing (m, is, at) none = none_some (image_bytes m) (sym none ∙ at)
accepted_is_not_refused q content (Bad fault) (m, is, at) (bytes, too, bad) = not_bad content m bytes fault is.form (sound_fits m q is.form is.sound) at too bad
accepted_is_not_refused q content (Unsound fault) (m, is, at) (n, like, fits, too, first) =
    let e = one content m n is.form (sound_fits m q is.form is.sound) like fits at too in
    no_fault q (seen m) is.sound fault (subst (λ (v : Image). IsFirstFault q (seen v) fault) (sym e) first)

pub none_refused : AllAcceptedNoneRefused
none_refused found servers r all first = accepted_is_not_refused r.server (found r.server.0) r.cause (all r.server.0 first.there) first.cause

pub one_image : BytesTellTheSoundImage
one_image q s content m n is at other too = one content m n is.form (sound_fits m q is.form is.sound) other.form (sound_fits n s other.form other.sound) at too

pub one_cause : OneCauseRefuses
one_cause q content Missing Missing none too = refl
one_cause q content Missing (Bad f) none (bytes, at, bad) = absurd (none_some bytes (sym none ∙ at))
one_cause q content Missing (Unsound f) none (m, form, fit, at, first) = absurd (none_some (image_bytes m) (sym none ∙ at))
one_cause q content (Bad f) Missing (bytes, at, bad) none = absurd (none_some bytes (sym none ∙ at))
one_cause q content (Bad f) (Bad g) (bytes, at, bad) (others, too, worse) =
    ap (λ b. Bad b) (same f g (sym bad ∙ ap bad_of (same bytes others (sym at ∙ too)) ∙ worse))
one_cause q content (Bad f) (Unsound g) (bytes, at, bad) (m, form, fit, too, first) = absurd (not_bad content m bytes f form fit too at bad)
one_cause q content (Unsound f) Missing (m, form, fit, at, first) none = absurd (none_some (image_bytes m) (sym none ∙ at))
one_cause q content (Unsound f) (Bad g) (m, form, fit, at, first) (bytes, too, bad) = absurd (not_bad content m bytes g form fit at too bad)
one_cause q content (Unsound f) (Unsound g) (m, form, fit, at, first) (n, like, fits, too, next) =
    let e = one content m n form fit like fits at too in
    ap (λ u. Unsound u) (one_fault q (seen m) f g first (subst (λ (v : Image). IsFirstFault q (seen v) g) (sym e) next))
