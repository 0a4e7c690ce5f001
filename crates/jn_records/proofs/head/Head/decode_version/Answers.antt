use Rattle.jn_records.proofs.Common.{◌≡◌, ◌∙◌, ℕ, true, List, Option, None, Some, subst, IfSome, Head, IsHead, fits_version, head_page}
use Rattle.jn_records.proofs.Heads.{head_is_read}
use Rattle.jn_records.proofs.head.Head.decode_version.Goals as goal

-- of the head of a page, what is found where its version is asked for
found_of : (leaves version : ℕ) (page : List ℕ) (read kept : Option Head) → IfSome read (λ h. IsHead leaves h × (page ≡ head_page h)) → IfSome kept (λ h. (read ≡ Some h) × (fits_version version h ≡ true))
    → IfSome kept (λ h. IsHead leaves h × (fits_version version h ≡ true) × (page ≡ head_page h))
found_of leaves version page read None is fits = tt
found_of leaves version page read (Some h) is fits = let whole = subst (λ (o : Option Head). IfSome o (λ h. IsHead leaves h × (page ≡ head_page h))) fits.0 is in (whole.0, fits.1, whole.1)

pub returns-clause-found : goal.returns-clause-found
returns-clause-found c = found_of c.args.leaves c.args.version c.args.page.now c.of_page.result c.of_version.result c.of_page.ensures.found c.of_version.ensures.found

pub returns-clause-only : goal.returns-clause-only
returns-clause-only c = λ head is fits version e. c.of_version.ensures.only head (c.of_page.ensures.only head (c.in_ok-head.ensures ∙ head_is_read c.args.leaves c.args.page.now head c.ranges.leaves.fits is fits e) is e) version
