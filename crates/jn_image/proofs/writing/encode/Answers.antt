use Rattle.jn_image.proofs.Common.{◌++◌, ℕ, List, ap, ap₂, ◌∙◌, sha256, image_bytes}
use Rattle.jn_image.proofs.writing.encode.Goals as goal

pub returns : goal.returns
unfolding image_bytes
returns c =
    c.in_ok-extend_from_slice.ensures.items
    ∙ ap₂ (λ (body digest : List ℕ). body ++ digest) c.in_ok-bytes.ensures (c.digest_of-digest.ensures ∙ ap sha256 (c.deref.ensures.value ∙ c.in_ok-bytes.ensures))
