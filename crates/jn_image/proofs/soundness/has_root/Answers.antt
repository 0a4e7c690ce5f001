use Rattle.jn_image.proofs.Common.{seen}
use Rattle.jn_image.proofs.Roots.{none_found, one_found}
use Rattle.jn_image.proofs.soundness.has_root.Goals as goal

pub returns-in-Some : goal.returns-in-Some
returns-in-Some c = one_found (seen c.args.image.now) c.page.result.now c.page.ensures c.first_root-like.result c.first_root-like.ensures.root c.first_root-like.ensures.fits
    c.in-Some.root c.in-Some.ensures.found c.in-Some.ensures.only c.is_like.result c.is_like.ensures

pub returns-in-None : goal.returns-in-None
returns-in-None c = none_found (seen c.args.image.now) c.page.result.now c.page.ensures c.first_root-like.result c.first_root-like.ensures.root c.first_root-like.ensures.fits
    c.in-None.ensures.only
