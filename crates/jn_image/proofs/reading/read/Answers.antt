use Rattle.jn_image.proofs.Common.{◌≡◌, length, sym, arith, length-drop, counts_in, image_size}
use Rattle.jn_image.proofs.Passing.{was_passed}
use Rattle.jn_image.proofs.reading.read.Goals as goal

pub image_of-requires : goal.image_of-requires
image_of-requires c =
    let bytes = c.args.bytes.now in
    let p = was_passed bytes (sym c.in-None.ensures) in
    let whole : length bytes ≡ image_size (counts_in bytes) = p.behind.whole in
    record { header = p.header; pages = omega (arith, whole, length-drop 16 bytes) }
