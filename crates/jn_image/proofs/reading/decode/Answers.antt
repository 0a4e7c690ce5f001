use Rattle.std.proofs.Common.{arith}
use Rattle.jn_image.proofs.Told.{told_found, told_only, told_fault, told_first}
use Rattle.jn_image.proofs.Headers.{AreBytes}
use Rattle.jn_image.proofs.reading.decode.Goals as goal

pub returns : goal.returns
returns c =
    let bytes = c.args.bytes.now in
    let fit : AreBytes bytes = λ i. omega (arith, c.type_inv.bytes i) in
    record {
      found = told_found bytes fit c.read.result c.read.ensures.tells c.read.ensures.image;
      only = told_only bytes c.read.result c.read.ensures.tells c.read.ensures.image;
      fault = told_fault bytes c.read.result c.read.ensures.tells;
      first = told_first bytes c.read.result c.read.ensures.tells;
    }
