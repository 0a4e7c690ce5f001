use Rattle.std.proofs.Common.{arith}
use Rattle.jn_image.proofs.soundness.first_root.Goals as goal

pub returns-clause-fits : goal.returns-clause-fits
returns-clause-fits c = λ is. record { version = is; server = omega arith; pool = omega arith; heads = omega arith; leaves = omega arith; epoch = omega arith }
