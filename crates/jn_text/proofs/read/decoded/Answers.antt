use Rattle.jn_text.proofs.HexDigits.{decode_of-spelled, IfOk-map_err}
use Rattle.jn_text.proofs.read.decoded.Goals as goal

pub returns : goal.returns
returns c =
    IfOk-map_err c.decode.result c.map_err.result _ _ _ c.map_err.ensures.cases c.decode.ensures.ok
    (λ v read. decode_of-spelled c.args.digits.now v.items c.requires.lower read)
