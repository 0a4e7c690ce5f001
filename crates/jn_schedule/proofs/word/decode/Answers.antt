use Rattle.std.proofs.Common.{sym}
use Rattle.jn_schedule.proofs.HexWords.{not_spelled, told}
use Rattle.jn_schedule.proofs.word.decode.Goals as goal

pub returns-then-has_upper_case : goal.returns-then-has_upper_case
returns-then-has_upper_case c bytes long fits = not_spelled c.args.word.now bytes (sym c.if-has_upper_case.ensures) fits

pub returns : goal.returns
returns c =
    told _ _ _ c.decode_to_slice.result c.is_ok.result c.decode_to_slice.ensures.value c.is_ok.ensures.value (sym c.if-has_upper_case.ensures)
