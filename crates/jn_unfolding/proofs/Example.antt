-- The short transaction is computed.
use Rattle.std.proofs.Common.{◌≡◌, true, refl}
unfoldable use Rattle.jn_order.specs.Files.{zeros}
use Rattle.jn_order.specs.Files.{no_files}
use Rattle.jn_replay.specs.Operations.{GivesAnswers}
unfoldable use Rattle.jn_bytes.specs.ByteFiles.{length_in, sized}
use Rattle.jn_calls.specs.Calls.{Fits}
use Rattle.jn_unfolding.specs.Logs.{log_of, IsWhole}
use Rattle.jn_unfolding.specs.Example.{one_byte, all_written, cut_short, two_done}

pub is-whole : (fits : Fits one_byte) → IsWhole (log_of (all_written fits))
unfolding length_in sized zeros
is-whole fits = record { no_call = refl; none_half = refl }

pub done-two : (fits : Fits one_byte) → (log_of (all_written fits)).done ≡ two_done
unfolding length_in sized zeros
done-two fits = refl

pub answers-given : (fits : Fits one_byte) → GivesAnswers no_files (log_of (all_written fits)).operations
unfolding length_in sized zeros
answers-given fits = (refl, (refl, (refl, (refl, (refl, tt)))))

pub half-written : (fits : Fits one_byte) → (log_of (cut_short fits)).half_written ≡ true
unfolding length_in sized zeros
half-written fits = refl
