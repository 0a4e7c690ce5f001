use Rattle.jn_system.proofs.WholeSystem.BusyServers.{erased-same}
use Rattle.jn_system.proofs.busy.an_erasure_changes_nothing.Goals as goal

pub returns : goal.returns
returns c = λ w s m room row up e h. erased-same w s m up room row e h
