use Rattle.jn_node.proofs.opening.come_up.Goals as goal

pub returns-in-EpochsUsedUp-clause-used_up : goal.returns-in-EpochsUsedUp-clause-used_up
returns-in-EpochsUsedUp-clause-used_up g c =
    let h = c.in-Err.ensures in
    let (server, before) = c.requires.recoverable in
    λ _. (let d = h.down server before in let used = d.down.used_up c.in-EpochsUsedUp.is in (used.read, used.last))

pub unreachable-requires : goal.unreachable-requires
unreachable-requires g c =
    let h = c.in-Err.ensures in
    let (server, before) = c.requires.recoverable in
    let d = h.down server before in d.down.calm c.requires.calm c.in-Stopped.is
