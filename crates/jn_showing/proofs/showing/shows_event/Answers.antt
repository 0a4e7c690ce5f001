use Rattle.jn_showing.proofs.showing.shows_event.Goals as goal

pub returns-in-Show : goal.returns-in-Show
returns-in-Show c = rw c.in-Show.is c.shows_server.ensures
