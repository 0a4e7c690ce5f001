-- What a frame may bring to a server.
use Rattle.std.specs.Prelude.{◌≡◌, true, ⊤}
use Rattle.jn_msgs.specs.Ranges.{CanBeTaken, names_near}
use Rattle.jn_wire.specs.declared.frame.Body.{Body}
use Rattle.jn_wire.specs.declared.frame.Body.TheVariants as bodies

-- a message that any server may take, whose names are at servers below 8; a signal asks nothing
abbrev pub MayCome : Body → Type 0
MayCome (bodies.Message m) = CanBeTaken m × (names_near 8 m ≡ true)
MayCome signal = ⊤
