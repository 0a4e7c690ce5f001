-- Which frames are short enough for their length.
use Rattle.std.specs.Prelude.{◌≤◌, ⊤, length}
use Rattle.jn_msgs.specs.Ranges.{FewWorks}
use Rattle.jn_msgs.specs.declared.message.Message.{Message}
use Rattle.jn_msgs.specs.declared.message.Message.TheVariants as messages
use Rattle.jn_wire.specs.declared.frame.Body.{Body}
use Rattle.jn_wire.specs.declared.frame.Body.TheVariants as bodies
use Rattle.jn_wire.specs.declared.frame.Framed.{Framed}

-- an Abort names no more works than an End may
abbrev pub NamesFew : Message → Type 0
NamesFew (messages.Abort c r t ws) = length ws ≤ 8
NamesFew message = FewWorks message

abbrev pub NamesFewIn : Body → Type 0
NamesFewIn (bodies.Message m) = NamesFew m
NamesFewIn body = ⊤

abbrev pub HasFewWorks : Framed → Type 0
HasFewWorks f = NamesFewIn f.body
