-- What a client sends at an order is what its table sends at the order's command.
use Rattle.std.proofs.Common.{◌≡◌, ℕ, Bool, true, false, Option, Some, None, refl, ap}
use Rattle.jn_base.specs.declared.names.Party.{Party}
use Rattle.jn_base.specs.declared.op.Command.TheVariants.{Begin, Open, Do, End, Abort}
use Rattle.jn_msgs.specs.declared.message.Message.{Message}
use Rattle.jn_report.specs.declared.line.Refusal.{Refusal}
use Rattle.jn_rows.specs.Client.{Commanded, Refuses, Sends, command_row}
use Rattle.jn_calls.specs.declared.order.Order.{Order}
use Rattle.jn_calls.specs.declared.order.Order.TheVariants as orders
use Rattle.jn_calls.specs.Turns.{first_op, begun}
use Rattle.jn_callers.specs.declared.doing.Doing.{Doing}
use Rattle.jn_callers.specs.Callers.{Caller, Ordered, Refused, Sent, ordered, order_row, command_of, is_too_far}

abbrev as_commanded : Ordered → Commanded
as_commanded (Refused refusal) = Refuses refusal
as_commanded (Sent now to m) = Sends now.table to m

row-sent : (c : Caller) (spoiled far : Bool) (doing : Option Doing) (row : Commanded) (now : Caller) (to : Party) (m : Message) → ordered c spoiled far doing row ≡ Sent now to m → row ≡ Sends now.table to m
row-sent c spoiled far doing (Refuses refusal) now to m h = absurd (cc h)
row-sent c true far doing (Sends t other sent) now to m h = absurd (cc h)
row-sent c false true doing (Sends t other sent) now to m h = absurd (cc h)
row-sent c false false doing (Sends t other sent) now to m h = ap (λ (o : Ordered). as_commanded o) h

pub order-sent : (c : Caller) (j : ℕ) (order : Order) (now : Caller) (to : Party) (m : Message) → order_row c j order ≡ Sent now to m → command_row c.table j (command_of order) ≡ Sends now.table to m
order-sent c j (orders.Command Abort) now to m h = row-sent c false false None (command_row c.table j Abort) now to m h
order-sent c j (orders.Command (Begin s)) now to m h = row-sent c c.spoiled false None (command_row c.table j (Begin s)) now to m h
order-sent c j (orders.Command (Open s)) now to m h = row-sent c c.spoiled false None (command_row c.table j (Open s)) now to m h
order-sent c j (orders.Command (Do s op)) now to m h = row-sent c c.spoiled false None (command_row c.table j (Do s op)) now to m h
order-sent c j (orders.Command End) now to m h = row-sent c c.spoiled false None (command_row c.table j End) now to m h
order-sent c j (orders.Call s call) now to m h =
    let d : Doing = record { server = s; state = begun call; wrote = false } in
    row-sent c c.spoiled (is_too_far call) (Some d) (command_row c.table j (Do s (first_op call))) now to m h

row-refused : (c : Caller) (spoiled far : Bool) (doing : Option Doing) (row : Commanded) (refusal : Refusal) → row ≡ Refuses refusal → (why : Refusal) × (ordered c spoiled far doing row ≡ Refused why)
row-refused c spoiled far doing (Refuses other) refusal h = (_, refl)
row-refused c spoiled far doing (Sends t to m) refusal h = absurd (cc h)

pub order-refused : (c : Caller) (j : ℕ) (order : Order) (refusal : Refusal) → command_row c.table j (command_of order) ≡ Refuses refusal → (why : Refusal) × (order_row c j order ≡ Refused why)
order-refused c j (orders.Command Abort) refusal h = row-refused c false false None (command_row c.table j Abort) refusal h
order-refused c j (orders.Command (Begin s)) refusal h = row-refused c c.spoiled false None (command_row c.table j (Begin s)) refusal h
order-refused c j (orders.Command (Open s)) refusal h = row-refused c c.spoiled false None (command_row c.table j (Open s)) refusal h
order-refused c j (orders.Command (Do s op)) refusal h = row-refused c c.spoiled false None (command_row c.table j (Do s op)) refusal h
order-refused c j (orders.Command End) refusal h = row-refused c c.spoiled false None (command_row c.table j End) refusal h
order-refused c j (orders.Call s call) refusal h =
    let d : Doing = record { server = s; state = begun call; wrote = false } in
    row-refused c c.spoiled (is_too_far call) (Some d) (command_row c.table j (Do s (first_op call))) refusal h
