-- Which operations were what a transaction did.
use Rattle.std.specs.Prelude.{◌≡◌, false, List, [], ◌∷◌, ◌++◌, map}
use Rattle.jn_base.specs.declared.names.ServerNo.{ServerNo}
use Rattle.jn_order.specs.Files.{is_did}
use Rattle.jn_replay.specs.declared.files.Performed.{Performed}
use Rattle.jn_replay.specs.declared.replied.Replied.{Replied}
use Rattle.jn_base.specs.declared.call.Call.{Call}
use Rattle.jn_order.specs.Answers.{Answered}
use Rattle.jn_calls.specs.declared.reply.Reply.{Reply}
use Rattle.jn_calls.specs.declared.reply.Wish.TheVariants as wishes
use Rattle.jn_calls.specs.Calls.{Fits}
use Rattle.jn_calls.specs.Turns.{IsExchange}
use Rattle.jn_serial.specs.Order.{as_replied}

abbrev pub replied_call : ServerNo → Call → Reply → Replied
replied_call s call reply = record { server = s; wish = wishes.Call call; reply = reply }

-- an operation at a server, and some of them
abbrev pub performed : ServerNo → Answered → Performed
performed s a = record { server = s; op = a.op; answer = a.answer }

abbrev pub performed_at : ServerNo → List Answered → List Performed
performed_at s os = map (λ a. performed s a) os

-- An operation is itself, and a call is its operations, from the first to the last. An operation that wasn't answered did
-- may be left over, of a call that has no end: it has changed nothing.
pub data Unfolds : List Replied → List Performed → Type 0 where
  nothing : Unfolds [] []
  operation : (p : Performed) (rs : List Replied) (os : List Performed) → Unfolds rs os → Unfolds (as_replied p ∷ rs) (p ∷ os)
  call : (s : ServerNo) (c : Call) (exchange : List Answered) (reply : Reply) (rs : List Replied) (os : List Performed) → Fits c → IsExchange c exchange reply → Unfolds rs os
      → Unfolds (replied_call s c reply ∷ rs) (performed_at s exchange ++ os)
  left_over : (p : Performed) (rs : List Replied) (os : List Performed) → is_did p.answer ≡ false → Unfolds rs os → Unfolds rs (p ∷ os)
