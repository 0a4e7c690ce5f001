-- What a transaction did unfolds, step by step.
use Rattle.std.proofs.Common.{◌≡◌, Bool, true, false, List, [], ◌∷◌, ◌++◌, refl, sym, ap, subst, append_assoc, append-nil}
use Rattle.std.specs.Prelude.{if◌then◌else◌}
use Rattle.std.specs.List.{list_any}
use Rattle.std.proofs.lemmas.Bool.{true≢false, or_parts}
use Rattle.jn_base.specs.declared.names.ServerNo.{ServerNo}
use Rattle.jn_base.specs.declared.op.Op.{Op}
use Rattle.jn_base.specs.declared.op.Answer.{Answer}
use Rattle.jn_order.specs.Files.{is_did}
use Rattle.jn_replay.specs.declared.files.Performed.{Performed}
use Rattle.jn_replay.specs.declared.replied.Replied.{Replied}
use Rattle.jn_base.specs.declared.call.Call.{Call}
use Rattle.jn_order.specs.Answers.{Answered}
use Rattle.jn_calls.specs.declared.reply.Reply.{Reply}
use Rattle.jn_calls.specs.declared.state.CallState.{CallState}
use Rattle.jn_calls.specs.Calls.{Fits}
use Rattle.jn_calls.specs.Turns.{Turn, Asks as AsksNext, Over, turn, GoesOn, IsExchange}
use Rattle.jn_serial.specs.Order.{as_replied}
use Rattle.jn_unfolding.specs.Unfolding.{Unfolds, nothing, operation, call, left_over, replied_call, performed, performed_at}
use Rattle.jn_unfolding.specs.Logs.{LogStep, Asks, Calls, Hears, GivesUp, UnderWay, Idle, InOperation, InCall, Log, no_log, after_turn, answered, given_up, is_of_files, after, after_all, log_of, is_in_call, IsWhole}

-- whatever the last operations unfold, with others behind them, is done behind all that was done so far
abbrev Precedes : List Replied → List Performed → List Performed → Type 0
Precedes done operations last = (ds : List Replied) (os : List Performed) → Unfolds ds (last ++ os) → Unfolds (done ++ ds) (operations ++ os)

record Under (done : List Replied) (operations : List Performed) (s : ServerNo) (c : Call) (op : Op) (state : CallState) (exchange : List Answered) : Type 0 where
  precedes : Precedes done operations (performed_at s exchange)
  goes_on : (more : List Answered) (reply : Reply) → GoesOn (AsksNext op state) more reply → IsExchange c (exchange ++ more) reply
  fits : Fits c

abbrev HoldsIn : List Replied → List Performed → UnderWay → Type 0
HoldsIn done operations (InCall s c op state exchange) = Under done operations s c op state exchange
HoldsIn done operations way = Precedes done operations []

abbrev Holds : Log → Type 0
Holds l = l.half_written ≡ false → HoldsIn l.done l.operations l.under_way

abbrev log : List Replied → List Performed → UnderWay → Bool → Log
log done operations way half = record { done = done; operations = operations; under_way = way; half_written = half }

-- ---- an answer of the files

placed : (s : ServerNo) (exchange : List Answered) (a : Answered) (os : List Performed) → performed_at s (exchange ++ a ∷ []) ++ os ≡ performed_at s exchange ++ performed s a ∷ os
placed s [] a os = refl
placed s (x ∷ exchange) a os = ap (λ (ps : List Performed). performed s x ∷ ps) (placed s exchange a os)

module _ (done : List Replied) (operations : List Performed) (half : Bool) (s : ServerNo) (c : Call) (op : Op) (state : CallState) (exchange : List Answered) (answer : Answer) where
  abbrev heard : Answered
  heard = record { op = op; answer = answer }

  abbrev now : List Performed
  now = operations ++ performed s heard ∷ []

  longer : Precedes done operations (performed_at s exchange) → Precedes done now (performed_at s (exchange ++ heard ∷ []))
  longer h ds os u = rw (append_assoc operations (performed s heard ∷ []) os) (h ds (performed s heard ∷ os) (subst (λ (ps : List Performed). Unfolds ds ps) (placed s exchange heard os) u))

  turns : (t : Turn) → turn state answer ≡ t → Holds (log done operations (InCall s c op state exchange) half)
      → Holds (after_turn (log done now (InCall s c op state exchange) half) s c (exchange ++ heard ∷ []) t)
  turns (AsksNext next then') e h = λ b. record {
    precedes = longer (h b).precedes;
    goes_on = λ more reply g. rw (append_assoc exchange (heard ∷ []) more) ((h b).goes_on (heard ∷ more) reply (refl, subst (λ (t : Turn). GoesOn t more reply) (sym e) g));
    fits = (h b).fits;
  }
  turns (Over reply) e h = λ b ds os u.
      let whole : IsExchange c (exchange ++ heard ∷ []) reply = (h b).goes_on (heard ∷ []) reply (refl, subst (λ (t : Turn). GoesOn t [] reply) (sym e) refl) in
      rw (append_assoc done (replied_call s c reply ∷ []) ds) (longer (h b).precedes (replied_call s c reply ∷ ds) os (call s c (exchange ++ heard ∷ []) reply ds os (h b).fits whole u))

hears : (done : List Replied) (operations : List Performed) (way : UnderWay) (half : Bool) (answer : Answer) → Holds (log done operations way half) → Holds (answered (log done operations way half) way answer)
hears done operations Idle half answer h = h
hears done operations (InOperation s op) half answer h = λ b ds os u.
    let p : Performed = performed s (record { op = op; answer = answer }) in
    rw (append_assoc done (as_replied p ∷ []) ds, append_assoc operations (p ∷ []) os) (h b (as_replied p ∷ ds) (p ∷ os) (operation p ds os u))
hears done operations (InCall s c op state exchange) half answer h = turns done operations half s c op state exchange answer (turn state answer) refl h

-- ---- what is under way is given up

left-over : (s : ServerNo) (exchange : List Answered) (ds : List Replied) (os : List Performed) → list_any (λ a. is_did a.answer) exchange ≡ false → Unfolds ds os → Unfolds ds (performed_at s exchange ++ os)
left-over s [] ds os h u = u
left-over s (a ∷ more) ds os h u = let both = or_parts (is_did a.answer) (list_any (λ a. is_did a.answer) more) h in
    left_over (performed s a) ds (performed_at s more ++ os) both.0 (left-over s more ds os both.1 u)

gives-up : (done : List Replied) (operations : List Performed) (way : UnderWay) (half : Bool) → Holds (log done operations way half) → Holds (given_up (log done operations way half) way)
gives-up done operations Idle half h = h
gives-up done operations (InOperation s op) half h = h
gives-up done operations (InCall s c op state exchange) half h = λ b ds os u. let both = or_parts half (list_any (λ a. is_did a.answer) exchange) b in
    (h both.0).precedes ds os (left-over s exchange ds os both.1 u)

-- ---- all steps

either : (b : Bool) (x y : Log) → Holds x → Holds y → Holds (if b then x else y)
either true x y h k = h
either false x y h k = k

each : (step : LogStep) (done : List Replied) (operations : List Performed) (way : UnderWay) (half : Bool) → Holds (log done operations way half) → Holds (after step (log done operations way half))
each (Asks s op) done operations Idle half h = h
each (Asks s op) done operations (InOperation t p) half h = h
each (Asks s op) done operations (InCall t c p state exchange) half h = h
each (Calls s c fits) done operations Idle half h = λ b. record { precedes = h b; goes_on = λ more reply g. g; fits = fits }
each (Calls s c fits) done operations (InOperation t p) half h = h
each (Calls s c fits) done operations (InCall t d p state exchange) half h = h
each (Hears answer) done operations way half h =
    either (is_of_files answer) (answered (log done operations way half) way answer) (given_up (log done operations way half) way) (hears done operations way half answer h) (gives-up done operations way half h)
each GivesUp done operations way half h = gives-up done operations way half h

all : (steps : List LogStep) (l : Log) → Holds l → Holds (after_all steps l)
all [] l h = h
all (step ∷ steps) l h = all steps (after step l) (each step l.done l.operations l.under_way l.half_written h)

-- where no call is under way, nothing has to come behind
held-unfolds : (done : List Replied) (operations : List Performed) (way : UnderWay) (half : Bool) → Holds (log done operations way half) → IsWhole (log done operations way half) → Unfolds done operations
held-unfolds done operations way half h whole = subst (λ (ds : List Replied). Unfolds ds operations) (append-nil done) (subst (λ (os : List Performed). Unfolds (done ++ []) os) (append-nil operations) (by way whole.no_call (h whole.none_half) [] [] nothing))
  where
    by : (w : UnderWay) → is_in_call w ≡ false → HoldsIn done operations w → Precedes done operations []
    by Idle e k = k
    by (InOperation s op) e k = k
    by (InCall s c op state exchange) e k = absurd (true≢false e)

pub whole-unfolds : (steps : List LogStep) → IsWhole (log_of steps) → Unfolds (log_of steps).done (log_of steps).operations
whole-unfolds steps whole = let l = log_of steps in held-unfolds l.done l.operations l.under_way l.half_written (all steps no_log (λ b ds os u. u)) whole
