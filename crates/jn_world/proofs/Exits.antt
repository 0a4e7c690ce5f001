-- Where a call ends early.
use Rattle.jn_net.specs.declared.SendFault.{SendFault}
use Rattle.jn_net.specs.declared.SendFault.TheVariants.{Limit, Memory as NoMemory}
use Rattle.jn_world.proofs.Common.{Line, EndsStep, EndsPart, Ended, Memory, Messages, Epoch, Standing, ◌≡◌, Ok, Err, true≢false, sym, subst, ◌<◌, length, refl, List, Result, IsErr, IsErrAnd}
use Rattle.jn_world.specs.Faults.{ended_by}

pub ends-memory : {S A : Type 0} (r : Result A Ended) (w now : Standing S) (lines wanted later : List Line) → IsErr r → IsErrAnd r (λ e. e ≡ Memory) → EndsStep r w now lines wanted later
ends-memory (Ok a) w now lines wanted later is which = absurd (true≢false (sym is))
ends-memory {S} {A} (Err e) w now lines wanted later is which = subst (λ (f : Ended). EndsStep {S = S} {A = A} (Err f) w now lines wanted later) (sym which) tt

pub part-memory : {S A : Type 0} (r : Result A Ended) (w now : Standing S) (wanted later : List Line) → IsErr r → IsErrAnd r (λ e. e ≡ Memory) → EndsPart r w now wanted later
part-memory (Ok a) w now wanted later is which = absurd (true≢false (sym is))
part-memory {S} {A} (Err e) w now wanted later is which = subst (λ (f : Ended). EndsPart {S = S} {A = A} (Err f) w now wanted later) (sym which) tt

-- a message isn't sent
pub ends-unsent : {S A : Type 0} (fault : SendFault) (r : Result A Ended) (w now : Standing S) (lines wanted : List Line) → (fault ≡ Limit → 1000000 < length w.net.sent) → IsErr r → IsErrAnd r (λ e. e ≡ ended_by fault) → EndsStep r w now lines wanted lines
ends-unsent fault (Ok a) w now lines wanted many is which = absurd (true≢false (sym is))
ends-unsent {S} {A} Limit (Err e) w now lines wanted many is which = subst (λ (f : Ended). EndsStep {S = S} {A = A} (Err f) w now lines wanted lines) (sym which) (many refl, refl)
ends-unsent {S} {A} NoMemory (Err e) w now lines wanted many is which = subst (λ (f : Ended). EndsStep {S = S} {A = A} (Err f) w now lines wanted lines) (sym which) tt

pub part-as : {S A : Type 0} (r : Result A Ended) (w v now : Standing S) (wanted other later : List Line) → w ≡ v → wanted ≡ other → EndsPart r w now wanted later → EndsPart r v now other later
part-as {S} r w v now wanted other later same lines h = subst (λ (u : Standing S). EndsPart r u now other later) same (subst (λ (l : List Line). EndsPart r w now l later) lines h)

-- a call below ended so, and no line is added here either
pub ends-again : {S A : Type 0} (B : Type 0) (e : Ended) (r : Result A Ended) (w now : Standing S) (told wanted told' here all : List Line) → IsErr r → IsErrAnd r (λ f. f ≡ e) → EndsStep {S = S} {A = B} (Err e) w now told wanted told' → EndsStep r w now here all here
ends-again B e (Ok a) w now told wanted told' here all is which h = absurd (true≢false (sym is))
ends-again {S} {A} B e (Err f) w now told wanted told' here all is which h = subst (λ (x : Ended). EndsStep {S = S} {A = A} (Err x) w now here all here) (sym which) (by e h)
  where
    by : (e : Ended) → EndsStep {S = S} {A = B} (Err e) w now told wanted told' → EndsStep {S = S} {A = A} (Err e) w now here all here
    by Messages h = (h.0, refl)
    by (Epoch q) h = h
    by Memory h = tt
