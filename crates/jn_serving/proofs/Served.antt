-- What is served behind what was served.
use Rattle.jn_serving.proofs.Common.{◌≡◌, ◌<◌, ℕ, Bool, ◌+◌, List, [], ◌∷◌, ◌++◌, length, take, get_or, refl, sym, ◌∙◌, ap, subst, true≢false, Result, Ok, Err, true, false, OnOk, IsErr, IsErrAnd, take_more, ServerNo, TakesFrame, IsNode, counts_at, running_at, Running, bytes-both, serves-both, serves-more, Counts, StoreView, Framed, Unframed, SinkState, Writes, FailsToWrite, AnswerFault, ServesAll, ServesOne, ServesPiece, ServesTo}
use Rattle.jn_node.specs.declared.node.Node.{Node}
use Rattle.jn_node.specs.Serving.{NoFrame, ServesFrame, sent_bytes}
use Rattle.jn_rows.specs.Outcomes.{Sent}
use Rattle.jn_wire.specs.declared.frame.Body.{Body}
use Rattle.jn_writing.specs.Calls.{WritesAll}
use Rattle.jn_serving.specs.declared.fault.AnswerFault.TheVariants as answers
use Rattle.jn_serving.specs.declared.fault.StreamFault.TheVariants as streams
use Rattle.jn_serving.proofs.Written.{GoesBehind, as-front, fails-behind, writes-behind, writes-nothing}

-- a front with the element behind it
at-end : {X : Type 0} (xs : List X) (i : ℕ) (x : X) → i < length xs → x ≡ get_or xs i x → take (i + 1) xs ≡ take i xs ++ x ∷ []
at-end xs i x within is = take_more xs i x within ∙ ap (λ y. take i xs ++ y ∷ []) (sym is)

module _ (s : ServerNo) (g : Counts) where
  -- no frame yet
  pub nothing-served : (x : Running) (sink : SinkState) → ServesTo s g x sink [] Writes x sink
  nothing-served x sink = record { sent = []; serves = NoFrame x; written = writes-nothing sink }

  -- frames behind others
  pub served-then : (W : List ℕ → SinkState → SinkState → Type 0) → GoesBehind W → (x y z : Running) (a b c : SinkState) (fs hs : List Framed)
      → ServesTo s g x a fs Writes y b → ServesTo s g y b hs W z c → ServesTo s g x a (fs ++ hs) W z c
  served-then W behind x y z a b c fs hs first second = record {
    sent = first.sent ++ second.sent;
    serves = serves-both s g x y z fs hs first.sent second.sent first.serves second.serves;
    written = subst (λ (l : List ℕ). W l a c) (sym (bytes-both s first.sent second.sent)) (behind a b c (sent_bytes s first.sent) (sent_bytes s second.sent) first.written second.written);
  }

  -- one behind others
  one-served : (W : List ℕ → SinkState → SinkState → Type 0) → GoesBehind W → (x y z : Running) (a b c : SinkState) (fs : List Framed) (f : Framed)
      → ServesTo s g x a fs Writes y b → (sent : List Sent) → ServesFrame s g y f.body sent z → W (sent_bytes s sent) b c → ServesTo s g x a (fs ++ f ∷ []) W z c
  one-served W behind x y z a b c fs f first sent serves written = record {
    sent = first.sent ++ sent;
    serves = serves-more s g x y z fs f first.sent sent first.serves serves;
    written = subst (λ (l : List ℕ). W l a c) (sym (bytes-both s first.sent sent)) (behind a b c (sent_bytes s first.sent) (sent_bytes s sent) first.written written);
  }

  -- a frame more
  pub goes-on : (x y z : Running) (a b c : SinkState) (fs : List Framed) (i : ℕ) (f : Framed) → i < length fs → f ≡ get_or fs i f
      → ServesTo s g x a (take i fs) Writes y b → ServesOne s g y b f.body (Ok tt) z c → ServesTo s g x a (take (i + 1) fs) Writes z c
  goes-on x y z a b c fs i f within is first one = let (sent, serves, written) = one.whole refl in
      subst (λ (l : List Framed). ServesTo s g x a l Writes z c) (sym (at-end fs i f within is)) (one-served Writes writes-behind x y z a b c (take i fs) f first sent serves written)

  -- a frame that isn't served whole
  pub stops-at : (x y z : Running) (a b c : SinkState) (fs : List Framed) (i : ℕ) (f : Framed) (e : AnswerFault) → i < length fs → f ≡ get_or fs i f
      → ServesTo s g x a (take i fs) Writes y b → ServesOne s g y b f.body (Err e) z c → ServesAll s g x a fs (Err e) z c
  stops-at x y z a b c fs i f answers.Write within is first one = let (sent, serves, written) = one.write refl in record {
    whole = λ no. absurd (cc no);
    write = λ same. record {
      count = i + 1;
      last = z;
      serves = subst (λ (l : List Framed). ServesTo s g x a l FailsToWrite z c) (sym (at-end fs i f within is))
          (one-served FailsToWrite fails-behind x y z a b c (take i fs) f first sent serves written);
    };
    memory = λ no. absurd (cc no);
  }
  stops-at x y z a b c fs i f answers.Memory within is first one = record {
    whole = λ no. absurd (cc no);
    write = λ no. absurd (cc no);
    memory = λ same. record {
      count = i;
      last = y;
      serves = record {
        sent = first.sent;
        serves = first.serves;
        written = as-front a c (sent_bytes s first.sent) (subst (λ (k : SinkState). Writes (sent_bytes s first.sent) a k) (sym (one.memory refl)) first.written);
      };
    };
  }

  -- all of them
  pub all-served : (x y : Running) (a b : SinkState) (fs : List Framed) → ServesTo s g x a fs Writes y b → ServesAll s g x a fs (Ok tt) y b
  all-served x y a b fs h = record { whole = λ same. h; write = λ no. absurd (cc no); memory = λ no. absurd (cc no) }

  -- ---- a piece

  -- none of its frames was served
  pub piece-without : (x y : Running) (a : SinkState) (u : Unframed) → ServesPiece s g x a u (Err streams.Memory) y a
  piece-without x y a u = record {
    whole = λ no. absurd (cc no);
    no_frame = λ no. absurd (cc no);
    write = λ no. absurd (cc no);
    no_read = λ no. cc no;
    no_end = λ no. cc no;
    memory = λ same. record { count = 0; last = x; serves = record { sent = []; serves = NoFrame x; written = as-front a a [] (writes-nothing a) } };
  }

-- ---- a frame

module _ {S : Type 0} (look : S → StoreView) (n k m : Node S) (body : Body) (a b : SinkState) (bytes : List ℕ) (same : k ≡ record n { answers = k.answers }) (empty : k.answers.items ≡ [])
    (takes : TakesFrame look k body m) (is : bytes ≡ m.answers.items) where
  serves : ServesFrame n.server (counts_at n) (running_at look n) body takes.sent (running_at look m)
  serves = subst (λ (q : Node S). ServesFrame q.server (counts_at q) (running_at look q) body takes.sent (running_at look m)) same takes.serves

  bytes-are : bytes ≡ sent_bytes n.server takes.sent
  bytes-are = is ∙ takes.answers ∙ ap (λ (l : List ℕ). l ++ sent_bytes k.server takes.sent) empty ∙ ap (λ (q : Node S). sent_bytes q.server takes.sent) same

  pub frame-served : (ok : Bool) → ok ≡ true → WritesAll a.taken a.faults bytes ok b.taken b.faults → ServesOne n.server (counts_at n) (running_at look n) a body (Ok tt) (running_at look m) b
  frame-served ok done w = record {
    whole = λ same. (takes.sent, serves, subst (λ (l : List ℕ). Writes l a b) bytes-are (record { took = w.whole done; faults = w.no_fault done }));
    write = λ no. absurd (cc no);
    memory = λ no. absurd (cc no);
  }

  pub frame-not-written : (ok : Bool) → ok ≡ false → WritesAll a.taken a.faults bytes ok b.taken b.faults
      → ServesOne n.server (counts_at n) (running_at look n) a body (Err answers.Write) (running_at look m) b
  frame-not-written ok failed w = record {
    whole = λ no. absurd (cc no);
    write = λ same. (takes.sent, serves, subst (λ (l : List ℕ). FailsToWrite l a b) bytes-are (record { took = w.front failed; rose = w.rose failed }));
    memory = λ no. absurd (cc no);
  }

-- what the exit of a `?` answers
pub exit-as : {A E : Type 0} (P : Result A E → Type 0) (r : Result A E) (e : E) → IsErr r → IsErrAnd r (λ (f : E). f ≡ e) → P (Err e) → P r
exit-as P (Ok v) e is which h = absurd (true≢false (sym is))
exit-as {A} {E} P (Err f) e is which h = subst (λ (d : E). P (Err d)) (sym which) h

-- a node that forgot its answers
pub cleared : {S : Type 0} (look : S → StoreView) (n k : Node S) → k ≡ record n { answers = k.answers } → IsNode look n → IsNode look k
cleared {S} look n k same h = subst (λ (q : Node S). IsNode look q) (sym same) (record { runs = h.runs; rests = h.rests })

-- the same frame at the same server
pub same-one : (s t : ServerNo) (g h : Counts) (y : Running) (b : SinkState) (body : Body) (r q : Result (Unit {0}) AnswerFault) (z : Running) (c : SinkState) → t ≡ s → h ≡ g → r ≡ q
    → ServesOne t h y b body r z c → ServesOne s g y b body q z c
same-one s t g h y b body r q z c own same is one =
    subst (λ (k : Result (Unit {0}) AnswerFault). ServesOne s g y b body k z c) is (subst (λ (k : Counts). ServesOne s k y b body r z c) same
    (subst (λ (k : ServerNo). ServesOne k h y b body r z c) own one))

-- whatever is answered
pub on-any : {A E : Type 0} (P : Type 0) (r : Result A E) → P → OnOk r P
on-any P (Ok v) h = h
on-any P (Err e) h = tt
