-- How a node ends follows from what it was given.
use Rattle.jn_node_laws.proofs.Common.{◌≡◌, ◌≢◌, ℕ, ◌<◌, true, false, List, [], take, Option, Some, None, is_some, refl, sym, ◌∙◌, ap, subst, arith, true≢false, same_Some, ServerNo, Contents, image_bytes, Has, image_name, accepted_is_not_refused, one_cause, StableState, Sent, frames_of, pairs_view, Framed, Unframed, NoneFails, Outside, SinkState, Writes, WritesFront, sent_bytes, append_known, Cause, IsRefused, refusal_text, Node, Status, IsFound, NodeEnds, ServedFront, ServedWhole, epoch_found, state_then, node_done, node_not_loaded, node_refused, node_refusal_not_written, node_not_read, node_not_written, node_no_epoch, node_no_epoch_left, node_passed_limit, node_frame, node_unsettled, node_not_saved, node_no_memory, node_no_memory_inside, last_epoch, NodesAreCutShort, NodesComplete, NodesEndAsGiven, NodesEndInOneWay, NodesEndOnce, OneEndIsGiven, Tell, is_own_end, EndsAsGiven, EndsBy, EndsWhole, HasNoFrame, IsGiven, PassesLimit, as_given, cut_short, given_frames, given_no_epoch, given_refused, has_no_epoch, has_no_frame, has_waiting, is_done, is_too_long, Books, BooksServeAll, first_books, Leads, writes-nothing}
use Rattle.jn_status.specs.declared.status.Status.TheVariants.{Done, Image, Limit, Memory, Unsettled, Frame}
use Rattle.jn_node_laws.proofs.Fronts.{front-of-all, front-sent, leads-first}
use Rattle.jn_node_laws.proofs.Inputs.{PiecesJoin, at-end-ends, ends-whole, fault-breaks, front-frames, no-two, passes-whole, past-passes, unframed_of}
use Rattle.jn_node_laws.proofs.Leading.{found-same, leads-of, leads-once, renamed}

-- ---- by what it was given

pub nodes-complete : NodesComplete
nodes-complete node before after _ fails (node_done e saves) lacks = refl
nodes-complete node before after _ fails (node_not_loaded source sink keeper) lacks = absurd (fails.keeper keeper.rose)
nodes-complete node before after _ fails (node_refused r source keeper) lacks = refl
nodes-complete node before after _ fails (node_refusal_not_written r source keeper) lacks = absurd (fails.sink (let w = r.written in w.rose))
nodes-complete node before after _ fails (node_not_read t none fits rose keeper) lacks = absurd (fails.source rose)
nodes-complete node before after _ fails (node_not_written t source keeper) lacks = absurd (fails.sink (let w = t.written in w.rose))
nodes-complete node before after _ fails (node_no_epoch f last same) lacks = refl
nodes-complete node before after _ fails (node_no_epoch_left e last keeper) lacks = refl
nodes-complete node before after _ fails (node_passed_limit t none past source keeper) lacks = refl
nodes-complete node before after _ fails (node_frame t meets source keeper) lacks = refl
nodes-complete node before after _ fails (node_unsettled t end waits source keeper) lacks = refl
nodes-complete node before after _ fails (node_not_saved e less keeper) lacks = absurd (fails.keeper keeper.rose)
nodes-complete node before after _ fails (node_no_memory same) lacks = absurd (lacks refl)
nodes-complete node before after _ fails (node_no_memory_inside t source keeper) lacks = absurd (lacks refl)

-- ---- how the stream ends

none-left : (n : ℕ) → n < last_epoch → n ≡ last_epoch → ⊥
none-left n h k = omega (arith, h, k)

module _ (s : ServerNo) (text : List ℕ) (z : StableState) where
  long : (P : Type 0) → EndsWhole s text → PassesLimit s text → P
  long P ends passes = absurd (no-two _ ends.fits passes.past)

  broken : (P : Type 0) → EndsWhole s text → HasNoFrame s text → P
  broken P ends breaks = absurd (ends-whole s text ends breaks)

  both : (P : Type 0) → PassesLimit s text → HasNoFrame s text → P
  both P passes breaks = absurd (passes-whole s text passes breaks)

  one-way : (a b : Status) → EndsBy s text z a → EndsBy s text z b → a ≡ b
  one-way _ _ (is_done e settled less) (is_done f too few) = refl
  one-way _ _ (is_done e settled less) (has_no_epoch f too last) = absurd (none-left z.epoch less last)
  one-way _ _ (is_done e settled less) (has_waiting f waits) = absurd (waits settled)
  one-way _ _ (is_done e settled less) (is_too_long p) = long _ e p
  one-way _ _ (is_done e settled less) (has_no_frame b) = broken _ e b
  one-way _ _ (has_no_epoch e settled last) (is_done f too few) = absurd (none-left z.epoch few last)
  one-way _ _ (has_no_epoch e settled last) (has_no_epoch f too end) = refl
  one-way _ _ (has_no_epoch e settled last) (has_waiting f waits) = absurd (waits settled)
  one-way _ _ (has_no_epoch e settled last) (is_too_long p) = refl
  one-way _ _ (has_no_epoch e settled last) (has_no_frame b) = broken _ e b
  one-way _ _ (has_waiting e waits) (is_done f too few) = absurd (waits too)
  one-way _ _ (has_waiting e waits) (has_no_epoch f too end) = absurd (waits too)
  one-way _ _ (has_waiting e waits) (has_waiting f too) = refl
  one-way _ _ (has_waiting e waits) (is_too_long p) = long _ e p
  one-way _ _ (has_waiting e waits) (has_no_frame b) = broken _ e b
  one-way _ _ (is_too_long p) (is_done f too few) = long _ f p
  one-way _ _ (is_too_long p) (has_no_epoch f too end) = refl
  one-way _ _ (is_too_long p) (has_waiting f waits) = long _ f p
  one-way _ _ (is_too_long p) (is_too_long q) = refl
  one-way _ _ (is_too_long p) (has_no_frame b) = both _ p b
  one-way _ _ (has_no_frame b) (is_done f too few) = broken _ f b
  one-way _ _ (has_no_frame b) (has_no_epoch f too end) = broken _ f b
  one-way _ _ (has_no_frame b) (has_waiting f waits) = broken _ f b
  one-way _ _ (has_no_frame b) (is_too_long p) = both _ p b
  one-way _ _ (has_no_frame b) (has_no_frame c) = refl

  way-own : (status : Status) → EndsBy s text z status → is_own_end status ≡ true
  way-own _ (is_done e settled less) = refl
  way-own _ (has_no_epoch e settled last) = refl
  way-own _ (has_waiting e waits) = refl
  way-own _ (is_too_long p) = refl
  way-own _ (has_no_frame b) = refl

-- ---- what is given

-- what a sink took
writes-same : (one two : List ℕ) (sink now then : SinkState) → two ≡ one → Writes one sink now → Writes two sink then → now ≡ then
writes-same one two sink now then same a b = λ i. record { taken = taken i; faults = faults i }
  where
    taken : now.taken ≡ then.taken
    taken = a.took ∙ ap (λ (l : List ℕ). append_known sink.taken l) (sym same) ∙ sym b.took

    faults : now.faults ≡ then.faults
    faults = a.faults ∙ sym b.faults

-- what a keeper has under one name
has-one : (kept : Option Contents) (name : List ℕ) (one two : Option (List ℕ)) → is_some kept ≡ true → Has kept name one → Has kept name two → two ≡ one
has-one None name one two told a b = absurd (true≢false (sym told))
has-one (Some holds) name one two told a b = sym b ∙ a

pub given-own : (node : Node) (before : Outside) (status : Status) (text : List ℕ) → IsGiven node before status text → is_own_end status ≡ true
given-own node before _ _ (given_refused content cause has refused) = refl
given-own node before _ _ (given_no_epoch f last) = refl
given-own node before _ _ (given_frames text status left leads way) = way-own node.server text leads.last.found status way

module _ (node : Node) (before : Outside) (tells : is_some before.keeper.kept ≡ true) where
  -- an image is refused, or found
  not-found : (content : Option (List ℕ)) (cause : Cause) → Has before.keeper.kept (image_name node.opening node.server.0) content → IsRefused node.server content cause
      → IsFound node before.keeper.kept → ⊥
  not-found content cause has refused f = let disk = f.opened in let kept = disk.disk in
      accepted_is_not_refused node.server content cause
      (kept.image, kept.is_sound, has-one before.keeper.kept (image_name node.opening node.server.0) (Some (image_bytes kept.image)) content tells kept.bytes has) refused

  one-refusal : (content more : Option (List ℕ)) (cause other : Cause) → Has before.keeper.kept (image_name node.opening node.server.0) content
      → Has before.keeper.kept (image_name node.opening node.server.0) more → IsRefused node.server content cause → IsRefused node.server more other → cause ≡ other
  one-refusal content more cause other has too refused again =
      one_cause node.server content cause other refused (subst (λ (c : Option (List ℕ)). IsRefused node.server c other)
      (has-one before.keeper.kept (image_name node.opening node.server.0) content more tells has too) again)

  -- a server that came up had an epoch left
  not-used-up : (f : IsFound node before.keeper.kept) (frames : List Framed) (leads : Leads node before.keeper.kept frames) → epoch_found f ≡ last_epoch → ⊥
  not-used-up f frames leads last = none-left _ leads.before_last (ap (λ (z : StableState). z.epoch) (found-same node before.keeper.kept tells f leads.found (λ n. false) (λ n. false)) ∙ last)

  -- frames of one source
  frames-given : (text more : List ℕ) (a b : Status) → before.source.left ≡ Some text → before.source.left ≡ Some more
      → (t : Leads node before.keeper.kept (frames_of node.server text)) (u : Leads node before.keeper.kept (frames_of node.server more))
      → EndsBy node.server text t.last.found a → EndsBy node.server more u.last.found b → (a ≡ b) × (sent_bytes node.server t.sent ≡ sent_bytes node.server u.sent)
  frames-given text more a b left too t u way its =
      let same : more ≡ text = same_Some more text (sym too ∙ left) in
      let one = leads-once node before.keeper.kept tells (frames_of node.server text) (frames_of node.server more) t u (ap (frames_of node.server) same) in (
        one-way node.server text t.last.found a b way (subst (λ (z : Books). EndsBy node.server text z.found b) one.1
            (subst (λ (l : List ℕ). EndsBy node.server l u.last.found b) same its)),
        ap (sent_bytes node.server) (sym one.0),
      )

  given-same : (a b : Status) (text more : List ℕ) → IsGiven node before a text → IsGiven node before b more → (a ≡ b) × (text ≡ more)
  given-same _ _ _ _ (given_refused content cause has refused) (given_refused other why too again) =
      (refl, ap (λ (c : Cause). refusal_text (record { server = node.server; cause = c })) (one-refusal content other cause why has too refused again))
  given-same _ _ _ _ (given_refused content cause has refused) (given_no_epoch h end) = absurd (not-found content cause has refused h)
  given-same _ _ _ _ (given_refused content cause has refused) (given_frames more b too u its) = absurd (not-found content cause has refused u.found)
  given-same _ _ _ _ (given_no_epoch f last) (given_refused other why too again) = absurd (not-found other why too again f)
  given-same _ _ _ _ (given_no_epoch f last) (given_no_epoch h end) = (refl, refl)
  given-same _ _ _ _ (given_no_epoch f last) (given_frames more b too u its) = absurd (not-used-up f _ u last)
  given-same _ _ _ _ (given_frames text a left t way) (given_refused other why too again) = absurd (not-found other why too again t.found)
  given-same _ _ _ _ (given_frames text a left t way) (given_no_epoch h end) = absurd (not-used-up h _ t end)
  given-same _ _ _ _ (given_frames text a left t way) (given_frames more b too u its) = frames-given text more a b left too t u way its

pub one-given : OneEndIsGiven
one-given node before a b text more tells given its = let same = given-same node before tells.keeper a b text more given its in (given-own node before a text given, same.0, same.1)

-- ---- as it was given

module _ (pieces : PiecesJoin) (node : Node) (before after : Outside) (tells : Tell before) (fails : NoneFails before after) where
  -- served to the front of the text
  cut : (text : List ℕ) → before.source.left ≡ Some text → (leads : Leads node before.keeper.kept (frames_of node.server text)) → ServedFront node before after WritesFront
      → WritesFront (sent_bytes node.server leads.sent) before.sink after.sink
  cut text left leads t =
      let (more, e) = front-frames node.server text before.source left t.read after.source t.gave pieces t.front in
      let begins = first_books node.server leads.found.counts (pairs_view leads.found.disk) in
      let h = leads-first node.server leads.found.counts begins (frames_of node.server (take t.front t.read)) more leads.sent leads.last
      (subst (λ (fs : List Framed). BooksServeAll node.server leads.found.counts begins fs leads.sent leads.last) e leads.serves) in
      let begun : Leads node before.keeper.kept (frames_of node.server (take t.front t.read)) =
      record { found = leads.found; before_last = leads.before_last; sent = h.first; last = h.last; serves = h.serves } in
      let its = leads-of node before.keeper.kept tells.keeper (frames_of node.server (take t.front t.read)) t.served in
      let one = leads-once node before.keeper.kept tells.keeper (frames_of node.server (take t.front t.read)) (frames_of node.server (take t.front t.read)) begun its refl in
      front-sent node.server leads.sent h.first h.later before.sink after.sink h.both (subst (λ (l : List Sent). WritesFront (sent_bytes node.server l) before.sink after.sink) one.0 t.written)

  cut-given : (status : Status) (text : List ℕ) → ServedFront node before after WritesFront → IsGiven node before status text → WritesFront text before.sink after.sink
  cut-given _ _ t (given_refused content cause has refused) = absurd (not-found node before tells.keeper content cause has refused (let s = t.served in s.found))
  cut-given _ _ t (given_no_epoch f last) = absurd (not-used-up node before tells.keeper f _ (leads-of node before.keeper.kept tells.keeper _ t.served) last)
  cut-given _ _ t (given_frames text status left leads way) = cut text left leads t

  module _ (text : List ℕ) (left : before.source.left ≡ Some text) where
    told : (status : Status) (t : ServedWhole node before after) → unframed_of node.server t.read ≡ unframed_of node.server text → EndsBy node.server text (state_then t.served) status
        → EndsAsGiven node before after.sink status
    told status t same way = let e = ap (λ (u : Unframed). u.frames) (sym same) in
        let leads = leads-of node before.keeper.kept tells.keeper (frames_of node.server t.read) t.served in
        as_given status (sent_bytes node.server t.served.sent)
        (given_frames text status left (renamed (frames_of node.server t.read) (frames_of node.server text) e leads) way) t.written

    ending : (status : Status) → NodeEnds node before after status → EndsAsGiven node before after.sink status
    ending _ (node_done e saves) =
        let t = e.told in let end = at-end-ends node.server text before.source left t.read e.end in let closed = saves.closed in
        told Done t end.0 (is_done end.1 e.settled closed.before_last)
    ending _ (node_not_loaded source sink keeper) = absurd (fails.keeper keeper.rose)
    ending _ (node_refused r source keeper) = as_given Image (refusal_text (record { server = node.server; cause = r.cause })) (given_refused r.content r.cause r.has r.refused) r.written
    ending _ (node_refusal_not_written r source keeper) = absurd (fails.sink (let w = r.written in w.rose))
    ending _ (node_not_read t none fits rose keeper) = absurd (fails.source rose)
    ending _ (node_not_written t source keeper) = absurd (fails.sink (let w = t.written in w.rose))
    ending _ (node_no_epoch f last same) = as_given Limit [] (given_no_epoch f last) (subst (λ (o : Outside). Writes [] before.sink o.sink) (sym same) (writes-nothing before.sink))
    ending _ (node_no_epoch_left e last keeper) =
        let t = e.told in let end = at-end-ends node.server text before.source left t.read e.end in
        told Limit t end.0 (has_no_epoch end.1 e.settled last)
    ending _ (node_passed_limit t none past source keeper) = let end = past-passes node.server text before.source left t.read after.source t.gave none past in told Limit t end.0 (is_too_long end.1)
    ending _ (node_frame t meets source keeper) = let end = fault-breaks node.server text before.source left t.read after.source t.gave pieces meets in told Frame t end.0 (has_no_frame end.1)
    ending _ (node_unsettled t at waits source keeper) = let end = at-end-ends node.server text before.source left t.read at in told Unsettled t end.0 (has_waiting end.1 waits)
    ending _ (node_not_saved e less keeper) = absurd (fails.keeper keeper.rose)
    ending _ (node_no_memory same) = cut_short (λ status text given. subst (λ (o : Outside). WritesFront text before.sink o.sink) (sym same) (front-of-all text before.sink))
    ending _ (node_no_memory_inside t source keeper) = cut_short (λ status text given. cut-given status text t given)

pub left-some : (o : Option (List ℕ)) → is_some o ≡ true → (text : List ℕ) × (o ≡ Some text)
left-some None h = absurd (true≢false (sym h))
left-some (Some text) h = (text, refl)

pub nodes-as-given : PiecesJoin → NodesEndAsGiven
nodes-as-given pieces node before after status tells fails h = let (text, left) = left-some before.source.left tells.source in ending pieces node before after tells fails text left status h

-- ---- two calls from one outside

module _ (node : Node) (before : Outside) (sink : SinkState) where
  was-given : (status : Status) → EndsAsGiven node before sink status → status ≢ Memory → (text : List ℕ) × IsGiven node before status text × Writes text before.sink sink
  was-given _ (as_given status text given writes) lacks = (text, given, writes)
  was-given _ (cut_short front) lacks = absurd (lacks refl)

  was-cut : EndsAsGiven node before sink Memory → (status : Status) (text : List ℕ) → IsGiven node before status text → WritesFront text before.sink sink
  was-cut (as_given _ own given writes) status text its = absurd (true≢false (sym (given-own node before Memory own given)))
  was-cut (cut_short front) status text its = front status text its

pub nodes-end-in-one-way : PiecesJoin → NodesEndInOneWay
nodes-end-in-one-way pieces node before after other a b tells fails fail h k lacks lack =
    let (one, given, writes) = was-given node before after.sink a (nodes-as-given pieces node before after a tells fails h) lacks in
    let (two, its, writes_too) = was-given node before other.sink b (nodes-as-given pieces node before other b tells fail k) lack in
    let same = given-same node before tells.keeper a b one two given its in
    (same.0, writes-same one two before.sink after.sink other.sink (sym same.1) writes writes_too)

pub nodes-end-once : PiecesJoin → NodesEndOnce
nodes-end-once pieces node before after a b tells fails h k lacks lack =
    let same = nodes-end-in-one-way pieces node before after after a b tells fails fails h k lacks lack in same.0

pub nodes-cut-short : PiecesJoin → NodesAreCutShort
nodes-cut-short pieces node before after other status tells fails fail h k lacks =
    let (text, given, writes) = was-given node before other.sink status (nodes-as-given pieces node before other status tells fail k) lacks in
    (text, writes, was-cut node before after.sink (nodes-as-given pieces node before after Memory tells fails h) status text given)
