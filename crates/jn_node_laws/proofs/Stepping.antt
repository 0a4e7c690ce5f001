-- What a server on its pages does with frames is what its books lead to, message by message and step by step.
use Rattle.jn_node_laws.proofs.Common.{◌≡◌, ◌⊎◌, inl, inr, ℕ, false, List, [], ◌∷◌, ◌++◌, Option, Some, None, refl, sym, ◌∙◌, ap, subst, append_assoc, append-nil, ServerNo, Tid, WorkId, Message, Counts, RowOutcome, Sent, StableState, made_all, epoch-all, going_row, going_work, Work, Room, of_step, server_again, server_step, server_timeout, storage_of, Memory, Framed, Beside, left_over, Running, state_of, beside_at, room_on, IsMade, IsMoment, Begins, Desk, IsTaken, NoFrame, Nudges, OneMore, Rests, ServesFrame, ServesFrames, Settles, Takes, TakesOwn, TimesOut, Works, posted, row_for, step_of, to_itself, to_others, AreNamed, FramesFixWhatIsSent, left_by_work, Body, Books, BooksServe, BooksServeAll, BooksSettle, ServeMessage, ServeNone, ServeNudge, ServeOneMore, ServeTimeout, SettleByOwn, SettleByWork, SettleHere, taken_by}
use Rattle.jn_wire.specs.declared.frame.Body.TheVariants as bodies
use Rattle.jn_node_laws.proofs.Once.{all-once}
use Rattle.jn_node_laws.proofs.Rooms.{books_of, listed-on, row-is, step-is}
use Rattle.jn_node_laws.proofs.Rows.{AllWhole, IsPart, row-names, step-names, timeout-names, timeout-next}

-- between two rows, and amid a work that is carried out
pub record IsSteady (s : ServerNo) (g : Counts) (x : Running) : Type 0 where
  pub named : AreNamed (state_of g x).epoch x.memory (state_of g x)
  pub moment : IsMoment s g x

none-first : (m : Message) (own : List Message) → [] ≡ m ∷ own → ⊥
none-first m own e = cc

module _ (s : ServerNo) (g : Counts) where
  -- ---- a row

  module _ (x y : Running) (row : RowOutcome Memory) (left : Beside) (a : IsMade s g row left x y) where
    made-books : books_of g y ≡ record { memory = row.table; found = made_all row.changes (state_of g x); beside = left }
    made-books = λ i. record { memory = a.memory i; found = a.found (λ k. false) i; beside = a.beside i }

    made-steady : AreNamed (state_of g x).epoch row.table (made_all row.changes (state_of g x)) → IsSteady s g y
    made-steady named = record {
      named = subst (λ (b : Books). AreNamed b.found.epoch b.memory b.found) (sym made-books)
          (subst (λ (e : ℕ). AreNamed e row.table (made_all row.changes (state_of g x))) (sym (epoch-all row.changes (state_of g x))) named);
      moment = a.moment;
    }

  module _ (x y : Running) (n : IsSteady s g x) (whole : AllWhole x.memory.next) (m : Message) (a : IsTaken s g m x y) where
    taken-steady : IsSteady s g y
    taken-steady = made-steady x y (row_for g x m) (left_over (state_of g x) (row_for g x m).changes (beside_at g x)) a
        (let k = row-names (state_of g x).epoch x.memory (state_of g x) n.named (room_on g x) m in k.named)

    taken-whole : AllWhole y.memory.next
    taken-whole = subst (λ (k : Memory). AllWhole k.next) (sym a.memory) (let k = row-names (state_of g x).epoch x.memory (state_of g x) n.named (room_on g x) m in k.whole whole)

    -- what follows from it is what follows from its row by the books
    taken-settles : (own : List Message) (sent : List Sent) (c : Books) → BooksSettle s g (books_of g y) (own ++ to_itself s (row_for g x m).messages) sent c
        → BooksSettle s g (books_of g x) (m ∷ own) (to_others s (row_for g x m).messages ++ sent) c
    taken-settles own sent c h =
        let same = row-is s g x n.moment n.named whole m in
        subst (λ (r : RowOutcome Memory). BooksSettle s g (books_of g x) (m ∷ own) (to_others s r.messages ++ sent) c) (sym same)
        (SettleByOwn (books_of g x) c m own sent (listed-on s g x n.moment)
        (subst (λ (r : RowOutcome Memory). BooksSettle s g (taken_by (books_of g x) r) (own ++ to_itself s r.messages) sent c) same
        (subst (λ (b : Books). BooksSettle s g b (own ++ to_itself s (row_for g x m).messages) sent c)
        (made-books x y (row_for g x m) (left_over (state_of g x) (row_for g x m).changes (beside_at g x)) a) h)))

  -- ---- what follows

  -- a part of a work is carried out only where no message of its own waits
  abbrev AreParts : Desk → Type 0
  AreParts d = AllWhole d.running.memory.next ⊎ ((d.own ≡ []) × IsPart d.running.memory (state_of g d.running))

  own-whole : (d : Desk) (m : Message) (own : List Message) → d.own ≡ m ∷ own → AreParts d → AllWhole d.running.memory.next
  own-whole d m own is (inl z) = z
  own-whole d m own is (inr (none, part)) = absurd (none-first m own (sym none ∙ is))

  -- where a work goes there is a step
  goes-on : (m : Memory) (z : StableState) (room : Room) (w : Work) → going_work z m.worker ≡ Some w → server_step m z room ≡ None → ⊥
  goes-on m z room w going none = by (sym (ap (λ (o : Option Work). of_step m (going_row m.worker (storage_of m z room) m.tickets o)) going) ∙ none)
    where
      some-none : (r : RowOutcome Memory) → Some r ≡ None → ⊥
      some-none r e = cc

      by : of_step m (going_row m.worker (storage_of m z room) m.tickets (Some w)) ≡ None → ⊥
      by e = some-none _ e

  rest-whole : (d : Desk) → step_of g d.running ≡ None → AreParts d → AllWhole d.running.memory.next
  rest-whole d none (inl z) = z
  rest-whole d none (inr (own, part)) = absurd (goes-on d.running.memory (state_of g d.running) (room_on g d.running) part.0 part.1 none)

  without : (d : Desk) → AreParts d → AllWhole d.running.memory.next ⊎ IsPart d.running.memory (state_of g d.running)
  without d (inl z) = inl z
  without d (inr (own, part)) = inr part

  stepped-parts : (d : Desk) (row : RowOutcome Memory) (x : Running) → d.own ≡ [] → IsMade s g row (left_by_work (state_of g d.running) row.changes (beside_at g d.running)) d.running x
      → AllWhole row.table.next ⊎ ((row.messages ≡ []) × IsPart row.table (made_all row.changes (state_of g d.running))) → AreParts (posted s d x row.messages)
  stepped-parts d row x own made (inl z) = inl (subst (λ (k : Memory). AllWhole k.next) (sym made.memory) z)
  stepped-parts d row x own made (inr (none, part)) = inr (
    ap (λ (l : List Message). l ++ to_itself s row.messages) own ∙ ap (to_itself s) none,
    subst (λ (z : StableState). IsPart x.memory z) (sym (made.found (λ k. false))) (subst (λ (k : Memory). IsPart k (made_all row.changes (state_of g d.running))) (sym made.memory) part),
  )

  record Follows (d e : Desk) : Type 0 where
    sent : List Sent
    settles : BooksSettle s g (books_of g d.running) d.own sent (books_of g e.running)
    both : e.sent ≡ d.sent ++ sent
    steady : IsSteady s g e.running
    whole : AllWhole e.running.memory.next

  follows : (d e : Desk) → IsSteady s g d.running → AreParts d → Settles s g d e → Follows d e
  follows _ _ n parts (Rests d own none) = record {
    sent = [];
    settles = subst (λ (l : List Message). BooksSettle s g (books_of g d.running) l [] (books_of g d.running)) (sym own)
        (SettleHere (books_of g d.running) (listed-on s g d.running n.moment) (sym (step-is s g d.running n.moment) ∙ none));
    both = sym (append-nil d.sent);
    steady = n;
    whole = rest-whole d none parts;
  }
  follows _ _ n parts (TakesOwn d e m own x is taken rest) =
      let whole = own-whole d m own is parts in
      let later = follows (posted s (record d { own = own }) x (row_for g d.running m).messages) e (taken-steady d.running x n whole m taken) (inl (taken-whole d.running x n whole m taken)) rest in
      record {
        sent = to_others s (row_for g d.running m).messages ++ later.sent;
        settles = subst (λ (l : List Message). BooksSettle s g (books_of g d.running) l (to_others s (row_for g d.running m).messages ++ later.sent) (books_of g e.running)) (sym is)
            (taken-settles d.running x n whole m taken own later.sent (books_of g e.running) later.settles);
        both = later.both ∙ append_assoc d.sent (to_others s (row_for g d.running m).messages) later.sent;
        steady = later.steady;
        whole = later.whole;
      }
  follows _ _ n parts (Works d e row x own is made rest) =
      let keeps = step-names (state_of g d.running).epoch d.running.memory (state_of g d.running) n.named (room_on g d.running) row is in
      let left = left_by_work (state_of g d.running) row.changes (beside_at g d.running) in
      let later = follows (posted s d x row.messages) e (made-steady d.running x row left made keeps.named) (stepped-parts d row x own made (keeps.parts (without d parts))) rest in
      record {
        sent = to_others s row.messages ++ later.sent;
        settles = subst (λ (l : List Message). BooksSettle s g (books_of g d.running) l (to_others s row.messages ++ later.sent) (books_of g e.running)) (sym own)
            (SettleByWork (books_of g d.running) (books_of g e.running) row later.sent (listed-on s g d.running n.moment) (sym (step-is s g d.running n.moment) ∙ is)
            (subst (λ (b : Books). BooksSettle s g b (to_itself s row.messages) later.sent (books_of g e.running)) (made-books d.running x row left made)
            (subst (λ (l : List Message). BooksSettle s g (books_of g x) (l ++ to_itself s row.messages) later.sent (books_of g e.running)) own later.settles)));
        both = later.both ∙ append_assoc d.sent (to_others s row.messages) later.sent;
        steady = later.steady;
        whole = later.whole;
      }

  -- ---- frames

  -- a timeout changes what is remembered alone
  moment-still : (x : Running) (T : Tid) → IsMoment s g x → IsMoment s g (record x { memory = server_timeout x.memory T })
  moment-still x T h = record {
    up = h.up;
    calm = h.calm;
    told = h.told;
    recoverable = h.recoverable;
    counted = h.counted;
    pages = let p = h.pages in
        record { works = p.works; blocks = p.blocks; maps = p.maps; works_all = p.works_all; blocks_all = p.blocks_all; maps_all = p.maps_all; pages_all = p.pages_all };
    held = λ W p e f none. h.held W p e f (ap (λ (next : WorkId → ℕ). next W) (sym (timeout-next x.memory T)) ∙ none);
  }

  -- a server between two frames
  pub record IsBetween (x : Running) : Type 0 where
    pub steady : IsSteady s g x
    pub whole : AllWhole x.memory.next

  frame-serves : (x y : Running) (body : Body) (sent : List Sent) → IsBetween x → ServesFrame s g x body sent y → BooksServe s g (books_of g x) body sent (books_of g y) × IsBetween y
  frame-serves x y body sent b h = subst (λ (z : Running). BooksServe s g (books_of g x) body sent (books_of g z) × IsBetween z) h.running_is
      (subst (λ (l : List Sent). BooksServe s g (books_of g x) body l (books_of g h.last.running) × IsBetween h.last.running) h.sent_is (by body h.first h.begins h.settles))
    where
      by : (body : Body) (d : Desk) → Begins s g x body d → Settles s g d h.last → BooksServe s g (books_of g x) body h.last.sent (books_of g h.last.running) × IsBetween h.last.running
      by _ _ (Takes m x' taken) settles =
          let d : Desk = record { running = x; own = m ∷ []; sent = [] } in
          let f = follows d h.last b.steady (inl b.whole) (TakesOwn d h.last m [] x' refl taken settles) in (
            subst (λ (l : List Sent). BooksServe s g (books_of g x) (bodies.Message m) l (books_of g h.last.running)) (sym f.both)
                (ServeMessage (books_of g x) (books_of g h.last.running) m f.sent f.settles),
            record { steady = f.steady; whole = f.whole },
          )
      by _ _ Nudges settles =
          let f = follows (posted s (record { running = x; own = []; sent = [] }) x (server_again x.memory (state_of g x))) h.last b.steady (inl b.whole) settles in (
            subst (λ (l : List Sent). BooksServe s g (books_of g x) bodies.Nudge l (books_of g h.last.running)) (sym f.both)
                (ServeNudge (books_of g x) (books_of g h.last.running) f.sent f.settles),
            record { steady = f.steady; whole = f.whole },
          )
      by _ _ (TimesOut T) settles =
          let n = b.steady in
          let f = follows (record { running = record x { memory = server_timeout x.memory T }; own = []; sent = [] }) h.last
          (record { named = timeout-names x.memory T (state_of g x).epoch (state_of g x) n.named; moment = moment-still x T n.moment })
          (inl (λ W. ap (λ (next : WorkId → ℕ). next W) (timeout-next x.memory T) ∙ b.whole W)) settles in (
            subst (λ (l : List Sent). BooksServe s g (books_of g x) (bodies.Timeout T) l (books_of g h.last.running)) (sym f.both)
                (ServeTimeout (books_of g x) (books_of g h.last.running) T f.sent f.settles),
            record { steady = f.steady; whole = f.whole },
          )

  pub frames-serve : (x y : Running) (frames : List Framed) (sent : List Sent) → IsBetween x → ServesFrames s g x frames sent y
      → BooksServeAll s g (books_of g x) frames sent (books_of g y) × IsBetween y
  frames-serve _ _ _ _ b (NoFrame x) = (ServeNone (books_of g x), b)
  frames-serve _ _ _ _ b (OneMore x y z f fs sent more h hs) =
      let one = frame-serves x y f.body sent b h in
      let all = frames-serve y z fs more one.1 hs in
      (ServeOneMore (books_of g x) (books_of g y) (books_of g z) f fs sent more one.0 all.0, all.1)

-- ---- two servers that are alike

pub frames-fix : FramesFixWhatIsSent
frames-fix s g x y frames sent more x' y' a h k =
    let mine = frames-serve s g x x' frames sent (record { steady = record { named = a.named; moment = a.moment }; whole = a.whole }) h in
    let its = frames-serve s g y y' frames more (record {
      steady = record { named = subst (λ (b : Books). AreNamed b.found.epoch b.memory b.found) (sym same) a.named; moment = a.other };
      whole = subst (λ (m : Memory). AllWhole m.next) (sym a.memory) a.whole;
    }) k in
    let one = all-once s g (books_of g x) (books_of g x') (books_of g y') frames sent more mine.0 (subst (λ (b : Books). BooksServeAll s g b frames more (books_of g y')) same its.0) in
    let here = mine.1 in let there = its.1 in let n = here.steady in let o = there.steady in (
      one.0,
      record {
        memory = ap (λ (b : Books). b.memory) one.1;
        found = ap (λ (b : Books). b.found) one.1;
        beside = ap (λ (b : Books). b.beside) one.1;
        named = n.named;
        whole = here.whole;
        moment = n.moment;
        other = o.moment;
      },
    )
  where
    same : books_of g y ≡ books_of g x
    same = λ i. record { memory = a.memory i; found = a.found i; beside = a.beside i }
