-- What follows from a frame, part by part.
use Rattle.std.proofs.Common.{◌≡◌, ℕ, List, [], ◌∷◌, ◌++◌, None, refl, sym, ◌∙◌, ap, subst, append_assoc}
use Rattle.std.proofs.lemmas.List.{append-nil}
use Rattle.jn_base.specs.declared.names.ServerNo.{ServerNo}
use Rattle.jn_msgs.specs.declared.message.Message.{Message}
use Rattle.jn_records.specs.StablePages.{Counts}
use Rattle.jn_recovery.specs.Counts.{counts_by}
use Rattle.jn_rows.specs.Outcomes.{RowOutcome, Sent}
use Rattle.jn_store.specs.Store.{StoreView}
use Rattle.jn_system.specs.WholeSystem.World.{Memory}
use Rattle.jn_wire.specs.Spelling.{frame_bytes}
use Rattle.jn_wire.specs.declared.frame.Body.{Body}
use Rattle.jn_wire.specs.declared.frame.Body.TheVariants as bodies
use Rattle.jn_wire.specs.declared.frame.Framed.{Framed}
use Rattle.jn_base.specs.declared.names.Party.TheVariants.{Server}
use Rattle.jn_node.specs.declared.node.Node.{Node}
use Rattle.jn_node.specs.Calls.{IsSameNode, PostsAll, HandlesMessage, WorksBy, BeginsBy, GoesOn, IsAtRest, SettlesAll, TakesFrame}
use Rattle.jn_node.specs.Nodes.{counts_at, desk_at, running_at}
use Rattle.jn_node.specs.Running.{Running}
use Rattle.jn_node.specs.Serving.{Desk, Settles, Rests, TakesOwn, Works, ServesFrame, ServesFrames, NoFrame, OneMore, row_for, sent_bytes, step_of, to_itself, to_others}

pub bytes-both : (s : ServerNo) (xs ys : List Sent) → sent_bytes s (xs ++ ys) ≡ sent_bytes s xs ++ sent_bytes s ys
bytes-both s [] ys = refl
bytes-both s (x ∷ xs) ys = ap (λ (l : List ℕ). frame_of ++ l) (bytes-both s xs ys) ∙ sym (append_assoc frame_of (sent_bytes s xs) (sent_bytes s ys))
  where
    frame_of : List ℕ
    frame_of = frame_bytes (record { from = Server s; to = x.0; body = bodies.Message x.1 })

-- what was answered in two parts
answers-then : (s : ServerNo) (old now new : List ℕ) (xs ys : List Sent) → now ≡ old ++ sent_bytes s xs → new ≡ now ++ sent_bytes s ys → new ≡ old ++ sent_bytes s (xs ++ ys)
answers-then s old now new xs ys e f = f ∙ ap (λ (l : List ℕ). l ++ sent_bytes s ys) e ∙ append_assoc old (sent_bytes s xs) (sent_bytes s ys) ∙ ap (λ (l : List ℕ). old ++ l) (sym (bytes-both s xs ys))

pub same-then : {S : Type 0} (n m k : Node S) → IsSameNode n m → IsSameNode m k → IsSameNode n k
same-then n m k a b = (b.0 ∙ a.0, b.1 ∙ a.1)

module _ {S : Type 0} (look : S → StoreView) where
  pub goes-nowhere : (n : Node S) → GoesOn look n n
  goes-nowhere n = record {
    more = [];
    answers = sym (append-nil n.answers.items);
    goes = λ sent e h. subst (λ (l : List Sent). Settles n.server (counts_at n) (desk_at look n l) e) (append-nil sent) h;
  }

  -- where what waits is kept in another way
  pub goes-same : (n m : Node S) → m ≡ record n { own = m.own } → m.own.items ≡ n.own.items → GoesOn look n m
  goes-same n m same items = record {
    more = [];
    answers = ap (λ (x : Node S). x.answers.items) same ∙ sym (append-nil n.answers.items);
    goes = λ sent e h. subst (λ (l : List Sent). Settles n.server (counts_at n) (desk_at look n l) e) (append-nil sent)
        (subst (λ (own : List Message). Settles n.server (counts_at n) (record { running = running_at look n; own = own; sent = sent ++ [] }) e) items
        (subst (λ x. Settles n.server (counts_at n) (record { running = x; own = m.own.items; sent = sent ++ [] }) e) (ap (running_at look) same) h));
  }

  pub goes-then : (n m k : Node S) → IsSameNode n m → GoesOn look n m → GoesOn look m k → GoesOn look n k
  goes-then n m k same a b = record {
    more = a.more ++ b.more;
    answers = answers-then n.server n.answers.items m.answers.items k.answers.items a.more b.more a.answers (subst (λ q. k.answers.items ≡ m.answers.items ++ sent_bytes q b.more) same.0 b.answers);
    goes = λ sent e h. a.goes sent e (on sent e (b.goes (sent ++ a.more) e (back sent e (subst (λ (l : List Sent). Settles n.server (counts_at n) (desk_at look k l) e) (sym (append_assoc sent a.more b.more)) h))));
  }
    where
      -- the same server, of as many pages
      on : (sent : List Sent) (e : Desk) → Settles m.server (counts_at m) (desk_at look m (sent ++ a.more)) e → Settles n.server (counts_at n) (desk_at look m (sent ++ a.more)) e
      on sent e h = subst (λ q. Settles q (counts_at n) (desk_at look m (sent ++ a.more)) e) same.0 (subst (λ c. Settles m.server (counts_by c) (desk_at look m (sent ++ a.more)) e) same.1 h)

      back : (sent : List Sent) (e : Desk) → Settles n.server (counts_at n) (desk_at look k (sent ++ a.more ++ b.more)) e → Settles m.server (counts_at m) (desk_at look k (sent ++ a.more ++ b.more)) e
      back sent e h = subst (λ q. Settles q (counts_at m) (desk_at look k (sent ++ a.more ++ b.more)) e) (sym same.0) (subst (λ c. Settles n.server (counts_by c) (desk_at look k (sent ++ a.more ++ b.more)) e) (sym same.1) h)

  -- its oldest own message is taken: this is what is left of the others, and then what it leads to is sent
  pub goes-own : (n n' m : Node S) (message : Message) → n' ≡ record n { own = n'.own } → n.own.items ≡ message ∷ n'.own.items → HandlesMessage look n' message m → GoesOn look n m
  goes-own n n' m message same front h = record {
    more = to_others n.server row.messages;
    answers = there.posts.answers;
    goes = λ sent e rest. TakesOwn (desk_at look n sent) e message n'.own.items (running_at look m) front there.made
        (subst (λ (own : List Message). Settles n.server (counts_at n) (record { running = running_at look m; own = own; sent = sent ++ to_others n.server row.messages }) e) there.posts.own rest);
  }
    where
      row : RowOutcome Memory
      row = row_for (counts_at n) (running_at look n) message

      there : HandlesMessage look (record n { own = n'.own }) message m
      there = subst (λ (x : Node S). HandlesMessage look x message m) same h

  -- a step is made, where no message waits
  pub goes-step : (n k m : Node S) (messages : List Sent) → k ≡ record n { running = k.running } → n.own.items ≡ [] → WorksBy n.server (counts_at n) (running_at look n) messages (running_at look k) → PostsAll k messages m
      → running_at look m ≡ running_at look k → GoesOn look n m
  goes-step n k m messages same none works posts still = record {
    more = to_others n.server works.row.messages;
    answers = there.answers ∙ ap (λ (l : List Sent). n.answers.items ++ sent_bytes n.server (to_others n.server l)) works.sends;
    goes = λ sent e rest. Works (desk_at look n sent) e works.row (running_at look k) none works.row_is works.made
        (subst (λ (own : List Message). Settles n.server (counts_at n) (record { running = running_at look k; own = own; sent = sent ++ to_others n.server works.row.messages }) e)
        (there.own ∙ ap (λ (l : List Sent). n.own.items ++ to_itself n.server l) works.sends)
        (subst (λ x. Settles n.server (counts_at n) (record { running = x; own = m.own.items; sent = sent ++ to_others n.server works.row.messages }) e) still rest));
  }
    where
      there : PostsAll (record n { running = k.running }) messages m
      there = subst (λ (x : Node S). PostsAll x messages m) same posts

  pub settles-all : (n m : Node S) → IsSameNode n m → GoesOn look n m → IsAtRest look m → SettlesAll look n m
  settles-all n m same h rests = record {
    more = h.more;
    answers = h.answers;
    settles = λ sent. h.goes sent (desk_at look m (sent ++ h.more)) (Rests (desk_at look m (sent ++ h.more)) rests.own (subst (λ c. step_of (counts_by c) (running_at look m) ≡ None) same.1 rests.steps));
  }

  pub takes-frame : (n k m : Node S) (body : Body) → IsSameNode n k → BeginsBy look n body k → SettlesAll look k m → TakesFrame look n body m
  takes-frame n k m body same b h = record {
    sent = b.more ++ h.more;
    serves = record {
      first = desk_at look k b.more;
      last = desk_at look m (b.more ++ h.more);
      begins = b.begins;
      settles = subst (λ q. Settles q (counts_at n) (desk_at look k b.more) (desk_at look m (b.more ++ h.more))) same.0
          (subst (λ c. Settles k.server (counts_by c) (desk_at look k b.more) (desk_at look m (b.more ++ h.more))) same.1 (h.settles b.more));
      sent_is = refl;
      running_is = refl;
    };
    answers = answers-then n.server n.answers.items k.answers.items m.answers.items b.more h.more b.answers (subst (λ q. m.answers.items ≡ k.answers.items ++ sent_bytes q h.more) same.0 h.answers);
  }

-- ---- frame after frame

pub serves-both : (s : ServerNo) (g : Counts) (x y z : Running) (fs hs : List Framed) (sent more : List Sent) → ServesFrames s g x fs sent y → ServesFrames s g y hs more z → ServesFrames s g x (fs ++ hs) (sent ++ more) z
serves-both s g _ _ z _ hs _ more (NoFrame x) b = b
serves-both s g _ _ z _ hs _ more (OneMore x k y f fs sent then' one rest) b =
    subst (λ (l : List Sent). ServesFrames s g x (f ∷ (fs ++ hs)) l z) (sym (append_assoc sent then' more)) (OneMore x k z f (fs ++ hs) sent (then' ++ more) one (serves-both s g k y z fs hs then' more rest b))

-- one frame more
pub serves-more : (s : ServerNo) (g : Counts) (x y z : Running) (fs : List Framed) (f : Framed) (sent more : List Sent) → ServesFrames s g x fs sent y → ServesFrame s g y f.body more z → ServesFrames s g x (fs ++ f ∷ []) (sent ++ more) z
serves-more s g x y z fs f sent more a one =
    subst (λ (l : List Sent). ServesFrames s g x (fs ++ f ∷ []) (sent ++ l) z) (append-nil more) (serves-both s g x y z fs (f ∷ []) sent (more ++ []) a (OneMore y z z f [] more [] one (NoFrame z)))
