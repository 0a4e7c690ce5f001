-- What a settle with these servers up answers.
use Rattle.jn_system_settling.proofs.Common.{◌≡◌, ◌⊎◌, inl, inr, ◌≤◌, ℕ, List, [], Some, None, refl, sym, ◌∙◌, ap, subst, arith, ServerNo, ClientNo, Server, Op, Command, AllFiles, Message, Outstanding, stable, ClientTable, sent_again, is_begin, is_end_or_abort, names_of, World, Memory, servers_from, Room, server_row, Course, go_on, Chance, clients_from, until_rest, ask_again, AreUp, AreAnswered}
use Rattle.jn_base.specs.declared.op.Command.TheVariants as commands
use Rattle.jn_msgs.specs.declared.message.Message.TheVariants as messages
use Rattle.jn_system_settling.proofs.AtRest.Talk.{IsStill, FitsCommand}
use Rattle.jn_system_settling.proofs.AtRest.Ways.{Reply, Answering, OnTheWay, rest-answers, ask-on-the-way}
use Rattle.jn_system_settling.proofs.AtRest.Answered.{open-reply, abort-reply, rest-keeps, ask-keeps, rest-on, ask-on, among-clients}
use Rattle.jn_system_settling.proofs.Settling.Courses.{Sound}
use Rattle.jn_system_settling.proofs.AtRest.Twins.{HasTwin}
use Rattle.jn_system_settling.proofs.AtRest.Operations.{op-reply}
use Rattle.jn_system_settling.proofs.AtRest.Within.{waits-near}
use Rattle.jn_system_settling.proofs.AtRest.Begins.{Good, good-go, begin-reply}

module _ (n : ℕ) (at_most : n ≤ 8) (start : World) (files : AllFiles) (epochs : ServerNo → ℕ) (twins : (d : Course) → Sound n start d → HasTwin files epochs d.world) where
  abbrev IsGood : Course → Type 0
  IsGood d = Good n at_most start files epochs d

  pub rest-good : (j : ℕ) (chances : ℕ → Chance) (d : Course) → IsGood d → IsGood (until_rest (servers_from 0 n) chances j d)
  rest-good = rest-keeps n at_most start files epochs IsGood (good-go n at_most start files epochs)

  pub ask-good : (clients : List ClientNo) (servers : List ServerNo) (d : Course) → IsGood d → IsGood (go_on (ask_again clients servers) d)
  ask-good = ask-keeps n at_most start files epochs IsGood (good-go n at_most start files epochs)

  -- ---- after the second part

  module _ (d : Course) (h : IsGood d) (j : ℕ) (chances : ℕ → Chance) where
    abbrev middle : Course
    middle = go_on (ask_again (clients_from 1 8) (servers_from 0 n)) d

    abbrev last : Course
    last = until_rest (servers_from 0 n) chances j middle

    module _ (c : ClientNo) (first : 1 ≤ c.0) (most : c.0 ≤ 8) (rests : last.waiting ≡ []) (up : AreUp n last.world) where
      abbrev t : ClientTable
      t = d.world.clients c

      -- what it waits for in the end it waited for before
      pub stays : (o : Outstanding) → (last.world.clients c).outstanding ≡ Some o → t.outstanding ≡ Some o
      stays o e = by (rest-on n at_most start files epochs c t j chances middle (ask-on n at_most start files epochs c t (clients_from 1 8) (servers_from 0 n) d (inl refl)))
        where
          by : IsStill t (last.world.clients c) → t.outstanding ≡ Some o
          by (inl q) = sym (ap (λ (z : ClientTable). z.outstanding) q) ∙ e
          by (inr q) = absurd (none (sym q ∙ e))
            where
              none : None ≡ Some o → ⊥
              none z = cc

      -- one whose message is replied to wherever it comes
      command-answered : (o : Outstanding) (s : ServerNo) (message : Message) → t.outstanding ≡ Some o → o.to ≡ Server s → o.message ≡ message
          → ((e : Course) (m : Memory) (room : Room) → IsGood e → e.world.clients c ≡ t → e.world.memory s ≡ Some m → Reply c t (server_row m (stable (e.world.found s)) room message).messages ⊎ Answering c t e)
          → (last.world.clients c).outstanding ≡ None
      command-answered o s message e to is replies = rest-answers n at_most start c t s message IsGood (λ d h. h.talking.sound) (good-go n at_most start files epochs) replies j chances middle on.so_far on.way (up s (let g = h.talking in waits-near n at_most d.world g.sound.sizes g.sound.locks g.within c o s e to)) rests
        where
          on : OnTheWay n at_most start c t s message IsGood (λ d h. h.talking.sound) (good-go n at_most start files epochs) replies middle
          on = ask-on-the-way n at_most start c t s message IsGood (λ d h. h.talking.sound) (good-go n at_most start files epochs) replies (clients_from 1 8) (servers_from 0 n) d h refl
              (ap sent_again e ∙ ap (λ z. Some (z, o.message)) to ∙ ap (λ z. Some (Server s, z)) is) (among-clients n at_most start files epochs 8 1 c first (omega (arith, most)))

      open-answered : (o : Outstanding) (s : ServerNo) → t.outstanding ≡ Some o → o.command ≡ commands.Open s → (last.world.clients c).outstanding ≡ None
      open-answered o s e is = let fits = subst (λ z. FitsCommand t o z) is ((h.talking.talks c).fits o e) in
          command-answered o s (messages.Open t.client o.request fits.0) e fits.2 fits.3 (λ d' m room k same is_up. inl (open-reply n at_most start files epochs d' c t o s fits.0 m room k.talking (h.talking.talks c) e is fits.1 is_up))

      abort-answered : (o : Outstanding) → t.outstanding ≡ Some o → o.command ≡ commands.Abort → (last.world.clients c).outstanding ≡ None
      abort-answered o e is = let fits = subst (λ z. FitsCommand t o z) is ((h.talking.talks c).fits o e) in
          command-answered o fits.0.server (messages.Abort t.client o.request fits.0 (names_of t.works)) e fits.2 fits.3
          (λ d' m room k same is_up. inl (subst (λ (z : ClientTable). Reply c z (server_row m (stable (d'.world.found fits.0.server)) room (messages.Abort z.client o.request fits.0 (names_of t.works))).messages) same
          (abort-reply n at_most start files epochs d' c o fits.0 (names_of t.works) m room k.talking (ap (λ (z : ClientTable). z.outstanding) same ∙ e) (ap is_end_or_abort is) (ap (λ (z : ClientTable). z.transaction) same ∙ fits.1) is_up)))

      begin-answered : (o : Outstanding) (s : ServerNo) → t.outstanding ≡ Some o → o.command ≡ commands.Begin s → (last.world.clients c).outstanding ≡ None
      begin-answered o s e is = let fits = subst (λ z. FitsCommand t o z) is ((h.talking.talks c).fits o e) in
          command-answered o s (messages.Begin t.client o.request) e fits.0 fits.1
          (λ d' m room k same is_up. subst (λ (z : ClientTable). Reply c z (server_row m (stable (d'.world.found s)) room (messages.Begin z.client o.request)).messages ⊎ Answering c z d') same
          (begin-reply n at_most start files epochs d' c o s m room k (ap (λ (z : ClientTable). z.outstanding) same ∙ e) (ap is_begin is) is_up))

      do-answered : (o : Outstanding) (s : ServerNo) (op : Op) → t.outstanding ≡ Some o → o.command ≡ commands.Do s op → (last.world.clients c).outstanding ≡ None
      do-answered o s op e is = let fits = subst (λ z. FitsCommand t o z) is ((h.talking.talks c).fits o e) in
          command-answered o s o.message e fits.3 refl (λ d' m room k same is_up. inl (subst (λ (z : ClientTable). Reply c z (server_row m (stable (d'.world.found s)) room o.message).messages) same
          (op-reply files epochs d'.world (twins d' k.talking.sound) c o s op m room (k.talking.talks c).name (ap (λ (z : ClientTable). z.outstanding) same ∙ e) is is_up)))

      none-some : (o : Outstanding) → None ≡ Some o → ⊥
      none-some o q = cc

    pub settled-answers : last.waiting ≡ [] → AreUp n last.world → AreAnswered last.world
    settled-answers rests up c o first most e = by o.command refl
      where
        was : (d.world.clients c).outstanding ≡ Some o
        was = stays c first most rests up o e

        by : (command : Command) → o.command ≡ command → o.command ≡ commands.End
        by (commands.Open s) is = absurd (none-some c first most rests up o (sym (open-answered c first most rests up o s was is) ∙ e))
        by commands.Abort is = absurd (none-some c first most rests up o (sym (abort-answered c first most rests up o was is) ∙ e))
        by (commands.Begin s) is = absurd (none-some c first most rests up o (sym (begin-answered c first most rests up o s was is) ∙ e))
        by (commands.Do s op) is = absurd (none-some c first most rests up o (sym (do-answered c first most rests up o s op was is) ∙ e))
        by commands.End is = is
