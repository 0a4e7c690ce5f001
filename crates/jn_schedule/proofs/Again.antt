-- What is spelled is read: the words of each event.
use Rattle.jn_schedule.proofs.Common.{codes, ◌≡◌, ℕ, ◌+◌, ◌-◌, inl, inr, Bool, true, false, cond, nat_eq, nat_le, List, [], ◌∷◌, length, map, Option, Some, None, Result, Ok, Err, MatchResult, MatchBool, refl, sym, ap, ◌∙◌, subst, arith, nat_tests, FaultKind, BlockNo, ClientNo, FileNo, ServerNo, Tid, Command, Event, LineFault, Part, Spells, SpellsClient, SpellsParts, begins_comment, block_part, command_parts, file_part, is_passed, kind_parts, page_part, parts_of, server_part, FirstUnfilled, HasFault, Place, PlacesFault, command_places, is_client_word, places_of, ◌>>=◌, arm_of, by_client, client_event, client_of, command_of, event_of, fault_kind_of, has_count, kind_of, message_alone, no_client_event, nothing, one, opening_of, other_event, page_alone, server_alone, server_file, server_file_block, server_name, server_of, server_page, value_of, verb_of, write_of, written}
use Rattle.jn_base.specs.declared.device.FaultKind.TheVariants as kinds
use Rattle.jn_base.specs.declared.op.Command.TheVariants as commands
use Rattle.jn_base.specs.declared.op.Op.TheVariants as ops
use Rattle.jn_schedule.specs.declared.Event.TheVariants as events
use Rattle.jn_schedule.specs.declared.fault.LineFault.TheVariants as faults
use Rattle.jn_schedule.specs.Grammar as grammar
use Rattle.jn_schedule.specs.Faults as places
use Rattle.jn_schedule.proofs.Values.{value_again, server_again, file_again, block_no_again, page_again, name_again, bytes_again}
use Rattle.jn_schedule.proofs.Arguments.{place_of, none_unfilled}
use Rattle.jn_schedule.proofs.Numbers.{all_of, is-le}

-- ---- arguments

pub nothing_again : (ws : List (List ℕ)) → SpellsParts [] ws → nothing ws ≡ Ok tt
unfolding nothing
nothing_again [] spells = refl
nothing_again (a ∷ ws) spells = absurd spells

pub server_alone_again : (ws : List (List ℕ)) (s : ServerNo) → SpellsParts (server_part s.0 ∷ []) ws → server_alone ws ≡ Ok s
unfolding server_alone
server_alone_again [] s spells = absurd spells
server_alone_again (a ∷ []) s spells = rw (server_again a s spells.0) refl
server_alone_again (a ∷ b ∷ ws) s spells = absurd spells.1

pub message_alone_again : (ws : List (List ℕ)) (k : ℕ) → SpellsParts (grammar.Number 0 999999 k ∷ []) ws → message_alone ws ≡ Ok k
unfolding message_alone
message_alone_again [] k spells = absurd spells
message_alone_again (a ∷ []) k spells = rw (value_again 0 999999 a k (omega arith) spells.0) refl
message_alone_again (a ∷ b ∷ ws) k spells = absurd spells.1

pub server_file_again : (ws : List (List ℕ)) (x : (ServerNo × FileNo)) → SpellsParts (server_part x.0.0 ∷ file_part x.1.0 ∷ []) ws → server_file ws ≡ Ok x
unfolding server_file
server_file_again [] x spells = absurd spells
server_file_again (a ∷ []) x spells = absurd spells.1
server_file_again (a ∷ b ∷ []) x spells = rw (server_again a x.0 spells.0, file_again b x.1 spells.1.0) refl
server_file_again (a ∷ b ∷ c ∷ ws) x spells = absurd spells.1.1

pub server_file_block_again : (ws : List (List ℕ)) (x : (ServerNo × FileNo × BlockNo)) → SpellsParts (server_part x.0.0 ∷ file_part x.1.0 ∷ block_part x.2.0 ∷ []) ws → server_file_block ws ≡ Ok x
unfolding server_file_block
server_file_block_again [] x spells = absurd spells
server_file_block_again (a ∷ []) x spells = absurd spells.1
server_file_block_again (a ∷ b ∷ []) x spells = absurd spells.1.1
server_file_block_again (a ∷ b ∷ c ∷ []) x spells = rw (server_again a x.0 spells.0, file_again b x.1 spells.1.0, block_no_again c x.2 spells.1.1.0) refl
server_file_block_again (a ∷ b ∷ c ∷ d ∷ ws) x spells = absurd spells.1.1.1

pub server_name_again : (ws : List (List ℕ)) (x : (ServerNo × Tid)) → SpellsParts (server_part x.0.0 ∷ grammar.Name x.1 ∷ []) ws → server_name ws ≡ Ok x
unfolding server_name
server_name_again [] x spells = absurd spells
server_name_again (a ∷ []) x spells = absurd spells.1
server_name_again (a ∷ b ∷ []) x spells = rw (server_again a x.0 spells.0, name_again b x.1 spells.1.0) refl
server_name_again (a ∷ b ∷ c ∷ ws) x spells = absurd spells.1.1

pub server_page_again : (ws : List (List ℕ)) (x : (ServerNo × ℕ)) → SpellsParts (server_part x.0.0 ∷ page_part x.1 ∷ []) ws → server_page ws ≡ Ok x
unfolding server_page
server_page_again [] x spells = absurd spells
server_page_again (a ∷ []) x spells = absurd spells.1
server_page_again (a ∷ b ∷ []) x spells = rw (server_again a x.0 spells.0, page_again b x.1 spells.1.0) refl
server_page_again (a ∷ b ∷ c ∷ ws) x spells = absurd spells.1.1

pub written_again : (ws : List (List ℕ)) (s : ServerNo) (f : FileNo) (p : BlockNo) (stored : List ℕ)
    → SpellsParts (server_part s.0 ∷ file_part f.0 ∷ block_part p.0 ∷ grammar.Bytes stored ∷ []) ws → written ws ≡ Ok (commands.Do s (ops.Write f p stored))
unfolding written write_of
written_again [] s f p stored spells = absurd spells
written_again (a ∷ []) s f p stored spells = absurd spells.1
written_again (a ∷ b ∷ []) s f p stored spells = absurd spells.1.1
written_again (a ∷ b ∷ c ∷ []) s f p stored spells = absurd spells.1.1.1
written_again (a ∷ b ∷ c ∷ d ∷ []) s f p stored spells =
    rw (server_again a s spells.0, file_again b f spells.1.0, block_no_again c p spells.1.1.0, bytes_again d stored spells.1.1.1.0) refl
written_again (a ∷ b ∷ c ∷ d ∷ e ∷ ws) s f p stored spells = absurd spells.1.1.1.1

-- ---- events

-- the words of an event are read as it, and have its places
pub record IsRead (e : Event) (ws : List (List ℕ)) : Type 0 where
  pub event : event_of ws ≡ Ok e
  pub line : is_passed ws ≡ false
  pub places_are : places_of ws ≡ Ok (map place_of (parts_of e))

-- a client's command behind its name
command_again : (c : ClientNo) (command : Command) (v : List ℕ) (args : List (List ℕ)) → SpellsParts (command_parts command) (v ∷ args) → client_event c (v ∷ args) ≡ Ok (events.Command c command)
unfolding client_event verb_of command_of
command_again c (commands.Begin s) v args spells =
    ap (λ (k : List ℕ). client_event c (k ∷ args)) spells.0 ∙ ap (λ (r : Result ServerNo LineFault). (r >>= λ x. Ok (commands.Begin x)) >>= λ command. Ok (events.Command c command)) (server_alone_again args s spells.1)
command_again c (commands.Open s) v args spells =
    ap (λ (k : List ℕ). client_event c (k ∷ args)) spells.0 ∙ ap (λ (r : Result ServerNo LineFault). (r >>= λ x. Ok (commands.Open x)) >>= λ command. Ok (events.Command c command)) (server_alone_again args s spells.1)
command_again c (commands.Do s (ops.Create f)) v args spells =
    ap (λ (k : List ℕ). client_event c (k ∷ args)) spells.0 ∙ ap (λ (r : Result (ServerNo × FileNo) LineFault). (r >>= λ x. Ok (commands.Do x.0 (ops.Create x.1))) >>= λ command. Ok (events.Command c command)) (server_file_again args (s, f) spells.1)
command_again c (commands.Do s (ops.Remove f)) v args spells =
    ap (λ (k : List ℕ). client_event c (k ∷ args)) spells.0 ∙ ap (λ (r : Result (ServerNo × FileNo) LineFault). (r >>= λ x. Ok (commands.Do x.0 (ops.Remove x.1))) >>= λ command. Ok (events.Command c command)) (server_file_again args (s, f) spells.1)
command_again c (commands.Do s (ops.Cut f p)) v args spells =
    ap (λ (k : List ℕ). client_event c (k ∷ args)) spells.0 ∙ ap (λ (r : Result (ServerNo × FileNo × BlockNo) LineFault). (r >>= λ x. Ok (commands.Do x.0 (ops.Cut x.1 x.2))) >>= λ command. Ok (events.Command c command)) (server_file_block_again args (s, f, p) spells.1)
command_again c (commands.Do s (ops.Read f p)) v args spells =
    ap (λ (k : List ℕ). client_event c (k ∷ args)) spells.0 ∙ ap (λ (r : Result (ServerNo × FileNo × BlockNo) LineFault). (r >>= λ x. Ok (commands.Do x.0 (ops.Read x.1 x.2))) >>= λ command. Ok (events.Command c command)) (server_file_block_again args (s, f, p) spells.1)
command_again c (commands.Do s (ops.Write f p stored)) v args spells =
    ap (λ (k : List ℕ). client_event c (k ∷ args)) spells.0 ∙ ap (λ (r : Result Command LineFault). r >>= λ command. Ok (events.Command c command)) (written_again args s f p stored spells.1)
command_again c commands.End v args spells =
    ap (λ (k : List ℕ). client_event c (k ∷ args)) spells.0 ∙ ap (λ (r : Result (Unit {0}) LineFault). (r >>= λ _. Ok commands.End) >>= λ command. Ok (events.Command c command)) (nothing_again args spells.1)
command_again c commands.Abort v args spells =
    ap (λ (k : List ℕ). client_event c (k ∷ args)) spells.0 ∙ ap (λ (r : Result (Unit {0}) LineFault). (r >>= λ _. Ok commands.Abort) >>= λ command. Ok (events.Command c command)) (nothing_again args spells.1)

command_placed : (command : Command) (v : List ℕ) (args : List (List ℕ)) → SpellsParts (command_parts command) (v ∷ args) → command_places (v ∷ args) ≡ Ok (places.Keyword ∷ map place_of (command_parts command))
command_placed (commands.Begin s) v args spells = ap (λ (k : List ℕ). command_places (k ∷ args)) spells.0
command_placed (commands.Open s) v args spells = ap (λ (k : List ℕ). command_places (k ∷ args)) spells.0
command_placed (commands.Do s (ops.Create f)) v args spells = ap (λ (k : List ℕ). command_places (k ∷ args)) spells.0
command_placed (commands.Do s (ops.Remove f)) v args spells = ap (λ (k : List ℕ). command_places (k ∷ args)) spells.0
command_placed (commands.Do s (ops.Cut f p)) v args spells = ap (λ (k : List ℕ). command_places (k ∷ args)) spells.0
command_placed (commands.Do s (ops.Read f p)) v args spells = ap (λ (k : List ℕ). command_places (k ∷ args)) spells.0
command_placed (commands.Do s (ops.Write f p stored)) v args spells = ap (λ (k : List ℕ). command_places (k ∷ args)) spells.0
command_placed commands.End v args spells = ap (λ (k : List ℕ). command_places (k ∷ args)) spells.0
command_placed commands.Abort v args spells = ap (λ (k : List ℕ). command_places (k ∷ args)) spells.0

abbrev client_if : Bool → ℕ → Option ClientNo
client_if t n = cond t (Some (record { 0 = n })) None

client_again : (c : ClientNo) (w : List ℕ) → SpellsClient c.0 w → (client_of w ≡ Some c) × (is_client_word w ≡ true) × (begins_comment w ≡ false)
unfolding client_of
client_again c w spells =
    let least = spells.0 in
    let most = spells.1 in
    let tests = all_of true (nat_le 49 (48 + c.0)) (nat_le (48 + c.0) 56) refl (is-le 49 (48 + c.0) (omega arith)) (is-le (48 + c.0) 56 (omega arith)) in
    let back : 48 + c.0 - 48 ≡ c.0 = omega arith in (
      ap client_of spells.2 ∙ ap (λ (t : Bool). client_if t (48 + c.0 - 48)) tests ∙ ap (λ (n : ℕ). client_if true n) back,
      ap is_client_word spells.2 ∙ tests,
      ap begins_comment spells.2,
    )

-- a fault's words behind its server and its call
kind_again : (s : ServerNo) (n : ℕ) (a b k : List ℕ) (args : List (List ℕ)) (fault : FaultKind) → server_of a ≡ Ok s → value_of 1 1000000 b ≡ Ok n
    → SpellsParts (kind_parts fault) (k ∷ args) → arm_of (a ∷ b ∷ k ∷ args) ≡ Ok (events.Arm s n fault)
unfolding arm_of kind_of has_count fault_kind_of one nothing page_alone
kind_again s n a b k [] kinds.Soft server call spells = ap (λ (w : List ℕ). arm_of (a ∷ b ∷ w ∷ [])) spells.0 ∙ rw (server, call) refl
kind_again s n a b k (x ∷ args) kinds.Soft server call spells = absurd spells.1
kind_again s n a b k [] kinds.Null server call spells = ap (λ (w : List ℕ). arm_of (a ∷ b ∷ w ∷ [])) spells.0 ∙ rw (server, call) refl
kind_again s n a b k (x ∷ args) kinds.Null server call spells = absurd spells.1
kind_again s n a b k [] kinds.Bad server call spells = ap (λ (w : List ℕ). arm_of (a ∷ b ∷ w ∷ [])) spells.0 ∙ rw (server, call) refl
kind_again s n a b k (x ∷ args) kinds.Bad server call spells = absurd spells.1
kind_again s n a b k [] kinds.StopBefore server call spells = ap (λ (w : List ℕ). arm_of (a ∷ b ∷ w ∷ [])) spells.0 ∙ rw (server, call) refl
kind_again s n a b k (x ∷ args) kinds.StopBefore server call spells = absurd spells.1
kind_again s n a b k [] kinds.StopTorn server call spells = ap (λ (w : List ℕ). arm_of (a ∷ b ∷ w ∷ [])) spells.0 ∙ rw (server, call) refl
kind_again s n a b k (x ∷ args) kinds.StopTorn server call spells = absurd spells.1
kind_again s n a b k [] kinds.StopAfter server call spells = ap (λ (w : List ℕ). arm_of (a ∷ b ∷ w ∷ [])) spells.0 ∙ rw (server, call) refl
kind_again s n a b k (x ∷ args) kinds.StopAfter server call spells = absurd spells.1
kind_again s n a b k [] (kinds.Decay g) server call spells = absurd spells.1
kind_again s n a b k (x ∷ []) (kinds.Decay g) server call spells = ap (λ (w : List ℕ). arm_of (a ∷ b ∷ w ∷ x ∷ [])) spells.0 ∙ rw (server, call, page_again x g spells.1.0) refl
kind_again s n a b k (x ∷ y ∷ args) (kinds.Decay g) server call spells = absurd spells.1.1
kind_again s n a b k [] (kinds.Revive g) server call spells = absurd spells.1
kind_again s n a b k (x ∷ []) (kinds.Revive g) server call spells = ap (λ (w : List ℕ). arm_of (a ∷ b ∷ w ∷ x ∷ [])) spells.0 ∙ rw (server, call, page_again x g spells.1.0) refl
kind_again s n a b k (x ∷ y ∷ args) (kinds.Revive g) server call spells = absurd spells.1.1

kind_placed : (a b k : List ℕ) (args : List (List ℕ)) (fault : FaultKind) → SpellsParts (kind_parts fault) (k ∷ args)
    → places.arm_places (a ∷ b ∷ k ∷ args) ≡ Ok (places.Keyword ∷ places.server_place ∷ places.Number 1 1000000 ∷ map place_of (kind_parts fault))
kind_placed a b k args kinds.Soft spells = ap (λ (w : List ℕ). places.arm_places (a ∷ b ∷ w ∷ args)) spells.0
kind_placed a b k args kinds.Null spells = ap (λ (w : List ℕ). places.arm_places (a ∷ b ∷ w ∷ args)) spells.0
kind_placed a b k args kinds.Bad spells = ap (λ (w : List ℕ). places.arm_places (a ∷ b ∷ w ∷ args)) spells.0
kind_placed a b k args (kinds.Decay g) spells = ap (λ (w : List ℕ). places.arm_places (a ∷ b ∷ w ∷ args)) spells.0
kind_placed a b k args (kinds.Revive g) spells = ap (λ (w : List ℕ). places.arm_places (a ∷ b ∷ w ∷ args)) spells.0
kind_placed a b k args kinds.StopBefore spells = ap (λ (w : List ℕ). places.arm_places (a ∷ b ∷ w ∷ args)) spells.0
kind_placed a b k args kinds.StopTorn spells = ap (λ (w : List ℕ). places.arm_places (a ∷ b ∷ w ∷ args)) spells.0
kind_placed a b k args kinds.StopAfter spells = ap (λ (w : List ℕ). places.arm_places (a ∷ b ∷ w ∷ args)) spells.0

-- each kind has a word
kind_some : (fault : FaultKind) → SpellsParts (kind_parts fault) [] → ⊥
kind_some kinds.Soft spells = spells
kind_some kinds.Null spells = spells
kind_some kinds.Bad spells = spells
kind_some (kinds.Decay g) spells = spells
kind_some (kinds.Revive g) spells = spells
kind_some kinds.StopBefore spells = spells
kind_some kinds.StopTorn spells = spells
kind_some kinds.StopAfter spells = spells

command_some : (command : Command) → SpellsParts (command_parts command) [] → ⊥
command_some (commands.Begin s) spells = spells
command_some (commands.Open s) spells = spells
command_some (commands.Do s (ops.Create f)) spells = spells
command_some (commands.Do s (ops.Remove f)) spells = spells
command_some (commands.Do s (ops.Cut f p)) spells = spells
command_some (commands.Do s (ops.Read f p)) spells = spells
command_some (commands.Do s (ops.Write f p stored)) spells = spells
command_some commands.End spells = spells
command_some commands.Abort spells = spells

-- the line of a client
client_line : (c : ClientNo) (e : Event) (ps : List Part) (w : List ℕ) (ws : List (List ℕ)) → SpellsClient c.0 w → client_event c ws ≡ Ok e
    → command_places ws ≡ Ok (places.Keyword ∷ map place_of ps) → map place_of (parts_of e) ≡ places.Keyword ∷ map place_of ps → IsRead e (w ∷ ws)
unfolding event_of by_client
client_line c e ps w ws spells read placed whole =
    let client = client_again c w spells in
    record {
      event = ap (λ (o : Option ClientNo). by_client o w ws) client.0 ∙ read;
      line = client.2;
      places_are = rw client.1 (placed ∙ ap (λ (l : List Place). Ok l) (sym whole));
    }

-- what is spelled is read
pub spelled_read : (e : Event) (ws : List (List ℕ)) → Spells e ws → IsRead e ws
unfolding event_of by_client no_client_event opening_of other_event client_event client_of
spelled_read (events.Command c command) [] spells = absurd spells
spelled_read (events.Command c command) (w ∷ []) spells = absurd (command_some command spells.1)
spelled_read (events.Command c command) (w ∷ v ∷ args) spells =
    client_line c (events.Command c command) (command_parts command) w (v ∷ args) spells.0 (command_again c command v args spells.1) (command_placed command v args spells.1) refl
spelled_read (events.Call c s call) [] spells = absurd spells
spelled_read (events.Call c s call) (w ∷ args) spells = absurd (omega (arith, spells.0.0, spells.0.1))
spelled_read (events.Again c) [] spells = absurd spells
spelled_read (events.Again c) (w ∷ []) spells = absurd spells.1
spelled_read (events.Again c) (w ∷ v ∷ args) spells =
    client_line c (events.Again c) (grammar.Keyword (codes "again") ∷ []) w (v ∷ args) spells.0
    (ap (λ (k : List ℕ). client_event c (k ∷ args)) spells.1.0 ∙ ap (λ (r : Result (Unit {0}) LineFault). r >>= λ _. Ok (events.Again c)) (nothing_again args spells.1.1))
    (ap (λ (k : List ℕ). command_places (k ∷ args)) spells.1.0) refl
spelled_read (events.Deliver k) [] spells = absurd spells
spelled_read (events.Deliver k) (w ∷ args) spells = record {
  event = ap (λ (k : List ℕ). event_of (k ∷ args)) spells.0 ∙ ap (λ (r : Result ℕ LineFault). r >>= λ x. Ok (events.Deliver x)) (message_alone_again args k spells.1);
  line = ap begins_comment spells.0;
  places_are = ap (λ (k : List ℕ). places_of (k ∷ args)) spells.0;
}
spelled_read events.Settle [] spells = absurd spells
spelled_read events.Settle (w ∷ args) spells = record {
  event = ap (λ (k : List ℕ). event_of (k ∷ args)) spells.0 ∙ ap (λ (r : Result (Unit {0}) LineFault). r >>= λ x. Ok (events.Settle)) (nothing_again args spells.1);
  line = ap begins_comment spells.0;
  places_are = ap (λ (k : List ℕ). places_of (k ∷ args)) spells.0;
}
spelled_read (events.Step s) [] spells = absurd spells
spelled_read (events.Step s) (w ∷ args) spells = record {
  event = ap (λ (k : List ℕ). event_of (k ∷ args)) spells.0 ∙ ap (λ (r : Result ServerNo LineFault). r >>= λ x. Ok (events.Step x)) (server_alone_again args s spells.1);
  line = ap begins_comment spells.0;
  places_are = ap (λ (k : List ℕ). places_of (k ∷ args)) spells.0;
}
spelled_read (events.Nudge s) [] spells = absurd spells
spelled_read (events.Nudge s) (w ∷ args) spells = record {
  event = ap (λ (k : List ℕ). event_of (k ∷ args)) spells.0 ∙ ap (λ (r : Result ServerNo LineFault). r >>= λ x. Ok (events.Nudge x)) (server_alone_again args s spells.1);
  line = ap begins_comment spells.0;
  places_are = ap (λ (k : List ℕ). places_of (k ∷ args)) spells.0;
}
spelled_read (events.Timeout s t) [] spells = absurd spells
spelled_read (events.Timeout s t) (w ∷ args) spells = record {
  event = ap (λ (k : List ℕ). event_of (k ∷ args)) spells.0 ∙ ap (λ (r : Result (ServerNo × Tid) LineFault). r >>= λ x. Ok (events.Timeout x.0 x.1)) (server_name_again args (s, t) spells.1);
  line = ap begins_comment spells.0;
  places_are = ap (λ (k : List ℕ). places_of (k ∷ args)) spells.0;
}
spelled_read (events.Scrub s) [] spells = absurd spells
spelled_read (events.Scrub s) (w ∷ args) spells = record {
  event = ap (λ (k : List ℕ). event_of (k ∷ args)) spells.0 ∙ ap (λ (r : Result ServerNo LineFault). r >>= λ x. Ok (events.Scrub x)) (server_alone_again args s spells.1);
  line = ap begins_comment spells.0;
  places_are = ap (λ (k : List ℕ). places_of (k ∷ args)) spells.0;
}
spelled_read (events.Decay s g) [] spells = absurd spells
spelled_read (events.Decay s g) (w ∷ args) spells = record {
  event = ap (λ (k : List ℕ). event_of (k ∷ args)) spells.0 ∙ ap (λ (r : Result (ServerNo × ℕ) LineFault). r >>= λ x. Ok (events.Decay x.0 x.1)) (server_page_again args (s, g) spells.1);
  line = ap begins_comment spells.0;
  places_are = ap (λ (k : List ℕ). places_of (k ∷ args)) spells.0;
}
spelled_read (events.Revive s g) [] spells = absurd spells
spelled_read (events.Revive s g) (w ∷ args) spells = record {
  event = ap (λ (k : List ℕ). event_of (k ∷ args)) spells.0 ∙ ap (λ (r : Result (ServerNo × ℕ) LineFault). r >>= λ x. Ok (events.Revive x.0 x.1)) (server_page_again args (s, g) spells.1);
  line = ap begins_comment spells.0;
  places_are = ap (λ (k : List ℕ). places_of (k ∷ args)) spells.0;
}
spelled_read (events.Crash s) [] spells = absurd spells
spelled_read (events.Crash s) (w ∷ args) spells = record {
  event = ap (λ (k : List ℕ). event_of (k ∷ args)) spells.0 ∙ ap (λ (r : Result ServerNo LineFault). r >>= λ x. Ok (events.Crash x)) (server_alone_again args s spells.1);
  line = ap begins_comment spells.0;
  places_are = ap (λ (k : List ℕ). places_of (k ∷ args)) spells.0;
}
spelled_read (events.Restart s) [] spells = absurd spells
spelled_read (events.Restart s) (w ∷ args) spells = record {
  event = ap (λ (k : List ℕ). event_of (k ∷ args)) spells.0 ∙ ap (λ (r : Result ServerNo LineFault). r >>= λ x. Ok (events.Restart x)) (server_alone_again args s spells.1);
  line = ap begins_comment spells.0;
  places_are = ap (λ (k : List ℕ). places_of (k ∷ args)) spells.0;
}
spelled_read (events.Show s) [] spells = absurd spells
spelled_read (events.Show s) (w ∷ args) spells = record {
  event = ap (λ (k : List ℕ). event_of (k ∷ args)) spells.0 ∙ ap (λ (r : Result ServerNo LineFault). r >>= λ x. Ok (events.Show x)) (server_alone_again args s spells.1);
  line = ap begins_comment spells.0;
  places_are = ap (λ (k : List ℕ). places_of (k ∷ args)) spells.0;
}
spelled_read (events.Arm s n fault) [] spells = absurd spells
spelled_read (events.Arm s n fault) (w ∷ []) spells = absurd spells.1
spelled_read (events.Arm s n fault) (w ∷ a ∷ []) spells = absurd spells.1.1
spelled_read (events.Arm s n fault) (w ∷ a ∷ b ∷ []) spells = absurd (kind_some fault spells.1.1.1)
spelled_read (events.Arm s n fault) (w ∷ a ∷ b ∷ k ∷ args) spells = record {
  event = ap (λ (v : List ℕ). event_of (v ∷ a ∷ b ∷ k ∷ args)) spells.0
      ∙ kind_again s n a b k args fault (server_again a s spells.1.0) (value_again 1 1000000 b n (omega arith) spells.1.1.0) spells.1.1.1;
  line = ap begins_comment spells.0;
  places_are = ap (λ (v : List ℕ). places_of (v ∷ a ∷ b ∷ k ∷ args)) spells.0 ∙ kind_placed a b k args fault spells.1.1.1;
}

-- ---- faults

spelled_count : (ps : List Part) (ws : List (List ℕ)) → SpellsParts ps ws → nat_eq (length (map place_of ps)) (length ws) ≡ true
spelled_count [] [] spells = refl
spelled_count [] (w ∷ ws) spells = absurd spells
spelled_count (p ∷ ps) [] spells = absurd spells
spelled_count (p ∷ ps) (w ∷ ws) spells = let rest = spelled_count ps ws spells.1 in grind (arith, nat_tests)

-- what spells an event has no fault
pub spelled_no_fault : (e : Event) (ws : List (List ℕ)) (f : LineFault) → Spells e ws → HasFault ws f → ⊥
spelled_no_fault e ws f spells fault =
    let read = spelled_read e ws spells in
    let placed : PlacesFault (map place_of (parts_of e)) ws f = subst (λ (r : Result (List Place) LineFault). MatchResult r (λ ps. PlacesFault ps ws f) (λ other. f ≡ other)) read.places_are fault in
    let unfilled : FirstUnfilled (map place_of (parts_of e)) ws f = subst (λ (b : Bool). MatchBool b (FirstUnfilled (map place_of (parts_of e)) ws f) (f ≡ faults.Count)) (spelled_count (parts_of e) ws spells) placed in
    none_unfilled (parts_of e) ws f spells unfilled

first_one : (ps : List Place) (ws : List (List ℕ)) (f g : LineFault) → FirstUnfilled ps ws f → FirstUnfilled ps ws g → f ≡ g
first_one [] ws f g h k = absurd h
first_one (p ∷ ps) [] f g h k = absurd h
first_one (p ∷ ps) (w ∷ ws) f g (inl h) (inl k) = first_one ps ws f g h.1 k.1
first_one (p ∷ ps) (w ∷ ws) f g (inl h) (inr k) = absurd (k.0 h.0)
first_one (p ∷ ps) (w ∷ ws) f g (inr h) (inl k) = absurd (h.0 k.0)
first_one (p ∷ ps) (w ∷ ws) f g (inr h) (inr k) = h.1 ∙ sym k.1

-- words have one fault at most
pub fault_one : (ws : List (List ℕ)) (f g : LineFault) → HasFault ws f → HasFault ws g → f ≡ g
fault_one ws f g h k = go (places_of ws) h k
  where
    counted : (ps : List Place) (b : Bool) → MatchBool b (FirstUnfilled ps ws f) (f ≡ faults.Count) → MatchBool b (FirstUnfilled ps ws g) (g ≡ faults.Count) → f ≡ g
    counted ps true h k = first_one ps ws f g h k
    counted ps false h k = h ∙ sym k

    go : (r : Result (List Place) LineFault) → MatchResult r (λ ps. PlacesFault ps ws f) (λ other. f ≡ other) → MatchResult r (λ ps. PlacesFault ps ws g) (λ other. g ≡ other) → f ≡ g
    go (Ok ps) h k = counted ps (nat_eq (length ps) (length ws)) h k
    go (Err e) h k = h ∙ sym k
