-- What reading the words of a line tells: the event that they spell, or their fault.
use Rattle.jn_schedule.proofs.Common.{codes, ◌≡◌, ℕ, ◌+◌, ◌-◌, ◌≤◌, ◌++◌, ◌&&◌, inl, inr, Bool, true, false, cond, nat_eq, nat_le, List, [], ◌∷◌, length, map, Option, Some, None, MatchOption, Result, Ok, Err, MatchResult, MatchBool, ok_or, refl, sym, ap, ◌∙◌, subst, arith, eqb-true, nat_tests, bytes_eq-Decides, AllByRecursion, FaultKind, ClientNo, ServerNo, Event, LineFault, Spells, SpellsClient, SpellsPart, SpellsParts, command_parts, kind_parts, page_part, server_part, Fills, FirstUnfilled, HasFault, Place, PlacesFault, arm_places, block_place, command_places, file_place, is_client_word, page_place, places_by, same, server_place, ◌>>=◌, arm_of, by_client, client_event, client_of, command_of, event_of, fault_kind_of, has_count, kind_of, kind_words, lookup, message_alone, no_client_event, nothing, one, opening_of, opening_words, other_event, page_alone, page_of, server_alone, server_file, server_file_block, server_name, server_of, server_page, value_of, verb_of, verb_words, written}
use Rattle.jn_base.specs.declared.device.FaultKind.TheVariants as kinds
use Rattle.jn_base.specs.declared.op.Command.TheVariants as commands
use Rattle.jn_base.specs.declared.op.Op.TheVariants as ops
use Rattle.jn_schedule.specs.declared.Event.TheVariants as events
use Rattle.jn_schedule.specs.declared.fault.LineFault.TheVariants as faults
use Rattle.jn_schedule.specs.declared.reading.Kind.{Kind}
use Rattle.jn_schedule.specs.declared.reading.Kind.TheVariants as armed
use Rattle.jn_schedule.specs.declared.reading.Opening.{Opening}
use Rattle.jn_schedule.specs.declared.reading.Opening.TheVariants as openings
use Rattle.jn_schedule.specs.declared.reading.Verb.{Verb}
use Rattle.jn_schedule.specs.declared.reading.Verb.TheVariants as verbs
use Rattle.jn_schedule.specs.Grammar as grammar
use Rattle.jn_schedule.specs.Faults as places
use Rattle.jn_schedule.proofs.Numbers.{both, le-is}
use Rattle.jn_schedule.proofs.Values.{Told, number_told, page_told, server_told}
use Rattle.jn_schedule.proofs.Arguments.{fills, wrong_count, nothing_told, server_alone_told, message_alone_told, server_file_told, server_file_block_told, server_name_told, server_page_told, written_told}

-- ---- steps

-- what was told is told of what is made of it
pub over : {X Y : Type 0} (full : X → Type 0) (whole : Y → Type 0) (fault other : LineFault → Type 0) (g : X → Y) → ((x : X) → full x → whole (g x)) → ((f : LineFault) → fault f → other f)
    → (r : Result X LineFault) → MatchResult r full fault → MatchResult (r >>= λ x. Ok (g x)) whole other
over full whole fault other g made kept (Ok x) h = made x h
over full whole fault other g made kept (Err f) h = kept f h

-- a place that is filled before others
filled_first : (p : Place) (ps : List Place) (w : List ℕ) (ws : List (List ℕ)) (f : LineFault) → Fills p w → PlacesFault ps ws f → PlacesFault (p ∷ ps) (w ∷ ws) f
filled_first p ps w ws f filled h =
    go (nat_eq (length ps) (length ws)) (nat_eq (length (p ∷ ps)) (length (w ∷ ws))) (grind (arith, nat_tests)) h
  where
    go : (a b : Bool) → a ≡ b → MatchBool a (FirstUnfilled ps ws f) (f ≡ faults.Count) → MatchBool b (FirstUnfilled (p ∷ ps) (w ∷ ws) f) (f ≡ faults.Count)
    go true true e h = inl (filled, h)
    go false false e h = h
    go true false e h = absurd cc
    go false true e h = absurd cc

abbrev pub FaultBy : Result (List Place) LineFault → List (List ℕ) → LineFault → Type 0
FaultBy r ws f = MatchResult r (λ ps. PlacesFault ps ws f) (λ other. f ≡ other)

-- each entry of a table of keywords tells, and so does the table
table_told : {A Y : Type 0} (behind : A → List Place) (front : List Place) (reading : A → Result Y LineFault) (full : Y → Type 0) (w : List ℕ) (ws : List (List ℕ)) (t : List (List ℕ × A))
    → AllByRecursion (λ e. w ≡ e.0 → MatchResult (reading e.1) full (λ f. PlacesFault (front ++ behind e.1) ws f)) t
    → MatchResult (ok_or (lookup t w) faults.Keyword >>= reading) full (λ f. FaultBy (places_by (map (λ e. (e.0, behind e.1)) t) front w) ws f)
table_told behind front reading full w ws [] each = refl
table_told {A = A} behind front reading full w ws (e ∷ t) each = go (same w e.0) refl (table_told behind front reading full w ws t each.1)
  where
    go : (b : Bool) → same w e.0 ≡ b
        → MatchResult (ok_or (lookup t w) faults.Keyword >>= reading) full (λ f. FaultBy (places_by (map (λ (e : List ℕ × A). (e.0, behind e.1)) t) front w) ws f)
        → MatchResult (ok_or (cond b (Some e.1) (lookup t w)) faults.Keyword >>= reading) full (λ f. FaultBy (cond b (Ok (front ++ behind e.1)) (places_by (map (λ (e : List ℕ × A). (e.0, behind e.1)) t) front w)) ws f)
    go true is rest = each.0 ((bytes_eq-Decides w e.0).0 is)
    go false is rest = rest

-- ---- commands

abbrev pub verb_places : Verb → List Place
verb_places verbs.Begin = server_place ∷ []
verb_places verbs.Open = server_place ∷ []
verb_places verbs.Create = server_place ∷ file_place ∷ []
verb_places verbs.Remove = server_place ∷ file_place ∷ []
verb_places verbs.Cut = server_place ∷ file_place ∷ block_place ∷ []
verb_places verbs.Read = server_place ∷ file_place ∷ block_place ∷ []
verb_places verbs.Write = server_place ∷ file_place ∷ block_place ∷ places.Bytes ∷ []
verb_places verbs.End = []
verb_places verbs.Abort = []

abbrev CommandTold : List ℕ → List (List ℕ) → Verb → Type 0
CommandTold w args v = MatchResult (command_of v args) (λ x. SpellsParts (command_parts x) (w ∷ args)) (λ f. PlacesFault (verb_places v) args f)

commands_told : (w : List ℕ) (args : List (List ℕ)) → AllByRecursion (λ e. w ≡ e.0 → CommandTold w args e.1) verb_words
unfolding command_of
commands_told w args = (
  (λ h. over _ _ _ _ (λ s. commands.Begin s) (λ s spells. (h, spells)) (λ f x. x) (server_alone args) (server_alone_told args)),
  (
    (λ h. over _ _ _ _ (λ s. commands.Open s) (λ s spells. (h, spells)) (λ f x. x) (server_alone args) (server_alone_told args)),
    (
      (λ h. over _ _ _ _ (λ x. commands.Do x.0 (ops.Create x.1)) (λ x spells. (h, spells)) (λ f x. x) (server_file args) (server_file_told args)),
      (
        (λ h. over _ _ _ _ (λ x. commands.Do x.0 (ops.Remove x.1)) (λ x spells. (h, spells)) (λ f x. x) (server_file args) (server_file_told args)),
        (
          (λ h. over _ _ _ _ (λ x. commands.Do x.0 (ops.Cut x.1 x.2)) (λ x spells. (h, spells)) (λ f x. x) (server_file_block args) (server_file_block_told args)),
          (
            (λ h. over _ _ _ _ (λ x. commands.Do x.0 (ops.Read x.1 x.2)) (λ x spells. (h, spells)) (λ f x. x) (server_file_block args) (server_file_block_told args)),
            (
              (λ h. subst (λ (k : List ℕ). MatchResult (written args) (λ x. SpellsParts (command_parts x) (k ∷ args)) (λ f. PlacesFault (server_place ∷ file_place ∷ block_place ∷ places.Bytes ∷ []) args f)) (sym h) (written_told args)),
              (
                (λ h. over _ _ _ _ (λ x. commands.End) (λ x spells. (h, spells)) (λ f x. x) (nothing args) (nothing_told args)),
                (
                  (λ h. over _ _ _ _ (λ x. commands.Abort) (λ x spells. (h, spells)) (λ f x. x) (nothing args) (nothing_told args)),
                  tt,
                ),
              ),
            ),
          ),
        ),
      ),
    ),
  ),
)

all_map : {X : Type 0} (P Q : X → Type 0) → ((x : X) → P x → Q x) → (xs : List X) → AllByRecursion P xs → AllByRecursion Q xs
all_map P Q so [] all = tt
all_map P Q so (x ∷ xs) all = (so x all.0, all_map P Q so xs all.1)

-- what follows a client's name
client_event_told : (c : ClientNo) (w : List ℕ) (ws : List (List ℕ)) → SpellsClient c.0 w
    → MatchResult (client_event c ws) (λ e. Spells e (w ∷ ws)) (λ f. FaultBy (command_places ws) (w ∷ ws) f)
unfolding client_event verb_of
client_event_told c w [] client = refl
client_event_told c w (v ∷ args) client = go (same v (codes "again")) refl
  where
    passed : (ps : List Place) (f : LineFault) → PlacesFault ps args f → PlacesFault (places.Keyword ∷ places.Keyword ∷ ps) (w ∷ v ∷ args) f
    passed ps f h = filled_first places.Keyword (places.Keyword ∷ ps) w (v ∷ args) f tt (filled_first places.Keyword ps v args f tt h)

    go : (b : Bool) → same v (codes "again") ≡ b
        → MatchResult (cond b (nothing args >>= λ _. Ok (events.Again c)) (ok_or (lookup verb_words v) faults.Keyword >>= λ verb. command_of verb args >>= λ command. Ok (events.Command c command)))
        (λ e. Spells e (w ∷ v ∷ args))
        (λ f. FaultBy (cond b (Ok (places.Keyword ∷ places.Keyword ∷ [])) (places_by (map (λ (e : List ℕ × Verb). (e.0, verb_places e.1)) verb_words) (places.Keyword ∷ places.Keyword ∷ []) v)) (w ∷ v ∷ args) f)
    go true is = over _ _ _ _ (λ x. events.Again c) (λ x spells. (client, ((bytes_eq-Decides v (codes "again")).0 is, spells))) (λ f h. passed [] f h) (nothing args) (nothing_told args)
    go false is = table_told verb_places (places.Keyword ∷ places.Keyword ∷ []) (λ verb. command_of verb args >>= λ command. Ok (events.Command c command)) (λ e. Spells e (w ∷ v ∷ args)) v (w ∷ v ∷ args) verb_words
        (all_map (λ e. v ≡ e.0 → CommandTold v args e.1)
        (λ (e : List ℕ × Verb). v ≡ e.0 → MatchResult (command_of e.1 args >>= λ command. Ok (events.Command c command)) (λ x. Spells x (w ∷ v ∷ args)) (λ f. PlacesFault (places.Keyword ∷ places.Keyword ∷ verb_places e.1) (w ∷ v ∷ args) f))
        (λ e told h. over _ _ _ _ (λ command. events.Command c command) (λ command spells. (client, spells)) (λ f x. passed (verb_places e.1) f x) (command_of e.1 args) (told h))
        verb_words (commands_told v args))

-- ---- events of no client

abbrev pub opening_places : Opening → List Place
opening_places openings.Deliver = places.Number 0 999999 ∷ []
opening_places openings.Settle = []
opening_places openings.Step = server_place ∷ []
opening_places openings.Nudge = server_place ∷ []
opening_places openings.Timeout = server_place ∷ places.Name ∷ []
opening_places openings.Scrub = server_place ∷ []
opening_places openings.Decay = server_place ∷ page_place ∷ []
opening_places openings.Revive = server_place ∷ page_place ∷ []
opening_places openings.Crash = server_place ∷ []
opening_places openings.Restart = server_place ∷ []
opening_places openings.Show = server_place ∷ []

others_told : (w : List ℕ) (args : List (List ℕ))
    → AllByRecursion (λ e. w ≡ e.0 → MatchResult (other_event e.1 args) (λ x. Spells x (w ∷ args)) (λ f. PlacesFault (places.Keyword ∷ opening_places e.1) (w ∷ args) f)) opening_words
unfolding other_event
others_told w args = (
  (λ h. over _ _ _ _ (λ k. events.Deliver k) (λ k spells. (h, spells)) (λ f x. filled_first places.Keyword (places.Number 0 999999 ∷ []) w args f tt x) (message_alone args) (message_alone_told args)),
  (
    (λ h. over _ _ _ _ (λ x. events.Settle) (λ x spells. (h, spells)) (λ f x. filled_first places.Keyword ([]) w args f tt x) (nothing args) (nothing_told args)),
    (
      (λ h. over _ _ _ _ (λ s. events.Step s) (λ s spells. (h, spells)) (λ f x. filled_first places.Keyword (server_place ∷ []) w args f tt x) (server_alone args) (server_alone_told args)),
      (
        (λ h. over _ _ _ _ (λ s. events.Nudge s) (λ s spells. (h, spells)) (λ f x. filled_first places.Keyword (server_place ∷ []) w args f tt x) (server_alone args) (server_alone_told args)),
        (
          (λ h. over _ _ _ _ (λ x. events.Timeout x.0 x.1) (λ x spells. (h, spells)) (λ f x. filled_first places.Keyword (server_place ∷ places.Name ∷ []) w args f tt x) (server_name args) (server_name_told args)),
          (
            (λ h. over _ _ _ _ (λ s. events.Scrub s) (λ s spells. (h, spells)) (λ f x. filled_first places.Keyword (server_place ∷ []) w args f tt x) (server_alone args) (server_alone_told args)),
            (
              (λ h. over _ _ _ _ (λ x. events.Decay x.0 x.1) (λ x spells. (h, spells)) (λ f x. filled_first places.Keyword (server_place ∷ page_place ∷ []) w args f tt x) (server_page args) (server_page_told args)),
              (
                (λ h. over _ _ _ _ (λ x. events.Revive x.0 x.1) (λ x spells. (h, spells)) (λ f x. filled_first places.Keyword (server_place ∷ page_place ∷ []) w args f tt x) (server_page args) (server_page_told args)),
                (
                  (λ h. over _ _ _ _ (λ s. events.Crash s) (λ s spells. (h, spells)) (λ f x. filled_first places.Keyword (server_place ∷ []) w args f tt x) (server_alone args) (server_alone_told args)),
                  (
                    (λ h. over _ _ _ _ (λ s. events.Restart s) (λ s spells. (h, spells)) (λ f x. filled_first places.Keyword (server_place ∷ []) w args f tt x) (server_alone args) (server_alone_told args)),
                    (
                      (λ h. over _ _ _ _ (λ s. events.Show s) (λ s spells. (h, spells)) (λ f x. filled_first places.Keyword (server_place ∷ []) w args f tt x) (server_alone args) (server_alone_told args)),
                      tt,
                    ),
                  ),
                ),
              ),
            ),
          ),
        ),
      ),
    ),
  ),
)

-- ---- faults that are armed

abbrev pub kind_places : Kind → List Place
kind_places (armed.Alone fault) = []
kind_places armed.Decay = page_place ∷ []
kind_places armed.Revive = page_place ∷ []

abbrev call_place : Place
call_place = places.Number 1 1000000

abbrev arm_front : List Place
arm_front = places.Keyword ∷ server_place ∷ call_place ∷ places.Keyword ∷ []

abbrev arm_by : Kind → List ℕ → List ℕ → List (List ℕ) → Result Event LineFault
arm_by kind s n args = has_count kind args >>= λ _. server_of s >>= λ s. value_of 1 1000000 n >>= λ n. fault_kind_of kind args >>= λ fault. Ok (events.Arm s n fault)

abbrev ArmTold : List ℕ → List ℕ → List ℕ → List ℕ → List (List ℕ) → Kind → Type 0
ArmTold w s n k args kind = MatchResult (arm_by kind s n args) (λ x. Spells x (w ∷ s ∷ n ∷ k ∷ args)) (λ f. PlacesFault (arm_front ++ kind_places kind) (w ∷ s ∷ n ∷ k ∷ args) f)

alone_told : (w s n k : List ℕ) (args : List (List ℕ)) (fault : FaultKind) → w ≡ codes "arm" → SpellsParts (kind_parts fault) (k ∷ []) → ArmTold w s n k args (armed.Alone fault)
unfolding has_count fault_kind_of nothing
alone_told w s n k [] fault arm kind = go (server_of s) (server_told s) (value_of 1 1000000 n) (number_told 1 1000000 n (omega arith))
  where
    go : (r : Result ServerNo LineFault) → Told server_place (λ (s : ServerNo). server_part s.0) s r → (q : Result ℕ LineFault) → Told call_place (λ (n : ℕ). grammar.Number 1 1000000 n) n q
        → MatchResult (r >>= λ s. q >>= λ n. Ok (events.Arm s n fault)) (λ x. Spells x (w ∷ s ∷ n ∷ k ∷ [])) (λ f. PlacesFault arm_front (w ∷ s ∷ n ∷ k ∷ []) f)
    go (Ok x) h (Ok y) m = (arm, (h, (m, kind)))
    go (Ok x) h (Err f) m = inl (tt, inl (fills (server_part x.0) s h, inr m))
    go (Err f) h q m = inl (tt, inr h)
alone_told w s n k (a ∷ args) fault arm kind = wrong_count arm_front (w ∷ s ∷ n ∷ k ∷ a ∷ args) (λ e. omega arith)

page_kind_told : (w s n k : List ℕ) (args : List (List ℕ)) (made : ℕ → FaultKind) → w ≡ codes "arm" → ((g : ℕ) (b : List ℕ) → SpellsPart (page_part g) b → SpellsParts (kind_parts (made g)) (k ∷ b ∷ []))
    → MatchResult (one args >>= λ _. server_of s >>= λ s. value_of 1 1000000 n >>= λ n. (page_alone args >>= λ g. Ok (made g)) >>= λ fault. Ok (events.Arm s n fault))
    (λ x. Spells x (w ∷ s ∷ n ∷ k ∷ args)) (λ f. PlacesFault (arm_front ++ page_place ∷ []) (w ∷ s ∷ n ∷ k ∷ args) f)
unfolding one page_alone
page_kind_told w s n k [] made arm kind = refl
page_kind_told w s n k (b ∷ []) made arm kind = go (server_of s) (server_told s) (value_of 1 1000000 n) (number_told 1 1000000 n (omega arith)) (page_of b) (page_told b)
  where
    go : (r : Result ServerNo LineFault) → Told server_place (λ (s : ServerNo). server_part s.0) s r → (q : Result ℕ LineFault) → Told call_place (λ (n : ℕ). grammar.Number 1 1000000 n) n q
        → (t : Result ℕ LineFault) → Told page_place (λ (g : ℕ). page_part g) b t
        → MatchResult (r >>= λ s. q >>= λ n. (t >>= λ g. Ok (made g)) >>= λ fault. Ok (events.Arm s n fault)) (λ x. Spells x (w ∷ s ∷ n ∷ k ∷ b ∷ [])) (λ f. PlacesFault (arm_front ++ page_place ∷ []) (w ∷ s ∷ n ∷ k ∷ b ∷ []) f)
    go (Ok x) h (Ok y) m (Ok z) l = (arm, (h, (m, kind z b l)))
    go (Ok x) h (Ok y) m (Err f) l = inl (tt, inl (fills (server_part x.0) s h, inl (fills (grammar.Number 1 1000000 y) n m, inl (tt, inr l))))
    go (Ok x) h (Err f) m t l = inl (tt, inl (fills (server_part x.0) s h, inr m))
    go (Err f) h q m t l = inl (tt, inr h)
page_kind_told w s n k (b ∷ d ∷ args) made arm kind = wrong_count (arm_front ++ page_place ∷ []) (w ∷ s ∷ n ∷ k ∷ b ∷ d ∷ args) (λ e. omega arith)

kinds_told : (w s n k : List ℕ) (args : List (List ℕ)) → w ≡ codes "arm" → AllByRecursion (λ e. k ≡ e.0 → ArmTold w s n k args e.1) kind_words
unfolding has_count fault_kind_of
kinds_told w s n k args arm = (
  (λ h. alone_told w s n k args kinds.Soft arm (h, tt)),
  (
    (λ h. alone_told w s n k args kinds.Null arm (h, tt)),
    (
      (λ h. alone_told w s n k args kinds.Bad arm (h, tt)),
      (
        (λ h. alone_told w s n k args kinds.StopBefore arm (h, tt)),
        (
          (λ h. alone_told w s n k args kinds.StopTorn arm (h, tt)),
          (
            (λ h. alone_told w s n k args kinds.StopAfter arm (h, tt)),
            (
              (λ h. page_kind_told w s n k args kinds.Decay arm (λ g b spells. (h, (spells, tt)))),
              (
                (λ h. page_kind_told w s n k args kinds.Revive arm (λ g b spells. (h, (spells, tt)))),
                tt,
              ),
            ),
          ),
        ),
      ),
    ),
  ),
)

arm_told : (w : List ℕ) (ws : List (List ℕ)) → w ≡ codes "arm" → MatchResult (arm_of ws) (λ x. Spells x (w ∷ ws)) (λ f. FaultBy (arm_places ws) (w ∷ ws) f)
unfolding arm_of kind_of
arm_told w [] arm = refl
arm_told w (s ∷ []) arm = refl
arm_told w (s ∷ n ∷ []) arm = refl
arm_told w (s ∷ n ∷ k ∷ args) arm =
    table_told kind_places arm_front (λ kind. arm_by kind s n args) (λ x. Spells x (w ∷ s ∷ n ∷ k ∷ args)) k (w ∷ s ∷ n ∷ k ∷ args) kind_words (kinds_told w s n k args arm)

-- ---- lines

client_spelled : (a b : ℕ) → (nat_eq a 99 && (nat_le 49 b && nat_le b 56)) ≡ true → SpellsClient (b - 48) (a ∷ b ∷ [])
client_spelled a b is =
    let tests = both (nat_eq a 99) (nat_le 49 b) (nat_le b 56) is in
    let least : 49 ≤ b = le-is 49 b tests.1 in
    let most : b ≤ 56 = le-is b 56 tests.2 in
    let letter : a ≡ 99 = eqb-true a 99 tests.0 in
    let digit : b ≡ 48 + (b - 48) = omega arith in
    (omega arith, omega arith, ap (λ (x : ℕ). x ∷ b ∷ []) letter ∙ ap (λ (y : ℕ). 99 ∷ y ∷ []) digit)

client_told : (w : List ℕ) → MatchOption (client_of w) (is_client_word w ≡ false) (λ c. (is_client_word w ≡ true) × SpellsClient c.0 w)
unfolding client_of
client_told [] = refl
client_told (a ∷ []) = refl
client_told (a ∷ b ∷ []) = go (nat_eq a 99 && (nat_le 49 b && nat_le b 56)) refl
  where
    go : (t : Bool) → (nat_eq a 99 && (nat_le 49 b && nat_le b 56)) ≡ t
        → MatchOption {T = ClientNo} (cond t (Some (record { 0 = b - 48 })) None) (t ≡ false) (λ c. (t ≡ true) × SpellsClient c.0 (a ∷ b ∷ []))
    go true is = (refl, client_spelled a b is)
    go false is = refl
client_told (a ∷ b ∷ c ∷ w) = refl

no_client_told : (w : List ℕ) (ws : List (List ℕ)) → MatchResult (no_client_event w ws) (λ x. Spells x (w ∷ ws))
    (λ f. FaultBy (cond (same w (codes "arm")) (arm_places ws) (places_by places.others (places.Keyword ∷ []) w)) (w ∷ ws) f)
unfolding no_client_event opening_of
no_client_told w ws = go (same w (codes "arm")) refl
  where
    go : (b : Bool) → same w (codes "arm") ≡ b → MatchResult (cond b (arm_of ws) (ok_or (lookup opening_words w) faults.Keyword >>= λ opening. other_event opening ws)) (λ x. Spells x (w ∷ ws))
        (λ f. FaultBy (cond b (arm_places ws) (places_by (map (λ (e : List ℕ × Opening). (e.0, opening_places e.1)) opening_words) (places.Keyword ∷ []) w)) (w ∷ ws) f)
    go true is = arm_told w ws ((bytes_eq-Decides w (codes "arm")).0 is)
    go false is = table_told opening_places (places.Keyword ∷ []) (λ opening. other_event opening ws) (λ x. Spells x (w ∷ ws)) w (w ∷ ws) opening_words (others_told w ws)

-- the words of a line spell the event that is read, or have the fault that is reported
pub event_told : (ws : List (List ℕ)) → MatchResult (event_of ws) (λ e. Spells e ws) (λ f. HasFault ws f)
unfolding event_of by_client
event_told [] = refl
event_told (w ∷ ws) = go (client_of w) (client_told w)
  where
    go : (o : Option ClientNo) → MatchOption o (is_client_word w ≡ false) (λ c. (is_client_word w ≡ true) × SpellsClient c.0 w)
        → MatchResult (by_client o w ws) (λ e. Spells e (w ∷ ws)) (λ f. HasFault (w ∷ ws) f)
    go (Some c) h = rw h.0 (client_event_told c w ws h.1)
    go None h = rw h (no_client_told w ws)
