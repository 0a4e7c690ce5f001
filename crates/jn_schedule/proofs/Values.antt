-- What each reader of a word tells: what the word spells, or that it spells nothing of the kind.
use Rattle.jn_schedule.proofs.Common.{◌≡◌, ℕ, ◌-◌, ◌^◌, ◌<◌, ◌++◌, List, ◌∷◌, Option, Some, None, Result, Ok, Err, MatchResult, option_map, ok_or, decimal, refl, ap, ◌∙◌, subst, arith, option_and_then_some, BlockNo, FileNo, ServerNo, Tid, LineFault, Part, SpellsBlock, SpellsName, SpellsNumber, SpellsPart, block_part, file_part, page_part, server_part, Fills, Place, block_place, fault_at, file_place, page_place, server_place, ◌>>=◌, block_in, block_no_of, bytes_of, cut_at_stop, file_of, name_in, name_of, number_in, page_of, server_in, server_of, value_of}
use Rattle.jn_schedule.specs.declared.fault.LineFault.TheVariants as faults
use Rattle.jn_schedule.specs.Grammar as grammar
use Rattle.jn_schedule.specs.Faults as places
use Rattle.jn_schedule.proofs.Blocks.{block_again, block_sound, some_is}
use Rattle.jn_schedule.proofs.Numbers.{number_again, number_sound}
use Rattle.jn_schedule.proofs.TextParts.{cut-at, cut-is, decimal-lacks}

-- what a reader of a word tells
abbrev pub Told : {X : Type 0} → Place → (X → Part) → List ℕ → Result X LineFault → Type 0
Told place part w r = MatchResult r (λ x. SpellsPart (part x) w) (λ f. ¬ Fills place w × (f ≡ fault_at place))

-- ---- numbers

pub number_told : (low high : ℕ) (w : List ℕ) → high < 2 ^ 64 → Told (places.Number low high) (λ n. grammar.Number low high n) w (value_of low high w)
unfolding value_of
number_told low high w fits = go (number_in low high w) refl
  where
    go : (o : Option ℕ) → number_in low high w ≡ o → Told (places.Number low high) (λ n. grammar.Number low high n) w (ok_or o faults.Value)
    go (Some n) e = number_sound low high w n e
    go None e = (λ (n, spells). let again = number_again low high w n fits spells in cc, refl)

pub value_again : (low high : ℕ) (w : List ℕ) (n : ℕ) → high < 2 ^ 64 → SpellsNumber low high n w → value_of low high w ≡ Ok n
unfolding value_of
value_again low high w n fits spells = rw (number_again low high w n fits spells) refl

server_in-sound : (w : List ℕ) (s : ServerNo) → server_in w ≡ Some s → SpellsNumber 0 7 s.0 w
unfolding server_in
server_in-sound w s e = go (number_in 0 7 w) refl e
  where
    go : (o : Option ℕ) → number_in 0 7 w ≡ o → option_map (λ n. record { 0 = n }) o ≡ Some s → SpellsNumber 0 7 s.0 w
    go (Some n) is e = subst (λ (m : ℕ). SpellsNumber 0 7 m w) (ap (λ (t : ServerNo). t.0) (some_is (record { 0 = n }) s e)) (number_sound 0 7 w n is)
    go None is e = absurd cc

server_in-again : (w : List ℕ) (s : ServerNo) → SpellsNumber 0 7 s.0 w → server_in w ≡ Some s
unfolding server_in
server_in-again w s spells = rw (number_again 0 7 w s.0 (omega arith) spells) refl

pub server_told : (w : List ℕ) → Told server_place (λ s. server_part s.0) w (server_of w)
unfolding server_of
server_told w = go (server_in w) refl
  where
    go : (o : Option ServerNo) → server_in w ≡ o → Told server_place (λ (s : ServerNo). server_part s.0) w (ok_or o faults.Value)
    go (Some s) e = server_in-sound w s e
    go None e = (λ (n, spells). let again = server_in-again w (record { 0 = n }) spells in cc, refl)

pub server_again : (w : List ℕ) (s : ServerNo) → SpellsNumber 0 7 s.0 w → server_of w ≡ Ok s
unfolding server_of
server_again w s spells = rw (server_in-again w s spells) refl

pub file_told : (w : List ℕ) → Told file_place (λ f. file_part f.0) w (file_of w)
unfolding file_of
file_told w = go (value_of 0 (2 ^ 32 - 1) w) (number_told 0 (2 ^ 32 - 1) w (omega arith))
  where
    go : (r : Result ℕ LineFault) → Told file_place (λ n. file_part n) w r → Told file_place (λ (f : FileNo). file_part f.0) w (r >>= λ n. Ok (record { 0 = n }))
    go (Ok n) h = h
    go (Err f) h = h

pub file_again : (w : List ℕ) (f : FileNo) → SpellsNumber 0 (2 ^ 32 - 1) f.0 w → file_of w ≡ Ok f
unfolding file_of
file_again w f spells = rw (value_again 0 (2 ^ 32 - 1) w f.0 (omega arith) spells) refl

pub block_no_told : (w : List ℕ) → Told block_place (λ p. block_part p.0) w (block_no_of w)
unfolding block_no_of
block_no_told w = go (value_of 0 2519 w) (number_told 0 2519 w (omega arith))
  where
    go : (r : Result ℕ LineFault) → Told block_place (λ n. block_part n) w r → Told block_place (λ (p : BlockNo). block_part p.0) w (r >>= λ n. Ok (record { 0 = n }))
    go (Ok n) h = h
    go (Err f) h = h

pub block_no_again : (w : List ℕ) (p : BlockNo) → SpellsNumber 0 2519 p.0 w → block_no_of w ≡ Ok p
unfolding block_no_of
block_no_again w p spells = rw (value_again 0 2519 w p.0 (omega arith) spells) refl

pub page_told : (w : List ℕ) → Told page_place (λ g. page_part g) w (page_of w)
unfolding page_of
page_told w = number_told 0 20001 w (omega arith)

pub page_again : (w : List ℕ) (g : ℕ) → SpellsNumber 0 20001 g w → page_of w ≡ Ok g
unfolding page_of
page_again w g spells = value_again 0 20001 w g (omega arith) spells

-- ---- names

name_in-sound : (w : List ℕ) (t : Tid) → name_in w ≡ Some t → SpellsName t w
unfolding name_in
name_in-sound w t e =
    option_and_then_some _ (cut_at_stop w) t e (λ front cut e.
    option_and_then_some _ (cut_at_stop front.1) t e (λ back again e.
    option_and_then_some _ (server_in front.0) t e (λ s is_server e.
    option_and_then_some _ (number_in 0 (2 ^ 32 - 1) back.0) t e (λ n is_epoch e.
    option_and_then_some _ (number_in 0 (2 ^ 32 - 1) back.1) t e (λ k is_ticket e.
    let whole = cut-is w front.0 front.1 cut in
    let rest = cut-is front.1 back.0 back.1 again in
    let server = server_in-sound front.0 s is_server in
    let epoch = number_sound 0 (2 ^ 32 - 1) back.0 n is_epoch in
    let ticket = number_sound 0 (2 ^ 32 - 1) back.1 k is_ticket in
    let epoch_most = epoch.1 in
    let ticket_most = ticket.1 in
    subst (λ (u : Tid). SpellsName u w) (some_is (record { server = s; epoch = n; ticket = k }) t e) (record {
      server = server.1;
      epoch = omega arith;
      ticket = omega arith;
      spelled = whole ∙ ap (λ (f : List ℕ). f ++ 46 ∷ front.1) server.2
          ∙ ap (λ (r : List ℕ). decimal s.0 ++ 46 ∷ r) (rest ∙ ap (λ (f : List ℕ). f ++ 46 ∷ back.1) epoch.2 ∙ ap (λ (r : List ℕ). decimal n ++ 46 ∷ r) ticket.2);
    }))))))

name_in-again : (w : List ℕ) (t : Tid) → SpellsName t w → name_in w ≡ Some t
unfolding name_in
name_in-again w t spells =
    let server = spells.server in
    let epoch = spells.epoch in
    let ticket = spells.ticket in
    let first = decimal-lacks 46 t.server.0 (omega arith) (omega arith) in
    let second = decimal-lacks 46 t.epoch (omega arith) (omega arith) in
    rw spells.spelled (rw (
      cut-at (decimal t.server.0) (decimal t.epoch ++ 46 ∷ decimal t.ticket) first,
      cut-at (decimal t.epoch) (decimal t.ticket) second,
      server_in-again (decimal t.server.0) t.server (omega arith, server, refl),
      number_again 0 (2 ^ 32 - 1) (decimal t.epoch) t.epoch (omega arith) (omega arith, omega arith, refl),
      number_again 0 (2 ^ 32 - 1) (decimal t.ticket) t.ticket (omega arith) (omega arith, omega arith, refl),
    ) refl)

pub name_told : (w : List ℕ) → Told places.Name (λ t. grammar.Name t) w (name_of w)
unfolding name_of
name_told w = go (name_in w) refl
  where
    go : (o : Option Tid) → name_in w ≡ o → Told places.Name (λ (t : Tid). grammar.Name t) w (ok_or o faults.Value)
    go (Some t) e = name_in-sound w t e
    go None e = (λ (t, spells). let again = name_in-again w t spells in cc, refl)

pub name_again : (w : List ℕ) (t : Tid) → SpellsName t w → name_of w ≡ Ok t
unfolding name_of
name_again w t spells = rw (name_in-again w t spells) refl

-- ---- blocks

pub bytes_told : (w : List ℕ) → Told places.Bytes (λ stored. grammar.Bytes stored) w (bytes_of w)
unfolding bytes_of
bytes_told w = go (block_in w) refl
  where
    go : (o : Option (List ℕ)) → block_in w ≡ o → Told places.Bytes (λ (stored : List ℕ). grammar.Bytes stored) w (ok_or o faults.Bytes)
    go (Some stored) e = block_sound w stored e
    go None e = (λ (stored, spells). let again = block_again w stored spells in cc, refl)

pub bytes_again : (w stored : List ℕ) → SpellsBlock stored w → bytes_of w ≡ Ok stored
unfolding bytes_of
bytes_again w stored spells = rw (block_again w stored spells) refl
