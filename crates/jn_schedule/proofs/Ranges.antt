-- What a schedule's words spell is in range.
use Rattle.jn_schedule.proofs.Common.{◌≡◌, ◌≤◌, ◌+◌, ◌-◌, ◌∙◌, ℕ, List, [], ◌∷◌, inl, inr, length, replicate, ap, sym, subst, arith, AllByRecursion, length-append, length-replicate, Event, Part, Keyword, Client, Number, Name, Bytes, SpellsPart, SpellsParts, AreLines, parts_of, filled}
use Rattle.jn_schedule.specs.Ranges.{PartInRange, PartsInRange, EventInRange}

filled-length : (bytes : List ℕ) → length bytes ≤ 448 → length (filled bytes) ≡ 448
filled-length bytes few =
    length-append bytes (replicate (448 - length bytes) 0) ∙ ap (λ (n : ℕ). length bytes + n) (length-replicate (448 - length bytes) 0) ∙ omega (arith, few)

part-in_range : (p : Part) (w : List ℕ) → SpellsPart p w → PartInRange p
part-in_range (Keyword k) w spells = tt
part-in_range (Client c) w spells = (spells.0, spells.1)
part-in_range (Number low high n) w spells = (spells.0, spells.1)
part-in_range (Name t) w spells = (spells.server, spells.epoch, spells.ticket)
part-in_range (Bytes stored) w spells = ap length spells.stores ∙ filled-length spells.bytes spells.few

parts-in_range : (ps : List Part) (ws : List (List ℕ)) → SpellsParts ps ws → PartsInRange ps
parts-in_range [] [] spells = tt
parts-in_range (p ∷ ps) [] spells = absurd spells
parts-in_range [] (w ∷ ws) spells = absurd spells
parts-in_range (p ∷ ps) (w ∷ ws) spells = (part-in_range p w spells.0, parts-in_range ps ws spells.1)

pub lines_in_range : (lines : List (List (List ℕ))) (es : List Event) → AreLines lines es → AllByRecursion EventInRange es
lines_in_range [] es none = subst (λ (xs : List Event). AllByRecursion EventInRange xs) (sym none) tt
lines_in_range (ws ∷ lines) es (inl passed) = lines_in_range lines es passed.1
lines_in_range (ws ∷ lines) es (inr (e, more, same, spells, rest)) =
    subst (λ (xs : List Event). AllByRecursion EventInRange xs) (sym same) (parts-in_range (parts_of e) ws spells, lines_in_range lines more rest)
