-- What is reported of outcomes, with more lines.
use Rattle.jn_serial.proofs.Common.{◌≡◌, Bool, true, false, ◌||◌, List, [], ◌∷◌, ◌++◌, refl, ◌∙◌, arith, Tid, tid_eq, has_tid, NamesOnce, tid_tells}
use Rattle.jn_serial.proofs.Orders.{has_tid-append}

other_way : (u t : Tid) → tid_eq u t ≡ false → tid_eq t u ≡ false
other_way u t h = grind (arith, tid_tells u t, tid_tells t u)

pub NamesOnce-more : (ts : List Tid) (t : Tid) → NamesOnce ts → has_tid ts t ≡ false → NamesOnce (ts ++ t ∷ [])
NamesOnce-more [] t once new = (refl, tt)
NamesOnce-more (u ∷ ts) t once new = (
  has_tid-append ts (t ∷ []) u ∙ neither (has_tid ts u) (tid_eq t u) once.0 (other_way u t (parts (tid_eq u t) (has_tid ts t) new).0),
  NamesOnce-more ts t once.1 (parts (tid_eq u t) (has_tid ts t) new).1,
)
  where
    parts : (a b : Bool) → (a || b) ≡ false → (a ≡ false) × (b ≡ false)
    parts true b h = cc
    parts false b h = (refl, h)

    neither : (a b : Bool) → a ≡ false → b ≡ false → (a || (b || false)) ≡ false
    neither a b g h = rw (g, h) refl
