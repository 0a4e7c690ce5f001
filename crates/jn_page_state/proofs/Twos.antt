-- One change by two puts: what a stop has left of it is carried out to the same end.
use Rattle.jn_page_state.proofs.Common.{◌≡◌, ◌||◌, ℕ, zero, suc, Bool, true, false, if◌then◌else◌, List, [], ◌∷◌, Option, Some, None, refl, ◌∙◌, ap, fun_ext, WorkId, BlockNo, LockUnit, File, Block, What, Fresh, Gone, Cut, Put, Files, change, or_else, change_by, intention_change, StableState, Pick, CarryOut, made_by, Changed, IsStopState, left_of, part_by, parted, whole-stop, left-none}
use Rattle.jn_records.specs.declared.intention.Intention.{Intention}
use Rattle.jn_page_state.proofs.Again.{carried_again}

-- the blocks that are gone by either of two parts
abbrev both_gone : Option (BlockNo → Bool) → Option (BlockNo → Bool) → Option (BlockNo → Bool)
both_gone None other = other
both_gone (Some g) None = Some g
both_gone (Some g) (Some h) = Some (λ p. g p || h p)

twice : (a b : Bool) (c : Option (Option (List ℕ))) (x : Option (List ℕ)) → or_else (if b then c else None) (or_else (if a then c else None) x) ≡ or_else (if a || b then c else None) x
twice true true None x = refl
twice true true (Some v) x = refl
twice true false c x = refl
twice false true c x = refl
twice false false c x = refl

behind_all : (b : Bool) (c : Option (Option (List ℕ))) (x : Option (List ℕ)) → or_else (if b then c else None) (or_else c x) ≡ or_else c x
behind_all true None x = refl
behind_all true (Some v) x = refl
behind_all false c x = refl

module _ (work : WorkId) (full : Intention) where
  -- a part behind a part is one part
  parts_joined : (a b : Option (BlockNo → Bool)) (files : Files) → parted b (Some (CarryOut work full)) (parted a (Some (CarryOut work full)) files) ≡ parted (both_gone a b) (Some (CarryOut work full)) files
  parts_joined None b files = refl
  parts_joined (Some g) None files = refl
  parts_joined (Some g) (Some h) files = fun_ext (λ u. by full.what u)
    where
      by : (what : What) (u : LockUnit) → change (part_by h what (change_by what full.file full.block full.bytes)) (change (part_by g what (change_by what full.file full.block full.bytes)) files) u
          ≡ change (part_by (λ p. g p || h p) what (change_by what full.file full.block full.bytes)) files u
      by Fresh u = refl
      by Gone u = refl
      by Put u = refl
      by Cut (File f) = refl
      by Cut (Block f p) = twice (g p) (h p) (change_by Cut full.file full.block full.bytes (Block f p)) (files (Block f p))

  -- and behind the whole it is nothing
  part_past : (b : Option (BlockNo → Bool)) (files : Files) → parted b (Some (CarryOut work full)) (change (intention_change full) files) ≡ change (intention_change full) files
  part_past None files = refl
  part_past (Some h) files = fun_ext (λ u. by full.what u)
    where
      by : (what : What) (u : LockUnit) → change (part_by h what (change_by what full.file full.block full.bytes)) (change (change_by what full.file full.block full.bytes) files) u
          ≡ change (change_by what full.file full.block full.bytes) files u
      by Fresh u = refl
      by Gone u = refl
      by Put u = refl
      by Cut (File f) = refl
      by Cut (Block f p) = behind_all (h p) (change_by Cut full.file full.block full.bytes (Block f p)) (files (Block f p))

  pub made_again : (x y : StableState) → IsStopState x (CarryOut work full ∷ []) y → made_by (CarryOut work full) y ≡ made_by (CarryOut work full) x
  made_again x y stop = ap (made_by (CarryOut work full)) stop.is_after ∙ carried_again work (full ∷ []) (stop.left ∷ []) x

  pub stops_joined : (x y z : StableState) → IsStopState x (CarryOut work full ∷ []) y → IsStopState y (CarryOut work full ∷ []) z → IsStopState x (CarryOut work full ∷ []) z
  stops_joined x y z one two = by one.left.whole one.left.gone one.is_after two.left.whole two.left.gone two.is_after
    where
      by : (n : ℕ) (a : Option (BlockNo → Bool)) → y ≡ left_of (record { whole = n; gone = a }) (CarryOut work full ∷ []) x
          → (m : ℕ) (b : Option (BlockNo → Bool)) → z ≡ left_of (record { whole = m; gone = b }) (CarryOut work full ∷ []) y → IsStopState x (CarryOut work full ∷ []) z
      by n a e (suc m) b f = whole-stop x (CarryOut work full ∷ []) z 1 (f ∙ left-none (record { whole = m; gone = b }) (made_by (CarryOut work full) y) ∙ made_again x y one)
      by zero a e zero b f = record {
        left = record { whole = 0; gone = both_gone a b };
        is_after = f ∙ ap (λ (s : StableState). record s { files = parted b (Some (CarryOut work full)) s.files }) e ∙ ap (λ (l : Files). record x { files = l }) (parts_joined a b x.files);
      }
      by (suc n) a e zero b f = whole-stop x (CarryOut work full ∷ []) z 1 (f
          ∙ ap (λ (s : StableState). record s { files = parted b (Some (CarryOut work full)) s.files }) (e ∙ left-none (record { whole = n; gone = a }) (made_by (CarryOut work full) x))
          ∙ ap (λ (l : Files). record x { files = l }) (part_past b x.files))

  pub changed_on : (x y : StableState) (ok : Bool) (found : Pick → StableState) → IsStopState x (CarryOut work full ∷ []) y → Changed y (CarryOut work full) ok found → Changed x (CarryOut work full) ok found
  changed_on x y ok found stop then_changed = record {
    done = λ done c. then_changed.done done c ∙ made_again x y stop;
    stop = λ out c. stops_joined x y (found c) stop (then_changed.stop out c);
  }
