-- A work that is carried out again.
use Rattle.jn_page_state.proofs.Common.{◌≡◌, ℕ, zero, suc, Bool, List, [], ◌∷◌, map, take, Option, Some, None, refl, sym, ◌∙◌, ap, arith, WorkId, BlockNo, LockUnit, File, Block, What, Fresh, Gone, Cut, Put, carried_out, intention_change, change, or_else, StableState, made_all, made_by, CarryOut, FilesChange, list_change, Left, left_of, part_by, after_turns}
use Rattle.jn_records.specs.declared.intention.Intention.{Intention}
use Rattle.jn_records.proofs.CarriedLemmas.{like-again}

pub carried_files : (work : WorkId) (list : List Intention) (x : StableState) → made_all (map (λ i. CarryOut work i) list) x ≡ record x { files = carried_out list x.files }
carried_files work [] x = refl
carried_files work (i ∷ list) x = carried_files work list (record x { files = change (intention_change i) x.files })

-- all but the files is the same, and so are the files but where the list changes them
record IsLike (list : List Intention) (x y : StableState) : Type 0 where
  pub rest : y ≡ record x { files = y.files }
  pub files : (u : LockUnit) → list_change list u ≡ None → y.files u ≡ x.files u

-- what a list leaves alone its first intention does, and the others
first_leaves : (i : Intention) (list : List Intention) (u : LockUnit) → list_change (i ∷ list) u ≡ None → intention_change i u ≡ None
first_leaves i list u h = grind (arith, h)

others_leave : (i : Intention) (list : List Intention) (u : LockUnit) → list_change (i ∷ list) u ≡ None → list_change list u ≡ None
others_leave i list u h = grind (arith, h)

-- a part changes nothing that the whole doesn't
part_leaves : (gone : BlockNo → Bool) (what : What) (c : FilesChange) (u : LockUnit) → c u ≡ None → part_by gone what c u ≡ None
part_leaves gone Fresh c u h = refl
part_leaves gone Gone c u h = refl
part_leaves gone Put c u h = refl
part_leaves gone Cut c (File f) h = refl
part_leaves gone Cut c (Block f p) h = grind (arith, h)

left_like : (work : WorkId) (list : List Intention) (n : ℕ) (gone : Option (BlockNo → Bool)) (x : StableState) → IsLike list x (left_of (record { whole = n; gone = gone }) (map (λ i. CarryOut work i) list) x)
left_like work list n None x = whole list n x
  where
    whole : (list : List Intention) (n : ℕ) (x : StableState) → IsLike list x (made_all (take n (map (λ i. CarryOut work i) list)) x)
    whole list zero x = record { rest = refl; files = λ u h. refl }
    whole [] (suc n) x = record { rest = refl; files = λ u h. refl }
    whole (i ∷ list) (suc n) x = let more = whole list n (made_by (CarryOut work i) x) in record {
      rest = more.rest;
      files = λ u h. more.files u (others_leave i list u h) ∙ ap (λ o. or_else o (x.files u)) (first_leaves i list u h);
    }
left_like work list n (Some gone) x = by list n x
  where
    by : (list : List Intention) (n : ℕ) (x : StableState) → IsLike list x (left_of (record { whole = n; gone = Some gone }) (map (λ i. CarryOut work i) list) x)
    by [] zero x = record { rest = refl; files = λ u h. refl }
    by [] (suc n) x = record { rest = refl; files = λ u h. refl }
    by (i ∷ list) zero x = record { rest = refl; files = λ u h. ap (λ o. or_else o (x.files u)) (part_leaves gone i.what (intention_change i) u (first_leaves i list u h)) }
    by (i ∷ list) (suc n) x = let more = by list n (made_by (CarryOut work i) x) in record {
      rest = more.rest;
      files = λ u h. more.files u (others_leave i list u h) ∙ ap (λ o. or_else o (x.files u)) (first_leaves i list u h);
    }

turns_like : (work : WorkId) (list : List Intention) (turns : List Left) (x : StableState) → IsLike list x (after_turns (map (λ i. CarryOut work i) list) turns x)
turns_like work list [] x = record { rest = refl; files = λ u h. refl }
turns_like work list (l ∷ turns) x =
    let one = left_like work list l.whole l.gone x in
    let more = turns_like work list turns (left_of l (map (λ i. CarryOut work i) list) x) in
    record {
      rest = more.rest ∙ ap (λ (z : StableState). record z { files = (after_turns (map (λ i. CarryOut work i) list) turns (left_of l (map (λ i. CarryOut work i) list) x)).files }) one.rest;
      files = λ u h. more.files u h ∙ one.files u h;
    }

pub carried_again : (work : WorkId) (list : List Intention) (turns : List Left) (x : StableState)
    → made_all (map (λ i. CarryOut work i) list) (after_turns (map (λ i. CarryOut work i) list) turns x) ≡ made_all (map (λ i. CarryOut work i) list) x
carried_again work list turns x =
    let y : StableState = after_turns (map (λ i. CarryOut work i) list) turns x in
    let like = turns_like work list turns x in
    carried_files work list y ∙ ap (λ (z : StableState). record z { files = carried_out list y.files }) like.rest
    ∙ ap (λ f. record x { files = f }) (like-again list x.files y.files like.files) ∙ sym (carried_files work list x)
