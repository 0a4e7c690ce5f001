-- What carrying out a list comes to: at once, in the place of its operations, and once more.
use Rattle.jn_records.proofs.Common.{◌≡◌, ℕ, Bool, true, List, [], ◌∷◌, Option, None, Some, refl, sym, ◌∙◌, ap, subst, arith, fun_ext, ◌&&◌, LockUnit, File, Block, Op, Files, change, or_else, effect, answer_to, is_did, files_after, files_then, all_did, Intention, intention_change, list_change, carried_out, in_order, Net, net_of, no_net, added, added_all, net_change}
use Rattle.jn_order.proofs.ChangeLemmas.{change-then, change-nothing}
use Rattle.jn_order.proofs.FilesLemmas.{files_after-did}
use Rattle.jn_records.proofs.NetLemmas.{added-change, list-net}

pub carried-change : (list : List Intention) (files : Files) → carried_out list files ≡ change (list_change list) files
carried-change [] files = sym (change-nothing files)
carried-change (i ∷ list) files = carried-change list (change (intention_change i) files) ∙ sym (change-then (intention_change i) (list_change list) files)

-- ---- once more

-- what agrees but where a list changes it is the same once the list is carried out
pub like-again : (list : List Intention) (a b : Files) → ((u : LockUnit) → list_change list u ≡ None → b u ≡ a u) → carried_out list b ≡ carried_out list a
like-again list a b like = carried-change list b ∙ fun_ext (λ u. at u (list_change list u) refl) ∙ sym (carried-change list a)
  where
    at : (u : LockUnit) (o : Option (Option (List ℕ))) → list_change list u ≡ o → change (list_change list) b u ≡ change (list_change list) a u
    at u None e = ap (λ o. or_else o (b u)) e ∙ like u e ∙ sym (ap (λ o. or_else o (a u)) e)
    at u (Some v) e = ap (λ o. or_else o (b u)) e ∙ sym (ap (λ o. or_else o (a u)) e)

-- ---- in the place of its operations

ops-at : (net : Net) (ops : List Op) (files : Files) → all_did ops (change (net_change net) files) ≡ true → change (net_change (added_all net ops)) files ≡ files_then ops (change (net_change net) files)
ops-at net [] files h = refl
ops-at net (op ∷ ops) files h =
    let viewed : Files = change (net_change net) files in
    let step : change (net_change (added net op)) files ≡ files_after op viewed =
    ap (λ c. change c files) (added-change net op) ∙ change-then (net_change net) (effect op) files ∙ sym (files_after-did op viewed (first (is_did (answer_to op viewed)) (all_did ops (files_after op viewed)) h)) in
    ops-at (added net op) ops files (subst (λ (f : Files). all_did ops f ≡ true) (sym step) (second (is_did (answer_to op viewed)) (all_did ops (files_after op viewed)) h))
    ∙ ap (λ (f : Files). files_then ops f) step
  where
    first : (a b : Bool) → (a && b) ≡ true → a ≡ true
    first a b h = grind arith

    second : (a b : Bool) → (a && b) ≡ true → b ≡ true
    second a b h = grind arith

pub carried-ops : (list : List Intention) (ops : List Op) (files : Files) → in_order None list ≡ true → net_of list ≡ added_all no_net ops → all_did ops files ≡ true → carried_out list files ≡ files_then ops files
carried-ops list ops files order same did =
    carried-change list files
    ∙ ap (λ c. change c files) (list-net list order ∙ ap net_change same)
    ∙ ops-at no_net ops files (subst (λ (f : Files). all_did ops f ≡ true) (sym none) did)
    ∙ ap (λ (f : Files). files_then ops f) none
  where
    none : change (net_change no_net) files ≡ files
    none = fun_ext (λ u. at u)
      where
        at : (u : LockUnit) → change (net_change no_net) files u ≡ files u
        at (File f) = refl
        at (Block f p) = refl
