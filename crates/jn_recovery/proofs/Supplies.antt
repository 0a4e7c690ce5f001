-- Which intentions of works name a map page, by records and in memory.
use Rattle.jn_recovery.proofs.Common.{◌≡◌, Bool, List, [], refl, sym, ◌∙◌, ap, fun_ext, Option, Some, None, option_map, option_and_then, find, WorkId, work_eq, Record, Free, Intention, Ready, Going, FlagRecord, WorkState, is_prepared, name_of, find_by, WorksMatch, work_by, stored_work, StoredWork, names_maps, stored_by, supplied_in, supplied_by, supplied_on}

abbrev pub maps_of_work : Option StoredWork → List Bool
maps_of_work None = []
maps_of_work (Some s) = names_maps s.list

pub supplied_is : (pool : List Record) (w : WorkId) (o : Option Record) → supplied_by pool w o ≡ maps_of_work (option_and_then (work_by pool w) o)
supplied_is pool w None = refl
supplied_is pool w (Some Free) = refl
supplied_is pool w (Some (Intention v u k i)) = refl
supplied_is pool w (Some (Ready head n reads)) = refl
supplied_is pool w (Some (Going head n reads)) = refl
supplied_is pool w (Some (FlagRecord f)) = refl

-- the works in memory name what their records do
pub supplied_matches : (pool : List Record) (works : List WorkState) → WorksMatch pool works → supplied_in works ≡ supplied_on pool
supplied_matches pool works is = fun_ext (λ w. by (find_by work_eq name_of works w) ∙ ap maps_of_work (is.each w) ∙ sym (supplied_is pool w (find (is_prepared w) pool)))
  where
    by : (o : Option WorkState) → names_maps (stored_by o) ≡ maps_of_work (option_map stored_work o)
    by None = refl
    by (Some s) = refl

-- where each work's records say the same
pub supplied_same : (one two : List Record) → ((w : WorkId) → option_and_then (work_by one w) (find (is_prepared w) one) ≡ option_and_then (work_by two w) (find (is_prepared w) two)) → supplied_on one ≡ supplied_on two
supplied_same one two same = fun_ext (λ w. supplied_is one w (find (is_prepared w) one) ∙ ap maps_of_work (same w) ∙ sym (supplied_is two w (find (is_prepared w) two)))
