use Rattle.jn_records.proofs.Common.{◌≡◌, ℕ, List, Some, None, refl, false≢true, map_page, IsMapPage}
use Rattle.jn_records.proofs.map.is_map_page.Goals as goal

none_some : (xs : List ℕ) → None ≡ Some xs → ⊥
none_some xs e = cc

pub returns-in-Some : goal.returns-in-Some
returns-in-Some c = (λ t. record { entries = c.in-Some._entries; row = record { count = c.in-Some.ensures.count; within_leaves = c.in-Some.ensures.found.1 }; is_page = c.in-Some.ensures.found.0 }, λ is. refl)

pub returns-in-None : goal.returns-in-None
returns-in-None c = (λ t. absurd (false≢true t), λ is. absurd (none_some is.entries (c.in-None.ensures.only is.entries is.row.count is.row.within_leaves is.is_page)))
