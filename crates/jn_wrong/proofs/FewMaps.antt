-- How many map pages heads name at most, whatever stands on their pages.
use Rattle.jn_wrong.proofs.Common.{◌≡◌, ◌≤◌, ◌*◌, ℕ, zero, suc, Bool, true, false, List, ◌∷◌, length, Option, None, Some, refl, arith, if◌then◌else◌, nat_lt, nat_eq, Counts, heads_on, head_on, head_or_free, listed, Head, FreeHead, Used, FileNo, count_by-le-length, head_blocks, most_maps, map_count, maps_named, Pages}
unfoldable use Rattle.jn_records.specs.Heads.{head_at, used_at, maps_at}
use Rattle.jn_fields.specs.Reading.{◌>>=◌, number_at}
unfoldable use Rattle.jn_fields.specs.Reading.{list_at}

-- ---- what is read of a list

abbrev Counted : ℕ → Option (List ℕ × List ℕ) → Type 0
Counted n None = Unit {0}
Counted n (Some r) = length r.0 ≡ n

list-counted : (read : List ℕ → Option (ℕ × List ℕ)) (n : ℕ) (bytes : List ℕ) → Counted n (list_at read n bytes)
unfolding list_at
list-counted read zero bytes = refl
list-counted read (suc n) bytes = by (read bytes) (λ rest. list-counted read n rest)
  where
    longer : (first : ℕ) (o : Option (List ℕ × List ℕ)) → Counted n o → Counted (suc n) (o >>= λ others. Some (first ∷ others.0, others.1))
    longer first None c = tt
    longer first (Some r) c = omega (arith, c)

    by : (o : Option (ℕ × List ℕ)) → ((rest : List ℕ) → Counted n (list_at read n rest)) → Counted (suc n) (o >>= λ first. list_at read n first.1 >>= λ others. Some (first.0 ∷ others.0, others.1))
    by None c = tt
    by (Some x) c = longer x.0 (list_at read n x.1) (c x.1)

-- ---- what is read as a head

abbrev IsFew : Option Head → Type 0
IsFew o = map_count (head_or_free o) ≤ most_maps

few-maps-at : (file : FileNo) (addresses bytes : List ℕ) → IsFew (maps_at file addresses bytes)
unfolding maps_at
few-maps-at file addresses bytes = by (list_at (λ b. number_at 2 b) most_maps bytes) (list-counted (λ b. number_at 2 b) most_maps bytes)
  where
    by : (o : Option (List ℕ × List ℕ)) → Counted most_maps o → IsFew (o >>= λ maps. Some (Used file addresses maps.0))
    by None c = omega arith
    by (Some r) c = let few = count_by-le-length (nat_lt 0) r.0 in omega (arith, few, c)

few-used-at : (bytes : List ℕ) → IsFew (used_at bytes)
unfolding used_at
few-used-at bytes = by (number_at 4 bytes)
  where
    behind : (file : FileNo) (o : Option (List ℕ × List ℕ)) → IsFew (o >>= λ addresses. maps_at file addresses.0 addresses.1)
    behind file None = omega arith
    behind file (Some r) = few-maps-at file r.0 r.1

    by : (o : Option (ℕ × List ℕ)) → IsFew (o >>= λ file. list_at (λ b. number_at 2 b) head_blocks file.1 >>= λ addresses. maps_at (record { 0 = file.0 }) addresses.0 addresses.1)
    by None = omega arith
    by (Some x) = behind (record { 0 = x.0 }) (list_at (λ b. number_at 2 b) head_blocks x.1)

few-head-at : (bytes : List ℕ) → IsFew (head_at bytes)
unfolding head_at
few-head-at bytes = by (number_at 1 bytes)
  where
    kinds : (free used : Bool) (rest : List ℕ) → IsFew (if free then Some FreeHead else if used then used_at rest else None)
    kinds true used rest = omega arith
    kinds false true rest = few-used-at rest
    kinds false false rest = omega arith

    by : (o : Option (ℕ × List ℕ)) → IsFew (o >>= λ kind. if nat_eq kind.0 0 then Some FreeHead else if nat_eq kind.0 1 then used_at kind.1 else None)
    by None = omega arith
    by (Some x) = kinds (nat_eq x.0 0) (nat_eq x.0 1) x.1

-- ---- the heads of a server

few-listed : (at : ℕ → Head) → ((i : ℕ) → map_count (at i) ≤ most_maps) → (i n : ℕ) → maps_named (listed at i n) ≤ most_maps * n
few-listed at each i zero = omega arith
few-listed at each i (suc n) = let here = each i in let again = few-listed at each (suc i) n in omega (arith, here, again)

pub few-maps : (g : Counts) (pages : Pages) → maps_named (heads_on g pages) ≤ most_maps * g.heads
few-maps g pages = few-listed (head_on g pages) (λ i. few-head-at _) 0 g.heads
