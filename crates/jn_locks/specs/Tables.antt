-- What the maps of a lock table say.
use Rattle.std.specs.Prelude.{◌≡◌, ℕ, ◌-◌, Bool, true, false, nat_eq, ◌&&◌, vec_len, vec_capacity, List, [], Option, Some, None}
use Rattle.std.specs.Option.{option_map, option_map_or, option_eq}
use Rattle.std.specs.Global.{Vec}
use Rattle.std.specs.HashMap.{get}
use Rattle.jn_base.specs.declared.names.WorkId.{WorkId}
use Rattle.jn_base.specs.declared.names.LockUnit.{LockUnit}
use Rattle.jn_base.specs.declared.names.LockUnit.TheVariants.{File, Block}
use Rattle.jn_locks.specs.declared.words.Standing.{Standing}
use Rattle.jn_locks.specs.declared.words.Standing.TheVariants.{Prepared as IsPrepared}
use Rattle.jn_locks.specs.declared.words.Holder.{Holder}
use Rattle.jn_locks.specs.declared.units.Units.{Units}
use Rattle.jn_locks.specs.declared.works.Work.{Work}
use Rattle.jn_locks.specs.declared.works.Works.{Works}
use Rattle.jn_locks.specs.declared.held.Held.{Held}
use Rattle.jn_locks.specs.Locks.{is_unit, Table}
use Rattle.jn_locks.specs.Holders.{is_among, holds_in, each_once, has_room}

abbrev pub unit_place : LockUnit → ℕ × Option ℕ
unit_place (File f) = (f.0, None)
unit_place (Block f p) = (f.0, Some p.0)

abbrev pub place_eq : ℕ × Option ℕ → ℕ × Option ℕ → Bool
place_eq a b = nat_eq a.0 b.0 && option_eq nat_eq a.1 b.1

abbrev pub holders_in : Option (Vec Holder) → List Holder
holders_in o = option_map_or (λ (v : Vec Holder). v.items) o []

-- the holders of a unit
abbrev pub at : Units → LockUnit → List Holder
at s u = holders_in (get place_eq s.map (unit_place u))

abbrev pub room_in : Option (Vec Holder) → Bool
room_in o = option_map_or has_room o false

-- whether one more holder of the unit takes no memory
abbrev pub has_room_at : Units → LockUnit → Bool
has_room_at s u = room_in (get place_eq s.map (unit_place u))

abbrev pub name_of : WorkId → ℕ × ℕ × ℕ
name_of W = (W.server.0, W.epoch, W.ticket)

abbrev pub name_eq : ℕ × ℕ × ℕ → ℕ × ℕ × ℕ → Bool
name_eq a b = (nat_eq a.0 b.0 && nat_eq a.1 b.1) && nat_eq a.2 b.2

abbrev pub known : Works → WorkId → Option Work
known s V = get name_eq s.map (name_of V)

abbrev pub standing_in : Option Work → Option Standing
standing_in = option_map (λ (w : Work). w.standing)

abbrev pub standing_of : Works → WorkId → Option Standing
standing_of s V = standing_in (known s V)

abbrev pub units_in : Option Work → List LockUnit
units_in o = option_map_or (λ (w : Work). w.units.items) o []

abbrev pub units_of : Works → WorkId → List LockUnit
units_of s V = units_in (known s V)

-- how many more units of the work take no memory
abbrev pub room_of : Works → WorkId → ℕ
room_of s V = option_map_or (λ (w : Work). vec_capacity w.units - vec_len w.units) (known s V) 0

-- a work that is known becomes prepared
abbrev pub prepared : Option Standing → Option Standing
prepared = option_map (λ (s : Standing). IsPrepared)

abbrev pub table_of : Held → Table
table_of h = record { holds = λ V u m. holds_in (at h.units u) V m; standing = standing_of h.works }

-- each unit that a work holds is among the work's, and each unit has a work once
pub record IsSoundTable (h : Held) : Type 0 where
  pub listed : (V : WorkId) (u : LockUnit) → is_among (at h.units u) V ≡ true → is_unit (units_of h.works V) u ≡ true
  pub once : (u : LockUnit) → each_once (at h.units u) ≡ true
