-- What a change of one entry makes of the maps.
use Rattle.jn_locks.proofs.Common.{◌≡◌, ◌≢◌, ◌⊎◌, inl, inr, ℕ, Bool, true, false, Option, Result, Ok, Err, refl, sym, ◌∙◌, ap, arith, if◌then◌else◌, OnErr, Vec, WorkId, LockUnit, File, Block, work_eq, work_tells, Holder, unit_eq, unit_place, place_eq, name_of, name_eq}
use Rattle.std.specs.HashMap.{HashMap, get, Updates}
use Rattle.jn_locks.proofs.Orders.{unit_tells}
use Rattle.jn_locks.specs.declared.works.Work.{Work}

pub place_eq_is : (u v : LockUnit) → place_eq (unit_place u) (unit_place v) ≡ unit_eq u v
place_eq_is (File f) (File g) = grind arith
place_eq_is (File f) (Block g q) = grind arith
place_eq_is (Block f p) (File g) = grind arith
place_eq_is (Block f p) (Block g q) = grind arith

pub name_eq_is : (V W : WorkId) → name_eq (name_of V) (name_of W) ≡ work_eq V W
name_eq_is V W = grind arith

pub on_err : {T E : Type 0} {P : Type 0} (r : Result T E) → P → OnErr r P
on_err (Ok v) p = tt
on_err (Err e) p = p

pub twice : {A : Type 0} (x y z : A) (b : Bool) → y ≡ (if b then x else z) → (if b then x else y) ≡ (if b then x else z)
twice x y z true e = refl
twice x y z false e = e

-- an entry that is asked for by its name
module _ {K A X : Type 0} (eq : K → K → Bool) (at : A → K) (same : A → A → Bool) (is_same : (a b : A) → eq (at a) (at b) ≡ same a b)
    (tells : (a b : A) → ((same a b ≡ true) × (a ≡ b)) ⊎ ((same a b ≡ false) × (a ≢ b))) where
  pub entry_after : {S Y : Type 0} (f : Option X → Y) (m n : HashMap K X S) (a : A) (k : K) → k ≡ at a → (o : Option X) → Updates eq m n k o
      → (b : A) → f (get eq n (at b)) ≡ (if same a b then f o else f (get eq m (at b)))
  entry_after {Y = Y} f m n a k is_name o h b = ap f (h.0 (at b)) ∙ by (eq k (at b)) (rw is_name (is_same a b))
    where
      by : (c : Bool) → c ≡ same a b → f (if c then o else get eq m (at b)) ≡ (if same a b then f o else f (get eq m (at b)))
      by true e = rw (← e) refl
      by false e = rw (← e) refl

  -- what is the same of the old entry and the new
  pub entry_kept : {S Y : Type 0} (f : Option X → Y) (m n : HashMap K X S) (a : A) (k : K) → k ≡ at a → (o : Option X) → Updates eq m n k o
      → f o ≡ f (get eq m (at a)) → (b : A) → f (get eq n (at b)) ≡ f (get eq m (at b))
  entry_kept f m n a k is_name o h e b = entry_after f m n a k is_name o h b ∙ by (tells a b)
    where
      by : (((same a b ≡ true) × (a ≡ b)) ⊎ ((same a b ≡ false) × (a ≢ b))) → (if same a b then f o else f (get eq m (at b))) ≡ f (get eq m (at b))
      by (inl p) = rw p.0 (e ∙ ap (λ (x : A). f (get eq m (at x))) p.1)
      by (inr p) = rw p.0 refl

  -- an entry that was found by its name
  pub entry_at : {S : Type 0} (m : HashMap K X S) (a : A) (k : K) → k ≡ at a → (o : Option X) → o ≡ get eq m k → get eq m (at a) ≡ o
  entry_at m a k is_name o h = rw (← is_name) (sym h)

-- the entries of works
module _ {S : Type 0} (m : HashMap (ℕ × ℕ × ℕ) Work S) (W : WorkId) (k : ℕ × ℕ × ℕ) (is_name : k ≡ name_of W) where
  pub work_at : (o : Option Work) → o ≡ get name_eq m k → get name_eq m (name_of W) ≡ o
  work_at = entry_at name_eq name_of work_eq name_eq_is work_tells m W k is_name

  module _ {Y : Type 0} (f : Option Work → Y) (n : HashMap (ℕ × ℕ × ℕ) Work S) (o : Option Work) (h : Updates name_eq m n k o) where
    pub work_after : (x : Y) → f o ≡ x → (V : WorkId) → f (get name_eq n (name_of V)) ≡ (if work_eq W V then x else f (get name_eq m (name_of V)))
    work_after x e V = rw (← e) (entry_after name_eq name_of work_eq name_eq_is work_tells f m n W k is_name o h V)

    pub work_kept : f o ≡ f (get name_eq m (name_of W)) → (V : WorkId) → f (get name_eq n (name_of V)) ≡ f (get name_eq m (name_of V))
    work_kept = entry_kept name_eq name_of work_eq name_eq_is work_tells f m n W k is_name o h

-- the entries of units
module _ {S : Type 0} (m : HashMap (ℕ × Option ℕ) (Vec Holder) S) (u : LockUnit) (k : ℕ × Option ℕ) (is_place : k ≡ unit_place u) where
  pub unit_at : (o : Option (Vec Holder)) → o ≡ get place_eq m k → get place_eq m (unit_place u) ≡ o
  unit_at = entry_at place_eq unit_place unit_eq place_eq_is unit_tells m u k is_place

  module _ {Y : Type 0} (f : Option (Vec Holder) → Y) (n : HashMap (ℕ × Option ℕ) (Vec Holder) S) (o : Option (Vec Holder)) (h : Updates place_eq m n k o) where
    pub unit_after : (x : Y) → f o ≡ x → (v : LockUnit) → f (get place_eq n (unit_place v)) ≡ (if unit_eq u v then x else f (get place_eq m (unit_place v)))
    unit_after x e v = rw (← e) (entry_after place_eq unit_place unit_eq place_eq_is unit_tells f m n u k is_place o h v)

    pub unit_kept : f o ≡ f (get place_eq m (unit_place u)) → (v : LockUnit) → f (get place_eq n (unit_place v)) ≡ f (get place_eq m (unit_place v))
    unit_kept = entry_kept place_eq unit_place unit_eq place_eq_is unit_tells f m n u k is_place o h

-- a test of the entries that holds at the changed one if it did
module _ {S : Type 0} (test : Option (Vec Holder) → Bool) (m n : HashMap (ℕ × Option ℕ) (Vec Holder) S) (u : LockUnit) (k : ℕ × Option ℕ) (is_place : k ≡ unit_place u) (o : Option (Vec Holder)) (h : Updates place_eq m n k o) where
  pub unit_stays : (test (get place_eq m (unit_place u)) ≡ true → test o ≡ true) → (v : LockUnit) → test (get place_eq m (unit_place v)) ≡ true → test (get place_eq n (unit_place v)) ≡ true
  unit_stays e v held = entry_after place_eq unit_place unit_eq place_eq_is unit_tells test m n u k is_place o h v ∙ by (unit_tells u v)
    where
      by : (((unit_eq u v ≡ true) × (u ≡ v)) ⊎ ((unit_eq u v ≡ false) × (u ≢ v))) → (if unit_eq u v then test o else test (get place_eq m (unit_place v))) ≡ true
      by (inl p) = rw p.0 (e (rw p.1 held))
      by (inr p) = rw p.0 held
