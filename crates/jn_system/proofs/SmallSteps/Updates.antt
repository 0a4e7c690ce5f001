-- Tables changed at one name, and small facts that the steps use.
use Rattle.jn_system.proofs.Common.{◌≡◌, ◌≢◌, ◌⊎◌, Bool, true, false, Option, Some, None, is_some, refl, arith, ServerNo, Tid, WorkId, server_eq, tid_tells, work_tells, at_work, at_tid}

pub unless : (x b : Bool) → (x ≡ true → b ≡ false) → b ≡ true → x ≡ false
unless x b h t = grind arith

pub none_unless : {A : Type 0} → (x : Option A) → ((p : A) → x ≡ Some p → ⊥) → x ≡ None
none_unless None h = refl
none_unless (Some p) h = absurd (h p refl)

pub false_unless : (b : Bool) → (b ≡ true → ⊥) → b ≡ false
false_unless b h = grind arith

pub not_both : (b : Bool) → b ≡ true → b ≡ false → ⊥
not_both b t f = grind arith

pub at_work_here : {A : Type 0} → (f : WorkId → A) (W : WorkId) (x : A) → at_work f W x W ≡ x
at_work_here f W x = grind (arith, work_tells)

pub at_work_other : {A : Type 0} → (f : WorkId → A) (W : WorkId) (x : A) (V : WorkId) → W ≢ V → at_work f W x V ≡ f V
at_work_other f W x V ne = grind (arith, work_tells)

pub at_work_cases : {A : Type 0} → (f : WorkId → A) (W : WorkId) (x : A) (V : WorkId) (y : A) → at_work f W x V ≡ y → ((W ≡ V) × (x ≡ y)) ⊎ ((W ≢ V) × (f V ≡ y))
at_work_cases f W x V y e = grind (arith, work_tells)

pub at_tid_here : {A : Type 0} → (f : Tid → A) (W : Tid) (x : A) → at_tid f W x W ≡ x
at_tid_here f W x = grind (arith, tid_tells)

pub at_tid_other : {A : Type 0} → (f : Tid → A) (W : Tid) (x : A) (V : Tid) → W ≢ V → at_tid f W x V ≡ f V
at_tid_other f W x V ne = grind (arith, tid_tells)

pub at_tid_cases : {A : Type 0} → (f : Tid → A) (W : Tid) (x : A) (V : Tid) (y : A) → at_tid f W x V ≡ y → ((W ≡ V) × (x ≡ y)) ⊎ ((W ≢ V) × (f V ≡ y))
at_tid_cases f W x V y e = grind (arith, tid_tells)

pub some_is : {A : Type 0} → (a b : A) → Some a ≡ Some b → a ≡ b
some_is a b e = cc

-- a register that a list writes, with what it writes
pub some_of : {A : Type 0} → (x : Option A) → is_some x ≡ true → (y : A) × (x ≡ Some y)
some_of None h = absurd (not_both false h refl)
some_of (Some y) h = (y, refl)

-- an option that isn't there
pub none_of : {A : Type 0} → (x : Option A) → is_some x ≡ false → x ≡ None
none_of x h = grind arith

pub clash : {A : Type 0} → (x : Option A) (p : A) → x ≡ Some p → x ≡ None → ⊥
clash x p e n = grind arith

pub some_none : {A : Type 0} → (x : Option A) → is_some x ≡ true → x ≡ None → ⊥
some_none x h e = grind arith

pub none_some : {A : Type 0} → (a : A) → None ≡ Some a → ⊥
none_some a e = cc

-- whether two servers are the same
abbrev pub TellsServer : ServerNo → ServerNo → Type 0
TellsServer s q = ((server_eq s q ≡ true) × (s ≡ q)) ⊎ ((server_eq s q ≡ false) × (s ≢ q))
