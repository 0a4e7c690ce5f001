-- A step at a server's place: a call, and what follows it.
use Rattle.jn_place.proofs.Common.{◌≡◌, ℕ, ◌+◌, Bool, true, false, length, Option, Some, None, Ok, Err, is_some, true≢false, refl, sym, subst, arith, Result, OnOk, ServerNo, Collected, Counts, counts_by, PageCounts, StoreView, Place, Restarted, Slot, Up, Down, Gone, Called, Answered, CameUp, LeavesPlace, HoldsUp, Stands, IsPlace, IsDownAt, is_up, is_there}
use Rattle.jn_place.specs.declared.place.Restarted.TheVariants as came
use Rattle.jn_place.proofs.Slots.{stepped-slot}

pub any-ok : {A E : Type 0} (P : Type 0) (answer : Result A E) → P → OnOk answer P
any-ok P (Ok x) h = h
any-ok P (Err e) h = tt

-- what follows a call that was done, or stopped
abbrev pub Follows : {S : Type 0} → (S → StoreView) → ServerNo → Bool → Place S → (ℕ → Type 0) → Type 0
Follows look server done q after = (most : ℕ) → HoldsUp look server (counts_by q.counts) most done q.slot → after most

held-along : {S : Type 0} (look : S → StoreView) (server : ServerNo) (most : ℕ) (done : Bool) (p q : Place S) → q.counts ≡ p.counts → HoldsUp look server (counts_by p.counts) most done q.slot → HoldsUp look server (counts_by q.counts) most done q.slot
held-along look server most done p q same h = subst (λ (k : PageCounts). HoldsUp look server (counts_by k) most done q.slot) (sym same) h

called-left : {S : Type 0} (look : S → StoreView) (server : ServerNo) (most names : ℕ) (done : Bool) (p q : Place S) (after : ℕ → Type 0) → IsPlace look server most p → Called look names done p.slot q.slot → q.counts ≡ p.counts → Follows look server done q after → after (most + names)
called-left look server most names done p q after h called same follows =
    follows (most + names) (held-along look server (most + names) done p q same (stepped-slot look server (counts_by p.counts) most names done p.slot q.slot h.stands called))

-- a call that draws no name
pub quiet-left : {S : Type 0} (look : S → StoreView) (server : ServerNo) (most : ℕ) (done : Bool) (p q : Place S) (after : ℕ → Type 0) → IsPlace look server most p → Called look 0 done p.slot q.slot → q.counts ≡ p.counts → Follows look server done q after → after most
quiet-left look server most done p q after h called same follows =
    let none : most + 0 ≡ most = omega arith in subst after none (called-left look server most 0 done p q after h called same follows)

-- it was done exactly where it is said so
pub follows-as : {S : Type 0} (look : S → StoreView) (server : ServerNo) (done said : Bool) (q : Place S) (after : ℕ → Type 0) → said ≡ done → Follows look server said q after → Follows look server done q after
follows-as look server done said q after same follows = λ most h. follows most (subst (λ (b : Bool). HoldsUp look server (counts_by q.counts) most b q.slot) (sym same) h)

-- a message
pub taken-left : {S : Type 0} (look : S → StoreView) (server : ServerNo) (most : ℕ) (p q r : Place S) (answer : Option Collected) → IsPlace look server most p → Answered look p.slot q.slot answer → q.counts ≡ p.counts → Follows look server (is_some answer) q (λ m. IsPlace look server m r) → LeavesPlace look server most r answer
taken-left look server most p q r None h called same follows = quiet-left look server most false p q (λ m. IsPlace look server m r) h called same follows
taken-left look server most p q r (Some out) h called same follows = (called-left look server most (length out.messages) true p q (λ m. IsPlace look server m r) h called.0 same follows, called.1)

-- ---- up and down

pub held-stands : {S : Type 0} (look : S → StoreView) (server : ServerNo) (g : Counts) (most : ℕ) (done : Bool) (a : Slot S) → done ≡ true → HoldsUp look server g most done a → Stands look server g most a
held-stands {S} look server g most done a e h = by a (subst (λ (b : Bool). HoldsUp look server g most b a) e h)
  where
    by : (a : Slot S) → HoldsUp look server g most true a → Stands look server g most a
    by (Up p) k = k
    by (Down s) k = absurd k
    by Gone k = absurd k

pub stands-down : {S : Type 0} (look : S → StoreView) (server : ServerNo) (g : Counts) (most : ℕ) (a : Slot S) → Stands look server g most a → is_up a ≡ false → IsDownAt look server g a
stands-down look server g most (Up p) h e = absurd (true≢false e)
stands-down look server g most (Down s) h e = h
stands-down look server g most Gone h e = h

down-there : {S : Type 0} (look : S → StoreView) (server : ServerNo) (g : Counts) (a : Slot S) → IsDownAt look server g a → is_there a ≡ true
down-there look server g (Up p) h = absurd h
down-there look server g (Down s) h = refl
down-there look server g Gone h = absurd h

pub down-stands : {S : Type 0} (look : S → StoreView) (server : ServerNo) (g : Counts) (most : ℕ) (a : Slot S) → IsDownAt look server g a → Stands look server g most a
down-stands look server g most (Up p) h = absurd h
down-stands look server g most (Down s) h = h
down-stands look server g most Gone h = h

-- after a restart
pub came-there : {S : Type 0} (look : S → StoreView) (server : ServerNo) (g : Counts) (a : Slot S) (r : Restarted) → CameUp look server g a r → is_there a ≡ true
came-there {S} look server g a (came.Up epoch tids) h = by a h
  where
    by : (a : Slot S) → HoldsUp look server g 0 true a → is_there a ≡ true
    by (Up p) k = refl
    by (Down s) k = refl
    by Gone k = absurd k
came-there look server g a came.Stopped h = down-there look server g a h
came-there look server g a came.UsedUp h = down-there look server g a h

came-stands-by : {S : Type 0} (look : S → StoreView) (server : ServerNo) (g : Counts) (most : ℕ) (a : Slot S) → HoldsUp look server g 0 true a → Stands look server g most a
came-stands-by look server g most (Up p) h = record { its = h.its; counts = h.counts; size = h.size; serves = h.serves; names = λ e. let none = h.names e in omega arith }
came-stands-by look server g most (Down s) h = absurd h
came-stands-by look server g most Gone h = absurd h

pub came-stands : {S : Type 0} (look : S → StoreView) (server : ServerNo) (g : Counts) (most : ℕ) (a : Slot S) (r : Restarted) → CameUp look server g a r → Stands look server g most a
came-stands look server g most a (came.Up epoch tids) h = came-stands-by look server g most a h
came-stands look server g most a came.Stopped h = down-stands look server g most a h
came-stands look server g most a came.UsedUp h = down-stands look server g most a h

-- as many pages as before
pub stands-as : {S : Type 0} (look : S → StoreView) (server : ServerNo) (most : ℕ) (a b : PageCounts) (x : Slot S) → b ≡ a → Stands look server (counts_by a) most x → Stands look server (counts_by b) most x
stands-as look server most a b x same h = subst (λ (k : PageCounts). Stands look server (counts_by k) most x) (sym same) h
