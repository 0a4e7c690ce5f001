-- How a server's place goes on from step to step.
use Rattle.jn_place.proofs.Common.{◌≡◌, ◌≤◌, ℕ, ◌+◌, Bool, true, false, true≢false, refl, sym, ◌∙◌, ap, subst, arith, ServerNo, Tickets, IsRecoverable, counts_in, Collected, Memory, Counts, RowOutcome, IsDone, IsStopped, IsRestarted, Found, ServerView, view_with, Accounts, StoreView, Slot, Up, Down, Gone, Serves, IsCalled, Called, IsHeld, HoldsUp, Stands, HasPages, is_up, is_there}

-- ---- calls

same-counts : (a b : Accounts) → b.pool ≡ a.pool → b.heads ≡ a.heads → b.leaves ≡ a.leaves → counts_in b ≡ counts_in a
same-counts a b pool heads leaves = cc

pub stepped : (server : ServerNo) (g : Counts) (most names : ℕ) (done : Bool) (v w : ServerView) → IsHeld server g most true v → IsCalled names done v w → IsHeld server g (most + names) done w
stepped server g most names done v w h c = record {
  its = c.later.server ∙ h.its;
  counts = same-counts v.storage.accounts w.storage.accounts c.later.pool c.later.heads c.later.leaves ∙ h.counts;
  size = h.size ∙ sym c.later.store.count;
  serves = c.serves;
  names = λ e. let drawn = c.drawn e in let before = h.names refl in omega arith;
}

pub stepped-slot : {S : Type 0} (look : S → StoreView) (server : ServerNo) (g : Counts) (most names : ℕ) (done : Bool) (a b : Slot S) → Stands look server g most a → Called look names done a b → HoldsUp look server g (most + names) done b
stepped-slot look server g most names done (Up p) (Up q) h c = stepped server g most names done (view_with look p) (view_with look q) h c
stepped-slot look server g most names done (Up p) (Down s) h c = absurd c
stepped-slot look server g most names done (Up p) Gone h c = absurd c
stepped-slot look server g most names done (Down s) b h c = absurd c
stepped-slot look server g most names done Gone b h c = absurd c

pub serves-here : {S : Type 0} (look : S → StoreView) (server : ServerNo) (g : Counts) (most : ℕ) (a : Slot S) → Stands look server g most a → is_up a ≡ true → Serves look most a
serves-here look server g most (Up p) h e = (h.serves refl, h.names refl)
serves-here look server g most (Down s) h e = absurd (true≢false (sym e))
serves-here look server g most Gone h e = absurd h

-- ---- rows

-- a row that is done
pub done-called : (most names : ℕ) (row : RowOutcome Memory) (v : ServerView) (before : Collected) (w : ServerView) (after : Collected) → IsDone most row v before w after → row.table.tickets.next ≤ v.tickets.next + names → IsCalled names true v w
done-called most names row v before w after d drawn = record {
  later = d.later;
  serves = λ e. d.serves;
  drawn = λ e. subst (λ (k : Tickets). k.next ≤ v.tickets.next + names) (sym (ap (λ (m : Memory). m.tickets) d.memory)) drawn;
}

pub stopped-called : (most names : ℕ) (row : RowOutcome Memory) (v : ServerView) (before : Collected) (w : ServerView) (after : Collected) → IsStopped most row v before w after → IsCalled names false v w
stopped-called most names row v before w after d = record { later = d.later; serves = λ e. absurd (true≢false (sym e)); drawn = λ e. absurd (true≢false (sym e)) }

-- ---- restarts

parts : (a : Accounts) (g : Counts) → a.pool ≡ g.pool → a.heads ≡ g.heads → a.leaves ≡ g.leaves → counts_in a ≡ g
parts a g pool heads leaves =
    ap (λ (k : ℕ). record { pool = k; heads = a.heads; leaves = a.leaves }) pool
    ∙ ap (λ (k : ℕ). record { pool = g.pool; heads = k; leaves = a.leaves }) heads
    ∙ ap (λ (k : ℕ). record { pool = g.pool; heads = g.heads; leaves = k }) leaves

pub restarted-held : (server : ServerNo) (g : Counts) (v : StoreView) (told : Found) (w : ServerView) → IsRecoverable server g v → IsRestarted server g v told w → IsHeld server g 0 true w
restarted-held server g v told w before r = record {
  its = r.loaded.server_is;
  counts = by-parts r.loaded.pool r.loaded.heads r.loaded.leaves;
  size = r.loaded.recovering.recoverable.count;
  serves = λ e. r.serves;
  names = λ e. let none = ap (λ (m : Memory). m.tickets.next) r.remembers in omega arith;
}
  where
    by-parts : w.storage.accounts.pool ≡ g.pool → w.storage.accounts.heads ≡ g.heads → w.storage.accounts.leaves ≡ g.leaves → counts_in w.storage.accounts ≡ g
    by-parts pool heads leaves = parts w.storage.accounts g pool heads leaves

pub has-pages : {S : Type 0} (look : S → StoreView) (server : ServerNo) (g : Counts) (most : ℕ) (a : Slot S) → Stands look server g most a → HasPages look g a
has-pages look server g most (Up p) h = h.size
has-pages look server g most (Down s) h = h.count
has-pages look server g most Gone h = h

pub stands-there : {S : Type 0} (look : S → StoreView) (server : ServerNo) (g : Counts) (most : ℕ) (a : Slot S) → Stands look server g most a → is_there a ≡ true
stands-there look server g most (Up p) h = refl
stands-there look server g most (Down s) h = refl
stands-there look server g most Gone h = absurd h
