-- What is free on the pages of a server is what its books say, and any lists of what the books hold say the same.
use Rattle.jn_node_laws.proofs.Common.{◌≡◌, ℕ, ◌+◌, ◌-◌, Bool, true, length, Option, Some, None, is_some, refl, sym, ◌∙◌, ap, arith, if◌then◌else◌, nat_lt, count_by, WorkId, file_eq, tid_eq, unit_eq, work_eq, file_tells, tid_tells, work_tells, heads_on, pool_on, Counts, promised, quiet, StableState, Prepared, going_row, going_work, Work, promised_heads, standing_pages, Room, of_step, server_row, server_step, storage_of, Memory, Running, state_of, beside_at, room_on, IsMoment, Message, step_of, row_for, AreNamed, ServerNo, unit_tells, intentions_of, maps_in, has_rubbish, file_there, list_of, has_map, is_stored, map_eq, AreListed, Books, pages_used, records_used, room_by, row_by, step_by, map_tells}
use Rattle.jn_records.specs.Heads.{is_free}
use Rattle.jn_sets.specs.Pool.{free_count, is_rubbish}
use Rattle.jn_worker.specs.Calls.{pages_named}
use Rattle.jn_intent.proofs.Numbers.{listing_length}
use Rattle.jn_node_laws.proofs.Lists.{any-counted, same-total}
use Rattle.jn_node_laws.proofs.Rows.{AllWhole}

-- the books of a server that is up
abbrev pub books_of : Counts → Running → Books
books_of g x = record { memory = x.memory; found = state_of g x; beside = beside_at g x }

-- ---- two lists of what the books hold

module _ (g : Counts) (b : Books) (l k : AreListed b) where
  pub one-room : room_by g b k ≡ room_by g b l
  one-room = λ i. record {
    free = record {
      records = g.pool - records i - promised b.memory.coordinator.transactions;
      heads = g.heads - files i - promised_heads b.found b.memory.worker;
      pages = g.leaves - pages i;
    };
    maps = b.beside.maps;
    rubbish = nat_lt 0 b.beside.rubbish;
  }
    where
      works : length k.works ≡ length l.works
      works = listing_length work_eq work_tells (λ W. is_some (b.found.works W)) k.works l.works k.works_all l.works_all

      files : length k.files ≡ length l.files
      files = listing_length file_eq file_tells (file_there b.found.files) k.files l.files k.files_all l.files_all

      records : records_used b k ≡ records_used b l
      records =
          let flags = listing_length tid_eq tid_tells (λ T. is_some (b.found.flags T)) k.flags l.flags k.flags_all l.flags_all in
          let lists = same-total work_eq work_tells (λ W. length (list_of b.found W)) (λ W. length (list_of b.found W)) (λ W. is_some (b.found.works W)) k.works l.works k.works_all l.works_all
          (λ W h. refl) in
          omega (arith, works, flags, lists)

      pages : pages_used b k ≡ pages_used b l
      pages =
          let blocks = listing_length unit_eq unit_tells (is_stored b.found.files) k.blocks l.blocks k.blocks_all l.blocks_all in
          let maps = listing_length map_eq map_tells (has_map b.beside.maps) k.maps l.maps k.maps_all l.maps_all in
          let named = same-total work_eq work_tells (λ W. pages_named (list_of b.found W) (b.beside.supplied W)) (λ W. pages_named (list_of b.found W) (b.beside.supplied W))
          (λ W. is_some (b.found.works W)) k.works l.works k.works_all l.works_all (λ W h. refl) in
          omega (arith, blocks, maps, named)

  pub one-row : (m : Message) → row_by g b k m ≡ row_by g b l m
  one-row m = ap (λ (r : Room). server_row b.memory b.found r m) one-room

  pub one-step : step_by g b k ≡ step_by g b l
  one-step = ap (λ (r : Room). server_step b.memory b.found r) one-room

-- ---- the pages of a server

some-is : (o : Option Prepared) → is_some o ≡ true → (p : Prepared) × (o ≡ Some p)
some-is None h = absurd (cc h)
some-is (Some p) h = (p, refl)

all-but : (free a b c r pool : ℕ) → free + a + b + c + r ≡ pool → free ≡ pool - (a + b + c + r)
all-but free a b c r pool e = omega (arith, e)

one-but : (free a pool : ℕ) → free + a ≡ pool → free ≡ pool - a
one-but free a pool e = omega (arith, e)

three-but : (free a b h k pool : ℕ) → free + a + b + h ≡ pool → h ≡ k → free ≡ pool - (a + b + k)
three-but free a b h k pool e f = omega (arith, e, f)

-- a step looks at nothing of the room but at the rubbish
by-rubbish : (m : Memory) (z : StableState) (room more : Room) → more.rubbish ≡ room.rubbish → server_step m z more ≡ server_step m z room
by-rubbish m z room more e = by (going_work z m.worker)
  where
    by : (o : Option Work) → of_step m (going_row m.worker (storage_of m z more) m.tickets o) ≡ of_step m (going_row m.worker (storage_of m z room) m.tickets o)
    by (Some w) = refl
    by None = ap (λ (b : Bool). of_step m (if b then Some (quiet m.worker m.tickets) else None)) e

module _ (s : ServerNo) (g : Counts) (x : Running) (m : IsMoment s g x) where
  abbrev pub listed-on : AreListed (books_of g x)
  listed-on = let c = m.counted in let p = m.pages in record {
    works = c.works;
    flags = c.flags;
    files = c.files;
    blocks = p.blocks;
    maps = p.maps;
    works_all = c.works_all;
    flags_all = c.flags_all;
    files_all = c.files_all;
    blocks_all = p.blocks_all;
    maps_all = p.maps_all;
  }

  rubbish-is : has_rubbish (pool_on g (standing_pages x.store)) ≡ nat_lt 0 (beside_at g x).rubbish
  rubbish-is = any-counted (is_rubbish (pool_on g (standing_pages x.store))) (pool_on g (standing_pages x.store))

  pub step-is : step_of g x ≡ step_by g (books_of g x) listed-on
  step-is = by-rubbish x.memory (state_of g x) (room_by g (books_of g x) listed-on) (room_on g x) rubbish-is

  -- with no part carried out
  module _ (named : AreNamed (state_of g x).epoch x.memory (state_of g x)) (whole : AllWhole x.memory.next) where
    held-is : (W : WorkId) → is_some ((state_of g x).works W) ≡ true → x.held W ≡ pages_named (list_of (state_of g x) W) ((beside_at g x).supplied W)
    held-is W h = let (p, e) = some-is ((state_of g x).works W) h in
        m.held W p e (named.prepared W h) (whole W) ∙ ap (λ (o : Option Prepared). pages_named (intentions_of o) ((beside_at g x).supplied W)) (sym e)

    room-is : room_on g x ≡ room_by g (books_of g x) listed-on
    room-is = λ i. record {
      free = record {
        records = records i - promised x.memory.coordinator.transactions;
        heads = heads i - promised_heads (state_of g x) x.memory.worker;
        pages = pages i;
      };
      maps = maps_in (heads_on g (standing_pages x.store));
      rubbish = rubbish-is i;
    }
      where
        records : free_count (pool_on g (standing_pages x.store)) ≡ g.pool - records_used (books_of g x) listed-on
        records = let c = m.counted in all-but _ _ _ _ _ _ c.records_all

        heads : count_by is_free (heads_on g (standing_pages x.store)) ≡ g.heads - length listed-on.files
        heads = let c = m.counted in one-but _ _ _ c.heads_all

        pages : (room_on g x).free.pages ≡ g.leaves - pages_used (books_of g x) listed-on
        pages = let c = m.counted in let p = m.pages in three-but _ _ _ _ _ _ p.pages_all
            (same-total work_eq work_tells x.held (λ W. pages_named (list_of (state_of g x) W) ((beside_at g x).supplied W)) (λ W. is_some ((state_of g x).works W)) p.works c.works
            p.works_all c.works_all held-is)

    pub row-is : (message : Message) → row_for g x message ≡ row_by g (books_of g x) listed-on message
    row-is message = ap (λ (r : Room). server_row x.memory (state_of g x) r message) room-is
