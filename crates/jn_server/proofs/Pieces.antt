-- Pieces of a show, one after another.
use Rattle.jn_server.proofs.Common.{◌≡◌, ◌≢◌, ◌⊎◌, inl, inr, ℕ, ◌+◌, ◌*◌, ◌<◌, ◌≤◌, Bool, true, false, ◌&&◌, ◌||◌, List, [], ◌∷◌, ◌++◌, Option, Some, None, is_some, refl, sym, ◌∙◌, ap, subst, arith, true≢false, append_assoc, nat_lt, length, map, Result, Ok, Err, is_ok, IfErr, OnOk, IsErr, IsErrAnd, nat_tests, append-nil, map-append, FileNo, BlockNo, LockUnit, File, Block, Tid, file_eq, block_eq, file_tells, unit_eq, StableState, commit_holder, IsListing, is_in, StorageView, is_stored, state, BlockRead, stop_since, Printed, print_unit, prints_in, print_one, print_blocks, CallFault, Stopped, NoMemory, Shown, ServerView, IsServer, print_of, one_if, count_of, is_at, to_print, LooksOver, TellsPiece, CutsPiece, block_tells, IsLeastFrom, is_of, TellsBlocks}
use Rattle.jn_base.specs.declared.device.Stopped.{Stopped as Stop}
use Rattle.jn_storage.proofs.Laws.{storage_refl, storage_trans}
use Rattle.jn_server.specs.declared.show.Shown.TheVariants as shown
use Rattle.jn_server.proofs.Serving.{still-serves}
use Rattle.jn_server.proofs.Listed.{ListsBelow, lists-nothing, lists-on, lists-more, lists-all}

-- the first blocks of a file
abbrev pub is_of_first : FileNo → ℕ → LockUnit → Bool
is_of_first f n (File g) = false
is_of_first f n (Block g p) = file_eq g f && nat_lt p.0 n

-- what is of files with lesser numbers
abbrev pub is_of_lesser : ℕ → LockUnit → Bool
is_of_lesser n (File g) = nat_lt g.0 n
is_of_lesser n (Block g p) = nat_lt g.0 n

-- ---- counts

-- two tests of which one unit passes one at most
abbrev pub Joins : (LockUnit → Bool) → (LockUnit → Bool) → (LockUnit → Bool) → Type 0
Joins p q r = (u : LockUnit) → one_if (p u) + one_if (q u) ≤ one_if (r u)

count-join : (p q r : LockUnit → Bool) → Joins p q r → (us : List LockUnit) → count_of p us + count_of q us ≤ count_of r us
count-join p q r h [] = omega arith
count-join p q r h (u ∷ us) = let a = h u in let b = count-join p q r h us in omega (arith, a, b)

one-at-most : (b : Bool) → one_if b ≤ 1
one-at-most true = omega arith
one-at-most false = omega arith

pub count-all : (p : LockUnit → Bool) (us : List LockUnit) → count_of p us ≤ length us
count-all p [] = omega arith
count-all p (u ∷ us) = let a = one-at-most (p u) in let b = count-all p us in omega (arith, a, b)

count-in : (u : LockUnit) (us : List LockUnit) → is_in unit_eq u us ≡ true → 1 ≤ count_of (is_at u) us
count-in u [] h = absurd (true≢false (sym h))
count-in u (x ∷ us) h = by (unit_eq x u) h (count-in u us)
  where
    by : (b : Bool) → (b || is_in unit_eq u us) ≡ true → (is_in unit_eq u us ≡ true → 1 ≤ count_of (is_at u) us) → 1 ≤ one_if b + count_of (is_at u) us
    by true e on = omega arith
    by false e on = let k = on e in omega (arith, k)

pub blocks-join : (f : FileNo) (n : ℕ) (p : BlockNo) → n ≤ p.0 → Joins (is_of_first f n) (is_at (Block f p)) (is_of_first f (p.0 + 1))
blocks-join f n p le (File g) = omega arith
blocks-join f n p le (Block g q) = by (file_eq g f)
  where
    one : (m : ℕ) → one_if (nat_lt m n) + one_if (block_eq (record { 0 = m }) p) ≤ one_if (nat_lt m (p.0 + 1))
    one m = grind (arith, nat_tests, le)

    by : (b : Bool) → one_if (b && nat_lt q.0 n) + one_if (b && block_eq q p) ≤ one_if (b && nat_lt q.0 (p.0 + 1))
    by true = one q.0
    by false = omega arith

-- the first blocks of a file are some of its blocks
pub wider : (f : FileNo) (n : ℕ) (u : LockUnit) → one_if (is_of_first f n u) ≤ one_if (is_of f u)
wider f n (File g) = omega arith
wider f n (Block g p) = by (file_eq g f)
  where
    by : (b : Bool) → one_if (b && nat_lt p.0 n) ≤ one_if b
    by true = one-at-most (nat_lt p.0 n)
    by false = omega arith

pub files-join : (n : ℕ) (f : FileNo) → n ≤ f.0 → Joins (is_of_lesser n) (is_of f) (is_of_lesser (f.0 + 1))
files-join n f le (File g) = one g.0
  where
    one : (m : ℕ) → one_if (nat_lt m n) + 0 ≤ one_if (nat_lt m (f.0 + 1))
    one m = grind (arith, nat_tests, le)
files-join n f le (Block g p) = by (file_tells g f)
  where
    here : one_if (nat_lt f.0 n) + one_if true ≤ one_if (nat_lt f.0 (f.0 + 1))
    here = grind (arith, nat_tests, le)

    apart : (m : ℕ) → one_if (nat_lt m n) + one_if false ≤ one_if (nat_lt m (f.0 + 1))
    apart m = grind (arith, nat_tests, le)

    by : ((file_eq g f ≡ true) × (g ≡ f)) ⊎ ((file_eq g f ≡ false) × (g ≢ f)) → one_if (nat_lt g.0 n) + one_if (file_eq g f) ≤ one_if (nat_lt g.0 (f.0 + 1))
    by (inl t) = subst (λ (c : Bool). one_if (nat_lt g.0 n) + one_if c ≤ one_if (nat_lt g.0 (f.0 + 1))) (sym t.0)
        (subst (λ (h : FileNo). one_if (nat_lt h.0 n) + one_if true ≤ one_if (nat_lt h.0 (f.0 + 1))) (sym t.1) here)
    by (inr t) = subst (λ (c : Bool). one_if (nat_lt g.0 n) + one_if c ≤ one_if (nat_lt g.0 (f.0 + 1))) (sym t.0) (apart g.0)

-- ---- what pieces look at

module _ (p : LockUnit → Bool) where
  pub looks-same : (v : ServerView) → IsServer v → LooksOver p v v
  looks-same v serves = record { found = serves.works.serving.up; later = storage_refl v.storage; calls = λ blocks h. omega arith; tables = refl }

  pub same-state : (v w : ServerView) → LooksOver p v w → state w.storage ≡ state v.storage
  same-state v w f = f.found (λ n. false)

  pub same-prints : (v w : ServerView) → LooksOver p v w → to_print w ≡ to_print v
  same-prints v w f = ap (λ (y : ServerView). prints_in y.worker.table (state w.storage).files) f.tables ∙ ap (λ (s : StableState). prints_in v.worker.table s.files) (same-state v w f)

  -- a piece that reads nothing
  pub tells-nothing : (v : ServerView) → IsServer v → (old : List Shown) → TellsPiece p v old [] v old
  tells-nothing v serves old = record { looks = looks-same v serves; told = sym (append-nil (map print_of old)); accounts = refl; serves = serves; no_stop = refl }

  pub tells-one : (v : ServerView) → IsServer v → (old : List Shown) (x : Shown) (new : List Shown) → new ≡ old ++ x ∷ [] → TellsPiece p v old (print_of x ∷ []) v new
  tells-one v serves old x new e = record { looks = looks-same v serves; told = ap (map print_of) e ∙ map-append print_of old (x ∷ []); accounts = refl; serves = serves; no_stop = refl }

module _ (p q r : LockUnit → Bool) (join : Joins p q r) where
  pub looks-then : (v w x : ServerView) → LooksOver p v w → LooksOver q w x → LooksOver r v x
  looks-then v w x f g = record {
    found = λ c. g.found c ∙ same-state p v w f;
    later = storage_trans v.storage w.storage x.storage f.later g.later;
    calls = λ blocks h.
        let a = f.calls blocks h in
        let b = g.calls blocks (subst (λ (s : StableState). IsListing unit_eq (is_stored s.files) blocks) (sym (same-state p v w f)) h) in
        let k = count-join p q r join blocks in
        omega (arith, a, b, k);
    tables = g.tables ∙ ap (λ (y : ServerView). record y { storage = x.storage }) f.tables;
  }

  pub tells-then : (v : ServerView) (old : List Shown) (a : List Printed) (w : ServerView) (mid : List Shown) (b : List Printed) (x : ServerView) (new : List Shown)
      → TellsPiece p v old a w mid → TellsPiece q w mid b x new → TellsPiece r v old (a ++ b) x new
  tells-then v old a w mid b x new f g = record {
    looks = looks-then v w x f.looks g.looks;
    told = g.told ∙ ap (λ (l : List Printed). l ++ b) f.told ∙ append_assoc (map print_of old) a b;
    accounts = g.accounts ∙ f.accounts;
    serves = g.serves;
    no_stop = g.no_stop ∙ f.no_stop;
  }

  pub cut-then : (v : ServerView) (old : List Shown) (a : List Printed) (w : ServerView) (mid : List Shown) (x : ServerView)
      → TellsPiece p v old a w mid → (fault : CallFault) → CutsPiece fault q w x → CutsPiece fault r v x
  cut-then v old a w mid x f Stopped g = record {
    looks = looks-then v w x f.looks g.looks;
    stop = stop_since v.storage.store w.storage.store x.storage.store f.looks.later.store g.looks.later.store g.stop;
  }
  cut-then v old a w mid x f NoMemory g = tt

-- an error tells nothing
pub no-show : {A E : Type 0} (P : Type 0) (answer : Result A E) → IsErr answer → OnOk answer P
no-show P (Ok x) h = absurd (cc h)
no-show P (Err e) h = tt

pub on-ok : {A E : Type 0} (P Q : Type 0) (answer : Result A E) → OnOk answer P → (P → Q) → OnOk answer Q
on-ok P Q (Ok x) h f = f h
on-ok P Q (Err e) h f = tt

pub ok-with : {A E : Type 0} (answer : Result A E) (x y : A) → answer ≡ Ok x → x ≡ y → answer ≡ Ok y
ok-with answer x y h e = cc

pub not-ok : {A E : Type 0} (answer : Result A E) (e : E) → answer ≡ Err e → is_ok answer ≡ false
not-ok answer e h = ap is_ok h

-- a fault that is handed on
pub handed-on : {A : Type 0} (test : LockUnit → Bool) (v w : ServerView) (fault : CallFault) (answer : Result A CallFault) → IsErr answer → IsErrAnd answer (λ e. e ≡ fault) → CutsPiece fault test v w → IfErr answer (λ e. CutsPiece e test v w)
handed-on test v w fault (Ok x) h is k = tt
handed-on test v w fault (Err e) h is k = subst (λ (z : CallFault). CutsPiece z test v w) (sym is) k

-- without memory
pub no-memory : {A : Type 0} (test : LockUnit → Bool) (v w : ServerView) (answer : Result A CallFault) → IsErr answer → IsErrAnd answer (λ e. e ≡ NoMemory) → IfErr answer (λ fault. CutsPiece fault test v w)
no-memory test v w (Ok x) h is = tt
no-memory test v w (Err e) h is = subst (λ (z : CallFault). CutsPiece z test v w) (sym is) tt

-- ---- a block

module _ (v w : ServerView) (serves : IsServer v) (f : FileNo) (p : BlockNo) (answer : Result (Option (List ℕ)) Stop) (h : BlockRead v.storage f p answer w.storage)
    (unasked : (state v.storage).files (Block f p) ≡ None → w.storage ≡ v.storage) (tables : w ≡ record v { storage = w.storage }) where
  read-looks : LooksOver (is_at (Block f p)) v w
  read-looks = record {
    found = h.unchanged;
    later = h.called.later;
    calls = λ blocks l. by blocks l ((state v.storage).files (Block f p)) refl;
    tables = tables;
  }
    where
      by : (blocks : List LockUnit) → IsListing unit_eq (is_stored (state v.storage).files) blocks → (o : Option (List ℕ)) → (state v.storage).files (Block f p) ≡ o
          → w.storage.store.calls ≤ v.storage.store.calls + 24 * count_of (is_at (Block f p)) blocks
      by blocks l None e = let same : w.storage.store.calls ≡ v.storage.store.calls = ap (λ (s : StorageView). s.store.calls) (unasked e) in omega (arith, same)
      by blocks l (Some x) e = let k = count-in (Block f p) blocks (l.all (Block f p) ∙ ap is_some e) in let c = h.called.calls in omega (arith, k, c)

  read-serves : is_ok answer ≡ true → IsServer w
  read-serves e = subst IsServer (sym tables) (still-serves v w.storage (h.unchanged (λ n. false)) (h.same e) (h.called.serving e) serves)

  -- the block is stored, or it isn't
  pub tells-page : (bytes : List ℕ) → answer ≡ Ok (Some bytes) → commit_holder (Block f p) v.worker.table ≡ None → (old new : List Shown) → new ≡ old ++ shown.Page f p bytes ∷ []
      → TellsPiece (is_at (Block f p)) v old (print_one (to_print v (Block f p))) w new
  tells-page bytes is free old new e = record {
    looks = read-looks;
    told = ap (map print_of) e ∙ map-append print_of old (shown.Page f p bytes ∷ []) ∙ ap (λ (o : Option Printed). map print_of old ++ print_one o) (sym (ap (λ (o : Option Tid). print_unit (Block f p) o ((state v.storage).files (Block f p))) free ∙ ap (print_unit (Block f p) None) (sym (h.found (Some bytes) is))));
    accounts = h.same (ap is_ok is);
    serves = read-serves (ap is_ok is);
    no_stop = h.called.no_stop (ap is_ok is);
  }

  pub read-cut : (fault : CallFault) → is_ok answer ≡ false → fault ≡ Stopped → CutsPiece fault (is_at (Block f p)) v w
  read-cut fault stops e = rw e (record { looks = read-looks; stop = h.called.stop stops })

-- a unit that is held for commit
pub tells-locked : (test : LockUnit → Bool) (v : ServerView) → IsServer v → (u : LockUnit) (T : Tid) → commit_holder u v.worker.table ≡ Some T → (old new : List Shown) → new ≡ old ++ shown.Locked u T ∷ []
    → TellsPiece test v old (print_one (to_print v u)) v new
tells-locked test v serves u T held old new e = subst (λ (o : Option Tid). TellsPiece test v old (print_one (print_unit u o ((state v.storage).files u))) v new) (sym held) (tells-one test v serves old (shown.Locked u T) new e)

-- ---- blocks

pub print_blocks-more : (prints : LockUnit → Option Printed) (f : FileNo) (ps : List BlockNo) (p : BlockNo) → print_blocks prints f (ps ++ p ∷ []) ≡ print_blocks prints f ps ++ print_one (prints (Block f p))
print_blocks-more prints f [] p = append-nil (print_one (prints (Block f p)))
print_blocks-more prints f (q ∷ ps) p = ap (λ (l : List Printed). print_one (prints (Block f q)) ++ l) (print_blocks-more prints f ps p) ∙ sym (append_assoc (print_one (prints (Block f q))) (print_blocks prints f ps) (print_one (prints (Block f p))))

-- the blocks of a file below a number are told
pub record BlocksTold (v : ServerView) (f : FileNo) (old : List Shown) (n : ℕ) (w : ServerView) (new : List Shown) : Type 0 where
  pub blocks : List BlockNo
  pub lists : ListsBelow block_eq (λ p. p.0) (λ p. to_print v (Block f p)) n blocks
  pub tells : TellsPiece (is_of_first f n) v old (print_blocks (to_print v) f blocks) w new

same-block : (p q : BlockNo) → p.0 ≡ q.0 → p ≡ q
same-block p q e = ap (λ (n : ℕ). let h : BlockNo = record { 0 = n } in h) e

module _ (v : ServerView) (f : FileNo) (old : List Shown) where
  abbrev its : BlockNo → Option Printed
  its p = to_print v (Block f p)

  pub no-blocks : IsServer v → BlocksTold v f old 0 v old
  no-blocks serves = record { blocks = []; lists = lists-nothing block_eq (λ p. p.0) block_tells same-block its; tells = tells-nothing (is_of_first f 0) v serves old }

  module _ (n : ℕ) (w : ServerView) (mid : List Shown) (h : BlocksTold v f old n w mid) where
    blocks-on : to_print w ≡ to_print v
    blocks-on = same-prints (is_of_first f n) v w h.tells.looks

    module _ (p : BlockNo) (next : IsLeastFrom (λ (q : BlockNo). q.0) (λ q. is_some (to_print w (Block f q))) n p) where
      next-block : IsLeastFrom (λ (q : BlockNo). q.0) (λ q. is_some (its q)) n p
      next-block = subst (λ (prints : LockUnit → Option Printed). IsLeastFrom (λ (q : BlockNo). q.0) (λ q. is_some (prints (Block f q))) n p) blocks-on next

      pub more-blocks : (x : ServerView) (new : List Shown) → TellsPiece (is_at (Block f p)) w mid (print_one (to_print w (Block f p))) x new → BlocksTold v f old (p.0 + 1) x new
      more-blocks x new k = record {
        blocks = h.blocks ++ p ∷ [];
        lists = lists-more block_eq (λ q. q.0) block_tells same-block its p h.blocks (lists-on block_eq (λ q. q.0) block_tells same-block its n p.0 h.blocks h.lists next-block.from_there next-block.least) next-block.here;
        tells = subst (λ (l : List Printed). TellsPiece (is_of_first f (p.0 + 1)) v old l x new) (sym (print_blocks-more (to_print v) f h.blocks p))
            (tells-then (is_of_first f n) (is_at (Block f p)) (is_of_first f (p.0 + 1)) (blocks-join f n p next-block.from_there) v old (print_blocks (to_print v) f h.blocks) w mid (print_one (its p)) x new h.tells
            (subst (λ (prints : LockUnit → Option Printed). TellsPiece (is_at (Block f p)) w mid (print_one (prints (Block f p))) x new) blocks-on k));
      }

      pub cut-blocks : (x : ServerView) (fault : CallFault) → CutsPiece fault (is_at (Block f p)) w x → CutsPiece fault (is_of f) v x
      cut-blocks x fault k = cut-then (is_of_first f n) (is_at (Block f p)) (is_of f) join v old (print_blocks (to_print v) f h.blocks) w mid x h.tells fault k
        where
          join : Joins (is_of_first f n) (is_at (Block f p)) (is_of f)
          join u = let a = blocks-join f n p next-block.from_there u in let b = wider f (p.0 + 1) u in omega (arith, a, b)

    pub all-blocks : ((p : BlockNo) → is_some (to_print w (Block f p)) ≡ true → p.0 < n) → TellsBlocks v f old w mid
    all-blocks end = record {
      blocks = h.blocks;
      are = lists-all block_eq (λ p. p.0) block_tells same-block its n h.blocks h.lists (subst (λ (prints : LockUnit → Option Printed). (p : BlockNo) → is_some (prints (Block f p)) ≡ true → p.0 < n) blocks-on end);
      tells = subst (λ (l : List Printed). TellsPiece (is_of f) v old l w mid) (append-nil (print_blocks (to_print v) f h.blocks))
          (tells-then (is_of_first f n) (λ u. false) (is_of f) join v old (print_blocks (to_print v) f h.blocks) w mid [] w mid h.tells (tells-nothing (λ u. false) w h.tells.serves mid));
    }
      where
        join : Joins (is_of_first f n) (λ u. false) (is_of f)
        join u = let b = wider f n u in omega (arith, b)
