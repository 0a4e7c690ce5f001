-- A server that comes up on the pages of a sound image has its first books, which are the same on all disks of that image.
use Rattle.jn_node_laws.proofs.Common.{◌≡◌, ℕ, ◌<◌, ◌+◌, ◌*◌, Bool, true, false, List, [], ◌∷◌, Option, is_some, refl, sym, ◌∙◌, ap, subst, arith, true≢false, ◌/◌, ◌||◌, if◌then◌else◌, nat_lt, list_any, nat_tests, ServerNo, Tid, WorkId, tid_eq, work_eq, tid_tells, work_tells, DeviceState, AreSound, HasPages, files_in, image_of, found_on, half_of, pages_by, Counts, Pages, page_count, Pick, StableState, beside_on, Tells, pairs_view, restored, with_epoch, Running, state_of, IsOpen, AreAlike, AreNamed, half_at, IsFresh, IsStoreOf, only_files, standing_pages, beside_at, Books, first_books}
use Rattle.std.proofs.Math.Path.{fun_ext}
use Rattle.jn_device.specs.declared.Half.{Half}
use Rattle.jn_locks.specs.Locks.{work_before}
use Rattle.jn_page_state.specs.Pages as stands
use Rattle.jn_page_state.proofs.ImageStates.{image_fresh}
use Rattle.jn_system.specs.WholeSystem.Steps.{AreNames, tid_before}
use Rattle.jn_node_laws.proofs.Lists.{itself}
use Rattle.jn_node_laws.proofs.Rooms.{books_of}
use Rattle.jn_node_laws.proofs.Rows.{AllWhole}
use Rattle.jn_node_laws.proofs.Stepping.{IsBetween}

-- ---- a disk of these pages

module _ (version : ℕ) (s : ServerNo) (g : Counts) (halves : List Half) (are : AreSound version s g halves) where
  -- each half is that of the image
  abbrev pub image_pages : Pages
  image_pages k = if nat_lt k (page_count g) then (half_at halves k).bytes else []

  module _ (d : DeviceState) (has : HasPages halves d) where
    half-count : d.count / 2 ≡ page_count g
    half-count = let size = are.size in let count = has.count in omega (arith, size, count)

    page-bytes : (p : ℕ) → p < 2 * page_count g → (d.pages p).bytes ≡ (half_at halves p).bytes
    page-bytes p lt = has.bytes p (let size = are.size in omega (arith, lt, size))

    first-bytes : (i : ℕ) → i < page_count g → (d.pages i).bytes ≡ (half_at halves i).bytes
    first-bytes i lt = page-bytes i (omega (arith, lt))

    second-bytes : (i : ℕ) → i < page_count g → (d.pages (i + d.count / 2)).bytes ≡ (half_at halves i).bytes
    second-bytes i lt = ap (λ (n : ℕ). (d.pages (i + n)).bytes) half-count ∙ page-bytes (i + page_count g) (omega (arith, lt)) ∙ sym (let sound = are.sound in sound.pairs i lt)

    is-store : IsStoreOf (image_of version s g halves) (pairs_view d)
    is-store = record { count = sym half-count; pages = λ i lt. record { first = first-bytes i lt; second = second-bytes i lt } }

    pub is-fresh : IsFresh s g (let sound = are.sound in sound.root.0) (files_in g halves) (pairs_view d)
    is-fresh = let sound = are.sound in image_fresh s (image_of version s g halves) (pairs_view d) sound are.fit is-store sound.root.0 sound.root.1 sound.root.2

    pub pages-are : (c : Pick) → pages_by (pairs_view d) c ≡ image_pages
    pages-are c = fun_ext (λ k. ap (λ (n : ℕ). if nat_lt k n then half_of (pairs_view d) k c else []) half-count ∙ by k (nat_lt k (page_count g)) refl)
      where
        is : (k : ℕ) (b : Bool) → k < page_count g → (if b then (d.pages (k + d.count / 2)).bytes else (d.pages k).bytes) ≡ (half_at halves k).bytes
        is k true lt = second-bytes k lt
        is k false lt = first-bytes k lt

        by : (k : ℕ) (b : Bool) → nat_lt k (page_count g) ≡ b → (if b then half_of (pairs_view d) k c else []) ≡ (if b then (half_at halves k).bytes else [])
        by k true e = is k (c k) (grind (arith, nat_tests, e))
        by k false e = refl

-- ---- what is remembered of files alone

none-named : {A B : Type 0} (eq before : A → A → Bool) (there : A → Option B) (names : List A) → Tells eq → ((a : A) → is_some (there a) ≡ false) → AreNames eq before there names → names ≡ []
none-named eq before there [] tells none h = refl
none-named eq before there (a ∷ names) tells none h = absurd (true≢false (sym (first (itself eq tells a)) ∙ h.each a ∙ none a))
  where
    first : eq a a ≡ true → (eq a a || list_any (λ b. eq b a) names) ≡ true
    first e = grind arith

module _ (s : ServerNo) (z : StableState) (works : List WorkId) (tids : List Tid) (named : AreNames work_eq work_before z.works works)
    (flagged : AreNames tid_eq tid_before z.flags tids)
    (no-works : (W : WorkId) → is_some (z.works W) ≡ false) (no-flags : (T : Tid) → is_some (z.flags T) ≡ false) where
  pub restored-is : restored s z works tids ≡ restored s z [] []
  restored-is = ap (λ (Ws : List WorkId). restored s z Ws tids) (none-named work_eq work_before z.works works work_tells no-works named)
      ∙ ap (λ (Ts : List Tid). restored s z [] Ts) (none-named tid_eq tid_before z.flags tids tid_tells no-flags flagged)

pub restored-names : (s : ServerNo) (z : StableState) → ((W : WorkId) → is_some (z.works W) ≡ false) → AreNamed (z.epoch + 1) (restored s z [] []) (with_epoch z)
restored-names s z none = record { tickets = refl; live = tt; prepared = λ W h. absurd (true≢false (sym h ∙ none W)) }

-- ---- a server that comes up

module _ (version : ℕ) (s : ServerNo) (g : Counts) (halves : List Half) (are : AreSound version s g halves) (d : DeviceState) (has : HasPages halves d) where
  abbrev z : StableState
  z = found_on g (pairs_view d) (λ n. false)

  files-alone : z ≡ only_files (let sound = are.sound in sound.root.0) (files_in g halves)
  files-alone = let fresh = is-fresh version s g halves are d has in fresh.found (λ n. false)

  no-works : (W : WorkId) → is_some (z.works W) ≡ false
  no-works W = ap (λ (k : StableState). is_some (k.works W)) files-alone

  no-flags : (T : Tid) → is_some (z.flags T) ≡ false
  no-flags T = ap (λ (k : StableState). is_some (k.flags T)) files-alone

  module _ (x : Running) (up : IsOpen s g (pairs_view d) x) where
    same-pages : pages_by (pairs_view d) up.pick ≡ standing_pages (pairs_view d)
    same-pages = pages-are version s g halves are d has up.pick ∙ sym (pages-are version s g halves are d has (λ n. false))

    same-z : found_on g (pairs_view d) up.pick ≡ z
    same-z = ap (stands.state_of g) same-pages

    remembers : x.memory ≡ restored s z [] []
    remembers = up.memory ∙ ap (λ (k : StableState). restored s k up.works up.tids) same-z
        ∙ restored-is s z up.works up.tids (subst (λ (k : StableState). AreNames work_eq work_before k.works up.works) same-z up.work_names)
        (subst (λ (k : StableState). AreNames tid_eq tid_before k.flags up.tids) same-z up.flag_names) no-works no-flags

    pub up-books : books_of g x ≡ first_books s g (pairs_view d)
    up-books = λ i. record { memory = remembers i; found = found i; beside = beside i }
      where
        found : state_of g x ≡ with_epoch z
        found = up.found (λ n. false) ∙ ap with_epoch same-z

        beside : beside_at g x ≡ record (beside_on g (standing_pages (pairs_view d))) { rubbish = 0 }
        beside = up.beside ∙ ap (λ (p : Pages). record (beside_on g p) { rubbish = 0 }) same-pages

    pub up-between : IsBetween s g x
    up-between = record {
      steady = record { named = subst (λ (b : Books). AreNamed b.found.epoch b.memory b.found) (sym up-books) (restored-names s z no-works); moment = up.moment };
      whole = subst (λ (b : Books). AllWhole b.memory.next) (sym up-books) (λ W. refl);
    }

-- ---- two disks of one image

module _ (version : ℕ) (s : ServerNo) (g : Counts) (halves : List Half) (are : AreSound version s g halves) (d e : DeviceState) (mine : HasPages halves d) (its : HasPages halves e) where
  pub same-first : first_books s g (pairs_view e) ≡ first_books s g (pairs_view d)
  same-first = ap (λ (p : Pages). record { memory = restored s (stands.state_of g p) [] []; found = with_epoch (stands.state_of g p); beside = record (beside_on g p) { rubbish = 0 } })
      (pages-are version s g halves are e its (λ n. false) ∙ sym (pages-are version s g halves are d mine (λ n. false)))

  pub up-alike : (x y : Running) → IsOpen s g (pairs_view d) x → IsOpen s g (pairs_view e) y → AreAlike s g x y
  up-alike x y up over =
      let same = up-books version s g halves are e its y over ∙ same-first ∙ sym (up-books version s g halves are d mine x up) in
      let between = up-between version s g halves are d mine x up in let steady = between.steady in
      record {
        memory = ap (λ (b : Books). b.memory) same;
        found = ap (λ (b : Books). b.found) same;
        beside = ap (λ (b : Books). b.beside) same;
        named = steady.named;
        whole = between.whole;
        moment = up.moment;
        other = over.moment;
      }
