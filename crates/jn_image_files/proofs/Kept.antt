-- What is kept, from save to save.
use Rattle.jn_image_files.proofs.Common.{◌≡◌, ◌≢◌, ℕ, zero, suc, ◌+◌, ◌<◌, ◌≤◌, Bool, true, false, List, [], ◌∷◌, length, slice_get, Option, Some, None, Result, Err, refl, sym, ◌∙◌, ap, subst, arith, true≢false, nat_tests, nat_lt, is_some, is_ok, get_or, ServerNo, DeviceState, Contents, KeeperSaved, kept_at, image_counts, image_bytes, Image, Half, AreSound, HasPages, counts_by, PageCounts, Has, IsClosed, IsSoundImage, image_name, SavesOne, SavedTo, SavesAll, IsSaved, format_version, inr, Counts}
use Rattle.jn_base.specs.Counts.{Rose}
use Rattle.jn_host.specs.declared.KeepFailure.{KeepFailure}
use Rattle.std.proofs.lemmas.Slice.Eq.{bytes_eq-Decides}
use Rattle.std.specs.Str.{bytes_eq}
use Rattle.jn_image_files.proofs.Naming.{same-server}

some-is : (a b : Option (List ℕ)) → Some a ≡ Some b → a ≡ b
some-is a b h = cc

abbrev server_of : ℕ → ServerNo
server_of n = record { 0 = n }

same-no : (a b : ServerNo) → a.0 ≡ b.0 → a ≡ b
same-no a b e = ap (λ (n : ℕ). server_of n) e

-- a name that stays holds what it held
pub has-still : (kept kept' : Option Contents) (name : List ℕ) (content : Option (List ℕ)) → is_some kept' ≡ is_some kept → kept_at kept' name ≡ kept_at kept name → Has kept name content → Has kept' name content
has-still None None name content told same has = tt
has-still None (Some holds) name content told same has = absurd (true≢false told)
has-still (Some holds) None name content told same has = tt
has-still (Some holds) (Some after) name content told same has = some-is (after name) (holds name) same ∙ has

pub has-saved : (kept kept' : Option Contents) (name bytes : List ℕ) → is_some kept' ≡ is_some kept → (is_some kept ≡ true → kept_at kept' name ≡ Some (Some bytes)) → Has kept' name (Some bytes)
has-saved kept None name bytes told saved = tt
has-saved kept (Some after) name bytes told saved = some-is (after name) (Some bytes) (saved (sym told))

pub kept-still : (kept kept' : Option Contents) (name : List ℕ) (g : Counts) (q : ServerNo) (d : DeviceState) → is_some kept' ≡ is_some kept → kept_at kept' (image_name name q.0) ≡ kept_at kept (image_name name q.0) → IsSaved kept name g q d → IsSaved kept' name g q d
kept-still kept kept' name g q d told same is = let k = is.is_kept in record {
  is_kept = record {
    image = k.image;
    is_sound = k.is_sound;
    counts = k.counts;
    pages = k.pages;
    bytes = has-still kept kept' (image_name name q.0) (Some (image_bytes k.image)) told same k.bytes;
  };
  version = is.version;
}

-- ---- what may be saved

-- the pages of a closed server's disk, sound, are those of an image that has bytes
pub image-of : (q : ServerNo) (g : Counts) (d : DeviceState) (halves : List Half) → q.0 ≤ 7 → IsClosed q g d → AreSound format_version q g halves → IsSoundImage q (record { version = format_version; server = q; pool = g.pool; heads = g.heads; leaves = g.leaves; pages = halves })
image-of q g d halves within closed are = record {
  form = record { version = inr refl; server_within = within; pool_within = closed.within.pool; heads_within = closed.within.heads; leaves_within = closed.within.leaves; both_halves = are.size };
  sound = are.sound;
}

-- ---- one save

pub saves-one : (name : List ℕ) (g : Counts) (q : ServerNo) (d : DeviceState) (m : Image) (own bytes : List ℕ) (kept : Option Contents) (faults : ℕ) (answer : Result (Unit {0}) KeepFailure) (kept' : Option Contents) (faults' : ℕ)
    → IsSoundImage q m → m.version ≡ format_version → image_counts m ≡ g → HasPages m.pages d → own ≡ image_name name q.0 → bytes ≡ image_bytes m → KeeperSaved kept faults own bytes answer kept' faults' → SavesOne name g q d kept faults answer kept' faults'
saves-one name g q d m own bytes kept faults answer kept' faults' sound version counts pages own_is bytes_are s = record {
  count = s.count;
  told = s.told;
  saved = λ ok. record {
    is_kept = record {
      image = m;
      is_sound = sound;
      counts = counts;
      pages = pages;
      bytes = has-saved kept kept' (image_name name q.0) (image_bytes m) s.told (λ tells. subst (λ (n : List ℕ). kept_at kept' n ≡ Some (Some (image_bytes m))) own_is (subst (λ (b : List ℕ). kept_at kept' own ≡ Some (Some b)) bytes_are (s.saved ok tells)));
    };
    version = version;
  };
  unsaved = λ failed other. by other failed (bytes_eq other own) refl;
  others = λ other differs. s.others other (λ same. differs (same ∙ own_is));
  rose = s.rose;
  no_fault = s.no_fault;
}
  where
    by : (other : List ℕ) → is_ok answer ≡ false → (b : Bool) → bytes_eq other own ≡ b → kept_at kept' other ≡ kept_at kept other
    by other failed true same = let is = (bytes_eq-Decides other own).0 same in subst (λ (n : List ℕ). kept_at kept' n ≡ kept_at kept n) (sym is) (s.unsaved failed)
    by other failed false differs = s.others other (λ same. true≢false (sym ((bytes_eq-Decides other own).1 same) ∙ differs))

-- ---- one save after another

-- what stands at a place
pub get-some : {A : Type 0} (xs : List A) (n : ℕ) (x : A) → n < length xs → x ≡ get_or xs n x → slice_get xs n ≡ Some x
get-some [] n x lt is = absurd (omega (arith, lt))
get-some (y ∷ xs) zero x lt is = ap (λ a. Some a) (sym is)
get-some (y ∷ xs) (suc n) x lt is = get-some xs n x (omega (arith, lt)) is

module _ {S : Type 0} (device : S → DeviceState) (name : List ℕ) (stores : List S) (counts : List PageCounts) (kept : Option Contents) where
  some-store : (a b : S) → Some a ≡ Some b → a ≡ b
  some-store a b h = cc

  some-counts : (a b : PageCounts) → Some a ≡ Some b → a ≡ b
  some-counts a b h = cc

  -- one more save
  pub saved-more : (n : ℕ) (s : S) (g : PageCounts) (q : ServerNo) (middle kept' : Option Contents) (faults faults' : ℕ) (answer : Result (Unit {0}) KeepFailure) → q.0 ≡ n → n < 8 → slice_get stores n ≡ Some s → slice_get counts n ≡ Some g
      → SavedTo device name stores counts n kept middle → SavesOne name (counts_by g) q (device s) middle faults answer kept' faults' → is_ok answer ≡ true → SavedTo device name stores counts (n + 1) kept kept'
  saved-more n s g q middle kept' faults faults' answer place few at its so one ok = record {
    stay = record {
      told = one.told ∙ so.stay.told;
      others = λ other not. one.others other (subst (λ (k : ℕ). other ≢ image_name name k) (sym place) (not n (omega arith))) ∙ so.stay.others other (λ k lt. not k (omega (arith, lt)));
    };
    are_kept = all;
  }
    where
      all : (r : ServerNo) (t : S) (h : PageCounts) → r.0 < n + 1 → slice_get stores r.0 ≡ Some t → slice_get counts r.0 ≡ Some h → IsSaved kept' name (counts_by h) r (device t)
      all r t h lt there his = by (nat_lt r.0 n) refl
        where
          differs : r.0 < n → image_name name r.0 ≢ image_name name q.0
          differs less same = let e = same-server name r.0 q.0 (omega (arith, less, few)) (omega (arith, place, few)) same in omega (arith, less, place, e)

          by : (b : Bool) → nat_lt r.0 n ≡ b → IsSaved kept' name (counts_by h) r (device t)
          by true before =
              let less : r.0 < n = grind (arith, nat_tests, before) in
              kept-still middle kept' name (counts_by h) r (device t) one.told (one.others (image_name name r.0) (differs less)) (so.are_kept r t h less there his)
          by false past =
              let here : q ≡ r = same-no q r (place ∙ (let e : n ≡ r.0 = grind (arith, nat_tests, past, lt) in e)) in
              let store : s ≡ t = some-store s t (sym at ∙ ap (λ (k : ℕ). slice_get stores k) (sym place ∙ ap (λ (x : ServerNo). x.0) here) ∙ there) in
              let same_counts : g ≡ h = some-counts g h (sym its ∙ ap (λ (k : ℕ). slice_get counts k) (sym place ∙ ap (λ (x : ServerNo). x.0) here) ∙ his) in
              subst (λ (x : ServerNo). IsSaved kept' name (counts_by h) x (device t)) here (subst (λ (x : S). IsSaved kept' name (counts_by h) q (device x)) store (subst (λ (x : PageCounts). IsSaved kept' name (counts_by x) q (device s)) same_counts (one.saved ok)))

  -- a save that failed changed nothing
  pub saved-not : (n : ℕ) (g : Counts) (q : ServerNo) (d : DeviceState) (middle kept' : Option Contents) (faults faults' : ℕ) (answer : Result (Unit {0}) KeepFailure)
      → SavedTo device name stores counts n kept middle → SavesOne name g q d middle faults answer kept' faults' → is_ok answer ≡ false → SavedTo device name stores counts n kept kept'
  saved-not n g q d middle kept' faults faults' answer so one failed = record {
    stay = record { told = one.told ∙ so.stay.told; others = λ other not. one.unsaved failed other ∙ so.stay.others other not };
    are_kept = λ r t h lt there his. kept-still middle kept' name (counts_by h) r (device t) one.told (one.unsaved failed (image_name name r.0)) (so.are_kept r t h lt there his);
  }

  -- the save of one of them failed
  pub fails-all : (n : ℕ) (g : Counts) (q : ServerNo) (d : DeviceState) (faults : ℕ) (middle : Option Contents) (faults_then : ℕ) (kept' : Option Contents) (faults' : ℕ) (one : Result (Unit {0}) KeepFailure) (answer : Result (Unit {0}) KeepFailure) (e : KeepFailure) → n < length stores → faults_then ≡ faults
      → SavedTo device name stores counts n kept middle → SavesOne name g q d middle faults_then one kept' faults' → one ≡ Err e → answer ≡ Err e → SavesAll device name stores counts kept faults answer kept' faults'
  fails-all n g q d faults middle faults_then kept' faults' one answer e lt so_far so save is same = record {
    count = omega (arith, so_far, save.count);
    saved = λ ok. absurd (true≢false (sym ok ∙ ap is_ok same));
    failed = λ no. (n, lt, saved-not n g q d middle kept' faults_then faults' one so save (ap is_ok is));
    rose = λ failed. subst (λ (n : ℕ). Rose n faults') so_far (save.rose (is ∙ sym same ∙ failed));
    no_fault = λ well. save.no_fault (λ failed. well (same ∙ sym is ∙ failed)) ∙ so_far;
  }
