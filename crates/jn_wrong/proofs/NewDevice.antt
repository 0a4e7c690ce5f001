-- The device of a server on which nothing is stored: zeros behind the root, whatever befell its halves.
use Rattle.jn_wrong.proofs.Common.{nat_tests, not, ◌&&◌, PageDecays, ◌≡◌, ◌-◌, subst, Some, Option, ◌≤◌, ◌<◌, ◌+◌, ◌||◌, ℕ, Bool, true, false, true≢false, nat_eq, nat_lt, if◌then◌else◌, List, [], refl, sym, ◌∙◌, ap, inl, arith, inr, fun_ext, blank, DeviceState, PageState, bumped, Armed, Happens, put, joined, pairs_view, found_on, Pick, s0, pages_of, pages_by, ◌^◌, replicate, blank_page, pool_on, heads_on, record_or_free, head_or_free, IsRecoverable, Head, FreeHead, Record, Free, root_by, Candidate, StorePut, StoreLater, Decay, Revive, page_met, PageRevives, IsBlank, root_page, head_at}
use Rattle.jn_device.proofs.Happening.{happens_later}
use Rattle.jn_disks.specs.Disks.{no_files as nothing_there, IsNewStore, IsNewDisk}
use Rattle.jn_disks.proofs.NewStores.{new_is}
use Rattle.jn_page_state.specs.Images.{CountsFit, IsFresh}
use Rattle.jn_fields.specs.Reading as reading
use Rattle.jn_records.specs.Records.{record_at}
use Rattle.jn_wrong.proofs.Pairs.{the_counts}

-- ---- pages

abbrev pub root_at : ℕ → List ℕ
root_at epoch = root_page (root_by s0 the_counts epoch)

abbrev pub is_root : ℕ → Bool
is_root q = nat_eq q 0 || nat_eq q 177

abbrev pub bytes_at : ℕ → ℕ → List ℕ
bytes_at epoch q = if is_root q then root_at epoch else blank_page

-- zeros behind the root; halves are good or bad and have failed so often
abbrev pub pages_at : ℕ → (ℕ → Bool) → (ℕ → ℕ) → ℕ → PageState
pages_at epoch good fails q = record { good = good q; bytes = bytes_at epoch q; missed = false; fails = fails q }

-- what a device has counted
pub record Tally : Type 0 where
  pub calls : ℕ
  pub puts : ℕ
  pub stops : ℕ

abbrev pub device : (ℕ → PageState) → Bool → List Armed → Tally → DeviceState
device pages power waiting t = record { count = 354; pages = pages; power = power; waiting = waiting; told = []; calls = t.calls; puts = t.puts; stops = t.stops }

-- behind a put
abbrev pub put_on : Tally → Tally
put_on t = record { calls = bumped t.calls; puts = bumped t.puts; stops = t.stops }

-- ---- puts

-- a good half that has not failed
abbrev pub sound : List ℕ → PageState
sound bytes = record { good = true; bytes = bytes; missed = false; fails = 0 }

abbrev pub put_at : ℕ → List ℕ → (ℕ → PageState) → ℕ → PageState
put_at p page pages q = if nat_eq q p then sound page else pages q

abbrev pub Unfailed : (ℕ → PageState) → Type 0
Unfailed pages = (q : ℕ) → (pages q).fails ≡ 0

put-unfailed : (p : ℕ) (page : List ℕ) (pages : ℕ → PageState) → Unfailed pages → Unfailed (put_at p page pages)
put-unfailed p page pages h q = by (nat_eq q p)
  where
    by : (b : Bool) → (if b then sound page else pages q).fails ≡ 0
    by true = refl
    by false = h q

pub put-one : (pages : ℕ → PageState) (t : Tally) (p : ℕ) (page : List ℕ) → p < 354 → Unfailed pages → Happens (device pages true [] t) (device (put_at p page pages) true [] (put_on t))
put-one pages t p page lt unfailed = put (device pages true [] t) (device (put_at p page pages) true [] (put_on t)) p page false lt (record {
  call = record { count = refl; power = refl; waiting = refl; told_is = refl; calls = refl; stops_are = refl };
  answers = refl;
  page = ap (λ (b : Bool). if b then sound page else pages p) (same p) ∙ ap (λ (n : ℕ). record { good = true; bytes = page; missed = false; fails = n }) (sym (unfailed p));
  others = λ q ne. ap (λ (b : Bool). if b then sound page else pages q) (other q ne);
  puts = refl;
})
  where
    same : (p : ℕ) → nat_eq p p ≡ true
    same p = grind arith

    other : (q : ℕ) → (q ≡ p → ⊥) → nat_eq q p ≡ false
    other q ne = grind (arith, ne)

-- both halves of the root
abbrev pub renewed : ℕ → (ℕ → PageState) → ℕ → PageState
renewed epoch pages = put_at 177 (root_at epoch) (put_at 0 (root_at epoch) pages)

pub put-root : (epoch : ℕ) (pages : ℕ → PageState) (t : Tally) → Unfailed pages → Happens (device pages true [] t) (device (renewed epoch pages) true [] (put_on (put_on t)))
put-root epoch pages t unfailed = joined _ (device (put_at 0 (root_at epoch) pages) true [] (put_on t)) _
    (put-one pages t 0 (root_at epoch) (omega arith) unfailed)
    (put-one (put_at 0 (root_at epoch) pages) (put_on t) 177 (root_at epoch) (omega arith) (put-unfailed 0 (root_at epoch) pages unfailed))

pub bumped-least : (n : ℕ) → bumped n ≤ n + 1
bumped-least n = by (nat_lt n (2 ^ 64 - 1))
  where
    by : (b : Bool) → (if b then n + 1 else n) ≤ n + 1
    by true = omega arith
    by false = omega arith

-- all halves are good
abbrev pub good_at : ℕ → ℕ → PageState
good_at epoch = pages_at epoch (λ q. true) (λ q. 0)

abbrev blank_pages : ℕ → PageState
blank_pages q = sound blank_page

root-of-blank : (epoch : ℕ) → renewed epoch blank_pages ≡ good_at epoch
root-of-blank epoch = fun_ext (λ q. by (nat_eq q 0) (nat_eq q 177))
  where
    by : (first second : Bool) → (if second then sound (root_at epoch) else (if first then sound (root_at epoch) else sound blank_page)) ≡ sound (if first || second then root_at epoch else blank_page)
    by true true = refl
    by true false = refl
    by false true = refl
    by false false = refl

-- ---- a half that has gone bad is put anew, and then the root

-- all halves but this one are good
abbrev pub OthersGood : ℕ → (ℕ → Bool) → Type 0
OthersGood p good = (q : ℕ) → nat_eq q p ≡ false → good q ≡ true

abbrev mended : ℕ → ℕ → ℕ → (ℕ → Bool) → ℕ → PageState
mended old epoch p good = renewed epoch (put_at p blank_page (pages_at old good (λ q. 0)))

-- a page where the root was put behind it
abbrev behind : ℕ → ℕ → PageState → PageState
behind epoch q page = if nat_eq q 177 then sound (root_at epoch) else (if nat_eq q 0 then sound (root_at epoch) else page)

mended-good : (old epoch p : ℕ) (good : ℕ → Bool) → OthersGood p good → mended old epoch p good ≡ good_at epoch
mended-good old epoch p good others = fun_ext (λ q. at q (nat_eq q p) refl)
  where
    put_new : (first second : Bool) → (if second then sound (root_at epoch) else (if first then sound (root_at epoch) else sound blank_page)) ≡ sound (if first || second then root_at epoch else blank_page)
    put_new true true = refl
    put_new true false = refl
    put_new false true = refl
    put_new false false = refl

    as_old : (first second : Bool) → (if second then sound (root_at epoch) else (if first then sound (root_at epoch) else sound (if first || second then root_at old else blank_page))) ≡ sound (if first || second then root_at epoch else blank_page)
    as_old true true = refl
    as_old true false = refl
    as_old false true = refl
    as_old false false = refl

    at : (q : ℕ) (same : Bool) → nat_eq q p ≡ same → mended old epoch p good q ≡ good_at epoch q
    at q true e = ap (λ (b : Bool). behind epoch q (if b then sound blank_page else pages_at old good (λ q. 0) q)) e ∙ put_new (nat_eq q 0) (nat_eq q 177)
    at q false e = ap (λ (b : Bool). behind epoch q (if b then sound blank_page else pages_at old good (λ q. 0) q)) e
        ∙ ap (λ (b : Bool). behind epoch q (record { good = b; bytes = bytes_at old q; missed = false; fails = 0 })) (others q e) ∙ as_old (nat_eq q 0) (nat_eq q 177)

-- three puts
abbrev pub thrice : Tally → Tally
thrice t = put_on (put_on (put_on t))

pub thrice-least : (t : Tally) → (thrice t).calls ≤ t.calls + 3
thrice-least t = let one = bumped-least t.calls in let two = bumped-least (bumped t.calls) in let three = bumped-least (bumped (bumped t.calls)) in omega (arith, one, two, three)

pub mends : (old epoch p : ℕ) (good : ℕ → Bool) (t : Tally) → p < 354 → OthersGood p good → Happens (device (pages_at old good (λ q. 0)) true [] t) (device (good_at epoch) true [] (thrice t))
mends old epoch p good t lt others = subst (λ (pages : ℕ → PageState). Happens (device (pages_at old good (λ q. 0)) true [] t) (device pages true [] (thrice t))) (mended-good old epoch p good others)
    (joined _ (device (put_at p blank_page (pages_at old good (λ q. 0))) true [] (put_on t)) _
    (put-one (pages_at old good (λ q. 0)) t p blank_page lt (λ q. refl))
    (put-root epoch (put_at p blank_page (pages_at old good (λ q. 0))) (put_on t) (put-unfailed p blank_page (pages_at old good (λ q. 0)) (λ q. refl))))

-- ---- one half that goes bad, and is put or revived

abbrev pub all_but : ℕ → ℕ → Bool
all_but p q = if nat_eq q p then false else true

-- and failed once more
abbrev pub failed_at : ℕ → (ℕ → ℕ) → ℕ → ℕ
failed_at p fails q = if nat_eq q p then fails q + 1 else fails q

pub all-but-good : (p : ℕ) → OthersGood p (all_but p)
all-but-good p q e = ap (λ (b : Bool). if b then false else true) e

is-same : (p q : ℕ) (b : Bool) → nat_eq p q ≡ b → nat_eq q p ≡ b
is-same p q b e = grind (arith, e)

pub at-same : (p q : ℕ) → nat_eq p q ≡ true → p ≡ q
at-same p q e = grind (arith, e)

pub decays-at : (epoch p : ℕ) (fails : ℕ → ℕ) (waiting : List Armed) (t : Tally) → nat_lt (fails p) 3 ≡ true
    → PageDecays (device (pages_at epoch (λ q. true) fails) true waiting t) p true (device (pages_at epoch (all_but p) (failed_at p fails)) true waiting t)
decays-at epoch p fails waiting t few = record {
  answers = ap (λ (b : Bool). not (true && not (b && true))) (sym few);
  becomes = record { count = refl; pages_are = λ q. at q (nat_eq p q) refl; power_is = refl; waiting = refl; told = refl; calls = refl; puts = refl; stops = refl };
}
  where
    at : (q : ℕ) (b : Bool) → nat_eq p q ≡ b → pages_at epoch (all_but p) (failed_at p fails) q ≡ page_met (device (pages_at epoch (λ q. true) fails) true waiting t) (Some (Decay p)) q
    at q true e =
        let other : nat_eq q p ≡ true = is-same p q true e in
        let here : nat_lt (fails q) 3 ≡ true = subst (λ (k : ℕ). nat_lt (fails k) 3 ≡ true) (at-same p q e) few in
        rw (e, other, here) refl
    at q false e = let other : nat_eq q p ≡ false = is-same p q false e in rw (e, other) refl

pub revives-at : (epoch p : ℕ) (fails : ℕ → ℕ) (waiting : List Armed) (t : Tally) → PageRevives (device (pages_at epoch (all_but p) fails) true waiting t) p (device (pages_at epoch (λ q. true) fails) true waiting t)
revives-at epoch p fails waiting t = record { count = refl; pages_are = λ q. at q (nat_eq p q) refl; power_is = refl; waiting = refl; told = refl; calls = refl; puts = refl; stops = refl }
  where
    at : (q : ℕ) (b : Bool) → nat_eq p q ≡ b → pages_at epoch (λ q. true) fails q ≡ page_met (device (pages_at epoch (all_but p) fails) true waiting t) (Some (Revive p)) q
    at q true e = rw e refl
    at q false e = let other : nat_eq q p ≡ false = is-same p q false e in rw (e, other) refl

-- a put brings it back
pub put-back : (epoch p : ℕ) (fails : ℕ → ℕ) (t : Tally) → p < 354 → is_root p ≡ false → Happens (device (pages_at epoch (all_but p) fails) true [] t) (device (pages_at epoch (λ q. true) fails) true [] (put_on t))
put-back epoch p fails t lt behind = put (device (pages_at epoch (all_but p) fails) true [] t) (device (pages_at epoch (λ q. true) fails) true [] (put_on t)) p blank_page false lt (record {
  call = record { count = refl; power = refl; waiting = refl; told_is = refl; calls = refl; stops_are = refl };
  answers = refl;
  page = ap (λ (b : Bool). record { good = true; bytes = if b then root_at epoch else blank_page; missed = false; fails = fails p }) behind;
  others = λ q ne. ap (λ (b : Bool). record { good = b; bytes = bytes_at epoch q; missed = false; fails = fails q }) (sym (all-but-good p q (other q ne)));
  puts = refl;
})
  where
    other : (q : ℕ) → (q ≡ p → ⊥) → nat_eq q p ≡ false
    other q ne = grind (arith, ne)

-- ---- the halves of a page are equal

pub halves-equal : (epoch i : ℕ) → i < 177 → bytes_at epoch i ≡ bytes_at epoch (i + 177)
halves-equal epoch i lt = ap (λ (b : Bool). if b then root_at epoch else blank_page) (same i lt)
  where
    same : (i : ℕ) → i < 177 → is_root i ≡ is_root (i + 177)
    same i lt = grind (arith, lt)

behind-root : (epoch i : ℕ) → is_root i ≡ false → bytes_at epoch i ≡ blank_page
behind-root epoch i e = ap (λ (b : Bool). if b then root_at epoch else blank_page) e

-- ---- what is found

zeros-record : record_at blank_page ≡ Some Free
unfolding record_at blank_page reading.number_at
zeros-record = refl

zeros-head : head_at blank_page ≡ Some FreeHead
unfolding head_at blank_page reading.number_at
zeros-head = refl

-- a recovery may begin, and finds nothing but the epoch
pub record IsBlankOn (epoch : ℕ) (d : DeviceState) : Type 0 where
  pub recoverable : IsRecoverable s0 the_counts (pairs_view d)
  -- whichever halves are picked
  pub same : (c : Pick) → pages_by (pairs_view d) c ≡ pages_of d
  pub found : (c : Pick) → found_on the_counts (pairs_view d) c ≡ blank epoch
  pub pool : pool_on the_counts (pages_of d) ≡ replicate 32 Free
  pub heads : heads_on the_counts (pages_of d) ≡ replicate 16 FreeHead

module _ (epoch : ℕ) (fits : epoch < 2 ^ 32) where
  abbrev empty : DeviceState
  empty = device blank_pages true [] (record { calls = 0; puts = 0; stops = 0 })

  abbrev rooted : DeviceState
  rooted = device (good_at epoch) true [] (put_on (put_on (record { calls = 0; puts = 0; stops = 0 })))

  path : Happens empty rooted
  path = subst (λ (pages : ℕ → PageState). Happens empty (device pages true [] (put_on (put_on (record { calls = 0; puts = 0; stops = 0 }))))) (root-of-blank epoch) (put-root epoch blank_pages (record { calls = 0; puts = 0; stops = 0 }) (λ q. refl))

  later : StoreLater (pairs_view empty) (pairs_view rooted)
  later = let l = happens_later empty rooted path in record {
    happens = λ from h. joined from empty rooted h path;
    count = refl;
    calls = l.calls;
    puts = l.puts;
    stops = l.stops;
    spends = l.spends;
    quiet = λ q. refl;
    calm = λ c. record { quiet = refl; power = refl };
    no_stop = λ c. refl;
    whole = λ c i lt h. record { both = refl; clean = halves-equal epoch i lt };
  }

  stored : StorePut (pairs_view empty) 0 (root_at epoch) true (pairs_view rooted)
  stored = record {
    later = later;
    calls = let one = bumped-least 0 in let two = bumped-least (bumped 0) in omega (arith, one, two);
    done = λ e. record { first = refl; second = refl };
    part = λ x o. inl (either x o);
    others = λ j lt ne. record { first = behind-root epoch j (before j lt ne); second = behind-root epoch (j + 177) (past j lt ne) };
    served = λ e. record { power = refl; stops = refl };
    stop = λ e. absurd (true≢false e);
    calm = λ c. (refl, record { both = refl; clean = refl });
  }
    where
      either : (x : List ℕ) → Candidate (pairs_view rooted) 0 x → x ≡ root_at epoch
      either x (inl e) = e
      either x (inr e) = e

      before : (j : ℕ) → j < 177 → (j ≡ 0 → ⊥) → is_root j ≡ false
      before j lt ne = grind (arith, lt, ne)

      past : (j : ℕ) → j < 177 → (j ≡ 0 → ⊥) → is_root (j + 177) ≡ false
      past j lt ne = grind (arith, lt, ne)

  zeros : IsBlank 177 (pairs_view empty)
  zeros = record {
    count_is = refl;
    pages = λ i lt. record { first = refl; second = refl };
    whole = λ i lt. record { both = refl; clean = refl };
    calm = record { quiet = refl; power = refl };
    told = refl;
    calls = refl;
    puts = refl;
    stops = refl;
  }

  fit : CountsFit s0 the_counts
  fit = record { server_fits = omega arith; pool = omega arith; heads = omega arith; leaves = omega arith }

  made : IsNewDisk (root_by s0 the_counts epoch) (pairs_view rooted)
  made = new_is (root_by s0 the_counts epoch) (pairs_view empty) (pairs_view rooted) zeros stored refl fits fit

  fresh : IsFresh s0 the_counts epoch nothing_there (pairs_view rooted)
  fresh = made.fresh

  -- whatever it has counted
  pub new-on : (t : Tally) → IsNewStore (root_by s0 the_counts epoch) (pairs_view (device (good_at epoch) true [] t))
  new-on t = let store = made.store in record {
    count = store.count;
    pages = λ i lt. let page = store.pages i lt in record { first = page.first; second = page.second };
    untouched = record {
      calm = record { quiet = refl; power = refl };
      told = refl;
      whole = λ i lt. record { both = refl; clean = halves-equal epoch i lt };
    };
  }

  -- by either half
  picked : (there : Bool) (k : ℕ) (second : Bool) → nat_lt k 177 ≡ there → (if there then (if second then bytes_at epoch (k + 177) else bytes_at epoch k) else []) ≡ (if there then bytes_at epoch k else [])
  picked true k true e = sym (halves-equal epoch k (below k e))
    where
      below : (k : ℕ) → nat_lt k 177 ≡ true → k < 177
      below k e = grind (arith, nat_tests, e)
  picked true k false e = refl
  picked false k second e = refl

  -- whichever halves are good, whether or not it has power, and whatever waits
  pub blank-on : (good : ℕ → Bool) (fails : ℕ → ℕ) (power : Bool) (waiting : List Armed) (t : Tally) → IsBlankOn epoch (device (pages_at epoch good fails) power waiting t)
  blank-on good fails power waiting t = record {
    recoverable = let r = fresh.recoverable in record { count = r.count; each = r.each; clean = r.clean };
    same = λ c. fun_ext (λ k. picked (nat_lt k 177) k (c k) refl);
    found = fresh.found;
    pool = ap (λ (o : Option Record). replicate 32 (record_or_free o)) zeros-record;
    heads = ap (λ (o : Option Head). replicate 16 (head_or_free o)) zeros-head;
  }
