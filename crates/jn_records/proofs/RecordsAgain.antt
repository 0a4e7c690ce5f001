-- A record is read again from its page.
use Rattle.jn_records.proofs.Common.{◌≡◌, ◌<◌, ◌≤◌, ◌^◌, ◌-◌, ℕ, Bool, true, false, List, [], ◌∷◌, ◌++◌, length, replicate, Some, refl, ap, ◌∙◌, arith, flat_map, list_all, AllByRecursion, nat_tests, big_bytes, LockUnit, WorkId, StoredIntention, tid_bytes, work_bytes, unit_bytes, WorkFits, work_at, unit_at, intention_bytes, prepared_bytes, record_bytes, record_page, unit_has_page, reads_have_page, has_page, UnitFits, PreparedFits, FlagFits, RecordFits, intention_record_at, work_head_at, prepared, prepared_at, flag_at, record_at, number_again, list_again, UnitIsRead, tid_again, work_again, unit_again}
use Rattle.jn_base.specs.declared.names.Tid.{Tid}
use Rattle.jn_records.specs.declared.flag.Flag.{Flag}
use Rattle.jn_records.specs.declared.work.WorkHead.{WorkHead}
use Rattle.jn_records.specs.declared.record.Record.{Record}
use Rattle.jn_records.specs.declared.record.Record.TheVariants.{Free, Intention, Ready, Going, Flag as FlagRecord}
use Rattle.jn_records.proofs.IntentionsAgain.{intention_again}

units_are_read : (us : List LockUnit) → AllByRecursion UnitFits us → list_all (λ u. unit_has_page u) us ≡ true → AllByRecursion UnitIsRead us
units_are_read [] fit pages = tt
units_are_read (u ∷ us) fit pages = ((fit.0, grind arith), units_are_read us fit.1 (grind arith))

intention_record_again : (work : WorkId) (tid : Tid) (order : ℕ) (i : StoredIntention) (rest : List ℕ) → RecordFits (Intention work tid order i)
    → intention_record_at (work_bytes work ++ (tid_bytes tid ++ (big_bytes 1 order ++ (intention_bytes i ++ rest)))) ≡ Some (Intention work tid order i)
unfolding intention_record_at
intention_record_again work tid order i rest fits =
    let after_order = intention_bytes i ++ rest in
    let after_tid = big_bytes 1 order ++ after_order in
    let after_work = tid_bytes tid ++ after_tid in
    rw (work_again work after_work fits.0, tid_again tid after_tid fits.1, number_again 1 order after_order fits.2, intention_again i rest fits.3) refl

work_head_again : (head : WorkHead) (intentions : ℕ) (reads : List LockUnit) (rest : List ℕ) → PreparedFits head intentions reads
    → work_head_at (work_bytes head.work ++ (tid_bytes head.tid ++ (big_bytes 1 head.client.0 ++ rest))) ≡ Some (head, rest)
unfolding work_head_at
work_head_again head intentions reads rest fits =
    let after_tid = big_bytes 1 head.client.0 ++ rest in
    let after_work = tid_bytes head.tid ++ after_tid in
    rw (work_again head.work after_work fits.work, tid_again head.tid after_tid fits.tid, number_again 1 head.client.0 rest fits.client) refl

prepared_again : (going : Bool) (head : WorkHead) (intentions : ℕ) (reads : List LockUnit) (rest : List ℕ) → PreparedFits head intentions reads → reads_have_page reads ≡ true
    → prepared_at going (work_bytes head.work ++ (tid_bytes head.tid ++ (big_bytes 1 head.client.0 ++ (big_bytes 1 intentions ++ (big_bytes 1 (length reads) ++ (flat_map (λ u. unit_bytes u) reads ++ rest)))))) ≡ Some (prepared going head intentions reads)
unfolding prepared_at
prepared_again going head intentions reads rest fits pages =
    let after_count = flat_map (λ u. unit_bytes u) reads ++ rest in
    let after_intentions = big_bytes 1 (length reads) ++ after_count in
    let after_head = big_bytes 1 intentions ++ after_intentions in
    let few : length reads < 256 ^ 1 = grind (arith, nat_tests, pages) in
    let each : list_all (λ u. unit_has_page u) reads ≡ true = grind (arith, pages) in
    rw (
      work_head_again head intentions reads after_head fits,
      number_again 1 intentions after_intentions fits.intentions_fit,
      number_again 1 (length reads) after_count few,
      list_again (λ (u : LockUnit). unit_bytes u) (λ b. unit_at b) UnitIsRead unit_again reads rest (units_are_read reads fits.reads_fit each),
    ) refl

flag_again : (f : Flag) (rest : List ℕ) → FlagFits f → length f.works ≤ 55
    → flag_at (tid_bytes f.tid ++ (big_bytes 1 f.client.0 ++ (big_bytes 4 f.request.0 ++ (big_bytes 1 (length f.works) ++ (flat_map (λ w. work_bytes w) f.works ++ rest))))) ≡ Some (FlagRecord f)
unfolding flag_at
flag_again f rest fits few =
    let after_count = flat_map (λ w. work_bytes w) f.works ++ rest in
    let after_request = big_bytes 1 (length f.works) ++ after_count in
    let after_client = big_bytes 4 f.request.0 ++ after_request in
    let after_tid = big_bytes 1 f.client.0 ++ after_client in
    rw (
      tid_again f.tid after_tid fits.tid,
      number_again 1 f.client.0 after_client fits.client,
      number_again 4 f.request.0 after_request fits.request,
      number_again 1 (length f.works) after_count (omega (arith, few)),
      list_again (λ (w : WorkId). work_bytes w) (λ b. work_at b) WorkFits work_again f.works rest fits.works,
    ) refl

pub record_is_read : (page : List ℕ) (r : Record) → has_page r ≡ true → RecordFits r → page ≡ record_page r → record_at page ≡ Some r
unfolding record_at record_page
record_is_read page Free pages fits e =
    let zeros : record_page Free ≡ big_bytes 1 0 ++ replicate 511 0 = refl in
    ap record_at (e ∙ zeros) ∙ rw (number_again 1 0 (replicate 511 0) (omega arith)) refl
record_is_read page (Intention work tid order i) pages fits e =
    let rest = replicate (512 - length (record_bytes (Intention work tid order i))) 0 in
    let behind = work_bytes work ++ (tid_bytes tid ++ (big_bytes 1 order ++ (intention_bytes i ++ rest))) in
    let regrouped : record_page (Intention work tid order i) ≡ big_bytes 1 1 ++ behind = refl in
    ap record_at (e ∙ regrouped) ∙ rw (number_again 1 1 behind (omega arith)) (intention_record_again work tid order i rest fits)
record_is_read page (Ready head intentions reads) pages fits e =
    let rest = replicate (512 - length (prepared_bytes 2 head intentions reads)) 0 in
    let behind = work_bytes head.work ++ (tid_bytes head.tid ++ (big_bytes 1 head.client.0 ++ (big_bytes 1 intentions ++ (big_bytes 1 (length reads) ++ (flat_map (λ u. unit_bytes u) reads ++ rest))))) in
    let regrouped : record_page (Ready head intentions reads) ≡ big_bytes 1 2 ++ behind = refl in
    ap record_at (e ∙ regrouped) ∙ rw (number_again 1 2 behind (omega arith)) (prepared_again false head intentions reads rest fits pages)
record_is_read page (Going head intentions reads) pages fits e =
    let rest = replicate (512 - length (prepared_bytes 3 head intentions reads)) 0 in
    let behind = work_bytes head.work ++ (tid_bytes head.tid ++ (big_bytes 1 head.client.0 ++ (big_bytes 1 intentions ++ (big_bytes 1 (length reads) ++ (flat_map (λ u. unit_bytes u) reads ++ rest))))) in
    let regrouped : record_page (Going head intentions reads) ≡ big_bytes 1 3 ++ behind = refl in
    ap record_at (e ∙ regrouped) ∙ rw (number_again 1 3 behind (omega arith)) (prepared_again true head intentions reads rest fits pages)
record_is_read page (FlagRecord f) pages fits e =
    let rest = replicate (512 - length (record_bytes (FlagRecord f))) 0 in
    let behind = tid_bytes f.tid ++ (big_bytes 1 f.client.0 ++ (big_bytes 4 f.request.0 ++ (big_bytes 1 (length f.works) ++ (flat_map (λ w. work_bytes w) f.works ++ rest)))) in
    let regrouped : record_page (FlagRecord f) ≡ big_bytes 1 4 ++ behind = refl in
    ap record_at (e ∙ regrouped) ∙ rw (number_again 1 4 behind (omega arith)) (flag_again f rest fits (grind (arith, nat_tests, pages)))
