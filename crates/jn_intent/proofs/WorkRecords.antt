-- The record of a prepared work.
use Rattle.jn_intent.proofs.Common.{◌≡◌, ◌≢◌, ◌<◌, ◌^◌, ℕ, true, false, List, Some, refl, sym, ap, subst, true≢false, arith, Tid, WorkId, work_tells, stored_list, IsCompleteBy, HasIntentions, Record, Free, Intention, Ready, Going, FlagRecord, RecordFits, is_free, is_prepared, is_intention, is_flag, is_rubbish, StoredWork, work_by, intends_for}

pub record IsWorkRecord (pool : List Record) (work : WorkId) (r : Record) : Type 0 where
  pub count : ℕ
  pub has : HasIntentions pool work count
  pub listed : (s : StoredWork) → work_by pool work r ≡ Some s → s.list ≡ stored_list pool work count
  pub no_list : (w : WorkId) (order : ℕ) → is_intention w order r ≡ false
  pub no_flag : (t : Tid) → is_flag t r ≡ false
  pub used : is_free r ≡ false
  pub no_rubbish : (pool : List Record) → is_rubbish pool r ≡ false
  pub not_of : (w : WorkId) → intends_for w r ≡ false
  pub others : (w : WorkId) → work ≢ w → is_prepared w r ≡ false
  pub few : count < 2 ^ 8

some_is : {A : Type 0} {a b : A} → Some a ≡ Some b → a ≡ b
some_is e = cc e

pub work_record : (pool : List Record) (work : WorkId) (r : Record) → is_prepared work r ≡ true → IsCompleteBy pool r → RecordFits r → IsWorkRecord pool work r
work_record pool work Free h complete fits = absurd (true≢false (sym h))
work_record pool work (Intention w u k i) h complete fits = absurd (true≢false (sym h))
work_record pool work (FlagRecord f) h complete fits = absurd (true≢false (sym h))
work_record pool work (Ready head n reads) h complete fits = record {
  count = n;
  has = subst (λ w. HasIntentions pool w n) (let t = work_tells head.work work in grind (arith, h)) complete;
  listed = λ s e. sym (ap (λ (x : StoredWork). x.list) (some_is e));
  no_list = λ w order. refl;
  no_flag = λ t. refl;
  used = refl;
  no_rubbish = λ pool. refl;
  not_of = λ w. refl;
  others = λ w ne. let t = work_tells head.work work in let t2 = work_tells head.work w in grind (arith, h);
  few = fits.intentions_fit;
}
work_record pool work (Going head n reads) h complete fits = record {
  count = n;
  has = subst (λ w. HasIntentions pool w n) (let t = work_tells head.work work in grind (arith, h)) complete;
  listed = λ s e. sym (ap (λ (x : StoredWork). x.list) (some_is e));
  no_list = λ w order. refl;
  no_flag = λ t. refl;
  used = refl;
  no_rubbish = λ pool. refl;
  not_of = λ w. refl;
  others = λ w ne. let t = work_tells head.work work in let t2 = work_tells head.work w in grind (arith, h);
  few = fits.intentions_fit;
}
