-- While a server serves, its pages have no record and no head that nothing names.
use Rattle.jn_server.proofs.Common.{◌≡◌, ℕ, ◌+◌, ap, arith, IsCounted, state, Beside, ServerView, IsServer, CountsPages, counts_in, CountsAll, AreCountsOfPages, standing_pages}

all-records : (free flags works intentions rubbish free' rubbish' pool : ℕ) → free + flags + works + intentions + rubbish ≡ pool → free ≡ free' → rubbish ≡ rubbish' → free' + flags + works + intentions + rubbish' ≡ pool
all-records free flags works intentions rubbish free' rubbish' pool e f r = omega (arith, e, f, r)

all-heads : (free files free' heads : ℕ) → free + files ≡ heads → free ≡ free' → free' + files ≡ heads
all-heads free files free' heads e f = omega (arith, e, f)

pub all-counted : (v : ServerView) → IsServer v → CountsPages v → CountsAll (counts_in v.storage.accounts) (state v.storage) (standing_pages v.storage.store)
all-counted v serves counts = record {
  works = counted.works;
  flags = counted.flags;
  files = counted.files;
  works_all = counted.works_all;
  flags_all = counted.flags_all;
  files_all = counted.files_all;
  records_all = all-records _ _ _ _ _ _ _ _ counted.records own.free (ap (λ (b : Beside). b.rubbish) own.beside);
  heads_all = all-heads _ _ _ _ counted.heads_used own.heads;
}
  where
    own : AreCountsOfPages v
    own = counts serves.works.serving.power

    counted : IsCounted (state v.storage) v.storage.accounts
    counted = serves.works.serving.counted
