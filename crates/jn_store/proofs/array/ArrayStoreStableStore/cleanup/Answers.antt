use Rattle.jn_store.proofs.TwoPuts.{array_cleaned}
use Rattle.jn_store.proofs.array.ArrayStoreStableStore.cleanup.Goals as goal

pub returns : goal.returns
returns c = record { cleaned = array_cleaned _ _ _ _ }
