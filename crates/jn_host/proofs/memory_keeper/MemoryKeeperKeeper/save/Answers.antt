use Rattle.std.proofs.Common.{arith}
use Rattle.std.proofs.lemmas.Map.Text.{text_keys}
use Rattle.jn_host.proofs.memory_keeper.MemoryKeeperKeeper.save.Goals as goal

pub returns-clause-saved : goal.returns-clause-saved
returns-clause-saved c =
    record {
      count = grind arith;
      told = grind arith;
      saved = λ ok told. grind (arith, text_keys);
      unsaved = λ failed. grind arith;
      others = λ other apart. grind (arith, text_keys);
      rose = λ e. grind arith;
      no_fault = λ well. grind arith;
    }
