use Rattle.std.proofs.Common.{true, refl}
use Rattle.jn_page_state.proofs.Picking.{found_picked, found_done, is_changed, is_unchanged, found_old_or_new, found_new, still_readable}
use Rattle.jn_page_state.proofs.stop_laws.a_put_is_one_change.Goals as goal

pub returns : goal.returns
returns a = record {
  changed = λ server g v w put ok x step is before makes. is_changed server g v put ok w is x step before makes;
  unchanged = λ server g v w put ok x is before makes. is_unchanged server g v put ok w is x before makes;
  old_or_new = λ server g v w put ok x y is before makes c. found_old_or_new server g v put ok w is x y before makes c;
  done = λ server g v w put ok y is makes done c. found_new server g v put ok w is y makes done c;
  readable = λ server g v w put ok is. still_readable server g v put ok w is;
  picked = λ server g v w put ok is c. found_picked server g v put ok w is c;
  picked_done = λ server g v w put is c. found_done server g v put true w is refl c;
}
