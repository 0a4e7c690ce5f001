use Rattle.jn_page_state.proofs.CallLaws.{fresh_map}
use Rattle.jn_page_state.proofs.Carrying.{parted_first}
use Rattle.jn_page_state.proofs.Twos.{made_again, changed_on}
use Rattle.jn_page_state.proofs.call_laws.an_intention_may_take_two_puts.Goals as goal

pub returns : goal.returns
returns a = record {
  fresh = λ server g v w epoch records heads rows d row step ok standing is unread. fresh_map server g v w epoch records heads rows ok standing d row step is unread;
  part = λ server g v w epoch records heads rows place j put new work i full ok standing is stand lays part same. parted_first server g v w epoch records heads rows ok standing put is stand place new lays i j part work full same;
  again = λ x y work full stop. made_again work full x y stop;
  goes_on = λ x y work full ok found stop changed. changed_on work full x y ok found stop changed;
}
