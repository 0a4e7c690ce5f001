-- What is left to do falls with each message that is taken, and doesn't rise by a step.
use Rattle.std.proofs.Common.{◌≡◌, ◌≤◌, ◌<◌, ℕ, Bool, true, false, List, [], ◌∷◌, ◌++◌, ◌∙◌, ap, arith}
use Rattle.std.specs.Prelude.{◌+◌, if◌then◌else◌}
use Rattle.jn_base.specs.declared.names.ServerNo.{ServerNo}
use Rattle.jn_msgs.specs.Weights.{weight}
use Rattle.jn_msgs.specs.declared.message.Message.{Message}
use Rattle.jn_row_ranges.specs.Weighing.{weigh_all}
use Rattle.jn_rows.specs.Outcomes.{Sent}
use Rattle.jn_node.specs.Nodes.{weigh_own}
use Rattle.jn_node.specs.Serving.{is_own, to_itself}

plus-more : (a b c d : ℕ) → b ≡ c + d → a + b ≡ a + c + d
plus-more a b c d e = omega (arith, e)

pub weigh-both : (xs ys : List Message) → weigh_own (xs ++ ys) ≡ weigh_own xs + weigh_own ys
weigh-both [] ys = omega arith
weigh-both (m ∷ xs) ys = plus-more (weight m) (weigh_own (xs ++ ys)) (weigh_own xs) (weigh_own ys) (weigh-both xs ys)

pub weigh-itself : (s : ServerNo) (sent : List Sent) → weigh_own (to_itself s sent) ≤ weigh_all sent
weigh-itself s [] = omega arith
weigh-itself s (x ∷ sent) = by (is_own s x.0) (weigh-itself s sent)
  where
    by : (b : Bool) → weigh_own (to_itself s sent) ≤ weigh_all sent → weigh_own (if b then x.1 ∷ to_itself s sent else to_itself s sent) ≤ weight x.1 + weigh_all sent
    by true rest = omega (arith, rest)
    by false rest = omega (arith, rest)

-- what waits, and what a row sends to itself, with the works that go
pub falls : (own own' : List Message) (s : ServerNo) (sent : List Sent) (goings goings' less more : ℕ) → own' ≡ own ++ to_itself s sent → weigh_all sent + goings' + less ≤ goings + more → weigh_own own' + goings' + less ≤ weigh_own own + goings + more
falls own own' s sent goings goings' less more e light = by _ _ _ _ (ap weigh_own e ∙ weigh-both own (to_itself s sent)) (weigh-itself s sent) light
  where
    by : (now was itself all : ℕ) → now ≡ was + itself → itself ≤ all → all + goings' + less ≤ goings + more → now + goings' + less ≤ was + goings + more
    by now was itself all a b c = omega (arith, a, b, c)

pub no-more : (a b c : ℕ) → a ≤ b → b ≤ c → a ≤ c
no-more a b c h k = omega (arith, h, k)

pub less-than : (a b c : ℕ) → a < b → b ≤ c → a < c
less-than a b c h k = omega (arith, h, k)
