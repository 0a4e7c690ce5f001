-- A loop's steps are those of a settle.
use Rattle.jn_system_settling.proofs.Common.{◌≡◌, ◌≤◌, ℕ, zero, suc, List, [], ◌∷◌, ◌++◌, None, refl, ◌∙◌, ap, arith, ServerNo, servers_from, Step, Course, go, go_on, Chance, first_busy, next_step, onward, until_rest, settled, EachInTurn, AreNext, NothingIsLeft, ComeToRest, chances_of, asked, in_two, both_parts}
use Rattle.std.proofs.Math.Path.{fun_ext}
use Rattle.std.proofs.Common.{◌+◌, length}

pub in-turn : (P : Course → Step → Type 0) (steps more : List Step) (c : Course) → EachInTurn P steps c → EachInTurn P more (go_on steps c) → EachInTurn P (steps ++ more) c
in-turn P [] more c h k = k
in-turn P (step ∷ steps) more c h k = (h.0, in-turn P steps more (go step c) h.1 k)

none-next : (servers : List ServerNo) (c : Course) (chance : Chance) → NothingIsLeft servers c → next_step chance c.waiting (first_busy c.world servers) ≡ None
none-next servers c chance h = ap (λ ks. next_step chance ks (first_busy c.world servers)) h.waits ∙ ap (next_step chance []) h.idle

reached-in : (servers : List ServerNo) (steps : List Step) (c : Course) (h : AreNext servers steps c) → NothingIsLeft servers (go_on steps c) → (n : ℕ) → length steps ≤ n → until_rest servers (chances_of servers steps c h) n c ≡ go_on steps c
reached-in servers [] c h r zero l = refl
reached-in servers [] c h r (suc n) l = ap (λ o. onward o c (until_rest servers (λ k. chances_of servers [] c h (k + 1)) n)) (none-next servers c (chances_of servers [] c h 0) r)
reached-in servers (step ∷ steps) c h r zero l = absurd (omega (arith, l))
reached-in servers (step ∷ steps) c h r (suc n) l = ap (λ o. onward o c (until_rest servers (λ k. chances_of servers (step ∷ steps) c h (k + 1)) n)) (let x = h.0 in x.is_next)
    ∙ ap (λ (f : ℕ → Chance). until_rest servers f n (go step c)) (fun_ext (λ k. ap (chances_of servers (step ∷ steps) c h) (next k)))
    ∙ reached-in servers steps (go step c) h.1 r n (omega (arith, l))
  where
    next : (k : ℕ) → k + 1 ≡ suc k
    next k = omega arith

pub reached : (servers : List ServerNo) (steps : List Step) (c : Course) (rests : ComeToRest servers steps c) (n : ℕ) → length steps ≤ n → until_rest servers (chances_of servers steps c rests.next) n c ≡ go_on steps c
reached servers steps c rests = reached-in servers steps c rests.next rests.rest

pub made : (servers : ℕ) (one two : List Step) (c : Course) (first : ComeToRest (servers_from 0 servers) one c)
    → (second : ComeToRest (servers_from 0 servers) two (asked servers (go_on one c)))
    → settled servers (both_parts servers one two c first.next second.next) c ≡ in_two servers one two c
made servers one two c first second =
    ap (λ (x : Course). until_rest (servers_from 0 servers) (both_parts servers one two c first.next second.next).second (length one + length two) (asked servers x)) (reached (servers_from 0 servers) one c first (length one + length two) (omega arith))
    ∙ reached (servers_from 0 servers) two (asked servers (go_on one c)) second (length one + length two) (omega arith)
