use Rattle.std.specs.Prelude.{◌≡◌, ℕ, List, ◌++◌, [], take, Option, None, Some, IfSome}
use Rattle.std.specs.Option.{option_map}
use Rattle.std.proofs.Common.{ap, ◌∙◌}
use Rattle.jn_host.proofs.file_keeper.read_front.Goals as goal

-- what was read of a reader that is cut short are the first of its bytes
cut : (known inner : Option (List ℕ)) (limit : ℕ) (bytes before : List ℕ) → inner ≡ known → limit ≡ 10261075 → before ≡ [] → IfSome (option_map (take limit) inner) (λ xs. bytes ≡ before ++ xs) → IfSome known (λ xs. bytes ≡ take 10261075 xs)
cut None inner limit bytes before same bound fresh read = rw same at read
cut (Some xs) inner limit bytes before same bound fresh read =
    (rw same at read) ∙ ap (λ front. front ++ take limit xs) fresh ∙ ap (λ n. take n xs) bound

pub returns : goal.returns
returns g c = record { front = cut (g.F.Read.remaining c.args.file) (g.F.Read.remaining c.take.result.inner) c.take.result.limit c.read_to_end.new.buf.items c.new-bytes.result.items (ap g.F.Read.remaining c.take.ensures.inner) c.take.ensures.limit c.new-bytes.ensures.items c.in_ok-read_to_end.ensures.bytes }
