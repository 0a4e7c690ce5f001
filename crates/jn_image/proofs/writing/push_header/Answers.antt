use Rattle.jn_image.proofs.Common.{rules, on_ok_weaker, ◌≡◌, ◌++◌, ◌∷◌, [], ◌∙◌, ◌<◌, ◌%◌, ℕ, List, refl, arith, append_assoc, big_bytes, header_bytes}
use Rattle.jn_image.proofs.writing.push_header.Goals as goal

pub returns : goal.returns
returns c =
    let out = c.args.out.now.items in
    let image = c.args.image.now in
    let name : List ℕ = 74 ∷ 85 ∷ 78 ∷ 73 ∷ 77 ∷ 65 ∷ 71 ∷ 69 ∷ [] in
    let version = image.version ∷ [] in
    let server = image.server.0 ∷ [] in
    let pool = big_bytes 2 image.pool in
    let heads = big_bytes 2 image.heads in
    let leaves = big_bytes 2 image.leaves in
    let a : image.version < 256 = search rules in
    let b : image.server.0 < 256 = search rules in
    let one : image.version % 256 ≡ image.version = omega (arith, a) in
    let two : image.server.0 % 256 ≡ image.server.0 = omega (arith, b) in
    let spelled : out ++ (name ++ (version ++ (server ++ (pool ++ (heads ++ leaves))))) ≡ out ++ header_bytes image = rw (one, two) refl in
    on_ok_weaker c.push_u16-3.result
    (λ e. e ∙ rw (c.in_ok-push_u16-2.ensures, c.in_ok-push_u16.ensures, c.in_ok-push-2.ensures.items, c.in_ok-push.ensures.items, c.in_ok-extend_from_slice.ensures.items)
    (append_assoc ((((out ++ name) ++ version) ++ server) ++ pool) heads leaves
    ∙ append_assoc (((out ++ name) ++ version) ++ server) pool (heads ++ leaves)
    ∙ append_assoc ((out ++ name) ++ version) server (pool ++ (heads ++ leaves))
    ∙ append_assoc (out ++ name) version (server ++ (pool ++ (heads ++ leaves)))
    ∙ append_assoc out name (version ++ (server ++ (pool ++ (heads ++ leaves))))
    ∙ spelled))
    c.push_u16-3.ensures
