use Rattle.jn_server.proofs.Common.{◌+◌, ap, subst, sym, arith, rules, StoreView, ServerView, view_with, ◌<◌, ◌^◌, FileNo, number_after}
use Rattle.jn_server.proofs.Pieces.{is_of_lesser}
use Rattle.jn_server.proofs.Shows.{ToldBelow, told-nothing, told-more, told-cut, shown-cut, shown-whole}
use Rattle.jn_server.proofs.server.Server.show.Goals as goal

pub loop-file-init : goal.loop-file-init
loop-file-init g c =
    let look : g.row.S.Denot → StoreView = λ s. g.S.StableStore.view s in
    let v : ServerView = view_with look c.args.self.now in
    subst (λ (w : ServerView). ToldBelow v 0 w c.take_room-list.result.items) (sym (ap (view_with look) c.take_room-list.ensures.same)) (told-nothing v c.requires.serves c.take_room-list.result.items c.take_room-list.ensures.empty)

pub loop-file-preserved : goal.loop-file-preserved
loop-file-preserved g c =
    let look : g.row.S.Denot → StoreView = λ s. g.S.StableStore.view s in
    let v : ServerView = view_with look c.args.self.now in
    told-more v (number_after (λ (f : FileNo). f.0) c.loop-file.after) (view_with look c.loop-file.self) c.loop-file.list.items c.loop-file.invariant c.in-Some.file c.in-Some.ensures (view_with look c.show_file.new.self) c.show_file.new.list.items c.in_ok-show_file.ensures.shown

pub loop-file-smaller : goal.loop-file-smaller
loop-file-smaller g c = let from = c.in-Some.ensures.from_there in let k : c.in-Some.file.0 < 2 ^ 32 = search rules in omega (arith, from, k)

pub returns : goal.returns
returns g c =
    let look : g.row.S.Denot → StoreView = λ s. g.S.StableStore.view s in
    let v : ServerView = view_with look c.args.self.now in
    let w : ServerView = view_with look c.loop-file.self in
    record {
      shown = shown-whole v c.requires.serves (number_after (λ (f : FileNo). f.0) c.loop-file.after) w c.loop-file.list.items c.loop-file.invariant c.in_default.ensures;
      cut_short = tt;
    }

pub returns-in_err-show_file-clause-cut_short : goal.returns-in_err-show_file-clause-cut_short
returns-in_err-show_file-clause-cut_short g c =
    let look : g.row.S.Denot → StoreView = λ s. g.S.StableStore.view s in
    let v : ServerView = view_with look c.args.self.now in
    let n = number_after (λ (f : FileNo). f.0) c.loop-file.after in
    let w : ServerView = view_with look c.loop-file.self in
    let x : ServerView = view_with look c.show_file.new.self in
    let f = c.in-Some.file in
    let fault = c.in_err-show_file.field-0.0 in
    shown-cut v c.requires.serves (is_of_lesser (f.0 + 1)) x fault c.from_residual.result c.from_residual.ensures.0 c.from_residual.ensures.1
    (told-cut v n w c.loop-file.list.items c.loop-file.invariant f c.in-Some.ensures x fault c.in_err-show_file.ensures.cut)
