use Rattle.std.proofs.Common.{List, ◌++◌, ◌∙◌, ap, sym}
use Rattle.jn_names.specs.declared.entry.Entry.{Entry}
use Rattle.jn_names.specs.Buckets.{bucket_in, places_in}
use Rattle.jn_names.specs.Calls.{entries_of}
use Rattle.jn_names.proofs.Fitting.{not-each, places-named, each-added}
use Rattle.jn_names.proofs.turn.add_each.Goals as goal

pub returns-then-not-is_bucket-clause-ok : goal.returns-then-not-is_bucket-clause-ok
returns-then-not-is_bucket-clause-ok c = c.refused.ensures ∙ not-each c.args.directory c.args.bucket c.args.entries.now (bucket_in c.args.bucket c.args.block.now) (sym c.is_bucket.ensures ∙ c.if-not-is_bucket.true)

pub add_entries-requires : goal.add_entries-requires
add_entries-requires c = places-named c.args.bucket c.args.block.now (sym c.is_bucket.ensures ∙ c.if-not-is_bucket.false)

pub returns-clause-ok : goal.returns-clause-ok
returns-clause-ok c = c.ask_each.ensures ∙ each-added c.args.directory c.args.bucket c.args.entries.now _ c.args.block.now (sym c.is_bucket.ensures ∙ c.if-not-is_bucket.false)
    (c.in_ok-all.ensures.ok ∙ ap (λ (others : List Entry). c.args.entries.now ++ others) (c.in_ok-add_entries.ensures ∙ ap (λ (none : List Entry). none ++ entries_of (places_in c.args.block.now)) c.new-others.ensures))
