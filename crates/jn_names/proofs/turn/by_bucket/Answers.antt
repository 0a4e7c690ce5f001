use Rattle.std.proofs.Common.{◌∙◌, sym}
use Rattle.jn_names.proofs.Fitting.{by-none, by-reply, by-write}
use Rattle.jn_names.proofs.turn.by_bucket.Goals as goal

pub returns-then-not-is_bucket : goal.returns-then-not-is_bucket
returns-then-not-is_bucket c = c.refused.ensures ∙ by-none c.args.command.now c.bucket_of_name-bucket.result c.args.block.now c.bucket_of_name-bucket.ensures (sym c.if-not-is_bucket.true ∙ c.is_bucket.ensures)

pub returns-in-Some : goal.returns-in-Some
returns-in-Some c = by-reply c.args.command.now c.bucket_of_name-bucket.result c.args.block.now c.bucket_of_name-bucket.ensures c.in-Some.reply c.made_of.new.block (sym c.if-not-is_bucket.false ∙ c.is_bucket.ensures) c.in-Some.ensures

pub returns-in_ok-from_block-in-None : goal.returns-in_ok-from_block-in-None
returns-in_ok-from_block-in-None c = by-write c.args.command.now c.bucket_of_name-bucket.result c.args.block.now c.bucket_of_name-bucket.ensures c.directory_of.result c.made_of.new.block _ c.directory_of.ensures (sym c.if-not-is_bucket.false ∙ c.is_bucket.ensures) c.in-None.ensures c.in_ok-from_block-in-None.ensures
