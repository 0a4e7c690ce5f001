use Rattle.jn_options.proofs.Common.{◌∙◌, map, string_bytes, app_of}
use Rattle.jn_options.proofs.Commands.{refused, taken}
use Rattle.jn_options.proofs.command.matches_in.Goals as goal

pub returns-in-Ok : goal.returns-in-Ok
returns-in-Ok c =
    taken (app_of c.in_ok-command.command) c.in_ok-command.ensures (map string_bytes c.args.words.now) c.in-Ok.matches c.in-Ok.ensures.kinds c.in-Ok.ensures.matches

pub returns : goal.returns
returns c =
    refused (app_of c.in_ok-command.command) c.in_ok-command.ensures (map string_bytes c.args.words.now) c.in-Err.error
    (λ memory. c.in_default.not-OutOfMemory (c.kind.ensures ∙ memory)) c.in-Err.ensures.kinds
