use Rattle.std.proofs.Common.{◌≡◌}
use Rattle.std.proofs.lemmas.Result.{IfOk-weaker}
use Rattle.clap.specs.Words.{rule_of}
use Rattle.clap.specs.Built.{FitsChain}
use Rattle.mcs_words.specs.CommandLine.{HasOneOrDefault, horizon_rule, workers_rule}
use Rattle.mcs_check_words.proofs.Lines.{line_is}
use Rattle.mcs_check_words.proofs.arguments.command_line.Goals as goal

pub returns : goal.returns
returns c =
    let shows = c.show.ensures.rule in
    let formats = c.format.ensures.rule in
    let horizon_is : rule_of c.help-horizon.result ≡ horizon_rule = rw c.help-horizon.ensures c.number.ensures.rule in
    let workers_is : rule_of c.help-workers.result ≡ workers_rule = rw c.help-workers.ensures c.number-2.ensures.rule in
    let horizon_fits : FitsChain c.help-horizon.result = rw c.help-horizon.ensures c.number.ensures.fits in
    let workers_fits : FitsChain c.help-workers.result = rw c.help-workers.ensures c.number-2.ensures.fits in
    let horizon_one : HasOneOrDefault c.help-horizon.result = rw c.help-horizon.ensures c.number.ensures.default in
    let workers_one : HasOneOrDefault c.help-workers.result = rw c.help-workers.ensures c.number-2.ensures.default in
    IfOk-weaker c.arg-9.result _ _ (λ line added.
    line_is _ _ _ _ _ _ _ _ _ line c.file.result c.help-horizon.result c.help-workers.result c.allow_lost.result c.strict.result c.show.result c.format.result c.why.result c.forever.result shows.0 formats.0
    c.in_ok-line.ensures c.in_ok-arg.ensures c.in_ok-line-2.ensures c.in_ok-arg-2.ensures c.in_ok-line-3.ensures c.in_ok-arg-3.ensures c.in_ok-line-4.ensures c.in_ok-arg-4.ensures added
    c.bare.ensures.app c.bare.ensures.args c.bare.ensures.groups c.bare.ensures.local c.file.ensures.rule horizon_is workers_is c.allow_lost.ensures.rule c.strict.ensures.rule shows.2 formats.2 c.why.ensures.rule c.forever.ensures.rule
    c.file.ensures.fits horizon_fits workers_fits c.allow_lost.ensures.fits c.strict.ensures.fits c.show.ensures.fits c.format.ensures.fits c.why.ensures.fits c.forever.ensures.fits horizon_one workers_one shows.1 formats.1)
    c.arg-9.ensures
