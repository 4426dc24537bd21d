use Rattle.std.proofs.Common.{◌∙◌}
use Rattle.mcs_explain.proofs.Numbers.{number-read}
use Rattle.mcs_explain.proofs.asked.round_number.Goals as goal

pub returns : goal.returns
returns c = c.unwrap_or.ensures ∙ number-read c.args.text.now c.parse.result c.parse.ensures.value.0
