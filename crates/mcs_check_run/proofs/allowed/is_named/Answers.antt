use Rattle.std.proofs.Common.{◌∙◌, sym, string_bytes}
use Rattle.std.specs.Str.{bytes_eq}
use Rattle.mcs_check_run.proofs.Named.{any_map}
use Rattle.mcs_check_run.proofs.allowed.is_named.Goals as goal

pub returns : goal.returns
returns c =
    c.is_among.ensures ∙ sym (any_map (λ other. bytes_eq other c.args.name.now) (λ name. string_bytes name) c.args.names.now)
