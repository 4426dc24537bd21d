use Rattle.std.proofs.Common.{◌∙◌, sym}
use Rattle.std.specs.Str.{bytes_eq}
use Rattle.std.proofs.lemmas.List.Quantifiers.{position-Some}
use Rattle.mcs_system.specs.System.{no_thread}
use Rattle.mcs_explain.proofs.asked.thread_named.Goals as goal

pub returns-in-Some-clause-known : goal.returns-in-Some-clause-known
returns-in-Some-clause-known c =
    (position-Some (λ part. bytes_eq part.name c.args.name.now) c.args.parts.now.threads c.in-Some.place no_thread (sym c.place_of_thread.ensures ∙ c.in-Some.is)).0
