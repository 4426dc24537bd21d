-- The whole stretch is at other places, or none of it is given.
use Rattle.std.proofs.Common.{sym, ap, ◌∙◌}
use Rattle.mcs_origins.specs.stored.Stretches.{all_of}
use Rattle.mcs_origins.proofs.Places.{all-given, none-given}
use Rattle.mcs_origins.proofs.stretches.given.Goals as goal

pub returns-then-is_at : goal.returns-then-is_at
returns-then-is_at c =
    let a = c.args.stretch.now in
    ap all_of c.put_at.ensures ∙ ap (λ b. all_of (record a { places = b })) c.from.ensures
    ∙ sym (all-given a c.args.places c.args.badge (sym c.is_at.ensures ∙ c.if-is_at.true))

pub returns-else-is_at : goal.returns-else-is_at
returns-else-is_at c = sym (none-given c.args.stretch.now c.args.places c.args.badge (sym c.is_at.ensures ∙ c.if-is_at.false))
