-- The whole stretch is at other places, or none of it is taken.
use Rattle.std.proofs.Common.{◌≡◌, sym, ap, ◌∙◌, not}
use Rattle.std.specs.Prelude.{◌==◌, bit_and}
use Rattle.mcs_origins.specs.Sets.{taken}
use Rattle.mcs_origins.specs.stored.Stretches.{all_of}
use Rattle.mcs_origins.proofs.Places.{all-kept, all-put, none-kept}
use Rattle.mcs_origins.proofs.stretches.taken.Goals as goal

pub returns-in-First : goal.returns-in-First
returns-in-First c =
    let a = c.args.stretch.now in
    sym (ap (λ t. taken t (all_of a)) c.in-First.is ∙ none-kept a c.in-First.bits (sym c.is_at.ensures ∙ c.if-not-is_at.true))

pub returns-in-First-2 : goal.returns-in-First-2
returns-in-First-2 c =
    let a = c.args.stretch.now in
    let same : c.in-First-2.bits ≡ c.in-First.bits = cc in
    let here = ap (λ b. not (bit_and a.places b == 0)) same ∙ sym c.is_at.ensures ∙ c.if-not-is_at.false in
    ap all_of c.put_at.ensures ∙ sym (ap (λ t. taken t (all_of a)) c.in-First-2.is ∙ all-kept a c.in-First-2.bits here)

pub returns-in-Later : goal.returns-in-Later
returns-in-Later c =
    let a = c.args.stretch.now in
    ap all_of c.put_at-in-Later.ensures ∙ sym (ap (λ t. taken t (all_of a)) c.in-Later.is ∙ all-put a c.in-Later.places)
