-- The round that is sought, by what is kept.
use Rattle.std.proofs.Common.{◌≡◌, ℕ, List, Option, None, sym, ap, ◌∙◌}
use Rattle.mcs_ticks.specs.declared.row.Row.{Row}
use Rattle.mcs_system.specs.System.{System}
use Rattle.mcs_verdict.specs.Rounds.{activated_of, rounds_of}
use Rattle.mcs_verdict.specs.Misses.{word_set}
use Rattle.mcs_why.specs.declared.span.Span.{Span}
use Rattle.mcs_why.specs.declared.trail.Trail.{Trail}
use Rattle.mcs_why.specs.Spans.{span_in, to_begin, waits_since, comes_since, open_by, open_of, open_if, sought_by, sought}
use Rattle.mcs_why.specs.Search.{trail_of}

-- the round that has not ended, by what is kept
pub told_open : (system : System) (thread number : ℕ) (past : List Row) (horizon : ℕ) (trail : Trail) (at set : Option ℕ)
    → trail ≡ trail_of system thread number past
    → at ≡ activated_of system thread past horizon → set ≡ word_set system past thread
    → open_by trail.thread trail.core trail.ended horizon trail.begun at trail.waited (to_begin trail.standing set)
    (waits_since trail.standing trail.stopped) (comes_since trail.standing trail.free)
    ≡ open_of system horizon past thread
told_open system thread number past horizon trail at set e is word =
    let kept = trail_of system thread number past in
    ap
    (λ (trail : Trail). open_by trail.thread trail.core trail.ended horizon trail.begun at trail.waited (to_begin trail.standing set)
    (waits_since trail.standing trail.stopped) (comes_since trail.standing trail.free))
    e
    ∙ ap
    (λ at. open_by thread kept.core kept.ended horizon kept.begun at kept.waited (to_begin kept.standing set)
    (waits_since kept.standing kept.stopped) (comes_since kept.standing kept.free))
    is
    ∙ ap
    (λ set. open_by thread kept.core kept.ended horizon kept.begun (activated_of system thread past horizon) kept.waited
    (to_begin kept.standing set) (waits_since kept.standing kept.stopped) (comes_since kept.standing kept.free))
    word

-- the round that is sought, if it has not ended
pub told_sought : (system : System) (thread number : ℕ) (past : List Row) (horizon : ℕ) (trail : Trail) (unended : Option Span)
    → trail ≡ trail_of system thread number past
    → trail.found ≡ None → unended ≡ open_of system horizon past thread
    → open_if trail.number trail.ended unended ≡ sought system horizon past thread number
told_sought system thread number past horizon trail unended e none is =
    let found : span_in system thread number past ≡ None = sym (ap (λ (trail : Trail). trail.found) e) ∙ none in
    ap (λ (trail : Trail). open_if trail.number trail.ended unended) e
    ∙ ap (open_if number (rounds_of thread past)) is
    ∙ ap (λ span. sought_by number (rounds_of thread past) span (open_of system horizon past thread)) (sym found)
