-- Releases that are later, place by place, and queues that are the same.
use Rattle.std.proofs.Common.{◌≡◌, ℕ, ◌<◌, Bool, ◌&&◌, Decides, List, length, map, get_or, sym, ◌∙◌, arith}
use Rattle.std.specs.Prelude.{◌==◌}
use Rattle.std.proofs.lemmas.Bool.Decides.{nat_tests}
use Rattle.std.proofs.lemmas.List.{get_or-map, length-map, ext_get_or}
use Rattle.mcs_ticks.specs.declared.queue.Queued.{Queued}
use Rattle.mcs_release.specs.declared.dated.Dated.{Dated}
use Rattle.mcs_ever.specs.Later.{later_dated}

abbrev pub same_queued : Queued → Queued → Bool
same_queued a b = a.thread == b.thread && a.priority == b.priority

pub same_queued-decides : (a b : Queued) → Decides (same_queued a b) (a ≡ b)
same_queued-decides a b = (λ e. grind (arith, nat_tests), λ e. grind (arith, nat_tests))

-- past the end of a list
abbrev pub no_release : Dated
no_release = record { thread = 0; date = 0 }

-- releases that are later in each place are the others, later
pub releases-all-later : (by : ℕ) (before after : List Dated) → length before ≡ length after →
    ((k : ℕ) → k < length before → get_or after k no_release ≡ later_dated by (get_or before k no_release)) →
    after ≡ map (later_dated by) before
releases-all-later by before after many at =
    ext_get_or no_release after (map (later_dated by) before) (sym many ∙ sym (length-map before (later_dated by)))
    (λ k l.
    let within : k < length before = omega (arith, many, l) in
    at k within ∙ sym (get_or-map (later_dated by) before k no_release no_release within))
