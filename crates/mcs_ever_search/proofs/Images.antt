-- A core that is another one, later.
use Rattle.std.proofs.Common.{◌≡◌, ℕ, ◌<◌, Bool, true, List, map, length, get_or, sym, ap, ◌∙◌, arith}
use Rattle.std.proofs.lemmas.List.FromFn.{get_or-map-range_with_len, length-map-range_with_len}
use Rattle.mcs_system.specs.System.{System}
use Rattle.mcs_core.specs.Core.{Core}
use Rattle.mcs_core.specs.Clock.{core_shown, world}
use Rattle.mcs_ever.specs.Later.{Shift, later_core}
use Rattle.mcs_ever.specs.Closed.{has}
use Rattle.mcs_laws.specs.Turns.{cores}
use Rattle.mcs_ever_again.specs.Snapshot.{Snapshot, IsOfClock}
use Rattle.mcs_ever_search.specs.Compared.{CoresAreLater}

pub again-at : (system : System) (kept clock : ℕ) (group : List Bool) (shifts : ℕ → Shift) (before : List Core) (core : ℕ) (image now : Core) →
    before ≡ map (core_shown system (world system kept)) (cores system) → core < system.cores → has group core ≡ true →
    CoresAreLater system kept clock group shifts → image ≡ get_or before core image → now ≡ core_shown system (world system clock) core →
    now ≡ later_core (shifts core) image
again-at system kept clock group shifts before core image now all known own later at is =
    let shown : ℕ → Core = core_shown system (world system kept) in
    let image-is : image ≡ shown core =
    at ∙ ap (λ (cores : List Core). get_or cores core image) all ∙ get_or-map-range_with_len shown 0 system.cores core core image known (omega arith) in
    is ∙ later core known own ∙ ap (later_core (shifts core)) (sym image-is)

pub images-many : (system : System) (snapshot : Snapshot) → IsOfClock system snapshot → length snapshot.each ≡ system.cores
images-many system snapshot is =
    ap length is.each ∙ length-map-range_with_len (core_shown system (world system snapshot.moment)) 0 system.cores
