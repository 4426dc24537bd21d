-- A pair of cores as one number.
use Rattle.std.proofs.Common.{◌≢◌, ℕ, ◌+◌, ◌*◌, ◌<◌, List, All, AllPairs, arith}
use Rattle.mcs_system.specs.declared.part.Link.{Link}
use Rattle.mcs_system.specs.WellFormed.{DifferInCores}

-- the number of the pair of cores that a link has
abbrev pub pair_of : Link → ℕ
pair_of link = link.maker * 64 + link.home

abbrev pub AreCores : Link → Type 0
AreCores link = (link.maker < 64) × (link.home < 64)

pub differ_by_number : (links : List Link) → AllPairs (λ a b. pair_of a ≢ pair_of b) links → AllPairs DifferInCores links
differ_by_number links numbers i j x less within (makers, homes) =
    numbers i j x less within (omega (arith, makers, homes))

pub number_differs : (links : List Link) → All AreCores links → AllPairs DifferInCores links → AllPairs (λ a b. pair_of a ≢ pair_of b) links
number_differs links cores differ i j x less within same =
    let a = cores i x (omega arith) in
    let b = cores j x within in
    differ i j x less within (omega (arith, a.0, a.1, b.0, b.1, same), omega (arith, a.0, a.1, b.0, b.1, same))
