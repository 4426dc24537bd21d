-- The maximum delay of signals.
use Rattle.std.proofs.Common.{◌≡◌, ℕ, ◌≤◌, max, Bool, true, false, List, [], ◌∷◌, ◌++◌, arith}
use Rattle.std.specs.Prelude.{◌==◌, ◌&&◌, if◌then◌else◌}
use Rattle.mcs_system.specs.declared.part.Link.{Link}
use Rattle.mcs_system.specs.System.{System, delay_by_link, delay_between}

abbrev pub AreAtMost : ℕ → List Link → Type 0
AreAtMost most [] = Unit {0}
AreAtMost most (link ∷ links) = (link.delay ≤ most) × AreAtMost most links

pub at-most-more : (a b : ℕ) (links : List Link) (link : Link) → AreAtMost a links → b ≡ max a link.delay → AreAtMost b (links ++ link ∷ [])
at-most-more a b [] link h e = (omega (arith, e), tt)
at-most-more a b (first ∷ links) link h e = ((let l = h.0 in omega (arith, l, e)), at-most-more a b links link h.1 e)

if-most : (b : Bool) (x y most : ℕ) → x ≤ most → y ≤ most → (if b then x else y) ≤ most
if-most true x y most l k = l
if-most false x y most l k = k

delay-most : (links : List Link) (maker home delay most : ℕ) → delay ≤ most → AreAtMost most links → delay_by_link links maker home delay ≤ most
delay-most [] maker home delay most l h = l
delay-most (link ∷ links) maker home delay most l h =
    if-most ((link.maker == maker) && (link.home == home)) link.delay (delay_by_link links maker home delay) most h.0 (delay-most links maker home delay most l h.1)

pub between-most : (system : System) (most : ℕ) → system.delay ≤ most → AreAtMost most system.links → (maker home : ℕ) → delay_between system maker home ≤ most
between-most system most l h maker home = delay-most system.links maker home system.delay most l h
