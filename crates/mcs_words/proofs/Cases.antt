-- Results of some command lines.
use Rattle.std.proofs.Common.{◌≡◌, refl, true, codes, [], ◌∷◌, map, Some}
use Rattle.std.specs.Borrow.{Bor}
use Rattle.clap.specs.Words.{App, fault_of, first_of, matches_of, takes}
use Rattle.clap.specs.declared.error.kind.ErrorKind.TheVariants as kind
use Rattle.clap.proofs.OnLiterals.{clap_on_literals}
use Rattle.mcs_words.specs.CommandLine.{command_line, number_of, show_words, text_of}

abbrev at : {X : Type 0} → X → Bor X
at x = record { ref_ptr = (0, 0); now = x }

abbrev line : App
line = command_line (at (map at show_words))

no_words : takes line [] ≡ true
unfolding clap_on_literals
no_words = refl

defaults : number_of (codes "horizon") (matches_of line []) ≡ 1000
unfolding clap_on_literals
defaults = refl

many : (takes line (codes "in.toml" ∷ codes "--horizon=10" ∷ codes "--show" ∷ codes "both" ∷ []) ≡ true)
    × (number_of (codes "horizon") (matches_of line (codes "in.toml" ∷ codes "--horizon=10" ∷ codes "--show" ∷ codes "both" ∷ [])) ≡ 10)
    × (text_of (codes "show") (matches_of line (codes "in.toml" ∷ codes "--horizon=10" ∷ codes "--show" ∷ codes "both" ∷ [])) ≡ codes "both")
    × (first_of (codes "FILE") (matches_of line (codes "in.toml" ∷ codes "--horizon=10" ∷ codes "--show" ∷ codes "both" ∷ [])) ≡ Some (codes "in.toml"))
unfolding clap_on_literals
many = (refl, refl, refl, refl)

help : fault_of line (codes "--help" ∷ []) ≡ kind.DisplayHelp ∷ []
unfolding clap_on_literals
help = refl

zero_workers : fault_of line (codes "--workers" ∷ codes "0" ∷ []) ≡ kind.ValueValidation ∷ []
unfolding clap_on_literals
zero_workers = refl

other_show : fault_of line (codes "--show" ∷ codes "all" ∷ []) ≡ kind.InvalidValue ∷ []
unfolding clap_on_literals
other_show = refl

twice : fault_of line (codes "--horizon=1" ∷ codes "--horizon=2" ∷ []) ≡ kind.ArgumentConflict ∷ []
unfolding clap_on_literals
twice = refl

no_version : fault_of line (codes "--version" ∷ []) ≡ kind.UnknownArgument ∷ []
unfolding clap_on_literals
no_version = refl

too_far : fault_of line (codes "--horizon" ∷ codes "1099511627777" ∷ []) ≡ kind.ValueValidation ∷ []
unfolding clap_on_literals
too_far = refl
