-- Rows that change nothing of what is kept.
use Rattle.std.specs.Prelude.{Bool, true, false, not, ◌&&◌, ◌==◌, if◌then◌else◌, List, [], ◌∷◌, get_or}
use Rattle.mcs_ticks.specs.declared.row.What.{What}
use Rattle.mcs_ticks.specs.declared.row.What.TheVariants as row
use Rattle.mcs_system.specs.declared.part.ChainPart.{ChainPart}
use Rattle.mcs_chain.specs.declared.moves.Move.{Move}
use Rattle.mcs_chain.specs.declared.moves.Move.TheVariants.{Nothing, Start, Give, Send, Land, Hold, Wake, Got, End}
use Rattle.mcs_chain.specs.Origins.{Origins}
use Rattle.mcs_chain.specs.Watch.{One}

-- a row of such a kind moves no origin and takes no thread to another step
abbrev pub is_quiet : What → Bool
is_quiet (row.Release x) = true
is_quiet (row.Run x) = true
is_quiet (row.Stop x cause charged until) = true
is_quiet (row.Order context) = true
is_quiet _ = false

abbrev pub is_none : {A : Type 0} → List A → Bool
is_none [] = true
is_none (x ∷ xs) = false

-- a row of this effect moves none of the chain's origins, if the row before it posts none
abbrev pub are_apart : ChainPart → Move → Origins → Bool
are_apart chain Nothing o = true
are_apart chain (Start source badge) o = not (source == chain.source)
are_apart chain (Give thread places badge) o = is_none (get_or o.carried thread [])
are_apart chain (Send thread places badge note maker made) o = is_none (get_or o.carried thread [])
are_apart chain (Land note maker made) o = is_none o.under_way
are_apart chain (Hold note) o = true
are_apart chain (Wake thread taking) o = true
are_apart chain (Got thread note taking) o = is_none (get_or o.held note [])
are_apart chain (End thread word) o = is_none (get_or o.carried thread [])

-- the latest row posts and answers nothing, and no slow answer has its moment
abbrev pub is_still : One → Bool
is_still one = (is_none one.origins.posted && is_none one.origins.answered) && is_none one.late

abbrev pub are_still : List One → Bool
are_still [] = true
are_still (one ∷ each) = is_still one && are_still each

-- no slow answer has the moment of the latest row
abbrev pub have_late : List One → Bool
have_late [] = false
have_late (one ∷ each) = if is_none one.late then have_late each else true
