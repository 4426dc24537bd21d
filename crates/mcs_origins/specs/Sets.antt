-- Sets of origins. A set has its latest origin first. A place is a bit of a word, 1 to 2^31, or a thread's free set, 2^32.
use Rattle.std.specs.Prelude.{ℕ, Bool, ◌==◌, not, nat_lt, if◌then◌else◌, bit_and, bit_or, List, [], ◌∷◌, map, filter}
use Rattle.std.specs.List.{list_any}
use Rattle.mcs_origins.specs.declared.mark.Mark.{Mark}
use Rattle.mcs_origins.specs.declared.taking.Taking.{Taking}
use Rattle.mcs_origins.specs.declared.taking.Taking.TheVariants.{First, Later}

-- an origin that is in both sets is at the places of both
abbrev pub both : Mark → Mark → Mark
both a b = record a { places = bit_or a.places b.places }

abbrev join_first : Mark → (List Mark → List Mark) → List Mark → List Mark
join_first a rest [] = a ∷ rest []
join_first a rest (b ∷ others) =
    if nat_lt b.origin a.origin then a ∷ rest (b ∷ others)
    else if nat_lt a.origin b.origin then b ∷ join_first a rest others
    else both a b ∷ rest others

-- the origins of two sets in one
abbrev pub join : List Mark → List Mark → List Mark
join [] others = others
join (a ∷ set) others = join_first a (join set) others

-- whether an origin is at one of these places
abbrev pub is_at : ℕ → Mark → Bool
is_at places mark = not (bit_and mark.places places == 0)

-- what a set has at these places
abbrev pub at_places : ℕ → List Mark → List Mark
at_places places set = filter (is_at places) set

-- an origin at these places instead
abbrev pub put_at : ℕ → Mark → Mark
put_at places mark = record mark { places = places }

-- an origin, at those of its places that are among these
abbrev pub keep_at : ℕ → Mark → Mark
keep_at places mark = record mark { places = bit_and mark.places places }

-- what a signal carries
abbrev pub given : ℕ → ℕ → List Mark → List Mark
given places badge set = map (put_at badge) (at_places places set)

-- what a thread takes
abbrev pub taken : Taking → List Mark → List Mark
taken (First bits) set = map (keep_at bits) (at_places bits set)
taken (Later places) set = map (put_at places) set

-- whether an origin is one of these
abbrev pub is_one_of : List ℕ → ℕ → Bool
is_one_of origins origin = list_any (λ other. other == origin) origins

-- a set without the origins that were answered
abbrev pub without : List ℕ → List Mark → List Mark
without answered set = filter (λ mark. not (is_one_of answered mark.origin)) set
