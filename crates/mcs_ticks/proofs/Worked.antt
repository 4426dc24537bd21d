-- Worked values of numbers as they are given.
use Rattle.std.proofs.Common.{◌≡◌, ◌-◌, ◌^◌, ◌+◌, refl}
use Rattle.std.specs.Prelude.{Some, None}
use Rattle.mcs_ticks.specs.Capped.{capped, one_more}
use Rattle.mcs_ticks.specs.Soonest.{moment_of, sooner, before}

given_as_it_is : capped 7 ≡ 7
given_as_it_is = refl

the_greatest_that_is_given : capped (2 ^ 64 - 1) ≡ 2 ^ 64 - 1
the_greatest_that_is_given = refl

greater_is_the_greatest : capped (2 ^ 64 + 7) ≡ 2 ^ 64 - 1
greater_is_the_greatest = refl

one_more_than_7 : one_more 7 ≡ 8
one_more_than_7 = refl

no_more_than_the_greatest : one_more (2 ^ 64 - 1) ≡ 2 ^ 64 - 1
no_more_than_the_greatest = refl

-- of two moments the sooner one, and a moment is sooner than never
sooner_is_the_lesser : sooner (Some 7) (Some 5) ≡ Some 5
sooner_is_the_lesser = refl

a_moment_is_before_never : sooner None (Some 5) ≡ Some 5
a_moment_is_before_never = refl

the_latest_moment : moment_of (2 ^ 42) ≡ Some (2 ^ 42)
the_latest_moment = refl

later_is_never : moment_of (2 ^ 42 + 1) ≡ None
later_is_never = refl

not_before_itself : before 5 (Some 5) ≡ None
not_before_itself = refl
