-- Worked values: three cores signal to a fourth.
use Rattle.std.proofs.Common.{◌≡◌, ℕ, true, false, [], ◌∷◌, Some, None, refl}
use Rattle.std.specs.declared.cmp.Reverse.{Reverse}
use Rattle.mcs_mail.specs.declared.mail.Mail.{Mail}
use Rattle.mcs_mail.specs.declared.late.Numbered.{Numbered}
use Rattle.mcs_mail.specs.Box.{put, put_all, arriving, staying, due, without_due, first_arrival}
use Rattle.mcs_mail.specs.stored.Late.{late_is_first}
use Rattle.mcs_mail.specs.stored.Numbers.{numbered, in_order, mails_of}

-- the badge tells the mail apart
abbrev mail : ℕ → ℕ → ℕ → ℕ → Mail
mail arrives made maker badge = record { arrives = arrives; made = made; maker = maker; note = 0; badge = badge }

by_arrival : put_all (mail 7 3 0 1 ∷ mail 5 3 1 2 ∷ mail 6 3 2 3 ∷ []) [] ≡ mail 5 3 1 2 ∷ mail 6 3 2 3 ∷ mail 7 3 0 1 ∷ []
by_arrival = refl

by_making_before_maker : put_all (mail 7 4 0 1 ∷ mail 7 3 2 2 ∷ mail 7 3 1 3 ∷ []) [] ≡ mail 7 3 1 3 ∷ mail 7 3 2 2 ∷ mail 7 4 0 1 ∷ []
by_making_before_maker = refl

equal_mail_behind : put (mail 7 3 1 9) (mail 7 3 1 8 ∷ mail 7 3 2 1 ∷ []) ≡ mail 7 3 1 8 ∷ mail 7 3 1 9 ∷ mail 7 3 2 1 ∷ []
equal_mail_behind = refl

what_arrives_at_five : arriving 5 (mail 5 3 1 2 ∷ mail 5 4 0 1 ∷ mail 6 3 2 3 ∷ []) ≡ mail 5 3 1 2 ∷ mail 5 4 0 1 ∷ []
what_arrives_at_five = refl

what_stays_at_five : staying 5 (mail 5 3 1 2 ∷ mail 5 4 0 1 ∷ mail 6 3 2 3 ∷ []) ≡ mail 6 3 2 3 ∷ []
what_stays_at_five = refl

none_is_due_before : due 4 (mail 5 3 1 2 ∷ mail 6 3 2 3 ∷ []) ≡ None
none_is_due_before = refl

the_first_is_due : due 6 (mail 5 3 1 2 ∷ mail 6 3 2 3 ∷ []) ≡ Some (mail 5 3 1 2)
the_first_is_due = refl

and_leaves : without_due 6 (mail 5 3 1 2 ∷ mail 6 3 2 3 ∷ []) ≡ mail 6 3 2 3 ∷ []
and_leaves = refl

the_next_arrives_at_five : first_arrival (mail 5 3 1 2 ∷ mail 6 3 2 3 ∷ []) ≡ Some 5
the_next_arrives_at_five = refl

-- late mail in a heap, and a ring
abbrev held : ℕ → Mail → Reverse Numbered
held number m = record { 0 = numbered number m }

equal_mail_by_number : mails_of (in_order (held 4 (mail 6 3 1 7) ∷ held 2 (mail 6 3 1 9) ∷ held 3 (mail 5 3 2 8) ∷ [])) ≡ mail 5 3 2 8 ∷ mail 6 3 1 9 ∷ mail 6 3 1 7 ∷ []
equal_mail_by_number = refl

late_mail_comes_first : late_is_first (mail 5 3 1 2 ∷ []) (mail 5 3 2 1 ∷ []) ≡ true
late_mail_comes_first = refl

but_not_of_equal_mail : late_is_first (mail 5 3 1 2 ∷ []) (mail 5 3 1 1 ∷ []) ≡ false
but_not_of_equal_mail = refl

late_mail_is_put_into_the_ring : put_all (mail 5 3 1 2 ∷ mail 6 3 1 4 ∷ []) (mail 5 3 1 1 ∷ mail 6 3 0 3 ∷ mail 7 3 0 5 ∷ []) ≡ mail 5 3 1 1 ∷ mail 5 3 1 2 ∷ mail 6 3 0 3 ∷ mail 6 3 1 4 ∷ mail 7 3 0 5 ∷ []
late_mail_is_put_into_the_ring = refl
