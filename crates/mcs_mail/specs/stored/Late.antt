-- Mail in order of delivery in a ring, and late mail. Mail is late if it was put out of order: it
-- is delivered before the last of the ring.
use Rattle.std.specs.Prelude.{◌≡◌, ℕ, ◌+◌, ◌≤◌, Bool, true, false, nat_lt, if◌then◌else◌, List, [], ◌∷◌, length, Option, Some, None}
use Rattle.mcs_mail.specs.declared.mail.Mail.{Mail}
use Rattle.mcs_mail.specs.Box.{first_arrival, is_before, IsIn, IsOrdered}

-- the last of these, or `mail` if there are none
abbrev pub last_or : Mail → List Mail → Mail
last_or mail [] = mail
last_or mail (first ∷ others) = last_or first others

-- both are in order, all late mail is delivered strictly before the last of the ring, and the ring
-- has room for it
pub record IsMerged (late ring : List Mail) (capacity : ℕ) : Type 0 where
  pub late_ordered : IsOrdered late
  pub ring_ordered : IsOrdered ring
  pub before_last : (mail : Mail) → IsIn mail late → is_before mail (last_or mail ring) ≡ true
  pub room : length ring + length late ≤ capacity

-- whether the first mail is late; of equal mail, the one in the ring was put earlier
abbrev pub late_is_first : List Mail → List Mail → Bool
late_is_first [] ring = false
late_is_first (first ∷ late) [] = false
late_is_first (first ∷ late) (front ∷ ring) = is_before first front

-- when the sooner of the first of the ring and the first late mail arrives
abbrev pub sooner_of : Option Mail → Option Mail → Option ℕ
sooner_of None late = None
sooner_of (Some front) None = Some front.arrives
sooner_of (Some front) (Some late) = Some (if nat_lt late.arrives front.arrives then late.arrives else front.arrives)

-- the mail is in order, and `next` is when its first arrives
pub record IsNoted (mails : List Mail) (next : Option ℕ) : Type 0 where
  pub first : next ≡ first_arrival mails
  pub ordered : IsOrdered mails
