-- Mail in a heap, in order of delivery; equal mail is ordered by number. Mail that was put later
-- has a greater number.
use Rattle.std.specs.Prelude.{ℕ, ◌≤◌, ◌&&◌, ◌||◌, ◌==◌, nat_lt, if◌then◌else◌, Bool, List, [], ◌∷◌, sum_by}
use Rattle.std.specs.Ordering.{nat_cmp, ordering_then}
use Rattle.std.specs.declared.cmp.Ordering.{Ordering}
use Rattle.std.specs.declared.cmp.Reverse.{Reverse}
use Rattle.std.specs.BinaryHeap.{IsHeap}
use Rattle.mcs_mail.specs.declared.mail.Mail.{Mail}
use Rattle.mcs_mail.specs.declared.late.Numbered.{Numbered}

-- the view of contracts: the mail in order of delivery, the number of puts that surely fit, and the
-- number of the next mail
pub record LateMail : Type 0 where
  pub mails : List Mail
  pub spare : ℕ
  pub next : ℕ

-- mail with its number
abbrev pub numbered : ℕ → Mail → Numbered
numbered number mail =
    record {
      arrives = mail.arrives;
      made = mail.made;
      maker = mail.maker;
      number = number;
      note = mail.note;
      badge = mail.badge;
    }

-- .. and without it
abbrev pub mail_of : Numbered → Mail
mail_of x = record { arrives = x.arrives; made = x.made; maker = x.maker; note = x.note; badge = x.badge }

-- whether one is delivered before the other; of equal mail, the one with the smaller number
abbrev pub is_earlier : Reverse Numbered → Reverse Numbered → Bool
is_earlier a b =
    nat_lt a.0.arrives b.0.arrives
    || ((a.0.arrives == b.0.arrives)
    && (nat_lt a.0.made b.0.made
    || ((a.0.made == b.0.made)
    && (nat_lt a.0.maker b.0.maker || ((a.0.maker == b.0.maker) && nat_lt a.0.number b.0.number)))))

-- one more among these, before the first that it is earlier than
abbrev pub enter : Reverse Numbered → List (Reverse Numbered) → List (Reverse Numbered)
enter x [] = x ∷ []
enter x (y ∷ ys) = if is_earlier x y then x ∷ y ∷ ys else y ∷ enter x ys

-- the contents of a heap, the earliest first
abbrev pub in_order : List (Reverse Numbered) → List (Reverse Numbered)
in_order [] = []
in_order (x ∷ heap) = enter x (in_order heap)

-- .. and without the numbers
abbrev pub mails_of : List (Reverse Numbered) → List Mail
mails_of [] = []
mails_of (x ∷ xs) = mail_of x.0 ∷ mails_of xs

-- the heap's order: the earliest on top
abbrev pub late_cmp : Reverse Numbered → Reverse Numbered → Ordering
late_cmp x y =
    ordering_then (nat_cmp y.0.arrives x.0.arrives)
    (ordering_then (nat_cmp y.0.made x.0.made) (ordering_then (nat_cmp y.0.maker x.0.maker)
    (ordering_then (nat_cmp y.0.number x.0.number)
    (ordering_then (nat_cmp y.0.note x.0.note) (nat_cmp y.0.badge x.0.badge)))))

abbrev pub one_if : Bool → ℕ
one_if b = if b then 1 else 0

-- how often a number occurs among these
abbrev pub times : ℕ → List (Reverse Numbered) → ℕ
times number heap = sum_by (λ x. one_if (x.0.number == number)) heap

-- each number below `next` occurs at most once, and no other number occurs; the list is a heap
pub record IsNumbered (heap : List (Reverse Numbered)) (next : ℕ) : Type 0 where
  pub once : (number : ℕ) → times number heap ≤ one_if (nat_lt number next)
  pub order : IsHeap late_cmp heap
