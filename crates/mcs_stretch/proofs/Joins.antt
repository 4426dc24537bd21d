-- The inbox by later clocks is the inbox by earlier ones with the signals that were made between them.
use Rattle.std.proofs.Common.{◌≡◌, ◌<◌, ◌≤◌, Bool, true, false, ◌⊎◌, inl, inr, refl, sym, ap, ◌∙◌, arith}
use Rattle.std.specs.Prelude.{nat_lt, slice_index}
use Rattle.std.proofs.lemmas.Bool.Decides.{nat_tests}
use Rattle.mcs_mail.specs.declared.mail.Mail.{Mail}
use Rattle.mcs_mail.specs.Box.{put_all, IsIn, Differ}
use Rattle.mcs_mail.proofs.Orders.{same_list, from_put_all, in_put_all, order-put_all}
use Rattle.mcs_system.specs.System.{System, TakesTime}
use Rattle.mcs_stretch.specs.Inbox as boxes
use Rattle.mcs_stretch.specs.Inbox.{known_of, known_at, known_until, inbox, IsMade, IsFor}
use Rattle.mcs_stretch.proofs.Inboxes.{of_turn, from_inbox, in_inbox, order-inbox}

module _ (system : System) where
  -- new signals, in whichever order they are put in
  pub inbox-joined : TakesTime system → boxes.InboxesJoin system
  inbox-joined takes_time c past front later news rises fresh =
      same_list (put_all news (inbox system c past front)) (inbox system c past later)
      (order-put_all news (inbox system c past front) (order-inbox system c front past) fresh.apart (λ m x k l. differ m x (fresh.are m k).0 (from_inbox system c front past x l).0))
      (order-inbox system c later past)
      (λ x k. into x (from_put_all x news (inbox system c past front) k))
      (λ x k. in_put_all x news (inbox system c past front) (either x (from_inbox system c later past x k).0 (from_inbox system c later past x k).1))
    where
      differ : (m x : Mail) → IsMade system (slice_index front) (slice_index later) m → IsMade system (λ b. 0) (slice_index front) x → Differ m x
      differ m x p q e f =
          let i = of_turn system p.maker p.made m p.is in
          let j = of_turn system q.maker q.made x q.is in
          let g : p.maker ≡ q.maker = sym i.maker ∙ f ∙ j.maker in
          let h : p.made ≡ q.made = sym i.made ∙ e ∙ j.made in
          let k : slice_index front p.maker ≡ slice_index front q.maker = ap (slice_index front) g in
          absurd (omega (arith, p.from, q.before))

      into : (x : Mail) → IsIn x news ⊎ IsIn x (inbox system c past front) → IsIn x (inbox system c past later)
      into x (inl k) =
          let p = (fresh.are x k).0 in
          in_inbox system c later takes_time past x (record { maker = p.maker; made = p.made; known = p.known; from = omega arith; before = p.before; is = p.is }) (fresh.are x k).1
      into x (inr k) =
          let p = (from_inbox system c front past x k).0 in
          let l = rises p.maker p.known in
          in_inbox system c later takes_time past x (record { maker = p.maker; made = p.made; known = p.known; from = omega arith; before = omega (arith, p.before); is = p.is }) (from_inbox system c front past x k).1

      either : (x : Mail) → IsMade system (λ b. 0) (slice_index later) x → IsFor system c past x → IsIn x news ⊎ IsIn x (inbox system c past front)
      either x p q = by (nat_lt p.made (slice_index front p.maker)) refl
        where
          by : (u : Bool) → nat_lt p.made (slice_index front p.maker) ≡ u → IsIn x news ⊎ IsIn x (inbox system c past front)
          by true e =
              let l : p.made < slice_index front p.maker = grind (arith, nat_tests) in
              inr (in_inbox system c front takes_time past x (record { maker = p.maker; made = p.made; known = p.known; from = omega arith; before = l; is = p.is }) q)
          by false e =
              let l : slice_index front p.maker ≤ p.made = grind (arith, nat_tests) in
              inl (fresh.all x (record { maker = p.maker; made = p.made; known = p.known; from = l; before = p.before; is = p.is }) q)
