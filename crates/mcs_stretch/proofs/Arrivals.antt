-- Before the moment that the others' clocks allow, a core is reached only by signals that they have made already.
use Rattle.std.proofs.Common.{◌≡◌, ℕ, ◌+◌, ◌<◌, ◌≤◌, Bool, true, false, ◌&&◌, cond, List, [], ◌∷◌, inl, inr, refl, ◌∙◌, arith}
use Rattle.std.specs.Prelude.{filter, ◌==◌, nat_lt, slice_index}
use Rattle.std.proofs.lemmas.Bool.Decides.{nat_tests}
use Rattle.mcs_mail.specs.declared.mail.Mail.{Mail}
use Rattle.mcs_mail.specs.Box.{IsIn}
use Rattle.mcs_merge.proofs.Merges.{flat_map-same}
use Rattle.mcs_system.specs.System.{System, note_part, TakesTime}
use Rattle.mcs_core.specs.Clock as clocks
use Rattle.mcs_core.proofs.Clock.{sent_at, mails-world}
use Rattle.mcs_stretch.specs.Inbox.{known_of, known_at}
use Rattle.mcs_stretch.specs.Stretch.{NothingArrivesBefore}

module _ (system : System) (c t : ℕ) (front : List ℕ) where
  -- a signal for c that arrives later than t
  not_here : (a h : ℕ) → (h ≡ c → t < a) → (a == t) && (h == c) ≡ false
  not_here a h l = by (h == c) refl
    where
      later : t < a → (a == t) && true ≡ false
      later p = grind (arith, nat_tests)

      never : (u : Bool) → u && false ≡ false
      never true = refl
      never false = refl

      by : (u : Bool) → (h == c) ≡ u → (a == t) && u ≡ false
      by true f =
          let same : h ≡ c = grind (arith, nat_tests) in
          later (l same)
      by false f = never (a == t)

  none_later : (ms : List Mail) → ((mail : Mail) → IsIn mail ms → (note_part system mail.note).core ≡ c → t < mail.arrives) → filter (clocks.arrives_at system t c) ms ≡ []
  none_later [] h = refl
  none_later (mail ∷ ms) h =
      rw (not_here mail.arrives (note_part system mail.note).core (h mail (inl refl))) (none_later ms (λ x i. h x (inr i)))

  module _ (takes_time : TakesTime system) (reached : NothingArrivesBefore system c (t + 1) front) where
    one : (m b : ℕ) → b < system.cores →
        filter (clocks.arrives_at system t c) (clocks.turn_of system b m).mails
        ≡ known_of system c t front m b
    one m b h = by (nat_lt m (slice_index front b)) refl
      where
        by : (u : Bool) → nat_lt m (slice_index front b) ≡ u →
            filter (clocks.arrives_at system t c) (clocks.turn_of system b m).mails ≡ cond u (filter (clocks.arrives_at system t c) (clocks.turn_of system b m).mails) []
        by true e = refl
        by false e =
            let past : slice_index front b ≤ m = grind (arith, nat_tests) in
            none_later (clocks.turn_of system b m).mails (λ x i e. let l = reached b m x h past i e in omega arith)

    -- what arrives at t is known by the others' clocks
    pub arrivals-known : filter (clocks.arrives_at system t c) (clocks.world system t).mails ≡ known_at system c t front
    arrivals-known =
        mails-world system takes_time t t c (omega arith)
        ∙ flat_map-same (sent_at system takes_time t c) _ t 0 (λ m p q. flat_map-same _ _ system.cores 0 (λ b r s. one m b (omega arith)))
