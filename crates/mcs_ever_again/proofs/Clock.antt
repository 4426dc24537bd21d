-- The rows before a moment tell the signals under way then.
use Rattle.std.proofs.Common.{◌≡◌, ℕ, zero, suc, ◌+◌, ◌<◌, ◌≤◌, ◌⊎◌, inl, inr, not, length, List, ◌++◌, refl, sym, ap, ◌∙◌, arith}
use Rattle.std.specs.Prelude.{◌&&◌, nat_lt, nat_le, filter, flat_map}
use Rattle.std.specs.List.{range_with_len}
use Rattle.std.proofs.lemmas.Bool.{cases_lt}
use Rattle.std.proofs.lemmas.Bool.Decides.{nat_tests}
use Rattle.std.proofs.lemmas.List.{get_or_past}
use Rattle.std.proofs.lemmas.List.Elements.{filter_agree, filter_map-append}
use Rattle.mcs_ticks.specs.Queue.{in_one_list}
use Rattle.mcs_mail.specs.declared.mail.Mail.{Mail}
use Rattle.mcs_system.specs.System.{System, note_part, no_note}
use Rattle.mcs_system.specs.WellFormed.{IsWellFormed}
use Rattle.mcs_core.specs.Clock.{clock, world, core_at, arrives_at, turn_of, rows_of}
use Rattle.mcs_core.proofs.Clock.{rows-clock}
use Rattle.mcs_laws.specs.Turns.{cores, sent_at, sent_before, was_taken}
use Rattle.mcs_laws.proofs.Ranges.{flat_map-moments-more}
use Rattle.mcs_laws.proofs.Histories.{takes-time}
use Rattle.mcs_laws.proofs.UnderWay.{signals-of-turns}
use Rattle.mcs_ever_again.specs.UnderWay.{mail_of, told_mails, arrives_from}
use Rattle.mcs_ever_again.specs.laws.Told.{SignalsAreTold, UnderWayIsTold}
use Rattle.mcs_ever.proofs.Home.{leaves-at-home}
use Rattle.mcs_ever_again.proofs.Telling.{turn-tells, told-stamped}

both : (xs ys us vs : List Mail) → xs ≡ ys → us ≡ vs → xs ++ us ≡ ys ++ vs
both xs ys us vs e f = cc

module _ (system : System) where
  module _ (well : IsWellFormed system) where
    pub signals-told : SignalsAreTold system
    signals-told c t known =
        turn-tells in_one_list system c t (filter (arrives_at system t c) (world system t).mails) (core_at system (world system t) c) (λ chosen runs. leaves-at-home system well c t known chosen runs)
        ∙ sym (told-stamped in_one_list system c t (turn_of system c t).rows)

    -- the turns of a moment
    moment-told : (t n a : ℕ) → a + n ≤ system.cores →
        flat_map (λ c. (turn_of system c t).mails) (range_with_len a n) ≡ told_mails system (flat_map (λ c. rows_of system c t) (range_with_len a n))
    moment-told t zero a l = refl
    moment-told t (suc n) a l =
        both _ _ _ _ (signals-told a t (omega (arith, l))) (moment-told t n (a + 1) (omega (arith, l)))
        ∙ sym (filter_map-append (mail_of system) (rows_of system a t) (flat_map (λ c. rows_of system c t) (range_with_len (a + 1) n)))

    -- all turns before a moment
    before-told : (t : ℕ) → sent_before system t ≡ told_mails system (clock system t).rows
    before-told zero = refl
    before-told (suc t) =
        flat_map-moments-more (sent_at system) t
        ∙ both _ _ _ _ (before-told t) (moment-told t system.cores 0 (omega arith))
        ∙ sym (filter_map-append (mail_of system) (clock system t).rows (flat_map (λ c. rows_of system c t) (cores system)))
        ∙ ap (told_mails system) (sym (rows-clock system (takes-time system well) t))

    home-there : (note : ℕ) → (note_part system note).core < system.cores
    home-there note = by (cases_lt note (length system.notes))
      where
        by : (note < length system.notes) ⊎ (length system.notes ≤ note) → (note_part system note).core < system.cores
        by (inl within) = well.notes note no_note within
        by (inr past) = rw (get_or_past system.notes note no_note past) (omega (arith, well.limits.cores.0))

    -- each home is a core that there is, so what arrived before was taken
    left : (t : ℕ) (mail : Mail) → not (was_taken system t mail) ≡ arrives_from t mail
    left t mail = by mail.arrives t (note_part system mail.note).core system.cores (home-there mail.note)
      where
        by : (arrives t home cores : ℕ) → home < cores → not (nat_lt arrives t && nat_lt home cores) ≡ nat_le t arrives
        by arrives t home cores l = grind (arith, nat_tests)

    pub under_way-told : UnderWayIsTold system
    under_way-told t =
        signals-of-turns system (takes-time system well) t
        ∙ filter_agree (λ mail. not (was_taken system t mail)) (arrives_from t) (left t) (sent_before system t)
        ∙ ap (filter (arrives_from t)) (before-told t)
