-- Signals are put into the boxes of their homes one after another.
use Rattle.std.proofs.Common.{◌≡◌, ◌≢◌, ℕ, ◌+◌, ◌<◌, Bool, true, false, List, [], ◌∷◌, ◌++◌, length, get_or, set, take, refl, sym, ap, ◌∙◌, arith}
use Rattle.std.specs.Prelude.{filter, ◌==◌}
use Rattle.std.proofs.lemmas.Bool.Decides.{nat_tests}
use Rattle.std.proofs.lemmas.List.{get_or-set_same, get_or-set_other, get_or_default, length-set, take_more}
use Rattle.std.proofs.lemmas.List.Elements.{filter-append}
use Rattle.mcs_mail.specs.declared.mail.Mail.{Mail}
use Rattle.mcs_mail.specs.Box.{Content, put, put_all}
use Rattle.mcs_system.specs.System.{System, note_part}
use Rattle.mcs_stretch.specs.Inbox.{is_home}
use Rattle.mcs_window.specs.stored.Delivery.{AreDelivered}
use Rattle.mcs_stretch.proofs.Deliveries.{put_all-append}

-- one more signal is put into the box of its home
pub delivered-more : (system : System) (signals : List Mail) (i h : ℕ) (mail : Mail) (before boxes : List Content) (new held : Content) → AreDelivered system (take i signals) before boxes →
    i < length signals → mail ≡ get_or signals i mail → h ≡ (note_part system mail.note).core → h < length before → held ≡ get_or boxes h held → new.mails ≡ put mail held.mails →
    AreDelivered system (take (i + 1) signals) before (set boxes h new)
delivered-more system signals i h mail before boxes new held so_far l is home known at puts =
    record { many = length-set boxes h new ∙ so_far.many; each = λ c x k. rw (takes, filter-append, put_all-append) (by c x k (h == c) refl) }
  where
    takes : take (i + 1) signals ≡ take i signals ++ mail ∷ []
    takes = take_more signals i mail l ∙ ap (λ m. take i signals ++ m ∷ []) (sym is)

    there : h < length boxes
    there = let many = so_far.many in omega arith

    same_test : (c : ℕ) → (h == c) ≡ ((note_part system mail.note).core == c)
    same_test c = ap (λ home. home == c) home

    own : (c : ℕ) (x : Content) → c < length before → h ≡ c → (get_or (set boxes h new) c x).mails ≡ put mail (put_all (filter (is_home system c) (take i signals)) (get_or before c x).mails)
    own c x k e =
        let got : get_or (set boxes h new) c x ≡ new = ap (λ j. get_or (set boxes h new) j x) (sym e) ∙ get_or-set_same boxes h new x there in
        let had : held ≡ get_or boxes c x = at ∙ get_or_default boxes h held x there ∙ ap (λ j. get_or boxes j x) e in
        ap (λ (y : Content). y.mails) got ∙ puts ∙ ap (λ (y : Content). put mail y.mails) had ∙ ap (put mail) (so_far.each c x k)

    other : (c : ℕ) (x : Content) → c < length before → h ≢ c → (get_or (set boxes h new) c x).mails ≡ put_all (filter (is_home system c) (take i signals)) (get_or before c x).mails
    other c x k e = ap (λ (y : Content). y.mails) (get_or-set_other boxes h c new x (λ f. e (sym f))) ∙ so_far.each c x k

    by : (c : ℕ) (x : Content) → c < length before → (u : Bool) → (h == c) ≡ u →
        (get_or (set boxes h new) c x).mails ≡ put_all (filter (is_home system c) (mail ∷ [])) (put_all (filter (is_home system c) (take i signals)) (get_or before c x).mails)
    by c x k true e =
        let f : h ≡ c = grind (arith, nat_tests) in
        rw (← same_test c, e) (own c x k f)
    by c x k false e =
        let f : h ≢ c = grind (arith, nat_tests) in
        rw (← same_test c, e) (other c x k f)
