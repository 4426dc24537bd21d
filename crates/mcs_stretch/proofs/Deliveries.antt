-- Signals that are put into the boxes of their homes make the inboxes of the later clocks.
use Rattle.std.proofs.Common.{◌≡◌, ◌≢◌, ℕ, zero, suc, ◌+◌, ◌-◌, ◌<◌, ◌≤◌, Bool, true, false, ◌&&◌, cond, List, [], ◌∷◌, ◌++◌, inl, inr, refl, sym, ap, ◌∙◌, arith, append-nil}
use Rattle.std.specs.Prelude.{filter, flat_map, ◌==◌, nat_le, slice_index}
use Rattle.std.specs.List.{range_with_len}
use Rattle.std.proofs.lemmas.Bool.Decides.{nat_tests}
use Rattle.std.proofs.lemmas.List.Elements.{filter-append}
use Rattle.mcs_mail.specs.declared.mail.Mail.{Mail}
use Rattle.mcs_mail.specs.Box.{IsIn, put, put_all}
use Rattle.mcs_merge.proofs.Merges.{flat_map-same}
use Rattle.mcs_system.specs.System.{System, note_part, TakesTime}
use Rattle.mcs_core.specs.Clock as clocks
use Rattle.mcs_stretch.specs.Inbox.{is_home, inbox, news, signals_between}
use Rattle.mcs_stretch.specs.Stretch.{NothingArrivesBefore}
use Rattle.mcs_stretch.specs.Inbox as boxes
use Rattle.mcs_stretch.proofs.Joins.{inbox-joined}
use Rattle.mcs_stretch.proofs.News.{news-are}

pub put_all-append : (mails more held : List Mail) → put_all (mails ++ more) held ≡ put_all more (put_all mails held)
put_all-append [] more held = refl
put_all-append (first ∷ mails) more held = put_all-append mails more (put first held)

filter-flat_map : (p : Mail → Bool) (f : ℕ → List Mail) (n a : ℕ) → filter p (flat_map f (range_with_len a n)) ≡ flat_map (λ i. filter p (f i)) (range_with_len a n)
filter-flat_map p f zero a = refl
filter-flat_map p f (suc n) a =
    filter-append p (f a) (flat_map f (range_with_len (a + 1) n)) ∙ ap (λ xs. filter p (f a) ++ xs) (filter-flat_map p f n (a + 1))

-- of many parts all but one are empty
pub flat_map-one : (f : ℕ → List Mail) (c n a : ℕ) → a ≤ c → c < a + n → ((i : ℕ) → i ≢ c → f i ≡ []) → flat_map f (range_with_len a n) ≡ f c
flat_map-one f c zero a l h none = absurd (omega arith)
flat_map-one f c (suc n) a l h none = by (c == a) refl (λ m. flat_map-one f c n (a + 1) m (omega arith) none)
  where
    others : c ≡ a → flat_map f (range_with_len (a + 1) n) ≡ []
    others e = all_empty n (a + 1) (omega arith)
      where
        all_empty : (n b : ℕ) → c < b → flat_map f (range_with_len b n) ≡ []
        all_empty zero b l = refl
        all_empty (suc n) b l = let other : b ≢ c = omega arith in rw (none b other) (all_empty n (b + 1) (omega arith))

    first : c ≡ a → f a ≡ f c
    first e = ap f (sym e)

    both : (xs ys us : List Mail) → xs ≡ us → ys ≡ [] → xs ++ ys ≡ us
    both xs ys us e g = rw (e, g) (append-nil us)

    by : (b : Bool) → (c == a) ≡ b → (a + 1 ≤ c → flat_map f (range_with_len (a + 1) n) ≡ f c) → f a ++ flat_map f (range_with_len (a + 1) n) ≡ f c
    by true e i =
        let g : c ≡ a = grind (arith, nat_tests) in
        both (f a) (flat_map f (range_with_len (a + 1) n)) (f c) (first g) (others g)
    by false e i =
        let g : a ≢ c = grind (arith, nat_tests) in
        rw (none a g) (i (omega arith))

module _ (system : System) where
  -- the signals that each core makes from its moment in `front` to before that in `later`
  abbrev pub signals_from : List ℕ → List ℕ → List Mail
  signals_from front later = flat_map (λ b. signals_between system b (slice_index front b) (slice_index later b)) (range_with_len 0 system.cores)

  late : (c past : ℕ) (ms : List Mail) → ((mail : Mail) → IsIn mail ms → (note_part system mail.note).core ≡ c → past ≤ mail.arrives) →
      filter (is_home system c) ms ≡ filter (boxes.is_for system c past) ms
  late c past [] h = refl
  late c past (mail ∷ ms) h = by ((note_part system mail.note).core == c) refl (late c past ms (λ x i. h x (inr i)))
    where
      in_time : (a : ℕ) → past ≤ a → nat_le past a ≡ true
      in_time a l = grind (arith, nat_tests)

      by : (u : Bool) → ((note_part system mail.note).core == c) ≡ u → filter (is_home system c) ms ≡ filter (boxes.is_for system c past) ms →
          cond u (mail ∷ filter (is_home system c) ms) (filter (is_home system c) ms)
          ≡ cond (u && nat_le past mail.arrives) (mail ∷ filter (boxes.is_for system c past) ms) (filter (boxes.is_for system c past) ms)
      by true e same =
          let at_home : (note_part system mail.note).core ≡ c = grind (arith, nat_tests) in
          rw (in_time mail.arrives (h mail (inl refl) at_home)) (ap (λ xs. mail ∷ xs) same)
      by false e same = same

  -- what is at home at c arrives no earlier than the clocks allow
  pub home-news : (c past : ℕ) (front later : List ℕ) → NothingArrivesBefore system c past front → filter (is_home system c) (signals_from front later) ≡ news system c past front later
  home-news c past front later reached =
      filter-flat_map (is_home system c) (λ b. signals_between system b (slice_index front b) (slice_index later b)) system.cores 0
      ∙ flat_map-same _ _ system.cores 0 (λ b _ h.
      filter-flat_map (is_home system c) (λ m. (clocks.turn_of system b m).mails) (slice_index later b - slice_index front b) (slice_index front b)
      ∙ flat_map-same _ _ (slice_index later b - slice_index front b) (slice_index front b) (λ m l _. late c past (clocks.turn_of system b m).mails (λ x i e. reached b m x (omega arith) l i e))
      ∙ sym (filter-flat_map (boxes.is_for system c past) (λ m. (clocks.turn_of system b m).mails) (slice_index later b - slice_index front b) (slice_index front b)))

  -- so an inbox with them is the inbox by the later clocks
  pub inbox-delivered : TakesTime system → (c past : ℕ) (front later : List ℕ) → boxes.Rises system front later → NothingArrivesBefore system c past front →
      put_all (filter (is_home system c) (signals_from front later)) (inbox system c past front) ≡ inbox system c past later
  inbox-delivered takes_time c past front later rises reached =
      ap (λ ms. put_all ms (inbox system c past front)) (home-news c past front later reached)
      ∙ inbox-joined system takes_time c past front later (news system c past front later) rises (news-are system c past front later)
