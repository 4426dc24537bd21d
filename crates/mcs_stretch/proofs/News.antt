-- The signals that are made between two moments of the clocks, in one list or collected aside.
use Rattle.std.proofs.Common.{◌≡◌, ℕ, ◌+◌, ◌-◌, ◌<◌, ◌≤◌, Bool, true, false, ◌&&◌, List, [], ◌⊎◌, inl, inr, refl, sym, ap, ◌∙◌, arith}
use Rattle.std.specs.Prelude.{filter, ◌==◌, nat_lt, nat_le, slice_index}
use Rattle.std.proofs.lemmas.Bool.Decides.{nat_tests}
use Rattle.mcs_mail.specs.declared.mail.Mail.{Mail}
use Rattle.mcs_mail.specs.Box.{put_all, IsIn, ArePairwise, Differ}
use Rattle.mcs_mail.proofs.Members.{in_filter, from_filter, in_flat_map, from_flat_map, pairwise-filter, pairwise-flat_map}
use Rattle.mcs_mail.proofs.Orders.{from_put_all, in_put_all, pairwise-put_all}
use Rattle.mcs_system.specs.System.{System, note_part}
use Rattle.mcs_core.specs.Clock as clocks
use Rattle.mcs_core.proofs.Mails.{IsMadeNow}
use Rattle.mcs_stretch.specs.Inbox as boxes
use Rattle.mcs_stretch.specs.Inbox.{known_of, known_at, known_until, inbox, IsMade, IsFor}
use Rattle.mcs_stretch.proofs.Boxes.{out_of_turn}
use Rattle.mcs_stretch.proofs.Inboxes.{of_turn, alone}

module _ (system : System) where
  -- the new signals in order of their makers
  passes_for : (c from a h : ℕ) → h ≡ c → from ≤ a → (h == c) && nat_le from a ≡ true
  passes_for c from a h e l = grind (arith, nat_tests)

  of_for : (c from a h : ℕ) → (h == c) && nat_le from a ≡ true → (h ≡ c) × (from ≤ a)
  of_for c from a h e = (let f : h ≡ c = grind (arith, nat_tests) in f, let g : from ≤ a = grind (arith, nat_tests) in g)

  of_news : (c from : ℕ) (front later : List ℕ) (x : Mail) → IsIn x (boxes.news system c from front later) → IsMade system (slice_index front) (slice_index later) x × IsFor system c from x
  of_news c from front later x k = by (from_flat_map (λ b. filter (boxes.is_for system c from) (boxes.signals_between system b (slice_index front b) (slice_index later b))) x system.cores 0 k)
    where
      inner : (b : ℕ) → b < system.cores → (m : ℕ) × (slice_index front b ≤ m) × (m < slice_index front b + (slice_index later b - slice_index front b)) × IsIn x (clocks.turn_of system b m).mails →
          IsMade system (slice_index front) (slice_index later) x
      inner b p (m, q, r, i) = record { maker = b; made = m; known = p; from = q; before = omega arith; is = i }

      by : (b : ℕ) × (0 ≤ b) × (b < 0 + system.cores) × IsIn x (filter (boxes.is_for system c from) (boxes.signals_between system b (slice_index front b) (slice_index later b))) →
          IsMade system (slice_index front) (slice_index later) x × IsFor system c from x
      by (b, p, q, i) =
          let g = from_filter (boxes.is_for system c from) x (boxes.signals_between system b (slice_index front b) (slice_index later b)) i in
          let h = of_for c from x.arrives (note_part system x.note).core g.1 in (
            inner b (omega arith) (from_flat_map (λ m. (clocks.turn_of system b m).mails) x (slice_index later b - slice_index front b) (slice_index front b) g.0),
            record { home = h.0; arrives = h.1 },
          )

  news-apart : (c from : ℕ) (front later : List ℕ) → ArePairwise Differ (boxes.news system c from front later)
  news-apart c from front later =
      pairwise-flat_map Differ (λ b. filter (boxes.is_for system c from) (boxes.signals_between system b (slice_index front b) (slice_index later b))) system.cores 0
      (λ b _ _. pairwise-filter Differ (boxes.is_for system c from) (boxes.signals_between system b (slice_index front b) (slice_index later b)) (own b))
      (λ b d x y _ l _ k i. others b d x y l (made_by b x k) (made_by d y i))
    where
      own : (b : ℕ) → ArePairwise Differ (boxes.signals_between system b (slice_index front b) (slice_index later b))
      own b =
          pairwise-flat_map Differ (λ m. (clocks.turn_of system b m).mails) (slice_index later b - slice_index front b) (slice_index front b)
          (λ m _ _. alone system Differ b m (clocks.turn_of system b m).mails (out_of_turn system 0 [] b m))
          (λ m n x y _ l _ k i. earlier m n x y l (of_turn system b m x k) (of_turn system b n y i))
        where
          earlier : (m n : ℕ) (x y : Mail) → m < n → IsMadeNow system b m x → IsMadeNow system b n y → Differ x y
          earlier m n x y l p q e f = absurd (omega (arith, p.made, q.made))

      by_core : (b : ℕ) (x : Mail) → (m : ℕ) × (slice_index front b ≤ m) × (m < slice_index front b + (slice_index later b - slice_index front b)) × IsIn x (clocks.turn_of system b m).mails → x.maker ≡ b
      by_core b x (m, p, q, i) = (of_turn system b m x i).maker

      made_by : (b : ℕ) (x : Mail) → IsIn x (filter (boxes.is_for system c from) (boxes.signals_between system b (slice_index front b) (slice_index later b))) → x.maker ≡ b
      made_by b x k =
          by_core b x (from_flat_map (λ m. (clocks.turn_of system b m).mails) x (slice_index later b - slice_index front b) (slice_index front b)
          (from_filter (boxes.is_for system c from) x (boxes.signals_between system b (slice_index front b) (slice_index later b)) k).0)

      others : (b d : ℕ) (x y : Mail) → b < d → x.maker ≡ b → y.maker ≡ d → Differ x y
      others b d x y l p q e f = absurd (omega arith)

  pub news-are : (c from : ℕ) (front later : List ℕ) → boxes.AreNews system c from front later (boxes.news system c from front later)
  news-are c from front later =
      record {
        apart = news-apart c from front later;
        are = λ x k. of_news c from front later x k;
        all = λ x p q. to x p q;
      }
    where
      to : (x : Mail) → IsMade system (slice_index front) (slice_index later) x → IsFor system c from x → IsIn x (boxes.news system c from front later)
      to x p q =
          in_flat_map (λ b. filter (boxes.is_for system c from) (boxes.signals_between system b (slice_index front b) (slice_index later b))) x system.cores 0 p.maker (omega arith) (omega (arith, p.known))
          (in_filter (boxes.is_for system c from) x (boxes.signals_between system p.maker (slice_index front p.maker) (slice_index later p.maker))
          (in_flat_map (λ m. (clocks.turn_of system p.maker m).mails) x (slice_index later p.maker - slice_index front p.maker) (slice_index front p.maker) p.made p.from (omega (arith, p.from, p.before)) p.is)
          (passes_for c from x.arrives (note_part system x.note).core q.home q.arrives))

  -- a box that collects the new signals
  news-none : (c from : ℕ) (front : List ℕ) → boxes.AreNews system c from front front []
  news-none c from front = record { apart = tt; are = λ x k. absurd k; all = λ x p q. absurd (omega (arith, p.from, p.before)) }

  news-more : (c from : ℕ) (front middle later : List ℕ) (mails more : List Mail) → boxes.Rises system front middle → boxes.Rises system middle later →
      boxes.AreNews system c from front middle mails → boxes.AreNews system c from middle later more → boxes.AreNews system c from front later (put_all more mails)
  news-more c from front middle later mails more rises goes_on old new =
      record {
        apart = pairwise-put_all more mails old.apart new.apart (λ m x k l. differ m x (new.are m k).0 (old.are x l).0);
        are = λ x k. of x (from_put_all x more mails k);
        all = λ x p q. in_put_all x more mails (to x p q);
      }
    where
      differ : (m x : Mail) → IsMade system (slice_index middle) (slice_index later) m → IsMade system (slice_index front) (slice_index middle) x → Differ m x
      differ m x p q e f =
          let i = of_turn system p.maker p.made m p.is in
          let j = of_turn system q.maker q.made x q.is in
          let g : p.maker ≡ q.maker = sym i.maker ∙ f ∙ j.maker in
          let h : p.made ≡ q.made = sym i.made ∙ e ∙ j.made in
          let k : slice_index middle p.maker ≡ slice_index middle q.maker = ap (slice_index middle) g in
          absurd (omega (arith, p.from, q.before))

      of : (x : Mail) → IsIn x more ⊎ IsIn x mails → IsMade system (slice_index front) (slice_index later) x × IsFor system c from x
      of x (inl k) =
          let p = (new.are x k).0 in
          let l = rises p.maker p.known in
          (record { maker = p.maker; made = p.made; known = p.known; from = omega (arith, p.from); before = p.before; is = p.is }, (new.are x k).1)
      of x (inr k) =
          let p = (old.are x k).0 in
          let l = goes_on p.maker p.known in
          (record { maker = p.maker; made = p.made; known = p.known; from = p.from; before = omega (arith, p.before); is = p.is }, (old.are x k).1)

      to : (x : Mail) → IsMade system (slice_index front) (slice_index later) x → IsFor system c from x → IsIn x more ⊎ IsIn x mails
      to x p q = by (nat_lt p.made (slice_index middle p.maker)) refl
        where
          by : (u : Bool) → nat_lt p.made (slice_index middle p.maker) ≡ u → IsIn x more ⊎ IsIn x mails
          by true e =
              let l : p.made < slice_index middle p.maker = grind (arith, nat_tests) in
              inr (old.all x (record { maker = p.maker; made = p.made; known = p.known; from = p.from; before = l; is = p.is }) q)
          by false e =
              let l : slice_index middle p.maker ≤ p.made = grind (arith, nat_tests) in
              inl (new.all x (record { maker = p.maker; made = p.made; known = p.known; from = l; before = p.before; is = p.is }) q)

  pub news-joined : boxes.NewsJoin system
  news-joined c from front =
      (λ later. news-are c from front later, news-none c from front, λ middle later mails more rises goes_on old new. news-more c from front middle later mails more rises goes_on old new)
