-- A core that takes its turns as far as the other cores' clocks allow stands again as the clock has it.
use Rattle.std.proofs.Common.{◌≡◌, ◌≢◌, ℕ, ◌+◌, ◌<◌, ◌≤◌, List, [], ◌∷◌, ◌++◌, length, Vec, get_or, set, inl, inr, refl, sym, ap, ◌∙◌, subst, arith}
use Rattle.std.specs.Prelude.{All, filter, slice_index}
use Rattle.std.proofs.lemmas.Bool.Decides.{eqb_tells}
use Rattle.std.proofs.lemmas.List.{get_or-set_same, get_or-set_other, length-set}
use Rattle.std.proofs.lemmas.List.Elements.{All-nil, All-cons}
use Rattle.std.specs.declared.alloc.Global.{Global}
use Rattle.mcs_ticks.specs.declared.row.Row.{Row}
use Rattle.mcs_mail.specs.declared.mail.Mail.{Mail}
use Rattle.mcs_mail.specs.Box.{Content, IsIn, put_all}
use Rattle.mcs_system.specs.System.{System}
use Rattle.mcs_system.specs.WellFormed.{IsWellFormed}
use Rattle.mcs_core.specs.Run.{Ran}
use Rattle.mcs_core.specs.State.{State, Fits, IsExpected, made_by, state_after}
use Rattle.mcs_stretch.specs.Inbox.{is_home, inbox, IsMade, IsFor}
use Rattle.mcs_window.specs.stored.Delivery.{AreDelivered}
use Rattle.mcs_window.specs.stored.Opening.{HasItems}
use Rattle.mcs_window.specs.stored.Cores.{IsHere, AreHere, AreSince}
use Rattle.mcs_stretch.specs.Stretch.{StandsAt, rows_between, NothingArrivesBefore, IsAfter}
use Rattle.mcs_stretch.proofs.Deliveries.{signals_from, inbox-delivered}
use Rattle.mcs_stretch.proofs.Inboxes.{from_inbox, of_turn}
use Rattle.mcs_core.proofs.Known.{known-said}
use Rattle.mcs_stretch.proofs.Ranges.{rows-join}
use Rattle.mcs_stretch.proofs.Stretches.{stretches}
use Rattle.mcs_stretch.proofs.Later.{takes_time, later_same, later_other, rises}

-- a list with more rows behind those that it had
pub list-more : (old new : Vec Row Global) (rows : List Row) → new.items ≡ old.items ++ rows → (held : List Row) → HasItems old held → HasItems new (held ++ rows)
list-more old new rows e held h = e ∙ ap (λ xs. xs ++ rows) h

all_in : (P : Mail → Type 0) (mails : List Mail) → ((mail : Mail) → IsIn mail mails → P mail) → All P mails
all_in P [] h = All-nil P
all_in P (mail ∷ mails) h = All-cons P mail mails (h mail (inl refl)) (all_in P mails (λ next k. h next (inr k)))

module _ (system : System) (well : IsWellFormed system) where
  -- an inbox has mail for its core that arrives at its clock or later
  pub expected : (c t : ℕ) (front : List ℕ) (state : State) (mails : List Mail) → StandsAt system c t state → mails ≡ inbox system c t front → All (IsExpected system state) mails
  expected c t front state mails stands e =
      all_in (IsExpected system state) mails (λ mail k. of mail (from_inbox system c front t mail (subst (λ ms. IsIn mail ms) e k)))
    where
      of : (mail : Mail) → IsMade system (λ b. 0) (slice_index front) mail × IsFor system c t mail → IsExpected system state mail
      of mail (made, p) =
          record {
            known = known-said system well mail.note mail.badge (of_turn system made.maker made.made mail made.is).said;
            home = p.home ∙ sym stands.number_is;
            arrives = (let same = stands.clock_is in omega (arith, p.arrives));
          }

  -- what the turns of a core alone make
  pub ran_here : (c t to : ℕ) (front : List ℕ) (state : State) (mails : List Mail) → StandsAt system c t state → mails ≡ inbox system c t front → c < system.cores → t ≤ to →
      NothingArrivesBefore system c to front → IsAfter system c t to front (made_by system state to mails)
  ran_here c t to front state mails stands e known l reached =
      rw (stands.number_is, stands.clock_is)
      (stretches system (takes_time system well) c t to front state.core mails known l reached (record { state_is = stands.core_is; mail_is = e }))

  pub state_here : (c t to : ℕ) (front : List ℕ) (state after : State) (made : Ran) → StandsAt system c t state → t ≤ to → Fits system after → after ≡ state_after state to made →
      IsAfter system c t to front made → StandsAt system c to after
  state_here c t to front state after made stands l fits e done =
      record {
        number_is = ap (λ (s : State). s.number) e ∙ stands.number_is;
        clock_is = ap (λ (s : State). s.clock) e ∙ (let clock = stands.clock_is in omega arith);
        core_is = ap (λ (s : State). s.core) e ∙ done.state_is;
        whole = ap (λ (s : State). s.failed) e ∙ stands.whole;
        fits = fits;
      }

  module _ (front : List ℕ) (c to : ℕ) (known : c < length front) where
    abbrev later : List ℕ
    later = set front c to

    -- what is delivered to a core
    abbrev with_delivered : ℕ → List Mail → List Mail
    with_delivered b box = put_all (filter (is_home system b) (signals_from system front later)) box

    -- the core is here again, at its later clock
    pub here_own : (state : State) (box : List Mail) → slice_index front c ≤ to → NothingArrivesBefore system c to front → StandsAt system c to state → box ≡ inbox system c to front →
        IsHere system c (slice_index later c) later state (with_delivered c box)
    here_own state box l reached stands box_is =
        rw (later_same system front c to known)
        (record {
          reached = λ d m x q k i e. reached d m x q (let up = rises system front c to known l d q in omega arith) i e;
          state_is = stands;
          box_is = ap (with_delivered c) box_is ∙ inbox-delivered system (takes_time system well) c to front later (rises system front c to known l) reached;
        })

    -- and so is each other one that was here, at its own clock
    pub here_other : (b : ℕ) (state : State) (box : List Mail) → b ≢ c → slice_index front c ≤ to → IsHere system b (slice_index front b) front state box →
        IsHere system b (slice_index later b) later state (with_delivered b box)
    here_other b state box other l here =
        rw (later_other system front c to known b other)
        (record {
          reached = λ d m x q k i e. here.reached d m x q (let up = rises system front c to known l d q in omega arith) i e;
          state_is = here.state_is;
          box_is = ap (with_delivered b) here.box_is ∙ inbox-delivered system (takes_time system well) b (slice_index front b) front later (rises system front c to known l) here.reached;
        })

    -- the states, and the boxes with what was delivered
    module _ (states : List State) (boxes full : List Content) (here : AreHere system front states boxes) (h : c < system.cores) (l : slice_index front c ≤ to) (reached : NothingArrivesBefore system c to front)
        (states_of : length states ≡ system.cores) (boxes_of : length boxes ≡ system.cores) (state : State) (box : Content) (stands : StandsAt system c to state)
        (box_is : box.mails ≡ inbox system c to front) (delivered : AreDelivered system (signals_from system front later) (set boxes c box) full) where
      same_here : (b : ℕ) (s s' : State) (ms ms' : List Mail) → s' ≡ s → ms' ≡ ms → IsHere system b (slice_index later b) later s ms → IsHere system b (slice_index later b) later s' ms'
      same_here b s s' ms ms' e f p = rw (e, f) p

      box_later : (b : ℕ) (y z : Content) → b < system.cores → get_or (set boxes c box) b y ≡ z → (get_or full b y).mails ≡ with_delivered b z.mails
      box_later b y z p e = delivered.each b y (omega (arith, length-set boxes c box)) ∙ ap (λ (content : Content). with_delivered b content.mails) e

      own : (x : State) (y : Content) → IsHere system c (slice_index later c) later (get_or (set states c state) c x) (get_or full c y).mails
      own x y =
          same_here c state _ _ _ (get_or-set_same states c state x (omega arith)) (box_later c y box h (get_or-set_same boxes c box y (omega arith)))
          (here_own state box.mails l reached stands box_is)

      other : (b : ℕ) (x : State) (y : Content) → b < system.cores → b ≢ c → IsHere system b (slice_index later b) later (get_or (set states c state) b x) (get_or full b y).mails
      other b x y p e =
          same_here b (get_or states b x) _ _ _ (get_or-set_other states c b state x e) (box_later b y (get_or boxes b y) p (get_or-set_other boxes c b box y e))
          (here_other b (get_or states b x) (get_or boxes b y).mails e l (here b x y p))

      pub here_later : AreHere system later (set states c state) full
      here_later b x y p = elim (eqb_tells b c) [
        | inl e ↦ subst (λ d. IsHere system d (slice_index later d) later (get_or (set states c state) d x) (get_or full d y).mails) (sym e.1) (own x y)
        | inr e ↦ other b x y p e.1
      ]

    -- the clocks, and the rows since the last taking
    module _ {S : Type 0} {holds : S → List Row → Type 0} (horizon : ℕ) (taken : List ℕ) (told : List S) (kept : AreSince holds system horizon front taken told) (h : c < system.cores) (l : slice_index front c ≤ to)
        (in_time : to ≤ horizon + 1) (old new : S) (at : old ≡ get_or told c old) (more : (held : List Row) → holds old held → holds new (held ++ rows_between system c (slice_index front c) to)) where
      rows_own : holds new (rows_between system c (slice_index taken c) to)
      rows_own =
          subst (holds new) (rows-join system c (slice_index taken c) (slice_index front c) to (kept.in_order c h) l)
          (more (rows_between system c (slice_index taken c) (slice_index front c)) (subst (λ s. holds s (rows_between system c (slice_index taken c) (slice_index front c))) (sym at) (kept.told_are.each c old h)))

      rows_later : (b : ℕ) (x : S) → b < system.cores → holds (get_or (set told c new) b x) (rows_between system b (slice_index taken b) (slice_index later b))
      rows_later b x p = elim (eqb_tells b c) [
        | inl e ↦ subst (λ d. holds (get_or (set told c new) d x) (rows_between system d (slice_index taken d) (slice_index later d))) (sym e.1)
            (subst (λ s. holds s (rows_between system c (slice_index taken c) (slice_index later c))) (sym (get_or-set_same told c new x (let many = kept.told_are.many_are in omega arith)))
            (subst (λ t. holds new (rows_between system c (slice_index taken c) t)) (sym (later_same system front c to known)) rows_own))
        | inr e ↦ subst (λ s. holds s (rows_between system b (slice_index taken b) (slice_index later b))) (sym (get_or-set_other told c b new x e.1))
            (subst (λ t. holds (get_or told b x) (rows_between system b (slice_index taken b) t)) (sym (later_other system front c to known b e.1)) (kept.told_are.each b x p))
      ]

      in_time_later : (b : ℕ) → b < system.cores → slice_index later b ≤ horizon + 1
      in_time_later b p = elim (eqb_tells b c) [
        | inl e ↦ (let f : slice_index later b ≡ to = ap (slice_index later) e.1 ∙ later_same system front c to known in omega arith)
        | inr e ↦ (let f = later_other system front c to known b e.1 in let g = kept.in_time b p in omega arith)
      ]

      in_order_later : (b : ℕ) → b < system.cores → slice_index taken b ≤ slice_index later b
      in_order_later b p = let f = rises system front c to known l b p in let g = kept.in_order b p in omega arith

      pub since_later : AreSince holds system horizon later taken (set told c new)
      since_later =
          record {
            in_time = in_time_later;
            in_order = in_order_later;
            told_are = record { many_are = length-set told c new ∙ kept.told_are.many_are; each = rows_later };
          }
