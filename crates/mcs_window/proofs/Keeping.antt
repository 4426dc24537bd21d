-- The invariant of `Cores` after a core's turns, and after memory ran out.
use Rattle.std.proofs.Common.{◌≡◌, ℕ, ◌+◌, ◌<◌, ◌≤◌, true, false, List, [], ◌++◌, length, Vec, get_or, set, inl, inr, sym, ap, ◌∙◌, subst, arith}
use Rattle.std.specs.Prelude.{slice_index}
use Rattle.std.specs.Arc.{arc_value}
use Rattle.std.specs.Vec.{with_item, with_items}
use Rattle.std.specs.declared.alloc.Global.{Global}
use Rattle.std.proofs.lemmas.Bool.Decides.{eqb_tells}
use Rattle.std.proofs.lemmas.List.{get_or-set_same, get_or-set_other, length-set, with_items_is}
use Rattle.mcs_ticks.specs.declared.row.Row.{Row}
use Rattle.mcs_mail.specs.declared.mail.Mail.{Mail}
use Rattle.mcs_mail.specs.Box.{Content}
use Rattle.mcs_system.specs.System.{System}
use Rattle.mcs_core.specs.State.{State, Fits, made_by, state_after}
use Rattle.mcs_window.specs.stored.Delivery.{AreDelivered}
use Rattle.mcs_window.specs.stored.Cores.{AreHere, AreWhole, AreSince, IsKept}
use Rattle.mcs_window.specs.stored.Opening.{HasItems}
use Rattle.mcs_stretch.specs.Stretch.{StandsAt, rows_between, NothingArrivesBefore, IsAfter}
use Rattle.mcs_window.specs.declared.cores.Cores.TheInside.{Inside}
use Rattle.mcs_stretch.proofs.Deliveries.{signals_from}
use Rattle.mcs_window.proofs.Advances.{list-more, ran_here, state_here, here_later, since_later}
use Rattle.mcs_stretch.proofs.Later.{signals_own}

-- what a core has made, its turns taken
pub record HasRun (system : System) (to : ℕ) (state after : State) (box left : Content) (rows : List Row) (signals made : List Mail) : Type 0 where
  pub state_is : after ≡ state_after state to (made_by system state to box.mails)
  pub fits : Fits system after
  pub rows_are : rows ≡ (made_by system state to box.mails).rows
  pub signals_are : made ≡ signals ++ (made_by system state to box.mails).mails
  pub box_is : left.mails ≡ (made_by system state to box.mails).box

module _ (a : Inside) (kept : IsKept a) where
  abbrev system : System
  system = arc_value a.system

  pub boxes_are : (k : ℕ) (box : Content) (full : List Content) → length full ≡ length (set a.boxes.items k box) → (with_items (with_item a.boxes k box) full).items ≡ full
  boxes_are k box full e = with_items_is (with_item a.boxes k box) full (let ok = (with_item a.boxes k box).ok.0 in omega arith)

  -- the rows of a core stay, whatever became of its turns
  pub spent_kept : (k : ℕ) (state : State) (box : Content) (full : List Content) (old new : Vec Row Global) (signals : Vec Mail Global) → k < system.cores → length full ≡ length (set a.boxes.items k box) →
      old ≡ get_or a.rows.items k old → new.items ≡ old.items →
      IsKept (record a { states = with_item a.states k state; boxes = with_items (with_item a.boxes k box) full; rows = with_item a.rows k new; failed = true; signals = signals })
  spent_kept k state box full old new signals h many at same =
      record {
        horizon = kept.horizon;
        well_formed = kept.well_formed;
        states_of = length-set a.states.items k state ∙ kept.states_of;
        boxes_of = ap length (boxes_are k box full many) ∙ many ∙ length-set a.boxes.items k box ∙ kept.boxes_of;
        delays_are = kept.delays_are;
        kept = record {
          clocks_of = kept.kept.clocks_of;
          taken_of = kept.kept.taken_of;
          since = record {
            in_time = kept.kept.since.in_time;
            in_order = kept.kept.since.in_order;
            told_are = record { many_are = length-set a.rows.items k new ∙ kept.kept.since.told_are.many_are; each = rows_same };
          };
        };
        whole = λ e. cc;
      }
    where
      rows_same : (b : ℕ) (x : Vec Row Global) → b < system.cores → (get_or (set a.rows.items k new) b x).items ≡ rows_between system b (slice_index a.taken.items b) (slice_index a.clocks.items b)
      rows_same b x p = elim (eqb_tells b k) [
        | inl e ↦ ap (λ d. (get_or (set a.rows.items k new) d x).items) e.1 ∙ ap (λ (v : Vec Row Global). v.items) (get_or-set_same a.rows.items k new x (let all = kept.kept.since.told_are.many_are in omega arith))
            ∙ same ∙ ap (λ (v : Vec Row Global). v.items) at ∙ kept.kept.since.told_are.each k old h
            ∙ ap (λ d. rows_between system d (slice_index a.taken.items d) (slice_index a.clocks.items d)) (sym e.1)
        | inr e ↦ ap (λ (v : Vec Row Global). v.items) (get_or-set_other a.rows.items k b new x e.1) ∙ kept.kept.since.told_are.each b x p
      ]

  -- a core that takes its turns
  module _ (k to : ℕ) (state after : State) (box left : Content) (unspent : a.failed ≡ false) (h : k < system.cores) (l : slice_index a.clocks.items k ≤ to)
      (reached : NothingArrivesBefore system k to a.clocks.items) (s_at : state ≡ get_or a.states.items k state) (b_at : box ≡ get_or a.boxes.items k box) where
    there : k < length a.clocks.items
    there = let all = kept.kept.clocks_of in omega arith

    whole : AreWhole system a.clocks.items a.states.items a.boxes.items a.signals.items
    whole = kept.whole unspent

    stood : StandsAt system k (slice_index a.clocks.items k) state
    stood = subst (StandsAt system k (slice_index a.clocks.items k)) (sym s_at) (whole.here k state box h).state_is

    ran : IsAfter system k (slice_index a.clocks.items k) to a.clocks.items (made_by system state to box.mails)
    ran =
        ran_here system kept.well_formed k (slice_index a.clocks.items k) to a.clocks.items state box.mails stood
        (ap (λ (y : Content). y.mails) b_at ∙ (whole.here k state box h).box_is) h l reached

    pub made_is : (made_by system state to box.mails).rows ≡ rows_between system k (slice_index a.clocks.items k) to
    made_is = ran.rows_are

    -- it has taken them, and the rows are kept or taken
    pub gone_kept : (full : List Content) (rows : List Row) (taken : Vec ℕ Global) (told : Vec (Vec Row Global) Global) (signals none : Vec Mail Global) →
        HasRun system to state after box left rows a.signals.items signals.items → AreDelivered system signals.items (set a.boxes.items k left) full →
        length taken.items ≡ system.cores → AreSince HasItems system a.horizon (set a.clocks.items k to) taken.items told.items → none.items ≡ [] →
        IsKept (record a {
          clocks = with_item a.clocks k to;
          taken = taken;
          states = with_item a.states k after;
          boxes = with_items (with_item a.boxes k left) full;
          rows = told;
          failed = false;
          signals = none;
        })
    gone_kept full rows taken told signals none run delivered many since no_signals =
        record {
          horizon = kept.horizon;
          well_formed = kept.well_formed;
          states_of = length-set a.states.items k after ∙ kept.states_of;
          boxes_of = ap length boxes_full ∙ delivered.many ∙ length-set a.boxes.items k left ∙ kept.boxes_of;
          delays_are = kept.delays_are;
          kept = record { clocks_of = length-set a.clocks.items k to ∙ kept.kept.clocks_of; taken_of = many; since = since };
          whole = λ e. record { here = subst (λ boxes. AreHere system (set a.clocks.items k to) (set a.states.items k after) boxes) (sym boxes_full) here; no_signals = no_signals };
        }
      where
        signals_are : signals.items ≡ signals_from system a.clocks.items (set a.clocks.items k to)
        signals_are =
            run.signals_are ∙ ap (λ xs. xs ++ (made_by system state to box.mails).mails) whole.no_signals ∙ ran.out_is
            ∙ signals_own system a.clocks.items k to there h

        boxes_full : (with_items (with_item a.boxes k left) full).items ≡ full
        boxes_full = boxes_are k left full delivered.many

        here : AreHere system (set a.clocks.items k to) (set a.states.items k after) full
        here =
            here_later system kept.well_formed a.clocks.items k to there a.states.items a.boxes.items full whole.here h l reached kept.states_of kept.boxes_of after left
            (state_here system kept.well_formed k (slice_index a.clocks.items k) to a.clocks.items state after (made_by system state to box.mails) stood l run.fits run.state_is ran)
            (run.box_is ∙ ran.mail_is)
            (subst (λ ms. AreDelivered system ms (set a.boxes.items k left) full) signals_are delivered)

    -- its rows are kept
    pub advanced_kept : (full : List Content) (old new fresh : Vec Row Global) (signals none : Vec Mail Global) → to ≤ a.horizon + 1 →
        HasRun system to state after box left fresh.items a.signals.items signals.items →
        AreDelivered system signals.items (set a.boxes.items k left) full → old ≡ get_or a.rows.items k old → new.items ≡ old.items ++ fresh.items → none.items ≡ [] →
        IsKept (record a {
          clocks = with_item a.clocks k to;
          states = with_item a.states k after;
          boxes = with_items (with_item a.boxes k left) full;
          rows = with_item a.rows k new;
          failed = false;
          signals = none;
        })
    advanced_kept full old new fresh signals none in_time run delivered r_at more no_signals =
        gone_kept full fresh.items a.taken (with_item a.rows k new) signals none run delivered kept.kept.taken_of
        (since_later system kept.well_formed a.clocks.items k to there a.horizon a.taken.items a.rows.items kept.kept.since h l in_time old new r_at
        (list-more old new _ (more ∙ ap (λ xs. old.items ++ xs) (run.rows_are ∙ made_is))))
        no_signals
