-- The lines of rows as they are written are those of the findings, with each slow answer at its place.
use Rattle.std.proofs.Common.{◌≡◌, ◌∙◌, ◌++◌, ◌∷◌, [], ℕ, ◌<◌, ◌≤◌, ◌==◌, Bool, true, false, not, List, Option, Some, None, filter, flat_map, map, nat_lt, refl, ap, ap₂, append_assoc, append-nil, subst, sym, arith}
use Rattle.std.specs.Prelude.{fold}
use Rattle.std.proofs.lemmas.Bool.Decides.{nat_tests}
use Rattle.std.proofs.lemmas.List.Concat.{flat_map-append}
use Rattle.std.proofs.lemmas.List.Elements.{filter-append}
use Rattle.mcs_ticks.specs.declared.row.Row.{Row}
use Rattle.mcs_system.specs.System.{System}
use Rattle.mcs_verdict.specs.declared.finding.Finding.{Finding}
use Rattle.mcs_verdict.specs.declared.finding.Found.{Found}
use Rattle.mcs_verdict.specs.Findings.{InOrder, UpTo, finding, found_at, found_in, past_of}
use Rattle.mcs_verdict.proofs.Orders.{up_to-later}
use Rattle.mcs_chain.specs.declared.finding.Found.{Found as ChainFound}
use Rattle.mcs_chain.specs.Found.{all_slow}
use Rattle.mcs_chain.specs.Watch.{all_due, watch_of as chains_of}
use Rattle.mcs_check_words.specs.declared.asked.Format.{Format}
use Rattle.mcs_check_words.specs.declared.asked.Show.TheVariants as show
use Rattle.mcs_check_lines.specs.Chains.{Entry, chain_found_line, chain_found_lines, placed, with_placed}
use Rattle.mcs_check_lines.specs.Counts.{is_allowed}
use Rattle.mcs_check_lines.specs.Formats.{found_line}
use Rattle.mcs_check_lines.specs.Told.{told}
use Rattle.mcs_check_run.specs.Lines.{lines_of}
use Rattle.mcs_check.specs.stored.Rows.{row_lines, told_at}
use Rattle.mcs_check.proofs.Placed.{AreAt, AtMost, at, at-append, before, most-append, placed-apart}
use Rattle.mcs_check.proofs.Standing.{AreOrdered, MostFound, all-due-later, before-same, kept-then, most-all, none-due-now, none-due-yet, none-slow-yet}
use Rattle.mcs_check.proofs.Told.{line-is, row-is}

abbrev flat : List Entry → List ℕ
flat es = flat_map (λ e. e.1) es

abbrev placed_all : List Entry → List Entry → List Entry
placed_all es ss = fold (λ all s. placed s all) es ss

map-join : {X Y : Type 0} (f : X → Y) (xs ys : List X) → map f (xs ++ ys) ≡ map f xs ++ map f ys
map-join f [] ys = refl
map-join f (x ∷ xs) ys = ap (λ l. f x ∷ l) (map-join f xs ys)

-- entries that are made of things with moments
module _ {X : Type 0} (moment : X → ℕ) (line : X → List ℕ) where
  abbrev entry : X → Entry
  entry x = (moment x, line x)

  flat-entries : (xs : List X) → flat (map entry xs) ≡ flat_map line xs
  flat-entries [] = refl
  flat-entries (x ∷ xs) = ap (λ l. line x ++ l) (flat-entries xs)

  before-entries : (m : ℕ) (xs : List X) → before m (map entry xs) ≡ map entry (filter (λ x. nat_lt (moment x) m) xs)
  before-entries m [] = refl
  before-entries m (x ∷ xs) = by (nat_lt (moment x) m) refl (before-entries m xs)
    where
      by : (b : Bool) → nat_lt (moment x) m ≡ b → before m (map entry xs) ≡ map entry (filter (λ x. nat_lt (moment x) m) xs)
          → before m (map entry (x ∷ xs)) ≡ map entry (filter (λ x. nat_lt (moment x) m) (x ∷ xs))
      by true t rest = rw t (ap (λ l. entry x ∷ l) rest)
      by false t rest = rw t rest

  at-entries : (m : ℕ) (xs : List X) → at m (map entry xs) ≡ map entry (filter (λ x. moment x == m) xs)
  at-entries m [] = refl
  at-entries m (x ∷ xs) = by (moment x == m) refl (at-entries m xs)
    where
      by : (b : Bool) → (moment x == m) ≡ b → at m (map entry xs) ≡ map entry (filter (λ x. moment x == m) xs)
          → at m (map entry (x ∷ xs)) ≡ map entry (filter (λ x. moment x == m) (x ∷ xs))
      by true t rest = rw t (ap (λ l. entry x ∷ l) rest)
      by false t rest = rw t rest

most-entries : (m : ℕ) (line : ChainFound → List ℕ) (fs : List ChainFound) → MostFound m fs → AtMost m (map (λ (f : ChainFound). (f.moment, line f)) fs)
most-entries m line [] h = tt
most-entries m line (f ∷ fs) h = (h.0, most-entries m line fs h.1)

before-none : (m : ℕ) (es : List Entry) (k : ℕ) → k < m → AtMost k es → before m es ≡ es
before-none m [] k less h = refl
before-none m (e ∷ es) k less h = let t : nat_lt e.0 m ≡ true = grind (arith, nat_tests, less, h.0) in rw t (ap (λ l. e ∷ l) (before-none m es k less h.1))

most-of-at : (m : ℕ) (es : List Entry) → AreAt m es → AtMost m es
most-of-at m [] h = tt
most-of-at m (e ∷ es) h = (omega (arith, h.0), most-of-at m es h.1)

most-later : (k m : ℕ) (es : List Entry) → k ≤ m → AtMost k es → AtMost m es
most-later k m [] l h = tt
most-later k m (e ∷ es) l h = (omega (arith, l, h.0), most-later k m es l h.1)

module _ (how : Format) (system : System) (flags : List Bool) where
  abbrev found_entry : Found → Entry
  found_entry f = (f.moment, found_line how system f)

  abbrev slow_entry : ChainFound → Entry
  slow_entry f = (f.moment, chain_found_line how system f)

  -- of a row, and of the rows so far, the latest first
  abbrev news : List Row → Row → List Entry
  news past r = map found_entry (told flags (found_at r.moment r.core (finding system past r.moment r.what)))

  abbrev entries : List Row → List Entry
  entries [] = []
  entries (r ∷ past) = entries past ++ news past r

  abbrev slows : List Row → List Entry
  slows past = map slow_entry (all_slow system past 0 system.chains)

  abbrev written : List Row → List ℕ
  written [] = []
  written (r ∷ past) = written past ++ row_lines system flags how show.Findings past r

  abbrev due_text : Option ℕ → List Row → List ℕ
  due_text until past = chain_found_lines how system (all_due until 0 (chains_of system past).each)

  one-at : (moment core : ℕ) (f : Option Finding) → AreAt moment (map found_entry (told flags (found_at moment core f)))
  one-at moment core None = tt
  one-at moment core (Some f) = by (is_allowed flags f) refl
    where
      by : (b : Bool) → is_allowed flags f ≡ b → AreAt moment (map found_entry (told flags (found_at moment core (Some f))))
      by true t = rw t tt
      by false t = rw t (refl, tt)

  news-text : (past : List Row) (r : Row) → flat (news past r) ≡ told_at system flags how show.Findings past r
  news-text past r =
      let f = finding system past r.moment r.what in
      flat-entries (λ (x : Found). x.moment) (found_line how system) (told flags (found_at r.moment r.core f)) ∙ line-is how system flags r.moment r.core f

  due-flat : (until : Option ℕ) (past : List Row) → flat (map slow_entry (all_due until 0 (chains_of system past).each)) ≡ due_text until past
  due-flat until past = flat-entries (λ (x : ChainFound). x.moment) (chain_found_line how system) (all_due until 0 (chains_of system past).each)

  -- the findings of the rows before this time and of those at it, with the slow answers before it
  record Split (past : List Row) (m : ℕ) : Type 0 where
    pub es : List Entry
    pub ls : List Entry
    pub is : entries past ≡ es ++ ls
    pub most : AtMost m es
    pub here : AreAt m ls
    pub text : written past ++ due_text (Some m) past ≡ flat (placed_all es (before m (slows past)) ++ ls)

  slows-before : (past : List Row) (r : Row) → before r.moment (slows (r ∷ past)) ≡ before r.moment (slows past)
  slows-before past r =
      before-entries (λ (x : ChainFound). x.moment) (chain_found_line how system) r.moment (all_slow system (r ∷ past) 0 system.chains)
      ∙ ap (map slow_entry) (before-same system r past 0 system.chains)
      ∙ sym (before-entries (λ (x : ChainFound). x.moment) (chain_found_line how system) r.moment (all_slow system past 0 system.chains))

  none-due : (past : List Row) (r : Row) → due_text (Some r.moment) (r ∷ past) ≡ []
  none-due past r = ap (chain_found_lines how system) (none-due-now system r past 0 system.chains)

  here-split : (past : List Row) (r : Row) → Split past r.moment → Split (r ∷ past) r.moment
  here-split past r s =
      let own = placed_all s.es (before r.moment (slows past)) in
      let line = told_at system flags how show.Findings past r in
      record {
        es = s.es;
        ls = s.ls ++ news past r;
        is = ap (λ l. l ++ news past r) s.is ∙ append_assoc s.es s.ls (news past r);
        most = s.most;
        here = at-append r.moment s.ls (news past r) s.here (one-at r.moment r.core (finding system past r.moment r.what));
        text =
            ap (λ l. written (r ∷ past) ++ l) (none-due past r) ∙ append-nil (written (r ∷ past))
            ∙ ap (λ l. written past ++ l) (sym (row-is how system flags show.Findings past r))
            ∙ sym (append_assoc (written past) (due_text (Some r.moment) past) line)
            ∙ ap₂ (λ a b. a ++ b) s.text (sym (news-text past r))
            ∙ sym (flat_map-append (λ (e : Entry). e.1) (own ++ s.ls) (news past r))
            ∙ ap flat (append_assoc own s.ls (news past r))
            ∙ ap (λ b. flat (placed_all s.es b ++ (s.ls ++ news past r))) (sym (slows-before past r));
      }

  slows-most : (m : ℕ) (past : List Row) → UpTo m past → AtMost m (slows past)
  slows-most m past up = most-entries m (chain_found_line how system) (all_slow system past 0 system.chains) (most-all system m past 0 system.chains up)

  now-due : (past : List Row) (r : Row) → UpTo r.moment past → AreOrdered past → due_text None (r ∷ past) ≡ flat (at r.moment (slows (r ∷ past)))
  now-due past r up order =
      sym (due-flat None (r ∷ past)) ∙ ap (λ fs. flat (map slow_entry fs)) (sym (kept-then system r past 0 system.chains up order))
      ∙ ap flat (sym (at-entries (λ (x : ChainFound). x.moment) (chain_found_line how system) r.moment (all_slow system (r ∷ past) 0 system.chains)))

  total : (past : List Row) (r : Row) → UpTo r.moment past → AreOrdered past → Split (r ∷ past) r.moment
      → written (r ∷ past) ++ due_text None (r ∷ past) ≡ flat (placed_all (entries (r ∷ past)) (slows (r ∷ past)))
  total past r up order s =
      let m = r.moment in
      let all = slows (r ∷ past) in
      let own = placed_all s.es (before m all) in
      let text : written (r ∷ past) ≡ flat (own ++ s.ls) =
      sym (append-nil (written (r ∷ past))) ∙ ap (λ l. written (r ∷ past) ++ l) (sym (none-due past r)) ∙ s.text in
      ap₂ (λ a b. a ++ b) text (now-due past r up order)
      ∙ sym (flat_map-append (λ (e : Entry). e.1) (own ++ s.ls) (at m all))
      ∙ ap flat (append_assoc own s.ls (at m all) ∙ sym (placed-apart m s.es s.ls all s.most s.here (slows-most m (r ∷ past) (omega arith, up)))
      ∙ ap (λ l. placed_all l all) (sym s.is))

  entries-most : (m : ℕ) (past : List Row) → UpTo m past → AtMost m (entries past)
  entries-most m [] up = tt
  entries-most m (r ∷ past) up =
      most-append m (entries past) (news past r) (entries-most m past (up_to-later r.moment m past up.0 up.1))
      (most-later r.moment m (news past r) up.0 (most-of-at r.moment (news past r) (one-at r.moment r.core (finding system past r.moment r.what))))

  later-split : (past : List Row) (r : Row) (m : ℕ) → r.moment < m → UpTo r.moment past → AreOrdered past → Split (r ∷ past) r.moment → Split (r ∷ past) m
  later-split past r m less last order s =
      let all = slows (r ∷ past) in
      let most : AtMost r.moment (slows (r ∷ past)) = slows-most r.moment (r ∷ past) (omega arith, last) in
      record {
        es = entries (r ∷ past);
        ls = [];
        is = sym (append-nil (entries (r ∷ past)));
        most = entries-most m (r ∷ past) (omega (arith, less), last);
        here = tt;
        text =
            ap (λ fs. written (r ∷ past) ++ chain_found_lines how system fs) (all-due-later system r past m 0 system.chains less)
            ∙ total past r last order s
            ∙ ap flat (ap (placed_all (entries (r ∷ past))) (sym (before-none m all r.moment less most)) ∙ sym (append-nil (placed_all (entries (r ∷ past)) (before m all))));
      }

  none-slow : slows [] ≡ []
  none-slow = ap (map slow_entry) (none-slow-yet system 0 system.chains)

  none-told : (until : Option ℕ) → due_text until [] ≡ []
  none-told until = ap (chain_found_lines how system) (none-due-yet system until 0 system.chains)

  split : (past : List Row) (m : ℕ) → UpTo m past → AreOrdered past → Split past m
  split [] m up order = record {
    es = [];
    ls = [];
    is = refl;
    most = tt;
    here = tt;
    text = none-told (Some m) ∙ sym (ap (λ ss. flat (placed_all [] (before m ss) ++ [])) none-slow);
  }
  split (r ∷ past) m up order = by (nat_lt r.moment m) refl (here-split past r (split past r.moment order.0 order.1))
    where
      by : (b : Bool) → nat_lt r.moment m ≡ b → Split (r ∷ past) r.moment → Split (r ∷ past) m
      by true t s = later-split past r m (grind (arith, nat_tests, t)) order.0 order.1 s
      by false t s = let same : r.moment ≡ m = grind (arith, nat_tests, t, up.0) in subst (Split (r ∷ past)) same s

  all-in-place : (past : List Row) → AreOrdered past → written past ++ due_text None past ≡ flat (placed_all (entries past) (slows past))
  all-in-place [] order = none-told None ∙ sym (ap (λ ss. flat (placed_all [] ss)) none-slow)
  all-in-place (r ∷ past) order = total past r order.0 order.1 (here-split past r (split past r.moment order.0 order.1))

  written-is : (past rows : List Row) → written past ++ lines_of (row_lines system flags how show.Findings) past rows ≡ written (past_of past rows)
  written-is past [] = append-nil (written past)
  written-is past (r ∷ rows) =
      sym (append_assoc (written past) (row_lines system flags how show.Findings past r) (lines_of (row_lines system flags how show.Findings) (r ∷ past) rows))
      ∙ written-is (r ∷ past) rows

  told-join : (xs ys : List Found) → told flags (xs ++ ys) ≡ told flags xs ++ told flags ys
  told-join xs ys = filter-append (λ (f : Found). not (is_allowed flags f.finding)) xs ys

  entries-are : (past rows : List Row) → entries past ++ map found_entry (told flags (found_in system past rows)) ≡ entries (past_of past rows)
  entries-are past [] = append-nil (entries past)
  entries-are past (r ∷ rows) =
      let first = found_at r.moment r.core (finding system past r.moment r.what) in
      let rest = found_in system (r ∷ past) rows in
      ap (λ l. entries past ++ l) (ap (map found_entry) (told-join first rest) ∙ map-join found_entry (told flags first) (told flags rest))
      ∙ sym (append_assoc (entries past) (news past r) (map found_entry (told flags rest)))
      ∙ entries-are (r ∷ past) rows

  ordered-all : (past rows : List Row) → AreOrdered past → InOrder past rows → AreOrdered (past_of past rows)
  ordered-all past [] order rest = order
  ordered-all past (r ∷ rows) order rest = ordered-all (r ∷ past) rows (rest.0, order) rest.1

  pub in-place : (rows : List Row) → InOrder [] rows
      → lines_of (row_lines system flags how show.Findings) [] rows ++ chain_found_lines how system (all_due None 0 (chains_of system (past_of [] rows)).each)
      ≡ with_placed (map (λ (f : Found). (f.moment, found_line how system f)) (told flags (found_in system [] rows)))
      (map (λ (f : ChainFound). (f.moment, chain_found_line how system f)) (all_slow system (past_of [] rows) 0 system.chains))
  in-place rows order =
      ap (λ l. l ++ due_text None (past_of [] rows)) (written-is [] rows)
      ∙ all-in-place (past_of [] rows) (ordered-all [] rows tt order)
      ∙ ap (λ es. flat (placed_all es (slows (past_of [] rows)))) (sym (entries-are [] rows))
