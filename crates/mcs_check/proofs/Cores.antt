-- The cores in rounds, in which each looks at its own rows.
use Rattle.std.proofs.Common.{◌≡◌, ◌∙◌, ◌++◌, ◌+◌, ◌-◌, ◌≤◌, ◌<◌, ◌⊎◌, inl, inr, ◌∷◌, [], ℕ, zero, suc, Bool, true, false, cond, List, Option, map, length, replicate, append-nil, append_assoc, ap, arith, drop, refl, subst, sym}
use Rattle.std.specs.Prelude.{flat_map, fold, get_or, nat_le, slice_index, slice_index_or, slice_set, Some, None}
use Rattle.std.specs.List.{range_with_len}
use Rattle.std.specs.Ordering.{nat_cmp}
use Rattle.std.specs.List.Sorted.{IsSortedByKey, IsStableByKey}
use Rattle.std.proofs.lemmas.Bool.Decides.{nat_tests}
use Rattle.std.proofs.lemmas.List.{drop_more, get_or-map, length-append, length-map, get_or-replicate, get_or-set_other}
use Rattle.mcs_ticks.specs.declared.row.Row.{Row}
use Rattle.mcs_merge.specs.Merge.{AreFrom, DoNotFall}
use Rattle.mcs_merge.proofs.Merges.{AreFrom-zero}
use Rattle.mcs_system.specs.System.{System, core_of, no_note, no_thread, note_part, thread_part}
use Rattle.mcs_system.specs.declared.part.NotePart.{NotePart}
use Rattle.mcs_system.specs.declared.part.ThreadPart.{ThreadPart}
use Rattle.mcs_system.specs.WellFormed.{IsWellFormed}
use Rattle.mcs_laws.proofs.Homes.{core_of_context}
use Rattle.mcs_core.specs.Clock.{clock, schedule}
use Rattle.mcs_stretch.specs.ByScripts.{clocks_after}
use Rattle.mcs_stretch.specs.Stretch.{rows_between}
use Rattle.mcs_stretch.proofs.Merging.{list-between, order-between}
use Rattle.mcs_stretch.proofs.Openings.{zero_at}
use Rattle.mcs_stretch.proofs.Ranges.{flat_map-join}
use Rattle.mcs_window.specs.Desk.{Table, clock_of, opening_table, taken_at, taken_of, turns_left, AllAreHere, AreToldBetween, IsFinished, IsLater}
use Rattle.mcs_window.proofs.Lists.{each-more, some-of}
use Rattle.mcs_verdict.specs.declared.finding.Found.{Found}
use Rattle.mcs_verdict.specs.Findings.{InOrder, UpTo, found_at, found_at_end, past_of, untaken_at_end}
use Rattle.mcs_verdict.specs.declared.finding.Finding.{Finding}
use Rattle.mcs_verdict.specs.Due.{untaken}
use Rattle.mcs_verdict.specs.Misses.{unended}
use Rattle.mcs_verdict.proofs.Orders.{up_to-later}
use Rattle.mcs_verdict.specs.laws.ByCore.{CoresAreWatched, home_of, note_home_of}
use Rattle.mcs_check.specs.declared.rounds.Cores.{Cores}
use Rattle.mcs_check.specs.declared.core_watch.CoreWatch.{CoreWatch}
use Rattle.mcs_check_lines.specs.declared.counts.Counts.{Counts}
use Rattle.mcs_check_lines.specs.Counts.{no_counts, together}
use Rattle.mcs_check.specs.stored.ByCore.{before_on, counts_on, told_on}
use Rattle.mcs_check.specs.stored.Found.{before_of, counts_so_far, told_in}
use Rattle.mcs_check.specs.stored.OwnRows.{since, until, HoldsOwn}
use Rattle.mcs_check.specs.stored.Threads.{threads_of}
use Rattle.mcs_check.specs.stored.Rounds.{are_counted_together, AreWatched, HasTaken, IsNext, IsReady, IsWatched}
use Rattle.mcs_check.proofs.ByCore.{told-later, told-sorted, told-split, unended-home, untaken-home, up-past}
use Rattle.mcs_check.proofs.CountsByCore.{counts-together}
use Rattle.mcs_check.proofs.Homes.{come-home, on-core, waits-home}

-- what was found at a moment or later, of what was found at an earlier one or later
since-since : (from to : ℕ) → from ≤ to → (found : List Found) → since to (since from found) ≡ since to found
since-since from to l [] = refl
since-since from to l (f ∷ found) = by (nat_le from f.moment) refl (since-since from to l found)
  where
    by : (b : Bool) → nat_le from f.moment ≡ b → since to (since from found) ≡ since to found → since to (cond b (f ∷ since from found) (since from found)) ≡ since to (f ∷ found)
    by true e rest = ap (λ l. cond (nat_le to f.moment) (f ∷ l) l) rest
    by false e rest =
        let early : nat_le to f.moment ≡ false = grind (arith, nat_tests) in
        rest ∙ sym (ap (λ b. cond b (f ∷ since to found) (since to found)) early)

in-order : (past rows : List Row) (t : ℕ) → UpTo t past → AreFrom t rows → DoNotFall rows → InOrder past rows
in-order past [] t up from order = tt
in-order past (r ∷ rows) t up from order =
    let here = up_to-later t r.moment past from.0 up in (here, in-order (r ∷ past) rows r.moment (omega arith, here) order.0 order.1)

-- the rows of a core come in order
pub order-on : (system : System) (c to : ℕ) → InOrder [] (rows_between system c 0 to)
order-on system c to = in-order [] (rows_between system c 0 to) 0 tt (AreFrom-zero (rows_between system c 0 to)) (order-between system c 0 to)

-- and those of a run are not after its horizon
pub up-on : (system : System) (c horizon : ℕ) → UpTo horizon (past_of [] (rows_between system c 0 (suc horizon)))
up-on system c horizon = up-past horizon [] (rows_between system c 0 (suc horizon)) tt (order-on system c (suc horizon)) (list-between system c 0 (suc horizon) (omega arith)).before

-- clocks do not go back
set-grows : (xs : List ℕ) (c b : ℕ) → slice_index xs b ≤ slice_index (slice_set xs c (suc (slice_index xs c))) b
set-grows [] c b = omega arith
set-grows (x ∷ xs) zero zero = omega arith
set-grows (x ∷ xs) zero (suc b) = omega arith
set-grows (x ∷ xs) (suc c) zero = omega arith
set-grows (x ∷ xs) (suc c) (suc b) = set-grows xs c b

clocks-grow : (clocks turns : List ℕ) (b : ℕ) → slice_index clocks b ≤ slice_index (clocks_after clocks turns) b
clocks-grow clocks [] b = omega arith
clocks-grow clocks (c ∷ turns) b =
    let one = set-grows clocks c b in
    let rest = clocks-grow (slice_set clocks c (suc (slice_index clocks c))) turns b in omega arith

pub clock-grows : (before after : Table) → IsLater before after → (c : ℕ) → clock_of before c ≤ clock_of after c
clock-grows before after later c =
    subst (λ (t : Table). clock_of before c ≤ clock_of t c) (sym later.went.rest) (clocks-grow before.clocks later.went.turns c)

sum-none : (f : ℕ → ℕ) (n a acc : ℕ) → ((c : ℕ) → c < a + n → f c ≡ 0) → fold (λ s x. s + f x) acc (range_with_len a n) ≡ acc
sum-none f zero a acc h = refl
sum-none f (suc n) a acc h = sum-none f n (a + 1) (acc + f a) (λ c l. h c (omega arith)) ∙ (let e = h a (omega arith) in omega arith)

same-item : {S : Type 0} (xs : List S) (n : ℕ) (x y : S) → n < length xs → get_or xs n x ≡ get_or xs n y
same-item [] n x y l = absurd (omega arith)
same-item (z ∷ xs) zero x y l = refl
same-item (z ∷ xs) (suc n) x y l = same-item xs n x y (omega arith)

-- the thread of a number
pub thread-at : (system : System) (n : ℕ) (part : ThreadPart) → n < length system.threads → part ≡ get_or system.threads n part → part ≡ thread_part system n
thread-at system n part l is = is ∙ same-item system.threads n part no_thread l

-- what is found at the horizon of one thread more
pub unended-next : (system : System) (past : List Row) (horizon n : ℕ) (part : ThreadPart) (core : ℕ) (finding : Option Finding) (before now whole : List Found) → n < length system.threads
    → part ≡ get_or system.threads n part → core ≡ core_of system part → finding ≡ unended system past horizon n → now ≡ before ++ found_at horizon core finding
    → before ++ found_at_end system past horizon n (drop n system.threads) ≡ whole → now ++ found_at_end system past horizon (n + 1) (drop (n + 1) system.threads) ≡ whole
unended-next system past horizon n part core finding before now whole l is home says put so_far =
    let rest = drop (n + 1) system.threads in
    let more = found_at_end system past horizon (n + 1) rest in
    let first : found_at horizon core finding ≡ found_at horizon (core_of system part) (unended system past horizon n) = ap (λ k. found_at horizon k finding) home ∙ ap (found_at horizon (core_of system part)) says in
    let next : more ≡ found_at_end system past horizon (suc n) rest = ap (λ k. found_at_end system past horizon k rest) (let e : n + 1 ≡ suc n = omega arith in e) in
    let split : drop n system.threads ≡ part ∷ rest = drop_more system.threads n part l ∙ ap (λ p. p ∷ rest) (sym is) in
    ap (λ found. found ++ more) put ∙ append_assoc before (found_at horizon core finding) more
    ∙ ap (λ found. before ++ (found ++ more)) first
    ∙ ap (λ found. before ++ (found_at horizon (core_of system part) (unended system past horizon n) ++ found)) next
    ∙ ap (λ parts. before ++ found_at_end system past horizon n parts) (sym split) ∙ so_far

-- and of one notification more
pub untaken-next : (system : System) (past : List Row) (horizon n core : ℕ) (finding : Option Finding) (before now whole : List Found) → n < length system.notes
    → core ≡ note_home_of system n → finding ≡ untaken system past horizon n → now ≡ before ++ found_at horizon core finding
    → before ++ untaken_at_end system past horizon n (drop n system.notes) ≡ whole → now ++ untaken_at_end system past horizon (n + 1) (drop (n + 1) system.notes) ≡ whole
untaken-next system past horizon n core finding before now whole l home says put so_far =
    let rest = drop (n + 1) system.notes in
    let more = untaken_at_end system past horizon (n + 1) rest in
    let first : found_at horizon core finding ≡ found_at horizon (note_home_of system n) (untaken system past horizon n) = ap (λ k. found_at horizon k finding) home ∙ ap (found_at horizon (note_home_of system n)) says in
    let next : more ≡ untaken_at_end system past horizon (suc n) rest = ap (λ k. untaken_at_end system past horizon k rest) (let e : n + 1 ≡ suc n = omega arith in e) in
    let split : drop n system.notes ≡ note_part system n ∷ rest = drop_more system.notes n no_note l in
    ap (λ found. found ++ more) put ∙ append_assoc before (found_at horizon core finding) more
    ∙ ap (λ found. before ++ (found ++ more)) first
    ∙ ap (λ found. before ++ (found_at horizon (note_home_of system n) (untaken system past horizon n) ++ found)) next
    ∙ ap (λ parts. before ++ untaken_at_end system past horizon n parts) (sym split) ∙ so_far

-- what is kept before the first row
abbrev pub IsUnused : System → CoreWatch → Type 0
IsUnused system own = (own.watch ≡ threads_of system []) × (own.counts ≡ no_counts) × (own.found.items ≡ []) × (own.rows ≡ 0)

-- the same for n cores
pub record AreUnused (system : System) (many : ℕ) (watches : List CoreWatch) : Type 0 where
  pub many_are : length watches ≡ many
  pub each : (c : ℕ) (x : CoreWatch) → c < many → IsUnused system (slice_index_or watches c x)

pub unused-more : (system : System) (many : ℕ) (watches more : List CoreWatch) (own : CoreWatch) → AreUnused system many watches → IsUnused system own → more ≡ watches ++ own ∷ [] → AreUnused system (many + 1) more
unused-more system many watches more own are is pushed =
    record {
      many_are = ap length pushed ∙ (let many = are.many_are in simp length-append (omega arith));
      each = each-more watches more many own (λ _ w. IsUnused system w) are.many_are are.each is pushed;
    }

pub unused-ready : (system : System) (allowed : List Bool) (horizon : ℕ) (cores : Cores) → AreUnused system system.cores cores.watches.items → cores.desk ≡ opening_table system horizon → cores.reached ≡ 0
    → IsReady system allowed horizon cores
unused-ready system allowed horizon cores are desk_is reached =
    record {
      system_is = ap (λ (t : Table). t.system) desk_is;
      horizon_is = ap (λ (t : Table). t.horizon) desk_is;
      sound = ap (λ (t : Table). t.lost) desk_is;
      here = subst AllAreHere (sym desk_is) (λ c l. get_or-replicate system.cores c None None l);
      in_time = omega arith;
      later = λ c l. omega arith;
      most = λ c l. let at : clock_of cores.desk c ≡ 0 = ap (λ (t : Table). clock_of t c) desk_is ∙ zero_at 64 c in omega arith;
      watched = subst (λ n. AreWatched system allowed n cores.desk.clocks cores.watches.items) (sym reached)
          (record {
            many_are = are.many_are;
            each = λ c x l.
                let its = are.each c x l in
                subst (λ n. IsWatched system allowed 0 c n (slice_index_or cores.watches.items c x)) (sym (ap (λ (t : Table). clock_of t c) desk_is ∙ zero_at 64 c))
                (record { many = its.3; seen = record { watch = its.0; counts = its.1; found = its.2 } });
          });
    }

module _ (system : System) (allowed : List Bool) where
  -- a finder for each core holds what its watch has seen
  pub finders-hold : {F : Type 0} (own_of : F → Option CoreWatch) (from : ℕ) (clocks : List ℕ) (watches : List CoreWatch) (finders : List F)
      → map own_of finders ≡ map (λ own. Some own) watches → AreWatched system allowed from clocks watches
      → AreToldBetween (λ f rows. HoldsOwn system allowed from (own_of f) rows) system (replicate 64 0) clocks finders
  finders-hold own_of from clocks watches finders same are =
      let long : length finders ≡ length watches = simp length-map at (ap length same) in
      record {
        many_are = long ∙ are.many_are;
        each = λ c x l.
            let many = are.many_are in
            let w = some-of watches c (omega arith) in
            let is : own_of (slice_index_or finders c x) ≡ Some (slice_index_or watches c w) =
            sym (get_or-map own_of finders c x (own_of x) (omega arith)) ∙ ap (λ l. get_or l c (own_of x)) same ∙ get_or-map (λ own. Some own) watches c w (own_of x) (omega arith) in
            let its = are.each c w l in
            subst (λ o. HoldsOwn system allowed from o (rows_between system c (slice_index (replicate 64 0) c) (slice_index clocks c))) (sym is)
            (subst (λ n. HoldsOwn system allowed from (Some (slice_index_or watches c w)) (rows_between system c n (slice_index clocks c))) (sym (zero_at 64 c)) (its.many, λ order. its.seen));
      }

  -- the findings of a core before a time are dropped
  pub watched-since : (from to c end : ℕ) (own next : CoreWatch) → from ≤ to → IsWatched system allowed from c end own → next.watch ≡ own.watch → next.counts ≡ own.counts → next.rows ≡ own.rows
      → next.found.items ≡ since to own.found.items → IsWatched system allowed to c end next
  watched-since from to c end own next l is watch counts rows found =
      record {
        many = rows ∙ is.many;
        seen = record {
          watch = watch ∙ is.seen.watch;
          counts = counts ∙ is.seen.counts;
          found = found ∙ ap (since to) is.seen.found ∙ since-since from to l (told_in system allowed [] (rows_between system c 0 end));
        };
      }

  -- what a core holds of its rows it has seen
  pub held-watched : (from c end : ℕ) (own : CoreWatch) → HoldsOwn system allowed from (Some own) (rows_between system c 0 end) → IsWatched system allowed from c end own
  held-watched from c end own holds = record { many = holds.0; seen = holds.1 (order-on system c end) }

  -- cores below this number were taken from a desk
  pub record IsTaking (from at : ℕ) (first desk : Table) (core : ℕ) (watches : List CoreWatch) (found : List Found) : Type 0 where
    pub desk_is : desk ≡ record first { taken = desk.taken }
    pub untaken : (c : ℕ) → core ≤ c → c < system.cores → taken_of desk c ≡ 0
    pub many_are : length watches ≡ core
    pub each : (c : ℕ) (x : CoreWatch) → c < core → IsWatched system allowed at c (clock_of first c) (slice_index_or watches c x)
    pub found_are : found ≡ flat_map (λ c. told_on system allowed c from at) (range_with_len 0 core)

  pub taking-first : (from at : ℕ) (first : Table) → first.system ≡ system → ((c : ℕ) → c < first.system.cores → taken_of first c ≡ 0) → IsTaking from at first first 0 [] []
  taking-first from at first system_is none =
      record {
        desk_is = refl;
        untaken = λ c k l. none c (subst (λ (s : System). c < s.cores) (sym system_is) l);
        many_are = refl;
        each = λ c x l. absurd (omega arith);
        found_are = refl;
      }

  pub taking-next : (from at : ℕ) (first desk next : Table) (core : ℕ) (watches more : List CoreWatch) (found now : List Found) (last : CoreWatch)
      → IsTaking from at first desk core watches found → core < system.cores → next ≡ taken_at desk core → IsWatched system allowed at core (clock_of desk core) last
      → now ≡ found ++ told_on system allowed core from at → more ≡ watches ++ last ∷ [] → IsTaking from at first next (core + 1) more now
  taking-next from at first desk next core watches more found now last is l taken watched told pushed =
      let last_is = subst (λ (d : Table). IsWatched system allowed at core (clock_of d core) last) is.desk_is watched in
      record {
        desk_is = taken ∙ ap (λ (d : Table). record d { taken = slice_set desk.taken core (clock_of desk core) }) is.desk_is
            ∙ ap (λ xs. record first { taken = xs }) (sym (ap (λ (d : Table). d.taken) taken));
        untaken = λ c k m. ap (λ (d : Table). taken_of d c) taken ∙ get_or-set_other desk.taken core c (clock_of desk core) 0 (omega arith) ∙ is.untaken c (omega arith) m;
        many_are = ap length pushed ∙ (let many = is.many_are in simp length-append (omega arith));
        each = each-more watches more core last (λ c x. IsWatched system allowed at c (clock_of first c) x) is.many_are is.each last_is pushed;
        found_are =
            told ∙ ap (λ xs. xs ++ told_on system allowed core from at) is.found_are
            ∙ ap (λ xs. flat_map (λ c. told_on system allowed c from at) (range_with_len 0 core) ++ xs) (sym (append-nil (told_on system allowed core from at)))
            ∙ ap (λ n. flat_map (λ c. told_on system allowed c from at) (range_with_len 0 core) ++ flat_map (λ c. told_on system allowed c from at) (range_with_len n 1)) (let e : core ≡ 0 + core = omega arith in e)
            ∙ flat_map-join (λ c. told_on system allowed c from at) core 1 0;
      }

  -- all cores were taken
  pub taking-done : (from : ℕ) (first desk : Table) (core : ℕ) (cores : Cores) → IsTaking from cores.reached first desk core cores.watches.items cores.found.items → first.system ≡ system
      → core ≡ first.system.cores → cores.desk ≡ record desk { taken = replicate 64 0 } → from ≤ cores.reached → cores.reached ≤ first.horizon + 1
      → ((c : ℕ) → c < first.system.cores → cores.reached ≤ clock_of first c) → ((c : ℕ) → c < first.system.cores → clock_of first c ≤ first.horizon + 1)
      → ((to : ℕ) → to ≤ first.horizon + 1 → ((c : ℕ) → c < first.system.cores → to ≤ clock_of first c) → to ≤ cores.reached) → HasTaken system allowed from first cores
  taking-done from first desk core cores is system_is all retold ahead in_time later most least =
      let same : first.system.cores ≡ system.cores = ap (λ (s : System). s.cores) system_is in
      record {
        desk_is = retold ∙ ap (λ (t : Table). record t { taken = replicate 64 0 }) is.desk_is ∙ ap (λ xs. record first { taken = xs }) (sym (ap (λ (t : Table). t.taken) retold));
        ahead = ahead;
        in_time = in_time;
        later = λ c l. later c (omega arith);
        most = λ c l. most c (omega arith);
        least = λ to l each. least to l (λ c k. each c (omega arith));
        watched = record { many_are = is.many_are ∙ all ∙ same; each = λ c x l. is.each c x (omega arith) };
        found = is.found_are ∙ ap (λ n. flat_map (λ c. told_on system allowed c from cores.reached) (range_with_len 0 n)) (all ∙ same);
      }

  -- a desk after turns were taken on it
  pub record HasGone (before : Cores) (went : Table) : Type 0 where
    pub system_is : went.system ≡ system
    pub horizon_is : went.horizon ≡ before.desk.horizon
    pub untaken : (c : ℕ) → c < went.system.cores → taken_of went c ≡ 0
    pub later : (c : ℕ) → c < went.system.cores → before.reached ≤ clock_of went c

  pub has-gone : (before : Cores) (told went : Table) → IsReady system allowed before.desk.horizon before → told ≡ record before.desk { taken = replicate 64 0 } → IsLater told went → HasGone before went
  has-gone before told went ready told_is later =
      let system_is : went.system ≡ system = later.system_is ∙ ap (λ (t : Table). t.system) told_is ∙ ready.system_is in
      let same : went.system.cores ≡ system.cores = ap (λ (s : System). s.cores) system_is in
      record {
        system_is = system_is;
        horizon_is = later.horizon_is ∙ ap (λ (t : Table). t.horizon) told_is;
        untaken = λ c l. ap (λ xs. slice_index xs c) (later.taken_are ∙ ap (λ (t : Table). t.taken) told_is) ∙ zero_at 64 c;
        later = λ c l.
            let was = ready.later c (omega arith) in
            let grown = clock-grows told went later c in
            let from : clock_of told c ≡ clock_of before.desk c = ap (λ (t : Table). clock_of t c) told_is in omega arith;
      }

  -- when all turns were taken, all findings are passed on
  pub all-reached : (from : ℕ) (went : Table) (taken : Cores) → went.system ≡ system → IsFinished went → HasTaken system allowed from went taken → taken.reached ≡ went.horizon + 1
  all-reached from went taken system_is finished has =
      let cores : went.system.cores ≡ system.cores = ap (λ (s : System). s.cores) system_is in
      let reach = has.least (went.horizon + 1) (omega arith) (λ c l. let e = finished c (omega arith) in omega arith) in
      let most = has.in_time in omega arith

  module _ (well : IsWellFormed system) where
    -- the state that is taken out of a core, and its findings
    pub taken-out : (from at core end : ℕ) (own last : CoreWatch) → from ≤ at → at ≤ end → HoldsOwn system allowed from (Some own) (rows_between system core 0 end)
        → last.watch ≡ own.watch → last.counts ≡ own.counts → last.rows ≡ own.rows → last.found.items ≡ since at own.found.items
        → IsWatched system allowed at core end last × (until at own.found.items ≡ told_on system allowed core from at)
    taken-out from at core end own last a b holds watch counts rows left =
        let watched = held-watched from core end own holds in (
          watched-since from at core end own last a watched watch counts rows left,
          ap (until at) (watched.seen.found ∙ (told-split system allowed core 0 from end (omega arith) (omega arith)).1)
              ∙ (told-split system allowed core from at end a b).0,
        )

    -- what a round found comes next in the schedule
    pub round-next : CoresAreWatched → (before taken after : Cores) (told went : Table) → IsReady system allowed before.desk.horizon before
        → told ≡ record before.desk { taken = replicate 64 0 } → IsLater told went → IsFinished went ⊎ (turns_left went < turns_left told)
        → HasTaken system allowed before.reached went taken → after.desk ≡ taken.desk → after.watches ≡ taken.watches → after.reached ≡ taken.reached
        → IsSortedByKey (λ f. f.moment) nat_cmp after.found.items
        → IsStableByKey (λ f. f.moment) nat_cmp taken.found.items after.found.items → IsNext system allowed before after
    round-next watched before taken after told went ready told_is later way has desk_is watches_are reached_is sorted stable =
        let to = taken.reached in
        let system_is : went.system ≡ system = later.system_is ∙ ap (λ (t : Table). t.system) told_is ∙ ready.system_is in
        let horizon_is : went.horizon ≡ before.desk.horizon = later.horizon_is ∙ ap (λ (t : Table). t.horizon) told_is in
        let table : after.desk ≡ record went { taken = taken.desk.taken } = desk_is ∙ has.desk_is in
        let clocks_are : after.desk.clocks ≡ went.clocks = ap (λ (t : Table). t.clocks) table in
        let cores : went.system.cores ≡ system.cores = ap (λ (s : System). s.cores) system_is in
        record {
          ready = record {
            system_is = ap (λ (t : Table). t.system) table ∙ system_is;
            horizon_is = ap (λ (t : Table). t.horizon) table ∙ horizon_is;
            sound = ap (λ (t : Table). t.lost) table ∙ later.sound;
            here = subst AllAreHere (sym table) later.here;
            in_time = let most = has.in_time in omega arith;
            later = λ c l. subst (λ n. n ≤ clock_of after.desk c) (sym reached_is) (subst (λ xs. to ≤ slice_index xs c) (sym clocks_are) (has.later c l));
            most = λ c l. subst (λ xs. slice_index xs c ≤ before.desk.horizon + 1) (sym clocks_are) (let e = has.most c l in omega arith);
            watched = subst (λ n. AreWatched system allowed n after.desk.clocks after.watches.items) (sym reached_is)
                (subst (λ xs. AreWatched system allowed to xs after.watches.items) (sym clocks_are)
                (subst (λ (ws : _). AreWatched system allowed to went.clocks ws.items) (sym watches_are) has.watched));
          };
          ahead = let ahead = has.ahead in omega arith;
          found = ap (λ n. told_in system allowed [] (clock system n).rows) reached_is
              ∙ told-later system well allowed before.reached to has.ahead
              ∙ ap (λ found. told_in system allowed [] (clock system before.reached).rows ++ found)
              (sym (told-sorted system well (come-home system well) (on-core system well) watched allowed before.reached to has.ahead after.found.items sorted
              (subst (λ l. IsStableByKey (λ f. f.moment) nat_cmp l after.found.items) has.found stable)));
          fewer = elim way [
            | inl finished ↦ inl (reached_is ∙ all-reached before.reached went taken system_is finished has ∙ ap (λ n. n + 1) horizon_is)
            | inr less ↦ inr (
                let now : turns_left after.desk ≡ turns_left went = ap turns_left table in let was : turns_left told ≡ turns_left before.desk = ap turns_left told_is in omega arith
                )
          ];
        }

  -- turns that are left, and one more unless all findings are passed on
  abbrev pub rounds_left : ℕ → Cores → ℕ
  rounds_left horizon cores = turns_left cores.desk + cond (nat_le cores.reached horizon) 1 0

  pub rounds-fewer : (horizon : ℕ) (before after : Cores) → IsReady system allowed horizon before → IsNext system allowed before after → before.reached ≤ horizon
      → rounds_left horizon after < rounds_left horizon before
  rounds-fewer horizon before after ready next early = by next.fewer
    where
      was : cond (nat_le before.reached horizon) 1 zero ≡ suc zero
      was = ap (λ b. cond b 1 0) (let e : nat_le before.reached horizon ≡ true = grind (arith, nat_tests) in e)

      most : (b : Bool) → cond b 1 0 ≤ 1
      most true = omega arith
      most false = omega arith

      by : (after.reached ≡ before.desk.horizon + 1) ⊎ (turns_left after.desk < turns_left before.desk) → rounds_left horizon after < rounds_left horizon before
      by (inl over) =
          let h = ready.horizon_is in
          let k = next.ready.horizon_is in
          let cores : after.desk.system.cores ≡ system.cores = ap (λ (s : System). s.cores) next.ready.system_is in
          let none : turns_left after.desk ≡ 0 = sum-none (λ c. after.desk.horizon + 1 - clock_of after.desk c) after.desk.system.cores 0 0 (λ c l. let e = next.ready.later c (omega arith) in omega arith) in
          let now : cond (nat_le after.reached horizon) 1 zero ≡ zero = ap (λ b. cond b 1 0) (let e : nat_le after.reached horizon ≡ false = grind (arith, nat_tests) in e) in
          let then = was in omega arith
      by (inr less) = let then = was in let now = most (nat_le after.reached horizon) in omega arith

  counted-from : (t : ℕ) (watches : List CoreWatch) (n : ℕ) (counts : Counts) → ((k : ℕ) (x : CoreWatch) → k < length watches → (slice_index_or watches k x).counts ≡ counts_on system allowed (n + k) t)
      → fold (λ counts own. together counts own.counts) counts watches ≡ fold (λ counts c. together counts (counts_on system allowed c t)) counts (range_with_len n (length watches))
  counted-from t [] n counts each = refl
  counted-from t (own ∷ watches) n counts each =
      let first : own.counts ≡ counts_on system allowed n t = each 0 own (omega arith) ∙ ap (λ m. counts_on system allowed m t) (let e : n + 0 ≡ n = omega arith in e) in
      ap (λ more. fold (λ counts own. together counts own.counts) (together counts more) watches) first
      ∙ counted-from t watches (n + 1) (together counts (counts_on system allowed n t))
      (λ k x l. each (suc k) x (omega arith) ∙ ap (λ m. counts_on system allowed m t) (let e : n + suc k ≡ n + 1 + k = omega arith in e))

  -- what the cores have counted is what is counted of all rows
  pub all-counted : IsWellFormed system → CoresAreWatched → (from t : ℕ) (watches : List CoreWatch) → AreWatched system allowed from (replicate system.cores t) watches
      → are_counted_together watches ≡ counts_so_far system allowed (before_of system t)
  all-counted well watched from t watches are =
      counted-from t watches 0 no_counts
      (λ k x l. (are.each k x (let many = are.many_are in omega arith)).seen.counts
      ∙ ap (λ n. counts_on system allowed k n) (get_or-replicate system.cores k t 0 (let many = are.many_are in omega arith))
      ∙ ap (λ m. counts_on system allowed m t) (let e : k ≡ 0 + k = omega arith in e))
      ∙ ap (λ n. fold (λ counts c. together counts (counts_on system allowed c t)) no_counts (range_with_len 0 n)) are.many_are
      ∙ counts-together system well (come-home system well) (on-core system well) watched allowed t

  -- when all turns were taken, all clocks are at the end
  pub ended : (horizon : ℕ) (cores : Cores) → IsReady system allowed horizon cores → horizon < cores.reached
      → AreWatched system allowed cores.reached (replicate system.cores (horizon + 1)) cores.watches.items
  ended horizon cores ready over =
      record {
        many_are = ready.watched.many_are;
        each = λ c x l.
            let at : clock_of cores.desk c ≡ horizon + 1 = (let a = ready.later c l in let b = ready.most c l in omega arith) in
            subst (λ n. IsWatched system allowed cores.reached c n (slice_index_or cores.watches.items c x)) (at ∙ sym (get_or-replicate system.cores c (horizon + 1) 0 l)) (ready.watched.each c x l);
      }

  -- a core of the system
  pub home-known : IsWellFormed system → (thread : ℕ) → home_of system thread < system.cores
  home-known well thread = core_of_context system well (thread_part system thread).context

  -- what is found of a thread at the horizon on its core is what is found of it among all rows
  pub found-at-home : IsWellFormed system → CoresAreWatched → (from horizon thread c : ℕ) (watches : List CoreWatch) (own : CoreWatch) (found : Option Finding)
      → AreWatched system allowed from (replicate system.cores (horizon + 1)) watches → c ≡ home_of system thread → own ≡ slice_index_or watches c own
      → ((past : List Row) → own.watch ≡ threads_of system past → UpTo horizon past → found ≡ unended system past horizon thread)
      → found ≡ unended system (past_of [] (schedule system horizon)) horizon thread
  found-at-home well watched from horizon thread c watches own found are home is says =
      let l : c < system.cores = (let k = home-known well thread in omega arith) in
      let its = are.each c own l in
      let to : slice_index (replicate system.cores (horizon + 1)) c ≡ suc horizon = get_or-replicate system.cores c (horizon + 1) 0 l ∙ (let e : horizon + 1 ≡ suc horizon = omega arith in e) in
      let seen : own.watch ≡ threads_of system (before_on system c (suc horizon)) =
      ap (λ (w : CoreWatch). w.watch) is ∙ its.seen.watch ∙ ap (λ n. threads_of system (past_of [] (rows_between system c 0 n))) to in
      says (before_on system c (suc horizon)) seen (up-on system c horizon)
      ∙ ap (λ n. unended system (before_on system n (suc horizon)) horizon thread) home
      ∙ unended-home system well (come-home system well) (on-core system well) watched (waits-home system well) horizon thread

  -- and of a notification
  pub untaken-at-home : IsWellFormed system → CoresAreWatched → (from horizon note c : ℕ) (watches : List CoreWatch) (own : CoreWatch) (found : Option Finding)
      → AreWatched system allowed from (replicate system.cores (horizon + 1)) watches → c ≡ note_home_of system note → c < system.cores → own ≡ slice_index_or watches c own
      → ((past : List Row) → own.watch ≡ threads_of system past → found ≡ untaken system past horizon note)
      → found ≡ untaken system (past_of [] (schedule system horizon)) horizon note
  untaken-at-home well watched from horizon note c watches own found are home l is says =
      let its = are.each c own l in
      let to : slice_index (replicate system.cores (horizon + 1)) c ≡ suc horizon = get_or-replicate system.cores c (horizon + 1) 0 l ∙ (let e : horizon + 1 ≡ suc horizon = omega arith in e) in
      let seen : own.watch ≡ threads_of system (before_on system c (suc horizon)) =
      ap (λ (w : CoreWatch). w.watch) is ∙ its.seen.watch ∙ ap (λ n. threads_of system (past_of [] (rows_between system c 0 n))) to in
      let known : note_home_of system note < system.cores = omega (arith, home, l) in
      says (before_on system c (suc horizon)) seen
      ∙ ap (λ n. untaken system (before_on system n (suc horizon)) horizon note) home
      ∙ untaken-home system well (come-home system well) (on-core system well) watched horizon note known
