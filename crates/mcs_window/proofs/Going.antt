-- Turns that cores take on the desk itself, in an order that is safe by the scripts.
use Rattle.std.proofs.Common.{◌≡◌, ℕ, zero, suc, ◌+◌, ◌-◌, ◌<◌, ◌≤◌, None, List, [], ◌∷◌, ◌++◌, length, set, replicate, false, inl, inr, refl, sym, ap, ◌∙◌, subst, arith}
use Rattle.std.specs.Prelude.{filter, flat_map, nat_le, slice_index}
use Rattle.std.specs.List.{range_with_len}
use Rattle.std.proofs.lemmas.Bool.{cases_lt}
use Rattle.std.proofs.lemmas.List.{get_or-set_same, get_or-set_other, length-set, set-set, set-get_or, ext_get_or}
use Rattle.mcs_system.specs.System.{System, TakesTime}
use Rattle.mcs_laws.specs.Links.{Signals}
use Rattle.mcs_stretch.specs.ByScripts.{IsSafeByScripts, clocks_after}
use Rattle.mcs_window.specs.Desk.{Table, AllAreHere, clock_of, settled_at, MayGoOn, WentByScripts, IsLater, IsSpent}
use Rattle.mcs_window.specs.stored.Cores.{AreSetBelow}
use Rattle.mcs_stretch.proofs.Leading.{IsSafeBy, leads-stretch, leads-idle}
use Rattle.mcs_stretch.proofs.Safe.{by-scripts}

pub safe-append : (system : System) (horizon : ℕ) (clocks xs ys : List ℕ) → IsSafeByScripts system horizon clocks xs → IsSafeByScripts system horizon (clocks_after clocks xs) ys → IsSafeByScripts system horizon clocks (xs ++ ys)
safe-append system horizon clocks [] ys p q = q
safe-append system horizon clocks (c ∷ xs) ys p q = (p.0, safe-append system horizon (set clocks c (suc (slice_index clocks c))) xs ys p.1 q)

pub after-append : (clocks xs ys : List ℕ) → clocks_after clocks (xs ++ ys) ≡ clocks_after (clocks_after clocks xs) ys
after-append clocks [] ys = refl
after-append clocks (c ∷ xs) ys = after-append (set clocks c (suc (slice_index clocks c))) xs ys

pub went-more : (before table after : Table) → WentByScripts before table → WentByScripts table after → WentByScripts before after
went-more before table after first second = by first.turns first.safe (subst (λ t. WentByScripts t after) first.rest second)
  where
    by : (turns : List ℕ) → IsSafeByScripts before.system before.horizon before.clocks turns → WentByScripts (record before { clocks = clocks_after before.clocks turns }) after → WentByScripts before after
    by turns safe more =
        record {
          turns = turns ++ more.turns;
          safe = safe-append before.system before.horizon before.clocks turns more.turns safe more.safe;
          rest = more.rest ∙ ap (λ clocks. record before { clocks = clocks }) (sym (after-append before.clocks turns more.turns));
        }

pub went-seen : (table seen after : Table) → table ≡ seen → WentByScripts table after → WentByScripts seen after
went-seen table seen after e went = subst (λ t. WentByScripts t after) e went

pub later-more : (before table after : Table) → IsLater before table → IsLater table after → IsLater before after
later-more before table after first second =
    record {
      system_is = second.system_is ∙ first.system_is;
      horizon_is = second.horizon_is ∙ first.horizon_is;
      taken_are = second.taken_are ∙ first.taken_are;
      sound = second.sound;
      here = second.here;
      went = went-more before table after first.went second.went;
    }

pub spent-more : (before table after : Table) → IsLater before table → IsSpent table after → IsSpent before after
spent-more before table after first spent =
    record { table = spent.table; core = spent.core; past = spent.past; later = later-more before table spent.table first spent.later; may = spent.may; spent = spent.spent }

-- idle time was skipped
pub skipped-later : (before after : Table) → before.lost ≡ false → AllAreHere before → after ≡ record before { clocks = after.clocks } → WentByScripts before after → IsLater before after
skipped-later before after sound here e went =
    record {
      system_is = ap (λ (t : Table). t.system) e;
      horizon_is = ap (λ (t : Table). t.horizon) e;
      taken_are = ap (λ (t : Table). t.taken) e;
      sound = ap (λ (t : Table). t.lost) e ∙ sound;
      here = subst AllAreHere (sym e) here;
      went = went;
    }

-- the clocks after the turns of one core
pub stretch-after : (n : ℕ) (clocks : List ℕ) (c : ℕ) → c < length clocks → clocks_after clocks (replicate n c) ≡ set clocks c (slice_index clocks c + n)
stretch-after zero clocks c l = sym (ap (set clocks c) (let e : slice_index clocks c + 0 ≡ slice_index clocks c = omega arith in e) ∙ set-get_or clocks c 0)
stretch-after (suc n) clocks c l =
    stretch-after n (set clocks c (suc (slice_index clocks c))) c (let e = length-set clocks c (suc (slice_index clocks c)) in omega arith)
    ∙ set-set clocks c (suc (slice_index clocks c)) (slice_index (set clocks c (suc (slice_index clocks c))) c + n)
    ∙ ap (set clocks c) (let own = get_or-set_same clocks c (suc (slice_index clocks c)) 0 l in
    let e : slice_index (set clocks c (suc (slice_index clocks c))) c + n ≡ slice_index clocks c + suc n = omega arith in e)

pub settled-went : (table after : Table) (c past to : ℕ) → MayGoOn table c past → table.system.cores ≤ length table.clocks → clock_of table c < to → to ≤ past → after ≡ settled_at table c to → WentByScripts table after
settled-went table after c past to may many ahead in_time e =
    let n = to - clock_of table c in
    let own : slice_index (set table.clocks c to) c ≡ to = get_or-set_same table.clocks c to 0 (let k = may.known in omega arith) in
    let leads = leads-stretch table.system table.horizon (Signals table.system) n (clock_of table) (slice_index (set table.clocks c to)) c to may.known (omega arith) (let k = may.in_time in omega arith)
    (λ b l other r. let f = may.far b l other r in omega arith) own (λ b l other. get_or-set_other table.clocks c b to 0 other) in
    let all = leads table.clocks (record { many = many; each = λ b l. refl }) in
    record {
      turns = replicate n c;
      safe = by-scripts table.system table.horizon table.clocks (replicate n c) all.0;
      rest = e ∙ ap (λ loans. record table { clocks = set table.clocks c to; loans = loans }) (ap (set table.loans c) (sym may.here) ∙ set-get_or table.loans c None)
          ∙ ap (λ clocks. record table { clocks = clocks })
          (sym (stretch-after n table.clocks c (let k = may.known in omega arith) ∙ ap (set table.clocks c) (let s : slice_index table.clocks c + n ≡ to = omega arith in s)));
    }

-- turns of known cores leave what stands past the last core
pub past-same : (system : System) (horizon : ℕ) (R : ℕ → ℕ → Type 0) (clocks turns : List ℕ) → IsSafeBy system horizon R clocks turns →
    (length (clocks_after clocks turns) ≡ length clocks) × ((b : ℕ) → system.cores ≤ b → slice_index (clocks_after clocks turns) b ≡ slice_index clocks b)
past-same system horizon R clocks [] safe = (refl, λ b l. refl)
past-same system horizon R clocks (c ∷ turns) safe =
    let next = set clocks c (suc (slice_index clocks c)) in
    let more = past-same system horizon R next turns safe.1 in (
      more.0 ∙ length-set clocks c (suc (slice_index clocks c)),
      λ b l. more.1 b l ∙ get_or-set_other clocks c b (suc (slice_index clocks c)) 0 (let known = safe.0.known in omega arith),
    )

pub skipped-went : (table : Table) (moment : ℕ) (later : List ℕ) → TakesTime table.system → table.system.cores ≤ length table.clocks → moment ≤ table.horizon + 1 → AreSetBelow table.clocks moment table.system.cores later →
    WentByScripts table (record table { clocks = later })
skipped-went table moment later takes_time many in_time set_to =
    let turns = flat_map (λ u. filter (λ b. nat_le (clock_of table b) u) (range_with_len 0 table.system.cores)) (range_with_len 0 moment) in
    let leads = leads-idle table.system table.horizon (Signals table.system) takes_time (clock_of table) moment (slice_index later) in_time (λ b l. set_to.done b l) in
    let all = leads table.clocks (record { many = many; each = λ b l. refl }) in
    let rest = past-same table.system table.horizon (Signals table.system) table.clocks turns all.0 in
    record {
      turns = turns;
      safe = by-scripts table.system table.horizon table.clocks turns all.0;
      rest = ap (λ clocks. record table { clocks = clocks })
          (ext_get_or 0 later (clocks_after table.clocks turns) (set_to.many_are ∙ sym rest.0)
          (λ b l. elim (cases_lt b table.system.cores) [
            | inl k ↦ sym (all.1.each b k)
            | inr k ↦ set_to.left b k ∙ sym (rest.1 b k)
          ]));
    }
