-- The turns of the moves of cores, and their calls as moves.
use Rattle.std.proofs.Common.{◌≡◌, ◌≢◌, ℕ, zero, suc, ◌+◌, ◌-◌, ◌<◌, ◌≤◌, List, [], ◌∷◌, ◌++◌, length, map, max, set, replicate, inl, inr, refl, sym, ap, ◌∙◌, subst, arith, append_assoc}
use Rattle.std.specs.Prelude.{filter, flat_map, nat_le, slice_index}
use Rattle.std.specs.List.{range_with_len}
use Rattle.std.proofs.lemmas.Bool.Decides.{eqb_tells}
use Rattle.std.proofs.lemmas.List.{ext_get_or, get_or-map, get_or-set_same, get_or-set_other, length-map, length-set, length-replicate}
use Rattle.mcs_system.specs.System.{System, TakesTime, delay_between}
use Rattle.mcs_laws.specs.Links.{Signals}
use Rattle.mcs_stretch.specs.Safe.{IsSafe}
use Rattle.mcs_stretch.specs.ByScripts.{IsSafeByScripts, clocks_after}
use Rattle.mcs_window.specs.Progress.{Progress, clock_of, opening_progress, after_fault}
use Rattle.mcs_stretch.specs.Stretch.{NothingArrivesBefore}
use Rattle.mcs_window.specs.declared.fault.StepFault.{StepFault}
use Rattle.mcs_window.specs.declared.fault.StepFault.TheVariants.{Ended, NotSafe, NoMemory}
use Rattle.mcs_stretch.specs.laws.BySignals.{IsSafeBySignals}
use Rattle.mcs_window.specs.laws.Moves as moves
use Rattle.mcs_window.specs.laws.Moves.{Move, Step, Advance, Skip, TakeRows, Fail, after_move, after_moves, turns_of, turns_in, MayMove, IsByDelays, IsByScripts, Each, AreMade, IsBy}
use Rattle.mcs_window.proofs.Going.{safe-append, after-append, stretch-after, past-same}
use Rattle.mcs_stretch.proofs.Leading.{IsSafeBy, Leads, leads-idle, leads-stretch}
use Rattle.mcs_stretch.proofs.Reaches.{by-delays, reached-later}
use Rattle.mcs_stretch.proofs.Safe.{safe-by, by-scripts, safe-by_scripts}

-- a safe order is safe by the signals
safe-signals : (system : System) (horizon : ℕ) (clocks cs : List ℕ) → IsSafe system horizon clocks cs → IsSafeBySignals system horizon clocks cs
safe-signals system horizon clocks [] h = tt
safe-signals system horizon clocks (c ∷ cs) h = (
  record { known = h.0.known; in_time = h.0.in_time; safe = by-delays system c (suc (slice_index clocks c)) clocks (λ b l other. let s = h.0.safe b l other in omega arith) },
  safe-signals system horizon (set clocks c (suc (slice_index clocks c))) cs h.1,
)

-- turns after turns, in each sense
safe-join : (system : System) (horizon : ℕ) (clocks xs ys : List ℕ) → IsSafe system horizon clocks xs → IsSafe system horizon (clocks_after clocks xs) ys → IsSafe system horizon clocks (xs ++ ys)
safe-join system horizon clocks [] ys p q = q
safe-join system horizon clocks (c ∷ xs) ys p q = (p.0, safe-join system horizon (set clocks c (suc (slice_index clocks c))) xs ys p.1 q)

signals-join : (system : System) (horizon : ℕ) (clocks xs ys : List ℕ) → IsSafeBySignals system horizon clocks xs → IsSafeBySignals system horizon (clocks_after clocks xs) ys → IsSafeBySignals system horizon clocks (xs ++ ys)
signals-join system horizon clocks [] ys p q = q
signals-join system horizon clocks (c ∷ xs) ys p q = (p.0, signals-join system horizon (set clocks c (suc (slice_index clocks c))) xs ys p.1 q)

-- the turns of an advance
module _ (system : System) (horizon : ℕ) (clocks : List ℕ) (c to : ℕ) (many : system.cores ≤ length clocks) (known : c < system.cores) (ahead : slice_index clocks c ≤ to) (in_time : to ≤ horizon + 1) where
  module _ (R : ℕ → ℕ → Type 0) (far : (b : ℕ) → b < system.cores → b ≢ c → R b c → to ≤ slice_index clocks b + delay_between system b c) where
    advance-by : IsSafeBy system horizon R clocks (replicate (to - slice_index clocks c) c)
    advance-by =
        (leads-stretch system horizon R (to - slice_index clocks c) (slice_index clocks) (slice_index (set clocks c to)) c to known (omega (arith, ahead)) in_time far
        (get_or-set_same clocks c to 0 (omega arith)) (λ b l other. get_or-set_other clocks c b to 0 other) clocks (record { many = many; each = λ b l. refl })).0

  advance-after : clocks_after clocks (replicate (to - slice_index clocks c) c) ≡ set clocks c to
  advance-after =
      stretch-after (to - slice_index clocks c) clocks c (omega arith)
      ∙ ap (set clocks c) (let e : slice_index clocks c + (to - slice_index clocks c) ≡ to = omega (arith, ahead) in e)

set-rises : (clocks : List ℕ) (c v b : ℕ) → c < length clocks → slice_index clocks c ≤ v → slice_index clocks b ≤ slice_index (set clocks c v) b
set-rises clocks c v b l up = elim (eqb_tells b c) [
  | inl e ↦ (let own = get_or-set_same clocks c v 0 l in
      let f : slice_index (set clocks c v) b ≡ slice_index (set clocks c v) c = ap (slice_index (set clocks c v)) e.1 in
      let g : slice_index clocks b ≡ slice_index clocks c = ap (slice_index clocks) e.1 in omega arith)
  | inr e ↦ (let f = get_or-set_other clocks c b v 0 e.1 in omega arith)
]

advance-signals : (n : ℕ) (system : System) (horizon : ℕ) (clocks : List ℕ) (c to : ℕ) → system.cores ≤ length clocks → c < system.cores → slice_index clocks c + n ≡ to → to ≤ horizon + 1 →
    NothingArrivesBefore system c to clocks → IsSafeBySignals system horizon clocks (replicate n c)
advance-signals zero system horizon clocks c to many known is in_time reached = tt
advance-signals (suc n) system horizon clocks c to many known is in_time reached =
    let there : c < length clocks = omega arith in
    let next = set clocks c (suc (slice_index clocks c)) in
    let own : slice_index next c ≡ suc (slice_index clocks c) = get_or-set_same clocks c (suc (slice_index clocks c)) 0 there in (
      record {
        known = known;
        in_time = omega arith;
        safe = λ b m mail l from made home. let arrives = reached b m mail l from made home in omega arith;
      },
      advance-signals n system horizon next c to (let e = length-set clocks c (suc (slice_index clocks c)) in omega arith) known (omega arith) in_time
          (reached-later system c to clocks next (λ b l. set-rises clocks c (suc (slice_index clocks c)) b there (omega arith)) reached),
    )

-- the turns of idle time
module _ (system : System) (horizon : ℕ) (clocks : List ℕ) (moment : ℕ) (takes_time : TakesTime system) (many : length clocks ≡ system.cores) (in_time : moment ≤ horizon + 1) where
  abbrev idle_turns : List ℕ
  idle_turns = flat_map (λ t. filter (λ c. nat_le (slice_index clocks c) t) (range_with_len 0 system.cores)) (range_with_len 0 moment)

  abbrev set_all : List ℕ
  set_all = map (λ clock. max clock moment) clocks

  idle-leads : Leads system horizon (λ b c. Unit {0}) (slice_index clocks) idle_turns (slice_index set_all)
  idle-leads =
      leads-idle system horizon (λ b c. Unit {0}) takes_time (slice_index clocks) moment (slice_index set_all) in_time (λ b l. get_or-map (λ clock. max clock moment) clocks b 0 0 (omega arith))

  idle-safe : IsSafe system horizon clocks idle_turns
  idle-safe = safe-by system horizon clocks idle_turns (idle-leads clocks (record { many = (omega arith); each = λ b l. refl })).0

  idle-after : clocks_after clocks idle_turns ≡ set_all
  idle-after =
      let all = idle-leads clocks (record { many = (omega arith); each = λ b l. refl }) in
      let same = (past-same system horizon (λ b c. Unit {0}) clocks idle_turns all.0).0 in
      ext_get_or 0 (clocks_after clocks idle_turns) set_all (same ∙ sym (length-map clocks (λ clock. max clock moment))) (λ b l. all.1.each b (omega arith))

-- the run stays the same, and there is a clock for each core
same-run : (progress : Progress) (move : Move) → ((after_move progress move).system ≡ progress.system) × ((after_move progress move).horizon ≡ progress.horizon)
same-run progress (Step c) = (refl, refl)
same-run progress (Advance c to) = (refl, refl)
same-run progress (Skip moment) = (refl, refl)
same-run progress (TakeRows c) = (refl, refl)
same-run progress Fail = (refl, refl)

abbrev IsFull : Progress → Type 0
IsFull progress = length progress.clocks ≡ progress.system.cores

enough : (progress : Progress) → IsFull progress → progress.system.cores ≤ length progress.clocks
enough progress full = let e : length progress.clocks ≡ progress.system.cores = full in omega arith

full-after : (progress : Progress) (move : Move) → IsFull progress → IsFull (after_move progress move)
full-after progress (Step c) full = length-set progress.clocks c (suc (clock_of progress c)) ∙ full
full-after progress (Advance c to) full = length-set progress.clocks c to ∙ full
full-after progress (Skip moment) full = length-map progress.clocks (λ clock. max clock moment) ∙ full
full-after progress (TakeRows c) full = full
full-after progress Fail full = full

clocks-after : (progress : Progress) (move : Move) → TakesTime progress.system → IsFull progress → MayMove progress move → clocks_after progress.clocks (turns_of progress move) ≡ (after_move progress move).clocks
clocks-after progress (Step c) takes_time full may = refl
clocks-after progress (Advance c to) takes_time full may = advance-after progress.system progress.horizon progress.clocks c to (enough progress full) may.known may.ahead may.in_time
clocks-after progress (Skip moment) takes_time full may = idle-after progress.system progress.horizon progress.clocks moment takes_time full may.in_time
clocks-after progress (TakeRows c) takes_time full may = refl
clocks-after progress Fail takes_time full may = refl

clocks-all : (progress : Progress) (ms : List Move) → TakesTime progress.system → IsFull progress → AreMade progress ms → (after_moves progress ms).clocks ≡ clocks_after progress.clocks (turns_in progress ms)
clocks-all progress [] takes_time full may = refl
clocks-all progress (move ∷ ms) takes_time full may =
    let next = after_move progress move in
    clocks-all next ms (subst TakesTime (sym (same-run progress move).0) takes_time) (full-after progress move full) may.1
    ∙ ap (λ clocks. clocks_after clocks (turns_in next ms)) (sym (clocks-after progress move takes_time full may.0))
    ∙ sym (after-append progress.clocks (turns_of progress move) (turns_in next ms))

-- if the turns of each move are safe in a sense, those of all are
module _ (IsFine : System → ℕ → List ℕ → List ℕ → Type 0) (none : (system : System) (horizon : ℕ) (clocks : List ℕ) → IsFine system horizon clocks []) (join : (system : System) (horizon : ℕ) (clocks xs ys : List ℕ) → IsFine system horizon clocks xs → IsFine system horizon (clocks_after clocks xs) ys → IsFine system horizon clocks (xs ++ ys)) (P : Progress → Move → Type 0) (one : (progress : Progress) (move : Move) → TakesTime progress.system → IsFull progress → MayMove progress move → P progress move → IsFine progress.system progress.horizon progress.clocks (turns_of progress move)) where
  all-fine : (progress : Progress) (ms : List Move) → TakesTime progress.system → IsFull progress → AreMade progress ms → Each P progress ms → IsFine progress.system progress.horizon progress.clocks (turns_in progress ms)
  all-fine progress [] takes_time full may fine = none progress.system progress.horizon progress.clocks
  all-fine progress (move ∷ ms) takes_time full may fine =
      let next = after_move progress move in
      let run = same-run progress move in
      let more = all-fine next ms (subst TakesTime (sym run.0) takes_time) (full-after progress move full) may.1 fine.1 in
      join progress.system progress.horizon progress.clocks (turns_of progress move) (turns_in next ms) (one progress move takes_time full may.0 fine.0)
      (subst (λ clocks. IsFine progress.system progress.horizon clocks (turns_in next ms)) (sym (clocks-after progress move takes_time full may.0))
      (subst (λ s. IsFine s progress.horizon next.clocks (turns_in next ms)) run.0
      (subst (λ h. IsFine next.system h next.clocks (turns_in next ms)) run.1 more)))

opening-full : (system : System) (horizon : ℕ) → IsFull (opening_progress system horizon)
opening-full system horizon = length-replicate {A = ℕ} system.cores 0

-- as far as the delays allow
move-safe : (progress : Progress) (move : Move) → TakesTime progress.system → IsFull progress → MayMove progress move → IsByDelays progress move → IsSafe progress.system progress.horizon progress.clocks (turns_of progress move)
move-safe progress (Step c) takes_time full may fine = (may.may, tt)
move-safe progress (Advance c to) takes_time full may fine =
    safe-by progress.system progress.horizon progress.clocks (replicate (to - clock_of progress c) c)
    (advance-by progress.system progress.horizon progress.clocks c to (enough progress full) may.known may.ahead may.in_time (λ b c. Unit {0}) (λ b l other r. fine b l other))
move-safe progress (Skip moment) takes_time full may fine = idle-safe progress.system progress.horizon progress.clocks moment takes_time full may.in_time
move-safe progress (TakeRows c) takes_time full may fine = tt
move-safe progress Fail takes_time full may fine = tt

pub moves-safe : moves.CoreMovesAreASafeOrder
moves-safe system horizon ms takes_time may fine =
    all-fine IsSafe (λ s h clocks. tt) safe-join IsByDelays move-safe (opening_progress system horizon) ms takes_time (opening-full system horizon) may fine

-- as far as the scripts allow
move-scripts : (progress : Progress) (move : Move) → TakesTime progress.system → IsFull progress → MayMove progress move → IsByScripts progress move → IsSafeByScripts progress.system progress.horizon progress.clocks (turns_of progress move)
move-scripts progress (Step c) takes_time full may fine = safe-by_scripts progress.system progress.horizon progress.clocks (c ∷ []) (may.may, tt)
move-scripts progress (Advance c to) takes_time full may fine =
    by-scripts progress.system progress.horizon progress.clocks (replicate (to - clock_of progress c) c)
    (advance-by progress.system progress.horizon progress.clocks c to (enough progress full) may.known may.ahead may.in_time (Signals progress.system) fine)
move-scripts progress (Skip moment) takes_time full may fine =
    let turns = turns_of progress (Skip moment) in
    safe-by_scripts progress.system progress.horizon progress.clocks turns (idle-safe progress.system progress.horizon progress.clocks moment takes_time full may.in_time)
move-scripts progress (TakeRows c) takes_time full may fine = tt
move-scripts progress Fail takes_time full may fine = tt

pub moves-scripts : moves.CoreMovesAreSafeByScripts
moves-scripts system horizon ms takes_time may fine =
    all-fine IsSafeByScripts (λ s h clocks. tt) safe-append IsByScripts move-scripts (opening_progress system horizon) ms takes_time (opening-full system horizon) may fine

-- and whatever they are
move-signals : (progress : Progress) (move : Move) → TakesTime progress.system → IsFull progress → MayMove progress move → Unit {0} → IsSafeBySignals progress.system progress.horizon progress.clocks (turns_of progress move)
move-signals progress (Step c) takes_time full may fine = safe-signals progress.system progress.horizon progress.clocks (c ∷ []) (may.may, tt)
move-signals progress (Advance c to) takes_time full may fine =
    advance-signals (to - clock_of progress c) progress.system progress.horizon progress.clocks c to (enough progress full) may.known (let up = may.ahead in omega arith) may.in_time may.reached
move-signals progress (Skip moment) takes_time full may fine =
    let turns = turns_of progress (Skip moment) in
    safe-signals progress.system progress.horizon progress.clocks turns (idle-safe progress.system progress.horizon progress.clocks moment takes_time full may.in_time)
move-signals progress (TakeRows c) takes_time full may fine = tt
move-signals progress Fail takes_time full may fine = tt

each-so : (progress : Progress) (ms : List Move) → Each (λ p m. Unit {0}) progress ms
each-so progress [] = tt
each-so progress (move ∷ ms) = (tt, each-so (after_move progress move) ms)

pub moves-signals : moves.CoreMovesAreSafeBySignals
moves-signals system horizon ms takes_time may =
    let opening = opening_progress system horizon in
    let full = opening-full system horizon in (
      all-fine IsSafeBySignals (λ s h clocks. tt) signals-join (λ p m. Unit {0}) move-signals opening ms takes_time full may (each-so opening ms),
      clocks-all opening ms takes_time full may,
    )

-- moves after moves
made-append : (progress : Progress) (first second : List Move) → AreMade progress first → AreMade (after_moves progress first) second → AreMade progress (first ++ second)
made-append progress [] second p q = q
made-append progress (move ∷ first) second p q = (p.0, made-append (after_move progress move) first second p.1 q)

moves-append : (progress : Progress) (first second : List Move) → after_moves progress (first ++ second) ≡ after_moves (after_moves progress first) second
moves-append progress [] second = refl
moves-append progress (move ∷ first) second = moves-append (after_move progress move) first second

turns-append : (progress : Progress) (first second : List Move) → turns_in progress (first ++ second) ≡ turns_in progress first ++ turns_in (after_moves progress first) second
turns-append progress [] second = refl
turns-append progress (move ∷ first) second =
    ap (λ xs. turns_of progress move ++ xs) (turns-append (after_move progress move) first second)
    ∙ sym (append_assoc (turns_of progress move) (turns_in (after_move progress move) first) (turns_in (after_moves (after_move progress move) first) second))

pub moves-join : moves.MovesJoin
moves-join before between after first second p q = (
  record {
    made = made-append before first second p.made (subst (λ progress. AreMade progress second) p.after_is q.made);
    after_is = q.after_is ∙ ap (λ progress. after_moves progress second) p.after_is ∙ sym (moves-append before first second);
  },
  turns-append before first second ∙ ap (λ progress. turns_in before first ++ turns_in progress second) (sym p.after_is),
)

-- the calls
refused : (before after : Progress) (fault : StepFault) → after ≡ after_fault fault before → (ms : List Move) × IsBy before after ms × (turns_in before ms ≡ [])
refused before after Ended e = ([], record { made = tt; after_is = e }, refl)
refused before after (NotSafe b) e = ([], record { made = tt; after_is = e }, refl)
refused before after NoMemory e = (Fail ∷ [], record { made = (tt, tt); after_is = e }, refl)

pub calls-moves : moves.CoreCallsAreMoves
calls-moves before after =
    record {
      step = λ c ready e. record { made = (ready, tt); after_is = e };
      step_refused = refused before after;
      advance = λ c to known ahead in_time reached whole e. record { made = (record { whole = whole; known = known; ahead = ahead; in_time = in_time; reached = reached }, tt); after_is = e };
      advance_refused = λ e. record { made = (tt, tt); after_is = e };
      skip = λ moment whole until e. record { made = (record { whole = whole; in_time = until.in_time }, tt); after_is = e };
      rows_taken = λ c known e. record { made = (known, tt); after_is = e };
    }
