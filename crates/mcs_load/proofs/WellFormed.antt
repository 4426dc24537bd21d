-- If all tests pass, the system read is well formed.
use Rattle.std.proofs.Common.{◌≡◌, ◌≢◌, ℕ, zero, suc, ◌+◌, ◌-◌, ◌^◌, ◌<◌, ◌≤◌, ◌==◌, ◌&&◌, nat_eq, nat_le, Bool, true, false, true≢false, not, get_or, sym, ap, ◌∙◌, subst, append_assoc, List, [], ◌∷◌, ◌++◌, length, length-append, map, drop, None, is_some, Result, Ok, Err, IsOk, IsTrue, All, AllPairs, refl, arith}
use Rattle.std.specs.List.{list_any, flat_map}
use Rattle.std.proofs.Math.ListN.{get_or-append}
use Rattle.std.proofs.Math.Seq.{drop-append_seam}
use Rattle.std.proofs.lemmas.Bool.{eq-eqb, eqb-false, or_parts, leb-true, le-leb, lt-leb}
use Rattle.std.proofs.lemmas.List.{append-nil, length-map, map-append, get_or-append-add, get_or-map, flat_map_more}
use Rattle.std.proofs.lemmas.List.Elements.{All-push, All-nil, All-append, All-weaker, All-map, All-same}
use Rattle.std.proofs.lemmas.List.Quantifiers.{all_pairs_push}
use Rattle.std.proofs.lemmas.List.Sums.{fold_push}
use Rattle.toml.specs.Data.{Data, Members}
use Rattle.mcs_control.specs.declared.config.ControlFault.{ControlFault}
use Rattle.mcs_control.specs.declared.config.Kind.{Kind}
use Rattle.mcs_control.specs.declared.config.Kind.TheVariants as kinds
use Rattle.mcs_control.specs.declared.config.Order.{Order}
use Rattle.mcs_control.specs.Control.{checked, kind_of, takes, IsModeOf}
use Rattle.mcs_script.specs.declared.item.Item.{Item}
use Rattle.mcs_script.specs.declared.item.Item.TheVariants as items
use Rattle.mcs_system.specs.declared.part.Beat.{Beat}
use Rattle.mcs_system.specs.declared.part.ChainPart.{ChainPart}
use Rattle.mcs_system.specs.declared.part.ContextPart.{ContextPart}
use Rattle.mcs_system.specs.declared.part.Link.{Link}
use Rattle.mcs_system.specs.declared.part.NotePart.{NotePart}
use Rattle.mcs_system.specs.declared.part.SourcePart.{SourcePart}
use Rattle.mcs_system.specs.declared.part.ThreadPart.{ThreadPart}
use Rattle.mcs_system.specs.System.{System, no_note, is_server}
use Rattle.mcs_system.specs.Names.{is_name}
use Rattle.mcs_system.specs.WellFormed.{AreNamed, IsContext, IsNote, IsServer, IsItem, IsThread, IsOrder, IsLink, IsSource, IsBeat, IsChain, AreServers, AreSources, DoPrecede, DifferInCores, IsWellFormed}
use Rattle.mcs_load.specs.declared.at.At.{At}
use Rattle.mcs_load.specs.declared.server.Server.{Server}
use Rattle.mcs_load.specs.declared.source.Source.{Source}
use Rattle.mcs_load.specs.declared.spot.Key.{Key}
use Rattle.mcs_load.specs.declared.spot.Key.TheVariants as key
use Rattle.mcs_load.specs.declared.spot.Section.TheVariants as section
use Rattle.mcs_load.specs.declared.spot.Section.{Section}
use Rattle.mcs_load.specs.declared.numbers.Numbers.{Numbers}
use Rattle.mcs_load.specs.Checks.{Checked, first_failed}
use Rattle.mcs_load.specs.Words.{only_keys, whole_number, number_with_default, new_name, text, is_among, place_of, row, row_table, rows, item_count, array_of}
use Rattle.mcs_load.specs.Script.{server_at, no_server, script, server_script}
use Rattle.mcs_load.specs.Dates.{taken_by, read_dates, part_of_source}
use Rattle.mcs_load.specs.Walk.{accepts, config, accepted_config, default_mode, mode, takes_mode, settings, listed_context_keys, is_version_2_or_3, is_version_3, context, contexts, listed_note_keys, max_word, note, notes, server, few_notes, servers, free_server, known, known_name, part_at, own_context, max_ticks, times, thread, threads, source, sources, ordered_context, is_same_kind, keeps_kind, order, orders, link_numbers, is_linked, link, links, chain, chains, top, listed_keys, numbers, base, others, walk, document, file}
use Rattle.mcs_load.specs.stored.Ready.{IsServerAt, IsStep, AreSteps, AreReady}
use Rattle.mcs_load.proofs.Calls.{ready_more}
use Rattle.mcs_load.proofs.InOrder.{pairs_append, pairs_nil, IsBeatOf, AreDates, dates_passed}
use Rattle.mcs_load.proofs.Passed.{passed_test, both_passed, each_keeps, each_length, whole_number_passed, number_with_default_passed, new_name_passed, rows_passed, place_within, distinct_more, HaveNames, have_no_names, have_names_more}
use Rattle.mcs_load.proofs.Scripts.{script_passed, server_script_passed}

not_passed : (b : Bool) → not b ≡ true → b ≡ false
not_passed true h = cc
not_passed false h = refl

accepts_passed : (at : At) (r : Result Kind ControlFault) → first_failed (accepts at r).tests ≡ None → IsOk r
unfolding accepts
accepts_passed at (Ok kind) h = refl
accepts_passed at (Err fault) h = cc

accepted_config_passed : (min_budget : ℕ) (at : At) (row : Members) → first_failed (accepted_config min_budget at row).tests ≡ None
    → IsOk (checked min_budget (accepted_config min_budget at row).value)
unfolding accepted_config
accepted_config_passed min_budget at row h =
    let given = (config at row).value in
    let p = both_passed (config at row).tests _ h in
    let q = both_passed (accepts at (checked min_budget given)).tests [] p.1 in
    accepts_passed at (checked min_budget given) q.0

settings_passed : (is_new : Bool) (min_budget : ℕ) (at : At) (row : Members) → first_failed (settings is_new min_budget at row).tests ≡ None
    → IsOk (checked min_budget (settings is_new min_budget at row).value.config)
    × IsModeOf (kind_of (settings is_new min_budget at row).value.config) (settings is_new min_budget at row).value.mode
unfolding settings takes_mode
settings_passed is_new min_budget at row h =
    let given = (config at row).value in
    let default = default_mode is_new (kind_of given) in
    let how = (mode default at row).value in
    let p = both_passed (config at row).tests _ h in
    let q = both_passed (mode default at row).tests _ p.1 in
    let r = both_passed (accepts at (checked min_budget given)).tests _ q.1 in
    let s = passed_test (takes (kind_of given) how) _ _ r.1 in
    (accepts_passed at (checked min_budget given) r.0, s.0)

-- the place of a row that is read
abbrev at_row : Section → ℕ → At
at_row section number = record { section = section; row = number }

-- the table of a row passes its own tests
row_passed : {A : Type 0} (section : Section) (read : At → List A → Members → Checked A) (earlier : List A) (d : Data)
    → first_failed (row section read earlier d).tests ≡ None
    → first_failed (read (at_row section (suc (length earlier))) earlier (row_table (at_row section (suc (length earlier))) d).value).tests ≡ None
row_passed section read earlier d h = (both_passed (row_table (at_row section (suc (length earlier))) d).tests _ h).1

-- the core of a row is one that there is
core_passed : (cores : ℕ) (at : At) (row : Members) → 1 ≤ cores → first_failed (whole_number at key.Core 0 (cores - 1) row).tests ≡ None
    → (whole_number at key.Core 0 (cores - 1) row).value < cores
core_passed cores at row some h =
    let p = whole_number_passed at key.Core 0 (cores - 1) row (omega arith) h in
    omega (arith, p.1)

module _ (system : System) (some : 1 ≤ system.cores) where
  context_passed : (has_modes is_new : Bool) (at : At) (earlier : List ContextPart) (row : Members) → first_failed (context has_modes is_new system.cores system.min_budget at earlier row).tests ≡ None
      → IsContext system (context has_modes is_new system.cores system.min_budget at earlier row).value
      × (is_name (context has_modes is_new system.cores system.min_budget at earlier row).value.name ≡ true)
      × (is_among (context has_modes is_new system.cores system.min_budget at earlier row).value.name (map (λ c. c.name) earlier) ≡ false)
  unfolding context
  context_passed has_modes is_new at earlier row h =
      let keys = both_passed (only_keys at (listed_context_keys has_modes) row).tests _ h in
      let name = both_passed (new_name at (map (λ c. c.name) earlier) row).tests _ keys.1 in
      let core = both_passed (whole_number at key.Core 0 (system.cores - 1) row).tests _ name.1 in
      let configured = both_passed (settings is_new system.min_budget at row).tests [] core.1 in
      let set = settings_passed is_new system.min_budget at row configured.0 in
      let named = new_name_passed at (map (λ c. c.name) earlier) row name.0 in
      (record { core = core_passed system.cores at row some core.0; accepted = set.0; mode = set.1 }, named.0, named.1)

  -- the contexts so far
  abbrev AreContexts : List ContextPart → Type 0
  AreContexts earlier = HaveNames (λ c. c.name) earlier × All (IsContext system) earlier

  next_context_passed : (has_modes is_new : Bool) (earlier : List ContextPart) (d : Data) → AreContexts earlier
      → first_failed (row section.Context (context has_modes is_new system.cores system.min_budget) earlier d).tests ≡ None
      → AreContexts (earlier ++ (row section.Context (context has_modes is_new system.cores system.min_budget) earlier d).value ∷ [])
  next_context_passed has_modes is_new earlier d so_far h =
      let read = context has_modes is_new system.cores system.min_budget in
      let at = at_row section.Context (suc (length earlier)) in
      let members = (row_table at d).value in
      let p = context_passed has_modes is_new at earlier members (row_passed section.Context read earlier d h) in
      (have_names_more (λ c. c.name) earlier (read at earlier members).value so_far.0 p.1 p.2, All-push (IsContext system) earlier _ so_far.1 p.0)

  contexts_passed : (has_modes is_new : Bool) (file : Members) → first_failed (contexts has_modes is_new system.cores system.min_budget file).tests ≡ None
      → AreNamed (λ c. c.name) (contexts has_modes is_new system.cores system.min_budget file).value × All (IsContext system) (contexts has_modes is_new system.cores system.min_budget file).value
  unfolding contexts array_of
  contexts_passed has_modes is_new file h =
      let step = row section.Context (context has_modes is_new system.cores system.min_budget) in
      let items = (rows section.Context key.Context file).value in
      let p = both_passed (rows section.Context key.Context file).tests _ h in
      let all = each_keeps step AreContexts (next_context_passed has_modes is_new) items [] (have_no_names (λ c. c.name), All-nil (IsContext system)) p.1 in
      let count = each_length step items [] in
      let few = rows_passed section.Context key.Context file p.0 in
      (record { few = omega (arith, count, few); each = all.0.each; distinct = all.0.distinct }, all.1)

  note_passed : (is_new : Bool) (at : At) (earlier : List NotePart) (row : Members) → first_failed (note is_new system.cores at earlier row).tests ≡ None
      → IsNote system (note is_new system.cores at earlier row).value
      × (is_name (note is_new system.cores at earlier row).value.name ≡ true)
      × (is_among (note is_new system.cores at earlier row).value.name (map (λ n. n.name) earlier) ≡ false)
  unfolding note
  note_passed is_new at earlier row h =
      let keys = both_passed (only_keys at (listed_note_keys is_new) row).tests _ h in
      let name = both_passed (new_name at (map (λ n. n.name) earlier) row).tests _ keys.1 in
      let core = both_passed (whole_number at key.Core 0 (system.cores - 1) row).tests _ name.1 in
      let named = new_name_passed at (map (λ n. n.name) earlier) row name.0 in
      (core_passed system.cores at row some core.0, named.0, named.1)

  -- the notifications so far
  abbrev AreNotes : List NotePart → Type 0
  AreNotes earlier = HaveNames (λ n. n.name) earlier × All (IsNote system) earlier

  next_note_passed : (is_new : Bool) (earlier : List NotePart) (d : Data) → AreNotes earlier → first_failed (row section.Note (note is_new system.cores) earlier d).tests ≡ None
      → AreNotes (earlier ++ (row section.Note (note is_new system.cores) earlier d).value ∷ [])
  next_note_passed is_new earlier d so_far h =
      let read = note is_new system.cores in
      let at = at_row section.Note (suc (length earlier)) in
      let members = (row_table at d).value in
      let p = note_passed is_new at earlier members (row_passed section.Note read earlier d h) in
      (have_names_more (λ n. n.name) earlier (read at earlier members).value so_far.0 p.1 p.2, All-push (IsNote system) earlier _ so_far.1 p.0)

  notes_passed : (is_new : Bool) (file : Members) → first_failed (notes is_new system.cores file).tests ≡ None
      → AreNamed (λ n. n.name) (notes is_new system.cores file).value × All (IsNote system) (notes is_new system.cores file).value
  unfolding notes array_of
  notes_passed is_new file h =
      let step = row section.Note (note is_new system.cores) in
      let items = (rows section.Note key.Note file).value in
      let p = both_passed (rows section.Note key.Note file).tests _ h in
      let all = each_keeps step AreNotes (next_note_passed is_new) items [] (have_no_names (λ n. n.name), All-nil (IsNote system)) p.1 in
      let count = each_length step items [] in
      let few = rows_passed section.Note key.Note file p.0 in
      (record { few = omega (arith, count, few); each = all.0.each; distinct = all.0.distinct }, all.1)

-- what a row names is there
known_name_passed : (k : Key) (names : List (List ℕ)) (at : At) (row : Members) → first_failed (known_name k names at row).tests ≡ None → (known_name k names at row).value < length names
unfolding known_name known
known_name_passed k names at row h =
    let name = (text at k row).value in
    let p = both_passed (text at k row).tests _ h in
    place_within name names (passed_test (is_some (place_of name names)) _ _ p.1).0

own_context_passed : (names : List (List ℕ)) (at : At) (taken : List ℕ) (row : Members) → first_failed (own_context names at taken row).tests ≡ None
    → ((own_context names at taken row).value < length names) × (list_any (nat_eq (own_context names at taken row).value) taken ≡ false)
unfolding own_context
own_context_passed names at taken row h =
    let context = (known_name key.Context names at row).value in
    let p = both_passed (known_name key.Context names at row).tests _ h in
    let q = passed_test (not (list_any (nat_eq context) taken)) _ _ p.1 in
    (known_name_passed key.Context names at row p.0, grind arith)

times_passed : (at : At) (row : Members) → first_failed (times at row).tests ≡ None
    → ((times at row).value.start ≤ 2 ^ 40) × ((times at row).value.rounds ≤ 2 ^ 40) × ((times at row).value.deadline ≤ 2 ^ 40)
unfolding times
times_passed at row h =
    let start = both_passed (number_with_default at key.Start 0 max_ticks 0 row).tests _ h in
    let rounds = both_passed (number_with_default at key.Rounds 0 max_ticks 0 row).tests _ start.1 in
    let latest = both_passed (number_with_default at key.Deadline 0 max_ticks 0 row).tests [] rounds.1 in (
      (number_with_default_passed at key.Start 0 max_ticks 0 row (omega arith) (omega arith) start.0).1,
      (number_with_default_passed at key.Rounds 0 max_ticks 0 row (omega arith) (omega arith) rounds.0).1,
      (number_with_default_passed at key.Deadline 0 max_ticks 0 row (omega arith) (omega arith) latest.0).1,
    )

-- notes that end in free servers
abbrev with_servers : List NotePart → List Server → List NotePart
with_servers notes servers = notes ++ map free_server servers

-- a server's number follows those of the notifications
module _ (notes : List NotePart) (servers : List Server) where
  all_notes : length (with_servers notes servers) ≡ length notes + length servers
  all_notes = length-append notes (map free_server servers) ∙ ap (λ n. length notes + n) (length-map servers free_server)

  note_at : (note : ℕ) → note < length notes → get_or (with_servers notes servers) note no_note ≡ get_or notes note no_note
  note_at note within = get_or-append notes (map free_server servers) no_note note within

  server_is_at : (place : ℕ) → place < length servers → get_or (with_servers notes servers) (length notes + place) no_note ≡ free_server (server_at servers place)
  server_is_at place within = get_or-append-add notes (map free_server servers) place no_note ∙ get_or-map free_server servers place no_server no_note within

-- steps of a script are items of the system
module _ (system : System) (notes : List NotePart) (servers : List Server) (are : system.notes ≡ with_servers notes servers) (many : system.servers ≡ length servers) where
  count : length system.notes ≡ length notes + length servers
  count = ap length are ∙ all_notes notes servers

  no_server_is : (note : ℕ) → note < length notes → is_server system note ≡ false
  no_server_is note within = lt-leb (length system.notes) (note + system.servers) (omega (arith, count, many))

  server_is : (place : ℕ) → is_server system (length notes + place) ≡ true
  server_is place = le-leb (length system.notes) (length notes + place + system.servers) (omega (arith, count, many))

  known_server : (core number : ℕ) → IsServerAt notes servers core number → IsServer system core number
  known_server core number h =
      let there : h.place < length servers = h.within in
      let number_is : number ≡ length notes + h.place = h.number_is in (
        omega (arith, count),
        ap (λ n. (get_or system.notes n no_note).core) number_is ∙ (ap (λ ns. (get_or ns (length notes + h.place) no_note).core) are ∙ (ap (λ (n : NotePart). n.core) (server_is_at notes servers h.place there) ∙ h.home)),
        ap (λ n. is_server system n) number_is ∙ server_is h.place,
      )

  item_of_step : (core : ℕ) (step : Item) → IsStep notes servers core step → IsItem system core step
  item_of_step core (items.Compute ticks) h = h
  item_of_step core (items.Signal note badge) h = (omega (arith, h.0, count), no_server_is note h.0, h.1, h.2)
  item_of_step core (items.Wait note) h =
      (omega (arith, h.0, count), ap (λ ns. (get_or ns note no_note).core) are ∙ (ap (λ (n : NotePart). n.core) (note_at notes servers note h.0) ∙ h.1), no_server_is note h.0)
  item_of_step core items.Yield h = h
  item_of_step core (items.On badges) h = h
  item_of_step core items.Spin h = h
  item_of_step core (items.Enter number priority) h = known_server core number h
  item_of_step core (items.Leave number priority) h = known_server core number h

module _ (system : System) (notes : List NotePart) (servers : List Server) (are : system.notes ≡ with_servers notes servers) (many : system.servers ≡ length servers) (ready : AreReady notes servers) (is_new : Bool) where
  abbrev one_thread : At → List ThreadPart → Members → Checked ThreadPart
  one_thread = thread system.contexts notes servers is_new

  thread_passed : (at : At) (earlier : List ThreadPart) (row : Members) → first_failed (one_thread at earlier row).tests ≡ None
      → IsThread system (one_thread at earlier row).value
      × (is_name (one_thread at earlier row).value.name ≡ true)
      × (is_among (one_thread at earlier row).value.name (map (λ t. t.name) earlier) ≡ false)
      × (list_any (nat_eq (one_thread at earlier row).value.context) (map (λ t. t.context) earlier) ≡ false)
  unfolding thread
  thread_passed at earlier row h =
      let names = map (λ c. c.name) system.contexts in
      let own = own_context names at (map (λ t. t.context) earlier) row in
      let core = (part_at system.contexts own.value).core in
      let keys = both_passed (only_keys at (key.Name ∷ key.Context ∷ key.Priority ∷ key.Start ∷ key.Rounds ∷ key.Deadline ∷ key.Script ∷ []) row).tests _ h in
      let name = both_passed (new_name at (map (λ t. t.name) earlier) row).tests _ keys.1 in
      let context = both_passed own.tests _ name.1 in
      let priority = both_passed (whole_number at key.Priority 0 255 row).tests _ context.1 in
      let timing = both_passed (times at row).tests _ priority.1 in
      let given = (whole_number at key.Priority 0 255 row).value in
      let last = both_passed (script notes servers core given is_new at row).tests [] timing.1 in
      let named = new_name_passed at (map (λ t. t.name) earlier) row name.0 in
      let bound = own_context_passed names at (map (λ t. t.context) earlier) row context.0 in
      let limits = times_passed at row timing.0 in
      let does = script_passed notes servers core given is_new at row ready last.0 in (
        record {
          bound = omega (arith, bound.0, length-map system.contexts (λ c. c.name));
          priority = (whole_number_passed at key.Priority 0 255 row (omega arith) priority.0).1;
          start = limits.0;
          rounds = limits.1;
          deadline = limits.2;
          script = does.0;
          items = All-weaker (IsStep notes servers core) (IsItem system core) (item_of_step system notes servers are many core) (script notes servers core given is_new at row).value does.1.known;
        },
        named.0,
        named.1,
        bound.1,
      )

  -- the threads so far
  record AreThreads (earlier : List ThreadPart) : Type 0 where
    names : HaveNames (λ t. t.name) earlier
    each : All (IsThread system) earlier
    one_each : AllPairs (λ a b. a.context ≢ b.context) earlier

  next_thread_passed : (earlier : List ThreadPart) (d : Data) → AreThreads earlier → first_failed (row section.Thread one_thread earlier d).tests ≡ None
      → AreThreads (earlier ++ (row section.Thread one_thread earlier d).value ∷ [])
  next_thread_passed earlier d so_far h =
      let at = at_row section.Thread (suc (length earlier)) in
      let members = (row_table at d).value in
      let p = thread_passed at earlier members (row_passed section.Thread one_thread earlier d h) in
      record {
        names = have_names_more (λ t. t.name) earlier (one_thread at earlier members).value so_far.names p.1 p.2;
        each = All-push (IsThread system) earlier _ so_far.each p.0;
        one_each = distinct_more nat_eq (λ k. eq-eqb k k refl) (λ t. t.context) earlier (one_thread at earlier members).value so_far.one_each p.3;
      }

  threads_passed : (file : Members) → first_failed (threads system.contexts notes servers is_new file).tests ≡ None
      → AreNamed (λ t. t.name) (threads system.contexts notes servers is_new file).value
      × All (IsThread system) (threads system.contexts notes servers is_new file).value
      × AllPairs (λ a b. a.context ≢ b.context) (threads system.contexts notes servers is_new file).value
  unfolding threads array_of
  threads_passed file h =
      let step = row section.Thread one_thread in
      let items = (rows section.Thread key.Thread file).value in
      let p = both_passed (rows section.Thread key.Thread file).tests _ h in
      let none : AreThreads [] = record { names = have_no_names (λ t. t.name); each = All-nil (IsThread system); one_each = λ i j d less within. absurd (omega arith) } in
      let all = each_keeps step AreThreads next_thread_passed items [] none p.1 in
      let count = each_length step items [] in
      let few = rows_passed section.Thread key.Thread file p.0 in
      (record { few = omega (arith, count, few); each = all.names.each; distinct = all.names.distinct }, all.each, all.one_each)

same_kind : (old new : Kind) → is_same_kind old new ≡ true → new ≡ old
same_kind kinds.Sporadic kinds.Sporadic h = refl
same_kind kinds.Sporadic kinds.RoundRobin h = cc
same_kind kinds.RoundRobin kinds.Sporadic h = cc
same_kind kinds.RoundRobin kinds.RoundRobin h = refl

keeps_kind_passed : (at : At) (old new : Kind) → first_failed (keeps_kind at old new).tests ≡ None → new ≡ old
unfolding keeps_kind
keeps_kind_passed at old new h = same_kind old new (passed_test (is_same_kind old new) _ _ h).0

ordered_context_passed : (cores : ℕ) (parts : List ContextPart) (at : At) (row : Members) → first_failed (ordered_context cores parts at row).tests ≡ None
    → (ordered_context cores parts at row).value < length parts
unfolding ordered_context
ordered_context_passed cores parts at row h =
    let names = map (λ c. c.name) parts in
    let p = both_passed (whole_number at key.Core 0 (cores - 1) row).tests _ h in
    let q = both_passed (known_name key.Context names at row).tests _ p.1 in
    let within = known_name_passed key.Context names at row q.0 in
    omega (arith, within, length-map parts (λ c. c.name))

module _ (system : System) where
  abbrev one_order : At → List Order → Members → Checked Order
  one_order = order system.cores system.min_budget system.contexts

  order_passed : (at : At) (earlier : List Order) (row : Members) → first_failed (one_order at earlier row).tests ≡ None → IsOrder system (one_order at earlier row).value
  unfolding order
  order_passed at earlier row h =
      let ordered = ordered_context system.cores system.contexts at row in
      let given = accepted_config system.min_budget at row in
      let old = kind_of (part_at system.contexts ordered.value).config in
      let keys = both_passed (only_keys at (key.At ∷ key.Core ∷ key.Context ∷ key.Budget ∷ key.Period ∷ key.ExtraRefills ∷ []) row).tests _ h in
      let moment = both_passed (whole_number at key.At 0 max_ticks row).tests _ keys.1 in
      let context = both_passed ordered.tests _ moment.1 in
      let configured = both_passed given.tests _ context.1 in
      let kept = both_passed (keeps_kind at old (kind_of given.value)).tests [] configured.1 in
      record {
        moment = (whole_number_passed at key.At 0 max_ticks row (omega arith) moment.0).1;
        context = ordered_context_passed system.cores system.contexts at row context.0;
        accepted = accepted_config_passed system.min_budget at row configured.0;
        same_kind = keeps_kind_passed at old (kind_of given.value) kept.0;
      }

  next_order_passed : (earlier : List Order) (d : Data) → All (IsOrder system) earlier → first_failed (row section.Order one_order earlier d).tests ≡ None
      → All (IsOrder system) (earlier ++ (row section.Order one_order earlier d).value ∷ [])
  next_order_passed earlier d so_far h =
      let at = at_row section.Order (suc (length earlier)) in
      All-push (IsOrder system) earlier _ so_far (order_passed at earlier (row_table at d).value (row_passed section.Order one_order earlier d h))

  orders_passed : (file : Members) → first_failed (orders system.cores system.min_budget system.contexts file).tests ≡ None
      → (length (orders system.cores system.min_budget system.contexts file).value ≤ 4096) × All (IsOrder system) (orders system.cores system.min_budget system.contexts file).value
  unfolding orders array_of
  orders_passed file h =
      let step = row section.Order one_order in
      let items = (rows section.Order key.Order file).value in
      let p = both_passed (rows section.Order key.Order file).tests _ h in
      let count = each_length step items [] in
      let few = rows_passed section.Order key.Order file p.0 in
      (omega (arith, count, few), each_keeps step (All (IsOrder system)) next_order_passed items [] (All-nil (IsOrder system)) p.1)

-- no earlier link has the two cores
module _ (x : Link) where
  no_pair_as : (same_maker same_home : Bool) (y : Link) → (y.maker == x.maker) ≡ same_maker → (y.home == x.home) ≡ same_home → (same_maker && same_home) ≡ false → DifferInCores y x
  no_pair_as false same_home y makers homes h = λ (e, _). true≢false (sym (eq-eqb y.maker x.maker e) ∙ makers)
  no_pair_as true false y makers homes h = λ (_, e). true≢false (sym (eq-eqb y.home x.home e) ∙ homes)
  no_pair_as true true y makers homes h = cc

  no_pair : (earlier : List Link) → is_linked earlier x.maker x.home ≡ false → (k : ℕ) (d : Link) → k < length earlier → DifferInCores (get_or earlier k d) x
  no_pair [] h k d within = absurd (omega arith)
  no_pair (y ∷ ys) h zero d within = no_pair_as _ _ y refl refl (or_parts (y.maker == x.maker && y.home == x.home) (is_linked ys x.maker x.home) h).0
  no_pair (y ∷ ys) h (suc k) d within = no_pair ys (or_parts (y.maker == x.maker && y.home == x.home) (is_linked ys x.maker x.home) h).1 k d (omega arith)

module _ (system : System) (some : 1 ≤ system.cores) where
  link_numbers_passed : (at : At) (row : Members) → first_failed (link_numbers system.cores at row).tests ≡ None
      → ((link_numbers system.cores at row).value.maker < system.cores)
      × ((link_numbers system.cores at row).value.home < system.cores)
      × ((1 ≤ (link_numbers system.cores at row).value.delay) × ((link_numbers system.cores at row).value.delay ≤ 2 ^ 20))
  unfolding link_numbers
  link_numbers_passed at row h =
      let keys = both_passed (only_keys at (key.Maker ∷ key.Home ∷ key.Delay ∷ []) row).tests _ h in
      let maker = both_passed (whole_number at key.Maker 0 (system.cores - 1) row).tests _ keys.1 in
      let home = both_passed (whole_number at key.Home 0 (system.cores - 1) row).tests _ maker.1 in
      let delay = both_passed (whole_number at key.Delay 1 (2 ^ 20) row).tests [] home.1 in
      let m = whole_number_passed at key.Maker 0 (system.cores - 1) row (omega arith) maker.0 in
      let t = whole_number_passed at key.Home 0 (system.cores - 1) row (omega arith) home.0 in
      (omega (arith, m.1), omega (arith, t.1), whole_number_passed at key.Delay 1 (2 ^ 20) row (omega arith) delay.0)

  link_passed : (at : At) (earlier : List Link) (row : Members) → first_failed (link system.cores at earlier row).tests ≡ None
      → IsLink system (link system.cores at earlier row).value
      × (is_linked earlier (link system.cores at earlier row).value.maker (link system.cores at earlier row).value.home ≡ false)
  unfolding link
  link_passed at earlier row h =
      let given = (link_numbers system.cores at row).value in
      let numbers = both_passed (link_numbers system.cores at row).tests _ h in
      let other = passed_test (not (given.maker == given.home)) _ _ numbers.1 in
      let new = passed_test (not (is_linked earlier given.maker given.home)) _ _ other.1 in
      let limits = link_numbers_passed at row numbers.0 in
      (record { maker = limits.0; home = limits.1; other = eqb-false given.maker given.home (not_passed _ other.0); delay = limits.2 }, not_passed _ new.0)

  -- the links so far
  abbrev AreLinks : List Link → Type 0
  AreLinks earlier = All (IsLink system) earlier × AllPairs DifferInCores earlier

  next_link_passed : (earlier : List Link) (d : Data) → AreLinks earlier → first_failed (row section.Link (link system.cores) earlier d).tests ≡ None
      → AreLinks (earlier ++ (row section.Link (link system.cores) earlier d).value ∷ [])
  next_link_passed earlier d so_far h =
      let at = at_row section.Link (suc (length earlier)) in
      let x = (link system.cores at earlier (row_table at d).value).value in
      let p = link_passed at earlier (row_table at d).value (row_passed section.Link (link system.cores) earlier d h) in
      (All-push (IsLink system) earlier _ so_far.0 p.0, all_pairs_push DifferInCores earlier x so_far.1 (no_pair x earlier p.1))

  links_passed : (file : Members) → first_failed (links system.cores file).tests ≡ None
      → (length (links system.cores file).value ≤ 4096) × All (IsLink system) (links system.cores file).value × AllPairs DifferInCores (links system.cores file).value
  unfolding links array_of
  links_passed file h =
      let step = row section.Link (link system.cores) in
      let items = (rows section.Link key.Link file).value in
      let p = both_passed (rows section.Link key.Link file).tests _ h in
      let count = each_length step items [] in
      let few = rows_passed section.Link key.Link file p.0 in
      let none : AreLinks [] = (All-nil (IsLink system), λ i j d less within. absurd (omega arith)) in
      let all = each_keeps step AreLinks next_link_passed items [] none p.1 in
      (omega (arith, count, few), all.0, all.1)

-- the numbers at the top lie within their limits
record AreNumbers (read : Numbers) : Type 0 where
  cores : (1 ≤ read.cores) × (read.cores ≤ 64)
  delay : (1 ≤ read.delay) × (read.delay ≤ 2 ^ 20)
  call : (1 ≤ read.call) × (read.call ≤ 2 ^ 16)
  min_budget : (1 ≤ read.min_budget) × (read.min_budget ≤ 2 ^ 20)

numbers_passed : (file : Members) → first_failed (numbers file).tests ≡ None → AreNumbers (numbers file).value
unfolding numbers
numbers_passed file h =
    let keys = both_passed (only_keys top (listed_keys file) file).tests _ h in
    let version = both_passed (whole_number top key.Version 1 3 file).tests _ keys.1 in
    let cores = both_passed (whole_number top key.Cores 1 64 file).tests _ version.1 in
    let delay = both_passed (whole_number top key.Delay 1 (2 ^ 20) file).tests _ cores.1 in
    let call = both_passed (number_with_default top key.Call 1 (2 ^ 16) 1 file).tests _ delay.1 in
    let least = both_passed (number_with_default top key.MinBudget 1 (2 ^ 20) 1 file).tests [] call.1 in
    record {
      cores = whole_number_passed top key.Cores 1 64 file (omega arith) cores.0;
      delay = whole_number_passed top key.Delay 1 (2 ^ 20) file (omega arith) delay.0;
      call = number_with_default_passed top key.Call 1 (2 ^ 16) 1 file (omega arith) (omega arith) call.0;
      min_budget = number_with_default_passed top key.MinBudget 1 (2 ^ 20) 1 file (omega arith) (omega arith) least.0;
    }

-- the servers so far, after the notifications
module _ (cores : ℕ) (some : 1 ≤ cores) (notes : List NotePart) where
  one_name : (earlier : List Server) → map (λ (n : NotePart). n.name) (with_servers notes earlier) ≡ map (λ (n : NotePart). n.name) notes ++ map (λ (s : Server). s.name) earlier
  one_name earlier = map-append (λ (n : NotePart). n.name) notes (map free_server earlier) ∙ ap (λ ns. map (λ (n : NotePart). n.name) notes ++ ns) (names_of earlier)
    where
      names_of : (ss : List Server) → map (λ (n : NotePart). n.name) (map free_server ss) ≡ map (λ (s : Server). s.name) ss
      names_of [] = refl
      names_of (s ∷ ss) = ap (λ ns. s.name ∷ ns) (names_of ss)

  one_more : (earlier : List Server) (x : Server) → with_servers notes (earlier ++ x ∷ []) ≡ with_servers notes earlier ++ free_server x ∷ []
  one_more earlier x = ap (λ ns. notes ++ ns) (map-append free_server earlier (x ∷ [])) ∙ sym (append_assoc notes (map free_server earlier) (free_server x ∷ []))

  record AreServersSoFar (earlier : List Server) : Type 0 where
    names : HaveNames (λ (n : NotePart). n.name) (with_servers notes earlier)
    homes : All (λ (s : Server). s.core < cores) earlier
    ready : AreReady notes earlier

  server_passed : (at : At) (earlier : List Server) (row : Members) → AreServersSoFar earlier → first_failed (server notes cores at earlier row).tests ≡ None
      → AreServersSoFar (earlier ++ (server notes cores at earlier row).value ∷ [])
  unfolding server
  server_passed at earlier row so_far h =
      let x = (server notes cores at earlier row).value in
      let before = map (λ (n : NotePart). n.name) notes ++ map (λ (s : Server). s.name) earlier in
      let core_is = whole_number at key.Core 0 (cores - 1) row in
      let priority_is = whole_number at key.Priority 0 255 row in
      let keys = both_passed (only_keys at (key.Name ∷ key.Core ∷ key.Priority ∷ key.Script ∷ []) row).tests _ h in
      let name = both_passed (new_name at before row).tests _ keys.1 in
      let core = both_passed core_is.tests _ name.1 in
      let priority = both_passed priority_is.tests _ core.1 in
      let last = both_passed (server_script notes earlier core_is.value priority_is.value at row).tests [] priority.1 in
      let named = new_name_passed at before row name.0 in
      let new : is_among x.name (map (λ (n : NotePart). n.name) (with_servers notes earlier)) ≡ false = ap (is_among x.name) (one_name earlier) ∙ named.1 in
      record {
        names = rw (one_more earlier x) (have_names_more (λ (n : NotePart). n.name) (with_servers notes earlier) (free_server x) so_far.names named.0 new);
        homes = All-push (λ (s : Server). s.core < cores) earlier x so_far.homes (core_passed cores at row some core.0);
        ready = ready_more notes earlier x so_far.ready (server_script_passed notes earlier core_is.value priority_is.value at row so_far.ready last.0);
      }

  next_server_passed : (earlier : List Server) (d : Data) → AreServersSoFar earlier → first_failed (row section.Server (server notes cores) earlier d).tests ≡ None
      → AreServersSoFar (earlier ++ (row section.Server (server notes cores) earlier d).value ∷ [])
  next_server_passed earlier d so_far h =
      let at = at_row section.Server (suc (length earlier)) in
      server_passed at earlier (row_table at d).value so_far (row_passed section.Server (server notes cores) earlier d h)

  servers_passed : (file : Members) → HaveNames (λ (n : NotePart). n.name) notes → first_failed (servers notes cores file).tests ≡ None
      → AreServersSoFar (servers notes cores file).value × (length notes + length (servers notes cores file).value ≤ 4096)
  unfolding servers few_notes
  servers_passed file named h =
      let step = row section.Server (server notes cores) in
      let values = (rows section.Server key.Server file).value in
      let p = both_passed (rows section.Server key.Server file).tests _ h in
      let q = passed_test (nat_le (length notes + item_count values) 4096) _ _ p.1 in
      let few : length notes + item_count values ≤ 4096 = leb-true (length notes + item_count values) 4096 q.0 in
      let none : AreServersSoFar [] = record { names = rw (append-nil notes) named; homes = All-nil (λ (s : Server). s.core < cores); ready = All-nil (λ (s : Server). AreSteps notes [] s.core s.steps) } in
      let all = each_keeps step AreServersSoFar next_server_passed values [] none q.1 in
      let count_is = each_length step values [] in
      (all, omega (arith, few, count_is))

-- the sources so far
module _ (note_names : List (List ℕ)) where
  abbrev IsReadSource : Source → Type 0
  IsReadSource source = (source.note < length note_names) × (1 ≤ source.badge) × (source.badge < 2 ^ 32)

  -- a beat of one of the sources
  abbrev IsBeatBelow : ℕ → Beat → Type 0
  IsBeatBelow bound beat = (beat.source < bound) × (beat.first ≤ 2 ^ 41) × (1 ≤ beat.period) × (beat.period ≤ 2 ^ 40)

  abbrev beats_in : List Source → List Beat
  beats_in earlier = flat_map (λ (s : Source). s.dates.beats) earlier

  record AreSourcesSoFar (earlier : List Source) : Type 0 where
    names : HaveNames (λ (s : Source). s.name) earlier
    sources : All IsReadSource earlier
    beats : All (IsBeatBelow (length earlier)) (beats_in earlier)
    pairs : AllPairs DoPrecede (beats_in earlier)
    few : length (beats_in earlier) ≤ taken_by earlier
    room : taken_by earlier ≤ 4096

  one_more_source : (earlier : List Source) (x : Source) → beats_in (earlier ++ x ∷ []) ≡ beats_in earlier ++ x.dates.beats
  one_more_source earlier x = sym (flat_map_more (λ (s : Source). s.dates.beats) [] earlier x)

  below_more : (n : ℕ) (beat : Beat) → IsBeatBelow n beat → IsBeatBelow (n + 1) beat
  below_more n beat h = (omega (arith, h.0), h.1, h.2, h.3)

  new_below : (n : ℕ) (beat : Beat) → IsBeatOf n beat → IsBeatBelow (n + 1) beat
  new_below n beat h = (omega (arith, h.0), h.1, h.2, h.3)

  precedes_new : (n : ℕ) (news : List Beat) → All (IsBeatOf n) news → (beat : Beat) → IsBeatBelow n beat → All (DoPrecede beat) news
  precedes_new n news h beat b = All-weaker (IsBeatOf n) (DoPrecede beat) (λ x q. (omega (arith, b.0, q.0), λ e. absurd (omega (arith, b.0, q.0, e)))) news h

  more_sources : (earlier : List Source) (x : Source) → AreSourcesSoFar earlier → is_name x.name ≡ true → is_among x.name (map (λ (s : Source). s.name) earlier) ≡ false
      → IsReadSource x → AreDates (length earlier) (taken_by earlier) x.dates → AreSourcesSoFar (earlier ++ x ∷ [])
  more_sources earlier x so_far named new is dates =
      let n = length earlier in
      let old = beats_in earlier in
      let news = x.dates.beats in
      let longer : length (earlier ++ x ∷ []) ≡ n + 1 = length-append earlier (x ∷ []) in
      let more : taken_by (earlier ++ x ∷ []) ≡ taken_by earlier + x.dates.many = fold_push (λ (a : ℕ) (s : Source). a + s.dates.many) 0 earlier x in
      let both : length (old ++ news) ≡ length old + length news = length-append old news in
      record {
        names = have_names_more (λ (s : Source). s.name) earlier x so_far.names named new;
        sources = All-push IsReadSource earlier x so_far.sources is;
        beats = rw (one_more_source earlier x, longer)
            (All-append (IsBeatBelow (n + 1)) old news (All-weaker (IsBeatBelow n) (IsBeatBelow (n + 1)) (below_more n) old so_far.beats)
            (All-weaker (IsBeatOf n) (IsBeatBelow (n + 1)) (new_below n) news dates.each));
        pairs = rw (one_more_source earlier x)
            (pairs_append DoPrecede old news so_far.pairs dates.pairs (All-weaker (IsBeatBelow n) (λ beat. All (DoPrecede beat) news) (precedes_new n news dates.each) old so_far.beats));
        few = rw (one_more_source earlier x, more) (omega (arith, both, so_far.few, dates.few));
        room = rw more dates.room;
      }

  source_passed : (at : At) (earlier : List Source) (row : Members) → AreSourcesSoFar earlier → first_failed (source note_names at earlier row).tests ≡ None
      → AreSourcesSoFar (earlier ++ (source note_names at earlier row).value ∷ [])
  unfolding source
  source_passed at earlier row so_far h =
      let keys = both_passed (only_keys at (key.Name ∷ key.Note ∷ key.Badge ∷ key.Period ∷ key.Start ∷ key.Count ∷ key.At ∷ []) row).tests _ h in
      let name = both_passed (new_name at (map (λ s. s.name) earlier) row).tests _ keys.1 in
      let note = both_passed (known_name key.Note note_names at row).tests _ name.1 in
      let badge = both_passed (whole_number at key.Badge 1 max_word row).tests _ note.1 in
      let dates = both_passed (read_dates (length earlier) (taken_by earlier) at row).tests [] badge.1 in
      let named = new_name_passed at (map (λ s. s.name) earlier) row name.0 in
      let badges = whole_number_passed at key.Badge 1 max_word row (omega arith) badge.0 in
      more_sources earlier (source note_names at earlier row).value so_far named.0 named.1
      (known_name_passed key.Note note_names at row note.0, badges.0, omega (arith, badges.1))
      (dates_passed (length earlier) (taken_by earlier) at row dates.0)

  next_source_passed : (earlier : List Source) (d : Data) → AreSourcesSoFar earlier → first_failed (row section.Source (source note_names) earlier d).tests ≡ None
      → AreSourcesSoFar (earlier ++ (row section.Source (source note_names) earlier d).value ∷ [])
  next_source_passed earlier d so_far h =
      let at = at_row section.Source (suc (length earlier)) in
      source_passed at earlier (row_table at d).value so_far (row_passed section.Source (source note_names) earlier d h)

  sources_passed : (file : Members) → first_failed (sources note_names file).tests ≡ None → AreSourcesSoFar (sources note_names file).value × (length (sources note_names file).value ≤ 4096)
  unfolding sources array_of
  sources_passed file h =
      let step = row section.Source (source note_names) in
      let values = (rows section.Source key.Source file).value in
      let p = both_passed (rows section.Source key.Source file).tests _ h in
      let none : AreSourcesSoFar [] = record {
        names = have_no_names (λ (s : Source). s.name);
        sources = All-nil IsReadSource;
        beats = All-nil (IsBeatBelow 0);
        pairs = pairs_nil DoPrecede;
        few = omega arith;
        room = omega arith;
      } in
      let count_is = each_length step values [] in
      let few = rows_passed section.Source key.Source file p.0 in
      (each_keeps step AreSourcesSoFar next_source_passed values [] none p.1, omega (arith, count_is, few))

-- the chains so far
module _ (source_names : List (List ℕ)) (threads : List ThreadPart) where
  abbrev IsReadChain : ChainPart → Type 0
  IsReadChain chain = (chain.source < length source_names) × (chain.thread < length threads) × (chain.badges < 2 ^ 32) × (chain.deadline ≤ 2 ^ 40)

  abbrev AreChainsSoFar : List ChainPart → Type 0
  AreChainsSoFar earlier = HaveNames (λ (c : ChainPart). c.name) earlier × All IsReadChain earlier

  chain_passed : (at : At) (earlier : List ChainPart) (row : Members) → AreChainsSoFar earlier → first_failed (chain source_names threads at earlier row).tests ≡ None
      → AreChainsSoFar (earlier ++ (chain source_names threads at earlier row).value ∷ [])
  unfolding chain
  chain_passed at earlier row so_far h =
      let thread_names = map (λ (t : ThreadPart). t.name) threads in
      let keys = both_passed (only_keys at (key.Name ∷ key.Source ∷ key.Thread ∷ key.Badges ∷ key.Deadline ∷ []) row).tests _ h in
      let name = both_passed (new_name at (map (λ c. c.name) earlier) row).tests _ keys.1 in
      let from = both_passed (known_name key.Source source_names at row).tests _ name.1 in
      let to = both_passed (known_name key.Thread thread_names at row).tests _ from.1 in
      let badges = both_passed (number_with_default at key.Badges 0 max_word 0 row).tests _ to.1 in
      let deadline = both_passed (number_with_default at key.Deadline 0 max_ticks 0 row).tests _ badges.1 in
      let named = new_name_passed at (map (λ c. c.name) earlier) row name.0 in
      let thread_is = known_name_passed key.Thread thread_names at row to.0 in
      let few = number_with_default_passed at key.Badges 0 max_word 0 row (omega arith) (omega arith) badges.0 in
      let latest = number_with_default_passed at key.Deadline 0 max_ticks 0 row (omega arith) (omega arith) deadline.0 in
      let x = (chain source_names threads at earlier row).value in (
        have_names_more (λ (c : ChainPart). c.name) earlier x so_far.0 named.0 named.1,
        All-push IsReadChain earlier x so_far.1 (known_name_passed key.Source source_names at row from.0, omega (arith, thread_is, length-map threads (λ (t : ThreadPart). t.name)), omega (arith, few.1), latest.1),
      )

  next_chain_passed : (earlier : List ChainPart) (d : Data) → AreChainsSoFar earlier → first_failed (row section.Chain (chain source_names threads) earlier d).tests ≡ None
      → AreChainsSoFar (earlier ++ (row section.Chain (chain source_names threads) earlier d).value ∷ [])
  next_chain_passed earlier d so_far h =
      let at = at_row section.Chain (suc (length earlier)) in
      chain_passed at earlier (row_table at d).value so_far (row_passed section.Chain (chain source_names threads) earlier d h)

  chains_passed : (file : Members) → first_failed (chains source_names threads file).tests ≡ None
      → AreNamed (λ (c : ChainPart). c.name) (chains source_names threads file).value × All IsReadChain (chains source_names threads file).value
  unfolding chains array_of
  chains_passed file h =
      let step = row section.Chain (chain source_names threads) in
      let values = (rows section.Chain key.Chain file).value in
      let p = both_passed (rows section.Chain key.Chain file).tests _ h in
      let all = each_keeps step AreChainsSoFar next_chain_passed values [] (have_no_names (λ (c : ChainPart). c.name), All-nil IsReadChain) p.1 in
      let count_is = each_length step values [] in
      let few = rows_passed section.Chain key.Chain file p.0 in
      (record { few = omega (arith, count_is, few); each = all.0.each; distinct = all.0.distinct }, all.1)

-- a server is free, and on a core that there is
module _ (system : System) (notes : List NotePart) (servers : List Server) (are : system.notes ≡ with_servers notes servers) (many : system.servers ≡ length servers) where
  servers_are : AreServers system
  servers_are =
      let count = ap length are ∙ all_notes notes servers in
      let first : length system.notes - system.servers ≡ length notes = omega (arith, count, many) in
      record {
        few = omega (arith, count, many);
        free = All-same (λ (n : NotePart). n.word ≡ 1) (drop (length system.notes - system.servers) system.notes) (map free_server servers)
            (ap (λ n. drop n system.notes) first ∙ (ap (drop (length notes)) are ∙ drop-append_seam notes (map free_server servers)))
            (All-map (λ (n : NotePart). n.word ≡ 1) free_server servers (λ k d within. refl));
      }

  sources_are : (read : List Source) → system.sources ≡ map part_of_source read → system.beats ≡ flat_map (λ (s : Source). s.dates.beats) read
      → AreSourcesSoFar (map (λ (n : NotePart). n.name) notes) read → length read ≤ 4096 → AreSources system
  sources_are read parts beats so_far few =
      let count : length system.sources ≡ length read = ap length parts ∙ length-map read part_of_source in
      let note_count : length (map (λ (n : NotePart). n.name) notes) ≡ length notes = length-map notes (λ (n : NotePart). n.name) in
      record {
        names = let P : List SourcePart → Type 0 = λ ss. AreNamed (λ (s : SourcePart). s.name) ss in subst P (sym parts) (named_parts read few so_far.names);
        sources = All-same (IsSource system) system.sources (map part_of_source read) parts (All-map (IsSource system) part_of_source read
            (All-weaker (IsReadSource (map (λ (n : NotePart). n.name) notes)) (λ (s : Source). IsSource system (part_of_source s)) (λ s h. record {
              note = omega (arith, h.0, note_count, ap length are ∙ all_notes notes servers);
              signalled = no_server_is system notes servers are many s.note (omega (arith, h.0, note_count));
              badge = (h.1, h.2);
            }) read so_far.sources));
        few_beats = omega (arith, ap length beats, so_far.few, so_far.room);
        beats = All-same (IsBeat system) system.beats (flat_map (λ (s : Source). s.dates.beats) read) beats
            (All-weaker (IsBeatBelow (map (λ (n : NotePart). n.name) notes) (length read)) (IsBeat system) (λ b h. record { source = omega (arith, h.0, count); first = h.1; period = (h.2, h.3) }) (flat_map (λ (s : Source). s.dates.beats) read) so_far.beats);
        order = record { each = let P : List Beat → Type 0 = λ bs. AllPairs DoPrecede bs in subst P (sym beats) so_far.pairs };
      }
    where
      named_parts : (read : List Source) → length read ≤ 4096 → HaveNames (λ (s : Source). s.name) read → AreNamed (λ (s : SourcePart). s.name) (map part_of_source read)
      named_parts read few named = record {
        few = omega (arith, few, length-map read part_of_source);
        each = All-map (λ (s : SourcePart). IsTrue (is_name s.name)) part_of_source read named.each;
        distinct = pairs_map read named.distinct;
      }
        where
          pairs_map : (ss : List Source) → AllPairs (λ (a b : Source). a.name ≢ b.name) ss → AllPairs (λ (a b : SourcePart). a.name ≢ b.name) (map part_of_source ss)
          pairs_map ss h = λ i j d less within.
              let no_one : Source = record { name = []; note = 0; badge = 0; dates = record { many = 0; beats = [] } } in
              let shorter : length (map part_of_source ss) ≡ length ss = length-map ss part_of_source in
              let first : get_or (map part_of_source ss) i d ≡ part_of_source (get_or ss i no_one) = get_or-map part_of_source ss i no_one d (omega arith) in
              let second : get_or (map part_of_source ss) j d ≡ part_of_source (get_or ss j no_one) = get_or-map part_of_source ss j no_one d (omega arith) in
              rw (first, second) (h i j no_one less (omega arith))

pub walk_passed : (file : Members) → first_failed (walk file).tests ≡ None → IsWellFormed (walk file).value
unfolding walk base others
walk_passed file h =
    let system : System = (walk file).value in
    let is_new = is_version_3 file in
    let of_file = notes is_new system.cores file in
    let of_servers = servers of_file.value system.cores file in
    let of_threads = threads system.contexts of_file.value of_servers.value is_new file in
    let of_sources = sources (map (λ (n : NotePart). n.name) of_file.value) file in
    let of_orders = orders system.cores system.min_budget system.contexts file in
    let of_chains = chains (map (λ (s : Source). s.name) of_sources.value) of_threads.value file in
    let in_base = both_passed (base file).tests _ h in
    let top = both_passed (numbers file).tests _ in_base.0 in
    let limits = numbers_passed file top.0 in
    let in_links = both_passed (links system.cores file).tests _ top.1 in
    let in_contexts = both_passed (contexts (is_version_2_or_3 file) is_new system.cores system.min_budget file).tests _ in_links.1 in
    let in_notes = both_passed of_file.tests _ in_contexts.1 in
    let in_servers = both_passed of_servers.tests [] in_notes.1 in
    let in_threads = both_passed of_threads.tests _ in_base.1 in
    let in_sources = both_passed of_sources.tests _ in_threads.1 in
    let in_orders = both_passed of_orders.tests _ in_sources.1 in
    let in_chains = both_passed of_chains.tests [] in_orders.1 in
    let links_are = links_passed system limits.cores.0 file in_links.0 in
    let contexts_are = contexts_passed system limits.cores.0 (is_version_2_or_3 file) is_new file in_contexts.0 in
    let notes_are = notes_passed system limits.cores.0 is_new file in_notes.0 in
    let named : HaveNames (λ (n : NotePart). n.name) of_file.value = record { each = notes_are.0.each; distinct = notes_are.0.distinct } in
    let read = servers_passed system.cores limits.cores.0 of_file.value file named in_servers.0 in
    let threads_are = threads_passed system of_file.value of_servers.value refl refl read.0.ready is_new file in_threads.0 in
    let from = sources_passed (map (λ (n : NotePart). n.name) of_file.value) file in_sources.0 in
    let orders_are = orders_passed system file in_orders.0 in
    let chains_are = chains_passed (map (λ (s : Source). s.name) of_sources.value) of_threads.value file in_chains.0 in
    let all : length system.notes ≡ length of_file.value + length of_servers.value = all_notes of_file.value of_servers.value in
    let source_count : length (map (λ (s : Source). s.name) of_sources.value) ≡ length system.sources = length-map of_sources.value (λ (s : Source). s.name) ∙ sym (length-map of_sources.value part_of_source) in
    record {
      limits = record { cores = limits.cores; delay = limits.delay; call = limits.call; min_budget = limits.min_budget };
      context_names = contexts_are.0;
      contexts = contexts_are.1;
      note_names = record { few = omega (arith, all, read.1); each = read.0.names.each; distinct = read.0.names.distinct };
      notes = All-append (IsNote system) of_file.value (map free_server of_servers.value) notes_are.1 (All-map (IsNote system) free_server of_servers.value read.0.homes);
      thread_names = threads_are.0;
      threads = threads_are.1;
      one_each = threads_are.2;
      few_orders = orders_are.0;
      orders = orders_are.1;
      few_links = links_are.0;
      links = links_are.1;
      one_link = links_are.2;
      servers = servers_are system of_file.value of_servers.value refl refl;
      sources = sources_are system of_file.value of_servers.value refl refl of_sources.value refl refl from.0 from.1;
      chains = record {
        names = chains_are.0;
        chains = All-weaker (IsReadChain (map (λ (s : Source). s.name) of_sources.value) of_threads.value) (IsChain system) (λ c q. record { source = omega (arith, q.0, source_count); thread = q.1; badges = q.2; deadline = q.3 }) system.chains chains_are.1;
      };
    }

-- a system that is read is well formed
pub accepted_is_well_formed : (bytes : List ℕ) → first_failed (file bytes).tests ≡ None → IsWellFormed (file bytes).value
unfolding file
accepted_is_well_formed bytes h =
    let p = both_passed (document bytes).tests _ h in
    walk_passed (document bytes).value p.1
