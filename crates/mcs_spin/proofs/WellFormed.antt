-- The spun system is well-formed if the system is.
use Rattle.std.proofs.Common.{◌≡◌, ℕ, zero, suc, ◌≤◌, ◌<◌, Bool, true, false, cond, List, [], ◌∷◌, map, length, get_or, refl, sym, ap, subst, ◌∙◌, arith}
use Rattle.std.specs.Prelude.{All, AllPairs, IsTrue}
use Rattle.std.proofs.lemmas.List.{get_or-map, length-map}
use Rattle.std.proofs.lemmas.List.Elements.{All-map, All-weaker}
use Rattle.mcs_control.specs.declared.config.Order.{Order}
use Rattle.mcs_script.specs.declared.item.Item.{Item}
use Rattle.mcs_script.specs.declared.item.Item.TheVariants.{Compute, Signal, Wait, Yield, On, Spin, Enter, Leave}
use Rattle.mcs_script.specs.Script.{IsScript, is_bare, is_left_open}
use Rattle.mcs_system.specs.declared.part.ChainPart.{ChainPart}
use Rattle.mcs_system.specs.declared.part.ContextPart.{ContextPart}
use Rattle.mcs_system.specs.declared.part.Beat.{Beat}
use Rattle.mcs_system.specs.declared.part.Link.{Link}
use Rattle.mcs_system.specs.declared.part.SourcePart.{SourcePart}
use Rattle.mcs_system.specs.declared.part.ThreadPart.{ThreadPart}
use Rattle.mcs_system.specs.Names.{is_name}
use Rattle.mcs_system.specs.System.{System, core_of}
use Rattle.mcs_system.specs.WellFormed.{AreNamed, AreLimits, IsContext, IsItem, IsThread, IsOrder, IsLink, IsSource, IsBeat, AreServers, IsChain, AreChains, AreSources, IsWellFormed}
use Rattle.mcs_spin.specs.Spun.{only_computes, spun_part, spun}
use Rattle.mcs_spin.proofs.Parts.{context-part}

name-part : (part : ThreadPart) → (spun_part part).name ≡ part.name
name-part part = by (only_computes part)
  where
    by : (b : Bool) → (cond b (record part { script = Spin ∷ [] }) part).name ≡ part.name
    by true = refl
    by false = refl

-- two threads of the spun system
pairs : {A : Type 0} (P : ThreadPart → A) → ((part : ThreadPart) → P (spun_part part) ≡ P part) → (parts : List ThreadPart) →
    AllPairs (λ a b. P a ≡ P b → ⊥) parts → AllPairs (λ a b. P a ≡ P b → ⊥) (map spun_part parts)
pairs P same parts h i j d l m e =
    h i j d l inside (sym (at i (omega (arith, l, inside))) ∙ e ∙ at j inside)
  where
    inside : j < length parts
    inside = omega (arith, m, length-map parts spun_part)

    at : (k : ℕ) → k < length parts → P (get_or (map spun_part parts) k d) ≡ P (get_or parts k d)
    at k l = ap P (get_or-map spun_part parts k d d l) ∙ same (get_or parts k d)

named : (parts : List ThreadPart) → AreNamed (λ (part : ThreadPart). part.name) parts → AreNamed (λ (part : ThreadPart). part.name) (map spun_part parts)
named parts h =
    record {
      few = (let few : length parts ≤ 4096 = h.few in omega (arith, few, length-map parts spun_part));
      each =
          All-map (λ (part : ThreadPart). IsTrue (is_name part.name)) spun_part parts
          (All-weaker (λ (part : ThreadPart). IsTrue (is_name part.name)) (λ (part : ThreadPart). IsTrue (is_name (spun_part part).name))
          (λ part h. let P : List ℕ → Type 0 = λ name. IsTrue (is_name name) in subst P (sym (name-part part)) h) parts h.each);
      distinct = pairs (λ (part : ThreadPart). part.name) name-part parts h.distinct;
    }

-- the one item `Spin`
spin_is_script : IsScript (Spin ∷ [])
spin_is_script = record { some = omega arith; most = omega arith; waits = λ k l m. waits k; entering = λ k l. entering k; listening = refl }
  where
    waits : (k : ℕ) → is_bare (Spin ∷ []) k ≡ false
    waits zero = refl
    waits (suc k) = refl

    entering : (k : ℕ) → is_left_open (Spin ∷ []) k ≡ false
    entering zero = refl
    entering (suc k) = refl

module _ (system : System) where
  abbrev other : System
  other = spun system

  item-well : (core : ℕ) (item : Item) → IsItem system core item → IsItem other core item
  item-well core (Compute ticks) h = h
  item-well core (Signal note badge) h = h
  item-well core (Wait note) h = h
  item-well core Yield h = h
  item-well core (On badges) h = h
  item-well core Spin h = h
  item-well core (Enter server priority) h = h
  item-well core (Leave server priority) h = h

  spins-well : (core : ℕ) → All (IsItem other core) (Spin ∷ [])
  spins-well core zero d l = tt
  spins-well core (suc k) d l = absurd (omega (arith, l))

  thread-well : (part : ThreadPart) → IsThread system part → IsThread other (spun_part part)
  thread-well part h = by (only_computes part)
    where
      by : (b : Bool) → IsThread other (cond b (record part { script = Spin ∷ [] }) part)
      by true =
          record { bound = h.bound; priority = h.priority; start = h.start; rounds = h.rounds; deadline = h.deadline; script = spin_is_script; items = spins-well (core_of system part) }
      by false =
          record {
            bound = h.bound;
            priority = h.priority;
            start = h.start;
            rounds = h.rounds;
            deadline = h.deadline;
            script = h.script;
            items = All-weaker (IsItem system (core_of system part)) (IsItem other (core_of system part)) (item-well (core_of system part)) part.script h.items;
          }

  context-well : (context : ContextPart) → IsContext system context → IsContext other context
  context-well context h = record { core = h.core; accepted = h.accepted; mode = h.mode }

  order-well : (order : Order) → IsOrder system order → IsOrder other order
  order-well order h = record { moment = h.moment; context = h.context; accepted = h.accepted; same_kind = h.same_kind }

  link-well : (link : Link) → IsLink system link → IsLink other link
  link-well link h = record { maker = h.maker; home = h.home; other = h.other; delay = h.delay }

  source-well : (source : SourcePart) → IsSource system source → IsSource other source
  source-well source h = record { note = h.note; signalled = h.signalled; badge = h.badge }

  beat-well : (beat : Beat) → IsBeat system beat → IsBeat other beat
  beat-well beat h = record { source = h.source; first = h.first; period = h.period }

  chain-well : (chain : ChainPart) → IsChain system chain → IsChain other chain
  chain-well chain h =
      record {
        source = h.source;
        thread = (let known : chain.thread < length system.threads = h.thread in omega (arith, known, length-map system.threads spun_part));
        badges = h.badges;
        deadline = h.deadline;
      }

  limits-well : AreLimits system → AreLimits other
  limits-well h = record { cores = h.cores; delay = h.delay; call = h.call; min_budget = h.min_budget }

  servers-well : AreServers system → AreServers other
  servers-well h = record { few = h.few; free = h.free }

  sources-well : AreSources system → AreSources other
  sources-well h =
      record {
        names = h.names;
        sources = All-weaker (IsSource system) (IsSource other) source-well system.sources h.sources;
        few_beats = h.few_beats;
        beats = All-weaker (IsBeat system) (IsBeat other) beat-well system.beats h.beats;
        order = h.order;
      }

  chains-well : AreChains system → AreChains other
  chains-well h = record { names = h.names; chains = All-weaker (IsChain system) (IsChain other) chain-well system.chains h.chains }

  pub well-spun : IsWellFormed system → IsWellFormed (spun system)
  well-spun h =
      record {
        limits = limits-well h.limits;
        context_names = h.context_names;
        contexts = All-weaker (IsContext system) (IsContext other) context-well system.contexts h.contexts;
        note_names = h.note_names;
        notes = h.notes;
        thread_names = named system.threads h.thread_names;
        threads = All-map (IsThread other) spun_part system.threads (All-weaker (IsThread system) (λ part. IsThread other (spun_part part)) thread-well system.threads h.threads);
        one_each = pairs (λ (part : ThreadPart). part.context) context-part system.threads h.one_each;
        few_orders = h.few_orders;
        orders = All-weaker (IsOrder system) (IsOrder other) order-well system.orders h.orders;
        few_links = h.few_links;
        links = All-weaker (IsLink system) (IsLink other) link-well system.links h.links;
        one_link = h.one_link;
        servers = servers-well h.servers;
        sources = sources-well h.sources;
        chains = chains-well h.chains;
      }
