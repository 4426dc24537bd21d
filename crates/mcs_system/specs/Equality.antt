-- Tests of equality for each part of a system, true if and only if the parts are equal.
use Rattle.std.specs.Prelude.{Bool, true, false, ◌&&◌, ◌==◌, nat_eq}
use Rattle.std.specs.Cmp.Lexicographic.{pointwise}
use Rattle.mcs_control.specs.declared.config.Config.{Config}
use Rattle.mcs_control.specs.declared.config.Mode.{Mode}
use Rattle.mcs_control.specs.declared.config.Mode.TheVariants.{Sporadic, Bandwidth}
use Rattle.mcs_control.specs.declared.config.Order.{Order}
use Rattle.mcs_script.specs.declared.item.Item.{Item}
use Rattle.mcs_script.specs.declared.item.Item.TheVariants.{Compute, Signal, Wait, Yield, On, Spin, Enter, Leave}
use Rattle.mcs_system.specs.declared.part.Beat.{Beat}
use Rattle.mcs_system.specs.declared.part.ChainPart.{ChainPart}
use Rattle.mcs_system.specs.declared.part.ContextPart.{ContextPart}
use Rattle.mcs_system.specs.declared.part.Link.{Link}
use Rattle.mcs_system.specs.declared.part.NotePart.{NotePart}
use Rattle.mcs_system.specs.declared.part.SourcePart.{SourcePart}
use Rattle.mcs_system.specs.declared.part.ThreadPart.{ThreadPart}
use Rattle.mcs_system.specs.System.{System}

abbrev pub same_config : Config → Config → Bool
same_config a b = a.budget == b.budget && a.period == b.period && a.extra == b.extra

abbrev pub same_mode : Mode → Mode → Bool
same_mode Sporadic Sporadic = true
same_mode Bandwidth Bandwidth = true
same_mode _ _ = false

abbrev pub same_item : Item → Item → Bool
same_item (Compute x) (Compute y) = x == y
same_item (Signal n x) (Signal m y) = n == m && x == y
same_item (Wait n) (Wait m) = n == m
same_item Yield Yield = true
same_item (On x) (On y) = x == y
same_item Spin Spin = true
same_item (Enter n x) (Enter m y) = n == m && x == y
same_item (Leave n x) (Leave m y) = n == m && x == y
same_item _ _ = false

abbrev pub same_context : ContextPart → ContextPart → Bool
same_context a b = pointwise nat_eq a.name b.name && a.core == b.core && same_config a.config b.config && same_mode a.mode b.mode

abbrev pub same_note : NotePart → NotePart → Bool
same_note a b = pointwise nat_eq a.name b.name && a.core == b.core && a.word == b.word

abbrev pub same_thread : ThreadPart → ThreadPart → Bool
same_thread a b =
    pointwise nat_eq a.name b.name
    && a.context == b.context
    && a.priority == b.priority
    && a.start == b.start
    && a.rounds == b.rounds
    && a.deadline == b.deadline
    && pointwise same_item a.script b.script

abbrev pub same_order : Order → Order → Bool
same_order a b = a.moment == b.moment && a.context == b.context && same_config a.config b.config

abbrev pub same_link : Link → Link → Bool
same_link a b = a.maker == b.maker && a.home == b.home && a.delay == b.delay

abbrev pub same_source : SourcePart → SourcePart → Bool
same_source a b = pointwise nat_eq a.name b.name && a.note == b.note && a.badge == b.badge

abbrev pub same_beat : Beat → Beat → Bool
same_beat a b = a.source == b.source && a.first == b.first && a.period == b.period && a.count == b.count

abbrev pub same_chain : ChainPart → ChainPart → Bool
same_chain a b =
    pointwise nat_eq a.name b.name && a.source == b.source && a.thread == b.thread && a.badges == b.badges && a.deadline == b.deadline

abbrev pub same_ties : System → System → Bool
same_ties a b =
    pointwise same_link a.links b.links && pointwise same_source a.sources b.sources && pointwise same_beat a.beats b.beats
    && pointwise same_chain a.chains b.chains

abbrev pub same_limits : System → System → Bool
same_limits a b = a.cores == b.cores && a.delay == b.delay && a.call == b.call && a.min_budget == b.min_budget && a.servers == b.servers

abbrev pub same_things : System → System → Bool
same_things a b =
    pointwise same_context a.contexts b.contexts
    && pointwise same_note a.notes b.notes
    && pointwise same_thread a.threads b.threads
    && pointwise same_order a.orders b.orders

abbrev pub same_system : System → System → Bool
same_system a b = same_limits a b && same_things a b && same_ties a b
