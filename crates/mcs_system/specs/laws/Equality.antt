-- The tests of equality are true if and only if the parts are equal.
use Rattle.std.proofs.Common.{◌≡◌, Decides, refl, arith}
use Rattle.std.proofs.lemmas.Bool.Decides.{nat_tests}
use Rattle.std.specs.Cmp.Lexicographic.{pointwise_decides, bytes_decides}
use Rattle.std.specs.Cmp.{decided, IsEquivalence}
use Rattle.mcs_control.specs.declared.config.Config.{Config}
use Rattle.mcs_control.specs.declared.config.Mode.{Mode}
use Rattle.mcs_control.specs.declared.config.Mode.TheVariants.{Sporadic, Bandwidth}
use Rattle.mcs_control.specs.declared.config.Order.{Order}
use Rattle.mcs_script.specs.declared.item.Item.{Item}
use Rattle.mcs_script.specs.declared.item.Item.TheVariants.{Compute, Signal, Wait, Yield, On, Spin, Enter, Leave}
use Rattle.mcs_system.specs.declared.part.Beat.{Beat}
use Rattle.mcs_system.specs.declared.part.ChainPart.{ChainPart}
use Rattle.mcs_system.specs.declared.part.ContextPart.{ContextPart}
use Rattle.mcs_system.specs.declared.part.Link.{Link}
use Rattle.mcs_system.specs.declared.part.NotePart.{NotePart}
use Rattle.mcs_system.specs.declared.part.SourcePart.{SourcePart}
use Rattle.mcs_system.specs.declared.part.ThreadPart.{ThreadPart}
use Rattle.mcs_system.specs.System.{System}
use Rattle.mcs_system.specs.Equality.{same_config, same_mode, same_item, same_context, same_note, same_thread, same_order, same_link, same_source, same_beat, same_chain, same_system}

pub same_config_decides : (a b : Config) → Decides (same_config a b) (a ≡ b)
same_config_decides a b = (λ e. grind (arith, nat_tests), λ e. grind (arith, nat_tests))

pub same_item_decides : (a b : Item) → Decides (same_item a b) (a ≡ b)
same_item_decides (Compute x) (Compute y) = (λ e. grind (arith, nat_tests), λ e. grind (arith, nat_tests))
same_item_decides (Compute x) (Signal m y) = (λ e. cc, λ e. cc)
same_item_decides (Compute x) (Wait m) = (λ e. cc, λ e. cc)
same_item_decides (Compute x) Yield = (λ e. cc, λ e. cc)
same_item_decides (Compute x) (On y) = (λ e. cc, λ e. cc)
same_item_decides (Compute x) Spin = (λ e. cc, λ e. cc)
same_item_decides (Compute x) (Enter m y) = (λ e. cc, λ e. cc)
same_item_decides (Compute x) (Leave m y) = (λ e. cc, λ e. cc)
same_item_decides (Signal n x) (Compute y) = (λ e. cc, λ e. cc)
same_item_decides (Signal n x) (Signal m y) = (λ e. grind (arith, nat_tests), λ e. grind (arith, nat_tests))
same_item_decides (Signal n x) (Wait m) = (λ e. cc, λ e. cc)
same_item_decides (Signal n x) Yield = (λ e. cc, λ e. cc)
same_item_decides (Signal n x) (On y) = (λ e. cc, λ e. cc)
same_item_decides (Signal n x) Spin = (λ e. cc, λ e. cc)
same_item_decides (Signal n x) (Enter m y) = (λ e. cc, λ e. cc)
same_item_decides (Signal n x) (Leave m y) = (λ e. cc, λ e. cc)
same_item_decides (Wait n) (Compute y) = (λ e. cc, λ e. cc)
same_item_decides (Wait n) (Signal m y) = (λ e. cc, λ e. cc)
same_item_decides (Wait n) (Wait m) = (λ e. grind (arith, nat_tests), λ e. grind (arith, nat_tests))
same_item_decides (Wait n) Yield = (λ e. cc, λ e. cc)
same_item_decides (Wait n) (On y) = (λ e. cc, λ e. cc)
same_item_decides (Wait n) Spin = (λ e. cc, λ e. cc)
same_item_decides (Wait n) (Enter m y) = (λ e. cc, λ e. cc)
same_item_decides (Wait n) (Leave m y) = (λ e. cc, λ e. cc)
same_item_decides Yield (Compute y) = (λ e. cc, λ e. cc)
same_item_decides Yield (Signal m y) = (λ e. cc, λ e. cc)
same_item_decides Yield (Wait m) = (λ e. cc, λ e. cc)
same_item_decides Yield Yield = (λ e. refl, λ e. refl)
same_item_decides Yield (On y) = (λ e. cc, λ e. cc)
same_item_decides Yield Spin = (λ e. cc, λ e. cc)
same_item_decides Yield (Enter m y) = (λ e. cc, λ e. cc)
same_item_decides Yield (Leave m y) = (λ e. cc, λ e. cc)
same_item_decides (On x) (Compute y) = (λ e. cc, λ e. cc)
same_item_decides (On x) (Signal m y) = (λ e. cc, λ e. cc)
same_item_decides (On x) (Wait m) = (λ e. cc, λ e. cc)
same_item_decides (On x) Yield = (λ e. cc, λ e. cc)
same_item_decides (On x) (On y) = (λ e. grind (arith, nat_tests), λ e. grind (arith, nat_tests))
same_item_decides (On x) Spin = (λ e. cc, λ e. cc)
same_item_decides (On x) (Enter m y) = (λ e. cc, λ e. cc)
same_item_decides (On x) (Leave m y) = (λ e. cc, λ e. cc)
same_item_decides Spin (Compute y) = (λ e. cc, λ e. cc)
same_item_decides Spin (Signal m y) = (λ e. cc, λ e. cc)
same_item_decides Spin (Wait m) = (λ e. cc, λ e. cc)
same_item_decides Spin Yield = (λ e. cc, λ e. cc)
same_item_decides Spin (On y) = (λ e. cc, λ e. cc)
same_item_decides Spin Spin = (λ e. refl, λ e. refl)
same_item_decides Spin (Enter m y) = (λ e. cc, λ e. cc)
same_item_decides Spin (Leave m y) = (λ e. cc, λ e. cc)
same_item_decides (Enter n x) (Compute y) = (λ e. cc, λ e. cc)
same_item_decides (Enter n x) (Signal m y) = (λ e. cc, λ e. cc)
same_item_decides (Enter n x) (Wait m) = (λ e. cc, λ e. cc)
same_item_decides (Enter n x) Yield = (λ e. cc, λ e. cc)
same_item_decides (Enter n x) (On y) = (λ e. cc, λ e. cc)
same_item_decides (Enter n x) Spin = (λ e. cc, λ e. cc)
same_item_decides (Enter n x) (Enter m y) = (λ e. grind (arith, nat_tests), λ e. grind (arith, nat_tests))
same_item_decides (Enter n x) (Leave m y) = (λ e. cc, λ e. cc)
same_item_decides (Leave n x) (Compute y) = (λ e. cc, λ e. cc)
same_item_decides (Leave n x) (Signal m y) = (λ e. cc, λ e. cc)
same_item_decides (Leave n x) (Wait m) = (λ e. cc, λ e. cc)
same_item_decides (Leave n x) Yield = (λ e. cc, λ e. cc)
same_item_decides (Leave n x) (On y) = (λ e. cc, λ e. cc)
same_item_decides (Leave n x) Spin = (λ e. cc, λ e. cc)
same_item_decides (Leave n x) (Enter m y) = (λ e. cc, λ e. cc)
same_item_decides (Leave n x) (Leave m y) = (λ e. grind (arith, nat_tests), λ e. grind (arith, nat_tests))

pub same_mode_decides : (a b : Mode) → Decides (same_mode a b) (a ≡ b)
same_mode_decides Sporadic Sporadic = (λ e. refl, λ e. refl)
same_mode_decides Sporadic Bandwidth = (λ e. cc, λ e. cc)
same_mode_decides Bandwidth Sporadic = (λ e. cc, λ e. cc)
same_mode_decides Bandwidth Bandwidth = (λ e. refl, λ e. refl)

pub same_context_decides : (a b : ContextPart) → Decides (same_context a b) (a ≡ b)
same_context_decides a b =
    let name = bytes_decides a.name b.name in
    let config = same_config_decides a.config b.config in
    let mode = same_mode_decides a.mode b.mode in
    (λ e. grind (arith, nat_tests, name.0, config.0, mode.0), λ e. grind (arith, nat_tests, name.1, config.1, mode.1))

pub same_note_decides : (a b : NotePart) → Decides (same_note a b) (a ≡ b)
same_note_decides a b =
    let name = bytes_decides a.name b.name in
    (λ e. grind (arith, nat_tests, name.0), λ e. grind (arith, nat_tests, name.1))

pub same_order_decides : (a b : Order) → Decides (same_order a b) (a ≡ b)
same_order_decides a b =
    let config = same_config_decides a.config b.config in
    (λ e. grind (arith, nat_tests, config.0), λ e. grind (arith, nat_tests, config.1))

pub same_link_decides : (a b : Link) → Decides (same_link a b) (a ≡ b)
same_link_decides a b = (λ e. grind (arith, nat_tests), λ e. grind (arith, nat_tests))

pub same_source_decides : (a b : SourcePart) → Decides (same_source a b) (a ≡ b)
same_source_decides a b =
    let name = bytes_decides a.name b.name in
    (λ e. grind (arith, nat_tests, name.0), λ e. grind (arith, nat_tests, name.1))

pub same_beat_decides : (a b : Beat) → Decides (same_beat a b) (a ≡ b)
same_beat_decides a b = (λ e. grind (arith, nat_tests), λ e. grind (arith, nat_tests))

pub same_chain_decides : (a b : ChainPart) → Decides (same_chain a b) (a ≡ b)
same_chain_decides a b =
    let name = bytes_decides a.name b.name in
    (λ e. grind (arith, nat_tests, name.0), λ e. grind (arith, nat_tests, name.1))

pub same_thread_decides : (a b : ThreadPart) → Decides (same_thread a b) (a ≡ b)
same_thread_decides a b =
    let name = bytes_decides a.name b.name in
    let script = pointwise_decides same_item_decides a.script b.script in
    (λ e. grind (arith, nat_tests, name.0, script.0), λ e. grind (arith, nat_tests, name.1, script.1))

pub same_system_decides : (a b : System) → Decides (same_system a b) (a ≡ b)
same_system_decides a b =
    let contexts = pointwise_decides same_context_decides a.contexts b.contexts in
    let notes = pointwise_decides same_note_decides a.notes b.notes in
    let threads = pointwise_decides same_thread_decides a.threads b.threads in
    let orders = pointwise_decides same_order_decides a.orders b.orders in
    let links = pointwise_decides same_link_decides a.links b.links in
    let sources = pointwise_decides same_source_decides a.sources b.sources in
    let beats = pointwise_decides same_beat_decides a.beats b.beats in
    let chains = pointwise_decides same_chain_decides a.chains b.chains in (
      λ e. grind (arith, nat_tests, contexts.0, notes.0, threads.0, orders.0, links.0, sources.0, beats.0, chains.0),
      λ e.
          grind (arith, nat_tests, contexts.1, notes.1, threads.1, orders.1, links.1, sources.1, beats.1, chains.1),
    )

pub same_thread_equivalence : IsEquivalence same_thread
same_thread_equivalence = decided same_thread same_thread_decides

pub same_system_equivalence : IsEquivalence same_system
same_system_equivalence = decided same_system same_system_decides
