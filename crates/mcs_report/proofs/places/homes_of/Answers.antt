use Rattle.std.proofs.Common.{◌≡◌, ◌<◌, ◌+◌, ◌++◌, ◌∷◌, [], length, get_or, ap, sym, subst, ◌∙◌, slice_index, slice_set, arith}
use Rattle.std.proofs.lemmas.List.FromFn.{length-map-range_with_len}
use Rattle.mcs_system.specs.System.{core_of}
use Rattle.mcs_report.specs.stored.Places.{home_in}
use Rattle.mcs_report.proofs.Homes.{none-counted, home-added, one-counted, AreCounted}
use Rattle.mcs_report.proofs.places.homes_of.Goals as goal

pub loop-thread-init : goal.loop-thread-init
loop-thread-init c = record {
  homes = c.in_ok-homes.ensures.items;
  room = c.in_ok-homes.ensures.capacity;
  counted = none-counted c.args.parts.now;
}

pub push_reserved-requires : goal.push_reserved-requires
push_reserved-requires c =
    let many : length c.loop-thread.homes.items ≡ c.loop-thread.thread-index =
    ap length c.loop-thread.invariant.homes ∙ length-map-range_with_len (home_in c.args.parts.now) 0 c.loop-thread.thread-index in
    omega (arith, many, c.loop-thread.invariant.room, c.loop-thread-test.true)

pub loop-thread-preserved : goal.loop-thread-preserved
loop-thread-preserved c =
    let parts = c.args.parts.now in
    let thread = c.thread-item.result in
    let n = c.loop-thread.thread-index in
    let known : n < length parts.threads = subst (λ ts. n < length ts) c.as_slice-threads.ensures c.loop-thread-test.true in
    let is : thread ≡ get_or parts.threads n thread = subst (λ ts. thread ≡ get_or ts n thread) c.as_slice-threads.ensures c.thread-item.is in
    let first : c.core.inside.0 ≡ core_of parts thread = c.core.view_is ∙ c.core_of_thread-core.ensures in
    let second : c.core-in-loop-thread.inside.0 ≡ core_of parts thread = c.core-in-loop-thread.view_is ∙ c.core_of_thread-core.ensures in
    record {
      homes =
          c.push_reserved.ensures.items
          ∙ ap (λ k. c.loop-thread.homes.items ++ record { core = c.core_of_thread-core.result; place = slice_index c.loop-thread.many k } ∷ []) first
          ∙ ap (λ k. c.loop-thread.homes.items ++ record { core = k; place = slice_index c.loop-thread.many (core_of parts thread) } ∷ []) c.core_of_thread-core.ensures
          ∙ home-added parts c.requires c.loop-thread.many n thread c.loop-thread.invariant.counted known is c.loop-thread.homes.items c.loop-thread.invariant.homes;
      room = omega (arith, c.push_reserved.ensures.capacity, c.loop-thread.invariant.room);
      counted =
          subst (λ k. AreCounted parts (slice_set c.loop-thread.many k (slice_index c.loop-thread.many c.core.inside.0 + 1)) (n + 1)) (sym second)
          (subst (λ k. AreCounted parts (slice_set c.loop-thread.many (core_of parts thread) (slice_index c.loop-thread.many k + 1)) (n + 1)) (sym first)
          (one-counted parts c.requires c.loop-thread.many n thread c.loop-thread.invariant.counted known is));
    }
