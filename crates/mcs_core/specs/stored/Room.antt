-- The room of the queues and notifications of a core: all its threads.
use Rattle.std.specs.Prelude.{◌≡◌, ℕ}

pub record IsRoomy (threads ready releases waiters : ℕ) : Type 0 where
  pub ready_room : ready ≡ threads
  pub release_room : releases ≡ threads
  pub waiter_room : waiters ≡ threads
