-- Delivery of signals to the inboxes of their homes.
use Rattle.std.specs.Prelude.{◌≡◌, ◌≢◌, ◌⊎◌, ℕ, ◌+◌, ◌<◌, ◌≤◌, List, [], filter, length, slice_index_or, Vec, vec_len, vec_capacity}
use Rattle.std.specs.declared.alloc.Global.{Global}
use Rattle.mcs_ticks.specs.declared.row.Row.{Row}
use Rattle.mcs_mail.specs.declared.mail.Mail.{Mail}
use Rattle.mcs_mail.specs.Box.{Content, put_all}
use Rattle.mcs_system.specs.System.{System}
use Rattle.mcs_stretch.specs.Inbox.{is_home}

module _ (system : System) where
  -- each box has got the signals for its core, in the order of the list
  pub record AreDelivered (signals : List Mail) (before after : List Content) : Type 0 where
    pub many : length after ≡ length before
    pub each : (c : ℕ) (x : Content) → c < length before → (slice_index_or after c x).mails
        ≡ put_all (filter (is_home system c) signals) (slice_index_or before c x).mails

  -- the number of signals for this core
  abbrev pub count_for : ℕ → List Mail → ℕ
  count_for c signals = length (filter (is_home system c) signals)

  -- each box has room for the signals for its core
  abbrev pub HaveRoom : List Mail → List Content → Type 0
  HaveRoom signals boxes =
      (c : ℕ) (x : Content) → c < length boxes → count_for c signals ≤ (slice_index_or boxes c x).spare

-- the same mail, whatever room there is
pub record AreSameMail (before after : List Content) : Type 0 where
  pub many : length after ≡ length before
  pub each : (c : ℕ) (x : Content) → c < length before
      → (slice_index_or after c x).mails ≡ (slice_index_or before c x).mails

-- the box of core c is replaced by `mailbox`, joined by the mail that was there
pub record IsJoined (c : ℕ) (mailbox : Content) (before after : List Content) : Type 0 where
  pub many : length after ≡ length before
  pub own : (x : Content) → (slice_index_or after c x).mails ≡ put_all (slice_index_or before c x).mails mailbox.mails
  pub others : (b : ℕ) (x : Content) → b ≢ c → slice_index_or after b x ≡ slice_index_or before b x

-- there is room for that many more rows, or the list is empty, so that another list can replace it
abbrev pub HasRoomFor : Vec Row Global → ℕ → Type 0
HasRoomFor rows more = (rows.items ≡ []) ⊎ (vec_len rows + more ≤ vec_capacity rows)
