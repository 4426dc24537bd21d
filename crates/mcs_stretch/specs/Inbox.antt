-- The inbox of a core: the signals for it that the cores have made by their clocks, in order of
-- delivery.
use Rattle.std.specs.Prelude.{◌≡◌, ℕ, ◌<◌, ◌≤◌, ◌-◌, ◌+◌, max, Bool, ◌&&◌, ◌==◌, nat_lt, nat_le, if◌then◌else◌, List, [], filter, flat_map, fold, slice_index}
use Rattle.std.specs.List.{range_with_len}
use Rattle.mcs_mail.specs.declared.mail.Mail.{Mail}
use Rattle.mcs_mail.specs.Box.{put_all, IsIn, ArePairwise, Differ}
use Rattle.mcs_system.specs.System.{System, note_part, delay_between}
use Rattle.mcs_core.specs.Clock.{turn_of, arrives_at}

module _ (system : System) where
  -- the home core of the signal's notification
  abbrev pub home_of : Mail → ℕ
  home_of mail = (note_part system mail.note).core

  abbrev pub is_home : ℕ → Mail → Bool
  is_home c mail = home_of mail == c

  -- the signals that core b makes at m, if that is before its moment in `front`, and that arrive at
  -- t on core c
  abbrev pub known_of : ℕ → ℕ → List ℕ → ℕ → ℕ → List Mail
  known_of c t front m b =
      if nat_lt m (slice_index front b) then filter (arrives_at system t c) (turn_of system b m).mails else []

  -- such signals of all cores made at m, by maker, and those made at any moment, by that moment
  abbrev pub known_made : ℕ → ℕ → List ℕ → ℕ → List Mail
  known_made c t front m = flat_map (known_of c t front m) (range_with_len 0 system.cores)

  abbrev pub known_at : ℕ → ℕ → List ℕ → List Mail
  known_at c t front = flat_map (known_made c t front) (range_with_len 0 t)

  -- all of them arrive before this moment
  abbrev pub known_until : ℕ → List ℕ → ℕ
  known_until c front =
      fold (λ latest b. max latest (slice_index front b + delay_between system b c)) 0 (range_with_len 0 system.cores)

  -- those that arrive at `from` or later, by the moment of arrival
  abbrev pub inbox : ℕ → ℕ → List ℕ → List Mail
  inbox c from front = flat_map (λ t. known_at c t front) (range_with_len from (known_until c front - from))

  -- the clock's signals of core b for other cores at the moments from `low` to before `high`
  abbrev pub signals_between : ℕ → ℕ → ℕ → List Mail
  signals_between b low high = flat_map (λ m. (turn_of system b m).mails) (range_with_len low (high - low))

  -- the signals for core c that each core makes from its moment in `front` to before that in
  -- `later`, and that arrive at `from` or later
  abbrev pub is_for : ℕ → ℕ → Mail → Bool
  is_for c from mail = ((note_part system mail.note).core == c) && nat_le from mail.arrives

  abbrev pub news : ℕ → ℕ → List ℕ → List ℕ → List Mail
  news c from front later =
      flat_map (λ b. filter (is_for c from) (signals_between b (slice_index front b) (slice_index later b)))
      (range_with_len 0 system.cores)

  -- a core makes the signal at one of the moments from its moment in `low` to before that in `high`
  pub record IsMade (low high : ℕ → ℕ) (mail : Mail) : Type 0 where
    pub maker : ℕ
    pub made : ℕ
    pub known : maker < system.cores
    pub from : low maker ≤ made
    pub before : made < high maker
    pub is : IsIn mail (turn_of system maker made).mails

  -- it is for core c and arrives at `from` or later
  pub record IsFor (c from : ℕ) (mail : Mail) : Type 0 where
    pub home : (note_part system mail.note).core ≡ c
    pub arrives : from ≤ mail.arrives

  -- these are those signals, each once, in any order
  pub record AreNews (c from : ℕ) (front later : List ℕ) (mails : List Mail) : Type 0 where
    pub apart : ArePairwise Differ mails
    pub are : (mail : Mail) → IsIn mail mails → IsMade (slice_index front) (slice_index later) mail × IsFor c from mail
    pub all : (mail : Mail) → IsMade (slice_index front) (slice_index later) mail → IsFor c from mail → IsIn mail mails

  -- no clock falls
  abbrev pub Rises : List ℕ → List ℕ → Type 0
  Rises front later = (b : ℕ) → b < system.cores → slice_index front b ≤ slice_index later b

  -- the inbox by earlier clocks, with the signals made since put in any order, is the inbox by the
  -- later clocks
  abbrev pub InboxesJoin : Type 0
  InboxesJoin =
      (c from : ℕ) (front later : List ℕ) (mails : List Mail) → Rises front later → AreNews c from front later mails →
      put_all mails (inbox c from front) ≡ inbox c from later

  -- the list `news` has the new signals, and so has a box that collects: it starts empty, and new
  -- signals join the earlier ones
  abbrev pub NewsJoin : Type 0
  NewsJoin =
      (c from : ℕ) (front : List ℕ) →
      ((later : List ℕ) → AreNews c from front later (news c from front later))
      × AreNews c from front front []
      × ((middle later : List ℕ) (mails more : List Mail) → Rises front middle → Rises middle later
      → AreNews c from front middle mails →
      AreNews c from middle later more → AreNews c from front later (put_all more mails))
