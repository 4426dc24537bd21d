-- The sets of a chain's origins without an answer. A set has its latest origin first.
use Rattle.std.specs.Prelude.{ℕ, Bool, ◌==◌, ◌&&◌, ◌||◌, not, if◌then◌else◌, bit_and, List, [], ◌∷◌, ◌++◌, map, filter, get_or, slice_set}
use Rattle.mcs_system.specs.declared.part.ChainPart.{ChainPart}
use Rattle.mcs_system.specs.System.{System}
use Rattle.mcs_origins.specs.declared.mark.Mark.{Mark}
use Rattle.mcs_chain.specs.declared.sent.Sent.{Sent}
use Rattle.mcs_chain.specs.declared.moves.Move.{Move}
use Rattle.mcs_chain.specs.declared.moves.Move.TheVariants.{Nothing, Start, Give, Send, Land, Hold, Wake, Got, End}
use Rattle.mcs_origins.specs.declared.taking.Taking.{Taking}
use Rattle.mcs_origins.specs.Sets.{join, at_places, given, taken, is_one_of, without}
use Rattle.mcs_chain.specs.Moves.{reach}

pub record Origins : Type 0 where
  -- of each notification
  pub held : List (List Mark)
  -- of each thread
  pub carried : List (List Mark)
  -- of the signals to other cores
  pub under_way : List Sent
  -- of the post that the latest row makes
  pub posted : List Mark
  -- the origins without an answer, the earliest first
  pub unanswered : List ℕ
  -- those that the latest row answers
  pub answered : List ℕ

-- whether a signal is the one that this core made at this moment for this notification
abbrev pub is_sent : ℕ → ℕ → ℕ → Sent → Bool
is_sent note maker made sent = sent.note == note && (sent.maker == maker && sent.made == made)

-- whether a round that this word began answers, if the chain has these badges
abbrev pub is_answer : ℕ → ℕ → Bool
is_answer badges word = badges == 0 || not (bit_and badges word == 0)

-- before the first row
abbrev pub no_origins : System → Origins
no_origins system =
    record {
      held = map (λ _. []) system.notes;
      carried = map (λ _. []) system.threads;
      under_way = [];
      posted = [];
      unanswered = [];
      answered = [];
    }

-- a row posts nothing and answers nothing
abbrev pub rest : Origins → Origins
rest o = record o { posted = []; answered = [] }

-- an interrupt of the chain's source
abbrev pub started : ℕ → ℕ → Origins → Origins
started moment badge o =
    record (rest o) { posted = record { origin = moment; places = badge } ∷ []; unanswered = o.unanswered ++ moment ∷ [] }

abbrev pub sent : ℕ → ℕ → ℕ → Mark → Sent
sent note maker made mark = record { note = note; maker = maker; made = made; mark = mark }

abbrev pub sets_out : ℕ → ℕ → ℕ → List Mark → Origins → Origins
sets_out note maker made set o = record (rest o) { under_way = o.under_way ++ map (sent note maker made) set }

abbrev pub lands : ℕ → ℕ → ℕ → Origins → Origins
lands note maker made o =
    record (rest o) {
      posted = map (λ sent. sent.mark) (filter (is_sent note maker made) o.under_way);
      under_way = filter (λ sent. not (is_sent note maker made sent)) o.under_way;
    }

abbrev pub holds : ℕ → Origins → Origins
holds note o = record (rest o) { held = slice_set o.held note (join o.posted (get_or o.held note [])) }

-- a thread takes these origins
abbrev pub takes : ℕ → List Mark → Origins → Origins
takes thread set o = record (rest o) { carried = slice_set o.carried thread (join set (get_or o.carried thread [])) }

abbrev pub gets : ℕ → ℕ → Taking → Origins → Origins
gets thread note taking o =
    record (takes thread (taken taking (get_or o.held note [])) o) { held = slice_set o.held note [] }

-- The round answers these origins, which then are in no set. The thread carries none.
abbrev pub ends : ℕ → List ℕ → Origins → Origins
ends thread answered o =
    record {
      held = map (without answered) o.held;
      carried = map (without answered) (slice_set o.carried thread []);
      under_way = filter (λ sent. not (is_one_of answered sent.mark.origin)) o.under_way;
      posted = [];
      unanswered = filter (λ origin. not (is_one_of answered origin)) o.unanswered;
      answered = answered;
    }

module _ (chain : ChainPart) where
  -- the origins that the end of a round answers
  abbrev pub answers : ℕ → ℕ → Origins → List ℕ
  answers thread word o =
      if thread == chain.thread && is_answer chain.badges word
      then map (λ mark. mark.origin) (at_places (reach chain.badges) (get_or o.carried thread []))
      else []

  -- what a row leaves that moves this
  abbrev pub moved : ℕ → Move → Origins → Origins
  moved moment Nothing o = rest o
  moved moment (Start source badge) o = if source == chain.source then started moment badge o else rest o
  moved moment (Give thread places badge) o = record (rest o) { posted = given places badge (get_or o.carried thread []) }
  moved moment (Send thread places badge note maker made) o = sets_out note maker made (given places badge (get_or o.carried thread [])) o
  moved moment (Land note maker made) o = lands note maker made o
  moved moment (Hold note) o = holds note o
  moved moment (Wake thread taking) o = takes thread (taken taking o.posted) o
  moved moment (Got thread note taking) o = gets thread note taking o
  moved moment (End thread word) o = ends thread (answers thread word o) o
