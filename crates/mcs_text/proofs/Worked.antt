-- Lines of rows, evaluated.
use Rattle.std.proofs.Common.{◌≡◌, ℕ, refl, codes, [], ◌∷◌, Some, None}
use Rattle.mcs_script.specs.declared.item.Item.TheVariants.{Compute, Wait, Enter, Leave}
use Rattle.mcs_ticks.specs.declared.row.What.{What}
use Rattle.mcs_ticks.specs.declared.row.What.TheVariants as row
use Rattle.mcs_ticks.specs.declared.row.Why.TheVariants as why
use Rattle.mcs_control.specs.declared.config.Mode.TheVariants as mode
use Rattle.mcs_system.specs.System.{System}
use Rattle.std.specs.Fmt.{digits}
use Rattle.std.specs.Prelude.{fold}
use Rattle.mcs_ticks.specs.declared.row.Row.{Row}
use Rattle.mcs_text.specs.Text.{row_text, schedule_text}
use Rattle.mcs_text.specs.Lines.{Lines, no_lines, with_row, text_at}
use Rattle.mcs_text.specs.Parts.{LinesPart, no_text, with_bytes, next_of, left_of}

one_thread : System
one_thread =
    record {
      cores = 1;
      delay = 1;
      call = 1;
      min_budget = 1;
      contexts = record { name = codes "a"; core = 0; config = record { budget = 2; period = 5; extra = 0 }; mode = mode.Sporadic } ∷ [];
      notes = [];
      threads =
          record { name = codes "A"; context = 0; priority = 5; start = 0; rounds = 1; deadline = 0; script = Compute 5 ∷ [] } ∷ [];
      orders = [];
      links = [];
      servers = 0;
      sources = [];
      beats = [];
      chains = [];
    }

stop_line : row_text one_thread (record { moment = 2; core = 0; what = row.Stop 0 why.Spent 2 (Some 5) }) ≡ codes "2 0 stop A spent 2 until 5\n"
unfolding one_thread digits
stop_line = refl

order_line : row_text one_thread (record { moment = 40; core = 7; what = row.Order 0 }) ≡ codes "40 7 order a\n"
unfolding one_thread digits
order_line = refl

-- a notification, a server, and a source that posts to the notification
one_server : System
one_server =
    record {
      cores = 1;
      delay = 1;
      call = 1;
      min_budget = 1;
      contexts = record { name = codes "a"; core = 0; config = record { budget = 2; period = 5; extra = 0 }; mode = mode.Sporadic } ∷ [];
      notes = record { name = codes "n"; core = 0; word = 0 } ∷ record { name = codes "s"; core = 0; word = 1 } ∷ [];
      threads =
          record { name = codes "A"; context = 0; priority = 5; start = 0; rounds = 1; deadline = 0; script = Wait 0 ∷ Enter 1 9 ∷ Leave 1 5 ∷ [] } ∷ [];
      orders = [];
      links = [];
      servers = 1;
      sources = record { name = codes "k"; note = 0; badge = 6 } ∷ [];
      beats = [];
      chains = [];
    }

abbrev now : What → Row
now what = record { moment = 3; core = 0; what = what }

-- at the notification a thread takes a word, is woken with one, and posts a badge
noted_lines : schedule_text one_server (now (row.Got 0 0 6) ∷ now (row.Wake 0 0 6 None) ∷ now (row.Signal 0 0 6) ∷ [])
    ≡ codes "3 0 got A n 6\n3 0 wake A n 6\n3 0 signal A n 6\n"
unfolding one_server digits
noted_lines = refl

-- at the server it enters, is let in, and leaves; while it is taken, it stops for the call
served_lines : schedule_text one_server (now (row.Got 0 1 1) ∷ now (row.Wake 0 1 1 None) ∷ now (row.Signal 0 1 1) ∷ now (row.Stop 0 why.Call 1 None) ∷ [])
    ≡ codes "3 0 enter A s\n3 0 enter A s\n3 0 leave A s\n3 0 stop A call 1\n"
unfolding one_server digits
served_lines = refl

interrupt_line : row_text one_server (now (row.Interrupt 0 0 6)) ≡ codes "3 0 interrupt k n 6\n"
unfolding one_server digits
interrupt_line = refl

abbrev at : ℕ → Row
at moment = record { moment = moment; core = 0; what = row.Release 0 }

abbrev runs_at : ℕ → Row
runs_at moment = record { moment = moment; core = 0; what = row.Run 0 }

three_lines : Lines
three_lines = fold with_row (no_lines one_thread) (at 0 ∷ runs_at 0 ∷ at 5 ∷ [])

lines_are : three_lines.bytes ≡ codes "0 0 release A\n0 0 run A\n5 0 release A\n"
unfolding three_lines one_thread digits
lines_are = refl

marks_are : three_lines.marks ≡ record { moment = 0; start = 0 } ∷ record { moment = 5; start = 24 } ∷ []
unfolding three_lines one_thread digits
marks_are = refl

first_text : text_at three_lines 0 ≡ codes "0 0 release A\n0 0 run A\n"
unfolding three_lines one_thread digits
first_text = refl

second_text : text_at three_lines 1 ≡ codes "5 0 release A\n"
unfolding three_lines one_thread digits
second_text = refl

-- all of these lines wait, then those of the second moment, and then none
abbrev from_mark : ℕ → LinesPart
from_mark place = record { lines = three_lines; place = place }

first_waits : next_of (from_mark 0) ≡ Some 0
unfolding three_lines one_thread digits
first_waits = refl

second_waits : next_of (from_mark 1) ≡ Some 5
unfolding three_lines one_thread digits
second_waits = refl

none_waits : next_of (from_mark 2) ≡ None
unfolding three_lines one_thread digits
none_waits = refl

one_is_left : left_of (from_mark 1) ≡ 1
unfolding three_lines one_thread digits
one_is_left = refl

-- what is given of the second moment
text_is : (with_bytes (no_text one_thread) (text_at three_lines 1)).bytes ≡ codes "5 0 release A\n"
unfolding three_lines one_thread digits
text_is = refl
