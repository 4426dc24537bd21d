use Rattle.std.proofs.Common.{◌≡◌, ◌++◌, drop}
use Rattle.std.specs.Io.{StartsWith}
use Rattle.mcs_text.specs.Text.{core_lines, reports_text, thread_lines}
use Rattle.mcs_text.proofs.report.append_reports.Given as goal

abbrev pub invariant-loop-thread : goal.invariant-loop-thread
invariant-loop-thread l = record {
  rest : l.text.items ++ thread_lines l.system l.thread (drop l.thread l.reports.threads) ≡ l.fn.text.items ++ thread_lines l.system 0 l.reports.threads;
  kept : StartsWith l.text.items l.fn.text.items;
}

abbrev pub invariant-loop-core : goal.invariant-loop-core
invariant-loop-core l = record {
  rest : l.text.items ++ core_lines l.core (drop l.core l.reports.cores) ≡ l.fn.text.items ++ reports_text l.system l.reports;
  kept : StartsWith l.text.items l.fn.text.items;
}
