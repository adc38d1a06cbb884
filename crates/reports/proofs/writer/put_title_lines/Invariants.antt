-- What stands so far are the lines of the titles before this one.
use Rattle.std.proofs.Common.{take}
use Rattle.std.specs.List.{flat_map}
use Rattle.reports.specs.Counting.{lines_of}
use Rattle.reports.specs.Puts.{Put}
use Rattle.reports.specs.Written.{title_line}
use Rattle.reports.proofs.writer.put_title_lines.Given as goal

abbrev pub invariant-loop-index : goal.invariant-loop-index
invariant-loop-index l = Put l.initial.page (flat_map (title_line l.ytd l.platform) (take l.index (lines_of l.table))) l.page
