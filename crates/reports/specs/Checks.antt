-- What is judged before the buffer is looked at.
use Rattle.std.specs.Prelude.{◌≡◌, ◌++◌, IfOk, Result}
use Rattle.std.specs.Result.{result_err}
use Rattle.reports.specs.declared.counted.Counted.{Counted}
use Rattle.reports.specs.declared.refusal.WriteRefusal.{WriteRefusal}
use Rattle.reports.specs.Answers.{Subject, columns_of, first_ground, head_grounds, report_about, table_grounds}
use Rattle.reports.specs.Counting.{lines_of}

-- the count table of the subject with its totals, unless there is a ground to refuse the report
pub record Checked (s : Subject) (r : Result Counted WriteRefusal) : Type 0 where
  pub refused : result_err r ≡ first_ground (head_grounds s.head ++ table_grounds s)
  pub columns : IfOk r (λ c. c.table.columns ≡ columns_of s)
  pub lines : IfOk r (λ c. lines_of c.table ≡ (report_about s).lines)
