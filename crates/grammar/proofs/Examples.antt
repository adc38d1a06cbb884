-- The report of the program jr1, what is found wrong with it where a line is another one, and a report by year.
use Rattle.std.proofs.Common.{◌≡◌, ℕ, List, [], ◌∷◌, ◌++◌, map, take, set, Some, None, Ok, Err, codes, Result, refl}
use Rattle.std.specs.List.{flat_map}
use Rattle.columns.specs.Layouts.{month_layout, year_layout}
use Rattle.titles.specs.Titles.{new_entry}
use Rattle.reports.specs.Written.{line_end}
use Rattle.cells.specs.declared.fault.Cause.TheVariants.{WrongText, WrongNumber, WrongSum, WrongCellCount, EndOfFile}
use Rattle.cells.specs.declared.fault.LineFault.{LineFault}
use Rattle.cells.specs.Faults.{new_fault}
use Rattle.grammar.specs.Files.{Reading, read_file}

abbrev lines_of : List (List ℕ) → List ℕ
lines_of = flat_map (λ l. l ++ line_end)

abbrev jr1 : List (List ℕ)
jr1 =
    codes "Journal Report 1(R3),Number of Successful Full-text Article Requests by Month and Journal"
    ∷ codes "Test College"
    ∷ codes "Date run:"
    ∷ codes "2009-03-01"
    ∷ codes ",Publisher,Platform,Print ISSN,Online ISSN,Jan-2009,Feb-2009,YTD Total,YTD HTML,YTD PDF"
    ∷ codes "Total for all journals,,Host,,,3,1,4,2,2"
    ∷ codes "Kiln Annals,Kiln Press,Host,1000-0003,2000-0006,3,0,3,2,1"
    ∷ codes "Lock Letters,Lock Press,Host,3000-0009,,0,1,1,0,1"
    ∷ []

abbrev kiln : Reading
kiln = record {
  head = record { criteria = codes "Test College"; year = 2009; month = 3; day = 1; platform = codes "Host" };
  rows =
      record {
        entry = new_entry (codes "Kiln Annals") (codes "Kiln Press") (Some (record { bytes = codes "1000-0003" })) (Some (record { bytes = codes "2000-0006" }));
        usage = record { columns = 3 ∷ 0 ∷ []; html = 2; pdf = 1 };
      }
      ∷ record {
        entry = new_entry (codes "Lock Letters") (codes "Lock Press") (Some (record { bytes = codes "3000-0009" })) None;
        usage = record { columns = 0 ∷ 1 ∷ []; html = 0; pdf = 1 };
      }
      ∷ [];
}

abbrev read_lines : List (List ℕ) → Result Reading LineFault
read_lines ls = read_file (month_layout 2009 2) (lines_of ls)

read : read_lines jr1 ≡ Ok kiln
read = refl

empty : read_lines [] ≡ Err (new_fault 1 1 EndOfFile)
empty = refl

no_title : read_lines (take 6 jr1) ≡ Err (new_fault 7 1 EndOfFile)
no_title = refl

one_more_line : read_lines (jr1 ++ [] ∷ []) ≡ Err (new_fault 9 1 WrongText)
one_more_line = refl

cut_short : read_file (month_layout 2009 2) (lines_of (take 7 jr1) ++ codes "Lock Letters,Lock Press,Host,3000-0009,,0,1,1,0,1") ≡ Err (new_fault 8 10 EndOfFile)
cut_short = refl

-- another text for a line, which is counted from 0, and the fault that is then found: the title of another report, a further
-- cell, no real day, a missing heading, a leading zero, a publisher that not all share, a wrong total, a wrong year to date
-- by all and by format, another platform, and a wrong check sign
abbrev damages : List (ℕ × List ℕ × LineFault)
damages =
    (0, codes "Journal Report 1 (R3),Number of Successful Full-text Article Requests by Month and Journal", new_fault 1 1 WrongText)
    ∷ (1, codes "Test College,", new_fault 2 2 WrongCellCount)
    ∷ (3, codes "2009-02-29", new_fault 4 1 WrongText)
    ∷ (4, codes ",Publisher,Platform,Print ISSN,Online ISSN,Jan-2009,Feb-2009,YTD Total,YTD HTML", new_fault 5 10 WrongCellCount)
    ∷ (5, codes "Total for all journals,,Host,,,03,1,4,2,2", new_fault 6 6 WrongNumber)
    ∷ (5, codes "Total for all journals,Kiln Press,Host,,,3,1,4,2,2", new_fault 6 2 WrongText)
    ∷ (5, codes "Total for all journals,,Host,,,3,1,5,2,2", new_fault 6 8 WrongSum)
    ∷ (6, codes "Kiln Annals,Kiln Press,Host,1000-0003,2000-0006,3,0,4,2,1", new_fault 7 8 WrongSum)
    ∷ (6, codes "Kiln Annals,Kiln Press,Host,1000-0003,2000-0006,3,0,3,1,1", new_fault 7 10 WrongSum)
    ∷ (7, codes "Lock Letters,Lock Press,Hosts,3000-0009,,0,1,1,0,1", new_fault 8 3 WrongText)
    ∷ (7, codes "Lock Letters,Lock Press,Host,3000-0008,,0,1,1,0,1", new_fault 8 4 WrongText)
    ∷ []

faults_found : map (λ d. read_lines (set jr1 d.0 d.1)) damages ≡ map (λ d. Err d.2) damages
faults_found = refl

-- a report by year: no year to date, and a publisher that all titles share
abbrev yearly : List (List ℕ)
yearly =
    codes "Journal Report 5 (R3),Number of Successful Full-text Article Requests by Year and Journal"
    ∷ codes "Test College"
    ∷ codes "Date run:"
    ∷ codes "2010-01-31"
    ∷ codes ",Publisher,Platform,Print ISSN,Online ISSN,YOP-2009,YOP-2008,YOP-2007,YOP-2006,YOP-2005,YOP Pre-2005"
    ∷ codes "Total for all journals,Kiln Press,Host,,,1,0,2,0,0,3"
    ∷ codes "Kiln Annals,Kiln Press,Host,,2000-0006,1,0,2,0,0,3"
    ∷ []

abbrev kiln_by_year : Reading
kiln_by_year = record {
  head = record { criteria = codes "Test College"; year = 2010; month = 1; day = 31; platform = codes "Host" };
  rows =
      record {
        entry = new_entry (codes "Kiln Annals") (codes "Kiln Press") None (Some (record { bytes = codes "2000-0006" }));
        usage = record { columns = 1 ∷ 0 ∷ 2 ∷ 0 ∷ 0 ∷ 3 ∷ []; html = 0; pdf = 0 };
      }
      ∷ [];
}

read_by_year : read_file (year_layout 2009 2005) (lines_of yearly) ≡ Ok kiln_by_year
read_by_year = refl
