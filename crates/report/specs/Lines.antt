-- The lines of a report that are still to be given.
use Rattle.std.specs.Prelude.{ℕ, ◌+◌, List, ◌++◌, map}
use Rattle.std.specs.Array.Iter.{array_into_iter_items}
use Rattle.std.specs.Iterator.Adapters.{enumerate_source, enumerate_count}
use Rattle.std.specs.Option.{option_to_list}
use Rattle.std.specs.Slice.Iter.{iter_rest}
use Rattle.report.specs.declared.lines.Rows.{Rows}
use Rattle.report.specs.Outputs.{text_of}
use Rattle.report.specs.Reports.{open_rows}

-- what is left of the lines above the items, then those of the items that are left, by number, then the totals
abbrev pub rows_left : Rows → List (List ℕ)
rows_left r =
    map text_of (array_into_iter_items r.above)
    ++ (open_rows (enumerate_count r.items + 1) (iter_rest (enumerate_source r.items)) ++ map text_of (option_to_list r.total))
