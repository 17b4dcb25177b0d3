use Rattle.std.proofs.Common.{◌∙◌}
use Rattle.readers.proofs.Moves.{none_first, none_moves, entry_first, entry_some, entry_adds, entry_moves, entry_ready}
use Rattle.readers.proofs.ReaderSource.next.Goals as goal

pub returns-in_err-entry : goal.returns-in_err-entry
returns-in_err-entry g c =
    let stated = g.F.Format.stated in
    let r = c.args.self.now in
    let none = c.in_err-entry.ensures.none.1 in
    record {
      again = c.requires;
      first = c.from_residual.ensures ∙ none_first stated r none;
      moves = none_moves stated r none;
    }

pub overflow_add-self : goal.overflow_add-self
overflow_add-self g c =
    let w = c.in_ok-entry.ensures in
    entry_adds g.F.Format.stated c.args.self.now c.requires c.in_ok-entry.field-0.behind w.again _ w.is.0 _ c.minor.ensures

pub overflow_sub-self : goal.overflow_sub-self
overflow_sub-self g c =
    let w = c.in_ok-entry.ensures in
    entry_some g.F.Format.stated c.args.self.now c.requires c.in_ok-entry.field-0.behind w.again _ w.is.0 _ c.minor.ensures

pub returns : goal.returns
returns g c =
    let stated = g.F.Format.stated in
    let r = c.args.self.now in
    let behind = c.in_ok-entry.field-0.behind in
    let w = c.in_ok-entry.ensures in
    record {
      again = entry_ready stated r c.requires behind w.again _ w.is.0 _ c.minor.ensures;
      first = entry_first stated r c.requires behind w.again _ w.is.0 _ c.minor.ensures;
      moves = entry_moves stated r c.requires behind w.again _ w.is.0 _ c.minor.ensures;
    }
