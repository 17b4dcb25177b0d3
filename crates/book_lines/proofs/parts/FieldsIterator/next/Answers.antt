use Rattle.std.proofs.Common.{rules, ◌≡◌, ◌<◌, length, Some, List, ℕ, Option}
use Rattle.std.proofs.lemmas.Grind.{common_steps}
use Rattle.fields.specs.Splits.{split_once}
use Rattle.book_lines.specs.Fields.{fields_of}
use Rattle.book_lines.proofs.Cutting.{fewer_fields}
use Rattle.book_lines.proofs.parts.FieldsIterator.next.Goals as goal

pub returns-clause-goes : goal.returns-clause-goes
returns-clause-goes c =
    let e : ◌≡◌ {A = Option (List ℕ × List ℕ)} (Some (c.in-Some.field.now, c.in-Some.behind.now)) (split_once 44 c.in_ok-rest.rest.now) = search (rules, common_steps) in
    let f : length (fields_of c.in-Some.behind.now) < length (fields_of c.in_ok-rest.rest.now) = fewer_fields c.in_ok-rest.rest.now c.in-Some.field.now c.in-Some.behind.now e in
    search (rules, common_steps)
