-- What two statements come to: a ledger opened for both, each taken, what can be folded folded, what may pair by reference paired, and the report.
use Rattle.std.specs.Prelude.{ℕ, List, length, replicate, ℤ, Ok, Err, codes, Result}
use Rattle.std.specs.Option.{ok_or}
use Rattle.domain.specs.declared.day.Day.{Day}
use Rattle.domain.specs.declared.entry.Item.{Item}
use Rattle.domain.specs.declared.entry.Side.{Side}
use Rattle.domain.specs.declared.refusal.Refusal.{Refusal}
use Rattle.domain.specs.declared.refusal.Refusal.TheVariants.{BadAmount}
use Rattle.domain.specs.Accounts.{and_then}
use Rattle.domain.specs.Blanks.{blank}
use Rattle.domain.specs.Makers.{as_amount}
use Rattle.source.specs.Statement.{Statement}
use Rattle.matching.specs.Folding.{folded}
use Rattle.matching.specs.Matching.{matched}
use Rattle.matching.specs.Rules.{by_reference}
use Rattle.ledger.specs.declared.ledger.Ledger.{Ledger}
use Rattle.ledger.specs.Denials.{answered, table_denied}
use Rattle.ledger.specs.Groupings.{on_live}
use Rattle.ledger.specs.Records.{opened}
use Rattle.ledger.specs.Takings.{take_denied, taken_ledger, laid}
use Rattle.report.specs.Outputs.{put}
use Rattle.report.specs.Reports.{report_denied, report_of}

-- a ledger with its table
pub record Desk : Type 0 where
  pub ledger : Ledger
  pub table : List Item

-- a ledger in EUR with 2 digits, opened at a day with the openings of bank and book, and a table of n blank positions
unfoldable pub opened_at : Day → ℤ → ℤ → ℕ → Result Desk Refusal
opened_at day bank book n =
    and_then (ok_or (as_amount bank) BadAmount) (λ a.
    and_then (ok_or (as_amount book) BadAmount) (λ b.
    and_then (opened (codes "EUR") 2 day a b n) (λ l.
    Ok (record { ledger = l; table = replicate n blank }))))

-- a statement of a side taken
unfoldable pub taken_by : Side → Statement → Desk → Result Desk Refusal
taken_by side s d =
    answered (take_denied d.ledger (length d.table) side s)
    (record { ledger = taken_ledger d.ledger side s; table = laid side d.table d.ledger.used s.remaining })

unfoldable pub folded_by : Desk → Result Desk Refusal
folded_by d = answered (table_denied (length d.table) d.ledger.used) (record { ledger = d.ledger; table = on_live folded d.ledger d.table })

unfoldable pub matched_by : Desk → Result Desk Refusal
matched_by d = answered (table_denied (length d.table) d.ledger.used) (record { ledger = d.ledger; table = on_live (matched by_reference) d.ledger d.table })

-- the report, where it fits into the output
unfoldable pub reported_by : ℕ → Desk → Result (List ℕ) Refusal
reported_by room d = answered (report_denied d.ledger d.table room) (report_of d.ledger d.table)

-- folded, matched and reported
unfoldable pub finished_by : ℕ → Desk → Result (List ℕ) Refusal
finished_by room d = and_then (folded_by d) (λ e. and_then (matched_by e) (reported_by room))

-- both statements, the first of one side and the second of the other, with a table of n positions and so much room for the report
unfoldable pub reconciled_of : Side → Side → Statement → Statement → ℕ → ℕ → Result (List ℕ) Refusal
reconciled_of one other bank book n room =
    and_then (opened_at bank.opening_day bank.reached book.reached n) (λ d.
    and_then (taken_by one bank d) (λ e.
    and_then (taken_by other book e) (finished_by room)))

-- a call's answer with the table that it left
abbrev pub paired : Result Ledger Refusal → List Item → Result Desk Refusal
paired (Ok l) t = Ok (record { ledger = l; table = t })
paired (Err why) t = Err why

-- the length of a report, and an output with the report at its front; where it is refused, the output is as it was
abbrev pub length_of : Result (List ℕ) Refusal → Result ℕ Refusal
length_of (Ok text) = Ok (length text)
length_of (Err why) = Err why

abbrev pub output_of : Result (List ℕ) Refusal → List ℕ → List ℕ
output_of (Ok text) out = put text out
output_of (Err why) out = out
