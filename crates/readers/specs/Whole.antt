-- What a text says in a format: its statement, or the refusal with the offset of its line.
use Rattle.std.specs.Prelude.{◌≡◌, ℕ, Bool, cond, List, length, Ok, Err, Option, Result, nat_le}
use Rattle.domain.specs.declared.entry.Entry.{Entry}
use Rattle.domain.specs.declared.refusal.Refusal.{Refusal}
use Rattle.domain.specs.declared.refusal.Refusal.TheVariants.{TooMuch}
use Rattle.domain.specs.declared.refusal.Refused.{Refused}
use Rattle.domain.specs.Refusing.{refused_at}
use Rattle.source.specs.declared.Head.{Head}
use Rattle.source.specs.Statement.{Statement, Lawful}
use Rattle.text.specs.Left.{lines_left}
use Rattle.text.specs.Scanning.{scan_from}
use Rattle.domain.specs.declared.account.Account.{Account}
use Rattle.readers.specs.declared.passage.TheConstants.{LONGEST}
use Rattle.readers.specs.declared.Reader.{Reader}
use Rattle.domain.specs.Accounts.{and_then, account_of}
use Rattle.readers.specs.Entries.{entries_of, entries_in}
use Rattle.readers.specs.Within.{Within}

-- what is looked at before the lines: digits, currency and length
abbrev pub admitted_of : List ℕ → List ℕ → ℕ → Result Account Refusal
admitted_of text code digits = and_then (account_of code digits) (λ account. cond (nat_le (length text) 1048576) (Ok account) (Err TooMuch))

-- the statement of a head and the entries behind it
abbrev pub statement_of : Head → List Entry → Statement
statement_of h es = record { number = h.number; opening_day = h.opening_day; closing_day = h.closing_day; reached = h.reached; remaining = es; closing = h.closing }

-- what is refused before the lines stands at offset 0
abbrev pub at_zero : {X Y : Type 0} → Result X Refusal → (X → Result Y Refused) → Result Y Refused
at_zero (Ok x) next = next x
at_zero (Err why) next = Err (refused_at why 0)

-- a format, by what its trait says
module _ {S : Type 0} (begun : Account → S) (stepped : S → List ℕ → Result S Refusal) (complete : S → Bool) (said : S → Head) (stated : Account → ℕ × List ℕ → List (ℕ × List ℕ) → Option Entry) where
  -- the statement that a text makes in an account with this currency and these digits, or the refusal and the offset of its line
  unfoldable pub read_of : List ℕ → List ℕ → ℕ → Result Statement Refused
  read_of text code digits =
      at_zero (admitted_of text code digits) (λ account.
      and_then (scan_from stepped complete text 0 (begun account)) (λ end.
      Ok (statement_of (said end) (entries_in (stated account) text))))

-- what a reader means: what its text's lines say, and the entries in the lines that it has left
unfoldable pub meaning_of : {F : Type 0} → (Account → ℕ × List ℕ → List (ℕ × List ℕ) → Option Entry) → Reader F → Statement
meaning_of stated r = statement_of r.head (entries_of (stated r.account) (lines_left r.lines))

-- what is promised of a reader when it is made, and kept: lines in a text short enough, a right count and the law of sources
pub record Ready {F : Type 0} (stated : Account → ℕ × List ℕ → List (ℕ × List ℕ) → Option Entry) (r : Reader F) : Type 0 where
  pub short : Within LONGEST (lines_left r.lines)
  pub counted : r.head.count ≡ length (meaning_of stated r).remaining
  pub lawful : Lawful (meaning_of stated r)

-- a reader that means just what the text says, or just the refusal
abbrev pub Made : {F : Type 0} → Result Statement Refused → (Account → ℕ × List ℕ → List (ℕ × List ℕ) → Option Entry) → Result (Reader F) Refused → Type 0
Made read stated (Ok r) = (read ≡ Ok (meaning_of stated r)) × Ready stated r
Made read stated (Err e) = read ≡ Err e
