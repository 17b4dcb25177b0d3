-- The whole job: two texts to a report, or the first refusal.
use Rattle.std.specs.Prelude.{ℕ, cond, List, length, Ok, Err, codes, Result, nat_lt}
use Rattle.domain.specs.declared.entry.Side.TheVariants.{Bank, Book}
use Rattle.domain.specs.declared.refusal.Refusal.{Refusal}
use Rattle.domain.specs.declared.refusal.Refused.{Refused}
use Rattle.domain.specs.Refusing.{refused_at}
use Rattle.domain.specs.declared.refusal.Refusal.TheVariants.{TooMuch}
use Rattle.source.specs.Statement.{Statement}
use Rattle.mt940.specs.Whole as bank
use Rattle.book.specs.Whole as book
use Rattle.report.specs.Outputs.{put}
use Rattle.reconcile.specs.Steps.{reconciled_of}

-- a text has at most 32,768 bytes here; a longer one is refused at offset 0
abbrev pub unless_long : List ℕ → Result Statement Refused → Result Statement Refused
unless_long text r = cond (nat_lt 32768 (length text)) (Err (refused_at TooMuch 0)) r

-- the statements of both texts, in EUR with 2 digits
unfoldable pub bank_of : List ℕ → Result Statement Refused
bank_of text = unless_long text (bank.read_of text (codes "EUR") 2)

unfoldable pub book_of : List ℕ → Result Statement Refused
book_of text = unless_long text (book.read_of text (codes "EUR") 2)

abbrev pub and_also : {X Y : Type 0} → Result X Refused → (X → Result Y Refused) → Result Y Refused
and_also (Ok x) next = next x
and_also (Err e) next = Err e

-- what the ledger refuses has the offset 0
abbrev pub at_zero : {X : Type 0} → Result X Refusal → Result X Refused
at_zero (Ok x) = Ok x
at_zero (Err why) = Err (refused_at why 0)

-- the bank's text is read before the book's, and both before a ledger is opened
unfoldable pub recon_of : List ℕ → List ℕ → ℕ → ℕ → Result (List ℕ) Refused
recon_of bank_text book_text n room =
    and_also (bank_of bank_text) (λ a. and_also (book_of book_text) (λ b. at_zero (reconciled_of Bank Book a b n room)))

-- the length of the report, and the output with the report at its front; where it is refused, the output is as it was
abbrev pub length_in : Result (List ℕ) Refused → Result ℕ Refused
length_in (Ok text) = Ok (length text)
length_in (Err e) = Err e

abbrev pub output_in : Result (List ℕ) Refused → List ℕ → List ℕ
output_in (Ok text) out = put text out
output_in (Err e) out = out
