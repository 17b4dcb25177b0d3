-- Balances: C or D, YYMMDD, currency, amount.
use Rattle.std.specs.Prelude.{ℕ, cond, ◌&&◌, List, length, take, drop, Some, None, Ok, Err, codes, Option, Result, ◌==◌}
use Rattle.domain.specs.declared.account.Account.{Account}
use Rattle.domain.specs.declared.balance.Balance.{Balance}
use Rattle.domain.specs.declared.refusal.Refusal.{Refusal}
use Rattle.domain.specs.declared.refusal.Refusal.TheVariants.{NoSuchDay, BadAmount, BadCurrency}
use Rattle.domain.specs.References.{same_bytes}
use Rattle.fields.specs.Runs.{run_length}
use Rattle.calendar.specs.Dates.{day_in}
use Rattle.std.specs.Option.{option_map}
use Rattle.mt940_fields.specs.declared.balance.BalanceParts.{BalanceParts}
use Rattle.mt940_cuts.specs.declared.mark.Mark.{Mark}
use Rattle.mt940_cuts.specs.declared.mark.Mark.TheVariants.{Credit, Debit}
use Rattle.mt940_fields.specs.Signs.{amount_in}
use Rattle.mt940_cuts.specs.Slices.{starts_with, is_date}

abbrev pub sign_of : List ℕ → Option Mark
sign_of body = cond (starts_with body (codes "C")) (Some Credit) (cond (starts_with body (codes "D")) (Some Debit) None)

-- The parts: a mark, the date, the three bytes of the currency or as many as there are, and the amount.
abbrev pub date_in : List ℕ → List ℕ
date_in body = take 6 (drop 1 body)

abbrev pub currency_in : List ℕ → List ℕ
currency_in body = take 3 (drop 7 body)

abbrev pub run_in : List ℕ → List ℕ
run_in body = drop 10 body

-- the mark of a balance that has its form: the date has six digits, and nothing stands behind the run of digits and commas
unfoldable pub balance_mark : List ℕ → Option Mark
balance_mark body = cond (is_date 6 (date_in body) && run_length (run_in body) == length (run_in body)) (sign_of body) None

-- the body of a balance as it is cut
pub record BalanceCut : Type 0 where
  pub mark : Mark
  pub date : List ℕ
  pub currency : List ℕ
  pub run : List ℕ

abbrev pub shown : BalanceParts → BalanceCut
shown p = record { mark = p.mark; date = p.date.now; currency = p.currency.now; run = p.run.now }

abbrev pub cut_with : List ℕ → Mark → BalanceCut
cut_with body mark = record { mark = mark; date = date_in body; currency = currency_in body; run = run_in body }

-- the parts of a balance that has its form
unfoldable pub balance_cut : List ℕ → Option BalanceCut
balance_cut body = option_map (cut_with body) (balance_mark body)

-- a balance that has its form, in this account: its day, its amount and its currency, judged in this order
unfoldable pub balance_of : Account → BalanceCut → Result Balance Refusal
balance_of account p =
    elim (day_in p.date) [
      | None ↦ Err NoSuchDay
      | Some d ↦ elim (amount_in account.digits p.mark p.run) [
        | None ↦ Err BadAmount
        | Some a ↦ cond (same_bytes p.currency account.currency.code) (Ok (record { day = d; amount = a })) (Err BadCurrency)
      ]
    ]
