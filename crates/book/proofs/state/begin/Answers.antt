use Rattle.std.proofs.Common.{pos, refl, ap₂}
use Rattle.domain.specs.declared.amount.Amount.{Amount}
use Rattle.domain.specs.declared.currency.Currency.{Currency}
use Rattle.domain.specs.declared.day.Day.{Day}
use Rattle.domain.proofs.Same.{day_same, amount_same}
use Rattle.book.specs.declared.state.Stage.TheVariants.{Start}
use Rattle.book.specs.declared.state.State.{State}
use Rattle.book.proofs.state.begin.Goals as goal

abbrev at : Currency → Day → Amount → State
at own d a = record { currency = own; stage = Start; number = 0; opening = record { day = d; amount = a }; sum = pos 0; count = 0; closing = record { day = d; amount = a } }

pub returns : goal.returns
returns c = ap₂ (at c.args.currency) (day_same _ _ refl) (amount_same _ _ refl)
