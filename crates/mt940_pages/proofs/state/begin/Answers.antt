use Rattle.std.proofs.Common.{◌≡◌, pos, refl}
use Rattle.domain.specs.declared.account.Account.{Account}
use Rattle.domain.specs.declared.amount.Amount.{Amount}
use Rattle.domain.specs.declared.day.Day.{Day}
use Rattle.domain.specs.Blanks.{day_zero, zero_amount}
use Rattle.domain.proofs.Same.{day_same, amount_same}
use Rattle.mt940_cuts.specs.declared.tag.Page.TheVariants.{First}
use Rattle.mt940_pages.specs.declared.stage.Stage.TheVariants.{Start}
use Rattle.mt940_pages.specs.declared.state.State.{State}
use Rattle.mt940_pages.specs.Judging.{begin}
use Rattle.mt940_pages.proofs.state.begin.Goals as goal

abbrev first : Account → Day → Amount → State
first account d a = record { account = account; stage = Start First; at = record { number = 1; page = 0 }; opening = record { day = d; amount = a }; closing = record { day = d; amount = a }; moved = pos 0; count = 0 }

same : (account : Account) (d : Day) (a : Amount) → d ≡ day_zero → a ≡ zero_amount → first account d a ≡ begin account
same account d a p x = cc

pub returns-clause-is : goal.returns-clause-is
returns-clause-is c = same c.args.account _ _ (day_same _ _ refl) (amount_same _ _ refl)
