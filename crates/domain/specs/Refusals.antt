-- The number that each refusal answers.
use Rattle.std.specs.Prelude.{ℕ}
use Rattle.domain.specs.declared.refusal.Refusal.{Refusal}
use Rattle.domain.specs.declared.refusal.Refusal.TheVariants.{Form, Misplaced, NoSuchDay, BadAmount, BadCurrency, BadNumber, Unbalanced, WrongCount, TooMuch, EndsEarly, BadTable, NumberRepeated, WrongOpening, DayBefore, NoRoom, PostingUnbalanced, BadList, NoSuchItem, NotOutstanding, SumsDiffer, NoSuchSet, NoSuchGroup, OutputShort}

abbrev pub number_of : Refusal → ℕ
number_of Form = 1
number_of Misplaced = 2
number_of NoSuchDay = 3
number_of BadAmount = 4
number_of BadCurrency = 5
number_of BadNumber = 6
number_of Unbalanced = 7
number_of WrongCount = 9
number_of TooMuch = 11
number_of EndsEarly = 12
number_of BadTable = 20
number_of NumberRepeated = 21
number_of WrongOpening = 22
number_of DayBefore = 23
number_of NoRoom = 24
number_of PostingUnbalanced = 25
number_of BadList = 26
number_of NoSuchItem = 27
number_of NotOutstanding = 28
number_of SumsDiffer = 29
number_of NoSuchSet = 30
number_of NoSuchGroup = 31
number_of OutputShort = 32
