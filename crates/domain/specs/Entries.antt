-- Tests on entries and items.
use Rattle.std.specs.Prelude.{Bool, true, false, ◌&&◌, ℤ, int_le}
use Rattle.domain.specs.declared.entry.Side.{Side}
use Rattle.domain.specs.declared.entry.Side.TheVariants.{Bank, Book}
use Rattle.domain.specs.declared.entry.Kind.{Kind}
use Rattle.domain.specs.declared.entry.Kind.TheVariants.{Ordinary, Reversal}

abbrev pub same_int : ℤ → ℤ → Bool
same_int a b = int_le a b && int_le b a

abbrev pub same_side : Side → Side → Bool
same_side Bank Bank = true
same_side Bank Book = false
same_side Book Bank = false
same_side Book Book = true

abbrev pub is_reversal : Kind → Bool
is_reversal Ordinary = false
is_reversal Reversal = true
