-- The tags that lines begin with.
use Rattle.std.specs.Prelude.{ℕ, Bool, false, cond, ◌||◌, List, Some, None, codes, Option, ◌==◌, nat_eq}
use Rattle.domain.specs.References.{same_bytes}
use Rattle.mt940_cuts.specs.Slices.{starts_with}
use Rattle.mt940_cuts.specs.declared.tag.Tag.{Tag}
use Rattle.mt940_cuts.specs.declared.tag.Tag.TheVariants.{Reference, Related, Account, Number, Opening, Entry, Closing, Note, Hyphen, Further}
use Rattle.mt940_cuts.specs.declared.tag.Page.TheVariants.{First, Later}
use Rattle.mt940_cuts.specs.declared.tag.End.TheVariants.{Last, Middle}

-- a line with none of the tags: one hyphen, or a further line, which starts with neither colon nor hyphen
unfoldable pub plain_tag : List ℕ → Option Tag
plain_tag line = cond (same_bytes line (codes "-")) (Some Hyphen) (cond (starts_with line (codes ":") || starts_with line (codes "-")) None (Some Further))

unfoldable pub tag_of : List ℕ → Option Tag
tag_of line =
    cond (starts_with line (codes ":20:")) (Some Reference)
    (cond (starts_with line (codes ":21:")) (Some Related)
    (cond (starts_with line (codes ":25:")) (Some Account)
    (cond (starts_with line (codes ":28C:")) (Some Number)
    (cond (starts_with line (codes ":60F:")) (Some (Opening First))
    (cond (starts_with line (codes ":60M:")) (Some (Opening Later))
    (cond (starts_with line (codes ":61:")) (Some Entry)
    (cond (starts_with line (codes ":62F:")) (Some (Closing Last))
    (cond (starts_with line (codes ":62M:")) (Some (Closing Middle))
    (cond (starts_with line (codes ":86:")) (Some Note)
    (plain_tag line))))))))))

-- the tag of a code that stands between colons
unfoldable pub coded : List ℕ → Option Tag
coded code =
    cond (same_bytes code (codes "20")) (Some Reference)
    (cond (same_bytes code (codes "21")) (Some Related)
    (cond (same_bytes code (codes "25")) (Some Account)
    (cond (same_bytes code (codes "28C")) (Some Number)
    (cond (same_bytes code (codes "60F")) (Some (Opening First))
    (cond (same_bytes code (codes "60M")) (Some (Opening Later))
    (cond (same_bytes code (codes "61")) (Some Entry)
    (cond (same_bytes code (codes "62F")) (Some (Closing Last))
    (cond (same_bytes code (codes "62M")) (Some (Closing Middle))
    (cond (same_bytes code (codes "86")) (Some Note)
    None)))))))))

-- the bytes that the tag itself has
abbrev pub width_of : Tag → ℕ
width_of Reference = 4
width_of Related = 4
width_of Account = 4
width_of Number = 5
width_of (Opening First) = 5
width_of (Opening Later) = 5
width_of Entry = 4
width_of (Closing Last) = 5
width_of (Closing Middle) = 5
width_of Note = 4
width_of Hyphen = 1
width_of Further = 0

-- each tag has a number of its own, by which tags are compared
abbrev pub code : Tag → ℕ
code Reference = 0
code Related = 1
code Account = 2
code Number = 3
code (Opening First) = 4
code (Opening Later) = 5
code Entry = 6
code (Closing Last) = 7
code (Closing Middle) = 8
code Note = 9
code Hyphen = 10
code Further = 11

-- a line that is a :61:
abbrev pub is_entry_line : List ℕ → Bool
is_entry_line line = elim (tag_of line) [ None ↦ false | Some t ↦ nat_eq (code t) (code Entry) ]

-- a line that goes on with the entry before it
abbrev pub is_continuing : List ℕ → Bool
is_continuing line = elim (tag_of line) [ None ↦ false | Some t ↦ (code t == code Note) || nat_eq (code t) (code Further) ]
