-- The order of the lines: the stage that follows a stage by the tag that arrives.
use Rattle.std.specs.Prelude.{ℕ, ◌+◌, cond, Some, None, Option, Result, ◌==◌, nat_lt}
use Rattle.std.specs.Option.{ok_or}
use Rattle.domain.specs.declared.refusal.Refusal.{Refusal}
use Rattle.domain.specs.declared.refusal.Refusal.TheVariants.{Misplaced}
use Rattle.mt940_cuts.specs.declared.tag.Tag.{Tag}
use Rattle.mt940_cuts.specs.declared.tag.Tag.TheVariants.{Reference, Related, Account, Number, Opening, Entry, Closing, Note, Hyphen, Further}
use Rattle.mt940_cuts.specs.declared.tag.Page.TheVariants.{Later}
use Rattle.mt940_cuts.specs.declared.tag.End.TheVariants.{Last, Middle}
use Rattle.mt940_cuts.specs.declared.tag.End.{End}
use Rattle.mt940_cuts.specs.Tags.{code}
use Rattle.mt940_pages.specs.declared.stage.Stage.{Stage}
use Rattle.mt940_pages.specs.declared.stage.Stage.TheVariants.{Start, Named, Tied, Held, Numbered, Body, Item, Noted, Closed, Remark, Done}

-- the stage that the tag x leads to; other tags go on
abbrev pub on : Tag → Tag → Stage → Option Stage → Option Stage
on t x g other = cond (code t == code x) (Some g) other

-- one of at most `most` further lines; other tags go on
abbrev pub on_further : Tag → ℕ → ℕ → (ℕ → Stage) → Option Stage → Option Stage
on_further t more most g other = cond (code t == code Further) (cond (nat_lt more most) (Some (g (more + 1))) None) other

-- an entry, or the closing: of the last page by :62F:, of the others by :62M:
abbrev pub in_body : Tag → Option Stage
in_body t = on t Entry (Item 0) (on t (Closing Last) (Closed Last) (on t (Closing Middle) (Closed Middle) None))

-- behind the last page nothing follows, behind another page the next one
abbrev pub ended : End → Stage
ended Last = Done
ended Middle = Start Later

-- A page is :20:, perhaps :21:, :25:, :28C:, an opening, any number of :61: each perhaps with :86:, a closing, perhaps :86:, and a hyphen.
-- A :61: may have one further line, an :86: five. The first page alone opens by :60F:, the others by :60M:.
abbrev pub next_stage : Stage → Tag → Option Stage
next_stage (Start page) t = on t Reference (Named page) None
next_stage (Named page) t = on t Related (Tied page) (on t Account (Held page) None)
next_stage (Tied page) t = on t Account (Held page) None
next_stage (Held page) t = on t Number (Numbered page) None
next_stage (Numbered page) t = on t (Opening page) Body None
next_stage Body t = in_body t
next_stage (Item more) t = on_further t more 1 Item (on t Note (Noted 0) (in_body t))
next_stage (Noted more) t = on_further t more 5 Noted (in_body t)
next_stage (Closed end) t = on t Note (Remark end 0) (on t Hyphen (ended end) None)
next_stage (Remark end more) t = on_further t more 5 (Remark end) (on t Hyphen (ended end) None)
next_stage Done t = None

-- the same, refused where the tag is not permitted
unfoldable pub placed : Stage → Tag → Result Stage Refusal
placed g t = ok_or (next_stage g t) Misplaced
