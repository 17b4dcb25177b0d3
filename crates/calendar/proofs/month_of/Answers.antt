use Rattle.std.proofs.Common.{◌≡◌, ◌-◌, true, false, leb, ap, ◌∙◌, rules, arith}
use Rattle.std.specs.List.Sorted.{IsPartitionPoint}
use Rattle.std.proofs.lemmas.List.Sorted.{IsPartitionPoint-from_clause}
use Rattle.calendar.proofs.Months.{Firsts, Lies, parted, some_begun, last_begun, month_is}
use Rattle.calendar.specs.Calendar.{month_of}
use Rattle.calendar.proofs.month_of.Goals as goal

table : (c : goal.After-partition_point) → Firsts c.first_days.result.now
table c = record { months = c.first_days.ensures.months; each = c.first_days.ensures.each }

point : (c : goal.After-partition_point) → IsPartitionPoint (λ d. leb d c.number-n.result ≡ true) (λ d. leb d c.number-n.result ≡ false) c.first_days.result.now c.partition_point.result
point c = IsPartitionPoint-from_clause (λ d. leb d c.number-n.result) _ _ c.partition_point.ensures.partitioned (parted c.number-n.result _ (table c)) (λ a r q k. search rules)

pub overflow_sub-result : goal.overflow_sub-result
overflow_sub-result c = some_begun c.number-n.result _ _ (table c) (point c)

lies : (c : goal.After-partition_point) → Lies c.number-n.result (c.partition_point.result - 1)
lies c = let s = some_begun c.number-n.result _ _ (table c) (point c) in last_begun c.number-n.result _ _ _ (omega (arith, c.number-n.ensures, c.args.day.within)) (table c) c.partition_point.ensures.bound (point c) (omega arith)

pub returns : goal.returns
returns c =
    let l = lies c in
    let n = c.number-n.ensures in
    record {
      is = month_is c.number-n.result _ l ∙ ap month_of n;
      within = l.within;
      from = omega (arith, n, l.from);
      before = omega (arith, n, l.before);
    }
