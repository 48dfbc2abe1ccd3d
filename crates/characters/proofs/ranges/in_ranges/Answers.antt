use Rattle.std.proofs.Common.{rules}
use Rattle.std.proofs.lemmas.List.Sorted.{IsPartitionPoint-from_clause}
use Rattle.characters.proofs.Search.{ends_before, parted, reached_inside, reached_end}
use Rattle.characters.proofs.ranges.in_ranges.Goals as goal

pub returns-then-reached-ranges : goal.returns-then-reached-ranges
returns-then-reached-ranges c = λ o.
    let point = IsPartitionPoint-from_clause (ends_before c.args.c) _ _ c.partition_point-reached.ensures.partitioned (parted 0 _ _ o) (λ a r f k. search rules) in
    reached_inside _ _ _ o point c.if-reached-ranges.true

pub returns-else-reached-ranges : goal.returns-else-reached-ranges
returns-else-reached-ranges c = λ o.
    let point = IsPartitionPoint-from_clause (ends_before c.args.c) _ _ c.partition_point-reached.ensures.partitioned (parted 0 _ _ o) (λ a r f k. search rules) in
    reached_end _ _ _ o point c.if-reached-ranges.false
