use Rattle.std.proofs.Common.{ltb, ap, ◌∙◌, ◌<◌, length, arith, rules}
use Rattle.std.proofs.lemmas.List.Sorted.{IsPartitionPoint-from_clause, IsPartitionedBy-ltb}
use Rattle.std.proofs.lemmas.Option.{get_or_from_slice_get}
use Rattle.blog_split.specs.declared.used_maps.MapId.{MapId}
use Rattle.blog_split.proofs.MapIds.{at-some, absent-past, absent-here}
use Rattle.blog_split.proofs.used_maps.number_of.Goals as goal

pub returns-then-at-ids : goal.returns-then-at-ids
returns-then-at-ids c =
    let parted = IsPartitionedBy-ltb (λ e. e.id) _ c.args.id c.requires in
    let point = IsPartitionPoint-from_clause (λ e. ltb e.id c.args.id) _ _ c.partition_point-at.ensures.partitioned parted (λ a r q k. search rules) in
    absent-past c.args.ids.now c.args.id c.partition_point-at.result point.0 (omega (arith, c.if-at-ids.true))

pub returns-then-map-id : goal.returns-then-map-id
returns-then-map-id c =
    let parted = IsPartitionedBy-ltb (λ e. e.id) _ c.args.id c.requires in
    let point = IsPartitionPoint-from_clause (λ e. ltb e.id c.args.id) _ _ c.partition_point-at.ensures.partitioned parted (λ a r q k. search rules) in
    let some : c.partition_point-at.result < length c.args.ids.now = omega (arith, c.partition_point-at.ensures.bound, c.if-at-ids.false) in
    let e = at-some c.args.ids.now c.partition_point-at.result some in
    absent-here c.args.ids.now c.args.id c.partition_point-at.result e.0 c.requires point.0 point.1 some e.1
    (λ same. c.if-map-id.true (ap (λ (x : MapId). x.id) (get_or_from_slice_get c.args.ids.now c.partition_point-at.result e.0 (record { id = 0; number = 0 }) e.1) ∙ same))
