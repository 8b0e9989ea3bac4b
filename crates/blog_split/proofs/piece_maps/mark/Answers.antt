use Rattle.std.proofs.Common.{◌<◌, vec_len, vec_capacity, rules, arith}
use Rattle.std.proofs.lemmas.Option.{slice_get_within}
use Rattle.blog_split.proofs.Flags.{fewer-than-flags, flags-set}
use Rattle.blog_split.proofs.piece_maps.mark.Goals as goal

pub unwrap-requires : goal.unwrap-requires
unwrap-requires g c =
    let unset = rw c.in-Some.is at c.requires.new in
    let room : vec_len c.args.used.now < vec_capacity c.args.used.now = omega (arith, fewer-than-flags c.args.used.now.items c.args.flags.now c.in-Some.number c.requires.flags unset, c.requires.room) in
    search rules

pub bounds-flags-number : goal.bounds-flags-number
bounds-flags-number g c = let unset = rw c.in-Some.is at c.requires.new in slice_get_within _ _ _ unset

pub returns-in-Some-clause-flags : goal.returns-in-Some-clause-flags
returns-in-Some-clause-flags g c =
    let unset = rw c.in-Some.is at c.requires.new in
    rw (rw c.unwrap.ensures at c.push.ensures.items) (flags-set c.args.used.now.items c.args.flags.now c.in-Some.number c.requires.flags unset)
