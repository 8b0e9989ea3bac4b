use Rattle.std.proofs.Common.{ap, ◌∙◌}
use Rattle.blog_followed.specs.code.KeptView.{bodies_of, changes_told}
use Rattle.blog_followed.proofs.Numbered.{numbered-more, numbered-put, told-push}
use Rattle.blog_followed.proofs.kept.KeptChanges.keep.Goals as goal

pub invariant_of-self : goal.invariant_of-self
invariant_of-self g c = record {
  numbered = numbered-more (bodies_of c.args.self.now.maps.items) (bodies_of c.hold_map.new.maps.items) c.args.self.now.changes.items c.hold_map.ensures.more c.args.self.now.numbered;
}

pub invariant_of-self-2 : goal.invariant_of-self-2
invariant_of-self-2 g c =
    let old = bodies_of c.args.self.now.maps.items in
    let all = bodies_of c.hold_map.new.maps.items in
    let cs = c.args.self.now.changes.items in
    record { numbered = numbered-put all cs c.push.new.self.items _ _ c.push.ensures.items (numbered-more old all cs c.hold_map.ensures.more c.args.self.now.numbered) c.in_ok-map.ensures.number.0 }

pub returns : goal.returns
returns g c =
    let all = bodies_of c.hold_map.new.maps.items in
    ap (changes_told all) c.in_ok-push.ensures.items
    ∙ told-push (bodies_of c.args.self.now.maps.items) all c.args.self.now.changes.items _ c.args.body.now c.args.before.now _ c.hold_map.ensures.more c.args.self.now.numbered
    c.in_ok-map.ensures.number.1 c.in_ok-before.ensures c.in_ok-after.ensures
