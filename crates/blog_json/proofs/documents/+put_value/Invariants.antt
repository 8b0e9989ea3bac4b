use Rattle.std.proofs.Common.{◌-◌}
use Rattle.blog_json.specs.Containers.{container_seen}
use Rattle.blog_json.specs.Documents.{AreValues, IsText}
use Rattle.blog_json.specs.Texts.{Keeps, added}
use Rattle.blog_json.proofs.documents.+put_value.Given as goal

-- each call has one level less
abbrev pub decreases-put_value : goal.decreases-put_value
decreases-put_value g l = l.depth

-- what was there is still there, and the values so far stand behind the bracket
abbrev pub invariant-values : goal.invariant-values
invariant-values g l = record {
  kept : Keeps l.fn.out.items l.out.items;
  opened : Keeps l.initial.out.items l.out.items;
  values : AreValues (IsText (l.depth - 1)) (container_seen l.container) l.i (added l.initial.out.items l.out.items);
}
