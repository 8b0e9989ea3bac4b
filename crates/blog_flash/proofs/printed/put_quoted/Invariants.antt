use Rattle.std.proofs.Common.{◌≡◌, ◌≤◌, ◌++◌, vec_capacity}
use Rattle.std.specs.List.{flat_map}
use Rattle.blog_flash.specs.Printed.{between_backticks, quoted}
use Rattle.blog_flash.proofs.printed.put_quoted.Given as goal

-- the parts are left
abbrev pub invariant-loop-part : goal.invariant-loop-part
invariant-loop-part g l = record {
  text : l.out.items ++ flat_map between_backticks l.part-iterator ≡ l.fn.out.items ++ quoted l.fn.name;
  capacity : vec_capacity l.fn.out ≤ vec_capacity l.out;
}
