use Rattle.std.proofs.Common.{◌++◌, map, reverse, ap, ◌∙◌}
use Rattle.blog_flash.specs.States.{inverse}
use Rattle.blog_flash.proofs.Reversing.{turned-append}
use Rattle.blog_merged.specs.Nets.{nets_of}
use Rattle.blog_merged.proofs.Nets.{inverse_nets}
use Rattle.blog_merged.proofs.laws.undo_of_a_merge_updates_rows_last.Goals as goal

pub returns : goal.returns
returns c = λ ps cs. turned-append inverse (nets_of ps) cs ∙ ap (λ us. reverse (map inverse cs) ++ reverse us) (inverse_nets ps)
