-- The choice whose names were made ready.
use Rattle.blog_choice.specs.Choice.{Choice}
use Rattle.blog_choice.specs.code.Views.{choice_value}
use Rattle.blog_choice.specs.declared.chosen_names.ChosenNames.{ChosenNames}

abbrev pub names_choice : {A : Type 0} → ChosenNames A → Choice
names_choice names = choice_value names.choice
