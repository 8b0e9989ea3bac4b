-- One of the tables, or the database.
use Rattle.blog_choice.proofs.About.{named-chosen}
use Rattle.blog_choice.proofs.laws.statements_about_chosen_tables_name_them.Goals as goal

pub returns : goal.returns
returns c = record { named = named-chosen }
