use Rattle.std.proofs.Common.{◌≡◌, ◌++◌, List, ℕ, Result, Ok, Err, Bool, true, IfOk, Option, option_map}
use Rattle.blog_json.specs.Documents.{comma, front_text}
use Rattle.blog_json.specs.Texts.{Gains}
use Rattle.blog_json.proofs.Valued.{gains_behind}
use Rattle.blog_json.proofs.documents.put_front.Goals as goal

-- a key behind a comma, where there is one
behind_comma : {E : Type 0} (r : Result Bool E) (front old mid new : List ℕ) (key : Option (List ℕ)) → mid ≡ old ++ front → IfOk r (λ is. is ≡ true → Gains key mid new) → IfOk r (λ is. is ≡ true → Gains (option_map (λ k. front ++ k) key) old new)
behind_comma (Ok is) front old mid new key comma printed = λ yes. gains_behind front old mid new key comma (printed yes)
behind_comma (Err e) front old mid new key comma printed = tt

pub returns-clause-printed : goal.returns-clause-printed
unfolding front_text
returns-clause-printed g c = behind_comma c.put_key.result (comma c.args.i) c.args.out.now.items c.put_comma.new.out.items c.put_key.new.out.items _ c.in_ok-put_comma.ensures.appended c.put_key.ensures.printed
