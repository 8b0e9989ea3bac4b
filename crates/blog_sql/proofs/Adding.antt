-- Texts that are added one after another.
use Rattle.std.proofs.Common.{ℕ, List, [], ◌++◌, Option, sym, ap, ◌∙◌, append-nil, append_assoc}
use Rattle.std.proofs.KnownBytes.{Appends-nil, Appends-trans}
use Rattle.blog_device.specs.Devices.{AppendsBeginning}
use Rattle.blog_sql.specs.code.Adding.{Adds}

-- nothing was added
pub adds-nothing : (had : Option (List ℕ)) (held : List ℕ) → Adds had had held held []
adds-nothing had held = ([], Appends-nil had, sym (append-nil held))

-- a text, and then another
pub adds-more : (had has now : Option (List ℕ)) (a b c s t : List ℕ) → Adds had has a b s → Adds has now b c t → Adds had now a c (s ++ t)
adds-more had has now a b c s t (done, written, all) (more, later, rest) = (
  done ++ more,
  Appends-trans had has now done more written later,
  append_assoc done more c ∙ ap (λ (bytes : List ℕ). done ++ bytes) rest ∙ sym (append_assoc done b t) ∙ ap (λ (bytes : List ℕ). bytes ++ t) all ∙ append_assoc a s t,
)

-- and then a beginning of another
pub adds-broken : (had has now : Option (List ℕ)) (a b s t : List ℕ) → Adds had has a b s → AppendsBeginning has now (b ++ t) → AppendsBeginning had now (a ++ (s ++ t))
adds-broken had has now a b s t (done, written, all) (front, rest, split, later) = (
  done ++ front,
  rest,
  sym (append_assoc a s t) ∙ ap (λ (bytes : List ℕ). bytes ++ t) (sym all) ∙ append_assoc done b t ∙ ap (λ (bytes : List ℕ). done ++ bytes) split ∙ sym (append_assoc done front rest),
  Appends-trans had has now done front written later,
)

-- a beginning of a text is one of a longer text
pub begins-longer : (had has : Option (List ℕ)) (a b : List ℕ) → AppendsBeginning had has a → AppendsBeginning had has (a ++ b)
begins-longer had has a b (front, rest, split, written) =
    (front, rest ++ b, ap (λ (bytes : List ℕ). bytes ++ b) split ∙ append_assoc front rest b, written)
