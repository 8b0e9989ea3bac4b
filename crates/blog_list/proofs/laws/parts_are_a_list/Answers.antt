use Rattle.std.proofs.Common.{ℕ, Bool, List, [], ◌∷◌, ◌++◌, refl, sym, ap, ◌∙◌, append_assoc, append-nil}
use Rattle.jiff.specs.Types.{TimeZone}
use Rattle.blog_list.specs.declared.listing.Form.{Form}
use Rattle.blog_list.specs.Lines.{LogList}
use Rattle.blog_list.specs.Texts.{AreLogTexts, IsLogText, header_of, totals_of}
use Rattle.blog_list.proofs.laws.parts_are_a_list.Goals as goal

one-more : (form : Form) (zone : TimeZone) (gtids : Bool) (width : ℕ) (ls : List LogList) (l : LogList) (texts text : List ℕ) → AreLogTexts form zone gtids width ls texts → IsLogText form zone gtids width l text
    → AreLogTexts form zone gtids width (ls ++ l ∷ []) (texts ++ text)
one-more form zone gtids width [] l texts text none is = (text, [], is, refl, ap (λ (bytes : List ℕ). bytes ++ text) none ∙ sym (append-nil text))
one-more form zone gtids width (x ∷ xs) l texts text (first, rest, one, others, split) is =
    (first, rest ++ text, one, one-more form zone gtids width xs l rest text others is, ap (λ (bytes : List ℕ). bytes ++ text) split ∙ append_assoc first rest text)

pub returns-clause-more : goal.returns-clause-more
returns-clause-more c form zone gtids width ls l texts text are is = one-more form zone gtids width ls l texts text are is

pub returns-clause-whole : goal.returns-clause-whole
returns-clause-whole c form zone gtids heading ls texts is are =
    (header_of form gtids heading ++ texts, (heading, texts, is, are, refl), sym (append_assoc (header_of form gtids heading) texts (totals_of form ls)))
