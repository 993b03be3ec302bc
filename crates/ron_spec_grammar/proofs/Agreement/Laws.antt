-- Whole texts: what is read by a schema is what the value read without one becomes. For the law and for `agrees` of `from_str_seed`.
use Rattle.std.proofs.Common.{◌≡◌, ℕ, Bool, length, ◌==◌, false, true, [], ◌∷◌, ◌++◌, sym, ap, subst, ◌∙◌}
use lib.Utf8.{scalars}
use Rattle.ron_spec_words.specs.Characters.{Text}
use Rattle.ron_spec_words.specs.Gap.{skip, gap_of, ends_value}
use Rattle.ron_spec_words.specs.Runs.{is_ended}
use Rattle.ron_spec_words.proofs.Gaps.{skip-append, gap_of-append, skip_to_end}
use Rattle.ron_base.specs.Extensions.{no_extensions}
use Rattle.ron_value.specs.Tree.{Tree}
use Rattle.ron_spec_grammar.specs.Data.{value_of}
use Rattle.ron_spec_grammar.specs.Schema.{any_value}
use Rattle.ron_spec_grammar.specs.Rule.{Extensions}
use Rattle.ron_spec_grammar.specs.Attribute.{in_force}
use Rattle.ron_spec_grammar.specs.Grammar.{SpellsAt}
use Rattle.ron_spec_grammar.specs.Values.Grammar.{AnySpells}
use Rattle.ron_spec_grammar.specs.Document.{BodyAt}
use Rattle.ron_spec_grammar.specs.Values.Body.{ValueBody}
use Rattle.ron_spec_grammar.specs.Agreement.{AgreesWithConversion, DocumentsAgree}
use Rattle.ron_spec_grammar.proofs.Document.{head_of, to_body}
use Rattle.ron_spec_grammar.proofs.Agreement.Levels.{spells_agree}
use Rattle.ron_spec_grammar.proofs.Agreement.Scalars.{scalars_behind}

pub body_agrees : AgreesWithConversion
body_agrees at_start schema root m n text d e t all s a b i =
    let one : a.before ++ (a.value ++ a.after) ≡ b.before ++ (b.value ++ b.after) = sym a.split ∙ b.split in
    let gaps : b.before ≡ a.before =
    sym (gap_of-append b.before (b.value ++ b.after) b.is_before) ∙ ap gap_of (sym one) ∙ gap_of-append a.before (a.value ++ a.after) a.is_before in
    let rests : a.value ++ a.after ≡ b.value ++ b.after =
    sym (skip-append a.before (a.value ++ a.after) a.is_before) ∙ ap skip one ∙ skip-append b.before (b.value ++ b.after) b.is_before in
    ((spells_agree schema all at_start m n root a.before).at a.value a.after b.value b.after d t rests
    (scalars_behind a.before (a.value ++ a.after) (subst (λ v. scalars v ≡ true) a.split s)) a.is_before.longest
    a.spelled (ap ends_value (skip_to_end a.after a.is_after)) (subst (λ g. AnySpells false n false g b.value b.after t) gaps b.spelled)
    (ap ends_value (skip_to_end b.after b.is_after))).1 e i

-- a body of the shape of values is a value's
value_body : (at_start : Bool) (n : ℕ) (text : Text) (t : Tree) → BodyAt at_start no_extensions (any_value ∷ []) 0 n text (value_of t)
    → ValueBody false n text t
unfolding SpellsAt
value_body at_start n text t z = let same : z.spelled.value ≡ t = (let e = z.spelled.meant in cc) in
    record {
      before = z.before;
      value = z.value;
      after = z.after;
      split = z.split;
      is_before = z.is_before;
      spelled = subst (AnySpells false n false z.before z.value z.after) same z.spelled.spelled;
      is_after = z.is_after;
    }

pub document_agrees : DocumentsAgree
document_agrees x schema root m n text d e t all s a none b i =
    let h = head_of x schema root m text d a in
    let other = to_body x (any_value ∷ []) 0 text (in_force x a.announced) a.body h n (value_of t) b in
    body_agrees (is_ended a.head) schema root m n a.body d e t all (scalars_behind a.head a.body (subst (λ v. scalars v ≡ true) a.split s))
    (subst (λ (y : Extensions). BodyAt (is_ended a.head) y schema root m a.body d) none a.is_body)
    (value_body (length a.body == length text) n a.body t
    (subst (λ (y : Extensions). BodyAt (length a.body == length text) y (any_value ∷ []) 0 n a.body (value_of t)) none other)) i
