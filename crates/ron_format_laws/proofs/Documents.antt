-- Whole texts of the same words, and what the grammar's reader functions answer of them.
use Rattle.std.proofs.Common.{◌≡◌, ℕ, zero, suc, Bool, true, false, ◌==◌, List, [], ◌∷◌, ◌++◌, length, Some, None, refl, sym, ap, subst, ◌∙◌, arith, eqb-true}
use Rattle.ron_spec_words.specs.Characters.{Text, comma}
use Rattle.ron_spec_words.specs.Runs.{is_at, is_ended}
use Rattle.ron_spec_words.specs.Gap.{skip, ends_value, is_delimiter}
use Rattle.ron_spec_words.proofs.Gaps.{skip-append}
use Rattle.ron_spec_grammar.specs.Data.{Data, value_of}
use Rattle.ron_spec_grammar.specs.Schema.{Shape, any_value}
use Rattle.ron_spec_grammar.specs.Rule.{Extensions}
use Rattle.ron_spec_grammar.specs.Attribute.{Attribute, Head, BehindGap, in_force}
use Rattle.ron_spec_grammar.specs.Document.{BodyAt}
use Rattle.ron_spec_grammar.proofs.Levels.{read_fit}
use Rattle.ron_spec_grammar.proofs.Document as document
use Rattle.ron_spec_grammar.proofs.Values.Body as value_body
use Rattle.ron_format_words.specs.Alike.{a_mark, Before, Gapped, SameWords}
use Rattle.ron_format_laws.specs.Claims.{IsRawless, ReadsValues, KeepsDocuments, KeepsValueDocuments, KeepsWholeTexts, ReadsDocuments, ReadsValueDocuments}
use Rattle.ron_format_laws.proofs.Bodies.{keeps_values, body_kept}
use Rattle.ron_format_laws.proofs.Crossing.{shorter, words_of}
use Rattle.ron_format_laws.proofs.Heads.{Far, head_moves}

-- ---- the head, and the body behind it

-- an attribute is not empty
attribute_some : (t next : Text) (e : Extensions) → Attribute t next e → is_ended t ≡ false
attribute_some t next e z = rw (z.split, z.first.0) refl

head_ended : (es : List Extensions) (t next u v : Text) → Head es t next → Head es u v → is_ended t ≡ is_ended u
head_ended [] t next u v z y = rw (z, y) refl
head_ended (e ∷ es) t next u v z y = full z ∙ sym (full y)
  where
    front_some : (g a r : Text) → is_ended a ≡ false → is_ended (g ++ (a ++ r)) ≡ false
    front_some [] [] r k = absurd (cc)
    front_some [] (c ∷ a) r k = refl
    front_some (c ∷ g) a r k = refl

    full : {w x : Text} → BehindGap e (Head es) w x → is_ended w ≡ false
    full p = ap is_ended p.split ∙ front_some p.gap p.attribute p.rest (attribute_some p.attribute _ e p.spelled)

no_comma_first : (s : Text) → ends_value s ≡ false → is_at comma s ≡ false
no_comma_first [] e = refl
no_comma_first (c ∷ s) e = go (c == comma) refl
  where
    go : (b : Bool) → (c == comma) ≡ b → b ≡ false
    go false k = refl
    go true k = absurd (let same = eqb-true c comma k in let d : is_delimiter comma ≡ false = subst (λ n. is_delimiter n ≡ false) same e in cc)

-- a body begins with no comma
body_far : (at_start : Bool) (x : Extensions) (schema : List Shape) (root limit : ℕ) (body : Text) (d : Data) → BodyAt at_start x schema root limit body d
    → Far (length (skip body)) body
body_far at_start x schema root limit body d z =
    let at : skip body ≡ z.value ++ z.after = ap skip z.split ∙ skip-append z.before (z.value ++ z.after) z.is_before in
    let solid = ((read_fit at_start x schema limit limit (omega arith)).opens root z.before).holds z.value z.after d z.spelled in
    (omega arith, ap (is_at comma) at ∙ no_comma_first (z.value ++ z.after) solid.0)

as_mark : {b : Before} {s u rest other : Text} → Gapped b s u rest other → Gapped a_mark s u rest other
as_mark g = record { gap = g.gap; instead = g.instead; split = g.split; splits = g.splits; is_gap = g.is_gap; is_other = g.is_other; may = refl }

-- ---- whole texts

pub keeps_documents : KeepsDocuments
keeps_documents x schema root limit s u d rawless k z =
    let n : ℕ = length (skip z.body) in
    let w = words_of s u z.announced z.head z.body z.split z.is_head k in
    let far = body_far (is_ended z.head) (in_force x z.announced) schema root limit z.body d z.is_body in
    let h =
    head_moves n z.announced z.head z.body z.is_head far a_mark u w.rest w.other (subst (λ y. Gapped a_mark y u w.rest w.other) z.split w.gapped) w.alike in
    let words : SameWords (shorter n) z.body h.behind = record { rest = h.rest; other = h.other; gapped = as_mark h.gapped; alike = h.alike } in
    let same : is_ended z.head ≡ is_ended h.stretch = head_ended z.announced z.head z.body h.stretch h.behind z.is_head h.spelled in
    let kept = body_kept (is_ended z.head) (in_force x z.announced) schema root limit z.body h.behind d rawless words z.is_body in
    record {
      announced = z.announced;
      head = h.stretch;
      body = h.behind;
      split = h.split;
      is_head = h.spelled;
      is_body = subst (λ b. BodyAt b (in_force x z.announced) schema root limit h.behind d) same kept;
    }

-- the schema of any value has no raw shape
value_rawless : IsRawless (any_value ∷ [])
value_rawless zero e = cc
value_rawless (suc i) e = cc

pub keeps_value_documents : KeepsValueDocuments
keeps_value_documents x limit s u t k z = keeps_documents x (any_value ∷ []) 0 limit s u (value_of t) value_rawless k z

pub keeps_whole_texts : KeepsWholeTexts
keeps_whole_texts x schema root (Some limit) s u d rawless k z =
    let kept = keeps_documents x schema root limit s u d rawless k z in
    record { within = kept; only = λ other room y. document.unique x schema root room limit u other d y kept }
keeps_whole_texts x schema root None s u d rawless k z =
    let kept = keeps_documents x schema root z.0 s u d rawless k z.1 in
    record { within = (z.0, kept); only = λ other room y. document.unique x schema root room z.0 u other d y kept }

-- ---- what is read

pub reads_documents : ReadsDocuments
reads_documents x schema root limit s u d rawless k e =
    document.complete x schema root limit u d (keeps_documents x schema root limit s u d rawless k (document.sound x schema root limit s d e))

pub reads_value_documents : ReadsValueDocuments
reads_value_documents x limit s u t k e = reads_documents x (any_value ∷ []) 0 limit s u (value_of t) value_rawless k e

pub reads_values : ReadsValues
reads_values unwrap limit s u t k e = value_body.complete unwrap limit u t (keeps_values unwrap limit s u t k (value_body.sound unwrap limit s t e))
