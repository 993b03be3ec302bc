-- Whole texts are read back, and what may follow a layout: for the law, and for the clauses of `ron`.
use Rattle.std.proofs.Common.{◌≡◌, ℕ, Bool, true, false, ◌||◌, List, ◌⊎◌, [], ◌∷◌, ◌++◌, inl, inr, refl, sym, ap, subst, ◌∙◌, length, length-append, append-nil}
use Rattle.std.proofs.Common.{arith}
use Rattle.ron_spec_words.specs.Characters.{Text, continues_word}
use Rattle.ron_spec_words.specs.Runs.{begins, is_ended}
use Rattle.ron_spec_words.specs.Gap.{skip, ends_value}
use Rattle.ron_spec_words.specs.Exact.{FollowsValue}
use Rattle.ron_spec_words.proofs.Gaps.{skip-end, skip-skip}
use Rattle.ron_spec_grammar.specs.Data.{Data}
use Rattle.ron_spec_grammar.specs.Schema.{Shape, is_well_formed, OfShape}
use Rattle.ron_spec_grammar.specs.Rule.{Extensions}
use Rattle.ron_spec_grammar.specs.Grammar.{SpellsAt, Spells}
use Rattle.ron_spec_grammar.specs.Document.{Document, BodyAt}
use Rattle.ron_spec_grammar.proofs.Document.{unique}
use Rattle.ron_spec_grammar.proofs.Raw.Quiet.{delimiter_ends}
use Rattle.ron_spec_layout.specs.Name.{names_ok}
use Rattle.ron_spec_layout.specs.Encodable.{is_encodable}
use Rattle.ron_spec_layout.specs.Layout.{layout, announcements, extensions_under, full_layout}
use Rattle.ron_spec_layout.specs.Back.{back_first, back}
use Rattle.ron_spec_layout.specs.Stand.{Stands, MayFollow}
use Rattle.ron_spec_layout.proofs.Ample.{ample}
use Rattle.ron_spec_layout.specs.Normal.{norm_with}
use Rattle.ron_spec_layout.specs.Same.{AreSame, is_rawless, IsReadBackWith}
use Rattle.ron_spec_layout.specs.Config.{Docs, no_docs, Config, no_config}
use Rattle.ron_spec_layout.specs.Docs.{is_documented}
use Rattle.ron_spec_layout.specs.Statement.{IsReadable, IsSpelled, IsBackSame, IsReadBack, IsReadBackFirst, AreAlike, IsAlone}
use Rattle.ron_spec_layout.proofs.FirstLaw.{first}
use Rattle.ron_spec_layout.proofs.Places.{not_bare}
use Rattle.ron_spec_layout.proofs.Closed.{Closed, AreGaps, are_gaps, DocsEnd}
use Rattle.ron_spec_layout.proofs.Spelled.{spelled}
use Rattle.ron_spec_layout.proofs.Same.{back_same, back_with, first_with}
use Rattle.ron_spec_layout.proofs.Undocumented.{undocumented}
use Rattle.ron_spec_layout.proofs.Turned.{turned, in_turn}
use Rattle.ron_spec_layout.proofs.Announced.{Announced, announced}

-- what follows a value may follow a layout
pub follows : (next : Text) → FollowsValue next → MayFollow false (skip next)
follows next h = (go (skip next) h, skip-skip next, h)
  where
    go : (s : Text) → ends_value s ≡ true → begins continues_word s ≡ false
    go [] e = refl
    go (c ∷ s) e = delimiter_ends c e

-- docs that end, and with which the layout is the same
record Ending (c : Config) (x : Extensions) (level : ℕ) (docs : Docs) (bare : Bool) (d : Data) : Type 0 where
  pub docs_too : Docs
  pub ends : DocsEnd c docs_too
  pub same : layout c x level docs bare d ≡ layout c x level docs_too bare d

ending : (c : Config) (x : Extensions) (level : ℕ) (docs : Docs) (bare : Bool) (d : Data) → IsReadable c docs d → Ending c x level docs bare d
ending c x level docs bare d h = go (is_documented c docs d) refl
  where
    go : (b : Bool) → is_documented c docs d ≡ b → Ending c x level docs bare d
    go true e = record { docs_too = docs; ends = inr (h.ends e); same = refl }
    go false e = record { docs_too = no_docs; ends = inl refl; same = undocumented c x d level docs bare 0 e }

pub is_spelled : IsSpelled
is_spelled c x schema root i level docs bare lead next d h well o en ok b bl g f =
    let z = ending c x level docs bare d h in (
      ample d,
      subst (λ t. Stands (Spells x schema (ample d) bare i) (lead ++ t) next (back c x level lead d)) (sym z.same)
          (spelled c (are_gaps c h.blank) x schema root well d (ample d) i level z.docs_too bare lead next z.ends o en ok (omega arith) b bl g f),
    )

-- what stands at the end of a text is a body
body_at : (at_start : Bool) {x : Extensions} {schema : List Shape} {root room : ℕ} {t : Text} {d : Data}
    → Stands (SpellsAt at_start x schema room false root) t [] d → BodyAt at_start x schema root room t d
body_at at_start h = let q : h.text_from ++ [] ≡ h.from.stretch ++ h.from.after = append-nil h.text_from ∙ h.from.split in record {
  before = h.before;
  value = h.from.stretch;
  after = h.from.after;
  split = h.split ∙ ap (λ u. h.before ++ u) h.from.split;
  is_before = record { is_gap = rw q at h.is_before; longest = subst (λ u. skip u ≡ u) q h.from.solid };
  spelled = rw append-nil at h.from.spelled;
  is_after = h.from.is_after.is_gap;
}

-- a head before what follows the whole is empty
no_head : (h l t : Text) → t ≡ h ++ (l ++ t) → is_ended h ≡ true
no_head [] l t e = refl
no_head (n ∷ h) l t e = absurd (let more = ap length e in omega (arith, more, length-append h (l ++ t), length-append l t))

-- what the whole text is read back as
pub record ReadsBack (c : Config) (defaults : Extensions) (schema : List Shape) (root : ℕ) (d : Data) : Type 0 where
  pub value : Data
  pub document : Document defaults schema root (ample d) (full_layout defaults c d) value
  pub form : (value ≡ back_first c (extensions_under defaults c) 0 d) ⊎ ((lead : Text) × Closed lead × (value ≡ back c (extensions_under defaults c) 0 lead d))
  pub at_start : announcements defaults c ≡ [] → value ≡ back_first c (extensions_under defaults c) 0 d

pub whole : (c : Config) (defaults : Extensions) (schema : List Shape) (root : ℕ) (d : Data) → IsReadable c c.docs d → is_well_formed schema root ≡ true
    → OfShape schema root d → is_encodable (extensions_under defaults c).implicit_some d ≡ true → names_ok d ≡ true → ReadsBack c defaults schema root d
whole c defaults schema root d h well o en ok = go a.form
  where
    x : Extensions
    x = extensions_under defaults c

    gaps : AreGaps c
    gaps = are_gaps c h.blank

    z : Ending c x 0 c.docs false d
    z = ending c x 0 c.docs false d h

    t : Text
    t = layout c x 0 c.docs false d

    a : Announced c gaps defaults t
    a = announced c gaps defaults t

    follows : MayFollow false []
    follows = (refl, skip-end, refl)

    document : (e : Data) → BodyAt (is_ended a.head) x schema root (ample d) (a.lead ++ t) e
        → Document defaults schema root (ample d) (full_layout defaults c d) e
    document e b = record {
      announced = a.announced;
      head = a.head;
      body = a.lead ++ t;
      split = a.split;
      is_head = a.is_head;
      is_body = subst (λ (y : Extensions). BodyAt (is_ended a.head) y schema root (ample d) (a.lead ++ t) e) (sym a.is_in_force) b;
    }

    at_first : BodyAt true x schema root (ample d) t (back_first c x 0 d)
    at_first = body_at true (subst (λ u. Stands (SpellsAt true x schema (ample d) false root) u [] (back_first c x 0 d)) (sym z.same)
        (first c gaps x schema root well d (ample d) root 0 z.docs_too [] z.ends o en ok (omega arith) follows))

    behind : (lead : Text) → Closed lead → BodyAt false x schema root (ample d) (lead ++ t) (back c x 0 lead d)
    behind lead g = body_at false (subst (λ u. Stands (Spells x schema (ample d) false root) (lead ++ u) [] (back c x 0 lead d)) (sym z.same) (spelled c gaps x
        schema root well d (ample d) root 0 z.docs_too false lead [] z.ends o en ok (omega arith) (not_bare x schema) (λ e. absurd (cc)) g follows))

    go : ((a.head ≡ []) × (a.lead ≡ [])) ⊎ ((is_ended a.head ≡ false) × Closed a.lead) → ReadsBack c defaults schema root d
    go (inl e) = record {
      value = back_first c x 0 d;
      document = document (back_first c x 0 d) (subst (λ u. BodyAt (is_ended u) x schema root (ample d) (a.lead ++ t) (back_first c x 0 d)) (sym e.0)
          (subst (λ l. BodyAt true x schema root (ample d) (l ++ t) (back_first c x 0 d)) (sym e.1) at_first));
      form = inl refl;
      at_start = λ n. refl;
    }
    go (inr e) = record {
      value = back c x 0 a.lead d;
      document =
          document (back c x 0 a.lead d) (subst (λ b. BodyAt b x schema root (ample d) (a.lead ++ t) (back c x 0 a.lead d)) (sym e.0) (behind a.lead e.1));
      form = inr (a.lead, e.1, refl);
      at_start = λ n. absurd (let none = no_head a.head a.lead t (ap (λ u. u ++ t) (sym n) ∙ a.split) in let no : true ≡ false = sym none ∙ e.0 in cc);
    }

pub is_read_back_first : IsReadBackFirst
is_read_back_first c defaults schema root d n h well o en ok =
    let z = whole c defaults schema root d h well o en ok in
    (ample d, subst (λ e. Document defaults schema root (ample d) (full_layout defaults c d) e) (z.at_start n) z.document)

pub is_read_back : IsReadBack
is_read_back c defaults schema root d h well o en ok =
    let z = whole c defaults schema root d h well o en ok in
    (ample d, z.value, go z.value z.form, z.document)
  where
    x : Extensions
    x = extensions_under defaults c

    gaps : AreGaps c
    gaps = are_gaps c h.blank

    go : (v : Data) → ((v ≡ back_first c x 0 d) ⊎ ((lead : Text) × Closed lead × (v ≡ back c x 0 lead d))) → IsReadBackWith c.number_suffixes d v
    go v (inl e) = subst (IsReadBackWith c.number_suffixes d) (sym e) (first_with c x gaps schema d root 0 o)
    go v (inr e) = subst (IsReadBackWith c.number_suffixes d) (sym e.2) (back_with c x gaps schema d root 0 e.0 e.1 o)

-- where no raw text stands in the data, of its normal form
pub normal_read_back : (c : Config) (defaults : Extensions) (schema : List Shape) (root : ℕ) (d : Data) → IsReadable c c.docs d → is_well_formed schema root
    ≡ true → OfShape schema root d → is_encodable (extensions_under defaults c).implicit_some d ≡ true → names_ok d ≡ true → is_rawless d ≡ true
    → (room : ℕ) × Document defaults schema root room (full_layout defaults c d) (norm_with c.number_suffixes d)
normal_read_back c defaults schema root d h well o en ok rawless =
    let z = is_read_back c defaults schema root d h well o en ok in
    (z.0, subst (λ e. Document defaults schema root z.0 (full_layout defaults c d) e) (z.2.equal rawless) z.3)

pub is_back_same : IsBackSame
is_back_same c x schema i level lead d h g o keys = back_same c x (are_gaps c h) schema d i level lead g o keys

-- ---- two configurations

pub are_alike : AreAlike
are_alike b c defaults schema root m n d e f same hb hc well o enb enc ok keys de df =
    let p = is_read_back b defaults schema root d hb well o enb ok in
    let q = is_read_back c defaults schema root d hc well o enc ok in
    let is_e : p.1 ≡ e = unique defaults schema root p.0 m (full_layout defaults b d) p.1 e p.3 de in
    let is_f : q.1 ≡ f = unique defaults schema root q.0 n (full_layout defaults c d) q.1 f q.3 df in
    let first : AreSame e (norm_with b.number_suffixes d) = subst (λ u. AreSame u (norm_with b.number_suffixes d)) is_e (p.2.same keys) in
    let second : AreSame f (norm_with b.number_suffixes d) =
    subst (λ s. AreSame f (norm_with s d)) (sym same) (subst (λ u. AreSame u (norm_with c.number_suffixes d)) is_f (q.2.same keys)) in
    in_turn first (turned second)

-- ---- no configuration

or_false : (b : Bool) → (b || false) ≡ b
or_false true = refl
or_false false = refl

pub is_alone : IsAlone
is_alone x d =
    let same : extensions_under x no_config ≡ x = simp or_false in ap (λ y. layout no_config y 0 no_docs false d) same
