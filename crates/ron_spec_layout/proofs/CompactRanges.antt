-- What is written as a compact range begins as no option, and stands for what its struct is read back as.
use Rattle.std.proofs.Common.{◌≡◌, ℕ, Bool, true, false, ◌&&◌, cond, List, ℤ, [], ◌++◌, codes, Option, Some, None, refl, ap, ap₂, subst, ◌∙◌, append_assoc}
use Rattle.std.specs.Option.{IfSome, unwrap_or, option_or}
use Rattle.std.specs.Fmt.{signed_decimal}
use Rattle.ron_spec_words.specs.Characters.{Text}
use Rattle.ron_spec_words.specs.Runs.{same_text}
use Rattle.ron_spec_words.proofs.Gaps.{skip-other}
use Rattle.ron_value_number.specs.declared.width.Width.{Width}
use Rattle.ron_value_number.specs.Width.{width_word}
use Rattle.ron_value.specs.Tree as tree
use Rattle.ron_spec_grammar.specs.Data.{Data, int_of, value_of, unit_struct_of, struct_of, Fields, no_fields, field_and}
use Rattle.ron_spec_grammar.specs.Schema.{Shape, is_well_formed, OfShape}
use Rattle.ron_spec_grammar.specs.Rule.{Extensions}
use Rattle.ron_spec_grammar.specs.Grammar.{Spells}
use Rattle.ron_spec_grammar.specs.Shapes.Range.{spans, reaches, starts}
use Rattle.ron_spec_grammar.proofs.Finding.{cond_parts}
use Rattle.ron_spec_layout.specs.Literals.{number_text}
use Rattle.ron_spec_layout.specs.Brackets.{opens_as_option}
use Rattle.ron_spec_layout.specs.Ranges.{bound_text, dots_text, around_dots, fields_range, range_text, compact_range}
use Rattle.ron_spec_layout.specs.Normal.{norm_with}
use Rattle.ron_spec_layout.specs.Config.{Config}
use Rattle.ron_spec_layout.specs.Back.{back, fields_back}
use Rattle.ron_spec_layout.specs.Stand.{Stands, MayFollow}
use Rattle.ron_spec_layout.proofs.Integers.{integer_no_option}
use Rattle.ron_spec_layout.proofs.Guard.{other_mark}
use Rattle.ron_spec_layout.proofs.RangeLaw.{range_law}

-- ---- the text of a range, from the texts of its bounds

around : (P R Q : Text → Type 0) (closed : Bool) (a b : Option Text) → IfSome a P → IfSome b R → ((s t : Text) → P s → R t → Q (s ++ (dots_text closed ++ t)))
    → IfSome (around_dots closed a b) Q
around P R Q closed None b h k f = tt
around P R Q closed (Some s) None h k f = tt
around P R Q closed (Some s) (Some t) h k f = f s t h k

chosen : (Q : Text → Type 0) (b : Bool) (o p : Option Text) → IfSome o Q → IfSome p Q → IfSome (cond b o p) Q
chosen Q true o p h k = h
chosen Q false o p h k = k

one_of : (Q : Text → Type 0) (o p : Option Text) → IfSome o Q → IfSome p Q → IfSome (option_or o p) Q
one_of Q None p h k = k
one_of Q (Some t) p h k = h

-- ---- no option

pub suffixed_no_option : (suffixes : Bool) (w : Width) (n : ℤ) (next : Text) → opens_as_option (number_text suffixes w n ++ next) ≡ false
suffixed_no_option false w n next = integer_no_option n next
suffixed_no_option true w n next = ap opens_as_option (append_assoc (signed_decimal n) (width_word w) next) ∙ integer_no_option n (width_word w ++ next)

-- whatever follows it
abbrev BeginsNoOption : Text → Type 0
BeginsNoOption t = (next : Text) → opens_as_option (t ++ next) ≡ false

dots_no_option : (closed : Bool) (t next : Text) → opens_as_option ((dots_text closed ++ t) ++ next) ≡ false
dots_no_option true t next = other_mark 46 _ (skip-other 46 _ refl refl) refl refl
dots_no_option false t next = other_mark 46 _ (skip-other 46 _ refl refl) refl refl

module _ (suffixes : Bool) where
  bound_begins : (d : Data) → IfSome (bound_text suffixes d) BeginsNoOption
  bound_begins (int_of w n) = suffixed_no_option suffixes w n
  bound_begins (value_of (tree.number w n)) = suffixed_no_option suffixes w n
  bound_begins _ = tt

  behind_bound : (closed : Bool) (s t : Text) → BeginsNoOption s → BeginsNoOption (s ++ (dots_text closed ++ t))
  behind_bound closed s t h next = ap opens_as_option (append_assoc s (dots_text closed ++ t) next) ∙ h ((dots_text closed ++ t) ++ next)

  fields_begin : (closed : Bool) (name : Text) (ds : Fields) → IfSome (fields_range suffixes closed name ds) BeginsNoOption
  fields_begin closed name no_fields = tt
  fields_begin closed name (field_and a d no_fields) =
      chosen BeginsNoOption (starts closed name && same_text a (codes "start")) (around_dots closed (bound_text suffixes d) (Some []))
      (cond (reaches closed name && same_text a (codes "end")) (around_dots closed (Some []) (bound_text suffixes d)) None)
      (around BeginsNoOption (λ _. Unit {0}) BeginsNoOption closed (bound_text suffixes d) (Some []) (bound_begins d) tt (λ s t h k. behind_bound closed s t h))
      (chosen BeginsNoOption (reaches closed name && same_text a (codes "end")) (around_dots closed (Some []) (bound_text suffixes d)) None
      (around (λ s. s ≡ []) (λ _. Unit {0}) BeginsNoOption closed (Some []) (bound_text suffixes d) refl (always (bound_text suffixes d))
      (λ s t h k next. ap (λ u. opens_as_option ((u ++ (dots_text closed ++ t)) ++ next)) h ∙ dots_no_option closed t next)) tt)
    where
      always : (o : Option Text) → IfSome o (λ _. Unit {0})
      always None = tt
      always (Some t) = tt
  fields_begin closed name (field_and a d (field_and b e no_fields)) =
      chosen BeginsNoOption (spans closed name && (same_text a (codes "start") && same_text b (codes "end")))
      (around_dots closed (bound_text suffixes d) (bound_text suffixes e)) None (around BeginsNoOption BeginsNoOption BeginsNoOption closed
      (bound_text suffixes d) (bound_text suffixes e) (bound_begins d) (bound_begins e) (λ s t h k. behind_bound closed s t h)) tt
  fields_begin closed name (field_and a d (field_and b e (field_and c g ds))) = tt

  range_begins : (d : Data) → IfSome (range_text suffixes d) BeginsNoOption
  range_begins (struct_of name ds) =
      one_of BeginsNoOption (fields_range suffixes false name ds) (fields_range suffixes true name ds) (fields_begin false name ds) (fields_begin true name ds)
  range_begins (unit_struct_of name) = chosen BeginsNoOption (same_text name (codes "RangeFull")) (Some (codes "..")) None (dots_no_option false []) tt
  range_begins _ = tt

-- data that is a compact range or has another text that begins as no option
pub range_no_option : (c : Config) (d : Data) (t next : Text) → opens_as_option (t ++ next) ≡ false
    → opens_as_option (unwrap_or (compact_range c d) t ++ next) ≡ false
range_no_option c d t next h =
    go (compact_range c d) (chosen BeginsNoOption c.compact_ranges (range_text c.number_suffixes d) None (range_begins c.number_suffixes d) tt)
  where
    go : (o : Option Text) → IfSome o BeginsNoOption → opens_as_option (unwrap_or o t ++ next) ≡ false
    go None k = h
    go (Some s) k = k next

-- ---- what is read back

module _ (c : Config) (x : Extensions) (level : ℕ) where
  abbrev IsKept : Data → Data → Text → Type 0
  IsKept d e t = norm_with c.number_suffixes d ≡ e

  bound_kept : (d : Data) → IfSome (bound_text c.number_suffixes d) (IsKept d (back c x level c.separator d))
  bound_kept (int_of w n) = refl
  bound_kept (value_of (tree.number w n)) = refl
  bound_kept _ = tt

  fields_kept : (closed : Bool) (name : Text) (ds : Fields)
      → IfSome (fields_range c.number_suffixes closed name ds) (IsKept (struct_of name ds) (struct_of name (fields_back c x level ds)))
  fields_kept closed name no_fields = tt
  fields_kept closed name (field_and a d no_fields) =
      chosen Q (starts closed name && same_text a (codes "start")) (around_dots closed (bound_text c.number_suffixes d) (Some []))
      (cond (reaches closed name && same_text a (codes "end")) (around_dots closed (Some []) (bound_text c.number_suffixes d)) None)
      (around P (λ _. Unit {0}) Q closed (bound_text c.number_suffixes d) (Some []) (bound_kept d) tt (λ s t h k. same h))
      (chosen Q (reaches closed name && same_text a (codes "end")) (around_dots closed (Some []) (bound_text c.number_suffixes d)) None
      (around (λ _. Unit {0}) P Q closed (Some []) (bound_text c.number_suffixes d) tt (bound_kept d) (λ s t h k. same k)) tt)
    where
      P : Text → Type 0
      P = IsKept d (back c x level c.separator d)

      Q : Text → Type 0
      Q = IsKept (struct_of name (field_and a d no_fields)) (struct_of name (fields_back c x level (field_and a d no_fields)))

      same : norm_with c.number_suffixes d ≡ back c x level c.separator d
          → norm_with c.number_suffixes (struct_of name (field_and a d no_fields)) ≡ struct_of name (field_and a (back c x level c.separator d) no_fields)
      same h = ap (λ e. struct_of name (field_and a e no_fields)) h
  fields_kept closed name (field_and a d (field_and b e no_fields)) =
      chosen Q (spans closed name && (same_text a (codes "start") && same_text b (codes "end")))
      (around_dots closed (bound_text c.number_suffixes d) (bound_text c.number_suffixes e)) None
      (around (IsKept d (back c x level c.separator d)) (IsKept e (back c x level c.separator e)) Q closed (bound_text c.number_suffixes d)
      (bound_text c.number_suffixes e) (bound_kept d) (bound_kept e) (λ s t h k. ap₂ (λ u v. struct_of name (field_and a u (field_and b v no_fields))) h k)) tt
    where
      Q : Text → Type 0
      Q = IsKept (struct_of name (field_and a d (field_and b e no_fields))) (struct_of name (fields_back c x level (field_and a d (field_and b e no_fields))))
  fields_kept closed name (field_and a d (field_and b e (field_and f g ds))) = tt

  struct_kept : (name : Text) (ds : Fields)
      → IfSome (range_text c.number_suffixes (struct_of name ds)) (IsKept (struct_of name ds) (struct_of name (fields_back c x level ds)))
  struct_kept name ds = one_of (IsKept (struct_of name ds) (struct_of name (fields_back c x level ds))) (fields_range c.number_suffixes false name ds)
      (fields_range c.number_suffixes true name ds) (fields_kept false name ds) (fields_kept true name ds)

-- ---- the law

is_range : (c : Config) (d : Data) (t : Text) → compact_range c d ≡ Some t → range_text c.number_suffixes d ≡ Some t
is_range c d t e = (cond_parts c.compact_ranges (range_text c.number_suffixes d) t e).1

-- what holds of the text as a range, and of the other
pub perhaps_range : (S : Text → Type 0) (c : Config) (d : Data) (plain : Text) → ((t : Text) → range_text c.number_suffixes d ≡ Some t → S t) → S plain
    → S (unwrap_or (compact_range c d) plain)
perhaps_range S c d plain f s = go (compact_range c d) refl
  where
    go : (o : Option Text) → compact_range c d ≡ o → S (unwrap_or o plain)
    go None e = s
    go (Some t) e = f t (is_range c d t e)

module _ (c : Config) (x : Extensions) (schema : List Shape) (root : ℕ) (well : is_well_formed schema root ≡ true) (room i : ℕ) (bare : Bool) (next t : Text)
    (f : MayFollow bare next) where
  pub struct_range : (level : ℕ) (name : Text) (ds : Fields) → OfShape schema i (struct_of name ds) → range_text c.number_suffixes (struct_of name ds) ≡ Some t
      → Stands (Spells x schema room bare i) t next (struct_of name (fields_back c x level ds))
  struct_range level name ds o e =
      let kept = subst (λ r. IfSome r (IsKept c x level (struct_of name ds) (struct_of name (fields_back c x level ds)))) e (struct_kept c x level name ds) in
      subst (λ d. Stands (Spells x schema room bare i) t next d) kept
      (range_law c.number_suffixes x schema root i room bare next (struct_of name ds) t well o e f)

  pub unit_struct_range : (name : Text) → OfShape schema i (unit_struct_of name) → range_text c.number_suffixes (unit_struct_of name) ≡ Some t
      → Stands (Spells x schema room bare i) t next (unit_struct_of name)
  unit_struct_range name o e = range_law c.number_suffixes x schema root i room bare next (unit_struct_of name) t well o e f
