-- The reader function at the start of a text, and of raw texts step by step, for code.
use Rattle.std.proofs.Common.{◌≡◌, ℕ, suc, ◌-◌, Bool, true, false, cond, List, length, take, Some, None, slice_get, refl, ap, ◌∙◌}
use Rattle.ron_spec_words.specs.Characters.{Text, slash}
use Rattle.ron_spec_words.specs.Runs.{is_at}
use Rattle.ron_spec_words.specs.Gap.{gap_of, skip}
use Rattle.ron_spec_words.specs.Lang.{done}
use Rattle.ron_spec_words.specs.Reader.{bad, Got, got, failed, and_then, give, means, meant}
use Rattle.ron_spec_words.specs.Directly.{stands}
use Rattle.std.specs.Prelude.{codes}
use Rattle.ron_value.specs.Tree.{Tree}
use Rattle.ron_spec_grammar.specs.Data.{Data, raw_of}
use Rattle.ron_spec_grammar.specs.Schema.{Shape, bool, int, char, str, bytes, unit, unit_struct, seq, tuple, tuple_struct, map, struct, enum, any_value}
use Rattle.ron_spec_grammar.specs.Schema.{optional, newtype, any_raw}
use Rattle.ron_spec_grammar.specs.Rule.{Extensions, below}
use Rattle.ron_spec_grammar.specs.Reading.{read, read_at, rule, too_deep}
use Rattle.ron_spec_grammar.specs.Values.Grammar.{read_any}
use Rattle.ron_spec_grammar.specs.Raw.{raw_valid}
use Rattle.ron_spec_grammar.specs.Shapes.Option.{opens_some, some_data}
use Rattle.ron_spec_grammar.specs.Shapes.Newtype.{newtype_data}
use Rattle.ron_spec_words.specs.Stretch.{passed}
use Rattle.ron_spec_grammar.specs.Shapes.Raw.{raw_data, taken, raw_part}

-- the value of a shape, one level deeper, at the start of the text or not
unfoldable pub read_below_from : Bool → Extensions → List Shape → ℕ → ℕ → Text → Text → Got Data
read_below_from at_start x schema room i before s = below (rule x schema) too_deep room 0 at_start false i before s

-- a shape whose reading does not tell whether it stands at the start
abbrev pub is_same_anywhere : Shape → Bool
is_same_anywhere bool = true
is_same_anywhere (int w) = true
is_same_anywhere char = true
is_same_anywhere str = true
is_same_anywhere bytes = true
is_same_anywhere unit = true
is_same_anywhere (unit_struct n) = true
is_same_anywhere (seq j) = true
is_same_anywhere (tuple js) = true
is_same_anywhere (tuple_struct n js) = true
is_same_anywhere (map k v) = true
is_same_anywhere (struct n l) = true
is_same_anywhere (enum n vs) = true
is_same_anywhere any_value = true
is_same_anywhere _ = false

-- the raw text where it is valid, and what follows it
abbrev pub if_taken : Text → Text → Got Data
if_taken t rest = cond (raw_valid t) (got (raw_of t) rest) (failed bad)

module _ (at_start : Bool) (x : Extensions) (schema : List Shape) where
  pub below_from_here : (room i : ℕ) (before s : Text)
      → read_below_from at_start x schema (suc room) i before s ≡ read_at at_start x schema room false i before s
  unfolding read_below_from read_at
  below_from_here room i before s = refl

  module _ (room i : ℕ) (before s : Text) where
    pub anywhere : (shape : Shape) → is_same_anywhere shape ≡ true → slice_get schema i ≡ Some shape
        → read_at at_start x schema room false i before s ≡ read x schema room false i before s
    unfolding read_at
    anywhere bool h e = rw e refl
    anywhere (int w) h e = rw e refl
    anywhere char h e = rw e refl
    anywhere str h e = rw e refl
    anywhere bytes h e = rw e refl
    anywhere unit h e = rw e refl
    anywhere (unit_struct n) h e = rw e refl
    anywhere (seq j) h e = rw e refl
    anywhere (tuple js) h e = rw e refl
    anywhere (tuple_struct n js) h e = rw e refl
    anywhere (map k v) h e = rw e refl
    anywhere (struct n l) h e = rw e refl
    anywhere (enum n vs) h e = rw e refl
    anywhere any_value h e = rw e refl
    anywhere _ h e = absurd (cc)

    pub option_here : (j : ℕ) → slice_get schema i ≡ Some (optional j) → stands (codes "None") s ≡ false → opens_some s ≡ false → x.implicit_some ≡ true
        → read_at at_start x schema room false i before s ≡ meant (read_below_from at_start x schema room j before s) some_data
    unfolding read_at read_below_from
    option_here j is n e k = rw (is, n, e, k) refl

    pub newtype_here : (name : Text) (j : ℕ) → slice_get schema i ≡ Some (newtype name j) → x.unwrap_newtypes ≡ true
        → read_at at_start x schema room false i before s ≡ meant (read_below_from at_start x schema room j before s) (newtype_data name)
    unfolding read_at read_below_from
    newtype_here name j e u = rw e (rw u refl)

    module _ (is : slice_get schema i ≡ Some any_raw) where
      pub raw_is : read_at at_start x schema room false i before s ≡ meant (raw_part x.unwrap_variant_newtypes room at_start before s) raw_data
      unfolding read_at
      raw_is = rw is refl

      module _ (v : Tree) (rest : Text) (e : read_any x.unwrap_variant_newtypes room false before s ≡ got v rest) where
        pub raw_slash : is_at slash (skip rest) ≡ true → read_at at_start x schema room false i before s ≡ failed bad
        raw_slash h = raw_is ∙ ap (λ o. meant (and_then (passed s o) (λ core after. means (give done) (taken at_start before core after))) raw_data) e
            ∙ ap (λ b.
            meant (cond b (failed bad) (means (give done) (taken at_start before (take (length s - length rest) s) (gap_of rest)) (skip rest))) raw_data) h
