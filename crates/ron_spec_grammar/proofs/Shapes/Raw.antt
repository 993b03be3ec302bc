-- What the rule of raw texts owes: the stretch of a value and what it takes of the gaps are read exactly.
use Rattle.std.proofs.Common.{◌≡◌, ℕ, ◌≤◌, Bool, true, false, ◌++◌, Some, None, cond, subst, List, slice_get, refl, sym, ap, ◌∙◌, arith}
use Rattle.ron_spec_words.specs.Characters.{Text}
use Rattle.ron_spec_words.specs.Gap.{skip, ends_value}
use Rattle.ron_spec_words.specs.Lang.{done, Empty}
use Rattle.ron_spec_words.specs.Reader.{give}
use Rattle.ron_spec_words.specs.Exact.{FollowsValue}
use Rattle.ron_spec_words.proofs.Values.{AnyValue}
use Rattle.ron_spec_words.proofs.Exactly.{Opens, exact_give, first_then, stops_gap, stops_no_slash}
use Rattle.ron_spec_words.proofs.Room.{agrees_same, shallow_calm}
use Rattle.ron_spec_words.proofs.Passing.{passes_empty}
use Rattle.ron_spec_words.proofs.Parts.{Part, part_more, part_means, part_chain}
use Rattle.ron_spec_grammar.specs.Data.{Data, raw_of}
use Rattle.ron_spec_grammar.specs.Schema.{Shape, any_raw}
use Rattle.ron_spec_grammar.specs.Rule.{Extensions}
use Rattle.ron_spec_grammar.specs.Room.{step}
use Rattle.ron_spec_grammar.specs.Raw.{raw_text, raw_valid}
use Rattle.ron_spec_grammar.proofs.Room.{size, step_is}
use Rattle.ron_spec_grammar.proofs.Rule.{After, IsDataOf, part_plain}
use Rattle.ron_spec_words.proofs.Words.{first_means}
use Rattle.ron_spec_grammar.proofs.Values.Grammar.{any_within}
use Rattle.ron_spec_grammar.specs.Shapes.Raw.{if_valid, raw_data, taken, RawPart, RawText, raw_part, read_raw}
use Rattle.ron_spec_words.proofs.Stretches.{first_stretch, part_stretch}

-- where the gap has been passed, what follows a value begins what follows
stops_here : (next : Text) → FollowsValue next → skip next ≡ next → ends_value next ≡ true
stops_here next f n = ap ends_value (sym n) ∙ f

-- what is taken is valid
is_valid : (u t : Text) → if_valid u ≡ Some t → raw_valid t ≡ true
is_valid u t e = go (raw_valid u) refl e
  where
    go : (b : Bool) → raw_valid u ≡ b → cond b (Some u) None ≡ Some t → raw_valid t ≡ true
    go true h k = let same : u ≡ t = cc in subst (λ v. raw_valid v ≡ true) same h
    go false h k = absurd (cc)

module _ {room step : ℕ} where
  -- nothing, where a value has ended
  part_end : {A : Type 0} {e : ℕ} (a : A) → Part room step false AnyValue (give a) (give a) (Empty a) FollowsValue e
  part_end a = record {
    exact = exact_give a FollowsValue;
    begins = record { no_slash = λ t next b z f n. stops_no_slash (t ++ next) (rw z.0 (stops_here next f (rw z.0 at n))) };
    agrees = agrees_same _;
    shallow = λ n w. shallow_calm n (λ s e. cc);
    values = record { are = λ t next b z. tt };
    passes = passes_empty a;
  }

  module _ (wide : 6 ≤ step) (u : Bool) (m : ℕ) (le : m ≤ room) (at_start : Bool) (before : Text) where
    pub part_raw_part : Part room step false (λ t. raw_valid t ≡ true) (raw_part u m at_start before) (raw_part u room at_start before)
        (RawPart u room at_start before) FollowsValue 0
    part_raw_part = part_chain (part_stretch ((any_within wide u m room le).part false before))
        (λ core after.
        part_means {P = AnyValue} (taken at_start before core after) (λ _ t _ e _. is_valid (raw_text before core after at_start) t e) (part_end done))
        (λ core gap right next b g z f. stops_gap gap (right ++ next) g (rw z.spelled.0 (stops_here next f (rw z.spelled.0 at g.longest))))

module _ {schema : List Shape} {room : ℕ} (x : Extensions) (m : ℕ) (le : m ≤ room) (base : ℕ → ℕ) (i : ℕ) (s : slice_get schema i ≡ Some any_raw)
    (at_start : Bool) where
  is_raw : (t : Text) (d : Data) → raw_valid t ≡ true → raw_data t ≡ Some d → IsDataOf schema room 0 i d
  is_raw t d v e = let same : raw_of t ≡ d = cc in rw (← same) (record { of_shape = λ _. (s, v) })

  pub part_raw : (bare : Bool) (before : Text) → Part room (step schema) bare (IsDataOf schema room 0 i) (read_raw x m at_start bare before)
      (read_raw x room at_start bare before) (RawText x room at_start bare before) (After bare) (size schema base bare i)
  part_raw bare before = part_plain bare
      (part_more (part_means raw_data is_raw (part_raw_part (omega (arith, step_is schema)) x.unwrap_variant_newtypes m le at_start before)) (omega arith))

pub raw_opens : (x : Extensions) (room : ℕ) (at_start : Bool) (before : Text) → Opens (RawText x room at_start false before)
raw_opens x room at_start before =
    first_means (first_then (first_stretch ((any_within {step = 6} (omega arith) x.unwrap_variant_newtypes room room (omega arith)).opens before)))
