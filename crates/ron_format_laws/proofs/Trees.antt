-- Values without a schema in texts of the same words: one expression for each form, and an induction on the room.
use Rattle.std.proofs.Common.{◌≡◌, ◌≤◌, ℕ, zero, suc, Bool, true, false, not, ◌==◌, List, ◌++◌, Option, refl, codes, arith}
use Rattle.ron_spec_words.specs.Characters.{Text, colon, left_parenthesis, right_parenthesis, left_bracket, right_bracket, left_brace, right_brace, comma}
use Rattle.ron_spec_words.specs.Gap.{is_delimiter}
use Rattle.ron_spec_words.specs.Lang.{Lang, done, Group}
use Rattle.ron_spec_words.specs.Exact.{Anything, Before as Before', FollowsValue}
use Rattle.ron_spec_words.specs.Name.{Name, UntypedName, opens_literal}
use Rattle.ron_spec_words.specs.Quoted.{Char, String, ByteString}
use Rattle.ron_spec_words.proofs.Words.{First, first_behind, first_or, first_when, first_means, first_not_before, first_run}
use Rattle.ron_spec_words.proofs.Exactly.{Opens, first_then, first_mark, stops_gap}
use Rattle.ron_spec_words.proofs.LiteralStarts.{first_char, first_string, first_byte_string}
use Rattle.ron_spec_words.proofs.Names.{name_solid}
use Rattle.ron_spec_words.proofs.Tokens.{token_string, token_byte_string, token_char}
use Rattle.ron_spec_words.proofs.TokenRuns.{token_name, token_untyped_name}
use Rattle.ron_spec_words.proofs.WordsPass.{plain_words}
use Rattle.ron_value.specs.Tree.{Tree}
use Rattle.ron_value.specs.Tree as tree
use Rattle.ron_spec_grammar.specs.Rule.{below}
use Rattle.ron_spec_grammar.specs.Values.Grammar.{Values, list_value, several_value, FieldEntry, PairEntry, FieldsInside, ItemsInside, RoundGroup, SomeContent}
use Rattle.ron_spec_grammar.specs.Values.Grammar.{WordValue, OneValue, BareValue, ValueRule, no_value, AnySpells}
use Rattle.ron_spec_grammar.proofs.Values.Grammar.{below_fit}
use Rattle.ron_format_words.specs.Alike.{nowhere}
use Rattle.ron_format_words.specs.Moves.{Moves}
use Rattle.ron_format_words.proofs.Steps.{run_within}
use Rattle.ron_format_words.proofs.Free.{free_char, free_string, free_byte_string, stable_free, stable_name, stable_untyped_name}
use Rattle.ron_format_words.proofs.Near.{Opening, word_token, word_moves}
use Rattle.ron_format_words.proofs.Figures.{word_number_or_range}
use Rattle.ron_format_words.proofs.Closed.{moves_empty, moves_mark, moves_fixed, moves_or, moves_then, moves_on, moves_items, moves_group}
use Rattle.ron_format_words.proofs.Inner.{moves_means, moves_needs, moves_nothing, moves_with_comma, moves_brackets, moves_when_round}
use Rattle.ron_format_laws.proofs.Words.{Onward}

-- ---- words

pub name_opening : First Opening Name
name_opening = first_or (first_behind Opening 114 _ (λ s. refl))
    (first_when (λ s. not (opens_literal s)) (first_not_before (first_run Opening _ _ (λ c s e. run_within c (rw e refl)))))

untyped_opening : First Opening UntypedName
untyped_opening = first_or (first_behind Opening 114 _ (λ s. refl))
    (first_means (first_when (λ s. not (opens_literal s)) (first_run Opening _ _ (λ c s e. run_within c (rw e refl)))))

-- in parentheses
pub group_onward : {A : Type 0} (c : ℕ) (L : Text → Lang A) → First Onward (Group left_parenthesis c L)
group_onward c L = first_then (first_mark Onward left_parenthesis done (λ s. (refl, refl)))

-- what values are owed
pub record KeptValues (commas : Text → Bool) (V : Values) : Type 0 where
  pub plain : (before instead : Text) → Moves commas commas (V false before) (V false instead) FollowsValue
  pub bare : (before instead : Text) → Moves commas nowhere (V true before) (V true instead) (Before' right_parenthesis)
  pub opens : (before : Text) → Opens (V false before)

module _ {commas : Text → Bool} where
  pub moves_name : {F : Text → Type 0} → Moves commas commas Name Name F
  moves_name = word_moves (word_token name_opening (λ t next a z f. token_name t next a z) stable_name)

  moves_untyped : {F : Text → Type 0} → Moves commas commas UntypedName UntypedName F
  moves_untyped = word_moves (word_token untyped_opening (λ t next a z f. token_untyped_name t next a z) stable_untyped_name)

  pub moves_char : {F : Text → Type 0} → Moves commas commas Char Char F
  moves_char = word_moves (word_token (first_char Opening (λ s. refl)) (λ t next a z f. token_char t next a z) (stable_free free_char))

  pub moves_string : {F : Text → Type 0} → Moves commas commas String String F
  moves_string = word_moves (word_token (first_string Opening (λ s. refl) (λ s. refl)) (λ t next a z f. token_string t next a z) (stable_free free_string))

  pub moves_byte_string : {F : Text → Type 0} → Moves commas commas ByteString ByteString F
  moves_byte_string =
      word_moves (word_token (first_byte_string Opening (λ s. refl) (λ s. refl)) (λ t next a z f. token_byte_string t next a z) (stable_free free_byte_string))

  module _ (V : Values) (h : KeptValues commas V) where
    moves_field : Moves commas commas (FieldEntry V) (FieldEntry V) FollowsValue
    moves_field = moves_on {F = Anything} moves_name
        (λ n _ _. moves_then {F = Anything} (moves_mark colon done refl refl) (λ _ gap instead. moves_means (h.plain gap instead)) (λ _ _ _ _ _ _ _ _. tt))
        (λ _ _ _ _ _ _ _ _. tt) (λ n gap right next b z. (first_then (first_mark Onward colon done (λ s. (refl, refl)))).holds right next b z)

    moves_pair : (before instead : Text) → Moves commas commas (PairEntry V before) (PairEntry V instead) FollowsValue
    moves_pair before instead = moves_on {F = FollowsValue} (h.plain before instead)
        (λ key _ _. moves_then {F = Anything} (moves_mark colon done refl refl) (λ _ gap other. moves_means (h.plain gap other)) (λ _ _ _ _ _ _ _ _. tt))
        (λ a gap right next b g z f. stops_gap gap (right ++ next) g (rw (z.split, z.first.0) refl))
        (λ n gap right next b z. (first_then (first_mark Onward colon done (λ s. (refl, refl)))).holds right next b z)

    moves_fields : (before instead : Text) → Moves commas nowhere (FieldsInside V before) (FieldsInside V instead) (Before' right_parenthesis)
    moves_fields before instead = moves_means (moves_items (λ _ _. FieldEntry V) (λ _ _. FieldEntry V) right_parenthesis refl refl
        (λ _ _. first_then name_solid) (λ _ _ _. moves_field) before instead)

    moves_inside : (f : List Tree → Option Tree) (close : ℕ) → is_delimiter close ≡ true → (close == comma) ≡ false → (before instead : Text)
        → Moves commas nowhere (ItemsInside f V before) (ItemsInside f V instead) (Before' close)
    moves_inside f close d n before instead = moves_means
        (moves_items (λ _ gap. V false gap) (λ _ gap. V false gap) close d n (λ _ gap. h.opens gap) (λ _ gap other. h.plain gap other) before instead)

    moves_round : (room : ℕ) → {F : Text → Type 0} → Moves commas commas (RoundGroup room V) (RoundGroup room V) F
    moves_round room = moves_group left_parenthesis right_parenthesis refl refl refl
        (λ gap instead. moves_needs (moves_or (moves_fields gap instead) (moves_inside list_value right_parenthesis refl refl gap instead)))

    moves_content : (unwrap : Bool) (gap instead : Text)
        → Moves commas nowhere (SomeContent unwrap V gap) (SomeContent unwrap V instead) (Before' right_parenthesis)
    moves_content false gap instead = moves_with_comma (h.plain gap instead)
    moves_content true gap instead = h.bare gap instead

  module _ (unwrap : Bool) (room : ℕ) (V : ℕ → Values) (h : (k : ℕ) → KeptValues commas (V k)) where
    moves_word_value : Moves commas commas (WordValue unwrap room V) (WordValue unwrap room V) FollowsValue
    moves_word_value =
        moves_or (moves_fixed (codes "true") (tree.boolean true) plain_words.0) (moves_or (moves_fixed (codes "false") (tree.boolean false) plain_words.1)
        (moves_or (moves_fixed (codes "None") tree.none plain_words.2)
        (moves_or (moves_on {F = Anything} (moves_fixed (codes "Some") done plain_words.3)
        (λ _ _ _. moves_means (moves_group left_parenthesis right_parenthesis refl refl refl (λ gap instead. moves_content (V 0) (h 0) unwrap gap instead)))
        (λ _ _ _ _ _ _ _ _. tt) (λ _ gap right next b z. (group_onward right_parenthesis (SomeContent unwrap (V 0))).holds right next z.value z.spelled))
        (moves_or (moves_on {F = Anything} moves_untyped (λ _ _ _. moves_round (V 1) (h 1) room) (λ _ _ _ _ _ _ _ _. tt)
        (λ _ gap right next b z. (first_then (first_mark Onward left_parenthesis done (λ s. (refl, refl)))).holds right next b z))
        (moves_means moves_untyped)))))

    moves_one : Moves commas commas (OneValue unwrap room V) (OneValue unwrap room V) FollowsValue
    moves_one =
        moves_or (moves_means moves_char) (moves_or (moves_means moves_string) (moves_or (moves_means moves_byte_string)
        (moves_or (moves_group left_bracket right_bracket refl refl refl
        (λ gap instead. moves_needs (moves_inside (V 1) (h 1) list_value right_bracket refl refl gap instead)))
        (moves_or (moves_group left_brace right_brace refl refl refl
        (λ gap instead. moves_needs (moves_means (moves_items (λ _. PairEntry (V 1)) (λ _. PairEntry (V 1)) right_brace refl refl
        (λ _ g. first_then ((h 1).opens g)) (λ _ g o. moves_pair (V 1) (h 1) g o) gap instead))))
        (moves_or (moves_or (moves_means (moves_brackets done)) (moves_when_round (moves_round (V 1) (h 1) room)))
        (moves_or (moves_means (word_moves word_number_or_range))
        moves_word_value))))))

    moves_bare : (before instead : Text) → Moves commas nowhere (BareValue unwrap room V before) (BareValue unwrap room V instead) (Before' right_parenthesis)
    moves_bare before instead =
        moves_or (moves_empty tree.unit) (moves_or (moves_needs (moves_fields (V 1) (h 1) before instead)) (moves_or
        (moves_needs (moves_inside (V 1) (h 1) several_value right_parenthesis refl refl before instead))
        (moves_with_comma moves_one)))

-- ---- all levels

wide : 6 ≤ 6
wide = omega arith

same_most : (n : ℕ) → n ≤ n
same_most n = omega arith

module _ {commas : Text → Bool} (unwrap : Bool) where
  pub kept : (n k : ℕ) → KeptValues commas (below (ValueRule unwrap) no_value n k)
  kept zero k = record {
    plain = λ before instead. moves_nothing;
    bare = λ before instead. moves_nothing;
    opens = λ before. record { holds = λ t next d z. absurd z };
  }
  kept (suc n) zero = record {
    plain = λ before instead. moves_one unwrap n (below (ValueRule unwrap) no_value n) (λ k. kept n k);
    bare = λ before instead. moves_bare unwrap n (below (ValueRule unwrap) no_value n) (λ k. kept n k) before instead;
    opens = (below_fit wide unwrap (suc n) (suc n) zero (same_most (suc n))).opens;
  }
  kept (suc n) (suc k) = kept n k

  pub moves_any : (room : ℕ) (before instead : Text)
      → Moves commas commas (AnySpells unwrap room false before) (AnySpells unwrap room false instead) FollowsValue
  unfolding AnySpells
  moves_any room before instead = moves_one unwrap room (below (ValueRule unwrap) no_value room) (λ k. kept room k)

  pub kept_any : (room : ℕ) → KeptValues commas (AnySpells unwrap room)
  unfolding AnySpells
  kept_any room = record {
    plain = λ before instead. moves_one unwrap room (below (ValueRule unwrap) no_value room) (λ k. kept room k);
    bare = λ before instead. moves_bare unwrap room (below (ValueRule unwrap) no_value room) (λ k. kept room k) before instead;
    opens = λ before. (below_fit wide unwrap (suc room) (suc room) zero (same_most (suc room))).opens before;
  }
