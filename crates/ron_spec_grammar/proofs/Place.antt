-- A value at a place in a text is read exactly, within the limit: from a body and a document down to every value inside.
use Rattle.std.proofs.Common.{◌≡◌, ℕ, ◌≤◌, Bool, true, false, ◌&&◌, List, ◌++◌, length, ◌⊎◌, arith}
use Rattle.std.specs.List.{list_all}
use Rattle.std.proofs.lemmas.Bool.{and_parts}
use Rattle.ron_spec_words.specs.Characters.{Text, right_parenthesis}
use Rattle.ron_spec_words.specs.Runs.{is_at}
use Rattle.ron_spec_words.specs.Gap.{skip}
use Rattle.ron_spec_words.specs.Reader.{deep, got, failed}
use Rattle.ron_spec_words.specs.Exact.{Takes, Before, FollowsValue}
use Rattle.ron_spec_words.specs.Scan.{Walk}
use Rattle.ron_spec_grammar.specs.Data.{Data}
use Rattle.ron_spec_grammar.specs.Schema.{Shape, is_in_range, has_no_cycle, has_distinct_names, has_whole_range, is_well_formed, OfShape}
use Rattle.ron_spec_grammar.specs.Rule.{Extensions}
use Rattle.ron_spec_grammar.specs.Grammar.{SpellsAt}
use Rattle.ron_spec_grammar.specs.Reading.{read_at}
use Rattle.ron_spec_grammar.specs.Room.{enough}
use Rattle.ron_spec_grammar.proofs.Room.{enough_of}
use Rattle.ron_spec_grammar.proofs.AtPlace.{AreLevels, place_complete, place_monotone, place_unique, place_deep, place_bounded}
use Rattle.ron_spec_grammar.proofs.Levels.{read_fit, enough_fit}

-- what a well-formed schema is
pub formed_parts : (schema : List Shape) (root : ℕ) → is_well_formed schema root ≡ true
    → (has_no_cycle schema ≡ true) × (list_all has_distinct_names schema ≡ true)
formed_parts schema root h =
    let k = and_parts (has_no_cycle schema) (list_all has_distinct_names schema && list_all has_whole_range schema)
    (and_parts (is_in_range schema root) (has_no_cycle schema && (list_all has_distinct_names schema && list_all has_whole_range schema)) h).1 in
    (k.0, (and_parts (list_all has_distinct_names schema) (list_all has_whole_range schema) k.1).0)

module _ (at_start : Bool) (x : Extensions) (schema : List Shape) (i : ℕ) where
  pub sound : (room : ℕ) (before s rest : Text) (d : Data) → read_at at_start x schema room false i before s ≡ got d rest
      → Takes (SpellsAt at_start x schema room false i before) s d rest
  sound room before s rest d e = ((read_fit at_start x schema room room (omega arith)).part false i before).exact.sound s d rest e

  -- a value begins with no gap
  pub solid : (room : ℕ) (before t next : Text) (d : Data) → SpellsAt at_start x schema room false i before t next d → skip (t ++ next) ≡ t ++ next
  solid room before t next d z = (((read_fit at_start x schema room room (omega arith)).opens i before).holds t next d z).1

  -- a value is a walk over whole tokens at its own depth
  pub walk : (room k : ℕ) (before t next : Text) (d : Data) → SpellsAt at_start x schema room false i before t next d → FollowsValue next
      → Walk false k (t ++ next) k next
  walk room k before t next d z f =
      ((read_fit at_start x schema room room (omega arith)).part false i before).passes.over k t next d z f (solid room before t next d z)

  pub bare_walk : (room k : ℕ) (before t next : Text) (d : Data) → SpellsAt at_start x schema room true i before t next d → Before right_parenthesis next
      → skip (t ++ next) ≡ t ++ next → Walk true k (t ++ next) k next
  bare_walk room k before t next d z f n = ((read_fit at_start x schema room room (omega arith)).part true i before).passes.over k t next d z f n

  pub no_slash : (room : ℕ) (before t next : Text) (d : Data) → SpellsAt at_start x schema room false i before t next d → is_at 47 (t ++ next) ≡ false
  no_slash room before t next d z = (((read_fit at_start x schema room room (omega arith)).opens i before).holds t next d z).2

  -- nor with a hash, with which an attribute begins
  pub no_hash : (room : ℕ) (before t next : Text) (d : Data) → SpellsAt at_start x schema room false i before t next d → is_at 35 (t ++ next) ≡ false
  no_hash room before t next d z = (((read_fit at_start x schema room room (omega arith)).opens i before).holds t next d z).3

  -- with less room
  pub less : (m n : ℕ) (before s : Text) → m ≤ n → (read_at at_start x schema m false i before s ≡ read_at at_start x schema n false i before s)
      ⊎ (read_at at_start x schema m false i before s ≡ failed deep)
  less m n before s le = ((read_fit at_start x schema m n le).part false i before).agrees.at s

  pub roomy : has_no_cycle schema ≡ true → (bare : Bool) (room : ℕ) (before s : Text) → enough schema bare i (length s) ≤ room
      → read_at at_start x schema room bare i before s ≡ failed deep → ⊥
  roomy h bare room before s le e = (((enough_fit at_start x schema h room).part bare i before).shallow (length s)
      (omega (arith, le, enough_of schema bare i (length s)))).never s (omega arith) e

  pub of_schema : (root room : ℕ) (before t next : Text) (d : Data) → is_well_formed schema root ≡ true
      → SpellsAt at_start x schema room false i before t next d → OfShape schema i d
  of_schema root room before t next d h z =
      (((read_fit at_start x schema room room (omega arith)).part false i before).values.are t next d z).of_shape (formed_parts schema root h).1

  levels : (before : Text) → AreLevels (λ room. read_at at_start x schema room false i before) (λ room. SpellsAt at_start x schema room false i before)
  levels before = record {
    exact = λ room. ((read_fit at_start x schema room room (omega arith)).part false i before).exact;
    agrees = λ m n le. ((read_fit at_start x schema m n le).part false i before).agrees;
    solid = λ room t next d z. solid room before t next d z;
  }

  pub complete : (room : ℕ) (before t next : Text) (d : Data) → SpellsAt at_start x schema room false i before t next d → FollowsValue next
      → read_at at_start x schema room false i before (t ++ next) ≡ got d next
  complete room before = place_complete (levels before) room

  pub monotone : (m n : ℕ) (before t next : Text) (d : Data) → m ≤ n → SpellsAt at_start x schema m false i before t next d → FollowsValue next
      → SpellsAt at_start x schema n false i before t next d
  monotone m n before = place_monotone (levels before) m n

  pub unique : (m n : ℕ) (before t next u other : Text) (d e : Data) → t ++ next ≡ u ++ other → SpellsAt at_start x schema m false i before t next d
      → FollowsValue next → SpellsAt at_start x schema n false i before u other e → FollowsValue other → (t ≡ u) × (d ≡ e)
  unique m n before = place_unique (levels before) m n

  pub too_deep : (room n : ℕ) (before t next : Text) (d : Data) → SpellsAt at_start x schema n false i before t next d → FollowsValue next
      → (SpellsAt at_start x schema room false i before t next d → ⊥) → read_at at_start x schema room false i before (t ++ next) ≡ failed deep
  too_deep room n before = place_deep (levels before) room n

  pub bounded : has_no_cycle schema ≡ true → (n : ℕ) (before t next : Text) (d : Data) → SpellsAt at_start x schema n false i before t next d
      → FollowsValue next → SpellsAt at_start x schema (enough schema false i (length (t ++ next))) false i before t next d
  bounded h n before t next d = place_bounded (levels before) (enough schema false i (length (t ++ next))) n t next d
      (roomy h false (enough schema false i (length (t ++ next))) before (t ++ next) (omega arith))
