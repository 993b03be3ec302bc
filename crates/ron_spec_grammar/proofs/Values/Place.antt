-- A value without a schema at a place in a text is read exactly, within the limit: for whole texts of values and for raw texts.
use Rattle.std.proofs.Common.{◌≡◌, ℕ, ◌+◌, ◌≤◌, Bool, true, false, ◌++◌, length, arith}
use Rattle.ron_spec_words.specs.Characters.{Text, right_parenthesis}
use Rattle.ron_spec_words.specs.Runs.{is_at}
use Rattle.ron_spec_words.specs.Gap.{skip}
use Rattle.ron_spec_words.specs.Reader.{deep, got, failed}
use Rattle.ron_spec_words.specs.Exact.{Takes, Before, FollowsValue}
use Rattle.ron_spec_words.specs.Scan.{Walk}
use Rattle.ron_spec_words.proofs.Parts.{Part}
use Rattle.ron_value.specs.Tree.{Tree}
use Rattle.ron_spec_grammar.specs.Values.Trees.{IsValue}
use Rattle.ron_spec_grammar.specs.Values.Grammar.{AnySpells, read_any}
use Rattle.ron_spec_grammar.specs.Values.Statement.{enough_for_value}
use Rattle.ron_spec_grammar.proofs.Rule.{After}
use Rattle.ron_spec_grammar.proofs.AtPlace.{AreLevels, place_complete, place_monotone, place_unique, place_deep, place_bounded}
use Rattle.ron_spec_grammar.proofs.Values.Facts.{IsValueIn}
use Rattle.ron_spec_grammar.proofs.Values.Contents.{bare_levels, ValueFit}
use Rattle.ron_spec_grammar.proofs.Values.Grammar.{any_within}

module _ (u : Bool) where
  fit : (m n : ℕ) → m ≤ n → ValueFit 6 n 0 (read_any u m) (read_any u n) (AnySpells u n)
  fit m n le = any_within (omega arith) u m n le

  part : (bare : Bool) (room : ℕ) (before : Text) → Part room 6 bare (IsValueIn room 0) (read_any u room bare before) (read_any u room bare before)
      (AnySpells u room bare before) (After bare) (bare_levels bare + 0)
  part bare room before = (fit room room (omega arith)).part bare before

  pub sound : (room : ℕ) (before s rest : Text) (t : Tree) → read_any u room false before s ≡ got t rest → Takes (AnySpells u room false before) s t rest
  sound room before s rest t e = (part false room before).exact.sound s t rest e

  pub bare_sound : (room : ℕ) (before s rest : Text) (t : Tree) → read_any u room true before s ≡ got t rest → Takes (AnySpells u room true before) s t rest
  bare_sound room before s rest t e = (part true room before).exact.sound s t rest e

  pub bare_complete : (room : ℕ) (before s next : Text) (t : Tree) → AnySpells u room true before s next t → Before right_parenthesis next
      → skip (s ++ next) ≡ s ++ next → read_any u room true before (s ++ next) ≡ got t next
  bare_complete room before s next t z f n = ((part true room before).exact.complete s next t z f n).answer

  -- a value begins with no gap
  pub solid : (room : ℕ) (before s next : Text) (t : Tree) → AnySpells u room false before s next t → skip (s ++ next) ≡ s ++ next
  solid room before s next t z = (((fit room room (omega arith)).opens before).holds s next t z).1

  -- nor with a slash or a hash
  pub no_slash : (room : ℕ) (before s next : Text) (t : Tree) → AnySpells u room false before s next t → is_at 47 (s ++ next) ≡ false
  no_slash room before s next t z = (((fit room room (omega arith)).opens before).holds s next t z).2

  pub no_hash : (room : ℕ) (before s next : Text) (t : Tree) → AnySpells u room false before s next t → is_at 35 (s ++ next) ≡ false
  no_hash room before s next t z = (((fit room room (omega arith)).opens before).holds s next t z).3

  pub walk : (room k : ℕ) (before s next : Text) (t : Tree) → AnySpells u room false before s next t → FollowsValue next → Walk false k (s ++ next) k next
  walk room k before s next t z f = (part false room before).passes.over k s next t z f (solid room before s next t z)

  pub bare_walk : (room k : ℕ) (before s next : Text) (t : Tree) → AnySpells u room true before s next t → Before right_parenthesis next
      → skip (s ++ next) ≡ s ++ next → Walk true k (s ++ next) k next
  bare_walk room k before s next t z f n = (part true room before).passes.over k s next t z f n

  pub roomy : (bare : Bool) (room : ℕ) (before s : Text) → enough_for_value bare (length s) ≤ room → read_any u room bare before s ≡ failed deep → ⊥
  roomy false room before s le e = ((part false room before).shallow (length s) (omega (arith, le))).never s (omega arith) e
  roomy true room before s le e = ((part true room before).shallow (length s) (omega (arith, le))).never s (omega arith) e

  pub value_spelled : (bare : Bool) (room : ℕ) (before s next : Text) (t : Tree) → AnySpells u room bare before s next t → IsValue t
  value_spelled bare room before s next t z = ((part bare room before).values.are s next t z).value

  levels : (before : Text) → AreLevels (λ room. read_any u room false before) (λ room. AnySpells u room false before)
  levels before = record {
    exact = λ room. (part false room before).exact;
    agrees = λ m n le. ((fit m n le).part false before).agrees;
    solid = λ room s next t z. solid room before s next t z;
  }

  pub complete : (room : ℕ) (before s next : Text) (t : Tree) → AnySpells u room false before s next t → FollowsValue next
      → read_any u room false before (s ++ next) ≡ got t next
  complete room before = place_complete (levels before) room

  pub monotone : (m n : ℕ) (before s next : Text) (t : Tree) → m ≤ n → AnySpells u m false before s next t → FollowsValue next
      → AnySpells u n false before s next t
  monotone m n before = place_monotone (levels before) m n

  pub unique : (m n : ℕ) (before s next v other : Text) (t w : Tree) → s ++ next ≡ v ++ other → AnySpells u m false before s next t → FollowsValue next
      → AnySpells u n false before v other w → FollowsValue other → (s ≡ v) × (t ≡ w)
  unique m n before = place_unique (levels before) m n

  pub too_deep : (room n : ℕ) (before s next : Text) (t : Tree) → AnySpells u n false before s next t → FollowsValue next
      → (AnySpells u room false before s next t → ⊥) → read_any u room false before (s ++ next) ≡ failed deep
  too_deep room n before = place_deep (levels before) room n

  pub bounded : (n : ℕ) (before s next : Text) (t : Tree) → AnySpells u n false before s next t → FollowsValue next
      → AnySpells u (enough_for_value false (length (s ++ next))) false before s next t
  bounded n before s next t = place_bounded (levels before) (enough_for_value false (length (s ++ next))) n s next t
      (roomy false (enough_for_value false (length (s ++ next))) before (s ++ next) (omega arith))
