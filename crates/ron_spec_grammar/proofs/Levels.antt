-- All levels at once: an induction on the room.
use Rattle.std.proofs.Common.{ℕ, zero, suc, ◌≡◌, ◌≤◌, Bool, true, false, List, Option, Some, None, slice_get, refl, arith}
use Rattle.ron_spec_words.specs.Characters.{Text}
use Rattle.ron_spec_words.proofs.Exactly.{Opens}
use Rattle.ron_spec_words.proofs.Parts.{Part, part_more, part_fail, part_deep, part_below, part_none}
use Rattle.ron_spec_grammar.specs.Schema.{Shape, bool, int, char, str, bytes, unit, optional, unit_struct, seq, tuple, tuple_struct, map, newtype, struct, enum}
use Rattle.ron_spec_grammar.specs.Schema.{any_value, any_raw, has_no_cycle}
use Rattle.ron_spec_grammar.specs.Rule.{Extensions, Langs, Readers, inside, below}
use Rattle.ron_spec_grammar.specs.Grammar.{ShapeText, Rule, nothing_spelled, SpellsAt}
use Rattle.ron_spec_grammar.specs.Room.{step, rank}
use Rattle.ron_spec_grammar.proofs.Room.{Sizes, size, ranks, no_ranks}
use Rattle.ron_spec_grammar.specs.Reading.{read_shape, rule, too_deep, read_at}
use Rattle.ron_spec_grammar.proofs.Rule.{After, IsDataOf, Fit}
use Rattle.ron_spec_grammar.proofs.Shapes.Units.{part_bool, part_unit, part_unit_struct, bool_opens, unit_opens, unit_struct_opens}
use Rattle.ron_spec_grammar.proofs.Shapes.Int.{part_int, int_opens}
use Rattle.ron_spec_grammar.proofs.Shapes.Texts.{part_char, part_str, char_opens, str_opens}
use Rattle.ron_spec_grammar.proofs.Shapes.Bytes.{part_bytes, bytes_opens}
use Rattle.ron_spec_grammar.proofs.Shapes.Seq.{part_seq, seq_opens}
use Rattle.ron_spec_grammar.proofs.Shapes.Tuple.{part_tuple, part_tuple_struct, tuple_opens, tuple_struct_opens}
use Rattle.ron_spec_grammar.proofs.Shapes.Map.{part_map, map_opens}
use Rattle.ron_spec_grammar.proofs.Shapes.Option.{part_option, option_opens}
use Rattle.ron_spec_grammar.proofs.Shapes.Newtype.{part_newtype, newtype_opens}
use Rattle.ron_spec_grammar.proofs.Shapes.Enum.{part_enum, enum_opens}
use Rattle.ron_spec_grammar.proofs.Shapes.Struct.{part_struct, struct_opens}
use Rattle.ron_spec_grammar.proofs.Shapes.Value.{part_any_value, any_value_opens}
use Rattle.ron_spec_grammar.proofs.Shapes.Raw.{part_raw, raw_opens}

module _ (x : Extensions) (schema : List Shape) {top : ℕ} {base : ℕ → ℕ} (sizes : Sizes schema top base) where
  part_shape : (m room : ℕ) → m ≤ room → room ≤ top → (q r : ℕ → Bool → Readers) (L : ℕ → Bool → Langs)
      → ((k : ℕ) (b : Bool) → Fit schema base room (suc k) (q k b) (r k b) (L k b)) → (at_start bare : Bool) (i : ℕ) (before : Text) (o : Option Shape)
      → slice_get schema i ≡ o
      → Part room (step schema) bare (IsDataOf schema room 0 i) (read_shape x schema m q at_start bare before o)
      (read_shape x schema room r at_start bare before o) (ShapeText x schema room L at_start bare before o) (After bare) (size schema base bare i)
  part_shape m room le within q r L h at_start bare i before None s = part_fail
  part_shape m room le within q r L h at_start bare i before (Some bool) s = part_bool s bare
  part_shape m room le within q r L h at_start bare i before (Some (int w)) s = part_int w s bare
  part_shape m room le within q r L h at_start bare i before (Some char) s = part_char s bare
  part_shape m room le within q r L h at_start bare i before (Some str) s = part_str s bare
  part_shape m room le within q r L h at_start bare i before (Some bytes) s = part_bytes m le s base bare
  part_shape m room le within q r L h at_start bare i before (Some unit) s = part_unit s bare
  part_shape m room le within q r L h at_start bare i before (Some (optional j)) s =
      part_option sizes within x (inside q) (inside r) (inside L) (h 0 false) (q 0 at_start) (r 0 at_start) (L 0 at_start) (h 0 at_start) j i s bare before
  part_shape m room le within q r L h at_start bare i before (Some (unit_struct name)) s = part_unit_struct name x.explicit_struct_names s bare
  part_shape m room le within q r L h at_start bare i before (Some (seq j)) s = part_seq sizes m le (inside q) (inside r) (inside L) (h 1 false) j i s bare
  part_shape m room le within q r L h at_start bare i before (Some (tuple js)) s =
      part_tuple sizes m le (inside q) (inside r) (inside L) (h 1 false) js i s bare before
  part_shape m room le within q r L h at_start bare i before (Some (tuple_struct name js)) s =
      part_tuple_struct x.explicit_struct_names name sizes m le (inside q) (inside r) (inside L) (h 1 false) js i s bare before
  part_shape m room le within q r L h at_start bare i before (Some (map k v)) s = part_map sizes m le (inside q) (inside r) (inside L) (h 1 false) k v i s bare
  part_shape m room le within q r L h at_start bare i before (Some (newtype name j)) s = part_newtype sizes within x.explicit_struct_names (inside q) (inside r)
      (inside L) (h 0 false) (q 0 at_start) (r 0 at_start) (L 0 at_start) (h 0 at_start) name j i s x.unwrap_newtypes bare before
  part_shape m room le within q r L h at_start bare i before (Some (struct name list)) s =
      part_struct sizes m le (inside q) (inside r) (inside L) (h 1 false) x name list i s bare before
  part_shape m room le within q r L h at_start bare i before (Some (enum name variants)) s =
      part_enum sizes x m le (inside q) (inside r) (inside L) (h 1 false) (h 2 false) name variants i s bare
  part_shape m room le within q r L h at_start bare i before (Some any_value) s = part_any_value x m le base i s bare before
  part_shape m room le within q r L h at_start bare i before (Some any_raw) s = part_raw x m le base i s at_start bare before

  shape_opens : (room : ℕ) (L : ℕ → Bool → Langs) (at_start : Bool) → ((i : ℕ) (before : Text) → Opens (L 0 at_start false i before))
      → (before : Text) (o : Option Shape) → Opens (ShapeText x schema room L at_start false before o)
  shape_opens room L at_start h before None = record { holds = λ t next d z. absurd z }
  shape_opens room L at_start h before (Some bool) = bool_opens
  shape_opens room L at_start h before (Some (int w)) = int_opens w
  shape_opens room L at_start h before (Some char) = char_opens
  shape_opens room L at_start h before (Some str) = str_opens
  shape_opens room L at_start h before (Some bytes) = bytes_opens room
  shape_opens room L at_start h before (Some unit) = unit_opens
  shape_opens room L at_start h before (Some (optional j)) = option_opens x j (inside L) (L 0 at_start) before (h j before)
  shape_opens room L at_start h before (Some (unit_struct name)) = unit_struct_opens x.explicit_struct_names name
  shape_opens room L at_start h before (Some (seq j)) = seq_opens j room (inside L)
  shape_opens room L at_start h before (Some (tuple js)) = tuple_opens js room (inside L) before
  shape_opens room L at_start h before (Some (tuple_struct name js)) = tuple_struct_opens x.explicit_struct_names name js room (inside L) before
  shape_opens room L at_start h before (Some (map k v)) = map_opens k v room (inside L)
  shape_opens room L at_start h before (Some (newtype name j)) =
      newtype_opens x.explicit_struct_names x.unwrap_newtypes name j (inside L) (L 0 at_start) before (h j before)
  shape_opens room L at_start h before (Some (struct name list)) = struct_opens x schema name list room (inside L) before
  shape_opens room L at_start h before (Some (enum name variants)) = enum_opens x name variants room (inside L)
  shape_opens room L at_start h before (Some any_value) = any_value_opens x room before
  shape_opens room L at_start h before (Some any_raw) = raw_opens x room at_start before

  rule_fit : (m n : ℕ) → m ≤ n → n ≤ top → (q r : ℕ → Bool → Readers) (L : ℕ → Bool → Langs)
      → ((k : ℕ) (b : Bool) → Fit schema base n (suc k) (q k b) (r k b) (L k b)) → (at_start : Bool)
      → Fit schema base n 0 (rule x schema m q at_start) (rule x schema n r at_start) (Rule x schema n L at_start)
  rule_fit m n le within q r L h at_start = record {
    part = λ bare i before. part_more (part_shape m n le within q r L h at_start bare i before (slice_get schema i) refl) (omega arith);
    opens = λ i before. shape_opens n L at_start (h 0 at_start).opens before (slice_get schema i);
  }

  fit_below : (n k : ℕ) (q r : Readers) (L : Langs) → Fit schema base n k q r L → Fit schema base (suc n) (suc k) q r L
  fit_below n k q r L h = record {
    part = λ bare i before. part_below (λ d p. record { of_shape = p.of_shape }) (h.part bare i before) (omega arith);
    opens = h.opens;
  }

  fit_deep : (n k : ℕ) (q r : Readers) (L : Langs) → Fit schema base n k q r L → Fit schema base n k (too_deep false) r L
  fit_deep n k q r L h = record { part = λ bare i before. part_deep (h.part bare i before); opens = h.opens }

  pub below_fit : (m n k : ℕ) → m ≤ n → n ≤ top → (b : Bool)
      → Fit schema base n (suc k) (below (rule x schema) too_deep m k b) (below (rule x schema) too_deep n k b) (below (Rule x schema) nothing_spelled n k b)
  below_fit zero zero k le w b = record { part = λ bare i before. part_none (omega arith); opens = λ i before. record { holds = λ t next d z. absurd z } }
  below_fit (suc m) zero k le w b = absurd (omega arith)
  below_fit zero (suc n) zero le w b =
      fit_deep (suc n) 1 _ _ _ (fit_below n 0 _ _ _ (rule_fit n n (omega arith) (omega arith) _ _ _ (λ k b. below_fit n n k (omega arith) (omega arith) b) b))
  below_fit zero (suc n) (suc k) le w b = fit_below n (suc k) (too_deep b) _ _ (below_fit zero n k (omega arith) (omega arith) b)
  below_fit (suc m) (suc n) zero le w b =
      fit_below n 0 _ _ _ (rule_fit m n (omega arith) (omega arith) _ _ _ (λ k b. below_fit m n k (omega arith) (omega arith) b) b)
  below_fit (suc m) (suc n) (suc k) le w b = fit_below n (suc k) _ _ _ (below_fit m n k (omega arith) (omega arith) b)

  -- reading with less room, reading, and the grammar
  pub read_within : (at_start : Bool) (m n : ℕ) → m ≤ n → n ≤ top
      → Fit schema base n 0 (read_at at_start x schema m) (read_at at_start x schema n) (SpellsAt at_start x schema n)
  unfolding read_at SpellsAt
  read_within at_start m n le w = rule_fit m n le w _ _ _ (λ k b. below_fit m n k le w b) at_start

module _ (at_start : Bool) (x : Extensions) (schema : List Shape) where
  -- of any schema, where nothing is said of how much room is enough
  pub read_fit : (m n : ℕ) → m ≤ n → Fit schema (λ i. n) n 0 (read_at at_start x schema m) (read_at at_start x schema n) (SpellsAt at_start x schema n)
  read_fit m n le = read_within x schema (no_ranks schema n) at_start m n le (omega arith)

  -- where options and newtypes form no cycle
  pub enough_fit : has_no_cycle schema ≡ true → (n : ℕ)
      → Fit schema (rank schema) n 0 (read_at at_start x schema n) (read_at at_start x schema n) (SpellsAt at_start x schema n)
  enough_fit h n = read_within x schema (ranks schema h n) at_start n n (omega arith) (omega arith)
