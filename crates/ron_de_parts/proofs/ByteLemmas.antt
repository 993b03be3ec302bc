-- Bytes in their three forms, beside the steps of `bytes.rt`.
use Rattle.std.proofs.Common.{◌≡◌, ℕ, suc, ◌≤◌, Bool, true, false, ◌&&◌, cond, ℤ, pos, List, [], ◌∷◌, ◌++◌, length, Vec, Global, Some, None, Result, refl, sym}
use Rattle.std.proofs.Common.{ap, ap₂, subst, ◌∙◌}
use Rattle.std.specs.Prelude.{◌==◌}
use Rattle.std.proofs.lemmas.Bool.{or_parts}
use Rattle.ron_spec_words.specs.Characters.{Text, left_bracket}
use Rattle.ron_spec_words.specs.Runs.{is_at}
use Rattle.ron_spec_words.specs.Turns.{all_items}
use Rattle.ron_spec_words.specs.Reader.{Fault, bad, Got, got, failed, meant, given}
use Rattle.ron_spec_words.specs.Number.{Numeral, numeral_value}
use Rattle.ron_spec_words.specs.AnyInteger.{any_integer}
use Rattle.ron_spec_words.specs.Quoted.{byte_string}
use Rattle.ron_spec_words.proofs.Turns.{in_order}
use Rattle.ron_value_number.specs.declared.width.Width.TheVariants.{U8}
use Rattle.ron_value_number.specs.declared.number.Number.{Number}
use Rattle.ron_value_number.specs.declared.number.Number.TheVariants as number
use Rattle.ron_value_number.specs.Width.{fits}
use Rattle.ron_spec_grammar.specs.Data as plain
use Rattle.ron_spec_grammar.specs.Shapes.Int.{suits, in_width, read_int}
use Rattle.ron_spec_grammar.specs.Shapes.Bytes.{bytes_data, natural, as_byte, byte_item, read_bytes}
use Rattle.ron_spec_grammar.specs.Turns.{read_bytes_from}
use Rattle.ron_spec_grammar.proofs.ByteTurns.{byte_within, bytes_over, bytes_failed, bytes_last, bytes_not_closed, bytes_more, bytes_opened}
use Rattle.ron_base.specs.Class.{ErrorClass, class_of}
use Rattle.ron_lex.specs.Place.{Place}
use Rattle.ron_de_steps.specs.Reads.{IsFaultOf}
use Rattle.ron_de_parts.specs.Terms.{Terms}
use Rattle.ron_base.specs.declared.error.Error.{Error}
use Rattle.ron_lex_text.specs.declared.parsed.ParsedByteStr.TheVariants as parsed
use Rattle.ron_data.specs.declared.data.Data.TheVariants as data_
use Rattle.ron_data.specs.declared.data.Data.{Data}
use Rattle.ron_data.specs.Datum.{data_view}
use Rattle.ron_data.proofs.DatumLemmas.{view-bytes}
use Rattle.ron_de_parts.specs.Errors.{IsMemoryOr}
use Rattle.ron_de_parts.specs.Room.{IsRoom, enough_for_items}
use Rattle.ron_de_parts.specs.Bytes.{begins_byte_string, ExpectsBytes, read_quoted}
use Rattle.ron_de_parts.specs.Values.{number_view}
use Rattle.ron_de_steps.specs.Steps.{past_item}
use Rattle.ron_de_steps.proofs.ErrorLemmas.{fault_of}
use Rattle.ron_de_steps.proofs.ItemLemmas.{HasTurns, ItemsRead, no_items, items_over, item_fails, comma_fails, one_more, at_mark}
use Rattle.ron_de_parts.proofs.RoomLemmas.{items_later}
use Rattle.ron_de_parts.proofs.GroupLemmas.{Opening}

-- ---- a byte of a list is an integer of the shape `u8`

as_integer : (o : Got Numeral) (b : ℕ) (rest : Text) → meant o (in_width U8) ≡ got (plain.int_of U8 (pos b)) rest → meant o as_byte ≡ got b rest
as_integer (failed x) b rest e = absurd (cc)
as_integer (got n next) b rest e = go (suits U8 n.suffix && fits U8 (numeral_value n)) (numeral_value n) e
  where
    go : (ok : Bool) (v : ℤ) → given (cond ok (Some (plain.int_of U8 v)) None) next ≡ got (plain.int_of U8 (pos b)) rest
        → given (cond ok (natural v) None) next ≡ got b rest
    go true v e = let same : v ≡ pos b = cc in let next_is : next ≡ rest = cc in rw (same, next_is) refl
    go false v e = absurd (cc)

as_fault : (o : Got Numeral) (x : Fault) → meant o (in_width U8) ≡ failed x → meant o as_byte ≡ failed x
as_fault (failed y) x e = let same : y ≡ x = cc in ap failed same
as_fault (got n next) x e = go (suits U8 n.suffix && fits U8 (numeral_value n)) (numeral_value n) e
  where
    go : (ok : Bool) (v : ℤ) → given (cond ok (Some (plain.int_of U8 v)) None) next ≡ failed x → given (cond ok (natural v) None) next ≡ failed x
    go true v e = absurd (cc)
    go false v e = let same : bad ≡ x = cc in ap failed same

pub byte_read : (room : ℕ) (s rest : Text) (n : Number) (b : ℕ) → 2 ≤ room → n ≡ number.U8 b → read_int U8 false s ≡ got (number_view n) rest
    → byte_item room s ≡ got b rest
byte_read room s rest n b le is e = byte_within room s le ∙ as_integer (any_integer s) b rest (subst (λ m. read_int U8 false s ≡ got (number_view m) rest) is e)

pub byte_fails : (k : ErrorClass) (room : ℕ) (s : Text) → 2 ≤ room → IsFaultOf k (read_int U8 false s) → IsFaultOf k (byte_item room s)
byte_fails k room s le = fault_of k _ _ (λ x e. byte_within room s le ∙ as_fault (any_integer s) x e)

-- ---- the items of a list

abbrev pub a_byte : ℕ → List ℕ → Text → Text → Got ℕ
a_byte room seen gap s = byte_item (suc room) s

abbrev pub all_bytes : ℕ → List ℕ → Text → Text → Got plain.Data
all_bytes room = read_bytes_from (suc room)

pub bytes_turns : HasTurns a_byte all_bytes 93 bytes_data
bytes_turns = record {
  over = λ room seen gap s. bytes_over (suc room) seen gap s;
  fails = λ room seen gap s still. bytes_failed (suc room) seen gap s still;
  last = λ room seen gap s still a rest u e. bytes_last (suc room) seen gap s still a rest e u;
  stays_open = λ room seen gap s still a rest e. bytes_not_closed (suc room) seen gap s still a rest e;
  goes_on = λ room seen gap s still a rest u e. bytes_more (suc room) seen gap s still a rest e u;
  no_slash = refl;
}

-- so far: these bytes are read
pub record BytesRead (terms : Terms) (read_bytes : List ℕ) (old now : Place) : Type 0 where
  pub seen : List ℕ
  pub in_turn : all_items seen [] ≡ read_bytes
  pub items : ItemsRead a_byte all_bytes 93 bytes_data bytes_turns terms.limit (enough_for_items terms.schema) (items_later terms.schema) seen old now

pub no_bytes : (terms : Terms) (place : Place) → BytesRead terms [] place place
no_bytes terms place = record { seen = []; in_turn = refl; items = no_items _ _ _ _ _ _ _ _ place }

one_more_byte : (seen : List ℕ) (b : ℕ) (bs more : List ℕ) → all_items seen [] ≡ bs → more ≡ bs ++ b ∷ [] → all_items (b ∷ seen) [] ≡ more
one_more_byte seen b bs more e m = in_order seen [] (b ∷ []) ∙ ap (λ xs. xs ++ b ∷ []) e ∙ sym m

module _ (terms : Terms) (bs : List ℕ) (old now : Place) (h : BytesRead terms bs old now) where
  -- the room that the limit leaves to the bytes from a place on
  abbrev pub IsRoomOf : Text → ℕ → Type 0
  IsRoomOf s room = IsRoom terms.limit (enough_for_items terms.schema (length s)) room

  module _ (still : is_at 93 now.rest ≡ false) where
    pub byte_refused : (k : ErrorClass) → ((room : ℕ) → IsRoomOf now.rest room → IsFaultOf k (byte_item (suc room) now.rest)) → (room : ℕ)
        → IsRoomOf old.rest room → IsFaultOf k (read_bytes_from (suc room) [] old.gap old.rest)
    byte_refused k g = item_fails _ _ _ _ _ _ _ _ h.seen old now h.items still k g

    module _ (b : ℕ) (rest : Text) (g : (room : ℕ) → IsRoomOf now.rest room → byte_item (suc room) now.rest ≡ got b rest) where
      pub no_comma_behind : (e : Error) → IsMemoryOr (past_item 93 rest ≡ None) e → (room : ℕ) → IsRoomOf old.rest room
          → IsFaultOf (class_of e) (read_bytes_from (suc room) [] old.gap old.rest)
      no_comma_behind = comma_fails _ _ _ _ _ _ _ _ h.seen old now h.items still b rest g

      pub byte_more : (more : List ℕ) (next : Place) → more ≡ bs ++ b ∷ [] → past_item 93 rest ≡ Some (next.gap, next.rest) → length next.rest ≤ length now.rest
          → BytesRead terms more old next
      byte_more more next m c shorter = record {
        seen = b ∷ h.seen;
        in_turn = one_more_byte h.seen b bs more h.in_turn m;
        items = one_more _ _ _ _ _ _ _ _ h.seen old now h.items still b rest g next c shorter;
      }

  pub bytes_all : is_at 93 now.rest ≡ true → (room : ℕ) → IsRoomOf old.rest room
      → (u : Text) × (now.rest ≡ 93 ∷ u) × (read_bytes_from (suc room) [] old.gap old.rest ≡ given (bytes_data bs) u)
  bytes_all over room r = let b = at_mark 93 now.rest over in
      (b.0, b.1, items_over _ _ _ _ _ _ _ _ h.seen old now h.items b.0 b.1 room r ∙ ap (λ xs. given (bytes_data xs) b.0) h.in_turn)

-- ---- a list whole

-- what stands in its brackets
abbrev pub bytes_inside : ℕ → Text → Text → Got plain.Data
bytes_inside k = read_bytes_from k []

pub list_opened : (room : ℕ) (s u : Text) → s ≡ 91 ∷ u → Opening bytes_inside u (read_bytes room false s) room
list_opened = bytes_opened

module _ (bs : Vec ℕ Global) (rest end : Text) (answer : Got plain.Data) (h : (u : Text) × (rest ≡ 93 ∷ u) × (answer ≡ given (bytes_data bs.items) u))
    (over : rest ≡ 93 ∷ end) where
  pub list_value : answer ≡ got (data_view (data_.Bytes (parsed.Allocated bs))) end
  list_value = let both : 93 ∷ h.0 ≡ 93 ∷ end = sym h.1 ∙ over in let same : h.0 ≡ end = cc in h.2 ∙ ap₂ got (sym (view-bytes (parsed.Allocated bs))) same

-- ---- where bytes begin

pub byte_string_begins : (s : Text) (result : Result Data Error) → begins_byte_string s ≡ true → ExpectsBytes s result
byte_string_begins s result e f = absurd (let no = (or_parts (is_at left_bracket s) (begins_byte_string s) f).1 in cc)

pub list_begins : (s rest : Text) (result : Result Data Error) → s ≡ left_bracket ∷ rest → ExpectsBytes s result
list_begins s rest result e f = absurd (let no : is_at left_bracket s ≡ false = (or_parts (is_at left_bracket s) (begins_byte_string s) f).0 in
    let is : is_at left_bracket s ≡ true = ap (is_at left_bracket) e in cc)

pub no_byte_string : (s : Text) → begins_byte_string s ≡ false → read_quoted s ≡ failed bad
unfolding byte_string
no_byte_string [] e = refl
no_byte_string (c ∷ []) e = go (c == 98) refl
  where
    go : (b : Bool) → (c == 98) ≡ b → read_quoted (c ∷ []) ≡ failed bad
    go true k = rw k refl
    go false k = rw k refl
no_byte_string (c ∷ d ∷ s) e = go (c == 98) refl (d == 34) refl (d == 114) refl
  where
    go : (a : Bool) → (c == 98) ≡ a → (b : Bool) → (d == 34) ≡ b → (f : Bool) → (d == 114) ≡ f → read_quoted (c ∷ d ∷ s) ≡ failed bad
    go false k b l f m = rw k refl
    go true k true l f m = absurd (let no : true ≡ false = rw (k, l) at e in cc)
    go true k false l true m = absurd (let no : true ≡ false = rw (k, l, m) at e in cc)
    go true k false l false m = rw (k, l, m) refl
