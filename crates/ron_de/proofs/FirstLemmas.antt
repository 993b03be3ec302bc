-- Reading at the start of a text, beside the steps of the code.
use Rattle.std.proofs.Common.{◌≡◌, ℕ, suc, ◌&&◌, Bool, true, false, not, List, length, codes, Some, Result, Ok, Err, slice_get, refl, sym, ap, subst, ◌∙◌}
use Rattle.std.proofs.Common.{arith}
use Rattle.std.proofs.lemmas.Bool.{and_parts}
use Rattle.ron_spec_words.specs.Characters.{Text}
use Rattle.ron_spec_words.specs.Directly.{stands}
use Rattle.ron_spec_words.specs.Reader.{deep, Got, got, failed, meant}
use Rattle.ron_spec_grammar.specs.Data as plain
use Rattle.ron_spec_grammar.specs.Schema.{Shape, optional, newtype}
use Rattle.ron_spec_grammar.specs.Rule.{Extensions}
use Rattle.ron_spec_grammar.specs.Reading.{read, read_at}
use Rattle.ron_spec_grammar.specs.Room.{enough}
use Rattle.ron_spec_grammar.specs.Shapes.Option.{opens_some, opens_option, some_data}
use Rattle.ron_spec_grammar.specs.Shapes.Newtype.{newtype_data}
use Rattle.ron_spec_grammar.proofs.RawTurns.{is_same_anywhere, anywhere, below_from_here, option_here, newtype_here, read_below_from}
use Rattle.ron_spec_grammar.proofs.BareTurns.{neither}
use Rattle.ron_base.specs.declared.error.Error.{Error}
use Rattle.ron_base.specs.Class.{class_of}
use Rattle.ron_lex.specs.Place.{Place}
use Rattle.ron_de_steps.specs.Reads.{IsFaultOf, Reads}
use Rattle.ron_data.specs.declared.data.Data.{Data}
use Rattle.ron_data.specs.Datum.{data_view}
use Rattle.ron_de_parts.specs.Terms.{Terms, IsDeeper}
use Rattle.ron_de_parts.specs.Room.{IsRoom}
use Rattle.ron_de_parts.specs.Values.{ReadsValue, ReadsFirst}
use Rattle.ron_de_parts.proofs.RoomLemmas.{RoomBelow, room_below}

-- ---- the reader function where content doesn't stand alone

module _ (x : Extensions) (schema : List Shape) (room i : ℕ) (before s : Text) where
  pub option_there : (j : ℕ) → slice_get schema i ≡ Some (optional j) → (x.implicit_some && not (opens_option s)) ≡ false
      → read_at true x schema room false i before s ≡ read x schema room false i before s
  unfolding read_at
  option_there j is h = by_none (stands (codes "None") s) refl (opens_some s) refl x.implicit_some refl
    where
      by_none : (a : Bool) → stands (codes "None") s ≡ a → (b : Bool) → opens_some s ≡ b → (k : Bool) → x.implicit_some ≡ k
          → read_at true x schema room false i before s ≡ read x schema room false i before s
      by_none true n b o k m = rw (is, n) refl
      by_none false n true o k m = rw (is, n, o) refl
      by_none false n false o false m = rw (is, n, o, m) refl
      by_none false n false o true m = absurd (let e : true ≡ false = sym (rw (m, n, o) refl) ∙ h in cc)

  pub newtype_there : (name : Text) (j : ℕ) → slice_get schema i ≡ Some (newtype name j) → x.unwrap_newtypes ≡ false
      → read_at true x schema room false i before s ≡ read x schema room false i before s
  unfolding read_at
  newtype_there name j e u = rw e (rw u refl)

  -- an option's content alone
  pub option_alone : (j : ℕ) → slice_get schema i ≡ Some (optional j) → (x.implicit_some && not (opens_option s)) ≡ true
      → read_at true x schema room false i before s ≡ meant (read_below_from true x schema room j before s) some_data
  option_alone j is h =
      let k = and_parts x.implicit_some (not (opens_option s)) h in
      let n = neither (stands (codes "None") s) (opens_some s) k.1 in
      option_here true x schema room i before s j is n.0 n.1 k.0

  pub newtype_alone : (name : Text) (j : ℕ) → slice_get schema i ≡ Some (newtype name j) → x.unwrap_newtypes ≡ true
      → read_at true x schema room false i before s ≡ meant (read_below_from true x schema room j before s) (newtype_data name)
  newtype_alone = newtype_here true x schema room i before s

  pub below_first_ended : room ≡ 0 → read_below_from true x schema room i before s ≡ failed deep
  unfolding read_below_from
  below_first_ended e = ap (λ k. read_below_from true x schema k i before s) e

-- ---- what code answers

-- where a value is read alike at the start and elsewhere
pub reads_alike : (terms : Terms) (i : ℕ) (place : Place) (result : Result Data Error) (rest : Text)
    → ((room : ℕ)
    → read_at true terms.extensions terms.schema room false i place.gap place.rest ≡ read terms.extensions terms.schema room false i place.gap place.rest)
    → ReadsValue terms i place result rest → ReadsFirst terms i place result rest
reads_alike terms i place result rest same h = λ room r. subst (λ o. Reads data_view result o rest) (sym (same room)) (h room r)

pub reads_anywhere : (terms : Terms) (i : ℕ) (place : Place) (result : Result Data Error) (rest : Text) (shape : Shape) → slice_get terms.schema i ≡ Some shape
    → is_same_anywhere shape ≡ true
    → ReadsValue terms i place result rest → ReadsFirst terms i place result rest
reads_anywhere terms i place result rest shape at h =
    reads_alike terms i place result rest (λ room. anywhere true terms.extensions terms.schema room i place.gap place.rest shape h at)

-- a level deeper
first_said : (terms inner : Terms) → IsDeeper terms inner → (j : ℕ) (place : Place) (room : ℕ)
    → IsRoom terms.limit (suc (enough terms.schema false j (length place.rest))) room
    → (P : Got plain.Data → Type 0) → ((n : ℕ) → IsRoom inner.limit (enough inner.schema false j (length place.rest)) n
    → P (read_at true inner.extensions inner.schema n false j place.gap place.rest))
    → P (read_below_from true terms.extensions terms.schema room j place.gap place.rest)
first_said terms inner d j place room r P g =
    let there : RoomBelow inner.limit (enough terms.schema false j (length place.rest)) room =
    room_below terms.limit inner.limit _ _ room d.2 r (omega arith) in
    let n = there.left in
    let h = g n (subst (λ (s : List Shape). IsRoom inner.limit (enough s false j (length place.rest)) n) (sym d.1) there.is_room) in
    let is : read_below_from true terms.extensions terms.schema room j place.gap place.rest ≡ read_at true terms.extensions terms.schema n false j place.gap
    place.rest = ap (λ k. read_below_from true terms.extensions terms.schema k j place.gap place.rest) there.is
    ∙ below_from_here true terms.extensions terms.schema n j place.gap place.rest in
    subst P (sym is) (subst (λ (s : List Shape). P (read_at true terms.extensions s n false j place.gap place.rest)) d.1
    (subst (λ (x : Extensions). P (read_at true x inner.schema n false j place.gap place.rest)) d.0 h))

pub reads_first : (terms inner : Terms) → IsDeeper terms inner → (j : ℕ) (place : Place) (room : ℕ)
    → IsRoom terms.limit (suc (enough terms.schema false j (length place.rest))) room
    → (result : Result Data Error) (rest : Text) → ReadsFirst inner j place result rest
    → Reads data_view result (read_below_from true terms.extensions terms.schema room j place.gap place.rest) rest
reads_first terms inner d j place room r (Ok v) rest h = first_said terms inner d j place room r (λ o. o ≡ got (data_view v) rest) h
reads_first terms inner d j place room r (Err e) rest h = first_said terms inner d j place room r (IsFaultOf (class_of e)) h
