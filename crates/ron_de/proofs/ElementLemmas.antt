-- The items of lists and tuples, beside the steps of the code.
use Rattle.std.proofs.Common.{◌≡◌, inl, inr, ℕ, suc, ◌+◌, ◌-◌, ◌<◌, ◌≤◌, ◌==◌, Bool, true, false, cond, nat_lt, List, [], ◌∷◌, ◌++◌, map, length, Vec, Global}
use Rattle.std.proofs.Common.{Option, Some, None, Result, Ok, Err, slice_get, refl, sym, ap, ap₂, subst, ◌∙◌, arith, length-append, ◌*◌, eq-eqb}
use Rattle.std.proofs.lemmas.List.{map-append, length-map}
use Rattle.std.proofs.lemmas.Bool.{ltb-true, ne_eqb}
use Rattle.ron_spec_words.specs.Characters.{Text}
use Rattle.ron_spec_words.specs.Gap.{skip, gap_of}
use Rattle.ron_spec_words.proofs.Gaps.{length-skip}
use Rattle.ron_spec_words.proofs.Turns.{in_order}
use Rattle.ron_spec_words.specs.Runs.{is_at}
use Rattle.ron_spec_words.specs.Turns.{all_items}
use Rattle.ron_spec_words.specs.Reader.{deep, bad, Got, got, failed, given}
use Rattle.ron_spec_grammar.specs.Data as plain
use Rattle.ron_spec_grammar.specs.Schema.{Shape, seq}
use Rattle.ron_spec_grammar.specs.Rule.{Extensions}
use Rattle.ron_spec_grammar.specs.Reading.{read}
use Rattle.ron_spec_grammar.specs.Room.{enough}
use Rattle.ron_spec_grammar.specs.Shapes.Seq.{list_data}
use Rattle.ron_spec_grammar.specs.Shapes.Tuple.{as_many}
use Rattle.ron_spec_grammar.specs.Turns.{Elements, of_one, of_each, shape_after, shape_behind, read_element, read_elements}
use Rattle.ron_spec_grammar.proofs.Finding.{all_get}
use Rattle.ron_spec_grammar.proofs.Turns.{value_within, value_deep}
use Rattle.ron_spec_grammar.proofs.ElementTurns.{element_value, no_element, elements_over, elements_failed, elements_last, elements_not_closed, elements_more}
use Rattle.ron_spec_grammar.proofs.ElementTurns.{seq_opened}
use Rattle.ron_base.specs.declared.error.Error.{Error}
use Rattle.ron_base.specs.Class.{ErrorClass, class_of}
use Rattle.ron_lex.specs.Place.{Place}
use Rattle.ron_de_steps.specs.Reads.{IsFaultOf, Reads}
use Rattle.ron_data.specs.declared.data.Data.{Data}
use Rattle.ron_data.specs.declared.data.Data.TheVariants as data_
use Rattle.ron_data.specs.Datum.{data_view, items_view}
use Rattle.ron_data.proofs.DatumLemmas.{view-seq}
use Rattle.ron_de_parts.specs.Errors.{IsMemoryOr}
use Rattle.ron_de_steps.specs.Steps.{past_item}
use Rattle.ron_de_parts.specs.Terms.{Terms, IsDeeper}
use Rattle.ron_de_parts.specs.Room.{IsRoom, enough_for_items}
use Rattle.ron_de.specs.Elements.{AreBelow, Encloses, AreElements}
use Rattle.ron_de_parts.specs.Values.{ReadsValue}
use Rattle.ron_de_parts.proofs.RoomLemmas.{RoomBelow, room_below, item_within, items_later}
use Rattle.ron_de_steps.proofs.StepLemmas.{unless_some}
use Rattle.ron_de_steps.proofs.ItemLemmas.{HasTurns, ItemsRead, items_over, item_fails, comma_fails, one_more, at_mark, comma_cases, item_is}
use Rattle.ron_de_parts.proofs.GroupLemmas.{Opening, group_inside}

-- ---- an item

module _ (terms inner : Terms) (d : IsDeeper terms inner) (es : Elements) (index : ℕ) (place : Place) (room : ℕ) (seen : List plain.Data)
    (is : shape_behind es seen ≡ Some index) (r : IsRoom terms.limit (enough_for_items terms.schema (length place.rest)) room) where
  room_there : RoomBelow inner.limit (enough terms.schema false index (length place.rest)) room
  room_there = room_below terms.limit inner.limit _ _ room d.2 r (item_within terms.schema index (length place.rest) (length place.rest) (omega arith))

  is_value : read_element terms.extensions terms.schema (suc room) es seen place.gap place.rest
      ≡ read terms.extensions terms.schema room_there.left false index place.gap place.rest
  is_value =
      let is_left : suc room - 2 ≡ room_there.left = omega (arith, room_there.is) in
      element_value terms.extensions terms.schema (suc room) es seen place.gap place.rest index is
      ∙ value_within terms.extensions terms.schema (suc room) index place.gap place.rest (omega (arith, room_there.is))
      ∙ ap (λ k. read terms.extensions terms.schema k false index place.gap place.rest) is_left

  -- what is said of the value, in each room that the limit leaves to it, is said of the item
  pub element_there : (P : Got plain.Data → Type 0) → ((n : ℕ) → IsRoom inner.limit (enough inner.schema false index (length place.rest)) n
      → P (read inner.extensions inner.schema n false index place.gap place.rest))
      → P (read_element terms.extensions terms.schema (suc room) es seen place.gap place.rest)
  element_there P g =
      let n = room_there.left in
      let h = g n (subst (λ (s : List Shape). IsRoom inner.limit (enough s false index (length place.rest)) n) (sym d.1) room_there.is_room) in
      subst P (sym is_value) (subst (λ (s : List Shape). P (read terms.extensions s n false index place.gap place.rest)) d.1
      (subst (λ (x : Extensions). P (read x inner.schema n false index place.gap place.rest)) d.0 h))

module _ (terms : Terms) (es : Elements) (place : Place) (room : ℕ) (seen : List plain.Data) where
  pub element_deep : (index : ℕ) → shape_behind es seen ≡ Some index → room ≡ 0
      → read_element terms.extensions terms.schema (suc room) es seen place.gap place.rest ≡ failed deep
  element_deep index is e = element_value terms.extensions terms.schema (suc room) es seen place.gap place.rest index is
      ∙ value_deep terms.extensions terms.schema (suc room) index place.gap place.rest (omega (arith, e))

  pub element_none : shape_behind es seen ≡ None → read_element terms.extensions terms.schema (suc room) es seen place.gap place.rest ≡ failed bad
  element_none = no_element terms.extensions terms.schema (suc room) es seen place.gap place.rest

-- the shape behind so many is that behind these
pub behind_these : (es : Elements) (seen : List plain.Data) (count : ℕ) (o : Option ℕ) → length seen ≡ count → o ≡ shape_after es count
    → shape_behind es seen ≡ o
behind_these es seen count o e is = ap (shape_after es) e ∙ sym is

-- its index is in range
pub is_below : (n : ℕ) (es : Elements) (count index : ℕ) → AreBelow n es → shape_after es count ≡ Some index → index < n
is_below n (of_one j) count index h e = let same : j ≡ index = cc in subst (λ k. k < n) same h
is_below n (of_each js) count index h e = ltb-true index n (all_get (λ j. nat_lt j n) js count index h e)

-- and in range a level deeper
pub still_below : (s inner : List Shape) (es : Elements) → inner ≡ s → AreBelow (length s) es → AreBelow (length inner) es
still_below s inner es e h = subst (λ (k : List Shape). AreBelow (length k) es) (sym e) h

-- the room that is needed falls
pub element_falls : (schema inner : List Shape) (j m n : ℕ) → inner ≡ schema → m ≤ n → 4 * enough inner false j m + 1 < 4 * enough_for_items schema n
element_falls schema inner j m n e le = rw e (omega (arith, item_within schema j m n le))

-- what is read of the value is read of the item
pub reads_element : (terms inner : Terms) → IsDeeper terms inner → (es : Elements) (index : ℕ) (place : Place) (room : ℕ) (seen : List plain.Data)
    → shape_behind es seen ≡ Some index → IsRoom terms.limit (enough_for_items terms.schema (length place.rest)) room
    → (result : Result Data Error) (rest : Text) → ReadsValue inner index place result rest
    → Reads data_view result (read_element terms.extensions terms.schema (suc room) es seen place.gap place.rest) rest
reads_element terms inner d es index place room seen is r (Ok v) rest h =
    element_there terms inner d es index place room seen is r (λ o. o ≡ got (data_view v) rest) h
reads_element terms inner d es index place room seen is r (Err e) rest h = element_there terms inner d es index place room seen is r (IsFaultOf (class_of e)) h

-- ---- the items of a list

module _ (terms : Terms) (es : Elements) (close : ℕ) (c : Encloses close) where
  abbrev pub an_element : ℕ → List plain.Data → Text → Text → Got plain.Data
  an_element room = read_element terms.extensions terms.schema (suc room) es

  abbrev pub all_elements : (List plain.Data → Option plain.Data) → ℕ → List plain.Data → Text → Text → Got plain.Data
  all_elements f room = read_elements terms.extensions terms.schema (suc room) es close f

  pub elements_turns : (f : List plain.Data → Option plain.Data) → HasTurns an_element (all_elements f) close f
  elements_turns f = record {
    over = λ room seen gap s. elements_over terms.extensions terms.schema (suc room) es close (c.0, c.1, c.2) f seen gap s;
    fails = λ room seen gap s still. elements_failed terms.extensions terms.schema (suc room) es close (c.0, c.1, c.2) f seen gap s still;
    last = λ room seen gap s still a rest u e. elements_last terms.extensions terms.schema (suc room) es close (c.0, c.1, c.2) f seen gap s still a rest e u;
    stays_open =
        λ room seen gap s still a rest e. elements_not_closed terms.extensions terms.schema (suc room) es close (c.0, c.1, c.2) f seen gap s still a rest e;
    goes_on = λ room seen gap s still a rest u e. elements_more terms.extensions terms.schema (suc room) es close (c.0, c.1, c.2) f seen gap s still a rest e u;
    no_slash = c.3;
  }

  -- so far: these items are read
  pub record ElementsRead (items : List Data) (old now : Place) : Type 0 where
    pub seen : List plain.Data
    pub in_turn : all_items seen [] ≡ map data_view items
    pub count : length seen ≡ length items
    pub reads : (f : List plain.Data → Option plain.Data)
        → ItemsRead an_element (all_elements f) close f (elements_turns f) terms.limit (enough_for_items terms.schema) (items_later terms.schema) seen old now

  module _ (items : List Data) (old now : Place) (h : ElementsRead items old now) where
    -- the room that the limit leaves to the items from a place on
    abbrev pub IsRoomOf : Text → ℕ → Type 0
    IsRoomOf s room = IsRoom terms.limit (enough_for_items terms.schema (length s)) room

    -- what reading the next item gives, in each room
    abbrev pub ReadsNext : (Got plain.Data → Type 0) → Type 0
    ReadsNext P = (room : ℕ) (seen : List plain.Data) → length seen ≡ length items → IsRoomOf now.rest room → P (an_element room seen now.gap now.rest)

    module _ (still : is_at close now.rest ≡ false) where
      pub element_refused : (k : ErrorClass) → ReadsNext (IsFaultOf k) → (f : List plain.Data → Option plain.Data) (room : ℕ) → IsRoomOf old.rest room
          → IsFaultOf k (all_elements f room [] old.gap old.rest)
      element_refused k g f = item_fails _ _ _ _ _ _ _ _ h.seen old now (h.reads f) still k (λ room r. g room h.seen h.count r)

      module _ (d : Data) (rest : Text) (g : ReadsNext (λ o. o ≡ got (data_view d) rest)) where
        pub no_comma_after : (e : Error) → IsMemoryOr (past_item close rest ≡ None) e → (f : List plain.Data → Option plain.Data) (room : ℕ)
            → IsRoomOf old.rest room → IsFaultOf (class_of e) (all_elements f room [] old.gap old.rest)
        no_comma_after e t f = comma_fails _ _ _ _ _ _ _ _ h.seen old now (h.reads f) still (data_view d) rest (λ room r. g room h.seen h.count r) e t

        pub element_more : (more : List Data) (next : Place) → more ≡ items ++ d ∷ [] → past_item close rest ≡ Some (next.gap, next.rest)
            → length next.rest ≤ length now.rest → ElementsRead more old next
        element_more more next m p shorter = record {
          seen = data_view d ∷ h.seen;
          in_turn = in_order h.seen [] (data_view d ∷ []) ∙ ap (λ xs. xs ++ data_view d ∷ []) h.in_turn
              ∙ sym (ap (map data_view) m ∙ map-append data_view items (d ∷ []));
          count = omega (arith, h.count, ap length m, length-append items (d ∷ []));
          reads = λ f. one_more _ _ _ _ _ _ _ _ h.seen old now (h.reads f) still (data_view d) rest (λ room r. g room h.seen h.count r) next p shorter;
        }

    pub elements_all : is_at close now.rest ≡ true → (f : List plain.Data → Option plain.Data) (room : ℕ) → IsRoomOf old.rest room
        → (u : Text) × (now.rest ≡ close ∷ u) × (all_elements f room [] old.gap old.rest ≡ given (f (map data_view items)) u)
    elements_all over f room r = let b = at_mark close now.rest over in
        (b.0, b.1, items_over _ _ _ _ _ _ _ _ h.seen old now (h.reads f) b.0 b.1 room r ∙ ap (λ xs. given (f xs) b.0) h.in_turn)

-- a turn takes characters, or ends at the closing one
pub turn_falls : (close : ℕ) (now rest g t : Text) → is_at close now ≡ false → length rest ≤ length now → past_item close rest ≡ Some (g, t)
    → 2 * length t + cond (is_at close t) 0 1 < 2 * length now + cond (is_at close now) 0 1
turn_falls close now rest g t still le p = elim (comma_cases close (gap_of rest) (skip rest) g t (unless_some rest _ (g, t) (sym (item_is close rest) ∙ p)).1) [
  | inl z ↦ rw still (omega (arith, le, length-skip rest, ap length z.1, ap length z.4, length-skip z.0, small (is_at close t)))
  | inr z ↦ rw still (omega (arith, le, length-skip rest, ap length z.1, ap length z.2, closed z.2))
]
  where
    small : (b : Bool) → cond b 0 1 ≤ 1
    small true = omega arith
    small false = omega arith

    bit : Bool → ℕ
    bit b = cond b 0 1

    closed : {u : Text} → close ∷ u ≡ t → bit (is_at close t) ≡ bit true
    closed e = ap (λ s. bit (is_at close s)) (sym e) ∙ ap bit (eq-eqb close close refl)

-- ---- lists whole, and the items of tuples

-- what stands in their brackets
abbrev pub elements_inside : Terms → Elements → ℕ → (List plain.Data → Option plain.Data) → ℕ → Text → Text → Got plain.Data
elements_inside terms es close f k = read_elements terms.extensions terms.schema k es close f []

module _ (x : Extensions) (schema : List Shape) (room i : ℕ) (before s u : Text) where
  pub seq_opening : (j : ℕ) → slice_get schema i ≡ Some (seq j) → s ≡ 91 ∷ u
      → Opening (λ k. read_elements x schema k (of_one j) 93 list_data []) u (read x schema room false i before s) room
  seq_opening j e o = seq_opened x schema room i before s j e u o

-- what is said of the items, as they are read a level deeper, is said of the value
module _ (terms inner : Terms) (d : IsDeeper terms inner) (es : Elements) (close : ℕ) (f : List plain.Data → Option plain.Data) (i : ℕ) (u : Text)
    (old place : Place) (room : ℕ)
    (o : Opening (elements_inside terms es close f) u (read terms.extensions terms.schema room false i old.gap old.rest) room) (m : is_at 47 (skip u) ≡ false)
    (g : place.gap ≡ gap_of u) (w : place.rest ≡ skip u) (shorter : length place.rest < length old.rest)
    (r : IsRoom terms.limit (enough terms.schema false i (length old.rest)) room) where
  pub elements_said : (P : Got plain.Data → Type 0) → ((k : ℕ) → IsRoom inner.limit (enough_for_items inner.schema (length place.rest)) k
      → P (read_elements inner.extensions inner.schema (suc k) es close f [] place.gap place.rest))
      → P (read terms.extensions terms.schema room false i old.gap old.rest)
  elements_said P h = group_inside (elements_inside terms es close f) u (read terms.extensions terms.schema room false i old.gap old.rest) room o m terms inner
      d i old place g w shorter r P
      (λ k q. subst (λ (s : List Shape). P (read_elements terms.extensions s (suc k) es close f [] place.gap place.rest)) d.1
      (subst (λ (x : Extensions). P (read_elements x inner.schema (suc k) es close f [] place.gap place.rest)) d.0 (h k q)))

module _ (items : Vec Data Global) (rest : Text) (answer : Got plain.Data) where
  pub seq_value : AreElements 93 list_data (Ok items) answer rest → (end : Text) → rest ≡ 93 ∷ end → answer ≡ got (data_view (data_.Seq items)) end
  seq_value h end over = let both : 93 ∷ h.0 ≡ 93 ∷ end = sym h.1 ∙ over in let same : h.0 ≡ end = cc in h.2 ∙ ap₂ got (sym (view-seq items)) same

  module _ (make : plain.Datas → plain.Data) (js : List ℕ) (h : AreElements 41 (as_many make js) (Ok items) answer rest) where
    made : (b : Bool) → (length items.items == length js) ≡ b → as_many make js (map data_view items.items) ≡ cond b (Some (make (items_view items.items))) None
    made b e = ap (λ n. cond (n == length js) (Some (make (items_view items.items))) None) (length-map items.items data_view)
        ∙ ap (λ t. cond t (Some (make (items_view items.items))) None) e

    pub tuple_short : (length items.items ≡ length js → ⊥) → answer ≡ failed bad
    tuple_short differ = h.2 ∙ ap (λ o. given o h.0) (made false (ne_eqb (length items.items) (length js) differ))

    pub tuple_value : length items.items ≡ length js → (end : Text) → rest ≡ 41 ∷ end → answer ≡ got (make (items_view items.items)) end
    tuple_value e end over =
        let both : 41 ∷ h.0 ≡ 41 ∷ end = sym h.1 ∙ over in
        let same : h.0 ≡ end = cc in
        h.2 ∙ ap (λ o. given o h.0) (made true (eq-eqb (length items.items) (length js) e)) ∙ ap (got (make (items_view items.items))) same
