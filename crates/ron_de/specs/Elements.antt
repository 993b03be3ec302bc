-- When code reads the items of a list or a tuple as the reader function does.
use Rattle.std.specs.Prelude.{◌≡◌, ℕ, suc, ◌==◌, ◌<◌, true, false, nat_lt, List, [], ◌∷◌, length, map, Option, Result, Ok, Err, Vec}
use Rattle.std.specs.List.{list_all}
use Rattle.std.specs.declared.alloc.Global.{Global}
use Rattle.ron_spec_words.specs.Characters.{Text, comma, slash, is_blank}
use Rattle.ron_spec_words.specs.Reader.{Got, given}
use Rattle.ron_spec_grammar.specs.Data as plain
use Rattle.ron_spec_grammar.specs.Turns.{Elements, of_one, of_each, read_element, read_elements}
use Rattle.ron_base.specs.declared.error.Error.{Error}
use Rattle.ron_base.specs.Class.{class_of}
use Rattle.ron_lex.specs.Place.{Place}
use Rattle.ron_de_steps.specs.Reads.{IsFaultOf, Reads}
use Rattle.ron_data.specs.declared.data.Data.{Data}
use Rattle.ron_data.specs.Datum.{data_view}
use Rattle.ron_de.specs.declared.elements.Elements as code
use Rattle.ron_de.specs.declared.elements.Elements.TheVariants as elements
use Rattle.ron_de_parts.specs.Terms.{Terms}
use Rattle.ron_de_parts.specs.Room.{IsRoom, enough_for_items}

-- the items that code means
abbrev pub elements_view : code.Elements → Elements
elements_view (elements.All j) = of_one j
elements_view (elements.Each js) = of_each js.now

-- each shape's index is below n
abbrev pub AreBelow : ℕ → Elements → Type 0
AreBelow n (of_one j) = j < n
AreBelow n (of_each js) = list_all (λ j. nat_lt j n) js ≡ true

-- a closing character is neither a blank nor a comma nor a slash
abbrev pub Encloses : ℕ → Type 0
Encloses close = (is_blank close ≡ false) × ((close == comma) ≡ false) × ((close == slash) ≡ false) × ((slash == close) ≡ false)

-- In each room that the limit leaves to the items, the item behind so many is read as the reader function reads it.
abbrev pub ReadsElement : Terms → Elements → ℕ → Place → Result Data Error → Text → Type 0
ReadsElement terms es count place result rest =
    (room : ℕ) (seen : List plain.Data) → length seen ≡ count → IsRoom terms.limit (enough_for_items terms.schema (length place.rest)) room
    → Reads data_view result (read_element terms.extensions terms.schema (suc room) es seen place.gap place.rest) rest

-- the items at the closing character are what all of them make
abbrev pub AreElements : ℕ → (List plain.Data → Option plain.Data) → Result (Vec Data Global) Error → Got plain.Data → Text → Type 0
AreElements close f (Ok items) answer rest = (u : Text) × (rest ≡ close ∷ u) × (answer ≡ given (f (map data_view items.items)) u)
AreElements close f (Err e) answer rest = IsFaultOf (class_of e) answer

-- likewise in each room that the limit leaves to the items, whatever they make
abbrev pub ReadsElements : Terms → Elements → ℕ → Place → Result (Vec Data Global) Error → Text → Type 0
ReadsElements terms es close place result rest =
    (f : List plain.Data → Option plain.Data) (room : ℕ) → IsRoom terms.limit (enough_for_items terms.schema (length place.rest)) room
    → AreElements close f result (read_elements terms.extensions terms.schema (suc room) es close f [] place.gap place.rest) rest
