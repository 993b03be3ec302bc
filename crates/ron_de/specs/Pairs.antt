-- When code reads the pairs of a map as the reader function does.
use Rattle.std.specs.Prelude.{◌≡◌, ℕ, suc, [], ◌∷◌, length, map, Result, Ok, Err, Vec}
use Rattle.std.specs.declared.alloc.Global.{Global}
use Rattle.ron_spec_words.specs.Characters.{Text, right_brace}
use Rattle.ron_spec_words.specs.Reader.{Got, got}
use Rattle.ron_spec_grammar.specs.Data as plain
use Rattle.ron_spec_grammar.specs.Equal.{folded}
use Rattle.ron_spec_grammar.specs.Turns.{read_pair, read_pairs}
use Rattle.ron_base.specs.declared.error.Error.{Error}
use Rattle.ron_base.specs.Class.{class_of}
use Rattle.ron_lex.specs.Place.{Place}
use Rattle.ron_de_steps.specs.Reads.{IsFaultOf, Reads}
use Rattle.ron_data.specs.declared.data.Data.{Data}
use Rattle.ron_data.specs.Datum.{pair_view}
use Rattle.ron_de_parts.specs.Terms.{Terms}
use Rattle.ron_de_parts.specs.Room.{IsRoom, enough_for_items}

-- In each room that the limit leaves to the pairs, a pair is read as the reader function reads it.
abbrev pub ReadsPair : Terms → ℕ → ℕ → Place → Result (Data × Data) Error → Text → Type 0
ReadsPair terms k v place result rest =
    (room : ℕ) → IsRoom terms.limit (enough_for_items terms.schema (length place.rest)) room
    → Reads pair_view result (read_pair terms.extensions terms.schema (suc room) k v place.gap place.rest) rest

-- the pairs at the closing brace are those of the map that is answered, where each comes in this order
abbrev pub ArePairs : Result (Vec (Data × Data) Global) Error → Got plain.Data → Text → Type 0
ArePairs (Ok pairs) answer rest = (u : Text) × (rest ≡ right_brace ∷ u) × (answer ≡ got (plain.map_of (folded (map pair_view pairs.items))) u)
ArePairs (Err e) answer rest = IsFaultOf (class_of e) answer

-- likewise in each room that the limit leaves to the pairs
abbrev pub ReadsPairs : Terms → ℕ → ℕ → Place → Result (Vec (Data × Data) Global) Error → Text → Type 0
ReadsPairs terms k v place result rest =
    (room : ℕ) → IsRoom terms.limit (enough_for_items terms.schema (length place.rest)) room
    → ArePairs result (read_pairs terms.extensions terms.schema (suc room) k v [] place.gap place.rest) rest
