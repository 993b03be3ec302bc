-- What is claimed of raw texts of the same words: they are the same.
use Rattle.std.specs.Prelude.{◌≡◌, Bool, true, ◌==◌, [], ◌∷◌, ◌++◌}
use Rattle.ron_spec_words.specs.Characters.{Text, line_feed, comma}
use Rattle.ron_spec_words.specs.Gap.{Gap}
use Rattle.ron_spec_grammar.specs.Raw.{RawBody, SameRaw}
use Rattle.ron_value.specs.Tree.{Tree}
use Rattle.ron_format_words.specs.Alike.{anywhere, SameWords}

-- a gap at the text's end leaves no line comment open: another character may follow it
abbrev pub EndsClosed : Text → Type 0
EndsClosed text = (front gap : Text) → text ≡ front ++ gap → Gap gap [] → Gap gap (comma ∷ [])

-- the text is empty, or ends with an LF
abbrev pub ends_line : Text → Bool
ends_line [] = true
ends_line (c ∷ []) = c == line_feed
ends_line (c ∷ d ∷ s) = ends_line (d ∷ s)

-- such a text leaves none open
abbrev pub LinesEndClosed : Type 0
LinesEndClosed = (text : Text) → ends_line text ≡ true → EndsClosed text

-- a raw text laid out anew holds the value that it held, within the same limit
abbrev pub KeepsRawBodies : Type 0
KeepsRawBodies = (s u : Text) (t : Tree) → SameWords anywhere s u → EndsClosed u → RawBody s t → RawBody u t

-- and so it is the same
abbrev pub KeepsRawTexts : Type 0
KeepsRawTexts = (s u : Text) (t : Tree) → SameWords anywhere s u → EndsClosed u → RawBody s t → SameRaw s u
