-- Whole texts of the same words: attributes, in which gaps alone may differ, and a body, in which last commas may come and go too.
use Rattle.std.specs.Prelude.{◌≡◌, ℕ, Bool, true, ◌==◌, if◌then◌else◌, [], ◌∷◌, ◌++◌, Some}
use Rattle.ron_spec_words.specs.Characters.{Text, hash, right_bracket}
use Rattle.ron_spec_words.specs.Scan.{token}
use Rattle.ron_format_words.specs.Alike.{is_mark, is_solid, a_mark, a_word, mark_before, Gapped, anywhere, nowhere, Step}

-- where a word or a mark stands: before an attribute or the body, in an attribute, or in the body
pub data Place : Type 0 where
  in_head : Place
  in_attribute : Place
  in_body : Place

-- The place behind a word or mark that begins so. An attribute goes from `#` to the first `]`, and the body begins where no attribute does.
abbrev pub place_behind : Place → ℕ → Place
place_behind in_head c = if c == hash then in_attribute else in_body
place_behind in_attribute c = if c == right_bracket then in_head else in_attribute
place_behind in_body c = in_body

-- in the body alone last commas may come and go
abbrev pub commas_in : Place → Text → Bool
commas_in in_head = nowhere
commas_in in_attribute = nowhere
commas_in in_body = anywhere

-- From such a place on, where no gap begins, the two texts are made of the same tokens, but for last commas of the body.
pub data AlikeFrom : Place → Text → Text → Type 0 where
  ended : (p : Place) → AlikeFrom p [] []
  mark : (p : Place) (c : ℕ) (s u rest other : Text) → is_mark c ≡ true
      → Step (commas_in (place_behind p c)) (mark_before c) s u rest other → AlikeFrom (place_behind p c) rest other
      → AlikeFrom p (c ∷ s) (c ∷ u)
  word : (p : Place) (c : ℕ) (t s u rest other : Text) → is_solid c ≡ true → token (c ∷ (t ++ s)) ≡ Some s → token (c ∷ (t ++ u)) ≡ Some u
      → Step (commas_in (place_behind p c)) a_word s u rest other → AlikeFrom (place_behind p c) rest other
      → AlikeFrom p (c ∷ (t ++ s)) (c ∷ (t ++ u))

-- whole texts, with a gap before them
pub record SameText (s u : Text) : Type 0 where
  pub rest : Text
  pub other : Text
  pub gapped : Gapped a_mark s u rest other
  pub alike : AlikeFrom in_head rest other
