-- What stands in brackets and behind a word, and bare values, beside the steps of the code.
use Rattle.std.proofs.Common.{◌≡◌, ℕ, ◌⊎◌, inl, inr, Bool, true, false, length, Some, None, Result, Ok, Err, sym, ap, subst, ◌∙◌, arith}
use Rattle.std.proofs.lemmas.Bool.{false≢true}
use Rattle.ron_spec_words.specs.Characters.{Text}
use Rattle.ron_spec_words.specs.Lookahead.{opens_field, holds_several}
use Rattle.ron_spec_words.specs.Name.{untyped_name}
use Rattle.ron_spec_words.specs.Reader.{bad, Got, failed, Reader, means}
use Rattle.ron_spec_words.specs.Runs.{is_at}
use Rattle.ron_base.specs.declared.error.Error.{Error}
use Rattle.ron_base.specs.Class.{class_of}
use Rattle.ron_lex.specs.declared.kinds.Kind.{Kind}
use Rattle.ron_lex.specs.declared.kinds.Kind.TheVariants as kinds
use Rattle.ron_lex.specs.Kinds.{TellsPlace, is_named, is_many}
use Rattle.ron_lex.specs.Place.{Place}
use Rattle.ron_value.specs.declared.value.Value.{Value}
use Rattle.ron_value.specs.Tree.{Tree}
use Rattle.ron_value.specs.View.{tree_of}
use Rattle.ron_spec_grammar.specs.Values.Grammar.{unit_value}
use Rattle.ron_spec_grammar.specs.Values.Statement.{enough_for_value}
use Rattle.ron_de_steps.proofs.ErrorLemmas.{is_fault, memory_or_more}
use Rattle.ron_de_steps.proofs.RoomLemmas.{room_less}
use Rattle.ron_de_steps.specs.Conditions.{Conditions}
use Rattle.ron_de_steps.specs.Errors.{IsMemoryOr}
use Rattle.ron_de_steps.specs.Reads.{IsFaultOf, Reads}
use Rattle.ron_de_steps.specs.Room.{IsRoom}
use Rattle.ron_de_steps.specs.Steps.{past_last_comma}
use Rattle.ron_de_untyped.specs.declared.entries.Keys.{Keys}
use Rattle.ron_de_untyped.specs.declared.entries.Keys.TheVariants.{Names, Values}
use Rattle.ron_de_untyped.specs.declared.groups.Brackets.{Brackets}
use Rattle.ron_de_untyped.specs.declared.groups.Brackets.TheVariants as brackets
use Rattle.ron_de_untyped.specs.Reading.{read_group, read_some, read_word}
use Rattle.ron_de_untyped.specs.Room.{enough_for_list, enough_inside}
use Rattle.ron_de_untyped.specs.Values.{unwraps, ReadsAny, ReadsBelow, ReadsGroup, ReadsInside, ReadsKey, ReadsMapping, ReadsSequence}
use Rattle.ron_de_untyped.specs.Words.{fixed_or, some_or, named_or, Enters}
use Rattle.ron_de_untyped.proofs.AnyTurns.{inside_list, inside_map, inside_fields, inside_items, bare_one, word_is}
use Rattle.ron_de_untyped.proofs.ReadLemmas.{reads_same, last_fails, no_last, last_read}

-- ---- keys that are values

pub key_is_value : (keys : Keys) (x : Conditions) (place : Place) (result : Result Value Error) (rest : Text) → keys ≡ Values → ReadsBelow x place result rest
    → ReadsKey keys x place result rest
key_is_value Names x place result rest e h = absurd (cc)
key_is_value Values x place result rest e h = λ room r. h room (room_less x.limit _ _ room r (omega arith))

-- ---- what stands in brackets

module _ (x : Conditions) (place : Place) (result : Result Value Error) (rest : Text) where
  list_room : (room : ℕ) → IsRoom x.limit (enough_inside (length place.rest)) room → IsRoom x.limit (enough_for_list (length place.rest)) room
  list_room room r = room_less x.limit _ _ room r (omega arith)

  pub inside_as_list : (b : Brackets) → b ≡ brackets.List → ReadsSequence false x 93 place result rest → ReadsInside b x place result rest
  inside_as_list b e h = subst (λ (c : Brackets). ReadsInside c x place result rest) (sym e)
      (λ room r. reads_same tree_of result _ _ rest (inside_list (unwraps x) room place.gap place.rest) (h room (list_room room r)))

  pub inside_as_map : (b : Brackets) → b ≡ brackets.Map → ReadsMapping Values x place result rest → ReadsInside b x place result rest
  inside_as_map b e h = subst (λ (c : Brackets). ReadsInside c x place result rest) (sym e)
      (λ room r. reads_same tree_of result _ _ rest (inside_map (unwraps x) room place.gap place.rest) (h room (list_room room r)))

  pub inside_as_fields : (b : Brackets) → b ≡ brackets.Group → opens_field place.rest ≡ true → ReadsMapping Names x place result rest
      → ReadsInside b x place result rest
  inside_as_fields b e f h = subst (λ (c : Brackets). ReadsInside c x place result rest) (sym e)
      (λ room r. reads_same tree_of result _ _ rest (inside_fields (unwraps x) room place.gap place.rest f) (h room (list_room room r)))

  pub inside_as_items : (b : Brackets) → b ≡ brackets.Group → opens_field place.rest ≡ false → ReadsSequence false x 41 place result rest
      → ReadsInside b x place result rest
  inside_as_items b e f h = subst (λ (c : Brackets). ReadsInside c x place result rest) (sym e)
      (λ room r. reads_same tree_of result _ _ rest (inside_items (unwraps x) room place.gap place.rest f) (h room (list_room room r)))

-- ---- bare values

-- neither fields nor several items
pub one_stands : (k : Kind) (s : Text) → (k ≡ kinds.Newtype) ⊎ (k ≡ kinds.Broken) → TellsPlace k s → (opens_field s ≡ false) × (holds_several s ≡ false)
one_stands k s (inl e) t = let n = t.named ∙ ap is_named e in (n, t.many n ∙ ap is_many e)
one_stands k s (inr e) t = let n = t.named ∙ ap is_named e in (n, t.many n ∙ ap is_many e)

-- fields or several items
pub several_stand : (k : Kind) (s : Text) → (k ≡ kinds.Named) ⊎ (k ≡ kinds.Many) → TellsPlace k s → (opens_field s ≡ false) × (holds_several s ≡ false) → ⊥
several_stand k s (inl e) t one = false≢true (sym one.0 ∙ t.named ∙ ap is_named e)
several_stand k s (inr e) t one = false≢true (sym one.1 ∙ t.many one.0 ∙ ap is_many e)

module _ (x : Conditions) (place : Place) (e : is_at 41 place.rest ≡ false) (f : opens_field place.rest ≡ false) (g : holds_several place.rest ≡ false) where
  one_room : (room : ℕ) → IsRoom x.limit (enough_for_value true (length place.rest)) room → IsRoom x.limit (enough_for_value false (length place.rest)) room
  one_room room r = room_less x.limit _ _ room r (omega arith)

  pub bare_fails : (code : Error) (rest : Text) → ReadsAny x false place (Err code) rest → ReadsAny x true place (Err code) rest
  bare_fails code rest h room r = last_fails _ _ (bare_one (unwraps x) room place.gap place.rest e f g) code (h room (one_room room r))

  module _ (v : Value) (rest : Text) (h : ReadsAny x false place (Ok v) rest) where
    pub bare_open : (code : Error) (end : Text) → IsMemoryOr (past_last_comma rest ≡ None) code → ReadsAny x true place (Err code) end
    bare_open code end k room r = no_last _ _ (bare_one (unwraps x) room place.gap place.rest e f g) (tree_of v) rest (h room (one_room room r)) code k

    pub bare_read : (end : Text) → past_last_comma rest ≡ Some end → ReadsAny x true place (Ok v) end
    bare_read end k room r = last_read _ _ (bare_one (unwraps x) room place.gap place.rest e f g) (tree_of v) rest (h room (one_room room r)) end k

-- ---- words

-- brackets at the same place
pub group_there : (b : Brackets) (x : Conditions) (place next : Place) (result : Result Value Error) (rest : Text) → next.rest ≡ place.rest
    → ReadsGroup b x next result rest → ReadsGroup b x place result rest
group_there b x place next result rest e h =
    subst (λ (s : Text). (room : ℕ) → IsRoom x.limit (enough_for_value false (length s)) room → Reads tree_of result (read_group b (unwraps x) room s) rest) e h

-- a word was passed, or it doesn't stand there
pub entered : (join : Reader Tree → Reader Tree → Reader Tree) (old new : Place) (b : Bool) → b ≡ true → Enters join old (Ok b) new → (held other : Reader Tree)
    → join held other old.rest ≡ held new.rest
entered join old new true e h held other = h held other
entered join old new false e h held other = absurd (cc)

pub not_entered : (join : Reader Tree → Reader Tree → Reader Tree) (old new : Place) (b : Bool) → b ≡ false → Enters join old (Ok b) new
    → (held other : Reader Tree) → (join held other old.rest ≡ other old.rest) × (new.rest ≡ old.rest)
not_entered join old new true e h held other = absurd (cc)
not_entered join old new false e h held other = h held other

-- what is read of a group with a name, and of a name alone
abbrev pub a_group : Bool → ℕ → Reader Tree
a_group u room t = read_group brackets.Group u room t

abbrev pub a_name : Reader Tree
a_name = means untyped_name unit_value

-- what is read where no Some stands, and where no fixed word does
abbrev pub not_some : Bool → ℕ → Reader Tree
not_some u room = named_or (a_group u room) a_name

abbrev pub not_fixed : Bool → ℕ → Reader Tree
not_fixed u room = some_or (read_some u room) (not_some u room)

module _ (u : Bool) (room : ℕ) (before s : Text) where
  pub word_fixed : (o : Got Tree) → fixed_or (not_fixed u room) s ≡ o → read_word u room s ≡ o
  word_fixed o e = word_is u room before s ∙ e

  module _ (next : Text) (f : (fixed_or (not_fixed u room) s ≡ not_fixed u room s) × (next ≡ s)) where
    pub word_some : read_word u room s ≡ not_fixed u room next
    word_some = word_is u room before s ∙ f.0 ∙ ap (not_fixed u room) (sym f.1)

    module _ (after : Text) (g : (not_fixed u room next ≡ not_some u room next) × (after ≡ next)) where
      pub word_named : read_word u room s ≡ not_some u room after
      word_named = word_some ∙ g.0 ∙ ap (not_some u room) (sym g.1)

      pub word_alone : (end : Text) → (not_some u room after ≡ a_name after) × (end ≡ after) → read_word u room s ≡ a_name end
      word_alone end h = word_named ∙ h.0 ∙ ap a_name (sym h.1)

-- nothing is read where a word's step leads nowhere
pub word_fails : (whole answer : Got Tree) → whole ≡ answer → (e : Error) → IsMemoryOr (answer ≡ failed bad) e → IsFaultOf (class_of e) whole
word_fails whole answer w e h = is_fault (class_of e) whole (memory_or_more e (λ n. w ∙ n) h)
